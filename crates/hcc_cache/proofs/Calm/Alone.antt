-- In a shard of one client all events are that client's.
use Rattle.std.proofs.Common.{◌≡◌, List, [], ◌∷◌, ◌++◌, length, replicate, subst, ap, ◌∙◌, arith}
use Rattle.std.proofs.lemmas.List.{length-replicate, length-set}
use Rattle.hcc_core.specs.Opening.{new_client}
use Rattle.hcc_core.specs.World.{State}
use Rattle.hcc_rule.specs.declared.geometry.Geometry.{Geometry}
use Rattle.hcc_rule.specs.declared.table.RuleTable.{RuleTable}
use Rattle.hcc_rule.specs.declared.view.Done.{Done}
use Rattle.hcc_rule.specs.Acts.{IsAllowed, IsRun, client_by, past}
use Rattle.hcc_rule.specs.Callers.{clients_of, plan_of}
use Rattle.hcc_rule.specs.Opening.{begun_world}
use Rattle.hcc_rule.specs.Seats.{SeatOf}
use Rattle.hcc_rule.specs.Views.{Each}
use Rattle.hcc_rule.proofs.Seats.Allowed.{leads_allowed}
use Rattle.hcc_cache.specs.Undisturbed.{IsUndisturbed}
use Rattle.hcc_cache.proofs.Calm.Stretches.{IsChangeOf, each_back}

-- a run in a world of one client has no event of another
run_alone : (ds : List Done) (w last : State) → IsRun w ds last → length w.clients ≡ 1
    → Each (IsChangeOf 0) ds
run_alone [] w last is one = tt
run_alone (d ∷ ds) w last is one =
    let by = leads_allowed w d is.0 is.1 in
    let first : client_by d.event ≡ 0 = (let there = by.there in omega arith) in
    ((λ changes. first), run_alone ds is.0 last is.2 (by.count ∙ one))

module _ {T A : Type 0} (table : RuleTable T A) (one : clients_of table ≡ 1) where
  begun_alone : length (begun_world (plan_of table)).clients ≡ 1
  begun_alone =
      length-set (replicate (plan_of table).geometry.clients new_client) 0 _
      ∙ length-replicate (plan_of table).geometry.clients new_client
      ∙ ap (λ (x : Geometry). x.clients) table.planned.0 ∙ one

  pub undisturbed_alone : (old new : SeatOf T) (more : List Done) → past new ≡ past old ++ more
      → IsAllowed (plan_of table) (past new) → IsUndisturbed 0 old new
  undisturbed_alone old new more goes_on allowed = record {
    more = more;
    goes_on = goes_on;
    own =
        each_back (IsChangeOf 0) (past old) more
        (run_alone (past old ++ more) (begun_world (plan_of table)) allowed.world
        (subst (λ ds. IsRun (begun_world (plan_of table)) ds allowed.world) goes_on allowed.run)
        begun_alone);
  }
