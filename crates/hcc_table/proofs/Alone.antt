-- A shard of one client: each step leads from the world that the seat knows before it.
use Rattle.std.proofs.Common.{◌≡◌, ℕ, List, [], ◌∷◌, ◌++◌, Ok, sym, subst, ap, ◌∙◌}
use Rattle.hcc_core.specs.declared.event.Event.TheVariants as events
use Rattle.hcc_core.specs.declared.event.Reply.TheVariants as replies
use Rattle.hcc_core.specs.Ledgers.{occupancy_told, usage_told}
use Rattle.hcc_core.specs.Outcomes.{live_at}
use Rattle.hcc_core.specs.Runs.{after, after_all, world_after}
use Rattle.hcc_core.specs.Steps.{outcome_of}
use Rattle.hcc_core.specs.World.{State, occupancy_of, usage_of}
use Rattle.hcc_rule.specs.declared.table.RuleTable.{RuleTable}
use Rattle.hcc_rule.specs.declared.view.Done.{Done}
use Rattle.hcc_rule.specs.Acts.{IsRun, Leads, events_of, past}
use Rattle.hcc_rule.specs.Callers.{IsEvent, clients_of, plan_of, world_at}
use Rattle.hcc_rule.specs.Opening.{begun_world}
use Rattle.hcc_rule.specs.Seats.{SeatOf}
use Rattle.hcc_rule.proofs.Seats.Histories.{run_is}
use Rattle.hcc_table.proofs.Shown.{bound, ruled, same_count, same_outcome}

-- What the last event of a run led from.
run_ends : (history : List Done) (done : Done) (world : State) {last : State}
    → IsRun world (history ++ done ∷ []) last
    → Leads (after_all world (events_of history)) done last
run_ends [] done world is = subst (λ w. Leads world done w) (sym is.2) is.1
run_ends (d ∷ ds) done world {last} is =
    let next : is.0 ≡ after world d.event = sym (ap (world_after world) is.1) in
    subst (λ w. Leads (after_all w (events_of ds)) done last) next (run_ends ds done is.0 is.2)

module _ {T A : Type 0} (table : RuleTable T A) (one : clients_of table ≡ 1) where
  -- A seat's event led from the world that it knew to the one that it knows.
  pub event_alone : (done : Done) (a b : SeatOf T) → IsEvent table done a b
      → Leads (world_at table a) done (world_at table b)
  event_alone done a b event =
      let known : past b ≡ past a ++ done ∷ [] =
      event.0.past ∙ ap (λ os. past a ++ (os ++ done ∷ [])) (event.0.alone one) in
      let last = run_ends (past a) done (begun_world (plan_of table))
      (subst (λ h. IsRun (begun_world (plan_of table)) h event.1.world) known event.1.run) in
      subst (λ w. Leads (world_at table a) done w)
      (run_is (past b) (begun_world (plan_of table)) event.1.world event.1.run) last

-- A load of the usage tells that of the world,
pub usage_tells : (w next : State) (client n : ℕ)
    → outcome_of w (events.Usage client) ≡ Ok (replies.Count n, next) → n ≡ usage_of w
unfolding usage_told
usage_tells w next client n is =
    let found = bound (live_at w client) _ _ (ruled w (events.Usage client) _ is) in
    sym (same_count (usage_of w) n (ap (λ z. z.0) (same_outcome _ _ found.2)))

-- and one of the occupancy too.
pub occupancy_tells : (w next : State) (client n : ℕ)
    → outcome_of w (events.Occupancy client) ≡ Ok (replies.Count n, next) → n ≡ occupancy_of w
unfolding occupancy_told
occupancy_tells w next client n is =
    let found = bound (live_at w client) _ _ (ruled w (events.Occupancy client) _ is) in
    sym (same_count (occupancy_of w) n (ap (λ z. z.0) (same_outcome _ _ found.2)))
