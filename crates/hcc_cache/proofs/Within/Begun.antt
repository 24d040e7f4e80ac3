-- Moments of a call: what its seat knew goes on, and the call has begun.
use Rattle.std.proofs.Common.{◌≡◌, ◌⊎◌, inl, inr, true, Bool, List, [], ◌∷◌, ◌++◌, refl, sym, ap, subst, ◌∙◌}
use Rattle.std.proofs.lemmas.List.{append_assoc, append-nil}
use Rattle.hcc_core.specs.declared.event.Event.{Event}
use Rattle.hcc_core.specs.World.{State}
use Rattle.hcc_rule.specs.declared.table.RuleTable.{RuleTable}
use Rattle.hcc_rule.specs.declared.view.Done.{Done}
use Rattle.hcc_rule.specs.Acts.{IsStepBy, client_by, is_step, past, world_of}
use Rattle.hcc_rule.specs.Callers.{IsEvent, plan_of, world_at}
use Rattle.hcc_rule.specs.Seats.{SeatOf, view}
use Rattle.hcc_table.specs.Seeking.{GoesOnBy, Seeks}
use Rattle.hcc_table.proofs.Moments.{does_more}
use Rattle.hcc_cache.specs.Within.{HoldsOnce}

module _ {T A : Type 0} (table : RuleTable T A) where
  -- What a seat knew goes on.
  pub record GoesOn (a b : SeatOf T) : Type 0 where
    pub more : List Done
    pub is : past b ≡ past a ++ more

  pub on_same : {a b : SeatOf T} → b ≡ a → GoesOn a b
  on_same {a} same = record { more = []; is = ap past same ∙ sym (append-nil (past a)) }

  pub on_then : {a b c : SeatOf T} → GoesOn a b → GoesOn b c → GoesOn a c
  on_then {a} h g = record {
    more = h.more ++ g.more;
    is = g.is ∙ ap (λ xs. xs ++ g.more) h.is ∙ append_assoc (past a) h.more g.more;
  }

  pub on_event : {done : Done} {a b : SeatOf T} → IsEvent table done a b → GoesOn a b
  on_event {done} event =
      record { more = event.0.others ++ done ∷ []; is = event.0.past }

  pub on_seeks : {a b : SeatOf T} → Seeks table a b → GoesOn a b
  on_seeks {a} {b} h =
      let more = does_more table h.own a b h.does in record { more = more.0; is = more.1 }

  pub on_by : {kind : Event → Bool} {a b : SeatOf T} → GoesOnBy table kind a b → GoesOn a b
  on_by h = record { more = h.more; is = h.goes_on }

  -- Behind a step of its own client a call has begun.
  pub record Begun (old a : SeatOf T) : Type 0 where
    pub more : List Done
    pub is : past a ≡ past old ++ more
    pub before : List Done
    pub first : Done
    pub rest : List Done
    pub split : more ≡ before ++ first ∷ rest
    pub own : IsStepBy (view old).client first.event

  -- it has begun, or is where it begins
  abbrev pub Starts : (old a : SeatOf T) → Type 0
  Starts old a = (a ≡ old) ⊎ Begun old a

  pub begun_on : {old a b : SeatOf T} → Begun old a → GoesOn a b → Begun old b
  begun_on {old} h g = record {
    more = h.more ++ g.more;
    is = g.is ∙ ap (λ xs. xs ++ g.more) h.is ∙ append_assoc (past old) h.more g.more;
    before = h.before;
    first = h.first;
    rest = h.rest ++ g.more;
    split =
        ap (λ xs. xs ++ g.more) h.split ∙ append_assoc h.before (h.first ∷ h.rest) g.more;
    own = h.own;
  }

  pub begun_by : {old a b : SeatOf T} (done : Done) → Starts old a → IsEvent table done a b
      → is_step done.event ≡ true → client_by done.event ≡ (view a).client → Begun old b
  begun_by {old} {a} {b} done (inl here) event step by = record {
    more = event.0.others ++ done ∷ [];
    is = event.0.past ∙ ap (λ xs. xs ++ (event.0.others ++ done ∷ [])) (ap past here);
    before = event.0.others;
    first = done;
    rest = [];
    split = refl;
    own = (step, by ∙ ap (λ (s : SeatOf T). (view s).client) here);
  }
  begun_by done (inr begun) event step by = begun_on begun (on_event event)

  -- What holds in the world that the seat knows at a moment of the call held once.
  pub held_once : (P : State → Type 0) {old m new : SeatOf T} → Begun old m → GoesOn m new
      → P (world_at table m) → HoldsOnce table old new P
  held_once P {old} {m} {new} h g holds = record {
    since = h.more;
    within = record {
      before = h.before;
      first = h.first;
      rest = h.rest;
      is = h.split;
      own = h.own;
      later = g.more;
      goes_on = g.is ∙ ap (λ xs. xs ++ g.more) h.is;
    };
    holds = subst P (ap (world_of (plan_of table)) h.is) holds;
  }
