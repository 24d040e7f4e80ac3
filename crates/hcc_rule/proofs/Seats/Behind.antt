-- Behind what the last seat knows come only starts and ends, so the world that it knows has the
-- slots and the hand of the world that the words show.
use Rattle.std.proofs.Common.{◌≡◌, ℕ, ◌<◌, Bool, true, false, List, [], ◌∷◌, ◌++◌, Some, length, slice_get, sym, refl, ap, ◌∙◌, subst, arith}
use Rattle.atomic_table.specs.Table as table
use Rattle.hcc_core.specs.Runs.{after, after_all, world_after}
use Rattle.hcc_core.specs.World.{State}
use Rattle.hcc_rule.specs.declared.key.Key.{Key}
use Rattle.hcc_rule.specs.declared.rule.Plan.{Plan}
use Rattle.hcc_rule.specs.declared.view.Done.{Done}
use Rattle.hcc_rule.specs.declared.view.Logged.{Logged}
use Rattle.hcc_rule.specs.Acts.{IsNoStepOf, IsRun, client_by, events_of, is_step, world_of}
use Rattle.hcc_rule.specs.Closing.{IsBack}
use Rattle.hcc_rule.specs.Logs.{HoldsLogged, unlogged}
use Rattle.hcc_rule.specs.Opening.{begun_world}
use Rattle.hcc_rule.specs.Views.{Each, is_seated}
use Rattle.hcc_rule.proofs.LastSeat.ClosingClients.{named_once}
use Rattle.hcc_rule.proofs.Seats.Allowed.{leads_allowed}
use Rattle.hcc_rule.proofs.Seats.Fronts.{known_at}

-- what is behind a front of a run is a run from the world after the front
pub run_behind : (front rest : List Done) (world last : State) → IsRun world (front ++ rest) last
    → IsRun (after_all world (events_of front)) rest last
run_behind [] rest world last is = is
run_behind (done ∷ front) rest world last is =
    let next : is.0 ≡ after world done.event = sym (ap (world_after world) is.1) in
    subst (λ w. IsRun (after_all w (events_of front)) rest last) next
    (run_behind front rest is.0 last is.2)

-- two worlds with the same slots and the same hand
pub record AreAlike (w last : State) : Type 0 where
  pub slots : w.slots ≡ last.slots
  pub hand : w.hand ≡ last.hand
  count : length w.clients ≡ length last.clients

-- a run without a step of any client of its last world leaves slots and hand
still_run : (later : List Done) (world last : State) → IsRun world later last
    → ((c : ℕ) → c < length last.clients → Each (IsNoStepOf c) later) → AreAlike world last
still_run [] world last is none = rw is record { slots = refl; hand = refl; count = refl }
still_run (done ∷ rest) world last is none =
    let next : State = is.0 in
    let more = still_run rest next last is.2 (λ c near. (none c near).1) in
    let by = leads_allowed world done next is.1 in
    let near : client_by done.event < length last.clients =
    (let there = by.there in let before = by.count in let behind = more.count in omega arith) in
    let no : is_step done.event ≡ false =
    still (is_step done.event) refl ((none (client_by done.event) near).0) in
    record {
      slots = sym (by.slots no) ∙ more.slots;
      hand = sym (by.hand no) ∙ more.hand;
      count = sym by.count ∙ more.count;
    }
  where
    still : (b : Bool) → is_step done.event ≡ b → IsNoStepOf (client_by done.event) done
        → is_step done.event ≡ false
    still true is none = absurd (none is refl)
    still false is none = is

module _ {T : Type 0} (fits : T → Key → List ℕ → Type 0) (p : Plan T)
    (s : table.State (Unit {0}) (Logged T)) (holds : HoldsLogged fits p s) (id : ℕ)
    (l : Logged T) (at : slice_get s.views id ≡ Some l) (seated : is_seated l.known ≡ true)
    (back : IsBack p.geometry.clients l.known) where
  -- the world that the last seat knows, and the one that the words show
  pub known_alike : AreAlike (world_of p l.past) holds.rule.world
  known_alike =
      let front = holds.fronts id l at in
      let run = run_behind l.past front.later (begun_world p) holds.rule.world
      (subst (λ ds. IsRun (begun_world p) ds holds.rule.world) front.is holds.run) in
      still_run front.later (world_of p l.past) holds.rule.world run
      (λ c near. let one = named_once fits p (unlogged s) holds.rule id l.known
      (known_at fits p s id l at) seated back c near in front.apart c (omega arith))
