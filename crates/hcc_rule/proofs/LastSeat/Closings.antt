-- What is left of a shard that was closed.
use Rattle.std.proofs.Common.{◌≡◌, ℕ, zero, suc, Bool, true, List, [], ◌∷◌, Some, slice_get, slice_index, sym, ◌∙◌, ◌≤◌, arith}
use mathlib.Core.Option.{some, some-injective, some-ne-none}
use lib.ListN.{get_elem?}
use Rattle.atomic_table.specs.Table as table
use Rattle.hcc_rule.specs.declared.geometry.Geometry.{Geometry}
use Rattle.hcc_rule.specs.declared.key.Key.{Key}
use Rattle.hcc_rule.specs.declared.rule.Plan.{Plan}
use Rattle.hcc_rule.specs.declared.view.Logged.{Logged}
use Rattle.hcc_rule.specs.declared.view.View.{View}
use Rattle.hcc_rule.specs.Closing.{Shown, IsBack, IsWithin, Closes}
use Rattle.hcc_rule.specs.Images.{BeginsWith, entries_in}
use Rattle.hcc_rule.specs.Logs.{HoldsLogged, unlogged}
use Rattle.hcc_rule.specs.Rule.{Holds}
use Rattle.hcc_rule.specs.Seats.{moves_of}
use Rattle.hcc_rule.specs.Views.{is_seated, named_by}
use Rattle.hcc_core.proofs.SumLemmas.{total-member}
use Rattle.hcc_rule.proofs.Parts.Clients.{total-only}
use Rattle.hcc_rule.proofs.Basics.Lists.{read_at}
use Rattle.hcc_rule.proofs.LastSeat.ClosingClients.{unseated}
use Rattle.hcc_rule.proofs.LastSeat.ClosingSlots.{settled, kept, references, uses, clear, strays, left, weighed, taken, places, hand, within_capacity}
use Rattle.hcc_rule.proofs.Limits.MadeEntries.{stamp_at, apart}
use Rattle.hcc_rule.proofs.Parts.SlotSteps.{Shard}
use Rattle.hcc_rule.proofs.Seats.Fronts.{known_at, named_all}

-- a word that was loaded
pub word_read : (words : List ℕ) (i word : ℕ) → get_elem? words i ≡ some word
    → slice_index words i ≡ word
word_read [] i word h = absurd (some-ne-none word (sym h))
word_read (w ∷ ws) zero word h = some-injective w word h
word_read (w ∷ ws) (suc i) word h = word_read ws i word h

module _ {T : Type 0} (fits : T → Key → List ℕ → Type 0) (p : Plan T) where
  -- the words that are left are those of the last state
  pub shown_last : (words : List ℕ) (homes : List (Unit {0})) (id : ℕ) (v : View T)
      → table.Final (table.Seen (Holds fits p) id v) words homes → Shown fits p words v
  shown_last words homes id v final = record {
    state = final.0;
    holds = final.1.0;
    same = final.2;
    number = id;
    seen = read_at final.0.views id v final.1.1;
  }

  -- where no seat made a step, the words that are left are those with which the shard began
  pub begins_last : (geometry : Geometry) (words : List ℕ) (homes : List (Unit {0})) (id : ℕ)
      (l : Logged T) → p.geometry ≡ geometry
      → table.Final (table.Seen (HoldsLogged fits p) id l) words homes
      → is_seated l.known ≡ true → IsBack geometry.clients l.known → moves_of l ≡ 0
      → BeginsWith geometry.slots geometry.room (entries_in p.image) words
  begins_last geometry words homes id l same final seated back none =
      let s = final.0 in
      let holds : HoldsLogged fits p s = final.1.0 in
      let at = read_at s.views id l final.1.1 in
      let sum = total-only moves_of s.views id l at
      (λ j m other there. holds.spent j m there (unseated fits p (unlogged s) holds.rule id l.known
      (known_at fits p s id l at) seated (rw same back) j m.known other
      (known_at fits p s j m there))) in
      rw (sym same, sym final.2) (holds.begins (sum ∙ none))

  -- a view of a state names at most as many clients as there are
  pub named_within : (s : Shard fits p) (r : Holds fits p s) (id : ℕ) (v : View T)
      → slice_get s.views id ≡ Some v → named_by v ≤ p.geometry.clients
  named_within s r id v at =
      let mine = total-member named_by s.views id v at in
      let all = named_all fits p s r in
      omega arith

  -- so does that of the last seat
  pub named_last : (geometry : Geometry) (words : List ℕ) (v : View T) → p.geometry ≡ geometry
      → Shown fits p words v → named_by v ≤ geometry.clients
  named_last geometry words v same shown =
      rw (sym same) (named_within shown.state shown.holds shown.number v shown.seen)

  closes_state : (s : Shard fits p) (r : Holds fits p s) (id : ℕ) (v : View T)
      → slice_get s.views id ≡ Some v → is_seated v ≡ true
      → IsBack p.geometry.clients v → Closes fits p.tag p.geometry s.words v
  closes_state s r id v at seated back = record {
    settled = settled fits p s r id v at seated back;
    stamp_at = stamp_at fits p s r;
    kept = kept fits p s r id v at seated back;
    apart = apart fits p s r;
    held = references fits p s r id v at seated back;
    uses = uses fits p s r id v at seated back;
    clear = clear fits p s r id v at seated back;
    strays = strays fits p s r id v at seated back;
    left = left fits p s r id v at seated back;
    weighed = weighed fits p s r id v at seated back;
    counted = (r.stamps.given id v at).count;
    taken = taken fits p s r id v at seated back;
    places = places fits p s r id v at seated back;
    hand = hand fits p s r id v at seated back;
  }

  -- and once all clients are back they tell more
  pub closes_last : (geometry : Geometry) (words : List ℕ) (v : View T) → p.geometry ≡ geometry
      → Shown fits p words v → is_seated v ≡ true → IsBack geometry.clients v
      → Closes fits p.tag geometry words v
  closes_last geometry words v same shown seated back =
      rw (sym same, sym shown.same)
      (closes_state shown.state shown.holds shown.number v shown.seen seated (rw same back))

  -- the charges are within the capacity
  pub within_last : (geometry : Geometry) (capacity : ℕ) (strict : Bool) (words : List ℕ)
      (v : View T) → p.geometry ≡ geometry → p.capacity ≡ capacity → p.strict ≡ strict
      → Shown fits p words v → is_seated v ≡ true → IsBack geometry.clients v
      → IsWithin geometry capacity strict words
  within_last geometry capacity strict words v sizes capacities rules shown seated back =
      rw (sym sizes, sym capacities, sym rules, sym shown.same)
      (within_capacity fits p shown.state shown.holds shown.number v shown.seen seated
      (rw sizes back))
