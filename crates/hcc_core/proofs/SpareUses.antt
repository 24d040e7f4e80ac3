-- Uses that a visit of the clock doesn't see, and what a reference leaves that was used.
use Rattle.std.proofs.Common.{◌≡◌, ℕ, zero, suc, ◌+◌, ◌<◌, ◌||◌, Bool, true, false, cond, List, []}
use Rattle.std.proofs.Common.{◌∷◌, ◌++◌, Some, Ok, Err, slice_get, slice_set, refl, sym, ap, ◌∙◌}
use Rattle.std.proofs.Common.{arith}
use Rattle.std.specs.List.{list_any}
use Rattle.std.proofs.lemmas.Bool.{eq-eqb, lt-ltb}
use Rattle.hcc_core.specs.declared.event.CoreError.TheVariants.{NotAllowed}
use Rattle.hcc_core.specs.declared.event.Event.TheVariants as events
use Rattle.hcc_core.specs.declared.event.Reply.TheVariants as replies
use Rattle.hcc_core.specs.declared.limits.TheConstants.{MOST_CLOCKED}
use Rattle.hcc_core.specs.declared.slot.Reference.{Reference}
use Rattle.hcc_core.specs.declared.slot.Slot.{Slot}
use Rattle.hcc_core.specs.declared.slot.Slot.TheVariants as slots
use Rattle.hcc_core.specs.World.{State, has_reference, is_named, is_shareable, uses_of}
use Rattle.hcc_core.specs.Outcomes.{◌>>=◌, Outcome, allow, dropped, live_at, with_slot}
use Rattle.hcc_core.specs.References.{slot_acquired, slot_used}
use Rattle.hcc_core.specs.Steps.{in_range, outcome_of}
use Rattle.hcc_core.specs.Uses.{clock_of, clocked, may_clock, slot_with_uses}
use Rattle.hcc_core.proofs.ListLemmas.{read_here}

-- A member that is written twice is as it was written last.
set_again : {X : Type 0} (xs : List X) (i : ℕ) (a b : X)
    → slice_set (slice_set xs i a) i b ≡ slice_set xs i b
set_again [] i a b = refl
set_again (x ∷ xs) zero a b = refl
set_again (x ∷ xs) (suc i) a b = ap (λ zs. x ∷ zs) (set_again xs i a b)

-- what a visit comes to, by what it read of the slot
abbrev visited : State → ℕ → Bool → ℕ → State → Outcome
visited world client may uses left = do
  found ← live_at world client
  allowed ← allow may
  Ok (replies.Uses uses, left)

clock_at : (w : State) (client slot : ℕ) (seen : Slot) → slice_get w.slots slot ≡ Some seen
    → clock_of w client slot
    ≡ visited w client (may_clock seen) (clocked (uses_of seen))
    (with_slot w slot (slot_with_uses (clocked (uses_of seen)) seen))
unfolding clock_of
clock_at w client slot seen at = rw at refl

-- A visit leaves the most that it may, of so many uses and of more.
clocked_same : (uses more : ℕ) → MOST_CLOCKED < uses → clocked (uses + more) ≡ clocked uses
clocked_same uses more above = omega arith

-- A slot with more uses may be visited exactly where it may be without.
may_same : (seen : Slot) (more : ℕ) → MOST_CLOCKED < uses_of seen
    → may_clock (slot_with_uses (uses_of seen + more) seen) ≡ may_clock seen
may_same (slots.Empty strays) more above = refl
may_same (slots.Building client strays) more above = refl
may_same (slots.Shareable r) more above =
    rw (lt-ltb 0 r.uses (omega arith), lt-ltb 0 (r.uses + more) (omega arith)) refl

-- Only an entry has uses; it has those that were written last.
uses_written : (seen : Slot) (uses : ℕ) → MOST_CLOCKED < uses_of seen
    → uses_of (slot_with_uses uses seen) ≡ uses
uses_written (slots.Empty strays) uses above = absurd (omega arith)
uses_written (slots.Building client strays) uses above = absurd (omega arith)
uses_written (slots.Shareable r) uses above = refl

written_again : (seen : Slot) (uses last : ℕ)
    → slot_with_uses last (slot_with_uses uses seen) ≡ slot_with_uses last seen
written_again (slots.Empty strays) uses last = refl
written_again (slots.Building client strays) uses last = refl
written_again (slots.Shareable r) uses last = refl

-- A visit comes to the same with more uses as without.
clock_same : (w : State) (client slot : ℕ) (seen : Slot) (more : ℕ)
    → slice_get w.slots slot ≡ Some seen → MOST_CLOCKED < uses_of seen
    → clock_of (with_slot w slot (slot_with_uses (uses_of seen + more) seen)) client slot
    ≡ clock_of w client slot
clock_same w client slot seen more at above =
    clock_at (with_slot w slot full) client slot full
    (read_here w.slots slot seen full at)
    ∙ (rw (
      may_same seen more above,
      uses_written seen (uses_of seen + more) above,
      clocked_same (uses_of seen) more above,
      written_again seen (uses_of seen + more) left,
      set_again w.slots slot full (slot_with_uses left seen),
    ) refl
    ∙ sym (clock_at w client slot seen at))
  where
    full : Slot
    full = slot_with_uses (uses_of seen + more) seen

    left : ℕ
    left = clocked (uses_of seen)

pub clock_spares : (w : State) (client slot : ℕ) (seen : Slot) (more : ℕ)
    → slice_get w.slots slot ≡ Some seen → MOST_CLOCKED < uses_of seen
    → outcome_of (with_slot w slot (slot_with_uses (uses_of seen + more) seen))
    (events.Clock client slot)
    ≡ outcome_of w (events.Clock client slot)
unfolding outcome_of
clock_spares w client slot seen more at above =
    ap (λ outcome. cond (in_range (events.Clock client slot)) outcome (Err NotAllowed))
    (clock_same w client slot seen more at above)

-- The one that was put last is the one that goes, where no other passes.
dropped_last : {X : Type 0} (p : X → Bool) (xs : List X) (x : X) → list_any p xs ≡ false
    → p x ≡ true → dropped p (xs ++ x ∷ []) ≡ xs
dropped_last p [] x none passes = rw passes refl
dropped_last p (y ∷ ys) x none passes = by (p y) (dropped_last p ys x) none
  where
    by : (b : Bool) → (list_any p ys ≡ false → p x ≡ true → dropped p (ys ++ x ∷ []) ≡ ys)
        → (b || list_any p ys) ≡ false
        → cond b (ys ++ x ∷ []) (y ∷ dropped p (ys ++ x ∷ [])) ≡ y ∷ ys
    by true later none = cc
    by false later none = ap (λ zs. y ∷ zs) (later none passes)

own_name : (k : Reference) → is_named k.client k.name k ≡ true
own_name k = rw (eq-eqb k.client k.client refl, eq-eqb k.name k.name refl) refl

-- A reference that is acquired and used leaves its weight in uses and nothing else.
pub use_leaves : (k : Reference) (seen : Slot) → is_shareable seen ≡ true
    → has_reference k.client k.name seen ≡ false
    → slot_used k.client k.name k (slot_acquired seen k)
    ≡ slot_with_uses (uses_of seen + k.weight) seen
use_leaves k (slots.Empty strays) shared free = cc
use_leaves k (slots.Building client strays) shared free = cc
use_leaves k (slots.Shareable r) shared free =
    ap (λ left. slots.Shareable (record r { references = left; uses = r.uses + k.weight }))
    (dropped_last (is_named k.client k.name) r.references k free (own_name k))
