-- The texts of a world's slots, one after another.
use Rattle.std.proofs.Common.{◌≡◌, ℕ, ◌+◌, inl, inr, List, [], ◌∷◌, ◌++◌, Some, None, drop}
use Rattle.std.proofs.Common.{slice_get, refl, sym, ap, ◌∙◌, add-one, append_assoc, Result, Ok, Err}
use Rattle.std.proofs.Common.{OnOk}
use Rattle.std.proofs.Math.Seq.{drop-cons}
use Rattle.std.proofs.lemmas.Option.{slice_get_within, get_or_from_slice_get, slice_get_cases}
use Rattle.std.proofs.lemmas.List.{drop_all}
use Rattle.hcc_core.specs.declared.slot.Slot.{Slot}
use Rattle.hcc_core.specs.World.{State, passed_at}
use Rattle.hcc_player.specs.Text.{gap, slot_text, slots_from}

-- the list from a member on
from_here : (all : List Slot) (n : ℕ) (slot : Slot) → slice_get all n ≡ Some slot
    → drop n all ≡ slot ∷ drop (n + 1) all
from_here all n slot here =
    rw (
      add-one,
      drop-cons all n slot (slice_get_within all n slot here),
      get_or_from_slice_get all n slot slot here,
    ) refl

-- the text of a slot, and then of those behind it
pub slots_here : (world : State) (all : List Slot) (n : ℕ) (slot : Slot)
    → slice_get all n ≡ Some slot
    → slots_from world n (drop n all)
    ≡ gap n ++ slot_text slot (passed_at world n) ++ slots_from world (n + 1) (drop (n + 1) all)
slots_here world all n slot here = ap (slots_from world n) (from_here all n slot here)

nothing_past : (all : List Slot) (n : ℕ) → slice_get all n ≡ None → drop n all ≡ []
nothing_past all n past =
    elim (slice_get_cases all n).1 [
      | inl within ↦ let bad : Some within.0 ≡ None = sym within.2 ∙ past in cc
      | inr beyond ↦ drop_all n all beyond.0
    ]

-- behind the last slot there is no text
pub slots_past : (world : State) (all : List Slot) (n : ℕ) → slice_get all n ≡ None
    → slots_from world n (drop n all) ≡ []
slots_past world all n past = ap (slots_from world n) (nothing_past all n past)

-- texts that are written in two or three pieces
pub two_pieces : (old a b m : List ℕ) → m ≡ old ++ a → m ++ b ≡ old ++ (a ++ b)
two_pieces old a b m first = rw first (append_assoc old a b)

pub three_pieces : (old a b c m n : List ℕ) → m ≡ old ++ a → n ≡ m ++ b
    → n ++ c ≡ old ++ (a ++ b ++ c)
three_pieces old a b c m n first second =
    ap (λ l. l ++ c) (second ∙ two_pieces old a b m first) ∙ append_assoc old (a ++ b) c

pub on_ok_text : {A E : Type 0} (result : Result A E) (new mid last whole : List ℕ)
    → mid ++ last ≡ whole → OnOk result (new ≡ mid ++ last) → OnOk result (new ≡ whole)
on_ok_text (Ok done) new mid last whole same told = told ∙ same
on_ok_text (Err error) new mid last whole same told = tt
