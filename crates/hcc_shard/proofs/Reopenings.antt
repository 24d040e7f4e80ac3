-- Entries for which a shard isn't refused.
use Rattle.std.proofs.Common.{◌≡◌, ◌≢◌, ℕ, ◌+◌, ◌*◌, ◌/◌, ◌&&◌, ◌||◌, Bool, true, false, not, nat_le, nat_lt, if◌then◌else◌, List, [], ◌∷◌, Option, Some, None, length, refl, arith}
use Rattle.std.specs.List.{list_any}
use Rattle.std.proofs.lemmas.Bool.{eqb-false, leb-true, ltb-true, ltb-false}
use Rattle.hcc_core.specs.declared.limits.TheConstants.{OCCUPANCY_PERCENT}
use Rattle.hcc_rule.specs.declared.geometry.Geometry.{Geometry}
use Rattle.hcc_rule.specs.declared.image.ImageEntry.{ImageEntry}
use Rattle.hcc_rule.specs.declared.key.Key.{Key}
use Rattle.hcc_rule.specs.ImageLimits.{AreRising, IsImageEntry, IsImageFor, charges_of}
use Rattle.hcc_rule.specs.Views.{Each}
use Rattle.hcc_shard.specs.declared.reopening.ReopenError.{ReopenError}
use Rattle.hcc_shard.specs.Reopened.{AreFitting, HasTypes, is_free, is_long, is_rising, is_worn, refusal_of}

-- where this error isn't due, the next may be
not_due : (due : Bool) (error : ReopenError) (rest : Option ReopenError)
    → (if due then Some error else rest) ≡ None → (due ≡ false) × (rest ≡ None)
not_due true error rest none = cc
not_due false error rest none = (refl, none)

-- two tests that hold together,
pub both : (a b : Bool) → (a && b) ≡ true → (a ≡ true) × (b ≡ true)
both true b h = (refl, h)
both false b h = cc

-- or where neither does,
neither : (a b : Bool) → (a || b) ≡ false → (a ≡ false) × (b ≡ false)
neither true b h = cc
neither false b h = (refl, h)

-- and one whose opposite doesn't
not_false : (b : Bool) → not b ≡ false → b ≡ true
not_false true h = refl
not_false false h = cc

-- Slots that are found to rise do.
rises : (low size : ℕ) (es : List ImageEntry) → is_rising low size es ≡ true
    → AreRising low size es
rises low size [] h = tt
rises low size (e ∷ es) h =
    let all = both (nat_le low e.slot && nat_lt e.slot size) (is_rising (e.slot + 1) size es) h in
    let here = both (nat_le low e.slot) (nat_lt e.slot size) all.0 in
    (leb-true _ _ here.0, ltb-true _ _ here.1, rises (e.slot + 1) size es all.1)

module _ {T : Type 0} (fits : T → Key → List ℕ → Type 0) (tag : T) where
  -- each entry is right where no value is too long and no entry too worn
  each_sized : (room : ℕ) (es : List ImageEntry) → list_any (is_long room) es ≡ false
      → list_any is_worn es ≡ false → list_any is_free es ≡ false → Each HasTypes es
      → AreFitting fits tag es → Each (IsImageEntry fits tag room) es
  each_sized room [] short few paid types fitting = tt
  each_sized room (e ∷ es) short few paid types fitting =
      let long = neither (is_long room e) (list_any (is_long room) es) short in
      let worn = neither (is_worn e) (list_any is_worn es) few in
      let free = neither (is_free e) (list_any is_free es) paid in (
        record {
          sized = record {
            short = ltb-false _ _ long.0;
            paid = let some : e.charge ≢ 0 = eqb-false e.charge 0 free.0 in omega arith;
            small = types.0.small;
            few = ltb-false _ _ worn.0;
          };
          fitting = fitting.0;
          bytes = types.0.bytes;
        },
        each_sized room es long.1 worn.1 free.1 types.1 fitting.1,
      )

  -- They are an image of the shard.
  pub accepted : (geometry : Geometry) (capacity : ℕ) (strict : Bool) (es : List ImageEntry)
      → refusal_of geometry capacity strict es ≡ None → Each HasTypes es
      → AreFitting fits tag es → IsImageFor fits tag geometry capacity strict es
  accepted geometry capacity strict es none types fitting =
      let slots = not_due (not (is_rising 0 geometry.slots es)) _ _ none in
      let lengths = not_due (list_any (is_long geometry.room) es) _ _ slots.1 in
      let uses = not_due (list_any is_worn es) _ _ lengths.1 in
      let charges = not_due (list_any is_free es) _ _ uses.1 in
      let many = not_due
      (nat_lt (geometry.slots * OCCUPANCY_PERCENT / 100) (length es)) _ _ charges.1 in
      let large = not_due (strict && nat_lt capacity (charges_of es)) _ _ many.1 in record {
        rising = rises 0 geometry.slots es (not_false _ slots.0);
        each = each_sized geometry.room es lengths.0 uses.0 charges.0 types fitting;
        few = ltb-false _ _ many.0;
        within = λ is. ltb-false capacity (charges_of es)
            (let same : (true && nat_lt capacity (charges_of es)) ≡ false = rw is at large.0 in
            same);
      }
