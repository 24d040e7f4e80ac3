-- What the nearness bound gives, and that each step keeps it.
use Rattle.std.proofs.Common.{◌≡◌, ℕ, ◌+◌, ◌*◌, ◌^◌, ◌<◌, ◌≤◌, arith}
use Rattle.hcc_word.specs.declared.layout.TheConstants.{COUNTER_BITS, NEAR}
use Rattle.hcc_word.specs.Near.{IsNear}

-- Both counters stay within their fields, however many steps were made and even if every
-- correction loses: each step at a slot with an entry cites it, by its law.
pub uses_and_refs_fit : {most uses refs counting : ℕ} → IsNear most uses refs counting
    → uses + refs < 2 ^ COUNTER_BITS
uses_and_refs_fit near = omega arith

-- An acquire that found releases below NEAR keeps the bound: its references are counting.
pub IsNear-acquire_counting : {most uses refs counting : ℕ} (n after : ℕ)
    → IsNear most uses refs counting → after ≡ refs + n → after ≤ most → uses < NEAR
    → IsNear most uses after (counting + n)
IsNear-acquire_counting n after near sum few below = record {
  few_refs = few;
  counting_are_refs = omega arith;
  near_uses = omega arith;
  room = near.room;
}

-- An acquire that found releases at NEAR or above keeps the bound: its references are not counting.
pub IsNear-acquire_uncounted : {most uses refs counting : ℕ} (n after : ℕ)
    → IsNear most uses refs counting → after ≡ refs + n → after ≤ most
    → IsNear most uses after counting
IsNear-acquire_uncounted n after near sum few = record {
  few_refs = few;
  counting_are_refs = omega arith;
  near_uses = near.near_uses;
  room = near.room;
}

-- A give-back of counting references keeps the bound.
pub IsNear-give_counting : {most uses refs counting : ℕ} (n left kept : ℕ)
    → IsNear most uses refs counting → left + n ≡ refs → kept + n ≡ counting
    → IsNear most uses left kept
IsNear-give_counting n left kept near refs_left counting_left = record {
  few_refs = omega arith;
  counting_are_refs = omega arith;
  near_uses = omega arith;
  room = near.room;
}

-- A give-back of references that are not counting keeps the bound.
pub IsNear-give_uncounted : {most uses refs counting : ℕ} (n left : ℕ)
    → IsNear most uses refs counting → left + n ≡ refs → counting ≤ left
    → IsNear most uses left counting
IsNear-give_uncounted n left near refs_left others = record {
  few_refs = omega arith;
  counting_are_refs = others;
  near_uses = near.near_uses;
  room = near.room;
}

-- A useful release of counting references keeps the bound: they become uses.
pub IsNear-release : {most uses refs counting : ℕ} (n left kept : ℕ)
    → IsNear most uses refs counting → left + n ≡ refs → kept + n ≡ counting
    → IsNear most (uses + n) left kept
IsNear-release n left kept near refs_left counting_left = record {
  few_refs = omega arith;
  counting_are_refs = omega arith;
  near_uses = omega arith;
  room = near.room;
}

-- The clock and a correction keep the bound: they lower the uses.
pub IsNear-fewer_uses : {most uses refs counting : ℕ} (fewer : ℕ)
    → IsNear most uses refs counting → fewer ≤ uses → IsNear most fewer refs counting
IsNear-fewer_uses fewer near lower = record {
  few_refs = near.few_refs;
  counting_are_refs = near.counting_are_refs;
  near_uses = omega arith;
  room = near.room;
}

-- The store that shows an entry meets the bound: its only references are its maker's, and counting.
pub IsNear-start : (most uses refs : ℕ)
    → 2 * most + 4 < 2 ^ 29 → refs ≤ most → uses + refs ≤ NEAR + most → IsNear most uses refs refs
IsNear-start most uses refs room few near = record {
  few_refs = few;
  counting_are_refs = omega arith;
  near_uses = near;
  room = room;
}
