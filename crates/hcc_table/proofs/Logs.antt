-- The steps of calls, one after the other.
use Rattle.std.proofs.Common.{◌≡◌, ℕ, ◌≤◌, [], ◌∷◌, ◌++◌, sym, subst, ap, ◌∙◌, arith}
use Rattle.std.proofs.lemmas.List.{append_assoc, append-nil}
use Rattle.hcc_word.specs.declared.layout.TheConstants.{HIT_BIT, NEAR}
use Rattle.hcc_word.specs.Changes.{IsCorrectable}
use Rattle.hcc_word.specs.Word.{releases_of}
use Rattle.hcc_core.specs.declared.limits.TheConstants.{MOST_WEIGHT}
use Rattle.hcc_rule.specs.declared.view.Atomic.{Atomic}
use Rattle.hcc_rule.specs.Seats.{SeatOf, Makes, atomic, steps}
use Rattle.hcc_rule.proofs.Basics.Lists.{each_append}
use Rattle.hcc_table.specs.Steps.{Adds, AddsUnmarked, Among, Begins, BeginsWithTwo, Ends, MakesTwo, after}

-- a weight isn't the hit bit, and neither is a word near its end
pub light : {weight : ℕ} → weight ≤ MOST_WEIGHT → ¬ (weight ≡ HIT_BIT)
light few same = omega arith

pub unlike_hit : (word : ℕ) → IsCorrectable word → ¬ (word ≡ HIT_BIT)
unfolding releases_of
unlike_hit word worn same =
    let near : NEAR ≤ 0 = subst (λ (w : ℕ). NEAR ≤ releases_of w) same worn.near in omega arith

module _ {T : Type 0} where
  -- no step
  pub adds_none : (a b : SeatOf T) → steps b ≡ steps a → Adds a b
  adds_none a b same = ([], same ∙ sym (append-nil (steps a)))

  -- one step
  pub adds_one : (one : Atomic) (a b : SeatOf T) → steps b ≡ after (steps a) one → Adds a b
  adds_one one a b is = (one ∷ [], is)

  pub adds_then : (a b c : SeatOf T) → Adds a b → Adds b c → Adds a c
  adds_then a b c h g = (
    h.0 ++ g.0,
    g.1 ∙ ap (λ xs. xs ++ g.0) h.1 ∙ append_assoc (steps a) h.0 g.0,
  )

  pub unmarked_adds : {a b : SeatOf T} → AddsUnmarked a b → Adds a b
  unmarked_adds h = (h.more, h.adds)

  -- The same of steps that set no hit bit.
  pub unmarked_none : {a b : SeatOf T} → steps b ≡ steps a → AddsUnmarked a b
  unmarked_none {a} same =
      record { more = []; adds = same ∙ sym (append-nil (steps a)); unmarked = tt }

  pub unmarked_one : (one : Atomic) {a b : SeatOf T} → steps b ≡ after (steps a) one
      → ¬ (one.first ≡ HIT_BIT) → AddsUnmarked a b
  unmarked_one one is other = record { more = one ∷ []; adds = is; unmarked = (other, tt) }

  pub unmarked_then : {a b c : SeatOf T} → AddsUnmarked a b → AddsUnmarked b c → AddsUnmarked a c
  unmarked_then {a} h g = record {
    more = h.more ++ g.more;
    adds = g.adds ∙ ap (λ xs. xs ++ g.more) h.adds ∙ append_assoc (steps a) h.more g.more;
    unmarked = each_append (λ (step : Atomic). ¬ (step.first ≡ HIT_BIT)) h.more g.more h.unmarked
        g.unmarked;
  }

  -- a load that found something, a give, and the like
  pub unmarked_zero : {address found : ℕ} {a b : SeatOf T}
      → Makes address 0 0 found a b → AddsUnmarked a b
  unmarked_zero {address} {found} h =
      unmarked_one (atomic address 0 0 found) h.step (light (omega arith))

  -- one step after another
  pub makes_two : (one two : Atomic) (a b c : SeatOf T) → steps b ≡ after (steps a) one
      → steps c ≡ after (steps b) two → MakesTwo one two a c
  makes_two one two a b c is then = then ∙ ap (λ xs. after xs two) is

  -- one step, and then others
  pub begins_then : (one : Atomic) (a b c : SeatOf T) → steps b ≡ after (steps a) one → Adds b c
      → Begins one a c
  begins_then one a b c is g = (g.0, g.1 ∙ ap (λ xs. xs ++ g.0) is)

  -- what begins with a step adds steps
  pub begins_adds : (one : Atomic) (a b : SeatOf T) → Begins one a b → Adds a b
  begins_adds one a b h = (one ∷ [] ++ h.0, h.1 ∙ append_assoc (steps a) (one ∷ []) h.0)

  -- one step, and then others of which the first is known
  pub begins_with_two : (one two : Atomic) (a b c : SeatOf T) → steps b ≡ after (steps a) one
      → Begins two b c → BeginsWithTwo one two a c
  begins_with_two one two a b c is g = (g.0, g.1 ∙ ap (λ xs. after xs two ++ g.0) is)

  -- a step that is the last of a part is the last of all
  pub ends_after : (last : Atomic) (a b c : SeatOf T) → Adds a b → steps c ≡ after (steps b) last
      → Ends last a c
  ends_after last a b c h is = (h.0, is ∙ ap (λ xs. after xs last) h.1)

  -- so it is where the part has more steps
  pub ends_later : (last : Atomic) (a b c : SeatOf T) → Adds a b → Ends last b c → Ends last a c
  ends_later last a b c h g = (
    h.0 ++ g.0,
    g.1 ∙ ap (λ xs. after xs last)
        (ap (λ xs. xs ++ g.0) h.1 ∙ append_assoc (steps a) h.0 g.0),
  )

  -- what ends with a step adds steps
  pub ends_adds : (last : Atomic) (a b : SeatOf T) → Ends last a b → Adds a b
  ends_adds last a b h = (h.0 ++ last ∷ [], h.1 ∙ append_assoc (steps a) h.0 (last ∷ []))

  -- one step after others, and before others
  pub among_at : (one : Atomic) (a b c d : SeatOf T) → Adds a b → steps c ≡ after (steps b) one
      → Adds c d → Among one a d
  among_at one a b c d h is g =
      (h.0, g.0, g.1 ∙ ap (λ xs. xs ++ g.0) (is ∙ ap (λ xs. after xs one) h.1))

  -- a step among those of a part is among those of all
  pub among_after : (one : Atomic) (a b c : SeatOf T) → Adds a b → Among one b c → Among one a c
  among_after one a b c h g = (
    h.0 ++ g.0,
    g.1,
    g.2 ∙ ap (λ xs. after xs one ++ g.1)
        (ap (λ xs. xs ++ g.0) h.1 ∙ append_assoc (steps a) h.0 g.0),
  )

  pub among_then : (one : Atomic) (a b c : SeatOf T) → Among one a b → Adds b c → Among one a c
  among_then one a b c h g = (
    h.0,
    h.1 ++ g.0,
    g.1 ∙ ap (λ xs. xs ++ g.0) h.2 ∙ append_assoc (after (steps a ++ h.0) one) h.1 g.0,
  )

  -- a step that is the first is among all
  pub among_first : (one : Atomic) (a b : SeatOf T) → Begins one a b → Among one a b
  among_first one a b h =
      ([], h.0, h.1 ∙ ap (λ xs. after xs one ++ h.0) (sym (append-nil (steps a))))
