-- What a show owes, part by part.
use Rattle.std.proofs.Common.{◌≡◌, ℕ, zero, suc, ◌-◌, ◌^◌, ◌<◌, ◌≤◌, true, false, List, [], ◌∷◌, ◌++◌, Option, Some, None, Ok, IfSome, is_some, length, slice_get, refl, ap, arith}
use Rattle.std.specs.Int.{from_bool}
use Rattle.std.specs.List.{list_all}
use Rattle.std.proofs.lemmas.Bool.{eq-eqb, lt-ltb, le-leb}
use Rattle.hcc_word.specs.Code.{code_of_shareable}
use Rattle.hcc_core.specs.declared.limits.TheConstants.{STAMPS_PER_CLIENT, MOST_COUNTDOWN}
use Rattle.hcc_core.specs.declared.event.Event.TheVariants as events
use Rattle.hcc_core.specs.declared.event.Reply.TheVariants as replies
use Rattle.hcc_core.specs.declared.client.Client.{Client}
use Rattle.hcc_core.specs.declared.slot.Entry.{Entry}
use Rattle.hcc_core.specs.declared.client.Owned.TheVariants as owned
use Rattle.hcc_core.specs.declared.client.Place.TheVariants as places
use Rattle.hcc_core.specs.declared.slot.Reference.{Reference}
use Rattle.hcc_core.specs.declared.slot.Slot.TheVariants as slots
use Rattle.hcc_core.specs.Sums.{when, total}
use Rattle.hcc_core.specs.World.{State, weight}
use Rattle.hcc_core.specs.Outcomes.{with_both}
use Rattle.hcc_core.specs.Entries.{resident_new, client_shown, first_references, first_uses}
use Rattle.hcc_core.specs.Entries.{may_show, is_fresh, built_by}
use Rattle.hcc_core.specs.Steps.{outcome_of, name_fits, fits as in_bits}
use Rattle.hcc_core.specs.Lawful.{Lawful}
use Rattle.hcc_core.proofs.StepLemmas.{show_gives}
use Rattle.hcc_rule.specs.declared.view.Made.{Made}
use Rattle.hcc_rule.specs.ToldOwners.{first_records}
use Rattle.hcc_rule.specs.Views.{reference_of, is_on, Each}
use Rattle.hcc_rule.proofs.Basics.Lists.{within}
use Rattle.hcc_rule.proofs.References.Looks.{client_fits}

-- bytes fit eight bits
bytes_fit : (bytes : List ℕ) → Each (λ b. b < 256) bytes → list_all (in_bits 8) bytes ≡ true
bytes_fit [] h = refl
bytes_fit (b ∷ bs) h = rw (lt-ltb b (2 ^ 8) h.0) (bytes_fit bs h.1)

-- what was listed stays listed when one more is
pub get_front : {A : Type 0} (xs ys : List A) (n : ℕ) (x : A) → slice_get xs n ≡ Some x
    → slice_get (xs ++ ys) n ≡ Some x
get_front [] ys n x h = cc
get_front (z ∷ zs) ys zero x h = h
get_front (z ∷ zs) ys (suc n) x h = get_front zs ys n x h

-- and the last one is listed last
pub get_last : {A : Type 0} (xs : List A) (x : A) → slice_get (xs ++ x ∷ []) (length xs) ≡ Some x
get_last [] x = refl
get_last (z ∷ zs) x = get_last zs x

-- the word of a new entry is its code
pub first_code : (c countdown : ℕ) (name : Option ℕ)
    → code_of_shareable (countdown - from_bool (is_some name)) (from_bool (is_some name)) false true
    ≡ code_of_shareable (first_uses countdown name) (weight (first_references c name)) false true
first_code c countdown None = ap (λ n. code_of_shareable n 0 false true)
    (let g : countdown - 0 ≡ countdown = omega arith in g)
first_code c countdown (Some name) = refl

-- the client's first record weighs as its first reference does
pub first_weighs : (c i : ℕ) (name : Option ℕ) (e : Entry) (h : Reference → ℕ)
    → total (λ r. when (is_on i r) (h (reference_of c r))) (first_records i name e)
    ≡ total h (first_references c name)
first_weighs c i None e h = refl
first_weighs c i (Some name) e h = rw (eq-eqb i i refl) refl

-- a name's number is in its range
pub names_fit : (name : Option ℕ) → IfSome name (λ x. x < 2 ^ 64) → name_fits name ≡ true
names_fit None h = refl
names_fit (Some x) h = lt-ltb x (2 ^ 64) h

-- a show is allowed to a builder that has its place, its charge and a free name
pub show_allowed : (w : State) (c i countdown : ℕ) (name : Option ℕ) (made : Made) (found : Client)
    → Lawful w
    → slice_get w.clients c ≡ Some found → found.live ≡ true → found.owned ≡ owned.ForBuilding i
    → found.place ≡ places.Granted → found.needed ≡ 0 → made.charge ≤ found.granted → 1 ≤ countdown
    → countdown ≤ MOST_COUNTDOWN → is_fresh w.slots c name ≡ true → found.stamps < STAMPS_PER_CLIENT
    → made.key.w0 < 2 ^ 64 → made.key.w1 < 2 ^ 64 → made.charge < 2 ^ 32
    → IfSome name (λ x. x < 2 ^ 64)
    → Each (λ b. b < 256) made.value
    → outcome_of w (events.Show c made.key.w0 made.key.w1 made.charge countdown name made.value)
    ≡ Ok (
      replies.Ok,
      with_both w i (slots.Shareable
          (resident_new c found made.key.w0 made.key.w1 made.charge countdown name made.value)) c
          (client_shown made.charge found),
    )
unfolding outcome_of may_show
show_allowed w c i countdown name made found l at_client live builds place none_needed paid some few
    fresh stamps w0 w1 charge named bytes =
    rw (
      client_fits w c l (within w.clients c found at_client),
      lt-ltb made.key.w0 (2 ^ 64) w0,
      lt-ltb made.key.w1 (2 ^ 64) w1,
      lt-ltb made.charge (2 ^ 32) charge,
      lt-ltb countdown (2 ^ 64) (omega arith),
      names_fit name named,
      bytes_fit made.value bytes,
    )
    (show_gives w c i made.key.w0 made.key.w1 made.charge countdown name made.value found
    (client_shown made.charge found)
    (resident_new c found made.key.w0 made.key.w1 made.charge countdown name made.value) at_client
    live (ap built_by builds) may refl refl)
  where
    may : may_show w.slots c found made.charge countdown name ≡ true
    may = rw (
      place,
      none_needed,
      le-leb made.charge found.granted paid,
      le-leb 1 countdown some,
      le-leb countdown MOST_COUNTDOWN few,
      fresh,
      lt-ltb found.stamps STAMPS_PER_CLIENT stamps,
    )
        refl
