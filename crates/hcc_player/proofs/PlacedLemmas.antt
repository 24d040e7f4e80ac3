-- Which lines of a trace placed the entries that clients made.
use Rattle.std.proofs.Common.{◌≡◌, ◌≢◌, ℕ, zero, suc, ◌+◌, ◌==◌, inl, inr, true, false, Bool}
use Rattle.std.proofs.Common.{List, [], ◌∷◌, ◌++◌, Option, Some, None, refl, sym, ap, ◌∙◌}
use Rattle.std.proofs.Common.{append_assoc, append-nil, arith, rules, tests}
use Rattle.std.specs.Prelude.{slice_get, slice_set}
use Rattle.std.proofs.lemmas.Bool.{cases_eq}
use Rattle.hcc_rule.specs.declared.key.Key.{Key}
use Rattle.hcc_rule.specs.declared.view.Made.{Made}
use Rattle.hcc_cache.specs.declared.cache.Cache.{Cache}
use Rattle.hcc_cache.specs.declared.client.Client.{Client}
use Rattle.hcc_cache.specs.Calls.{shard_in}
use Rattle.hcc_cache.specs.Clients.{Insertion}
use Rattle.hcc_player.specs.declared.run.answer.Answer.{Answer}
use Rattle.hcc_player.specs.declared.run.call.RunLine.{RunLine}
use Rattle.hcc_player.specs.declared.run.registers.Registers.{Registers}
use Rattle.hcc_player.specs.Runs.{Makes, MakesAll, placed_by, stood_by}
use Rattle.hcc_player.specs.Work.{AllWith}
use Rattle.hcc_player.proofs.EndLemmas.{off_member}
use Rattle.hcc_player.proofs.MadeLemmas.{Adds, adds, made_in}

-- an insertion that the line at a place placed
pub record Placed : Type 0 where
  pub place : ℕ
  pub insertion : Insertion

abbrev pub with_placed : Option Insertion → ℕ → List Placed → List Placed
with_placed None place rest = rest
with_placed (Some insertion) place rest =
    record { place = place; insertion = insertion } ∷ rest

-- what a client made and what was placed are of the same charge
abbrev pub IsChargedAs : Made → Placed → Type 0
IsChargedAs made placed = made.charge ≡ placed.insertion.charge

module _ {T : Type 0} (cache : Cache T) (c s : ℕ) where
  -- the insertion if it is of this client, at this shard
  abbrev pub only_here : (client : ℕ) → Option Insertion → Option Insertion
  only_here client None = None
  only_here client (Some i) = at (client == c) (shard_in cache i.key == s)
    where
      at : Bool → Bool → Option Insertion
      at true true = Some i
      at true false = None
      at false b = None

  -- the lines of the client that placed an entry at this shard, from a place on
  abbrev pub placed_on : (from : ℕ) → List RunLine → List Answer → List Placed
  placed_on from [] told = []
  placed_on from (line ∷ lines) [] = []
  placed_on from (line ∷ lines) (answer ∷ told) =
      with_placed (only_here line.client (placed_by line.call answer)) from
      (placed_on (from + 1) lines told)

  -- what is of this client at this shard was placed by it there
  record IsHere (client : ℕ) (placed : Option Insertion) (i : Insertion) : Type 0 where
    was : placed ≡ Some i
    client_is : client ≡ c
    shard_is : shard_in cache i.key ≡ s

  here_is : (client : ℕ) (placed : Option Insertion) (i : Insertion)
      → only_here client placed ≡ Some i → IsHere client placed i
  here_is client None i told = cc
  here_is client (Some j) i told =
      elim (cases_eq client c) [
        | inl mine ↦
            let on : (client == c) ≡ true = search (rules, tests) in
            elim (cases_eq (shard_in cache j.key) s) [
              | inl there ↦
                  let at : (shard_in cache j.key == s) ≡ true = search (rules, tests) in
                  let same : Some j ≡ Some i = rw (on, at) at told in
                  let is : j ≡ i = cc in
                  record { was = same; client_is = mine; shard_is = rw (← is) there }
              | inr other ↦
                  let at : (shard_in cache j.key == s) ≡ false = search (rules, tests) in
                  let no : None ≡ Some i = rw (on, at) at told in cc
            ]
        | inr other ↦
            let on : (client == c) ≡ false = search (rules, tests) in
            let no : None ≡ Some i = rw on at told in cc
      ]

  -- A member of that list: the line at its place was answered that its entry was placed.
  pub record IsPlacedAt (from : ℕ) (lines : List RunLine) (told : List Answer) (p : Placed)
      : Type 0 where
    pub k : ℕ
    pub place : p.place ≡ from + k
    pub line : RunLine
    pub answer : Answer
    pub here : slice_get lines k ≡ Some line
    pub said : slice_get told k ≡ Some answer
    pub placed : placed_by line.call answer ≡ Some p.insertion
    pub client_is : line.client ≡ c
    pub shard_is : shard_in cache p.insertion.key ≡ s

  later : (from : ℕ) (line : RunLine) (lines : List RunLine) (answer : Answer)
      (told : List Answer) (p : Placed) → IsPlacedAt (from + 1) lines told p
      → IsPlacedAt from (line ∷ lines) (answer ∷ told) p
  later from line lines answer told p m =
      let place = m.place in
      record {
        k = suc m.k;
        place = omega arith;
        line = m.line;
        answer = m.answer;
        here = m.here;
        said = m.said;
        placed = m.placed;
        client_is = m.client_is;
        shard_is = m.shard_is;
      }

  pub member : (from : ℕ) (lines : List RunLine) (told : List Answer) (i : ℕ) (p : Placed)
      → slice_get (placed_on from lines told) i ≡ Some p → IsPlacedAt from lines told p
  member from [] told i p at = cc
  member from (line ∷ lines) [] i p at = cc
  member from (line ∷ lines) (answer ∷ told) i p at =
      by (λ k on. later from line lines answer told p (member (from + 1) lines told k p on))
      (only_here line.client (placed_by line.call answer)) refl i at
    where
      by : ((k : ℕ) → slice_get (placed_on (from + 1) lines told) k ≡ Some p
          → IsPlacedAt from (line ∷ lines) (answer ∷ told) p)
          → (o : Option Insertion) → only_here line.client (placed_by line.call answer) ≡ o
          → (i : ℕ) → slice_get (with_placed o from (placed_on (from + 1) lines told)) i ≡ Some p
          → IsPlacedAt from (line ∷ lines) (answer ∷ told) p
      by rest None is i at = rest i at
      by rest (Some j) is (suc i) at = rest i at
      by rest (Some j) is zero at =
          let same : record { place = from; insertion = j } ≡ p = cc in
          let h = here_is line.client (placed_by line.call answer) j is in
          rw (← same) (record {
            k = 0;
            place = omega arith;
            line = line;
            answer = answer;
            here = refl;
            said = refl;
            placed = h.was;
            client_is = h.client_is;
            shard_is = h.shard_is;
          })

  -- no place stands twice in it
  pub member_once : (from : ℕ) (lines : List RunLine) (told : List Answer) (i j : ℕ)
      (p q : Placed) → slice_get (placed_on from lines told) i ≡ Some p
      → slice_get (placed_on from lines told) j ≡ Some q → p.place ≡ q.place → i ≡ j
  member_once from [] told i j p q at on same = cc
  member_once from (line ∷ lines) [] i j p q at on same = cc
  member_once from (line ∷ lines) (answer ∷ told) i j p q at on same =
      by (λ k l here there. member_once (from + 1) lines told k l p q here there same)
      (only_here line.client (placed_by line.call answer)) i j at on
    where
      by : ((k l : ℕ) → slice_get (placed_on (from + 1) lines told) k ≡ Some p
          → slice_get (placed_on (from + 1) lines told) l ≡ Some q → k ≡ l)
          → (o : Option Insertion) (i j : ℕ)
          → slice_get (with_placed o from (placed_on (from + 1) lines told)) i ≡ Some p
          → slice_get (with_placed o from (placed_on (from + 1) lines told)) j ≡ Some q → i ≡ j
      by rest None i j at on = rest i j at on
      by rest (Some x) zero zero at on = refl
      by rest (Some x) zero (suc j) at on =
          let first : record { place = from; insertion = x } ≡ p = cc in
          let is : from ≡ p.place = ap (λ (r : Placed). r.place) first in
          let m = (member (from + 1) lines told j q on).place in
          absurd (omega arith)
      by rest (Some x) (suc i) zero at on =
          let first : record { place = from; insertion = x } ≡ q = cc in
          let is : from ≡ q.place = ap (λ (r : Placed). r.place) first in
          let m = (member (from + 1) lines told i p at).place in
          absurd (omega arith)
      by rest (Some x) (suc i) (suc j) at on = ap suc (rest i j at on)

  -- One line: what it adds to what the client made at this shard.
  abbrev pub AddsHere : Option Insertion → (old new : Client T) → Type 0
  AddsHere None old new = made_in s new ≡ made_in s old
  AddsHere (Some i) old new =
      (m : Made) × (m.charge ≡ i.charge) × (made_in s new ≡ made_in s old ++ m ∷ [])

  pub adds_here : (alone : ℕ) (placed : Option Insertion) (old new : Client T)
      → Adds cache alone placed old new → AddsHere (only_here c placed) old new
  adds_here alone None old new none = none.same s
  adds_here alone (Some i) old new one =
      let on : (c == c) ≡ true = search (rules, tests) in
      elim (cases_eq (shard_in cache i.key) s) [
        | inl there ↦
            let at : (shard_in cache i.key == s) ≡ true = search (rules, tests) in
            rw (on, at) (one.made, one.charge_is, rw (← there) one.more)
        | inr other ↦
            let at : (shard_in cache i.key == s) ≡ false = search (rules, tests) in
            rw (on, at) (one.others s (λ e. other (sym e)))
      ]

  pub numbers : (alone : ℕ) (placed : Option Insertion) (old new : Client T)
      → Adds cache alone placed old new → new.number ≡ old.number
  numbers alone None old new none = none.number
  numbers alone (Some i) old new one = one.number

  pub others_none : (client : ℕ) (placed : Option Insertion) → client ≢ c
      → only_here client placed ≡ None
  others_none client None other = refl
  others_none client (Some i) other =
      let on : (client == c) ≡ false = search (rules, tests) in rw on refl

  -- What lines add to what a client made at this shard.
  pub record MadeBy (placed : List Placed) (old new : Client T) : Type 0 where
    pub more : List Made
    pub made : made_in s new ≡ made_in s old ++ more
    pub charges : AllWith IsChargedAs more placed
    pub number : new.number ≡ old.number

  pub made_first : (o : Option Insertion) (from : ℕ) (placed : List Placed)
      (old mid new : Client T) → AddsHere o old mid → mid.number ≡ old.number
      → MadeBy placed mid new → MadeBy (with_placed o from placed) old new
  made_first None from placed old mid new same number rest = record {
    more = rest.more;
    made = rest.made ∙ ap (λ l. l ++ rest.more) same;
    charges = rest.charges;
    number = rest.number ∙ number;
  }
  made_first (Some i) from placed old mid new one number rest = record {
    more = one.0 ∷ rest.more;
    made = rest.made ∙ ap (λ l. l ++ rest.more) one.2
        ∙ append_assoc (made_in s old) (one.0 ∷ []) rest.more;
    charges = (one.1, rest.charges);
    number = rest.number ∙ number;
  }

  module _ (fits : T → Key → List ℕ → Type 0) where
    -- a line of the client, or of another
    line_adds : (line : RunLine) (answer : Answer) (old new : List (Client T))
        (was now : List Registers) (client : Client T)
        → Makes fits cache line answer old new was now → slice_get old c ≡ Some client
        → (mid : Client T) × (slice_get new c ≡ Some mid)
        × AddsHere (only_here line.client (placed_by line.call answer)) client mid
        × (mid.number ≡ client.number)
    line_adds line answer old new was now client one at =
        elim (cases_eq line.client c) [
          | inl mine ↦
              let before : one.before ≡ client = cc (one.client_was, at, mine) in
              let all = adds fits cache line.call answer one.before one.after _ _ one.did in
              let here : slice_get new c ≡ Some one.after =
              ap (λ l. slice_get l c) one.clients_are ∙ set_there old line.client one.after client
              (rw mine at) mine in (
                one.after,
                here,
                rw (mine, ← before)
                    (adds_here (stood_by line.call answer) (placed_by line.call answer)
                    one.before one.after all),
                numbers (stood_by line.call answer) (placed_by line.call answer) one.before
                    one.after all
                    ∙ ap (λ (x : Client T). x.number) before,
              )
          | inr other ↦ (
            client,
            ap (λ l. slice_get l c) one.clients_are
                ∙ off_member old line.client c one.after (λ e. other (sym e)) ∙ at,
            rw (others_none line.client (placed_by line.call answer) other) refl,
            refl,
          )
        ]
      where
        set_there : (xs : List (Client T)) (n : ℕ) (x old : Client T) → slice_get xs n ≡ Some old
            → n ≡ c → slice_get (slice_set xs n x) c ≡ Some x
        set_there xs n x old at e = rw (← e) (set_at xs n x old at)
          where
            set_at : (xs : List (Client T)) (n : ℕ) (x old : Client T)
                → slice_get xs n ≡ Some old → slice_get (slice_set xs n x) n ≡ Some x
            set_at [] n x old at = cc
            set_at (y ∷ ys) zero x old at = refl
            set_at (y ∷ ys) (suc n) x old at = set_at ys n x old at

    -- all lines
    pub lines_add : (from : ℕ) (lines : List RunLine) (told : List Answer)
        (old new : List (Client T)) (was now : List Registers) (client last : Client T)
        → MakesAll fits cache lines told old new was now → slice_get old c ≡ Some client
        → slice_get new c ≡ Some last → MadeBy (placed_on from lines told) client last
    lines_add from [] [] old new was now client last makes at on =
        let same : last ≡ client = cc (on, at, makes.0) in
        rw same (record {
          more = [];
          made = sym (append-nil (made_in s client));
          charges = tt;
          number = refl;
        })
    lines_add from [] (a ∷ told) old new was now client last makes at on = absurd makes
    lines_add from (l ∷ lines) [] old new was now client last makes at on = absurd makes
    lines_add from (l ∷ lines) (a ∷ told) old new was now client last makes at on =
        let mid = line_adds l a old makes.0 was makes.1 client makes.2 at in
        made_first (only_here l.client (placed_by l.call a)) from (placed_on (from + 1) lines told)
        client mid.0 last mid.2 mid.3
        (lines_add (from + 1) lines told makes.0 new makes.1 now mid.0 last makes.3 mid.1 on)

-- the placed insertion of something that was made
pub placed_of_made : (more : List Made) (placed : List Placed) (i : ℕ) (m : Made)
    → AllWith IsChargedAs more placed → slice_get more i ≡ Some m
    → (p : Placed) × (slice_get placed i ≡ Some p) × (m.charge ≡ p.insertion.charge)
placed_of_made [] placed i m all at = cc
placed_of_made (x ∷ more) [] i m all at = absurd all
placed_of_made (x ∷ more) (p ∷ placed) zero m all at =
    let same : x ≡ m = cc in (p, refl, ap (λ (y : Made). y.charge) (sym same) ∙ all.0)
placed_of_made (x ∷ more) (p ∷ placed) (suc i) m all at = placed_of_made more placed i m all.1 at
