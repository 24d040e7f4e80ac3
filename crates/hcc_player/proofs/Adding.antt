-- Tallies, a read at a time.
use Rattle.std.proofs.Common.{◌≡◌, inl, inr, ℕ, ◌+◌, ◌%◌, ◌^◌, ◌<◌, ◌≤◌, List, [], ◌∷◌, Option, Some, None, length, drop, get_or, refl, ap, arith}
use Rattle.std.proofs.lemmas.List.{drop_more, drop_all}
use Rattle.hcc_block.specs.Blocks.{block_of}
use Rattle.hcc_player.specs.declared.blocks.line.BlockRead.{BlockRead}
use Rattle.hcc_player.specs.declared.blocks.tally.ClientReport.{ClientReport}
use Rattle.hcc_player.specs.declared.blocks.tally.BlockTally.{BlockTally}
use Rattle.hcc_player.specs.Tally.{found_by, nothing, Adds, AddsAll, IsTally, count_there, count_missing, sum_found}

-- the next line, and those behind it
pub rest_is : (files : List (List ℕ)) (size : ℕ) (lines : List BlockRead) (k : ℕ) (d : BlockRead)
    → k < length lines
    → found_by files size (drop k lines)
    ≡ block_of files size (get_or lines k d).file (get_or lines k d).index
    ∷ found_by files size (drop (k + 1) lines)
rest_is files size lines k d within = ap (found_by files size) (drop_more lines k d within)

-- no line is left
pub rest_none : (files : List (List ℕ)) (size : ℕ) (lines : List BlockRead) (k : ℕ)
    → length lines ≤ k → found_by files size (drop k lines) ≡ []
rest_none files size lines k past = ap (found_by files size) (drop_all k lines past)

-- a read of a source that is steady at least as often
pub adds_for : (steady now : Type 0) (found : Option (List ℕ)) (old new : BlockTally)
    → (steady → now) → Adds now found old new → Adds steady found old new
adds_for steady now None old new keeps adds = adds
adds_for steady now (Some bytes) old new keeps (inl block) = inl block
adds_for steady now (Some bytes) old new keeps (inr fault) =
    inr (fault.0, λ s. fault.1 (keeps s))

-- What reads come to, from a tally on.
record Comes (steady : Type 0) (found : List (Option (List ℕ))) (old new : BlockTally)
    : Type 0 where
  there : new.blocks + new.faults ≡ old.blocks + old.faults + count_there found
  gone : new.missing ≡ old.missing + count_missing found
  exact : steady → (new.faults ≡ old.faults)
      × (new.sum % 2 ^ 64 ≡ (old.sum + sum_found found) % 2 ^ 64)
  small : old.sum < 2 ^ 64 → new.sum < 2 ^ 64

one_comes : (steady : Type 0) (one : Option (List ℕ)) (found : List (Option (List ℕ)))
    (old between new : BlockTally) → Adds steady one old between → Comes steady found between new
    → Comes steady (one ∷ found) old new
one_comes steady None found old between new adds rest =
    let there = rw adds at rest.there in
    let gone = rw adds at rest.gone in
    record {
      there = there;
      gone = omega arith;
      exact = λ s. rw adds at (rest.exact s);
      small = rw adds at rest.small;
    }
one_comes steady (Some bytes) found old between new (inl adds) rest =
    let there = rw adds at rest.there in
    let gone = rw adds at rest.gone in
    let small = rw adds at rest.small in
    record {
      there = omega arith;
      gone = gone;
      exact = λ s. let e = rw adds at (rest.exact s) in (e.0, let sum = e.1 in omega arith);
      small = λ before. small (omega arith);
    }
one_comes steady (Some bytes) found old between new (inr fault) rest =
    let there = rw fault.0 at rest.there in
    let gone = rw fault.0 at rest.gone in
    record {
      there = omega arith;
      gone = gone;
      exact = λ s. absurd (fault.1 s);
      small = rw fault.0 at rest.small;
    }

comes : (steady : Type 0) (found : List (Option (List ℕ))) (old new : BlockTally)
    → AddsAll steady found old new → Comes steady found old new
comes steady [] old new adds =
    rw adds (record {
      there = omega arith;
      gone = omega arith;
      exact = λ s. (refl, omega arith);
      small = λ before. before;
    })
comes steady (one ∷ found) old new adds =
    one_comes steady one found old adds.0 new adds.1 (comes steady found adds.0 new adds.2)

-- all lines were played
pub is_tally : (steady : Type 0) (found : List (Option (List ℕ))) (r : ClientReport)
    → AddsAll steady found nothing r.tally
    → r.hits + r.misses ≡ r.tally.blocks + r.tally.faults → r.tally.faults ≤ r.misses
    → IsTally steady found r
is_tally steady found r adds counted failed =
    let all = comes steady found nothing r.tally adds in
    let there = all.there in
    let gone = all.gone in
    let small = all.small (omega arith) in
    record {
      adds = adds;
      there = omega arith;
      gone = omega arith;
      counted = counted;
      failed = failed;
      had = omega arith;
      exact = λ s.
          let e = all.exact s in
          let faults = e.0 in
          let sum = e.1 in
          (omega arith, faults, omega arith);
    }

-- reads of a source that is steady at least as often
pub all_for : (steady now : Type 0) (found : List (Option (List ℕ))) (old new : BlockTally)
    → (steady → now) → AddsAll now found old new → AddsAll steady found old new
all_for steady now [] old new keeps adds = adds
all_for steady now (one ∷ found) old new keeps adds = (
  adds.0,
  adds_for steady now one old adds.0 keeps adds.1,
  all_for steady now found adds.0 new keeps adds.2,
)

-- a tally of such reads
pub tally_for : (steady now : Type 0) (found : List (Option (List ℕ))) (r : ClientReport)
    → (steady → now) → IsTally now found r → IsTally steady found r
tally_for steady now found r keeps tally = record {
  adds = all_for steady now found nothing r.tally keeps tally.adds;
  there = tally.there;
  gone = tally.gone;
  counted = tally.counted;
  failed = tally.failed;
  had = tally.had;
  exact = λ s. tally.exact (keeps s);
}
