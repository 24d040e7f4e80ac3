-- A whole play of block reads: what is left was inserted for misses that weren't faults.
use Rattle.std.proofs.Common.{◌≡◌, ◌≢◌, ℕ, zero, suc, ◌+◌, ◌≤◌, inl, inr, false}
use Rattle.std.proofs.Common.{List}
use Rattle.std.proofs.Common.{[], ◌∷◌, ◌++◌, Some, Ok, Err, length, refl, sym}
use Rattle.std.proofs.Common.{ap, ◌∙◌, arith}
use Rattle.std.specs.Prelude.{slice_get}
use Rattle.std.specs.List.{range_with_len}
use Rattle.std.proofs.lemmas.Bool.{cases_eq}
use Rattle.hcc_core.specs.Sums.{total}
use Rattle.hcc_rule.proofs.LastSeat.ClosingSums.{total_both}
use Rattle.hcc_rule.specs.declared.key.Key.{Key}
use Rattle.hcc_rule.specs.declared.view.Made.{Made}
use Rattle.hcc_shard.specs.Left.{slots_left}
use Rattle.hcc_cache.specs.declared.cache.Cache.{Cache}
use Rattle.hcc_cache.specs.declared.client.Client.{Client}
use Rattle.hcc_cache.specs.declared.closed.Closed.{Closed}
use Rattle.hcc_cache.specs.declared.config.Config.{Config}
use Rattle.hcc_cache.specs.declared.inserting.Inserted.TheVariants as inserted
use Rattle.hcc_cache.specs.declared.priority.Priority.TheVariants.{Low}
use Rattle.hcc_cache.specs.Calls.{shard_in}
use Rattle.hcc_cache.specs.Closings.{AreBack, IsClosed}
use Rattle.hcc_cache.specs.Inserts.{Inserts}
use Rattle.hcc_cache.specs.Left.{over_shards}
use Rattle.hcc_cache.specs.Opened.{IsOpened}
use Rattle.hcc_cache.specs.Totals.{taken_by}
use Rattle.hcc_block.specs.Reads.{Copies, Hands, Lacks}
use Rattle.hcc_player.specs.declared.blocks.line.BlockRead.{BlockRead}
use Rattle.hcc_player.specs.declared.blocks.tally.ClientReport.{ClientReport}
use Rattle.hcc_player.specs.Reading.{HitCounts, ReadsLine, ReadsLines, counts_of, no_counts}
use Rattle.hcc_player.proofs.CountLemmas.{range_same}
use Rattle.hcc_player.proofs.LeftLemmas.{closed_left, opened_none}
use Rattle.hcc_player.proofs.MadeLemmas.{MadeNone, listed, made_in, none_same, none_then}
use Rattle.hcc_player.proofs.MadeLemmas.{none_works}
use Rattle.hcc_player.proofs.MadeLemmas.{gives_none, none_rests, refused_none, stores_none}

-- Sums over shards and over clients.

-- one shard gives one more, if it is among them
range_most : (f g : ℕ → ℕ) (here from n : ℕ) → f here ≡ g here + 1
    → ((s : ℕ) → s ≢ here → f s ≡ g s)
    → total f (range_with_len from n) ≤ total g (range_with_len from n) + 1
range_most f g here from zero more others = omega arith
range_most f g here from (suc n) more others =
    elim (cases_eq from here) [
      | inl same ↦
          let first : f from ≡ g from + 1 = rw same more in
          let rest = range_same f g (from + 1) n
          (λ s above within. others s (λ e. absurd (omega (arith, e)))) in
          omega arith
      | inr other ↦
          let first = others from other in
          let rest = range_most f g here (from + 1) n more others in
          omega arith
    ]

-- a sum of sums, the other way round
total_swap : {A : Type 0} (f : ℕ → A → ℕ) (xs : List A) (ns : List ℕ)
    → total (λ x. total (λ n. f n x) ns) xs ≡ total (λ n. total (λ x. f n x) xs) ns
total_swap f [] ns = zeros ns
  where
    zeros : (ns : List ℕ) → 0 ≡ total (λ (n : ℕ). 0) ns
    zeros [] = refl
    zeros (n ∷ ns) = let rest = zeros ns in omega arith
total_swap f (x ∷ xs) ns =
    let rest = total_swap f xs ns in
    let both = total_both (λ n. f n x) (λ n. total (λ y. f n y) xs) ns in
    omega arith

longer : (xs : List Made) (x : Made) → length (xs ++ x ∷ []) ≡ length xs + 1
longer [] x = refl
longer (y ∷ ys) x = let rest = longer ys x in omega arith

module _ {T : Type 0} where
  -- how many entries a client made at so many shards
  abbrev made_by_one : ℕ → Client T → ℕ
  made_by_one count client = total (λ s. length (made_in s client)) (range_with_len 0 count)

  none_made : (count : ℕ) (old new : Client T) → MadeNone 0 old new
      → made_by_one count new ≡ made_by_one count old
  none_made count old new none =
      range_same (λ s. length (made_in s new)) (λ s. length (made_in s old)) 0 count
      (λ s low high. ap length (none.same s))

module _ {T : Type 0} (fits : T → Key → List ℕ → Type 0) (cache : Cache T) (count : ℕ) where
  -- a block that was handed to an insertion
  hands_made : (key : Key) (value : List ℕ) (old new : Client T)
      → Hands cache key fits value old new
      → made_by_one count new ≤ made_by_one count old + 1
  hands_made key value old new hands = by hands.answer hands.inserts
    where
      by : (answer : _) → Inserts cache key (length value) Low value answer old new
          → made_by_one count new ≤ made_by_one count old + 1
      by (Ok inserted.Placed) s =
          range_most (λ n. length (made_in n new)) (λ n. length (made_in n old))
          (shard_in cache key) 0 count
          (ap length (ap listed s.works.after ∙ ap listed s.told.1.tries.same
          ∙ sym (ap (λ v. listed v ++ _ ∷ []) s.works.before))
          ∙ longer (made_in (shard_in cache key) old) _)
          (λ n other. ap (λ v. length (listed v)) (s.works.others n other))
      by (Ok inserted.Dropped) s =
          let same = none_made count old new
          (stores_none cache key (length value) Low value old new s) in
          omega arith
      by (Ok inserted.Standalone) s = absurd s
      by (Err error) s =
          let same = none_made count old new
          (refused_none cache key (length value) Low value error old new s) in
          omega arith

  pub lacks_none : (key : Key) (old new : Client T) → Lacks cache key fits old new
      → MadeNone 0 old new
  lacks_none key old new lacks = elim lacks [
    | inl refused ↦ none_same old new refused.1
    | inr missed ↦
        none_works _ old new missed.0.v missed.0.w _ missed.0.works
        missed.0.misses.sought.searched.same refl refl
  ]

  pub copies_none : (key : Key) (old new : Client T) → Copies cache key fits old new
      → MadeNone 0 old new
  copies_none key old new c =
      none_then old c.found new
      (none_works _ old c.found c.finds.v c.finds.w _ c.finds.works c.finds.finds.searched.same
      refl refl)
      (none_then c.found c.was new (none_rests c.found c.was c.reads.rests)
      (gives_none cache c.handle false c.freed c.was new c.releases))

  module _ (files : List (List ℕ)) (size : ℕ) where
    -- what a read makes is within the misses that aren't faults
    line_made : (line : BlockRead) (old new : HitCounts) (was is : Client T)
        → ReadsLine fits cache files size line old new was is
        → made_by_one count is + new.faults + old.misses
        ≤ made_by_one count was + new.misses + old.faults
    line_made line old new was is read = elim read [
      | inl hit ↦
          let same = none_made count was is (copies_none _ was is hit.0) in
          rw hit.1 (omega arith)
      | inr (inl miss) ↦
          let same = none_made count was miss.0.looked (lacks_none _ was miss.0.looked miss.0.lacks)
          in
          let more = hands_made _ _ miss.0.looked is miss.0.hands in
          rw miss.1 (omega arith)
      | inr (inr (inl fault)) ↦
          let same = none_made count was is (lacks_none _ was is fault.0) in
          rw fault.1 (omega arith)
      | inr (inr (inr none)) ↦
          let same = none_made count was is (none_same was is none.1) in
          rw none.2 (omega arith)
    ]

    lines_made : (lines : List BlockRead) (old new : HitCounts) (was is : Client T)
        → ReadsLines fits cache files size lines old new was is
        → made_by_one count is + new.faults + old.misses
        ≤ made_by_one count was + new.misses + old.faults
    lines_made [] old new was is reads = rw (reads.0, reads.1) (omega arith)
    lines_made (line ∷ lines) old new was is reads =
        let first = line_made line old reads.0 was reads.1 reads.2 in
        let rest = lines_made lines reads.0 new reads.1 is reads.3 in
        omega arith

module _ {T : Type 0} (count : ℕ) where
  -- so it is of all clients
  all_made : (first last : List (Client T)) (told : List ClientReport)
      → length last ≡ length first → length told ≡ length first
      → ((k : ℕ) (was is : Client T) (r : ClientReport) → slice_get first k ≡ Some was
      → slice_get last k ≡ Some is → slice_get told k ≡ Some r
      → made_by_one count is + r.tally.faults ≤ made_by_one count was + r.misses)
      → total (made_by_one count) last + total (λ r. r.tally.faults) told
      ≤ total (made_by_one count) first + total (λ r. r.misses) told
  all_made [] [] [] same alike each = omega arith
  all_made [] [] (r ∷ told) same alike each = absurd (omega arith)
  all_made [] (d ∷ last) told same alike each = absurd (omega arith)
  all_made (c ∷ first) [] told same alike each = absurd (omega arith)
  all_made (c ∷ first) (d ∷ last) [] same alike each = absurd (omega arith)
  all_made (c ∷ first) (d ∷ last) (r ∷ told) same alike each =
      let one = each 0 c d r refl refl refl in
      let rest = all_made first last told (omega arith) (omega arith)
      (λ k was is s at on there. each (suc k) was is s at on there) in
      omega arith

-- What is left and what was taken are at most the misses that weren't faults.
pub few_left : {T : Type 0} (fits : T → Key → List ℕ → Type 0) (config : Config) (tag : T)
    (cache : Cache T) (files : List (List ℕ)) (size : ℕ) (reads_of : ℕ → List BlockRead)
    (first last : List (Client T)) (told : List ClientReport) (closed : Closed)
    → IsOpened config tag cache first → length last ≡ length first → length told ≡ length first
    → ((k : ℕ) (was is : Client T) (r : ClientReport) → slice_get first k ≡ Some was
    → slice_get last k ≡ Some is → slice_get told k ≡ Some r
    → ReadsLines fits cache files size (reads_of k) no_counts (counts_of r) was is)
    → AreBack cache last → IsClosed fits cache last closed
    → over_shards closed.shards.items (λ left. slots_left left.table) + total taken_by last
    + total (λ r. r.tally.faults) told
    ≤ total (λ r. r.misses) told
few_left fits config tag cache files size reads_of first last told closed opened same alike each
    back closes =
    let count = length cache.shards.items in
    let shards = range_with_len 0 count in
    let all = all_made count first last told same alike (λ k was is r at on there.
    let one = lines_made fits cache count files size (reads_of k) no_counts (counts_of r) was is
    (each k was is r at on there) in
    omega arith) in
    let left = closed_left fits cache last closed back closes in
    let begun = opened_none config tag cache first opened in
    let firsts = total_swap (λ s c. length (made_in s c)) first shards in
    let lasts = total_swap (λ s c. length (made_in s c)) last shards in
    omega arith
