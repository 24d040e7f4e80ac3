-- What is left of a play of block reads are blocks that lines name, of no line twice.
use Rattle.std.proofs.Common.{◌≡◌, ◌≢◌, ℕ, zero, suc, ◌+◌, ◌<◌, ◌≤◌, inl, inr, List, [], ◌∷◌, ◌++◌}
use Rattle.std.proofs.Common.{Option, Some, None, IsSome, Result, Ok, Err, length, map, refl, sym, ap}
use Rattle.std.proofs.Common.{◌∙◌, append-nil, arith}
use Rattle.std.specs.Prelude.{slice_get}
use Rattle.std.proofs.lemmas.Bool.{cases_eq}
use Rattle.std.proofs.lemmas.Option.{slice_get_within}
use Rattle.hcc_core.specs.Sums.{total}
use Rattle.hcc_rule.proofs.Basics.Lists.{there}
use Rattle.hcc_rule.specs.declared.key.Key.{Key}
use Rattle.hcc_shard.specs.Left.{charges_left, slots_left}
use Rattle.hcc_cache.specs.declared.cache.Cache.{Cache}
use Rattle.hcc_cache.specs.declared.client.Client.{Client}
use Rattle.hcc_cache.specs.declared.closed.Closed.{Closed}
use Rattle.hcc_cache.specs.declared.config.Config.{Config}
use Rattle.hcc_cache.specs.declared.errors.InsertError.{InsertError}
use Rattle.hcc_cache.specs.declared.inserting.Inserted.{Inserted}
use Rattle.hcc_cache.specs.declared.inserting.Inserted.TheVariants as inserted
use Rattle.hcc_cache.specs.declared.priority.Priority.TheVariants.{Low}
use Rattle.hcc_cache.specs.Clients.{Insertion}
use Rattle.hcc_cache.specs.Closings.{IsClosed}
use Rattle.hcc_cache.specs.Left.{over_shards}
use Rattle.hcc_cache.specs.Opened.{IsOpened}
use Rattle.hcc_block.specs.Blocks.{block_of, key_of}
use Rattle.hcc_block.specs.Reads.{Hands, Loads}
use Rattle.hcc_player.specs.declared.blocks.line.BlockRead.{BlockRead}
use Rattle.hcc_player.specs.declared.blocks.tally.ClientReport.{ClientReport}
use Rattle.hcc_player.specs.declared.run.answer.Answer.{Answer}
use Rattle.hcc_player.specs.declared.run.answer.Answer.TheVariants as answers
use Rattle.hcc_player.specs.declared.run.call.Call.{Call}
use Rattle.hcc_player.specs.declared.run.call.Call.TheVariants as calls
use Rattle.hcc_player.specs.declared.run.call.RunLine.{RunLine}
use Rattle.hcc_player.specs.declared.sums.Sums.{Sums}
use Rattle.hcc_player.specs.BlocksLeft.{LeavesBlocks, block_at, length_of, reads_by}
use Rattle.hcc_player.specs.Reading.{HitCounts, ReadsLine, ReadsLines, counts_of, no_counts}
use Rattle.hcc_player.specs.RunAnswers.{insert_answer}
use Rattle.hcc_player.specs.Runs.{placed_at, placed_by}
use Rattle.hcc_player.specs.RunStates.{charge_of}
use Rattle.hcc_player.specs.Tally.{found_by}
use Rattle.hcc_player.proofs.BlocksLeft.{copies_none, lacks_none}
use Rattle.hcc_player.proofs.LeavesLemmas.{no_more}
use Rattle.hcc_player.proofs.LeftLemmas.{new_made}
use Rattle.hcc_player.proofs.MadeLemmas.{Adds, MadeNone, inserted_adds, made_in, none_same, none_then}
use Rattle.hcc_player.proofs.PlacedLeft.{FromLines, left_placed}
use Rattle.hcc_player.proofs.PlacedLemmas.{MadeBy, Placed, adds_here, made_first, numbers, only_here}
use Rattle.hcc_player.proofs.PlacedLemmas.{others_none, placed_on, with_placed}

-- Reads as calls: a miss that inserts its block is an insertion, and any other read none.

module _ (files : List (List ℕ)) (size : ℕ) where
  -- what was placed is the block that the line names, and costs its length
  abbrev pub Names : BlockRead → Option Insertion → Type 0
  Names line None = Unit {0}
  Names line (Some i) =
      (block_of files size line.file line.index ≡ Some i.value) × (i.charge ≡ length i.value)

  -- a read, with a call and its answer that place the same
  pub record ReadAs : Type 0 where
    pub line : BlockRead
    pub call : RunLine
    pub answer : Answer
    pub names : Names line (placed_by call.call answer)

  abbrev pub lines_in : List ReadAs → List BlockRead
  lines_in reads = map (λ r. r.line) reads

  abbrev pub calls_in : List ReadAs → List RunLine
  calls_in reads = map (λ r. r.call) reads

  abbrev pub told_in : List ReadAs → List Answer
  told_in reads = map (λ r. r.answer) reads

  -- this holds of the client of each of them
  abbrev pub AreBy : (ℕ → Type 0) → List ReadAs → Type 0
  AreBy P [] = Unit {0}
  AreBy P (r ∷ reads) = P r.call.client × AreBy P reads

  by_more : (P Q : ℕ → Type 0) → ((k : ℕ) → P k → Q k) → (reads : List ReadAs) → AreBy P reads
      → AreBy Q reads
  by_more P Q more [] all = tt
  by_more P Q more (r ∷ reads) all = (more r.call.client all.0, by_more P Q more reads all.1)

  by_both : (P : ℕ → Type 0) (xs ys : List ReadAs) → AreBy P xs → AreBy P ys → AreBy P (xs ++ ys)
  by_both P [] ys first then = then
  by_both P (x ∷ xs) ys first then = (first.0, by_both P xs ys first.1 then)

  lines_both : (xs ys : List ReadAs) → lines_in (xs ++ ys) ≡ lines_in xs ++ lines_in ys
  lines_both [] ys = refl
  lines_both (x ∷ xs) ys = ap (λ l. x.line ∷ l) (lines_both xs ys)

  -- what was placed at a place is the block that its line names
  placed_is : (line : BlockRead) (o : Option Insertion) (i : Insertion) → Names line o
      → o ≡ Some i
      → (block_of files size line.file line.index ≡ Some i.value) × (i.charge ≡ length i.value)
  placed_is line None i names is = cc
  placed_is line (Some j) i names is = let same : j ≡ i = cc in rw (← same) names

  found_there : (reads : List ReadAs) (place : ℕ) (i : Insertion)
      → placed_at (calls_in reads) (told_in reads) place ≡ Some i
      → (block_at (found_by files size (lines_in reads)) place ≡ Some i.value)
      × (i.charge ≡ length i.value)
  found_there [] place i at = cc
  found_there (r ∷ reads) zero i at =
      placed_is r.line (placed_by r.call.call r.answer) i r.names at
  found_there (r ∷ reads) (suc place) i at = found_there reads place i at

  module _ {T : Type 0} (cache : Cache T) (k s : ℕ) where
    abbrev placed_for : (from : ℕ) → List ReadAs → List Placed
    placed_for from reads = placed_on cache k s from (calls_in reads) (told_in reads)

    -- what others' reads place is not of this client
    none_for : (from : ℕ) (reads : List ReadAs) → AreBy (λ c. c ≢ k) reads
        → placed_for from reads ≡ []
    none_for from [] others = refl
    none_for from (r ∷ reads) others =
        rw (others_none cache k s r.call.client (placed_by r.call.call r.answer) others.0)
        (none_for (from + 1) reads others.1)

    first_for : (from : ℕ) (xs ys : List ReadAs) → AreBy (λ c. c ≢ k) ys
        → placed_for from (xs ++ ys) ≡ placed_for from xs
    first_for from [] ys others = none_for from ys others
    first_for from (x ∷ xs) ys others =
        ap (λ l. with_placed (only_here cache k s x.call.client (placed_by x.call.call x.answer))
        from l) (first_for (from + 1) xs ys others)

    last_for : (from : ℕ) (xs ys : List ReadAs) → AreBy (λ c. c ≢ k) xs
        → placed_for from (xs ++ ys) ≡ placed_for (from + length xs) ys
    last_for from [] ys others =
        let same : from ≡ from + 0 = omega arith in ap (λ n. placed_for n ys) same
    last_for from (x ∷ xs) ys others =
        let same : from + 1 + length xs ≡ from + suc (length xs) = omega arith in
        rw (others_none cache k s x.call.client (placed_by x.call.call x.answer) others.0)
        (last_for (from + 1) xs ys others.1 ∙ ap (λ n. placed_for n ys) same)

-- Of one client.

module _ {T : Type 0} (fits : T → Key → List ℕ → Type 0) (cache : Cache T)
    (files : List (List ℕ)) (size : ℕ) where
  -- what is added after nothing was
  then_adds : (o : Option Insertion) (old mid new : Client T) → MadeNone 0 old mid
      → Adds cache 0 o mid new → Adds cache 0 o old new
  then_adds None old mid new none added = none_then old mid new none added
  then_adds (Some i) old mid new none added = record {
    within = added.within;
    made = added.made;
    charge_is = added.charge_is;
    more = added.more ∙ ap (λ l. l ++ added.made ∷ []) (none.same _);
    others = λ s other. added.others s other ∙ none.same s;
    stands = λ s. let few = none.stands s in let fewer = added.stands s in omega arith;
    number = added.number ∙ none.number;
  }

  -- a line that was read is a call that was answered
  record AsLine (k : ℕ) (line : BlockRead) (was is : Client T) : Type 0 where
    read : ReadAs files size
    line_is : read.line ≡ line
    mine : read.call.client ≡ k
    added : Adds cache 0 (placed_by read.call.call read.answer) was is

  nothing_placed : (k : ℕ) (line : BlockRead) (was is : Client T) → MadeNone 0 was is
      → AsLine k line was is
  nothing_placed k line was is none = record {
    read = record {
      line = line;
      call = record { client = k; call = calls.Stats };
      answer = answers.Nothing;
      names = tt;
    };
    line_is = refl;
    mine = refl;
    added = none;
  }

  abbrev handed : BlockRead → List ℕ → Call
  handed line value = calls.Insert (key_of line.file line.index) (length value) Low value

  handed_names : (line : BlockRead) (value : List ℕ) (answer : Result Inserted InsertError)
      → block_of files size line.file line.index ≡ Some value
      → Names files size line (placed_by (handed line value) (insert_answer answer))
  handed_names line value (Ok inserted.Placed) is = (is, refl)
  handed_names line value (Ok inserted.Dropped) is = tt
  handed_names line value (Ok inserted.Standalone) is = tt
  handed_names line value (Err error) is = tt

  -- what was handed to an insertion was made as its answer says
  hands_adds : (line : BlockRead) (value : List ℕ) (old new : Client T)
      (hands : Hands cache (key_of line.file line.index) fits value old new)
      → Adds cache 0 (placed_by (handed line value) (insert_answer hands.answer)) old new
  hands_adds line value old new hands =
      inserted_adds fits cache (key_of line.file line.index) (length value) Low value hands.answer
      (insert_answer hands.answer) old new refl hands.inserts hands.evicts

  block_placed : (k : ℕ) (line : BlockRead) (was is : Client T)
      → Loads cache (key_of line.file line.index) fits
      (block_of files size line.file line.index) was is → AsLine k line was is
  block_placed k line was is load =
      let hands = load.hands in
      let answer = insert_answer hands.answer in
      record {
        read = record {
          line = line;
          call = record { client = k; call = handed line load.value };
          answer = answer;
          names = handed_names line load.value hands.answer load.is;
        };
        line_is = refl;
        mine = refl;
        added = then_adds (placed_by (handed line load.value) answer) was load.looked is
            (lacks_none fits cache (length cache.shards.items) _ was load.looked load.lacks)
            (hands_adds line load.value load.looked is hands);
      }

  as_line : (k : ℕ) (line : BlockRead) (old new : HitCounts) (was is : Client T)
      → ReadsLine fits cache files size line old new was is → AsLine k line was is
  as_line k line old new was is read = elim read [
    | inl hit ↦
        nothing_placed k line was is
        (copies_none fits cache (length cache.shards.items) _ was is hit.0)
    | inr (inl miss) ↦ block_placed k line was is miss.0
    | inr (inr (inl fault)) ↦
        nothing_placed k line was is
        (lacks_none fits cache (length cache.shards.items) _ was is fault.0)
    | inr (inr (inr none)) ↦ nothing_placed k line was is (none_same was is none.1)
  ]

  -- so are all lines of a client
  record AsLines (k : ℕ) (lines : List BlockRead) (was is : Client T) : Type 0 where
    reads : List (ReadAs files size)
    lines_are : lines_in files size reads ≡ lines
    mine : AreBy files size (λ c. c ≡ k) reads
    made : (s from : ℕ) → MadeBy cache k s (placed_for files size cache k s from reads) was is

  first_made : (k s from : ℕ) (line : BlockRead) (was mid is : Client T)
      (one : AsLine k line was mid) (reads : List (ReadAs files size))
      → MadeBy cache k s (placed_for files size cache k s (from + 1) reads) mid is
      → MadeBy cache k s (placed_for files size cache k s from (one.read ∷ reads)) was is
  first_made k s from line was mid is one reads rest =
      let placed = placed_by one.read.call.call one.read.answer in
      rw one.mine
      (made_first cache k s (only_here cache k s k placed) from
      (placed_for files size cache k s (from + 1) reads) was mid is
      (adds_here cache k s 0 placed was mid one.added)
      (numbers cache k s 0 placed was mid one.added) rest)

  as_lines : (k : ℕ) (lines : List BlockRead) (old new : HitCounts) (was is : Client T)
      → ReadsLines fits cache files size lines old new was is → AsLines k lines was is
  as_lines k [] old new was is read = record {
    reads = [];
    lines_are = refl;
    mine = tt;
    made = λ s from. record {
      more = [];
      made = ap (made_in s) read.1 ∙ sym (append-nil (made_in s was));
      charges = tt;
      number = ap (λ (c : Client T). c.number) read.1;
    };
  }
  as_lines k (line ∷ lines) old new was is read =
      let one = as_line k line old read.0 was read.1 read.2 in
      let rest = as_lines k lines read.0 new read.1 is read.3 in
      record {
        reads = one.read ∷ rest.reads;
        lines_are = ap (λ l. l ∷ lines_in files size rest.reads) one.line_is
            ∙ ap (λ l. line ∷ l) rest.lines_are;
        mine = (one.mine, rest.mine);
        made = λ s from.
            first_made k s from line was read.1 is one rest.reads (rest.made s (from + 1));
      }

-- Of all clients.

module _ {T : Type 0} (fits : T → Key → List ℕ → Type 0) (config : Config) (tag : T)
    (cache : Cache T) (files : List (List ℕ)) (size : ℕ) (reads_of : ℕ → List BlockRead)
    (first last : List (Client T)) (told : List ClientReport) (closed : Closed)
    (opened : IsOpened config tag cache first) (same : length last ≡ length first)
    (alike : length told ≡ length first)
    (each : (k : ℕ) (was is : Client T) (r : ClientReport) → slice_get first k ≡ Some was
    → slice_get last k ≡ Some is → slice_get told k ≡ Some r
    → ReadsLines fits cache files size (reads_of k) no_counts (counts_of r) was is)
    (closes : IsClosed fits cache last closed) where
  -- the reads of the clients below this number, one client's after another's
  record AllAs (n : ℕ) : Type 0 where
    reads : List (ReadAs files size)
    lines_are : lines_in files size reads ≡ reads_by reads_of n
    mine : AreBy files size (λ c. c < n) reads
    made : (k s : ℕ) (was is : Client T) → k < n → slice_get first k ≡ Some was
        → slice_get last k ≡ Some is
        → MadeBy cache k s (placed_for files size cache k s 0 reads) was is

  all_as : (n : ℕ) → n ≤ length first → AllAs n
  all_as zero within = record {
    reads = [];
    lines_are = refl;
    mine = tt;
    made = λ k s was is low at on. absurd (omega arith);
  }
  all_as (suc n) within =
      let rest = all_as n (omega arith) in
      let before = there first n (omega arith) in
      let after = there last n (omega arith) in
      let report = there told n (omega arith) in
      let one = as_lines fits cache files size n (reads_of n) no_counts (counts_of report.0)
      before.0 after.0 (each n before.0 after.0 report.0 before.1 after.1 report.1) in
      record {
        reads = rest.reads ++ one.reads;
        lines_are = lines_both files size rest.reads one.reads
            ∙ ap (λ l. l ++ lines_in files size one.reads) rest.lines_are
            ∙ ap (λ l. reads_by reads_of n ++ l) one.lines_are;
        mine = by_both files size (λ c. c < suc n) rest.reads one.reads
            (by_more files size (λ c. c < n) (λ c. c < suc n) (λ c low. omega arith) rest.reads
            rest.mine)
            (by_more files size (λ c. c ≡ n) (λ c. c < suc n) (λ c is. omega arith) one.reads
            one.mine);
        made = λ k s was is low at on. elim (cases_eq k n) [
          | inl here ↦
              let others = by_more files size (λ c. c < n) (λ c. c ≢ k)
              (λ c less e. absurd (omega (arith, here, e))) rest.reads rest.mine in
              let old : before.0 ≡ was = cc (before.1, at, here) in
              let new : after.0 ≡ is = cc (after.1, on, here) in
              rw (last_for files size cache k s 0 rest.reads one.reads others, here, ← old, ← new)
              (one.made s (0 + length rest.reads))
          | inr other ↦
              let others = by_more files size (λ c. c ≡ n) (λ c. c ≢ k)
              (λ c is e. absurd (other (sym e ∙ is))) one.reads one.mine in
              rw (first_for files size cache k s 0 rest.reads one.reads others)
              (rest.made k s was is (omega (arith, low, other)) at on)
        ];
      }

  all : AllAs (length first)
  all = all_as (length first) (omega arith)

  abbrev all_reads : List (ReadAs files size)
  all_reads = all.reads

  from_reads : (k s : ℕ) (client : Client T) → s < length cache.shards.items
      → slice_get last k ≡ Some client
      → FromLines cache (calls_in files size all_reads) (told_in files size all_reads) k s client
  from_reads k s client within at =
      let low = slice_get_within last k client at in
      let new = there first k (omega arith) in
      let added = all.made k s new.0 client (omega arith) new.1 at in
      let nothing = no_more (made_in s new.0)
      (new_made config tag cache first opened s k new.0 within new.1) in
      let all : made_in s client ≡ added.more =
      added.made ∙ ap (λ l. l ++ added.more) nothing in
      record {
        charges = rw all added.charges;
        number = added.number ∙ (opened.dealt.each k new.0 new.1).unused.number_is;
      }

  -- what is placed there is a block of that length
  some_of : (o : Option Insertion) → IsSome o → (i : Insertion) × (o ≡ Some i)
  some_of None some = cc
  some_of (Some i) some = (i, refl)

  total_on : (f g : ℕ → ℕ) (xs : List ℕ)
      → ((k x : ℕ) → slice_get xs k ≡ Some x → f x ≡ g x) → total f xs ≡ total g xs
  total_on f g [] h = refl
  total_on f g (x ∷ xs) h =
      let first = h 0 x refl in
      let rest = total_on f g xs (λ k y at. h (suc k) y at) in
      omega arith

  pub leaves_blocks : (sums : Sums)
      → sums.slots ≡ over_shards closed.shards.items (λ left. slots_left left.table)
      → sums.charges ≡ over_shards closed.shards.items (λ left. charges_left left.table)
      → LeavesBlocks (found_by files size (reads_by reads_of (length first))) sums
  leaves_blocks sums slots_are charges_are =
      let left = left_placed fits cache (calls_in files size all_reads)
      (told_in files size all_reads) last closed from_reads closes sums slots_are charges_are in
      let block : (k place : ℕ) → slice_get left.places k ≡ Some place → (i : Insertion)
      × (placed_at (calls_in files size all_reads) (told_in files size all_reads) place ≡ Some i)
      × (block_at (found_by files size (lines_in files size all_reads)) place ≡ Some i.value)
      × (i.charge ≡ length i.value) =
      λ k place at.
      let some = some_of _ (left.placed k place at) in
      let there = found_there files size all_reads place some.0 some.1 in
      (some.0, some.1, there.0, there.1) in
      rw (← all.lines_are)
      (record {
        places = left.places;
        named = λ k place at. rw (block k place at).2 refl;
        apart = left.apart;
        slots = left.slots;
        charges = left.charges
            ∙ total_on _ _ left.places
            (λ k place at.
            let b = block k place at in
            ap charge_of b.1 ∙ b.3 ∙ ap length_of (sym b.2));
      })
