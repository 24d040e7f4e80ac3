-- The reads that a trace says are of its clients.
use Rattle.std.proofs.Common.{◌≡◌, ℕ, zero, suc, ◌+◌, ◌<◌, ◌==◌, inl, inr, List, [], ◌∷◌, Option, Some, None, Result, Ok, Err, nat_lt, length, refl, arith}
use Rattle.std.specs.List.{All}
use Rattle.std.proofs.lemmas.Bool.{cases_Bool, ltb-true}
use Rattle.hcc_player.specs.declared.blocks.line.BlockRead.{BlockRead}
use Rattle.hcc_player.specs.declared.fault.ScriptFault.{ScriptFault}
use Rattle.hcc_player.specs.declared.fault.TextFault.{TextFault}
use Rattle.hcc_player.specs.BlocksLine.{block_line, block_read, reads_in}
use Rattle.hcc_player.specs.Number.{◌>>=◌, number_of, number_below, small_number_of}
use Rattle.hcc_player.specs.Script.{lines_of, script_from, script_of, ends_with, then_lines, last_fault}
use Rattle.hcc_player.specs.Words.{word_at, plain_words}

-- what was read in two parts
bound : {A B : Type 0} (read : Result A TextFault) (next : A → Result B TextFault) (b : B)
    → read >>= next ≡ Ok b → (a : A) × (next a ≡ Ok b) × (read ≡ Ok a)
bound (Ok a) next b e = (a, e, refl)
bound (Err fault) next b e = cc

-- a number below an end
below_end : (end : ℕ) (word : List ℕ) (n : ℕ) → number_below end word ≡ Ok n → n < end
unfolding number_below
below_end end word n e =
    let read = bound (number_of word) _ n e in
    elim (cases_Bool (nat_lt read.0 end)) [
      | inl small ↦
          let same : read.0 ≡ n = let found = rw small at read.1 in cc in
          rw (← same) (ltb-true read.0 end small)
      | inr large ↦ let no = rw large at read.1 in cc
    ]

-- the client that words name
read_below : (clients : ℕ) (words : List (List ℕ)) (read : BlockRead)
    → block_read clients words ≡ Ok read → read.client < clients
unfolding block_read
read_below clients words read e = elim (cases_Bool (length words == 3)) [
  | inl three ↦
      let client = bound (number_below clients (word_at words 0)) _ read (rw three at e) in
      let file = bound (small_number_of (word_at words 1)) _ read client.1 in
      let index = bound (small_number_of (word_at words 2)) _ read file.1 in
      let same : client.0 ≡ read.client = let whole = index.1 in cc in
      rw (← same) (below_end clients (word_at words 0) client.0 client.2)
  | inr other ↦ let no = rw other at e in cc
]

-- the client that a line names
pub line_below : (clients : ℕ) (line : List ℕ) (read : BlockRead)
    → block_line clients line ≡ Ok read → read.client < clients
line_below clients line read e =
    let words = bound (plain_words line) (block_read clients) read e in
    read_below clients words.0 read words.1

module _ {A : Type 0} (says : List ℕ → Result A TextFault) (P : A → Type 0)
    (each : (line : List ℕ) (said : A) → says line ≡ Ok said → P said) where
  said_all : (n : ℕ) (line : List ℕ) (here : Result A TextFault)
      (others : Result (List A) ScriptFault) (all : List A) → says line ≡ here
      → ((more : List A) → others ≡ Ok more → All P more) → then_lines n here others ≡ Ok all
      → All P all
  said_all n line (Ok said) (Ok more) all is rest e =
      let whole : said ∷ more ≡ all = cc in
      rw (← whole) (front (each line said is) (rest more refl))
    where
      front : P said → All P more → All P (said ∷ more)
      front first behind zero d within = first
      front first behind (suc k) d within = behind k d (omega arith)
  said_all n line (Ok said) (Err fault) all is rest e = cc
  said_all n line (Err fault) others all is rest e = cc

  none_said : (n : ℕ) (fault : Option TextFault) (all : List A) → ends_with n fault ≡ Ok all
      → All P all
  none_said n None all e =
      let none : [] ≡ all = cc in rw (← none) (λ k d within. absurd (omega arith))
  none_said n (Some fault) all e = cc

  -- what lines say, from this number on
  all_said : (n : ℕ) (lines : List (List ℕ)) (all : List A) → script_from says n lines ≡ Ok all
      → All P all
  all_said n [] all e =
      let none : [] ≡ all = cc in rw (← none) (λ k d within. absurd (omega arith))
  all_said n (line ∷ []) all e = none_said n (last_fault line) all e
  all_said n (line ∷ next ∷ more) all e =
      said_all n line (says line) (script_from says (n + 1) (next ∷ more)) all refl
      (all_said (n + 1) (next ∷ more)) e

-- the clients of all reads of a trace
pub all_below : (clients : ℕ) (text : List ℕ) (reads : List BlockRead)
    → reads_in clients text ≡ Ok reads → All (λ read. read.client < clients) reads
unfolding script_of
all_below clients text reads e =
    all_said (block_line clients) (λ read. read.client < clients) (line_below clients) 1
    (lines_of text) reads e
