-- A value is read exactly where the word is the text of its bytes.
use Rattle.std.proofs.Common.{◌≡◌, ℕ, ◌+◌, ◌-◌, ◌*◌, ◌/◌, ◌%◌, ◌<◌, ◌≤◌, ◌==◌, ◌&&◌, inl, inr, true}
use Rattle.std.proofs.Common.{false, nat_lt, nat_le, suc, List, [], ◌∷◌, ◌++◌, Result, Ok, Err}
use Rattle.std.proofs.Common.{IfOk, MatchResult, length, codes, if◌then◌else◌, refl, sym, ap, ◌∙◌}
use Rattle.std.proofs.Common.{arith, rules, tests}
use Rattle.std.specs.Char.{is_ascii_digit}
use Rattle.std.specs.Fmt.{digit_glyph}
use Rattle.std.specs.List.{All, flat_map}
use Rattle.std.specs.Str.{bytes_eq}
use Rattle.std.proofs.lemmas.Bool.{cases_Bool}
use Rattle.std.proofs.lemmas.Slice.Eq.{bytes_eq-Decides}
use Rattle.hcc_player.specs.declared.fault.TextFault.{TextFault}
use Rattle.hcc_player.specs.declared.fault.TextFault.TheVariants.{ValueTooLong}
use Rattle.hcc_player.specs.declared.fault.LineError.{LineError}
use Rattle.hcc_player.specs.declared.fault.LineError.TheVariants as errors
use Rattle.hcc_player.specs.Number.{◌>>=◌}
use Rattle.hcc_player.specs.Value.{hex_digit, byte_of, bytes_of, value_of, Fails}
use Rattle.hcc_player.specs.Text.{byte_text, value_text}

-- this byte is the lower-case digit of a number below 16
record IsDigit (byte digit : ℕ) : Type 0 where
  glyph : byte ≡ digit_glyph false digit
  small : digit < 16

-- a digit that was read
digit_read : (byte digit : ℕ) → hex_digit byte ≡ Ok digit → IsDigit byte digit
unfolding hex_digit
digit_read byte digit e =
    elim (cases_Bool (is_ascii_digit byte)) [
      | inl low ↦
          let read : Ok (byte - 48) ≡ Ok digit = rw low at e in
          let same : byte - 48 ≡ digit = cc in
          let within : (48 ≤ byte) × (byte ≤ 57) = search (rules, tests) in
          let one : nat_lt digit 10 ≡ true = search (rules, tests) in
          record { glyph = rw one (omega arith); small = omega arith }
      | inr high ↦
          elim (cases_Bool (nat_le 97 byte && nat_le byte 102)) [
            | inl letter ↦
                let read : Ok (byte - 97 + 10) ≡ Ok digit = rw (high, letter) at e in
                let same : byte - 97 + 10 ≡ digit = cc in
                let within : (97 ≤ byte) × (byte ≤ 102) = search (rules, tests) in
                let two : nat_lt digit 10 ≡ false = search (rules, tests) in
                record { glyph = rw two (omega arith); small = omega arith }
            | inr none ↦ let no = rw (high, none) at e in cc
          ]
    ]

-- the digit of a number is read as that number
digit_goes : (digit : ℕ) → digit < 16 → hex_digit (digit_glyph false digit) ≡ Ok digit
unfolding hex_digit
digit_goes digit small =
    elim (cases_Bool (nat_lt digit 10)) [
      | inl low ↦
          let within : digit < 10 = search (rules, tests) in
          let plain : is_ascii_digit (48 + digit) ≡ true = search (rules, tests) in
          rw (low, plain) (ap Ok (omega arith))
      | inr high ↦
          let beyond : 10 ≤ digit = search (rules, tests) in
          let letter : is_ascii_digit (87 + digit) ≡ false = search (rules, tests) in
          let within : (nat_le 97 (87 + digit) && nat_le (87 + digit) 102) ≡ true =
          search (rules, tests) in
          rw (high, letter, within) (ap Ok (omega arith))
    ]

byte_join : (high low byte : ℕ) (sixteens ones : Result ℕ TextFault)
    → hex_digit high ≡ sixteens → hex_digit low ≡ ones
    → (sixteens >>= λ s. ones >>= λ o. Ok (16 * s + o)) ≡ Ok byte → high ∷ low ∷ [] ≡ byte_text byte
byte_join high low byte (Ok s) (Ok o) h l e =
    let same : 16 * s + o ≡ byte = cc in
    let first = digit_read high s h in
    let second = digit_read low o l in
    let front : s ≡ byte / 16 = omega (arith, first.small, second.small) in
    let back : o ≡ byte % 16 = omega (arith, first.small, second.small) in
    rw (first.glyph, second.glyph, front, back) refl
byte_join high low byte (Ok s) (Err fault) h l e = cc
byte_join high low byte (Err fault) ones h l e = cc

-- two digits that were read are the text of their byte
byte_read : (high low byte : ℕ) → byte_of high low ≡ Ok byte → high ∷ low ∷ [] ≡ byte_text byte
unfolding byte_of
byte_read high low byte e = byte_join high low byte (hex_digit high) (hex_digit low) refl refl e

-- the text of a byte is read as that byte
byte_goes : (byte : ℕ) → byte < 256
    → byte_of (digit_glyph false (byte / 16)) (digit_glyph false (byte % 16)) ≡ Ok byte
unfolding byte_of
byte_goes byte small =
    rw (digit_goes (byte / 16) (omega arith), digit_goes (byte % 16) (omega arith))
    (ap Ok (omega arith))

bytes_join : (high low : ℕ) (digits bytes : List ℕ) (byte : Result ℕ TextFault)
    (more : Result (List ℕ) TextFault)
    → byte_of high low ≡ byte → bytes_of digits ≡ more
    → ((rest : List ℕ) → bytes_of digits ≡ Ok rest → digits ≡ flat_map byte_text rest)
    → (byte >>= λ b. more >>= λ bs. Ok (b ∷ bs)) ≡ Ok bytes
    → high ∷ low ∷ digits ≡ flat_map byte_text bytes
bytes_join high low digits bytes (Ok b) (Ok bs) here behind rest e =
    let same : b ∷ bs ≡ bytes = cc in
    let first = byte_read high low b here in
    let others = rest bs behind in
    ap (λ (l : List ℕ). l ++ digits) first ∙ ap (λ l. byte_text b ++ l) others
    ∙ ap (flat_map byte_text) same
bytes_join high low digits bytes (Ok b) (Err fault) here behind rest e = cc
bytes_join high low digits bytes (Err fault) more here behind rest e = cc

-- digits that were read are the texts of their bytes
bytes_read : (digits bytes : List ℕ) → bytes_of digits ≡ Ok bytes
    → digits ≡ flat_map byte_text bytes
bytes_read [] bytes e = let none : [] ≡ bytes = cc in rw (← none) refl
bytes_read (high ∷ []) bytes e = cc
bytes_read (high ∷ low ∷ digits) bytes e =
    bytes_join high low digits bytes (byte_of high low) (bytes_of digits)
    refl refl (bytes_read digits) e

-- the texts of bytes are read as these bytes
bytes_go : (bytes : List ℕ) → All (λ b. b < 256) bytes
    → bytes_of (flat_map byte_text bytes) ≡ Ok bytes
bytes_go [] small = refl
bytes_go (b ∷ bs) small =
    rw (
      byte_goes b (small 0 0 (omega arith)),
      bytes_go bs
          (λ k d within. small (suc k) d (omega arith)),
    ) refl

-- the text of one byte or more
some_text : (b : ℕ) (bs : List ℕ) → value_text (b ∷ bs) ≡ flat_map byte_text (b ∷ bs)
unfolding value_text
some_text b bs = let some : (length (b ∷ bs) == 0) ≡ false = search (rules, tests) in rw some refl

value_join : (most : ℕ) (word bytes : List ℕ) (read : Result (List ℕ) TextFault)
    → 0 < length word → bytes_of word ≡ read
    → (read >>= λ bs. if nat_lt most (length bs) then Err ValueTooLong else Ok bs) ≡ Ok bytes
    → word ≡ value_text bytes
value_join most word bytes (Ok bs) some here e =
    elim (cases_Bool (nat_lt most (length bs))) [
      | inl long ↦ let no = rw long at e in cc
      | inr short ↦
          let fits : Ok bs ≡ Ok bytes = rw short at e in
          let same : bs ≡ bytes = cc in
          nonempty bytes (bytes_read word bytes (here ∙ fits))
    ]
  where
    nonempty : (v : List ℕ) → word ≡ flat_map byte_text v → word ≡ value_text v
    nonempty [] none = let bare : length word ≡ 0 = ap length none in absurd (omega arith)
    nonempty (b ∷ bs) text = text ∙ sym (some_text b bs)
value_join most word bytes (Err fault) some here e = cc

-- what was read is the value that the word writes
pub reads_text : (most : ℕ) (word bytes : List ℕ) → value_of most word ≡ Ok bytes
    → word ≡ value_text bytes
unfolding value_of value_text
reads_text most word bytes e =
    elim (cases_Bool (bytes_eq word (codes "-"))) [
      | inl dash ↦
          let none : Ok [] ≡ Ok bytes = rw dash at e in
          let same : [] ≡ bytes = cc in
          rw (← same) ((bytes_eq-Decides word (codes "-")).0 dash)
      | inr other ↦
          elim (cases_Bool (length word == 0)) [
            | inl bare ↦ let no = rw (other, bare) at e in cc
            | inr some ↦
                value_join most word bytes (bytes_of word) (search (rules, tests))
                refl (rw (other, some) at e)
          ]
    ]

-- the text of a value is read as that value
pub takes_text : (most : ℕ) (word bytes : List ℕ) → All (λ b. b < 256) bytes → length bytes ≤ most
    → word ≡ value_text bytes → value_of most word ≡ Ok bytes
unfolding value_of value_text
takes_text most word [] small few e = let dash : word ≡ codes "-" = e in rw dash refl
takes_text most word (b ∷ bs) small few e =
    let text : word ≡ flat_map byte_text (b ∷ bs) = e ∙ some_text b bs in
    let long : length word ≡ suc (suc (length (flat_map byte_text bs))) = ap length text in
    elim (cases_Bool (bytes_eq word (codes "-"))) [
      | inl dash ↦
          let one : length word ≡ 1 = ap length ((bytes_eq-Decides word (codes "-")).0 dash) in
          absurd (omega arith)
      | inr other ↦
          let some : (length word == 0) ≡ false = search (rules, tests) in
          let read : bytes_of word ≡ Ok (b ∷ bs) = rw text (bytes_go (b ∷ bs) small) in
          let fits : nat_lt most (length (b ∷ bs)) ≡ false = search (rules, tests) in
          rw (other, some, read, fits) refl
    ]

-- what a reader of values answered, as this definition has it
abbrev pub Answers : {X : Type 0} → (X → List ℕ) → (most : ℕ) → List ℕ → Result X LineError
    → Type 0
Answers items most word result =
    MatchResult result (λ x. value_of most word ≡ Ok (items x))
    (λ error. Fails error (value_of most word))

-- it answers a value whose text the word is
pub read_law : {X : Type 0} (items : X → List ℕ) (most : ℕ) (word : List ℕ)
    (result : Result X LineError)
    → Answers items most word result → IfOk result (λ x. word ≡ value_text (items x))
read_law items most word (Ok x) answered = reads_text most word (items x) answered
read_law items most word (Err error) answered = tt

-- where the word is the text of a value, it answers that value, unless memory was refused
pub takes_law : {X : Type 0} (items : X → List ℕ) (most : ℕ) (word : List ℕ)
    (result : Result X LineError)
    → Answers items most word result → (bytes : List ℕ) → All (λ b. b < 256) bytes
    → length bytes ≤ most
    → word ≡ value_text bytes
    → MatchResult result (λ x. items x ≡ bytes) (λ error. error ≡ errors.OutOfMemory)
takes_law items most word (Ok x) answered bytes small few text =
    let same : Ok (items x) ≡ Ok bytes =
    sym answered ∙ takes_text most word bytes small few text in cc
takes_law items most word (Err errors.OutOfMemory) answered bytes small few text = refl
takes_law items most word (Err (errors.Fault fault)) answered bytes small few text =
    let no : Err fault ≡ Ok bytes = sym answered ∙ takes_text most word bytes small few text in cc
