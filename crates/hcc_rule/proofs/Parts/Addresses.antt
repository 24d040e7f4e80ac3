-- No two words of a shard have one place.
use Rattle.std.proofs.Common.{◌≡◌, ℕ, suc, ◌+◌, ◌*◌, ◌<◌, ◌≤◌, ◌≢◌, List, length, slice_set, sym, ap, ◌∙◌, arith, mul-le-mul_right, suc-mul}
use mathlib.Core.Logic.{dite}
use native.Mathlib.Decide.{dec_le, ℕ_discrete}
use Rattle.hcc_rule.specs.declared.layout.TheConstants.{SLOT_HEAD, META, DISPLACEMENT, DATA, PAYLOAD, LEDGER_WORDS}
use Rattle.hcc_rule.specs.Words.{field_at, ledger_at, word_count, Lies}
use Rattle.hcc_rule.proofs.Basics.Lists.{word_else}

-- the slots before a slot end where it begins
further : (x y n : ℕ) → x < y → x * n + n ≤ y * n
further x y n h = let a : suc x * n ≤ y * n = mul-le-mul_right n h in omega (arith, suc-mul x n)

-- fields of slots of n words each have one place only where they are one
one_address : (n i j f g : ℕ) → f < n → g < n → i * n + f ≡ j * n + g → (i ≡ j) × (f ≡ g)
one_address n i j f g a b e = dite (ℕ_discrete i j)
    (λ same. let p : i * n ≡ j * n = ap (λ k. k * n) same in (same, omega arith))
    (λ other. dite (dec_le i j)
    (λ below. let h = further i j n (omega arith) in absurd (omega arith))
    (λ above. let h = further j i n (omega arith) in absurd (omega arith)))

-- the fields of slots are apart
pub fields_apart : (room s t f g : ℕ) → f < room + SLOT_HEAD → g < room + SLOT_HEAD
    → field_at room s f ≡ field_at room t g → (s ≡ t) × (f ≡ g)
fields_apart room s t f g a b e = one_address (room + SLOT_HEAD) s t f g a b e

-- the ledger words stand behind all slots
pub field_low : (size room s f : ℕ) → s < size → f < room + SLOT_HEAD
    → field_at room s f < size * (room + SLOT_HEAD)
field_low size room s f near within =
    let m : ℕ = room + SLOT_HEAD in
    let h = further s size m near in
    let x : ℕ = s * m in
    let y : ℕ = size * m in
    let g : x + f < y = omega arith in
    g

pub field_inside : (size room s f : ℕ) → s < size → f < room + SLOT_HEAD
    → field_at room s f < word_count size room
field_inside size room s f near within =
    let low = field_low size room s f near within in
    let y : ℕ = size * (room + SLOT_HEAD) in
    let x : ℕ = field_at room s f in
    let g : x < y + LEDGER_WORDS = omega arith in
    g

pub ledger_apart : (size room s f k : ℕ) → s < size → f < room + SLOT_HEAD
    → field_at room s f ≢ ledger_at size room k
ledger_apart size room s f k near within e =
    let low = field_low size room s f near within in
    let y : ℕ = size * (room + SLOT_HEAD) in
    let x : ℕ = field_at room s f in
    let same : x ≡ y + k = e in
    absurd (omega arith)

pub ledgers_apart : (size room j k : ℕ) → ledger_at size room j ≡ ledger_at size room k → j ≡ k
ledgers_apart size room j k e =
    let y : ℕ = size * (room + SLOT_HEAD) in
    let same : y + j ≡ y + k = e in
    omega arith

pub ledger_inside : (size room k : ℕ) → k < LEDGER_WORDS
    → ledger_at size room k < word_count size room
ledger_inside size room k h =
    let y : ℕ = size * (room + SLOT_HEAD) in
    let g : y + k < y + LEDGER_WORDS = omega arith in
    g

-- a place that is no data word of a slot
abbrev pub Away : (room a s : ℕ) → Type 0
Away room a s = (k : ℕ) → k < PAYLOAD + room → field_at room s DATA + k ≢ a

-- a data word is the field behind the two first
pub data_field : (room s k : ℕ) → field_at room s DATA + k ≡ field_at room s (DATA + k)
data_field room s k = let x : ℕ = s * (room + SLOT_HEAD) in let g : x + DATA + k ≡ x + (DATA + k) =
    omega arith in g

pub meta_away : (room i s : ℕ) → Away room (field_at room i META) s
meta_away room i s k near e =
    let one = fields_apart room s i (DATA + k) META (omega arith) (omega arith)
    (sym (data_field room s k) ∙ e) in
    let bad = one.1 in
    absurd (omega arith)

pub displacement_away : (room i s : ℕ) → Away room (field_at room i DISPLACEMENT) s
displacement_away room i s k near e =
    let one = fields_apart room s i (DATA + k) DISPLACEMENT (omega arith) (omega arith)
    (sym (data_field room s k) ∙ e) in
    let bad = one.1 in
    absurd (omega arith)

pub data_away : (room i s f : ℕ) → f < room + SLOT_HEAD → s ≢ i → Away room (field_at room i f) s
data_away room i s f within other k near e =
    other (fields_apart room s i (DATA + k) f (omega arith) within
    (sym (data_field room s k) ∙ e)).0

pub ledger_away : (size room k s : ℕ) → s < size → Away room (ledger_at size room k) s
ledger_away size room k s small j near e =
    ledger_apart size room s (DATA + j) k small (omega arith) (sym (data_field room s j) ∙ e)

-- words that a change leaves alone still lie where they lay
pub lies_away : (room s a y : ℕ) (words xs : List ℕ) → length xs ≤ PAYLOAD + room → Away room a s
    → Lies words (field_at room s DATA) xs → Lies (slice_set words a y) (field_at room s DATA) xs
lies_away room s a y words xs short away lies k h =
    word_else words a (field_at room s DATA + k) y (away k (omega arith)) ∙ lies k h
