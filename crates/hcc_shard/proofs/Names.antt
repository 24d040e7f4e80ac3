-- The references that a client keeps: their names, their number and their weight. The serials of
-- the entries that it made.
use Rattle.std.proofs.Common.{◌≡◌, ℕ, ◌+◌, ◌<◌, ◌≤◌, ◌++◌, ◌||◌, cond, Bool, true, false, List, [], ◌∷◌, Option, Some, None, IfSome, IsSomeAnd, length, refl, ap, ◌∙◌, arith}
use Rattle.std.specs.List.{find, list_any}
use Rattle.std.proofs.lemmas.Bool.{ne_eqb}
use Rattle.hcc_core.specs.declared.client.Standalone.{Standalone}
use Rattle.hcc_core.specs.declared.limits.TheConstants.{STAMPS_PER_CLIENT}
use Rattle.hcc_core.specs.Ledgers.{is_standing}
use Rattle.hcc_core.specs.Outcomes.{dropped}
use Rattle.hcc_rule.specs.declared.geometry.Geometry.{Geometry}
use Rattle.hcc_rule.specs.declared.image.ImageEntry.{ImageEntry}
use Rattle.hcc_rule.specs.declared.view.Made.{Made}
use Rattle.hcc_rule.specs.declared.view.Record.{Record}
use Rattle.hcc_rule.specs.Images.{made_from}
use Rattle.hcc_rule.specs.Rule.{IsAbove}
use Rattle.hcc_rule.specs.Views.{Each, is_called, load_of}
use Rattle.hcc_rule.specs.Records.{record_in}
use Rattle.hcc_table.specs.Readings.{IsReadable}
use Rattle.hcc_shard.specs.Seated.{IsKept}

-- A name above all names is none of them,
pub not_held : (name bound : ℕ) → bound ≤ name → (rs : List Record)
    → Each (λ (r : Record). r.name < bound) rs → record_in name rs ≡ None
not_held name bound past [] each = refl
not_held name bound past (r ∷ rs) each =
    let low = each.0 in
    ap (λ b. cond b (Some r) (find (is_called name) rs))
    (ne_eqb r.name name (λ same. (omega arith)))
    ∙ not_held name bound past rs each.1

-- of standalone entries too.
pub not_standing : (name : ℕ) (ss : List Standalone)
    → Each (λ (s : Standalone). s.name < name) ss → list_any (is_standing name) ss ≡ false
not_standing name [] each = refl
not_standing name (s ∷ ss) each =
    let low = each.0 in
    ap (λ b. b || list_any (is_standing name) ss) (ne_eqb s.name name (λ same. (omega arith)))
    ∙ not_standing name ss each.1

-- what holds of each member holds of it in other words
pub each_as : {A : Type 0} (P Q : A → Type 0) → ((a : A) → P a → Q a) → (xs : List A) → Each P xs
    → Each Q xs
each_as P Q f [] h = tt
each_as P Q f (x ∷ xs) h = (f x h.0, each_as P Q f xs h.1)

-- One more,
pub each_more : {A : Type 0} (P : A → Type 0) (xs : List A) (x : A) → Each P xs → P x
    → Each P (xs ++ x ∷ [])
each_more P [] x h last = (last, tt)
each_more P (y ∷ ys) x h last = (h.0, each_more P ys x h.1 last)

pub length_more : {A : Type 0} (xs : List A) (x : A) → length (xs ++ x ∷ []) ≡ length xs + 1
length_more [] x = refl
length_more (y ∷ ys) x = let rest = length_more ys x in omega arith

-- or one less.
pub each_left : {A : Type 0} (P : A → Type 0) (p : A → Bool) (xs : List A) → Each P xs
    → Each P (dropped p xs)
each_left P p [] h = tt
each_left P p (x ∷ xs) h = by (p x) (each_left P p xs h.1)
  where
    by : (b : Bool) → Each P (dropped p xs) → Each P (cond b xs (x ∷ dropped p xs))
    by true rest = h.1
    by false rest = (h.0, rest)

-- A serial above those of all entries stays so where it grows,
pub above_later : (serial more : ℕ) (book : List Made) → serial ≤ more → IsAbove serial book
    → IsAbove more book
above_later serial more book le =
    each_as (λ (m : Made). m.serial < serial) (λ (m : Made). m.serial < more) (λ m h. omega arith)
    book

-- the next one does once an entry was made under it,
pub above_more : (serial : ℕ) (book : List Made) (made : Made) → made.serial ≡ serial
    → IsAbove serial book → IsAbove (serial + 1) (book ++ made ∷ [])
above_more serial book made under above =
    each_more (λ (m : Made). m.serial < serial + 1) book made
    (above_later serial (serial + 1) book (omega arith) above) (omega arith)

-- and that behind those of an image's entries is above these.
pub above_made : (first serial : ℕ) (es : List ImageEntry) → first + length es ≤ serial
    → IsAbove serial (made_from first es)
above_made first serial [] few = tt
above_made first serial (e ∷ es) few =
    (omega arith, above_made (first + 1) serial es (omega arith))

-- What holds of each holds of the one that is found.
pub found_if : {A : Type 0} (P Q : A → Type 0) → ((a : A) → P a → Q a) → (p : A → Bool)
    (xs : List A) → Each P xs → IfSome (find p xs) Q
found_if P Q f p [] h = tt
found_if P Q f p (x ∷ xs) h = by (p x) (found_if P Q f p xs h.1)
  where
    by : (b : Bool) → IfSome (find p xs) Q → IfSome (cond b (Some x) (find p xs)) Q
    by true rest = f x h.0
    by false rest = rest

-- References of a client at rest weigh as much as there are.
pub load_is : (geometry : Geometry) (rs : List Record) → Each (IsKept geometry) rs
    → load_of rs ≡ length rs
load_is geometry [] h = refl
load_is geometry (r ∷ rs) h =
    let one = h.0.single in
    let rest = load_is geometry rs h.1 in
    omega arith

-- None of them has a name that no serial has.
pub not_kept : (geometry : Geometry) (name : ℕ) → STAMPS_PER_CLIENT ≤ name → (rs : List Record)
    → Each (IsKept geometry) rs → record_in name rs ≡ None
not_kept geometry name past rs h =
    not_held name STAMPS_PER_CLIENT past rs
    (each_as (IsKept geometry) (λ (r : Record). r.name < STAMPS_PER_CLIENT) (λ r k. k.named) rs h)

-- The value that a reference is on can be read,
pub readable_in : (geometry : Geometry) (name : ℕ) (rs : List Record) → Each (IsKept geometry) rs
    → IfSome (record_in name rs) (IsReadable geometry.room)
readable_in geometry name rs h =
    found_if (IsKept geometry) (IsReadable geometry.room) (λ r k. k.readable) (is_called name) rs h

-- and so can that of another on the same entry.
pub readable_again : (room : ℕ) (r : Record) (o : Option Record) (P : Record → Type 0)
    → IfSome o (IsReadable room) → IfSome o (λ q. r.entry ≡ q.entry) → IsSomeAnd o P
    → IsReadable room r
readable_again room r None P h same held = absurd held
readable_again room r (Some q) P h same held =
    record { short = rw same h.short; bytes = rw same h.bytes }
