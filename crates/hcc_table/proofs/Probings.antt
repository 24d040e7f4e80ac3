-- What calls find at the probes of a key, one after the other.
use Rattle.std.proofs.Common.{◌≡◌, ◌⊎◌, ℕ, ◌+◌, ◌<◌, ◌++◌, Bool, true, false, List, [], ◌∷◌, inl, inr, length, sym, subst, refl, ap, ◌∙◌, arith}
use Rattle.std.proofs.lemmas.Bool.{eqb-true}
use Rattle.hcc_word.specs.declared.layout.TheConstants.{HIT_BIT, VISIBLE}
use Rattle.hcc_word.specs.Word.{hit_of, is_shareable, is_visible, state_of}
use Rattle.hcc_rule.specs.declared.key.Key.{Key}
use Rattle.hcc_rule.specs.declared.layout.TheConstants.{KEY0, KEY1}
use Rattle.hcc_rule.specs.declared.table.RuleTable.{RuleTable}
use Rattle.hcc_rule.specs.Callers.{slots_of, IsEvent}
use Rattle.hcc_rule.specs.Events.{count_done, mark_done}
use Rattle.hcc_rule.specs.Addresses.{address_of_data, address_of_displacement, address_of_meta}
use Rattle.hcc_rule.specs.Probes.{probe_slot}
use Rattle.hcc_rule.specs.Seats.{SeatOf, Makes, MakesSome, atomic, steps, view}
use Rattle.hcc_rule.specs.Views.{Each}
use Rattle.hcc_rule.proofs.Basics.Lists.{each_append}
use Rattle.hcc_table.specs.declared.efforts.Effort.{Effort}
use Rattle.hcc_table.specs.Efforts.{VisitedSlots}
use Rattle.hcc_table.specs.Probed.{AtProbes, Catches, Finds, LoadsKey, LoadsOther, Looks, Misses, Passes, Probe, Probed, Probes, TrailsGoOn}
use Rattle.hcc_table.specs.Searched.{Sought}
use Rattle.hcc_table.specs.Steps.{Adds, MakesNone, after}
use Rattle.hcc_table.proofs.Logs.{adds_none, adds_one, among_at, among_then, makes_two}

-- no bit is both
pub neither : {A : Type 0} (b : Bool) → b ≡ true → b ≡ false → A
neither b on off = let bad : true ≡ false = sym on ∙ off in cc

-- a visible word is an entry's
pub visible_has : (word : ℕ) → is_visible word ≡ true → is_shareable word ≡ true
visible_has word shown = let is = eqb-true (state_of word) VISIBLE shown in rw is refl

-- so a word that is no entry's isn't visible
pub stray_unshown : (word : ℕ) → is_shareable word ≡ false → is_visible word ≡ false
stray_unshown word stray = from (is_visible word) refl
  where
    from : (b : Bool) → is_visible word ≡ b → is_visible word ≡ false
    from true shown = neither _ (visible_has word shown) stray
    from false hidden = hidden

pub one_longer : {A : Type 0} (xs : List A) (x : A) → length (xs ++ x ∷ []) ≡ length xs + 1
one_longer [] x = refl
one_longer (y ∷ ys) x = let rest = one_longer ys x in omega arith

-- a list that isn't empty has a last member
pub split_last : {A : Type 0} (xs : List A) → 0 < length xs
    → (front : List A) × (last : A) × (xs ≡ front ++ last ∷ [])
split_last [] some = absurd (omega arith)
split_last (x ∷ []) some = ([], x, refl)
split_last (x ∷ y ∷ ys) some =
    let rest = split_last (y ∷ ys) (omega arith) in
    (x ∷ rest.0, rest.1, ap (λ zs. x ∷ zs) rest.2)

pub each_front : {A : Type 0} (P : A → Type 0) (xs ys : List A) → Each P (xs ++ ys) → Each P xs
each_front P [] ys h = tt
each_front P (x ∷ xs) ys h = (h.0, each_front P xs ys h.1)

module _ {T P : Type 0} (slots : ℕ) (key : Key)
    (At : (slot : ℕ) → P → Effort → Effort → SeatOf T → SeatOf T → Type 0) where
  probes_then : (i : ℕ) {j : ℕ} (ps : List P) {p : P} (e : Effort) {f g : Effort} (a : SeatOf T) {b
      c : SeatOf T}
      → AtProbes slots key At i ps e f a b → j ≡ i + length ps
      → At (probe_slot slots key j) p f g b c → AtProbes slots key At i (ps ++ p ∷ []) e g a c
  probes_then i {j} [] {p} e {f} {g} a {b} {c} none here one = (
    g,
    c,
    subst (λ z. At (probe_slot slots key i) p e g z c) none.1
        (subst (λ z. At (probe_slot slots key i) p z g b c) none.0
        (subst (λ k. At (probe_slot slots key k) p f g b c) same one)),
    (refl, refl),
  )
    where
      same : j ≡ i
      same = omega arith
  probes_then i {j} (q ∷ ps) {p} e {f} {g} a {b} {c} first here one = (
    first.0,
    first.1,
    first.2,
    probes_then (i + 1) ps first.0 first.1 first.3 shifted one,
  )
    where
      shifted : j ≡ i + 1 + length ps
      shifted = omega arith

  module _ (Goes : P → Type 0) where
    -- This was found at the first so many probes, and each of them goes on.
    pub record HasSeen (i : ℕ) (before after : Effort) (old now : SeatOf T) : Type 0 where
      pub seen : List P
      pub long : length seen ≡ i
      pub probes : AtProbes slots key At 0 seen before after old now
      pub goes_on : Each Goes seen

    abbrev pub seen_none : (effort : Effort) (seat : SeatOf T) → HasSeen 0 effort effort seat seat
    seen_none effort seat =
        record { seen = []; long = refl; probes = (refl, refl); goes_on = tt }

module _ {T P : Type 0} {slots : ℕ} {key : Key}
    {At : (slot : ℕ) → P → Effort → Effort → SeatOf T → SeatOf T → Type 0} {Goes : P → Type 0}
    {i slot : ℕ} {p : P} {e f g : Effort} {a b c : SeatOf T} (h : HasSeen slots key At Goes i e f a
    b) (there : slot ≡ probe_slot slots key i) (one : At slot p f g b c) where
  -- one probe more
  pub more_seen : AtProbes slots key At 0 (h.seen ++ p ∷ []) e g a c
  more_seen =
      probes_then slots key At 0 h.seen e a h.probes at (subst (λ z. At z p f g b c) there one)
    where
      at : i ≡ 0 + length h.seen
      at = omega (arith, h.long)

  abbrev pub seen_then : Goes p → HasSeen slots key At Goes (i + 1) e g a c
  seen_then goes = record {
    seen = h.seen ++ p ∷ [];
    long = one_longer h.seen p ∙ ap (λ n. n + 1) h.long;
    probes = more_seen;
    goes_on = each_append Goes h.seen (p ∷ []) h.goes_on (goes, tt);
  }

module _ {T A : Type 0} (table : RuleTable T A) {key : Key} (slot : ℕ) where
  -- loads of both halves of a key
  pub loads_key : {w0 w1 : ℕ} {a b c : SeatOf T}
      → Makes (address_of_data table slot KEY0) 0 0 w0 a b
      → Makes (address_of_data table slot KEY1) 0 0 w1 b c
      → w0 ≡ key.w0 → w1 ≡ key.w1 → LoadsKey table key slot a c
  loads_key {w0} {w1} {a} {b} {c} first then is same =
      makes_two (atomic (address_of_data table slot KEY0) 0 0 key.w0)
      (atomic (address_of_data table slot KEY1) 0 0 key.w1) a b c
      (subst (λ n. steps b ≡ after (steps a) (atomic (address_of_data table slot KEY0) 0 0 n)) is
      first.step)
      (subst (λ n. steps c ≡ after (steps b) (atomic (address_of_data table slot KEY1) 0 0 n)) same
      then.step)

  -- the first half was another, or the second
  pub first_other : {w0 : ℕ} {a b : SeatOf T}
      → Makes (address_of_data table slot KEY0) 0 0 w0 a b → ¬ (w0 ≡ key.w0)
      → LoadsOther table key slot a b
  first_other {w0} {a} {b} made other =
      inl (
        w0,
        other,
        among_at (atomic (address_of_data table slot KEY0) 0 0 w0) a a b b (adds_none a a refl)
            made.step (adds_none b b refl),
      )

  pub second_other : {w0 w1 : ℕ} {a b c : SeatOf T}
      → Makes (address_of_data table slot KEY0) 0 0 w0 a b
      → Makes (address_of_data table slot KEY1) 0 0 w1 b c → ¬ (w1 ≡ key.w1)
      → LoadsOther table key slot a c
  second_other {w0} {w1} {a} {b} {c} first then other =
      inr (
        w1,
        other,
        among_at (atomic (address_of_data table slot KEY1) 0 0 w1) a b c c
            (adds_one (atomic (address_of_data table slot KEY0) 0 0 w0) a b first.step)
            then.step (adds_none c c refl),
      )

  -- it stays so, whatever comes next
  pub other_then : (a b c : SeatOf T) → LoadsOther table key slot a b → Adds b c
      → LoadsOther table key slot a c
  other_then a b c (inl h) more = inl (
    h.0,
    h.1,
    among_then (atomic (address_of_data table slot KEY0) 0 0 h.0) a b c h.2 more,
  )
  other_then a b c (inr h) more = inr (
    h.0,
    h.1,
    among_then (atomic (address_of_data table slot KEY1) 0 0 h.0) a b c h.2 more,
  )

module _ {T A : Type 0} (fits : T → Key → List ℕ → Type 0) (table : RuleTable T A) (key : Key)
    (name : ℕ) where
  -- A search passed so many probes, and at each a trail goes on.
  abbrev pub HasPassed : (i : ℕ) → (before after : Effort) → (old now : SeatOf T) → Type 0
  HasPassed =
      HasSeen (slots_of table) key (Probed fits table key name)
      (λ (p : Probe). ¬ (p.displacement ≡ 0))

  pub passed_none : (effort : Effort) (seat : SeatOf T) → HasPassed 0 effort effort seat seat
  passed_none =
      seen_none (slots_of table) key (Probed fits table key name)
      (λ (p : Probe). ¬ (p.displacement ≡ 0))

module _ {T A : Type 0} {fits : T → Key → List ℕ → Type 0} {table : RuleTable T A} {key : Key}
    {name : ℕ} where
  module _ {i slot word n : ℕ} {e f g : Effort} {old now mid new : SeatOf T}
      (h : HasPassed fits table key name i e f old now)
      (there : slot ≡ probe_slot (slots_of table) key i) (passes : Passes fits table key name
      (Looks table slot) slot 1 word f g now mid) (counts : Makes
      (address_of_displacement table slot) 0 0 n mid new) (event : IsEvent table
      (count_done slot n (view mid)) mid new) (kept : view new ≡ view mid) where
    abbrev here : Probe
    here = record { word = word; displacement = n }

    abbrev probed : Probed fits table key name slot here f g now new
    probed =
        record { mid = mid; passes = passes; counts = counts; event = event; kept = kept }

    -- It goes on,
    pub passed_then : ¬ (n ≡ 0) → HasPassed fits table key name (i + 1) e g old new
    passed_then some = seen_then h there probed some

    -- or ends here.
    pub misses_here : {all : Effort} → n ≡ 0 → VisitedSlots (i + 1) g all
        → Misses fits table key name e all old new
    misses_here {all} none visited = record {
      earlier = h.seen;
      last = here;
      between = g;
      probes = more_seen h there probed;
      goes_on = h.goes_on;
      ends = inl none;
      visited = subst (λ k. VisitedSlots (k + 1) g all) (sym h.long) visited;
    }

  -- It ends after all probes.
  pub misses_all : {i : ℕ} {e f all : Effort} {old now : SeatOf T}
      → HasPassed fits table key name i e f old now
      → 0 < i → i ≡ slots_of table → VisitedSlots i f all
      → Misses fits table key name e all old now
  misses_all {i} {e} {f} {all} {old} {now} h some whole visited = record {
    earlier = split.0;
    last = split.1;
    between = f;
    probes =
        subst (λ (ps : List Probe). Probes fits table key name ps e f old now) split.2 h.probes;
    goes_on = each_front (λ (p : Probe). ¬ (p.displacement ≡ 0)) split.0 (split.1 ∷ [])
        (subst (λ (ps : List Probe). TrailsGoOn ps) split.2 h.goes_on);
    ends = inr (sym count ∙ whole);
    visited = subst (λ k. VisitedSlots k f all) count visited;
  }
    where
      split : (before : List Probe) × (last : Probe) × (h.seen ≡ before ++ last ∷ [])
      split = split_last h.seen (omega (arith, h.long))

      count : i ≡ length split.0 + 1
      count = sym h.long ∙ ap length split.2 ∙ one_longer split.0 split.1

  -- It keeps a reference.
  pub finds_here : {marks : Bool} {i slot word : ℕ} {e f g all : Effort}
      {old now held new : SeatOf T} → HasPassed fits table key name i e f old now
      → slot ≡ probe_slot (slots_of table) key i
      → Catches fits table key name (Looks table slot) slot 1 word f g now held
      → VisitedSlots (i + 1) g all
      → (marks ≡ true → hit_of word ≡ false
      → MakesSome (address_of_meta table slot) HIT_BIT 0 held new)
      → (hit_of word ≡ true → MakesNone held new) → (marks ≡ false → MakesNone held new)
      → (new ≡ held) ⊎ IsEvent table (mark_done name (view held)) held new
      → Sought (view held) (view new)
      → Finds fits table key name marks slot word e all old new
  finds_here {f = f} {g = g} {all = all} {now = now} {held = held} h there catches visited marked
      hit unasked by kept = record {
        earlier = h.seen;
        between = f;
        mid = now;
        probes = h.probes;
        goes_on = h.goes_on;
        probe = there ∙ ap (probe_slot (slots_of table) key) (sym h.long);
        later = g;
        held = held;
        catches = catches;
        visited = subst (λ k. VisitedSlots (k + 1) g all) (sym h.long) visited;
        marked = marked;
        hit = hit;
        unasked = unasked;
        by = by;
        kept = kept;
      }

module _ {T : Type 0} {address : ℕ} {a b : SeatOf T} where
  -- a mark, where there is one
  pub marks_add : (marks hit : Bool)
      → (marks ≡ true → hit ≡ false → MakesSome address HIT_BIT 0 a b)
      → (hit ≡ true → MakesNone a b) → (marks ≡ false → MakesNone a b) → Adds a b
  marks_add false hit marked found unasked = adds_none a b (unasked refl)
  marks_add true true marked found unasked = adds_none a b (found refl)
  marks_add true false marked found unasked =
      let set = marked refl refl in adds_one (atomic address HIT_BIT 0 set.0) a b set.1.step
