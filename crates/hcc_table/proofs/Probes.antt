-- What the probe of one slot told: a look, an acquire, the key's words, and a give.
use Rattle.std.proofs.Common.{◌≡◌, ℕ, ◌++◌, cond, Bool, true, false, List, [], ◌∷◌, Option, Some, None, IfSome, IsSomeAnd, option_map, sym, subst, refl, ap, ◌∙◌, append_assoc, ◌≤◌, arith}
use Rattle.std.specs.List.{find}
use Rattle.std.proofs.lemmas.Bool.{eq-eqb}
use Rattle.hcc_word.specs.Word.{is_counting, is_shareable, is_visible}
use Rattle.hcc_core.specs.declared.slot.Entry.{Entry}
use Rattle.hcc_core.specs.declared.slot.Stamp.{Stamp}
use Rattle.hcc_core.specs.Outcomes.{dropped}
use Rattle.hcc_core.specs.References.{joined}
use Rattle.hcc_core.specs.Lawful.{is_in}
use Rattle.hcc_rule.specs.declared.key.Key.{Key}
use Rattle.hcc_rule.specs.declared.view.Record.{Record}
use Rattle.hcc_rule.specs.declared.view.View.{View}
use Rattle.hcc_rule.specs.Looked.{Backs, after_look, found_dead, noticing}
use Rattle.hcc_rule.specs.ToldReferences.{IsMet, record_of, after_give}
use Rattle.hcc_rule.specs.Views.{Each, is_called}
use Rattle.hcc_rule.specs.Records.{record_in, stamp_on}
use Rattle.hcc_rule.specs.Words.{key_of}
use Rattle.hcc_rule.proofs.Basics.Lists.{each_map}
use Rattle.hcc_table.specs.Searched.{Searched, Sought, Reached, Buried, IsFound, is_key, times_met}
use Rattle.hcc_table.proofs.Searches.{searched_by, searched_then, sought_then}
use Rattle.hcc_table.proofs.Reaches.{find_last, joined_in}
use Rattle.hcc_rule.specs.ToldOwners.{with_met}
use Rattle.hcc_core.specs.Sums.{when}
use Rattle.hcc_core.proofs.SumLemmas.{total-append}

-- The last member goes where none before it passes.
pub dropped_last : {A : Type 0} (p : A → Bool) (xs : List A) (x : A) → find p xs ≡ None → p x ≡ true
    → dropped p (xs ++ x ∷ []) ≡ xs
dropped_last p [] x missed passes = ap (λ b. cond b [] (x ∷ [])) passes
dropped_last p (y ∷ ys) x missed passes = by (p y) (dropped_last p ys x) missed
  where
    by : (b : Bool) → (find p ys ≡ None → p x ≡ true → dropped p (ys ++ x ∷ []) ≡ ys)
        → cond b (Some y) (find p ys) ≡ None
        → cond b (ys ++ x ∷ []) (y ∷ dropped p (ys ++ x ∷ [])) ≡ y ∷ ys
    by true later missed = cc
    by false later missed = ap (λ z. y ∷ z) (later missed passes)

-- the stamp of the entry that a record is on
abbrev pub stamp_in : Option Record → Option Stamp
stamp_in = option_map (λ (r : Record). r.entry.stamp)

pub stamp_is : (P : Record → Type 0) (o : Option Record) → IsSomeAnd o P
    → IsSomeAnd o (λ r. stamp_in o ≡ Some r.entry.stamp)
stamp_is P None there = absurd there
stamp_is P (Some r) there = refl

pub stamp_dead : (P : Record → Type 0) (dead : List Stamp) (o : Option Record)
    → IsSomeAnd o (λ r. P r × (is_in r.entry.stamp dead ≡ true))
    → IfSome (stamp_in o) (λ stamp. is_in stamp dead ≡ true)
stamp_dead P dead None there = tt
stamp_dead P dead (Some r) there = there.1

-- a key is met once where it stands behind others
met_once : (key : Key) (before : List Key) → 1 ≤ times_met key (before ++ key ∷ [])
met_once key before =
    let all = total-append (λ k. when (is_key key k) 1) before (key ∷ []) in
    let one : when (is_key key key) 1 ≡ 1 =
    rw (eq-eqb key.w0 key.w0 refl, eq-eqb key.w1 key.w1 refl) refl in
    omega arith

module _ {T : Type 0} where
  -- what a look, a mark and a give leave
  pub looked_at : (slot word : ℕ) (v w : View T) → w ≡ after_look slot word v → Sought v w
  looked_at slot word v w same = record {
    searched = searched_by (found_dead slot word v) (rw same refl);
    records = ap (λ (z : View T). z.records) same;
  }

  pub noticed_at : (slot word : ℕ) {v w : View T} → w ≡ noticing slot word v → Sought v w
  noticed_at slot word {v} {w} same = record {
    searched = searched_by (found_dead slot word v) (rw same refl);
    records = ap (λ (z : View T). z.records) same;
  }

  pub given_at : (slot name word : ℕ) (v w : View T) → w ≡ after_give slot name word v
      → Searched v w
  given_at slot name word v w same = searched_by (found_dead slot word v) (rw same refl)

  -- A look at a slot that isn't shown: each entry that is held there was hidden.
  pub buried_by_dead : (key : Key) {slot word : ℕ} {v : View T} (w : View T)
      → is_visible word ≡ false
      → Backs slot word v → w.work.dead ≡ joined v.work.dead (found_dead slot word v)
      → Buried key (λ s. s ≡ slot) v w
  buried_by_dead key {slot} {word} {v} w hidden backs same = from v.records backs.entry backs.one
    where
      from : (rs : List Record) → Each (λ (r : Record). r.slot ≡ slot → is_shareable word ≡ true) rs
          → Each (λ (r : Record). r.slot ≡ slot → stamp_on slot v.records ≡ Some r.entry.stamp) rs
          → Each (λ (r : Record). key_of r.entry ≡ key → r.slot ≡ slot
          → is_in r.entry.stamp w.work.dead ≡ true) rs
      from [] entries one = tt
      from (r ∷ rs) entries one = (
        (λ asked on. rw (same, entries.0 on, hidden, one.0 on)
            (joined_in r.entry.stamp v.work.dead)),
        from rs entries.1 one.1,
      )

  pub buried_by_look : (key : Key) {slot word : ℕ} {v w : View T} → is_visible word ≡ false
      → Backs slot word v → w ≡ after_look slot word v → Buried key (λ s. s ≡ slot) v w
  buried_by_look key {slot} {word} {v} {w} hidden backs same =
      buried_by_dead key w hidden backs (ap (λ (z : View T). z.work.dead) same)

  module _ {fits : T → Key → List ℕ → Type 0} {room slot weight name word : ℕ} {v a b : View T}
      (looked : Sought v a) (h : Reached fits room slot weight name word a b) where
    -- An acquire that strayed: nothing is held there.
    pub strayed : (key : Key) → is_shareable word ≡ false
        → Sought v b × Buried key (λ s. s ≡ slot) v b
    strayed key away = (
      sought_then v a b looked record { searched = h.searched; records = h.stray away },
      each_map (λ r. r.slot ≡ slot → is_shareable word ≡ true)
          (λ r. key_of r.entry ≡ key → r.slot ≡ slot → is_in r.entry.stamp b.work.dead ≡ true)
          (λ r held asked on. let bad : true ≡ false = sym (held on) ∙ away in cc)
          v.records (rw (← looked.records) h.held),
    )

    module _ (has : is_shareable word ≡ true) (fresh : record_in name v.records ≡ None) where
      abbrev entry : Entry
      entry = (h.got has).0

      abbrev pub got_record : Record
      got_record = record_of slot weight name word entry

      records_are : b.records ≡ v.records ++ got_record ∷ []
      records_are = (h.got has).2 ∙ ap (λ rs. rs ++ got_record ∷ []) looked.records

      -- it is on record
      pub on_record : record_in name b.records ≡ Some got_record
      on_record = ap (record_in name) records_are
          ∙ find_last (is_called name) v.records got_record fresh (eq-eqb name name refl)

      pub holds : {d : View T} → Sought b d
          → IsSomeAnd (record_in name d.records) (λ r. (r.slot ≡ slot) × (r.weight ≡ weight))
      holds kept = rw (kept.records, on_record) (refl, refl)

      pub holds_used : {d : View T} {used : Bool} → Sought b d → used ≡ is_counting word
          → IsSomeAnd (record_in name d.records)
          (λ r. (r.slot ≡ slot) × (r.weight ≡ weight) × (used ≡ true → r.counting ≡ true))
      holds_used kept is = rw (kept.records, on_record) (refl, refl, λ yes. sym is ∙ yes)

      pub holds_slot : {d : View T} → Sought b d
          → IsSomeAnd (record_in name d.records) (λ r. r.slot ≡ slot)
      holds_slot kept = rw (kept.records, on_record) refl

      -- what its key words told
      pub told_key : (P : Entry → Type 0) → IfSome (record_in name b.records) (λ r. P r.entry)
          → P entry
      told_key P told = subst (λ o. IfSome o (λ r. P r.entry)) on_record told

      -- so it stands there with this
      pub on_entry : (P : Entry → Type 0) → P entry
          → IsSomeAnd (record_in name b.records) (λ r. (r.slot ≡ slot) × P r.entry)
      on_entry P told = rw on_record (refl, told)

      pub on_told : (P : Entry → Type 0) → IfSome (record_in name b.records) (λ r. P r.entry)
          → IsSomeAnd (record_in name b.records) (λ r. (r.slot ≡ slot) × P r.entry)
      on_told P told = on_entry P (told_key P told)

      -- and no more once it was given back
      pub given_back : (left : ℕ) {c d : View T} → Sought b c → d ≡ after_give slot name left c
          → Sought v d
      given_back left {c} {d} kept same = record {
        searched = searched_then v b d (searched_then v a b looked.searched h.searched)
            (searched_then b c d kept.searched (given_at slot name left c d same));
        records =
            ap (λ (z : View T). z.records) same
            ∙ (ap (dropped (is_called name)) (kept.records ∙ records_are)
            ∙ dropped_last (is_called name) v.records got_record fresh (eq-eqb name name refl));
      }

      -- all that the client holds there is of that entry
      pub one_entry : Each (λ (r : Record). r.slot ≡ slot → r.entry ≡ entry) v.records
      one_entry = rw (← looked.records) ((h.got has).1).same

      -- The entry that was found hidden is dead, and so is each of these.
      pub buried_hidden : (key : Key) {d : View T} → is_visible word ≡ false → Searched b d
          → Buried key (λ s. s ≡ slot) v d
      buried_hidden key {d} hidden kept =
          each_map (λ r. r.slot ≡ slot → r.entry ≡ entry)
          (λ r. key_of r.entry ≡ key → r.slot ≡ slot → is_in r.entry.stamp d.work.dead ≡ true)
          (λ r same asked on. subst (λ (e : Entry). is_in e.stamp d.work.dead ≡ true)
          (sym (same on)) (kept.dead entry.stamp ((h.got has).3 hidden)))
          v.records one_entry

      -- An entry of another key is none that was asked for.
      pub buried_other : {key : Key} (d : View T) → ¬ (key_of entry ≡ key)
          → Buried key (λ s. s ≡ slot) v d
      buried_other {key} d other =
          each_map (λ r. r.slot ≡ slot → r.entry ≡ entry)
          (λ r. key_of r.entry ≡ key → r.slot ≡ slot → is_in r.entry.stamp d.work.dead ≡ true)
          (λ r same asked on. absurd (other (ap key_of (sym (same on)) ∙ asked)))
          v.records one_entry

      -- Where the record is no match, it's given back.
      pub missed_there : {key : Key} (left : ℕ) {c d : View T} → Sought b c
          → d ≡ after_give slot name left c
          → (is_visible word ≡ true → ¬ (key_of entry ≡ key))
          → Sought v d × Buried key (λ s. s ≡ slot) v d
      missed_there {key} left {c} {d} kept same other =
          (given_back left kept same, by (is_visible word) refl)
        where
          by : (b : Bool) → is_visible word ≡ b → Buried key (λ s. s ≡ slot) v d
          by true is = buried_other d (other is)
          by false is = buried_hidden key is
              (searched_then b c d kept.searched (given_at slot name left c d same))

      -- An entry that was found visible is met once both its key words were read.
      key_last : {key : Key} → is_visible word ≡ true → key_of entry ≡ key
          → with_met (record_in name b.records) b.met ≡ b.met ++ key ∷ []
      key_last shown asked =
          ap (λ o. with_met o b.met) on_record
          ∙ (ap (λ s. cond s (b.met ++ key_of entry ∷ []) b.met) shown
          ∙ ap (λ k. b.met ++ k ∷ []) asked)

      pub met_there : {key : Key} (left : ℕ) (c : View T) {d : View T} → is_visible word ≡ true
          → key_of entry ≡ key
          → c.met ≡ with_met (record_in name b.records) b.met → d ≡ after_give slot name left c
          → (more : List Key) × (d.met ≡ v.met ++ more ++ key ∷ [])
      met_there {key} left c shown asked meets same =
          let before = searched_then v a b looked.searched h.searched in (
            before.met.0,
            ap (λ (z : View T). z.met) same
                ∙ (meets ∙ (key_last shown asked ∙ ap (λ keys. keys ++ key ∷ []) before.met.1)),
          )

      -- The entry that was found, with the key that was asked for.
      pub found_there : {key : Key} {d : View T} → weight ≡ 1 → is_visible word ≡ true
          → key_of entry ≡ key → Sought b d
          → d.met ≡ with_met (record_in name b.records) b.met
          → IsFound fits room slot name key v d got_record
      found_there {key} {d} one shown asked kept meets = record {
        searched = searched_then v b d (searched_then v a b looked.searched h.searched)
            kept.searched;
        records = kept.records ∙ records_are;
        on = refl;
        called = refl;
        single = one;
        shown = shown;
        asked = asked;
        right = rw (tag, ← asked) met.right;
        short = met.short;
        bytes = met.bytes;
        small = met.small;
        alive = unseen (is_in entry.stamp v.work.dead) refl;
        one = one_entry;
        met = met_last;
      }
        where
          met : IsMet fits room slot word a entry
          met = (h.got has).1

          tag : v.tag ≡ a.tag
          tag = sym (ap (λ (z : View T). z.tag) looked.searched.same)

          met_last : (more : List Key) × (d.met ≡ v.met ++ more) × (1 ≤ times_met key more)
          met_last =
              let before = searched_then v a b looked.searched h.searched in (
                before.met.0 ++ key ∷ [],
                meets ∙ (key_last shown asked
                    ∙ (ap (λ keys. keys ++ key ∷ []) before.met.1
                    ∙ append_assoc v.met before.met.0 (key ∷ []))),
                met_once key before.met.0,
              )

          unseen : (seen : Bool) → is_in entry.stamp v.work.dead ≡ seen → seen ≡ false
          unseen true is = let bad : true ≡ false = sym (looked.searched.dead entry.stamp is)
              ∙ met.alive shown in cc
          unseen false is = refl

  -- What was found is on record.
  pub found_held : (fits : T → Key → List ℕ → Type 0) (room slot name : ℕ) (key : Key)
      (v w : View T) (r : Record)
      → record_in name v.records ≡ None → IsFound fits room slot name key v w r
      → record_in name w.records ≡ Some r
  found_held fits room slot name key v w r fresh found =
      ap (record_in name) found.records
      ∙ find_last (is_called name) v.records r fresh (eq-eqb r.name name found.called)

  pub found_holds : {fits : T → Key → List ℕ → Type 0} {room slot name : ℕ} {key : Key}
      {v w : View T} {r : Record}
      → record_in name v.records ≡ None → IsFound fits room slot name key v w r
      → IsSomeAnd (record_in name w.records) (λ q. (q.slot ≡ slot) × (q.weight ≡ 1))
  found_holds {fits} {room} {slot} {name} {key} {v} {w} {r} fresh found =
      rw (found_held fits room slot name key v w r fresh found) (found.on, found.single)

  pub found_asked : {fits : T → Key → List ℕ → Type 0} {room slot name : ℕ} {key : Key}
      {v w : View T} {r : Record}
      → record_in name v.records ≡ None → IsFound fits room slot name key v w r
      → IsSomeAnd (record_in name w.records) (λ q. (q.slot ≡ slot) × (key_of q.entry ≡ key))
  found_asked {fits} {room} {slot} {name} {key} {v} {w} {r} fresh found =
      rw (found_held fits room slot name key v w r fresh found) (found.on, found.asked)

  pub found_stands : {fits : T → Key → List ℕ → Type 0} {room slot name : ℕ} {key : Key}
      {v w : View T} {r : Record}
      → record_in name v.records ≡ None → IsFound fits room slot name key v w r
      → IsSomeAnd (record_in name w.records) (λ q. q.slot ≡ slot)
  found_stands {fits} {room} {slot} {name} {key} {v} {w} {r} fresh found =
      rw (found_held fits room slot name key v w r fresh found) found.on

  -- What is found between other searches is found by them all.
  pub found_then : (fits : T → Key → List ℕ → Type 0) (room slot name : ℕ) (key : Key)
      (u v d w : View T) (r : Record)
      → Sought u v → IsFound fits room slot name key v d r → Sought d w
      → IsFound fits room slot name key u w r
  found_then fits room slot name key u v d w r first found last = record {
    searched = searched_then u v w first.searched
        (searched_then v d w found.searched last.searched);
    records = last.records ∙ (found.records ∙ ap (λ rs. rs ++ r ∷ []) first.records);
    on = found.on;
    called = found.called;
    single = found.single;
    shown = found.shown;
    asked = found.asked;
    right = subst (λ o. IfSome o (λ tag. fits tag key r.entry.value))
        (ap (λ (z : View T). z.tag) first.searched.same) found.right;
    short = found.short;
    bytes = found.bytes;
    small = found.small;
    alive = unseen (is_in r.entry.stamp u.work.dead) refl;
    one = rw (← first.records) found.one;
    met = (
      first.searched.met.0 ++ (found.met.0 ++ last.searched.met.0),
      last.searched.met.1 ∙ (ap (λ z. z ++ last.searched.met.0)
          (found.met.1 ∙ ap (λ z. z ++ found.met.0) first.searched.met.1)
          ∙ (append_assoc (u.met ++ first.searched.met.0) found.met.0 last.searched.met.0
          ∙ append_assoc u.met first.searched.met.0 (found.met.0 ++ last.searched.met.0))),
      often,
    );
  }
    where
      often : 1 ≤ times_met key (first.searched.met.0 ++ (found.met.0 ++ last.searched.met.0))
      often =
          let f : Key → ℕ = λ k. when (is_key key k) 1 in
          let all = total-append f first.searched.met.0 (found.met.0 ++ last.searched.met.0) in
          let two = total-append f found.met.0 last.searched.met.0 in
          let some = found.met.2 in
          omega arith

      unseen : (b : Bool) → is_in r.entry.stamp u.work.dead ≡ b → b ≡ false
      unseen true is = let bad : true ≡ false = sym (first.searched.dead r.entry.stamp is)
          ∙ found.alive in cc
      unseen false is = refl
