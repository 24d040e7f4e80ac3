-- What an acquire told.
use Rattle.std.proofs.Common.{◌≡◌, ℕ, ◌++◌, ◌||◌, cond, Bool, true, false, List, [], ◌∷◌, Some, None, IsSomeAnd, refl, ap, ◌∙◌}
use Rattle.std.specs.List.{find, list_any}
use Rattle.std.proofs.lemmas.Bool.{eq-eqb}
use Rattle.hcc_word.specs.Word.{is_shareable, is_visible, is_counting}
use Rattle.hcc_core.specs.declared.slot.Entry.{Entry}
use Rattle.hcc_core.specs.declared.slot.Stamp.{Stamp}
use Rattle.hcc_core.specs.References.{is_stamp, joined}
use Rattle.hcc_core.specs.Lawful.{is_in}
use Rattle.hcc_rule.specs.declared.key.Key.{Key}
use Rattle.hcc_rule.specs.declared.table.RuleTable.{RuleTable}
use Rattle.hcc_rule.specs.declared.view.View.{View}
use Rattle.hcc_rule.specs.Addresses.{address_of_meta}
use Rattle.hcc_rule.specs.Callers.{room_of}
use Rattle.hcc_rule.specs.Seats.{SeatOf, view}
use Rattle.hcc_rule.specs.ToldReferences.{Acquired, record_of, after_acquire}
use Rattle.hcc_rule.specs.Views.{is_called}
use Rattle.hcc_rule.specs.Records.{record_in}
use Rattle.hcc_table.specs.declared.efforts.Effort.{Effort}
use Rattle.hcc_table.specs.Probed.{Reaches}
use Rattle.hcc_table.specs.Searched.{Searched, Sought, Reached}
use Rattle.hcc_table.specs.Seeking.{ReachesBy}
use Rattle.hcc_table.specs.Steps.{Acquires, Corrects}
use Rattle.hcc_table.proofs.Searches.{grows_joined, searched_then, no_more}

-- The last member is found where none before it passes.
pub find_last : {A : Type 0} (p : A → Bool) (xs : List A) (x : A) → find p xs ≡ None → p x ≡ true
    → find p (xs ++ x ∷ []) ≡ Some x
find_last p [] x missed passes = ap (λ b. cond b (Some x) None) passes
find_last p (y ∷ ys) x missed passes = by (p y) (find_last p ys x) missed
  where
    by : (b : Bool) → (find p ys ≡ None → p x ≡ true → find p (ys ++ x ∷ []) ≡ Some x)
        → cond b (Some y) (find p ys) ≡ None → cond b (Some y) (find p (ys ++ x ∷ [])) ≡ Some x
    by true later missed = cc
    by false later missed = later missed passes

-- a stamp is itself
is_self : (stamp : Stamp) → is_stamp stamp stamp ≡ true
is_self stamp = rw (eq-eqb stamp.client stamp.client refl, eq-eqb stamp.number stamp.number refl)
    refl

-- what was joined to a list stands there
pub joined_in : (stamp : Stamp) (dead : List Stamp) → is_in stamp (joined dead (Some stamp)) ≡ true
joined_in stamp dead = by (list_any (is_stamp stamp) dead) refl
  where
    last : (xs : List Stamp) → is_in stamp (xs ++ stamp ∷ []) ≡ true
    last [] = ap (λ b. b || false) (is_self stamp)
    last (x ∷ xs) = or_later (is_stamp stamp x) (list_any (is_stamp stamp) (xs ++ stamp ∷ []))
        (last xs)
      where
        or_later : (a b : Bool) → b ≡ true → (a || b) ≡ true
        or_later true b is = refl
        or_later false b is = is

    by : (b : Bool) → list_any (is_stamp stamp) dead ≡ b
        → is_in stamp (cond b dead (dead ++ stamp ∷ [])) ≡ true
    by true is = is
    by false is = last dead

module _ {T : Type 0} {fits : T → Key → List ℕ → Type 0} {room slot weight name word : ℕ}
    {v u : View T} (h : Acquired fits room slot weight name word v u) where
  -- an acquire of an entry is on record
  pub recorded : is_shareable word ≡ true → record_in name v.records ≡ None
      → (entry : Entry) × (record_in name u.records ≡ Some (record_of slot weight name word entry))
  recorded has fresh =
      let got = h.got has in (
        got.0,
        ap (λ (z : View T). record_in name z.records) got.2
            ∙ find_last (is_called name) v.records (record_of slot weight name word got.0) fresh
            (eq-eqb name name refl),
      )

  -- all that it changes
  acquired_searched : Searched v u
  acquired_searched = by (is_shareable word) refl
    where
      by : (b : Bool) → is_shareable word ≡ b → Searched v u
      by false is =
          let same = h.stray is in
          rw same record { same = refl; dead = λ stamp h. h; met = ([], no_more v.met) }
      by true is =
          let got = h.got is in
          rw got.2 record {
            same = refl;
            dead = λ stamp h. grows_joined v.work.dead
                (cond (is_visible word) None (Some got.0.stamp)) stamp h;
            met = ([], no_more v.met);
          }

  -- and what a try to relieve the counters leaves of that
  pub reached_of : {w : View T} → Sought u w → Reached fits room slot weight name word v w
  reached_of {w} then = record {
    searched = searched_then v u w acquired_searched then.searched;
    stray = λ is. then.records ∙ ap (λ (z : View T). z.records) (h.stray is);
    got = λ is.
        let got = h.got is in (
          got.0,
          got.1,
          then.records ∙ ap (λ (z : View T). z.records) got.2,
          λ hidden. then.searched.dead got.0.stamp (died got.0 hidden got.2),
        );
    held = h.backs.entry;
    enough = h.backs.enough;
  }
    where
      died : (entry : Entry) → is_visible word ≡ false
          → u ≡ after_acquire slot weight name word entry v
          → is_in entry.stamp u.work.dead ≡ true
      died entry hidden same = rw (same, hidden) (joined_in entry.stamp v.work.dead)

  -- where it doesn't count, the counters may be relieved
  pub relieves : is_shareable word ≡ true → record_in name v.records ≡ None
      → is_counting word ≡ false
      → IsSomeAnd (record_in name u.records) (λ r. (r.slot ≡ slot) × (r.counting ≡ false))
  relieves has fresh late = let got = recorded has fresh in rw got.1 (refl, late)

-- all that an acquire on a slot told
pub all_reached : {T A : Type 0} {fits : T → Key → List ℕ → Type 0} {table : RuleTable T A}
    {name slot weight word : ℕ} {before after : Effort} {old new : SeatOf T}
    → Reached fits (room_of table) slot weight name word (view old) (view new)
    → Acquires (address_of_meta table slot) weight word old new
    → Corrects (address_of_meta table slot) weight word before after old new
    → ReachesBy table slot weight name word old new
    → Reaches fits table name slot weight word before after old new
all_reached reached acquires corrects by =
    record { reached = reached; acquires = acquires; corrects = corrects; by = by }
