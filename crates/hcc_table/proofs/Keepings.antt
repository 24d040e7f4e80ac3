-- What a walk holds or frees at a slot.
use Rattle.std.proofs.Common.{◌≡◌, ℕ, zero, suc, ◌+◌, ◌++◌, ◌==◌, ◌<◌, ◌≤◌, ◌&&◌, ◌||◌, not, Bool, true, false, List, [], ◌∷◌, None, IfSome, sym, subst, refl, ap, ◌∙◌, arith}
use Rattle.std.proofs.lemmas.Bool.{eqb-true}
use Rattle.hcc_word.specs.declared.layout.TheConstants.{HIT_BIT}
use Rattle.hcc_word.specs.Word.{is_shareable, is_visible, refs_of, state_of}
use Rattle.hcc_core.specs.Lawful.{is_in}
use Rattle.hcc_rule.specs.declared.key.Key.{Key}
use Rattle.hcc_rule.specs.declared.table.RuleTable.{RuleTable}
use Rattle.hcc_rule.specs.declared.view.Record.{Record}
use Rattle.hcc_rule.specs.declared.view.View.{View}
use Rattle.hcc_rule.specs.Looked.{Backs, is_hidden}
use Rattle.hcc_rule.specs.Records.{weight_on}
use Rattle.hcc_rule.specs.Seats.{SeatOf}
use Rattle.hcc_rule.specs.ToldReferences.{record_of}
use Rattle.hcc_rule.specs.Words.{key_of}
use Rattle.hcc_table.specs.declared.efforts.Effort.{Effort}
use Rattle.hcc_table.specs.AtSlots.{Frees}
use Rattle.hcc_table.specs.Freed.{is_due}
use Rattle.hcc_table.specs.Searched.{IsFound, IsFoundOn, Reached, Sought, times_met}
use Rattle.hcc_table.specs.Steps.{AddsUnmarked}
use Rattle.hcc_table.proofs.Logs.{unmarked_none, unmarked_one}
use Rattle.hcc_table.proofs.Searches.{searched_then}

-- an entry that is visible isn't hidden
pub shown_word : (word : ℕ) → is_visible word ≡ true → is_hidden word ≡ false
shown_word word shown = rw shown (by (is_shareable word))
  where
    by : (b : Bool) → (b && false) ≡ false
    by true = refl
    by false = refl

-- a word of no entry is none of a hidden one
pub stray_word : (word : ℕ) → is_shareable word ≡ false → is_hidden word ≡ false
stray_word word away = rw away refl

module _ {T : Type 0} {fits : T → Key → List ℕ → Type 0} {room slot name word : ℕ} {v w : View T}
    (h : Reached fits room slot 1 name word v w) where
  -- an acquire that found no entry leaves what the client holds
  pub holds_same : is_shareable word ≡ false → Sought v w
  holds_same away = record { searched = h.searched; records = h.stray away }

  module _ (has : is_shareable word ≡ true) where
    abbrev pub more : Record
    more = record_of slot 1 name word (h.got has).0

    -- one that found a visible entry adds a record
    pub holds_more : is_visible word ≡ true → IsFoundOn fits room slot name v w more
    holds_more shown =
        let met = (h.got has).1 in
        record {
          searched = h.searched;
          records = (h.got has).2;
          on = refl;
          called = refl;
          single = refl;
          shown = shown;
          right = met.right;
          short = met.short;
          bytes = met.bytes;
          small = met.small;
          alive = met.alive shown;
          one = met.same;
        }

module _ {T : Type 0} {fits : T → Key → List ℕ → Type 0} {room slot name : ℕ} {u v w : View T}
    {r : Record} where
  -- what is found behind a look is found by both
  pub found_behind : Sought u v → IsFoundOn fits room slot name v w r
      → IsFoundOn fits room slot name u w r
  found_behind first found = record {
    searched = searched_then u v w first.searched found.searched;
    records = found.records ∙ ap (λ rs. rs ++ r ∷ []) first.records;
    on = found.on;
    called = found.called;
    single = found.single;
    shown = found.shown;
    right = subst (λ o. IfSome o (λ tag. fits tag (key_of r.entry) r.entry.value))
        (ap (λ (z : View T). z.tag) first.searched.same) found.right;
    short = found.short;
    bytes = found.bytes;
    small = found.small;
    alive = unseen (is_in r.entry.stamp u.work.dead) refl;
    one = rw (← first.records) found.one;
  }
    where
      unseen : (b : Bool) → is_in r.entry.stamp u.work.dead ≡ b → b ≡ false
      unseen true is = let bad : true ≡ false = sym (first.searched.dead r.entry.stamp is)
          ∙ found.alive in cc
      unseen false is = refl

-- what a search found is found on its slot
pub found_there : {T : Type 0} {fits : T → Key → List ℕ → Type 0} {room slot name : ℕ} {key : Key}
    {v w : View T} {r : Record} → IsFound fits room slot name key v w r
    → IsFoundOn fits room slot name v w r
found_there {fits = fits} {v = v} {r = r} found = record {
  searched = found.searched;
  records = found.records;
  on = found.on;
  called = found.called;
  single = found.single;
  shown = found.shown;
  right = subst (λ k. IfSome v.tag (λ tag. fits tag k r.entry.value)) (sym found.asked) found.right;
  short = found.short;
  bytes = found.bytes;
  small = found.small;
  alive = found.alive;
  one = found.one;
}

-- what is found on a slot is what a search finds, once its key was read
pub found_of : {T : Type 0} {fits : T → Key → List ℕ → Type 0} {room slot name : ℕ} {key : Key}
    {v w : View T} {r : Record} → IsFoundOn fits room slot name v w r → key_of r.entry ≡ key
    → (more : List Key) × (w.met ≡ v.met ++ more) × (1 ≤ times_met key more)
    → IsFound fits room slot name key v w r
found_of {fits = fits} {v = v} {r = r} found asked met = record {
  searched = found.searched;
  records = found.records;
  on = found.on;
  called = found.called;
  single = found.single;
  shown = found.shown;
  asked = asked;
  right = subst (λ k. IfSome v.tag (λ tag. fits tag k r.entry.value)) asked found.right;
  short = found.short;
  bytes = found.bytes;
  small = found.small;
  alive = found.alive;
  one = found.one;
  met = met;
}

-- a client holds nothing on a slot whose word has no references
pub holds_nothing : {T : Type 0} {slot word : ℕ} {v : View T} → Backs slot word v
    → refs_of word ≡ 0 → weight_on slot v.records ≡ 0
holds_nothing {slot = slot} {word = word} {v = v} backs none =
    by (weight_on slot v.records) backs.enough
  where
    by : (n : ℕ) → (0 < n → n ≤ refs_of word) → n ≡ 0
    by zero enough = refl
    by (suc n) enough =
        let few : suc n ≤ refs_of word = enough (omega arith) in
        absurd (omega (arith, few, none))

-- an entry that is due to be taken has no references
pub due_unheld : (room : Bool) (word : ℕ) → (room && is_due false word) ≡ true
    → refs_of word ≡ 0
due_unheld room word is =
    eqb-true (refs_of word) 0
    (by room (is_shareable word) (refs_of word == 0) (not (is_visible word)) is)
  where
    by : (a b c d : Bool) → (a && (b && c && (false || d))) ≡ true → c ≡ true
    by true true true d is = refl
    by true true false d is = cc
    by true false c d is = cc
    by false b c d is = cc

-- and its word is no hit bit
due_unlike : (room : Bool) (word : ℕ) → (room && is_due false word) ≡ true → ¬ (word ≡ HIT_BIT)
unfolding state_of
due_unlike room word is same =
    let bad : false ≡ true = subst (λ w. is_shareable w ≡ true) same
    (by room (is_shareable word) (refs_of word == 0) (not (is_visible word)) is) in
    cc
  where
    by : (a b c d : Bool) → (a && (b && c && (false || d))) ≡ true → b ≡ true
    by true true c d is = refl
    by true false c d is = cc
    by false b c d is = cc

-- To try to take an entry, and not to, sets no hit bit.
pub frees_unmarked : {T A : Type 0} {table : RuleTable T A} {slot word : ℕ} {room : Bool}
    {before after : Effort} {a b : SeatOf T} → Frees table slot word room None before after a b
    → AddsUnmarked a b
frees_unmarked {word = word} {room = room} {a = a} {b = b} h = by (room && is_due false word) refl
  where
    by : (due : Bool) → (room && is_due false word) ≡ due → AddsUnmarked a b
    by false is = unmarked_none (h.tries.passed is)
    by true is =
        let lost = (h.tries.tried is).0 in
        unmarked_one _ lost.2.step (due_unlike room word is)
