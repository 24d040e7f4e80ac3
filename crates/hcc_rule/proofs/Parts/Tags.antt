-- What keeps the part of the rule that speaks of stamp words.
use Rattle.std.proofs.Common.{◌≡◌, ℕ, zero, suc, true, ◌<◌, ◌⊎◌, inl, inr, List, [], ◌∷◌, Option, Some, None, IfSome, slice_get, slice_index, slice_set, sym, ap, ◌∙◌, subst, arith}
use Rattle.std.proofs.lemmas.Bool.{cases_eq}
use Rattle.hcc_core.specs.declared.limits.TheConstants.{STAMPS_PER_CLIENT}
use Rattle.hcc_core.specs.declared.client.Owned.{Owned}
use Rattle.hcc_core.specs.declared.client.Owned.TheVariants as owned
use Rattle.hcc_core.specs.declared.slot.Entry.{Entry}
use Rattle.hcc_core.specs.declared.slot.Stamp.{Stamp}
use Rattle.hcc_core.specs.World.{owns_nothing}
use Rattle.hcc_core.proofs.ListLemmas.{read_here, read_other}
use Rattle.hcc_rule.specs.declared.layout.TheConstants.{META, STAMP}
use Rattle.hcc_rule.specs.declared.view.Made.{Made}
use Rattle.hcc_rule.specs.declared.view.Stood.{Stood}
use Rattle.hcc_rule.specs.declared.view.Stood.TheVariants as stood
use Rattle.hcc_rule.specs.declared.view.View.{View}
use Rattle.hcc_rule.specs.Rule.{AreApart, Books, IsAbove, IsBuildingAs, IsNextStamp, IsStood, IsStored, IsTag, IsTagged, Tags, WasShown, book_of, made_at, stamp_at}
use Rattle.hcc_rule.specs.Words.{field_at, stamp_word}
use Rattle.hcc_rule.proofs.Basics.Lists.{each_set, word_else}
use Rattle.hcc_rule.proofs.Parts.Addresses.{meta_away}

-- what holds of what there is, holds of another if each is one that it holds of
pub if_map : {A : Type 0} {P Q : A → Type 0} (o : Option A) → ((a : A) → P a → Q a) → IfSome o P
    → IfSome o Q
if_map None f h = tt
if_map (Some a) f h = f a h

-- Words.

-- what was shown stays shown
pub shown_on : (books after : Books) (word : ℕ)
    → ((stamp : Stamp) (made : Made) → made_at books stamp ≡ Some made
    → made_at after stamp ≡ Some made)
    → WasShown books word → WasShown after word
shown_on books after word grown shown =
    (shown.0, (shown.1.0, grown shown.0 shown.1.0 shown.1.1, shown.1.2))

-- stamp words are of one client and one serial
pub word_apart : (c d n m : ℕ) → n < STAMPS_PER_CLIENT → m < STAMPS_PER_CLIENT
    → stamp_word c n ≡ stamp_word d m → (c ≡ d) × (n ≡ m)
word_apart c d n m low few same = (omega arith, omega arith)

-- where an entry is stored, its stamp word stands
pub entry_tag : (room : ℕ) (words : List ℕ) (books : Books) (slot : ℕ) (entry : Entry)
    → IsStored room words books slot entry
    → WasShown books (slice_index words (stamp_at room slot))
entry_tag room words books slot entry stored =
    (entry.stamp, (stored.made, stored.listed, stored.lies STAMP (omega arith)))

-- a client that owns nothing builds nothing
pub not_building : (o : Owned) (slot : ℕ) → owns_nothing o ≡ true → o ≡ owned.ForBuilding slot → ⊥
not_building owned.Nothing slot free is = cc
not_building (owned.ForBuilding s) slot free is = cc
not_building (owned.ForFreeing s) slot free is = cc

-- a step on a meta word leaves stamp words
pub stamp_kept : (room i y : ℕ) (words : List ℕ) (slot : ℕ)
    → slice_index (slice_set words (field_at room i META) y) (stamp_at room slot)
    ≡ slice_index words (stamp_at room slot)
stamp_kept room i y words slot =
    word_else words (field_at room i META) (stamp_at room slot) y
    (meta_away room i slot STAMP (omega arith))

-- a serial above all others is above each
pub below : (serial : ℕ) (book : List Made) (n : ℕ) (a : Made) → IsAbove serial book
    → slice_get book n ≡ Some a → a.serial < serial
below serial [] n a above there = cc
below serial (m ∷ ms) zero a above there =
    let same : m ≡ a = cc in subst (λ (z : Made). z.serial < serial) same above.0
below serial (m ∷ ms) (suc n) a above there = below serial ms n a above.1 there

-- What a step of one seat owes to the part.
module _ {T : Type 0} (size room : ℕ) (words after : List ℕ) (books grown : Books)
    (views : List (View T)) (id : ℕ) (v new : View T) where
  pub record TagStep : Type 0 where
    pub made : (stamp : Stamp) (made : Made) → made_at books stamp ≡ Some made
        → made_at grown stamp ≡ Some made
    pub apart : (client : ℕ) → AreApart (book_of grown client)
    pub kept : (slot word : ℕ) → IsBuildingAs slot word v
        → IsBuildingAs slot word new ⊎ WasShown grown word
    pub next : (slot word : ℕ) → IsBuildingAs slot word new → IsNextStamp word new
    -- a stamp word stays, or is one that its builder wrote, and that was never shown
    pub word : (slot : ℕ) → slot < size
        → (slice_index after (stamp_at room slot) ≡ slice_index words (stamp_at room slot))
        ⊎ (IsBuildingAs slot (slice_index after (stamp_at room slot)) new
        × (WasShown grown (slice_index after (stamp_at room slot)) → ⊥))
    pub looked : IfSome new.work.looked (λ slot. (slot < size)
        × IsTag books views slot (slice_index words (stamp_at room slot)))
    pub glimpse : IfSome new.glimpse (λ g. (g.slot < size)
        × IsStood room words books views g.slot g.word g.stood)

  module _ (at : slice_get views id ≡ Some v) (step : TagStep) where
    abbrev later : List (View T)
    later = slice_set views id new

    here : slice_get later id ≡ Some new
    here = read_here views id v new at

    -- the word of an entry stays one
    tag_on : (slot word : ℕ) → IsTag books views slot word → IsTag grown later slot word
    tag_on slot word (inl shown) = inl (shown_on books grown word step.made shown)
    tag_on slot word (inr (j, u, there, builds)) = elim (cases_eq j id) [
      | inl same ↦
          let both : Some v ≡ Some u = sym at ∙ (ap (slice_get views) (sym same) ∙ there) in
          let is : u ≡ v = cc in
          elim (step.kept slot word (subst (IsBuildingAs slot word) is builds)) [
            | inl still ↦ inr (id, new, here, still)
            | inr shown ↦ inl shown
          ]
      | inr other ↦ inr (j, u, read_other views id j new other ∙ there, builds)
    ]

    -- and so does a slot's own
    own_on : (slot : ℕ) → slot < size
        → IsTag books views slot (slice_index words (stamp_at room slot))
        → IsTag grown later slot (slice_index after (stamp_at room slot))
    own_on slot near tag = elim (step.word slot near) [
      | inl same ↦ rw same (tag_on slot (slice_index words (stamp_at room slot)) tag)
      | inr written ↦ inr (id, new, here, written.0)
    ]

    stood_on : (slot word : ℕ) (stood : Stood) → slot < size
        → IsStood room words books views slot word stood
        → IsStood room after grown later slot word stood
    stood_on slot word stood.Unseen near tag = tag_on slot word tag
    stood_on slot word (stood.Entry stamp) near shown =
        (shown.0, step.made stamp shown.0 shown.1, shown.2)
    stood_on slot word stood.Another near gone = (
      shown_on books grown word step.made gone.0,
      λ same. elim (step.word slot near) [
        | inl still ↦ gone.1 (sym still ∙ same)
        | inr written ↦
            written.1 (subst (WasShown grown) (sym same)
            (shown_on books grown word step.made gone.0))
      ],
    )

    tagged_on : (u : View T) → ((slot word : ℕ) → IsBuildingAs slot word u → IsNextStamp word u)
        → IfSome u.work.looked (λ slot. (slot < size)
        × IsTag books views slot (slice_index words (stamp_at room slot)))
        → IfSome u.glimpse (λ g. (g.slot < size)
        × IsStood room words books views g.slot g.word g.stood)
        → IsTagged size room after grown later u
    tagged_on u next looked glimpse = record {
      next = next;
      looked = if_map u.work.looked (λ slot h. (h.0, own_on slot h.0 h.1)) looked;
      glimpse = if_map u.glimpse (λ g h. (h.0, stood_on g.slot g.word g.stood h.0 h.1)) glimpse;
    }

    pub tags_step : Tags size room words books views → Tags size room after grown later
    tags_step tags = record {
      apart = step.apart;
      each = each_set (λ j u. IsTagged size room after grown later u) views id new
          (tagged_on new step.next step.looked step.glimpse)
          (λ j u other there.
          let old = tags.each j u there in tagged_on u old.next old.looked old.glimpse);
    }

  -- What is owed where the seat's client goes on to own what it owned, and to have written and made
  -- what it had.
  pub quiet : IsTagged size room words books views v → ((c : ℕ) → AreApart (book_of books c))
      → grown ≡ books → new.work.owned ≡ v.work.owned → new.written ≡ v.written
      → new.client ≡ v.client → new.made ≡ v.made
      → ((slot : ℕ) → slot < size
      → slice_index after (stamp_at room slot) ≡ slice_index words (stamp_at room slot))
      → IfSome new.work.looked (λ slot. (slot < size)
      × IsTag books views slot (slice_index words (stamp_at room slot)))
      → IfSome new.glimpse (λ g. (g.slot < size)
      × IsStood room words books views g.slot g.word g.stood)
      → TagStep
  quiet old apart same owns written client made word looked glimpse = record {
    made = λ stamp m h. rw same h;
    apart = λ c. rw same (apart c);
    kept = λ slot w builds. inl (rw (owns, written) builds);
    next = λ slot w builds.
        let next = old.next slot w (rw (← owns, ← written) builds) in
        rw (client, made) next;
    word = λ slot near. inl (word slot near);
    looked = looked;
    glimpse = glimpse;
  }

-- Views that are split and joined.
module _ {T : Type 0} (size room : ℕ) (words : List ℕ) (books : Books) (views later : List (View T))
    (carry : (j : ℕ) (u : View T) → slice_get views j ≡ Some u → (slot word : ℕ)
    → IsBuildingAs slot word u
    → (k : ℕ) × (w : View T) × (slice_get later k ≡ Some w) × IsBuildingAs slot word w) where
  tag_carried : (slot word : ℕ) → IsTag books views slot word → IsTag books later slot word
  tag_carried slot word (inl shown) = inl shown
  tag_carried slot word (inr (j, u, there, builds)) = inr (carry j u there slot word builds)

  stood_carried : (slot word : ℕ) (stood : Stood)
      → IsStood room words books views slot word stood
      → IsStood room words books later slot word stood
  stood_carried slot word stood.Unseen tag = tag_carried slot word tag
  stood_carried slot word (stood.Entry stamp) shown = shown
  stood_carried slot word stood.Another gone = gone

  -- a view of them that builds nothing else keeps what it knows
  pub tagged_carried : (u w : View T) → w.work ≡ u.work → w.written ≡ u.written
      → w.client ≡ u.client → w.made ≡ u.made → w.glimpse ≡ u.glimpse
      → IsTagged size room words books views u → IsTagged size room words books later w
  tagged_carried u w work written client made glimpse old = record {
    next = λ slot word builds.
        let next = old.next slot word (rw (← work, ← written) builds) in
        rw (client, made) next;
    looked = rw work (if_map u.work.looked (λ slot h. (h.0, tag_carried slot _ h.1)) old.looked);
    glimpse = rw glimpse
        (if_map u.glimpse (λ g h. (h.0, stood_carried g.slot g.word g.stood h.1)) old.glimpse);
  }

-- a view that does nothing, and knows of no stamp word
pub tagged_none : {T : Type 0} (size room : ℕ) (words : List ℕ) (books : Books)
    (views : List (View T)) (u : View T) → u.work.owned ≡ owned.Nothing → u.work.looked ≡ None
    → u.glimpse ≡ None → IsTagged size room words books views u
tagged_none size room words books views u owns looked glimpse = record {
  next = λ slot word builds. let bad = sym owns ∙ builds.0 in cc;
  looked = rw looked tt;
  glimpse = rw glimpse tt;
}
