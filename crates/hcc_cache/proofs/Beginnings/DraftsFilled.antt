-- The drafts of all shards, entry by entry.
use Rattle.std.proofs.Common.{◌≡◌, ◌≢◌, inl, inr, ℕ, ◌+◌, ◌*◌, ◌^◌, ◌<◌, ◌≤◌, ◌==◌, ◌&&◌, ◌||◌, not, nat_le, nat_lt, if◌then◌else◌, Bool, true, false, List, [], ◌∷◌, ◌++◌, Option, Some, None, length, length-set, replicate, slice_get, slice_set, sym, refl, ap, ◌∙◌, arith}
use Rattle.std.proofs.lemmas.Bool.{and_parts, cases_eq, eq-eqb, leb-true, ltb-true, ne_eqb}
use Rattle.std.proofs.lemmas.List.{length-replicate}
use Rattle.std.proofs.lemmas.Option.{same_Some}
use Rattle.hcc_core.specs.Sums.{total, when}
use Rattle.hcc_core.proofs.ListLemmas.{read_here, read_last, read_other, replicate_is}
use Rattle.hcc_core.proofs.SumLemmas.{total-append, total-set, total-zero}
use Rattle.hcc_rule.specs.declared.image.ImageEntry.{ImageEntry}
use Rattle.hcc_rule.specs.declared.key.Key.{Key}
use Rattle.hcc_rule.proofs.Entries.ShowParts.{get_front}
use Rattle.hcc_cache.specs.declared.config.Config.{Config}
use Rattle.hcc_cache.specs.declared.drafting.Draft.{Draft}
use Rattle.hcc_cache.specs.declared.image.Saved.{Saved}
use Rattle.hcc_cache.specs.Configs.{shard_capacity}
use Rattle.hcc_cache.specs.Drafts.{AreDrafts, HasFree, IsBlank, IsDraft, IsFilled, Puts, Stands, given, takes}
use Rattle.hcc_cache.specs.Images.{Visible, visible_from, visible_of}
use Rattle.hcc_cache.specs.Keys.{IsKeyOf, key_from}
use Rattle.hcc_cache.specs.Sharding.{key_to, shard_of}
use Rattle.hcc_cache.specs.Taken.{Split, begun, home_of, is_taken, places_of, split_of, sum_in, with_all}
use Rattle.hcc_cache.proofs.Searches.MissedOrErasedKeys.{seeded_back}
use Rattle.hcc_cache.proofs.Beginnings.DraftSlots.{free_there, reached_past, filled_still}

module _ (c : Config) (shard : ℕ) (taken : List Visible) (x : Visible) where
  -- one entry more adds what it gives, where it belongs here,
  sum_more : (f : Visible → ℕ) → sum_in c shard f (taken ++ x ∷ [])
      ≡ sum_in c shard f taken + when (home_of c x == shard) (f x)
  sum_more f =
      let both = total-append (λ (e : Visible). when (home_of c e == shard) (f e)) taken (x ∷ [])
      in
      omega arith

  pub sum_here : home_of c x ≡ shard → (f : Visible → ℕ)
      → sum_in c shard f (taken ++ x ∷ []) ≡ sum_in c shard f taken + f x
  sum_here home f = sum_more f
      ∙ ap (λ b. sum_in c shard f taken + when b (f x)) (eq-eqb (home_of c x) shard home)

  -- and else nothing
  pub sum_else : home_of c x ≢ shard → (f : Visible → ℕ)
      → sum_in c shard f (taken ++ x ∷ []) ≡ sum_in c shard f taken
  sum_else other f =
      let more = sum_more f in
      let none = ap (λ b. when b (f x)) (ne_eqb (home_of c x) shard other) in
      omega arith

  -- What stands in a slot still does, where what was taken still is.
  stands_still : (places now : List (Option ImageEntry))
      → ((s : ℕ) → IsFilled places s → IsFilled now s) → (slot : ℕ) (e : ImageEntry)
      → Stands c taken places slot e → Stands c (taken ++ x ∷ []) now slot e
  stands_still places now still slot e s = record {
    here = s.here;
    short = s.short;
    paid = s.paid;
    few = s.few;
    from = record {
      index = s.from.index;
      one = s.from.one;
      there = get_front taken (x ∷ []) s.from.index s.from.one s.from.there;
      is = s.from.is;
    };
    reached = reached_past c.slots e.key (IsFilled places) (IsFilled now) slot still s.reached;
  }

  -- The draft of another shard has what it had.
  pub draft_else : (d : Draft) → home_of c x ≢ shard → IsDraft c taken shard d
      → IsDraft c (taken ++ x ∷ []) shard d
  draft_else d other is = record {
    wide = is.wide;
    count = is.count ∙ sym (sum_else other (λ (e : Visible). 1));
    charge = is.charge ∙ sym (sum_else other (λ (e : Visible). e.charge));
    holds = λ f. is.holds f ∙ sym (sum_else other (λ (e : Visible). f (begun e)));
    each = λ slot e at.
        stands_still d.places.items d.places.items (λ s taken. taken) slot e (is.each slot e at);
    belongs = is.belongs;
    few = is.few;
    small = is.small;
    within = is.within;
  }

module _ (c : Config) (shard : ℕ) (taken : List Visible) (saved : Saved) (old new : Draft)
    (key : Key) (is : IsDraft c taken shard old) (puts : Puts key saved old new)
    (words : key ≡ key_to c.seed saved.key) (back : key_from c.seed key ≡ saved.key)
    (home : home_of c (visible_of saved) ≡ shard)
    (small : saved.charge < 2 ^ 32)
    (fits : takes c old saved.charge (length saved.value.items) ≡ true) where
  -- What was put is what was saved.
  same : visible_from c.seed puts.entry ≡ begun (visible_of saved)
  same =
      let k = puts.key_is in
      let v = puts.value in
      let n = puts.charged in
      let u = puts.uses in
      rw (k, v, n, u, back) refl

  -- The slot gives what the entry gives.
  gives : (f : Visible → ℕ)
      → total (given (λ (e : ImageEntry). f (visible_from c.seed e))) new.places.items
      ≡ sum_in c shard (λ (e : Visible). f (begun e)) taken + f (begun (visible_of saved))
  gives f =
      let one : ImageEntry → ℕ = λ (e : ImageEntry). f (visible_from c.seed e) in
      let change =
      total-set (given one) old.places.items puts.slot None (Some puts.entry) puts.free in
      let put = ap (total (given one)) puts.places in
      let before = is.holds f in
      let what = ap f same in
      omega arith

  parts : ((nat_lt 0 saved.charge && nat_le (length saved.value.items) (8 * c.room)) ≡ true)
      × ((nat_lt old.count (places_of c)
      && (not c.strict || nat_le (old.charge + saved.charge) (shard_capacity c))) ≡ true)
  parts = and_parts _ _ fits

  granted : (b : Bool) → (not b || nat_le (old.charge + saved.charge) (shard_capacity c)) ≡ true
      → b ≡ true → old.charge + saved.charge ≤ shard_capacity c
  granted true h is = leb-true _ _ h
  granted false h is = cc

  -- What was taken still is.
  still : (slot : ℕ) → IsFilled old.places.items slot → IsFilled new.places.items slot
  still slot at =
      let is = filled_still old.places.items puts.slot puts.entry slot puts.free at in
      (is.0, ap (λ xs. slice_get xs slot) puts.places ∙ is.1)

  -- What stands in the slots now.
  each_stands : (slot : ℕ) (e : ImageEntry) → slice_get new.places.items slot ≡ Some (Some e)
      → Stands c (taken ++ visible_of saved ∷ []) new.places.items slot e
  each_stands slot e at = elim (cases_eq slot puts.slot) [
    | inl here ↦
        let read : slice_get new.places.items slot ≡ Some (Some puts.entry) =
        ap (λ xs. slice_get xs slot) puts.places
        ∙ ap (slice_get (slice_set old.places.items puts.slot (Some puts.entry))) here
        ∙ read_here old.places.items puts.slot None (Some puts.entry) puts.free in
        let entry : puts.entry ≡ e = same_Some _ _ (same_Some _ _ (sym read ∙ at)) in
        rw (← entry) (stands slot here)
    | inr other ↦
        stands_still c shard taken (visible_of saved) old.places.items new.places.items still slot e
        (is.each slot e (sym (ap (λ xs. slice_get xs slot) puts.places
        ∙ read_other old.places.items puts.slot slot (Some puts.entry) other) ∙ at))
  ]
    where
      stands : (slot : ℕ) → slot ≡ puts.slot
          → Stands c (taken ++ visible_of saved ∷ []) new.places.items slot puts.entry
      stands slot here =
          let sound = and_parts _ _ parts.0 in
          let paid = ltb-true 0 saved.charge sound.0 in
          let long = leb-true (length saved.value.items) (8 * c.room) sound.1 in
          let charged = puts.charged in
          let value = ap length puts.value in
          let uses = puts.uses in
          record {
            here = puts.here ∙ sym here;
            short = omega arith;
            paid = omega arith;
            few = omega arith;
            from = record {
              index = length taken;
              one = visible_of saved;
              there = read_last taken (visible_of saved);
              is = same;
            };
            reached = rw (here, puts.key_is, ← is.wide)
                (reached_past (length old.places.items) key (IsFilled old.places.items)
                (IsFilled new.places.items) puts.slot still puts.reached);
          }

  -- Each has a key of the shard.
  each_belongs : (slot : ℕ) (e : ImageEntry) → slice_get new.places.items slot ≡ Some (Some e)
      → IsKeyOf c.seed c.shards shard e.key
  each_belongs slot e at = elim (cases_eq slot puts.slot) [
    | inl here ↦
        let read : slice_get new.places.items slot ≡ Some (Some puts.entry) =
        ap (λ xs. slice_get xs slot) puts.places
        ∙ ap (slice_get (slice_set old.places.items puts.slot (Some puts.entry))) here
        ∙ read_here old.places.items puts.slot None (Some puts.entry) puts.free in
        let entry : puts.entry ≡ e = same_Some _ _ (same_Some _ _ (sym read ∙ at)) in
        let key = puts.key_is ∙ words in
        rw (← entry) (
          ap (λ k. key_to c.seed (key_from c.seed k)) key
              ∙ (seeded_back c.seed saved.key ∙ sym key),
          ap (λ k. shard_of k c.shards) key ∙ home,
        )
    | inr other ↦
        is.belongs slot e (sym (ap (λ xs. slice_get xs slot) puts.places
        ∙ read_other old.places.items puts.slot slot (Some puts.entry) other) ∙ at)
  ]

  -- The draft of the entry's shard has one more.
  pub draft_here : IsDraft c (taken ++ visible_of saved ∷ []) shard new
  draft_here =
      let more = sum_here c shard taken (visible_of saved) home in
      let room = and_parts _ _ parts.1 in
      let place = ltb-true old.count (places_of c) room.0 in
      let count = puts.count in
      let charge = puts.charge in
      let low = is.small in
      record {
        wide = ap length puts.places
            ∙ (length-set old.places.items puts.slot (Some puts.entry) ∙ is.wide);
        count = count ∙ (ap (λ n. n + 1) is.count ∙ sym (more (λ (e : Visible). 1)));
        charge =
            charge
            ∙ (ap (λ n. n + saved.charge) is.charge ∙ sym (more (λ (e : Visible). e.charge)));
        holds = λ f. gives f ∙ sym (more (λ (e : Visible). f (begun e)));
        each = each_stands;
        belongs = each_belongs;
        few = omega arith;
        small = omega arith;
        within = λ strict. let most = granted c.strict room.1 strict in omega arith;
      }

-- Some entries of an image were drafted, some are left out, and the rest is to come.
pub record IsDrafting (c : Config) (all : List Visible) (drafts : List Draft)
    (left rest : List Visible) : Type 0 where
  pub so_far : Split
  pub drafts_are : AreDrafts c so_far.taken drafts
  pub left_is : left ≡ so_far.left
  pub whole : with_all c so_far rest ≡ split_of c all

-- Blank drafts have nothing.
pub drafting_none : (c : Config) (all : List Visible) (drafts : List Draft)
    → length drafts ≡ c.shards
    → ((shard : ℕ) (d : Draft) → slice_get drafts shard ≡ Some d → IsBlank c.slots d)
    → IsDrafting c all drafts [] all
drafting_none c all drafts count blank = record {
  so_far = record { taken = []; left = [] };
  drafts_are = record {
    count = count;
    each = λ shard d at.
        let is = blank shard d at in
        let none = is.none in
        let free = is.free in
        record {
          wide = ap length is.places ∙ length-replicate c.slots None;
          count = none;
          charge = free;
          holds = λ f. ap (total (given (λ (e : ImageEntry). f (visible_from c.seed e)))) is.places
              ∙ total-zero (given (λ (e : ImageEntry). f (visible_from c.seed e))) c.slots None
              refl;
          each = λ slot e there. absurd (nothing c.slots slot e
              (sym (ap (λ xs. slice_get xs slot) is.places) ∙ there));
          belongs = λ slot e there. absurd (nothing c.slots slot e
              (sym (ap (λ xs. slice_get xs slot) is.places) ∙ there));
          few = omega arith;
          small = omega arith;
          within = λ strict. omega arith;
        };
  };
  left_is = refl;
  whole = refl;
}
  where
    nothing : (n slot : ℕ) (e : ImageEntry) → slice_get (replicate n None) slot ≡ Some (Some e) → ⊥
    nothing n slot e at = let is = replicate_is n slot None (Some e) at in cc

module _ (c : Config) (all : List Visible) (drafts : List Draft) (left rest : List Visible)
    (saved : Saved) (shard : ℕ) (d : Draft)
    (drafting : IsDrafting c all drafts left (visible_of saved ∷ rest))
    (at : slice_get drafts shard ≡ Some d) (home : home_of c (visible_of saved) ≡ shard) where
  -- the draft that has room is the one that takes it
  takes_is : (b : Bool) → takes c d saved.charge (length saved.value.items) ≡ b
      → is_taken c drafting.so_far.taken (visible_of saved) ≡ b
  takes_is b h =
      let is = drafting.drafts_are.each shard d at in
      let count = is.count in
      let charge = is.charge in
      rw (home, ← count, ← charge) h

  -- An entry more is drafted,
  pub drafting_more : (new : Draft) (key : Key) → Puts key saved d new
      → key ≡ key_to c.seed saved.key → key_from c.seed key ≡ saved.key → saved.charge < 2 ^ 32
      → takes c d saved.charge (length saved.value.items) ≡ true
      → IsDrafting c all (slice_set drafts shard new) left rest
  drafting_more new key puts words back small fits =
      let taken = drafting.so_far.taken in
      let is = drafting.drafts_are in
      let here = draft_here c shard taken saved d new key (is.each shard d at) puts words back home
      small fits in
      let goes = takes_is true fits in
      record {
        so_far = record {
          taken = taken ++ visible_of saved ∷ [];
          left = drafting.so_far.left;
        };
        drafts_are = record {
          count = length-set drafts shard new ∙ is.count;
          each = λ s one there. elim (cases_eq s shard) [
            | inl same ↦
                let read = ap (slice_get (slice_set drafts shard new)) same
                ∙ read_here drafts shard d new at in
                let is_new : new ≡ one = same_Some _ _ (sym read ∙ there) in
                rw (same, ← is_new) here
            | inr other ↦
                draft_else c s taken (visible_of saved) one (λ e. other (sym e ∙ home))
                (is.each s one (sym (read_other drafts shard s new other) ∙ there))
          ];
        };
        left_is = drafting.left_is;
        whole =
            ap (λ (b : Bool). with_all c (if b
            then record { taken = taken ++ visible_of saved ∷ []; left = drafting.so_far.left }
            else record { taken = taken; left = drafting.so_far.left ++ visible_of saved ∷ [] })
            rest) (sym goes)
            ∙ drafting.whole;
      }

  -- or left out.
  pub drafting_past : takes c d saved.charge (length saved.value.items) ≡ false
      → IsDrafting c all drafts (left ++ visible_of saved ∷ []) rest
  drafting_past full =
      let taken = drafting.so_far.taken in
      let goes = takes_is false full in
      record {
        so_far = record {
          taken = taken;
          left = drafting.so_far.left ++ visible_of saved ∷ [];
        };
        drafts_are = drafting.drafts_are;
        left_is = ap (λ es. es ++ visible_of saved ∷ []) drafting.left_is;
        whole =
            ap (λ (b : Bool). with_all c (if b
            then record { taken = taken ++ visible_of saved ∷ []; left = drafting.so_far.left }
            else record { taken = taken; left = drafting.so_far.left ++ visible_of saved ∷ [] })
            rest) (sym goes)
            ∙ drafting.whole;
      }

-- A draft that takes an entry has a free slot.
pub has_free : (c : Config) (taken : List Visible) (shard : ℕ) (d : Draft) (charge len : ℕ)
    → IsDraft c taken shard d → takes c d charge len ≡ true → HasFree d.places.items
has_free c taken shard d charge len is fits =
    let place = taken_below c d charge len fits in
    let wide = is.wide in
    let ones = is.holds (λ (e : Visible). 1) in
    let count = is.count in
    free_there d.places.items (omega arith)
  where
    taken_below : (c : Config) (d : Draft) (charge len : ℕ) → takes c d charge len ≡ true
        → d.count < places_of c
    taken_below c d charge len fits =
        ltb-true d.count (places_of c) (and_parts (nat_lt d.count (places_of c))
        (not c.strict || nat_le (d.charge + charge) (shard_capacity c))
        (and_parts (nat_lt 0 charge && nat_le len (8 * c.room))
        (nat_lt d.count (places_of c)
        && (not c.strict || nat_le (d.charge + charge) (shard_capacity c))) fits).1).0
