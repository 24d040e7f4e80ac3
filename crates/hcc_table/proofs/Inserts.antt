-- What the tries of slots leave of a view, put together.
use Rattle.std.proofs.Common.{◌≡◌, ℕ, ◌+◌, ◌++◌, false, true, List, [], ◌∷◌, sym, refl, ap, ◌∙◌, arith}
use Rattle.hcc_word.specs.Word.{is_empty, is_visible}
use Rattle.hcc_core.specs.declared.client.Owned.TheVariants as owned
use Rattle.hcc_rule.specs.declared.key.Key.{Key}
use Rattle.hcc_rule.specs.declared.view.View.{View}
use Rattle.hcc_rule.specs.Looked.{Backs, after_look, found_dead}
use Rattle.hcc_rule.specs.declared.steps.shows.Draft.{Draft}
use Rattle.hcc_rule.specs.ToldOwners.{after_occupy, after_show, made_of}
use Rattle.hcc_rule.specs.ToldTrails.{after_pass}
use Rattle.hcc_table.specs.Inserted.{Tried, with_trail}
use Rattle.hcc_table.specs.Searched.{Buried, Sought}
use Rattle.hcc_table.proofs.Searches.{grows_joined, met_then, no_more}
use Rattle.hcc_table.proofs.Probes.{buried_by_dead}

module _ {T : Type 0} where
  pub tried_refl : {v : View T} → Tried v v
  tried_refl {v} = record {
    same = refl;
    dead = λ stamp h. h;
    met = ([], no_more v.met);
    saw = omega arith;
  }

  -- one after the other
  pub tried_then : {u v w : View T} → Tried u v → Tried v w → Tried u w
  tried_then {u} {v} {w} a b = record {
    same = b.same ∙ ap (λ (z : View T).
        record z {
          work = record z.work { looked = w.work.looked; dead = w.work.dead };
          met = w.met;
          glimpse = w.glimpse;
          saw = w.saw;
        }) a.same;
    dead = λ stamp h. b.dead stamp (a.dead stamp h);
    met = met_then u.met a.met b.met;
    saw = omega (arith, a.saw, b.saw);
  }

  -- a search is one that tries no slot
  pub tried_sought : {v w : View T} → Sought v w → Tried v w
  tried_sought {v} {w} h = record {
    same = h.searched.same ∙ (λ k. record v {
      work = record v.work { looked = w.work.looked; dead = w.work.dead };
      records = h.records k;
      met = w.met;
      glimpse = w.glimpse;
      saw = sym saw k;
    });
    dead = h.searched.dead;
    met = h.searched.met;
    saw = omega (arith, saw);
  }
    where
      saw : w.saw ≡ v.saw
      saw = ap (λ (z : View T). z.saw) h.searched.same

  -- the try of a slot that isn't empty
  pub tried_slot : (slot word : ℕ) {v w : View T} → is_empty word ≡ false
      → w ≡ after_occupy slot word v
      → Tried v w × (w.saw ≡ v.saw + 1)
  tried_slot slot word {v} {w} taken tells = (
    record {
      same = rw same refl;
      dead = rw same (λ stamp h. grows_joined v.work.dead (found_dead slot word v) stamp h);
      met = ([], ap (λ (z : View T). z.met) same ∙ no_more v.met);
      saw = omega (arith, saw);
    },
    saw,
  )
    where
      same : w ≡ record (after_look slot word v) { saw = v.saw + 1 }
      same = tells ∙ rw taken refl

      saw : w.saw ≡ v.saw + 1
      saw = ap (λ (z : View T). z.saw) same

  -- it is the same client that takes an empty one
  pub occupied_client : (slot word : ℕ) (v : View T) {w : View T} → is_empty word ≡ true
      → w ≡ after_occupy slot word v → w.client ≡ v.client
  occupied_client slot word v {w} empty tells = ap (λ (z : View T). z.client) same
    where
      same : w ≡ record v { work = record v.work { owned = owned.ForBuilding slot }; written = [] }
      same = tells ∙ rw empty refl

  -- it meets no key
  pub occupy_meets : (slot word : ℕ) (v : View T) {w : View T} → is_empty word ≡ false
      → w ≡ after_occupy slot word v → w.met ≡ v.met
  occupy_meets slot word v {w} taken tells = ap (λ (z : View T). z.met) same
    where
      same : w ≡ record (after_look slot word v) { saw = v.saw + 1 }
      same = tells ∙ rw taken refl

  -- the try of a slot that isn't empty, and a search there
  pub tried_there : (slot word : ℕ) {v a w : View T} → is_empty word ≡ false
      → a ≡ after_occupy slot word v
      → Sought a w → Tried v w × (w.saw ≡ v.saw + 1)
  tried_there slot word {v} {a} {w} taken tells sought =
      let first = tried_slot slot word taken tells in (
        tried_then first.0 (tried_sought sought),
        ap (λ (z : View T). z.saw) sought.searched.same ∙ first.1,
      )

  -- Where the slot shows no entry, what is held there was hidden.
  pub unshown_there : (key : Key) {slot word : ℕ} {v a : View T} → is_empty word ≡ false
      → is_visible word ≡ false → Backs slot word v → a ≡ after_occupy slot word v
      → Buried key (λ s. s ≡ slot) v a
  unshown_there key {slot} {word} {v} {a} taken hidden backs tells =
      let same : a ≡ record (after_look slot word v) { saw = v.saw + 1 } = tells ∙ rw taken refl in
      buried_by_dead key a hidden backs (ap (λ (z : View T). z.work.dead) same)

  -- a search there tells of what was held before the try
  pub shown_there : (key : Key) (slot word : ℕ) (v : View T) {a : View T} (w : View T)
      → is_empty word ≡ false
      → a ≡ after_occupy slot word v → Buried key (λ s. s ≡ slot) a w
      → Buried key (λ s. s ≡ slot) v w
  shown_there key slot word v {a} w taken tells =
      let all : a ≡ record (after_look slot word v) { saw = v.saw + 1 } = tells ∙ rw taken refl in
      let same : a.records ≡ v.records = ap (λ (z : View T). z.records) all in
      λ dead. rw (← same) dead

  module _ {trail : List ℕ} (v : View T) {w : View T} (h : Tried (with_trail trail v) w) where
    -- the trail that a client has then
    pub trail_is : w.work.trail ≡ trail
    trail_is = ap (λ (z : View T). z.work.trail) h.same

    -- a slot more is passed
    pub tried_pass : (slot : ℕ) {more : List ℕ} {new : View T} → new ≡ after_pass slot w
        → more ≡ trail ++ slot ∷ []
        → Tried (with_trail more v) new
    tried_pass slot passed is = rw (is, passed) record {
      same = ap (after_pass slot) h.same;
      dead = h.dead;
      met = h.met;
      saw = h.saw;
    }

    -- the trail is taken back
    pub tried_back : {new : View T} → v.work.trail ≡ [] → new ≡ with_trail [] w → Tried v new
    tried_back none back = rw back record {
      same = ap (with_trail []) h.same ∙ ap (λ (z : List ℕ). record v {
        work = record v.work { looked = w.work.looked; dead = w.work.dead; trail = z };
        met = w.met;
        glimpse = w.glimpse;
        saw = w.saw;
      }) (sym none);
      dead = h.dead;
      met = h.met;
      saw = h.saw;
    }

    -- the entry is shown
    pub tried_show : (slot : ℕ) (draft : Draft) (value : List ℕ) {new : View T}
        → new ≡ after_show slot draft.name (made_of draft value) w
        → Tried (after_show slot draft.name (made_of draft value) v) new
    tried_show slot draft value is = rw is record {
      same = ap (after_show slot draft.name (made_of draft value)) h.same;
      dead = h.dead;
      met = h.met;
      saw = h.saw;
    }
