-- What a release and an erasure leave of a view once what they freed is settled.
use Rattle.std.proofs.Common.{◌≡◌, ℕ, ◌+◌, ◌≤◌, ◌++◌, ◌&&◌, nat_lt, cond, Bool, true, false, List, [], None, replicate, sym, subst, refl, ap, ◌∙◌, arith}
use Rattle.hcc_word.specs.Word.{is_visible, releases_of}
use Rattle.hcc_core.specs.declared.client.Client.{Client}
use Rattle.hcc_core.specs.declared.client.Owned.TheVariants as owned
use Rattle.hcc_core.specs.declared.client.Place.{Place}
use Rattle.hcc_core.specs.declared.client.Place.TheVariants as places
use Rattle.hcc_core.specs.Lawful.{is_in}
use Rattle.hcc_core.specs.Outcomes.{dropped}
use Rattle.hcc_core.specs.Sums.{when}
use Rattle.hcc_rule.specs.declared.key.Key.{Key}
use Rattle.hcc_rule.specs.declared.view.View.{View}
use Rattle.hcc_rule.specs.Between.{IsBetweenCalls}
use Rattle.hcc_rule.specs.ToldOwners.{is_warm}
use Rattle.hcc_rule.specs.declared.view.Record.{Record}
use Rattle.hcc_rule.specs.Views.{Each, is_called}
use Rattle.hcc_rule.specs.Gone.{Takes}
use Rattle.hcc_rule.proofs.Gone.{takes_alike, takes_none, takes_one}
use Rattle.hcc_rule.specs.Words.{key_of}
use Rattle.hcc_table.specs.Erased.{IsErased}
use Rattle.hcc_table.specs.Freed.{IsFreed}
use Rattle.hcc_table.specs.Searched.{AllDead, Searched}
use Rattle.hcc_charge.specs.Settled.{left_place, settled}
use Rattle.hcc_shard.specs.Referred.{IsErasedAll, IsReleased}

no_added : (n : ℕ) → n ≡ n + 0
no_added n = omega arith

left_absent : (slots : ℕ) (place : Place) → place ≡ places.Absent → left_place slots place ≡ place
left_absent slots place absent = ap (left_place slots) absent ∙ (by (nat_lt 0 slots) ∙ sym absent)
  where
    by : (b : Bool) → cond b places.Absent places.Absent ≡ places.Absent
    by true = refl
    by false = refl

-- what is in hand once all that was freed is settled
abbrev pub settled_work : Client → Client
settled_work h = record h {
  freed_slots = 0;
  place = left_place h.freed_slots h.place;
  granted = h.granted + h.needed;
  needed = 0;
  freed = 0;
}

-- what is in hand once this much was freed
abbrev pub freed_work : (looked : Client) (slots charge : ℕ) → Client → Client
freed_work now slots charge h = record h {
  looked = now.looked;
  owned = owned.Nothing;
  trail = [];
  freed = h.freed + charge;
  freed_slots = h.freed_slots + slots;
  dead = now.dead;
}

-- A client with nothing in hand has nothing in hand again.
pub settles_back : (slots charge : ℕ) (now old : Client) → IsBetweenCalls old
    → settled_work (freed_work now slots charge old)
    ≡ record old { looked = now.looked; dead = now.dead }
settles_back slots charge now old idle = λ k. record old {
  looked = now.looked;
  owned = sym (ap (λ (c : Client). c.owned) idle) k;
  trail = sym (ap (λ (c : Client). c.trail) idle) k;
  place =
      left_absent (old.freed_slots + slots) old.place (ap (λ (c : Client). c.place) idle) k;
  granted = kept k;
  needed = sym none k;
  freed = sym (ap (λ (c : Client). c.freed) idle) k;
  freed_slots = sym (ap (λ (c : Client). c.freed_slots) idle) k;
  dead = now.dead;
}
  where
    none : old.needed ≡ 0
    none = ap (λ (c : Client). c.needed) idle

    kept : old.granted + old.needed ≡ old.granted
    kept = let bare = none in omega arith

module _ {T : Type 0} where
  -- An entry was freed with the last reference.
  pub released : (fits : T → Key → List ℕ → Type 0) (room word name charge : ℕ) (erase : Bool)
      (v b w : View T) → IsBetweenCalls v.work → IsFreed fits room word None charge v b
      → b.records ≡ dropped (is_called name) v.records → (erase ≡ false → is_visible word ≡ false)
      → w ≡ settled b → IsReleased name erase true v w
  released fits room word name charge erase v b w idle f left cold settles = record {
    warm = when (is_warm word) 1;
    same =
        settles ∙ (ap settled f.same ∙ (λ k. record v {
          work = (settles_back 1 charge b.work v.work idle ∙ (λ j. record v.work {
            looked = sym (ap (λ (z : View T). z.work.looked) settles) j;
            dead = sym (ap (λ (z : View T). z.work.dead) settles) j;
          })) k;
          written =
              (sym (ap (λ (z : View T). z.written) f.same)
              ∙ sym (ap (λ (z : View T). z.written) settles)) k;
          records = left k;
          takings = v.takings + 1;
          gone =
              (sym (ap (λ (z : View T). z.gone) f.same)
              ∙ sym (ap (λ (z : View T). z.gone) settles)) k;
          warm = v.warm + when (is_warm word) 1;
          glimpse =
              (sym (ap (λ (z : View T). z.glimpse) f.same)
              ∙ sym (ap (λ (z : View T). z.glimpse) settles)) k;
        }));
    dead = λ stamp h. subst (λ d. is_in stamp d ≡ true)
        (sym (ap (λ (z : View T). z.work.dead) settles)) (f.dead stamp h);
    few = once (is_warm word);
    cold = λ kept. ap (λ b. when (b && nat_lt 0 (releases_of word)) 1) (cold kept);
    taken = (
      f.made.charge,
      takes_one (record { stamp = f.stamp; made = f.made })
          (ap (λ (z : View T). z.gone) settles ∙ ap (λ (z : View T). z.gone) f.same),
    );
  }
    where
      once : (b : Bool) → when b 1 ≤ 1
      once true = omega arith
      once false = omega arith

  -- None was.
  pub released_only : (name : ℕ) (erase : Bool) (v w : View T)
      → w.records ≡ dropped (is_called name) v.records → Searched v w → w.met ≡ v.met
      → IsReleased name erase false v w
  released_only name erase v w left s met = record {
    warm = 0;
    same = s.same ∙ (λ k. record v {
      work = record v.work { looked = w.work.looked; dead = w.work.dead };
      written = sym (ap (λ (z : View T). z.written) s.same) k;
      records = left k;
      takings = no_added v.takings k;
      gone = sym (ap (λ (z : View T). z.gone) s.same) k;
      warm = no_added v.warm k;
      met = met k;
      glimpse = w.glimpse;
    });
    dead = s.dead;
    few = omega arith;
    cold = λ kept. refl;
    taken = (0, takes_none (ap (λ (z : View T). z.gone) s.same));
  }

  -- What is settled was taken.
  pub gone_settled : (key : Key) (hidden slots charge : ℕ) (v b w : View T)
      → IsErased key hidden slots charge v b → w ≡ settled b → Takes slots charge v w
  gone_settled key hidden slots charge v b w e settles =
      takes_alike e.erases.taken refl (ap (λ (z : View T). z.gone) settles)

  -- Entries of a key were hidden, and some freed.
  pub erased_all : (key : Key) (hidden slots charge : ℕ) (v b w : View T) → IsBetweenCalls v.work
      → IsErased key hidden slots charge v b → w ≡ settled b → IsErasedAll key hidden v w
  erased_all key hidden slots charge v b w idle e settles = record {
    freed = slots;
    met = e.met.0;
    same =
        settles ∙ (ap settled e.erases.same ∙ (λ k. record v {
          work = (settles_back slots charge b.work v.work idle ∙ (λ j. record v.work {
            looked = sym (ap (λ (z : View T). z.work.looked) settles) j;
            dead = sym (ap (λ (z : View T). z.work.dead) settles) j;
          })) k;
          written = sym (ap (λ (z : View T). z.written) settles) k;
          records = e.records k;
          hidden = v.hidden ++ replicate hidden key;
          takings = v.takings + slots;
          gone = sym (ap (λ (z : View T). z.gone) settles) k;
          met = e.met.1 k;
          glimpse = sym (ap (λ (z : View T). z.glimpse) settles) k;
        }));
    dead = λ stamp h. subst (λ d. is_in stamp d ≡ true)
        (sym (ap (λ (z : View T). z.work.dead) settles)) (e.erases.dead stamp h);
    few = e.met.2;
    taken = (charge, gone_settled key hidden slots charge v b w e settles);
  }

  -- So many were taken.
  pub taken_settled : (key : Key) (hidden slots charge : ℕ) (v b w : View T)
      → IsErased key hidden slots charge v b → w ≡ settled b → w.takings ≡ v.takings + slots
  taken_settled key hidden slots charge v b w e settles =
      ap (λ (z : View T). z.takings) settles ∙ ap (λ (z : View T). z.takings) e.erases.same

  -- What was dead stays so.
  pub dead_settled : (key : Key) (v b w : View T) → AllDead key v b → w ≡ settled b
      → AllDead key v w
  dead_settled key v b w dead settles =
      subst
      (λ d. Each (λ (r : Record). key_of r.entry ≡ key → is_in r.entry.stamp d ≡ true) v.records)
      (sym (ap (λ (z : View T). z.work.dead) settles)) dead
