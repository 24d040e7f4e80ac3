-- What steps leave of a view, put together.
use Rattle.std.proofs.Common.{◌≡◌, ℕ, ◌==◌, ◌++◌, ◌||◌, cond, Bool, true, false, List, [], ◌∷◌, Option, Some, None, refl, ap, ◌∙◌, append_assoc}
use Rattle.std.specs.List.{list_any}
use Rattle.hcc_core.specs.declared.slot.Stamp.{Stamp}
use Rattle.hcc_core.specs.References.{is_stamp, joined}
use Rattle.hcc_core.specs.Lawful.{is_in}
use Rattle.hcc_rule.specs.declared.key.Key.{Key}
use Rattle.hcc_rule.specs.declared.layout.TheConstants.{KEY1}
use Rattle.hcc_rule.specs.declared.view.Record.{Record}
use Rattle.hcc_rule.specs.declared.view.View.{View}
use Rattle.hcc_rule.specs.ToldOwners.{with_met, after_read}
use Rattle.hcc_rule.specs.Records.{record_in}
use Rattle.hcc_rule.specs.Words.{key_of}
use Rattle.hcc_table.specs.Searched.{Grows, Searched, Sought}

-- What stands in a list stands there once more stand behind it.
any_append : {A : Type 0} (p : A → Bool) (xs ys : List A) → list_any p xs ≡ true
    → list_any p (xs ++ ys) ≡ true
any_append p [] ys h = cc
any_append p (x ∷ xs) ys h = by (p x) (any_append p xs ys) h
  where
    by : (b : Bool) → (list_any p xs ≡ true → list_any p (xs ++ ys) ≡ true)
        → (b || list_any p xs) ≡ true
        → (b || list_any p (xs ++ ys)) ≡ true
    by true later h = refl
    by false later h = later h

-- A list grows by what joins it.
pub grows_joined : (dead : List Stamp) (o : Option Stamp) → Grows dead (joined dead o)
grows_joined dead None stamp h = h
grows_joined dead (Some s) stamp h = by (list_any (is_stamp s) dead)
  where
    by : (b : Bool) → is_in stamp (cond b dead (dead ++ s ∷ [])) ≡ true
    by true = h
    by false = any_append (is_stamp stamp) dead (s ∷ []) h

pub no_more : (keys : List Key) → keys ≡ keys ++ []
no_more [] = refl
no_more (k ∷ ks) = ap (λ z. k ∷ z) (no_more ks)

-- keys that were met, and more behind them
pub met_then : (xs : List Key) {ys zs : List Key} → (more : List Key) × (ys ≡ xs ++ more)
    → (more : List Key) × (zs ≡ ys ++ more) → (more : List Key) × (zs ≡ xs ++ more)
met_then xs h g = (h.0 ++ g.0, g.1 ∙ (ap (λ z. z ++ g.0) h.1 ∙ append_assoc xs h.0 g.0))

module _ {T : Type 0} where
  -- a step that leaves all but what was looked at, seen dead and held
  pub searched_by : {v w : View T} (o : Option Stamp)
      → w ≡ record v {
        work = record v.work { looked = w.work.looked; dead = joined v.work.dead o };
        records = w.records;
      }
      → Searched v w
  searched_by {v} {w} o same = record {
    same = same ∙ rw (met, dead, glimpse) refl;
    dead = λ stamp h. rw dead (grows_joined v.work.dead o stamp h);
    met = ([], met ∙ no_more v.met);
  }
    where
      met : w.met ≡ v.met
      met = ap (λ (z : View T). z.met) same

      glimpse : w.glimpse ≡ v.glimpse
      glimpse = ap (λ (z : View T). z.glimpse) same

      dead : w.work.dead ≡ joined v.work.dead o
      dead = ap (λ (z : View T). z.work.dead) same

  pub searched_refl : (v : View T) → Sought v v
  searched_refl v = record {
    searched = record {
      same = refl;
      dead = λ stamp h. h;
      met = ([], no_more v.met);
    };
    records = refl;
  }

  -- one search behind another
  pub searched_then : (u v w : View T) → Searched u v → Searched v w → Searched u w
  searched_then u v w a b = record {
    same = b.same ∙ ap (λ (z : View T).
        record z {
          work = record z.work { looked = w.work.looked; dead = w.work.dead };
          records = w.records;
          met = w.met;
          glimpse = w.glimpse;
        }) a.same;
    dead = λ stamp h. b.dead stamp (a.dead stamp h);
    met = met_then u.met a.met b.met;
  }

  pub sought_then : (u v w : View T) → Sought u v → Sought v w → Sought u w
  sought_then u v w a b = record {
    searched = searched_then u v w a.searched b.searched;
    records = b.records ∙ a.records;
  }

  -- a load of a data word, which meets a key at most
  pub read_there : (name index : ℕ) (v w : View T) → w ≡ after_read name index v → Sought v w
  read_there name index v w same = rw same (by (index == KEY1))
    where
      met_by : (shown : Bool) (key : Key)
          → (more : List Key) × (cond shown (v.met ++ key ∷ []) v.met ≡ v.met ++ more)
      met_by true key = (key ∷ [], refl)
      met_by false key = ([], no_more v.met)

      met : (o : Option Record) → (more : List Key) × (with_met o v.met ≡ v.met ++ more)
      met None = ([], no_more v.met)
      met (Some r) = met_by r.shown (key_of r.entry)

      by : (b : Bool) → Sought v (cond b
          (record v { met = with_met (record_in name v.records) v.met }) v)
      by true = record {
        searched = record {
          same = refl;
          dead = λ stamp h. h;
          met = met (record_in name v.records);
        };
        records = refl;
      }
      by false = searched_refl v
