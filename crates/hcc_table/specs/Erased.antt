-- What hiding the entries of a key tells.
use Rattle.std.specs.Prelude.{◌≡◌, ℕ, ◌+◌, ◌≤◌, ◌++◌, List, [], replicate}
use Rattle.hcc_core.specs.declared.client.Owned.TheVariants as owned
use Rattle.hcc_rule.specs.declared.key.Key.{Key}
use Rattle.hcc_rule.specs.declared.view.View.{View}
use Rattle.hcc_rule.specs.Gone.{Takes}
use Rattle.hcc_table.specs.Searched.{Grows, times_met}

module _ {T : Type 0} where
  -- no slot of its own, and no trail
  abbrev pub IsAtRest : View T → Type 0
  IsAtRest v = (v.work.owned ≡ owned.Nothing) × (v.work.trail ≡ [])

  -- The client hid visible entries of these keys, and freed so many entries, whose places and
  -- charges are its to settle. It may have looked at slots, seen entries dead, met keys, and hold
  -- other records than before, and other words in a slot of its own. All else stays.
  pub record Erases (keys : List Key) (slots charge : ℕ) (v w : View T) : Type 0 where
    pub same : w ≡ record v {
      work = record v.work {
        looked = w.work.looked;
        owned = owned.Nothing;
        trail = [];
        freed = v.work.freed + charge;
        freed_slots = v.work.freed_slots + slots;
        dead = w.work.dead;
      };
      records = w.records;
      written = w.written;
      hidden = v.hidden ++ keys;
      takings = v.takings + slots;
      gone = w.gone;
      met = w.met;
      glimpse = w.glimpse;
    }
    pub dead : Grows v.work.dead w.work.dead
    pub met : (more : List Key) × (w.met ≡ v.met ++ more)
    -- which entries it freed
    pub taken : Takes slots charge v w

  -- So many entries of one key, and it holds what it held. It freed no more than it met of the key.
  pub record IsErased (key : Key) (hidden slots charge : ℕ) (v w : View T) : Type 0 where
    pub erases : Erases (replicate hidden key) slots charge v w
    pub records : w.records ≡ v.records
    pub met : (more : List Key) × (w.met ≡ v.met ++ more) × (slots ≤ times_met key more)
