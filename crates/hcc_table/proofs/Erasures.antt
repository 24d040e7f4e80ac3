-- What hiding and freeing leave of a view, put together.
use Rattle.std.proofs.Common.{◌≡◌, ℕ, ◌+◌, ◌<◌, ◌^◌, ◌++◌, cond, Bool, true, false, List, [], Option, Some, None, IfSome, IsSomeAnd, option_map, replicate, sym, subst, refl, ap, ◌∙◌, arith, append_assoc, ◌≤◌, zero-add}
use Rattle.std.specs.Int.{from_bool}
use Rattle.hcc_word.specs.Word.{is_visible}
use Rattle.hcc_core.specs.declared.client.Owned.TheVariants as owned
use Rattle.hcc_core.specs.Lawful.{is_in}
use Rattle.hcc_core.specs.Outcomes.{dropped}
use Rattle.hcc_core.specs.Sums.{when}
use Rattle.hcc_rule.specs.declared.key.Key.{Key}
use Rattle.hcc_rule.specs.declared.view.Record.{Record}
use Rattle.hcc_rule.specs.declared.view.View.{View}
use Rattle.hcc_rule.specs.ToldOwners.{is_warm}
use Rattle.hcc_rule.specs.ToldReferences.{after_hide, entry_called, with_key}
use Rattle.hcc_core.specs.declared.slot.Entry.{Entry}
use Rattle.hcc_rule.specs.Views.{is_called}
use Rattle.hcc_rule.specs.Records.{record_in}
use Rattle.hcc_rule.specs.Words.{key_of}
use Rattle.hcc_rule.specs.Gone.{Takes}
use Rattle.hcc_rule.specs.Rule.{IsRight}
use Rattle.hcc_table.specs.Erased.{Erases, IsAtRest, IsErased}
use Rattle.hcc_table.specs.Freed.{IsFreed}
use Rattle.hcc_table.specs.Searched.{Searched, IsFound, Buried, Sought, is_key, times_met}
use Rattle.hcc_table.proofs.Searches.{grows_joined, met_then, no_more}
use Rattle.hcc_table.proofs.Reaches.{joined_in}
use Rattle.std.proofs.lemmas.Bool.{eq-eqb}
use Rattle.std.proofs.lemmas.List.{append-nil}
use Rattle.hcc_rule.proofs.Basics.Lists.{each_map}
use Rattle.hcc_rule.proofs.Gone.{takes_alike, takes_more, takes_none, takes_one}
use Rattle.hcc_table.proofs.Probes.{found_held, dropped_last}
use Rattle.hcc_core.proofs.SumLemmas.{total-append}

no_added : (n : ℕ) → n ≡ n + 0
no_added n = omega arith

module _ {T : Type 0} where
  -- A search erases nothing.
  pub erases_none : {v w : View T} → IsAtRest v → Searched v w → Erases [] 0 0 v w
  erases_none {v} {w} rest s = record {
    same = s.same ∙ (λ k. record v {
      work = record v.work {
        looked = w.work.looked;
        owned = rest.0 k;
        trail = rest.1 k;
        freed = no_added v.work.freed k;
        freed_slots = no_added v.work.freed_slots k;
        dead = w.work.dead;
      };
      records = w.records;
      written = sym (ap (λ (z : View T). z.written) s.same) k;
      hidden = no_more v.hidden k;
      takings = no_added v.takings k;
      gone = sym (ap (λ (z : View T). z.gone) s.same) k;
      met = w.met;
      glimpse = w.glimpse;
    });
    dead = s.dead;
    met = s.met;
    taken = takes_none (ap (λ (z : View T). z.gone) s.same);
  }

  -- The client is at rest afterwards.
  pub rests : {keys : List Key} {slots charge : ℕ} {v w : View T} → Erases keys slots charge v w
      → IsAtRest w
  rests e = (ap (λ (z : View T). z.work.owned) e.same, ap (λ (z : View T). z.work.trail) e.same)

  -- One after another erases both.
  pub erases_then : {keys more : List Key} {slots other charge plus : ℕ} {u v w : View T}
      → Erases keys slots charge u v
      → Erases more other plus v w → Erases (keys ++ more) (slots + other) (charge + plus) u w
  erases_then {keys} {more} {slots} {other} {charge} {plus} {u} {v} {w} a b = record {
    same =
        b.same ∙ (ap (λ (z : View T). record z {
          work = record z.work {
            looked = w.work.looked;
            owned = owned.Nothing;
            trail = [];
            freed = z.work.freed + plus;
            freed_slots = z.work.freed_slots + other;
            dead = w.work.dead;
          };
          records = w.records;
          written = w.written;
          hidden = z.hidden ++ more;
          takings = z.takings + other;
          gone = w.gone;
          met = w.met;
          glimpse = w.glimpse;
        }) a.same ∙ (λ k. record u {
          work = record u.work {
            looked = w.work.looked;
            owned = owned.Nothing;
            trail = [];
            freed = sums u.work.freed charge plus k;
            freed_slots = sums u.work.freed_slots slots other k;
            dead = w.work.dead;
          };
          records = w.records;
          written = w.written;
          hidden = append_assoc u.hidden keys more k;
          takings = sums u.takings slots other k;
          gone = w.gone;
          met = w.met;
          glimpse = w.glimpse;
        }));
    dead = λ stamp h. b.dead stamp (a.dead stamp h);
    met = met_then u.met a.met b.met;
    taken = takes_more a.taken b.taken;
  }
    where
      sums : (a b c : ℕ) → a + b + c ≡ a + (b + c)
      sums a b c = omega arith

  -- A search before it, or after it, erases no more.
  pub erases_first : {keys : List Key} {slots charge : ℕ} {u v w : View T} → Searched u v
      → Erases keys slots charge v w
      → Erases keys slots charge u w
  erases_first {keys} {slots} {charge} {u} {v} {w} a b = record {
    same = b.same ∙ ap (λ (z : View T). record z {
      work = record z.work {
        looked = w.work.looked;
        owned = owned.Nothing;
        trail = [];
        freed = z.work.freed + charge;
        freed_slots = z.work.freed_slots + slots;
        dead = w.work.dead;
      };
      records = w.records;
      written = w.written;
      hidden = z.hidden ++ keys;
      takings = z.takings + slots;
      gone = w.gone;
      met = w.met;
      glimpse = w.glimpse;
    }) a.same;
    dead = λ stamp h. b.dead stamp (a.dead stamp h);
    met = met_then u.met a.met b.met;
    taken = takes_alike b.taken (sym (ap (λ (z : View T). z.gone) a.same)) refl;
  }

  pub erases_last : {keys : List Key} {slots charge : ℕ} {u v w : View T}
      → Erases keys slots charge u v → Searched v w
      → Erases keys slots charge u w
  erases_last {keys} {slots} {charge} {u} {v} {w} a b = record {
    same =
        b.same ∙ (ap (λ (z : View T). record z {
          work = record z.work { looked = w.work.looked; dead = w.work.dead };
          records = w.records;
          met = w.met;
          glimpse = w.glimpse;
        }) a.same ∙ (λ k. record u {
          work = record u.work {
            looked = w.work.looked;
            owned = owned.Nothing;
            trail = [];
            freed = u.work.freed + charge;
            freed_slots = u.work.freed_slots + slots;
            dead = w.work.dead;
          };
          records = w.records;
          written = sym (ap (λ (z : View T). z.written) b.same) k;
          hidden = u.hidden ++ keys;
          takings = u.takings + slots;
          gone = sym (ap (λ (z : View T). z.gone) b.same) k;
          met = w.met;
          glimpse = w.glimpse;
        }));
    dead = λ stamp h. b.dead stamp (a.dead stamp h);
    met = met_then u.met a.met b.met;
    taken = takes_alike a.taken refl (ap (λ (z : View T). z.gone) b.same);
  }

  -- That an entry was freed tells which one was taken.
  pub takes_one_freed : {fits : T → Key → List ℕ → Type 0} {room word charge : ℕ} {last : Option ℕ}
      {v w : View T} → IsFreed fits room word last charge v w → Takes 1 charge v w
  takes_one_freed {v = v} {w = w} f =
      subst (λ c. Takes 1 c v w) (sym f.charged)
      (takes_one (record { stamp = f.stamp; made = f.made }) (ap (λ (z : View T). z.gone) f.same))

  -- An entry that isn't warm was freed.
  pub erases_freed : {fits : T → Key → List ℕ → Type 0} {room word charge : ℕ} {last : Option ℕ}
      {v w : View T}
      → is_warm word ≡ false → IsFreed fits room word last charge v w → Erases [] 1 charge v w
  erases_freed {fits} {room} {word} {charge} {last} {v} {w} cold f = record {
    same = f.same ∙ (λ k. record v {
      work = record v.work {
        looked = w.work.looked;
        owned = owned.Nothing;
        trail = [];
        freed = v.work.freed + charge;
        freed_slots = v.work.freed_slots + 1;
        dead = w.work.dead;
      };
      records = w.records;
      written = sym (ap (λ (z : View T). z.written) f.same) k;
      hidden = no_more v.hidden k;
      takings = v.takings + 1;
      warm = unwarmed k;
      gone = sym (ap (λ (z : View T). z.gone) f.same) k;
      met = sym (ap (λ (z : View T). z.met) f.same) k;
      glimpse = sym (ap (λ (z : View T). z.glimpse) f.same) k;
    });
    dead = f.dead;
    met = ([], ap (λ (z : View T). z.met) f.same ∙ no_more v.met);
    taken = takes_one_freed f;
  }
    where
      unwarmed : v.warm + when (is_warm word) 1 ≡ v.warm
      unwarmed = let none : when (is_warm word) 1 ≡ 0 = ap (λ b. when b 1) cold in omega arith

  -- its charge is small
  pub charge_small : (fits : T → Key → List ℕ → Type 0) (room word charge : ℕ) (last : Option ℕ)
      (v w : View T) (tag : T)
      → v.tag ≡ Some tag → IsFreed fits room word last charge v w → charge < 2 ^ 32
  charge_small fits room word charge last v w tag tagged f =
      let right = subst (λ o. IfSome o (λ t. IsRight fits t room f.made)) tagged f.taken.right in
      rw (f.charged) right.small

  -- The entry of a record was hidden, or had been.
  pub erases_hidden : (name word : ℕ) {r : Record} {v w : View T} → IsAtRest v
      → record_in name v.records ≡ Some r
      → w ≡ after_hide name word v
      → Erases (replicate (when (is_visible word) 1) (key_of r.entry)) 0 0 v w
      × (is_in r.entry.stamp w.work.dead ≡ true) × (w.records ≡ v.records)
  erases_hidden name word {r} {v} rest at same = (
    record {
      same = same ∙ (λ k. record v {
        work = record v.work {
          looked = sym (ap (λ (z : View T). z.work.looked) same) k;
          owned = rest.0 k;
          trail = rest.1 k;
          freed = no_added v.work.freed k;
          freed_slots = no_added v.work.freed_slots k;
          dead = sym (ap (λ (z : View T). z.work.dead) same) k;
        };
        records = sym (ap (λ (z : View T). z.records) same) k;
        written = sym (ap (λ (z : View T). z.written) same) k;
        hidden = keys (is_visible word) k;
        takings = no_added v.takings k;
        gone = sym (ap (λ (z : View T). z.gone) same) k;
        met = sym (ap (λ (z : View T). z.met) same) k;
        glimpse = sym (ap (λ (z : View T). z.glimpse) same) k;
      });
      dead = λ stamp h. rw same
          (grows_joined v.work.dead
          (option_map (λ (e : Entry). e.stamp) (entry_called name v.records)) stamp h);
      met = ([], ap (λ (z : View T). z.met) same ∙ no_more v.met);
      taken = takes_none (ap (λ (z : View T). z.gone) same);
    },
    rw (same, at) (joined_in r.entry.stamp v.work.dead),
    ap (λ (z : View T). z.records) same,
  )
    where
      keys : (b : Bool) → cond b (with_key v.hidden (entry_called name v.records)) v.hidden
          ≡ v.hidden ++ replicate (when b 1) (key_of r.entry)
      keys true = ap (λ o. with_key v.hidden (option_map (λ (q : Record). q.entry) o)) at
      keys false = no_more v.hidden

  -- The same of the record of a name, and what was searched then.
  pub hidden_then : (slot name word : ℕ) {n : ℕ} (v : View T) {a w : View T} → IsAtRest v
      → n ≡ from_bool (is_visible word)
      → IsSomeAnd (record_in name v.records) (λ r. (r.slot ≡ slot) × (r.weight ≡ 1))
      → a ≡ after_hide name word v → Searched a w
      → IsSomeAnd (record_in name v.records) (λ r. Erases (replicate n (key_of r.entry)) 0 0 v w
      × (is_in r.entry.stamp w.work.dead ≡ true))
  hidden_then slot name word {n} v {a} {w} rest count holds same then =
      by (record_in name v.records) refl holds
    where
      count_is : (b : Bool) → from_bool b ≡ when b 1
      count_is true = refl
      count_is false = refl

      by : (o : Option Record) → record_in name v.records ≡ o
          → IsSomeAnd o (λ r. (r.slot ≡ slot) × (r.weight ≡ 1))
          → IsSomeAnd o (λ r. Erases (replicate n (key_of r.entry)) 0 0 v w
          × (is_in r.entry.stamp w.work.dead ≡ true))
      by None is none = absurd none
      by (Some r) is some =
          let hid = erases_hidden name word rest is same in (
            subst (λ m. Erases (replicate m (key_of r.entry)) 0 0 v w)
                (sym (count ∙ count_is (is_visible word))) (erases_last hid.0
                then),
            then.dead r.entry.stamp hid.1,
          )

  -- The same, and it was freed.
  pub hidden_freed : (slot name word : ℕ) {n charge : ℕ} (v : View T) {a w : View T} → IsAtRest v
      → n ≡ from_bool (is_visible word)
      → IsSomeAnd (record_in name v.records) (λ r. (r.slot ≡ slot) × (r.weight ≡ 1))
      → a ≡ after_hide name word v → Erases [] 1 charge a w
      → IsSomeAnd (record_in name v.records)
      (λ r. Erases (replicate n (key_of r.entry)) 1 charge v w
      × (is_in r.entry.stamp w.work.dead ≡ true))
  hidden_freed slot name word {n} {charge} v {a} {w} rest count holds same freed =
      by (record_in name v.records) refl holds
    where
      count_is : (b : Bool) → from_bool b ≡ when b 1
      count_is true = refl
      count_is false = refl

      by : (o : Option Record) → record_in name v.records ≡ o
          → IsSomeAnd o (λ r. (r.slot ≡ slot) × (r.weight ≡ 1))
          → IsSomeAnd o (λ r. Erases (replicate n (key_of r.entry)) 1 charge v w
          × (is_in r.entry.stamp w.work.dead ≡ true))
      by None is none = absurd none
      by (Some r) is some =
          let hid = erases_hidden name word rest is same in
          let keys = replicate (when (is_visible word) 1) (key_of r.entry) in (
            subst (λ m. Erases (replicate m (key_of r.entry)) 1 charge v w)
                (sym (count ∙ count_is (is_visible word))) (subst (λ c. Erases keys 1 c v w)
                (zero-add charge) (subst (λ k. Erases k 1 (0 + charge) v w) (append-nil keys)
                (erases_then hid.0 freed))),
            freed.dead r.entry.stamp hid.1,
          )

  -- The entry that was found is erased.
  module _ {fits : T → Key → List ℕ → Type 0} {room slot name : ℕ} (n slots charge : ℕ) {key : Key}
      {v a : View T} (w : View T) {r : Record} (fresh : record_in name v.records ≡ None)
      (found : IsFound fits room slot name key v a r) where
    -- what hiding what is held there told
    abbrev pub Told : Type 0
    Told = IsSomeAnd (record_in name a.records)
        (λ q. Erases (replicate n (key_of q.entry)) slots charge a w
        × (is_in q.entry.stamp w.work.dead ≡ true))

    told_of : Told → Erases (replicate n (key_of r.entry)) slots charge a w
        × (is_in r.entry.stamp w.work.dead ≡ true)
    told_of told =
        subst (λ o. IsSomeAnd o (λ q. Erases (replicate n (key_of q.entry)) slots charge a w
        × (is_in q.entry.stamp w.work.dead ≡ true)))
        (found_held fits room slot name key v a r fresh found) told

    pub erased_there : slots ≤ 1 → Told → w.records ≡ dropped (is_called name) a.records
        → IsErased key n slots charge v w
    erased_there few told left = record {
      erases =
          erases_first found.searched
          (subst (λ k. Erases (replicate n k) slots charge a w) found.asked (told_of told).0);
      records =
          left ∙ (ap (dropped (is_called name)) found.records
          ∙ dropped_last (is_called name) v.records r fresh (eq-eqb r.name name found.called));
      met =
          let then = (told_of told).0.met in
          let all = total-append (λ k. when (is_key key k) 1) found.met.0 then.0 in
          let once = found.met.2 in (
            found.met.0 ++ then.0,
            then.1 ∙ (ap (λ keys. keys ++ then.0) found.met.1
                ∙ append_assoc v.met found.met.0 then.0),
            omega arith,
          );
    }

    pub buried_there : Told → Buried key (λ s. s ≡ slot) v w
    buried_there told =
        each_map (λ q. q.slot ≡ slot → q.entry ≡ r.entry)
        (λ q. key_of q.entry ≡ key → q.slot ≡ slot → is_in q.entry.stamp w.work.dead ≡ true)
        (λ q same asked on. subst (λ (e : Entry). is_in e.stamp w.work.dead ≡ true) (sym (same on))
        (told_of told).1) v.records found.one

  -- Nothing of a key was erased where none was found.
  pub erased_none : {key : Key} {v w : View T} → IsAtRest v → Sought v w → IsErased key 0 0 0 v w
  erased_none {key} {v} {w} rest s = record {
    erases = erases_none rest s.searched;
    records = s.records;
    met = (
      s.searched.met.0,
      s.searched.met.1,
      (let none : 0 ≤ times_met key s.searched.met.0 = omega arith in none),
    );
  }
