-- What a walk leaves of a view at a slot once what it freed is settled.
use Rattle.std.proofs.Common.{◌≡◌, ℕ, ◌+◌, ◌<◌, true, List, [], length, sym, subst, refl, ap, ◌∙◌, arith}
use Rattle.std.proofs.lemmas.List.{append-nil}
use Rattle.hcc_core.specs.declared.limits.TheConstants.{MOST_HANDLES, STAMPS_PER_CLIENT}
use Rattle.hcc_core.specs.Lawful.{is_in}
use Rattle.hcc_rule.specs.declared.geometry.Geometry.{Geometry}
use Rattle.hcc_rule.specs.declared.key.Key.{Key}
use Rattle.hcc_rule.specs.declared.view.Record.{Record}
use Rattle.hcc_rule.specs.declared.view.View.{View}
use Rattle.hcc_rule.specs.Between.{IsBetweenCalls}
use Rattle.hcc_rule.specs.Records.{weight_on}
use Rattle.hcc_rule.proofs.Gone.{takes_alike, takes_none}
use Rattle.hcc_table.specs.Erased.{Erases}
use Rattle.hcc_table.specs.Searched.{IsFoundOn, Searched, Sought}
use Rattle.hcc_charge.specs.Settled.{settled}
use Rattle.hcc_shard.specs.Kept.{IsPassed}
use Rattle.hcc_shard.specs.Seated.{IsQuiet}
use Rattle.hcc_shard.proofs.Resting.{IsQuietAgain, idle_again, looked_again, quiet_more}
use Rattle.hcc_shard.proofs.Settlings.{settles_back}

module _ {T : Type 0} where
  -- Nothing was freed.
  pub passed_only : {slot : ℕ} {v w : View T} → Sought v w → IsPassed slot v w
  passed_only {slot} {v} {w} s = record {
    freed = 0;
    met = s.searched.met.0;
    same = s.searched.same ∙ (λ k. record v {
      work = record v.work { looked = w.work.looked; dead = w.work.dead };
      records = s.records k;
      written = sym (ap (λ (z : View T). z.written) s.searched.same) k;
      takings = none k;
      gone = sym (ap (λ (z : View T). z.gone) s.searched.same) k;
      met = s.searched.met.1 k;
      glimpse = w.glimpse;
    });
    dead = s.searched.dead;
    few = omega arith;
    unheld = λ some. absurd (omega arith);
    taken = (0, takes_none (ap (λ (z : View T). z.gone) s.searched.same));
  }
    where
      none : v.takings ≡ v.takings + 0
      none = omega arith

  -- An entry was, and what it took was settled.
  pub passed_freed : {slot charge : ℕ} {v b w : View T} → IsBetweenCalls v.work
      → Erases [] 1 charge v b → b.records ≡ v.records → weight_on slot v.records ≡ 0
      → w ≡ settled b → IsPassed slot v w
  passed_freed {slot} {charge} {v} {b} {w} idle e records unheld settles = record {
    freed = 1;
    met = e.met.0;
    same =
        settles ∙ (ap settled e.same ∙ (λ k. record v {
          work = (settles_back 1 charge b.work v.work idle ∙ (λ j. record v.work {
            looked = sym (ap (λ (z : View T). z.work.looked) settles) j;
            dead = sym (ap (λ (z : View T). z.work.dead) settles) j;
          })) k;
          records = records k;
          written = sym (ap (λ (z : View T). z.written) settles) k;
          hidden = append-nil v.hidden k;
          takings = v.takings + 1;
          gone = sym (ap (λ (z : View T). z.gone) settles) k;
          met = e.met.1 k;
          glimpse = sym (ap (λ (z : View T). z.glimpse) settles) k;
        }));
    dead = λ stamp h. subst (λ d. is_in stamp d ≡ true)
        (sym (ap (λ (z : View T). z.work.dead) settles)) (e.dead stamp h);
    few = omega arith;
    unheld = λ some. unheld;
    taken = (charge, takes_alike e.taken refl (ap (λ (z : View T). z.gone) settles));
  }

  -- So many were taken.
  pub passed_takings : {charge : ℕ} {v b w : View T} → Erases [] 1 charge v b → w ≡ settled b
      → w.takings ≡ v.takings + 1
  passed_takings e settles =
      ap (λ (z : View T). z.takings) settles ∙ ap (λ (z : View T). z.takings) e.same

  -- None were.
  pub unfreed_takings : {v w : View T} → Searched v w → w.takings ≡ v.takings + 0
  unfreed_takings {v} {w} s =
      let same = ap (λ (z : View T). z.takings) s.same in omega arith

  module _ (geometry : Geometry) {v w : View T} (q : IsQuiet geometry v) where
    -- The client is at rest again,
    pub quiet_passed : {slot : ℕ} → IsPassed slot v w → IsQuietAgain geometry v w
    quiet_passed p =
        let records : w.records ≡ v.records = ap (λ (z : View T). z.records) p.same in
        record {
          self = record {
            tag = ap (λ (z : View T). z.tag) p.same;
            client = ap (λ (z : View T). z.client) p.same;
          };
          quiet = record {
            idle = idle_again v.work w.work q.idle
                (looked_again v.work w.work (ap (λ (z : View T). z.work) p.same));
            kept = rw records q.kept;
            few = rw records q.few;
          };
        }

    -- also where it holds one more.
    pub quiet_held : (fits : T → Key → List ℕ → Type 0) (slot serial : ℕ) (r : Record)
        → IsFoundOn fits geometry.room slot serial v w r → slot < geometry.slots
        → serial < STAMPS_PER_CLIENT → length v.records < MOST_HANDLES
        → IsQuietAgain geometry v w
    quiet_held fits slot serial r f within low room =
        quiet_more geometry v w q r f.searched f.records (record {
          on = rw f.on within;
          single = f.single;
          named = rw f.called low;
          readable = record { short = f.short; bytes = f.bytes };
        }) room
