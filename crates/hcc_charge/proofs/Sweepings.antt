-- What visits and turns of the hand leave of a view, put together.
use Rattle.std.proofs.Common.{◌≡◌, ℕ, ◌+◌, ◌≤◌, Bool, true, false, List, [], Some, None, sym, refl, ap, ◌∙◌, arith}
use Rattle.std.specs.Int.{from_bool}
use Rattle.hcc_core.specs.Sums.{when}
use Rattle.hcc_core.specs.declared.client.Owned.TheVariants as owned
use Rattle.hcc_rule.specs.declared.key.Key.{Key}
use Rattle.hcc_rule.specs.declared.view.View.{View}
use Rattle.hcc_rule.specs.Seats.{SeatOf, view}
use Rattle.hcc_rule.specs.Looked.{after_look, found_dead}
use Rattle.hcc_rule.specs.ToldLedgers.{after_turn}
use Rattle.hcc_rule.specs.ToldOwners.{is_warm}
use Rattle.hcc_rule.proofs.Gone.{takes_more, takes_none}
use Rattle.hcc_table.specs.declared.visiting.ClockVisit.{ClockVisit}
use Rattle.hcc_table.specs.declared.visiting.ClockVisit.TheVariants as visits
use Rattle.hcc_table.specs.Erased.{IsAtRest}
use Rattle.hcc_table.specs.Freed.{IsFreed}
use Rattle.hcc_table.specs.Searched.{Grows, Sought}
use Rattle.hcc_table.specs.Visited.{Visited}
use Rattle.hcc_table.proofs.Erasures.{charge_small, takes_one_freed}
use Rattle.hcc_table.proofs.Searches.{grows_joined}
use Rattle.hcc_charge.specs.declared.swept.Swept.{Swept}
use Rattle.hcc_charge.specs.Evicted.{Sweeps}
use Rattle.hcc_charge.specs.Swept.{IsModest, both, swept_of}

no_added : (n : ℕ) → n ≡ n + 0
no_added n = omega arith

sums : (a b c : ℕ) → a + b + c ≡ a + (b + c)
sums a b c = omega arith

one_bit : (b : Bool) → from_bool b ≤ 1
one_bit true = omega arith
one_bit false = omega arith

-- what freed nothing
pub modest_idle : (visits turns pinned lost : ℕ) → pinned ≤ visits → lost ≤ visits
    → IsModest visits
    (record { turns = turns; slots = 0; charge = 0; hits = 0; pinned = pinned; lost = lost })
modest_idle visits turns pinned lost few less = record {
  slots = omega arith;
  charge = omega arith;
  hits = omega arith;
  pinned = few;
  lost = less;
}

module _ {T : Type 0} where
  -- A look, or an exchange that lost, sweeps nothing.
  pub sweeps_seen : (v w : View T) → IsAtRest v
      → w ≡ record v { work = record v.work { looked = w.work.looked; dead = w.work.dead } }
      → Grows v.work.dead w.work.dead → Sweeps 0 0 0 v w
  sweeps_seen v w rest same dead = record {
    same = same ∙ (λ k. record v {
      work = record v.work {
        looked = w.work.looked;
        owned = rest.0 k;
        trail = rest.1 k;
        freed = no_added v.work.freed k;
        freed_slots = no_added v.work.freed_slots k;
        dead = w.work.dead;
      };
      written = sym (ap (λ (z : View T). z.written) same) k;
      takings = no_added v.takings k;
      gone = sym (ap (λ (z : View T). z.gone) same) k;
      turns = no_added v.turns k;
    });
    dead = dead;
    taken = takes_none (ap (λ (z : View T). z.gone) same);
  }

  pub sweeps_none : (v : View T) → IsAtRest v → Sweeps 0 0 0 v v
  sweeps_none v rest = sweeps_seen v v rest refl (λ stamp h. h)

  pub sweeps_looked : (slot word : ℕ) (v w : View T) → IsAtRest v → w ≡ after_look slot word v
      → Sweeps 0 0 0 v w
  sweeps_looked slot word v w rest same =
      sweeps_seen v w rest
      (same ∙ (λ k. record v {
        work = record v.work {
          looked = sym (ap (λ (z : View T). z.work.looked) same) k;
          dead = sym (ap (λ (z : View T). z.work.dead) same) k;
        };
      }))
      (λ stamp h. rw same (grows_joined v.work.dead (found_dead slot word v) stamp h))

  pub sweeps_lost : (v w : View T) → IsAtRest v → Sought v w → w.met ≡ v.met
      → w.glimpse ≡ v.glimpse → Sweeps 0 0 0 v w
  sweeps_lost v w rest s unmet unseen =
      sweeps_seen v w rest
      (s.searched.same ∙ (λ k. record v {
        work = record v.work { looked = w.work.looked; dead = w.work.dead };
        records = s.records k;
        met = unmet k;
        glimpse = unseen k;
      }))
      s.searched.dead

  -- One that took an entry without uses sweeps it.
  pub sweeps_freed : (fits : T → Key → List ℕ → Type 0) (room word charge : ℕ) (v w : View T)
      → is_warm word ≡ false → w.records ≡ v.records → IsFreed fits room word None charge v w
      → Sweeps 0 1 charge v w
  sweeps_freed fits room word charge v w cold held f = record {
    same = f.same ∙ (λ k. record v {
      work = record v.work {
        looked = w.work.looked;
        owned = owned.Nothing;
        trail = [];
        freed = v.work.freed + charge;
        freed_slots = v.work.freed_slots + 1;
        dead = w.work.dead;
      };
      records = held k;
      written = sym (ap (λ (z : View T). z.written) f.same) k;
      takings = v.takings + 1;
      warm = unwarmed k;
      gone = sym (ap (λ (z : View T). z.gone) f.same) k;
      turns = no_added v.turns k;
    });
    dead = f.dead;
    taken = takes_one_freed f;
  }
    where
      unwarmed : v.warm + when (is_warm word) 1 ≡ v.warm
      unwarmed =
          let none : when (is_warm word) 1 ≡ 0 = ap (λ b. when b 1) cold in
          omega arith

  -- A visit, by its answer.
  pub sweeps_visited : (fits : T → Key → List ℕ → Type 0) (slots room address slot : ℕ)
      (done : ClockVisit) (a b : SeatOf T) → IsAtRest (view a)
      → Visited fits slots room address slot done a b
      → Sweeps 0 (swept_of done).slots (swept_of done).charge (view a) (view b)
  sweeps_visited fits slots room address slot visits.Passed a b rest h =
      sweeps_looked slot h.0 (view a) (view b) rest h.4
  sweeps_visited fits slots room address slot visits.Pinned a b rest h =
      sweeps_looked slot h.0 (view a) (view b) rest h.5
  sweeps_visited fits slots room address slot visits.Counted a b rest h =
      sweeps_looked slot h.0 (view a) (view b) rest h.4
  sweeps_visited fits slots room address slot visits.Lost a b rest h =
      sweeps_lost (view a) (view b) rest h.5 h.6 h.7
  sweeps_visited fits slots room address slot (visits.Freed charge hit) a b rest h =
      sweeps_freed fits room h.0 charge (view a) (view b) h.4 h.7 h.3

  -- What one visit can do.
  pub visited_modest : (fits : T → Key → List ℕ → Type 0) (slots room address slot : ℕ)
      (done : ClockVisit) (a b : SeatOf T) (tag : T) → (view a).tag ≡ Some tag
      → Visited fits slots room address slot done a b → IsModest 1 (swept_of done)
  visited_modest fits slots room address slot visits.Passed a b tag tagged h =
      modest_idle 1 0 0 0 (omega arith) (omega arith)
  visited_modest fits slots room address slot visits.Pinned a b tag tagged h =
      modest_idle 1 0 1 0 (omega arith) (omega arith)
  visited_modest fits slots room address slot visits.Counted a b tag tagged h =
      modest_idle 1 0 0 0 (omega arith) (omega arith)
  visited_modest fits slots room address slot visits.Lost a b tag tagged h =
      modest_idle 1 0 0 1 (omega arith) (omega arith)
  visited_modest fits slots room address slot (visits.Freed charge hit) a b tag tagged h =
      let small = charge_small fits room h.0 charge None (view a) (view b) tag tagged h.3 in
      let once = one_bit hit in
      record {
        slots = omega arith;
        charge = omega arith;
        hits = omega arith;
        pinned = omega arith;
        lost = omega arith;
      }

  -- A turn of the hand.
  pub sweeps_turned : (v w : View T) → IsAtRest v → w ≡ after_turn v → Sweeps 1 0 0 v w
  sweeps_turned v w rest same = record {
    same = same ∙ (λ k. record v {
      work = record v.work {
        looked = sym (ap (λ (z : View T). z.work.looked) same) k;
        owned = rest.0 k;
        trail = rest.1 k;
        freed = no_added v.work.freed k;
        freed_slots = no_added v.work.freed_slots k;
        dead = sym (ap (λ (z : View T). z.work.dead) same) k;
      };
      written = sym (ap (λ (z : View T). z.written) same) k;
      takings = no_added v.takings k;
      gone = sym (ap (λ (z : View T). z.gone) same) k;
      turns = v.turns + 1;
    });
    dead = λ stamp h. rw same h;
    taken = takes_none (ap (λ (z : View T). z.gone) same);
  }

  -- The client is at rest afterwards.
  pub rests : (turns slots charge : ℕ) (v w : View T) → Sweeps turns slots charge v w → IsAtRest w
  rests turns slots charge v w s =
      (ap (λ (z : View T). z.work.owned) s.same, ap (λ (z : View T). z.work.trail) s.same)

  -- and what it freed is more by the charge
  pub freed_more : (turns slots charge : ℕ) (v w : View T) → Sweeps turns slots charge v w
      → w.work.freed ≡ v.work.freed + charge
  freed_more turns slots charge v w s = ap (λ (z : View T). z.work.freed) s.same

  pub tagged_still : (turns slots charge : ℕ) (v w : View T) → Sweeps turns slots charge v w
      → w.tag ≡ v.tag
  tagged_still turns slots charge v w s = ap (λ (z : View T). z.tag) s.same

  -- One sweep behind another.
  pub sweeps_then : (turns slots charge more other plus : ℕ) (u v w : View T)
      → Sweeps turns slots charge u v → Sweeps more other plus v w
      → Sweeps (turns + more) (slots + other) (charge + plus) u w
  sweeps_then turns slots charge more other plus u v w a b = record {
    same =
        b.same ∙ (ap (λ (z : View T). record z {
          work = record z.work {
            looked = w.work.looked;
            owned = owned.Nothing;
            trail = [];
            freed = z.work.freed + plus;
            freed_slots = z.work.freed_slots + other;
            dead = w.work.dead;
          };
          written = w.written;
          takings = z.takings + other;
          gone = w.gone;
          turns = z.turns + more;
        }) a.same ∙ (λ k. record u {
          work = record u.work {
            looked = w.work.looked;
            owned = owned.Nothing;
            trail = [];
            freed = sums u.work.freed charge plus k;
            freed_slots = sums u.work.freed_slots slots other k;
            dead = w.work.dead;
          };
          written = w.written;
          takings = sums u.takings slots other k;
          gone = w.gone;
          turns = sums u.turns turns more k;
        }));
    dead = λ stamp h. b.dead stamp (a.dead stamp h);
    taken = takes_more a.taken b.taken;
  }

-- What more visits can do.
pub modest_both : (visits more : ℕ) (a b : Swept) → IsModest visits a → IsModest more b
    → IsModest (visits + more) (both a b)
modest_both visits more a b l r =
    let l0 = l.slots in
    let l1 = l.charge in
    let l2 = l.hits in
    let l3 = l.pinned in
    let l4 = l.lost in
    let r0 = r.slots in
    let r1 = r.charge in
    let r2 = r.hits in
    let r3 = r.pinned in
    let r4 = r.lost in
    record {
      slots = omega arith;
      charge = omega arith;
      hits = omega arith;
      pinned = omega arith;
      lost = omega arith;
    }
