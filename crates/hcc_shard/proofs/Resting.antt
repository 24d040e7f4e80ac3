-- A seat is at rest again after what a call left of its view.
use Rattle.std.proofs.Common.{◌≡◌, ℕ, ◌<◌, ◌++◌, Bool, List, [], ◌∷◌, IfSome, length, sym, refl, ap, ◌∙◌, arith}
use Rattle.hcc_core.specs.declared.client.Client.{Client}
use Rattle.hcc_core.specs.declared.limits.TheConstants.{MOST_HANDLES, STAMPS_PER_CLIENT}
use Rattle.hcc_core.specs.Outcomes.{dropped}
use Rattle.hcc_core.proofs.DroppedLemmas.{dropped-length}
use Rattle.hcc_rule.specs.declared.geometry.Geometry.{Geometry}
use Rattle.hcc_rule.specs.declared.key.Key.{Key}
use Rattle.hcc_rule.specs.declared.view.Record.{Record}
use Rattle.hcc_rule.specs.declared.view.View.{View}
use Rattle.hcc_rule.specs.Callers.{geometry_of}
use Rattle.hcc_rule.specs.Between.{IsBetweenCalls}
use Rattle.hcc_rule.specs.Seats.{IsSameSeat, view}
use Rattle.hcc_rule.specs.Views.{is_called}
use Rattle.hcc_rule.specs.Records.{record_in}
use Rattle.hcc_table.specs.declared.pins.Pin.{Pin}
use Rattle.hcc_table.specs.Pins.{IsOf, IsPinned}
use Rattle.hcc_table.specs.Searched.{IsFound, Searched, Sought}
use Rattle.hcc_shard.specs.declared.seat.ShardSeat.{ShardSeat}
use Rattle.hcc_shard.specs.declared.shard.Shard.{Shard}
use Rattle.hcc_shard.specs.Referred.{IsErasedAll, IsReleased}
use Rattle.hcc_shard.specs.Seated.{IsKept, IsQuiet, Rests}
use Rattle.hcc_shard.proofs.Names.{each_left, each_more, length_more, readable_again, readable_in}

-- A client that has nothing in hand, and looked, showed and saw entries since, has nothing in hand.
pub idle_again : (v w : Client) → IsBetweenCalls v
    → w ≡ record v {
      looked = w.looked;
      standalones = w.standalones;
      stamps = w.stamps;
      dead = w.dead;
    }
    → IsBetweenCalls w
idle_again v w idle same =
    same ∙ ap (λ (z : Client). record z {
      looked = w.looked;
      standalones = w.standalones;
      stamps = w.stamps;
      dead = w.dead;
    }) idle

-- the same, where it only looked and saw
pub looked_again : (v w : Client) → w ≡ record v { looked = w.looked; dead = w.dead }
    → w ≡ record v {
      looked = w.looked;
      standalones = w.standalones;
      stamps = w.stamps;
      dead = w.dead;
    }
looked_again v w same = same ∙ λ k. record v {
  looked = w.looked;
  standalones = sym (ap (λ (z : Client). z.standalones) same) k;
  stamps = sym (ap (λ (z : Client). z.stamps) same) k;
  dead = w.dead;
}

module _ {T : Type 0} where
  -- the client of a view, its other clients and its tag stay
  pub record IsSelf (v w : View T) : Type 0 where
    pub tag : w.tag ≡ v.tag
    pub client : w.client ≡ v.client

  -- what a call left, in the words of `Rests`
  pub record IsQuietAgain (geometry : Geometry) (v w : View T) : Type 0 where
    pub self : IsSelf v w
    pub quiet : IsQuiet geometry w

  module _ (geometry : Geometry) (v w : View T) (q : IsQuiet geometry v) where
    -- nothing
    pub quiet_same : w ≡ v → IsQuietAgain geometry v w
    quiet_same same = rw same (record { self = record { tag = refl; client = refl }; quiet = q })

    -- what a search leaves
    pub searched_self : Searched v w → IsSelf v w
    searched_self s = record {
      tag = ap (λ (z : View T). z.tag) s.same;
      client = ap (λ (z : View T). z.client) s.same;
    }

    searched_idle : Searched v w → IsBetweenCalls w.work
    searched_idle s =
        idle_again v.work w.work q.idle
        (looked_again v.work w.work (ap (λ (z : View T). z.work) s.same))

    pub quiet_sought : Sought v w → IsQuietAgain geometry v w
    quiet_sought s = record {
      self = searched_self s.searched;
      quiet = record {
        idle = searched_idle s.searched;
        kept = rw s.records q.kept;
        few = rw s.records q.few;
      };
    }

    -- one record more
    pub quiet_more : (r : Record) → Searched v w → w.records ≡ v.records ++ r ∷ []
        → IsKept geometry r → length v.records < MOST_HANDLES → IsQuietAgain geometry v w
    quiet_more r s more kept room = record {
      self = searched_self s;
      quiet = record {
        idle = searched_idle s;
        kept = rw more (each_more (IsKept geometry) v.records r q.kept kept);
        few = rw more (let longer = length_more v.records r in omega arith);
      };
    }

    pub quiet_found : (fits : T → Key → List ℕ → Type 0) (slot serial : ℕ) (key : Key) (r : Record)
        → IsFound fits geometry.room slot serial key v w r → slot < geometry.slots
        → serial < STAMPS_PER_CLIENT → length v.records < MOST_HANDLES → IsQuietAgain geometry v w
    quiet_found fits slot serial key r f within low room =
        quiet_more r f.searched f.records (record {
          on = rw f.on within;
          single = f.single;
          named = rw f.called low;
          readable = record { short = f.short; bytes = f.bytes };
        }) room

    pub quiet_again : (pin new : Pin) (serial : ℕ) (r : Record) → Searched v w
        → w.records ≡ v.records ++ r ∷ [] → IsOf new r → new.slot ≡ pin.slot → r.name ≡ serial
        → IsPinned pin v → IfSome (record_in pin.name v.records) (λ q. r.entry ≡ q.entry)
        → pin.slot < geometry.slots → serial < STAMPS_PER_CLIENT → length v.records < MOST_HANDLES
        → IsQuietAgain geometry v w
    quiet_again pin new serial r s more of there called held entry within low room =
        quiet_more r s more (record {
          on = rw (of.0 ∙ there) within;
          single = of.1;
          named = rw called low;
          readable =
              readable_again geometry.room r (record_in pin.name v.records) (IsOf pin)
              (readable_in geometry pin.name v.records q.kept) entry held;
        }) room

    -- one less
    pub quiet_released : (name : ℕ) (erase freed : Bool) → IsReleased name erase freed v w
        → IsQuietAgain geometry v w
    quiet_released name erase freed r =
        let left : w.records ≡ dropped (is_called name) v.records =
        ap (λ (z : View T). z.records) r.same in
        record {
          self = record {
            tag = ap (λ (z : View T). z.tag) r.same;
            client = ap (λ (z : View T). z.client) r.same;
          };
          quiet = record {
            idle = idle_again v.work w.work q.idle
                (looked_again v.work w.work (ap (λ (z : View T). z.work) r.same));
            kept = rw left (each_left (IsKept geometry) (is_called name) v.records q.kept);
            few = rw left
                (let less = dropped-length (is_called name) v.records in
                let few = q.few in
                omega arith);
          };
        }

    -- entries hidden
    pub quiet_erased : (key : Key) (hidden : ℕ) → IsErasedAll key hidden v w
        → IsQuietAgain geometry v w
    quiet_erased key hidden e =
        let records : w.records ≡ v.records = ap (λ (z : View T). z.records) e.same in
        record {
          self = record {
            tag = ap (λ (z : View T). z.tag) e.same;
            client = ap (λ (z : View T). z.client) e.same;
          };
          quiet = record {
            idle = idle_again v.work w.work q.idle
                (looked_again v.work w.work (ap (λ (z : View T). z.work) e.same));
            kept = rw records q.kept;
            few = rw records q.few;
          };
        }

module _ {T A : Type 0} where
  -- A seat is at rest again.
  pub rests_again : (shard : Shard T A) (old new : ShardSeat T) → Rests shard old
      → IsSameSeat old.seat new.seat → new.client ≡ old.client
      → IsQuietAgain (geometry_of shard.table) (view old.seat) (view new.seat) → Rests shard new
  rests_again shard old new r same client q = record {
    at = record {
      table = same.table ∙ r.at.table;
      slots = same.slots ∙ r.at.slots;
      tagged = q.self.tag ∙ r.at.tagged;
    };
    own = q.self.client ∙ (r.own ∙ sym client);
    known = rw client r.known;
    quiet = q.quiet;
  }
