-- What a load of a total finds is that of the world right behind it, whatever other clients did.
use Rattle.std.proofs.Common.{◌≡◌, ℕ, List, Ok, sym, ap, ◌∙◌}
use Rattle.std.specs.declared.alloc.Global.{Global}
use Rattle.hcc_core.specs.declared.event.Event.TheVariants as events
use Rattle.hcc_core.specs.declared.event.Reply.TheVariants as replies
use Rattle.hcc_core.specs.Ledgers.{occupancy_told, standing_told, told, usage_told}
use Rattle.hcc_core.specs.Outcomes.{live_at}
use Rattle.hcc_core.specs.Steps.{outcome_of}
use Rattle.hcc_core.specs.World.{State, occupancy_of, standing_in, usage_of}
use Rattle.hcc_rule.specs.declared.table.RuleTable.{RuleTable}
use Rattle.hcc_rule.specs.Callers.{IsEvent, world_at}
use Rattle.hcc_rule.specs.Events.{occupancy_done, standing_done, usage_done}
use Rattle.hcc_rule.specs.Seats.{SeatOf, view}
use Rattle.hcc_table.proofs.Moments.{event_leads}
use Rattle.hcc_table.proofs.Shown.{bound, ruled, same_count, same_outcome}
use Rattle.hcc_shard.specs.declared.seat.ShardSeat.{ShardSeat}
use Rattle.hcc_shard.specs.declared.shard.Shard.{Shard}
use Rattle.hcc_cache.specs.declared.cache.Cache.{Cache}
use Rattle.hcc_cache.specs.declared.client.Client.{Client}
use Rattle.hcc_cache.specs.declared.seeded.Seeded.{Seeded}
use Rattle.hcc_cache.specs.Totals.{AtEach, KnowsEach}

-- a client that is told a number is told this one, and the world stays
told_is : (w next : State) (client number n : ℕ)
    → told w client number ≡ Ok (replies.Count n, next) → (n ≡ number) × (w ≡ next)
told_is w next client number n is =
    let found = bound (live_at w client) _ _ is in
    let both = same_outcome _ _ found.2 in
    (sym (same_count number n (ap (λ z. z.0) both)), ap (λ z. z.1) both)

-- so it is of each total
usage_is : (w next : State) (client n : ℕ)
    → outcome_of w (events.Usage client) ≡ Ok (replies.Count n, next) → n ≡ usage_of next
unfolding usage_told
usage_is w next client n is =
    let both = told_is w next client (usage_of w) n (ruled w (events.Usage client) _ is) in
    both.0 ∙ ap usage_of both.1

occupancy_is : (w next : State) (client n : ℕ)
    → outcome_of w (events.Occupancy client) ≡ Ok (replies.Count n, next) → n ≡ occupancy_of next
unfolding occupancy_told
occupancy_is w next client n is =
    let both = told_is w next client (occupancy_of w) n (ruled w (events.Occupancy client) _ is) in
    both.0 ∙ ap occupancy_of both.1

standing_is : (w next : State) (client n : ℕ)
    → outcome_of w (events.Standing client) ≡ Ok (replies.Count n, next) → n ≡ standing_in next
unfolding standing_told
standing_is w next client n is =
    let both = told_is w next client (standing_in w) n (ruled w (events.Standing client) _ is) in
    both.0 ∙ ap standing_in both.1

module _ {T A : Type 0} (table : RuleTable T A) (n : ℕ) (a b : SeatOf T) where
  pub usage_loaded : IsEvent table (usage_done n (view a)) a b → n ≡ usage_of (world_at table b)
  usage_loaded event =
      let led = event_leads table (usage_done n (view a)) a b event in
      usage_is led.0 (world_at table b) (view a).client n led.1

  pub occupancy_loaded : IsEvent table (occupancy_done n (view a)) a b
      → n ≡ occupancy_of (world_at table b)
  occupancy_loaded event =
      let led = event_leads table (occupancy_done n (view a)) a b event in
      occupancy_is led.0 (world_at table b) (view a).client n led.1

  pub standing_loaded : IsEvent table (standing_done n (view a)) a b
      → n ≡ standing_in (world_at table b)
  standing_loaded event =
      let led = event_leads table (standing_done n (view a)) a b event in
      standing_is led.0 (world_at table b) (view a).client n led.1

-- What loads find at each shard is what the worlds have that the client knows then.
pub knows_loaded : {T : Type 0} (cache : Cache T) (Did : Shard (Seeded T) Global → (found : ℕ)
    → (old new : ShardSeat (Seeded T)) → Type 0) (number : Shard (Seeded T) Global → State → ℕ)
    (counts : List ℕ) (old new : Client T)
    → ((shard : Shard (Seeded T) Global) (found : ℕ) (was is : ShardSeat (Seeded T))
    → Did shard found was is → found ≡ number shard (world_at shard.table is.seat))
    → AtEach cache Did counts old new → KnowsEach cache number counts new
knows_loaded cache Did number counts old new tells h = record {
  count = h.count;
  each = λ s found there.
      let at = h.each s found there in (
        at.shard,
        at.is,
        at.shard_is,
        at.seat_is,
        tells at.shard found at.was at.is at.did,
      );
}
