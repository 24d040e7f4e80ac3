-- What a client holds it holds through all that others do until its own next step.
use Rattle.std.proofs.Common.{◌≡◌, ℕ, ◌≤◌, Bool, false, List, [], ◌∷◌, ◌++◌, is_some, sym, refl, ap, ◌∙◌, subst}
use Rattle.std.specs.List.{list_any}
use Rattle.std.proofs.lemmas.Bool.{or_from, or_parts}
use Rattle.std.proofs.lemmas.List.{append_assoc}
use Rattle.std.proofs.lemmas.Option.{same_Some}
use Rattle.hcc_core.specs.declared.event.Event.{Event}
use Rattle.hcc_core.specs.Runs.{after_all, held_at, takes_away}
use Rattle.hcc_core.specs.World.{State}
use Rattle.hcc_core.proofs.EveryRun.{stands_all}
use Rattle.hcc_rule.specs.declared.key.Key.{Key}
use Rattle.hcc_rule.specs.declared.view.Done.{Done}
use Rattle.hcc_rule.specs.Acts.{events_of, past, world_of}
use Rattle.hcc_rule.specs.Callers.{plan_of, world_at}
use Rattle.hcc_rule.specs.Events.{occupancy_done}
use Rattle.hcc_rule.specs.Opening.{begun_world}
use Rattle.hcc_rule.specs.Views.{names}
use Rattle.hcc_rule.proofs.Parts.ViewParts.{names_own}
use Rattle.hcc_rule.proofs.Seats.Histories.{after_more}
use Rattle.hcc_rule.proofs.Seats.Kept.{others_take_none}
use Rattle.hcc_rule.proofs.Seats.Runs.{run_lawful}
use Rattle.hcc_shard.specs.declared.seat.ShardSeat.{ShardSeat}
use Rattle.hcc_shard.specs.declared.shard.Shard.{Shard}
use Rattle.hcc_shard.specs.Callers.{view_of}
use Rattle.hcc_cache.specs.declared.cache.Cache.{Cache}
use Rattle.hcc_cache.specs.declared.client.Client.{Client}
use Rattle.hcc_cache.specs.declared.seeded.Seeded.{Seeded}
use Rattle.hcc_cache.specs.Calls.{shard_in}
use Rattle.hcc_cache.specs.Following.{OnlyLoads}
use Rattle.hcc_cache.specs.Keys.{fits_seeded}
use Rattle.hcc_cache.specs.Known.{Knows}
use Rattle.hcc_cache.specs.Moments.{KnowsHeld, KnowsShown}
use Rattle.hcc_cache.specs.Since.{GoesOnAt, IsHeldThrough}
use Rattle.hcc_cache.specs.Stays.{BeganEachWithin}
use Rattle.hcc_cache.proofs.Insertions.PlacedShown.{planned}
use Rattle.hcc_cache.proofs.Within.Taken.{same_rest}

-- what none of some events does neither part of them does, and what neither does none does
none_parts : (q : Event → Bool) (xs ys : List Done) → list_any q (events_of (xs ++ ys)) ≡ false
    → (list_any q (events_of xs) ≡ false) × (list_any q (events_of ys) ≡ false)
none_parts q [] ys none = (refl, none)
none_parts q (x ∷ xs) ys none =
    let parts = or_parts (q x.event) _ none in
    let rest = none_parts q xs ys parts.1 in
    (or_from (q x.event) _ parts.0 rest.0, rest.1)

none_both : (q : Event → Bool) (xs ys : List Done) → list_any q (events_of xs) ≡ false
    → list_any q (events_of ys) ≡ false → list_any q (events_of (xs ++ ys)) ≡ false
none_both q [] ys first second = second
none_both q (x ∷ xs) ys first second =
    let parts = or_parts (q x.event) _ first in
    or_from (q x.event) _ parts.0 (none_both q xs ys parts.1 second)

-- what one client knows goes on to what another does, and that to what a third one does
pub goes_then : {T : Type 0} (number : ℕ) (a b c : Client T) (g : GoesOnAt number a b)
    (h : GoesOnAt number b c) → (all : GoesOnAt number a c) × (all.more ≡ g.more ++ h.more)
goes_then number a b c g h =
    let same : h.was ≡ g.is = same_Some _ _ (sym h.seat_was ∙ g.seat_is) in (
      record {
        was = g.was;
        is = h.is;
        seat_was = g.seat_was;
        seat_is = h.seat_is;
        more = g.more ++ h.more;
        goes_on =
            h.goes_on ∙ (ap (λ (q : ShardSeat (Seeded _)). past q.seat ++ h.more) same
            ∙ (ap (λ ds. ds ++ h.more) g.goes_on
            ∙ append_assoc (past g.was.seat) g.more h.more));
      },
      refl,
    )

module _ {T : Type 0} (fits : T → Key → List ℕ → Type 0) (cache : Cache T)
    (began : BeganEachWithin cache fits) (key : Key) (name : ℕ) (old new : Client T)
    (knows : Knows cache old) (k : KnowsHeld cache key name old)
    (loads : OnlyLoads cache (shard_in cache key) old new) where
  abbrev seat : ShardSeat (Seeded T)
  seat = k.shown.seat

  abbrev holder : ℕ
  holder = (view_of seat).client

  -- its own step took nothing away, and what others did before it didn't either
  none_since : (ds : List Done) → past loads.is.seat ≡ past seat.seat ++ ds
      → list_any (takes_away holder name) (events_of ds) ≡ false
  none_since ds goes_on =
      let next = loads.did.1.1.0 in
      let done = occupancy_done loads.did.0 (view_of loads.was) in
      let was : loads.was ≡ seat = same_Some _ _ (sym loads.seat_was ∙ k.shown.seat_is) in
      let seated = knows.seated.each (shard_in cache key) k.shown.shard seat k.shown.shard_is
      k.shown.seat_is in
      let named = subst (λ (q : ShardSeat (Seeded T)). 1 ≤ names holder (view_of q)) (sym was)
      (names_own (view_of seat) (ap is_some seated.rests.at.tagged)) in
      let same : ds ≡ next.others ++ done ∷ [] =
      same_rest (past seat.seat) ds _ (sym goes_on ∙ (next.past
      ∙ ap (λ (q : ShardSeat (Seeded T)). past q.seat ++ (next.others ++ done ∷ [])) was)) in
      subst (λ xs. list_any (takes_away holder name) (events_of xs) ≡ false) (sym same)
      (none_both (takes_away holder name) next.others (done ∷ [])
      (others_take_none holder name next.others (next.apart holder named)) refl)

  -- So whoever knows a moment between two of its steps knows it to be held through what comes.
  pub held_through : (other : Client T) (m : KnowsShown cache key other)
      → m.slot ≡ k.shown.slot → (g : GoesOnAt (shard_in cache key) old other)
      → (h : GoesOnAt (shard_in cache key) other new) → (more later : List Done)
      → h.more ≡ more ++ later → IsHeldThrough cache key other m more
  held_through other m same_slot g h more later parts =
      let shard : m.shard ≡ k.shown.shard = same_Some _ _ (sym m.shard_is ∙ k.shown.shard_is) in
      let was : g.was ≡ seat = same_Some _ _ (sym g.seat_was ∙ k.shown.seat_is) in
      let middle : h.was ≡ g.is = same_Some _ _ (sym h.seat_was ∙ g.seat_is) in
      let at : g.is ≡ m.seat = same_Some _ _ (sym g.seat_is ∙ m.seat_is) in
      let last : h.is ≡ loads.is = same_Some _ _ (sym h.seat_is ∙ loads.seat_is) in
      let first : past m.seat.seat ≡ past seat.seat ++ g.more =
      ap (λ (q : ShardSeat (Seeded T)). past q.seat) (sym at) ∙ (g.goes_on
      ∙ ap (λ (q : ShardSeat (Seeded T)). past q.seat ++ g.more) was) in
      let all : past loads.is.seat ≡ past seat.seat ++ (g.more ++ (more ++ later)) =
      ap (λ (q : ShardSeat (Seeded T)). past q.seat) (sym last) ∙ (h.goes_on
      ∙ (ap (λ (q : ShardSeat (Seeded T)). past q.seat ++ h.more) (middle ∙ at)
      ∙ (ap (λ ds. ds ++ h.more) first ∙ (append_assoc (past seat.seat) g.more h.more
      ∙ ap (λ ds. past seat.seat ++ (g.more ++ ds)) parts)))) in
      let none = none_parts (takes_away holder name) g.more (more ++ later) (none_since _ all) in
      let kept = none_parts (takes_away holder name) more later none.1 in
      let plan = plan_of k.shown.shard.table in
      let image = began (shard_in cache key) k.shown.shard k.shown.shard_is in
      let lawful = run_lawful (fits_seeded fits) plan
      (planned (fits_seeded fits) k.shown.shard.table image) image (events_of (past seat.seat)) in
      let stands = stands_all (events_of g.more) holder name k.shown.slot k.entry lawful none.0
      k.held in
      let world : world_at m.shard.table m.seat.seat
      ≡ after_all (world_at k.shown.shard.table seat.seat) (events_of g.more) =
      ap (λ (z : Shard (Seeded T) _). world_at z.table m.seat.seat) shard
      ∙ (ap (world_of plan) first ∙ after_more (past seat.seat) g.more (begun_world plan)) in
      record {
        holder = holder;
        name = name;
        entry = k.entry;
        there =
            ap (λ (w : State). held_at w holder name m.slot) world
            ∙ (ap (λ s. held_at (after_all (world_at k.shown.shard.table seat.seat)
            (events_of g.more)) holder name s) same_slot ∙ stands);
        kept = kept.0;
      }
