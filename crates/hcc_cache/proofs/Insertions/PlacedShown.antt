-- What an insertion placed is shown, whatever other clients do meanwhile.
use Rattle.std.proofs.Common.{◌≡◌, ◌≢◌, ℕ, ◌<◌, Bool, List, [], ◌∷◌, ◌++◌, Option, Some, None, Ok, length, option_map, slice_get, sym, refl, ap, ◌∙◌, subst}
use Rattle.std.specs.Prelude.{IsSomeAnd, option_and_then}
use Rattle.std.proofs.lemmas.List.{append_assoc}
use Rattle.std.proofs.lemmas.Option.{same_Some}
use Rattle.hcc_core.specs.declared.client.Client.{Client as CoreClient}
use Rattle.hcc_core.specs.declared.client.Owned.{Owned}
use Rattle.hcc_core.specs.declared.client.Owned.TheVariants as owned
use Rattle.hcc_core.specs.declared.event.Event.TheVariants as events
use Rattle.hcc_core.specs.declared.event.Reply.{Reply}
use Rattle.hcc_core.specs.declared.slot.Entry.{Entry}
use Rattle.hcc_core.specs.declared.slot.Slot.{Slot}
use Rattle.hcc_core.specs.Entries.{built_by, show_of}
use Rattle.hcc_core.specs.Lawful.{Lawful, owned_by, owned_slot, owner_in}
use Rattle.hcc_core.specs.Outcomes.{live_at}
use Rattle.hcc_core.specs.Steps.{outcome_of}
use Rattle.hcc_core.specs.World.{State}
use Rattle.hcc_core.proofs.Keeps.{found_ok, live_ok}
use Rattle.hcc_rule.specs.declared.geometry.Geometry.{Geometry}
use Rattle.hcc_rule.specs.declared.key.Key.{Key}
use Rattle.hcc_rule.specs.declared.steps.shows.Draft.{Draft}
use Rattle.hcc_rule.specs.declared.table.RuleTable.{RuleTable}
use Rattle.hcc_rule.specs.declared.view.Done.{Done}
use Rattle.hcc_rule.specs.Acts.{IsRun, Leads, events_of, past, world_of}
use Rattle.hcc_rule.specs.Callers.{IsEvent, plan_of, slots_of, world_at}
use Rattle.hcc_rule.specs.Events.{show_done}
use Rattle.hcc_rule.specs.Opening.{begun_world}
use Rattle.hcc_rule.specs.Seats.{IsPlanned, SeatOf, view}
use Rattle.hcc_rule.specs.Words.{key_of}
use Rattle.hcc_rule.proofs.Basics.Lists.{within}
use Rattle.hcc_rule.proofs.Seats.Behind.{run_behind}
use Rattle.hcc_rule.proofs.Seats.Histories.{run_is}
use Rattle.hcc_rule.proofs.Seats.Runs.{run_lawful}
use Rattle.hcc_table.specs.Standing.{ShowsKey, entry_shown, shown_at}
use Rattle.hcc_table.specs.Still.{BeganWithin}
use Rattle.hcc_table.specs.Tries.{ShowsBy}
use Rattle.hcc_table.proofs.Occupied.{show_tells}
use Rattle.hcc_table.proofs.Setups.{slots_at}
use Rattle.hcc_table.proofs.Shown.{bound, ruled}
use Rattle.hcc_table.proofs.Unshown.{owned_at}
use Rattle.hcc_shard.specs.Reserving.{PutsIn}
use Rattle.hcc_cache.specs.declared.cache.Cache.{Cache}
use Rattle.hcc_cache.specs.declared.client.Client.{Client}
use Rattle.hcc_cache.specs.declared.seeded.Seeded.{Seeded}
use Rattle.hcc_cache.specs.Calls.{AtShard, shard_in}
use Rattle.hcc_cache.specs.Keys.{fits_seeded}
use Rattle.hcc_cache.specs.Known.{Knows}
use Rattle.hcc_cache.specs.Moments.{KnowsShown}
use Rattle.hcc_cache.specs.Sharding.{key_to}
use Rattle.hcc_cache.specs.Stays.{BeganEachWithin}

-- a client that builds owns the slot that it builds
builds_own : (o : Owned) (slot : ℕ) → built_by o ≡ Some slot → o ≡ owned.ForBuilding slot
builds_own owned.Nothing slot is = cc
builds_own (owned.ForBuilding there) slot is = ap owned.ForBuilding (same_Some _ _ is)
builds_own (owned.ForFreeing there) slot is = cc

-- who shows an entry built its slot
show_builds : (w next : State) (client key0 key1 charge countdown : ℕ) (name : Option ℕ)
    (value : List ℕ) (reply : Reply)
    → outcome_of w (events.Show client key0 key1 charge countdown name value) ≡ Ok (reply, next)
    → (slot : ℕ) × (owned_at w client ≡ Some (owned.ForBuilding slot))
unfolding show_of
show_builds w next client key0 key1 charge countdown name value reply is =
    let first = bound (live_at w client) _ _
    (ruled w (events.Show client key0 key1 charge countdown name value) _ is) in
    let second = bound _ _ _ first.2 in (
      second.0,
      ap (option_map (λ (c : CoreClient). c.owned)) (live_ok w client first.0 first.1)
          ∙ ap Some (builds_own first.0.owned second.0 (found_ok _ _ second.0 second.1)),
    )

-- what a client of a lawful world owns is a slot of it
pub owned_there : (w : State) → Lawful w → (client slot : ℕ)
    → owned_at w client ≡ Some (owned.ForBuilding slot)
    → (built : Slot) × (slice_get w.slots slot ≡ Some built)
owned_there w l client slot owns =
    some (slice_get w.slots slot)
    (l.owners.owned slot client (by (slice_get w.clients client) owns))
  where
    by : (o : Option CoreClient)
        → option_map (λ (c : CoreClient). c.owned) o ≡ Some (owned.ForBuilding slot)
        → owned_by o ≡ Some slot
    by None is = cc
    by (Some c) is = ap owned_slot (same_Some _ _ is)

    some : (o : Option Slot) → owner_in o ≡ Some client
        → (built : Slot) × (o ≡ Some built)
    some None is = cc
    some (Some built) is = (built, refl)

-- what shows an entry is a slot of its world
pub shown_within : (w : State) (key : Key) (slot : ℕ) → ShowsKey w key slot → slot < length w.slots
shown_within w key slot shows = by (slice_get w.slots slot) refl shows
  where
    by : (o : Option Slot) → slice_get w.slots slot ≡ o
        → IsSomeAnd (option_and_then entry_shown o) (λ e. key_of e ≡ key) → slot < length w.slots
    by None at is = absurd is
    by (Some seen) at is = within w.slots slot seen at

module _ {T A : Type 0} (fits : T → Key → List ℕ → Type 0) (table : RuleTable T A)
    (began : BeganWithin table fits) where
  pub planned : IsPlanned (plan_of table).geometry (plan_of table).capacity
  planned =
      subst (λ g. IsPlanned g (plan_of table).capacity) (sym table.planned.0)
      (subst (IsPlanned table.geometry) (sym table.planned.1) table.limits)

  -- a seat's own event led on from a lawful world
  lawful_leads : (done : Done) (a b : SeatOf T) → IsEvent table done a b
      → (w : State) × Lawful w × Leads w done (world_at table b)
  lawful_leads done a b event =
      let front = past a ++ event.0.others in
      let known : past b ≡ front ++ done ∷ [] =
      event.0.past ∙ sym (append_assoc (past a) event.0.others (done ∷ [])) in
      let run = run_behind front (done ∷ []) (begun_world (plan_of table)) event.1.world
      (subst (λ h. IsRun (begun_world (plan_of table)) h event.1.world) known event.1.run) in (
        world_of (plan_of table) front,
        run_lawful fits (plan_of table) planned began (events_of front),
        subst (λ w. Leads (world_of (plan_of table) front) done w)
            (sym run.2 ∙ run_is (past b) (begun_world (plan_of table)) event.1.world event.1.run)
            run.1,
      )

  -- An entry of the key was built and shown: some slot shows it.
  pub built_shows : (key : Key) (name weight slot : ℕ) (a b : SeatOf T)
      → ShowsBy fits table key name weight slot a b
      → (there : ℕ) × (there < slots_of table) × ShowsKey (world_at table b) key there
  built_shows key name weight slot a b h = (
    there,
    subst (λ n. there < n) (slots_at table b)
        (shown_within (world_at table b) key there shows),
    shows,
  )
    where
      wrote : SeatOf T
      wrote = h.builds.0

      led : (w : State) × Lawful w
          × Leads w (show_done weight h.called h.made (view wrote)) (world_at table b)
      led = lawful_leads (show_done weight h.called h.made (view wrote)) wrote b h.builds.3

      owns : (slot : ℕ) × (owned_at led.0 (view wrote).client ≡ Some (owned.ForBuilding slot))
      owns =
          show_builds led.0 (world_at table b) (view wrote).client h.made.key.w0 h.made.key.w1
          h.made.charge weight h.called h.made.value _ led.2

      there : ℕ
      there = owns.0

      built : (built : Slot) × (slice_get led.0.slots there ≡ Some built)
      built = owned_there led.0 led.1 (view wrote).client there owns.1

      told : ((e : Entry) × (shown_at (world_at table b) there ≡ Some e)
          × (e.key0 ≡ h.made.key.w0) × (e.key1 ≡ h.made.key.w1))
          × ((s : ℕ) → s ≢ there
          → shown_at (world_at table b) s ≡ shown_at led.0 s)
      told =
          show_tells led.0 (world_at table b) (view wrote).client h.made.key.w0 h.made.key.w1
          h.made.charge weight h.called h.made.value there built.0 _ led.2 owns.1 built.1

      asked : key_of told.0.0 ≡ key
      asked = (λ k. record { w0 = told.0.2 k; w1 = told.0.3 k }) ∙ h.asked

      shows : ShowsKey (world_at table b) key there
      shows = subst (λ o. IsSomeAnd o (λ e. key_of e ≡ key)) (sym told.0.1) asked

-- What was put into a slot is known to be shown.
module _ {T : Type 0} (fits : T → Key → List ℕ → Type 0) (cache : Cache T)
    (began : BeganEachWithin cache fits) (key : Key) (old new : Client T) (knows : Knows cache old)
  where
    pub put_shown : (draft : Draft) → draft.key ≡ key_to cache.seed key → (had has : Bool)
        → (h : AtShard cache (λ shard was is. (slot : ℕ)
        × PutsIn (fits_seeded fits) shard draft had has slot was is) (shard_in cache key) old new)
        → KnowsShown cache key new
    put_shown draft asked had has h = record {
      shard = h.shard;
      seat = h.is;
      shard_is = h.shard_is;
      seat_is = h.seat_is;
      slot = shows.0;
      within =
          subst (λ n. shows.0 < n)
          (ap (λ (x : Geometry). x.slots)
          (knows.alike.plans (shard_in cache key) h.shard h.shard_is).0) shows.1;
      shows =
          subst (λ k. ShowsKey (world_at h.shard.table h.is.seat) k shows.0) asked
          (subst (λ (q : SeatOf (Seeded T)). ShowsKey (world_at h.shard.table q) draft.key shows.0)
          (sym ends) shows.2);
    }
      where
        puts : PutsIn (fits_seeded fits) h.shard draft had has h.did.0 h.was h.is
        puts = h.did.1

        ends : h.is.seat ≡ puts.tries.inserts.done
        ends = puts.ends ∙ puts.tries.inserts.placed h.did.0 refl

        shows : (there : ℕ) × (there < slots_of h.shard.table)
            × ShowsKey (world_at h.shard.table puts.tries.inserts.done) draft.key there
        shows =
            built_shows (fits_seeded fits) h.shard.table
            (began (shard_in cache key) h.shard h.shard_is) draft.key draft.serial draft.countdown _
            puts.tries.inserts.mid puts.tries.inserts.done puts.tries.inserts.tries.3
