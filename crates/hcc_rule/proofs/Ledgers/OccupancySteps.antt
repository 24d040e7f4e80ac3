-- Steps on the occupancy word: loads, places, and slots that were freed.
use Rattle.std.proofs.Common.{◌≡◌, ℕ, ◌+◌, ◌-◌, ◌%◌, ◌^◌, ◌<◌, ◌≤◌, length, Bool, true, false, cond, nat_lt, if◌then◌else◌, List, Some, slice_get, slice_index, refl, ap, ◌∙◌, arith, sym}
use mathlib.Core.Option.{none}
use Rattle.atomic_table.specs.Table.{step}
use Rattle.hcc_core.specs.declared.event.Event.TheVariants as events
use Rattle.hcc_core.specs.declared.event.Reply.TheVariants as replies
use Rattle.hcc_core.specs.declared.setup.Setup.{Setup}
use Rattle.hcc_core.specs.declared.client.Place.{Place}
use Rattle.hcc_core.specs.declared.client.Place.TheVariants as places
use Rattle.hcc_core.specs.declared.client.Client.{Client}
use Rattle.hcc_core.specs.Sums.{when}
use Rattle.hcc_core.specs.World.{State, charged_to, occupied_by, standing_of, occupancy_of, limit_of, is_placed}
use Rattle.hcc_core.specs.Ledgers.{place_granted}
use Rattle.hcc_core.proofs.SumLemmas.{total-member}
use Rattle.hcc_rule.specs.declared.key.Key.{Key}
use Rattle.hcc_rule.specs.declared.layout.TheConstants.{OCCUPANCY}
use Rattle.hcc_rule.specs.declared.rule.Plan.{Plan}
use Rattle.hcc_rule.specs.declared.view.Record.{Record}
use Rattle.hcc_rule.specs.declared.view.View.{View}
use Rattle.hcc_rule.specs.Told.{Held}
use Rattle.hcc_rule.specs.ToldLedgers.{Occupied, occupancies, place_at, enters, gives_slots, quits}
use Rattle.hcc_rule.specs.Views.{is_seated, Each}
use Rattle.hcc_rule.specs.Records.{different}
use Rattle.hcc_rule.specs.Words.{ledger_at}
use Rattle.hcc_rule.specs.Rule.{IsRecorded, IsModest, setup_of, Holds}
use Rattle.hcc_rule.proofs.Basics.Lists.{read_at}
use Rattle.hcc_rule.proofs.Basics.Bounds.{occupancy_small, occupancy_beside}
use Rattle.hcc_rule.proofs.Limits.LedgerLimits.{occupancy_limit}
use Rattle.hcc_rule.proofs.Limits.Alone.{occupancy_alone}
use Rattle.hcc_rule.proofs.Basics.Different.{places_within}
use Rattle.hcc_rule.proofs.Ledgers.LedgerSteps.{on_occupancy, Pays}
use Rattle.hcc_rule.proofs.Ledgers.LedgerGives.{occupancy_gives, enter_gives, slots_gives, quit_gives}
use Rattle.hcc_rule.proofs.Parts.Asides.{pays_at, modest_is, law_is, goes_by}
use Rattle.hcc_rule.proofs.Parts.SlotSteps.{Shard}
use Rattle.hcc_rule.proofs.Parts.Touches.{client_is, live_is}
use Rattle.hcc_rule.specs.Acts.{Acts, did}
use Rattle.hcc_rule.specs.Events.{entered, occupancy_done}

-- what a client has of places and slots, with the entries of these records, each once
occupied_beside : (w : State) (c : ℕ) (client : Client) → slice_get w.clients c ≡ Some client
    → (rs : List Record) → Each (IsRecorded w.slots) rs
    → occupied_by client + length (different rs) ≤ occupancy_of w
occupied_beside w c client at rs recorded =
    let member = total-member occupied_by w.clients c client at in
    let entries = places_within w.slots rs recorded in
    omega arith

-- what a client has of places and slots is within the occupancy
occupied_within : (w : State) (c : ℕ) (client : Client) → slice_get w.clients c ≡ Some client
    → occupied_by client ≤ occupancy_of w
occupied_within w c client at = let member =
    total-member occupied_by w.clients c client at in omega arith

-- A place that is got counts, whether it is granted or open.
placed_at : (setup : Setup) (occupancy : ℕ) → is_placed (place_at setup occupancy) ≡ true
placed_at setup occupancy = by (nat_lt occupancy (limit_of setup))
  where
    by : (room : Bool) → is_placed (cond room places.Granted places.Open) ≡ true
    by true = refl
    by false = refl

-- a grant leaves it counted or not
placed_granted : (place : Place) → is_placed (place_granted place) ≡ is_placed place
placed_granted places.Absent = refl
placed_granted places.Open = refl
placed_granted places.Granted = refl

module _ {T : Type 0} (fits : T → Key → List ℕ → Type 0) (p : Plan T) (count id a : ℕ) (me : Held T)
    (seated : is_seated me.0 ≡ true) (place : a
    ≡ ledger_at p.geometry.slots p.geometry.room OCCUPANCY) where
  module _ (s : Shard fits p) (r : Holds fits p s) where
    -- the word found is the occupancy
    found_occupancy : slice_index s.words a ≡ occupancy_of r.world
    found_occupancy = ap (slice_index s.words) place ∙ r.ledgers.occupancy

    -- and this is told of it
    occupied_told : slice_get s.views id ≡ Some me.0
        → Occupied (setup_of p) me.0 (slice_index s.words a)
    occupied_told at = record {
      entries = rw found_occupancy
          (occupied_beside r.world me.0.client me.0.work (client_is fits p s r id me.0 at seated)
          me.0.records (r.holding id me.0 at).recorded);
      low = rw place (occupancy_limit fits p s r);
      alone = λ one. rw found_occupancy (occupancy_alone fits p s r id me.0 at seated one);
    }

    -- what is paid by a client of which the place and the freed slots alone change
    paid_occupancy : (y : ℕ) (new : Client)
        → y + occupied_by me.0.work ≡ slice_index s.words a + occupied_by new
        → new ≡ record me.0.work { place = new.place; freed_slots = new.freed_slots }
        → Pays p.geometry.slots p.geometry.room a (slice_index s.words a) y r.world.hand
        r.world.hand me.0.work new
    paid_occupancy y new paid same =
        pays_at p.geometry.slots p.geometry.room a _ (slice_index s.words a) y r.world.hand
        r.world.hand me.0.work new place
        (on_occupancy p.geometry.slots p.geometry.room (slice_index s.words a) y r.world.hand
        me.0.work new paid
        (ap charged_to same) (ap standing_of same) (ap (λ (c : Client). c.trail) same))

    -- its amounts stay modest
    modest_placed : (v : View T) → slice_get s.views id ≡ Some v → is_seated v ≡ true
        → (place : Place) (freed_slots : ℕ)
        → IsModest (record v.work { place = place; freed_slots = freed_slots })
    modest_placed v at sits place freed_slots =
        let old = modest_is fits p s r id v at sits in
        record { asked = old.asked; freed = old.freed; few = old.few; small = old.small }

  pub occupancy_step : (setup : Setup) → setup ≡ setup_of p
      → Acts fits p count id me a (λ n. n) (occupancies setup (step count a 0 0 none) me)
  occupancy_step setup said s r homes there low =
      goes_by fits p s r id a word me v.work v.open_places v.seen v.tight
      (events.Occupancy v.client) (replies.Count (occupancy_of r.world))
      (occupancies setup (step count a 0 0 none) me) at seated refl (refl, refl)
      (modest_is fits p s r id v at seated)
      (occupancy_gives r.world v.client v.work (law_is fits p s r) client live)
      (paid_occupancy s r word v.work refl refl) (
        refl,
        refl,
        rw said (occupied_told s r at),
        ap (λ n. Some (occupancy_done n v)) (sym (found_occupancy s r)),
      )
    where
      v : View T
      v = me.0

      word : ℕ
      word = slice_index s.words a

      at : slice_get s.views id ≡ Some v
      at = read_at s.views id v there

      client : slice_get r.world.clients v.client ≡ Some v.work
      client = client_is fits p s r id v at seated

      live : v.work.live ≡ true
      live = live_is fits p s r id v at seated

  -- An add of one place.
  pub enter_step : (setup : Setup) → setup ≡ setup_of p → me.0.work.place ≡ places.Absent
      → Acts fits p count id me a (λ n. (n + 1) % 2 ^ 64)
      (enters setup (step count a 1 0 none) me)
  enter_step setup said absent s r homes there low =
      goes_by fits p s r id a ((word + 1) % 2 ^ 64) me new asked v.seen v.tight
      (events.Enter v.client) (entered r.world.setup word) (enters setup (step count a 1 0 none) me)
      at seated refl (refl, refl)
      (modest_placed s r v at seated (place_at r.world.setup word) v.work.freed_slots)
      (enter_gives r.world v.client v.work (law_is fits p s r) client live word
      (found_occupancy s r) absent)
      (paid_occupancy s r ((word + 1) % 2 ^ 64) new paid refl)
      told
    where
      v : View T
      v = me.0

      word : ℕ
      word = slice_index s.words a

      at : slice_get s.views id ≡ Some v
      at = read_at s.views id v there

      client : slice_get r.world.clients v.client ≡ Some v.work
      client = client_is fits p s r id v at seated

      live : v.work.live ≡ true
      live = live_is fits p s r id v at seated

      new : Client
      new = record v.work { place = place_at r.world.setup word }

      asked : ℕ
      asked = (if nat_lt word (limit_of r.world.setup) then v.open_places else v.open_places + 1)

      paid : (word + 1) % 2 ^ 64 + occupied_by v.work ≡ word + occupied_by new
      paid =
          let found = found_occupancy s r in
          let few = occupancy_small r.world (law_is fits p s r) in
          let before : when (is_placed v.work.place) 1 ≡ 0 =
          ap (λ z. when (is_placed z) 1) absent in
          let now : when (is_placed (place_at r.world.setup word)) 1 ≡ 1 =
          ap (λ b. when b 1) (placed_at r.world.setup word) in
          omega arith

      below : word < limit_of (setup_of p) + p.geometry.clients
      below =
          let found = found_occupancy s r in
          let near = occupancy_beside r.world (law_is fits p s r) v.client v.work client absent in
          let limit : limit_of r.world.setup ≡ limit_of (setup_of p) = ap limit_of r.setup in
          let clients : r.world.setup.clients ≡ p.geometry.clients = ap (λ x. x.clients) r.setup in
          omega arith

      told : enters setup (step count a 1 0 none) me word
          (record v { work = new; open_places = asked }, me.1)
          (Some (did (events.Enter v.client) (entered r.world.setup word)))
      told = rw (said, r.setup) (refl, refl, occupied_told s r at, below, refl)

  -- A take of the slots that were freed.
  pub slots_step : (n : ℕ) → n ≡ me.0.work.freed_slots → 0 < n
      → Acts fits p count id me a (λ x. (x + (2 ^ 64 - n)) % 2 ^ 64)
      (gives_slots (step count a n 0 none) me)
  slots_step n is some s r homes there low =
      goes_by fits p s r id a ((word + (2 ^ 64 - n)) % 2 ^ 64) me new v.open_places v.seen v.tight
      (events.Slots v.client) replies.Ok (gives_slots (step count a n 0 none) me)
      at seated refl (refl, refl)
      (modest_placed s r v at seated (place_granted v.work.place) 0)
      (slots_gives r.world v.client v.work (law_is fits p s r) client live (omega arith))
      (paid_occupancy s r ((word + (2 ^ 64 - n)) % 2 ^ 64) new paid refl)
      (refl, refl, refl)
    where
      v : View T
      v = me.0

      word : ℕ
      word = slice_index s.words a

      at : slice_get s.views id ≡ Some v
      at = read_at s.views id v there

      client : slice_get r.world.clients v.client ≡ Some v.work
      client = client_is fits p s r id v at seated

      live : v.work.live ≡ true
      live = live_is fits p s r id v at seated

      new : Client
      new = record v.work { freed_slots = 0; place = place_granted v.work.place }

      paid : (word + (2 ^ 64 - n)) % 2 ^ 64 + occupied_by v.work ≡ word + occupied_by new
      paid =
          let found = found_occupancy s r in
          let few = occupancy_small r.world (law_is fits p s r) in
          let within = occupied_within r.world v.client v.work client in
          let same : when (is_placed (place_granted v.work.place)) 1
          ≡ when (is_placed v.work.place) 1 =
          ap (λ b. when b 1) (placed_granted v.work.place) in
          omega arith

  -- A take of the place, with the slots that were freed.
  pub quit_step : (n : ℕ) → n ≡ 1 + me.0.work.freed_slots → is_placed me.0.work.place ≡ true
      → Acts fits p count id me a (λ x. (x + (2 ^ 64 - n)) % 2 ^ 64)
      (quits (step count a n 0 none) me)
  quit_step n is placed s r homes there low =
      goes_by fits p s r id a ((word + (2 ^ 64 - n)) % 2 ^ 64) me new v.open_places v.seen v.tight
      (events.Quit v.client) replies.Ok (quits (step count a n 0 none) me)
      at seated refl (refl, refl)
      (modest_placed s r v at seated places.Absent 0)
      (quit_gives r.world v.client v.work (law_is fits p s r) client live placed)
      (paid_occupancy s r ((word + (2 ^ 64 - n)) % 2 ^ 64) new paid refl)
      (refl, refl, refl)
    where
      v : View T
      v = me.0

      word : ℕ
      word = slice_index s.words a

      at : slice_get s.views id ≡ Some v
      at = read_at s.views id v there

      client : slice_get r.world.clients v.client ≡ Some v.work
      client = client_is fits p s r id v at seated

      live : v.work.live ≡ true
      live = live_is fits p s r id v at seated

      new : Client
      new = record v.work { place = places.Absent; freed_slots = 0 }

      paid : (word + (2 ^ 64 - n)) % 2 ^ 64 + occupied_by v.work ≡ word + occupied_by new
      paid =
          let found = found_occupancy s r in
          let few = occupancy_small r.world (law_is fits p s r) in
          let within = occupied_within r.world v.client v.work client in
          let one : when (is_placed v.work.place) 1 ≡ 1 = ap (λ b. when b 1) placed in
          omega arith
