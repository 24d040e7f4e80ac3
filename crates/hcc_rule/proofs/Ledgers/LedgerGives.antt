-- Where the events on ledgers, trails and the hand are allowed, and what they leave.
use Rattle.std.proofs.Common.{◌≡◌, ℕ, zero, suc, ◌+◌, ◌-◌, ◌%◌, ◌^◌, ◌<◌, ◌≤◌, ◌||◌, true, false, nat_lt, Some, Ok, length, slice_get, [], ◌∷◌, ◌++◌, refl, arith}
use Rattle.std.specs.List.{list_any, find}
use Rattle.std.proofs.lemmas.Bool.{lt-ltb, le-leb, eq-eqb}
use Rattle.hcc_core.specs.declared.limits.TheConstants.{MOST_USAGE, SLOTS_PER_TURN}
use Rattle.hcc_core.specs.declared.event.Event.TheVariants as events
use Rattle.hcc_core.specs.declared.event.Reply.TheVariants as replies
use Rattle.hcc_core.specs.declared.client.Client.{Client}
use Rattle.hcc_core.specs.declared.client.Place.TheVariants as places
use Rattle.hcc_core.specs.declared.slot.Slot.{Slot}
use Rattle.hcc_core.specs.declared.client.Standalone.{Standalone}
use Rattle.hcc_core.specs.World.{State, usage_of, occupancy_of, standing_in, passed_at, is_placed}
use Rattle.hcc_core.specs.Outcomes.{with_client, dropped}
use Rattle.hcc_core.specs.Ledgers.{usage_told, occupancy_told, standing_told, grant_of, may_charge}
use Rattle.hcc_core.specs.Ledgers.{may_settle, waive_of, enter_of, slots_of, place_granted, quit_of}
use Rattle.hcc_core.specs.Ledgers.{stand_of, is_standing}
use Rattle.hcc_core.specs.Trails.{turn_of, count_of, pass_of, unpass_of, is_slot}
use Rattle.hcc_core.specs.Steps.{outcome_of, fits as in_bits}
use Rattle.hcc_core.specs.Lawful.{Lawful}
use Rattle.hcc_core.proofs.ListLemmas.{set_same}
use Rattle.hcc_core.proofs.StepLemmas.{charge_gives, settle_gives, fall_gives}
use Rattle.hcc_rule.specs.ToldLedgers.{place_at, waived}
use Rattle.hcc_rule.proofs.Basics.Lists.{within}
use Rattle.hcc_rule.proofs.References.Looks.{slot_fits, client_fits}
use Rattle.hcc_rule.specs.Events.{entered}

some_of_three : (g n f : ℕ) → 0 < g + n + f → (nat_lt 0 g || nat_lt 0 n || nat_lt 0 f) ≡ true
some_of_three (suc g) n f h = rw (lt-ltb 0 (suc g) (omega arith)) refl
some_of_three zero (suc n) f h = rw (lt-ltb 0 (suc n) (omega arith)) refl
some_of_three zero zero f h = rw (lt-ltb 0 f (omega arith)) refl

module _ (w : State) (c : ℕ) (found : Client) (l : Lawful w)
    (at : slice_get w.clients c ≡ Some found) (live : found.live ≡ true) where
  -- the number of a client fits
  c_fits : in_bits 32 c ≡ true
  c_fits = client_fits w c l (within w.clients c found at)

  -- Loads change nothing.
  pub usage_gives : outcome_of w (events.Usage c)
      ≡ Ok (replies.Count (usage_of w), with_client w c found)
  unfolding outcome_of usage_told
  usage_gives = rw (c_fits, set_same w.clients c found at, at, live) refl

  pub occupancy_gives : outcome_of w (events.Occupancy c)
      ≡ Ok (replies.Count (occupancy_of w), with_client w c found)
  unfolding outcome_of occupancy_told
  occupancy_gives = rw (c_fits, set_same w.clients c found at, at, live) refl

  pub standing_gives : outcome_of w (events.Standing c)
      ≡ Ok (replies.Count (standing_in w), with_client w c found)
  unfolding outcome_of standing_told
  standing_gives = rw (c_fits, set_same w.clients c found at, at, live) refl

  pub count_gives : (i : ℕ) (t : Slot) → slice_get w.slots i ≡ Some t
      → outcome_of w (events.Count c i) ≡ Ok (replies.Count (passed_at w i), with_client w c found)
  unfolding outcome_of count_of
  count_gives i t at_slot = rw (
    c_fits,
    slot_fits w i l (within w.slots i t at_slot),
    at_slot,
    set_same w.clients c found at,
    at,
    live,
  ) refl

  -- The hand.
  pub turn_gives : (h : ℕ) → h ≡ w.hand
      → outcome_of w (events.Turn c) ≡ Ok (
        replies.Count w.hand,
        record (with_client w c found)
            { hand = (h + SLOTS_PER_TURN) % 2 ^ 64 },
      )
  unfolding outcome_of turn_of
  turn_gives h is = rw (c_fits, set_same w.clients c found at, at, live, is) refl

  -- The usage.
  pub charge_allowed : (charge usage : ℕ) → charge < 2 ^ 32 → usage ≡ usage_of w
      → found.granted ≡ 0 → found.needed ≡ 0 → usage + charge ≤ MOST_USAGE
      → outcome_of w (events.Charge c charge) ≡ Ok (
        replies.Split (grant_of w.setup usage charge) (charge - grant_of w.setup usage charge),
        with_client w c (record found {
          granted = grant_of w.setup usage charge;
          needed = charge - grant_of w.setup usage charge;
        }),
      )
  unfolding outcome_of
  charge_allowed charge usage small is granted needed room =
      let may : may_charge found usage charge ≡ true =
      rw (
        eq-eqb found.granted 0 granted,
        eq-eqb found.needed 0 needed,
        le-leb (usage + charge)
            MOST_USAGE room,
      ) refl in
      rw (c_fits, lt-ltb charge (2 ^ 32) small)
      (charge_gives w c charge (grant_of w.setup usage charge) usage found _ at live is may refl
      refl)

  pub settle_allowed : 0 < found.freed → found.needed ≤ found.freed
      → outcome_of w (events.Settle c) ≡ Ok (
        replies.Ok,
        with_client w c (record found
            { granted = found.granted + found.needed; needed = 0; freed = 0 }),
      )
  unfolding outcome_of
  settle_allowed some covers =
      let may : may_settle found ≡ true =
      rw (lt-ltb 0 found.freed some, le-leb found.needed found.freed covers) refl in
      rw c_fits (settle_gives w c found _ at live may refl)

  pub waive_gives : 0 < waived found
      → outcome_of w (events.Waive c) ≡ Ok
      (replies.Ok, with_client w c (record found { granted = 0; needed = 0; freed = 0 }))
  unfolding outcome_of waive_of
  waive_gives some = rw (
    c_fits,
    at,
    live,
    some_of_three found.granted found.needed found.freed
        some,
  ) refl

  -- The occupancy.
  pub enter_gives : (occupancy : ℕ) → occupancy ≡ occupancy_of w → found.place ≡ places.Absent
      → outcome_of w (events.Enter c) ≡ Ok (
        entered w.setup occupancy,
        with_client w c
            (record found { place = place_at w.setup occupancy }),
      )
  unfolding outcome_of enter_of
  enter_gives occupancy is absent = rw (c_fits, at, live, absent, is) refl

  pub slots_gives : 0 < found.freed_slots
      → outcome_of w (events.Slots c) ≡ Ok (
        replies.Ok,
        with_client w c (record found
            { freed_slots = 0; place = place_granted found.place }),
      )
  unfolding outcome_of slots_of
  slots_gives some = rw (c_fits, at, live, lt-ltb 0 found.freed_slots some) refl

  pub quit_gives : is_placed found.place ≡ true
      → outcome_of w (events.Quit c) ≡ Ok
      (replies.Ok, with_client w c (record found { place = places.Absent; freed_slots = 0 }))
  unfolding outcome_of quit_of
  quit_gives placed = rw (c_fits, at, live, placed) refl

  -- Standalone entries.
  pub stand_gives : (name charge : ℕ) → name < 2 ^ 64 → charge < 2 ^ 32
      → found.place ≡ places.Absent
      → charge ≤ found.granted → list_any (is_standing name) found.standalones ≡ false
      → outcome_of w (events.Stand c charge name) ≡ Ok (
        replies.Ok,
        with_client w c (record found {
          granted = found.granted - charge;
          standalones = found.standalones ++ record { name = name; charge = charge } ∷ [];
        }),
      )
  unfolding outcome_of stand_of
  stand_gives name charge fits small absent covers fresh =
      rw (
        c_fits,
        lt-ltb charge (2 ^ 32) small,
        lt-ltb name (2 ^ 64) fits,
        at,
        live,
        absent,
        le-leb
            charge found.granted covers,
        fresh,
      ) refl

  pub fall_allowed : (name : ℕ) (gone : Standalone) → name < 2 ^ 64
      → find (is_standing name) found.standalones ≡ Some gone
      → outcome_of w (events.Fall c name) ≡ Ok (
        replies.Ok,
        with_client w c (record found {
          freed = found.freed + gone.charge;
          standalones = dropped (is_standing name) found.standalones;
        }),
      )
  unfolding outcome_of
  fall_allowed name gone fits there =
      rw (c_fits, lt-ltb name (2 ^ 64) fits) (fall_gives w c name found _ gone at live there refl)

  -- Trails.
  pub pass_gives : (i : ℕ) (t : Slot) → slice_get w.slots i ≡ Some t
      → length found.trail < w.setup.slots
      → outcome_of w (events.Pass c i) ≡ Ok
      (replies.Ok, with_client w c (record found { trail = found.trail ++ i ∷ [] }))
  unfolding outcome_of pass_of
  pass_gives i t at_slot room =
      rw (
        c_fits,
        slot_fits w i l (within w.slots i t at_slot),
        at_slot,
        at,
        live,
        lt-ltb
            (length found.trail) w.setup.slots room,
      ) refl

  pub unpass_gives : (i : ℕ) (t : Slot) → slice_get w.slots i ≡ Some t
      → list_any (is_slot i) found.trail ≡ true
      → outcome_of w (events.Unpass c i)
      ≡ Ok (
        replies.Ok,
        with_client w c
            (record found { trail = dropped (is_slot i) found.trail }),
      )
  unfolding outcome_of unpass_of
  unpass_gives i t at_slot passed =
      rw (c_fits, slot_fits w i l (within w.slots i t at_slot), at_slot, at, live, passed) refl
