-- Steps on the word of standalone charges.
use Rattle.std.proofs.Common.{◌≡◌, ℕ, ◌+◌, ◌-◌, ◌%◌, ◌^◌, ◌<◌, ◌≤◌, true, false, List, [], ◌∷◌, ◌++◌, Some, length, slice_get, slice_index, sym, refl, ap, ◌∙◌, arith}
use Rattle.std.specs.List.{list_any, find}
use mathlib.Core.Option.{none}
use Rattle.atomic_table.specs.Table.{step}
use Rattle.hcc_core.specs.declared.event.Event.TheVariants as events
use Rattle.hcc_core.specs.declared.event.Reply.TheVariants as replies
use Rattle.hcc_core.specs.declared.client.Place.TheVariants as places
use Rattle.hcc_core.specs.declared.client.Client.{Client}
use Rattle.hcc_core.specs.declared.client.Standalone.{Standalone}
use Rattle.hcc_core.specs.World.{State, charged_to, occupied_by, standing_of, standing_in}
use Rattle.hcc_core.specs.Outcomes.{dropped}
use Rattle.hcc_core.specs.Ledgers.{is_standing}
use Rattle.hcc_core.proofs.SumLemmas.{total-member, total-append, length-push}
use Rattle.hcc_core.proofs.DroppedLemmas.{dropped-total, dropped-length}
use Rattle.hcc_rule.specs.declared.key.Key.{Key}
use Rattle.hcc_rule.specs.declared.layout.TheConstants.{STANDING}
use Rattle.hcc_core.specs.declared.limits.TheConstants.{MOST_HANDLES}
use Rattle.hcc_rule.specs.declared.rule.Plan.{Plan}
use Rattle.hcc_rule.specs.declared.view.View.{View}
use Rattle.hcc_rule.specs.Told.{Held}
use Rattle.hcc_rule.specs.ToldLedgers.{standings, stands, falls}
use Rattle.hcc_rule.specs.Views.{is_seated}
use Rattle.hcc_rule.specs.Words.{ledger_at}
use Rattle.hcc_core.specs.declared.setup.Setup.{Setup}
use Rattle.hcc_rule.proofs.Limits.Alone.{standing_alone}
use Rattle.hcc_rule.proofs.Limits.LedgerLimits.{standing_beside, standing_used}
use Rattle.hcc_rule.specs.Rule.{IsModest, Holds, setup_of}
use Rattle.hcc_rule.proofs.Basics.Lists.{read_at, each_append}
use Rattle.hcc_rule.proofs.Basics.Findings.{dropped_each}
use Rattle.hcc_rule.proofs.Ledgers.LedgerSteps.{on_standing, Pays}
use Rattle.hcc_rule.proofs.Ledgers.LedgerGives.{standing_gives, stand_gives, fall_allowed}
use Rattle.hcc_rule.proofs.Parts.Asides.{pays_at, modest_is, law_is, usage_low, goes_by}
use Rattle.hcc_rule.proofs.Parts.SlotSteps.{Shard}
use Rattle.hcc_rule.proofs.Parts.Touches.{client_is, live_is}
use Rattle.hcc_rule.specs.Acts.{Acts}
use Rattle.hcc_rule.specs.Events.{standing_done}

-- what stands for a client is within all that stands
standing_within : (w : State) (c : ℕ) (client : Client) → slice_get w.clients c ≡ Some client
    → standing_of client ≤ standing_in w
standing_within w c client at = let member =
    total-member standing_of w.clients c client at in omega arith

module _ {T : Type 0} (fits : T → Key → List ℕ → Type 0) (p : Plan T) (count id a : ℕ) (me : Held T)
    (seated : is_seated me.0 ≡ true) (address : a
    ≡ ledger_at p.geometry.slots p.geometry.room STANDING) where
  module _ (s : Shard fits p) (r : Holds fits p s) where
    -- the word found is all that stands
    found_standing : slice_index s.words a ≡ standing_in r.world
    found_standing = ap (slice_index s.words) address ∙ r.ledgers.standing

    -- what is paid by a client whose whole charge stays
    paid_standing : (y : ℕ) (new : Client)
        → y + standing_of me.0.work ≡ slice_index s.words a + standing_of new
        → charged_to new ≡ charged_to me.0.work
        → new ≡ record me.0.work {
          granted = new.granted;
          freed = new.freed;
          standalones =
              new.standalones;
        }
        → Pays p.geometry.slots p.geometry.room a (slice_index s.words a) y r.world.hand
        r.world.hand me.0.work new
    paid_standing y new paid charged same =
        pays_at p.geometry.slots p.geometry.room a _ (slice_index s.words a) y r.world.hand
        r.world.hand me.0.work new address
        (on_standing p.geometry.slots p.geometry.room (slice_index s.words a) y r.world.hand
        me.0.work new paid
        charged (ap occupied_by same) (ap (λ (c : Client). c.trail) same))

  pub standing_step : (setup : Setup) → setup ≡ setup_of p
      → Acts fits p count id me a (λ n. n) (standings setup (step count a 0 0 none) me)
  standing_step setup said s r homes there low =
      goes_by fits p s r id a word me v.work v.open_places v.seen v.tight
      (events.Standing v.client) (replies.Count (standing_in r.world))
      (standings setup (step count a 0 0 none) me) at seated refl (refl, refl)
      (modest_is fits p s r id v at seated)
      (standing_gives r.world v.client v.work (law_is fits p s r) client live)
      (paid_standing s r word v.work refl refl refl) (
        refl,
        refl,
        rw (found_standing s r) (standing_within r.world v.client v.work client),
        rw (found_standing s r) (let used = standing_used r.world in let few =
            usage_low fits p s r in omega arith),
        λ one. found_standing s r ∙ standing_alone fits p s r id v at seated
            (ap (λ (x : Setup). x.clients) (sym said) ∙ one),
        rw (found_standing s r, said)
            (λ strict. standing_beside fits p s r strict v.client v.work client v.records
            (r.holding id v at).recorded),
        ap (λ n. Some (standing_done n v)) (sym (found_standing s r)),
      )
    where
      v : View T
      v = me.0

      word : ℕ
      word = slice_index s.words a

      at : slice_get s.views id ≡ Some v
      at = read_at s.views id v there

      client : slice_get r.world.clients v.client ≡ Some v.work
      client = client_is fits p s r id v at seated

      live : v.work.live ≡ true
      live = live_is fits p s r id v at seated

  -- An add: an entry stands alone from now on, with a charge that was granted.
  pub stand_step : (name charge : ℕ) → name < 2 ^ 64 → charge < 2 ^ 32
      → me.0.work.place ≡ places.Absent → charge ≤ me.0.work.granted
      → list_any (is_standing name) me.0.work.standalones ≡ false
      → length me.0.work.standalones < MOST_HANDLES
      → Acts fits p count id me a (λ n. (n + charge) % 2 ^ 64)
      (stands name (step count a charge 0 none) me)
  stand_step name charge named cheap absent granted fresh few s r homes there low =
      goes_by fits p s r id a ((word + charge) % 2 ^ 64) me new v.open_places v.seen v.tight
      (events.Stand v.client charge name) replies.Ok (stands name (step count a charge 0 none) me)
      at seated refl (refl, refl)
      modest
      (stand_gives r.world v.client v.work (law_is fits p s r) client live name charge named cheap
      absent granted fresh)
      (paid_standing s r ((word + charge) % 2 ^ 64) new paid charged refl)
      (refl, refl, refl)
    where
      v : View T
      v = me.0

      word : ℕ
      word = slice_index s.words a

      at : slice_get s.views id ≡ Some v
      at = read_at s.views id v there

      client : slice_get r.world.clients v.client ≡ Some v.work
      client = client_is fits p s r id v at seated

      live : v.work.live ≡ true
      live = live_is fits p s r id v at seated

      one : Standalone
      one = record { name = name; charge = charge }

      new : Client
      new = record v.work {
        granted = v.work.granted - charge;
        standalones =
            v.work.standalones ++ one ∷ [];
      }

      grown : standing_of new ≡ standing_of v.work + charge
      grown = let sum = total-append (λ (z : Standalone). z.charge) v.work.standalones
          (one ∷ []) in omega arith

      modest : IsModest new
      modest = let old = modest_is fits p s r id v at seated in record {
        asked = let asked = old.asked in omega arith;
        freed = old.freed;
        few = let longer = length-push v.work.standalones one in omega arith;
        small = each_append (λ (z : Standalone). z.charge < 2 ^ 32) v.work.standalones (one ∷ [])
            old.small (cheap, tt);
      }

      charged : charged_to new ≡ charged_to v.work
      charged = let more = grown in omega arith

      paid : (word + charge) % 2 ^ 64 + standing_of v.work ≡ word + standing_of new
      paid =
          let more = grown in
          let found = found_standing s r in
          let used = standing_used r.world in
          let few = usage_low fits p s r in
          omega arith

  -- A take: an entry that stood alone falls, and its charge is freed.
  pub fall_step : (name charge : ℕ) → name < 2 ^ 64
      → find (is_standing name) me.0.work.standalones
      ≡ Some (record { name = name; charge = charge })
      → me.0.work.freed + charge < 2 ^ 49
      → Acts fits p count id me a (λ x. (x + (2 ^ 64 - charge)) % 2 ^ 64)
      (falls name (step count a charge 0 none) me)
  fall_step name charge named stood room s r homes there low =
      goes_by fits p s r id a ((word + (2 ^ 64 - charge)) % 2 ^ 64) me new v.open_places v.seen
      v.tight
      (events.Fall v.client name) replies.Ok (falls name (step count a charge 0 none) me) at seated
      refl (refl, refl)
      modest
      (fall_allowed r.world v.client v.work (law_is fits p s r) client live name one named stood)
      (paid_standing s r ((word + (2 ^ 64 - charge)) % 2 ^ 64) new paid charged refl)
      (refl, refl, refl)
    where
      v : View T
      v = me.0

      word : ℕ
      word = slice_index s.words a

      at : slice_get s.views id ≡ Some v
      at = read_at s.views id v there

      client : slice_get r.world.clients v.client ≡ Some v.work
      client = client_is fits p s r id v at seated

      live : v.work.live ≡ true
      live = live_is fits p s r id v at seated

      one : Standalone
      one = record { name = name; charge = charge }

      new : Client
      new = record v.work {
        freed = v.work.freed + charge;
        standalones =
            dropped (is_standing name) v.work.standalones;
      }

      shrunk : standing_of new + charge ≡ standing_of v.work
      shrunk = dropped-total (is_standing name) (λ (z : Standalone). z.charge) v.work.standalones
          one stood

      modest : IsModest new
      modest = let old = modest_is fits p s r id v at seated in record {
        asked = old.asked;
        freed = room;
        few = let shorter = dropped-length (is_standing name) v.work.standalones in let most =
            old.few in omega arith;
        small = dropped_each (is_standing name) (λ (z : Standalone). z.charge < 2 ^ 32)
            v.work.standalones old.small;
      }

      charged : charged_to new ≡ charged_to v.work
      charged = let less = shrunk in omega arith

      paid : (word + (2 ^ 64 - charge)) % 2 ^ 64 + standing_of v.work ≡ word + standing_of new
      paid =
          let less = shrunk in
          let found = found_standing s r in
          let within = standing_within r.world v.client v.work client in
          omega arith
