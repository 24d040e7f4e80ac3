-- Steps on the usage word: loads, charges, and what is settled or waived.
use Rattle.std.proofs.Common.{◌≡◌, ℕ, ◌+◌, ◌-◌, ◌%◌, ◌^◌, ◌<◌, ◌≤◌, true, List, [], ◌∷◌, ◌++◌, nat_lt, if◌then◌else◌, Some, slice_get, slice_index, refl, ap, ◌∙◌, arith, sym}
use mathlib.Core.Option.{none}
use Rattle.atomic_table.specs.Table.{step}
use Rattle.hcc_core.specs.declared.event.Event.TheVariants as events
use Rattle.hcc_core.specs.declared.event.Reply.TheVariants as replies
use Rattle.hcc_core.specs.declared.setup.Setup.{Setup}
use Rattle.hcc_core.specs.declared.client.Client.{Client}
use Rattle.hcc_core.specs.Sums.{total}
use Rattle.hcc_core.specs.World.{State, charged_to, usage_of, occupied_by, standing_of}
use Rattle.hcc_core.specs.Ledgers.{grant_of}
use Rattle.hcc_core.proofs.LawfulLedgers.{grant-le}
use Rattle.hcc_core.proofs.SumLemmas.{total-member}
use Rattle.hcc_rule.specs.declared.key.Key.{Key}
use Rattle.hcc_rule.specs.declared.layout.TheConstants.{USAGE}
use Rattle.hcc_rule.specs.declared.rule.Plan.{Plan}
use Rattle.hcc_rule.specs.declared.view.Record.{Record}
use Rattle.hcc_rule.specs.declared.view.View.{View}
use Rattle.hcc_rule.specs.Told.{Held}
use Rattle.hcc_rule.specs.ToldLedgers.{Charged, usages, needed_of, charges, settles, waived, waives}
use Rattle.hcc_rule.specs.Views.{is_seated, Each}
use Rattle.hcc_rule.specs.Records.{different}
use Rattle.hcc_rule.specs.Words.{ledger_at}
use Rattle.hcc_rule.specs.Rule.{IsRecorded, IsModest, setup_of, Holds}
use Rattle.hcc_rule.proofs.Basics.Lists.{read_at, each_map}
use Rattle.hcc_rule.proofs.Basics.Different.{charges_within}
use Rattle.hcc_rule.proofs.Limits.LedgerLimits.{real_beside, usage_most}
use Rattle.hcc_rule.proofs.Limits.MadeCharges.{usage_alone}
use Rattle.hcc_rule.proofs.Ledgers.LedgerSteps.{on_usage, Pays}
use Rattle.hcc_rule.proofs.Ledgers.LedgerGives.{usage_gives, charge_allowed, settle_allowed, waive_gives}
use Rattle.hcc_rule.proofs.Parts.Asides.{pays_at, modest_is, law_is, usage_low, goes_by}
use Rattle.hcc_rule.proofs.Parts.SlotSteps.{Shard}
use Rattle.hcc_rule.proofs.Parts.Touches.{client_is, live_is}
use Rattle.hcc_rule.specs.Acts.{Acts, did}
use Rattle.hcc_rule.specs.Events.{usage_done}

-- what stands for a client is within the usage
charged_within : (w : State) (c : ℕ) (client : Client) → slice_get w.clients c ≡ Some client
    → charged_to client ≤ usage_of w
charged_within w c client at = let member =
    total-member charged_to w.clients c client at in omega arith

-- with the charges of the entries of these records, each once
charged_beside : (w : State) (c : ℕ) (client : Client) → slice_get w.clients c ≡ Some client
    → (rs : List Record) → Each (IsRecorded w.slots) rs
    → charged_to client + total (λ (r : Record). r.entry.charge) (different rs) ≤ usage_of w
charged_beside w c client at rs recorded =
    let member = total-member charged_to w.clients c client at in
    let entries = charges_within w.slots rs recorded in
    omega arith

-- and so with that of any single one
charged_one : (w : State) (c : ℕ) (client : Client) → slice_get w.clients c ≡ Some client
    → (r : Record) → IsRecorded w.slots r → charged_to client + r.entry.charge ≤ usage_of w
charged_one w c client at r recorded =
    let sum = charged_beside w c client at (r ∷ []) (recorded, tt) in
    omega arith

module _ {T : Type 0} (fits : T → Key → List ℕ → Type 0) (p : Plan T) (count id a : ℕ) (me : Held T)
    (seated : is_seated me.0 ≡ true) (address : a
    ≡ ledger_at p.geometry.slots p.geometry.room USAGE) where
  -- the word found is the usage
  module _ (s : Shard fits p) (r : Holds fits p s) where
    found_usage : slice_index s.words a ≡ usage_of r.world
    found_usage = ap (slice_index s.words) address ∙ r.ledgers.usage

    -- and this is told of it
    charged_told : slice_get s.views id ≡ Some me.0
        → Charged (setup_of p) me.0 (slice_index s.words a)
    charged_told at = rw found_usage record {
      entries = charged_beside r.world me.0.client me.0.work client me.0.records recorded;
      held =
          each_map (IsRecorded r.world.slots)
          (λ (q : Record). charged_to me.0.work + q.entry.charge ≤ usage_of r.world)
          (charged_one r.world me.0.client me.0.work client) me.0.records recorded;
      low = usage_low fits p s r;
      real = λ strict. real_beside fits p s r strict me.0.client me.0.work client me.0.records
          recorded;
      most = λ strict. usage_most fits p s r strict me.0.client me.0.work client;
      alone = λ one. usage_alone fits p s r id me.0 at seated one;
    }
      where
        client : slice_get r.world.clients me.0.client ≡ Some me.0.work
        client = client_is fits p s r id me.0 at seated

        recorded : Each (IsRecorded r.world.slots) me.0.records
        recorded = (r.holding id me.0 at).recorded

    -- what is paid by a client that keeps its place, what stands for it and its trail
    paid_usage : (y : ℕ) (new : Client) → y + charged_to me.0.work
        ≡ slice_index s.words a + charged_to new
        → new ≡ record me.0.work { granted = new.granted; needed = new.needed; freed = new.freed }
        → Pays p.geometry.slots p.geometry.room a (slice_index s.words a) y r.world.hand
        r.world.hand me.0.work new
    paid_usage y new paid same =
        pays_at p.geometry.slots p.geometry.room a _ (slice_index s.words a) y r.world.hand
        r.world.hand me.0.work new address
        (on_usage p.geometry.slots p.geometry.room (slice_index s.words a) y r.world.hand me.0.work
        new paid
        (ap occupied_by same) (ap standing_of same) (ap (λ (c : Client). c.trail) same))

  pub usage_step : (setup : Setup) → setup ≡ setup_of p
      → Acts fits p count id me a (λ n. n) (usages setup (step count a 0 0 none) me)
  usage_step setup said s r homes there low =
      goes_by fits p s r id a word me v.work v.open_places (v.seen ++ word ∷ []) v.tight
      (events.Usage v.client) (replies.Count (usage_of r.world))
      (usages setup (step count a 0 0 none) me) at seated refl (refl, refl)
      (modest_is fits p s r id v at seated)
      (usage_gives r.world v.client v.work (law_is fits p s r) client live)
      (paid_usage s r word v.work refl refl) (
        refl,
        refl,
        rw said (charged_told s r at),
        ap (λ n. Some (usage_done n v)) (sym (found_usage s r)),
      )
    where
      v : View T
      v = me.0

      word : ℕ
      word = slice_index s.words a

      at : slice_get s.views id ≡ Some v
      at = read_at s.views id v there

      client : slice_get r.world.clients v.client ≡ Some v.work
      client = client_is fits p s r id v at seated

      live : v.work.live ≡ true
      live = live_is fits p s r id v at seated

  -- An add of a charge: all or part of it is granted at once.
  pub charge_step : (setup : Setup) (t : ℕ) → setup ≡ setup_of p → t < 2 ^ 32
      → me.0.work.granted ≡ 0 → me.0.work.needed ≡ 0
      → Acts fits p count id me a (λ n. (n + t) % 2 ^ 64)
      (charges setup (step count a t 0 none) me)
  charge_step setup t said small granted needed s r homes there low =
      goes_by fits p s r id a ((word + t) % 2 ^ 64) me new v.open_places v.seen tight
      (events.Charge v.client t) (replies.Split grant rest)
      (charges setup (step count a t 0 none) me) at seated refl (refl, refl)
      modest
      (charge_allowed r.world v.client v.work (law_is fits p s r) client live t word small
      (found_usage s r) granted needed room)
      (paid_usage s r ((word + t) % 2 ^ 64) new paid refl)
      told
    where
      v : View T
      v = me.0

      word : ℕ
      word = slice_index s.words a

      at : slice_get s.views id ≡ Some v
      at = read_at s.views id v there

      client : slice_get r.world.clients v.client ≡ Some v.work
      client = client_is fits p s r id v at seated

      live : v.work.live ≡ true
      live = live_is fits p s r id v at seated

      grant : ℕ
      grant = grant_of r.world.setup word t

      rest : ℕ
      rest = t - grant_of r.world.setup word t

      new : Client
      new = record v.work { granted = grant; needed = rest }

      tight : List ℕ
      tight = (if nat_lt 0 (needed_of r.world.setup word t) then v.tight ++ t ∷ [] else v.tight)

      within : grant ≤ t
      within = grant-le r.world.setup word t

      room : word + t ≤ 2 ^ 62
      room = let found = found_usage s r in let few = usage_low fits p s r in omega arith

      modest : IsModest new
      modest = let old = modest_is fits p s r id v at seated in record {
        asked = let g = within in omega arith;
        freed = old.freed;
        few = old.few;
        small = old.small;
      }

      paid : (word + t) % 2 ^ 64 + charged_to v.work ≡ word + charged_to new
      paid = let g = within in let near = room in omega arith

      told : charges setup (step count a t 0 none) me word
          (record v { work = new; tight = tight }, me.1)
          (Some (did (events.Charge v.client t) (replies.Split grant rest)))
      told = rw (said, r.setup) (refl, refl, charged_told s r at, refl)

  -- Takes: the freed charge, or all that stands for the client itself.
  pub settle_step : (n : ℕ) → n ≡ me.0.work.freed → 0 < n → me.0.work.needed ≤ n
      → Acts fits p count id me a (λ x. (x + (2 ^ 64 - n)) % 2 ^ 64)
      (settles (step count a n 0 none) me)
  settle_step n is some covers s r homes there low =
      goes_by fits p s r id a ((word + (2 ^ 64 - n)) % 2 ^ 64) me new v.open_places v.seen v.tight
      (events.Settle v.client) replies.Ok (settles (step count a n 0 none) me)
      at seated refl (refl, refl)
      modest
      (settle_allowed r.world v.client v.work (law_is fits p s r) client live (omega arith)
      (omega arith))
      (paid_usage s r ((word + (2 ^ 64 - n)) % 2 ^ 64) new paid refl)
      (refl, refl, refl)
    where
      v : View T
      v = me.0

      word : ℕ
      word = slice_index s.words a

      at : slice_get s.views id ≡ Some v
      at = read_at s.views id v there

      client : slice_get r.world.clients v.client ≡ Some v.work
      client = client_is fits p s r id v at seated

      live : v.work.live ≡ true
      live = live_is fits p s r id v at seated

      new : Client
      new = record v.work { granted = v.work.granted + v.work.needed; needed = 0; freed = 0 }

      modest : IsModest new
      modest = let old = modest_is fits p s r id v at seated in record {
        asked = let asked = old.asked in omega arith;
        freed = omega arith;
        few = old.few;
        small = old.small;
      }

      paid : (word + (2 ^ 64 - n)) % 2 ^ 64 + charged_to v.work ≡ word + charged_to new
      paid =
          let found = found_usage s r in
          let within = charged_within r.world v.client v.work client in
          omega arith

  pub waive_step : (n : ℕ) → n ≡ waived me.0.work → 0 < n
      → Acts fits p count id me a (λ x. (x + (2 ^ 64 - n)) % 2 ^ 64)
      (waives (step count a n 0 none) me)
  waive_step n is some s r homes there low =
      goes_by fits p s r id a ((word + (2 ^ 64 - n)) % 2 ^ 64) me new v.open_places v.seen v.tight
      (events.Waive v.client) replies.Ok (waives (step count a n 0 none) me)
      at seated refl (refl, refl)
      modest
      (waive_gives r.world v.client v.work (law_is fits p s r) client live (omega arith))
      (paid_usage s r ((word + (2 ^ 64 - n)) % 2 ^ 64) new paid refl)
      (refl, refl, refl)
    where
      v : View T
      v = me.0

      word : ℕ
      word = slice_index s.words a

      at : slice_get s.views id ≡ Some v
      at = read_at s.views id v there

      client : slice_get r.world.clients v.client ≡ Some v.work
      client = client_is fits p s r id v at seated

      live : v.work.live ≡ true
      live = live_is fits p s r id v at seated

      new : Client
      new = record v.work { granted = 0; needed = 0; freed = 0 }

      modest : IsModest new
      modest = let old = modest_is fits p s r id v at seated in record {
        asked = omega arith;
        freed = omega arith;
        few = old.few;
        small = old.small;
      }

      paid : (word + (2 ^ 64 - n)) % 2 ^ 64 + charged_to v.work ≡ word + charged_to new
      paid =
          let found = found_usage s r in
          let within = charged_within r.world v.client v.work client in
          omega arith
