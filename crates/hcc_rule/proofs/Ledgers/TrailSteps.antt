-- Steps on displacement words: loads, and a slot that joins or leaves the client's trail.
use Rattle.std.proofs.Common.{◌≡◌, ℕ, ◌+◌, ◌-◌, ◌%◌, ◌^◌, ◌<◌, ◌≢◌, ◌==◌, ◌||◌, Bool, true, false, cond, List, [], ◌∷◌, ◌++◌, Some, length, slice_get, slice_index, sym, refl, ap, ◌∙◌, arith}
use Rattle.std.specs.List.{list_any}
use Rattle.std.proofs.lemmas.Bool.{eq-eqb, eqb-true, lt-ltb}
use mathlib.Core.Option.{none}
use Rattle.atomic_table.specs.Table.{step}
use Rattle.hcc_core.specs.declared.event.Event.TheVariants as events
use Rattle.hcc_core.specs.declared.event.Reply.TheVariants as replies
use Rattle.hcc_core.specs.declared.limits.TheConstants.{MOST_SLOTS}
use Rattle.hcc_core.specs.declared.setup.Setup.{Setup}
use Rattle.hcc_core.specs.declared.slot.Slot.{Slot}
use Rattle.hcc_core.specs.Sums.{when}
use Rattle.hcc_core.specs.World.{times, passed_by, passed_at}
use Rattle.hcc_core.specs.Outcomes.{dropped}
use Rattle.hcc_core.specs.Trails.{is_slot}
use Rattle.hcc_core.proofs.SumLemmas.{total-append}
use Rattle.hcc_rule.specs.declared.key.Key.{Key}
use Rattle.hcc_rule.specs.declared.layout.TheConstants.{DISPLACEMENT}
use Rattle.hcc_rule.specs.declared.rule.Plan.{Plan}
use Rattle.hcc_rule.specs.declared.view.View.{View}
use Rattle.hcc_rule.specs.Told.{Held}
use Rattle.hcc_rule.specs.ToldTrails.{counts, passes, unpasses}
use Rattle.hcc_rule.specs.Views.{is_seated}
use Rattle.hcc_rule.specs.Words.{field_at}
use Rattle.hcc_rule.specs.Rule.{setup_of, IsModest, Holds}
use Rattle.hcc_rule.proofs.Basics.Lists.{read_at, within}
use Rattle.hcc_rule.proofs.Basics.Bounds.{passed_few}
use Rattle.hcc_rule.proofs.Limits.Passed.{own_within, passed_told}
use Rattle.hcc_rule.proofs.Ledgers.LedgerSteps.{on_displacement, Pays}
use Rattle.hcc_rule.proofs.Ledgers.LedgerGives.{count_gives, pass_gives, unpass_gives}
use Rattle.hcc_rule.proofs.Parts.Asides.{pays_at, modest_is, law_is, goes_by}
use Rattle.hcc_rule.proofs.Parts.SlotSteps.{Shard}
use Rattle.hcc_rule.proofs.Parts.Touches.{client_is, live_is}
use Rattle.hcc_rule.proofs.References.Looks.{slot_there}
use Rattle.hcc_rule.specs.Acts.{Acts}
use Rattle.hcc_rule.specs.Events.{count_done}

-- Of trails.

-- a slot counts once in a list of its own, and no other does
times_here : (i : ℕ) → times i (i ∷ []) ≡ 1
times_here i = let one : when (i == i) 1 ≡ 1 = ap (λ b. when b 1) (eq-eqb i i refl) in omega arith

not_equal : (a b : ℕ) → a ≢ b → when (a == b) 1 ≡ 0
not_equal a b other = by (a == b) refl
  where
    by : (z : Bool) → (a == b) ≡ z → when z 1 ≡ 0
    by true is = absurd (other (eqb-true a b is))
    by false is = refl

times_else : (s i : ℕ) → s ≢ i → times s (i ∷ []) ≡ 0
times_else s i other = let none : when (i == s) 1 ≡ 0 =
    not_equal i s (λ e. other (sym e)) in omega arith

-- a trail without a slot that stood in it
times_left : (i : ℕ) (trail : List ℕ) → list_any (is_slot i) trail ≡ true
    → times i (dropped (is_slot i) trail) + 1 ≡ times i trail
times_left i [] h = cc
times_left i (x ∷ xs) h = by (x == i) refl (times_left i xs) h
  where
    by : (b : Bool) → (x == i) ≡ b
        → (list_any (is_slot i) xs ≡ true → times i (dropped (is_slot i) xs) + 1 ≡ times i xs)
        → (b || list_any (is_slot i) xs) ≡ true
        → times i (cond b xs (x ∷ dropped (is_slot i) xs)) + 1 ≡ when (x == i) 1 + times i xs
    by true is later h =
        let one : when (x == i) 1 ≡ 1 = ap (λ b. when b 1) is in
        omega arith
    by false is later h =
        let rest = later h in
        omega arith

-- the others stand in it as often
times_kept : (s i : ℕ) (trail : List ℕ) → s ≢ i
    → times s (dropped (is_slot i) trail) ≡ times s trail
times_kept s i [] other = refl
times_kept s i (x ∷ xs) other = by (x == i) refl (times_kept s i xs other)
  where
    by : (b : Bool) → (x == i) ≡ b → times s (dropped (is_slot i) xs) ≡ times s xs
        → times s (cond b xs (x ∷ dropped (is_slot i) xs)) ≡ when (x == s) 1 + times s xs
    by true is later =
        let none : when (x == s) 1 ≡ 0 = not_equal x s (λ e. other (sym e ∙ eqb-true x i is)) in
        omega arith
    by false is later = omega arith

module _ {T : Type 0} (fits : T → Key → List ℕ → Type 0) (p : Plan T) (count id i a : ℕ)
    (me : Held T) (close : i < p.geometry.slots) (seated : is_seated me.0 ≡ true)
    (address : a ≡ field_at p.geometry.room i DISPLACEMENT) where
  module _ (s : Shard fits p) (r : Holds fits p s) where
    -- the word found is how often the slot is passed
    found_passed : slice_index s.words a ≡ passed_by r.world.slots r.world.clients i
    found_passed = ap (slice_index s.words) address ∙ r.trails.passed i close

    -- what is paid by a client of which the trail alone changes, at this slot alone
    paid_passed : (y : ℕ) (trail : List ℕ)
        → y + times i me.0.work.trail ≡ slice_index s.words a + times i trail
        → ((j : ℕ) → j ≢ i → times j trail ≡ times j me.0.work.trail)
        → Pays p.geometry.slots p.geometry.room a (slice_index s.words a) y r.world.hand
        r.world.hand me.0.work (record me.0.work { trail = trail })
    paid_passed y trail paid others =
        pays_at p.geometry.slots p.geometry.room a _ (slice_index s.words a) y r.world.hand
        r.world.hand me.0.work (record me.0.work { trail = trail }) address
        (on_displacement p.geometry.slots p.geometry.room (slice_index s.words a) y r.world.hand
        me.0.work (record me.0.work { trail = trail }) i close paid others refl refl refl)

    -- its amounts stay modest
    modest_trail : (v : View T) → slice_get s.views id ≡ Some v → is_seated v ≡ true
        → (trail : List ℕ) → IsModest (record v.work { trail = trail })
    modest_trail v at sits trail =
        let old = modest_is fits p s r id v at sits in
        record { asked = old.asked; freed = old.freed; few = old.few; small = old.small }

  pub count_step : (setup : Setup) → setup ≡ setup_of p → MOST_SLOTS % p.geometry.slots ≡ 0
      → Acts fits p count id me a (λ n. n) (counts setup i (step count a 0 0 none) me)
  count_step setup said power s r homes there low =
      goes_by fits p s r id a word me v.work v.open_places v.seen v.tight
      (events.Count v.client i) (replies.Count (passed_at r.world i))
      (counts setup i (step count a 0 0 none) me) at seated refl (refl, refl)
      (modest_is fits p s r id v at seated)
      (count_gives r.world v.client v.work (law_is fits p s r) client live i slot.0 slot.1)
      (paid_passed s r word v.work.trail refl (λ j other. refl)) (
        refl,
        refl,
        rw (said, found_passed s r) (passed_told fits p s r id v at seated i power),
        ap (λ n. Some (count_done i n v)) (counted ∙ sym (found_passed s r)),
      )
    where
      v : View T
      v = me.0

      word : ℕ
      word = slice_index s.words a

      at : slice_get s.views id ≡ Some v
      at = read_at s.views id v there

      client : slice_get r.world.clients v.client ≡ Some v.work
      client = client_is fits p s r id v at seated

      live : v.work.live ≡ true
      live = live_is fits p s r id v at seated

      slot : (t : Slot) × (slice_get r.world.slots i ≡ Some t)
      slot = slot_there fits p s r i close

      counted : passed_at r.world i ≡ passed_by r.world.slots r.world.clients i
      counted = ap (λ b. cond b (passed_by r.world.slots r.world.clients i) 0)
          (lt-ltb i (length r.world.slots) (within r.world.slots i slot.0 slot.1))

  pub pass_step : length me.0.work.trail < p.geometry.slots
      → Acts fits p count id me a (λ n. (n + 1) % 2 ^ 64)
      (passes i (step count a 1 0 none) me)
  pass_step room s r homes there low =
      goes_by fits p s r id a ((word + 1) % 2 ^ 64) me (record v.work { trail = trail })
      v.open_places v.seen v.tight
      (events.Pass v.client i) replies.Ok (passes i (step count a 1 0 none) me)
      at seated refl (refl, refl)
      (modest_trail s r v at seated trail)
      (pass_gives r.world v.client v.work (law_is fits p s r) client live i slot.0 slot.1
      (rw r.setup room))
      (paid_passed s r ((word + 1) % 2 ^ 64) trail paid others)
      (refl, refl, refl)
    where
      v : View T
      v = me.0

      word : ℕ
      word = slice_index s.words a

      at : slice_get s.views id ≡ Some v
      at = read_at s.views id v there

      client : slice_get r.world.clients v.client ≡ Some v.work
      client = client_is fits p s r id v at seated

      live : v.work.live ≡ true
      live = live_is fits p s r id v at seated

      slot : (t : Slot) × (slice_get r.world.slots i ≡ Some t)
      slot = slot_there fits p s r i close

      trail : List ℕ
      trail = v.work.trail ++ i ∷ []

      sum : (j : ℕ) → times j trail ≡ times j v.work.trail + times j (i ∷ [])
      sum j = total-append (λ k. when (k == j) 1) v.work.trail (i ∷ [])

      paid : (word + 1) % 2 ^ 64 + times i v.work.trail ≡ word + times i trail
      paid =
          let found = found_passed s r in
          let few = passed_few r.world i (law_is fits p s r) in
          let grown = sum i in
          let one = times_here i in
          omega arith

      others : (j : ℕ) → j ≢ i → times j trail ≡ times j v.work.trail
      others j other = let grown = sum j in let none = times_else j i other in omega arith

  pub unpass_step : list_any (is_slot i) me.0.work.trail ≡ true
      → Acts fits p count id me a (λ x. (x + (2 ^ 64 - 1)) % 2 ^ 64)
      (unpasses i (step count a 1 0 none) me)
  unpass_step passed s r homes there low =
      goes_by fits p s r id a ((word + (2 ^ 64 - 1)) % 2 ^ 64) me (record v.work { trail = trail })
      v.open_places v.seen v.tight
      (events.Unpass v.client i) replies.Ok (unpasses i (step count a 1 0 none) me)
      at seated refl (refl, refl)
      (modest_trail s r v at seated trail)
      (unpass_gives r.world v.client v.work (law_is fits p s r) client live i slot.0 slot.1 passed)
      (paid_passed s r ((word + (2 ^ 64 - 1)) % 2 ^ 64) trail paid
      (λ j other. times_kept j i v.work.trail other))
      (refl, refl, refl)
    where
      v : View T
      v = me.0

      word : ℕ
      word = slice_index s.words a

      at : slice_get s.views id ≡ Some v
      at = read_at s.views id v there

      client : slice_get r.world.clients v.client ≡ Some v.work
      client = client_is fits p s r id v at seated

      live : v.work.live ≡ true
      live = live_is fits p s r id v at seated

      slot : (t : Slot) × (slice_get r.world.slots i ≡ Some t)
      slot = slot_there fits p s r i close

      trail : List ℕ
      trail = dropped (is_slot i) v.work.trail

      paid : (word + (2 ^ 64 - 1)) % 2 ^ 64 + times i v.work.trail ≡ word + times i trail
      paid =
          let found = found_passed s r in
          let few = passed_few r.world i (law_is fits p s r) in
          let within = own_within fits p s r id v at seated i in
          let left = times_left i v.work.trail passed in
          omega arith
