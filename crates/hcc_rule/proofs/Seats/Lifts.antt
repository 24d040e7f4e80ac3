-- Each step that keeps the rule on views keeps it on views beside the steps that were made, and the
-- history goes on by what it was: once there is a step, the rule says no more of the words than the
-- views do.
use prog.Atomic.{either}
use lib.ListN.{get_elem?}
use mathlib.Core.Option as maybe
use Rattle.std.proofs.Common.{◌≡◌, ◌≢◌, ℕ, ◌<◌, ◌+◌, ◌-◌, ◌%◌, ◌^◌, ◌==◌, bit_and, bit_or, ◌≤◌, Bool, true, false, cond, is_some, Option, Some, None, List, [], ◌∷◌, ◌++◌, length, map, slice_get, slice_index, slice_set, sym, refl, ap, ◌∙◌, subst, arith}
use Rattle.std.specs.Prelude.{option_and_then}
use Rattle.std.proofs.lemmas.List.{map-set, map-append}
use Rattle.atomic_table.specs.Table as table
use Rattle.atomic_table.specs.Table.{Allows, Splits, Joins, Final, Seen}
use Rattle.hcc_core.specs.Sums.{when}
use Rattle.hcc_core.specs.declared.slot.Entry.{Entry}
use Rattle.hcc_core.specs.declared.slot.Slot.{Slot}
use Rattle.hcc_core.specs.declared.slot.Slot.TheVariants as slots
use Rattle.hcc_core.specs.Runs.{FindsOne, entry_at, entry_held, entry_of, held_at}
use Rattle.hcc_core.specs.World.{State, has_reference, slot_holding}
use Rattle.hcc_core.proofs.EveryRun.{stands_between}
use Rattle.hcc_core.proofs.ListLemmas.{read_here, read_other}
use Rattle.hcc_core.proofs.SumLemmas.{length-push, total-set, total-member}
use Rattle.atomic_table.proofs.Lists.{at_map}
use Rattle.hcc_rule.specs.declared.key.Key.{Key}
use Rattle.hcc_rule.specs.declared.layout.TheConstants.{DATA}
use Rattle.hcc_rule.specs.declared.rule.Plan.{Plan}
use Rattle.hcc_rule.specs.declared.view.Done.{Done}
use Rattle.hcc_rule.specs.declared.view.Logged.{Logged}
use Rattle.hcc_rule.specs.declared.view.Other.{Other}
use Rattle.hcc_rule.specs.declared.view.View.{View}
use Rattle.hcc_rule.specs.Acts.{Acts, Becomes, IsAllowed, IsRun, KeepsTrails, RecordsStand, events_of, with_done, world_of}
use Rattle.hcc_rule.specs.Logs.{HasHeard, Hears, Loads, Logs, HoldsLogged, Shows, known_of, unlogged}
use Rattle.hcc_rule.specs.Opening.{begun_world}
use Rattle.hcc_rule.specs.PassedLogs.{left_logged, right_logged, joined_logged, spent_logged}
use Rattle.hcc_rule.specs.Passing.{left_view, right_view, spent_view}
use Rattle.hcc_rule.specs.Rule.{Holds, IsRecorded, entry_by, entry_in}
use Rattle.hcc_rule.specs.Seats.{atomic, moves_of}
use Rattle.hcc_rule.specs.Told.{Held}
use Rattle.hcc_rule.specs.ToldGlimpses.{IsRightEntry}
use Rattle.hcc_rule.specs.ToldOwners.{IsDataWord}
use Rattle.hcc_rule.specs.Views.{is_called, is_seated, named_by}
use Rattle.hcc_rule.specs.Words.{field_at}
use Rattle.hcc_rule.proofs.Basics.Findings.{find_each}
use Rattle.hcc_rule.proofs.Basics.Lists.{each_set, read_at}
use Rattle.hcc_rule.proofs.Entries.DataWords.{entry_word, word_same}
use Rattle.hcc_rule.proofs.Parts.Asides.{law_is}
use Rattle.hcc_rule.proofs.Parts.HeldReferences.{slot_held}
use Rattle.hcc_rule.proofs.References.Reaches.{entry_right}
use Rattle.hcc_rule.proofs.Seats.Fronts.{Meets, fronts_after, join_fronts, join_known, known, known_at, named_all, names_same, names_two, split_fronts, split_known}
use Rattle.hcc_rule.proofs.Seats.Histories.{follows_is, goes_on, heard_more, heard_on, known_after, past_after, run_front, run_more, run_on, trails_front, trails_more, trails_on}
use Rattle.hcc_rule.proofs.Seats.Joins.{total_joined}
use Rattle.hcc_rule.proofs.Seats.Runs.{run_finds, world_is}
use Rattle.hcc_rule.proofs.Seats.Passes.{JoinsBy, Passed, SplitsBy}
use Rattle.hcc_rule.proofs.Seats.Splits.{each_snoc, total_split}

-- what the atomic operations leave of a word; a load leaves it as it was
abbrev pub loaded : ℕ → ℕ
loaded n = n

abbrev pub stored : ℕ → ℕ → ℕ
stored word n = word

abbrev pub added : ℕ → ℕ → ℕ
added k n = (n + k) % 2 ^ 64

abbrev pub taken : ℕ → ℕ → ℕ
taken k n = (n + (2 ^ 64 - k)) % 2 ^ 64

abbrev pub anded : ℕ → ℕ → ℕ
anded k n = bit_and n k

abbrev pub ored : ℕ → ℕ → ℕ
ored k n = bit_or n k

abbrev pub exchanged : (old new : ℕ) → ℕ → ℕ
exchanged old new n = either (n == old) new n

-- a client that holds a name on a slot with this entry holds it on the entry
held_there : (world : State) (client name slot : ℕ) (entry : Entry) → FindsOne world
    → entry_in (slice_get world.slots slot) ≡ Some entry
    → ((seen : Slot) → slice_get world.slots slot ≡ Some seen
    → slot_holding world.slots client name ≡ Some slot)
    → held_at world client name slot ≡ Some entry
held_there world client name slot entry one there holds = by (slice_get world.slots slot) refl there
  where
    same : (seen : Slot) (e : Entry) → entry_by seen ≡ Some entry
        → entry_held client name seen ≡ Some e → entry_held client name seen ≡ Some entry
    same (slots.Empty strays) e is held = cc
    same (slots.Building other strays) e is held = cc
    same (slots.Shareable r) e is held = named (has_reference client name (slots.Shareable r)) held
      where
        named : (b : Bool) → cond b (Some r.entry) None ≡ Some e
            → cond b (Some r.entry) None ≡ Some entry
        named true held = is
        named false held = cc

    by : (o : Option Slot) → slice_get world.slots slot ≡ o → entry_in o ≡ Some entry
        → held_at world client name slot ≡ Some entry
    by None at is = cc
    by (Some seen) at is =
        let stands = one.stands client name slot (holds seen at) in
        ap (option_and_then (entry_held client name)) at
        ∙ same seen stands.0 is
        (sym (ap (option_and_then (entry_held client name)) at) ∙ stands.1)

module _ {T : Type 0} (fits : T → Key → List ℕ → Type 0) (p : Plan T) where
  -- what a step tells of views
  abbrev Then : Type 1
  Then = table.Step (Unit {0}) → Held T → ℕ → Held T → Option Done → Type 0

  -- a seat with one step more: a view, the step, and what it knows of the history
  abbrev seat_after : View T → table.Step (Unit {0}) → table.Me (Unit {0}) (Logged T) → ℕ
      → List Done → Logged T
  seat_after v step me found past = record me.0 {
    known = v;
    steps = me.0.steps ++ atomic step.word step.first step.second found ∷ [];
    past = past;
  }

  -- a seat that stands for no client has no steps
  abbrev Spent : Logged T → Type 0
  Spent l = l.known.tag ≡ None → moves_of l ≡ 0

  -- a seat that stood for a client names some after a step, and still stands for one
  still_seated : (s : table.State (Unit {0}) (View T)) (r : Holds fits p s) (words : List ℕ)
      (homes : List (maybe.Option (Unit {0}))) (id : ℕ) (v w : View T)
      → slice_get s.views id ≡ Some v → is_seated v ≡ true
      → Meets fits p words homes (slice_set s.views id w) → w.tag ≡ None → 1 ≤ 0
  still_seated s r words homes id v w at seated after none =
      let there = read_here s.views id v w at in
      let spent = (after.seats.each id w there).spent none in
      let nobody : named_by w ≡ 0 = rw (none, spent.1) refl in
      let one : when (is_seated v) 1 ≡ 1 = ap (λ b. when b 1) seated in
      let change = total-set named_by s.views id v w at in
      let before = named_all fits p s r in
      let now = named_all fits p _ after in
      omega arith

  -- they show the world to which a step leads
  abbrev MeetsBy : ℕ → State → Option Done → List ℕ → List (maybe.Option (Unit {0})) → List (View T)
      → Type 0
  MeetsBy client world done words homes views =
      Becomes fits p client world done (record { words = words; homes = homes; views = views })

  -- a seat's view changed, and it made one step more
  pub stepped_logged : (s : table.State (Unit {0}) (Logged T)) → (holds : HoldsLogged fits p s)
      → (words : List ℕ) (homes : List (maybe.Option (Unit {0}))) (id : ℕ) (l w : Logged T)
      (done : Option Done)
      → slice_get s.views id ≡ Some l → is_seated l.known ≡ true → moves_of w ≡ moves_of l + 1
      → w.past ≡ past_after holds.history done l → w.heard ≡ l.heard
      → MeetsBy l.known.client holds.rule.world done words homes
      (slice_set (unlogged s).views id w.known)
      → HoldsLogged fits p
      (record { words = words; homes = homes; views = slice_set s.views id w })
  stepped_logged s holds words homes id l w done at seated one past told becomes =
      let change = total-set moves_of s.views id l w at in
      let mine = total-member moves_of s.views id l at in
      let now : MeetsBy l.known.client holds.rule.world done words homes
      (map known (slice_set s.views id w)) =
      subst (λ vs. MeetsBy l.known.client holds.rule.world done words homes vs)
      (sym (map-set known s.views id w)) becomes in
      let same = names_same fits p (unlogged s) holds.rule words homes id l.known w.known
      (known_at fits p s id l at) becomes.0 in
      let run = run_on l.known.client (begun_world p) holds.rule.world now.0.world holds.history
      done holds.run now.1 in
      record {
        rule = now.0;
        begins = λ none. absurd (omega arith);
        spent = each_set (λ j m. Spent m) s.views id w
            (λ none.
            let never = still_seated (unlogged s) holds.rule words homes id l.known w.known
            (known_at fits p s id l at) seated becomes.0 none in absurd (omega arith))
            (λ j m other there. holds.spent j m there);
        history = with_done holds.history done;
        run = run;
        trails = trails_on p holds.history done now.0.world run now.0.trails.entries holds.trails;
        fronts = fronts_after fits p s holds id l w at seated same now.0.world done now.1 past;
        known = known_after holds.history s.views id l w done at past holds.known;
        heard = each_set (λ j m. HasHeard (with_done holds.history done) m) s.views id w
            (heard_on holds.history done l w told (holds.heard id l at))
            (λ j m other there. heard_on holds.history done m m refl (holds.heard j m there));
      }

  -- the machine allows all that a seat knows
  pub known_allowed : (s : table.State (Unit {0}) (Logged T)) → HoldsLogged fits p s → (j : ℕ)
      (l : Logged T) → slice_get s.views j ≡ Some l → IsAllowed p l.past
  known_allowed s holds j l at =
      let front = holds.fronts j l at in
      let run = run_front (begun_world p) holds.rule.world l.past front.later
      (subst (λ ds. IsRun (begun_world p) ds holds.rule.world) front.is holds.run) in
      record {
        world = run.0;
        run = run.1;
        trails = trails_front p l.past front.later
            (subst (λ ds. KeepsTrails p ds) front.is holds.trails);
      }

  -- what a client holds stands in the world after all that its seat knows, where that is all there
  -- is to know
  records_stand : (s : table.State (Unit {0}) (Logged T)) (holds : HoldsLogged fits p s) (j : ℕ)
      (l : Logged T) → slice_get s.views j ≡ Some l → is_seated l.known ≡ true
      → l.past ≡ holds.history → RecordsStand p l
  records_stand s holds j l at seated all name r called =
      let there = known_at fits p s j l at in
      let world : holds.rule.world ≡ world_of p l.past =
      world_is fits p s holds ∙ ap (λ h. world_of p h) (sym all) in
      let mine = holds.rule.holding j l.known there in
      let kept = find_each (is_called name) (IsRecorded holds.rule.world.slots) l.known.records r
      mine.recorded called in
      held_there (world_of p l.past) l.known.client name r.slot r.entry
      (run_finds p (events_of l.past))
      (subst (λ (w : State). entry_in (slice_get w.slots r.slot) ≡ Some r.entry) world kept.there)
      (λ slot at_slot.
      subst (λ (w : State). slot_holding w.slots l.known.client name ≡ Some r.slot) world
      (slot_held p.tag holds.rule.world.slots holds.rule.world.clients holds.rule.books
      (unlogged s).views holds.rule.references holds.rule.seats j l.known there seated name r called
      (mine.once name) slot r.slot refl
      (ap (λ (w : State). slice_get w.slots r.slot) world ∙ at_slot)))

  -- a view that can't have lost its tag stands for a client
  sits : (v : View T) (o : Option T) → v.tag ≡ o → (v.tag ≡ None → 1 ≤ 0) → is_seated v ≡ true
  sits v None is never = absurd (let bad = never is in omega arith)
  sits v (Some tag) is never = ap is_some is

  -- a seat that hears of its event knows all of the history then
  knows_all : (history : List Done) (done : Option Done) (l : Logged T)
      → l.past ≢ past_after history done l → past_after history done l ≡ with_done history done
  knows_all history None l moved = absurd (moved refl)
  knows_all history (Some done) l moved = refl

  -- the rule after a step, what it tells, and what its seat knows of the history then
  abbrev Lifted : (then : Then) (step : table.Step (Unit {0})) (id a y found : ℕ)
      (me : table.Me (Unit {0}) (Logged T)) → table.State (Unit {0}) (Logged T) → Type 0
  Lifted then step id a y found me s =
      (w : Logged T) × (act : table.Act (Unit {0})) × table.Valid s.homes me.1 act
      × (after : HoldsLogged fits p (table.stepped s a y id me.1 w act))
      × Logs p then step me found (w, table.carried_after me.1 act)
      × (me.0.past ≢ w.past → w.past ≡ after.history) × Hears me.0 w

  lifts : {then : Then} {step : table.Step (Unit {0})} {count id a : ℕ}
      {me : table.Me (Unit {0}) (Logged T)} (f word : ℕ → ℕ) → is_seated me.0.known ≡ true
      → Acts fits p count id (known_of me) a f (λ n. then step (known_of me) (word n))
      → (s : table.State (Unit {0}) (Logged T)) → HoldsLogged fits p s → length s.homes ≡ count
      → get_elem? s.views id ≡ maybe.some me.0 → slice_index s.words a < 2 ^ 64
      → Lifted then step id a (f (slice_index s.words a)) (word (slice_index s.words a)) me s
  unfolding stepped_logged
  lifts {then} {step} {count} {id} {a} {me} f word seated acts s holds homes at low =
      let given = acts (unlogged s) holds.rule homes (at_map known s.views id me.0 at) low in
      let here = read_at s.views id me.0 at in
      let found : ℕ = word (slice_index s.words a) in
      let push = length-push me.0.steps (atomic step.word step.first step.second found) in
      let w : Logged T = seat_after given.0 step me found (past_after holds.history given.3 me.0)
      in
      let after = stepped_logged s holds _ _ id me.0 w given.3 here seated (omega arith) refl refl
      given.4 in
      let there = read_here s.views id me.0 w here in (
        w,
        given.1,
        given.2,
        after,
        record {
          done = given.3;
          told = given.5;
          follows = follows_is p p.geometry.clients holds.history given.3 me.0 w seated refl
              (names_same fits p (unlogged s) holds.rule _ _ id me.0.known w.known
              (known_at fits p s id me.0 here) given.4.0)
              (λ all. records_stand _ after id w there
              (sits w.known w.known.tag refl (λ none. let never = after.spent id w there none in
              omega arith)) all) (records_stand s holds id me.0 here seated)
              (holds.fronts id me.0 here);
          allowed = known_allowed _ after id w there;
          logged_is = refl;
          one = push;
        },
        knows_all holds.history given.3 me.0,
        λ moved. goes_on after.history me.0 w (knows_all holds.history given.3 me.0 moved) refl
            (after.heard id w there),
      )

  -- A step that leaves f of the word, and tells of `word` of it: the word itself, but at a store
  -- the one that it leaves.
  pub lifted : {then : Then} {step : table.Step (Unit {0})} {count id a : ℕ}
      {me : table.Me (Unit {0}) (Logged T)} (f word : ℕ → ℕ) → is_seated me.0.known ≡ true
      → Acts fits p count id (known_of me) a f (λ n. then step (known_of me) (word n))
      → Allows (HoldsLogged fits p) count id me a f (λ n. Logs p then step me (word n))
  lifted f word seated acts s holds homes at low =
      let given = lifts f word seated acts s holds homes at low in
      (given.0, given.1, given.2, given.3, given.4)

  -- an entry is the same to the rule and to the machine
  same_entry : (o : Option Slot) → option_and_then entry_of o ≡ entry_in o
  same_entry None = refl
  same_entry (Some (slots.Empty strays)) = refl
  same_entry (Some (slots.Building client strays)) = refl
  same_entry (Some (slots.Shareable r)) = refl

  -- an entry of the world is as an insertion made it
  right_entry : {s : table.State (Unit {0}) (View T)} (r : Holds fits p s) (slot : ℕ)
      (entry : Entry) → entry_in (slice_get r.world.slots slot) ≡ Some entry
      → IsRightEntry fits p.tag p.geometry.room entry
  right_entry r slot entry there =
      let stored = r.stored slot entry there in
      let right = entry_right fits p.tag p.geometry.room stored.made entry.stamp entry stored.same
      (r.stamps.right entry.stamp stored.made stored.listed) in
      record { right = right.0; short = right.1; bytes = right.3; small = right.2 }

  -- A load tells of the entries that stand there.
  pub loads : {then : Then} {step : table.Step (Unit {0})} {count id a : ℕ}
      {me : table.Me (Unit {0}) (Logged T)} → step.word ≡ a → is_seated me.0.known ≡ true
      → Acts fits p count id (known_of me) a loaded (λ n. then step (known_of me) n)
      → Allows (HoldsLogged fits p) count id me a loaded (λ n. Loads fits p then step me n)
  loads {then} {step} {count} {id} {a} {me} word_is seated acts s holds homes at low =
      let given = lifts loaded loaded seated acts s holds homes at low in
      let after = given.3 in (
        given.0,
        given.1,
        given.2,
        after,
        (
          given.4,
          λ moved.
              subst (Shows fits p step.word (slice_index s.words a))
              (world_is fits p _ after ∙ ap (λ h. world_of p h) (sym (given.5 moved)))
              (shows given.0 given.1 after),
          given.6,
        ),
      )
    where
      -- a load leaves the words
      shows : (l : Logged T) (act : table.Act (Unit {0})) (after : HoldsLogged fits p
          (table.stepped s a (slice_index s.words a) id me.1 l act))
          → Shows fits p step.word (slice_index s.words a) after.rule.world
      shows l act after = record {
        word = λ slot index entry place there.
            let word = entry_word fits p _ after.rule slot index entry (stands slot entry there) in
            let here : a ≡ field_at p.geometry.room slot DATA + index = sym word_is ∙ place in
            let found : slice_index (slice_set s.words a (slice_index s.words a))
            (field_at p.geometry.room slot DATA + index) ≡ slice_index s.words a =
            ap (λ ws. slice_index ws (field_at p.geometry.room slot DATA + index))
            (word_same s.words a) ∙ ap (slice_index s.words) (sym here) in
            subst (IsDataWord entry index) found word;
        right = λ slot entry there. right_entry after.rule slot entry (stands slot entry there);
        between = λ events. stands_between after.rule.world events (law_is fits p _ after.rule);
      }
        where
          stands : (slot : ℕ) (entry : Entry) → entry_at after.rule.world slot ≡ Some entry
              → entry_in (slice_get after.rule.world.slots slot) ≡ Some entry
          stands slot entry there =
              sym (same_entry (slice_get after.rule.world.slots slot)) ∙ there

  -- A seat that is split.
  pub splits_logged : (id : ℕ) (l : Logged T) (o : Other) (os : List Other) (done : Done)
      → is_seated l.known ≡ true → l.known.others ≡ o ∷ os
      → SplitsBy fits p id l.known done
      → Splits (HoldsLogged fits p) id l (left_logged l) (right_logged l)
  splits_logged id l o os done seated another splits s holds at =
      let views : map known (slice_set s.views id (left_logged l) ++ right_logged l ∷ [])
      ≡ slice_set (map known s.views) id (left_view l.known) ++ right_view l.known ∷ [] =
      map-append known (slice_set s.views id (left_logged l)) (right_logged l ∷ [])
      ∙ ap (λ vs. vs ++ right_view l.known ∷ []) (map-set known s.views id (left_logged l)) in
      let here = read_at s.views id l at in
      let passed = splits (unlogged s) holds.rule (known_at fits p s id l here) in
      let now : Passed fits p holds.rule.world done
      (record {
        words = s.words;
        homes = s.homes;
        views = map known
            (slice_set s.views id (left_logged l) ++ right_logged l ∷ []);
      }) =
      subst (λ vs. Passed fits p holds.rule.world done
      (record { words = s.words; homes = s.homes; views = vs })) (sym views) passed in
      let two = names_two fits p (unlogged s) holds.rule id l.known o os
      (known_at fits p s id l here) seated another in
      let run = run_more done holds.rule.world now.0.world holds.history (begun_world p) holds.run
      now.1.1 in
      record {
        rule = now.0;
        begins = λ none.
            let same = total_split moves_of s.views id l (left_logged l) (right_logged l) here
            (let g : length l.steps + l.taken_in + 0 ≡ length l.steps + l.taken_in = omega arith
            in g) in
            holds.begins (sym same ∙ none);
        spent = each_snoc Spent (slice_set s.views id (left_logged l)) (right_logged l)
            (λ none. refl)
            (each_set (λ j m. Spent m) s.views id (left_logged l) (holds.spent id l here)
            (λ j m other there. holds.spent j m there));
        history = holds.history ++ done ∷ [];
        run = run;
        trails = trails_more p holds.history done now.0.world run now.0.trails.entries holds.trails;
        fronts = split_fronts fits p s holds id l done here seated now.1.0 two;
        known = split_known fits p s holds id l done here now.1.0;
        heard = each_snoc (HasHeard (holds.history ++ done ∷ [])) (slice_set s.views id
            (left_logged l)) (right_logged l) (holds.history ++ done ∷ [], refl)
            (each_set (λ j m. HasHeard (holds.history ++ done ∷ []) m) s.views id (left_logged l)
            (heard_more holds.history (done ∷ []) l (left_logged l) refl (holds.heard id l here))
            (λ j m other there.
            heard_more holds.history (done ∷ []) m m refl (holds.heard j m there)));
      }

  -- Two seats that are joined.
  pub joins_logged : (id other : ℕ) (l m : Logged T) (done : Done) → is_seated l.known ≡ true
      → is_seated m.known ≡ true → JoinsBy fits p id l.known other m.known done
      → Joins (HoldsLogged fits p) id l other m (joined_logged l m) spent_logged
  joins_logged id other l m done seated sits joins s holds at apart there =
      let both : Logged T = joined_logged l m in
      let one : map known (slice_set s.views id both)
      ≡ slice_set (map known s.views) id both.known =
      map-set known s.views id both in
      let views : map known (slice_set (slice_set s.views id both) other spent_logged)
      ≡ slice_set (slice_set (map known s.views) id both.known) other spent_view =
      map-set known (slice_set s.views id both) other spent_logged
      ∙ ap (λ vs. slice_set vs other spent_view) one in
      let here = read_at s.views id l at in
      let after = read_at (slice_set s.views id both) other m there in
      let before = sym (read_other s.views id other both apart) ∙ after in
      let passed = joins (unlogged s) holds.rule (known_at fits p s id l here) apart
      (known_at fits p s other m before) in
      let now : Passed fits p holds.rule.world done
      (record {
        words = s.words;
        homes = s.homes;
        views = map known
            (slice_set (slice_set s.views id both) other spent_logged);
      }) =
      subst (λ vs. Passed fits p holds.rule.world done
      (record { words = s.words; homes = s.homes; views = vs })) (sym views) passed in
      let run = run_more done holds.rule.world now.0.world holds.history (begun_world p) holds.run
      now.1.1 in
      record {
        rule = now.0;
        begins = λ none.
            let same = total_joined moves_of s.views id other l m both spent_logged here after
            (omega arith) in
            holds.begins (sym same ∙ none);
        spent = each_set (λ j o. Spent o) (slice_set s.views id both) other spent_logged
            (λ none. refl)
            (λ j o apart. each_set (λ j o. Spent o) s.views id both
            (λ none. let bad : is_seated l.known ≡ false = ap is_some none in cc)
            (λ j o other there. holds.spent j o there) j o);
        history = holds.history ++ done ∷ [];
        run = run;
        trails = trails_more p holds.history done now.0.world run now.0.trails.entries holds.trails;
        fronts = join_fronts fits p s holds id other l m here apart before seated sits done now.1.0;
        known = join_known fits p s holds id other l m here apart before seated sits done now.1.0;
        heard = each_set (λ j o. HasHeard (holds.history ++ done ∷ []) o) (slice_set s.views id
            both) other spent_logged (holds.history ++ done ∷ [], refl)
            (λ j o apart. each_set (λ j o. HasHeard (holds.history ++ done ∷ []) o) s.views id both
            (heard_more holds.history (done ∷ []) l both refl (holds.heard id l here))
            (λ j o other there.
            heard_more holds.history (done ∷ []) o o refl (holds.heard j o there)) j o);
      }

  -- The last state, without steps.
  pub final_unlogged : (words : List ℕ) (homes : List (Unit {0})) (id : ℕ) (l : Logged T)
      → Final (Seen (HoldsLogged fits p) id l) words homes
      → Final (Seen (Holds fits p) id l.known) words homes
  final_unlogged words homes id l final = (
    unlogged final.0,
    (final.1.0.rule, at_map known final.0.views id l final.1.1),
    final.2,
    final.3,
    final.4,
  )
