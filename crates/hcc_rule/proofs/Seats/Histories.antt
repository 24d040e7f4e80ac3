-- How a history goes on, and what seats know of it then.
use Rattle.std.proofs.Common.{◌≡◌, ◌≢◌, ℕ, ◌≤◌, ◌⊎◌, inl, inr, Bool, true, false, nat_le, List, [], ◌∷◌, ◌++◌, Option, Some, None, length, slice_get, slice_set, sym, refl, ap, ◌∙◌, subst, arith}
use Rattle.std.proofs.lemmas.Bool.{cases_eq, leb-true, leb-false}
use Rattle.std.proofs.lemmas.List.{append_assoc, append-nil, length-append}
use Rattle.std.specs.Prelude.{if◌then◌else◌}
use Rattle.hcc_core.specs.Runs.{after, after_all, world_after}
use Rattle.hcc_core.specs.World.{State}
use Rattle.hcc_core.proofs.ListLemmas.{read_here, read_other}
use Rattle.hcc_core.proofs.SumLemmas.{length-push}
use Rattle.hcc_rule.specs.declared.rule.Plan.{Plan}
use Rattle.hcc_rule.specs.declared.view.Done.{Done}
use Rattle.hcc_rule.specs.declared.view.Logged.{Logged}
use Rattle.hcc_rule.specs.Acts.{Follows, GoesBy, IsFront, IsKnown, IsNext, IsNoStep, IsNoStepOf, IsRun, KeepsTrails, Leads, RecordsStand, events_of, longer, with_done, world_of}
use Rattle.hcc_rule.specs.Logs.{HasHeard}
use Rattle.hcc_rule.specs.Opening.{begun_world}
use Rattle.hcc_rule.specs.Rule.{AreTrailed}
use Rattle.hcc_rule.specs.Views.{Each, is_seated, names}
use Rattle.hcc_rule.proofs.Basics.Lists.{each_append}

-- Runs.

-- a run goes on by one event
pub run_more : (done : Done) (last next : State) (history : List Done) (world : State)
    → IsRun world history last → Leads last done next → IsRun world (history ++ done ∷ []) next
run_more done last next [] world is leads = (
  next,
  subst (λ w. Leads w done next) is leads,
  refl,
)
run_more done last next (d ∷ ds) world is leads = (
  is.0,
  is.1,
  run_more done last next ds is.0 is.2 leads,
)

-- or by what a step was, if that is one
pub run_on : (client : ℕ) (world last next : State) (history : List Done) (done : Option Done)
    → IsRun world history last → GoesBy client last done next
    → IsRun world (with_done history done) next
run_on client world last next history None is goes =
    subst (λ w. IsRun world history w) (sym goes) is
run_on client world last next history (Some done) is goes =
    run_more done last next history world is goes.1

-- a front of a run is a run
pub run_front : (world last : State) (front rest : List Done) → IsRun world (front ++ rest) last
    → (middle : State) × IsRun world front middle
run_front world last [] rest is = (world, refl)
run_front world last (done ∷ front) rest is =
    let later = run_front is.0 last front rest is.2 in (later.0, (is.0, is.1, later.1))

-- the world at the end of a run is the one after its events
pub run_is : (history : List Done) (world last : State) → IsRun world history last
    → last ≡ after_all world (events_of history)
run_is [] world last is = is
run_is (done ∷ rest) world last is =
    let next : is.0 ≡ after world done.event = sym (ap (world_after world) is.1) in
    run_is rest is.0 last is.2 ∙ ap (λ w. after_all w (events_of rest)) next

-- the world after a history and more
pub after_more : (history more : List Done) (world : State)
    → after_all world (events_of (history ++ more))
    ≡ after_all (after_all world (events_of history)) (events_of more)
after_more [] more world = refl
after_more (done ∷ history) more world = after_more history more (after world done.event)

-- Two fronts of one history.

-- a front of a list with one member more is all of it, or a front of the list
front_of_more : {A : Type 0} (front later xs : List A) (x : A) → front ++ later ≡ xs ++ x ∷ []
    → (front ≡ xs ++ x ∷ []) ⊎ ((rest : List A) × (xs ≡ front ++ rest))
front_of_more [] later xs x is = inr (xs, refl)
front_of_more (z ∷ []) later [] x is = inl (cc)
front_of_more (z ∷ y ∷ zs) later [] x is = cc
front_of_more (z ∷ zs) later (y ∷ ys) x is =
    let same : z ≡ y = cc in
    let rest : zs ++ later ≡ ys ++ x ∷ [] = cc in
    elim (front_of_more zs later ys x rest) [
      | inl all ↦ inl (rw (same, all) refl)
      | inr part ↦ inr (part.0, rw (same, part.1) refl)
    ]

-- what holds of each member of a list holds of those behind a front of it
each_behind : {A : Type 0} (P : A → Type 0) (xs ys : List A) → Each P (xs ++ ys) → Each P ys
each_behind P [] ys each = each
each_behind P (x ∷ xs) ys each = each_behind P xs ys each.1

-- and so of those behind a longer front
pub each_later : {A : Type 0} (P : A → Type 0) (zs xs ys ws : List A) → xs ++ ys ≡ zs ++ ws
    → length zs ≤ length xs → Each P ws → Each P ys
each_later P [] xs ys ws same short each = each_behind P xs ys (subst (Each P) (sym same) each)
each_later P (z ∷ zs) [] ys ws same short each = absurd (omega arith)
each_later P (z ∷ zs) (x ∷ xs) ys ws same short each =
    let rest : xs ++ ys ≡ zs ++ ws = cc in each_later P zs xs ys ws rest (omega arith) each

-- the longer of two is as long as each
pub longer_left : (xs ys : List Done) → length xs ≤ length (longer xs ys)
longer_left xs ys = by (nat_le (length ys) (length xs)) refl
  where
    by : (b : Bool) → nat_le (length ys) (length xs) ≡ b
        → length xs ≤ length (if b then xs else ys)
    by true is = omega arith
    by false is = let less = leb-false (length ys) (length xs) is in omega arith

pub longer_right : (xs ys : List Done) → length ys ≤ length (longer xs ys)
longer_right xs ys = by (nat_le (length ys) (length xs)) refl
  where
    by : (b : Bool) → nat_le (length ys) (length xs) ≡ b
        → length ys ≤ length (if b then xs else ys)
    by true is = leb-true (length ys) (length xs) is
    by false is = omega arith

module _ {T : Type 0} where
  -- what a seat knows after its step
  abbrev pub past_after : List Done → Option Done → Logged T → List Done
  past_after history None l = l.past
  past_after history (Some done) l = history ++ done ∷ []

  -- Trails on the way.

  -- a front of a history that keeps trails
  pub trails_front : (p : Plan T) (front later : List Done) → KeepsTrails p (front ++ later)
      → KeepsTrails p front
  trails_front p front later kept first rest is =
      kept first (rest ++ later)
      (ap (λ h. h ++ later) is ∙ append_assoc first rest later)

  -- no event yet
  pub trails_none : (p : Plan T) → AreTrailed p.geometry.slots (begun_world p).slots
      → KeepsTrails p []
  trails_none p begun [] later is = begun
  trails_none p begun (done ∷ front) later is = cc

  -- one event more, after which trails are kept
  pub trails_more : (p : Plan T) (history : List Done) (done : Done) (next : State)
      → IsRun (begun_world p) (history ++ done ∷ []) next
      → AreTrailed p.geometry.slots next.slots → KeepsTrails p history
      → KeepsTrails p (history ++ done ∷ [])
  trails_more p history done next run after kept front later is =
      elim (front_of_more front later history done (sym is)) [
        | inl all ↦
            subst (λ (w : State). AreTrailed p.geometry.slots w.slots)
            (run_is (history ++ done ∷ []) (begun_world p) next run
            ∙ ap (λ h. world_of p h) (sym all)) after
        | inr part ↦ kept front part.0 part.1
      ]

  -- or what a step was
  pub trails_on : (p : Plan T) (history : List Done) (done : Option Done) (next : State)
      → IsRun (begun_world p) (with_done history done) next
      → AreTrailed p.geometry.slots next.slots → KeepsTrails p history
      → KeepsTrails p (with_done history done)
  trails_on p history None next run after kept = kept
  trails_on p history (Some done) next run after kept =
      trails_more p history done next run after kept

  -- Fronts.

  -- a seat that knows all of the history
  pub front_all : (clients : ℕ) (history : List Done) (l : Logged T) → l.past ≡ history
      → IsFront clients history l
  front_all clients history l all = record {
    later = [];
    is = sym all ∙ sym (append-nil l.past);
    apart = λ c named. tt;
    alone = λ one seated. refl;
  }

  -- a seat that knows as much as another one, and names no more
  pub front_same : (clients : ℕ) (history : List Done) (l m : Logged T) → m.past ≡ l.past
      → ((c : ℕ) → 1 ≤ names c m.known → 1 ≤ names c l.known)
      → (clients ≡ 1 → is_seated m.known ≡ true → is_seated l.known ≡ true)
      → IsFront clients history l → IsFront clients history m
  front_same clients history l m same fewer seated f = record {
    later = f.later;
    is = f.is ∙ ap (λ h. h ++ f.later) (sym same);
    apart = λ c named. f.apart c (fewer c named);
    alone = λ one sits. f.alone one (seated one sits);
  }

  -- a seat that hears nothing of an event, which is no step of a client that it names
  pub front_more : (clients : ℕ) (history : List Done) (l : Logged T) (done : Done)
      → ((c : ℕ) → 1 ≤ names c l.known → IsNoStepOf c done)
      → (clients ≡ 1 → is_seated l.known ≡ true → 1 ≤ 0)
      → IsFront clients history l → IsFront clients (history ++ done ∷ []) l
  front_more clients history l done apart never f = record {
    later = f.later ++ done ∷ [];
    is = ap (λ h. h ++ done ∷ []) f.is ∙ append_assoc l.past f.later (done ∷ []);
    apart = λ c named. each_append (IsNoStepOf c) f.later (done ∷ []) (f.apart c named)
        (apart c named, tt);
    alone = λ one seated. absurd (let bad = never one seated in omega arith);
  }

  -- a seat that knows what the one or the other of two knew, and names whom they named
  pub front_longer : (clients : ℕ) (history : List Done) (l m o : Logged T)
      → o.past ≡ longer l.past m.past
      → ((c : ℕ) → 1 ≤ names c o.known → (1 ≤ names c l.known) ⊎ (1 ≤ names c m.known))
      → (clients ≡ 1 → 1 ≤ 0)
      → IsFront clients history l → IsFront clients history m → IsFront clients history o
  front_longer clients history l m o past either never f g =
      by (nat_le (length m.past) (length l.past)) refl past
    where
      by : (b : Bool) → nat_le (length m.past) (length l.past) ≡ b
          → o.past ≡ (if b then l.past else m.past) → IsFront clients history o
      by true is same = record {
        later = f.later;
        is = f.is ∙ ap (λ h. h ++ f.later) (sym same);
        apart = λ c named. elim (either c named) [
          | inl mine ↦ f.apart c mine
          | inr theirs ↦
              each_later (IsNoStepOf c) m.past l.past f.later g.later (sym f.is ∙ g.is)
              (leb-true (length m.past) (length l.past) is) (g.apart c theirs)
        ];
        alone = λ one sits. absurd (let bad = never one in omega arith);
      }
      by false is same = record {
        later = g.later;
        is = g.is ∙ ap (λ h. h ++ g.later) (sym same);
        apart = λ c named. elim (either c named) [
          | inl mine ↦
              each_later (IsNoStepOf c) l.past m.past g.later f.later (sym g.is ∙ f.is)
              (let less = leb-false (length m.past) (length l.past) is in omega arith)
              (f.apart c mine)
          | inr theirs ↦ g.apart c theirs
        ];
        alone = λ one sits. absurd (let bad = never one in omega arith);
      }

  -- What was told.

  -- what a seat was told is a front of a history that goes on
  pub heard_more : (history more : List Done) (l m : Logged T) → m.heard ≡ l.heard
      → HasHeard history l → HasHeard (history ++ more) m
  heard_more history more l m same h = (
    h.0 ++ more,
    ap (λ ds. ds ++ more) h.1
        ∙ (ap (λ ds. (ds ++ h.0) ++ more) (sym same) ∙ append_assoc m.heard h.0 more),
  )

  -- or of one that goes on by what a step was
  pub heard_on : (history : List Done) (done : Option Done) (l m : Logged T) → m.heard ≡ l.heard
      → HasHeard history l → HasHeard (with_done history done) m
  heard_on history None l m same h = (h.0, h.1 ∙ ap (λ ds. ds ++ h.0) (sym same))
  heard_on history (Some done) l m same h = heard_more history (done ∷ []) l m same h

  -- a seat that knows all of the history goes on from what it was told before
  pub goes_on : (history : List Done) (old new : Logged T) → new.past ≡ history
      → new.heard ≡ old.heard → HasHeard history new
      → (more : List Done) × (new.past ≡ old.heard ++ more)
  goes_on history old new all same told =
      (told.0, all ∙ (told.1 ∙ ap (λ ds. ds ++ told.0) same))

  -- Who knows all.

  -- a start or an end comes, and each seat that the views had is there with what it knew
  pub known_more : (history : List Done) (views after : List (Logged T)) (done : Done)
      → ((j : ℕ) (l : Logged T) → slice_get views j ≡ Some l
      → (k : ℕ) × (m : Logged T) × (slice_get after k ≡ Some m) × (m.past ≡ l.past))
      → IsNoStep done → IsKnown history views → IsKnown (history ++ done ∷ []) after
  known_more history views after done stays still known =
      let there = stays known.number known.seat known.there in
      record {
        number = there.0;
        seat = there.1;
        there = there.2;
        later = known.later ++ done ∷ [];
        is = ap (λ h. h ++ done ∷ []) known.is
            ∙ (ap (λ h. h ++ known.later ++ done ∷ []) (sym there.3)
            ∙ append_assoc there.1.past known.later (done ∷ []));
        still = each_append IsNoStep known.later (done ∷ []) known.still (still, tt);
      }

  -- a seat whose view changes while it learns nothing
  pub known_same : (history : List Done) (views : List (Logged T)) (id : ℕ) (l w : Logged T)
      → slice_get views id ≡ Some l → w.past ≡ l.past → IsKnown history views
      → IsKnown history (slice_set views id w)
  known_same history views id l w at same known = elim (cases_eq known.number id) [
    | inl here ↦
        let both : Some l ≡ Some known.seat =
        sym at ∙ (ap (slice_get views) (sym here) ∙ known.there) in
        let is : l ≡ known.seat = cc in
        record {
          number = id;
          seat = w;
          there = read_here views id l w at;
          later = known.later;
          is = known.is
              ∙ ap (λ h. h ++ known.later) (sym (same ∙ ap (λ (k : Logged T). k.past) is));
          still = known.still;
        }
    | inr other ↦ record {
      number = known.number;
      seat = known.seat;
      there = read_other views id known.number w other ∙ known.there;
      later = known.later;
      is = known.is;
      still = known.still;
    }
  ]

  -- The seat that makes an event knows all of the history then.
  pub known_after : (history : List Done) (views : List (Logged T)) (id : ℕ) (l w : Logged T)
      (done : Option Done)
      → slice_get views id ≡ Some l → w.past ≡ past_after history done l → IsKnown history views
      → IsKnown (with_done history done) (slice_set views id w)
  known_after history views id l w None at same known =
      known_same history views id l w at same known
  known_after history views id l w (Some done) at all known = record {
    number = id;
    seat = w;
    there = read_here views id l w at;
    later = [];
    is = sym all ∙ sym (append-nil w.past);
    still = tt;
  }

  -- a seat that made an event knows more of the history
  pub moved : (p : Plan T) (clients : ℕ) (done : Done) (act : Option Done) (old new : Logged T)
      → act ≡ Some done → Follows p clients act old new → old.past ≢ new.past
  moved p clients done act old new is follows same =
      let next : IsNext p clients done old new =
      subst (λ o. Follows p clients o old new) is follows in
      let more = length-append old.past (next.others ++ done ∷ []) in
      let one = length-push next.others done in
      let long = ap length (same ∙ next.past) in
      omega arith

  -- What a seat did is behind what others did since its last event.
  pub follows_is : (p : Plan T) (clients : ℕ) (history : List Done) (done : Option Done)
      (old new : Logged T)
      → is_seated old.known ≡ true → new.past ≡ past_after history done old
      → ((c : ℕ) → names c new.known ≡ names c old.known)
      → (new.past ≡ with_done history done → RecordsStand p new)
      → (old.past ≡ history → RecordsStand p old)
      → IsFront clients history old → Follows p clients done old new
  follows_is p clients history None old new seated past named stand stood f = past
  follows_is p clients history (Some done) old new seated past named stand stood f = record {
    others = f.later;
    past = past ∙ (ap (λ h. h ++ done ∷ []) f.is ∙ append_assoc old.past f.later (done ∷ []));
    apart = f.apart;
    alone = λ one. f.alone one seated;
    named = named;
    stand = stand past;
    stood = λ one.
        stood (sym (f.is ∙ ap (λ ds. old.past ++ ds) (f.alone one seated) ∙ append-nil old.past));
  }
