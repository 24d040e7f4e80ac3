-- What each seat knows of the history after a step, a split and a join.
use mathlib.Core.Logic.{dite}
use mathlib.Core.Option as maybe
use native.Mathlib.Decide.{dec_le}
use Rattle.std.proofs.Common.{◌≡◌, ◌≢◌, ◌⊎◌, inl, inr, ℕ, zero, suc, ◌+◌, ◌≤◌, ◌==◌, ◌&&◌, Bool, true, false, nat_lt, List, [], ◌∷◌, ◌++◌, Option, Some, None, length, option_map, slice_get, slice_set, sym, refl, ap, ◌∙◌, arith}
use Rattle.std.proofs.lemmas.Bool.{cases_eq}
use Rattle.std.proofs.lemmas.Option.{slice_get-map}
use Rattle.atomic_table.specs.Table as table
use Rattle.hcc_core.specs.Sums.{when, total}
use Rattle.hcc_core.specs.World.{State}
use Rattle.hcc_core.proofs.ListLemmas.{read_here, read_other}
use Rattle.hcc_core.proofs.SumLemmas.{total-append, total-set, total-member}
use Rattle.hcc_rule.specs.declared.key.Key.{Key}
use Rattle.hcc_rule.specs.declared.rule.Plan.{Plan}
use Rattle.hcc_rule.specs.declared.view.Done.{Done}
use Rattle.hcc_rule.specs.declared.view.Logged.{Logged}
use Rattle.hcc_rule.specs.declared.view.Other.{Other}
use Rattle.hcc_rule.specs.declared.view.View.{View}
use Rattle.hcc_rule.specs.Acts.{GoesBy, IsFront, IsKnown, IsNoStep, IsNoStepOf, IsStepBy, with_done}
use Rattle.hcc_rule.specs.Logs.{HoldsLogged, unlogged}
use Rattle.hcc_rule.specs.PassedLogs.{left_logged, right_logged, joined_logged, spent_logged}
use Rattle.hcc_rule.specs.Passing.{as_other, rest_of, first_view, left_view, right_view, joined_view}
use Rattle.hcc_rule.specs.Rule.{Holds}
use Rattle.hcc_rule.specs.Views.{is_seated, names, named_by}
use Rattle.hcc_rule.proofs.Basics.Lists.{each_set}
use Rattle.hcc_rule.proofs.Parts.Asides.{law_is}
use Rattle.hcc_rule.proofs.Parts.ViewParts.{total-two, unnamed}
use Rattle.hcc_rule.proofs.Seats.Histories.{each_later, front_all, front_longer, front_more, front_same, known_more, longer_left, longer_right, past_after}
use Rattle.hcc_rule.proofs.Seats.Splits.{each_snoc}

-- What lists have where one member more is put behind them.
get_front : {A : Type 0} (xs ys : List A) (i : ℕ) (x : A) → slice_get xs i ≡ Some x
    → slice_get (xs ++ ys) i ≡ Some x
get_front [] ys i x at = cc
get_front (z ∷ zs) ys zero x at = at
get_front (z ∷ zs) ys (suc i) x at = get_front zs ys i x at

-- Whom the parts of a split name.

-- how often a client is in a list
abbrev listed_in : ℕ → List Other → ℕ
listed_in c os = total (λ (o : Other). when (o.client == c) 1) os

rest_listed : (c : ℕ) (os : List Other) → listed_in c (rest_of os) ≤ listed_in c os
rest_listed c [] = omega arith
rest_listed c (o ∷ os) = omega arith

both_few : (a b : Bool) → when (a && b) 1 ≤ when b 1
both_few true b = omega arith
both_few false true = omega arith
both_few false false = omega arith

-- an event that is no step is none of any client
no_step_of : (done : Done) → IsNoStep done → (c : ℕ) → IsNoStepOf c done
no_step_of done still c steps = let bad : true ≡ false = sym steps ∙ still in absurd cc

module _ {T : Type 0} where
  -- the view alone
  abbrev pub known : Logged T → View T
  known l = l.known

  left_names : (c : ℕ) (v : View T) → names c (left_view v) ≤ names c v
  left_names c v = let fewer = rest_listed c v.others in omega arith

  first_names : (c : ℕ) (tag : Option T) (os : List Other)
      → names c (first_view tag os) ≤ listed_in c os
  first_names c tag [] = omega arith
  first_names c tag (o ∷ os) =
      let few = both_few (is_seated (first_view tag (o ∷ os))) (o.client == c) in omega arith

  right_names : (c : ℕ) (v : View T) → names c (right_view v) ≤ names c v
  right_names c v = let few = first_names c v.tag v.others in omega arith

  -- the seat that two are joined to names whom they named
  joined_names : (c : ℕ) (v w : View T) → is_seated w ≡ true
      → names c (joined_view v w) ≡ names c v + names c w
  joined_names c v w sits =
      let listed = total-append (λ (q : Other). when (q.client == c) 1) v.others
      (as_other w ∷ w.others) in
      let self : when (is_seated w && w.client == c) 1 ≡ when (w.client == c) 1 =
      ap (λ b. when (b && w.client == c) 1) sits in
      omega arith

  either_names : (c : ℕ) (v w : View T) → is_seated w ≡ true → 1 ≤ names c (joined_view v w)
      → (1 ≤ names c v) ⊎ (1 ≤ names c w)
  either_names c v w sits named =
      let sum = joined_names c v w sits in
      dite (dec_le 1 (names c v)) (λ mine. inl mine) (λ no. inr (omega arith))

module _ {T : Type 0} (fits : T → Key → List ℕ → Type 0) (p : Plan T) where
  -- these words and views meet the rule
  abbrev pub Meets : List ℕ → List (maybe.Option (Unit {0})) → List (View T) → Type 0
  Meets words homes views = Holds fits p (record { words = words; homes = homes; views = views })

  -- the view of a seat, without its steps
  pub known_at : (s : table.State (Unit {0}) (Logged T)) (j : ℕ) (l : Logged T)
      → slice_get s.views j ≡ Some l → slice_get (unlogged s).views j ≡ Some l.known
  known_at s j l at = slice_get-map known s.views j ∙ ap (λ o. option_map known o) at

  -- the world has as many clients as the shard
  clients_are : (s : table.State (Unit {0}) (View T)) (r : Holds fits p s)
      → length r.world.clients ≡ p.geometry.clients
  clients_are s r = (law_is fits p s r).sized.client_count ∙ ap (λ x. x.clients) r.setup

  -- all views name as many
  pub named_all : (s : table.State (Unit {0}) (View T)) → Holds fits p s
      → total named_by s.views ≡ p.geometry.clients
  named_all s r = r.seats.all ∙ clients_are s r

  -- a view that keeps the rule names whom the one before it named
  pub names_same : (s : table.State (Unit {0}) (View T)) (r : Holds fits p s) (words : List ℕ)
      (homes : List (maybe.Option (Unit {0}))) (id : ℕ) (v w : View T)
      → slice_get s.views id ≡ Some v → Meets words homes (slice_set s.views id w)
      → (c : ℕ) → names c w ≡ names c v
  names_same s r words homes id v w at after c =
      let change = total-set (names c) s.views id v w at in
      let before = r.seats.once c in
      let now = after.seats.once c in
      let size : when (nat_lt c (length after.world.clients)) 1
      ≡ when (nat_lt c (length r.world.clients)) 1 =
      ap (λ n. when (nat_lt c n) 1) (clients_are _ after ∙ sym (clients_are s r)) in
      omega arith

  -- two seats that stand for clients name two at least
  pub two_named : (s : table.State (Unit {0}) (View T)) (r : Holds fits p s) (i j : ℕ)
      (v u : View T) → i ≢ j → slice_get s.views i ≡ Some v → slice_get s.views j ≡ Some u
      → is_seated v ≡ true → is_seated u ≡ true → 2 ≤ p.geometry.clients
  two_named s r i j v u other at there seated sits =
      let both = total-two named_by s.views i j v u other at there in
      let one : when (is_seated v) 1 ≡ 1 = ap (λ b. when b 1) seated in
      let two : when (is_seated u) 1 ≡ 1 = ap (λ b. when b 1) sits in
      let all = named_all s r in
      omega arith

  -- and so does one that may start another
  pub names_two : (s : table.State (Unit {0}) (View T)) (r : Holds fits p s) (id : ℕ) (v : View T)
      (o : Other) (os : List Other) → slice_get s.views id ≡ Some v → is_seated v ≡ true
      → v.others ≡ o ∷ os → 2 ≤ p.geometry.clients
  names_two s r id v o os at seated another =
      let member = total-member named_by s.views id v at in
      let one : when (is_seated v) 1 ≡ 1 = ap (λ b. when b 1) seated in
      let some : length v.others ≡ suc (length os) = ap length another in
      let all = named_all s r in
      omega arith

  module _ (s : table.State (Unit {0}) (Logged T)) (holds : HoldsLogged fits p s) where
    abbrev clients : ℕ
    clients = p.geometry.clients

    -- A step.
    module _ (id : ℕ) (l w : Logged T) (at : slice_get s.views id ≡ Some l)
        (seated : is_seated l.known ≡ true)
        (same : (c : ℕ) → names c w.known ≡ names c l.known) where
      -- the event of one seat is none of a client that another one names
      not_theirs : (done : Done) → IsStepBy l.known.client done.event → (j : ℕ) (u : Logged T)
          → j ≢ id → slice_get s.views j ≡ Some u → (c : ℕ) → 1 ≤ names c u.known
          → IsNoStepOf c done
      not_theirs done mine j u other there c named steps is =
          let none = unnamed p.tag holds.rule.world.clients holds.rule.books (unlogged s).views id j
          l.known u.known holds.rule.seats (known_at s id l at) (known_at s j u there) seated
          other in
          let by : l.known.client ≡ c = sym mine.1 ∙ is in
          let none_of : names c u.known ≡ 0 = ap (λ n. names n u.known) (sym by) ∙ none in
          absurd (omega arith)

      pub fronts_after : (next : State) (done : Option Done)
          → GoesBy l.known.client holds.rule.world done next
          → w.past ≡ past_after holds.history done l → (j : ℕ) (m : Logged T)
          → slice_get (slice_set s.views id w) j ≡ Some m
          → IsFront clients (with_done holds.history done) m
      fronts_after next None goes past =
          each_set (λ j m. IsFront clients holds.history m) s.views id w
          (front_same clients holds.history l w past (λ c named. rw (← same c) named)
          (λ one sits. seated) (holds.fronts id l at))
          (λ j m other there. holds.fronts j m there)
      fronts_after next (Some done) goes past =
          each_set (λ j m. IsFront clients (holds.history ++ done ∷ []) m) s.views id w
          (front_all clients (holds.history ++ done ∷ []) w past)
          (λ j m other there. front_more clients holds.history m done
          (not_theirs done goes.0 j m other there)
          (λ one sits. let two = two_named (unlogged s) holds.rule j id m.known l.known other
          (known_at s j m there) (known_at s id l at) sits seated in omega arith)
          (holds.fronts j m there))

    -- A start or an end, in a shard of more than one client: a seat hears nothing of it.
    unheard : (done : Done) → IsNoStep done → 2 ≤ p.geometry.clients → (m : Logged T)
        → IsFront clients holds.history m → IsFront clients (holds.history ++ done ∷ []) m
    unheard done still two m f = front_more clients holds.history m done
        (λ c named. no_step_of done still c)
        (λ one sits. omega arith) f

    -- A split.
    pub split_fronts : (id : ℕ) (l : Logged T) (done : Done) → slice_get s.views id ≡ Some l
        → is_seated l.known ≡ true → IsNoStep done → 2 ≤ p.geometry.clients
        → (j : ℕ) (m : Logged T)
        → slice_get (slice_set s.views id (left_logged l) ++ right_logged l ∷ []) j ≡ Some m
        → IsFront clients (holds.history ++ done ∷ []) m
    split_fronts id l done at seated still two =
        let mine = unheard done still two l (holds.fronts id l at) in
        each_snoc (IsFront clients (holds.history ++ done ∷ [])) (slice_set s.views id
        (left_logged l)) (right_logged l)
        (front_same clients _ l (right_logged l) refl
        (λ c named. let few = right_names c l.known in omega arith) (λ one sits. seated) mine)
        (each_set (λ j m. IsFront clients (holds.history ++ done ∷ []) m) s.views id
        (left_logged l)
        (front_same clients _ l (left_logged l) refl
        (λ c named. let few = left_names c l.known in omega arith) (λ one sits. seated) mine)
        (λ j m other there. unheard done still two m (holds.fronts j m there)))

    -- each seat is still there with what it knew
    split_stays : (id : ℕ) (l : Logged T) → slice_get s.views id ≡ Some l
        → (j : ℕ) (m : Logged T) → slice_get s.views j ≡ Some m
        → (k : ℕ) × (n : Logged T)
        × (slice_get (slice_set s.views id (left_logged l) ++ right_logged l ∷ []) k ≡ Some n)
        × (n.past ≡ m.past)
    split_stays id l at j m there = elim (cases_eq j id) [
      | inl here ↦
          let both : Some l ≡ Some m = sym at ∙ (ap (slice_get s.views) (sym here) ∙ there) in
          let is : l ≡ m = cc in (
            id,
            left_logged l,
            get_front (slice_set s.views id (left_logged l)) (right_logged l ∷ []) id
                (left_logged l) (read_here s.views id l (left_logged l) at),
            ap (λ (k : Logged T). k.past) is,
          )
      | inr other ↦ (
        j,
        m,
        get_front (slice_set s.views id (left_logged l)) (right_logged l ∷ []) j m
            (read_other s.views id j (left_logged l) other ∙ there),
        refl,
      )
    ]

    pub split_known : (id : ℕ) (l : Logged T) (done : Done) → slice_get s.views id ≡ Some l
        → IsNoStep done
        → IsKnown (holds.history ++ done ∷ [])
        (slice_set s.views id (left_logged l) ++ right_logged l ∷ [])
    split_known id l done at still = known_more holds.history s.views _ done (split_stays id l at)
        still holds.known

    -- A join.
    module _ (id other : ℕ) (l m : Logged T) (at : slice_get s.views id ≡ Some l)
        (apart : other ≢ id) (there : slice_get s.views other ≡ Some m)
        (seated : is_seated l.known ≡ true) (sits : is_seated m.known ≡ true) where
      abbrev both : Logged T
      both = joined_logged l m

      abbrev after : List (Logged T)
      after = slice_set (slice_set s.views id both) other spent_logged

      two : 2 ≤ p.geometry.clients
      two = two_named (unlogged s) holds.rule other id m.known l.known apart
          (known_at s other m there) (known_at s id l at) sits seated

      both_front : IsFront clients holds.history both
      both_front = front_longer clients holds.history l m both refl
          (λ c named. either_names c l.known m.known sits named)
          (λ one. let more = two in omega arith) (holds.fronts id l at) (holds.fronts other m there)

      spent_front : (history : List Done) → IsFront {T = T} clients history spent_logged
      spent_front history = record {
        later = history;
        is = refl;
        apart = λ c named. absurd (omega arith);
        alone = λ one stands. cc;
      }

      pub join_fronts : (done : Done) → IsNoStep done → (j : ℕ) (o : Logged T)
          → slice_get after j ≡ Some o → IsFront clients (holds.history ++ done ∷ []) o
      join_fronts done still =
          each_set (λ j o. IsFront clients (holds.history ++ done ∷ []) o)
          (slice_set s.views id both) other spent_logged (spent_front (holds.history ++ done ∷ []))
          (λ j o away at_o. each_set (λ j o. IsFront clients (holds.history ++ done ∷ []) o) s.views
          id both (unheard done still two both both_front)
          (λ j o away at_o. unheard done still two o (holds.fronts j o at_o)) j o at_o)

      at_both : slice_get after id ≡ Some both
      at_both = read_other (slice_set s.views id both) other id spent_logged
          (λ same. apart (sym same)) ∙ read_here s.views id l both at

      -- it knows all, where one of the two did
      both_knows : (k : IsKnown holds.history s.views) → length k.seat.past ≤ length both.past
          → IsKnown holds.history after
      both_knows k short =
          let f = both_front in
          record {
            number = id;
            seat = both;
            there = at_both;
            later = f.later;
            is = f.is;
            still = each_later IsNoStep k.seat.past both.past f.later k.later (sym f.is ∙ k.is)
                short k.still;
          }

      known_joined : (k : IsKnown holds.history s.views) → IsKnown holds.history after
      known_joined k = elim (cases_eq k.number id) [
        | inl first ↦
            let same : Some l ≡ Some k.seat =
            sym at ∙ (ap (slice_get s.views) (sym first) ∙ k.there) in
            let is : k.seat ≡ l = let is : l ≡ k.seat = cc in sym is in
            both_knows k (rw is (longer_left l.past m.past))
        | inr away ↦ elim (cases_eq k.number other) [
          | inl second ↦
              let same : Some m ≡ Some k.seat =
              sym there ∙ (ap (slice_get s.views) (sym second) ∙ k.there) in
              let is : k.seat ≡ m = let is : m ≡ k.seat = cc in sym is in
              both_knows k (rw is (longer_right l.past m.past))
          | inr beyond ↦ record {
            number = k.number;
            seat = k.seat;
            there = read_other (slice_set s.views id both) other k.number spent_logged beyond
                ∙ (read_other s.views id k.number both away ∙ k.there);
            later = k.later;
            is = k.is;
            still = k.still;
          }
        ]
      ]

      pub join_known : (done : Done) → IsNoStep done → IsKnown (holds.history ++ done ∷ []) after
      join_known done still = known_more holds.history after after done
          (λ j o at_o. (j, o, at_o, refl)) still (known_joined holds.known)
