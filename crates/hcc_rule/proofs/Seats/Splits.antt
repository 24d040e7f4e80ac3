-- A seat is split: the new one stands for a client that was named beside the first one's.
use Rattle.std.proofs.Common.{◌≡◌, ℕ, zero, suc, ◌+◌, ◌≢◌, ◌==◌, ◌&&◌, true, nat_lt, List, [], ◌∷◌, ◌++◌, Some, None, Ok, is_some, length, slice_get, slice_set, sym, refl, ap, ◌∙◌, arith, subst, inl, inr}
use Rattle.std.specs.Option.{unwrap_or}
use Rattle.std.proofs.lemmas.Bool.{eq-eqb, cases_eq}
use Rattle.std.proofs.lemmas.List.{length-set}
use Rattle.hcc_core.specs.declared.event.Event.TheVariants as events
use Rattle.hcc_core.specs.declared.event.Reply.TheVariants as replies
use Rattle.hcc_core.specs.declared.client.Client.{Client}
use Rattle.hcc_core.specs.Sums.{when, total}
use Rattle.hcc_core.specs.World.{State, charged_to, occupied_by, standing_of, times}
use Rattle.hcc_core.specs.Outcomes.{with_client}
use Rattle.hcc_core.specs.Steps.{outcome_of}
use Rattle.hcc_core.proofs.ListLemmas.{read_here, read_other}
use Rattle.hcc_core.proofs.SumLemmas.{total-set, total-append, total-member}
use Rattle.hcc_core.proofs.Keeps.{follows_lawful}
use Rattle.hcc_core.proofs.Opening.{is_lawful}
use Rattle.hcc_rule.specs.declared.key.Key.{Key}
use Rattle.hcc_rule.specs.declared.rule.Plan.{Plan}
use Rattle.hcc_rule.specs.declared.view.Other.{Other}
use Rattle.hcc_rule.specs.declared.view.View.{View}
use Rattle.hcc_rule.specs.Views.{is_seated, held, names, named_by, Each}
use Rattle.hcc_rule.specs.Rule.{taken_weigh, book_of, IsDraft, IsHolding, IsNamed, IsSeated, Seats, Stamps, IsModest, Ledgers, Trails, resting, Holds, IsBuildingAs, IsTagged, IsGiven}
use Rattle.hcc_rule.specs.Opening.{started, fresh_view}
use Rattle.hcc_rule.specs.Acts.{did}
use Rattle.hcc_rule.proofs.Seats.Passes.{Passed, SplitsBy}
use Rattle.hcc_rule.proofs.Basics.Lists.{within, each_set}
use Rattle.hcc_rule.proofs.Parts.ViewParts.{total-two, when_few, when_is, seated_else, others_else}
use Rattle.hcc_rule.proofs.Parts.WorldParts.{given_kept, hand_same}
use Rattle.hcc_rule.proofs.References.Looks.{client_fits}
use Rattle.hcc_rule.proofs.Parts.SlotSteps.{Shard}
use Rattle.hcc_rule.proofs.Parts.Tags.{tagged_carried, tagged_none}
use Rattle.hcc_rule.proofs.Entries.ShowParts.{get_front}

-- what holds of each member, and of one more
pub each_snoc : {A : Type 0} (P : A → Type 0) (xs : List A) (y : A) → P y
    → ((j : ℕ) (x : A) → slice_get xs j ≡ Some x → P x)
    → (j : ℕ) (x : A) → slice_get (xs ++ y ∷ []) j ≡ Some x → P x
each_snoc P [] y mine all zero x at = let same : x ≡ y = cc in rw same mine
each_snoc P [] y mine all (suc j) x at = cc
each_snoc P (z ∷ zs) y mine all zero x at = all 0 x at
each_snoc P (z ∷ zs) y mine all (suc j) x at =
    each_snoc P zs y mine (λ k u there. all (suc k) u there) j x at

-- the sum over views where one was split
pub total_split : {A : Type 0} (f : A → ℕ) (xs : List A) (i : ℕ) (x left right : A)
    → slice_get xs i ≡ Some x → f left + f right ≡ f x
    → total f (slice_set xs i left ++ right ∷ []) ≡ total f xs
total_split f xs i x left right at parts =
    let change = total-set f xs i x left at in
    let both : total f (slice_set xs i left ++ right ∷ [])
    ≡ total f (slice_set xs i left) + (f right + 0) =
    total-append f (slice_set xs i left) (right ∷ []) in
    omega arith

-- a resting client that is started counts for as much
pub total_started : (f : Client → ℕ) (clients : List Client) (c : ℕ) (old new : Client)
    → slice_get clients c ≡ Some old → f new ≡ f old
    → total f (slice_set clients c new) ≡ total f clients
total_started f clients c old new at same = let change =
    total-set f clients c old new at in omega arith

module _ {T : Type 0} (fits : T → Key → List ℕ → Type 0) (p : Plan T) where
  -- The split of a seat whose view names another client.
  module _ (s : Shard fits p) (r : Holds fits p s) (id : ℕ) (v : View T) (tag : T) (o : Other)
      (os : List Other)
      (at : slice_get s.views id ≡ Some v) (tagged : v.tag ≡ Some tag)
      (named : v.others ≡ o ∷ os) where
    abbrev new : Client
    new = started o.made o.dead

    abbrev left : View T
    left = record v { others = os }

    abbrev right : View T
    right = fresh_view v.tag o []

    abbrev after : State
    after = with_client r.world o.client new

    abbrev views : List (View T)
    views = slice_set s.views id left ++ right ∷ []

    old : IsSeated p.tag r.world.clients r.books v
    old = r.seats.each id v at

    others_named : Each (IsNamed r.world.clients r.books) (o ∷ os)
    others_named = rw named at old.others

    seated : is_seated v ≡ true
    seated = ap is_some tagged

    was : slice_get r.world.clients o.client ≡ Some (resting o.made o.dead)
    was = others_named.0.there

    starts : outcome_of r.world (events.Start o.client) ≡ Ok (replies.Ok, after)
    unfolding outcome_of
    starts = rw (
      client_fits r.world o.client (is_lawful r.world r.lawful)
          (within r.world.clients o.client (resting o.made o.dead) was),
      was,
    ) refl

    listed : (c : ℕ) → total (λ (q : Other). when (q.client == c) 1) v.others
        ≡ when (o.client == c) 1 + total (λ (q : Other). when (q.client == c) 1) os
    listed c = ap (total (λ (q : Other). when (q.client == c) 1)) named

    -- the client is named by the view that is split, once, and by no other
    own_names : names o.client v ≡ 1
    own_names =
        let one = when_is o.client o.client refl in
        let list = listed o.client in
        let member = total-member (names o.client) s.views id v at in
        let once = r.seats.once o.client in
        let few = when_few (nat_lt o.client (length r.world.clients)) in
        omega arith

    other_names : (j : ℕ) (u : View T) → j ≢ id → slice_get s.views j ≡ Some u
        → names o.client u ≡ 0
    other_names j u other there =
        let both = total-two (names o.client) s.views j id u v other there at in
        let own = own_names in
        let once = r.seats.once o.client in
        let few = when_few (nat_lt o.client (length r.world.clients)) in
        omega arith

    not_own : v.client ≢ o.client
    not_own same =
        let one = when_is o.client o.client refl in
        let both : (is_seated v && v.client == o.client) ≡ true =
        rw (seated, eq-eqb v.client o.client same) refl in
        let self : when (is_seated v && v.client == o.client) 1 ≡ 1 = ap (λ b. when b 1) both in
        let list = listed o.client in
        let own = own_names in
        absurd (omega arith)

    not_rest : total (λ (q : Other). when (q.client == o.client) 1) os ≡ 0
    not_rest =
        let one = when_is o.client o.client refl in
        let list = listed o.client in
        let own = own_names in
        omega arith

    still_named : (os : List Other) → total (λ (q : Other). when (q.client == o.client) 1) os ≡ 0
        → Each (IsNamed r.world.clients r.books) os → Each (IsNamed after.clients r.books) os
    still_named qs none each =
        others_else o.client (IsNamed r.world.clients r.books) (IsNamed after.clients r.books)
        (λ q other h. record {
          there = read_other r.world.clients o.client q.client new other
              ∙ h.there;
          book = h.book;
        }) qs none each

    left_seated : IsSeated p.tag after.clients r.books left
    left_seated = record {
      tagged = old.tagged;
      work = λ sits. read_other r.world.clients o.client v.client new not_own ∙ old.work sits;
      live = old.live;
      book = old.book;
      others = still_named os not_rest others_named.1;
      spent = λ none. let bad : Some tag ≡ None = sym tagged ∙ none in cc;
    }

    right_seated : IsSeated p.tag after.clients r.books right
    right_seated = record {
      tagged = old.tagged;
      work = λ sits. read_here r.world.clients o.client (resting o.made o.dead) new was;
      live = λ sits. refl;
      book = λ sits. others_named.0.book;
      others = tt;
      spent = λ none. let bad : Some tag ≡ None = sym tagged ∙ none in cc;
    }

    theirs : (j : ℕ) (u : View T) → j ≢ id → slice_get s.views j ≡ Some u
        → IsSeated p.tag after.clients r.books u
    theirs j u other there =
        let none = other_names j u other there in
        let theirs_was = r.seats.each j u there in
        record {
          tagged = theirs_was.tagged;
          work = λ sits. read_other r.world.clients o.client u.client new
              (seated_else o.client u sits none) ∙ theirs_was.work sits;
          live = theirs_was.live;
          book = theirs_was.book;
          others = still_named u.others (omega arith) theirs_was.others;
          spent = theirs_was.spent;
        }

    -- what a sum over the named gives for both parts
    named_parts : (c : ℕ) → names c left + names c right ≡ names c v
    named_parts c =
        let sits : when (is_seated right && o.client == c) 1 ≡ when (o.client == c) 1 =
        ap (λ b. when (b && o.client == c) 1) seated in
        let list = listed c in
        omega arith

    seats : Seats p.tag after.clients r.books views
    seats = record {
      each = each_snoc (IsSeated p.tag after.clients r.books) (slice_set s.views id left) right
          right_seated
          (each_set (λ j u. IsSeated p.tag after.clients r.books u) s.views id left left_seated
          theirs);
      once = λ c.
          let same = total_split (names c) s.views id v left right at (named_parts c) in
          let once = r.seats.once c in
          let size : when (nat_lt c (length after.clients)) 1
          ≡ when (nat_lt c (length r.world.clients)) 1 =
          ap (λ n. when (nat_lt c n) 1) (length-set r.world.clients o.client new) in
          omega arith;
      all =
          let listed : length v.others ≡ suc (length os) = ap length named in
          let sits : when (is_seated v) 1 ≡ 1 = ap (λ b. when b 1) seated in
          let sits_too : when (is_seated right) 1 ≡ 1 = ap (λ b. when b 1) seated in
          let same = total_split named_by s.views id v left right at (omega arith) in
          let all = r.seats.all in
          let size = length-set r.world.clients o.client new in
          omega arith;
    }

    stamps : Stamps fits p.tag p.geometry.room after.slots after.clients r.books views
    stamps = record {
      sized = r.stamps.sized ∙ sym (length-set r.world.clients o.client new);
      counted = each_set (λ c client. client.stamps ≡ length (book_of r.books c)) r.world.clients
          o.client new
          (sym (ap (λ b. length (unwrap_or b [])) others_named.0.book))
          (λ c client other there. r.stamps.counted c client there);
      right = r.stamps.right;
      left =
          let same = total_split (λ (u : View T). u.takings) s.views id v left right at
          (omega arith) in
          let paid = r.stamps.left in
          omega arith;
      weighed = λ h.
          let same = total_split (λ (u : View T). taken_weigh h u.gone) s.views id v left right at
          (omega arith) in
          let was = r.stamps.weighed h in
          omega arith;
      given = each_snoc (IsGiven r.books) (slice_set s.views id left) right
          record { count = refl; each = tt }
          (each_set (λ j u. IsGiven r.books u) s.views id left
          (given_kept r.books r.books v left (λ stamp made listed. listed) refl refl
          (r.stamps.given id v at))
          (λ j u other there. r.stamps.given j u there));
    }

    ledgers : Ledgers p.geometry.slots p.geometry.room after s.words
    ledgers = record {
      usage = let same = total_started charged_to r.world.clients o.client (resting o.made o.dead)
          new was refl in let is = r.ledgers.usage in omega arith;
      occupancy = let same = total_started occupied_by r.world.clients o.client
          (resting o.made o.dead) new was refl in let is = r.ledgers.occupancy in omega arith;
      standing = let same = total_started standing_of r.world.clients o.client
          (resting o.made o.dead) new was refl in let is = r.ledgers.standing in omega arith;
      modest = each_set (λ c client. IsModest client) r.world.clients o.client new
          record { asked = omega arith; freed = omega arith; few = omega arith; small = tt }
          (λ c client other there. r.ledgers.modest c client there);
    }

    trails : Trails p.geometry.slots p.geometry.room after.slots after.clients s.words
    trails = record {
      passed = λ j near.
          let same = total_started (λ (c : Client). times j c.trail) r.world.clients o.client
          (resting o.made o.dead) new was refl in
          let is = r.trails.passed j near in
          omega arith;
      entries = r.trails.entries;
    }

    -- who builds goes on to
    carry : (j : ℕ) (u : View T) → slice_get s.views j ≡ Some u → (slot word : ℕ)
        → IsBuildingAs slot word u
        → (k : ℕ) × (w : View T) × (slice_get views k ≡ Some w) × IsBuildingAs slot word w
    carry j u there slot word builds = elim (cases_eq j id) [
      | inl same ↦
          let both : Some v ≡ Some u = sym at ∙ (ap (slice_get s.views) (sym same) ∙ there) in
          let is : u ≡ v = cc in (
            id,
            left,
            get_front (slice_set s.views id left) (right ∷ []) id left
                (read_here s.views id v left at),
            subst (IsBuildingAs slot word) is builds,
          )
      | inr other ↦ (
        j,
        u,
        get_front (slice_set s.views id left) (right ∷ []) j u
            (read_other s.views id j left other ∙ there),
        builds,
      )
    ]

    still_tagged : (u w : View T) → w.work ≡ u.work → w.written ≡ u.written → w.client ≡ u.client
        → w.made ≡ u.made → w.glimpse ≡ u.glimpse
        → IsTagged p.geometry.slots p.geometry.room s.words r.books s.views u
        → IsTagged p.geometry.slots p.geometry.room s.words r.books views w
    still_tagged =
        tagged_carried p.geometry.slots p.geometry.room s.words r.books s.views views carry

    pub split_holds : Holds fits p record { words = s.words; homes = s.homes; views = views }
    split_holds = record {
      world = after;
      books = r.books;
      setup = r.setup;
      lawful = follows_lawful r.world (events.Start o.client) (Ok replies.Ok) after r.lawful starts;
      coded = r.coded;
      stored = r.stored;
      drafted = each_snoc (IsDraft p.geometry.room s.words) (slice_set s.views id left) right
          record { short = omega arith; lies = λ k owns. cc }
          (each_set (λ j u. IsDraft p.geometry.room s.words u) s.views id left
          (let draft = r.drafted id v at in record { short = draft.short; lies = draft.lies })
          (λ j u other there. r.drafted j u there));
      references = λ k slot there h.
          r.references k slot there h ∙ sym
          (total_split (held k h) s.views id v left right at (omega arith));
      holding = each_snoc (IsHolding r.world.slots) (slice_set s.views id left) right
          record { recorded = tt; once = λ name. omega arith; few = omega arith }
          (each_set (λ j u. IsHolding r.world.slots u) s.views id left
          (let holds = r.holding id v at in record
          { recorded = holds.recorded; once = holds.once; few = holds.few })
          (λ j u other there. r.holding j u there));
      seats = seats;
      stamps = stamps;
      ledgers = ledgers;
      trails = trails;
      turned = r.turned;
      turns = r.turns ∙ hand_same s.views views
          (total_split (λ (u : View T). u.turns) s.views id v left right at (omega arith));
      tags = record {
        apart = r.tags.apart;
        each = each_snoc (IsTagged p.geometry.slots p.geometry.room s.words r.books views)
            (slice_set s.views id left) right
            (tagged_none p.geometry.slots p.geometry.room s.words r.books views right refl refl
            refl)
            (each_set (λ j u. IsTagged p.geometry.slots p.geometry.room s.words r.books views u)
            s.views id left (still_tagged v left refl refl refl refl refl (r.tags.each id v at))
            (λ j u other there. still_tagged u u refl refl refl refl refl (r.tags.each j u there)));
      };
    }

    pub split_passes : Passed fits p r.world (did (events.Start o.client) replies.Ok)
        record { words = s.words; homes = s.homes; views = views }
    unfolding split_holds
    split_passes = (split_holds, (refl, starts))

  -- A seat that is split keeps the rule, and its first other client starts.
  pub splits : (id : ℕ) (v : View T) (tag : T) (o : Other) (os : List Other)
      → v.tag ≡ Some tag → v.others ≡ o ∷ os
      → SplitsBy fits p id v (did (events.Start o.client) replies.Ok)
  splits id v tag o os tagged named s r at =
      rw named (split_passes s r id v tag o os at tagged named)
