-- Two seats are joined: the second one's client ends, and the first one may start it again.
use Rattle.std.proofs.Common.{◌≡◌, ℕ, suc, ◌+◌, ◌≢◌, inl, inr, ◌==◌, ◌&&◌, not, Bool, true, false, nat_lt, List, [], ◌∷◌, ◌++◌, Some, None, Ok, is_some, length, slice_get, slice_set, sym, refl, ap, ◌∙◌, arith, subst}
use Rattle.std.specs.Option.{unwrap_or}
use Rattle.std.specs.List.{list_any}
use Rattle.std.proofs.lemmas.Bool.{eq-eqb, cases_eq}
use Rattle.std.proofs.lemmas.List.{length-set, length-append}
use Rattle.hcc_core.specs.declared.event.Event.TheVariants as events
use Rattle.hcc_core.specs.declared.event.Reply.TheVariants as replies
use Rattle.hcc_core.specs.declared.client.Client.{Client}
use Rattle.hcc_core.specs.declared.client.Owned.TheVariants as owned
use Rattle.hcc_core.specs.declared.slot.Slot.{Slot}
use Rattle.hcc_core.specs.Sums.{when, total}
use Rattle.hcc_core.specs.World.{State, charged_to, occupied_by, standing_of, times, references_of, has_client}
use Rattle.hcc_core.specs.Outcomes.{with_client}
use Rattle.hcc_core.specs.References.{end_of, is_idle, holds_nothing}
use Rattle.hcc_core.specs.Steps.{outcome_of}
use Rattle.hcc_core.specs.Opening.{new_client}
use Rattle.hcc_core.proofs.ListLemmas.{get_at_set, read_here, read_other}
use Rattle.hcc_core.proofs.SumLemmas.{total-set, total-append, total-member}
use Rattle.hcc_core.proofs.Keeps.{follows_lawful}
use Rattle.hcc_core.proofs.Opening.{is_lawful}
use Rattle.hcc_rule.specs.declared.key.Key.{Key}
use Rattle.hcc_rule.specs.declared.rule.Plan.{Plan}
use Rattle.hcc_rule.specs.declared.view.Gone.{Gone}
use Rattle.hcc_rule.specs.declared.view.Other.{Other}
use Rattle.hcc_rule.specs.declared.view.View.{View}
use Rattle.hcc_rule.specs.Views.{is_seated, held, names, named_by, Each}
use Rattle.hcc_rule.specs.Rule.{taken_weigh, book_of, IsDraft, IsHolding, IsNamed, IsSeated, Seats, Stamps, IsModest, Ledgers, Trails, resting, Holds, IsBuildingAs, IsTagged, IsGiven, made_at}
use Rattle.hcc_rule.specs.Acts.{did}
use Rattle.hcc_rule.specs.Passing.{IsIdle, as_other, joined_view, spent_view}
use Rattle.hcc_rule.proofs.Seats.Passes.{Passed, JoinsBy}
use Rattle.hcc_rule.proofs.Basics.Lists.{within, each_set, each_append}
use Rattle.hcc_rule.proofs.Parts.Clients.{held_count, no_client}
use Rattle.hcc_rule.proofs.Parts.ViewParts.{when_few, names_own, unnamed, seated_else, others_else}
use Rattle.hcc_rule.proofs.Parts.WorldParts.{hand_same}
use Rattle.hcc_rule.proofs.References.Looks.{client_fits}
use Rattle.hcc_rule.proofs.Seats.Splits.{total_started}
use Rattle.hcc_rule.proofs.Parts.SlotSteps.{Shard}
use Rattle.hcc_rule.proofs.Parts.Touches.{stamps_are}
use Rattle.hcc_rule.proofs.Parts.Tags.{tagged_carried, tagged_none}

-- no member passes where none of them does
none_passes : {A : Type 0} (p : A → Bool) (xs : List A)
    → ((i : ℕ) (x : A) → slice_get xs i ≡ Some x → p x ≡ false) → list_any p xs ≡ false
none_passes p [] h = refl
none_passes p (x ∷ xs) h = rw (h 0 x refl) (none_passes p xs (λ i y at. h (suc i) y at))

-- the sum over views where two were joined
pub total_joined : {A : Type 0} (f : A → ℕ) (xs : List A) (i j : ℕ) (x y both spent : A)
    → slice_get xs i ≡ Some x → slice_get (slice_set xs i both) j ≡ Some y
    → f both + f spent ≡ f x + f y
    → total f (slice_set (slice_set xs i both) j spent) ≡ total f xs
total_joined f xs i j x y both spent at_i at_j parts =
    let first = total-set f xs i x both at_i in
    let second = total-set f (slice_set xs i both) j y spent at_j in
    omega arith

module _ {T : Type 0} (fits : T → Key → List ℕ → Type 0) (p : Plan T) where
  -- The second seat's client has nothing in hand and holds nothing.
  module _ (s : Shard fits p) (r : Holds fits p s) (id other : ℕ) (v w : View T)
      (at : slice_get s.views id ≡ Some v) (apart : other ≢ id)
      (there : slice_get s.views other ≡ Some w)
      (seated : is_seated v ≡ true) (sits : is_seated w ≡ true) (idle : IsIdle w.work)
      (free : w.records ≡ []) where
    abbrev new : Client
    new = resting w.made w.work.dead

    abbrev both : View T
    both = joined_view v w

    abbrev spent : View T
    spent = spent_view

    abbrev after : State
    after = with_client r.world w.client new

    abbrev views : List (View T)
    views = slice_set (slice_set s.views id both) other spent_view

    first : IsSeated p.tag r.world.clients r.books v
    first = r.seats.each id v at

    second : IsSeated p.tag r.world.clients r.books w
    second = r.seats.each other w there

    was : slice_get r.world.clients w.client ≡ Some w.work
    was = second.work sits

    still_there : slice_get (slice_set s.views id both) other ≡ Some w
    still_there = read_other s.views id other both apart ∙ there

    -- no slot has a reference of that client
    no_references : (k : ℕ) (slot : Slot) → slice_get r.world.slots k ≡ Some slot
        → has_client w.client slot ≡ false
    no_references k slot at_slot =
        let count = held_count p.tag r.world.slots r.world.clients r.books s.views other k w slot
        r.references r.seats there sits at_slot in
        no_client w.client (references_of slot) (count ∙ rw free refl)

    holds_none : holds_nothing r.world.slots w.client ≡ true
    holds_none = ap not (none_passes (has_client w.client) r.world.slots no_references)

    idle_now : is_idle w.work ≡ true
    idle_now = rw idle refl

    left_idle : record w.work { live = false; looked = None } ≡ new
    left_idle = rw idle (ap (λ n. record new_client { stamps = n; dead = w.work.dead })
        (stamps_are fits p s r other w there sits))

    ends : outcome_of r.world (events.End w.client) ≡ Ok (replies.Ok, after)
    unfolding outcome_of end_of
    ends =
        rw (
          client_fits r.world w.client (is_lawful r.world r.lawful)
              (within r.world.clients w.client w.work was),
          was,
          second.live sits,
          idle_now,
          holds_none,
          left_idle,
        ) refl

    -- the client is named by the second view, as its own, and by no other
    own_names : names w.client w ≡ 1
    own_names =
        let own = names_own w sits in
        let member = total-member (names w.client) s.views other w there in
        let once = r.seats.once w.client in
        let few = when_few (nat_lt w.client (length r.world.clients)) in
        omega arith

    not_listed : total (λ (q : Other). when (q.client == w.client) 1) w.others ≡ 0
    not_listed =
        let both_true : (is_seated w && w.client == w.client) ≡ true =
        rw (sits, eq-eqb w.client w.client refl) refl in
        let self : when (is_seated w && w.client == w.client) 1 ≡ 1 =
        ap (λ b. when b 1) both_true in
        let own = own_names in
        omega arith

    not_named : (j : ℕ) (u : View T) → j ≢ other → slice_get s.views j ≡ Some u
        → names w.client u ≡ 0
    not_named j u away at_u = unnamed p.tag r.world.clients r.books s.views other j w u r.seats
        there at_u sits away

    still_named : (os : List Other) → total (λ (q : Other). when (q.client == w.client) 1) os ≡ 0
        → Each (IsNamed r.world.clients r.books) os → Each (IsNamed after.clients r.books) os
    still_named qs none each =
        others_else w.client (IsNamed r.world.clients r.books) (IsNamed after.clients r.books)
        (λ q away h. record {
          there = read_other r.world.clients w.client q.client new away
              ∙ h.there;
          book = h.book;
        }) qs none each

    first_apart : id ≢ other
    first_apart same = apart (sym same)

    both_seated : IsSeated p.tag after.clients r.books both
    both_seated =
        let none = not_named id v first_apart at in
        record {
          tagged = first.tagged;
          work = λ still. read_other r.world.clients w.client v.client new
              (seated_else w.client v seated none) ∙ first.work seated;
          live = first.live;
          book = first.book;
          others = each_append (IsNamed after.clients r.books) v.others (as_other w ∷ w.others)
              (still_named v.others (omega arith) first.others) (
                record {
                  there = read_here r.world.clients w.client w.work new was;
                  book =
                      second.book sits;
                },
                still_named w.others not_listed second.others,
              );
          spent = λ gone. let bad : is_seated v ≡ false = ap is_some gone in cc;
        }

    spent_seated : IsSeated p.tag after.clients r.books spent_view
    spent_seated = record {
      tagged = tt;
      work = λ still. cc;
      live = λ still. cc;
      book = λ still. cc;
      others = tt;
      spent = λ gone. (refl, refl, refl, refl, refl, refl);
    }

    theirs : (j : ℕ) (u : View T) → j ≢ other → slice_get s.views j ≡ Some u
        → IsSeated p.tag after.clients r.books u
    theirs j u away at_u =
        let none = not_named j u away at_u in
        let theirs_was = r.seats.each j u at_u in
        record {
          tagged = theirs_was.tagged;
          work = λ still. read_other r.world.clients w.client u.client new
              (seated_else w.client u still none) ∙ theirs_was.work still;
          live = theirs_was.live;
          book = theirs_was.book;
          others = still_named u.others (omega arith) theirs_was.others;
          spent = theirs_was.spent;
        }

    -- what holds of both new views and of those that stay holds of all
    each_joined : (P : View T → Type 0) → P both → P spent_view
        → ((j : ℕ) (u : View T) → j ≢ other → slice_get s.views j ≡ Some u → P u)
        → (j : ℕ) (u : View T) → slice_get views j ≡ Some u → P u
    each_joined P on_both on_spent stays =
        each_set (λ j u. P u) (slice_set s.views id both) other spent_view on_spent
        (λ j u away at_u. by j u away at_u)
      where
        by : (j : ℕ) (u : View T) → j ≢ other → slice_get (slice_set s.views id both) j ≡ Some u
            → P u
        by j u away at_u = elim (get_at_set s.views id j both u at_u) [
          | inl e ↦ rw e.1 on_both
          | inr old ↦ stays j u away old
        ]

    named_parts : (c : ℕ) → names c both + names c spent ≡ names c v + names c w
    named_parts c =
        let listed = total-append (λ (q : Other). when (q.client == c) 1) v.others
        (as_other w ∷ w.others) in
        let self : when (is_seated w && w.client == c) 1 ≡ when (w.client == c) 1 =
        ap (λ b. when (b && w.client == c) 1) sits in
        omega arith

    count_parts : named_by both + named_by spent ≡ named_by v + named_by w
    count_parts =
        let listed : length (v.others ++ as_other w ∷ w.others)
        ≡ length v.others + length (as_other w ∷ w.others) =
        length-append v.others (as_other w ∷ w.others) in
        let self : when (is_seated w) 1 ≡ 1 = ap (λ b. when b 1) sits in
        omega arith

    seats : Seats p.tag after.clients r.books views
    seats = record {
      each = each_joined (IsSeated p.tag after.clients r.books) both_seated spent_seated theirs;
      once = λ c.
          let same = total_joined (names c) s.views id other v w both spent at still_there
          (named_parts c) in
          let once = r.seats.once c in
          let size : when (nat_lt c (length after.clients)) 1
          ≡ when (nat_lt c (length r.world.clients)) 1 =
          ap (λ n. when (nat_lt c n) 1) (length-set r.world.clients w.client new) in
          omega arith;
      all =
          let same = total_joined named_by s.views id other v w both spent at still_there
          count_parts in
          let all = r.seats.all in
          let size = length-set r.world.clients w.client new in
          omega arith;
    }

    stamps : Stamps fits p.tag p.geometry.room after.slots after.clients r.books views
    stamps = record {
      sized = r.stamps.sized ∙ sym (length-set r.world.clients w.client new);
      counted = each_set (λ c client. client.stamps ≡ length (book_of r.books c)) r.world.clients
          w.client new
          (sym (ap (λ b. length (unwrap_or b [])) (second.book sits)))
          (λ c client away at_c. r.stamps.counted c client at_c);
      right = r.stamps.right;
      left =
          let same = total_joined (λ (u : View T). u.takings) s.views id other v w both spent at
          still_there (omega arith) in
          let paid = r.stamps.left in
          omega arith;
      weighed = λ h.
          let split = total-append (λ (g : Gone). h g.stamp) v.gone w.gone in
          let same = total_joined (λ (u : View T). taken_weigh h u.gone) s.views id other v w both
          spent at still_there (omega arith) in
          let was = r.stamps.weighed h in
          omega arith;
      given = each_joined (IsGiven r.books)
          (record {
            count =
                let split = length-append v.gone w.gone in
                let mine = (r.stamps.given id v at).count in
                let theirs = (r.stamps.given other w there).count in
                omega arith;
            each = each_append (λ (g : Gone). made_at r.books g.stamp ≡ Some g.made) v.gone w.gone
                (r.stamps.given id v at).each (r.stamps.given other w there).each;
          })
          record { count = refl; each = tt }
          (λ j u away at_u. r.stamps.given j u at_u);
    }

    ledgers : Ledgers p.geometry.slots p.geometry.room after s.words
    ledgers = record {
      usage = let same = total_started charged_to r.world.clients w.client w.work new was
          (rw idle refl) in let is = r.ledgers.usage in omega arith;
      occupancy = let same = total_started occupied_by r.world.clients w.client w.work new was
          (rw idle refl) in let is = r.ledgers.occupancy in omega arith;
      standing = let same = total_started standing_of r.world.clients w.client w.work new was
          (rw idle refl) in let is = r.ledgers.standing in omega arith;
      modest = each_set (λ c client. IsModest client) r.world.clients w.client new
          record { asked = omega arith; freed = omega arith; few = omega arith; small = tt }
          (λ c client away at_c. r.ledgers.modest c client at_c);
    }

    trails : Trails p.geometry.slots p.geometry.room after.slots after.clients s.words
    trails = record {
      passed = λ j near.
          let same = total_started (λ (c : Client). times j c.trail) r.world.clients w.client w.work
          new was (rw idle refl) in
          let is = r.trails.passed j near in
          omega arith;
      entries = r.trails.entries;
    }

    -- who builds goes on to, and the second's client builds nothing
    carry : (j : ℕ) (u : View T) → slice_get s.views j ≡ Some u → (slot word : ℕ)
        → IsBuildingAs slot word u
        → (k : ℕ) × (o : View T) × (slice_get views k ≡ Some o) × IsBuildingAs slot word o
    carry j u at_u slot word builds = elim (cases_eq j other) [
      | inl second ↦
          let two : Some w ≡ Some u = sym there ∙ (ap (slice_get s.views) (sym second) ∙ at_u) in
          let is : u ≡ w = cc in
          let owns : u.work.owned ≡ owned.Nothing =
          ap (λ (z : View T). z.work.owned) is ∙ ap (λ (c : Client). c.owned) idle in
          let bad : owned.Nothing ≡ owned.ForBuilding slot = sym owns ∙ builds.0 in cc
      | inr else ↦ elim (cases_eq j id) [
        | inl same ↦
            let two : Some v ≡ Some u = sym at ∙ (ap (slice_get s.views) (sym same) ∙ at_u) in
            let is : u ≡ v = cc in (
              id,
              both,
              read_other (slice_set s.views id both) other id spent (λ e. apart (sym e))
                  ∙ read_here s.views id v both at,
              subst (IsBuildingAs slot word) is builds,
            )
        | inr away ↦ (
          j,
          u,
          read_other (slice_set s.views id both) other j spent else
              ∙ (read_other s.views id j both away ∙ at_u),
          builds,
        )
      ]
    ]

    still_tagged : (u o : View T) → o.work ≡ u.work → o.written ≡ u.written → o.client ≡ u.client
        → o.made ≡ u.made → o.glimpse ≡ u.glimpse
        → IsTagged p.geometry.slots p.geometry.room s.words r.books s.views u
        → IsTagged p.geometry.slots p.geometry.room s.words r.books views o
    still_tagged =
        tagged_carried p.geometry.slots p.geometry.room s.words r.books s.views views carry

    pub join_holds : Holds fits p record { words = s.words; homes = s.homes; views = views }
    join_holds = record {
      world = after;
      books = r.books;
      setup = r.setup;
      lawful = follows_lawful r.world (events.End w.client) (Ok replies.Ok) after r.lawful ends;
      coded = r.coded;
      stored = r.stored;
      drafted = each_joined (IsDraft p.geometry.room s.words)
          (let draft = r.drafted id v at in record { short = draft.short; lies = draft.lies })
          record { short = omega arith; lies = λ k owns. cc }
          (λ j u away at_u. r.drafted j u at_u);
      references = λ k slot at_slot h.
          let gone : held k h w ≡ 0 = rw free refl in
          r.references k slot at_slot h
          ∙ sym (total_joined (held k h) s.views id other v w both spent at still_there
          (omega arith));
      holding = each_joined (IsHolding r.world.slots)
          (let holds = r.holding id v at in record
          { recorded = holds.recorded; once = holds.once; few = holds.few })
          record { recorded = tt; once = λ name. omega arith; few = omega arith }
          (λ j u away at_u. r.holding j u at_u);
      seats = seats;
      stamps = stamps;
      ledgers = ledgers;
      trails = trails;
      turned = r.turned;
      turns = r.turns ∙ hand_same s.views views
          (total_joined (λ (u : View T). u.turns) s.views id other v w both spent at still_there
          (omega arith));
      tags = record {
        apart = r.tags.apart;
        each = each_joined (IsTagged p.geometry.slots p.geometry.room s.words r.books views)
            (still_tagged v both refl refl refl refl refl (r.tags.each id v at))
            (tagged_none p.geometry.slots p.geometry.room s.words r.books views spent refl refl
            refl)
            (λ j u away at_u. still_tagged u u refl refl refl refl refl (r.tags.each j u at_u));
      };
    }

    pub join_passes : Passed fits p r.world (did (events.End w.client) replies.Ok)
        record { words = s.words; homes = s.homes; views = views }
    unfolding join_holds
    join_passes = (join_holds, (refl, ends))

  -- Two seats that are joined keep the rule, and the second one's client ends.
  pub joins : (id other : ℕ) (v w : View T) → is_seated v ≡ true → is_seated w ≡ true
      → IsIdle w.work → w.records ≡ []
      → JoinsBy fits p id v other w (did (events.End w.client) replies.Ok)
  joins id other v w seated sits idle free s r at apart there =
      join_passes s r id other v w at apart there seated sits idle free
