-- A witness is given, and heard: the rule holds after it, and the history stays.
use Rattle.std.proofs.Common.{◌≡◌, ℕ, ◌+◌, List, [], ◌∷◌, ◌++◌, Some, None, map, slice_get, slice_set, sym, refl, ap, ◌∙◌, subst, arith}
use Rattle.std.proofs.lemmas.List.{map-append, map-set}
use Rattle.atomic_table.specs.Table as table
use Rattle.atomic_table.specs.Table.{Joins, Splits}
use Rattle.hcc_core.specs.Sums.{total}
use Rattle.hcc_core.specs.World.{taken_by_slot}
use Rattle.hcc_core.proofs.ListLemmas.{read_other, set_same}
use Rattle.hcc_core.proofs.SumLemmas.{total-append}
use Rattle.hcc_rule.specs.declared.key.Key.{Key}
use Rattle.hcc_rule.specs.declared.rule.Plan.{Plan}
use Rattle.hcc_rule.specs.declared.view.Done.{Done}
use Rattle.hcc_rule.specs.declared.view.Logged.{Logged}
use Rattle.hcc_rule.specs.declared.view.View.{View}
use Rattle.hcc_rule.specs.Acts.{IsFront, IsRun}
use Rattle.hcc_rule.specs.Logs.{HasHeard, HoldsLogged, unlogged}
use Rattle.hcc_rule.specs.Opening.{begun_world}
use Rattle.hcc_rule.specs.PassedLogs.{given_logged, giver_logged, spent_logged, told_logged, witness_logged}
use Rattle.hcc_rule.specs.Passing.{spent_view}
use Rattle.hcc_rule.specs.Rule.{IsBuildingAs, IsDraft, IsGiven, IsHolding, IsSeated, IsTagged, Holds, Seats, Stamps, slot_weighs, taken_weigh}
use Rattle.hcc_rule.specs.Seats.{moves_of}
use Rattle.hcc_rule.specs.Views.{held, named_by, names}
use Rattle.hcc_rule.proofs.Basics.Lists.{each_set, read_at}
use Rattle.hcc_rule.proofs.Entries.ShowParts.{get_front}
use Rattle.hcc_rule.proofs.Parts.SlotSteps.{Shard}
use Rattle.hcc_rule.proofs.Parts.Tags.{tagged_carried, tagged_none}
use Rattle.hcc_rule.proofs.Parts.WorldParts.{hand_same}
use Rattle.hcc_rule.proofs.Seats.Fronts.{known, known_at}
use Rattle.hcc_rule.proofs.Seats.Histories.{front_same, known_same}
use Rattle.hcc_rule.proofs.Seats.Joins.{total_joined}
use Rattle.hcc_rule.proofs.Seats.Splits.{each_snoc}

module _ {T : Type 0} (fits : T → Key → List ℕ → Type 0) (p : Plan T) where
  -- One view more, that stands for no client.
  module _ (s : Shard fits p) (r : Holds fits p s) where
    abbrev views : List (View T)
    views = s.views ++ spent_view ∷ []

    -- a sum over views to which it adds nothing
    summed : (f : View T → ℕ) → f spent_view ≡ 0 → total f views ≡ total f s.views
    summed f none = let more = total-append f s.views (spent_view ∷ []) in omega arith

    spent_seated : IsSeated p.tag r.world.clients r.books spent_view
    spent_seated = record {
      tagged = tt;
      work = λ sits. cc;
      live = λ sits. cc;
      book = λ sits. cc;
      others = tt;
      spent = λ gone. (refl, refl, refl, refl, refl, refl);
    }

    seats : Seats p.tag r.world.clients r.books views
    seats = record {
      each = each_snoc (IsSeated p.tag r.world.clients r.books) s.views spent_view spent_seated
          r.seats.each;
      once = λ c. summed (names c) refl ∙ r.seats.once c;
      all = summed named_by refl ∙ r.seats.all;
    }

    stamps : Stamps fits p.tag p.geometry.room r.world.slots r.world.clients r.books views
    stamps = record {
      sized = r.stamps.sized;
      counted = r.stamps.counted;
      right = r.stamps.right;
      left = ap (λ n. total taken_by_slot r.world.slots + n)
          (summed (λ (u : View T). u.takings) refl) ∙ r.stamps.left;
      weighed = λ h. ap (λ n. total (slot_weighs h) r.world.slots + n)
          (summed (λ (u : View T). taken_weigh h u.gone) refl) ∙ r.stamps.weighed h;
      given = each_snoc (IsGiven r.books) s.views spent_view record { count = refl; each = tt }
          r.stamps.given;
    }

    -- who builds is still there
    carry : (j : ℕ) (u : View T) → slice_get s.views j ≡ Some u → (slot word : ℕ)
        → IsBuildingAs slot word u
        → (k : ℕ) × (w : View T) × (slice_get views k ≡ Some w) × IsBuildingAs slot word w
    carry j u there slot word builds =
        (j, u, get_front s.views (spent_view ∷ []) j u there, builds)

    with_spent : Holds fits p record { words = s.words; homes = s.homes; views = views }
    with_spent = record {
      world = r.world;
      books = r.books;
      setup = r.setup;
      lawful = r.lawful;
      coded = r.coded;
      stored = r.stored;
      drafted = each_snoc (IsDraft p.geometry.room s.words) s.views spent_view
          record { short = omega arith; lies = λ k owns. cc } r.drafted;
      references = λ k slot there h.
          r.references k slot there h ∙ sym (summed (held k h) refl);
      holding = each_snoc (IsHolding r.world.slots) s.views spent_view
          record { recorded = tt; once = λ name. omega arith; few = omega arith } r.holding;
      seats = seats;
      stamps = stamps;
      ledgers = r.ledgers;
      trails = r.trails;
      turned = r.turned;
      turns = r.turns ∙ hand_same s.views views (summed (λ (u : View T). u.turns) refl);
      tags = record {
        apart = r.tags.apart;
        each = each_snoc (IsTagged p.geometry.slots p.geometry.room s.words r.books views) s.views
            spent_view
            (tagged_none p.geometry.slots p.geometry.room s.words r.books views spent_view refl refl
            refl)
            (λ j u at. tagged_carried p.geometry.slots p.geometry.room s.words r.books s.views views
            carry u u refl refl refl refl refl (r.tags.each j u at));
      };
    }

    -- it shows the same world
    pub spent_added : (after : Holds fits p record {
      words = s.words;
      homes = s.homes;
      views = views;
    }) × (after.world ≡ r.world)
    unfolding with_spent
    spent_added = (with_spent, refl)

  abbrev State : Type 0
  State = table.State (Unit {0}) (Logged T)

  abbrev clients : ℕ
  clients = p.geometry.clients

  -- the rule of these views, of the world that others show
  abbrev Same : (s : State) → HoldsLogged fits p s → List (View T) → Type 0
  Same s holds vs =
      (after : Holds fits p record { words = s.words; homes = s.homes; views = vs })
      × (after.world ≡ holds.rule.world)

  -- a seat that names nobody and knows nothing, whatever it was told
  stranger : (history told : List Done) → IsFront {T = T} clients history (witness_logged told)
  stranger history told = record {
    later = history;
    is = refl;
    apart = λ c named. absurd (omega arith);
    alone = λ one sits. cc;
  }

  -- A witness is there beside all seats, of what the history begins with.
  with_witness : (s : State) (holds : HoldsLogged fits p s) (told : List Done)
      → HasHeard {T = T} holds.history (witness_logged told)
      → HoldsLogged fits p
      (record { words = s.words; homes = s.homes; views = s.views ++ witness_logged told ∷ [] })
  with_witness s holds told heard =
      let witness : Logged T = witness_logged told in
      let views : map known (s.views ++ witness ∷ []) ≡ map known s.views ++ spent_view ∷ [] =
      map-append known s.views (witness ∷ []) in
      let now : Same s holds (map known (s.views ++ witness ∷ [])) =
      subst (Same s holds) (sym views) (spent_added (unlogged s) holds.rule) in
      let k = holds.known in
      record {
        rule = now.0;
        begins = λ none.
            let more = total-append moves_of s.views (witness ∷ []) in holds.begins (omega arith);
        spent = each_snoc (λ l. l.known.tag ≡ None → moves_of l ≡ 0) s.views witness (λ none. refl)
            holds.spent;
        history = holds.history;
        run = subst (IsRun (begun_world p) holds.history) (sym now.1) holds.run;
        trails = holds.trails;
        fronts = each_snoc (IsFront clients holds.history) s.views witness
            (stranger holds.history told) holds.fronts;
        known = record {
          number = k.number;
          seat = k.seat;
          there = get_front s.views (witness ∷ []) k.number k.seat k.there;
          later = k.later;
          is = k.is;
          still = k.still;
        };
        heard = each_snoc (HasHeard holds.history) s.views witness heard holds.heard;
      }

  -- A seat gives a witness of what it knows.
  pub gives : (id : ℕ) (l : Logged T)
      → Splits (HoldsLogged fits p) id l (giver_logged l) (given_logged l)
  gives id l s holds at =
      let here = read_at s.views id l at in
      let front = holds.fronts id l here in
      subst (λ (vs : List (Logged T)). HoldsLogged fits p
      (record { words = s.words; homes = s.homes; views = vs ++ given_logged l ∷ [] }))
      (sym (set_same s.views id l here)) (with_witness s holds l.past (front.later, front.is))

  -- A seat hears a witness, which is spent then.
  pub hears : (id other : ℕ) (l m : Logged T) → m ≡ witness_logged m.heard
      → Joins (HoldsLogged fits p) id l other m (told_logged l m) spent_logged
  hears id other l m is s holds at apart there =
      let both : Logged T = told_logged l m in
      let first : List (Logged T) = slice_set s.views id both in
      let here = read_at s.views id l at in
      let behind = read_at first other m there in
      let before = sym (read_other s.views id other both apart) ∙ behind in
      let one : map known first ≡ map known s.views =
      map-set known s.views id both
      ∙ set_same (map known s.views) id l.known (known_at fits p s id l here) in
      let spent : slice_get (map known s.views) other ≡ Some spent_view =
      known_at fits p s other m before ∙ ap (λ (k : Logged T). Some k.known) is in
      let views : map known (slice_set first other spent_logged) ≡ map known s.views =
      map-set known first other spent_logged
      ∙ (ap (λ vs. slice_set vs other spent_view) one
      ∙ set_same (map known s.views) other spent_view spent) in
      let now : Same s holds (map known (slice_set first other spent_logged)) =
      subst (Same s holds) (sym views) (holds.rule, refl) in
      let unmoved : moves_of m ≡ 0 =
      holds.spent other m before (ap (λ (k : Logged T). k.known.tag) is) in
      record {
        rule = now.0;
        begins = λ none.
            let same = total_joined moves_of s.views id other l m both spent_logged here behind
            (omega arith) in
            holds.begins (sym same ∙ none);
        spent = each_set (λ j o. o.known.tag ≡ None → moves_of o ≡ 0) first other spent_logged
            (λ none. refl)
            (λ j o away. each_set (λ j o. o.known.tag ≡ None → moves_of o ≡ 0) s.views id both
            (holds.spent id l here) (λ j o away at_o. holds.spent j o at_o) j o);
        history = holds.history;
        run = subst (IsRun (begun_world p) holds.history) (sym now.1) holds.run;
        trails = holds.trails;
        fronts = each_set (λ j o. IsFront clients holds.history o) first other spent_logged
            (stranger holds.history [])
            (λ j o away. each_set (λ j o. IsFront clients holds.history o) s.views id both
            (front_same clients holds.history l both refl (λ c named. named) (λ one sits. sits)
            (holds.fronts id l here))
            (λ j o away at_o. holds.fronts j o at_o) j o);
        known = known_same holds.history first other m spent_logged behind
            (sym (ap (λ (k : Logged T). k.past) is))
            (known_same holds.history s.views id l both here refl holds.known);
        heard = each_set (λ j o. HasHeard holds.history o) first other spent_logged
            (holds.history, refl)
            (λ j o away. each_set (λ j o. HasHeard holds.history o) s.views id both
            (holds.heard other m before) (λ j o away at_o. holds.heard j o at_o) j o);
      }
