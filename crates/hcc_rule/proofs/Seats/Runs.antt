-- A run of a shard's events, by what holds of every run from the world that the shard began with.
use Rattle.std.proofs.Common.{◌≡◌, ◌≢◌, ◌⊎◌, inl, inr, ℕ, suc, ◌≤◌, true, List, [], ◌∷◌, ◌++◌, map, Option, Some, None, Ok, replicate, length, option_map, slice_get, sym, refl, ap, ◌∙◌, subst, arith, ne_eqb}
use Rattle.std.specs.Prelude.{option_and_then, if◌then◌else◌}
use Rattle.std.proofs.lemmas.Bool.{cases_eq}
use Rattle.std.proofs.lemmas.List.{append-nil}
use Rattle.std.proofs.lemmas.Option.{slice_get-map}
use Rattle.hcc_core.specs.declared.client.Client.{Client}
use Rattle.hcc_core.specs.declared.event.Event.{Event}
use Rattle.hcc_core.specs.declared.event.Event.TheVariants as events
use Rattle.hcc_core.specs.declared.event.Reply.TheVariants as replies
use Rattle.hcc_core.specs.declared.slot.Slot.{Slot}
use Rattle.hcc_core.specs.declared.slot.Stamp.{Stamp}
use Rattle.hcc_core.specs.Lawful.{Lawful, stamps_by}
use Rattle.hcc_core.specs.Opening.{CanOpen, new_client, new_slot, opening_of}
use Rattle.hcc_core.specs.Runs.{FindsOne, KeepsPlaces, after_all, entry_given, entry_held, entry_of, named_on}
use Rattle.hcc_core.specs.Steps.{outcome_of}
use Rattle.hcc_core.specs.Sums.{total, when}
use Rattle.hcc_core.specs.World.{is_named, references_of}
use Rattle.hcc_core.proofs.EveryRun.{Given, Once, all_given, apart_all, keeps_places, lawful_all, once_all}
use Rattle.hcc_core.proofs.HeldNames.{Apart, finds_one}
use Rattle.hcc_core.proofs.ListLemmas.{in_replicate, read_here, read_other, replicate_is}
use Rattle.hcc_core.proofs.Opening.{is_lawful}
use Rattle.hcc_rule.specs.declared.image.ImageEntry.{ImageEntry}
use Rattle.hcc_rule.specs.declared.key.Key.{Key}
use Rattle.hcc_rule.specs.declared.rule.Plan.{Plan}
use Rattle.hcc_rule.specs.declared.view.Logged.{Logged}
use Rattle.hcc_rule.specs.Acts.{IsRun, events_of}
use Rattle.hcc_rule.specs.ImageLimits.{IsImageFor}
use Rattle.hcc_rule.specs.Images.{entries_in, made_of_entry}
use Rattle.hcc_rule.specs.Laws.{LoggedStateOf}
use Rattle.hcc_rule.specs.Logs.{HoldsLogged}
use Rattle.hcc_rule.specs.Opening.{begun_world}
use Rattle.hcc_rule.specs.Rule.{setup_of}
use Rattle.hcc_rule.specs.Runs.{AreShown, first_shows, show_of}
use Rattle.hcc_rule.specs.Seats.{IsPlanned}
use Rattle.hcc_rule.specs.Views.{is_seated}
use Rattle.hcc_rule.specs.Words.{entry_of as entry_made}
use Rattle.hcc_rule.proofs.Images.Fillings.{filled_each, made_length, read_with}
use Rattle.hcc_rule.proofs.Seats.Histories.{run_is}
use Rattle.hcc_rule.proofs.Seats.Openings.{first_lawful, replicate_at}

-- what no member has, a list has none of
total_none : {A : Type 0} (f : A → ℕ) (xs : List A)
    → ((j : ℕ) (x : A) → slice_get xs j ≡ Some x → f x ≡ 0) → total f xs ≡ 0
total_none f [] none = refl
total_none f (x ∷ xs) none =
    let first = none 0 x refl in
    let rest = total_none f xs (λ j y at. none (suc j) y at) in
    omega arith

map_length : {A B : Type 0} (f : A → B) (xs : List A) → length (map f xs) ≡ length xs
map_length f [] = refl
map_length f (x ∷ xs) = ap suc (map_length f xs)

-- The world that a shard begins with.
module _ {T : Type 0} (p : Plan T) where
  abbrev entries : List ImageEntry
  entries = entries_in p.image

  -- no slot has a reference
  bare : (s : ℕ) (x : Slot) → slice_get (begun_world p).slots s ≡ Some x → references_of x ≡ []
  bare = filled_each p.geometry.slots (λ s x. references_of x ≡ []) 0 entries
      (replicate p.geometry.slots new_slot)
      (λ s x at. ap references_of (replicate_is p.geometry.slots s new_slot x at))
      (λ k e at. refl)

  -- so nobody holds a name
  pub begun_apart : Apart (begun_world p)
  begun_apart client name s t e f h k =
      let found = read_with p.geometry.slots (entry_held client name) entries s e refl h in
      let none : entry_held client name found.0 ≡ None =
      ap (entry_held client name) found.1.same in
      let bad : None ≡ Some e = sym none ∙ found.2 in
      absurd (cc)

  pub begun_once : Once (begun_world p)
  begun_once client name =
      let none = total_none (named_on client name) (begun_world p).slots
      (λ s x at. ap (total (λ k. when (is_named client name k) 1)) (bare s x at)) in
      omega arith

  -- what held of every run from it
  pub run_places : (before events : List Event)
      → KeepsPlaces (after_all (begun_world p) before) events
  run_places before events =
      keeps_places events (after_all (begun_world p) before)
      (apart_all before (begun_world p) begun_apart)

  pub run_finds : (events : List Event) → FindsOne (after_all (begun_world p) events)
  run_finds events =
      finds_one (after_all (begun_world p) events) (apart_all events (begun_world p) begun_apart)
      (once_all events (begun_world p) begun_once)

  -- What clients showed before the first event.

  shows_else : (c : ℕ) → c ≢ 0 → first_shows p c ≡ []
  shows_else c other =
      ap (λ b. if b then map show_of entries else []) (ne_eqb c 0 other)

  -- a client beside the first has shown nothing
  none_shown : (c : ℕ) → c ≢ 0 → stamps_by (slice_get (begun_world p).clients c) ≡ 0
  none_shown c other =
      ap stamps_by (read_other (replicate p.geometry.clients new_client) 0 c _ other)
      ∙ by (slice_get (replicate p.geometry.clients new_client) c)
      (in_replicate p.geometry.clients c new_client)
    where
      by : (o : Option Client) → (o ≡ None) ⊎ (o ≡ Some new_client) → stamps_by o ≡ 0
      by o (inl e) = ap stamps_by e
      by o (inr e) = ap stamps_by e

  module _ (some : 1 ≤ p.geometry.clients) where
    -- the first one has shown the entries of the image
    all_shown : stamps_by (slice_get (begun_world p).clients 0) ≡ length entries
    all_shown =
        ap stamps_by (read_here (replicate p.geometry.clients new_client) 0 new_client _
        (replicate_at p.geometry.clients 0 new_client (omega arith)))
        ∙ made_length 0 entries

    begun_given : Given (begun_world p) (first_shows p)
    begun_given = record {
      counts = λ c. elim (cases_eq c 0) [
        | inl first ↦ rw first (map_length show_of entries ∙ sym all_shown)
        | inr other ↦ ap length (shows_else c other) ∙ sym (none_shown c other)
      ];
      entries = λ s e h.
          let found = read_with p.geometry.slots entry_of entries s e refl h in
          let placed = found.1 in
          let stamp : Stamp = record { client = 0; number = placed.number } in
          let is : Some e ≡ Some (entry_made stamp (made_of_entry placed.number placed.entry)) =
          sym found.2 ∙ ap entry_of placed.same in
          let same : e ≡ entry_made stamp (made_of_entry placed.number placed.entry) = cc in
          rw same (ap (option_and_then (entry_given stamp))
          (slice_get-map show_of entries placed.number
          ∙ ap (λ o. option_map show_of o) placed.listed));
    }

    pub run_shown : (events : List Event) → AreShown p events
    run_shown events = (all_given events (begun_world p) (first_shows p) begun_given).entries

    -- with no image, client 0 was started in the opening world
    pub starts_opening : entries_in p.image ≡ []
        → outcome_of (opening_of (setup_of p)) (events.Start 0) ≡ Ok (replies.Ok, begun_world p)
    unfolding outcome_of opening_of
    starts_opening none =
        rw (none, replicate_at p.geometry.clients 0 new_client (omega arith)) refl

module _ {T : Type 0} (fits : T → Key → List ℕ → Type 0) (p : Plan T) where
  can_open : IsPlanned p.geometry p.capacity → CanOpen (setup_of p)
  can_open planned = record {
    some_slot = let some = planned.some_slots in omega arith;
    slots = planned.slots;
    some_client = planned.some_client;
    clients = planned.clients;
    capacity = let low = planned.capacity_low in omega arith;
  }

  -- every run from it is lawful
  pub run_lawful : IsPlanned p.geometry p.capacity
      → IsImageFor fits p.tag p.geometry p.capacity p.strict (entries_in p.image)
      → (events : List Event) → Lawful (after_all (begun_world p) events)
  run_lawful planned image events =
      lawful_all events (begun_world p)
      (is_lawful (begun_world p) (first_lawful fits p (can_open planned) image))

  -- What is shown of a state.
  module _ (s : LoggedStateOf T) (h : HoldsLogged fits p s) where
    pub world_is : h.rule.world ≡ after_all (begun_world p) (events_of h.history)
    world_is = run_is h.history (begun_world p) h.rule.world h.run

    -- the only seat knows all of the history
    pub alone_run : p.geometry.clients ≡ 1 → (j : ℕ) (l : Logged T) → slice_get s.views j ≡ Some l
        → is_seated l.known ≡ true → IsRun (begun_world p) l.past h.rule.world
    alone_run one j l at seated =
        let front = h.fronts j l at in
        let all : h.history ≡ l.past =
        front.is ∙ (ap (λ later. l.past ++ later) (front.alone one seated)
        ∙ append-nil l.past) in
        subst (λ ds. IsRun (begun_world p) ds h.rule.world) all h.run

    pub alone_world : p.geometry.clients ≡ 1 → (j : ℕ) (l : Logged T)
        → slice_get s.views j ≡ Some l → is_seated l.known ≡ true
        → h.rule.world ≡ after_all (begun_world p) (events_of l.past)
    alone_world one j l at seated =
        run_is l.past (begun_world p) h.rule.world (alone_run one j l at seated)
