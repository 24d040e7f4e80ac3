-- What a release leaves of what a shard of one client shows.
use Rattle.std.proofs.Common.{◌&&◌, ◌≡◌, ◌≢◌, ℕ, Bool, true, false, Option, Some, None, Ok, slice_get, sym, refl, ap, ◌∙◌}
use Rattle.std.specs.Prelude.{IfNone, IfSome, option_and_then}
use Rattle.hcc_core.specs.declared.client.Client.{Client}
use Rattle.hcc_core.specs.declared.client.Owned.TheVariants as owned
use Rattle.hcc_core.specs.declared.event.Event.TheVariants as events
use Rattle.hcc_core.specs.declared.event.Reply.TheVariants as replies
use Rattle.hcc_core.specs.declared.slot.Slot.{Slot}
use Rattle.hcc_core.specs.declared.slot.Slot.TheVariants as slots
use Rattle.hcc_core.specs.Entries.{client_freeing, free_of, may_free}
use Rattle.hcc_core.specs.Outcomes.{allow, live_at, slot_at, with_both}
use Rattle.hcc_core.specs.Steps.{outcome_of}
use Rattle.hcc_core.specs.World.{State}
use Rattle.hcc_core.proofs.Keeps.{found_ok, live_ok}
use Rattle.hcc_core.proofs.ListLemmas.{read_here, read_other}
use Rattle.hcc_rule.specs.declared.table.RuleTable.{RuleTable}
use Rattle.hcc_rule.specs.Callers.{IsEvent, clients_of, world_at}
use Rattle.hcc_rule.specs.Seats.{SeatOf, view}
use Rattle.std.proofs.Common.{option_map}
use Rattle.hcc_table.specs.Freed.{IsLeftBy, TakesByWhereDue, free_event, is_due}
use Rattle.hcc_table.specs.Seeking.{Empties}
use Rattle.hcc_table.specs.Standing.{ShowsSame, entry_shown, shown_at}
use Rattle.hcc_table.specs.Still.{GoesOnStill, ReleasesBy, ShowsBut, is_still}
use Rattle.hcc_table.proofs.Alone.{event_alone}
use Rattle.hcc_table.proofs.Seeking.{goes_event, goes_none, goes_then}
use Rattle.hcc_table.proofs.Shown.{bound, ruled, same_outcome}
use Rattle.hcc_table.proofs.Still.{leaves_shown, still_alone}
use Rattle.hcc_table.proofs.Unshown.{KeepsOwned, empty_tells, goes_keep, owned_at, unpass_after}

-- An entry was taken: its slot is the client's, and each other one shows what it showed.
frees_tell : (w next : State) (client slot charge : ℕ) (name : Option ℕ)
    → outcome_of w (events.Free client slot name) ≡ Ok (replies.Freed charge, next)
    → ((s : ℕ) → s ≢ slot → shown_at next s ≡ shown_at w s)
    × (slice_get next.slots slot ≡ Some (slots.Building client 0))
    × (owned_at next client ≡ Some (owned.ForFreeing slot))
unfolding free_of
frees_tell w next client slot charge name is =
    let first = bound (slot_at w slot) _ _ (ruled w (events.Free client slot name) _ is) in
    let second = bound (live_at w client) _ _ first.2 in
    let third = bound (allow (may_free client second.0 first.0 name)) _ _ second.2 in
    by first.0 second.0 (found_ok _ _ first.0 first.1) (live_ok w client second.0 second.1)
    (ap (λ z. z.1) (same_outcome _ _ third.2))
  where
    by : (seen : Slot) (found : Client) → slice_get w.slots slot ≡ Some seen
        → slice_get w.clients client ≡ Some found
        → with_both w slot (slots.Building client 0) client (client_freeing client slot seen found)
        ≡ next
        → ((s : ℕ) → s ≢ slot → shown_at next s ≡ shown_at w s)
        × (slice_get next.slots slot ≡ Some (slots.Building client 0))
        × (owned_at next client ≡ Some (owned.ForFreeing slot))
    by seen found at live left = (
      λ s other. ap (λ z. shown_at z s) (sym left)
          ∙ ap (option_and_then entry_shown)
          (read_other w.slots slot s (slots.Building client 0) other),
      ap (λ (z : State). slice_get z.slots slot) (sym left)
          ∙ read_here w.slots slot seen (slots.Building client 0) at,
      ap (λ z. owned_at z client) (sym left)
          ∙ ap (option_map (λ (c : Client). c.owned))
          (read_here w.clients client found (client_freeing client slot seen found) live),
    )

-- References were given back, as uses or not.
pub gives_still : {T A : Type 0} (table : RuleTable T A) (used : Bool)
    (slot weight name left : ℕ) (a b : SeatOf T) → IsLeftBy table slot weight name used left a b
    → GoesOnStill table a b
gives_still table true slot weight name left a b h = goes_event table is_still _ a b h.2 refl
gives_still table false slot weight name left a b h = goes_event table is_still _ a b h.2 refl

-- A release that freed nothing.
pub unfreed_still : {T A : Type 0} (table : RuleTable T A) (slot name : ℕ)
    (room used erase : Bool) (a b : SeatOf T) → ReleasesBy table slot name room used erase None a b
    → GoesOnStill table a b
unfreed_still table slot name room used erase a b h =
    goes_then table is_still a _ b (gives_still table used slot 1 name h.left a h.between h.gives)
    (by (room && is_due erase h.left) h.takes)
  where
    by : (due : Bool) → TakesByWhereDue table slot h.left None due None h.between b
        → GoesOnStill table h.between b
    by false takes = goes_none table is_still h.between b (takes.1 refl)
    by true takes =
        let lost = (takes.0 refl).lost in
        goes_event table is_still _ h.between b lost.2 refl

module _ {T A : Type 0} (table : RuleTable T A) (one : clients_of table ≡ 1) where
  -- Calls that make and take no entry, and show and hide none.
  pub still_shows : (a b : SeatOf T) → GoesOnStill table a b
      → ShowsSame (world_at table a) (world_at table b)
  still_shows = still_alone leaves_shown one

  -- An entry was taken, and its slot freed.
  freed_shows : {slot charge : ℕ} {name : Option ℕ} (a : SeatOf T) {took : SeatOf T} (b : SeatOf T)
      → IsEvent table (free_event slot name charge (view a)) a took
      → Empties table (view a).client took b
      → ShowsBut slot (Some charge) (world_at table a) (world_at table b)
  freed_shows {slot} {charge} {name} a {took} b event empties = record {
    others = λ s other. rest s ∙ told.0 s other;
    kept = tt;
    gone = rest slot ∙ ap (option_and_then entry_shown) told.1;
  }
    where
      mid : SeatOf T
      mid = empties.0

      told : ((s : ℕ) → s ≢ slot → shown_at (world_at table took) s ≡ shown_at (world_at table a) s)
          × (slice_get (world_at table took).slots slot
          ≡ Some (slots.Building (view a).client 0))
          × (owned_at (world_at table took) (view a).client ≡ Some (owned.ForFreeing slot))
      told =
          frees_tell (world_at table a) (world_at table took) (view a).client slot charge name
          (event_alone table one _ a took event)

      kept : KeepsOwned (world_at table took) (world_at table mid)
      kept = goes_keep unpass_after one empties.1

      rest : (s : ℕ) → shown_at (world_at table b) s ≡ shown_at (world_at table took) s
      rest s =
          empty_tells (world_at table mid) (world_at table b) (view a).client slot (view a).client 0
          (event_alone table one _ mid b empties.2) (ap (λ xs. slice_get xs slot) kept.0 ∙ told.1)
          (kept.1 (view a).client ∙ told.2) s
          ∙ ap (λ xs. option_and_then entry_shown (slice_get xs s)) kept.0

  -- To take an entry was tried where it was due.
  pub takes_show : {slot word : ℕ} {name : Option ℕ} (due : Bool) (freed : Option ℕ) {a b : SeatOf
      T} → TakesByWhereDue table slot word name due freed a b
      → IfSome freed (λ charge. due ≡ true)
      → ShowsBut slot freed (world_at table a) (world_at table b)
  takes_show false (Some charge) h won = cc
  takes_show {slot} false None h won =
      let same = λ (s : ℕ). ap (λ z. shown_at (world_at table z) s) (h.1 refl) in
      record { others = λ s other. same s; kept = same slot; gone = tt }
  takes_show {slot} true None {a} {b} h won =
      let lost = (h.0 refl).lost in
      let same = still_shows a b (goes_event table is_still _ a b lost.2 refl) in
      record { others = λ s other. same s; kept = same slot; gone = tt }
  takes_show {slot} {word} {name} true (Some charge) {a} {b} h won =
      let free = (h.0 refl).won in freed_shows a b free.1 free.2

  -- A release.
  pub releases_show : (slot name : ℕ) (room used erase : Bool) (freed : Option ℕ)
      (a b : SeatOf T) → ReleasesBy table slot name room used erase freed a b
      → ShowsBut slot freed (world_at table a) (world_at table b)
  releases_show slot name room used erase freed a b h = record {
    others = λ s other. then.others s other ∙ same s;
    kept = by freed then.kept;
    gone = then.gone;
  }
    where
      same : ShowsSame (world_at table a) (world_at table h.between)
      same = still_shows a h.between (gives_still table used slot 1 name h.left a h.between h.gives)

      then : ShowsBut slot freed (world_at table h.between) (world_at table b)
      then = takes_show _ freed h.takes h.due

      by : (o : Option ℕ)
          → IfNone o (shown_at (world_at table b) slot ≡ shown_at (world_at table h.between) slot)
          → IfNone o (shown_at (world_at table b) slot ≡ shown_at (world_at table a) slot)
      by None is = is ∙ same slot
      by (Some charge) is = tt
