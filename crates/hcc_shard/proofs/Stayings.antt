-- What calls leave of what a shard shows.
use Rattle.std.proofs.Common.{◌≡◌, ℕ, ◌+◌, ◌<◌, List, [], ◌∷◌, Bool, false, Option, Some, None, Result, Ok, inl, inr, is_some, refl, sym, subst, ap, ◌∙◌, arith}
use Rattle.std.proofs.lemmas.Bool.{cases_eq}
use Rattle.hcc_rule.specs.declared.geometry.Geometry.{Geometry}
use Rattle.hcc_rule.specs.declared.image.ImageEntry.{ImageEntry}
use Rattle.hcc_rule.specs.declared.steps.shows.Draft.{Draft}
use Rattle.hcc_rule.specs.declared.key.Key.{Key}
use Rattle.hcc_rule.specs.declared.table.RuleTable.{RuleTable}
use Rattle.hcc_rule.specs.Acts.{past}
use Rattle.hcc_rule.specs.Beginnings.{AreSeatsAt, AreSeatsAtWith}
use Rattle.hcc_rule.specs.Callers.{capacity_of, clients_of, geometry_of, is_strict, plan_of, slots_of, world_at}
use Rattle.hcc_rule.specs.ImageLimits.{IsImageFor}
use Rattle.hcc_rule.specs.Images.{entries_in}
use Rattle.hcc_rule.specs.Seats.{SeatOf}
use Rattle.hcc_rule.proofs.Probes.ProbeLaws.{probe_inside, some_slots}
use Rattle.hcc_table.specs.declared.inserting.Insertion.TheVariants.{Placed}
use Rattle.hcc_table.specs.declared.pins.Pin.{Pin}
use Rattle.hcc_table.specs.Standing.{shown_at}
use Rattle.hcc_table.specs.Still.{BeganWithin, ReleasesBy, is_still}
use Rattle.hcc_table.proofs.HidesAlone.{settled_keeps}
use Rattle.hcc_table.proofs.InsertsAlone.{inserts_shown}
use Rattle.hcc_table.proofs.Releases.{releases_show, still_shows, unfreed_still}
use Rattle.hcc_table.proofs.Seeking.{goes_then}
use Rattle.hcc_table.proofs.Still.{settled_still}
use Rattle.hcc_charge.specs.declared.reserving.Refused.{Refused}
use Rattle.hcc_shard.specs.declared.inserting.Pinned.{Pinned}
use Rattle.hcc_shard.specs.declared.inserting.Pinned.TheVariants as pinned
use Rattle.hcc_shard.specs.declared.seat.ShardSeat.{ShardSeat}
use Rattle.hcc_shard.specs.declared.shard.Shard.{Shard}
use Rattle.hcc_shard.specs.Reserving.{TriesEach}
use Rattle.hcc_shard.specs.Seated.{AreNumbered}
use Rattle.hcc_shard.specs.Stays.{KnowNoEvent, ReleasesAt, ShowsIn, StaysAt}

-- An entry that was placed is shown, where there is one client.
pub placed_shows : {T A : Type 0} (fits : T → Key → List ℕ → Type 0) (shard : Shard T A)
    (draft : Draft) → clients_of shard.table ≡ 1 → (slot : ℕ) (old new : ShardSeat T)
    → TriesEach fits shard draft (Placed slot) old new → ShowsIn shard draft.key slot new
placed_shows fits shard draft one slot old new h =
    let shown = inserts_shown shard.table one draft.key fits draft.serial draft.countdown old.effort
    new.effort old.seat new.seat (Placed slot) h.inserts in
    record {
      within =
          subst (λ s. s < slots_of shard.table) (sym shown.probe)
          (probe_inside (slots_of shard.table) draft.key shown.i
          (some_slots (slots_of shard.table) shard.table.limits.power));
      shows = shown.shows;
    }

-- Two such answers are of one pin.
pub same_pin : (p q : Pin)
    → ◌≡◌ {A = Result Pinned Refused} (Ok (pinned.Placed p)) (Ok (pinned.Placed q)) → p ≡ q
same_pin p q same = cc

-- A table with no image began within its limits.
pub began_new : {T A : Type 0} (fits : T → Key → List ℕ → Type 0) (table : RuleTable T A)
    → entries_in (plan_of table).image ≡ [] → BeganWithin table fits
began_new fits table none =
    subst (IsImageFor fits (plan_of table).tag (plan_of table).geometry (plan_of table).capacity
    (plan_of table).strict) (sym none)
    (record { rising = tt; each = tt; few = omega arith; within = λ strict. omega arith })

-- New seats know of no event.
pub know_none : {T A : Type 0} (table : RuleTable T A) (client first : ℕ) (seats : List (SeatOf T))
    (named : List (ShardSeat T)) → AreSeatsAt table client seats → AreNumbered first seats named
    → KnowNoEvent named
know_none table client first [] [] new numbered = tt
know_none table client first [] (n ∷ ns) new numbered = absurd numbered
know_none table client first (s ∷ ss) [] new numbered = absurd numbered
know_none table client first (s ∷ ss) (n ∷ ns) new numbered = (
  ap past numbered.0.seat_is ∙ new.0.no_past,
  know_none table (client + 1) (first + 1) ss ns new.1 numbered.1,
)

-- So do those of a shard that begins with entries.
pub know_begun : {T A : Type 0} (table : RuleTable T A) (es : List ImageEntry)
    (seats : List (SeatOf T)) (named : List (ShardSeat T)) → AreSeatsAtWith table es seats
    → AreNumbered 0 seats named → KnowNoEvent named
know_begun table es [] [] new numbered = tt
know_begun table es [] (n ∷ ns) new numbered = absurd numbered
know_begun table es (s ∷ ss) [] new numbered = absurd numbered
know_begun table es (s ∷ ss) (n ∷ ns) new numbered = (
  ap past numbered.0.seat_is ∙ new.0.no_past,
  know_none table 1 1 ss ns new.1 numbered.1,
)

-- Entries that a table takes keep its limits.
pub began_with : {T A : Type 0} (fits : T → Key → List ℕ → Type 0) (table : RuleTable T A)
    (tag : T) (geometry : Geometry) (capacity : ℕ) (strict : Bool) (es : List ImageEntry)
    → IsImageFor fits tag geometry capacity strict es → (plan_of table).tag ≡ tag
    → geometry_of table ≡ geometry → capacity_of table ≡ capacity → is_strict table ≡ strict
    → entries_in (plan_of table).image ≡ es → BeganWithin table fits
began_with fits table tag geometry capacity strict es within tags sizes capacities stricts image =
    rw (
      tags,
      table.planned.0 ∙ sizes,
      table.planned.1 ∙ capacities,
      table.planned.2 ∙ stricts,
      image,
    ) within

-- What a release leaves.
module _ {T A : Type 0} (shard : Shard T A) (slot name : ℕ) (room used erase freed : Bool)
    (old new : ShardSeat T) (h : ReleasesAt shard slot name room used erase freed old new) where
  -- where it freed nothing, all that is shown,
  pub release_stays : freed ≡ false → StaysAt shard old new
  release_stays none =
      goes_then shard.table is_still old.seat h.mid new.seat
      (unfreed_still shard.table slot name room used erase old.seat h.mid
      (subst (λ o. ReleasesBy shard.table slot name room used erase o old.seat h.mid)
      (no_charge h.charge (sym h.freed_is ∙ none)) h.releases))
      (settled_still shard.table h.mid new.seat h.settles)
    where
      no_charge : (o : Option ℕ) → is_some o ≡ false → o ≡ None
      no_charge None is = refl
      no_charge (Some n) is = cc

  -- and each slot but that of the entry that it freed.
  pub release_shows : clients_of shard.table ≡ 1 → (s : ℕ) → (s ≡ slot → freed ≡ false)
      → shown_at (world_at shard.table new.seat) s ≡ shown_at (world_at shard.table old.seat) s
  release_shows one s kept = elim (cases_eq s slot) [
    | inl here ↦ still_shows shard.table one old.seat new.seat (release_stays (kept here)) s
    | inr other ↦
        settled_keeps shard.table one h.mid new.seat h.settles s
        ∙ (releases_show shard.table one slot name room used erase h.charge old.seat h.mid
        h.releases).others s other
  ]
