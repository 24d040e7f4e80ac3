-- What events that make and take no entry, and show and hide none, leave of each slot.
use Rattle.std.proofs.Common.{is_some, ◌≡◌, ℕ, Bool, true, false, List, [], ◌∷◌, Option, Some, None, slice_get, sym, refl, ap, ◌∙◌, subst}
use Rattle.std.specs.Prelude.{IfSome, option_and_then}
use Rattle.hcc_core.specs.declared.event.Event.{Event}
use Rattle.hcc_core.specs.declared.event.Event.TheVariants as events
use Rattle.hcc_core.specs.declared.slot.Slot.{Slot}
use Rattle.hcc_core.specs.declared.slot.Slot.TheVariants as slots
use Rattle.hcc_core.specs.Runs.{after, after_all}
use Rattle.hcc_core.specs.World.{State, is_shareable}
use Rattle.hcc_core.proofs.Moves.{face_of}
use Rattle.hcc_core.proofs.Shows.{slot_changed}
use Rattle.hcc_core.proofs.StaysShown.{after_faces, face_shows, if_shown}
use Rattle.hcc_rule.specs.declared.table.RuleTable.{RuleTable}
use Rattle.hcc_rule.specs.declared.view.Done.{Done}
use Rattle.hcc_rule.specs.Acts.{events_of, past, world_of}
use Rattle.hcc_rule.specs.Callers.{HasOn, IsEvent, clients_of, plan_of, world_at}
use Rattle.hcc_rule.specs.Events.{give_done, look_done, read_done}
use Rattle.hcc_rule.specs.Opening.{begun_world}
use Rattle.hcc_rule.specs.Records.{record_in}
use Rattle.hcc_rule.specs.Seats.{SeatOf, view}
use Rattle.hcc_rule.specs.Views.{Each}
use Rattle.hcc_rule.proofs.Seats.Histories.{after_more}
use Rattle.hcc_table.specs.Seeking.{Does, GoesOnBy, ReachesBy, Seeks, is_booking, is_seeking, is_settling}
use Rattle.hcc_table.specs.Standing.{entry_shown}
use Rattle.hcc_table.specs.Still.{GoesOnStill, is_still}
use Rattle.hcc_table.proofs.Lasting.{reach_seeks, reached_seeks}
use Rattle.hcc_table.proofs.Seeking.{goes_event, goes_none, goes_then, goes_wider, seeks_one, seeks_read, seeks_then}

-- such an event changes neither an entry nor whether it is shown
still_unchanged : (w : State) (event : Event) → is_still event ≡ true
    → slot_changed w event ≡ None
still_unchanged w (events.Show client key0 key1 charge countdown name value) is = cc
still_unchanged w (events.Hide client name) is = cc
still_unchanged w (events.Free client slot name) is = cc
still_unchanged w (events.Empty client) is = cc
still_unchanged w other is = refl

-- a reading of a slot that its entry, and whether that is shown, decide
pub record Leaves {A : Type 0} (f : Option Slot → A) : Type 0 where
  pub by_face : (o p : Option Slot) → option_and_then face_of o ≡ option_and_then face_of p
      → f o ≡ f p

module _ {A : Type 0} {f : Option Slot → A} (l : Leaves f) where
  -- Such events leave the reading of each slot as it is.
  still_stays : (ds : List Done) → Each (λ (done : Done). is_still done.event ≡ true) ds
      → (w : State) (s : ℕ)
      → f (slice_get (after_all w (events_of ds)).slots s) ≡ f (slice_get w.slots s)
  still_stays [] only w s = refl
  still_stays (d ∷ ds) only w s =
      still_stays ds only.1 (after w d.event) s
      ∙ l.by_face _ _ (after_faces w d.event s (λ is.
      let bad : None ≡ Some s = sym (still_unchanged w d.event only.0) ∙ is in cc))

  -- So do calls in a shard of one client that make no other events.
  pub still_alone : {T B : Type 0} {table : RuleTable T B} → clients_of table ≡ 1
      → (a b : SeatOf T) → GoesOnStill table a b → (s : ℕ)
      → f (slice_get (world_at table b).slots s) ≡ f (slice_get (world_at table a).slots s)
  still_alone {T} {B} {table} one a b h s =
      ap (λ ds. f (slice_get (world_of (plan_of table) ds).slots s)) h.goes_on
      ∙ ap (λ (w : State). f (slice_get w.slots s))
      (after_more (past a) h.more (begun_world (plan_of table)))
      ∙ still_stays h.more (h.alone one) (world_at table a) s

-- Readings that are left as they are.

-- what is shown
pub leaves_shown : Leaves (option_and_then entry_shown)
leaves_shown = record {
  by_face = λ o p same.
      face_shows o ∙ ap (option_and_then if_shown) same ∙ sym (face_shows p);
}

-- whether there is an entry
abbrev pub is_taken : Option Slot → Bool
is_taken None = false
is_taken (Some seen) = is_shareable seen

face_taken : (o : Option Slot) → is_taken o ≡ is_some (option_and_then face_of o)
face_taken None = refl
face_taken (Some (slots.Empty strays)) = refl
face_taken (Some (slots.Building client strays)) = refl
face_taken (Some (slots.Shareable r)) = refl

pub leaves_taken : Leaves is_taken
leaves_taken = record {
  by_face = λ o p same. face_taken o ∙ ap is_some same ∙ sym (face_taken p);
}

-- Searches are such calls.

seeking_still : (event : Event) → is_seeking event ≡ true → is_still event ≡ true
seeking_still (events.Look client slot) is = refl
seeking_still (events.Acquire client slot weight name) is = refl
seeking_still (events.Peek client slot) is = refl
seeking_still (events.Read client name) is = refl
seeking_still (events.Give client name) is = refl
seeking_still (events.Count client slot) is = refl
seeking_still (events.Mark client name) is = refl
seeking_still (events.Correct client name) is = refl
seeking_still other is = cc

module _ {T A : Type 0} (table : RuleTable T A) where
  does_still : (ds : List Done) {a b : SeatOf T} → Does table ds a b
      → Each (λ (done : Done). is_seeking done.event ≡ true) ds → GoesOnStill table a b
  does_still [] {a} same only =
      subst (λ z. GoesOnStill table a z) (sym same) (goes_none table is_still a a refl)
  does_still (d ∷ ds) {a} {b} does only =
      goes_then table is_still a does.0 b
      (goes_event table is_still d a does.0 does.1 (seeking_still d.event only.0))
      (does_still ds does.2 only.1)

  -- References were acquired.
  pub reaches_seek : (slot weight name word : ℕ) (a b : SeatOf T)
      → ReachesBy table slot weight name word a b → Seeks table a b
  reaches_seek slot weight name word a b h =
      seeks_then table a h.mid b (reach_seeks table slot weight name word a b h)
      (reached_seeks table slot weight name word a b h)

  pub seeks_still : (a b : SeatOf T) → Seeks table a b → GoesOnStill table a b
  seeks_still a b h = does_still h.own h.does h.only

  -- A look, and then an acquire there; and a read, and then a give.
  pub looks_reach : {slot weight name : ℕ} (seen : ℕ) {word : ℕ} {a b c : SeatOf T}
      → IsEvent table (look_done slot seen (view a)) a b
      → ReachesBy table slot weight name word b c → Seeks table a c
  looks_reach {slot} {weight} {name} seen {word} {a} {b} {c} event h =
      seeks_then table a b c (seeks_one table _ a b event refl)
      (reaches_seek slot weight name word b c h)

  pub reads_give : (slot weight : ℕ) {name : ℕ} (word : ℕ) {a : SeatOf T} (b : SeatOf T) {c : SeatOf
      T} → HasOn slot name (view a)
      → IfSome (record_in name (view a).records)
      (λ r. IsEvent table (read_done name r.entry (view a)) a b)
      → IsEvent table (give_done weight name word (view b)) b c → Seeks table a c
  reads_give slot weight {name} word {a} b {c} on reads gives =
      seeks_then table a b c (seeks_read table name (λ r. r.slot ≡ slot) on reads)
      (seeks_one table _ b c gives refl)

  -- What settles books, and what books makes and takes no entry.
  pub settled_books : (a b : SeatOf T) → GoesOnBy table is_settling a b
      → GoesOnBy table is_booking a b
  settled_books a b h = goes_wider table is_settling is_booking by a b h
    where
      by : (event : Event) → is_settling event ≡ true → is_booking event ≡ true
      by (events.Slots client) is = refl
      by (events.Settle client) is = refl
      by other is = cc

  pub booked_still : (a b : SeatOf T) → GoesOnBy table is_booking a b → GoesOnStill table a b
  booked_still a b h = goes_wider table is_booking is_still by a b h
    where
      by : (event : Event) → is_booking event ≡ true → is_still event ≡ true
      by (events.Charge client charge) is = refl
      by (events.Slots client) is = refl
      by (events.Settle client) is = refl
      by (events.Waive client) is = refl
      by (events.Quit client) is = refl
      by (events.Stand client charge name) is = refl
      by other is = cc

  pub settled_still : (a b : SeatOf T) → GoesOnBy table is_settling a b → GoesOnStill table a b
  settled_still a b h = booked_still a b (settled_books a b h)
