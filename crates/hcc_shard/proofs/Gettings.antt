-- The reading of a key's value: by loads alone, or by a reference that it holds meanwhile.
use Rattle.std.proofs.Common.{◌≡◌, inl, inr, ℕ, ◌+◌, ◌*◌, ◌≤◌, ◌&&◌, Bool, true, false, List, Option, None, Some, IfSome, IsSomeAnd, length, refl, ap, subst, ◌∙◌, arith}
use Rattle.std.proofs.lemmas.Bool.{eq-eqb}
use Rattle.hcc_core.specs.Outcomes.{dropped}
use Rattle.hcc_rule.specs.declared.geometry.Geometry.{Geometry}
use Rattle.hcc_rule.specs.declared.key.Key.{Key}
use Rattle.hcc_rule.specs.declared.table.RuleTable.{RuleTable}
use Rattle.hcc_rule.specs.declared.view.Record.{Record}
use Rattle.hcc_rule.specs.declared.view.View.{View}
use Rattle.hcc_rule.specs.Callers.{room_of, slots_of}
use Rattle.hcc_rule.specs.Events.{give_done}
use Rattle.hcc_rule.specs.Probes.{probe_slot}
use Rattle.hcc_rule.specs.Records.{record_in}
use Rattle.hcc_rule.specs.Seats.{SeatOf, view}
use Rattle.hcc_rule.specs.ToldReferences.{after_give}
use Rattle.hcc_rule.specs.Views.{is_called}
use Rattle.hcc_rule.specs.Words.{key_of, words_for}
use Rattle.hcc_table.specs.declared.pins.Pin.{Pin}
use Rattle.hcc_table.specs.Freed.{IsLeftBy}
use Rattle.hcc_table.specs.Pins.{IsPinned}
use Rattle.hcc_table.specs.Optimistic.{LacksAll, ReadsShown}
use Rattle.hcc_table.specs.Readings.{CopiesOut, IsReadable, loads_of}
use Rattle.hcc_table.specs.Searched.{IsFound, IsMissed, Sought}
use Rattle.hcc_table.specs.Seeking.{Seeks}
use Rattle.hcc_table.specs.Standing.{ShowsOnce}
use Rattle.hcc_table.specs.Still.{is_still}
use Rattle.hcc_table.proofs.Lasting.{finds_lasting}
use Rattle.hcc_table.proofs.Loads.{loads_none, loads_seek, loads_then}
use Rattle.hcc_table.proofs.Moments.{lacks_since, Led, shows_since}
use Rattle.hcc_table.proofs.Probes.{dropped_last, found_held, found_then, given_at}
use Rattle.hcc_table.proofs.Releases.{gives_still}
use Rattle.hcc_table.proofs.Searches.{searched_refl, searched_then, sought_then}
use Rattle.hcc_table.proofs.Seeking.{goes_none, goes_then, seeks_one}
use Rattle.hcc_table.proofs.Still.{seeks_still}
use Rattle.hcc_shard.specs.declared.erasing.TheConstants.{IN_FLIGHT}
use Rattle.hcc_table.specs.declared.optimistic.Got.{Got}
use Rattle.hcc_table.specs.declared.optimistic.Got.TheVariants.{Hit, Miss, Short}
use Rattle.hcc_shard.specs.declared.seat.ShardSeat.{ShardSeat}
use Rattle.hcc_shard.specs.declared.shard.Shard.{Shard}
use Rattle.hcc_shard.specs.Gets.{Gets, GetsHeld, GivesUp, GotLasting, GotShown, MissesOut, ReadsOut}
use Rattle.hcc_shard.specs.Seated.{IsQuiet}
use Rattle.hcc_shard.proofs.Names.{not_kept}

-- A client at rest holds no reference under the name of those that no call keeps.
pub none_in_flight : {T : Type 0} (geometry : Geometry) (v : View T) → IsQuiet geometry v
    → record_in IN_FLIGHT v.records ≡ None
none_in_flight geometry v quiet = not_kept geometry IN_FLIGHT (omega arith) v.records quiet.kept

module _ {T : Type 0} (fits : T → Key → List ℕ → Type 0) (room name : ℕ) (pin : Pin) (key : Key)
    (v w : View T) (r : Record) (fresh : record_in name v.records ≡ None)
    (found : IsFound fits room pin.slot name key v w r) where
  -- what was found is held under its name,
  pub got_pinned : pin.name ≡ name → r.counting ≡ pin.counting → IsPinned pin w
  got_pinned called counts =
      rw (called, found_held fits room pin.slot name key v w r fresh found)
      (found.on, found.single, counts)

  -- its value can be read,
  pub got_readable : pin.name ≡ name
      → IfSome (record_in pin.name w.records) (λ q. IsReadable room q)
  got_readable called =
      rw (called, found_held fits room pin.slot name key v w r fresh found)
      (record { short = found.short; bytes = found.bytes })

  -- and once it was given back the client holds what it held.
  pub got_back : (word : ℕ) (x : View T) → x ≡ after_give pin.slot name word w → Sought v x
  got_back word x same = record {
    searched = searched_then v w x found.searched (given_at pin.slot name word w x same);
    records = ap (λ (z : View T). z.records) same
        ∙ (ap (dropped (is_called name)) found.records
        ∙ dropped_last (is_called name) v.records r fresh (eq-eqb r.name name found.called));
  }

  -- What was copied is of its value.
  pub got_copied : (P : Record → Type 0) → pin.name ≡ name
      → IsSomeAnd (record_in pin.name w.records) P → P r
  got_copied P called told =
      subst (λ o. IsSomeAnd o P) (ap (λ n. record_in n w.records) called
      ∙ found_held fits room pin.slot name key v w r fresh found) told

-- The value of the one that is held was read, or was longer than the buffer.
pub copies_held : (got : Got) (count : ℕ) (before after : List ℕ) (P : Record → Type 0)
    (o : Option Record) → IsSomeAnd o P → IfSome o (λ r. count ≡ length r.entry.value)
    → IfSome o (λ r. count ≡ length r.entry.value → CopiesOut got r.entry.value before after)
    → IsSomeAnd o (λ r. CopiesOut got r.entry.value before after)
copies_held got count before after P None held exact does = absurd held
copies_held got count before after P (Some r) held exact does = does exact

-- So many words are read of a value that fits its slot.
pub words_within : (room count : ℕ) (P : Record → Type 0) (o : Option Record) → IsSomeAnd o P
    → IfSome o (λ r. count ≡ length r.entry.value) → IfSome o (λ r. IsReadable room r)
    → words_for count ≤ room
words_within room count P None held exact readable = absurd held
words_within room count P (Some r) held exact readable =
    let short = readable.short in omega (arith, exact, short)

-- So many loads read a value that fits its slot.
pub loads_within : (room : ℕ) (got : Got) (value before after : List ℕ)
    → CopiesOut got value before after → length value ≤ 8 * room → loads_of got ≤ room + 1
loads_within room Miss value before after copies short = absurd copies
loads_within room (Hit count) value before after copies short =
    let exact = copies.0 in omega (arith, exact, short)
loads_within room (Short count) value before after copies short = omega arith

-- What gives a reference back, and not as a use, is what a search does.
pub gives_seek : {T A : Type 0} (table : RuleTable T A) (used : Bool)
    (slot weight name left : ℕ) (a b : SeatOf T) → used ≡ false
    → IsLeftBy table slot weight name used left a b → Seeks table a b
gives_seek table true slot weight name left a b none h = cc
gives_seek table false slot weight name left a b none h =
    seeks_one table (give_done weight name h.0 (view a)) a b h.2 refl

-- What misses behind another search misses behind both.
missed_since : {T : Type 0} (key : Key) (u v w : View T) → Sought u v → IsMissed key v w
    → IsMissed key u w
missed_since key u v w first h = record {
  sought = sought_then u v w first h.sought;
  dead = rw (← first.records) h.dead;
}

module _ {T A : Type 0} (shard : Shard T A) where
  -- Nothing was tried without a reference.
  pub gives_none : (a : ShardSeat T) → GivesUp shard a a
  gives_none a = record {
    loads = loads_none shard.table a.seat;
    sought = searched_refl (view a.seat);
    counted = refl;
  }

  -- one after another
  gives_then : (a b c : ShardSeat T) → GivesUp shard a b → GivesUp shard b c → GivesUp shard a c
  gives_then a b c h g = record {
    loads = loads_then shard.table a.seat b.seat c.seat h.loads g.loads;
    sought = sought_then (view a.seat) (view b.seat) (view c.seat) h.sought g.sought;
    counted = g.counted ∙ h.counted;
  }

  given_led : (a b : ShardSeat T) → GivesUp shard a b → Led shard.table a.seat b.seat
  given_led a b h = record {
    seeks = loads_seek shard.table a.seat b.seat h.loads;
    same = ap (λ (v : View T). v.client) h.sought.searched.same;
  }

module _ {T A : Type 0} (fits : T → Key → List ℕ → Type 0) (shard : Shard T A) (key : Key)
    (useful : Bool) where
  -- A reading that found an entry is one by its answer.
  pub gets_out : (got : Got) (before after : List ℕ) (old new : ShardSeat T)
      → ReadsOut fits shard key useful got before after old new
      → GetsHeld fits shard key useful got before after old new
  gets_out Miss before after old new reads = absurd reads.copies
  gets_out (Hit count) before after old new reads = reads
  gets_out (Short count) before after old new reads = reads

  -- What was read by a reference, once it was given up without one.

  out_since : (got : Got) (before after : List ℕ) (old began new : ShardSeat T)
      → GivesUp shard old began → ReadsOut fits shard key useful got before after began new
      → ReadsOut fits shard key useful got before after old new
  out_since got before after old began new up r = record {
    began = r.began;
    given_up = gives_then shard old began r.began up r.given_up;
    pin = r.pin;
    held = r.held;
    searches = r.searches;
    found = r.found;
    finds = found_then fits (room_of shard.table) r.pin.slot IN_FLIGHT key (view old.seat)
        (view began.seat) (view r.held.seat) (view r.held.seat) r.found up.sought r.finds
        (searched_refl (view r.held.seat));
    holds = r.holds;
    of = r.of;
    copies = r.copies;
    read = r.read;
    kept = r.kept;
    reads = r.reads;
    loads = r.loads;
    gives = r.gives;
    counted = r.counted;
  }

  pub held_since : (got : Got) (before after : List ℕ) (old began new : ShardSeat T)
      → GivesUp shard old began → GetsHeld fits shard key useful got before after began new
      → GetsHeld fits shard key useful got before after old new
  held_since Miss before after old began new up m = record {
    same = m.same;
    missed =
        missed_since key (view old.seat) (view began.seat) (view new.seat) up.sought m.missed;
    began = m.began;
    given_up = gives_then shard old began m.began up m.given_up;
    searches = m.searches;
  }
  held_since (Hit count) before after old began new up r =
      out_since (Hit count) before after old began new up r
  held_since (Short count) before after old began new up r =
      out_since (Short count) before after old began new up r

  -- What was so once in a reading.

  -- an entry that was read without a reference was shown,
  shown_at_once : (got : Got) (before after : List ℕ) (old new : ShardSeat T)
      → ReadsShown fits shard.table key useful shard.marks got before after old.seat new.seat
      → GotShown shard key got before after old new
  shown_at_once got before after old new r = record {
    last = new.seat;
    goes_on = goes_none shard.table is_still new.seat new.seat refl;
    probe = r.probe;
    entry = r.there.entry;
    asked = r.there.asked;
    shown = (r.there.glances.moment, r.there.glances.is_moment, r.there.glances.shows);
    earlier = r.earlier;
    copies = r.there.copies;
  }

  -- and so was one that was read by a reference.
  shown_held : (got : Got) (before after : List ℕ) (old new : ShardSeat T)
      → ReadsOut fits shard key useful got before after old new
      → GotShown shard key got before after old new
  shown_held got before after old new r =
      let led = given_led shard old r.began r.given_up in
      let lasts =
      finds_lasting fits shard.table key IN_FLIGHT shard.marks (Some r.pin) r.began.effort
      r.held.effort r.began.seat r.held.seat r.searches in
      let there =
      subst (λ o. IsSomeAnd o (λ q. (key_of q.entry ≡ key)
      × ShowsOnce shard.table r.pin.slot q.entry r.began.seat r.held.seat)) r.holds lasts.2 in
      record {
        last = r.held.seat;
        goes_on =
            goes_then shard.table is_still r.held.seat r.read new.seat
            (seeks_still shard.table r.held.seat r.read r.reads)
            (gives_still shard.table (useful && r.pin.counting) r.pin.slot 1 r.pin.name r.gives.0
            r.read new.seat r.gives.2);
        probe = lasts.0;
        entry = r.found.entry;
        asked = there.0;
        shown =
            subst (λ s. ShowsOnce shard.table s r.found.entry old.seat r.held.seat) lasts.1
            (shows_since shard.table r.pin.slot r.found.entry old.seat r.began.seat r.held.seat
            led there.1);
        earlier = λ j first.
            lacks_since shard.table key (probe_slot (slots_of shard.table) key j) old.seat
            r.began.seat r.held.seat led (lasts.3 j first);
        copies = r.copies;
      }

  missed_held : (before after : List ℕ) (old new : ShardSeat T)
      → MissesOut fits shard key useful before after old new
      → LacksAll shard.table key old.seat new.seat
  missed_held before after old new m slot near =
      lacks_since shard.table key slot old.seat m.began.seat new.seat
      (given_led shard old m.began m.given_up)
      (finds_lasting fits shard.table key IN_FLIGHT shard.marks None m.began.effort new.effort
      m.began.seat new.seat m.searches slot near)

  pub gets_lasting : (got : Got) (before after : List ℕ) (old new : ShardSeat T)
      → Gets fits shard key useful got before after old new
      → GotLasting shard key got before after old new
  gets_lasting Miss before after old new h = elim h [
    | inl once ↦ once.reads.2
    | inr held ↦ missed_held before after old new held
  ]
  gets_lasting (Hit count) before after old new h = elim h [
    | inl once ↦ shown_at_once (Hit count) before after old new once.reads
    | inr held ↦ shown_held (Hit count) before after old new held
  ]
  gets_lasting (Short count) before after old new h = elim h [
    | inl once ↦ shown_at_once (Short count) before after old new once.reads
    | inr held ↦ shown_held (Short count) before after old new held
  ]
