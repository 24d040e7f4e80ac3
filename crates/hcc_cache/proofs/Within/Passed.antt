-- A slot that a search or an insertion passed lacked the key at a moment of the call.
use Rattle.std.proofs.Common.{◌≡◌, ℕ, Bool, true, false, List, None, refl}
use Rattle.hcc_word.specs.Word.{is_visible}
use Rattle.hcc_rule.specs.declared.key.Key.{Key}
use Rattle.hcc_rule.specs.declared.table.RuleTable.{RuleTable}
use Rattle.hcc_rule.specs.declared.view.Done.{Done}
use Rattle.hcc_rule.specs.Acts.{client_by, is_step}
use Rattle.hcc_rule.specs.Callers.{IsEvent, world_at}
use Rattle.hcc_rule.specs.Events.{acquire_done, look_done, occupy_done}
use Rattle.hcc_rule.specs.Seats.{SeatOf, view}
use Rattle.hcc_rule.specs.Words.{key_of}
use Rattle.hcc_table.specs.declared.efforts.Effort.{Effort}
use Rattle.hcc_table.specs.Probed.{FindsTaken, Looks, Passes, PassesEntry}
use Rattle.hcc_table.specs.Seeking.{ReachesBy}
use Rattle.hcc_table.specs.Standing.{ShowsKey, shown_at}
use Rattle.hcc_table.proofs.Lasting.{met_there, reach_seeks, reached_seeks}
use Rattle.hcc_table.proofs.Moments.{event_leads, none_shown, some_and}
use Rattle.hcc_table.proofs.Occupied.{occupy_tells}
use Rattle.hcc_table.proofs.Shown.{acquire_hides, look_tells}
use Rattle.hcc_cache.specs.Within.{LacksWithin}
use Rattle.hcc_cache.proofs.Within.Begun.{Begun, GoesOn, Starts, begun_by, begun_on, held_once, on_event, on_same, on_seeks, on_then}

module _ {T A : Type 0} (table : RuleTable T A) where
  -- What the first step at a slot tells, by the word that it found: its client's own event.
  pub record Tells (slot seen : ℕ) (a b : SeatOf T) : Type 0 where
    pub done : Done
    pub event : IsEvent table done a b
    pub step : is_step done.event ≡ true
    pub by : client_by done.event ≡ (view a).client
    pub unshown : is_visible seen ≡ false → shown_at (world_at table b) slot ≡ None

  pub look_first : (slot seen : ℕ) (a b : SeatOf T) → Looks table slot seen a b
      → Tells slot seen a b
  look_first slot seen a b h = record {
    done = look_done slot seen (view a);
    event = h.2;
    step = refl;
    by = refl;
    unshown = λ off.
        let led = event_leads table (look_done slot seen (view a)) a b h.2 in
        look_tells led.0 (world_at table b) (view a).client slot seen led.1 off;
  }

  pub taken_first : (slot seen : ℕ) (a b : SeatOf T) → FindsTaken table slot seen a b
      → Tells slot seen a b
  taken_first slot seen a b h = record {
    done = occupy_done slot seen (view a);
    event = h.3;
    step = refl;
    by = refl;
    unshown =
        let led = event_leads table (occupy_done slot seen (view a)) a b h.3 in
        (occupy_tells led.0 (world_at table b) (view a).client slot seen led.1 h.2).1;
  }

  pub begun_first : {old a b : SeatOf T} {slot seen : ℕ} → Starts table old a
      → Tells slot seen a b → Begun table old b
  begun_first starts t = begun_by table t.done starts t.event t.step t.by

  module _ (fits : T → Key → List ℕ → Type 0) (key : Key) (name : ℕ) where
    -- behind the acquire of references on an entry that was passed the slot doesn't show the key
    got_lacks : (slot weight word : ℕ) (e f : Effort) (a b : SeatOf T)
        (h : PassesEntry fits table key name slot weight word e f a b)
        → ¬ ShowsKey (world_at table h.reaches.by.mid) key slot
    got_lacks slot weight word e f a b h = by (is_visible word) refl
      where
        by_reaches : ReachesBy table slot weight name word a h.mid
        by_reaches = h.reaches.by

        got : SeatOf T
        got = by_reaches.mid

        by : (shown : Bool) → is_visible word ≡ shown → ¬ ShowsKey (world_at table got) key slot
        by false off =
            let led = event_leads table (acquire_done slot weight name word (view a)) a got
            by_reaches.adds in
            none_shown (world_at table got) key slot
            (acquire_hides led.0 (world_at table got) (view a).client slot weight name word led.1
            off)
        by true on = λ shows.
            let found = some_and (shown_at (world_at table got) slot) _ shows in
            met_there table slot weight name word a h.mid by_reaches (λ e. ¬ (key_of e ≡ key))
            (h.other on) found.0 found.1 found.2

    got_on : (slot weight word : ℕ) (e f : Effort) (a b : SeatOf T)
        (h : PassesEntry fits table key name slot weight word e f a b)
        → GoesOn table h.reaches.by.mid b
    got_on slot weight word e f a b h =
        on_then table (on_seeks table (reached_seeks table slot weight name word a h.mid
        h.reaches.by)) (on_seeks table h.seeks)

    module _ (First : (slot seen : ℕ) → SeatOf T → SeatOf T → Type 0)
        (first : (slot seen : ℕ) (a b : SeatOf T) → First slot seen a b → Tells slot seen a b)
        (slot weight word : ℕ) (e f : Effort) (a b : SeatOf T)
        (h : Passes fits table key name (First slot) slot weight word e f a b) where
      told : Tells slot h.seen a h.mid
      told = first slot h.seen a h.mid h.first

      -- behind that step the call goes on
      shown_on : is_visible h.seen ≡ true → GoesOn table h.mid b
      shown_on on =
          let entry = h.shown on in
          on_then table
          (on_seeks table (reach_seeks table slot weight name word h.mid entry.mid
          entry.reaches.by)) (got_on slot weight word e f h.mid b entry)

      pub passed_rest : GoesOn table h.mid b
      passed_rest = by (is_visible h.seen) refl
        where
          by : (shown : Bool) → is_visible h.seen ≡ shown → GoesOn table h.mid b
          by false off = on_same table (h.unshown off).2
          by true on = shown_on on

      pub passed_on : GoesOn table a b
      passed_on = on_then table (on_event table told.event) passed_rest

      -- it has begun
      pub passed_begun : {old : SeatOf T} → Starts table old a → Begun table old b
      passed_begun starts = begun_on table (begun_first starts told) passed_rest

      -- and the slot lacked the key once
      pub passed_lacked : {old new : SeatOf T} → Starts table old a → GoesOn table b new
          → LacksWithin table old new key slot
      passed_lacked {old} {new} starts behind = by (is_visible h.seen) refl
        where
          began : Begun table old h.mid
          began = begun_first starts told

          by : (shown : Bool) → is_visible h.seen ≡ shown → LacksWithin table old new key slot
          by false off =
              held_once table (λ w. ¬ ShowsKey w key slot) began
              (on_then table passed_rest behind)
              (none_shown (world_at table h.mid) key slot (told.unshown off))
          by true on =
              let entry = h.shown on in
              held_once table (λ w. ¬ ShowsKey w key slot)
              (begun_on table began (on_seeks table
              (reach_seeks table slot weight name word h.mid entry.mid entry.reaches.by)))
              (on_then table (got_on slot weight word e f h.mid b entry) behind)
              (got_lacks slot weight word e f h.mid b entry)
