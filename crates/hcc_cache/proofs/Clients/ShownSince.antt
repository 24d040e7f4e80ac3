-- What a client knows to be shown, with any number of clients: until an event takes it away.
use Rattle.std.proofs.Common.{◌≡◌, ◌⊎◌, ℕ, ◌<◌, ◌≤◌, true, false, List, [], ◌∷◌, ◌++◌, Option, Some, None, inl, inr, is_some, slice_get, sym, refl, ap, ◌∙◌, subst}
use Rattle.std.specs.Prelude.{IsSomeAnd}
use Rattle.std.proofs.lemmas.List.{append_assoc}
use Rattle.std.proofs.lemmas.Option.{same_Some}
use Rattle.std.specs.declared.alloc.Global.{Global}
use Rattle.hcc_core.specs.declared.event.Event.{Event}
use Rattle.hcc_core.specs.declared.event.Event.TheVariants as events
use Rattle.hcc_core.specs.declared.slot.Entry.{Entry}
use Rattle.hcc_core.specs.Shown.{may_take}
use Rattle.hcc_core.specs.World.{State}
use Rattle.hcc_rule.specs.declared.geometry.Geometry.{Geometry}
use Rattle.hcc_rule.specs.declared.key.Key.{Key}
use Rattle.hcc_rule.specs.declared.view.Done.{Done}
use Rattle.hcc_rule.specs.Acts.{IsStepBy, past}
use Rattle.hcc_rule.specs.Callers.{slots_of, world_at}
use Rattle.hcc_rule.specs.Seats.{SeatOf, view}
use Rattle.hcc_rule.specs.Shown.{IsTakenAway}
use Rattle.hcc_rule.specs.Views.{Each, names}
use Rattle.hcc_rule.specs.Words.{key_of}
use Rattle.hcc_rule.proofs.Parts.ViewParts.{names_own}
use Rattle.hcc_rule.proofs.Seats.StaysShown.{knows_still, others_took}
use Rattle.hcc_table.specs.declared.pins.Pin.{Pin}
use Rattle.hcc_table.specs.Optimistic.{LacksAll}
use Rattle.hcc_rule.specs.declared.table.RuleTable.{RuleTable}
use Rattle.hcc_table.specs.Seeking.{Seeks}
use Rattle.hcc_table.specs.Standing.{FindsLasting, IsMomentOf, LacksOnce, ShowsKey, shown_at}
use Rattle.hcc_table.specs.Still.{GoesOnStill, is_still}
use Rattle.hcc_table.proofs.Moments.{some_and}
use Rattle.hcc_table.proofs.Seeking.{goes_none, seeks_one, seeks_then}
use Rattle.hcc_table.proofs.Still.{seeks_still}
use Rattle.hcc_shard.specs.declared.seat.ShardSeat.{ShardSeat}
use Rattle.hcc_shard.specs.declared.shard.Shard.{Shard}
use Rattle.hcc_cache.specs.declared.cache.Cache.{Cache}
use Rattle.hcc_cache.specs.declared.client.Client.{Client}
use Rattle.hcc_cache.specs.declared.seeded.Seeded.{Seeded}
use Rattle.hcc_cache.specs.Calls.{shard_in}
use Rattle.hcc_cache.specs.Keys.{fits_seeded}
use Rattle.hcc_cache.specs.Known.{Knows}
use Rattle.hcc_cache.specs.Moments.{KnowsShown}
use Rattle.hcc_cache.specs.Sharding.{key_to}
use Rattle.hcc_cache.specs.Since.{GoesOnAt, IsTakenByOther, IsTakenSince}
use Rattle.hcc_cache.specs.Stays.{BeganEachWithin, Stays}

-- what makes and takes no entry, and shows and hides none, is neither a hide nor a free
still_takes : (event : Event) → is_still event ≡ true → may_take event ≡ false
still_takes (events.Hide client name) is = cc
still_takes (events.Free client slot name) is = cc
still_takes other is = refl

pub own_takes : (c : ℕ) (ds : List Done)
    → Each (λ (done : Done). IsStepBy c done.event → is_still done.event ≡ true) ds
    → Each (λ (done : Done). IsStepBy c done.event → may_take done.event ≡ false) ds
own_takes c [] only = tt
own_takes c (d ∷ ds) only = ((λ by. still_takes d.event (only.0 by)), own_takes c ds only.1)

-- what was taken away by some events was so by them and more
pub taken_more : {slot : ℕ} {entry : Entry} {world : State} (more later : List Done)
    → IsTakenAway slot entry world more → IsTakenAway slot entry world (more ++ later)
taken_more more later t = record {
  before = t.before;
  done = t.done;
  rest = t.rest ++ later;
  is = ap (λ xs. xs ++ later) t.is ∙ append_assoc t.before (t.done ∷ t.rest) later;
  shown = t.shown;
  takes = t.takes;
  gone = t.gone;
}

-- A moment of a call is one of a call that read on behind it.
pub moment_on : {T A : Type 0} (table : RuleTable T A) (moment a b c : SeatOf T)
    → IsMomentOf table moment a b → Seeks table b c → IsMomentOf table moment a c
moment_on table moment a b c m reads =
    let on = seeks_still table b c reads in
    record {
      before = m.before;
      done = m.done;
      began = m.began;
      step = m.step;
      seeking = m.seeking;
      own = m.own;
      rest = seeks_then table moment b c m.rest reads;
      since = m.since;
      begins = m.begins;
      later = m.later ++ on.more;
      goes_on =
          on.goes_on ∙ ap (λ xs. xs ++ on.more) m.goes_on
          ∙ append_assoc (past moment) m.later on.more;
    }

-- So is one at which a slot lacked a key.
lacks_on : {T A : Type 0} (table : RuleTable T A) (key : Key) (slot : ℕ) (a b c : SeatOf T)
    → LacksOnce table key slot a b → Seeks table b c → LacksOnce table key slot a c
lacks_on table key slot a b c once reads =
    (once.0, moment_on table once.0 a b c once.1 reads, once.2)

module _ {T : Type 0} (fits : T → Key → List ℕ → Type 0) (cache : Cache T)
    (began : BeganEachWithin cache fits) (key : Key) (old : Client T)
    (k : KnowsShown cache key old) where
  shown : (entry : Entry)
      × (shown_at (world_at k.shard.table k.seat.seat) k.slot ≡ Some entry)
      × (key_of entry ≡ key_to cache.seed key)
  shown = some_and (shown_at (world_at k.shard.table k.seat.seat) k.slot) _ k.shows

  -- a seat that knows more knows it still, or one of these events took it away
  still_at : (new : SeatOf (Seeded T)) (more : List Done)
      → past new ≡ past k.seat.seat ++ more
      → ShowsKey (world_at k.shard.table new) (key_to cache.seed key) k.slot
      ⊎ IsTakenSince cache key old k more
  still_at new more goes_on =
      elim (knows_still (fits_seeded fits) k.shard.table
      (began (shard_in cache key) k.shard k.shard_is) k.seat.seat new more goes_on k.slot shown.0
      shown.1) [
        | inl left ↦
            inl (subst (λ o. IsSomeAnd o (λ e. key_of e ≡ key_to cache.seed key)) (sym left)
            shown.2)
        | inr took ↦ inr (record { entry = shown.0; asked = shown.2; taken = took })
      ]

  module _ (new : Client T) where
    -- So does a client whose seat knows more.
    pub shown_since : (g : GoesOnAt (shard_in cache key) old new)
        → ((now : KnowsShown cache key new) × (now.slot ≡ k.slot))
        ⊎ IsTakenSince cache key old k g.more
    shown_since g =
        elim (still_at g.is.seat g.more goes_on) [
          | inl left ↦ inl (
            record {
              shard = k.shard;
              seat = g.is;
              shard_is = k.shard_is;
              seat_is = g.seat_is;
              slot = k.slot;
              within = k.within;
              shows = left;
            },
            refl,
          )
          | inr took ↦ inr took
        ]
      where
        was : g.was ≡ k.seat
        was = same_Some _ _ (sym g.seat_was ∙ k.seat_is)

        goes_on : past g.is.seat ≡ past k.seat.seat ++ g.more
        goes_on =
            subst (λ (q : ShardSeat (Seeded T)). past g.is.seat ≡ past q.seat ++ g.more) was
            g.goes_on

    module _ (knows : Knows cache old) where
      -- the seat names the client
      named : 1 ≤ names old.number (view k.seat.seat)
      named =
          let seated = knows.seated.each (shard_in cache key) k.shard k.seat k.shard_is k.seat_is
          in
          subst (λ n. 1 ≤ names n (view k.seat.seat)) (seated.rests.own ∙ seated.number_is)
          (names_own (view k.seat.seat) (ap is_some seated.rests.at.tagged))

      -- what its own events didn't take away, another's did
      by_other : (is : ShardSeat (Seeded T))
          → slice_get new.seats.items (shard_in cache key) ≡ Some is
          → (mid : SeatOf (Seeded T)) (h : GoesOnStill k.shard.table k.seat.seat mid)
          → (rest : GoesOnStill k.shard.table mid is.seat)
          → IsTakenSince cache key old k h.more → IsTakenByOther cache key old new k
      unfolding taken_more
      by_other is seat_is mid h rest since =
          record {
            goes = record {
              was = k.seat;
              is = is;
              seat_was = k.seat_is;
              seat_is = seat_is;
              more = h.more ++ rest.more;
              goes_on =
                  rest.goes_on ∙ ap (λ xs. xs ++ rest.more) h.goes_on
                  ∙ append_assoc (past k.seat.seat) h.more rest.more;
            };
            since = record {
              entry = since.entry;
              asked = since.asked;
              taken = taken_more h.more rest.more since.taken;
            };
            other = others_took old.number k.slot since.entry
                (world_at k.shard.table k.seat.seat) h.more
                (own_takes old.number h.more (h.own old.number named)) since.taken;
          }

      -- After a call that makes and takes no entry, and shows and hides none, the client knows it
      -- still, or another one took it away.
      pub shown_still : Stays cache old new
          → KnowsShown cache key new ⊎ IsTakenByOther cache key old new k
      shown_still h =
          let at = h.each (shard_in cache key) k.shard k.seat k.shard_is k.seat_is in
          elim (still_at at.0.seat at.2.more at.2.goes_on) [
            | inl left ↦ inl (record {
              shard = k.shard;
              seat = at.0;
              shard_is = k.shard_is;
              seat_is = at.1;
              slot = k.slot;
              within = k.within;
              shows = left;
            })
            | inr took ↦
                inr (by_other at.0 at.1 at.0.seat at.2
                (goes_none k.shard.table is_still at.0.seat at.0.seat refl) took)
          ]

      -- A slot that lacked the key at a moment of a call: another took it away.
      pub lacked_taken : (is : ShardSeat (Seeded T))
          → slice_get new.seats.items (shard_in cache key) ≡ Some is
          → LacksAll k.shard.table (key_to cache.seed key) k.seat.seat is.seat
          → IsTakenByOther cache key old new k
      lacked_taken is seat_is lacks =
          let once = lacks k.slot (subst (λ n. k.slot < n) (sym sized) k.within) in
          let m = once.1 in
          let led = seeks_still k.shard.table k.seat.seat once.0
          (seeks_then k.shard.table k.seat.seat m.before once.0 m.began
          (seeks_one k.shard.table m.done m.before once.0 m.step m.seeking)) in
          elim (still_at once.0 led.more led.goes_on) [
            | inl left ↦ absurd (once.2 left)
            | inr took ↦
                by_other is seat_is once.0 led (seeks_still k.shard.table once.0 is.seat m.rest)
                took
          ]
        where
          sized : slots_of k.shard.table ≡ cache.geometry.slots
          sized =
              ap (λ (x : Geometry). x.slots)
              (knows.alike.plans (shard_in cache key) k.shard k.shard_is).0

      -- So it is of a slot of the shard where a call searched, as its clauses tell it.
      module _ (shard : Shard (Seeded T) Global) (was is : ShardSeat (Seeded T))
          (shard_is : slice_get cache.shards.items (shard_in cache key) ≡ Some shard)
          (seat_was : slice_get old.seats.items (shard_in cache key) ≡ Some was)
          (seat_is : slice_get new.seats.items (shard_in cache key) ≡ Some is) where
        pub missed_taken : LacksAll shard.table (key_to cache.seed key) was.seat is.seat
            → IsTakenByOther cache key old new k
        missed_taken lacks =
            lacked_taken is seat_is
            (subst (λ (z : Shard (Seeded T) Global).
            LacksAll z.table (key_to cache.seed key) k.seat.seat is.seat) here
            (subst (λ (q : ShardSeat (Seeded T)).
            LacksAll shard.table (key_to cache.seed key) q.seat is.seat) sits lacks))
          where
            here : shard ≡ k.shard
            here = same_Some _ _ (sym shard_is ∙ k.shard_is)

            sits : was ≡ k.seat
            sits = same_Some _ _ (sym seat_was ∙ k.seat_is)

        -- A search that found none is such a call.
        pub none_taken : (name : ℕ) (pin : Option Pin) → is_some pin ≡ false
            → FindsLasting shard.table (key_to cache.seed key) name pin was.seat is.seat
            → IsTakenByOther cache key old new k
        none_taken name None none found = missed_taken found
        none_taken name (Some pin) none found = cc

        -- So is one that read on then.
        pub read_taken : (name : ℕ) (pin : Option Pin) (looked : ShardSeat (Seeded T))
            → is_some pin ≡ false
            → FindsLasting shard.table (key_to cache.seed key) name pin was.seat looked.seat
            → Seeks shard.table looked.seat is.seat → IsTakenByOther cache key old new k
        read_taken name None looked none found reads =
            missed_taken (λ slot near. lacks_on shard.table (key_to cache.seed key) slot was.seat
            looked.seat is.seat (found slot near) reads)
        read_taken name (Some pin) looked none found reads = cc
