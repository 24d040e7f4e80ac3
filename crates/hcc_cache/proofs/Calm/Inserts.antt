-- An insertion that is undisturbed meets exactly what the shard showed when its tries began.
use Rattle.std.proofs.Common.{◌≡◌, ◌≢◌, inl, inr, ℕ, ◌+◌, ◌<◌, ◌≤◌, Bool, true, false, List, [], ◌∷◌, ◌++◌, Result, Ok, Err, Some, None, length, slice_get, sym, refl, ap, ◌∙◌, subst, arith}
use Rattle.std.specs.Prelude.{IsSomeAnd}
use Rattle.std.proofs.lemmas.Bool.{cases_lt}
use Rattle.std.specs.declared.alloc.Global.{Global}
use Rattle.hcc_word.specs.Word.{is_counting, is_visible}
use Rattle.hcc_core.specs.declared.client.Owned.TheVariants as owned
use Rattle.hcc_core.specs.declared.event.Event.{Event}
use Rattle.hcc_core.specs.declared.event.Event.TheVariants as events
use Rattle.hcc_core.specs.declared.slot.Entry.{Entry}
use Rattle.hcc_core.specs.declared.slot.Slot.{Slot}
use Rattle.hcc_core.specs.World.{State}
use Rattle.hcc_rule.specs.declared.key.Key.{Key}
use Rattle.hcc_rule.specs.declared.steps.shows.Draft.{Draft}
use Rattle.hcc_rule.specs.declared.table.RuleTable.{RuleTable}
use Rattle.hcc_rule.specs.declared.view.Done.{Done}
use Rattle.hcc_rule.specs.declared.view.View.{View}
use Rattle.hcc_rule.specs.Acts.{IsNoStepOf, IsStepBy, events_of, past, world_of}
use Rattle.hcc_rule.specs.Callers.{IsEvent, plan_of, slots_of, world_at}
use Rattle.hcc_rule.specs.Events.{occupy_done, show_done}
use Rattle.hcc_rule.specs.Opening.{begun_world}
use Rattle.hcc_rule.specs.Probes.{probe_slot}
use Rattle.hcc_rule.specs.Seats.{SeatOf, view}
use Rattle.hcc_rule.specs.Views.{Each}
use Rattle.hcc_rule.specs.Words.{key_of}
use Rattle.hcc_rule.proofs.Probes.ProbeLaws.{probe_inside, probe_of_slot, some_slots}
use Rattle.hcc_rule.proofs.Seats.Histories.{after_more}
use Rattle.hcc_rule.proofs.Seats.Runs.{run_lawful}
use Rattle.hcc_table.specs.declared.efforts.Effort.{Effort}
use Rattle.hcc_table.specs.declared.inserting.Insertion.{Insertion}
use Rattle.hcc_table.specs.declared.inserting.Insertion.TheVariants.{Placed, Matched, NoSlot}
use Rattle.hcc_table.specs.Freed.{release_done}
use Rattle.hcc_table.specs.Probed.{AtProbes, FindsTaken, Passes}
use Rattle.hcc_table.specs.Seeking.{GoesOnBy, is_booking, is_write}
use Rattle.hcc_table.specs.Standing.{InsertsShown, ShowsKey, ShowsMore, ShowsSame, shown_at}
use Rattle.hcc_table.specs.Still.{BeganWithin}
use Rattle.hcc_table.specs.Tries.{Inserts, MatchesAt, PassesTaken, ShowsBy, TriesAt, UsesEntry}
use Rattle.hcc_table.proofs.Lasting.{entry_seeks, reach_seeks, reached_seeks}
use Rattle.hcc_table.proofs.Occupied.{show_tells, taken_tells}
use Rattle.hcc_table.proofs.Seeking.{goes_none, goes_wider}
use Rattle.hcc_table.proofs.Unshown.{owned_at}
use Rattle.hcc_charge.specs.declared.reserving.Refused.{Refused}
use Rattle.hcc_charge.specs.declared.reserving.Reservation.{Reservation}
use Rattle.hcc_charge.specs.declared.reserving.Reservation.TheVariants.{Reserved, NoPlace}
use Rattle.hcc_shard.specs.declared.inserting.Inserted.{Inserted as Stored}
use Rattle.hcc_shard.specs.declared.inserting.Inserted.TheVariants as stored
use Rattle.hcc_shard.specs.declared.inserting.Pinned.{Pinned}
use Rattle.hcc_shard.specs.declared.inserting.Pinned.TheVariants as pinned
use Rattle.hcc_shard.specs.declared.seat.ShardSeat.{ShardSeat}
use Rattle.hcc_shard.specs.declared.shard.Shard.{Shard}
use Rattle.hcc_shard.specs.Reserving.{EndsBy, InsertedAs, PinnedAs, PutsIn, TriesFrom, TriesWhere, left_out, tried_last}
use Rattle.hcc_shard.proofs.Reservings.{ends_book}
use Rattle.hcc_cache.specs.declared.seeded.Seeded.{Seeded}
use Rattle.hcc_cache.specs.Inserts.{ShowsAs, ShowsFrom, ShowsPinnedAs, ShowsWhere}
use Rattle.hcc_cache.specs.Keys.{fits_seeded}
use Rattle.hcc_cache.specs.Undisturbed.{IsUndisturbed, IsUndisturbedFrom, TriesPinnedUndisturbed, TriesUndisturbed}
use Rattle.hcc_cache.proofs.Insertions.PlacedShown.{owned_there, planned}
use Rattle.hcc_cache.proofs.Insertions.WithoutEviction.{LeavesShown, inserts_over}
use Rattle.hcc_cache.proofs.Calm.Stretches.{Calm, IsChangeOf, Keeps, Leg, Named, calm_first, calm_of, calm_rest, each_back, keeps_event, keeps_same, keeps_seeks, keeps_shown, keeps_still, keeps_then, lacked_quiet, leg, leg_event, leg_then, named_event, named_on, once_quiet, same_before, same_shown}
use Rattle.hcc_cache.proofs.Calm.Hides.{unpass_keeps}
use Rattle.hcc_cache.proofs.Calm.OtherClients.{owned_through}
use Rattle.hcc_cache.proofs.Within.Begun.{GoesOn, on_by, on_event, on_same, on_then}
use Rattle.hcc_cache.proofs.Within.Hidden.{leads_from}
use Rattle.hcc_cache.proofs.Within.Met.{each_met, match_shown, pass_lacked}

write_keeps : (event : Event) → is_write event ≡ true → keeps_shown event ≡ true
write_keeps (events.Write client) is = refl
write_keeps other is = cc

-- others make no write of a client's
no_write : (client : ℕ) (ds : List Done) → Each (IsNoStepOf client) ds
    → Each (λ (done : Done). IsStepBy client done.event → is_write done.event ≡ true) ds
no_write client [] apart = tt
no_write client (d ∷ ds) apart =
    ((λ by. absurd (apart.0 by.0 by.1)), no_write client ds apart.1)

released_keeps : {T : Type 0} (used : Bool) (weight name word : ℕ) (v : View T)
    → keeps_shown (release_done used weight name word v).event ≡ true
released_keeps true weight name word v = refl
released_keeps false weight name word v = refl

module _ {T A : Type 0} (fits : T → Key → List ℕ → Type 0) (table : RuleTable T A)
    (began : BeganWithin table fits) (client : ℕ) (key : Key) (name weight : ℕ) where
  abbrev Same : (a b : SeatOf T) → Type 0
  Same a b = ShowsSame (world_at table a) (world_at table b)

  abbrev Lacks : (a : SeatOf T) (i : ℕ) → Type 0
  Lacks a i = ¬ ShowsKey (world_at table a) key (probe_slot (slots_of table) key i)

  -- What is passed, and what is met, shows and takes nothing.

  passes_keep : (slot word : ℕ) (e f : Effort) (a b : SeatOf T)
      → Passes fits table key name (FindsTaken table slot) slot weight word e f a b
      → Keeps table a b
  passes_keep slot word e f a b h =
      keeps_then table (keeps_event table {a = a} {b = h.mid} h.first.3 refl)
      (by (is_visible h.seen) refl)
    where
      by : (shown : Bool) → is_visible h.seen ≡ shown → Keeps table h.mid b
      by false off = keeps_same table (h.unshown off).2
      by true on =
          keeps_seeks table
          (entry_seeks fits table key name slot weight word e f h.mid b (h.shown on))

  earlier_keep : (i : ℕ) (ps : List ℕ) (e f : Effort) (a b : SeatOf T)
      → AtProbes (slots_of table) key (PassesTaken fits table key name weight) i ps e f a b
      → Keeps table a b
  earlier_keep i [] e f a b h = keeps_same table h.1
  earlier_keep i (p ∷ ps) e f a b h =
      keeps_then table
      (passes_keep (probe_slot (slots_of table) key i) p h.2.between h.0 a h.2.mid h.2.passes)
      (keeps_then table (keeps_event table {b = h.1} h.2.event refl)
      (earlier_keep (i + 1) ps h.0 f h.1 b h.3))

  match_keep : (slot : ℕ) (e f : Effort) (a b : SeatOf T)
      → MatchesAt fits table key name weight slot e f a b → Keeps table a b
  match_keep slot e f a b h =
      keeps_then table (keeps_event table {a = a} {b = h.mid} h.first.3 refl)
      (keeps_then table
      (keeps_seeks table (reach_seeks table slot weight name h.word h.mid uses.mid uses.reaches.by))
      (keeps_then table
      (keeps_seeks table
      (reached_seeks table slot weight name h.word h.mid uses.mid uses.reaches.by))
      (keeps_then table (keeps_seeks table uses.seeks)
      (keeps_event table {a = uses.held} {b = b} uses.by.1
      (released_keeps (is_counting h.word) weight name uses.by.0 (view uses.held))))))
    where
      uses : UsesEntry fits table key name weight slot h.word e f h.mid b
      uses = h.uses

  -- An entry of the key was shown in an empty slot.
  module _ (slot : ℕ) (a b : SeatOf T) (h : ShowsBy fits table key name weight slot a b) where
    abbrev wrote : SeatOf T
    wrote = h.builds.0

    abbrev shows : IsEvent table (show_done weight h.called h.made (view wrote)) wrote b
    shows = h.builds.3

    writes : Keeps table h.took wrote
    writes = goes_wider table is_write keeps_shown write_keeps h.took wrote h.builds.1

    behind : GoesOn table h.took b
    behind = on_then table (on_by table writes) (on_event table {b = b} shows)

    placed_leg : Leg table a b
    placed_leg =
        leg_then table (leg_event table {b = h.took} h.takes)
        (leg_then table (leg table writes) (leg_event table {b = b} shows))

    module _ (named : Named client a) (calm : Calm client a b) where
      abbrev first : State
      first = world_of (plan_of table) (past a ++ h.takes.0.others)

      abbrev front : List Done
      front = past wrote ++ shows.0.others

      abbrev last : State
      last = world_of (plan_of table) front

      before : ShowsSame (world_at table a) first
      before =
          same_before fits table began client {b = h.took} h.takes named
          (calm_first client table calm (on_event table h.takes) behind)

      took : (shown_at first slot ≡ None)
          × ((s : ℕ) → shown_at (world_at table h.took) s ≡ shown_at first s)
          × ((left : Slot) × (slice_get (world_at table h.took).slots slot ≡ Some left))
          × (owned_at (world_at table h.took) (view a).client ≡ Some (owned.ForBuilding slot))
      took =
          taken_tells first (world_at table h.took) (view a).client slot h.word
          (leads_from table (occupy_done slot h.word (view a)) a h.took h.takes) h.empty

      named_took : Named client h.took
      named_took = named_event fits table began client h.takes named

      calm_took : Calm client h.took b
      calm_took = calm_rest client table calm (on_event table h.takes)

      calm_wrote : Calm client wrote b
      calm_wrote = calm_rest client table calm_took (on_by table writes)

      -- what was shown before the show is what was when the slot was tried
      same_last : ShowsSame (world_at table a) last
      same_last s =
          same_before fits table began client shows
          (named_on fits table began client writes named_took) calm_wrote s
          ∙ same_shown fits table began client writes named_took
          (calm_first client table calm_took (on_by table writes) (on_event table shows)) s
          ∙ took.1 s ∙ before s

      -- who shows it is the client, and it owns the slot
      own : (view wrote).client ≡ client
      own =
          (each_back (IsChangeOf client) shows.0.others
          (show_done weight h.called h.made (view wrote) ∷ [])
          (calm_wrote.by (shows.0.others ++ show_done weight h.called h.made (view wrote) ∷ [])
          shows.0.past)).0 refl

      owns : owned_at last client ≡ Some (owned.ForBuilding slot)
      owns =
          ap (λ (w : State). owned_at w client)
          (after_more (past wrote) shows.0.others (begun_world (plan_of table)))
          ∙ owned_through client shows.0.others
          (no_write client shows.0.others
          (shows.0.apart client (named_on fits table began client writes named_took).is))
          (world_at table wrote)
          ∙ ap (λ ds. owned_at (world_of (plan_of table) ds) client) h.builds.1.goes_on
          ∙ ap (λ (w : State). owned_at w client)
          (after_more (past h.took) h.builds.1.more (begun_world (plan_of table)))
          ∙ owned_through client h.builds.1.more (h.builds.1.own client named_took.is)
          (world_at table h.took)
          ∙ ap (owned_at (world_at table h.took)) (sym own ∙ h.builds.2 ∙ h.same) ∙ took.3

      built : (built : Slot) × (slice_get last.slots slot ≡ Some built)
      built =
          owned_there last
          (run_lawful fits (plan_of table) (planned fits table began) began (events_of front))
          client slot owns

      told : ((e : Entry) × (shown_at (world_at table b) slot ≡ Some e)
          × (e.key0 ≡ h.made.key.w0) × (e.key1 ≡ h.made.key.w1))
          × ((s : ℕ) → s ≢ slot → shown_at (world_at table b) s ≡ shown_at last s)
      told =
          show_tells last (world_at table b) (view wrote).client h.made.key.w0 h.made.key.w1
          h.made.charge weight h.called h.made.value slot built.0 _
          (leads_from table (show_done weight h.called h.made (view wrote)) wrote b shows)
          (ap (owned_at last) own ∙ owns) built.1

      asked : key_of told.0.0 ≡ key
      asked = (λ k. record { w0 = told.0.2 k; w1 = told.0.3 k }) ∙ h.asked

      placed_shows : (shown_at (world_at table a) slot ≡ None)
          × ShowsKey (world_at table b) key slot
          × ((s : ℕ) → s ≢ slot → shown_at (world_at table b) s ≡ shown_at (world_at table a) s)
      placed_shows = (
        sym (before slot) ∙ took.0,
        subst (λ o. IsSomeAnd o (λ e. key_of e ≡ key)) (sym told.0.1) asked,
        λ s other. told.1 s other ∙ same_last s,
      )

  module _ (e f : Effort) (old new : SeatOf T) where
    -- all that the tries did
    inserts_leg : (answer : Insertion)
        → Inserts fits table key name weight answer e f old new → Leg table old new
    inserts_leg answer m =
        leg_then table (leg table (earlier_keep 0 m.earlier e m.between old m.mid m.probes))
        (leg_then table (by answer m.tries) (leg table m.rest))
      where
        at : ℕ
        at = probe_slot (slots_of table) key (length m.earlier)

        by : (told : Insertion)
            → TriesAt fits table key name weight at told m.counted f m.mid m.done
            → Leg table m.mid m.done
        by (Placed slot) tries = placed_leg at m.mid m.done tries.3
        by Matched tries = leg table (match_keep at m.counted f m.mid m.done tries)
        by NoSlot tries =
            leg table (passes_keep at tries.0 m.counted f m.mid m.done tries.1)

  module _ (e f : Effort) (old new : SeatOf T) (named : Named client old)
      (calm : Calm client old new) where
    module _ (answer : Insertion)
        (m : Inserts fits table key name weight answer e f old new) where
      earlier : Keeps table old m.mid
      earlier = earlier_keep 0 m.earlier e m.between old m.mid m.probes

      back : Keeps table m.done new
      back = goes_wider table _ keeps_shown unpass_keeps m.done new m.rest

      -- the slots that were passed lacked the key, and nothing of what is shown changed there
      module _ (tries : Leg table m.mid m.done) where
        later : GoesOn table m.mid new
        later = on_then table (on_by table tries) (on_by table back)

        named_mid : Named client m.mid
        named_mid = named_on fits table began client earlier named

        calm_mid : Calm client m.mid new
        calm_mid = calm_rest client table calm (on_by table earlier)

        calm_tries : Calm client m.mid m.done
        calm_tries = calm_first client table calm_mid (on_by table tries) (on_by table back)

        same_mid : Same old m.mid
        same_mid =
            same_shown fits table began client earlier named
            (calm_first client table calm (on_by table earlier) later)

        same_back : Same m.done new
        same_back =
            same_shown fits table began client back
            (named_on fits table began client tries named_mid)
            (calm_rest client table calm_mid (on_by table tries))

        earlier_lack : (i : ℕ) → i < length m.earlier → Lacks old i
        earlier_lack i less =
            lacked_quiet fits table began client earlier named
            (calm_first client table calm (on_by table earlier) later)
            (each_met fits table key name weight 0 m.earlier e m.between old m.mid (inl refl)
            (on_same table refl) m.probes i (omega arith) (omega arith)).0

    -- By the answer.
    pub inserts_quiet : (answer : Insertion)
        → Inserts fits table key name weight answer e f old new
        → InsertsShown (slots_of table) key answer (world_at table old) (world_at table new)
    inserts_quiet (Placed slot) m =
        let at = probe_slot (slots_of table) key (length m.earlier) in
        let tries = placed_leg at m.mid m.done m.tries.3 in
        let same = same_mid (Placed slot) m tries in
        let after = same_back (Placed slot) m tries in
        let shows = placed_shows at m.mid m.done m.tries.3 (named_mid (Placed slot) m tries)
        (calm_tries (Placed slot) m tries) in
        subst (λ s. ShowsMore (slots_of table) key s (world_at table old) (world_at table new))
        (sym m.tries.0)
        (record {
          i = length m.earlier;
          probe = refl;
          before = λ j less. earlier_lack (Placed slot) m tries j less;
          free = sym (same at) ∙ shows.0;
          shows =
              subst (λ o. IsSomeAnd o (λ e. key_of e ≡ key)) (sym (after at)) shows.1;
          others = λ s other. after s ∙ shows.2 s other ∙ same s;
        })
    inserts_quiet Matched m =
        let at = probe_slot (slots_of table) key (length m.earlier) in
        let keeps = match_keep at m.counted f m.mid m.done m.tries in
        let tries = leg table keeps in
        let same = same_mid Matched m tries in
        let met = match_shown fits table key name weight at m.counted f m.mid m.done m.tries
        (inl refl) (on_same table refl) in
        let once = once_quiet fits table began client (λ w. shown_at w at ≡ Some met.0) keeps
        (named_mid Matched m tries) (calm_tries Matched m tries) met.2 in
        let there : ShowsKey (world_at table old) key at =
        subst (λ o. IsSomeAnd o (λ e. key_of e ≡ key))
        (sym once.2 ∙ once.1 at ∙ same at) met.1 in (
          length m.earlier,
          elim (cases_lt (length m.earlier) (slots_of table)) [
            | inl low ↦ low
            | inr high ↦
                let low = probe_inside (slots_of table) key (length m.earlier)
                (some_slots (slots_of table) table.limits.power) in
                let probe = probe_of_slot (slots_of table) key table.limits.power at low in
                absurd (earlier_lack Matched m tries probe.0 (let less = probe.1 in omega arith)
                (subst (λ s. ShowsKey (world_at table old) key s) (sym probe.2) there))
          ],
          there,
          λ j less. earlier_lack Matched m tries j less,
          λ s. same_back Matched m tries s
              ∙ same_shown fits table began client keeps (named_mid Matched m tries)
              (calm_tries Matched m tries) s
              ∙ same s,
        )
    inserts_quiet NoSlot m =
        let at = probe_slot (slots_of table) key (length m.earlier) in
        let keeps = passes_keep at m.tries.0 m.counted f m.mid m.done m.tries.1 in
        let tries = leg table keeps in
        let same = same_mid NoSlot m tries in
        let last = lacked_quiet fits table began client keeps (named_mid NoSlot m tries)
        (calm_tries NoSlot m tries)
        (pass_lacked fits table key name weight at m.tries.0 m.counted f m.mid m.done m.tries.1
        (inl refl) (on_same table refl)) in
        let whole = m.all refl in (
          λ slot near.
              let probe = probe_of_slot (slots_of table) key table.limits.power slot near in
              subst (λ s. ¬ ShowsKey (world_at table old) key s) probe.2
              (elim (cases_lt probe.0 (length m.earlier)) [
                | inl visited ↦ earlier_lack NoSlot m tries probe.0 visited
                | inr here ↦
                    let low = probe.1 in
                    let is : length m.earlier ≡ probe.0 = omega arith in
                    subst (λ n. Lacks old n) is
                    (λ shows. last
                    (subst (λ o. IsSomeAnd o (λ e. key_of e ≡ key)) (sym (same at)) shows))
              ]),
          λ s. same_back NoSlot m tries s
              ∙ same_shown fits table began client keeps (named_mid NoSlot m tries)
              (calm_tries NoSlot m tries) s
              ∙ same s,
        )

-- So it is of a whole insertion that evicts nothing.
pub leaves_quiet : {T : Type 0} (fits : T → Key → List ℕ → Type 0)
    (shard : Shard (Seeded T) Global) (draft : Draft) (old new : ShardSeat (Seeded T))
    → BeganWithin shard.table (fits_seeded fits) → (client : ℕ) → Named client old.seat
    → Calm client old.seat new.seat → LeavesShown fits shard draft old new
leaves_quiet fits shard draft old new began client named calm answer r t first last =
    inserts_over (slots_of shard.table) draft.key answer (world_at shard.table old.seat)
    (world_at shard.table r.reserved) (world_at shard.table t.done) (world_at shard.table new.seat)
    (same_shown (fits_seeded fits) shard.table began client (keeps_still shard.table first) named
    (calm_first client shard.table calm (on_by shard.table first) later))
    (inserts_quiet (fits_seeded fits) shard.table began client draft.key draft.serial
    draft.countdown r.counted new.effort r.reserved t.done
    (named_on (fits_seeded fits) shard.table began client first named)
    (calm_first client shard.table rest tried (on_by shard.table last)) answer t.inserts)
    (same_shown (fits_seeded fits) shard.table began client (keeps_still shard.table last)
    (named_on (fits_seeded fits) shard.table began client tries
    (named_on (fits_seeded fits) shard.table began client first named))
    (calm_rest client shard.table rest tried))
  where
    tries : Leg shard.table r.reserved t.done
    tries =
        inserts_leg (fits_seeded fits) shard.table began client draft.key draft.serial
        draft.countdown r.counted new.effort r.reserved t.done answer t.inserts

    tried : GoesOn shard.table r.reserved t.done
    tried = on_by shard.table tries

    later : GoesOn shard.table r.reserved new.seat
    later = on_then shard.table tried (on_by shard.table last)

    rest : Calm client r.reserved new.seat
    rest = calm_rest client shard.table calm (on_by shard.table first)

-- And so it is of what comes behind an eviction.
module _ {T : Type 0} (fits : T → Key → List ℕ → Type 0) (shard : Shard (Seeded T) Global)
    (draft : Draft) (old new : ShardSeat (Seeded T))
    (began : BeganWithin shard.table (fits_seeded fits)) (client : ℕ)
    (named : Named client new.seat) where
  tries_quiet : (reserved : SeatOf (Seeded T)) (counted : Effort) (answer : Insertion)
      (t : TriesFrom (fits_seeded fits) shard draft reserved counted answer new)
      → GoesOnBy shard.table is_booking t.done new.seat
      → IsUndisturbed client reserved new.seat
      → ShowsFrom fits shard draft reserved t.done answer
  tries_quiet reserved counted answer t books quiet =
      inserts_quiet (fits_seeded fits) shard.table began client draft.key draft.serial
      draft.countdown counted new.effort reserved t.done
      (record {
        is =
            subst (λ n. 1 ≤ n) (tries.named client)
            (subst (λ n. 1 ≤ n) (books.named client) named.is);
      })
      (calm_first client shard.table (calm_of client quiet) (on_by shard.table tries)
      (on_by shard.table books)) answer t.inserts
    where
      tries : Leg shard.table reserved t.done
      tries =
          inserts_leg (fits_seeded fits) shard.table began client draft.key draft.serial
          draft.countdown counted new.effort reserved t.done answer t.inserts

  left_quiet : (keeps : Bool) (told : Reservation) (matched : Bool) (reserved : SeatOf (Seeded T))
      (counted : Effort)
      (t : TriesWhere (fits_seeded fits) shard draft told reserved counted (left_out matched) new)
      → EndsBy shard draft keeps told
      (tried_last (fits_seeded fits) shard draft told reserved counted (left_out matched) new t)
      new.seat
      → IsUndisturbedFrom client fits shard draft told reserved new.seat
      → ShowsWhere fits shard draft told reserved counted (left_out matched) new t
  left_quiet keeps Reserved matched reserved counted t ends quiet =
      tries_quiet reserved counted (left_out matched) t
      (ends_book shard draft keeps Reserved t.done new.seat ends) quiet
  left_quiet keeps NoPlace matched reserved counted t ends quiet = tt

  put_quiet : (slot : ℕ) (puts : PutsIn (fits_seeded fits) shard draft true true slot old new)
      → IsUndisturbed client puts.reserves.reserved new.seat
      → ShowsFrom fits shard draft puts.reserves.reserved puts.tries.done (Placed slot)
  put_quiet slot puts quiet =
      tries_quiet puts.reserves.reserved puts.reserves.counted (Placed slot) puts.tries
      (goes_none shard.table is_booking puts.tries.done new.seat puts.ends) quiet

  pub shows_quiet_as : (answer : Result Stored Refused)
      (did : InsertedAs (fits_seeded fits) shard draft true true answer old new)
      → TriesUndisturbed client fits shard draft answer old new did
      → ShowsAs fits shard draft answer old new did
  shows_quiet_as (Ok stored.Placed) did quiet = put_quiet did.0 did.1 quiet
  shows_quiet_as (Ok stored.Dropped) did quiet =
      left_quiet false did.told did.matched did.reserves.reserved did.reserves.counted did.tries
      did.ends quiet
  shows_quiet_as (Err why) did quiet = tt

  pub shows_quiet_pinned : (answer : Result Pinned Refused)
      (did : PinnedAs (fits_seeded fits) shard draft true true answer old new)
      → TriesPinnedUndisturbed client fits shard draft answer old new did
      → ShowsPinnedAs fits shard draft answer old new did
  shows_quiet_pinned (Ok (pinned.Placed pin)) did quiet = put_quiet pin.slot did quiet
  shows_quiet_pinned (Ok pinned.Standalone) did quiet =
      left_quiet true did.told did.matched did.reserves.reserved did.reserves.counted did.tries
      did.ends quiet
  shows_quiet_pinned (Err why) did quiet = tt
