use Rattle.std.proofs.Common.{◌≡◌, ◌+◌, ◌≤◌, true, false, Some, IfSome, length, refl, sym, ap, subst, ◌∙◌, arith}
use Rattle.hcc_word.specs.Word.{is_visible}
use Rattle.hcc_core.specs.declared.slot.Entry.{Entry}
use Rattle.hcc_core.specs.Lawful.{is_in}
use Rattle.hcc_core.specs.Runs.{entry_at}
use Rattle.hcc_rule.specs.declared.view.View.{View}
use Rattle.hcc_rule.specs.Callers.{plan_of, room_of, world_at}
use Rattle.hcc_rule.specs.Seats.{SeatOf, made, view}
use Rattle.hcc_rule.specs.ToldGlimpses.{IsRightEntry}
use Rattle.hcc_rule.specs.Words.{words_for}
use Rattle.hcc_table.specs.Optimistic.{PeeksKey, PeeksOnce}
use Rattle.hcc_table.specs.Readings.{HasWords}
use Rattle.hcc_table.specs.Seeking.{Seeks}
use Rattle.hcc_table.proofs.Glances.{FirstGlance, ShowsStamp, first_glance, first_reads, all_reads, last_glance, reads_kept, reads_then, same_key, stood_between}
use Rattle.hcc_table.proofs.Loads.{loads_seek, loads_then}
use Rattle.hcc_table.proofs.Moments.{moment_of}
use Rattle.hcc_table.proofs.Peeks.{IsWord, peek_led, peek_loads, shown_stands}
use Rattle.hcc_table.proofs.Seeking.{seeks_none, seeks_then}
use Rattle.hcc_table.proofs.optimistic.read_there.Goals as goal

pub returns-then-not-is_shown-clause-by : goal.returns-then-not-is_shown-clause-by
returns-then-not-is_shown-clause-by g c =
    (first_reads c.args.table.now c.args.at.slot c.glance_at-word.result c.glimpse_at-stamp.new.seat
    c.glimpse_at-stamp.ensures.view c.glimpse_at-stamp.ensures.event
    c.glance_at-word.ensures.event).0

pub returns-then-not-shows_key-clause-by : goal.returns-then-not-shows_key-clause-by
returns-then-not-shows_key-clause-by g c =
    reads_then c.args.table.now (first_reads c.args.table.now c.args.at.slot c.glance_at-word.result
    c.glimpse_at-stamp.new.seat c.glimpse_at-stamp.ensures.view c.glimpse_at-stamp.ensures.event
    c.glance_at-word.ensures.event).0
    (reads_kept c.args.table.now c.shows_key.ensures.view c.shows_key.ensures.loads)

pub returns-in_default-clause-by : goal.returns-in_default-clause-by
returns-in_default-clause-by g c =
    reads_then c.args.table.now (first_reads c.args.table.now c.args.at.slot c.glance_at-word.result
    c.glimpse_at-stamp.new.seat c.glimpse_at-stamp.ensures.view c.glimpse_at-stamp.ensures.event
    c.glance_at-word.ensures.event).0 (reads_kept c.args.table.now
    (c.load_value.ensures.view ∙ c.shows_key.ensures.view)
    (loads_then c.args.table.now _ _ _ c.shows_key.ensures.loads c.load_value.ensures.loads))

pub returns-then-recheck_at-stamp-clause-by : goal.returns-then-recheck_at-stamp-clause-by
returns-then-recheck_at-stamp-clause-by g c =
    all_reads c.args.table.now c.args.at.slot c.glance_at-word.result c.glance_at-last.result
    c.glimpse_at-stamp.new.seat c.glance_at-last.new.seat c.glimpse_at-stamp.ensures.view
    c.glimpse_at-stamp.ensures.event c.glance_at-word.ensures.event
    (c.load_value.ensures.view ∙ c.shows_key.ensures.view)
    (loads_then c.args.table.now _ _ _ c.shows_key.ensures.loads c.load_value.ensures.loads)
    c.glance_at-last.ensures.event c.recheck_at.ensures.view c.recheck_at.ensures.event

pub returns-clause-by : goal.returns-clause-by
returns-clause-by g c =
    all_reads c.args.table.now c.args.at.slot c.glance_at-word.result c.glance_at-last.result
    c.glimpse_at-stamp.new.seat c.glance_at-last.new.seat c.glimpse_at-stamp.ensures.view
    c.glimpse_at-stamp.ensures.event c.glance_at-word.ensures.event
    (c.load_value.ensures.view ∙ c.shows_key.ensures.view)
    (loads_then c.args.table.now _ _ _ c.shows_key.ensures.loads c.load_value.ensures.loads)
    c.glance_at-last.ensures.event c.recheck_at.ensures.view c.recheck_at.ensures.event

pub returns-clause-reads : goal.returns-clause-reads
returns-clause-reads g c = (
  record {
    entry = entry;
    asked = same_key entry (fact (λ e. e.key0 ≡ c.args.key.w0) seen keyed
        (seeks_none c.args.table.now seen)
        (seeks_then c.args.table.now keyed loaded last to_loaded to_last) key.first)
        (fact (λ e. e.key1 ≡ c.args.key.w1) seen keyed (seeks_none c.args.table.now seen)
        (seeks_then c.args.table.now keyed loaded last to_loaded to_last) key.second);
    right = right;
    alive = subst (λ m. is_in m (view c.args.seat.now).work.dead ≡ false) (sym first.shows.2)
        (subst (λ (v : View g.row.T.Denot). is_in first.stamp v.work.dead ≡ false)
        c.glimpse_at-stamp.ensures.view first.alive);
    word = c.glance_at-word.result;
    glances = record {
      before = peeked;
      moment = seen;
      is_moment = moment_of c.args.table.now (peek_led c.args.table.now c.args.at.slot peeked
          c.glimpse_at-stamp.ensures.event
          (ap (λ (v : View g.row.T.Denot). v.client) c.glimpse_at-stamp.ensures.view))
          c.glance_at-word.ensures.event.2 refl refl (seeks_then c.args.table.now seen keyed _
          to_keyed (seeks_then c.args.table.now keyed loaded _ to_loaded
          (seeks_then c.args.table.now loaded last _ to_last to_end)));
      loads = c.glance_at-word.ensures.step;
      visible = visible;
      shows = first.shows.1;
    };
    spare = c.is_spare.ensures c.if-not-is_spare.false;
    copies = c.unpack.ensures.copies entry.value long right.bytes words;
  },
  few,
)
  where
    peeked : SeatOf g.row.T.Denot
    peeked = c.glimpse_at-stamp.new.seat

    seen : SeatOf g.row.T.Denot
    seen = c.glance_at-word.new.seat

    keyed : SeatOf g.row.T.Denot
    keyed = c.shows_key.new.seat

    loaded : SeatOf g.row.T.Denot
    loaded = c.load_value.new.seat

    last : SeatOf g.row.T.Denot
    last = c.glance_at-last.new.seat

    to_keyed : Seeks c.args.table.now seen keyed
    to_keyed = loads_seek c.args.table.now seen keyed c.shows_key.ensures.loads

    to_loaded : Seeks c.args.table.now keyed loaded
    to_loaded = loads_seek c.args.table.now keyed loaded c.load_value.ensures.loads

    to_last : Seeks c.args.table.now loaded last
    to_last =
        loads_seek c.args.table.now loaded last (peek_loads c.args.table.now c.args.at.slot last
        (c.glance_at-last.ensures.event.0, c.glance_at-last.ensures.event.2))

    to_end : Seeks c.args.table.now last c.recheck_at.new.seat
    to_end =
        loads_seek c.args.table.now last _ (peek_loads c.args.table.now c.args.at.slot
        c.recheck_at.new.seat c.recheck_at.ensures.event)

    visible : is_visible c.glance_at-word.result ≡ true
    visible = sym c.is_shown.ensures ∙ c.if-not-is_shown.false

    first : FirstGlance c.args.table.now c.args.at.slot c.glimpse_at-stamp.result peeked seen
    first =
        first_glance c.args.table.now c.args.at.slot c.glance_at-word.result (view c.args.seat.now)
        c.glimpse_at-stamp.ensures.view c.glance_at-word.ensures.event visible

    again : ShowsStamp c.args.table.now c.args.at.slot first.stamp last
    again =
        last_glance c.args.table.now c.args.at.slot c.glance_at-last.result loaded last
        (ap (λ (v : View g.row.T.Denot). v.glimpse)
        (c.load_value.ensures.view ∙ (c.shows_key.ensures.view ∙ first.after))) first.stood
        c.glance_at-last.ensures.event
        (sym c.is_shown-else-recheck_at-stamp.ensures ∙ c.if-not-is_shown-2.false)
        c.recheck_at.ensures.apart c.if-recheck_at-stamp.false

    entry : Entry
    entry = first.shows.0

    here : entry_at (world_at c.args.table.now seen) c.args.at.slot ≡ Some entry
    here = shown_stands (world_at c.args.table.now seen) c.args.at.slot first.shows.1

    -- what a load told is of this entry
    fact : (P : Entry → Type 0) (a b : SeatOf g.row.T.Denot) → Seeks c.args.table.now seen a
        → Seeks c.args.table.now b last → PeeksOnce c.args.table.now c.args.at.slot P a b
        → P entry
    fact P a b before behind told =
        stood_between c.args.table.now c.args.at.slot c.glance_at-word.ensures.between before behind
        told here (shown_stands (world_at c.args.table.now last) c.args.at.slot again.1)
        (again.2 ∙ sym first.shows.2)

    key : PeeksKey c.args.table.now c.args.key c.args.at.slot seen keyed
    key = c.shows_key.ensures.equal c.if-not-shows_key.false

    right : IsRightEntry g.T.Tag.fits (plan_of c.args.table.now).tag (room_of c.args.table.now)
        entry
    right =
        subst (λ o. IfSome o (IsRightEntry g.T.Tag.fits (plan_of c.args.table.now).tag
        (room_of c.args.table.now))) here c.glance_at-word.ensures.right

    long : c.in-Some.count ≡ length entry.value
    long =
        fact (λ e. c.in-Some.count ≡ length e.value) keyed loaded to_keyed to_last
        c.in-Some.ensures.length

    words : HasWords c.load_value.new.words entry.value
    words j within =
        fact (IsWord c.args.table.now c.args.at.slot c.load_value.new.words j) keyed loaded to_keyed
        to_last (c.in-Some.ensures.words j (omega (arith, within, long))) within

    few : made c.recheck_at.new.seat ≤ made c.args.seat.now + (7 + words_for (length entry.value))
    few =
        let glimpse = c.glimpse_at-stamp.ensures.step.one in
        let glance = c.glance_at-word.ensures.step.one in
        let halves = c.shows_key.ensures.steps in
        let value = c.in-Some.ensures.fits.2 in
        let back = c.glance_at-last.ensures.step.one in
        let check = c.recheck_at.ensures.step.one in
        let same : words_for c.in-Some.count ≡ words_for (length entry.value) =
        ap words_for long in
        omega (arith, glimpse, glance, halves, value, back, check, same)
