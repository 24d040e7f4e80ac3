use Rattle.std.proofs.Common.{◌≡◌, true, refl, sym, ◌∙◌}
use Rattle.hcc_rule.specs.Seats.{view}
use Rattle.hcc_rule.specs.declared.layout.TheConstants.{CHARGE}
use Rattle.hcc_rule.specs.ToldOwners.{IsDataWord}
use Rattle.hcc_word.specs.Word.{is_shareable}
use Rattle.hcc_table.specs.Pinned.{is_held}
use Rattle.hcc_table.proofs.Pinnings.{no_entry, no_references, charge_is, charged_each, counts_seek, held_word}
use Rattle.hcc_table.specs.Searched.{Sought}
use Rattle.hcc_table.proofs.Probes.{looked_at, holds, holds_slot, given_back, on_entry, one_entry, told_key}
use Rattle.hcc_table.proofs.Probings.{neither}
use Rattle.hcc_table.proofs.Reaches.{all_reached}
use Rattle.hcc_table.proofs.Searches.{read_there, searched_refl}
use Rattle.hcc_table.proofs.Seeking.{seeks_one}
use Rattle.hcc_table.proofs.pinning.pinned_charge.Goals as goal

pub read_at-charge-requires-clause-holds : goal.read_at-charge-requires-clause-holds
read_at-charge-requires-clause-holds g c =
    holds_slot (looked_at c.args.slot c.look_at-word.result (view c.args.seat.now)
    (view c.look_at-word.new.seat) c.look_at-word.ensures.view) c.reach-found.ensures.view (sym
    c.if-not-has_entry-2.ensures) c.requires.fresh (searched_refl (view c.reach-found.new.seat))

pub give_at-requires-clause-holds : goal.give_at-requires-clause-holds
give_at-requires-clause-holds g c =
    holds (looked_at c.args.slot c.look_at-word.result (view c.args.seat.now)
    (view c.look_at-word.new.seat) c.look_at-word.ensures.view) c.reach-found.ensures.view
    (sym c.if-not-has_entry-2.ensures) c.requires.fresh
    (read_there c.args.name CHARGE _ _ c.read_at-charge.ensures.view)

pub returns-then-refs-eq0-2-clause-view : goal.returns-then-refs-eq0-2-clause-view
returns-then-refs-eq0-2-clause-view g c =
    given_back (looked_at c.args.slot c.look_at-word.result (view c.args.seat.now)
    (view c.look_at-word.new.seat) c.look_at-word.ensures.view) c.reach-found.ensures.view
    (sym c.if-not-has_entry-2.ensures) c.requires.fresh c.give_at.result
    (read_there c.args.name CHARGE _ _ c.read_at-charge.ensures.view) c.give_at.ensures.view

pub returns-clause-view : goal.returns-clause-view
returns-clause-view g c =
    given_back (looked_at c.args.slot c.look_at-word.result (view c.args.seat.now)
    (view c.look_at-word.new.seat) c.look_at-word.ensures.view) c.reach-found.ensures.view
    (sym c.if-not-has_entry-2.ensures) c.requires.fresh c.give_at.result
    (read_there c.args.name CHARGE _ _ c.read_at-charge.ensures.view) c.give_at.ensures.view

pub returns-clause-held : goal.returns-clause-held
returns-clause-held g c some =
    let has = sym c.if-not-has_entry-2.ensures in
    let entry = (c.reach-found.ensures.view.got has).0 in
    let looked = looked_at c.args.slot c.look_at-word.result (view c.args.seat.now)
    (view c.look_at-word.new.seat) c.look_at-word.ensures.view in
    charged_each c.args.slot entry (view c.args.seat.now).records (charge_is entry (told_key looked
    c.reach-found.ensures.view has c.requires.fresh
    (λ e. IsDataWord e CHARGE c.read_at-charge.result) c.read_at-charge.ensures.word))
    (one_entry looked c.reach-found.ensures.view has c.requires.fresh)

pub returns-clause-small : goal.returns-clause-small
returns-clause-small g c =
    let has = sym c.if-not-has_entry-2.ensures in
    let got = c.reach-found.ensures.view.got has in
    let looked = looked_at c.args.slot c.look_at-word.result (view c.args.seat.now)
    (view c.look_at-word.new.seat) c.look_at-word.ensures.view in
    rw (charge_is got.0 (told_key looked c.reach-found.ensures.view has c.requires.fresh
    (λ e. IsDataWord e CHARGE c.read_at-charge.result) c.read_at-charge.ensures.word)) got.1.small

pub returns-then-not-has_entry-2-clause-counts : goal.returns-then-not-has_entry-2-clause-counts
returns-then-not-has_entry-2-clause-counts g c = record {
  seen = c.look_at-word.result;
  mid = c.look_at-word.new.seat;
  looks = (c.look_at-word.ensures.step, c.look_at-word.ensures.view, c.look_at-word.ensures.event);
  unheld = λ none. neither _ held none;
  held = λ _. record {
    word = c.reach-found.result;
    mid = c.reach-found.new.seat;
    reaches = all_reached c.reach-found.ensures.view c.reach-found.ensures.acquires
        c.reach-found.ensures.corrects c.reach-found.ensures.by;
    counted = λ some. neither _ some
        (no_entry c.reach-found.result (sym c.if-not-has_entry-2.ensures));
    uncounted = λ _. refl;
    entry = λ some. neither _ some (sym c.if-not-has_entry-2.ensures);
    stray = λ _. refl;
  };
}
  where
    held : is_held c.look_at-word.result ≡ true
    held = held_word c.look_at-word.result (sym c.if-not-has_entry.ensures)
        (λ none. c.if-refs-eq0.false (c.refs.ensures.field ∙ none))

pub returns-then-refs-eq0-2-clause-counts : goal.returns-then-refs-eq0-2-clause-counts
returns-then-refs-eq0-2-clause-counts g c = record {
  seen = c.look_at-word.result;
  mid = c.look_at-word.new.seat;
  looks = (c.look_at-word.ensures.step, c.look_at-word.ensures.view, c.look_at-word.ensures.event);
  unheld = λ none. neither _ held none;
  held = λ _. record {
    word = c.reach-found.result;
    mid = c.reach-found.new.seat;
    reaches = all_reached c.reach-found.ensures.view c.reach-found.ensures.acquires
        c.reach-found.ensures.corrects c.reach-found.ensures.by;
    counted = λ some. neither _ some
        (no_references c.reach-found.result (sym c.refs-2.ensures.field ∙ c.if-refs-eq0-2.true));
    uncounted = λ _. refl;
    entry = λ _. record {
      word = c.read_at-charge.result;
      mid = c.read_at-charge.new.seat;
      loads = c.read_at-charge.ensures.step;
      reads = c.read_at-charge.ensures.event;
      left = c.give_at.result;
      subtracts = c.give_at.ensures.step;
      gives = c.give_at.ensures.event;
    };
    stray = λ none. neither _ (sym c.if-not-has_entry-2.ensures) none;
  };
}
  where
    held : is_held c.look_at-word.result ≡ true
    held = held_word c.look_at-word.result (sym c.if-not-has_entry.ensures)
        (λ none. c.if-refs-eq0.false (c.refs.ensures.field ∙ none))

pub returns-clause-counts : goal.returns-clause-counts
returns-clause-counts g c = record {
  seen = c.look_at-word.result;
  mid = c.look_at-word.new.seat;
  looks = (c.look_at-word.ensures.step, c.look_at-word.ensures.view, c.look_at-word.ensures.event);
  unheld = λ none. neither _ held none;
  held = λ _. record {
    word = c.reach-found.result;
    mid = c.reach-found.new.seat;
    reaches = all_reached c.reach-found.ensures.view c.reach-found.ensures.acquires
        c.reach-found.ensures.corrects c.reach-found.ensures.by;
    counted = λ _. on_entry looked c.reach-found.ensures.view has c.requires.fresh
        (λ e. c.read_at-charge.result ≡ e.charge) (charge_is (c.reach-found.ensures.view.got has).0
        (told_key looked c.reach-found.ensures.view has c.requires.fresh
        (λ e. IsDataWord e CHARGE c.read_at-charge.result) c.read_at-charge.ensures.word));
    uncounted = λ none. neither _ (held_word c.reach-found.result (sym c.if-not-has_entry-2.ensures)
        (λ none. c.if-refs-eq0-2.false (c.refs-2.ensures.field ∙ none))) none;
    entry = λ _. record {
      word = c.read_at-charge.result;
      mid = c.read_at-charge.new.seat;
      loads = c.read_at-charge.ensures.step;
      reads = c.read_at-charge.ensures.event;
      left = c.give_at.result;
      subtracts = c.give_at.ensures.step;
      gives = c.give_at.ensures.event;
    };
    stray = λ none. neither _ (sym c.if-not-has_entry-2.ensures) none;
  };
}
  where
    has : is_shareable c.reach-found.result ≡ true
    has = sym c.if-not-has_entry-2.ensures

    looked : Sought (view c.args.seat.now) (view c.look_at-word.new.seat)
    looked =
        looked_at c.args.slot c.look_at-word.result (view c.args.seat.now)
        (view c.look_at-word.new.seat) c.look_at-word.ensures.view

    held : is_held c.look_at-word.result ≡ true
    held = held_word c.look_at-word.result (sym c.if-not-has_entry.ensures)
        (λ none. c.if-refs-eq0.false (c.refs.ensures.field ∙ none))

pub returns-then-not-has_entry-2-clause-seeks : goal.returns-then-not-has_entry-2-clause-seeks
returns-then-not-has_entry-2-clause-seeks g c =
    counts_seek c.requires.fresh (returns-then-not-has_entry-2-clause-counts g c)

pub returns-then-refs-eq0-2-clause-seeks : goal.returns-then-refs-eq0-2-clause-seeks
returns-then-refs-eq0-2-clause-seeks g c =
    counts_seek c.requires.fresh (returns-then-refs-eq0-2-clause-counts g c)

pub returns-clause-seeks : goal.returns-clause-seeks
returns-clause-seeks g c = counts_seek c.requires.fresh (returns-clause-counts g c)

pub returns-then-not-has_entry-clause-seeks : goal.returns-then-not-has_entry-clause-seeks
returns-then-not-has_entry-clause-seeks g c =
    seeks_one c.args.table.now _ c.args.seat.now c.look_at-word.new.seat
    c.look_at-word.ensures.event refl
