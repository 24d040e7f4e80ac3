use Rattle.std.proofs.Common.{◌∷◌, [], ap, sym, length, slice_index, subst, ◌∙◌, arith}
use Rattle.hcc_core.specs.declared.event.Event.TheVariants as events
use Rattle.hcc_core.specs.declared.event.Reply.TheVariants as replies
use Rattle.hcc_rule.specs.declared.layout.TheConstants.{KEY1}
use Rattle.hcc_rule.specs.declared.view.View.{View}
use Rattle.hcc_rule.specs.Acts.{did}
use Rattle.hcc_rule.specs.Callers.{IsEvent, room_of}
use Rattle.hcc_table.specs.Freed.{HasWord, owned_freed, owned_key}
use Rattle.hcc_table.specs.Lists.{Puts}
use Rattle.hcc_table.specs.Seeking.{is_unpass}
use Rattle.hcc_table.proofs.Seeking.{goes_quiet, goes_then}
use Rattle.hcc_table.proofs.freeing.free_taken_at.Goals as goal

pub returns-clause-steps : goal.returns-clause-steps
returns-clause-steps g c =
    let same = c.put_own.ensures.view ∙ c.read_own_at-charge.ensures.view
    ∙ c.read_own_at-2.ensures.view ∙ c.read_own_at.ensures.view in
    let trail = ap (λ v. length v.work.trail) same in
    let first = c.read_own_at.ensures.step.one in
    let second = c.read_own_at-2.ensures.step.one in
    let third = c.read_own_at-charge.ensures.step.one in
    let put = c.put_own.ensures.steps in
    let back = c.take_back.ensures.steps in
    let last = c.empty_at.ensures.step.one in
    omega arith

pub returns-clause-past : goal.returns-clause-past
returns-clause-past g c =
    let t = c.args.table.now in
    let a = c.args.seat.now in
    let d = c.put_own.new.seat in
    let e = c.take_back.new.seat in
    let same = c.put_own.ensures.view ∙ c.read_own_at-charge.ensures.view
    ∙ c.read_own_at-2.ensures.view ∙ c.read_own_at.ensures.view in
    let client = ap (λ v. v.client) c.take_back.ensures.view ∙ ap (λ v. v.client) same in (
      e,
      goes_then t is_unpass a d e (goes_quiet t is_unpass (c.put_own.ensures.past
          ∙ c.read_own_at-charge.ensures.event ∙ c.read_own_at-2.ensures.event
          ∙ c.read_own_at.ensures.event) same)
          c.take_back.ensures.past,
      subst (λ n. IsEvent t (did (events.Empty n) replies.Ok) e c.empty_at.new.seat) client
          c.empty_at.ensures.event,
    )

pub put_own-requires-clause-key : goal.put_own-requires-clause-key
put_own-requires-clause-key g c =
    let first = c.read_own_at.ensures.view in
    let all = c.read_own_at-charge.ensures.view ∙ c.read_own_at-2.ensures.view ∙ first in
    let words = c.requires.taken.words in
    let long = ap (λ (v : View g.row.T.Denot). length v.written) first in
    let word0 = c.read_own_at.ensures.word (omega (arith, words)) in
    let word1 = c.read_own_at-2.ensures.word (omega (arith, words, long))
    ∙ ap (λ (v : View g.row.T.Denot). slice_index v.written KEY1) first in
    (λ k. record { w0 = word0 k; w1 = word1 k }) ∙ sym (ap owned_key all)

pub put_own-requires-clause-has : goal.put_own-requires-clause-has
put_own-requires-clause-has g c some =
    subst (HasWord (room_of c.args.table.now)) (sym (c.read_own_at-charge.ensures.view
    ∙ c.read_own_at-2.ensures.view ∙ c.read_own_at.ensures.view)) (c.requires.has some)

pub returns-clause-list : goal.returns-clause-list
returns-clause-list g c =
    subst (λ (v : View g.row.T.Denot). Puts (owned_freed v ∷ [])
    (g.L.FreedList.shelf c.args.list.now) (g.L.FreedList.shelf c.put_own.new.list))
    (c.read_own_at-charge.ensures.view ∙ c.read_own_at-2.ensures.view
    ∙ c.read_own_at.ensures.view) c.put_own.ensures.list
