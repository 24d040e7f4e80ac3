-- The steps of seats that are split and joined, and witnesses.
use Rattle.std.specs.Prelude.{◌+◌, List, []}
use Rattle.hcc_rule.specs.declared.view.Done.{Done}
use Rattle.hcc_rule.specs.declared.view.Logged.{Logged}
use Rattle.hcc_rule.specs.Acts.{longer}
use Rattle.hcc_rule.specs.Passing.{left_view, right_view, joined_view, spent_view}
use Rattle.hcc_rule.specs.Seats.{moves_of}
use Rattle.hcc_rule.specs.Logs.{logged}

module _ {T : Type 0} where
  -- A seat that is split keeps its steps, and the new one has made none; both know as much of the
  -- history as it did. A seat that takes in another keeps its own steps and counts the other's, and
  -- knows of the history what that one or it did.
  abbrev pub left_logged : Logged T → Logged T
  left_logged l = record l { known = left_view l.known }

  abbrev pub right_logged : Logged T → Logged T
  right_logged l = record (logged (right_view l.known) []) { past = l.past }

  abbrev pub joined_logged : Logged T → Logged T → Logged T
  joined_logged l m = record {
    known = joined_view l.known m.known;
    steps = l.steps;
    past = longer l.past m.past;
    taken_in = l.taken_in + moves_of m;
    heard = l.heard;
  }

  abbrev pub spent_logged : Logged T
  spent_logged = logged spent_view []

  -- A witness stands for no client and has made no step. It tells all that its giver knew of the
  -- history, and is spent where it was heard.
  abbrev pub witness_logged : List Done → Logged T
  witness_logged told = record (logged spent_view []) { heard = told }

  abbrev pub giver_logged : Logged T → Logged T
  giver_logged l = l

  abbrev pub given_logged : Logged T → Logged T
  given_logged l = witness_logged l.past

  abbrev pub told_logged : Logged T → Logged T → Logged T
  told_logged l m = record l { heard = m.heard }
