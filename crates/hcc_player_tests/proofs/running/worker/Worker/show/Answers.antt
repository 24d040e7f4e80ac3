use Rattle.hcc_player_tests.proofs.Hands.{shown}
use Rattle.hcc_player_tests.proofs.running.worker.Worker.show.Goals as goal

pub returns : goal.returns
returns c = record {
  holds = shown c.args.slot _ c.args.draft.name _ _ _ c.requires.builds c.show_at.ensures.view;
}
