use Rattle.std.proofs.Common.{◌≡◌, List, Ok, length, map}
use Rattle.hcc_player.specs.declared.blocks.line.BlockRead.{BlockRead}
use Rattle.hcc_player.specs.BlocksLine.{reads_in}
use Rattle.hcc_player.proofs.Dealing.{Dealing}
use Rattle.hcc_player.proofs.blocks.deal.dealt.Given as goal

abbrev pub invariant-loop-line : goal.invariant-loop-line
invariant-loop-line l = record {
  reads : List BlockRead;
  said : reads_in l.fn.clients l.fn.text ≡ Ok reads;
  dealing : Dealing l.fn.clients l.rest (map (λ list. list.items) l.lists.items) reads;
}

abbrev pub decreases-loop-line : goal.decreases-loop-line
decreases-loop-line l = length l.rest
