use Rattle.hcc_play.proofs.Endings.{reads_refused}
use Rattle.hcc_play.specs.declared.request.Request.TheVariants as asks
use Rattle.hcc_play.proofs.request.run.Goals as goal

pub returns-in-Core : goal.returns-in-Core
returns-in-Core g c = (asks.Core c.in-Core.setup, c.in-Core.ensures.asked, tt)

pub returns-in-Blocks : goal.returns-in-Blocks
returns-in-Blocks g c = (
  asks.Blocks c.in-Blocks.options c.in-Blocks.paths,
  c.in-Blocks.ensures.asked,
  λ few. reads_refused c.in-Blocks.options c.blocks-in-Blocks.result
      (c.blocks-in-Blocks.ensures (rw c.deref.ensures.value few)),
)
