use Rattle.std.proofs.Common.{◌≡◌, length, map}
use Rattle.std.specs.List.{All}
use Rattle.hcc_block.specs.declared.failing.FailingSource.{FailingSource}
use Rattle.hcc_block.specs.declared.memory.MemorySource.{MemorySource}
use Rattle.hcc_player_tests.proofs.blocks.sources.Given as goal

abbrev pub invariant-loop : goal.invariant-loop
invariant-loop l = record {
  count : length l.sources.items ≡ l.counter;
  content : All (λ (source : FailingSource MemorySource).
      map (λ file. file.items) source.source.files.now ≡ map (λ file. file.items) l.files)
      l.sources.items;
}
