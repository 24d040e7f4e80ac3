-- What the tag of a cache names on which a trace is played.
use Rattle.std.specs.Prelude.{ℕ, List, [], Result, Ok, Err}
use Rattle.hcc_rule.specs.declared.key.Key.{Key}
use Rattle.hcc_cache.specs.declared.config.Config.{Config}
use Rattle.hcc_player.specs.declared.fault.ScriptFault.{ScriptFault}
use Rattle.hcc_player.specs.declared.run.call.RunLine.{RunLine}
use Rattle.hcc_player.specs.declared.run.tag.TraceTag.{TraceTag}
use Rattle.hcc_player.specs.RunAnswers.{Inserts}
use Rattle.hcc_player.specs.RunLine.{run_line}
use Rattle.hcc_player.specs.Script.{script_of}

-- The lines of a trace for a cache of this size, or its first fault.
abbrev pub run_trace : Config → List ℕ → Result (List RunLine) ScriptFault
run_trace config = script_of (run_line config)

-- what was said; nothing at a fault
abbrev pub said : Result (List RunLine) ScriptFault → List RunLine
said (Ok lines) = lines
said (Err fault) = []

-- A value fits a key where some line of the trace inserts it under that key.
abbrev pub fits_trace : TraceTag → Key → List ℕ → Type 0
fits_trace tag = Inserts (said (run_trace tag.config tag.text.now))
