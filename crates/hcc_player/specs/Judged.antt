-- Why a text is not known to be good.
use Rattle.std.specs.Prelude.{◌≡◌, ℕ, List, Result, Err}
use Rattle.hcc_player.specs.declared.fault.TextFault.{TextFault}
use Rattle.hcc_player.specs.declared.fault.PlayError.{PlayError}
use Rattle.hcc_player.specs.declared.fault.PlayError.TheVariants as plays
use Rattle.hcc_player.specs.Script.{lines_of, script_of, FirstFault}

module _ {A : Type 0} (says : List ℕ → Result A TextFault) where
  -- this is the first fault of the first line at fault
  abbrev pub IsAtFault : List ℕ → ℕ → TextFault → Type 0
  IsAtFault text line fault = (script_of says text ≡ Err (record { line = line; fault = fault }))
      × FirstFault says 1 (lines_of text) line fault

  abbrev pub FailsToJudge : PlayError → List ℕ → Type 0
  FailsToJudge plays.OutOfMemory text = Unit {0}
  FailsToJudge (plays.Text line fault) text = IsAtFault text line fault
  FailsToJudge other text = ⊥
