-- What the words of the command line give.
use Rattle.std.specs.Prelude.{List, Option}
use Rattle.clap.specs.Words.{Kinds, Row, Text, fault_of, subcommand_of}
use Rattle.hcc_play.specs.CommandLine.{program}

-- a subcommand that was used, by its name, with the values of its options
abbrev pub Used : Type 0
Used = Option (Text × List Row)

-- the subcommand that the words use
unfoldable pub used_by : List Text → Used
used_by words = subcommand_of program words

-- What is wrong with the words, or what text they ask for: nothing where they are taken.
unfoldable pub faults_of : List Text → Kinds
faults_of words = fault_of program words
