-- The sentences of faults.
use Rattle.std.specs.Prelude.{ℕ, List, codes}
use Rattle.hcc_player.specs.declared.fault.TextFault.{TextFault}
use Rattle.hcc_player.specs.declared.fault.TextFault.TheVariants.{TooLong, Unended, NotAscii, BadWord, BadNumber, OutOfRange, BadChoice, BadValue, ValueTooLong}

abbrev pub text_of : TextFault → List ℕ
text_of TooLong = codes "the line has more than 8,400 bytes"
text_of Unended = codes "no line feed ends the line"
text_of NotAscii = codes "a byte is neither a space nor a visible character of ASCII"
text_of BadWord = codes "a word is empty or unknown, or there are too few or too many"
text_of BadNumber = codes "a word is no decimal number below 2^64 without leading zeros"
text_of OutOfRange = codes "a number is outside the range that it has in its place"
text_of BadChoice = codes "a word is none of those that may stand in its place"
text_of BadValue = codes "a value is neither - nor pairs of lower-case hexadecimal digits"
text_of ValueTooLong = codes "a value has more bytes than it may have"
