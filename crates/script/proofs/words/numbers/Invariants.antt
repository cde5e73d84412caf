-- What the words to come make of the numbers, all words make of them.
use Rattle.std.proofs.Common.{◌≡◌, length, take}
use denote.Shadow.{shadow}
use denote.Text.{Utf8}
use Rattle.script.proofs.Readings.{Follows}
use Rattle.script.proofs.words.numbers.Given as goal

abbrev pub invariant-loop-number : goal.invariant-loop-number
invariant-loop-number g l =
    shadow (Utf8 l.rest) × (length l.number-items ≡ g.row.N) × Follows g.row.N l.number-index l.words l.rest (take l.number-index l.number-items)
