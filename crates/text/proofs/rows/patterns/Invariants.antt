-- What the words to come make of the floats, all words make of them.
use Rattle.std.proofs.Common.{◌≡◌, length, take}
use denote.Shadow.{shadow}
use denote.Text.{Utf8}
use Rattle.text.proofs.Readings.{Follows}
use Rattle.text.proofs.rows.patterns.Given as goal

abbrev pub invariant-loop-x : goal.invariant-loop-x
invariant-loop-x g l =
    shadow (Utf8 l.rest) × (length l.x-items ≡ g.row.N) × Follows g.row.N l.x-index l.text l.rest (take l.x-index l.x-items)
