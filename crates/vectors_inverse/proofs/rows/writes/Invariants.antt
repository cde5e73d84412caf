-- What the text that is left has to begin with decides for the whole text.
use denote.Text.{Utf8}
use denote.Shadow.{shadow}
use Rattle.std.proofs.Common.{◌≡◌, drop}
use Rattle.vectors_inverse.specs.Rows.{writes}
use Rattle.vectors_inverse.proofs.rows.writes.Given as goal

abbrev pub invariant-loop-figure : goal.invariant-loop-figure
invariant-loop-figure l = (writes (drop l.figure-index l.figures) l.rest ≡ writes l.figures l.text) × shadow (Utf8 l.rest)
