-- What the points to come make of the polygon, all points make of it as it was.
use denote.Text.{Utf8}
use denote.Shadow.{shadow}
use Rattle.std.proofs.Common.{◌≡◌, ◌-◌, length}
use Rattle.functions.specs.Series.{series}
use Rattle.geodesic.specs.Answers.{edge_of}
use Rattle.vectors_inverse.specs.Outlines.{fed_words}
use Rattle.vectors_inverse.proofs.outlines.feed.Given as goal

abbrev pub invariant-loop : goal.invariant-loop
invariant-loop l =
    (fed_words (edge_of series l.initial.polygon.surface.shape) (length l.text - l.counter) l.rest l.polygon.traverse
    ≡ fed_words (edge_of series l.initial.polygon.surface.shape) (length l.text) l.text l.initial.polygon.traverse)
    × (l.polygon.surface ≡ l.initial.polygon.surface)
    × (l.polygon.winding ≡ l.initial.polygon.winding)
    × shadow (Utf8 l.rest)
