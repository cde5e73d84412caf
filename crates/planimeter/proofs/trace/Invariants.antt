-- What the lines to come make of the polygon, all lines make of it as it was.
use Rattle.std.proofs.Common.{◌≡◌, ◌≤◌, length}
use Rattle.polygon.specs.declared.Traverse.{Traverse}
use Rattle.text.specs.Words.{lines_of}
use Rattle.planimeter.specs.Steps.{Drawn}
use Rattle.planimeter.proofs.trace.Given as goal

abbrev pub invariant-loop-index : goal.invariant-loop-index
invariant-loop-index g l =
    (goal.iterator-loop-index g).can_next l.index-iterator × (goal.iterator-loop-index g).is_finite l.index-iterator
    × (l.points ≤ length l.yielded)
    × (l.polygon.surface ≡ l.initial.polygon.surface)
    × (l.polygon.winding ≡ l.initial.polygon.winding)
    × ((t : Traverse) → Drawn (g.S.Surface.edges l.initial.polygon.surface) l.polygon.traverse (lines_of l.index-iterator.iter.rest.now) t
    → Drawn (g.S.Surface.edges l.initial.polygon.surface) l.initial.polygon.traverse (lines_of l.text) t)
