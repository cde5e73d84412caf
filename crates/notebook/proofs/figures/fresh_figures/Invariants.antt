-- The points to come, fed to the polygon as it is, end as all of them do fed to a new one.
use Rattle.std.proofs.Common.{◌≡◌, drop}
use Rattle.polygon.specs.Traverses.{fed_all}
use Rattle.notebook.proofs.figures.fresh_figures.Given as goal

abbrev pub invariant-loop-point : goal.invariant-loop-point
invariant-loop-point g l =
    (l.polygon.surface ≡ l.initial.polygon.surface)
    × (l.polygon.winding ≡ l.initial.polygon.winding)
    × (fed_all (g.S.Surface.edges l.initial.polygon.surface) l.polygon.traverse (drop l.point-index l.points)
    ≡ fed_all (g.S.Surface.edges l.initial.polygon.surface) l.initial.polygon.traverse l.points)
