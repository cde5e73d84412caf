-- What is left of the edits, drawn on what the rows hold now, ends as all of them do on what the rows held at first; each edit solves at most two edges.
use Rattle.std.proofs.Common.{◌≡◌, ◌-◌, ◌*◌, ◌≤◌}
use Rattle.stations.specs.Stations.{free}
use Rattle.drawing.specs.Strokes.{edits_drawn}
use Rattle.drawing.proofs.strokes.draw_edits.Given as goal

abbrev pub invariant-loop-drawn : goal.invariant-loop-drawn
invariant-loop-drawn g l =
    (l.outline.surface ≡ l.initial.outline.surface)
    × (l.total.edges ≤ 2 * l.drawn)
    × (l.total.evaluations ≤ 166 * l.drawn)
    × (edits_drawn (g.S.Surface.edges l.initial.outline.surface) (g.S.Surface.whole l.initial.outline.surface) l.bytes (l.count - l.drawn) l.drawn l.at l.total l.outline.frame l.stations l.edits
    ≡ edits_drawn (g.S.Surface.edges l.initial.outline.surface) (g.S.Surface.whole l.initial.outline.surface) l.bytes l.count 0 24 free l.initial.outline.frame l.initial.stations l.initial.edits)
