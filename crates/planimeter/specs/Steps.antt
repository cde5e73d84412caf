-- What becomes of a line, and of the polygon: after one line and after all. Assumes nothing.
use Rattle.std.specs.Prelude.{◌≡◌, ℕ, List, [], ◌∷◌, Some, None, Ok, Err, Option, Result}
use Rattle.surface.specs.declared.refusals.Refusal.{Refusal}
use Rattle.polygon.specs.declared.Point.{Point}
use Rattle.polygon.specs.declared.Traverse.{Traverse}
use Rattle.polygon.specs.Polygons.{Solve}
use Rattle.polygon.specs.Traverses.{point_refusal, offered}
use Rattle.planimeter.specs.declared.lines.NotAPoint.{NotAPoint}
use Rattle.planimeter.specs.Lines.{Says}
use Rattle.script.specs.declared.faults.LineFault.{LineFault}
use Rattle.script.specs.declared.faults.LineFault.TheVariants.{Unreadable, Refused}

abbrev pub told : Point → Option Refusal → Result (Option Point) (LineFault NotAPoint)
told p None = Ok (Some p)
told p (Some refusal) = Err (Refused refusal)

-- what is told of a line that says this, where the polygon has `num` points
abbrev pub step_at : ℕ → Result (Option Point) NotAPoint → Result (Option Point) (LineFault NotAPoint)
step_at num (Ok None) = Ok None
step_at num (Err line) = Err (Unreadable line)
step_at num (Ok (Some p)) = told p (point_refusal num p.lat p.lon)

-- the polygon's traverse after the line
abbrev pub traverse_after : Solve → Traverse → Result (Option Point) NotAPoint → Traverse
traverse_after edge t (Ok None) = t
traverse_after edge t (Err _) = t
traverse_after edge t (Ok (Some p)) = offered edge t p.lat p.lon

-- `after` is the traverse that was `before`, once each line in its order was read and offered
abbrev pub Drawn : Solve → Traverse → List (List ℕ) → Traverse → Type 0
Drawn edge before [] after = after ≡ before
Drawn edge before (line ∷ lines) after = (said : Result (Option Point) NotAPoint) × Says line said × Drawn edge (traverse_after edge before said) lines after
