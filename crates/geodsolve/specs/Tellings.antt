-- What is told of a line: the geodesic between its two points, with all figures, or why there is none. Assumes nothing.
use Rattle.std.specs.Prelude.{ℕ, Some, None, Ok, Err, Option, Result}
use Rattle.functions.specs.Series.{series}
use Rattle.ellipsoid.specs.declared.shape.Ellipsoid.{Ellipsoid}
use Rattle.geodesic.specs.Answers.{answered}
use Rattle.inverse.specs.Inverse.{inverse_azi}
use Rattle.inverse.specs.declared.problem.Bearings.{Bearings}
use Rattle.inverse.specs.declared.problem.Inverse.{Inverse}
use Rattle.surface.specs.declared.refusals.Refusal.{Refusal}
use Rattle.script.specs.declared.faults.LineFault.{LineFault}
use Rattle.script.specs.declared.faults.LineFault.TheVariants.{Unreadable, Refused}
use Rattle.geodsolve.specs.declared.answers.Solved.{Solved}
use Rattle.geodsolve.specs.declared.lines.Ends.{Ends}
use Rattle.geodsolve.specs.declared.lines.NotTwoPoints.{NotTwoPoints}

-- every figure but longitudes that are not reduced
abbrev pub everything : ℕ
everything = 0x7f9f

abbrev pub told : Ends → Result (Inverse Bearings) Refusal → Result (Option Solved) (LineFault NotTwoPoints)
told e (Ok r) = Ok (Some (record { ends = e; figures = r }))
told e (Err refusal) = Err (Refused refusal)

-- what is told of a line that says this
abbrev pub telling_of : Ellipsoid → Result (Option Ends) NotTwoPoints → Result (Option Solved) (LineFault NotTwoPoints)
telling_of E (Ok None) = Ok None
telling_of E (Err line) = Err (Unreadable line)
telling_of E (Ok (Some e)) = told e (answered e.lat1 e.lon1 e.lat2 e.lon2 (inverse_azi series E everything e.lat1 e.lon1 e.lat2 e.lon2))
