-- The number of each refusal, and the answer to a point. Assumes nothing.
use Rattle.std.specs.Prelude.{ℕ, ⊤, cond, Ok, Err, Result, Float}
use Rattle.geomath.specs.Angles.{accepts}
use Rattle.surface.specs.declared.refusals.Refusal.{Refusal}
use Rattle.surface.specs.declared.refusals.Refusal.TheVariants.{Shape, WholeArea, Point, RowLength, Full, Place, NothingToTakeBack, UnfitRecord}

abbrev pub number_of : Refusal → ℕ
number_of Shape = 1
number_of WholeArea = 2
number_of Point = 3
number_of RowLength = 4
number_of Full = 5
number_of Place = 6
number_of NothingToTakeBack = 7
number_of UnfitRecord = 8

-- refused where it is not accepted
abbrev pub point_answer : Float → Float → Result ⊤ Refusal
point_answer lat lon = cond (accepts lat lon) (Ok tt) (Err Point)
