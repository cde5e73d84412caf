-- The functions of the lists by name, and what each answers: two floats, the second +0 where there is one answer. A function of one argument takes the first. Assumes nothing.
use Rattle.std.specs.Prelude.{ℕ, List, pos, codes, Float}
use Rattle.std.specs.Float.Ieee.{of_int}
use Rattle.std.specs.Float.{sqrt, binary64}
use Rattle.floats.specs.Arithmetic.{bits}
use Rattle.floats.specs.Choices.{larger_of, smaller_of, signed}
use Rattle.floats.specs.Remainders.{rest_by90, quotient_by90}
use Rattle.floats.specs.Sums as Sums
use Rattle.geomath.specs.Angles.{ang_round, remainder_of, ang_normalize, lat_fix, ang_diff, ang_diff_error}
use Rattle.polygon.specs.Transits.{transit_of}
use Rattle.vectors_angles.specs.declared.functions.Function.{Function}
use Rattle.vectors_angles.specs.declared.functions.Function.TheVariants.{Sum, AngRound, Remainder, AngNormalize, LatFix, AngDiff, Transit, Remquo, Larger, Smaller, CopySign, Root}

abbrev none : Float
none = bits 0

abbrev pub answers_of_angles : Function → Float → Float → Float × Float
answers_of_angles Sum x y = (Sums.high x y, Sums.low x y)
answers_of_angles AngRound x y = (ang_round x, none)
answers_of_angles Remainder x y = (remainder_of x y, none)
answers_of_angles AngNormalize x y = (ang_normalize x, none)
answers_of_angles LatFix x y = (lat_fix x, none)
answers_of_angles AngDiff x y = (ang_diff x y, ang_diff_error x y)
answers_of_angles Transit x y = (of_int binary64 (transit_of x y), none)
answers_of_angles Remquo x y = (rest_by90 x, of_int binary64 (pos (quotient_by90 x)))
answers_of_angles Larger x y = (larger_of x y, none)
answers_of_angles Smaller x y = (smaller_of x y, none)
answers_of_angles CopySign x y = (signed x y, none)
answers_of_angles Root x y = (sqrt binary64 x, none)

abbrev pub name_of : Function → List ℕ
name_of Sum = codes "sum"
name_of AngRound = codes "ang_round"
name_of Remainder = codes "remainder"
name_of AngNormalize = codes "ang_normalize"
name_of LatFix = codes "lat_fix"
name_of AngDiff = codes "ang_diff"
name_of Transit = codes "transit"
name_of Remquo = codes "remquo"
name_of Larger = codes "larger"
name_of Smaller = codes "smaller"
name_of CopySign = codes "copysign"
name_of Root = codes "sqrt"
