-- The functions of geomath over the series set by name, and what each answers. A function of one argument takes the first; a lone answer stands before +0. Assumes nothing.
use Rattle.std.specs.Prelude.{ℕ, ◌+◌, true, false, List, drop, codes, slice_index_or, Float}
use Rattle.std.specs.Float.{nan}
use Rattle.floats.specs.Arithmetic.{bits}
use Rattle.functions.specs.Series.{series}
use Rattle.series.specs.Vectors.{norm_x, norm_y}
use Rattle.series.specs.Degrees as Degrees
use Rattle.series.specs.Eccentric as Eccentric
use Rattle.series.specs.Clenshaw.{sin_cos_series}
use Rattle.series.specs.Astroid as Astroid
use Rattle.series.specs.Expansions as Expansions
use Rattle.vectors_geomath.specs.declared.named.Function.{Function}
use Rattle.vectors_geomath.specs.declared.named.Function.TheVariants.{Sincosd, Atan2d, Norm, Eatanhe, Astroid, SinCosSeries, A1m1f, A2m1f, C1f12, C1f34, C1f56, C2f12, C2f34, C2f56}

abbrev pub lone : Float → Float × Float
lone x = (x, bits 0)

-- the l-th coefficient and the next
abbrev pub pair_of : List Float → ℕ → Float × Float
pair_of c l = (slice_index_or c l nan, slice_index_or c (l + 1) nan)

-- the sums of sines and of cosines at an angle in degrees, over the coefficients C1 at eps
abbrev pub sums_of : Float → Float → Float × Float
sums_of eps angle =
    let s = Degrees.sind series angle in let c = Degrees.cosd series angle in
    (sin_cos_series true s c (Expansions.C1f eps), sin_cos_series false s c (drop 1 (Expansions.C1f eps)))

abbrev pub answers_of_geomath : Function → Float → Float → Float × Float
answers_of_geomath Sincosd x y = (Degrees.sind series x, Degrees.cosd series x)
answers_of_geomath Atan2d x y = lone (Degrees.atan2d series x y)
answers_of_geomath Norm x y = (norm_x series x y, norm_y series x y)
answers_of_geomath Eatanhe x y = lone (Eccentric.eatanhe series x y)
answers_of_geomath Astroid x y = lone (Astroid.astroid series x y)
answers_of_geomath SinCosSeries x y = sums_of x y
answers_of_geomath A1m1f x y = lone (Expansions.A1m1f x)
answers_of_geomath A2m1f x y = lone (Expansions.A2m1f x)
answers_of_geomath C1f12 x y = pair_of (Expansions.C1f x) 1
answers_of_geomath C1f34 x y = pair_of (Expansions.C1f x) 3
answers_of_geomath C1f56 x y = pair_of (Expansions.C1f x) 5
answers_of_geomath C2f12 x y = pair_of (Expansions.C2f x) 1
answers_of_geomath C2f34 x y = pair_of (Expansions.C2f x) 3
answers_of_geomath C2f56 x y = pair_of (Expansions.C2f x) 5

abbrev pub name_of : Function → List ℕ
name_of Sincosd = codes "sincosd"
name_of Atan2d = codes "atan2d"
name_of Norm = codes "norm"
name_of Eatanhe = codes "eatanhe"
name_of Astroid = codes "astroid"
name_of SinCosSeries = codes "sin_cos_series"
name_of A1m1f = codes "A1m1f"
name_of A2m1f = codes "A2m1f"
name_of C1f12 = codes "C1f12"
name_of C1f34 = codes "C1f34"
name_of C1f56 = codes "C1f56"
name_of C2f12 = codes "C2f12"
name_of C2f34 = codes "C2f34"
name_of C2f56 = codes "C2f56"
