-- The functions of the series set by name, and what each answers. A function of one argument takes the first; the second answer is +0. Assumes nothing.
use Rattle.std.specs.Prelude.{ℕ, List, codes, Float}
use Rattle.floats.specs.Arithmetic.{bits}
use Rattle.functions.specs.Series.{series}
use Rattle.vectors_series.specs.declared.named.Function.{Function}
use Rattle.vectors_series.specs.declared.named.Function.TheVariants.{Sin, Cos, Atan2, Atan, Atanh, Hypot, Cbrt}

abbrev pub answer_of : Function → Float → Float → Float
answer_of Sin x y = series.sin_of x
answer_of Cos x y = series.cos_of x
answer_of Atan2 x y = series.atan2_of x y
answer_of Atan x y = series.atan_of x
answer_of Atanh x y = series.atanh_of x
answer_of Hypot x y = series.hypot_of x y
answer_of Cbrt x y = series.cbrt_of x

abbrev pub answers_of_series : Function → Float → Float → Float × Float
answers_of_series f x y = (answer_of f x y, bits 0)

abbrev pub name_of : Function → List ℕ
name_of Sin = codes "sin"
name_of Cos = codes "cos"
name_of Atan2 = codes "atan2"
name_of Atan = codes "atan"
name_of Atanh = codes "atanh"
name_of Hypot = codes "hypot"
name_of Cbrt = codes "cbrt"
