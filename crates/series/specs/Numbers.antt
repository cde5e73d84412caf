-- Whole numbers as floats, for constants and tables of coefficients. Assumes nothing.
use Rattle.std.specs.Prelude.{ℕ, pos, neg_ℤ, Float}
use Rattle.std.specs.Float.{binary64}
use Rattle.std.specs.Float.Ieee.{of_int}

abbrev pub plus : ℕ → Float
plus n = of_int binary64 (pos n)

abbrev pub minus : ℕ → Float
minus n = of_int binary64 (neg_ℤ (pos n))
