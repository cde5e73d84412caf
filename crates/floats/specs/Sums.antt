-- The error-free transformation of a sum: the rounded sum, what the rounding left out, and the law that the two parts together are the exact sum. Assumes nothing.
use Rattle.std.specs.Prelude.{◌≡◌, ◌^◌, ◌≤◌, true, ℤ, ◌+ℤ◌, unsigned_abs, Float}
use Rattle.std.specs.Float.Ieee.{prec, neg}
use Rattle.std.specs.Float.{float_is_finite, binary64}
use Rattle.exact.specs.Rounded.{rounded_z}
use Rattle.exact.specs.Values.{value}
use Rattle.exact.specs.Plain.{plain}
use Rattle.floats.specs.Arithmetic.{◌⊕◌, ◌⊖◌}

-- the rounded sum
abbrev pub high : Float → Float → Float
high u v = u ⊕ v

-- with s = u + v rounded: s - v misses u, and s - (s - v) misses v, by what the rounding left out
abbrev pub low : Float → Float → Float
low u v = neg ((high u v ⊖ v ⊖ u) ⊕ (high u v ⊖ (high u v ⊖ v) ⊖ v))

-- the exact value in whole multiples of 2 ^ -1074
abbrev pub exactly : Float → ℤ
exactly x = value binary64 x

-- finite, and of size at most 2 ^ 1020
pub record Moderate (x : Float) : Type 0 where
  pub is_finite : float_is_finite x ≡ true
  pub size : unsigned_abs (exactly x) ≤ 2 ^ 2094

-- Both parts are finite; the first is the exact sum rounded to 53 digits, and with the second it is the exact sum.
-- The order of the terms does not matter, and opposite terms have opposite parts, up to the sign of zero.
pub record ErrorFree (u v : Float) : Type 0 where
  pub high_finite : float_is_finite (high u v) ≡ true
  pub low_finite : float_is_finite (low u v) ≡ true
  pub nearest : exactly (high u v) ≡ rounded_z (prec binary64) (exactly u +ℤ exactly v)
  pub exact : exactly (high u v) +ℤ exactly (low u v) ≡ exactly u +ℤ exactly v
  pub commutes_high : high v u ≡ high u v
  pub commutes_low : plain (low v u) ≡ plain (low u v)
  pub mirrors_high : plain (high (neg u) (neg v)) ≡ plain (neg (high u v))
  pub mirrors_low : plain (low (neg u) (neg v)) ≡ plain (neg (low u v))
