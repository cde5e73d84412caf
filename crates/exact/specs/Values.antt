-- The exact value of a finite float, in whole multiples of the smallest value of its format (2 ^ -1074 for binary64). Assumes nothing.
use Rattle.std.specs.Prelude.{◌≡◌, ℕ, ◌*◌, ◌/◌, ◌^◌, Bool, true, false, ℤ, pos, neg_ℤ, unsigned_abs, Float}
use Rattle.std.specs.Float.{Format, nan, inf, fin}
use Rattle.std.specs.Float.Ieee.{low, up, down, round}
use Rattle.std.specs.Float.Ieee.Exact.{HasValue}

-- n with a sign
abbrev pub signed : Bool → ℕ → ℤ
signed false n = pos n
signed true n = neg_ℤ (pos n)

-- how many of the smallest values x is; 0 for a NaN or an infinity
unfoldable pub value : Format → Float → ℤ
value f nan = pos 0
value f (inf s) = pos 0
value f (fin s m e) = signed s (m * up e * 2 ^ low f / down e)

-- x is finite, and its exact value is z
pub record Is (f : Format) (x : Float) (z : ℤ) : Type 0 where
  pub sign : Bool
  pub has : HasValue x sign (unsigned_abs z) (2 ^ low f)
  pub signs : signed sign (unsigned_abs z) ≡ z

-- x is what the exact value z rounds to: a finite float, or an infinity where z is too large
pub record Rounds (f : Format) (x : Float) (z : ℤ) : Type 0 where
  pub sign : Bool
  pub rounds : x ≡ round f sign (unsigned_abs z) (2 ^ low f)
  pub signs : signed sign (unsigned_abs z) ≡ z
