-- What a float is called that is finite and whose sign is plus: a size. Assumes nothing.
use Rattle.std.specs.Prelude.{◌≡◌, ℕ, ◌*◌, ◌^◌, false, T, Float}
use Rattle.std.specs.Float.{binary64}
use Rattle.std.specs.Float.Ieee.{low, fits}
use Rattle.std.specs.Float.Ieee.Exact.{HasValue}
use Rattle.floats.specs.Roots.{units}

-- x is a double, finite, and its sign is plus: its exact value is that of its units
pub record Size (x : Float) : Type 0 where
  pub held : T (fits binary64 x)
  pub has : HasValue x false (units binary64 x) (2 ^ low binary64)

-- n is b times a power of two
pub record IsPowerMultiple (b n : ℕ) : Type 0 where
  pub power : ℕ
  pub is : n ≡ b * 2 ^ power
