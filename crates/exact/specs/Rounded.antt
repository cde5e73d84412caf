-- Rounding as a function on whole numbers: a number is kept to its p leading binary digits, to the nearest one, a tie to the even one.
-- Nothing here is about floats. Assumes nothing.
use Rattle.std.specs.Prelude.{◌≡◌, ℕ, suc, ◌-◌, ◌*◌, ◌^◌, ◌<◌, ℤ, pos, negsuc, neg_ℤ, unsigned_abs}
use Rattle.std.specs.Float.Ieee.{size}
use Rattle.std.specs.Float.Ieee.Nearest.{closest}

-- n to p binary digits: of its `size n` digits the last `size n - p` are dropped
unfoldable pub rounded : ℕ → ℕ → ℕ
rounded p n = closest n (2 ^ (size n - p)) * 2 ^ (size n - p)

-- the same of a whole number with a sign: the sign stays
unfoldable pub rounded_z : ℕ → ℤ → ℤ
rounded_z p (pos n) = pos (rounded p n)
rounded_z p (negsuc n) = neg_ℤ (pos (rounded p (suc n)))

-- n can be written with p binary digits and zeros behind them
pub record Rep (p n : ℕ) : Type 0 where
  pub digits : ℕ
  pub places : ℕ
  pub few : digits < 2 ^ p
  pub is : n ≡ digits * 2 ^ places

abbrev pub RepZ : ℕ → ℤ → Type 0
RepZ p z = Rep p (unsigned_abs z)
