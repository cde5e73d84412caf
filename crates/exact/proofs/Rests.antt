-- On whole numbers: a part and what it leaves, and sizes.
use Rattle.std.proofs.Common.{◌≡◌, ℕ, ◌+◌, ◌*◌, ◌<◌, ◌≤◌, ℤ, pos, ◌+ℤ◌, ◌-ℤ◌, neg_ℤ, nat_abs, ◌≤ℤ◌, ◌<ℤ◌, arith}
use Rattle.std.proofs.lemmas.Int.{ints}

-- a part and the rest are the whole
pub whole_sum : (t r : ℤ) → r +ℤ (t -ℤ r) ≡ t
whole_sum t r = omega (arith, ints)

pub opposite_rest : (t r : ℤ) → neg_ℤ t -ℤ neg_ℤ r ≡ neg_ℤ (t -ℤ r)
opposite_rest t r = omega (arith, ints)

pub positive_size : (z : ℤ) → pos 0 <ℤ z → 0 < nat_abs z
positive_size z h = omega (arith, ints)

pub between : (n : ℕ) (z : ℤ) → neg_ℤ (pos n) ≤ℤ z → z ≤ℤ pos n → nat_abs z ≤ n
between n z h k = omega (arith, ints)

-- the room that an error-free sum asks of two sizes of which none is above m
pub roomy : (a b m o : ℕ) → a ≤ m → b ≤ m → 4 * (m + m) < o → 4 * (a + b) < o
roomy a b m o h k l = omega arith
