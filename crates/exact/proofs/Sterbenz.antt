-- Sterbenz: the difference of two numbers of p digits, neither more than twice the other, has p digits. The difference is no larger than either number, and lies in every unit that they share.
use Rattle.std.proofs.Common.{ℕ, ◌^◌, ◌≤◌, ℤ, ◌+ℤ◌, ◌-ℤ◌, nat_abs, ◌≤ℤ◌, arith}
use Rattle.std.proofs.lemmas.Int.{ints}
use Rattle.exact.specs.Rounded.{RepZ}
use Rattle.exact.proofs.Naturals.{Multiple}
use Rattle.exact.proofs.Integers.{multiple_minus, fine}

-- a difference that is no larger than either number
pub small_difference : (p : ℕ) (a b : ℤ) → RepZ p a → RepZ p b → nat_abs (a -ℤ b) ≤ nat_abs a → nat_abs (a -ℤ b) ≤ nat_abs b → RepZ p (a -ℤ b)
small_difference p a b r s h k =
    fine p a b (a -ℤ b) r s (λ (j : ℕ) (x : Multiple (2 ^ j) (nat_abs a)) (y : Multiple (2 ^ j) (nat_abs b)). multiple_minus (2 ^ j) a b x y) h k

within_twice : (a b : ℤ) → b ≤ℤ (a +ℤ a) → a ≤ℤ (b +ℤ b) → (nat_abs (a -ℤ b) ≤ nat_abs a) × (nat_abs (a -ℤ b) ≤ nat_abs b)
within_twice a b h k = (omega (arith, ints), omega (arith, ints))

within_twice_negative : (a b : ℤ) → (a +ℤ a) ≤ℤ b → (b +ℤ b) ≤ℤ a → (nat_abs (a -ℤ b) ≤ nat_abs a) × (nat_abs (a -ℤ b) ≤ nat_abs b)
within_twice_negative a b h k = (omega (arith, ints), omega (arith, ints))

-- b ≤ 2a and a ≤ 2b: neither is negative then
pub sterbenz : (p : ℕ) (a b : ℤ) → RepZ p a → RepZ p b → b ≤ℤ (a +ℤ a) → a ≤ℤ (b +ℤ b) → RepZ p (a -ℤ b)
sterbenz p a b r s h k = small_difference p a b r s (within_twice a b h k).0 (within_twice a b h k).1

-- 2a ≤ b and 2b ≤ a: neither is positive then
pub sterbenz_negative : (p : ℕ) (a b : ℤ) → RepZ p a → RepZ p b → (a +ℤ a) ≤ℤ b → (b +ℤ b) ≤ℤ a → RepZ p (a -ℤ b)
sterbenz_negative p a b r s h k = small_difference p a b r s (within_twice_negative a b h k).0 (within_twice_negative a b h k).1
