-- A whole number as a sign and a size.
use Rattle.std.proofs.Common.{◌≡◌, ℕ, zero, suc, ◌+◌, ◌-◌, ◌≤◌, Bool, true, false, not, ℤ, pos, negsuc, ◌+ℤ◌, neg_ℤ, nat_abs, refl, arith}
use Rattle.std.proofs.lemmas.Int.{ints}
use Rattle.exact.specs.Values.{signed}

pub unsigned_abs_signed : (s : Bool) (n : ℕ) → nat_abs (signed s n) ≡ n
unsigned_abs_signed false n = refl
unsigned_abs_signed true zero = refl
unsigned_abs_signed true (suc n) = refl

pub unsigned_abs_neg : (z : ℤ) → nat_abs (neg_ℤ z) ≡ nat_abs z
unsigned_abs_neg (pos zero) = refl
unsigned_abs_neg (pos (suc n)) = refl
unsigned_abs_neg (negsuc n) = refl

pub signed_not : (s : Bool) (n : ℕ) → signed (not s) n ≡ neg_ℤ (signed s n)
signed_not false n = refl
signed_not true zero = refl
signed_not true (suc n) = refl

-- where the sizes are sums or differences
pub signed-plus : (s : Bool) (a b : ℕ) → signed s a +ℤ signed s b ≡ signed s (a + b)
signed-plus false a b = refl
signed-plus true a b = omega (arith, ints)

pub signed-minus : (s : Bool) (a b : ℕ) → b ≤ a → signed s a +ℤ signed (not s) b ≡ signed s (a - b)
signed-minus false a b h = omega (arith, ints)
signed-minus true a b h = omega (arith, ints)

-- zero has both signs
pub signed-zero : (s t : Bool) (n : ℕ) → n ≡ 0 → signed s n ≡ signed t n
signed-zero true true n e = refl
signed-zero false false n e = refl
signed-zero true false n e = omega (arith, ints)
signed-zero false true n e = omega (arith, ints)
