-- The reduction on whole numbers: one rounding on the way is one part in 2 ^ p of the rounded number, which stays below the whole area A,
-- and the last step either is exact or adds one part in 2 ^ p of what is left of A.
use Rattle.std.proofs.Common.{◌≡◌, ℕ, ◌+◌, ◌*◌, ◌^◌, ◌<◌, ◌≤◌, ℤ, pos, ◌+ℤ◌, ◌-ℤ◌, neg_ℤ, nat_abs, ◌≤ℤ◌, ◌<ℤ◌, zero-le, le_trans, lt_of_le_of_lt, le_of_lt, add-le-add, mul-le-mul_right, add-mul, zero-mul, arith}
use Rattle.std.proofs.lemmas.Int.{ints}
use Rattle.exact.proofs.Signs.{unsigned_abs_neg}
use Rattle.exact.proofs.Rests.{between}
use Rattle.exact.specs.Rounded.{rounded_z, RepZ}
use Rattle.area.proofs.Congruence.{Congruent, congruent_more, congruent_less, congruent_neg}
use Rattle.exact.proofs.Integers.{rounded_z-low, rounded_z-high, rounded_z_relative}

-- r stands for the target: it is below A in size, and within one part in 2 ^ p of itself it is the target but for whole multiples of A
pub record Stands (p : ℕ) (A target r : ℤ) : Type 0 where
  pub exact : ℤ
  pub congruent : Congruent A exact target
  pub near : nat_abs (r -ℤ exact) * 2 ^ p ≤ nat_abs r
  pub below : nat_abs r < nat_abs A

-- r is the target but for whole multiples of A, within one part in 2 ^ p of A
pub record Reaches (p : ℕ) (A target r : ℤ) : Type 0 where
  pub exact : ℤ
  pub congruent : Congruent A exact target
  pub near : nat_abs (r -ℤ exact) * 2 ^ p ≤ nat_abs A

-- ---- sizes
no_distance : (r : ℤ) → nat_abs (r -ℤ r) ≡ 0
no_distance r = omega (arith, ints)

size-neg : (r e : ℤ) → (nat_abs (neg_ℤ r -ℤ neg_ℤ e) ≡ nat_abs (r -ℤ e)) × (nat_abs (neg_ℤ r) ≡ nat_abs r)
size-neg r e = omega (arith, ints)

triangle : (a b c : ℤ) → nat_abs (a -ℤ c) ≤ nat_abs (a -ℤ b) + nat_abs (b -ℤ c)
triangle a b c = omega (arith, ints)

-- two errors, each with its bound, together
together : (a b c : ℤ) (q m n : ℕ) → nat_abs (a -ℤ b) * q ≤ m → nat_abs (b -ℤ c) * q ≤ n → nat_abs (a -ℤ c) * q ≤ m + n
together a b c q m n h k = le_trans (mul-le-mul_right q (triangle a b c)) (rw add-mul (add-le-add h k))

-- ---- on the way
pub stands_exact : (p : ℕ) (A target r : ℤ) → Congruent A r target → nat_abs r < nat_abs A → Stands p A target r
stands_exact p A target r c h = record { exact = r; congruent = c; near = rw (no_distance r, zero-mul (2 ^ p)) zero-le; below = h }

within : (n : ℕ) (z : ℤ) → nat_abs z ≤ n → (neg_ℤ (pos n) ≤ℤ z) × (z ≤ℤ pos n)
within n z h = (omega (arith, ints), omega (arith, ints))

-- what lies between -h and h is rounded to what lies there too
rounded-within : (p : ℕ) (h z : ℤ) → 0 < p → RepZ p h → nat_abs z ≤ nat_abs h → nat_abs (rounded_z p z) ≤ nat_abs h
rounded-within p h z P r k =
    let n : ℕ = nat_abs h in
    let s : RepZ p (neg_ℤ (pos n)) = rw unsigned_abs_neg r in
    between n (rounded_z p z) (rounded_z-low p (neg_ℤ (pos n)) z P s (within n z k).0).0 (rounded_z-high p (pos n) z P r (within n z k).1).0

pub stands_rounded : (p : ℕ) (A target h z : ℤ) → 0 < p → RepZ p h → nat_abs h < nat_abs A → Congruent A z target → nat_abs z ≤ nat_abs h → Stands p A target (rounded_z p z)
stands_rounded p A target h z P r k c l = record {
  exact = z;
  congruent = c;
  near = (rounded_z_relative p z P).0;
  below = lt_of_le_of_lt (rounded-within p h z P r l) k;
}

pub stands_neg : (p : ℕ) (A target r : ℤ) → Stands p A target r → Stands p A (neg_ℤ target) (neg_ℤ r)
stands_neg p A target r s = record {
  exact = neg_ℤ s.exact;
  congruent = congruent_neg A s.exact target s.congruent;
  near = rw ((size-neg r s.exact).0, (size-neg r s.exact).1) s.near;
  below = rw (size-neg r s.exact).1 s.below;
}

-- ---- the last step
pub reaches_same : (p : ℕ) (A target r : ℤ) → Stands p A target r → Reaches p A target r
reaches_same p A target r s = record { exact = s.exact; congruent = s.congruent; near = le_trans s.near (le_of_lt s.below) }

shift_less : (r e A : ℤ) → nat_abs ((r -ℤ A) -ℤ (e -ℤ A)) ≡ nat_abs (r -ℤ e)
shift_less r e A = omega (arith, ints)

shift_more : (r e A : ℤ) → nat_abs ((r +ℤ A) -ℤ (e +ℤ A)) ≡ nat_abs (r -ℤ e)
shift_more r e A = omega (arith, ints)

pub reaches_less : (p : ℕ) (A target r : ℤ) → Stands p A target r → Reaches p A target (r -ℤ A)
reaches_less p A target r s = record {
  exact = s.exact -ℤ A;
  congruent = congruent_less A s.exact target s.congruent;
  near = rw (shift_less r s.exact A) (le_trans s.near (le_of_lt s.below));
}

pub reaches_more : (p : ℕ) (A target r : ℤ) → Stands p A target r → Reaches p A target (r +ℤ A)
reaches_more p A target r s = record {
  exact = s.exact +ℤ A;
  congruent = congruent_more A s.exact target s.congruent;
  near = rw (shift_more r s.exact A) (le_trans s.near (le_of_lt s.below));
}

-- the size of a negative number and of what A is more than it make up A
sizes_add : (A r : ℤ) → r <ℤ pos 0 → pos 0 <ℤ A → nat_abs r < nat_abs A → nat_abs (r +ℤ A) + nat_abs r ≡ nat_abs A
sizes_add A r n P h = omega (arith, ints)

pub reaches_rounded : (p : ℕ) (A target r : ℤ) → 0 < p → pos 0 <ℤ A → r <ℤ pos 0 → Stands p A target r → Reaches p A target (rounded_z p (r +ℤ A))
reaches_rounded p A target r P a n s = record {
  exact = s.exact +ℤ A;
  congruent = congruent_more A s.exact target s.congruent;
  near = rw (← sizes_add A r n a s.below) (together (rounded_z p (r +ℤ A)) (r +ℤ A) (s.exact +ℤ A) (2 ^ p) (nat_abs (r +ℤ A)) (nat_abs r)
      (rounded_z_relative p (r +ℤ A) P).1 (rw (shift_more r s.exact A) s.near));
}
