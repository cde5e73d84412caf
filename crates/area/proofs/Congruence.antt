-- Whole numbers that differ by a whole multiple of A: the remainder by A is one of them, and sums, differences and negation keep it.
use Rattle.std.proofs.Common.{◌≡◌, ℕ, zero, suc, ◌*◌, ◌/◌, ℤ, pos, negsuc, ◌+ℤ◌, ◌-ℤ◌, ◌*ℤ◌, neg_ℤ, sym, refl, ap, arith}
use native.Mathlib.Nat.{mod-add-div'}
use lib.IntN.{suc_ℤ, pred_ℤ, suc_ℤ-*ℤ, pred_ℤ-*ℤ, zero-*ℤ, neg_ℤ-neg_ℤ, neg_ℤ-+ℤ}
use lib.Signed.{rem_z, quot_z}
use Rattle.std.proofs.lemmas.Int.{ints}

pub record Congruent (A z w : ℤ) : Type 0 where
  pub times : ℤ
  pub is : z ≡ w +ℤ times *ℤ A

pub congruent_same : (A z : ℤ) → Congruent A z z
congruent_same A z = record { times = pos 0; is = rw zero-*ℤ (omega (arith, ints)) }

moved : (z w t y : ℤ) → z ≡ w +ℤ t → z +ℤ y ≡ (w +ℤ y) +ℤ t
moved z w t y e = omega (arith, ints)

pub congruent_add : (A z w y : ℤ) → Congruent A z w → Congruent A (z +ℤ y) (w +ℤ y)
congruent_add A z w y c = record { times = c.times; is = moved z w (c.times *ℤ A) y c.is }

risen : (A z w t : ℤ) → z ≡ w +ℤ t → z +ℤ A ≡ w +ℤ (t +ℤ A)
risen A z w t e = omega (arith, ints)

pub congruent_more : (A z w : ℤ) → Congruent A z w → Congruent A (z +ℤ A) w
congruent_more A z w c = record { times = suc_ℤ c.times; is = rw (suc_ℤ-*ℤ c.times A) (risen A z w (c.times *ℤ A) c.is) }

fallen : (A z w t : ℤ) → z ≡ w +ℤ t → z -ℤ A ≡ w +ℤ (t -ℤ A)
fallen A z w t e = omega (arith, ints)

pub congruent_less : (A z w : ℤ) → Congruent A z w → Congruent A (z -ℤ A) w
congruent_less A z w c = record { times = pred_ℤ c.times; is = rw (pred_ℤ-*ℤ c.times A) (fallen A z w (c.times *ℤ A) c.is) }

neg_times : (k A : ℤ) → neg_ℤ k *ℤ A ≡ neg_ℤ (k *ℤ A)
neg_times (pos zero) A = simp zero-*ℤ
neg_times (pos (suc m)) (pos n) = refl
neg_times (pos (suc m)) (negsuc n) = sym (neg_ℤ-neg_ℤ (pos (suc m * suc n)))
neg_times (negsuc m) (pos n) = sym (neg_ℤ-neg_ℤ (pos (suc m * n)))
neg_times (negsuc m) (negsuc n) = refl

opposite : (z w t : ℤ) → z ≡ w +ℤ t → neg_ℤ z ≡ neg_ℤ w +ℤ neg_ℤ t
opposite z w t e = omega (arith, ints)

pub congruent_neg : (A z w : ℤ) → Congruent A z w → Congruent A (neg_ℤ z) (neg_ℤ w)
congruent_neg A z w c = record { times = neg_ℤ c.times; is = rw (neg_times c.times A) (opposite z w (c.times *ℤ A) c.is) }

quot_times : (S A : ℤ) → rem_z S A +ℤ quot_z S A *ℤ A ≡ S
quot_times (pos a) (pos n) = ap pos (mod-add-div' a n)
quot_times (pos a) (negsuc n) = rw (neg_times (pos (a / suc n)) (negsuc n), neg_ℤ-neg_ℤ (pos (a / suc n * suc n))) (ap pos (mod-add-div' a (suc n)))
quot_times (negsuc a) (pos n) = rw (neg_times (pos (suc a / n)) (pos n), ← neg_ℤ-+ℤ) (ap (λ (k : ℕ). neg_ℤ (pos k)) (mod-add-div' (suc a) n))
quot_times (negsuc a) (negsuc n) = rw (← neg_ℤ-+ℤ) (ap (λ (k : ℕ). neg_ℤ (pos k)) (mod-add-div' (suc a) (suc n)))

left_over : (S r t : ℤ) → r +ℤ t ≡ S → r ≡ S +ℤ neg_ℤ t
left_over S r t e = omega (arith, ints)

pub congruent_rem : (A S : ℤ) → Congruent A (rem_z S A) S
congruent_rem A S =
    record { times = neg_ℤ (quot_z S A); is = rw (neg_times (quot_z S A) A) (left_over S (rem_z S A) (quot_z S A *ℤ A) (quot_times S A)) }

swung : (A S z h t : ℤ) → h +ℤ h ≡ A → z ≡ neg_ℤ (S +ℤ h) +ℤ t → z ≡ (neg_ℤ S +ℤ h) +ℤ (t -ℤ A)
swung A S z h t e c = omega (arith, ints)

-- to take off half of A is to add half of A
pub congruent_half : (A S z h : ℤ) → h +ℤ h ≡ A → Congruent A z (neg_ℤ (S +ℤ h)) → Congruent A z (neg_ℤ S +ℤ h)
congruent_half A S z h e c = record { times = pred_ℤ c.times; is = rw (pred_ℤ-*ℤ c.times A) (swung A S z h (c.times *ℤ A) e c.is) }
