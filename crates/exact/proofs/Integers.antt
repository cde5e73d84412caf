-- The laws of rounding on numbers with a sign, carried over from natural numbers by the sign; and `fine`: a number no larger than two others, in every unit that they share, has as few digits as they have.
use Rattle.std.proofs.Common.{◌≡◌, ℕ, zero, suc, ◌+◌, ◌-◌, ◌*◌, ◌^◌, ◌<◌, ◌≤◌, ◌⊎◌, ℤ, pos, negsuc, ◌+ℤ◌, ◌-ℤ◌, neg_ℤ, nat_abs, ◌≤ℤ◌, ◌<ℤ◌, sym, refl, ap, ◌∙◌, subst, inl, inr, le_trans, le_of_eq, le_refl, lt_of_le_of_lt, le_of_lt, mul_comm, add-mul, zero-mul, le_of_mul-le-mul_right, arith, pow_pos, zero-le}
use Rattle.std.proofs.Math.Arith.{le-zero}
use Rattle.std.proofs.lemmas.Bool.{cases_lt}
use native.Mathlib.Nat.{mul-sub}
use lib.IntN.{neg_ℤ-neg_ℤ}
use Rattle.std.proofs.lemmas.Int.{ints, by_lt_z}
use Rattle.exact.specs.Rounded.{rounded, rounded_z, Rep, RepZ}
use Rattle.exact.proofs.Signs.{unsigned_abs_neg}
use Rattle.exact.proofs.Naturals.{rep_zero, rep_small, rep_scaled, rounded-low, rounded-high, rounded_rep, rounded_exact, rounded_mono, rounded_scaled, rounded_relative, rounded_relative_result, rounded-half-place, closest-high, unit, distance, Multiple, multiple_of_power}

-- ---- signs

pub rep_neg : (p : ℕ) (z : ℤ) → RepZ p z → RepZ p (neg_ℤ z)
rep_neg p z r = subst (λ (x : ℕ). Rep p x) (sym (unsigned_abs_neg z)) r

pub rounded-zero : (p : ℕ) → rounded p 0 ≡ 0
unfolding rounded
rounded-zero p =
    let u = unit p 0 in
    let z = zero-mul u in
    le-zero (le_trans (closest-high 0 u 0 (pow_pos _) (le_of_eq (sym z))).0 (le_of_eq z))

pub rounded_z-neg : (p : ℕ) (z : ℤ) → rounded_z p (neg_ℤ z) ≡ neg_ℤ (rounded_z p z)
unfolding rounded_z
rounded_z-neg p (pos zero) = ap pos (rounded-zero p) ∙ ap (λ (x : ℕ). neg_ℤ (pos x)) (sym (rounded-zero p))
rounded_z-neg p (pos (suc n)) = refl
rounded_z-neg p (negsuc n) = sym (neg_ℤ-neg_ℤ (pos (rounded p (suc n))))

pub unsigned_abs_rounded : (p : ℕ) (z : ℤ) → nat_abs (rounded_z p z) ≡ rounded p (nat_abs z)
unfolding rounded_z
unsigned_abs_rounded p (pos n) = refl
unsigned_abs_rounded p (negsuc n) = unsigned_abs_neg (pos (rounded p (suc n)))

pub rounded_z_rep : (p : ℕ) (z : ℤ) → 0 < p → RepZ p (rounded_z p z)
rounded_z_rep p z P = subst (λ (x : ℕ). Rep p x) (sym (unsigned_abs_rounded p z)) (rounded_rep p (nat_abs z) P)

pub rounded_z_exact : (p : ℕ) (z : ℤ) → 0 < p → RepZ p z → rounded_z p z ≡ z
unfolding rounded_z
rounded_z_exact p (pos n) P r = ap pos (rounded_exact p n P r)
rounded_z_exact p (negsuc n) P r = ap (λ (x : ℕ). neg_ℤ (pos x)) (rounded_exact p (suc n) P r)

-- ---- nearest

low_both : (m n r : ℕ) → (m ≤ r) × (r + m ≤ 2 * n) → (pos m ≤ℤ pos r) × ((pos r +ℤ pos m) ≤ℤ (pos n +ℤ pos n))
low_both m n r h = (omega (arith, ints), omega (arith, ints))

low_apart : (m n r : ℕ) → r + 0 ≤ 2 * n → (negsuc m ≤ℤ pos r) × ((pos r +ℤ negsuc m) ≤ℤ (pos n +ℤ pos n))
low_apart m n r h = (omega (arith, ints), omega (arith, ints))

low_negative : (m n r : ℕ) → (r ≤ suc m) × (2 * suc n ≤ r + suc m) → (negsuc m ≤ℤ neg_ℤ (pos r)) × ((neg_ℤ (pos r) +ℤ negsuc m) ≤ℤ (negsuc n +ℤ negsuc n))
low_negative m n r h = (omega (arith, ints), omega (arith, ints))

from_pos : (m n : ℕ) → pos m ≤ℤ pos n → m ≤ n
from_pos m n h = omega (arith, ints)

from_negsuc : (m n : ℕ) → negsuc m ≤ℤ negsuc n → suc n ≤ suc m
from_negsuc m n h = omega (arith, ints)

pub rounded_z-low : (p : ℕ) (a z : ℤ) → 0 < p → RepZ p a → a ≤ℤ z → (a ≤ℤ rounded_z p z) × ((rounded_z p z +ℤ a) ≤ℤ (z +ℤ z))
unfolding rounded_z
rounded_z-low p (pos m) (pos n) P r h = low_both m n (rounded p n) (rounded-low p m n P r (from_pos m n h))
rounded_z-low p (negsuc m) (pos n) P r h = low_apart m n (rounded p n) (rounded-low p 0 n P (rep_zero p) zero-le).1
rounded_z-low p (pos m) (negsuc n) P r h = absurd h.le
rounded_z-low p (negsuc m) (negsuc n) P r h = low_negative m n (rounded p (suc n)) (rounded-high p (suc m) (suc n) P r (from_negsuc m n h))

mirror_le : (a z : ℤ) → z ≤ℤ a → neg_ℤ a ≤ℤ neg_ℤ z
mirror_le a z h = omega (arith, ints)

mirror_back : (a y z : ℤ) → (neg_ℤ a ≤ℤ neg_ℤ y) × ((neg_ℤ y +ℤ neg_ℤ a) ≤ℤ (neg_ℤ z +ℤ neg_ℤ z)) → (y ≤ℤ a) × ((z +ℤ z) ≤ℤ (y +ℤ a))
mirror_back a y z h = (omega (arith, ints), omega (arith, ints))

pub rounded_z-high : (p : ℕ) (a z : ℤ) → 0 < p → RepZ p a → z ≤ℤ a → (rounded_z p z ≤ℤ a) × ((z +ℤ z) ≤ℤ (rounded_z p z +ℤ a))
rounded_z-high p a z P r h =
    mirror_back a (rounded_z p z) z
    (subst (λ (x : ℤ). (neg_ℤ a ≤ℤ x) × ((x +ℤ neg_ℤ a) ≤ℤ (neg_ℤ z +ℤ neg_ℤ z))) (rounded_z-neg p z) (rounded_z-low p (neg_ℤ a) (neg_ℤ z) P (rep_neg p a r) (mirror_le a z h)))

pub ≤ℤ_or_<ℤ : (a b : ℤ) → (a ≤ℤ b) ⊎ (b <ℤ a)
≤ℤ_or_<ℤ a b = by_lt_z b a (λ (h : b <ℤ a). inr h) (λ (h : a ≤ℤ b). inl h)

pub <ℤ_≤ℤ : (a b : ℤ) → a <ℤ b → a ≤ℤ b
<ℤ_≤ℤ a b h = omega (arith, ints)

near_from_below : (a y z : ℤ) → a ≤ℤ z → (a ≤ℤ y) × ((y +ℤ a) ≤ℤ (z +ℤ z)) → nat_abs (y -ℤ z) ≤ nat_abs (a -ℤ z)
near_from_below a y z h g = omega (arith, ints)

near_from_above : (a y z : ℤ) → z ≤ℤ a → (y ≤ℤ a) × ((z +ℤ z) ≤ℤ (y +ℤ a)) → nat_abs (y -ℤ z) ≤ nat_abs (a -ℤ z)
near_from_above a y z h g = omega (arith, ints)

-- no number of p digits is nearer
pub rounded_z_nearest : (p : ℕ) (a z : ℤ) → 0 < p → RepZ p a → nat_abs (rounded_z p z -ℤ z) ≤ nat_abs (a -ℤ z)
rounded_z_nearest p a z P r =
    elim (≤ℤ_or_<ℤ a z) [
      | inl h ↦ near_from_below a (rounded_z p z) z h (rounded_z-low p a z P r h)
      | inr h ↦ near_from_above a (rounded_z p z) z (<ℤ_≤ℤ z a h) (rounded_z-high p a z P r (<ℤ_≤ℤ z a h))
    ]

-- ---- order

to_pos : (m n : ℕ) → m ≤ n → pos m ≤ℤ pos n
to_pos m n h = omega (arith, ints)

to_negative : (m n : ℕ) → n ≤ m → neg_ℤ (pos m) ≤ℤ neg_ℤ (pos n)
to_negative m n h = omega (arith, ints)

to_apart : (m n : ℕ) → neg_ℤ (pos m) ≤ℤ pos n
to_apart m n = omega (arith, ints)

pub rounded_z_mono : (p : ℕ) (y z : ℤ) → 0 < p → y ≤ℤ z → rounded_z p y ≤ℤ rounded_z p z
unfolding rounded_z
rounded_z_mono p (pos m) (pos n) P h = to_pos (rounded p m) (rounded p n) (rounded_mono p m n P (from_pos m n h))
rounded_z_mono p (negsuc m) (pos n) P h = to_apart (rounded p (suc m)) (rounded p n)
rounded_z_mono p (pos m) (negsuc n) P h = absurd h.le
rounded_z_mono p (negsuc m) (negsuc n) P h = to_negative (rounded p (suc m)) (rounded p (suc n)) (rounded_mono p (suc n) (suc m) P (from_negsuc m n h))

-- a bound of p digits on the size of z, above or below, is one on the size of the rounded number
pub rounded_z_at_most : (p a : ℕ) (z : ℤ) → 0 < p → Rep p a → nat_abs z ≤ a → nat_abs (rounded_z p z) ≤ a
rounded_z_at_most p a z P r h = le_trans (le_of_eq (unsigned_abs_rounded p z)) (rounded-high p a (nat_abs z) P r h).0

pub rounded_z_at_least : (p a : ℕ) (z : ℤ) → 0 < p → Rep p a → a ≤ nat_abs z → a ≤ nat_abs (rounded_z p z)
rounded_z_at_least p a z P r h = le_trans (rounded-low p a (nat_abs z) P r h).0 (le_of_eq (sym (unsigned_abs_rounded p z)))

-- ---- how far the rounded number is

apart_pos : (r n : ℕ) → nat_abs (pos r -ℤ pos n) ≡ distance r n
apart_pos r n = omega (arith, ints)

apart_negative : (r n : ℕ) → nat_abs (neg_ℤ (pos r) -ℤ negsuc n) ≡ distance r (suc n)
apart_negative r n = omega (arith, ints)

pub unsigned_abs_error : (p : ℕ) (z : ℤ) → nat_abs (rounded_z p z -ℤ z) ≡ distance (rounded p (nat_abs z)) (nat_abs z)
unfolding rounded_z
unsigned_abs_error p (pos n) = apart_pos (rounded p n) n
unsigned_abs_error p (negsuc n) = apart_negative (rounded p (suc n)) n

-- the distance of two multiples of q
sub_times : (r n q : ℕ) → (r - n) * q ≡ r * q - n * q
sub_times r n q = mul_comm (r - n) q ∙ mul-sub q r n ∙ ap (λ (x : ℕ). x - q * n) (mul_comm q r) ∙ ap (λ (x : ℕ). r * q - x) (mul_comm q n)

pub distance_times : (r n q : ℕ) → distance r n * q ≡ distance (r * q) (n * q)
distance_times r n q = add-mul (r - n) (n - r) q ∙ ap (λ (x : ℕ). x + (n - r) * q) (sub_times r n q) ∙ ap (λ (x : ℕ). (r * q - n * q) + x) (sub_times n r q)

within : (x y m : ℕ) → (x ≤ y + m) × (y ≤ x + m) → distance x y ≤ m
within x y m h = omega arith

scaled_within : (r n q m : ℕ) → (r * q ≤ n * q + m) × (n * q ≤ r * q + m) → distance r n * q ≤ m
scaled_within r n q m h = le_trans (le_of_eq (distance_times r n q)) (within (r * q) (n * q) m h)

-- by at most one part in 2 ^ p of the result, and of the number itself
pub rounded_z_relative : (p : ℕ) (z : ℤ) → 0 < p → (nat_abs (rounded_z p z -ℤ z) * 2 ^ p ≤ nat_abs (rounded_z p z)) × (nat_abs (rounded_z p z -ℤ z) * 2 ^ p ≤ nat_abs z)
rounded_z_relative p z P =
    let n = nat_abs z in
    let y = rounded p n in
    let e = ap (λ (x : ℕ). x * 2 ^ p) (unsigned_abs_error p z) in (
      le_trans (le_of_eq e) (le_trans (scaled_within y n (2 ^ p) y (rounded_relative_result p n P)) (le_of_eq (sym (unsigned_abs_rounded p z)))),
      le_trans (le_of_eq e) (scaled_within y n (2 ^ p) n (rounded_relative p n P)),
    )

half-within : (x y u : ℕ) → (2 * x ≤ 2 * y + u) × (2 * y ≤ 2 * x + u) → 2 * distance x y ≤ u
half-within x y u h = omega arith

-- by at most half a unit
pub rounded_z-half-place : (p : ℕ) (z : ℤ) → 2 * nat_abs (rounded_z p z -ℤ z) ≤ unit p (nat_abs z)
rounded_z-half-place p z =
    le_trans (le_of_eq (ap (λ (x : ℕ). 2 * x) (unsigned_abs_error p z))) (half-within (rounded p (nat_abs z)) (nat_abs z) (unit p (nat_abs z)) (rounded-half-place p (nat_abs z)))

-- ---- whole numbers of a unit

pub multiple_sum : (u a b : ℕ) → Multiple u a → Multiple u b → Multiple u (a + b)
multiple_sum u a b x y =
    record { times = x.times + y.times; is = ap (λ (z : ℕ). z + b) x.is ∙ ap (λ (z : ℕ). x.times * u + z) y.is ∙ sym (add-mul x.times y.times u) }

pub multiple_distance : (u a b : ℕ) → Multiple u a → Multiple u b → Multiple u (distance a b)
multiple_distance u a b x y = record {
  times = distance x.times y.times;
  is = ap (λ (z : ℕ). distance z b) x.is ∙ ap (λ (z : ℕ). distance (x.times * u) z) y.is ∙ sym (distance_times x.times y.times u);
}

sum_negative : (a b : ℕ) → nat_abs (negsuc a +ℤ negsuc b) ≡ suc a + suc b
sum_negative a b = omega (arith, ints)

sum_right_negative : (a b : ℕ) → nat_abs (pos a +ℤ negsuc b) ≡ distance a (suc b)
sum_right_negative a b = omega (arith, ints)

sum_left_negative : (a b : ℕ) → nat_abs (negsuc a +ℤ pos b) ≡ distance (suc a) b
sum_left_negative a b = omega (arith, ints)

pub multiple_plus : (u : ℕ) (a b : ℤ) → Multiple u (nat_abs a) → Multiple u (nat_abs b) → Multiple u (nat_abs (a +ℤ b))
multiple_plus u (pos a) (pos b) x y = multiple_sum u a b x y
multiple_plus u (pos a) (negsuc b) x y = subst (λ (z : ℕ). Multiple u z) (sym (sum_right_negative a b)) (multiple_distance u a (suc b) x y)
multiple_plus u (negsuc a) (pos b) x y = subst (λ (z : ℕ). Multiple u z) (sym (sum_left_negative a b)) (multiple_distance u (suc a) b x y)
multiple_plus u (negsuc a) (negsuc b) x y = subst (λ (z : ℕ). Multiple u z) (sym (sum_negative a b)) (multiple_sum u (suc a) (suc b) x y)

pub multiple_minus : (u : ℕ) (a b : ℤ) → Multiple u (nat_abs a) → Multiple u (nat_abs b) → Multiple u (nat_abs (a -ℤ b))
multiple_minus u a b x y = multiple_plus u a (neg_ℤ b) x (subst (λ (z : ℕ). Multiple u z) (sym (unsigned_abs_neg b)) y)

-- rounding stays in the unit
pub multiple_rounded : (p j : ℕ) (z : ℤ) → 0 < p → Multiple (2 ^ j) (nat_abs z) → Multiple (2 ^ j) (nat_abs (rounded_z p z))
multiple_rounded p j z P x =
    record { times = rounded p x.times; is = unsigned_abs_rounded p z ∙ ap (rounded p) x.is ∙ rounded_scaled p x.times j P }

-- a number of p digits is a whole number of its last place, and of every smaller unit
pub rep_multiple : (p j n : ℕ) (r : Rep p n) → j ≤ r.places → Multiple (2 ^ j) n
rep_multiple p j n r h = record { times = r.digits * 2 ^ (r.places - j); is = r.is ∙ multiple_of_power r.digits r.places j h }

-- ---- few digits

-- a whole number of 2 ^ j that needs at most p digits
pub rep_of_multiple : (p j n : ℕ) → 0 < p → Multiple (2 ^ j) n → n ≤ 2 ^ p * 2 ^ j → Rep p n
rep_of_multiple p j n P x h =
    subst (λ (z : ℕ). Rep p z) (sym x.is)
    (rep_scaled p x.times j (rep_small p x.times P (le_of_mul-le-mul_right (subst (λ (z : ℕ). z ≤ 2 ^ p * 2 ^ j) x.is h) (pow_pos j))))

-- no larger than a number of p digits, in the unit of its last place
pub rep_below : (p a d : ℕ) (r : Rep p a) → Multiple (2 ^ r.places) d → d ≤ a → Rep p d
rep_below p a d r x h = record {
  digits = x.times;
  places = r.places;
  few = lt_of_le_of_lt (le_of_mul-le-mul_right (le_trans (le_of_eq (sym x.is)) (le_trans h (le_of_eq r.is))) (pow_pos r.places)) r.few;
  is = x.is;
}

pub fine : (p : ℕ) (a b d : ℤ) → RepZ p a → RepZ p b → ((j : ℕ) → Multiple (2 ^ j) (nat_abs a) → Multiple (2 ^ j) (nat_abs b) → Multiple (2 ^ j) (nat_abs d)) → nat_abs d ≤ nat_abs a → nat_abs d ≤ nat_abs b → RepZ p d
fine p a b d r s shared h k =
    let i = r.places in
    let j = s.places in
    elim (cases_lt j i) [
      | inr l ↦ rep_below p (nat_abs a) (nat_abs d) r (shared i (rep_multiple p i (nat_abs a) r (le_refl i)) (rep_multiple p i (nat_abs b) s l)) h
      | inl l ↦ rep_below p (nat_abs b) (nat_abs d) s (shared j (rep_multiple p j (nat_abs a) r (le_of_lt l)) (rep_multiple p j (nat_abs b) s (le_refl j))) k
    ]
