-- The remainder by 90 is exact and nearest to zero: whole turns are taken off exactly by `%`, what is left is folded exactly, and a negative angle is the mirror image.
use Rattle.std.proofs.Common.{◌≡◌, ℕ, zero, suc, ◌+◌, ◌-◌, ◌*◌, ◌/◌, ◌%◌, ◌^◌, ◌<◌, ◌≤◌, Bool, true, false, cond, T, ℤ, pos, ◌+ℤ◌, ◌-ℤ◌, ◌*ℤ◌, neg_ℤ, nat_abs, sym, refl, ap, ◌∙◌, subst, mod-lt, mul-le-mul_left, div-add-mod', zero-mul, arith, lit<}
use lib.IntN.{neg_ℤ-+ℤ}
use Rattle.std.proofs.lemmas.Int.{ints}
use lib.Ieee.{Float, Format, nan, inf, fin, binary64, low, fits, neg, eq, of_bits}
use lib.Ieee.Fits.{rem-fits}
use lib.Ieee.Scale as Scale
use Rattle.std.specs.Float.{float_is_finite, is_sign_negative, float_with_sign}
use Rattle.std.specs.Int.{int_rem_euclid}
use Rattle.exact.specs.Values.{signed, value, Is}
use Rattle.exact.proofs.Signs.{unsigned_abs_signed, unsigned_abs_neg}
use Rattle.exact.proofs.Values.{is_value, is_finite, neg_is, finite_is, is_below}
use Rattle.exact.proofs.Orders.{eq_z, eq_is, eq_z_true, eq_z_false}
use Rattle.exact.proofs.Remainders.{rem_is}
use Rattle.floats.specs.Arithmetic.{bits}
use Rattle.floats.specs.Remainders.{zero as nought, ninety, folded_rest, folded_quotient, turned, zero_signed, rest_by90, quotient_by90, NearestRemainder}
use Rattle.floats.proofs.Folds.{Mark, Folded, folds}
use Rattle.floats.proofs.Rests.{plus_held}

-- ---- over plain numbers: N is the size of x, H half of 90; k whole turns and n quarters are taken off
taken : (N H k Z n : ℕ) → k * (8 * H) + Z ≡ N → pos N ≡ pos (4 * k + n) *ℤ pos (2 * H) +ℤ (pos Z -ℤ pos (n * 2 * H))
taken N H k Z n e = omega (arith, ints)

negated_times : (a b : ℕ) → neg_ℤ (pos (a * b)) ≡ neg_ℤ (pos a) *ℤ pos b
negated_times zero b = ap (λ (k : ℕ). neg_ℤ (pos k)) (zero-mul b) ∙ ap pos (sym (zero-mul b))
negated_times (suc a) b = refl

taken_mirrored : (N H k Z n : ℕ) → k * (8 * H) + Z ≡ N → neg_ℤ (pos N) ≡ neg_ℤ (pos (4 * k + n)) *ℤ pos (2 * H) +ℤ neg_ℤ (pos Z -ℤ pos (n * 2 * H))
taken_mirrored N H k Z n e =
    ap neg_ℤ (taken N H k Z n e)
    ∙ neg_ℤ-+ℤ (pos ((4 * k + n) * (2 * H))) (pos Z -ℤ pos (n * 2 * H))
    ∙ ap (λ (w : ℤ). w +ℤ neg_ℤ (pos Z -ℤ pos (n * 2 * H))) (negated_times (4 * k + n) (2 * H))

modulo_is : (k n : ℕ) → int_rem_euclid (pos (4 * k + n)) (pos 4) ≡ pos (n % 4)
modulo_is k n = ap pos (omega arith)

modulo_negated : (m q : ℕ) → (4 - m % 4) % 4 ≡ q → int_rem_euclid (neg_ℤ (pos m)) (pos 4) ≡ pos q
modulo_negated zero q h = ap pos h
modulo_negated (suc m) q h = ap pos (below_four m q h)
  where
    below_four : (m q : ℕ) → (4 - suc m % 4) % 4 ≡ q → 4 - 1 - m % 4 ≡ q
    below_four m q h = omega arith

modulo_mirrored : (k n : ℕ) → int_rem_euclid (neg_ℤ (pos (4 * k + n))) (pos 4) ≡ pos ((4 - n % 4) % 4)
modulo_mirrored k n = modulo_negated (4 * k + n) ((4 - n % 4) % 4) (omega arith)

even_sum : (k n m : ℕ) → m ≡ 4 * k + n → n % 2 ≡ 0 → m % 2 ≡ 0
even_sum k n m e h = omega arith

half_of : (a b : ℕ) → 2 * a ≡ 2 * b → a ≡ b
half_of a b e = omega arith

-- ---- the size and the sign of a finite float
finite_plain : (x : Float) → T (Scale.finite x) → T (float_is_finite x)
unfolding float_is_finite
finite_plain nan h = h
finite_plain (inf s) h = h
finite_plain (fin s m e) h = h

nought_is : nought ≡ fin false 0 (pos 0)
unfolding of_bits
nought_is = refl

module _ (f : Format) where
  value-signed : (x : Float) → T (fits f x) → T (float_is_finite x) → signed (is_sign_negative x) (nat_abs (value f x)) ≡ value f x
  unfolding float_is_finite is_sign_negative
  value-signed nan F h = absurd h
  value-signed (inf s) F h = absurd h
  value-signed (fin s m e) F h =
      let i = finite_is f (fin s m e) F tt in
      ap (λ (t : Bool). signed t (nat_abs (value f (fin s m e)))) i.has.0 ∙ i.signs

  size_is : (x : Float) → T (fits f x) → T (float_is_finite x) → Is f (float_with_sign false x) (pos (nat_abs (value f x)))
  unfolding float_is_finite float_with_sign
  size_is nan F h = absurd h
  size_is (inf s) F h = absurd h
  size_is (fin s m e) F h = record { sign = false; has = (refl, (finite_is f (fin s m e) F tt).has.1); signs = refl }

  -- ---- a zero takes the sign t
  zero_is : (t : Bool) → Is f (fin t 0 (pos 0)) (pos 0)
  zero_is true = record { sign = true; has = (refl, zero-mul (2 ^ low f)); signs = refl }
  zero_is false = record { sign = false; has = (refl, zero-mul (2 ^ low f)); signs = refl }

  signed_zero_is : (t : Bool) → Is f (float_with_sign t nought) (pos 0)
  unfolding float_with_sign
  signed_zero_is t = subst (λ (v : Float). Is f (float_with_sign t v) (pos 0)) (sym nought_is) (zero_is t)

  zero-step : (t : Bool) (r : Float) (R : ℤ) → Is f r R → Is f (cond (eq r nought) (float_with_sign t nought) r) R × (R ≡ pos 0 → cond (eq r nought) (float_with_sign t nought) r ≡ float_with_sign t nought)
  zero-step t r R i = go (eq r nought) (sym (eq_is f r nought R (pos 0) i (subst (λ (v : Float). Is f v (pos 0)) (sym nought_is) (zero_is false))))
    where
      go : (b : Bool) → eq_z R (pos 0) ≡ b → Is f (cond b (float_with_sign t nought) r) R × (R ≡ pos 0 → cond b (float_with_sign t nought) r ≡ float_with_sign t nought)
      go true e = (subst (Is f (float_with_sign t nought)) (sym (eq_z_true R (pos 0) e)) (signed_zero_is t), λ z. refl)
      go false e = (i, λ z. absurd (eq_z_false R (pos 0) e z))

  -- ---- from a folded size to the nearest remainder
  module _ (H : ℕ) (y : Float) (y-is : Is f y (pos (2 * H))) (x : Float) (F : T (fits f x)) (h : T (float_is_finite x)) where
    abbrev N : ℕ
    N = nat_abs (value f x)

    abbrev k : ℕ
    k = N / (8 * H)

    conclude : (s : Bool) (r : Float) (q n : ℕ) (R : ℤ) → is_sign_negative x ≡ s → Is f r R → (R ≡ pos 0 → r ≡ float_with_sign s nought) → nat_abs R ≤ H → (nat_abs R ≡ H → n % 2 ≡ 0)
        → signed s N ≡ signed s (4 * k + n) *ℤ pos (2 * H) +ℤ R → int_rem_euclid (signed s (4 * k + n)) (pos 4) ≡ pos q → NearestRemainder f x y r q
    conclude s r q n R g i z near even e m =
        let v = is_value f r R i in
        let w = is_value f y (pos (2 * H)) y-is in
        record {
          times = signed s (4 * k + n);
          rest_finite = finite_plain r (is_finite f r R i);
          exact = sym (value-signed x F h) ∙ ap (λ (t : Bool). signed t N) g ∙ e ∙ (λ j. signed s (4 * k + n) *ℤ sym w j +ℤ sym v j);
          half = subst (λ (a : ℤ). 2 * nat_abs a ≤ nat_abs (value f y)) (sym v) (subst (λ (a : ℤ). 2 * nat_abs R ≤ nat_abs a) (sym w) (mul-le-mul_left 2 near));
          tie_even = λ t. even_sum k n (nat_abs (signed s (4 * k + n))) (unsigned_abs_signed s (4 * k + n)) (even (half_of (nat_abs R) H (ap (λ (a : ℤ). 2 * nat_abs a) (sym v) ∙ t ∙ ap nat_abs w)));
          modulo = m;
          signed_zero = λ t. z (sym v ∙ t) ∙ ap (λ (b : Bool). float_with_sign b nought) (sym g);
        }

    unmirrored : (r : Float) (q : ℕ) → is_sign_negative x ≡ false → Folded f H (N % (8 * H)) r q → NearestRemainder f x y (zero_signed x r) q
    unmirrored r q g d =
        let R = pos (N % (8 * H)) -ℤ pos (d.times * 2 * H) in
        let z = zero-step false r R d.is in
        subst (λ (t : Bool). NearestRemainder f x y (cond (eq r nought) (float_with_sign t nought) r) q) (sym g)
        (conclude false (cond (eq r nought) (float_with_sign false nought) r) q d.times R g z.0 z.1 d.near d.even
        (taken N H k (N % (8 * H)) d.times (div-add-mod' N (8 * H)))
        (modulo_is k d.times ∙ ap pos (sym d.modulo)))

    mirrored : (r : Float) (q : ℕ) → is_sign_negative x ≡ true → Folded f H (N % (8 * H)) r q → NearestRemainder f x y (zero_signed x (neg r)) ((4 - q) % 4)
    mirrored r q g d =
        let R = pos (N % (8 * H)) -ℤ pos (d.times * 2 * H) in
        let z = zero-step true (neg r) (neg_ℤ R) (neg_is f r R d.is) in
        subst (λ (t : Bool). NearestRemainder f x y (cond (eq (neg r) nought) (float_with_sign t nought) (neg r)) ((4 - q) % 4)) (sym g)
        (conclude true (cond (eq (neg r) nought) (float_with_sign true nought) (neg r)) ((4 - q) % 4) d.times (neg_ℤ R) g z.0 z.1
        (subst (λ (a : ℕ). a ≤ H) (sym (unsigned_abs_neg R)) d.near) (λ t. d.even (sym (unsigned_abs_neg R) ∙ t))
        (taken_mirrored N H k (N % (8 * H)) d.times (div-add-mod' N (8 * H)))
        (modulo_mirrored k d.times ∙ ap (λ (a : ℕ). pos ((4 - a) % 4)) (sym d.modulo)))

-- ---- binary64
-- 45 degrees in units
abbrev eighth : ℕ
eighth = 45 * 2 ^ low binary64

mark45 : Mark binary64 eighth 1 (bits 0x4046800000000000)
unfolding of_bits fits
mark45 = record { is = record { sign = false; has = (refl, refl); signs = refl }; held = tt }

mark90 : Mark binary64 eighth 2 (bits 0x4056800000000000)
unfolding of_bits fits
mark90 = record { is = record { sign = false; has = (refl, refl); signs = refl }; held = tt }

mark135 : Mark binary64 eighth 3 (bits 0x4060e00000000000)
unfolding of_bits fits
mark135 = record { is = record { sign = false; has = (refl, refl); signs = refl }; held = tt }

mark180 : Mark binary64 eighth 4 (bits 0x4066800000000000)
unfolding of_bits fits
mark180 = record { is = record { sign = false; has = (refl, refl); signs = refl }; held = tt }

mark225 : Mark binary64 eighth 5 (bits 0x406c200000000000)
unfolding of_bits fits
mark225 = record { is = record { sign = false; has = (refl, refl); signs = refl }; held = tt }

mark270 : Mark binary64 eighth 6 (bits 0x4070e00000000000)
unfolding of_bits fits
mark270 = record { is = record { sign = false; has = (refl, refl); signs = refl }; held = tt }

mark315 : Mark binary64 eighth 7 (bits 0x4073b00000000000)
unfolding of_bits fits
mark315 = record { is = record { sign = false; has = (refl, refl); signs = refl }; held = tt }

mark360 : Mark binary64 eighth 8 (bits 0x4076800000000000)
unfolding of_bits fits
mark360 = record { is = record { sign = false; has = (refl, refl); signs = refl }; held = tt }

turn_pos : 0 < 8 * eighth
turn_pos = lit< tt

module _ (x : Float) (F : T (fits binary64 x)) (h : T (float_is_finite x)) where
  turned_is : Is binary64 (turned x) (pos (nat_abs (value binary64 x) % (8 * eighth)))
  turned_is = rem_is binary64 (float_with_sign false x) (bits 0x4076800000000000) (pos (nat_abs (value binary64 x))) (pos (8 * eighth)) (plus_held binary64 x F) mark360.held (size_is binary64 x F h) mark360.is turn_pos

  folded_is : Folded binary64 eighth (nat_abs (value binary64 x) % (8 * eighth)) (folded_rest (turned x)) (folded_quotient (turned x))
  folded_is =
      folds binary64 eighth (nat_abs (value binary64 x) % (8 * eighth)) (turned x) (rem-fits binary64 (float_with_sign false x) (bits 0x4076800000000000) (plus_held binary64 x F)) turned_is
      (is_below binary64 (bits 0x4046800000000000) (pos eighth) mark45.held mark45.is)
      _ _ _ _ _ _ _ _ mark45 mark90 mark135 mark180 mark225 mark270 mark315 mark360 (mod-lt (nat_abs (value binary64 x)) turn_pos)

  pub nearest_remainder : NearestRemainder binary64 x ninety (rest_by90 x) (quotient_by90 x)
  unfolding rest_by90 quotient_by90
  nearest_remainder = go (float_is_finite x) (is_sign_negative x) h refl
    where
      go : (b s : Bool) → T b → is_sign_negative x ≡ s
          → NearestRemainder binary64 x ninety (cond b (cond s (zero_signed x (neg (folded_rest (turned x)))) (zero_signed x (folded_rest (turned x)))) (bits 0x7ff8000000000000))
          (cond b (cond s ((4 - folded_quotient (turned x)) % 4) (folded_quotient (turned x))) 0)
      go false s t e = absurd t
      go true true t e = mirrored binary64 eighth ninety mark90.is x F h (folded_rest (turned x)) (folded_quotient (turned x)) e folded_is
      go true false t e = unmirrored binary64 eighth ninety mark90.is x F h (folded_rest (turned x)) (folded_quotient (turned x)) e folded_is

pub answered : (x r : Float) (q : ℕ) → fits binary64 x ≡ true → r ≡ rest_by90 x → q ≡ quotient_by90 x → T (float_is_finite x) → NearestRemainder binary64 x ninety r q
answered x r q F d e h =
    subst (λ (v : Float). NearestRemainder binary64 x ninety v q) (sym d)
    (subst (NearestRemainder binary64 x ninety (rest_by90 x)) (sym e) (nearest_remainder x (subst T (sym F) tt) h))
