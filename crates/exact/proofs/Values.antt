-- What it is to be finite with an exact value: the value is unique, representable, and below the format's overflow.
use Rattle.std.proofs.Common.{◌≡◌, ℕ, zero, suc, ◌+◌, ◌-◌, ◌*◌, ◌/◌, ◌%◌, ◌^◌, ◌<◌, ◌≤◌, Bool, true, not, ◌&&◌, T, eqb, ltb, leb, ℤ, pos, negsuc, neg_ℤ, nat_abs, sym, refl, ap, ◌∙◌, subst, le_of_eq, lt_of_lt_of_le, le_of_suc-le-suc, mul_assoc, mul_comm, lt_of_mul-lt-mul_right, mul-lt-mul_of_pos_right, mul-pos, one-mul, lt_of_not-le, zero-mul, mul-one, sub-add_cancel, mul_right_comm, not-le_of_lt, mul-div_cancel, eqb→eq, ltb→lt, leb→le, pow_pos, pow-add}
use native.Mathlib.Nat.{eq_of_mul-eq-mul_right}
use lib.Pow.{pow-lt}
use lib.Ieee.{Float, Format, nan, inf, fin, prec, emax, low, up, down, neg, fits}
use lib.Ieee.Fits.{down_pos, and_l, and_r}
use lib.Ieee.Scale.{overflow, finite}
use borrow.Author.Tests.{clash}
use Rattle.std.specs.Float as Floats
use Rattle.exact.specs.Rounded.{Rep, RepZ}
use Rattle.exact.specs.Values.{signed, value, Is}
use Rattle.exact.proofs.Signs.{unsigned_abs_signed, unsigned_abs_neg, signed_not}

-- ---- the value
pub is_value : (f : Format) (x : Float) (z : ℤ) → Is f x z → value f x ≡ z
unfolding value
is_value f nan z i = absurd i.has
is_value f (inf s) z i = absurd i.has
is_value f (fin s m e) z i =
    ap (λ (t : Bool). signed t (m * up e * 2 ^ low f / down e)) i.has.0
    ∙ ap (signed i.sign) (ap (λ (k : ℕ). k / down e) i.has.1 ∙ mul-div_cancel (nat_abs z) (down_pos e))
    ∙ i.signs

pub is_finite : (f : Format) (x : Float) (z : ℤ) → Is f x z → T (finite x)
is_finite f nan z i = i.has
is_finite f (inf s) z i = i.has
is_finite f (fin s m e) z i = tt

-- ---- the opposite
pub neg_is : (f : Format) (x : Float) (z : ℤ) → Is f x z → Is f (neg x) (neg_ℤ z)
unfolding neg
neg_is f nan z i = absurd i.has
neg_is f (inf s) z i = absurd i.has
neg_is f (fin s m e) z i = record {
  sign = not i.sign;
  has = (ap not i.has.0, i.has.1 ∙ ap (λ (k : ℕ). k * down e) (sym (unsigned_abs_neg z)));
  signs = ap (signed (not i.sign)) (unsigned_abs_neg z) ∙ signed_not i.sign (nat_abs z) ∙ ap neg_ℤ i.signs;
}

-- ---- a float that fits is a whole number of units, with at most prec digits
exponent_le : (j l : ℕ) → 2 ^ j ≤ 2 ^ l → j ≤ l
exponent_le j l h = le_of_suc-le-suc (lt_of_not-le (λ (g : suc l ≤ j). not-le_of_lt (pow-lt g) h))

lowered : (m k l : ℕ) → suc k ≤ l → m * 1 * 2 ^ l ≡ m * 2 ^ (l - suc k) * 2 ^ suc k
lowered m k l h =
    ap (λ (j : ℕ). j * 2 ^ l) (mul-one m)
    ∙ ap (λ (j : ℕ). m * j) (ap (λ (j : ℕ). 2 ^ j) (sym (sub-add_cancel h)) ∙ pow-add 2 (l - suc k) (suc k))
    ∙ sym (mul_assoc m (2 ^ (l - suc k)) (2 ^ suc k))

-- how many units a float with odd part m and exponent e is
pub record Units (f : Format) (m : ℕ) (e : ℤ) : Type 0 where
  pub whole : ℕ
  pub rep : Rep (prec f) whole
  pub is : m * up e * 2 ^ low f ≡ whole * down e

units_of : (f : Format) (m : ℕ) (e : ℤ) → down e ≤ 2 ^ low f → m < 2 ^ prec f → Units f m e
units_of f m (pos k) h s = record {
  whole = m * 2 ^ k * 2 ^ low f;
  rep = record { digits = m; places = k + low f; few = s; is = mul_assoc m (2 ^ k) (2 ^ low f) ∙ ap (λ (j : ℕ). m * j) (sym (pow-add 2 k (low f))) };
  is = sym (mul-one (m * 2 ^ k * 2 ^ low f));
}
units_of f m (negsuc k) h s = record {
  whole = m * 2 ^ (low f - suc k);
  rep = record { digits = m; places = low f - suc k; few = s; is = refl };
  is = lowered m k (low f) (exponent_le (suc k) (low f) h);
}

-- the facts that `fits` tests
pub record Fitting (f : Format) (m : ℕ) (e : ℤ) : Type 0 where
  pub few : m < 2 ^ prec f
  pub fine : down e ≤ 2 ^ low f
  pub small : m * up e < 2 ^ suc (emax f) * down e

one_le_power : (e : ℤ) → up e * down e ≡ 1 → (down e ≡ 1) × (up e ≡ 1)
one_le_power (pos k) h = (refl, sym (mul-one (2 ^ k)) ∙ h)
one_le_power (negsuc k) h = (sym (one-mul (2 ^ suc k)) ∙ h, refl)

pub fitting : (f : Format) (s : Bool) (m : ℕ) (e : ℤ) → T (fits f (fin s m e)) → Fitting f m e
unfolding fits
fitting f s zero e t =
    let o = one_le_power e (eqb→eq (up e * down e) 1 t) in
    record {
      few = pow_pos (prec f);
      fine = subst (λ (k : ℕ). k ≤ 2 ^ low f) (sym o.0) (pow_pos (low f));
      small = subst (λ (k : ℕ). k < 2 ^ suc (emax f) * down e) (sym (zero-mul (up e))) (mul-pos (pow_pos (suc (emax f))) (down_pos e));
    }
fitting f s (suc m) e t =
    let odd_part = eqb (suc m % 2) 1 in
    let few = ltb (suc m) (2 ^ prec f) in
    let fine = leb (down e) (2 ^ low f) in
    let small = ltb (suc m * up e) (2 ^ suc (emax f) * down e) in
    let first_three = and_l (odd_part && few && fine) small t in
    record {
      few = ltb→lt (suc m) (2 ^ prec f) (and_r odd_part few (and_l (odd_part && few) fine first_three));
      fine = leb→le (down e) (2 ^ low f) (and_r (odd_part && few) fine first_three);
      small = ltb→lt (suc m * up e) (2 ^ suc (emax f) * down e) (and_r (odd_part && few && fine) small t);
    }

-- ---- what a float with an exact value is
pub finite_is : (f : Format) (x : Float) → T (fits f x) → T (finite x) → Is f x (value f x)
unfolding value
finite_is f nan t h = absurd h
finite_is f (inf s) t h = absurd h
finite_is f (fin s m e) t h =
    let k = fitting f s m e t in
    let u = units_of f m e k.fine k.few in
    let w : m * up e * 2 ^ low f / down e ≡ u.whole = ap (λ (j : ℕ). j / down e) u.is ∙ mul-div_cancel u.whole (down_pos e) in
    record {
      sign = s;
      has = (refl, u.is ∙ ap (λ (j : ℕ). j * down e) (sym w ∙ sym (unsigned_abs_signed s (m * up e * 2 ^ low f / down e))));
      signs = ap (signed s) (unsigned_abs_signed s (m * up e * 2 ^ low f / down e));
    }

pub is_rep : (f : Format) (x : Float) (z : ℤ) → T (fits f x) → Is f x z → RepZ (prec f) z
is_rep f nan z t i = absurd i.has
is_rep f (inf s) z t i = absurd i.has
is_rep f (fin s m e) z t i =
    let k = fitting f s m e t in
    let u = units_of f m e k.fine k.few in
    subst (Rep (prec f)) (eq_of_mul-eq-mul_right (down e) (down_pos e) u.whole (nat_abs z) (sym u.is ∙ i.has.1)) u.rep

pub is_below : (f : Format) (x : Float) (z : ℤ) → T (fits f x) → Is f x z → nat_abs z < overflow f
is_below f nan z t i = absurd i.has
is_below f (inf s) z t i = absurd i.has
is_below f (fin s m e) z t i =
    let k = fitting f s m e t in
    lt_of_mul-lt-mul_right (down e)
    (subst (λ (j : ℕ). j < overflow f * down e) i.has.1
    (lt_of_lt_of_le (mul-lt-mul_of_pos_right k.small (pow_pos (low f)))
    (le_of_eq (mul_right_comm (2 ^ suc (emax f)) (down e) (2 ^ low f) ∙ ap (λ (j : ℕ). j * down e) (mul_comm (2 ^ suc (emax f)) (2 ^ low f) ∙ sym (pow-add 2 (low f) (suc (emax f))))))))

-- ---- the same with the test that a program makes
tested : (x : Float) → Floats.float_is_finite x ≡ true → T (finite x)
unfolding Floats.float_is_finite
tested nan h = absurd (clash h)
tested (inf s) h = absurd (clash h)
tested (fin s m e) h = tt

pub finite_value : (f : Format) (x : Float) → T (fits f x) → Floats.float_is_finite x ≡ true → Is f x (value f x)
finite_value f x F h = finite_is f x F (tested x h)

pub is_tested : (f : Format) (x : Float) (z : ℤ) → Is f x z → Floats.float_is_finite x ≡ true
unfolding Floats.float_is_finite
is_tested f nan z i = absurd i.has
is_tested f (inf s) z i = absurd i.has
is_tested f (fin s m e) z i = refl
