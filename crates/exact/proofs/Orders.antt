-- Comparisons of floats are comparisons of their exact values.
use Rattle.std.proofs.Common.{◌≡◌, ℕ, zero, suc, ◌+◌, ◌*◌, ◌^◌, ◌<◌, Bool, true, false, ◌&&◌, ◌||◌, eqb, ltb, leb, ℤ, pos, negsuc, nat_abs, sym, refl, ap, ◌∙◌, zero-le, le_of_eq, le_of_lt, mul-pos, zero-add, zero-mul, arith, pow_pos, ltb-false, ltb-true, le-ltb, lt-ltb, eq-eqb, eqb-true, le-leb}
use Rattle.std.proofs.Math.Bool.{and-true, and-false, and_self}
use mathlib.Core.Bool.{beq}
use lib.Arith.{lt_of_le-ne}
use lib.Dec.{leb-suc-suc, eqb-zero-suc, eqb-suc-zero, eqb-suc-suc}
use lib.Signed.{lt_z, le_z}
use borrow.Author.Tests.{lt-leb, eqb-false, clash}
use lib.Ieee.{Float, Format, nan, inf, fin, low, up, down, below, level, lt, le, eq}
use lib.Ieee.Fits.{down_pos}
use Rattle.exact.specs.Values.{signed, Is}
use Rattle.exact.proofs.Scaled.{scaled_ltb, scaled_eqb, scaled_plus}
use Rattle.exact.proofs.Sums.{over_first, over_second}

-- equality of whole numbers, as a test
abbrev pub eq_z : ℤ → ℤ → Bool
eq_z (pos a) (pos b) = eqb a b
eq_z (pos a) (negsuc b) = false
eq_z (negsuc a) (pos b) = false
eq_z (negsuc a) (negsuc b) = eqb a b

pub eq_z_true : (z w : ℤ) → eq_z z w ≡ true → z ≡ w
eq_z_true (pos a) (pos b) h = ap pos (eqb-true a b h)
eq_z_true (pos a) (negsuc b) h = absurd (clash h)
eq_z_true (negsuc a) (pos b) h = absurd (clash h)
eq_z_true (negsuc a) (negsuc b) h = ap negsuc (eqb-true a b h)

pub eq_z_refl : (z : ℤ) → eq_z z z ≡ true
eq_z_refl (pos a) = eq-eqb a a refl
eq_z_refl (negsuc a) = eq-eqb a a refl

pub eq_z_false : (z w : ℤ) → eq_z z w ≡ false → z ≡ w → ⊥
eq_z_false z w h e = clash (sym h ∙ ap (eq_z z) (sym e) ∙ eq_z_refl z)

pub apart_eq_z : (z w : ℤ) → (z ≡ w → ⊥) → eq_z z w ≡ false
apart_eq_z z w n = go (eq_z z w) refl
  where
    go : (t : Bool) → eq_z z w ≡ t → t ≡ false
    go true h = absurd (n (eq_z_true z w h))
    go false h = refl

-- below or equal
pub le_z_parts : (z w : ℤ) → (lt_z z w || eq_z z w) ≡ le_z z w
le_z_parts (pos a) (pos b) = parts a b
  where
    parts : (m n : ℕ) → (ltb m n || eqb m n) ≡ leb m n
    parts m n = go (ltb m n) (eqb m n) refl refl
      where
        go : (p q : Bool) → ltb m n ≡ p → eqb m n ≡ q → (p || q) ≡ leb m n
        go true q h k = sym (le-leb m n (le_of_lt (ltb-true m n h)))
        go false true h k = sym (le-leb m n (le_of_eq (eqb-true m n k)))
        go false false h k = sym (lt-leb m n (lt_of_le-ne (ltb-false m n h) (λ (e : n ≡ m). eqb-false m n k (sym e))))
le_z_parts (pos a) (negsuc b) = refl
le_z_parts (negsuc a) (pos b) = refl
le_z_parts (negsuc a) (negsuc b) = parts a b
  where
    parts : (m n : ℕ) → (ltb n m || eqb m n) ≡ leb n m
    parts m n = go (ltb n m) (eqb m n) refl refl
      where
        go : (p q : Bool) → ltb n m ≡ p → eqb m n ≡ q → (p || q) ≡ leb n m
        go true q h k = sym (le-leb n m (le_of_lt (ltb-true n m h)))
        go false true h k = sym (le-leb n m (le_of_eq (sym (eqb-true m n k))))
        go false false h k = sym (lt-leb n m (lt_of_le-ne (ltb-false n m h) (eqb-false m n k)))

-- ---- sizes with signs
below_signed : (s t : Bool) (a b : ℕ) → below s a t b ≡ lt_z (signed s a) (signed t b)
below_signed false false a b = refl
below_signed false true a zero = sym (le-ltb a 0 zero-le)
below_signed false true a (suc b) = refl
below_signed true false zero b = ap (ltb 0) (zero-add b)
below_signed true false (suc a) b = lt-ltb 0 (suc a + b) (omega arith)
below_signed true true zero zero = refl
below_signed true true zero (suc b) = le-ltb (suc b) 0 zero-le
below_signed true true (suc a) zero = lt-ltb 0 (suc a) (omega arith)
below_signed true true (suc a) (suc b) = leb-suc-suc (suc b) a

level_signed : (s t : Bool) (a b : ℕ) → level s a t b ≡ eq_z (signed s a) (signed t b)
level_signed false false a b = and-true (eqb a b)
level_signed false true a zero = and_self (eqb a 0)
level_signed false true zero (suc b) = ap (λ (t : Bool). t && (false || eqb 0 0)) (eqb-zero-suc b)
level_signed false true (suc a) (suc b) = ap (λ (t : Bool). eqb (suc a) (suc b) && (false || t)) (eqb-suc-zero a) ∙ and-false (eqb (suc a) (suc b))
level_signed true false zero b = and-true (eqb 0 b)
level_signed true false (suc a) b = ap (λ (t : Bool). eqb (suc a) b && (false || t)) (eqb-suc-zero a) ∙ and-false (eqb (suc a) b)
level_signed true true zero zero = refl
level_signed true true zero (suc b) = and-true (eqb 0 (suc b)) ∙ eqb-zero-suc b
level_signed true true (suc a) zero = and-true (eqb (suc a) 0) ∙ eqb-suc-zero a
level_signed true true (suc a) (suc b) = and-true (eqb (suc a) (suc b)) ∙ eqb-suc-suc a b

-- ---- any two floats
below_scaled : (s t : Bool) (A B C a b L : ℕ) → 0 < C → 0 < L → A * L ≡ a * C → B * L ≡ b * C → below s A t B ≡ below s a t b
below_scaled false false A B C a b L P Q h k = scaled_ltb A B C a b L P Q h k
below_scaled false true A B C a b L P Q h k = refl
below_scaled true false A B C a b L P Q h k = scaled_ltb 0 (A + B) C 0 (a + b) L P Q (zero-mul L ∙ sym (zero-mul C)) (scaled_plus A B C a b L P Q h k)
below_scaled true true A B C a b L P Q h k = scaled_ltb B A C b a L P Q k h

level_scaled : (s t : Bool) (A B C a b L : ℕ) → 0 < C → 0 < L → A * L ≡ a * C → B * L ≡ b * C → level s A t B ≡ level s a t b
level_scaled s t A B C a b L P Q h k =
    let sizes = scaled_eqb A B C a b L P Q h k in
    let none = scaled_eqb A 0 C a 0 L P Q h (zero-mul L ∙ sym (zero-mul C)) in
    λ i. sizes i && (beq s t || none i)

module _ (f : Format) where
  pub lt_is : (x y : Float) (z w : ℤ) → Is f x z → Is f y w → lt x y ≡ lt_z z w
  unfolding lt
  lt_is nan y z w i j = absurd i.has
  lt_is (inf s) y z w i j = absurd i.has
  lt_is (fin s m e) nan z w i j = absurd j.has
  lt_is (fin s m e) (inf t) z w i j = absurd j.has
  lt_is (fin s m e) (fin t n d) z w i j =
      below_scaled s t (m * up e * down d) (n * up d * down e) (down e * down d) (nat_abs z) (nat_abs w) (2 ^ low f) (mul-pos (down_pos e) (down_pos d)) (pow_pos (low f))
      (over_first (m * up e) (down e) (down d) (2 ^ low f) (nat_abs z) i.has.1) (over_second (n * up d) (down e) (down d) (2 ^ low f) (nat_abs w) j.has.1)
      ∙ below_signed s t (nat_abs z) (nat_abs w)
      ∙ (λ k. lt_z (signed (i.has.0 k) (nat_abs z)) (signed (j.has.0 k) (nat_abs w)))
      ∙ (λ k. lt_z (i.signs k) (j.signs k))

  pub eq_is : (x y : Float) (z w : ℤ) → Is f x z → Is f y w → eq x y ≡ eq_z z w
  unfolding eq
  eq_is nan y z w i j = absurd i.has
  eq_is (inf s) y z w i j = absurd i.has
  eq_is (fin s m e) nan z w i j = absurd j.has
  eq_is (fin s m e) (inf t) z w i j = absurd j.has
  eq_is (fin s m e) (fin t n d) z w i j =
      level_scaled s t (m * up e * down d) (n * up d * down e) (down e * down d) (nat_abs z) (nat_abs w) (2 ^ low f) (mul-pos (down_pos e) (down_pos d)) (pow_pos (low f))
      (over_first (m * up e) (down e) (down d) (2 ^ low f) (nat_abs z) i.has.1) (over_second (n * up d) (down e) (down d) (2 ^ low f) (nat_abs w) j.has.1)
      ∙ level_signed s t (nat_abs z) (nat_abs w)
      ∙ (λ k. eq_z (signed (i.has.0 k) (nat_abs z)) (signed (j.has.0 k) (nat_abs w)))
      ∙ (λ k. eq_z (i.signs k) (j.signs k))

  pub le_is : (x y : Float) (z w : ℤ) → Is f x z → Is f y w → le x y ≡ le_z z w
  unfolding le
  le_is x y z w i j = (λ k. lt_is x y z w i j k || eq_is x y z w i j k) ∙ le_z_parts z w
