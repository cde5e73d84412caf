-- Two fractions over a common denominator compare, add, subtract and leave remainders as their numerators do: A / C = a / L and B / C = b / L.
use Rattle.std.proofs.Common.{◌≡◌, ℕ, ◌+◌, ◌-◌, ◌*◌, ◌/◌, ◌%◌, ◌<◌, ◌≤◌, Bool, true, false, eqb, ltb, sym, refl, ap, ◌∙◌, subst, mul-le-mul_right, mul_assoc, mul_comm, add-mul, lt_of_mul-lt-mul_right, mul-lt-mul_of_pos_right, le_of_mul-le-mul_right, mul_left_comm, ltb-false, ltb-true, le-ltb, lt-ltb, eq-eqb, ne_eqb, eqb-true}
use native.Mathlib.Nat.{mul-sub, eq_of_mul-eq-mul_right, mod-eq-sub-mul-div, mul-div-mul_right}
use borrow.Author.Tests.{eqb-false}

-- a common factor goes through a remainder
pub mod_times : (n m k : ℕ) → 0 < k → n * k % (m * k) ≡ n % m * k
mod_times n m k K =
    mod-eq-sub-mul-div (n * k) (m * k)
    ∙ ap (λ (q : ℕ). n * k - m * k * q) (mul-div-mul_right n m K)
    ∙ ap (λ (q : ℕ). n * k - q) (mul_assoc m k (n / m) ∙ mul_left_comm m k (n / m))
    ∙ ap (λ (q : ℕ). q - k * (m * (n / m))) (mul_comm n k)
    ∙ sym (mul-sub k n (m * (n / m)))
    ∙ mul_comm k (n - m * (n / m))
    ∙ ap (λ (q : ℕ). q * k) (sym (mod-eq-sub-mul-div n m))

module _ (A B C a b L : ℕ) (C-pos : 0 < C) (L-pos : 0 < L) (first : A * L ≡ a * C) (second : B * L ≡ b * C) where
  pub scaled_lt : a < b → A < B
  scaled_lt h = lt_of_mul-lt-mul_right L (subst (λ (k : ℕ). k < B * L) (sym first) (subst (λ (k : ℕ). a * C < k) (sym second) (mul-lt-mul_of_pos_right h C-pos)))

  pub scaled_le : b ≤ a → B ≤ A
  scaled_le h = le_of_mul-le-mul_right (subst (λ (k : ℕ). k ≤ A * L) (sym second) (subst (λ (k : ℕ). b * C ≤ k) (sym first) (mul-le-mul_right C h))) L-pos

  pub scaled_ltb : ltb A B ≡ ltb a b
  scaled_ltb = go (ltb a b) refl
    where
      go : (t : Bool) → ltb a b ≡ t → ltb A B ≡ t
      go true e = lt-ltb A B (scaled_lt (ltb-true a b e))
      go false e = le-ltb A B (scaled_le (ltb-false a b e))

  pub scaled_eqb : eqb A B ≡ eqb a b
  scaled_eqb = go (eqb a b) refl
    where
      go : (t : Bool) → eqb a b ≡ t → eqb A B ≡ t
      go true e = eq-eqb A B (eq_of_mul-eq-mul_right L L-pos A B (first ∙ ap (λ (k : ℕ). k * C) (eqb-true a b e) ∙ sym second))
      go false e = ne_eqb A B (λ (q : A ≡ B). eqb-false a b e (eq_of_mul-eq-mul_right C C-pos a b (sym first ∙ ap (λ (k : ℕ). k * L) q ∙ second)))

  pub scaled_plus : (A + B) * L ≡ (a + b) * C
  scaled_plus = add-mul A B L ∙ ap (λ (k : ℕ). k + B * L) first ∙ ap (λ (k : ℕ). a * C + k) second ∙ sym (add-mul a b C)

  pub scaled_minus : (A - B) * L ≡ (a - b) * C
  scaled_minus =
      mul_comm (A - B) L
      ∙ mul-sub L A B
      ∙ ap (λ (k : ℕ). k - L * B) (mul_comm L A ∙ first ∙ mul_comm a C)
      ∙ ap (λ (k : ℕ). C * a - k) (mul_comm L B ∙ second ∙ mul_comm b C)
      ∙ sym (mul-sub C a b)
      ∙ mul_comm C (a - b)

  pub scaled_rest : A % B * L ≡ a % b * C
  scaled_rest = sym (mod_times A B L L-pos) ∙ ap (λ (k : ℕ). k % (B * L)) first ∙ ap (λ (k : ℕ). a * C % k) second ∙ mod_times a b C C-pos
