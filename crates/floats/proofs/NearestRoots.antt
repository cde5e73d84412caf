-- The root of W * (u * u), u a power of two, rounded to p digits, is strictly nearer than any other number of p digits: no tie occurs, since a root that is whole has no more digits than its square.
use Rattle.std.proofs.Common.{◌≡◌, ℕ, zero, suc, ◌+◌, ◌*◌, ◌/◌, ◌%◌, ◌^◌, ◌<◌, ◌≤◌, sym, ap, ◌∙◌, subst, inl, inr, le_of_lt, eq-zero-or-pos, mul-lt-mul_of_pos_right, pow-suc, lt_of_not-le, arith}
use lib.Ieee.{root_twice}
use Rattle.exact.specs.Rounded.{rounded, Rep}
use Rattle.floats.proofs.WholeRoots.{strictly, under_even, over_even, odd_or_whole}
use Rattle.exact.proofs.Naturals.{rep_small, rep_double, rounded-low, rounded-high, rounded_exact}

-- ---- a whole root has no more digits than its square
few_digits : (p s d : ℕ) → 0 < p → s ≤ d → d < 2 ^ p → Rep p s
few_digits p s d P h l = rep_small p s P (omega arith)

at_most_square : (s d : ℕ) → s * s ≡ d → s ≤ d
at_most_square zero d e = omega arith
at_most_square (suc s) d e = omega arith

at_most_half_square : (s d : ℕ) → s * s ≡ d * 2 → s ≤ d
at_most_half_square zero d e = omega arith
at_most_half_square (suc zero) d e = omega arith
at_most_half_square (suc (suc s)) d e = omega arith

odd_square : (h q : ℕ) → (2 * h + 1) * (2 * h + 1) ≡ 4 * q → ⊥
odd_square h q e = omega arith

odd_is : (s : ℕ) → 0 < s % 2 → s ≡ 2 * (s / 2) + 1
odd_is s h = omega arith

even_is : (s : ℕ) → s % 2 ≡ 0 → s ≡ 2 * (s / 2)
even_is s h = omega arith

even_root : (s q : ℕ) → s * s ≡ 4 * q → s ≡ 2 * (s / 2)
even_root s q e =
    elim (eq-zero-or-pos (s % 2)) [
      | inl z ↦ even_is s z
      | inr o ↦ absurd (odd_square (s / 2) q (sym (λ i. odd_is s o i * odd_is s o i) ∙ e))
    ]

quarter : (s h q : ℕ) → s ≡ 2 * h → s * s ≡ 4 * q → h * h ≡ q
quarter s h q e f = let g : 2 * h * (2 * h) ≡ 4 * q = sym (λ i. e i * e i) ∙ f in omega arith

two_more : (d z : ℕ) → d * 2 ^ suc (suc z) ≡ 4 * (d * 2 ^ z)
two_more d z = omega (arith, ap (λ (k : ℕ). d * k) (pow-suc 2 (suc z)), ap (λ (k : ℕ). d * (k * 2)) (pow-suc 2 z))

root_rep : (p d z s : ℕ) → 0 < p → d < 2 ^ p → s * s ≡ d * 2 ^ z → Rep p s
root_rep p d zero s P h e = few_digits p s d P (at_most_square s d (omega arith)) h
root_rep p d (suc zero) s P h e = few_digits p s d P (at_most_half_square s d (omega arith)) h
root_rep p d (suc (suc z)) s P h e =
    let f : s * s ≡ 4 * (d * 2 ^ z) = e ∙ two_more d z in
    let half : s ≡ 2 * (s / 2) = even_root s (d * 2 ^ z) f in
    subst (Rep p) (sym half) (rep_double p (s / 2) (root_rep p d z (s / 2) P h (quarter s (s / 2) (d * 2 ^ z) half f)))

-- ---- over plain numbers: t is twice a root, R * (4 * u) what it rounds to, Y * (4 * u) another number, and (R + Y) * u half the middle
too_far : (t R Y u : ℕ) → R * u < Y * u → Y * (4 * u) ≤ R * (4 * u) → ⊥
too_far t R Y u h g = omega arith

middle_under : (t R Y u : ℕ) → R * u < Y * u → 2 * t ≤ R * (4 * u) + Y * (4 * u) → (t ≡ 2 * ((R + Y) * u) → t ≡ R * (4 * u)) → t < 2 * ((R + Y) * u)
middle_under t R Y u h g m = strictly (omega arith) (λ e. omega (arith, m e))

middle_over : (t R Y u : ℕ) → Y * u < R * u → R * (4 * u) + Y * (4 * u) ≤ 2 * t → (t ≡ 2 * ((R + Y) * u) → t ≡ R * (4 * u)) → 2 * ((R + Y) * u) < t
middle_over t R Y u h g m = strictly (omega arith) (λ e. omega (arith, m (sym e)))

-- ---- twice the root of n rounds to R * (4 * u); Y is another number of p digits
module _ (p n R u : ℕ) (P : 0 < p) (N : Rep p n) (U : 0 < u) (is : rounded p (root_twice n) ≡ R * (4 * u)) where
  never_middle : (S : ℕ) → root_twice n ≡ 2 * (S * u) → root_twice n ≡ R * (4 * u)
  never_middle S e =
      elim (odd_or_whole n) [
        | inl o ↦ absurd (omega arith)
        | inr w ↦
            let whole : Rep p w.0 = root_rep p N.digits N.places w.0 P N.few (w.2 ∙ N.is) in
            let twice : Rep p (root_twice n) = subst (Rep p) (sym w.1) (rep_double p w.0 whole) in
            sym (rounded_exact p (root_twice n) P twice) ∙ is
      ]

  pub root_above : (Y : ℕ) → Rep p (Y * (4 * u)) → R < Y → n < (R + Y) * u * ((R + Y) * u)
  root_above Y r h =
      let t = root_twice n in
      let more : R * u < Y * u = mul-lt-mul_of_pos_right h U in
      let over : t ≤ Y * (4 * u) = le_of_lt (lt_of_not-le (λ g. too_far t R Y u more (subst (λ (k : ℕ). Y * (4 * u) ≤ k) is (rounded-low p (Y * (4 * u)) t P r g).0))) in
      under_even n ((R + Y) * u)
      (middle_under t R Y u more (subst (λ (k : ℕ). 2 * t ≤ k + Y * (4 * u)) is (rounded-high p (Y * (4 * u)) t P r over).1) (never_middle (R + Y)))

  pub root_below : (Y : ℕ) → Rep p (Y * (4 * u)) → Y < R → (R + Y) * u * ((R + Y) * u) < n
  root_below Y r h =
      let t = root_twice n in
      let less : Y * u < R * u = mul-lt-mul_of_pos_right h U in
      let under : Y * (4 * u) ≤ t = le_of_lt (lt_of_not-le (λ g. too_far t Y R u less (subst (λ (k : ℕ). k ≤ Y * (4 * u)) is (rounded-high p (Y * (4 * u)) t P r g).0))) in
      over_even n ((R + Y) * u)
      (middle_over t R Y u less (subst (λ (k : ℕ). k + Y * (4 * u) ≤ 2 * t) is (rounded-low p (Y * (4 * u)) t P r under).1) (never_middle (R + Y)))
