-- The law of the error-free sum at binary64, from the exact values of its six operations.
use Rattle.std.proofs.Common.{◌≡◌, ℕ, ◌+◌, ◌*◌, ◌^◌, ◌<◌, ◌≤◌, T, ℤ, ◌+ℤ◌, ◌-ℤ◌, neg_ℤ, nat_abs, sym, ap, ◌∙◌, subst, arith, lit<}
use Rattle.std.proofs.lemmas.Int.{ints}
use lib.IntN.{+ℤ_comm}
use lib.Ieee.{Float, binary64, prec, neg, fits}
use lib.Ieee.Fits.{add-fits, neg-fits}
use lib.Ieee.Scale.{overflow}
use Rattle.exact.specs.Rounded.{rounded_z}
use Rattle.exact.specs.Values.{Is}
use Rattle.exact.proofs.Values.{finite_value, is_value, is_tested, neg_is}
use Rattle.exact.proofs.Integers.{rounded_z-neg}
use Rattle.exact.proofs.Signs.{unsigned_abs_neg}
use Rattle.exact.proofs.Unique.{plain_same}
use Rattle.exact.proofs.Commutes.{add_commutes}
use Rattle.exact.proofs.TwoSum.{two-sum, Transformed}
use Rattle.exact.proofs.Rests.{whole_sum, opposite_rest, roomy}
use Rattle.floats.specs.Sums.{high, low, exactly, Moderate, ErrorFree}

-- ---- sizes
within : (z w : ℤ) → nat_abs z ≤ 2 ^ 2094 → nat_abs w ≤ 2 ^ 2094 → 4 * (nat_abs z + nat_abs w) < overflow binary64
within z w h k = roomy (nat_abs z) (nat_abs w) (2 ^ 2094) (overflow binary64) h k (lit< tt)

-- ---- whole numbers
opposite_sum : (z w : ℤ) → neg_ℤ z +ℤ neg_ℤ w ≡ neg_ℤ (z +ℤ w)
opposite_sum z w = omega (arith, ints)

abbrev rounds : ℤ → ℤ
rounds = rounded_z (prec binary64)

-- ---- the law
fits-high : (x y : Float) → T (fits binary64 (high x y))
fits-high x y = add-fits binary64 x y

fits_low : (x y : Float) → T (fits binary64 (low x y))
fits_low x y = neg-fits binary64 _ (add-fits binary64 _ _)

module _ (u v : Float) (F : T (fits binary64 u)) (G : T (fits binary64 v)) (m : Moderate u) (n : Moderate v) where
  left : Is binary64 u (exactly u)
  left = finite_value binary64 u F m.is_finite

  right : Is binary64 v (exactly v)
  right = finite_value binary64 v G n.is_finite

  own : Transformed binary64 u v (exactly u) (exactly v)
  own = two-sum binary64 u v (exactly u) (exactly v) F G left right (within (exactly u) (exactly v) m.size n.size)

  swapped : Transformed binary64 v u (exactly v) (exactly u)
  swapped = two-sum binary64 v u (exactly v) (exactly u) G F right left (within (exactly v) (exactly u) n.size m.size)

  opposite : Transformed binary64 (neg u) (neg v) (neg_ℤ (exactly u)) (neg_ℤ (exactly v))
  opposite =
      two-sum binary64 (neg u) (neg v) (neg_ℤ (exactly u)) (neg_ℤ (exactly v)) (neg-fits binary64 u F) (neg-fits binary64 v G) (neg_is binary64 u (exactly u) left) (neg_is binary64 v (exactly v) right)
      (within (neg_ℤ (exactly u)) (neg_ℤ (exactly v)) (subst (λ (k : ℕ). k ≤ 2 ^ 2094) (sym (unsigned_abs_neg (exactly u))) m.size) (subst (λ (k : ℕ). k ≤ 2 ^ 2094) (sym (unsigned_abs_neg (exactly v))) n.size))

  abbrev total : ℤ
  total = exactly u +ℤ exactly v

  mirrored_high : rounds (neg_ℤ (exactly u) +ℤ neg_ℤ (exactly v)) ≡ neg_ℤ (rounds total)
  mirrored_high = ap rounds (opposite_sum (exactly u) (exactly v)) ∙ rounded_z-neg (prec binary64) total

  mirrored_low : (neg_ℤ (exactly u) +ℤ neg_ℤ (exactly v)) -ℤ rounds (neg_ℤ (exactly u) +ℤ neg_ℤ (exactly v)) ≡ neg_ℤ (total -ℤ rounds total)
  mirrored_low = (λ i. opposite_sum (exactly u) (exactly v) i -ℤ mirrored_high i) ∙ opposite_rest total (rounds total)

  pub error-free : ErrorFree u v
  error-free = record {
    high_finite = is_tested binary64 (high u v) (rounds total) own.high;
    low_finite = is_tested binary64 (low u v) (total -ℤ rounds total) own.low;
    nearest = is_value binary64 (high u v) (rounds total) own.high;
    exact = (λ i. is_value binary64 (high u v) (rounds total) own.high i +ℤ is_value binary64 (low u v) (total -ℤ rounds total) own.low i) ∙ whole_sum total (rounds total);
    commutes_high = add_commutes binary64 v u;
    commutes_low =
        plain_same binary64 (low v u) (low u v) (total -ℤ rounds total) (fits_low v u) (fits_low u v)
        (subst (λ (q : ℤ). Is binary64 (low v u) (q -ℤ rounds q)) (+ℤ_comm (exactly v) (exactly u)) swapped.low) own.low;
    mirrors_high =
        plain_same binary64 (high (neg u) (neg v)) (neg (high u v)) (neg_ℤ (rounds total)) (fits-high (neg u) (neg v)) (neg-fits binary64 (high u v) (fits-high u v))
        (subst (Is binary64 (high (neg u) (neg v))) mirrored_high opposite.high) (neg_is binary64 (high u v) (rounds total) own.high);
    mirrors_low =
        plain_same binary64 (low (neg u) (neg v)) (neg (low u v)) (neg_ℤ (total -ℤ rounds total)) (fits_low (neg u) (neg v)) (neg-fits binary64 (low u v) (fits_low u v))
        (subst (Is binary64 (low (neg u) (neg v))) mirrored_low opposite.low) (neg_is binary64 (low u v) (total -ℤ rounds total) own.low);
  }
