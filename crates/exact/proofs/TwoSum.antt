-- The error-free transformation on floats: the rounded sum of two floats, and six operations later exactly what the rounding left out.
use Rattle.std.proofs.Common.{◌≡◌, ℕ, ◌+◌, ◌*◌, ◌<◌, ◌≤◌, T, ℤ, ◌+ℤ◌, ◌-ℤ◌, neg_ℤ, nat_abs, refl, subst, lt_of_le_of_lt, arith}
use Rattle.std.proofs.lemmas.Int.{ints}
use lib.Ieee.{Float, Format, prec, neg, add, sub, fits}
use lib.Ieee.Fits.{two}
use lib.Ieee.Scale.{overflow}
use Rattle.exact.specs.Rounded.{rounded_z}
use Rattle.exact.specs.Values.{Is, Rounds}
use Rattle.exact.proofs.Values.{neg_is, is_rep}
use Rattle.exact.proofs.Sums.{add_rounds, sub-rounds}
use Rattle.exact.proofs.Roundings.{rounds_is}
use Rattle.exact.proofs.Integers.{unsigned_abs_rounded}
use Rattle.exact.proofs.ErrorFree.{error-free-steps, error_free_bounds}

-- the rounded sum, and what is left out, as floats compute it
abbrev pub summed : Format → Float → Float → Float
summed f u v = add f u v

abbrev pub error : Format → Float → Float → Float
error f u v = neg (add f (sub f (sub f (summed f u v) v) u) (sub f (sub f (summed f u v) (sub f (summed f u v) v)) v))

rounds-within : (f : Format) (x : Float) (z : ℤ) (b : ℕ) → Rounds f x z → nat_abs (rounded_z (prec f) z) ≤ b → b < overflow f → Is f x (rounded_z (prec f) z)
rounds-within f x z b r h l = rounds_is f x z r (subst (λ (k : ℕ). k < overflow f) (unsigned_abs_rounded (prec f) z) (lt_of_le_of_lt h l))

pub record Transformed (f : Format) (u v : Float) (z w : ℤ) : Type 0 where
  pub high : Is f (summed f u v) (rounded_z (prec f) (z +ℤ w))
  pub low : Is f (error f u v) ((z +ℤ w) -ℤ rounded_z (prec f) (z +ℤ w))

turned : (s e t : ℤ) → e ≡ s -ℤ t → neg_ℤ e ≡ t -ℤ s
turned s e t h = omega (arith, ints)

pub two-sum : (f : Format) (u v : Float) (z w : ℤ) → T (fits f u) → T (fits f v) → Is f u z → Is f v w → 4 * (nat_abs z + nat_abs w) < overflow f → Transformed f u v z w
two-sum f u v z w F G i j l =
    let R = rounded_z (prec f) in
    let s = R (z +ℤ w) in
    let a = R (s -ℤ w) in
    let b = R (s -ℤ a) in
    let c = R (a -ℤ z) in
    let d = R (b -ℤ w) in
    let e = R (c +ℤ d) in
    let bound = 4 * (nat_abs z + nat_abs w) in
    let limits = error_free_bounds (prec f) (two f) z w (is_rep f u z F i) (is_rep f v w G j) s a b c d e refl refl refl refl refl refl in
    let steps = error-free-steps (prec f) (two f) z w (is_rep f u z F i) (is_rep f v w G j) s a b c d e refl refl refl refl refl refl in
    let is-s : Is f (summed f u v) s = rounds-within f (summed f u v) (z +ℤ w) bound (add_rounds f u v z w i j) limits.sum l in
    let is-a : Is f (sub f (summed f u v) v) a = rounds-within f _ (s -ℤ w) bound (sub-rounds f (summed f u v) v s w is-s j) limits.left l in
    let is_b : Is f (sub f (summed f u v) (sub f (summed f u v) v)) b = rounds-within f _ (s -ℤ a) bound (sub-rounds f _ _ s a is-s is-a) limits.right l in
    let is_c : Is f (sub f (sub f (summed f u v) v) u) c = rounds-within f _ (a -ℤ z) bound (sub-rounds f _ u a z is-a i) limits.left_error l in
    let is-d : Is f (sub f (sub f (summed f u v) (sub f (summed f u v) v)) v) d = rounds-within f _ (b -ℤ w) bound (sub-rounds f _ v b w is_b j) limits.right_error l in
    let is-e : Is f (add f (sub f (sub f (summed f u v) v) u) (sub f (sub f (summed f u v) (sub f (summed f u v) v)) v)) e = rounds-within f _ (c +ℤ d) bound (add_rounds f _ _ c d is_c is-d) limits.error l in
    record {
      high = is-s;
      low = subst (Is f (error f u v)) (turned s e (z +ℤ w) steps.error) (neg_is f _ e is-e);
    }
