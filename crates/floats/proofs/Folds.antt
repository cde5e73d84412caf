-- An angle from 0 to 360, folded at 45, 135, 225 and 315, is less the nearest multiple of 90, exactly: each difference is no larger than either term. H is 45 degrees in units.
use Rattle.std.proofs.Common.{◌≡◌, ℕ, ◌+◌, ◌*◌, ◌%◌, ◌<◌, ◌≤◌, Bool, true, false, cond, T, ltb, leb, ℤ, pos, ◌-ℤ◌, nat_abs, sym, refl, subst, le_trans, lt_of_le_of_lt, le_of_lt, one-mul, arith, ltb-false, ltb-true, leb-false, leb-true}
use Rattle.std.proofs.lemmas.Int.{ints}
use lib.Ieee.{Float, Format, prec, fits, sub, le, lt}
use lib.Ieee.Scale.{overflow}
use Rattle.exact.specs.Values.{Is}
use Rattle.exact.proofs.Values.{is_rep}
use Rattle.exact.proofs.Sums.{sub-rounds}
use Rattle.exact.proofs.Roundings.{rounds_exact}
use Rattle.exact.proofs.Orders.{le_is, lt_is}
use Rattle.exact.proofs.Sterbenz.{small_difference}

-- c is k times 45 degrees
pub record Mark (f : Format) (H k : ℕ) (c : Float) : Type 0 where
  pub is : Is f c (pos (k * H))
  pub held : T (fits f c)

-- r is Z less n times 90, with n the nearest number, and even where two are as near; q is n modulo 4
pub record Folded (f : Format) (H Z : ℕ) (r : Float) (q : ℕ) : Type 0 where
  pub times : ℕ
  pub modulo : q ≡ times % 4
  pub is : Is f r (pos Z -ℤ pos (times * 2 * H))
  pub near : nat_abs (pos Z -ℤ pos (times * 2 * H)) ≤ H
  pub even : nat_abs (pos Z -ℤ pos (times * 2 * H)) ≡ H → times % 2 ≡ 0

-- ---- over plain numbers
within : (Z C H : ℕ) → C ≤ Z + H → Z ≤ C + H → nat_abs (pos Z -ℤ pos C) ≤ H
within Z C H a b = omega (arith, ints)

strictly_within : (Z C H : ℕ) → C < Z + H → Z < C + H → nat_abs (pos Z -ℤ pos C) ≡ H → ⊥
strictly_within Z C H a b e = omega (arith, ints)

none_off : (Z H : ℕ) → pos Z ≡ pos Z -ℤ pos (0 * 2 * H)
none_off Z H = omega (arith, ints)

over_one : (H Z : ℕ) → H < Z → Z < 3 * H → (H ≤ Z) × (H ≤ 2 * H) × (2 * H < Z + H) × (Z < 2 * H + H)
over_one H Z a b = omega arith

over_three : (H Z : ℕ) → 3 * H ≤ Z → Z ≤ 5 * H → (H ≤ Z) × (H ≤ 4 * H) × (4 * H ≤ Z + H) × (Z ≤ 4 * H + H)
over_three H Z a b = omega arith

over_five : (H Z : ℕ) → 5 * H < Z → Z < 7 * H → (H ≤ Z) × (H ≤ 6 * H) × (6 * H < Z + H) × (Z < 6 * H + H)
over_five H Z a b = omega arith

over_seven : (H Z : ℕ) → 7 * H ≤ Z → Z < 8 * H → (H ≤ Z) × (H ≤ 8 * H) × (8 * H ≤ Z + H) × (Z ≤ 8 * H + H)
over_seven H Z a b = omega arith

-- ---- the arms
module _ (f : Format) (H Z : ℕ) (z : Float) (z-held : T (fits f z)) (z-is : Is f z (pos Z)) (H-small : H < overflow f) where
  -- a multiple of 90 is taken off
  taken_off : (n : ℕ) (c : Float) (m : Mark f H (n * 2) c) → H ≤ Z → H ≤ n * 2 * H → nat_abs (pos Z -ℤ pos (n * 2 * H)) ≤ H → Is f (sub f z c) (pos Z -ℤ pos (n * 2 * H))
  taken_off n c m a b h =
      rounds_exact f (sub f z c) (pos Z -ℤ pos (n * 2 * H)) (sub-rounds f z c (pos Z) (pos (n * 2 * H)) z-is m.is)
      (small_difference (prec f) (pos Z) (pos (n * 2 * H)) (is_rep f z (pos Z) z-held z-is) (is_rep f c (pos (n * 2 * H)) m.held m.is) (le_trans h a) (le_trans h b))
      (lt_of_le_of_lt h H-small)

  even_arm : (n : ℕ) (c : Float) (m : Mark f H (n * 2) c) → n % 2 ≡ 0 → H ≤ Z → H ≤ n * 2 * H → n * 2 * H ≤ Z + H → Z ≤ n * 2 * H + H → Folded f H Z (sub f z c) (n % 4)
  even_arm n c m e a b low high =
      let h = within Z (n * 2 * H) H low high in
      record { times = n; modulo = refl; is = taken_off n c m a b h; near = h; even = λ t. e }

  odd_arm : (n : ℕ) (c : Float) (m : Mark f H (n * 2) c) → H ≤ Z → H ≤ n * 2 * H → n * 2 * H < Z + H → Z < n * 2 * H + H → Folded f H Z (sub f z c) (n % 4)
  odd_arm n c m a b low high =
      let h = within Z (n * 2 * H) H (le_of_lt low) (le_of_lt high) in
      record { times = n; modulo = refl; is = taken_off n c m a b h; near = h; even = λ t. absurd (strictly_within Z (n * 2 * H) H low high t) }

  unmoved : Z ≤ H → Folded f H Z z 0
  unmoved h = record { times = 0; modulo = refl; is = subst (Is f z) (none_off Z H) z-is; near = subst (λ (w : ℤ). nat_abs w ≤ H) (none_off Z H) h; even = λ t. refl }

  module _ (c1 c2 c3 c4 c5 c6 c7 c8 : Float) (m1 : Mark f H 1 c1) (m2 : Mark f H 2 c2) (m3 : Mark f H 3 c3) (m4 : Mark f H 4 c4) (m5 : Mark f H 5 c5) (m6 : Mark f H 6 c6) (m7 : Mark f H 7 c7) (m8 : Mark f H 8 c8)
      (Z-small : Z < 8 * H) where
    arms : (p q r s : Bool) → leb Z H ≡ p → ltb Z (3 * H) ≡ q → leb Z (5 * H) ≡ r → ltb Z (7 * H) ≡ s
        → Folded f H Z (cond p z (cond q (sub f z c2) (cond r (sub f z c4) (cond s (sub f z c6) (sub f z c8))))) (cond p 0 (cond q 1 (cond r 2 (cond s 3 0))))
    arms true q r s a b c d = unmoved (leb-true Z H a)
    arms false true r s a b c d =
        let o = over_one H Z (leb-false Z H a) (ltb-true Z (3 * H) b) in
        odd_arm 1 c2 m2 o.0 o.1 o.2 o.3
    arms false false true s a b c d =
        let o = over_three H Z (ltb-false Z (3 * H) b) (leb-true Z (5 * H) c) in
        even_arm 2 c4 m4 refl o.0 o.1 o.2 o.3
    arms false false false true a b c d =
        let o = over_five H Z (leb-false Z (5 * H) c) (ltb-true Z (7 * H) d) in
        odd_arm 3 c6 m6 o.0 o.1 o.2 o.3
    arms false false false false a b c d =
        let o = over_seven H Z (ltb-false Z (7 * H) d) Z-small in
        even_arm 4 c8 m8 refl o.0 o.1 o.2 o.3

    pub folds : Folded f H Z
        (cond (le z c1) z (cond (lt z c3) (sub f z c2) (cond (le z c5) (sub f z c4) (cond (lt z c7) (sub f z c6) (sub f z c8)))))
        (cond (le z c1) 0 (cond (lt z c3) 1 (cond (le z c5) 2 (cond (lt z c7) 3 0))))
    folds =
        let one : Is f c1 (pos H) = subst (λ (k : ℕ). Is f c1 (pos k)) (one-mul H) m1.is in
        arms (le z c1) (lt z c3) (le z c5) (lt z c7)
        (sym (le_is f z c1 (pos Z) (pos H) z-is one)) (sym (lt_is f z c3 (pos Z) (pos (3 * H)) z-is m3.is))
        (sym (le_is f z c5 (pos Z) (pos (5 * H)) z-is m5.is)) (sym (lt_is f z c7 (pos Z) (pos (7 * H)) z-is m7.is))
