-- A latitude at least 2 ^ -57 degree off the equator stays off it when it is rounded: below 1/16 the largest double below 1/16 bounds the first difference.
use Rattle.std.proofs.Common.{◌≡◌, ℕ, zero, suc, ◌<◌, ◌≤◌, Bool, true, false, cond, T, ℤ, pos, negsuc, ◌-ℤ◌, neg_ℤ, nat_abs, ◌≤ℤ◌, ◌<ℤ◌, sym, refl, ap, ◌∙◌, subst, lt_of_lt_of_le, not-le_of_lt, arith, lit<, ltb-true, leb-true}
use lib.Dec.{eqb-suc-zero}
use lib.Signed.{lt_z, le_z}
use Rattle.std.proofs.lemmas.Int.{ints}
use lib.Ieee.{Float, binary64, prec, nan, inf, fin, neg, div, fits, of_bits}
use lib.Ieee.Fits.{neg-fits, sub-fits}
use lib.Ieee.Scale.{overflow}
use Rattle.std.specs.Float.{float_with_sign}
use Rattle.exact.specs.Rounded.{rounded_z, RepZ}
use Rattle.exact.specs.Values.{value, Is}
use Rattle.exact.proofs.Values.{neg_is, finite_is, is_rep, is_below}
use Rattle.exact.proofs.Sums.{sub-rounds}
use Rattle.exact.proofs.Roundings.{rounds_bounded, prec_pos}
use Rattle.exact.proofs.Naturals.{rep_zero}
use Rattle.exact.proofs.Integers.{rounded_z-low, rounded_z-high}
use Rattle.exact.proofs.Signs.{unsigned_abs_neg}
use Rattle.exact.proofs.Rests.{positive_size}
use Rattle.exact.proofs.Orders.{lt_is, le_is, eq_is, eq_z}
use Rattle.floats.specs.Arithmetic.{◌⊖◌, ◌⊘◌, ◌≺◌, ◌≼◌, ◌≗◌, bits}
use Rattle.geomath.specs.Angles.{zero as none, one, sixteen, coarse, ang_round}
use Rattle.geomath.specs.Exact.{exactly}
use Rattle.geomath.proofs.Turns.{is_none}

-- ---- the size of a float
pub size_is : (x : Float) (z : ℤ) → Is binary64 x z → Is binary64 (float_with_sign false x) (pos (nat_abs z))
unfolding float_with_sign
size_is nan z i = absurd i.has
size_is (inf s) z i = absurd i.has
size_is (fin s m e) z i = record { sign = false; has = (refl, i.has.1); signs = refl }

pub size_fits : (x : Float) → T (fits binary64 x) → T (fits binary64 (float_with_sign false x))
unfolding float_with_sign fits
size_fits nan F = F
size_fits (inf s) F = F
size_fits (fin s zero e) F = F
size_fits (fin s (suc m) e) F = F

-- ---- 1/16, the double below it, and their distance 2 ^ -57
abbrev sixteenth : Float
sixteenth = one ⊘ sixteen

abbrev just_below : Float
just_below = bits 0x3fafffffffffffff

-- 2 ^ -57 degree
abbrev pub least : Float
least = bits 0x3c60000000000000

unfoldable whole : ℕ
whole = nat_abs (exactly sixteenth)

unfoldable step : ℕ
step = nat_abs (exactly least)

sixteenth-fits : T (fits binary64 sixteenth)
unfolding fits div of_bits
sixteenth-fits = tt

below_fits : T (fits binary64 just_below)
unfolding fits of_bits
below_fits = tt

least_fits : T (fits binary64 least)
unfolding fits of_bits
least_fits = tt

is_sixteenth : Is binary64 sixteenth (pos whole)
unfolding whole div of_bits value
is_sixteenth = finite_is binary64 sixteenth sixteenth-fits tt

is_least : Is binary64 least (pos step)
unfolding step of_bits value
is_least = finite_is binary64 least least_fits tt

is_just_below : Is binary64 just_below (pos whole -ℤ pos step)
unfolding whole step div of_bits value
is_just_below = finite_is binary64 just_below below_fits tt

step_pos : 0 < step
unfolding step of_bits value
step_pos = lit< tt

-- ---- the size, made coarse
module _ (s n y : ℕ) (sp : 0 < s) (large : s ≤ y) (small : y < n) where
  first_size : nat_abs (pos n -ℤ pos y) ≤ n
  first_size = omega (arith, ints)

  first_high : (pos n -ℤ pos y) ≤ℤ (pos n -ℤ pos s)
  first_high = omega (arith, ints)

  first_low : pos 0 ≤ℤ (pos n -ℤ pos y)
  first_low = omega (arith, ints)

  second_size : (w : ℤ) → pos 0 ≤ℤ w → w ≤ℤ (pos n -ℤ pos s) → nat_abs (pos n -ℤ w) ≤ n
  second_size w l u = omega (arith, ints)

  second_low : (w : ℤ) → w ≤ℤ (pos n -ℤ pos s) → pos s ≤ℤ (pos n -ℤ w)
  second_low w u = omega (arith, ints)

above_nothing : (s : ℕ) (r : ℤ) → 0 < s → pos s ≤ℤ r → pos 0 <ℤ r
above_nothing s r p l = omega (arith, ints)

some_left : (s y : ℕ) → 0 < s → s ≤ y → pos 0 <ℤ pos y
some_left s y p l = omega (arith, ints)

natural : (y n : ℕ) → lt_z (pos y) (pos n) ≡ true → y < n
natural y n e = ltb-true y n e

pub record Above (x : Float) : Type 0 where
  pub exact : ℤ
  pub is : Is binary64 x exact
  pub fit : T (fits binary64 x)
  pub positive : pos 0 <ℤ exact

coarse_above : (y : Float) (n : ℕ) → T (fits binary64 y) → Is binary64 y (pos n) → step ≤ n → Above (coarse y)
coarse_above y n F i large = go (y ≺ sixteenth) refl
  where
    w : ℤ
    w = rounded_z (prec binary64) (pos whole -ℤ pos n)

    rep : RepZ (prec binary64) (pos whole)
    rep = is_rep binary64 sixteenth (pos whole) sixteenth-fits is_sixteenth

    room : whole < overflow binary64
    room = is_below binary64 sixteenth (pos whole) sixteenth-fits is_sixteenth

    inner : n < whole → Is binary64 (sixteenth ⊖ y) w
    inner small = rounds_bounded binary64 (sixteenth ⊖ y) (pos whole -ℤ pos n) whole (sub-rounds binary64 sixteenth y (pos whole) (pos n) is_sixteenth i) rep room (first_size step whole n step_pos large small)

    w_low : n < whole → pos 0 ≤ℤ w
    w_low small = (rounded_z-low (prec binary64) (pos 0) (pos whole -ℤ pos n) (prec_pos binary64) (rep_zero (prec binary64)) (first_low step whole n step_pos large small)).0

    w_high : n < whole → w ≤ℤ (pos whole -ℤ pos step)
    w_high small =
        (rounded_z-high (prec binary64) (pos whole -ℤ pos step) (pos whole -ℤ pos n) (prec_pos binary64) (is_rep binary64 just_below (pos whole -ℤ pos step) below_fits is_just_below)
        (first_high step whole n step_pos large small)).0

    outer : n < whole → Above (sixteenth ⊖ (sixteenth ⊖ y))
    outer small = record {
      exact = rounded_z (prec binary64) (pos whole -ℤ w);
      is = rounds_bounded binary64 (sixteenth ⊖ (sixteenth ⊖ y)) (pos whole -ℤ w) whole (sub-rounds binary64 sixteenth (sixteenth ⊖ y) (pos whole) w is_sixteenth (inner small)) rep room
          (second_size step whole n step_pos large small w (w_low small) (w_high small));
      fit = sub-fits binary64 sixteenth (sixteenth ⊖ y);
      positive = above_nothing step (rounded_z (prec binary64) (pos whole -ℤ w)) step_pos
          (rounded_z-low (prec binary64) (pos step) (pos whole -ℤ w) (prec_pos binary64) (is_rep binary64 least (pos step) least_fits is_least) (second_low step whole n step_pos large small w (w_high small))).0;
    }

    go : (b : Bool) → (y ≺ sixteenth) ≡ b → Above (cond b (sixteenth ⊖ (sixteenth ⊖ y)) y)
    go true e = outer (natural n whole (sym (lt_is binary64 y sixteenth (pos n) (pos whole) i is_sixteenth) ∙ e))
    go false e = record { exact = pos n; is = i; fit = F; positive = some_left step n step_pos large }

-- ---- the rounded latitude
pub record Off (x : Float) (z : ℤ) : Type 0 where
  pub exact : ℤ
  pub is : Is binary64 (ang_round x) exact
  pub fit : T (fits binary64 (ang_round x))
  pub some : 0 < nat_abs exact
  pub given : 0 < nat_abs z

at_least : (n : ℕ) → le_z (pos step) (pos n) ≡ true → step ≤ n
at_least n e = leb-true step n e

nonzero : (z : ℤ) → step ≤ nat_abs z → eq_z z (pos 0) ≡ false
nonzero (pos zero) h = absurd (not-le_of_lt step_pos h)
nonzero (pos (suc n)) h = eqb-suc-zero n
nonzero (negsuc n) h = refl

pub off_equator : (x : Float) (z : ℤ) → T (fits binary64 x) → Is binary64 x z → (least ≼ float_with_sign false x) ≡ true → Off x z
off_equator x z F i h =
    let size = size_is x z i in
    let large = at_least (nat_abs z) (sym (le_is binary64 least (float_with_sign false x) (pos step) (pos (nat_abs z)) is_least size) ∙ h) in
    let y = coarse (float_with_sign false x) in
    let above = coarse_above (float_with_sign false x) (nat_abs z) (size_fits x F) size large in
    let some : (x ≗ none) ≡ false = eq_is binary64 x none z (pos 0) i is_none ∙ nonzero z large in
    chosen (x ≺ none) y above (lt_of_lt_of_le step_pos large) (ap (λ (b : Bool). cond b none (cond (x ≺ none) (neg y) y)) some)
  where
    chosen : (b : Bool) (y : Float) → Above y → 0 < nat_abs z → ang_round x ≡ cond b (neg y) y → Off x z
    chosen true y a n e = record {
      exact = neg_ℤ a.exact;
      is = subst (λ (v : Float). Is binary64 v (neg_ℤ a.exact)) (sym e) (neg_is binary64 y a.exact a.is);
      fit = subst (λ (v : Float). T (fits binary64 v)) (sym e) (neg-fits binary64 y a.fit);
      some = subst (λ (k : ℕ). 0 < k) (sym (unsigned_abs_neg a.exact)) (positive_size a.exact a.positive);
      given = n;
    }
    chosen false y a n e = record {
      exact = a.exact;
      is = subst (λ (v : Float). Is binary64 v a.exact) (sym e) a.is;
      fit = subst (λ (v : Float). T (fits binary64 v)) (sym e) a.fit;
      some = positive_size a.exact a.positive;
      given = n;
    }
