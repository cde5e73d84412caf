-- The area law for the reduced area: the remainder by the whole area starts the steps exactly, and the half of the whole area is exact.
use Rattle.std.proofs.Common.{◌≡◌, ℕ, suc, ◌*◌, ◌^◌, ◌<◌, ◌≤◌, Bool, true, false, cond, T, ℤ, pos, negsuc, ◌+ℤ◌, ◌-ℤ◌, ◌*ℤ◌, neg_ℤ, nat_abs, ◌<ℤ◌, sym, refl, ap, ◌∙◌, subst, true≢false, le_trans, mul-le-mul_right, mod-lt, mul_comm, arith, pow_pos, pow_mono}
use native.Mathlib.Nat.{le-suc}
use lib.Signed.{le_z, rem_z}
use lib.Ieee.{Float, binary64, nan, inf, fin, neg, add, sub, rem, lt, le, eq, fits, of_bits, of_fields}
use lib.Ieee as Ieee
use lib.Ieee.Fits.{rem-fits, neg-fits, div-fits}
use Rattle.std.specs.Float as Floats
use Rattle.std.proofs.lemmas.Int.{ints}
use Rattle.exact.specs.Values.{Is, value}
use Rattle.exact.proofs.Signs.{unsigned_abs_neg}
use Rattle.exact.proofs.Rests.{positive_size}
use Rattle.exact.proofs.Values.{finite_is, is_value, is_finite, is_rep, neg_is}
use Rattle.exact.proofs.Orders.{le_is}
use Rattle.exact.proofs.Remainders.{rem_is}
use Rattle.exact.proofs.Halves.{even_above, half_is}
use Rattle.floats.specs.Arithmetic.{◌⊘◌, ◌⊛◌, bits}
use Rattle.area.specs.declared.Winding.{Winding}
use Rattle.area.specs.declared.Winding.TheVariants.{Clockwise, CounterClockwise}
use Rattle.area.specs.Reduction.{two, crossed, turned, placed, reduced_area}
use Rattle.area.specs.AreaLaw.{WholeArea, exact_area, Reduced, AreaLaw}
use Rattle.area.proofs.Congruence.{congruent_rem, congruent_half}
use Rattle.area.proofs.Reducing.{Stands, Reaches, stands_exact}
use Rattle.area.proofs.Steps.{Held, Placed, cross_held, turn-held, place-signed, place_unsigned}

-- ---- the constants
zero_is : Is binary64 (bits 0) (pos 0)
unfolding of_bits of_fields Ieee.odd
zero_is = record { sign = false; has = (refl, refl); signs = refl }

two_is : two ≡ fin false 1 (pos 1)
unfolding of_bits of_fields Ieee.odd
two_is = refl

least_is : Is binary64 (bits 0x0020000000000000) (pos (2 ^ 53))
unfolding of_bits of_fields Ieee.odd
least_is = record { sign = false; has = (refl, refl); signs = refl }

finite_value : (x : Float) → T (fits binary64 x) → T (Floats.float_is_finite x) → Is binary64 x (value binary64 x)
unfolding Floats.float_is_finite
finite_value x F n = finite_is binary64 x F n

-- ---- the whole area is positive and even
positive_above : (q : ℕ) (A : ℤ) → 0 < q → le_z (pos q) A ≡ true → (pos 0 <ℤ A) × (q ≤ nat_abs A) × (A ≡ pos (nat_abs A))
positive_above q A Q h = (omega (arith, ints), omega (arith, ints), omega (arith, ints))

opposite_halves : (h A : ℤ) → h +ℤ h ≡ A → neg_ℤ A ≡ neg_ℤ h +ℤ neg_ℤ h
opposite_halves h A e = omega (arith, ints)

rem-size : (S A : ℤ) → 0 < nat_abs A → nat_abs (rem_z S A) < nat_abs A
rem-size (pos n) A h = mod-lt n h
rem-size (negsuc n) A h = rw unsigned_abs_neg (mod-lt (suc n) h)

T_true : {b : Bool} → T b → b ≡ true
T_true {b} t = elim b as (λ c. T c → c ≡ true) [ true ↦ λ u. refl | false ↦ λ u. absurd u ] t

-- ---- the steps, one after the other
plus_none : (S : ℤ) → S ≡ S +ℤ pos 0
plus_none S = omega (arith, ints)

minus-none : (S : ℤ) → neg_ℤ (S +ℤ pos 0) ≡ neg_ℤ S +ℤ pos 0
minus-none S = omega (arith, ints)

-- the half of the whole area, and its sign
record HalfArea (whole : Float) : Type 0 where
  half : ℤ
  halves : half +ℤ half ≡ value binary64 whole
  positive : pos 0 <ℤ value binary64 whole

half-area : (whole : Float) → T (fits binary64 whole) → WholeArea whole → HalfArea whole
half-area whole F w =
    let A = value binary64 whole in
    let i = finite_value whole F w.finite in
    let above = positive_above (2 ^ 53) A (pow_pos 53) (sym (le_is binary64 (bits 0x0020000000000000) whole (pos (2 ^ 53)) A least_is i) ∙ T_true w.large) in
    let even = even_above 53 (nat_abs A) (is_rep binary64 whole A F i) above.1 in
    record { half = pos even.half; halves = ap pos (sym even.twice) ∙ sym above.2; positive = above.0 }

module _ (whole : Float) (F : T (fits binary64 whole)) (w : WholeArea whole) (a : HalfArea whole) where
  abbrev A : ℤ
  A = value binary64 whole

  abbrev h : ℤ
  h = a.half

  W : Is binary64 whole A
  W = finite_value whole F w.finite

  half_float : Is binary64 (whole ⊘ two) h
  half_float = subst (λ (t : Float). Is binary64 (whole ⊘ t) h) (sym two_is) (half_is binary64 whole h F (subst (Is binary64 whole) (sym a.halves) W))

  minus_half_float : Is binary64 (neg whole ⊘ two) (neg_ℤ h)
  minus_half_float =
      subst (λ (t : Float). Is binary64 (neg whole ⊘ t) (neg_ℤ h)) (sym two_is)
      (half_is binary64 (neg whole) (neg_ℤ h) (neg-fits binary64 whole F) (subst (Is binary64 (neg whole)) (opposite_halves h A a.halves) (neg_is binary64 whole A W)))

  crossed-held : (odd : Bool) (S : ℤ) (x : Float) → T (fits binary64 x) → Is binary64 x (rem_z S A) → Held binary64 A (S +ℤ cond odd h (pos 0)) (crossed whole odd x)
  crossed-held true S x G i =
      cross_held binary64 A h whole (whole ⊘ two) (bits 0) W half_float zero_is F (div-fits binary64 whole two) a.halves a.positive S (rem_z S A) x i
      (congruent_rem A S) (rem-size S A (positive_size A a.positive))
  crossed-held false S x G i = record {
    number = rem_z S A;
    is = i;
    fitting = G;
    stands = subst (λ (t : ℤ). Stands 53 A t (rem_z S A)) (plus_none S) (stands_exact 53 A S (rem_z S A) (congruent_rem A S) (rem-size S A (positive_size A a.positive)));
  }

  turned_target : (odd : Bool) (S : ℤ) (x : Float) → Held binary64 A (neg_ℤ (S +ℤ cond odd h (pos 0))) x → Held binary64 A (neg_ℤ S +ℤ cond odd h (pos 0)) x
  turned_target true S x k = record {
    number = k.number;
    is = k.is;
    fitting = k.fitting;
    stands = record {
      exact = k.stands.exact;
      congruent = congruent_half A S k.stands.exact h a.halves k.stands.congruent;
      near = k.stands.near;
      below = k.stands.below;
    };
  }
  turned_target false S x k = subst (λ (t : ℤ). Held binary64 A t x) (minus-none S) k

  turned-held : (winding : Winding) (odd : Bool) (S : ℤ) (x : Float) → Held binary64 A (S +ℤ cond odd h (pos 0)) x → Held binary64 A (exact_area winding odd h S) (turned winding x)
  turned-held Clockwise odd S x k = k
  turned-held CounterClockwise odd S x k = turned_target odd S (neg x) (turn-held binary64 A (S +ℤ cond odd h (pos 0)) x k)

  placed-held : (signed : Bool) (target : ℤ) (x : Float) → Held binary64 A target x → Placed binary64 signed A target (placed whole signed x)
  placed-held true target x k =
      place-signed binary64 A h whole (whole ⊘ two) (bits 0) W half_float zero_is F (div-fits binary64 whole two) a.halves a.positive (neg whole ⊘ two) minus_half_float target x k
  placed-held false target x k =
      place_unsigned binary64 A h whole (whole ⊘ two) (bits 0) W half_float zero_is F (div-fits binary64 whole two) a.halves a.positive target x k

  reduced_placed : (winding : Winding) (signed odd : Bool) (sum : Float) → T (fits binary64 sum) → T (Floats.float_is_finite sum)
      → Placed binary64 signed A (exact_area winding odd h (value binary64 sum)) (reduced_area whole winding signed odd sum)
  unfolding reduced_area
  reduced_placed winding signed odd sum G n =
      let S = value binary64 sum in
      placed-held signed (exact_area winding odd h S) (turned winding (crossed whole odd (sum ⊛ whole)))
      (turned-held winding odd S (crossed whole odd (sum ⊛ whole))
      (crossed-held odd S (sum ⊛ whole) (rem-fits binary64 sum whole G)
      (rem_is binary64 sum whole S A G F (finite_value sum G n) W (positive_size A a.positive))))

-- ---- the statement
less_exact : (r e t m : ℤ) → e ≡ t +ℤ m → nat_abs (r -ℤ t -ℤ m) ≡ nat_abs (r -ℤ e)
less_exact r e t m c = omega (arith, ints)

less_strict : (p x n : ℕ) → 2 ^ suc p * x ≤ n → 2 ^ p * x ≤ n
less_strict p x n h = le_trans (mul-le-mul_right x (pow_mono (le-suc p))) h

within_part : (p : ℕ) (A target r : ℤ) (k : Reaches p A target r) → 2 ^ p * nat_abs (r -ℤ target -ℤ k.congruent.times *ℤ A) ≤ nat_abs A
within_part p A target r k =
    rw (less_exact r k.exact target (k.congruent.times *ℤ A) k.congruent.is, mul_comm (2 ^ p) (nat_abs (r -ℤ k.exact))) k.near

placed_reduced : (winding : Winding) (signed odd : Bool) (A h S : ℤ) (x : Float) → h +ℤ h ≡ A → Placed binary64 signed A (exact_area winding odd h S) x → Reduced winding signed odd A S (value binary64 x)
placed_reduced winding signed odd A h S x e k =
    let target = exact_area winding odd h S in
    let nearer = within_part 53 A target k.number k.reaches in
    subst (Reduced winding signed odd A S) (sym (is_value binary64 x k.number k.is))
    (record {
      half = h;
      halves = e;
      times = k.reaches.congruent.times;
      near = less_strict 52 (nat_abs (k.number -ℤ target -ℤ k.reaches.congruent.times *ℤ A)) (nat_abs A) nearer;
      nearer = nearer;
      range = k.range;
    })

-- ---- a NaN goes through every step
above_nan : (x : Float) → lt x nan ≡ false
unfolding lt
above_nan nan = refl
above_nan (inf s) = refl
above_nan (fin s m e) = refl

crossed_nan : (whole : Float) (odd : Bool) → crossed whole odd nan ≡ nan
unfolding lt sub add
crossed_nan whole true = refl
crossed_nan whole false = refl

turned_nan : (winding : Winding) → turned winding nan ≡ nan
unfolding neg
turned_nan Clockwise = refl
turned_nan CounterClockwise = refl

placed_nan : (whole : Float) (signed : Bool) → placed whole signed nan ≡ nan
unfolding lt le eq
placed_nan whole true = rw above_nan refl
placed_nan whole false = refl

rem-none : (sum whole : Float) → Floats.float_is_finite sum ≡ false → sum ⊛ whole ≡ nan
unfolding Floats.float_is_finite rem
rem-none nan whole h = refl
rem-none (inf s) whole h = refl
rem-none (fin s m e) whole h = absurd (true≢false h)

reduced_none : (whole : Float) (winding : Winding) (signed odd : Bool) (sum : Float) → Floats.float_is_finite sum ≡ false → reduced_area whole winding signed odd sum ≡ nan
unfolding reduced_area
reduced_none whole winding signed odd sum h =
    ap (λ x. placed whole signed (turned winding (crossed whole odd x))) (rem-none sum whole h)
    ∙ ap (λ x. placed whole signed (turned winding x)) (crossed_nan whole odd)
    ∙ ap (placed whole signed) (turned_nan winding)
    ∙ placed_nan whole signed

placed_finite : {signed : Bool} {A target : ℤ} {x : Float} → Placed binary64 signed A target x → T (Floats.float_is_finite x)
unfolding Floats.float_is_finite
placed_finite {x = x} k = is_finite binary64 x k.number k.is

pub area_law : (whole : Float) (winding : Winding) (signed odd : Bool) (sum : Float) → T (fits binary64 whole) → T (fits binary64 sum)
    → AreaLaw whole winding signed odd sum (reduced_area whole winding signed odd sum)
area_law whole winding signed odd sum F G = record {
  finite = λ w n. placed_finite (reduced_placed whole F w (half-area whole F w) winding signed odd sum G n);
  reduced = λ w n.
      let a = half-area whole F w in
      placed_reduced winding signed odd (value binary64 whole) a.half (value binary64 sum) (reduced_area whole winding signed odd sum) a.halves
      (reduced_placed whole F w a winding signed odd sum G n);
  none = reduced_none whole winding signed odd sum;
}
