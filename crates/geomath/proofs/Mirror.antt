-- Opposite differences of longitude have the same canonical numbers, bit for bit: the difference to the east and what it leaves of a half turn.
use Rattle.std.proofs.Common.{◌≡◌, ℕ, zero, suc, ◌*◌, ◌^◌, ◌<◌, ◌≤◌, Bool, true, false, cond, not, T, ◌⊎◌, ℤ, pos, negsuc, ◌-ℤ◌, neg_ℤ, nat_abs, sym, refl, ap, ◌∙◌, subst, inl, inr, zero-le, lt_irrefl, zero-lt-suc, eq-zero-or-pos, mul-pos, not-le_of_lt, arith, pow_pos, le-ltb, le-leb}
use lib.Dec.{eqb-suc-zero}
use lib.Signed.{lt_z, le_z}
use Rattle.std.proofs.lemmas.Int.{ints}
use lib.Ieee.{Float, binary64, prec, nan, inf, fin, neg, add, sub, mul, round, fits, of_bits}
use lib.Ieee.Fits.{add-fits, neg-fits, sub-fits}
use Rattle.std.specs.Float.{float_is_finite, float_with_sign}
use Rattle.exact.specs.Rounded.{rounded_z}
use Rattle.exact.specs.Values.{Is, Rounds}
use Rattle.exact.specs.Congruent.{Reduced}
use lib.Ieee.Scale as Scale
use Rattle.exact.proofs.Roundings.{rounds_exact, prec_pos}
use Rattle.exact.proofs.Values.{neg_is, finite_is, is_rep, is_below}
use Rattle.exact.proofs.Sums.{sub-rounds}
use Rattle.exact.proofs.Orders.{lt_is, le_is, eq_is, eq_z}
use Rattle.exact.proofs.Integers.{rounded_z-neg, rounded_z_exact, rounded_z_relative}
use Rattle.exact.proofs.Signs.{unsigned_abs_neg}
use Rattle.exact.proofs.Rests.{opposite_rest}
use Rattle.exact.proofs.Congruent.{opposite_reduced}
use Rattle.exact.proofs.Unique.{same_value, zero_is, is_zero}
use Rattle.exact.proofs.Products.{mul_opposites, neg-neg}
use Rattle.floats.specs.Arithmetic.{◌⊖◌, ◌⊗◌, ◌≽◌, ◌≺◌, ◌≗◌}
use Rattle.geomath.specs.Angles.{zero as none, one, half_turn, ang_round, coarse, ang_diff, ang_diff_error}
use Rattle.geomath.specs.Exact.{half, exactly}
use Rattle.geomath.proofs.Turns.{is_none, is_half, half-fits}
use Rattle.geomath.proofs.Difference.{E, E_reduced, first_is, second_is}

-- ---- rounding an angle
-- a float of value 0 is rounded to +0
round-none : (x : Float) → Is binary64 x (pos 0) → ang_round x ≡ none
round-none x i =
    let y = coarse (float_with_sign false x) in
    ap (λ (b : Bool). cond b none (cond (x ≺ none) (neg y) y)) (eq_is binary64 x none (pos 0) (pos 0) i is_none)

-- of one exact value there is one rounded angle
pub round_same_value : (x y : Float) (z : ℤ) → T (fits binary64 x) → T (fits binary64 y) → Is binary64 x z → Is binary64 y z → ang_round x ≡ ang_round y
round_same_value x y (pos zero) F G i j = round-none x i ∙ sym (round-none y j)
round_same_value x y (pos (suc n)) F G i j = ap ang_round (same_value binary64 x y (pos (suc n)) F G (zero-lt-suc n) i j)
round_same_value x y (negsuc n) F G i j = ap ang_round (same_value binary64 x y (negsuc n) F G (zero-lt-suc n) i j)

pub size_of_opposite : (x : Float) → float_with_sign false (neg x) ≡ float_with_sign false x
unfolding float_with_sign neg
size_of_opposite nan = refl
size_of_opposite (inf s) = refl
size_of_opposite (fin s m e) = refl

nonzero_test : (z : ℤ) → 0 < nat_abs z → eq_z z (pos 0) ≡ false
nonzero_test (pos zero) h = absurd (lt_irrefl 0 h)
nonzero_test (pos (suc n)) h = eqb-suc-zero n
nonzero_test (negsuc n) h = refl

pub opposite_test : (z : ℤ) → 0 < nat_abs z → lt_z (neg_ℤ z) (pos 0) ≡ not (lt_z z (pos 0))
opposite_test (pos zero) h = absurd (lt_irrefl 0 h)
opposite_test (pos (suc n)) h = sym (ap not (le-ltb (suc n) 0 zero-le))
opposite_test (negsuc n) h = le-ltb (suc n) 0 zero-le

opposite_size : (z : ℤ) → 0 < nat_abs z → 0 < nat_abs (neg_ℤ z)
opposite_size z h = subst (λ (k : ℕ). 0 < k) (sym (unsigned_abs_neg z)) h

opposite_choice : (b : Bool) (y : Float) → cond (not b) (neg y) y ≡ neg (cond b (neg y) y)
opposite_choice true y = sym (neg-neg y)
opposite_choice false y = refl

-- the opposite angle is rounded to the opposite
pub round_opposite : (x : Float) (z : ℤ) → Is binary64 x z → 0 < nat_abs z → ang_round (neg x) ≡ neg (ang_round x)
round_opposite x z i h =
    let y = coarse (float_with_sign false x) in
    let j = neg_is binary64 x z i in
    let not_none : (neg x ≗ none) ≡ false = eq_is binary64 (neg x) none (neg_ℤ z) (pos 0) j is_none ∙ nonzero_test (neg_ℤ z) (opposite_size z h) in
    let some : (x ≗ none) ≡ false = eq_is binary64 x none z (pos 0) i is_none ∙ nonzero_test z h in
    let turned : (neg x ≺ none) ≡ not (x ≺ none) = lt_is binary64 (neg x) none (neg_ℤ z) (pos 0) j is_none ∙ opposite_test z h ∙ ap not (sym (lt_is binary64 x none z (pos 0) i is_none)) in
    (λ k. cond (not_none k) none (cond (turned k) (neg (coarse (size_of_opposite x k))) (coarse (size_of_opposite x k))))
    ∙ opposite_choice (x ≺ none) y
    ∙ ap (λ (b : Bool). neg (cond b none (cond (x ≺ none) (neg y) y))) (sym some)

-- ---- the canonical longitudes, as functions of the two parts d and e of a difference
-- 1 to the east, -1 to the west
abbrev pub east_of : Float → Float
east_of d = cond (d ≽ none) one (neg one)

-- the difference to the east
abbrev pub lon_of : Float → Float
lon_of d = east_of d ⊗ ang_round d

-- what it leaves of a half turn
abbrev pub rest_of : Float → Float → Float
rest_of d e = ang_round ((half_turn ⊖ lon_of d) ⊖ east_of d ⊗ e)

-- ---- d of one value
east_test : (d : Float) (v : ℤ) → Is binary64 d v → (d ≽ none) ≡ le_z (pos 0) v
east_test d v i = le_is binary64 none d (pos 0) v is_none i

pub lon_same : (d d' : Float) (v : ℤ) → T (fits binary64 d) → T (fits binary64 d') → Is binary64 d v → Is binary64 d' v → lon_of d ≡ lon_of d'
lon_same d d' v F G i j = (λ k. cond ((east_test d v i ∙ sym (east_test d' v j)) k) one (neg one) ⊗ round_same_value d d' v F G i j k)

-- ---- d of opposite values
opposite_east : (v : ℤ) → 0 < nat_abs v → le_z (pos 0) (neg_ℤ v) ≡ not (le_z (pos 0) v)
opposite_east (pos zero) h = absurd (lt_irrefl 0 h)
opposite_east (pos (suc n)) h = sym (ap not (le-leb 0 (suc n) zero-le))
opposite_east (negsuc n) h = le-leb 0 (suc n) zero-le

pub opposite_sign : (b : Bool) → cond (not b) one (neg one) ≡ neg (cond b one (neg one))
opposite_sign true = refl
opposite_sign false = sym (neg-neg one)

pub east_opposite : (d d' : Float) (v : ℤ) → 0 < nat_abs v → Is binary64 d v → Is binary64 d' (neg_ℤ v) → east_of d' ≡ neg (east_of d)
east_opposite d d' v h i j =
    ap (λ (b : Bool). cond b one (neg one)) (east_test d' (neg_ℤ v) j ∙ opposite_east v h ∙ ap not (sym (east_test d v i))) ∙ opposite_sign (d ≽ none)

pub opposite_float : (x y : Float) (v : ℤ) → T (fits binary64 x) → T (fits binary64 y) → 0 < nat_abs v → Is binary64 x v → Is binary64 y (neg_ℤ v) → y ≡ neg x
opposite_float x y v F G h i j = same_value binary64 y (neg x) (neg_ℤ v) G (neg-fits binary64 x F) (opposite_size v h) j (neg_is binary64 x v i)

lon_opposite : (d d' : Float) (v : ℤ) → T (fits binary64 d) → T (fits binary64 d') → 0 < nat_abs v → Is binary64 d v → Is binary64 d' (neg_ℤ v) → lon_of d' ≡ lon_of d
lon_opposite d d' v F G h i j =
    (λ k. east_opposite d d' v h i j k ⊗ (ap ang_round (opposite_float d d' v F G h i j) ∙ round_opposite d v i h) k) ∙ mul_opposites binary64 (east_of d) (ang_round d)

-- ---- a zero taken off
-- one or minus one times a zero is a zero
zero_times : (b s : Bool) → (t : Bool) × (cond b one (neg one) ⊗ fin s 0 (pos 0) ≡ fin t 0 (pos 0))
unfolding mul round of_bits neg
zero_times true true = (true, refl)
zero_times true false = (false, refl)
zero_times false true = (false, refl)
zero_times false false = (true, refl)

zero_off_finite : (a : Float) (s : Bool) → T (fits binary64 a) → T (Scale.finite a) → Is binary64 (a ⊖ fin s 0 (pos 0)) (exactly a)
zero_off_finite a s F h =
    let i = finite_is binary64 a F h in
    rounds_exact binary64 (a ⊖ fin s 0 (pos 0)) (exactly a)
    (subst (Rounds binary64 (a ⊖ fin s 0 (pos 0))) (less_nothing (exactly a)) (sub-rounds binary64 a (fin s 0 (pos 0)) (exactly a) (pos 0) i (zero_is binary64 s)))
    (is_rep binary64 a (exactly a) F i) (is_below binary64 a (exactly a) F i)
  where
    less_nothing : (z : ℤ) → z -ℤ pos 0 ≡ z
    less_nothing z = omega (arith, ints)

zero_off : (a : Float) (s t : Bool) → T (fits binary64 a) → ang_round (a ⊖ fin s 0 (pos 0)) ≡ ang_round (a ⊖ fin t 0 (pos 0))
unfolding sub add neg
zero_off nan s t F = refl
zero_off (inf u) s t F = refl
zero_off (fin u m e) s t F =
    round_same_value (fin u m e ⊖ fin s 0 (pos 0)) (fin u m e ⊖ fin t 0 (pos 0)) (exactly (fin u m e)) (sub-fits binary64 (fin u m e) (fin s 0 (pos 0))) (sub-fits binary64 (fin u m e) (fin t 0 (pos 0)))
    (zero_off_finite (fin u m e) s F tt) (zero_off_finite (fin u m e) t F tt)

-- where nothing was left out, its sign does not matter
rest_exact : (d d' e e' : Float) → T (fits binary64 e) → T (fits binary64 e') → Is binary64 e (pos 0) → Is binary64 e' (pos 0) → lon_of d ≡ lon_of d' → rest_of d e ≡ rest_of d' e'
rest_exact d d' e e' F G i j h =
    let z = zero_times (d ≽ none) i.sign in
    let w = zero_times (d' ≽ none) j.sign in
    ap (λ (v : Float). ang_round ((half_turn ⊖ lon_of d) ⊖ v)) (ap (λ (v : Float). east_of d ⊗ v) (is_zero binary64 e F i) ∙ z.1)
    ∙ zero_off (half_turn ⊖ lon_of d) z.0 w.0 (sub-fits binary64 half_turn (lon_of d))
    ∙ (λ k. ang_round ((half_turn ⊖ h k) ⊖ (sym (ap (λ (v : Float). east_of d' ⊗ v) (is_zero binary64 e' G j) ∙ w.1)) k))

rest_opposite : (d d' e e' : Float) (v w : ℤ) → T (fits binary64 d) → T (fits binary64 d') → T (fits binary64 e) → T (fits binary64 e') → 0 < nat_abs v → 0 < nat_abs w
    → Is binary64 d v → Is binary64 d' (neg_ℤ v) → Is binary64 e w → Is binary64 e' (neg_ℤ w) → rest_of d' e' ≡ rest_of d e
rest_opposite d d' e e' v w F G H K V W i j k l =
    (λ n. ang_round ((half_turn ⊖ lon_opposite d d' v F G V i j n) ⊖ ((λ m. east_opposite d d' v V i j m ⊗ opposite_float e e' w H K W k l m) ∙ mul_opposites binary64 (east_of d) e) n))

-- ---- two longitudes whose difference is the opposite of another two
-- only zero is rounded to zero
nothing_rounded : (p a b : ℕ) → a * p ≤ b → b ≡ 0 → 0 < p → a ≡ 0
nothing_rounded p a b h e P = elim (eq-zero-or-pos a) [ inl z ↦ z | inr l ↦ absurd (not-le_of_lt (mul-pos l P) (subst (λ (k : ℕ). a * p ≤ k) e h)) ]

same_zero : (r e : ℤ) → nat_abs (r -ℤ e) ≡ 0 → r ≡ pos 0 → e ≡ pos 0
same_zero r e h k = omega (arith, ints)

rounded_to_zero : (e : ℤ) → rounded_z (prec binary64) e ≡ pos 0 → e ≡ pos 0
rounded_to_zero e h =
    let r = rounded_z (prec binary64) e in
    same_zero r e (nothing_rounded (2 ^ prec binary64) (nat_abs (r -ℤ e)) (nat_abs r) (rounded_z_relative (prec binary64) e (prec_pos binary64)).0 (ap nat_abs h) (pow_pos (prec binary64))) h

zero_or_not : (z : ℤ) → (z ≡ pos 0) ⊎ (0 < nat_abs z)
zero_or_not (pos zero) = inl refl
zero_or_not (pos (suc n)) = inr (zero-lt-suc n)
zero_or_not (negsuc n) = inr (zero-lt-suc n)

abbrev R : ℤ → ℤ
R = rounded_z (prec binary64)

nothing_left : (e : ℤ) → e -ℤ e ≡ pos 0
nothing_left e = omega (arith, ints)

-- the canonical longitudes of two differences
abbrev Alike : Float → Float → Float → Float → Type 0
Alike d e d' e' = (lon_of d ≡ lon_of d') × (rest_of d e ≡ rest_of d' e')

module _ (d e d' e' : Float) (F : T (fits binary64 d)) (G : T (fits binary64 e)) (F' : T (fits binary64 d')) (G' : T (fits binary64 e')) (E E' : ℤ)
    (i : Is binary64 d (R E)) (j : Is binary64 e (E -ℤ R E)) (i' : Is binary64 d' (R E')) (j' : Is binary64 e' (E' -ℤ R E')) where
  -- nothing is left out on either side, and the first parts have one value
  alike_exact : R E ≡ R E' → E -ℤ R E ≡ pos 0 → E' -ℤ R E' ≡ pos 0 → Alike d e d' e'
  alike_exact h k l =
      let lon = lon_same d d' (R E) F F' i (subst (Is binary64 d') (sym h) i') in
      (lon, rest_exact d d' e e' G G' (subst (Is binary64 e) k j) (subst (Is binary64 e') l j') lon)

  module _ (h : E' ≡ neg_ℤ E) where
    rounded_opposite : R E' ≡ neg_ℤ (R E)
    rounded_opposite = ap R h ∙ rounded_z-neg (prec binary64) E

    rest_opposites : E' -ℤ R E' ≡ neg_ℤ (E -ℤ R E)
    rest_opposites = (λ k. h k -ℤ rounded_opposite k) ∙ opposite_rest E (R E)

    first : Is binary64 d' (neg_ℤ (R E))
    first = subst (Is binary64 d') rounded_opposite i'

    second : Is binary64 e' (neg_ℤ (E -ℤ R E))
    second = subst (Is binary64 e') rest_opposites j'

    no_difference : R E ≡ pos 0 → Alike d e d' e'
    no_difference z =
        let zero-e = rounded_to_zero E z in
        let none_left : E -ℤ R E ≡ pos 0 = (λ k. zero-e k -ℤ z k) in
        alike_exact (z ∙ sym (rounded_opposite ∙ ap neg_ℤ z)) none_left (rest_opposites ∙ ap neg_ℤ none_left)

    some_difference : 0 < nat_abs (R E) → Alike d e d' e'
    some_difference v = elim (zero_or_not (E -ℤ R E)) [
      | inl w ↦
          let lon = sym (lon_opposite d d' (R E) F F' v i first) in
          (lon, rest_exact d d' e e' G G' (subst (Is binary64 e) w j) (subst (Is binary64 e') (rest_opposites ∙ ap neg_ℤ w) j') lon)
      | inr w ↦ (sym (lon_opposite d d' (R E) F F' v i first), sym (rest_opposite d d' e e' (R E) (E -ℤ R E) F F' G G' v w i first j second))
    ]

    alike_opposite : Alike d e d' e'
    alike_opposite = elim (zero_or_not (R E)) [ inl z ↦ no_difference z | inr v ↦ some_difference v ]

  alike_half : E ≡ pos half → E' ≡ pos half → Alike d e d' e'
  alike_half h k =
      let half-kept : R (pos half) ≡ pos half = rounded_z_exact (prec binary64) (pos half) (prec_pos binary64) (is_rep binary64 half_turn (pos half) half-fits is_half) in
      alike_exact (ap R h ∙ sym (ap R k)) ((λ n. h n -ℤ (ap R h ∙ half-kept) n) ∙ nothing_left (pos half)) ((λ n. k n -ℤ (ap R k ∙ half-kept) n) ∙ nothing_left (pos half))

-- any finite longitudes
diff_fits : (x y : Float) → T (fits binary64 (ang_diff x y))
unfolding ang_diff
diff_fits x y = add-fits binary64 _ _

error-fits : (x y : Float) → T (fits binary64 (ang_diff_error x y))
unfolding ang_diff_error
error-fits x y = neg-fits binary64 _ (add-fits binary64 _ _)

pub mirrored_longitudes : (x y x' y' : Float) → T (fits binary64 x) → T (fits binary64 y) → T (fits binary64 x') → T (fits binary64 y')
    → float_is_finite x ≡ true → float_is_finite y ≡ true → float_is_finite x' ≡ true → float_is_finite y' ≡ true
    → exactly y' -ℤ exactly x' ≡ neg_ℤ (exactly y -ℤ exactly x)
    → (lon_of (ang_diff x y) ≡ lon_of (ang_diff x' y')) × (rest_of (ang_diff x y) (ang_diff_error x y) ≡ rest_of (ang_diff x' y') (ang_diff_error x' y'))
mirrored_longitudes x y x' y' F G F' G' hx hy hx' hy' o =
    let own = E x y F G hx hy in
    let other = E x' y' F' G' hx' hy' in
    elim (opposite_reduced half (exactly y -ℤ exactly x) own other (E_reduced x y F G hx hy) (subst (λ (z : ℤ). Reduced half z other) o (E_reduced x' y' F' G' hx' hy'))) [
      | inl h ↦
          alike_opposite (ang_diff x y) (ang_diff_error x y) (ang_diff x' y') (ang_diff_error x' y') (diff_fits x y) (error-fits x y) (diff_fits x' y') (error-fits x' y') own other
          (first_is x y F G hx hy) (second_is x y F G hx hy) (first_is x' y' F' G' hx' hy') (second_is x' y' F' G' hx' hy') h
      | inr k ↦
          alike_half (ang_diff x y) (ang_diff_error x y) (ang_diff x' y') (ang_diff_error x' y') (diff_fits x y) (error-fits x y) (diff_fits x' y') (error-fits x' y') own other
          (first_is x y F G hx hy) (second_is x y F G hx hy) (first_is x' y' F' G' hx' hy') (second_is x' y' F' G' hx' hy') k.0 k.1
    ]
