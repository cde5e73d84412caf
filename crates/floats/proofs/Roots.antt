-- The root of a positive float is strictly nearer than any other float: it is the root on whole numbers, rounded in the normal range and below overflow.
use Rattle.std.proofs.Common.{negsuc, pow-suc, ◌≡◌, ℕ, zero, suc, ◌+◌, ◌-◌, ◌*◌, ◌/◌, ◌^◌, ◌<◌, ◌≤◌, Bool, true, false, cond, T, ◌⊎◌, ℤ, pos, nat_abs, sym, refl, ap, ◌∙◌, subst, inl, inr, true≢false, le_trans, le_of_eq, lt_of_lt_of_le, lt_of_le_of_lt, le_of_lt, mul-le-mul_right, zero-lt-suc, mul_assoc, mul_comm, mul-le-mul, lt_of_mul-lt-mul_right, eq-or-lt_of_le, mul-lt-mul_of_pos_right, mul-pos, mul_right_comm, le_of_mul-le-mul_right, mul-div_cancel, arith, lit≤, pow_pos, pow_mono, pow-add, le-ltb, lt-ltb}
use Rattle.std.proofs.lemmas.Bool.{cases_lt}
use native.Mathlib.Nat.{mul-mul-mul_comm}
use lib.Dec.{eqb→eq}
use lib.Pow.{pow-lt}
use lib.Ieee.{Float, Format, nan, inf, fin, binary32, binary64, prec, emax, low, up, down, size, round, lt, fits, root_twice}
use lib.Ieee.Exact.{HasValue}
use lib.Ieee.Fits.{down_pos, up_pos, round-fits}
use lib.Ieee.Nearest.{closest, closest_same}
use lib.Ieee.Order.{drop, kept}
use lib.Ieee.Positive.{positive, positive_of_value, value_pos}
use lib.Ieee.Scale.{overflow, grid, grid_scale, round_val, normal_of_fraction}
use Rattle.std.specs.Float.{sqrt, float_is_finite, is_sign_negative}
use Rattle.exact.specs.Rounded.{rounded, Rep}
use Rattle.exact.specs.Values.{value}
use Rattle.exact.proofs.Naturals.{rep_power, rep_scaled, rounded-low, rounded-high}
use Rattle.exact.proofs.Values.{is_value, finite_is, is_rep, is_below}
use Rattle.exact.proofs.Roundings.{prec_pos}
use Rattle.exact.proofs.Unique.{same_sized}
use Rattle.floats.specs.Roots.{units, Farther, NearestRoot, root_of_other}
use Rattle.floats.proofs.WholeRoots.{reaches_even, stays_under_even}
use Rattle.floats.proofs.NearestRoots.{root_above, root_below}

-- ---- a whole number of grid steps: rounding n / 1 keeps `rounded p n`
kept_whole : (p n c : ℕ) → 0 < c → kept p (n * c) c * 2 ^ drop p (n * c) c ≡ rounded p n
unfolding rounded
kept_whole p n c C =
    let j = size n - p in
    ap (λ (w : ℕ). closest (n * c) (c * 2 ^ (size w - p)) * 2 ^ (size w - p)) (mul-div_cancel n C)
    ∙ ap (λ (q : ℕ). q * 2 ^ j) (closest_same (n * c) (c * 2 ^ j) n (2 ^ j) (mul-pos C (pow_pos j)) (pow_pos j) (mul_assoc n c (2 ^ j)))

-- a fraction n / 2 ^ (low + k) in the normal range, in units of the smallest value
grid_rounded : (f : Format) (n k : ℕ) → 2 ^ (prec f - 1) * 2 ^ k ≤ n → grid f n (2 ^ (low f + k)) * 2 ^ k ≡ rounded (prec f) n
grid_rounded f n k h =
    let c = 2 ^ (low f + k) in
    let l = low f in
    let split : c ≡ 2 ^ k * 2 ^ l = pow-add 2 l k ∙ mul_comm (2 ^ l) (2 ^ k) in
    let normal = normal_of_fraction f n c (pow_pos (l + k))
    (subst (λ (d : ℕ). 2 ^ (prec f - 1) * d ≤ n * 2 ^ l) (sym split) (le_trans (le_of_eq (sym (mul_assoc (2 ^ (prec f - 1)) (2 ^ k) (2 ^ l)))) (mul-le-mul_right (2 ^ l) h))) in
    sym (grid_scale f n c k (pow_pos (l + k)) normal)
    ∙ ap (λ (w : ℕ). kept (prec f) w c * 2 ^ drop (prec f) w c) (mul_assoc n (2 ^ k) (2 ^ l) ∙ ap (λ (d : ℕ). n * d) (sym split))
    ∙ kept_whole (prec f) n c (pow_pos (l + k))

-- ---- over plain numbers: v is 2 ^ (k + 1), L the units in 1, X the number's size
reached : (a v X L : ℕ) → a * a ≤ L → 0 < X → a * v * (a * v) ≤ X * (L * (v * v))
reached a v X L h P =
    let i : 1 * (a * a) ≤ X * L = mul-le-mul P h in
    le_trans (omega arith) (le_trans (mul-le-mul_right (v * v) i) (le_of_eq (mul_assoc X L (v * v))))

not_reached : (b v X L : ℕ) → X * L < b * b → 0 < v → X * (L * (v * v)) < b * v * (b * v)
not_reached b v X L h P =
    lt_of_le_of_lt (le_of_eq (sym (mul_assoc X L (v * v)))) (lt_of_lt_of_le (mul-lt-mul_of_pos_right h (mul-pos P P)) (omega arith))

doubled : (a k : ℕ) → 2 * (a * 2 ^ (k + 1)) ≡ a * 2 ^ (k + 2)
doubled a k = omega (arith, ap (λ (q : ℕ). a * q) (pow-add 2 k 1), ap (λ (q : ℕ). a * q) (pow-add 2 k 2))

four-units : (k : ℕ) → 2 ^ (k + 2) ≡ 4 * 2 ^ k
four-units k = pow-add 2 k 2 ∙ mul_comm (2 ^ k) 4

four_out : (X L u : ℕ) → X * (L * (u * 2 * (u * 2))) ≡ 4 * X * L * (u * u)
four_out X L u = omega arith

-- of a format: a root is in the normal range, and far from overflow
digits_low : (f : Format) → prec f - 1 + (prec f - 1) ≤ low f
digits_low binary32 = lit≤ tt
digits_low binary64 = lit≤ tt

emax_pos : (f : Format) → 1 ≤ emax f
emax_pos binary32 = lit≤ tt
emax_pos binary64 = lit≤ tt

twice_as_far : (l e : ℕ) → 1 ≤ e → l + suc e + l ≤ l + e + (l + e)
twice_as_far l e h = omega arith

-- ---- the rounded root of a number of X units
module _ (f : Format) (X k : ℕ) (some : 0 < X) (rep : Rep (prec f) X) (small : X < overflow f) where
  abbrev radicand : ℕ
  radicand = X * 2 ^ (low f + (k + 1 + (k + 1)))

  abbrev root : ℕ
  root = grid f (root_twice radicand) (2 ^ (low f + (k + 2)))

  radicand_is : radicand ≡ X * (2 ^ low f * (2 ^ (k + 1) * 2 ^ (k + 1)))
  radicand_is = ap (λ (q : ℕ). X * q) (pow-add 2 (low f) (k + 1 + (k + 1)) ∙ ap (λ (q : ℕ). 2 ^ low f * q) (pow-add 2 (k + 1) (k + 1)))

  in_normal_range : 2 ^ (prec f - 1) * 2 ^ (k + 2) ≤ root_twice radicand
  in_normal_range =
      let a = 2 ^ (prec f - 1) in
      let fine : a * a ≤ 2 ^ low f = le_trans (le_of_eq (sym (pow-add 2 (prec f - 1) (prec f - 1)))) (pow_mono (digits_low f)) in
      subst (λ (q : ℕ). q ≤ root_twice radicand) (doubled a k)
      (reaches_even radicand (a * 2 ^ (k + 1)) (subst (λ (q : ℕ). a * 2 ^ (k + 1) * (a * 2 ^ (k + 1)) ≤ q) (sym radicand_is) (reached a (2 ^ (k + 1)) X (2 ^ low f) fine some)))

  root-rounded : root * 2 ^ (k + 2) ≡ rounded (prec f) (root_twice radicand)
  root-rounded = grid_rounded f (root_twice radicand) (k + 2) in_normal_range

  root_small : root < overflow f
  root_small =
      let l = low f in
      let b = 2 ^ (l + emax f) in
      let P = prec_pos f in
      let product : X * 2 ^ l < b * b =
      lt_of_lt_of_le (mul-lt-mul_of_pos_right small (pow_pos l))
      (le_trans (le_of_eq (sym (pow-add 2 (l + suc (emax f)) l))) (le_trans (pow_mono (twice_as_far l (emax f) (emax_pos f))) (le_of_eq (pow-add 2 (l + emax f) (l + emax f))))) in
      let under : root_twice radicand < 2 * (b * 2 ^ (k + 1)) =
      stays_under_even radicand (b * 2 ^ (k + 1)) (subst (λ (q : ℕ). q < b * 2 ^ (k + 1) * (b * 2 ^ (k + 1))) (sym radicand_is) (not_reached b (2 ^ (k + 1)) X (2 ^ l) product (pow_pos (k + 1)))) in
      let at_most : rounded (prec f) (root_twice radicand) ≤ b * 2 ^ (k + 2) =
      (rounded-high (prec f) (b * 2 ^ (k + 2)) (root_twice radicand) P (rep_scaled (prec f) b (k + 2) (rep_power (prec f) (l + emax f) P)) (subst (λ (q : ℕ). root_twice radicand ≤ q) (doubled b k) (le_of_lt under))).0 in
      lt_of_le_of_lt (le_of_mul-le-mul_right (subst (λ (q : ℕ). q ≤ b * 2 ^ (k + 2)) (sym root-rounded) at_most) (pow_pos (k + 2))) (pow-lt (more l (emax f)))
    where
      more : (m e : ℕ) → m + e < m + suc e
      more m e = omega arith

  root_pos : 0 < root
  root_pos =
      let P = prec_pos f in
      let a = 2 ^ (prec f - 1) in
      let at_least : a * 2 ^ (k + 2) ≤ rounded (prec f) (root_twice radicand) =
      (rounded-low (prec f) (a * 2 ^ (k + 2)) (root_twice radicand) P (rep_scaled (prec f) a (k + 2) (rep_power (prec f) (prec f - 1) P)) in_normal_range).0 in
      lt_of_lt_of_le (pow_pos (prec f - 1)) (le_of_mul-le-mul_right (subst (λ (q : ℕ). a * 2 ^ (k + 2) ≤ q) (sym root-rounded) at_least) (pow_pos (k + 2)))

  radicand_squares : radicand ≡ 4 * X * 2 ^ low f * (2 ^ k * 2 ^ k)
  radicand_squares = radicand_is ∙ ap (λ (v : ℕ). X * (2 ^ low f * (v * v))) (pow-add 2 k 1) ∙ four_out X (2 ^ low f) (2 ^ k)

  root-units : rounded (prec f) (root_twice radicand) ≡ root * (4 * 2 ^ k)
  root-units = sym root-rounded ∙ ap (λ (q : ℕ). root * q) (four-units k)

  rep_units : (Y : ℕ) → Rep (prec f) Y → Rep (prec f) (Y * (4 * 2 ^ k))
  rep_units Y r = subst (λ (q : ℕ). Rep (prec f) (Y * q)) (four-units k) (rep_scaled (prec f) Y (k + 2) r)

  farther_above : (Y : ℕ) → Rep (prec f) Y → root < Y → 4 * X * 2 ^ low f < (root + Y) * (root + Y)
  farther_above Y r h =
      let S = root + Y in
      let u = 2 ^ k in
      lt_of_mul-lt-mul_right (u * u)
      (subst (λ (q : ℕ). q < S * S * (u * u)) radicand_squares
      (subst (λ (q : ℕ). radicand < q) (mul-mul-mul_comm S u S u)
      (root_above (prec f) radicand root u (prec_pos f) (rep_scaled (prec f) X (low f + (k + 1 + (k + 1))) rep) (pow_pos k) root-units Y (rep_units Y r) h)))

  farther_below : (Y : ℕ) → Rep (prec f) Y → Y < root → (root + Y) * (root + Y) < 4 * X * 2 ^ low f
  farther_below Y r h =
      let S = root + Y in
      let u = 2 ^ k in
      lt_of_mul-lt-mul_right (u * u)
      (subst (λ (q : ℕ). S * S * (u * u) < q) radicand_squares
      (subst (λ (q : ℕ). q < radicand) (mul-mul-mul_comm S u S u)
      (root_below (prec f) radicand root u (prec_pos f) (rep_scaled (prec f) X (low f + (k + 1 + (k + 1))) rep) (pow_pos k) root-units Y (rep_units Y r) h)))

-- ---- the size of a float that is not negative
pub plain_value : (f : Format) (y : Float) → T (fits f y) → T (float_is_finite y) → is_sign_negative y ≡ false → HasValue y false (units f y) (2 ^ low f)
unfolding float_is_finite is_sign_negative
plain_value f nan F h n = absurd h
plain_value f (inf s) F h n = absurd h
plain_value f (fin s m e) F h n = (n, (finite_is f (fin s m e) F tt).has.1)

pub plain_rep : (f : Format) (y : Float) → T (fits f y) → T (float_is_finite y) → Rep (prec f) (units f y)
unfolding float_is_finite
plain_rep f nan F h = absurd h
plain_rep f (inf s) F h = absurd h
plain_rep f (fin s m e) F h = is_rep f (fin s m e) (value f (fin s m e)) F (finite_is f (fin s m e) F tt)

pub units_of : (f : Format) (y : Float) (a : ℕ) → HasValue y false a (2 ^ low f) → units f y ≡ a
units_of f y a v = ap nat_abs (is_value f y (pos a) (record { sign = false; has = v; signs = refl }))

-- ---- `sqrt` of a positive float
places : (f : Format) → low f + (2270 - low f + 2) ≡ 2272
places binary32 = refl
places binary64 = refl

places_twice : (l k : ℕ) → l + (k + 2) ≡ 2272 → 4542 ≡ l + (l + (k + 1 + (k + 1)))
places_twice l k h = omega arith

scaled_up : (a d X l h : ℕ) → 0 < d → a * 2 ^ l ≡ X * d → a * 2 ^ (l + h) / d ≡ X * 2 ^ h
scaled_up a d X l h D e =
    ap (λ (q : ℕ). q / d)
    (ap (λ (q : ℕ). a * q) (pow-add 2 l h) ∙ sym (mul_assoc a (2 ^ l) (2 ^ h)) ∙ ap (λ (q : ℕ). q * 2 ^ h) e ∙ mul_right_comm X d (2 ^ h))
    ∙ mul-div_cancel (X * 2 ^ h) D

-- the float that is rounded, with a and b binary places
abbrev root_at : Format → ℕ → ℤ → ℕ → ℕ → Float
root_at f m e a b = round f false (root_twice (suc m * up e * 2 ^ a / down e)) (2 ^ b)

sqrt_is : (f : Format) (m : ℕ) (e : ℤ) → sqrt f (fin false (suc m) e) ≡ root_at f m e 4542 2272
unfolding sqrt
sqrt_is f m e = refl

sqrt-rounds : (f : Format) (m : ℕ) (e : ℤ) (X k : ℕ) → suc m * up e * 2 ^ low f ≡ X * down e → low f + (k + 2) ≡ 2272
    → sqrt f (fin false (suc m) e) ≡ round f false (root_twice (X * 2 ^ (low f + (k + 1 + (k + 1))))) (2 ^ (low f + (k + 2)))
sqrt-rounds f m e X k v h =
    sqrt_is f m e
    ∙ ap (λ (a : ℕ). root_at f m e a 2272) (places_twice (low f) k h)
    ∙ ap (root_at f m e (low f + (low f + (k + 1 + (k + 1))))) (sym h)
    ∙ ap (λ (q : ℕ). round f false (root_twice q) (2 ^ (low f + (k + 2)))) (scaled_up (suc m * up e) (down e) X (low f) (low f + (k + 1 + (k + 1))) (down_pos e) v)

-- ---- the float nearest to the root of X units
module _ (f : Format) (x : Float) (k : ℕ) (some : 0 < units f x) (rep : Rep (prec f) (units f x)) (small : units f x < overflow f) where
  abbrev rooted : Float
  rooted = round f false (root_twice (radicand f (units f x) k some rep small)) (2 ^ (low f + (k + 2)))

  abbrev its_units : ℕ
  its_units = root f (units f x) k some rep small

  rooted-value : HasValue rooted false its_units (2 ^ low f)
  rooted-value = round_val f (root_twice (radicand f (units f x) k some rep small)) (2 ^ (low f + (k + 2))) (root_small f (units f x) k some rep small)

  farther : (y : Float) → T (fits f y) → T (float_is_finite y) → is_sign_negative y ≡ false → (y ≡ rooted → ⊥) → Farther f x rooted y
  farther y F h n ne =
      let X = units f x in
      let Y = units f y in
      let r = plain_rep f y F h in
      let P : ℕ → Type 0 = λ R. ((R < Y) × (4 * X * 2 ^ low f < (R + Y) * (R + Y))) ⊎ ((Y < R) × ((R + Y) * (R + Y) < 4 * X * 2 ^ low f)) in
      subst P (sym (units_of f rooted its_units rooted-value))
      (elim (cases_lt Y its_units) [
        | inr l ↦ elim (eq-or-lt_of_le l) [
          | inl e ↦
              absurd (ne (same_sized f y rooted false Y F (round-fits f false (root_twice (radicand f X k some rep small)) (2 ^ (low f + (k + 2)))) (plain_value f y F h n)
              (subst (λ (R : ℕ). HasValue rooted false R (2 ^ low f)) e rooted-value)))
          | inr g ↦ inl (g, farther_above f X k some rep small Y r g)
        ]
        | inl g ↦ inr (g, farther_below f X k some rep small Y r g)
      ])

  rooted_nearest : NearestRoot f x rooted
  rooted_nearest = record { above_zero = positive_of_value rooted its_units (2 ^ low f) rooted-value (root_pos f (units f x) k some rep small); nearest = farther }

pub nearest_root : (f : Format) (x : Float) → T (fits f x) → T (positive x) → NearestRoot f x (sqrt f x)
nearest_root f nan F p = absurd p
nearest_root f (inf s) F p = absurd p
nearest_root f (fin true m e) F p = absurd p
nearest_root f (fin false zero e) F p = absurd p
nearest_root f (fin false (suc m) e) F p =
    let x = fin false (suc m) e in
    let i = finite_is f x F tt in
    let k = 2270 - low f in
    subst (NearestRoot f x) (sym (sqrt-rounds f m e (units f x) k i.has.1 (places f)))
    (rooted_nearest f x k (value_pos x (units f x) (2 ^ low f) p (pow_pos (low f)) (refl, i.has.1)) (is_rep f x (value f x) F i) (is_below f x (value f x) F i))

-- ---- the other arguments
no_less : (u d : ℕ) → 0 * u * 1 ≡ 0 * 1 * d
no_less u d = omega arith

none : (u d : ℕ) → 0 * u * 1 + 0 * 1 * d ≡ 0
none u d = omega arith

some_size : (m u d : ℕ) → 0 < u → 0 < suc m * u * 1 + 0 * 1 * d
some_size m u d h = omega (arith, mul-pos {m = suc m} (omega arith) h)

not_twice : (p : ℕ) → 2 * p ≡ 1 → ⊥
not_twice p e = omega arith

one_power : (e : ℤ) → up e * down e ≡ 1 → e ≡ pos 0
one_power (pos zero) h = refl
one_power (pos (suc k)) h = absurd (not_twice (2 ^ k) (omega (arith, pow-suc 2 k)))
one_power (negsuc k) h = absurd (not_twice (2 ^ k) (omega (arith, pow-suc 2 k)))

-- a zero is written in one way
zero_exp : (f : Format) (s : Bool) (e : ℤ) → T (fits f (fin s zero e)) → e ≡ pos 0
unfolding fits
zero_exp f s e t = one_power e (eqb→eq (up e * down e) 1 t)

pub other_root : (f : Format) (x : Float) → T (fits f x) → positive x ≡ false → sqrt f x ≡ root_of_other x
unfolding sqrt lt
other_root f nan F h = refl
other_root f (inf true) F h = refl
other_root f (inf false) F h = refl
other_root f (fin true zero e) F h = ap (fin true 0) (sym (zero_exp f true e F)) ∙ sym (ap (λ (t : Bool). cond t nan (fin true 0 e)) (le-ltb 0 (0 * up e * 1 + 0 * 1 * down e) (le_of_eq (none (up e) (down e)))))
other_root f (fin false zero e) F h = ap (fin false 0) (sym (zero_exp f false e F)) ∙ sym (ap (λ (t : Bool). cond t nan (fin false 0 e)) (le-ltb (0 * up e * 1) (0 * 1 * down e) (le_of_eq (sym (no_less (up e) (down e))))))
other_root f (fin true (suc m) e) F h = sym (ap (λ (t : Bool). cond t nan (fin true (suc m) e)) (lt-ltb 0 (suc m * up e * 1 + 0 * 1 * down e) (some_size m (up e) (down e) (up_pos e))))
other_root f (fin false (suc m) e) F h = absurd (true≢false (sym (lt-ltb 0 (suc m) (zero-lt-suc m)) ∙ h))

-- ---- of an answer
pub nearest_answer : (x r : Float) → fits binary64 x ≡ true → r ≡ sqrt binary64 x → T (positive x) → NearestRoot binary64 x r
nearest_answer x r F e p = subst (NearestRoot binary64 x) (sym e) (nearest_root binary64 x (subst T (sym F) tt) p)

pub other_answer : (x r : Float) → fits binary64 x ≡ true → r ≡ sqrt binary64 x → positive x ≡ false → r ≡ root_of_other x
other_answer x r F e h = e ∙ other_root binary64 x (subst T (sym F) tt) h
