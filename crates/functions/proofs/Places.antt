-- The leading digit of a float, read from its pattern: among the digits where the exponent's field is 0, else by that field.
use Rattle.std.proofs.Common.{◌≡◌, ℕ, Option, Some, None, zero, suc, ◌+◌, ◌-◌, ◌*◌, ◌/◌, ◌^◌, ◌<◌, ◌≤◌, Bool, true, false, cond, T, eqb, sym, refl, ap, ◌∙◌, subst, inl, inr, lt_of_lt_of_le, add_assoc, suc-mul, add_comm, pow-suc, le-div_iff_mul-le, zero-add, zero-mul, sub-add_cancel, div-one, arith, lit<, pow_pos, pow_mono, pow-add, shr_lt, eq-eqb, ne_eqb}
use Rattle.std.proofs.lemmas.Bool.{cases_lt}
use native.Mathlib.Nat.{div-eq_of_lt}
use borrow.Author.Tests.{clash}
use lib.Pow.{high}
use lib.Ieee.{Float, nan, inf, fin, binary64, size, up, down, low, to_bits, fits}
use lib.Ieee.Digits.{size-lt, size-le, size_reaches}
use Rattle.std.specs.Float.{float_is_finite, is_sign_negative}
use Rattle.std.specs.Option.{IfNone, IfSome, unwrap_or}
use Rattle.exact.specs.Values.{value}
use Rattle.exact.proofs.Naturals.{size_pos}
use Rattle.exact.proofs.Values.{finite_is, is_below}
use Rattle.functions.specs.CubeRoot.{place_of, units_of, octave_of}

-- ---- the number of digits by the binary logarithm

size_at_least : (m a : ℕ) → 2 ^ m ≤ a → suc m ≤ size a
size_at_least m a h =
    elim (cases_lt (size a) (suc m)) [
      | inr l ↦ l
      | inl l ↦ let short : 2 ^ size a ≤ 2 ^ m = pow_mono (omega arith) in absurd (omega (arith, size-lt a))
    ]

size_by_log : (a r : ℕ) → 2 ^ r ≤ a → a < 2 * 2 ^ r → r ≡ size a - 1
size_by_log a r h i =
    let twice : 2 ^ suc r ≡ 2 ^ r * 2 = pow-suc 2 r in
    let least = size_at_least r a h in
    let most = size-le a (suc r) (omega arith) in
    omega arith

-- the place of the leading digit, which 0 has none of
pub place_by_log : (o : Option ℕ) (a : ℕ) → IfNone o (a ≡ 0) → IfSome o (λ k. 2 ^ k ≤ a) → IfSome o (λ k. a < 2 * 2 ^ k) → unwrap_or o 0 ≡ size a - 1
place_by_log None a z h i = let none : size a ≤ 0 = size-le a 0 (omega arith) in omega arith
place_by_log (Some r) a z h i = size_by_log a r h i

-- ---- the pattern of n units, h being one less than the digits that the format keeps

by_digits : (h n b : ℕ) → b / 2 ^ h ≡ 0 → b ≡ n → cond (eqb (b / 2 ^ h) 0) (size b - 1) (b / 2 ^ h + (h - 1)) ≡ size n - 1
by_digits h n b z e = ap (λ (t : Bool). cond t (size b - 1) (b / 2 ^ h + (h - 1))) (eq-eqb (b / 2 ^ h) 0 z) ∙ ap (λ (m : ℕ). size m - 1) e

last_place : (k h s : ℕ) → 0 < h → s ≡ k + suc h → suc k + (h - 1) ≡ s - 1
last_place k h s p e = omega arith

not_zero : (q k : ℕ) → q ≡ suc k → q ≡ 0 → ⊥
not_zero q k e z = omega arith

by_exponent : (h n b k : ℕ) → 0 < h → b / 2 ^ h ≡ suc k → size n ≡ k + suc h → cond (eqb (b / 2 ^ h) 0) (size b - 1) (b / 2 ^ h + (h - 1)) ≡ size n - 1
by_exponent h n b k p z e =
    ap (λ (t : Bool). cond t (size b - 1) (b / 2 ^ h + (h - 1))) (ne_eqb (b / 2 ^ h) 0 (not_zero (b / 2 ^ h) k z))
    ∙ ap (λ (q : ℕ). q + (h - 1)) z
    ∙ last_place k h (size n) p e

-- the leading digits q have h + 1 places, so that the top one counts as one more of the exponent's field
carried : (b k q H : ℕ) → b ≡ k * H + q → H ≤ q → b ≡ suc k * H + (q - H)
carried b k q H e h = e ∙ ap (λ (r : ℕ). k * H + r) (apart q H h) ∙ sym (add_assoc (k * H) H (q - H)) ∙ ap (λ (r : ℕ). r + (q - H)) (sym (suc-mul k H))
  where
    apart : (q H : ℕ) → H ≤ q → q ≡ H + (q - H)
    apart q H h = omega arith

rest_below : (q H : ℕ) → H ≤ q → q < H * 2 → q - H < H
rest_below q H h i = omega arith

below_size : (h k s : ℕ) → s ≡ k + suc h → h + k < s
below_size h k s e = omega arith

many_digits : (h n b k : ℕ) → 0 < h → size n ≡ k + suc h → b ≡ k * 2 ^ h + n / 2 ^ k → b / 2 ^ h ≡ suc k
many_digits h n b k p s e =
    let reaches : 2 ^ h * 2 ^ k ≤ n = subst (λ (m : ℕ). m ≤ n) (pow-add 2 h k) (size_reaches n (h + k) (below_size h k (size n) s)) in
    let q : ℕ = n / 2 ^ k in
    let above : 2 ^ h ≤ q = (le-div_iff_mul-le (pow_pos k)).1 reaches in
    let under : q < 2 ^ h * 2 = subst (λ (m : ℕ). q < m) (pow-suc 2 h) (shr_lt (suc h) k (subst (λ (m : ℕ). n < 2 ^ m) (s ∙ add_comm k (suc h)) (size-lt n))) in
    ap (λ (m : ℕ). m / 2 ^ h) (carried b k q (2 ^ h) e above) ∙ high (suc k) h (rest_below q (2 ^ h) above under)

few_digits : (h n b : ℕ) → size n ≤ h → b ≡ (size n - suc h) * 2 ^ h + n / 2 ^ (size n - suc h) → b ≡ n
few_digits h n b s e = e ∙ ap (λ (k : ℕ). k * 2 ^ h + n / 2 ^ k) (none_dropped (size n) h s) ∙ ap (λ (m : ℕ). m + n / 1) (zero-mul (2 ^ h)) ∙ zero-add (n / 1) ∙ div-one n
  where
    none_dropped : (s h : ℕ) → s ≤ h → s - suc h ≡ 0
    none_dropped s h i = omega arith

-- the place of the leading digit of n, from the pattern of n units
pub place_of_pattern : (h n b : ℕ) → 0 < h → b ≡ (size n - suc h) * 2 ^ h + n / 2 ^ (size n - suc h)
    → cond (eqb (b / 2 ^ h) 0) (size b - 1) (b / 2 ^ h + (h - 1)) ≡ size n - 1
place_of_pattern h n b p e =
    elim (cases_lt h (size n)) [
      | inr s ↦ let same : b ≡ n = few_digits h n b s e in
          by_digits h n b (div-eq_of_lt (subst (λ (m : ℕ). m < 2 ^ h) (sym same) (lt_of_lt_of_le (size-lt n) (pow_mono s)))) same
      | inl s ↦ let whole : size n ≡ (size n - suc h) + suc h = sym (sub-add_cancel s) in
          by_exponent h n b (size n - suc h) p (many_digits h n b (size n - suc h) p whole e) whole
    ]

-- ---- floats

pub octave_of_pattern : (x : Float) → float_is_finite x ≡ true → is_sign_negative x ≡ false → place_of (to_bits binary64 x) / 3 ≡ octave_of x
unfolding float_is_finite is_sign_negative to_bits octave_of value
octave_of_pattern nan f n = absurd (clash f)
octave_of_pattern (inf s) f n = absurd (clash f)
octave_of_pattern (fin true m e) f n = absurd (clash (sym n))
octave_of_pattern (fin false m e) f n =
    let u : ℕ = m * up e * 2 ^ low binary64 / down e in
    ap (λ (k : ℕ). k / 3) (place_of_pattern 52 u (to_bits binary64 (fin false m e)) (lit< tt)
    (ap (λ (k : ℕ). k + u / 2 ^ (size u - 53)) (zero-add ((size u - 53) * 2 ^ 52))))

within_range : (s : ℕ) → s ≤ 2098 → (s - 1) / 3 < 700
within_range s h = omega arith

pub octave_below : (x : Float) → T (fits binary64 x) → float_is_finite x ≡ true → octave_of x < 700
unfolding float_is_finite octave_of
octave_below nan t f = absurd (clash f)
octave_below (inf s) t f = absurd (clash f)
octave_below (fin s m e) t f =
    within_range (size (units_of (fin s m e)))
    (size-le (units_of (fin s m e)) 2098 (is_below binary64 (fin s m e) (value binary64 (fin s m e)) t (finite_is binary64 (fin s m e) t tt)))

-- ---- the largest power of 8 within n

power_of_eight : (k : ℕ) → 8 ^ k ≡ 2 ^ (3 * k)
power_of_eight zero = refl
power_of_eight (suc k) = pow-suc 8 k ∙ ap (λ (p : ℕ). p * 8) (power_of_eight k) ∙ sym (pow-add 2 (3 * k) 3) ∙ ap (λ (j : ℕ). 2 ^ j) (three_more k)
  where
    three_more : (k : ℕ) → 3 * k + 3 ≡ 3 * suc k
    three_more k = omega arith

octave_low : (s : ℕ) → 0 < s → 3 * ((s - 1) / 3) < s
octave_low s h = omega arith

octave_high : (s : ℕ) → s ≤ 3 * suc ((s - 1) / 3)
octave_high s = omega arith

pub octave_reaches : (x : Float) → 0 < units_of x → 8 ^ octave_of x ≤ units_of x
unfolding octave_of
octave_reaches x h =
    subst (λ (p : ℕ). p ≤ units_of x) (sym (power_of_eight (octave_of x)))
    (size_reaches (units_of x) (3 * octave_of x) (octave_low (size (units_of x)) (size_pos (units_of x) h)))

pub octave_ends : (x : Float) → units_of x < 8 ^ suc (octave_of x)
unfolding octave_of
octave_ends x =
    subst (λ (p : ℕ). units_of x < p) (sym (power_of_eight (suc (octave_of x))))
    (lt_of_lt_of_le (size-lt (units_of x)) (pow_mono (octave_high (size (units_of x)))))
