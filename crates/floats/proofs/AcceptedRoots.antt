-- A guess at the root of a normal double that passes the test on squares is the root: were the root another double, the guess would be farther from it.
use Rattle.std.proofs.Common.{◌≡◌, ℕ, suc, ◌+◌, ◌-◌, ◌*◌, ◌/◌, ◌%◌, ◌^◌, ◌<◌, ◌≤◌, Bool, true, false, cond, T, eqb, ◌⊎◌, Some, None, sym, refl, ap, ◌∙◌, subst, inl, inr, true≢false, le_trans, le_of_eq, lt_of_lt_of_le, lt_irrefl, mul-le-mul_right, mul_assoc, mul-le-mul, lt_of_mul-lt-mul_right, mul-lt-mul_of_pos_right, mul-pos, sub-add_cancel, arith, pow_pos, pow_mono, pow-add, ltb-true, ne_eqb, leb-true}
use borrow.Author.Tests.{lt-leb}
use Rattle.std.proofs.lemmas.Bool.{and_parts, cases_lt, cases_eq}
use lib.Ieee.{Float, nan, inf, fin, binary64, fits, odd, of_bits, of_fields, to_bits}
use lib.Ieee.Exact.{HasValue, odd_sign}
use lib.Ieee.Fits.{sqrt-fits}
use lib.Ieee.Bits.{of_bits-fits, of_bits-to_bits}
use lib.Ieee.Positive.{positive, positive_of_value}
use Rattle.std.specs.Float.{sqrt, float_is_finite, is_sign_negative}
use Rattle.exact.specs.Rounded.{Rep}
use Rattle.exact.proofs.Unique.{same_sized}
use Rattle.floats.specs.Roots.{units, Farther}
use Rattle.floats.specs.GuessedRoots.{Normal, even_digits, is_rounded_root, accepted_root, root_pattern}
use Rattle.floats.proofs.Roots.{nearest_root, plain_value, plain_rep, units_of}

-- ---- the size of a normal double
fields_value : (E t : ℕ) → suc E < 2047 → HasValue (of_fields binary64 false (suc E) t) false ((t + 2 ^ 52) * 2 ^ E) (2 ^ 1074)
unfolding of_fields
fields_value E t h =
    subst (λ (q : ℕ). HasValue (of_fields binary64 false (suc E) t) false (q * 2 ^ E) (2 ^ 1074)) (turned t)
    (go (eqb (suc E) 2047) (ne_eqb (suc E) 2047 (λ e. omega arith)))
  where
    turned : (t : ℕ) → 2 ^ 52 + t ≡ t + 2 ^ 52
    turned t = omega arith

    go : (b : Bool) → b ≡ false → HasValue (cond b (cond (eqb t 0) (inf false) nan) (odd 53 false (2 ^ 52 + t) E 1074)) false ((2 ^ 52 + t) * 2 ^ E) (2 ^ 1074)
    go true e = absurd (true≢false e)
    go false e = odd_sign 53 false (2 ^ 52 + t) E 1074

abbrev pattern_units : ℕ → ℕ
pattern_units b = (b % 2 ^ 52 + 2 ^ 52) * 2 ^ (b / 2 ^ 52 - 1)

normal_value : (b : ℕ) → Normal b → HasValue (of_bits binary64 b) false (pattern_units b) (2 ^ 1074)
unfolding of_bits
normal_value b h =
    let plus = lt-leb (2 ^ 63) b (omega arith) in
    let field : b % 2 ^ 63 / 2 ^ 52 ≡ suc (b / 2 ^ 52 - 1) = omega arith in
    subst (λ (s : Bool). HasValue (of_fields binary64 s (b % 2 ^ 63 / 2 ^ 52) (b % 2 ^ 52)) false (pattern_units b) (2 ^ 1074)) (sym plus)
    (subst (λ (x : ℕ). HasValue (of_fields binary64 false x (b % 2 ^ 52)) false (pattern_units b) (2 ^ 1074)) (sym field)
    (fields_value (b / 2 ^ 52 - 1) (b % 2 ^ 52) (omega arith)))

plus_one : (a b : ℕ) → a < b → a + 1 ≤ b
plus_one a b h = omega arith

-- ---- over plain numbers: a number S of 53 digits beside r * u, u a power of two
multiple_or_small : (S j : ℕ) → Rep 53 S → ((w : ℕ) × (S ≡ w * 2 ^ j)) ⊎ (S < 2 ^ 52 * 2 ^ j)
multiple_or_small S j r =
    let d = r.digits in
    let k = r.places in
    elim (cases_lt k j) [
      | inl l ↦
          inr (subst (λ (q : ℕ). q < 2 ^ 52 * 2 ^ j) (sym r.is)
          (lt_of_lt_of_le (mul-lt-mul_of_pos_right r.few (pow_pos k)) (le_trans (le_of_eq (halved (2 ^ k) (2 ^ (k + 1)) (pow-add 2 k 1))) (mul-le-mul {n₁ = 2 ^ 52} {m₁ = 2 ^ (k + 1)} {n₂ = 2 ^ 52} (omega arith) (pow_mono (plus_one k j l))))))
      | inr g ↦
          inl (d * 2 ^ (k - j), r.is ∙ ap (λ (q : ℕ). d * q) (ap (λ (e : ℕ). 2 ^ e) (sym (sub-add_cancel g)) ∙ pow-add 2 (k - j) j) ∙ sym (mul_assoc d (2 ^ (k - j)) (2 ^ j)))
    ]
  where
    halved : (v w : ℕ) → w ≡ v * 2 → 2 ^ 53 * v ≡ 2 ^ 52 * w
    halved v w e = omega arith

next_up : (S r j : ℕ) → Rep 53 S → 2 ^ 52 ≤ r → r * 2 ^ j < S → (r + 1) * 2 ^ j ≤ S
next_up S r j R h l =
    elim (multiple_or_small S j R) [
      | inl w ↦
          let e = w.1 in
          subst (λ (q : ℕ). (r + 1) * 2 ^ j ≤ q) (sym e)
          (mul-le-mul_right (2 ^ j) (plus_one r w.0 (lt_of_mul-lt-mul_right (2 ^ j) (subst (λ (q : ℕ). r * 2 ^ j < q) e l))))
      | inr s ↦ absurd (lt_irrefl S (lt_of_lt_of_le s (le_trans (mul-le-mul_right (2 ^ j) h) (less (r * 2 ^ j) S l))))
    ]
  where
    less : (a b : ℕ) → a < b → a ≤ b
    less a b h = omega arith

next_down : (S q j : ℕ) → Rep 53 S → 2 ^ 52 ≤ q → S < (q + 1) * 2 ^ j → S ≤ q * 2 ^ j
next_down S q j R h l =
    elim (multiple_or_small S j R) [
      | inl w ↦
          let e = w.1 in
          subst (λ (k : ℕ). k ≤ q * 2 ^ j) (sym e)
          (mul-le-mul_right (2 ^ j) (under w.0 q (lt_of_mul-lt-mul_right (2 ^ j) (subst (λ (k : ℕ). k < (q + 1) * 2 ^ j) e l))))
      | inr s ↦ less S (q * 2 ^ j) (lt_of_lt_of_le s (mul-le-mul_right (2 ^ j) h))
    ]
  where
    under : (a b : ℕ) → a < b + 1 → a ≤ b
    under a b h = omega arith

    less : (a b : ℕ) → a < b → a ≤ b
    less a b h = omega arith

-- ---- the squares: n * (u * u) is the square of the root, r * u the guess, S another number
over_root : (n r u S : ℕ) → 0 < u → n ≤ r * r + r → (r + 1) * u ≤ S → (S + r * u) * (S + r * u) < 4 * (n * (u * u)) → ⊥
over_root n r u S U h l f =
    let q = S + r * u in
    let far : (2 * r + 1) * u ≤ q = omega arith in
    let squares : (2 * r + 1) * u * ((2 * r + 1) * u) ≤ q * q = mul-le-mul far far in
    let enough : n * (u * u) ≤ (r * r + r) * (u * u) = mul-le-mul_right (u * u) h in
    let some : 0 < u * u = mul-pos U U in
    omega arith

under_whole : (n r u S : ℕ) → r * r ≤ n → S < r * u → 4 * (n * (u * u)) < (S + r * u) * (S + r * u) → ⊥
under_whole n r u S h l f =
    let q = S + r * u in
    let near : q ≤ 2 * (r * u) = omega arith in
    let squares : q * q ≤ 2 * (r * u) * (2 * (r * u)) = mul-le-mul near near in
    let enough : r * r * (u * u) ≤ n * (u * u) = mul-le-mul_right (u * u) h in
    omega arith

under_root : (n p u S : ℕ) → (p + 1) * (p + 1) < n + (p + 1) → S ≤ p * u → 4 * (n * (u * u)) < (S + (p + 1) * u) * (S + (p + 1) * u) → ⊥
under_root n p u S h l f =
    let q = S + (p + 1) * u in
    let near : q ≤ (2 * p + 1) * u = omega arith in
    let squares : q * q ≤ (2 * p + 1) * u * ((2 * p + 1) * u) = mul-le-mul near near in
    let below : p * p + p + 1 ≤ n = omega arith in
    let enough : (p * p + p + 1) * (u * u) ≤ n * (u * u) = mul-le-mul_right (u * u) below in
    omega arith

-- ---- the rounded root of a number from 2 ^ 104 up to 2 ^ 106 has 53 digits
digits_reach : (n r : ℕ) → 2 ^ 104 ≤ n → n ≤ r * r + r → 2 ^ 52 ≤ r
digits_reach n r h a =
    elim (cases_lt r (2 ^ 52)) [
      | inl l ↦ let product = mul-le-mul {n₁ = r} {m₁ = r + 1} {n₂ = 2 ^ 52 - 1} {m₂ = 2 ^ 52} (omega arith) (omega arith) in absurd (omega arith)
      | inr g ↦ g
    ]

digits_end : (n r : ℕ) → n ≤ 2 ^ 53 * (2 ^ 53 - 1) → r * r < n + r → r < 2 ^ 53
digits_end n r h b =
    elim (cases_lt r (2 ^ 53)) [
      | inl l ↦ l
      | inr g ↦
          let p = r - 1 in
          let is : r ≡ p + 1 = omega arith in
          let product = mul-le-mul {n₁ = 2 ^ 53} {m₁ = 2 ^ 53 - 1} {n₂ = r} {m₂ = p} g (omega arith) in
          let square : r * r ≡ r * p + r = ap (λ (k : ℕ). r * k) is ∙ more r p in
          absurd (omega arith)
    ]
  where
    more : (a b : ℕ) → a * (b + 1) ≡ a * b + a
    more a b = omega arith

more_than_power : (n r : ℕ) → 2 ^ 104 ≤ n → n < r * r → 2 ^ 52 ≤ r - 1
more_than_power n r h m =
    elim (cases_lt r (2 ^ 52 + 1)) [
      | inl l ↦ let square = mul-le-mul {n₁ = r} {m₁ = r} {n₂ = 2 ^ 52} {m₂ = 2 ^ 52} (omega arith) (omega arith) in absurd (omega arith)
      | inr g ↦ omega arith
    ]

-- ---- the number whose root is taken, from its parts: m the digits, E the exponent field less one
odd_field : (m h : ℕ) → m * 2 ^ (h + h) * 2 ^ 1074 ≡ m * 1 * 2 ^ 52 * (2 ^ (h + 511) * 2 ^ (h + 511))
odd_field m h =
    ap (λ (q : ℕ). m * q * 2 ^ 1074) (pow-add 2 h h) ∙ scaled (2 ^ h) (2 ^ 511) ∙ ap (λ (q : ℕ). m * 1 * 2 ^ 52 * (q * q)) (sym (pow-add 2 h 511))
  where
    scaled : (v w : ℕ) → m * (v * v) * (2 ^ 52 * w * w) ≡ m * 1 * 2 ^ 52 * (v * w * (v * w))
    scaled v w = omega arith

even_field : (m h : ℕ) → m * 2 ^ (h + h + 1) * 2 ^ 1074 ≡ m * 2 * 2 ^ 52 * (2 ^ (h + 511) * 2 ^ (h + 511))
even_field m h =
    ap (λ (q : ℕ). m * q * 2 ^ 1074) (pow-add 2 (h + h) 1 ∙ ap (λ (q : ℕ). q * 2) (pow-add 2 h h)) ∙ scaled (2 ^ h) (2 ^ 511) ∙ ap (λ (q : ℕ). m * 2 * 2 ^ 52 * (q * q)) (sym (pow-add 2 h 511))
  where
    scaled : (v w : ℕ) → m * (v * v * 2) * (2 ^ 52 * w * w) ≡ m * 2 * 2 ^ 52 * (v * w * (v * w))
    scaled v w = omega arith

-- the exponent field of the root, less one
abbrev place : ℕ → ℕ
place b = (b / 2 ^ 52 + 1021) / 2

square_of_root : (b : ℕ) → Normal b → pattern_units b * 2 ^ 1074 ≡ even_digits b * 2 ^ 52 * (2 ^ place b * 2 ^ place b)
square_of_root b N =
    go (b % 2 ^ 52 + 2 ^ 52) (b / 2 ^ 52) (omega arith)
  where
    go : (m E : ℕ) → 1 ≤ E → m * 2 ^ (E - 1) * 2 ^ 1074 ≡ m * (2 - E % 2) * 2 ^ 52 * (2 ^ ((E + 1021) / 2) * 2 ^ ((E + 1021) / 2))
    go m E h =
        let half = (E - 1) / 2 in
        let to : (E + 1021) / 2 ≡ half + 511 = omega arith in
        subst (λ (p : ℕ). m * 2 ^ (E - 1) * 2 ^ 1074 ≡ m * (2 - E % 2) * 2 ^ 52 * (2 ^ p * 2 ^ p)) (sym to)
        (elim (cases_lt (E % 2) 1) [
          | inl z ↦
              let from : E - 1 ≡ half + half + 1 = omega arith in
              let twice : 2 - E % 2 ≡ 2 = omega arith in
              subst (λ (e : ℕ). m * 2 ^ e * 2 ^ 1074 ≡ m * (2 - E % 2) * 2 ^ 52 * (2 ^ (half + 511) * 2 ^ (half + 511))) (sym from)
              (subst (λ (k : ℕ). m * 2 ^ (half + half + 1) * 2 ^ 1074 ≡ m * k * 2 ^ 52 * (2 ^ (half + 511) * 2 ^ (half + 511))) (sym twice) (even_field m half))
          | inr o ↦
              let from : E - 1 ≡ half + half = omega arith in
              let once : 2 - E % 2 ≡ 1 = omega arith in
              subst (λ (e : ℕ). m * 2 ^ e * 2 ^ 1074 ≡ m * (2 - E % 2) * 2 ^ 52 * (2 ^ (half + 511) * 2 ^ (half + 511))) (sym from)
              (subst (λ (k : ℕ). m * 2 ^ (half + half) * 2 ^ 1074 ≡ m * k * 2 ^ 52 * (2 ^ (half + 511) * 2 ^ (half + 511))) (sym once) (odd_field m half))
        ])

-- ---- the bounds of that number, and of its rounded root
digits_bounds : (b : ℕ) → (2 ^ 52 ≤ even_digits b) × (even_digits b ≤ 2 ^ 54 - 2)
digits_bounds b = go (b % 2 ^ 52 + 2 ^ 52) (b / 2 ^ 52) (omega arith) (omega arith)
  where
    go : (m E : ℕ) → 2 ^ 52 ≤ m → m < 2 ^ 53 → (2 ^ 52 ≤ m * (2 - E % 2)) × (m * (2 - E % 2) ≤ 2 ^ 54 - 2)
    go m E l h =
        elim (cases_lt (E % 2) 1) [
          | inl z ↦ let twice : 2 - E % 2 ≡ 2 = omega arith in subst (λ (k : ℕ). (2 ^ 52 ≤ m * k) × (m * k ≤ 2 ^ 54 - 2)) (sym twice) (omega arith, omega arith)
          | inr o ↦ let once : 2 - E % 2 ≡ 1 = omega arith in subst (λ (k : ℕ). (2 ^ 52 ≤ m * k) × (m * k ≤ 2 ^ 54 - 2)) (sym once) (omega arith, omega arith)
        ]

-- what the test says of the root of b's digits
pub record Tested (b r : ℕ) : Type 0 where
  pub many : 2 ^ 104 ≤ even_digits b * 2 ^ 52
  pub least : 2 ^ 52 ≤ r
  pub bound : r < 2 ^ 53
  pub below : r * r < even_digits b * 2 ^ 52 + r
  pub above : even_digits b * 2 ^ 52 ≤ r * r + r

pub tested : (b r : ℕ) → is_rounded_root (even_digits b * 2 ^ 52) r ≡ true → Tested b r
tested b r e =
    let n = even_digits b * 2 ^ 52 in
    let p = and_parts _ _ e in
    let below = ltb-true (r * r) (n + r) p.0 in
    let above = leb-true n (r * r + r) p.1 in
    let d = digits_bounds b in
    let many : 2 ^ 104 ≤ n = omega arith in
    record { many = many; least = digits_reach n r many above; bound = digits_end n r (omega arith) below; below = below; above = above }

-- ---- the double that has the root's digits
root-field : (b r : ℕ) → Normal b → Tested b r → (root_pattern b r / 2 ^ 52 ≡ place b + 1) × (root_pattern b r % 2 ^ 52 + 2 ^ 52 ≡ r)
root-field b r N t = let l = t.least in let h = t.bound in (omega arith, omega arith)

root_normal : (b r : ℕ) → Normal b → Tested b r → Normal (root_pattern b r)
root_normal b r N t = let l = t.least in let h = t.bound in (omega arith, omega arith)

root-value : (b r : ℕ) → Normal b → Tested b r → HasValue (of_bits binary64 (root_pattern b r)) false (r * 2 ^ place b) (2 ^ 1074)
root-value b r N t =
    let c = root_pattern b r in
    let f = root-field b r N t in
    let less : c / 2 ^ 52 - 1 ≡ place b = omega arith in
    subst (λ (m : ℕ). HasValue (of_bits binary64 c) false (m * 2 ^ place b) (2 ^ 1074)) f.1
    (subst (λ (e : ℕ). HasValue (of_bits binary64 c) false ((c % 2 ^ 52 + 2 ^ 52) * 2 ^ e) (2 ^ 1074)) less (normal_value c (root_normal b r N t)))

-- ---- of floats
value_finite : (y : Float) (a c : ℕ) → HasValue y false a c → T (float_is_finite y)
unfolding float_is_finite
value_finite nan a c v = absurd v
value_finite (inf s) a c v = absurd v
value_finite (fin s m e) a c v = tt

value-plus : (y : Float) (a c : ℕ) → HasValue y false a c → is_sign_negative y ≡ false
unfolding is_sign_negative
value-plus nan a c v = absurd v
value-plus (inf s) a c v = absurd v
value-plus (fin s m e) a c v = v.0

positive_finite : (y : Float) → T (positive y) → T (float_is_finite y)
unfolding float_is_finite
positive_finite nan p = absurd p
positive_finite (inf s) p = absurd p
positive_finite (fin s m e) p = tt

positive_plus : (y : Float) → T (positive y) → is_sign_negative y ≡ false
unfolding is_sign_negative
positive_plus nan p = absurd p
positive_plus (inf s) p = absurd p
positive_plus (fin true m e) p = absurd p
positive_plus (fin false m e) p = refl

-- ---- the accepted root, y, and the root s: with other sizes one would be farther than it is
module _ (b r : ℕ) (N : Normal b) (t : Tested b r) where
  abbrev x : Float
  x = of_bits binary64 b

  abbrev y : Float
  y = of_bits binary64 (root_pattern b r)

  abbrev u : ℕ
  u = 2 ^ place b

  abbrev n : ℕ
  n = even_digits b * 2 ^ 52

  radicand_is : 4 * units binary64 x * 2 ^ 1074 ≡ 4 * (n * (u * u))
  radicand_is =
      ap (λ (q : ℕ). 4 * q * 2 ^ 1074) (units_of binary64 x (pattern_units b) (normal_value b N))
      ∙ mul_assoc 4 (pattern_units b) (2 ^ 1074)
      ∙ ap (λ (q : ℕ). 4 * q) (square_of_root b N)

  guess_is : units binary64 y ≡ r * u
  guess_is = units_of binary64 y (r * u) (root-value b r N t)

  not_above : (S : ℕ) → Rep 53 S → r * u < S → (S + r * u) * (S + r * u) < 4 * (n * (u * u)) → ⊥
  not_above S R l f = over_root n r u S (pow_pos (place b)) t.above (next_up S r (place b) R t.least l) f

  not_below : (S : ℕ) → Rep 53 S → S < r * u → 4 * (n * (u * u)) < (S + r * u) * (S + r * u) → ⊥
  not_below S R l f =
      elim (cases_lt n (r * r)) [
        | inl more ↦
            let p = r - 1 in
            let is : r ≡ p + 1 = one_less r t.least in
            let many : 2 ^ 52 ≤ p = more_than_power n r t.many more in
            under_root n p u S (subst (λ (k : ℕ). k * k < n + k) is t.below) (next_down S p (place b) R many (subst (λ (k : ℕ). S < k * u) is l)) (subst (λ (k : ℕ). 4 * (n * (u * u)) < (S + k * u) * (S + k * u)) is f)
        | inr fewer ↦ under_whole n r u S fewer l f
      ]
    where
      one_less : (k : ℕ) → 2 ^ 52 ≤ k → k ≡ k - 1 + 1
      one_less k h = omega arith

  not_farther : (s : Float) → Rep 53 (units binary64 s) → Farther binary64 x s y → ⊥
  not_farther s R (inl p) =
      not_below (units binary64 s) R (subst (λ (q : ℕ). units binary64 s < q) guess_is p.0)
      (subst (λ (q : ℕ). 4 * (n * (u * u)) < (units binary64 s + q) * (units binary64 s + q)) guess_is
      (subst (λ (q : ℕ). q < (units binary64 s + units binary64 y) * (units binary64 s + units binary64 y)) radicand_is p.1))
  not_farther s R (inr p) =
      not_above (units binary64 s) R (subst (λ (q : ℕ). q < units binary64 s) guess_is p.0)
      (subst (λ (q : ℕ). (units binary64 s + q) * (units binary64 s + q) < 4 * (n * (u * u))) guess_is
      (subst (λ (q : ℕ). (units binary64 s + units binary64 y) * (units binary64 s + units binary64 y) < q) radicand_is p.1))

  is_positive : T (positive x)
  is_positive = positive_of_value x (pattern_units b) (2 ^ 1074) (normal_value b N) (mul-pos (some (b % 2 ^ 52)) (pow_pos (b / 2 ^ 52 - 1)))
    where
      some : (k : ℕ) → 0 < k + 2 ^ 52
      some k = omega arith

  pub accepted_is_root : y ≡ sqrt binary64 x
  accepted_is_root =
      let s = sqrt binary64 x in
      let near = nearest_root binary64 x (of_bits-fits binary64 b) is_positive in
      let F = sqrt-fits binary64 x in
      let h = positive_finite s near.above_zero in
      let G = of_bits-fits binary64 (root_pattern b r) in
      let v = root-value b r N t in
      elim (cases_eq (units binary64 y) (units binary64 s)) [
        | inl e ↦
            same_sized binary64 y s false (units binary64 s) G F (subst (λ (q : ℕ). HasValue y false q (2 ^ 1074)) (sym guess_is ∙ e) v)
            (plain_value binary64 s F h (positive_plus s near.above_zero))
        | inr ne ↦
            absurd (not_farther s (plain_rep binary64 s F h)
            (near.nearest y G (value_finite y (r * u) (2 ^ 1074) v) (value-plus y (r * u) (2 ^ 1074) v) (λ e. ne (ap (units binary64) e))))
      ]

-- ---- what was accepted has passed the test
pub accepted_passes : (n g r : ℕ) → accepted_root n g ≡ Some r → is_rounded_root n r ≡ true
accepted_passes n g r = go (is_rounded_root n g) refl (is_rounded_root n (g + 1)) refl (is_rounded_root n (g - 1)) refl
  where
    go : (a : Bool) → is_rounded_root n g ≡ a → (b : Bool) → is_rounded_root n (g + 1) ≡ b → (c : Bool) → is_rounded_root n (g - 1) ≡ c
        → cond a (Some g) (cond b (Some (g + 1)) (cond c (Some (g - 1)) None)) ≡ Some r → is_rounded_root n r ≡ true
    go true p b q c o e = let same : g ≡ r = cc in subst (λ (k : ℕ). is_rounded_root n k ≡ true) same p
    go false p true q c o e = let same : g + 1 ≡ r = cc in subst (λ (k : ℕ). is_rounded_root n k ≡ true) same q
    go false p false q true o e = let same : g - 1 ≡ r = cc in subst (λ (k : ℕ). is_rounded_root n k ≡ true) same o
    go false p false q false o e = let z : ◌≡◌ {A = ℕ} 0 1 = cc in absurd (omega arith)

-- ---- of a double's own pattern
pub root_by_pattern : (x r : Float) (b : ℕ) → fits binary64 x ≡ true → b ≡ to_bits binary64 x → r ≡ sqrt binary64 (of_bits binary64 b) → r ≡ sqrt binary64 x
root_by_pattern x r b F p e = e ∙ ap (sqrt binary64) (ap (of_bits binary64) p ∙ of_bits-to_bits binary64 x (subst T (sym F) tt))
