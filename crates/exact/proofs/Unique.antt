-- Two floats that fit and have one sign and one exact value are the same float; with one value that is not zero they have one sign.
use Rattle.std.proofs.Common.{◌≡◌, ℕ, zero, suc, ◌+◌, ◌-◌, ◌*◌, ◌/◌, ◌^◌, ◌<◌, Bool, true, false, cond, T, ℤ, pos, negsuc, neg_ℤ, nat_abs, sym, refl, ap, ◌∙◌, subst, zero-lt-suc, zero-mul, mul-div_cancel, arith}
use Rattle.std.proofs.lemmas.Int.{ints}
use lib.Ieee.{Float, Format, nan, inf, fin, prec, low, up, down, size, fits, of_bits, to_bits, top, hid}
use lib.Ieee.Fits.{down_pos}
use lib.Ieee.Bits.{of_bits-to_bits}
use lib.Ieee.Exact.{HasValue}
use Rattle.exact.specs.Values.{signed, Is}
use Rattle.exact.specs.Plain.{plain}

-- the pattern of a float is a function of its sign and its size
pattern_of : (f : Format) (x : Float) (s : Bool) (a : ℕ) → HasValue x s a (2 ^ low f)
    → to_bits f x ≡ cond s (top f) 0 + (size a - prec f) * hid f + a / 2 ^ (size a - prec f)
unfolding to_bits
pattern_of f nan s a v = absurd v
pattern_of f (inf t) s a v = absurd v
pattern_of f (fin t m e) s a v =
    let whole : m * up e * 2 ^ low f / down e ≡ a = ap (λ (k : ℕ). k / down e) v.1 ∙ mul-div_cancel a (down_pos e) in
    λ i. cond (v.0 i) (top f) 0 + (size (whole i) - prec f) * hid f + whole i / 2 ^ (size (whole i) - prec f)

pub same_sized : (f : Format) (x y : Float) (s : Bool) (a : ℕ) → T (fits f x) → T (fits f y) → HasValue x s a (2 ^ low f) → HasValue y s a (2 ^ low f) → x ≡ y
same_sized f x y s a F G v w = sym (of_bits-to_bits f x F) ∙ ap (of_bits f) (pattern_of f x s a v ∙ sym (pattern_of f y s a w)) ∙ of_bits-to_bits f y G

-- a value that is not zero has one sign
one_sign : (s t : Bool) (n : ℕ) → 0 < n → signed s n ≡ signed t n → s ≡ t
one_sign true true n h e = refl
one_sign false false n h e = refl
one_sign true false n h e = absurd (differ n h e)
  where
    differ : (n : ℕ) → 0 < n → neg_ℤ (pos n) ≡ pos n → ⊥
    differ n h e = omega (arith, ints)
one_sign false true n h e = absurd (differ n h e)
  where
    differ : (n : ℕ) → 0 < n → pos n ≡ neg_ℤ (pos n) → ⊥
    differ n h e = omega (arith, ints)

pub same_value : (f : Format) (x y : Float) (z : ℤ) → T (fits f x) → T (fits f y) → 0 < nat_abs z → Is f x z → Is f y z → x ≡ y
same_value f x y z F G h i j =
    same_sized f x y i.sign (nat_abs z) F G i.has
    (subst (λ (s : Bool). HasValue y s (nat_abs z) (2 ^ low f)) (one_sign j.sign i.sign (nat_abs z) h (j.signs ∙ sym i.signs)) j.has)

-- ---- with one value, zero or not, they are the same up to the sign of zero
zero_has : (f : Format) (s : Bool) → HasValue (fin s 0 (pos 0)) s 0 (2 ^ low f)
zero_has f s = (refl, zero-mul (2 ^ low f))

zero-fits : (f : Format) (s : Bool) → T (fits f (fin s 0 (pos 0)))
unfolding fits
zero-fits f s = tt

pub zero_is : (f : Format) (s : Bool) → Is f (fin s 0 (pos 0)) (pos 0)
zero_is f s = record { sign = s; has = zero_has f s; signs = none s }
  where
    none : (t : Bool) → signed t 0 ≡ pos 0
    none true = refl
    none false = refl

-- a float of value 0 is a zero with its sign
pub is_zero : (f : Format) (x : Float) → T (fits f x) → (i : Is f x (pos 0)) → x ≡ fin i.sign 0 (pos 0)
is_zero f x F i = same_sized f x (fin i.sign 0 (pos 0)) i.sign 0 F (zero-fits f i.sign) i.has (zero_has f i.sign)

pub plain-zero : (f : Format) (x : Float) → T (fits f x) → Is f x (pos 0) → plain x ≡ fin false 0 (pos 0)
unfolding plain
plain-zero f x F i = ap plain (is_zero f x F i)

pub plain_same : (f : Format) (x y : Float) (z : ℤ) → T (fits f x) → T (fits f y) → Is f x z → Is f y z → plain x ≡ plain y
plain_same f x y (pos zero) F G i j = plain-zero f x F i ∙ sym (plain-zero f y G j)
plain_same f x y (pos (suc n)) F G i j = ap plain (same_value f x y (pos (suc n)) F G (zero-lt-suc n) i j)
plain_same f x y (negsuc n) F G i j = ap plain (same_value f x y (negsuc n) F G (zero-lt-suc n) i j)
