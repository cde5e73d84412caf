-- The pattern of a power of two stands for that power: one digit among the digits below the normal range, else the exponent's field alone.
use Rattle.std.proofs.Common.{◌≡◌, ℕ, suc, ◌+◌, ◌-◌, ◌*◌, ◌/◌, ◌%◌, ◌^◌, ◌<◌, ◌≤◌, Bool, false, cond, sym, ap, ◌∙◌, subst, suc-le-suc, zero-le, lt_of_lt_of_le, add-zero, le_of_lt, mod-eq_of_lt, mul_comm, add_comm, one-mul, zero-add, zero-mul, mul-one, sub-add_cancel, arith, lit≤, pow_pos, pow-add, ne_eqb}
use borrow.Author.Tests.{lt-leb}
use lib.Arith.{digits_lt, digits_div, digits_mod}
use lib.Pow.{pow-lt}
use lib.Ieee.{Float, Format, inf, binary64, prec, emax, low, hid, ones, top, odd, of_fields, of_bits, round}
use lib.Ieee.Bits.{of_bits-fits}
use lib.Ieee.Exact.{HasValue, odd_sign, round_exact}
use lib.Ieee.Fits.{round-fits}
use Rattle.exact.proofs.Unique.{same_sized}
use Rattle.exact.proofs.Roundings.{prec_pos}
use Rattle.functions.specs.CubeRoot.{power_of_two}

-- ---- the fields of a pattern with a clear sign

fields_below : (H O x t : ℕ) → t < H → x ≤ O → x * H + t < H * suc O
fields_below H O x t h i = subst (λ (m : ℕ). x * H + t < m) (mul_comm (suc O) H) (digits_lt (suc-le-suc i) h)

from_bits_fields : (f : Format) (x t : ℕ) → t < hid f → x ≤ ones f → of_bits f (x * hid f + t) ≡ of_fields f false x t
unfolding of_bits
from_bits_fields f x t h i =
    let b : ℕ = x * hid f + t in
    let under : b < top f = fields_below (hid f) (ones f) x t h i in
    ap (λ (s : Bool). of_fields f s (b % top f / hid f) (b % hid f)) (lt-leb (top f) b under)
    ∙ ap (λ (m : ℕ). of_fields f false (m / hid f) (b % hid f)) (mod-eq_of_lt under)
    ∙ ap (λ (m : ℕ). of_fields f false m (b % hid f)) (digits_div x h)
    ∙ ap (of_fields f false x) (digits_mod x h)

-- ---- the two kinds of patterns

digit_value : (f : Format) (t : ℕ) → HasValue (of_fields f false 0 t) false t (2 ^ low f)
unfolding of_fields
digit_value f t = subst (λ (a : ℕ). HasValue (odd (prec f) false t 0 (low f)) false a (2 ^ low f)) (mul-one t) (odd_sign (prec f) false t 0 (low f))

power_value : (f : Format) (x : ℕ) → suc x < ones f → HasValue (of_fields f false (suc x) 0) false (hid f * 2 ^ x) (2 ^ low f)
unfolding of_fields
power_value f x h =
    subst (λ (t : Bool). HasValue (cond t (inf false) (odd (prec f) false (hid f + 0) x (low f))) false (hid f * 2 ^ x) (2 ^ low f))
    (sym (ne_eqb (suc x) (ones f) (below_apart (suc x) (ones f) h)))
    (subst (λ (a : ℕ). HasValue (odd (prec f) false (hid f + 0) x (low f)) false (a * 2 ^ x) (2 ^ low f)) (add-zero (hid f)) (odd_sign (prec f) false (hid f + 0) x (low f)))
  where
    below_apart : (a b : ℕ) → a < b → a ≡ b → ⊥
    below_apart a b h e = omega arith

-- ---- 2 ^ j units as a float
rounded_power : (f : Format) (j : ℕ) → j < low f + suc (emax f) → HasValue (round f false (2 ^ j) (2 ^ low f)) false (2 ^ j) (2 ^ low f)
rounded_power f j h =
    round_exact f false (2 ^ j) (2 ^ low f) 1 j (pow_pos (low f)) (pow-lt (prec_pos f))
    (subst (λ (m : ℕ). m < 2 ^ (low f + suc (emax f))) (sym (one-mul (2 ^ j))) (pow-lt h))
    (ap (λ (m : ℕ). m * 2 ^ low f) (sym (one-mul (2 ^ j))))

power_is : (f : Format) (b j : ℕ) → j < low f + suc (emax f) → HasValue (of_bits f b) false (2 ^ j) (2 ^ low f) → of_bits f b ≡ round f false (2 ^ j) (2 ^ low f)
power_is f b j h v = same_sized f (of_bits f b) (round f false (2 ^ j) (2 ^ low f)) false (2 ^ j) (of_bits-fits f b) (round-fits f false (2 ^ j) (2 ^ low f)) v (rounded_power f j h)

digit_pattern : (f : Format) (j : ℕ) → 2 ^ j < hid f → HasValue (of_bits f (2 ^ j)) false (2 ^ j) (2 ^ low f)
digit_pattern f j h =
    subst (λ (x : Float). HasValue x false (2 ^ j) (2 ^ low f))
    (sym (ap (of_bits f) (sym (zero-add (2 ^ j)) ∙ ap (λ (m : ℕ). m + 2 ^ j) (sym (zero-mul (hid f)))) ∙ from_bits_fields f 0 (2 ^ j) h zero-le))
    (digit_value f (2 ^ j))

field_pattern : (f : Format) (x : ℕ) → suc x < ones f → HasValue (of_bits f (suc x * hid f)) false (hid f * 2 ^ x) (2 ^ low f)
field_pattern f x h =
    subst (λ (v : Float). HasValue v false (hid f * 2 ^ x) (2 ^ low f))
    (sym (ap (of_bits f) (sym (add-zero (suc x * hid f))) ∙ from_bits_fields f (suc x) 0 (pow_pos (prec f - 1)) (le_of_lt h)))
    (power_value f x h)

pub small_power : (j : ℕ) → j < 52 → of_bits binary64 (2 ^ j) ≡ power_of_two j
unfolding power_of_two
small_power j h = power_is binary64 (2 ^ j) j (lt_of_lt_of_le h (lit≤ tt)) (digit_pattern binary64 j (pow-lt h))

shifted : (j : ℕ) → 52 ≤ j → j - 51 ≡ suc (j - 52)
shifted j h = omega arith

few_enough : (j : ℕ) → 52 ≤ j → j < 2098 → suc (j - 52) < 2047
few_enough j h i = omega arith

pub large_power : (j : ℕ) → 52 ≤ j → j < 2098 → of_bits binary64 ((j - 51) * 2 ^ 52) ≡ power_of_two j
unfolding power_of_two
large_power j h i =
    ap (λ (m : ℕ). of_bits binary64 (m * 2 ^ 52)) (shifted j h)
    ∙ power_is binary64 (suc (j - 52) * 2 ^ 52) j i
    (subst (λ (m : ℕ). HasValue (of_bits binary64 (suc (j - 52) * 2 ^ 52)) false m (2 ^ 1074))
    (sym (pow-add 2 52 (j - 52)) ∙ ap (λ (m : ℕ). 2 ^ m) (add_comm 52 (j - 52) ∙ sub-add_cancel h))
    (field_pattern binary64 (j - 52) (few_enough j h i)))
