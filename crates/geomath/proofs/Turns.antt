-- The named angles in exact numbers, and the remainder by a whole turn.
use Rattle.std.proofs.Common.{◌≡◌, ℕ, zero, suc, ◌+◌, ◌*◌, ◌/◌, ◌%◌, ◌<◌, T, ℤ, pos, negsuc, ◌+ℤ◌, neg_ℤ, nat_abs, sym, refl, ap, ◌∙◌, subst, mod-lt, zero-mul, arith, lit<}
use native.Mathlib.Nat.{mod-add-div'}
use lib.Signed.{rem_z}
use Rattle.std.proofs.lemmas.Int.{ints}
use lib.Ieee.{binary64, neg, div, fits, of_bits}
use Rattle.exact.specs.Values.{value, Is}
use Rattle.exact.specs.Congruent.{Congruent}
use Rattle.exact.proofs.Values.{finite_is, neg_is}
use Rattle.floats.specs.Arithmetic.{◌⊘◌}
use Rattle.geomath.specs.Angles.{zero as none, two, half_turn, turn}
use Rattle.geomath.specs.Exact.{half}

-- ---- the named angles
pub half_pos : 0 < half
unfolding half value of_bits
half_pos = lit< tt

pub half-fits : T (fits binary64 half_turn)
unfolding fits of_bits
half-fits = tt

pub turn-fits : T (fits binary64 turn)
unfolding fits of_bits
turn-fits = tt

value-half : value binary64 half_turn ≡ pos half
unfolding value half of_bits
value-half = refl

value-turn : value binary64 turn ≡ pos (half + half)
unfolding value half of_bits
value-turn = refl

value_none : value binary64 none ≡ pos 0
unfolding value of_bits
value_none = refl

none-fits : T (fits binary64 none)
unfolding fits of_bits
none-fits = tt

pub is_half : Is binary64 half_turn (pos half)
unfolding of_bits
is_half = subst (Is binary64 half_turn) value-half (finite_is binary64 half_turn half-fits tt)

pub is_turn : Is binary64 turn (pos (half + half))
unfolding of_bits
is_turn = subst (Is binary64 turn) value-turn (finite_is binary64 turn turn-fits tt)

pub is_none : Is binary64 none (pos 0)
unfolding of_bits
is_none = subst (Is binary64 none) value_none (finite_is binary64 none none-fits tt)

pub is_minus_half : Is binary64 (neg half_turn) (neg_ℤ (pos half))
is_minus_half = neg_is binary64 half_turn (pos half) is_half

-- half of a turn, as the remainder's bounds write it
pub half_of_turn : turn ⊘ two ≡ half_turn
unfolding div of_bits
half_of_turn = refl

pub minus_half_of_turn : neg turn ⊘ two ≡ neg half_turn
unfolding div neg of_bits
minus_half_of_turn = refl

-- ---- the remainder
taken : (n q r : ℕ) → r + q ≡ n → pos n +ℤ pos 0 ≡ pos r +ℤ pos q
taken n q r h = omega (arith, ints)

given : (n q r : ℕ) → r + q ≡ n → neg_ℤ (pos n) +ℤ pos q ≡ neg_ℤ (pos r) +ℤ pos 0
given n q r h = omega (arith, ints)

pub remainder_congruent : (F : ℕ) (z : ℤ) → Congruent F z (rem_z z (pos F))
remainder_congruent F (pos n) = record {
  more = 0;
  less = n / F;
  is = ap (λ (k : ℕ). pos n +ℤ pos k) (zero-mul F) ∙ taken n (n / F * F) (n % F) (mod-add-div' n F);
}
remainder_congruent F (negsuc n) = record {
  more = suc n / F;
  less = 0;
  is = given (suc n) (suc n / F * F) (suc n % F) (mod-add-div' (suc n) F) ∙ ap (λ (k : ℕ). neg_ℤ (pos (suc n % F)) +ℤ pos k) (sym (zero-mul F));
}

pub remainder_below : (F : ℕ) (z : ℤ) → 0 < F → nat_abs (rem_z z (pos F)) < F
remainder_below F (pos n) P = mod-lt n P
remainder_below F (negsuc n) P = subst (λ (k : ℕ). k < F) (sym (size_of (suc n % F))) (mod-lt (suc n) P)
  where
    size_of : (k : ℕ) → nat_abs (neg_ℤ (pos k)) ≡ k
    size_of zero = refl
    size_of (suc k) = refl
