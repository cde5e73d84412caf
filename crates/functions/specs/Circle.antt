-- Sine and cosine of the series set: the angle is brought near zero by quarter turns, and the series of both are summed there. Assumes nothing.
use Rattle.std.specs.Prelude.{ℕ, false, cond, pos, ◌==◌, unsigned_abs, Float}
use Rattle.std.specs.Float.Ieee.{neg, to_signed}
use Rattle.std.specs.Float.{float_is_finite, float_with_sign, round_ties_even, binary64}
use Rattle.std.specs.Int.{int_rem_euclid}
use Rattle.floats.specs.Arithmetic.{◌⊖◌, ◌⊗◌, ◌⊘◌, ◌⊛◌, ◌≼◌, ◌≻◌, bits}
use Rattle.floats.specs.Polynomials.{polynomial}
use Rattle.functions.specs.Coefficients.{π, sine_terms, cosine_terms}
use Rattle.functions.specs.declared.circle.Quarter.{Quarter}
use Rattle.functions.specs.declared.circle.Quarter.TheVariants.{First, Second, Third, Fourth}
use Rattle.functions.specs.declared.circle.Reduced.{Reduced}

-- π/2 in two parts: the leading 33 binary digits, and what they leave out
abbrev pub leading : Float
leading = bits 0x3ff921fb54400000

abbrev pub trailing : Float
trailing = bits 0x3dd0b4611a626331

-- beyond 1024 an angle is first replaced by its remainder by a full turn
abbrev pub within_turns : Float → Float
within_turns x = cond (float_with_sign false x ≻ bits 0x4090000000000000) (x ⊛ (bits 0x4000000000000000 ⊗ π)) x

-- the number of quarter turns nearest to x, a tie to the even one
abbrev pub quarter_turns : Float → Float
quarter_turns x = round_ties_even binary64 (x ⊘ (π ⊘ bits 0x4000000000000000))

-- the whole number n modulo 4
abbrev pub mod_four : Float → ℕ
mod_four n = unsigned_abs (int_rem_euclid (to_signed 63 n) (pos 4))

-- which of the four quarters a number of quarter turns ends in
abbrev pub quarter_of : Float → Quarter
quarter_of n = cond (mod_four n == 0) First (cond (mod_four n == 1) Second (cond (mod_four n == 2) Third Fourth))

-- the quarter after one
abbrev pub after : Quarter → Quarter
after First = Second
after Second = Third
after Third = Fourth
after Fourth = First

-- x less n quarter turns
abbrev pub less_quarters : Float → Float → Float
less_quarters x n = (x ⊖ n ⊗ leading) ⊖ n ⊗ trailing

-- the angle that is left within an eighth turn of zero, and the quarter that was taken off
abbrev pub reduced_of : Float → Reduced
reduced_of x = cond (float_with_sign false x ≼ π ⊘ bits 0x4010000000000000) (record { rest = x; quarter = First }) (record { rest = less_quarters x (quarter_turns x); quarter = quarter_of (quarter_turns x) })

-- the two series at a small angle
abbrev pub sine_near : Float → Float
sine_near r = r ⊗ polynomial (r ⊗ r) sine_terms

abbrev pub cosine_near : Float → Float
cosine_near r = polynomial (r ⊗ r) cosine_terms

abbrev pub sine_in : Quarter → Float → Float
sine_in First r = sine_near r
sine_in Second r = cosine_near r
sine_in Third r = neg (sine_near r)
sine_in Fourth r = neg (cosine_near r)

abbrev pub cosine_in : Quarter → Float → Float
cosine_in First r = cosine_near r
cosine_in Second r = neg (sine_near r)
cosine_in Third r = neg (cosine_near r)
cosine_in Fourth r = sine_near r

-- a NaN and an infinity give NaN
abbrev pub sine_of : Float → Float
sine_of x = cond (float_is_finite x) (sine_in (reduced_of (within_turns x)).quarter (reduced_of (within_turns x)).rest) (bits 0x7ff8000000000000)

abbrev pub cosine_of : Float → Float
cosine_of x = cond (float_is_finite x) (cosine_in (reduced_of (within_turns x)).quarter (reduced_of (within_turns x)).rest) (bits 0x7ff8000000000000)
