-- The area law: what a reduced area says of the exact sum of edge areas and the exact whole area, in whole multiples of 2 ^ -1074. Assumes nothing.
use Rattle.std.specs.Prelude.{◌≡◌, ◌*◌, ◌^◌, ◌≤◌, Bool, true, false, cond, T, ℤ, pos, ◌+ℤ◌, ◌-ℤ◌, ◌*ℤ◌, neg_ℤ, ◌≤ℤ◌, ◌<ℤ◌, unsigned_abs, Float}
use Rattle.std.specs.Float.{binary64, nan}
use Rattle.std.specs.Float as Floats
use Rattle.exact.specs.Values.{value}
use Rattle.floats.specs.Arithmetic.{◌≼◌, bits}
use Rattle.area.specs.declared.Winding.{Winding}
use Rattle.area.specs.declared.Winding.TheVariants.{Clockwise, CounterClockwise}

-- the area of a whole surface: finite, and at least 2 ^ -1021
pub record WholeArea (whole : Float) : Type 0 where
  pub finite : T (Floats.float_is_finite whole)
  pub large : T (bits 0x0020000000000000 ≼ whole)

-- the sum S, of clockwise sense, in the sense of the winding
abbrev pub in_sense : Winding → ℤ → ℤ
in_sense Clockwise S = S
in_sense CounterClockwise S = neg_ℤ S

-- what the area would be but for rounding and whole multiples of the whole area: half of that is added where the number of crossings is odd
abbrev pub exact_area : Winding → Bool → ℤ → ℤ → ℤ
exact_area winding odd half S = in_sense winding S +ℤ cond odd half (pos 0)

-- signed: above -A / 2 and up to A / 2; unsigned: from 0 to A
abbrev pub InRange : Bool → ℤ → ℤ → Type 0
InRange true A r = (neg_ℤ A <ℤ (r +ℤ r)) × ((r +ℤ r) ≤ℤ A)
InRange false A r = (pos 0 ≤ℤ r) × (r ≤ℤ A)

-- r is the area that S gives on a surface of the area A: exact modulo A, within A * 2 ^ -52, and indeed within A * 2 ^ -53
pub record Reduced (winding : Winding) (signed odd : Bool) (A S r : ℤ) : Type 0 where
  pub half : ℤ
  pub halves : half +ℤ half ≡ A
  pub times : ℤ
  pub near : 2 ^ 52 * unsigned_abs (r -ℤ exact_area winding odd half S -ℤ times *ℤ A) ≤ unsigned_abs A
  pub nearer : 2 ^ 53 * unsigned_abs (r -ℤ exact_area winding odd half S -ℤ times *ℤ A) ≤ unsigned_abs A
  pub range : InRange signed A r

-- a finite sum has a finite area, reduced; any other sum has none
pub record AreaLaw (whole : Float) (winding : Winding) (signed odd : Bool) (sum r : Float) : Type 0 where
  pub finite : WholeArea whole → T (Floats.float_is_finite sum) → T (Floats.float_is_finite r)
  pub reduced : WholeArea whole → T (Floats.float_is_finite sum) → Reduced winding signed odd (value binary64 whole) (value binary64 sum) (value binary64 r)
  pub none : Floats.float_is_finite sum ≡ false → r ≡ nan
