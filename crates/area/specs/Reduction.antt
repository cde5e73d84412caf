-- How the rounded sum of edge areas becomes an area on the whole surface: the operations on floats, in their order. Assumes nothing.
use Rattle.std.specs.Prelude.{◌%◌, Bool, true, false, cond, ℤ, ◌==◌, unsigned_abs, Float}
use Rattle.std.specs.Float.Ieee.{neg}
use Rattle.floats.specs.Arithmetic.{◌⊕◌, ◌⊖◌, ◌⊘◌, ◌⊛◌, ◌≺◌, ◌≼◌, ◌≻◌, bits}
use Rattle.area.specs.declared.Winding.{Winding}
use Rattle.area.specs.declared.Winding.TheVariants.{Clockwise, CounterClockwise}

-- the other sense
abbrev pub reversed : Winding → Winding
reversed Clockwise = CounterClockwise
reversed CounterClockwise = Clockwise

-- a pole is surrounded where the number of crossings is odd
abbrev pub is_odd : ℤ → Bool
is_odd n = unsigned_abs n % 2 == 1

abbrev pub two : Float
two = bits 0x4000000000000000

-- half of the whole area, added or taken off towards zero, where a pole is surrounded
abbrev pub crossed : Float → Bool → Float → Float
crossed whole false x = x
crossed whole true x = cond (x ≺ bits 0) (x ⊕ whole ⊘ two) (x ⊖ whole ⊘ two)

-- the sum has the clockwise sense
abbrev pub turned : Winding → Float → Float
turned Clockwise x = x
turned CounterClockwise x = neg x

-- signed: the whole area is taken off above its half and added up to minus its half; unsigned: it is added below zero
abbrev pub placed : Float → Bool → Float → Float
placed whole true x = cond (x ≻ whole ⊘ two) (x ⊖ whole) (cond (x ≼ neg whole ⊘ two) (x ⊕ whole) x)
placed whole false x = cond (x ≺ bits 0) (x ⊕ whole) x

-- the sum, modulo the whole area, crossed, turned and placed
unfoldable pub reduced_area : Float → Winding → Bool → Bool → Float → Float
reduced_area whole winding signed odd sum = placed whole signed (turned winding (crossed whole odd (sum ⊛ whole)))
