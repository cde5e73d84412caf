-- Which floats can be the whole area of a surface. Assumes nothing.
use Rattle.std.specs.Prelude.{Bool, ◌&&◌, Float}
use Rattle.std.specs.Float.{float_is_finite}
use Rattle.floats.specs.Arithmetic.{◌≽◌, bits}

-- 2 ^ -1021: from here on half of a float is exact
abbrev pub least_whole : Float
least_whole = bits 0x0020000000000000

-- finite and at least 2 ^ -1021
abbrev pub whole_fits : Float → Bool
whole_fits a = float_is_finite a && (a ≽ least_whole)
