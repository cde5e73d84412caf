-- Figures that a mask wants. Assumes nothing.
use Rattle.std.specs.Prelude.{ℕ, cond, Float}
use Rattle.geomath.specs.Angles.{not_a_number}
use Rattle.ellipsoid.specs.Capabilities.{wants}

-- a figure where it is wanted, else NaN
abbrev pub wanted_or_nan : ℕ → ℕ → Float → Float
wanted_or_nan mask figure x = cond (wants mask figure) x not_a_number
