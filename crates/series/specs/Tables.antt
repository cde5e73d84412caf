-- Polynomials whose coefficients stand in a table: a row at a place is m + 1 coefficients, highest power first, and then their common divisor.
-- A row that the table does not hold to its end gives NaN. Assumes nothing.
use Rattle.std.specs.Prelude.{ℕ, ◌+◌, List, take, drop, slice_index_or, Float}
use Rattle.std.specs.Float.{nan}
use Rattle.floats.specs.Arithmetic.{◌⊘◌}
use Rattle.floats.specs.Polynomials.{polynomial}

-- the polynomial of degree m with the coefficients from the place on, of those that the table has there
abbrev pub polynomial_at : Float → List Float → ℕ → ℕ → Float
polynomial_at x t place m = polynomial x (take (m + 1) (drop place t))

-- the number behind these coefficients
abbrev pub divisor_at : List Float → ℕ → ℕ → Float
divisor_at t place m = slice_index_or (drop place t) (m + 1) nan

abbrev pub row_at : Float → List Float → ℕ → ℕ → Float
row_at x t place m = polynomial_at x t place m ⊘ divisor_at t place m
