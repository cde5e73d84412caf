-- The expansions in ε of the distance integral I1 and of I2 to the sixth order, Karney (2013): A1 and C1 by eqs. 17 and 18, A2 and C2 by eqs. 42 and 43. Assumes nothing.
use Rattle.std.specs.Prelude.{ℕ, zero, suc, ◌+◌, ◌-◌, ◌/◌, List, [], ◌∷◌, drop, Float}
use Rattle.floats.specs.Arithmetic.{◌⊕◌, ◌⊖◌, ◌⊗◌, ◌⊘◌}
use Rattle.geomath.specs.Angles as Angles
use Rattle.geomath.specs.Angles.{one, square}
use Rattle.series.specs.Numbers.{plus, minus}
use Rattle.series.specs.Tables.{polynomial_at, divisor_at, row_at}

-- the order of the expansions
abbrev pub order : ℕ
order = 6

-- ---- the tables: in each row the coefficients of a polynomial in ε², highest power first, and their divisor

unfoldable pub table_a1 : List Float
table_a1 = plus 1 ∷ plus 4 ∷ plus 64 ∷ plus 0 ∷ plus 256 ∷ []

unfoldable pub table_a2 : List Float
table_a2 = minus 11 ∷ minus 28 ∷ minus 192 ∷ plus 0 ∷ plus 256 ∷ []

unfoldable pub table_c1 : List Float
table_c1 =
    minus 1 ∷ plus 6 ∷ minus 16 ∷ plus 32
    ∷ minus 9 ∷ plus 64 ∷ minus 128 ∷ plus 2048
    ∷ plus 9 ∷ minus 16 ∷ plus 768
    ∷ plus 3 ∷ minus 5 ∷ plus 512
    ∷ minus 7 ∷ plus 1280
    ∷ minus 7 ∷ plus 2048 ∷ []

unfoldable pub table_c2 : List Float
table_c2 =
    plus 1 ∷ plus 2 ∷ plus 16 ∷ plus 32
    ∷ plus 35 ∷ plus 64 ∷ plus 384 ∷ plus 2048
    ∷ plus 15 ∷ plus 80 ∷ plus 768
    ∷ plus 7 ∷ plus 35 ∷ plus 512
    ∷ plus 63 ∷ plus 1280
    ∷ plus 77 ∷ plus 2048 ∷ []

-- ---- A1 - 1 and A2 - 1

unfoldable pub A1m1f : Float → Float
A1m1f eps = (row_at (square eps) table_a1 0 (order / 2) ⊕ eps) ⊘ (one ⊖ eps)

unfoldable pub A2m1f : Float → Float
A2m1f eps = (row_at (square eps) table_a2 0 (order / 2) ⊖ eps) ⊘ (one ⊕ eps)

-- ---- the Fourier coefficients C1 and C2: the l-th is ε^l times a polynomial in ε² whose degree is half of what l leaves of the order

abbrev pub degree_of : ℕ → ℕ
degree_of l = (order - l) / 2

-- a row's polynomial times d, which is ε^l, and then divided
abbrev pub scaled_row : Float → Float → List Float → ℕ → Float
scaled_row eps d t m = d ⊗ polynomial_at (square eps) t 0 m ⊘ divisor_at t 0 m

-- n coefficients from the l-th on, with their rows at the start of t
unfoldable pub coefficients : Float → Float → List Float → ℕ → ℕ → List Float
coefficients eps d t l zero = []
coefficients eps d t l (suc n) = scaled_row eps d t (degree_of l) ∷ coefficients eps (d ⊗ eps) (drop (degree_of l + 2) t) (l + 1) n

-- behind an unused element, so that the l-th coefficient stands at the place l
abbrev pub fourier : Float → List Float → List Float
fourier eps t = Angles.zero ∷ coefficients eps eps t 1 order

unfoldable pub C1f : Float → List Float
C1f eps = fourier eps table_c1

unfoldable pub C2f : Float → List Float
C2f eps = fourier eps table_c2
