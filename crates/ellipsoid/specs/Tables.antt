-- The tables of coefficients of A3, C3 and C4, Karney (2013), eqs. 24, 25 and 63, as polynomials in the third flattening n. Assumes nothing.
-- A row has the coefficients of one polynomial, highest power first, and then their common divisor.
use Rattle.std.specs.Prelude.{ℕ, ◌+◌, List, [], ◌∷◌, drop, Float}
use Rattle.series.specs.Numbers.{plus, minus}
use Rattle.series.specs.Tables.{row_at}

-- A3: the coefficients of ε^5, ε^4, .. 1
unfoldable pub coeff_a3 : List Float
coeff_a3 =
    minus 3 ∷ plus 128
    ∷ minus 2 ∷ minus 3 ∷ plus 64
    ∷ minus 1 ∷ minus 3 ∷ minus 1 ∷ plus 16
    ∷ plus 3 ∷ minus 1 ∷ minus 2 ∷ plus 8
    ∷ plus 1 ∷ minus 1 ∷ plus 2
    ∷ plus 1 ∷ plus 1 ∷ []

-- the degree of each row in n
abbrev pub degrees_a3 : List ℕ
degrees_a3 = 0 ∷ 1 ∷ 2 ∷ 2 ∷ 1 ∷ 0 ∷ []

-- C3: for l from 1 to 5, the coefficients of ε^5, .. ε^l in the l-th
unfoldable pub coeff_c3 : List Float
coeff_c3 =
    plus 3 ∷ plus 128
    ∷ plus 2 ∷ plus 5 ∷ plus 128
    ∷ minus 1 ∷ plus 3 ∷ plus 3 ∷ plus 64
    ∷ minus 1 ∷ plus 0 ∷ plus 1 ∷ plus 8
    ∷ minus 1 ∷ plus 1 ∷ plus 4
    ∷ plus 5 ∷ plus 256
    ∷ plus 1 ∷ plus 3 ∷ plus 128
    ∷ minus 3 ∷ minus 2 ∷ plus 3 ∷ plus 64
    ∷ plus 1 ∷ minus 3 ∷ plus 2 ∷ plus 32
    ∷ plus 7 ∷ plus 512
    ∷ minus 10 ∷ plus 9 ∷ plus 384
    ∷ plus 5 ∷ minus 9 ∷ plus 5 ∷ plus 192
    ∷ plus 7 ∷ plus 512
    ∷ minus 14 ∷ plus 7 ∷ plus 512
    ∷ plus 21 ∷ plus 2560 ∷ []

-- the degree of each row in n
abbrev pub degrees_c3 : List ℕ
degrees_c3 = 0 ∷ 1 ∷ 2 ∷ 2 ∷ 1 ∷ 0 ∷ 1 ∷ 2 ∷ 2 ∷ 0 ∷ 1 ∷ 2 ∷ 0 ∷ 1 ∷ 0 ∷ []

-- C4: for l from 0 to 5, the coefficients of ε^5, .. ε^l in the l-th
unfoldable pub coeff_c4 : List Float
coeff_c4 =
    plus 97 ∷ plus 15015
    ∷ plus 1088 ∷ plus 156 ∷ plus 45045
    ∷ minus 224 ∷ minus 4784 ∷ plus 1573 ∷ plus 45045
    ∷ minus 10656 ∷ plus 14144 ∷ minus 4576 ∷ minus 858 ∷ plus 45045
    ∷ plus 64 ∷ plus 624 ∷ minus 4576 ∷ plus 6864 ∷ minus 3003 ∷ plus 15015
    ∷ plus 100 ∷ plus 208 ∷ plus 572 ∷ plus 3432 ∷ minus 12012 ∷ plus 30030 ∷ plus 45045
    ∷ plus 1 ∷ plus 9009
    ∷ minus 2944 ∷ plus 468 ∷ plus 135135
    ∷ plus 5792 ∷ plus 1040 ∷ minus 1287 ∷ plus 135135
    ∷ plus 5952 ∷ minus 11648 ∷ plus 9152 ∷ minus 2574 ∷ plus 135135
    ∷ minus 64 ∷ minus 624 ∷ plus 4576 ∷ minus 6864 ∷ plus 3003 ∷ plus 135135
    ∷ plus 8 ∷ plus 10725
    ∷ plus 1856 ∷ minus 936 ∷ plus 225225
    ∷ minus 8448 ∷ plus 4992 ∷ minus 1144 ∷ plus 225225
    ∷ minus 1440 ∷ plus 4160 ∷ minus 4576 ∷ plus 1716 ∷ plus 225225
    ∷ minus 136 ∷ plus 63063
    ∷ plus 1024 ∷ minus 208 ∷ plus 105105
    ∷ plus 3584 ∷ minus 3328 ∷ plus 1144 ∷ plus 315315
    ∷ minus 128 ∷ plus 135135
    ∷ minus 2560 ∷ plus 832 ∷ plus 405405
    ∷ plus 128 ∷ plus 99099 ∷ []

-- the degree of each row in n
abbrev pub degrees_c4 : List ℕ
degrees_c4 = 0 ∷ 1 ∷ 2 ∷ 3 ∷ 4 ∷ 5 ∷ 0 ∷ 1 ∷ 2 ∷ 3 ∷ 4 ∷ 0 ∷ 1 ∷ 2 ∷ 3 ∷ 0 ∷ 1 ∷ 2 ∷ 0 ∷ 1 ∷ 0 ∷ []

-- the polynomials of rows that stand one after the other, of these degrees
unfoldable pub rows_of : Float → List Float → List ℕ → List Float
rows_of x t [] = []
rows_of x t (m ∷ ms) = row_at x t 0 m ∷ rows_of x (drop (m + 2) t) ms
