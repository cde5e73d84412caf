-- The expansions A3 of the longitude integral and C3, C4 of the longitude and area integrals for one ellipsoid, Karney (2013), eqs. 24, 25 and 63, in powers of ε. Assumes nothing.
use Rattle.std.specs.Prelude.{ℕ, zero, suc, ◌+◌, List, [], ◌∷◌, drop, Float}
use Rattle.floats.specs.Arithmetic.{◌⊕◌, ◌⊗◌, ◌⊘◌}
use Rattle.floats.specs.Polynomials.{polynomial}
use Rattle.geomath.specs.Angles as Angles
use Rattle.geomath.specs.Angles.{one, two}
use Rattle.series.specs.Tables.{polynomial_at}
use Rattle.ellipsoid.specs.Constants.{root}
use Rattle.ellipsoid.specs.declared.shape.Ellipsoid.{Ellipsoid}

-- ε for k² = e'² cos² α0, eqs. 9 and 16, written so that nothing cancels
abbrev pub epsilon : Float → Float
epsilon k2 = k2 ⊘ (two ⊗ (one ⊕ root (one ⊕ k2)) ⊕ k2)

-- Rows of n, n - 1, .. 1 coefficients that stand one after the other: the polynomial of each in x, times a power that grows by x from row to row.
unfoldable pub triangle : Float → Float → List Float → ℕ → List Float
triangle x power t zero = []
triangle x power t (suc n) = (power ⊗ polynomial_at x t 0 n) ∷ triangle x (power ⊗ x) (drop (n + 1) t) n

unfoldable pub A3f : Ellipsoid → Float → Float
A3f E eps = polynomial eps E.A3x

-- the l-th is ε^l times a polynomial in ε, l from 1 on, behind an unused element
unfoldable pub C3f : Ellipsoid → Float → List Float
C3f E eps = Angles.zero ∷ triangle eps eps E.C3x 5

-- the l-th is ε^l times a polynomial in ε, l from 0 on
unfoldable pub C4f : Ellipsoid → Float → List Float
C4f E eps = triangle eps one E.C4x 6
