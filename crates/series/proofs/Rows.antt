-- A row that a table does not hold to its end: the coefficients that are left, and no divisor.
use Rattle.std.proofs.Common.{◌≡◌, ℕ, ◌+◌, ◌-◌, ◌≤◌, List, length, get_or, take, drop, sym, refl, ap, ◌∙◌, arith, take_all}
use lib.Ieee.{Float, nan, inf, fin, of_bits, div}
use Rattle.std.proofs.lemmas.List.{get_or_past}
use Rattle.floats.specs.Arithmetic.{bits, ◌⊘◌}
use Rattle.floats.specs.Polynomials.{polynomial}
use Rattle.series.specs.Tables.{polynomial_at, divisor_at, row_at}

pub polynomial_short : (x : Float) (t rest : List Float) (place m : ℕ) → rest ≡ drop place t → length rest ≤ m → polynomial x rest ≡ polynomial_at x t place m
polynomial_short x t rest place m e h =
    ap (polynomial x) (sym (take_all (m + 1) rest (omega arith)) ∙ ap (λ (l : List Float). take (m + 1) l) e)

pub divisor_short : (t rest : List Float) (place m : ℕ) → rest ≡ drop place t → length rest - 1 ≤ m → bits 0x7ff8000000000000 ≡ divisor_at t place m
unfolding of_bits
divisor_short t rest place m e h = sym (get_or_past rest (m + 1) nan (omega arith)) ∙ ap (λ (l : List Float). get_or l (m + 1) nan) e

by_nan : (x : Float) → x ⊘ nan ≡ nan
unfolding div
by_nan nan = refl
by_nan (inf s) = refl
by_nan (fin s m e) = refl

-- such a row is no number
pub row_short : (x : Float) (t : List Float) (place m : ℕ) → length (drop place t) ≤ m + 1 → row_at x t place m ≡ nan
row_short x t place m h =
    ap (λ (d : Float). polynomial_at x t place m ⊘ d) (get_or_past (drop place t) (m + 1) nan h) ∙ by_nan (polynomial_at x t place m)
