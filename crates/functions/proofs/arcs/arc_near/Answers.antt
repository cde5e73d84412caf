-- The table holds the rounded quotients that the definition names: both are computed, and are the same floats.
use Rattle.std.proofs.Common.{refl, ap, ◌∙◌}
use lib.Ieee.{of_bits, of_int, div}
use Rattle.floats.specs.Arithmetic.{◌⊗◌}
use Rattle.floats.specs.Polynomials.{polynomial}
use Rattle.functions.specs.Coefficients.{arc_terms}
use Rattle.functions.proofs.arcs.arc_near.Goals as goal

pub returns : goal.returns
unfolding arc_terms of_bits of_int div
returns c = ap (λ p. c.args.u ⊗ p) (c.polyval.ensures ∙ ap (polynomial (c.args.u ⊗ c.args.u)) refl)
