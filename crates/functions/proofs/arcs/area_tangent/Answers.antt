-- The table holds the rounded quotients that the definition names: both are computed, and are the same floats.
use mathlib.Core.Path.{_≡_, refl, _∙_, ap}
use lib.Ieee.{ofBits, ofInt, div}
use Rattle·floats.specs.Arithmetic.{_⊗_}
use Rattle·floats.specs.Polynomials.{polynomial}
use Rattle·functions·specs.Coefficients.{areaTerms}
use Rattle·functions·proofs.arcs.area_tangent.Needs as need

pub returns : need.returns
unfolding areaTerms ofBits ofInt div
returns c = ap (λ p. c .args .x ⊗ p) (c .polyval .ensures ∙ ap (polynomial (c .args .x ⊗ c .args .x)) refl)
