-- The table holds the rounded quotients that the definition names: both are computed, and are the same floats.
use mathlib.Core.Path.{_≡_, refl, _∙_, ap}
use lib.Ieee.{ofBits, ofInt, div}
use Rattle·floats.specs.Arithmetic.{_⊗_}
use Rattle·floats.specs.Polynomials.{polynomial}
use Rattle·functions·specs.Coefficients.{sineTerms}
use Rattle·functions·proofs.circle.sine_near.Needs as need

pub returns : need.returns
unfolding sineTerms ofBits ofInt div
returns c = ap (λ p. c .args .r ⊗ p) (c .polyval .ensures ∙ ap (polynomial (c .args .r ⊗ c .args .r)) refl)
