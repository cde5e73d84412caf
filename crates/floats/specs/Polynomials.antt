-- Horner's rule over a list of coefficients, highest power first. Assumes nothing.
use Rattle.std.specs.Prelude.{List, [], ◌∷◌, Float}
use Rattle.std.specs.List.{fold}
use Rattle.floats.specs.Arithmetic.{◌⊕◌, ◌⊗◌, bits}

unfoldable pub horner : Float → Float → List Float → Float
horner x y cs = fold (λ z c. z ⊗ x ⊕ c) y cs

-- the polynomial with these coefficients at x: +0 where there are none
unfoldable pub polynomial : Float → List Float → Float
polynomial x [] = bits 0
polynomial x (c ∷ cs) = horner x c cs
