-- π, and the coefficients of the series, highest power first: each is one rounded quotient of whole numbers. Assumes nothing.
use Rattle.std.specs.Prelude.{ℕ, zero, suc, ◌+◌, ◌*◌, ◌%◌, cond, List, [], ◌∷◌, pos, negsuc, ◌==◌, Float}
use Rattle.std.specs.Float.{binary64}
use Rattle.std.specs.Float.Ieee.{of_int}
use Rattle.floats.specs.Arithmetic.{◌⊘◌, bits}

abbrev pub π : Float
π = bits 0x400921fb54442d18

-- a whole number as a float
abbrev pub whole : ℕ → Float
whole n = of_int binary64 (pos n)

-- (-1) ^ k as a float
unfoldable pub sign_of : ℕ → Float
sign_of k = cond (k % 2 == 0) (of_int binary64 (pos 1)) (of_int binary64 (negsuc 0))

unfoldable pub factorial : ℕ → ℕ
factorial zero = 1
factorial (suc n) = suc n * factorial n

-- f k for each k from n down to 0
unfoldable pub down_from : (ℕ → Float) → ℕ → List Float
down_from f zero = f zero ∷ []
down_from f (suc n) = f (suc n) ∷ down_from f n

-- (-1)^k / (2k+1)!, k from 8 down to 0: the sine's, in the square of the angle
unfoldable pub sine_terms : List Float
unfolding down_from sign_of factorial
sine_terms = down_from (λ k. sign_of k ⊘ whole (factorial (2 * k + 1))) 8

-- (-1)^k / (2k)!, k from 9 down to 0: the cosine's
unfoldable pub cosine_terms : List Float
unfolding down_from sign_of factorial
cosine_terms = down_from (λ k. sign_of k ⊘ whole (factorial (2 * k))) 9

-- (-1)^k / (2k+1), k from 20 down to 0: the arc tangent's
unfoldable pub arc_terms : List Float
unfolding down_from sign_of
arc_terms = down_from (λ k. sign_of k ⊘ whole (2 * k + 1)) 20

-- 1 / (2k+1), k from 14 down to 0: the area tangent's
unfoldable pub area_terms : List Float
unfolding down_from
area_terms = down_from (λ k. whole 1 ⊘ whole (2 * k + 1)) 14
