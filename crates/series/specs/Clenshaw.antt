-- Trigonometric sums by Clenshaw's recursion. Assumes nothing.
use Rattle.std.specs.Prelude.{Bool, cond, List, [], ◌∷◌, drop, Float}
use Rattle.floats.specs.Arithmetic.{◌⊕◌, ◌⊖◌, ◌⊗◌}
use Rattle.geomath.specs.Angles.{zero, two}

-- the last two numbers of the recursion
pub record Tail : Type 0 where
  pub y0 : Float
  pub y1 : Float

-- one step: b_k = a b_{k+1} - b_{k+2} + c_k
abbrev pub clenshaw_step : Float → Float → Float → Float → Float
clenshaw_step a later latest c = a ⊗ later ⊖ latest ⊕ c

-- The recursion for coefficients c_0, c_1, .., run from the last of them to c_0: y0 = b_0 and y1 = b_1, taken two steps at a time. A single last coefficient starts it as it is.
unfoldable pub clenshaw : Float → List Float → Tail
clenshaw a [] = record { y0 = zero; y1 = zero }
clenshaw a (c ∷ []) = record { y0 = c; y1 = zero }
clenshaw a (c ∷ d ∷ cs) =
    record {
      y0 = clenshaw_step a (clenshaw_step a (clenshaw a cs).y0 (clenshaw a cs).y1 d) (clenshaw a cs).y0 c;
      y1 = clenshaw_step a (clenshaw a cs).y0 (clenshaw a cs).y1 d;
    }

-- 2 cos 2σ, from sin σ and cos σ
abbrev pub twice_cosine : Float → Float → Float
twice_cosine sinx cosx = two ⊗ (cosx ⊖ sinx) ⊗ (cosx ⊕ sinx)

-- the sum over l ≥ 1 of c_l sin 2lσ; c_0 is not used
abbrev pub sine_series : Float → Float → List Float → Float
sine_series sinx cosx c = two ⊗ sinx ⊗ cosx ⊗ (clenshaw (twice_cosine sinx cosx) (drop 1 c)).y0

-- the sum over l ≥ 0 of c_l cos (2l+1)σ
abbrev pub cosine_series : Float → Float → List Float → Float
cosine_series sinx cosx c = cosx ⊗ ((clenshaw (twice_cosine sinx cosx) c).y0 ⊖ (clenshaw (twice_cosine sinx cosx) c).y1)

unfoldable pub sin_cos_series : Bool → Float → Float → List Float → Float
sin_cos_series sinp sinx cosx c = cond sinp (sine_series sinx cosx c) (cosine_series sinx cosx c)
