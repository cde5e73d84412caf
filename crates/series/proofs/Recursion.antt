-- Clenshaw's recursion as a fold over pairs of coefficients, the last pair first.
use Rattle.std.proofs.Common.{◌≡◌, ℕ, zero, suc, reverse, ◌*◌, ◌/◌, List, [], ◌∷◌, length, get_or, ap, ◌∙◌, arith}
use lib.Ieee.{Float, nan}
use Rattle.std.specs.List.{fold}
use Rattle.std.specs.Simd.{first_chunks}
use Rattle.std.proofs.lemmas.List.{reverse-append}
use Rattle.std.proofs.lemmas.List.Sums.{fold-append}
use Rattle.geomath.specs.Angles as Angles
use Rattle.series.specs.Clenshaw.{clenshaw, clenshaw_step}

-- one turn: the pair p goes before what is done
abbrev pub turn : Float → Float × Float → List Float → Float × Float
turn a y p = (clenshaw_step a (clenshaw_step a y.0 y.1 (get_or p 1 nan)) y.0 (get_or p 0 nan), clenshaw_step a y.0 y.1 (get_or p 1 nan))

-- a single last coefficient starts the recursion, or otherwise 0 does
pub folded : (a s : Float) (k : ℕ) (cs : List Float) → k ≡ length cs / 2 → s ≡ get_or cs (k * 2) Angles.zero
    → fold (turn a) (s, Angles.zero) (reverse (first_chunks 2 k cs)) ≡ ((clenshaw a cs).y0, (clenshaw a cs).y1)
unfolding clenshaw
folded a s zero [] e h = ap (λ (y : Float). (y, Angles.zero)) h
folded a s zero (c ∷ []) e h = ap (λ (y : Float). (y, Angles.zero)) h
folded a s zero (c ∷ d ∷ cs) e h = absurd (omega arith)
folded a s (suc k) [] e h = absurd (omega arith)
folded a s (suc k) (c ∷ []) e h = absurd (omega arith)
folded a s (suc k) (c ∷ d ∷ cs) e h =
    let two_on : suc k * 2 ≡ suc (suc (k * 2)) = omega arith in
    ap (fold (turn a) (s, Angles.zero)) (reverse-append ((c ∷ d ∷ []) ∷ []) (first_chunks 2 k cs))
    ∙ fold-append (turn a) (s, Angles.zero) (reverse (first_chunks 2 k cs)) ((c ∷ d ∷ []) ∷ [])
    ∙ ap (λ (y : Float × Float). turn a y (c ∷ d ∷ [])) (folded a s k cs (omega arith) (h ∙ ap (λ (n : ℕ). get_or (c ∷ d ∷ cs) n Angles.zero) two_on))
