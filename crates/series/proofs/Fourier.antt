-- The coefficients row by row: one more is put behind those that stand.
use Rattle.std.proofs.Common.{◌≡◌, ℕ, suc, ◌+◌, ◌-◌, ◌<◌, ◌≤◌, List, [], ◌∷◌, ◌++◌, length, take, drop, set, sym, ap, ◌∙◌, append_assoc, arith, take_all}
use lib.Ieee.{Float}
use Rattle.std.proofs.lemmas.List.{append-nil, take_more_set}
use Rattle.floats.specs.Arithmetic.{◌⊗◌, ◌⊘◌}
use Rattle.geomath.specs.Angles.{square}
use Rattle.series.specs.Tables.{polynomial_at, divisor_at}
use Rattle.series.specs.Expansions.{degree_of, scaled_row, coefficients}

-- the first of n more coefficients, whose rows are at the start of t
pub written : (eps d : Float) (t c : List Float) (l n k : ℕ) → n ≡ suc k → l < length c
    → take (l + 1) (set c l (scaled_row eps d t (degree_of l))) ++ coefficients eps (d ⊗ eps) (drop (degree_of l + 2) t) (l + 1) k
    ≡ take l c ++ coefficients eps d t l n
unfolding coefficients
written eps d t c l n k e h =
    let row = scaled_row eps d t (degree_of l) in
    let more = coefficients eps (d ⊗ eps) (drop (degree_of l + 2) t) (l + 1) k in
    ap (λ (r : List Float). r ++ more) (take_more_set c l row h)
    ∙ append_assoc (take l c) (row ∷ []) more
    ∙ ap (λ (j : ℕ). take l c ++ coefficients eps d t l j) (sym e)

-- a coefficient by its parts
pub scaled_row_is : (eps d e2 p q : Float) (t : List Float) (m : ℕ) → e2 ≡ square eps → p ≡ polynomial_at e2 t 0 m → q ≡ divisor_at t 0 m → d ⊗ p ⊘ q ≡ scaled_row eps d t m
scaled_row_is eps d e2 p q t m e hp hq =
    ap (λ (y : Float). d ⊗ y ⊘ q) (hp ∙ ap (λ (x : Float). polynomial_at x t 0 m) e) ∙ ap (λ (y : Float). d ⊗ polynomial_at (square eps) t 0 m ⊘ y) hq

-- none is left
pub written_all : (eps d : Float) (t c whole : List Float) (l n : ℕ) → n ≡ 0 → length c ≤ l → take l c ++ coefficients eps d t l n ≡ whole → c ≡ whole
unfolding coefficients
written_all eps d t c whole l n e h s =
    sym (take_all l c h) ∙ sym (append-nil (take l c)) ∙ ap (λ (k : ℕ). take l c ++ coefficients eps d t l k) (sym e) ∙ s

-- the number of those that are left
pub left_over : (l : ℕ) → l ≤ 6 → 7 - l ≡ suc (7 - (l + 1))
left_over l h = omega arith
