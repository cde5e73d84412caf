-- Values read row by row from a table: one more is put behind those that stand, and its row is passed over in the table.
use Rattle.std.proofs.Common.{◌≡◌, ℕ, suc, ◌+◌, ◌<◌, ◌≤◌, List, [], ◌∷◌, ◌++◌, length, get_or, take, drop, set, sym, ap, ◌∙◌, append_assoc, take_all, drop-drop}
use lib.Ieee.{Float}
use Rattle.std.proofs.lemmas.List.{append-nil, take_more_set, drop_more, drop_all}
use Rattle.floats.specs.Arithmetic.{◌⊗◌}
use Rattle.series.specs.Tables.{polynomial_at, row_at}
use Rattle.ellipsoid.specs.Tables.{rows_of}
use Rattle.ellipsoid.specs.Expansions.{triangle}

-- ---- a value is put behind those that stand

pub put_more : (c : List Float) (k : ℕ) (v : Float) (rest : List Float) → k < length c → take (k + 1) (set c k v) ++ rest ≡ take k c ++ (v ∷ rest)
put_more c k v rest h =
    ap (λ (r : List Float). r ++ rest) (take_more_set c k v h) ∙ append_assoc (take k c) (v ∷ []) rest

pub put_all : (c rest whole : List Float) (k : ℕ) → length c ≤ k → rest ≡ [] → take k c ++ rest ≡ whole → c ≡ whole
put_all c rest whole k h e s = sym (take_all k c h) ∙ sym (append-nil (take k c)) ∙ ap (λ (r : List Float). take k c ++ r) (sym e) ∙ s

-- ---- rows of given degrees

rows_more : (x : Float) (t : List Float) (ds : List ℕ) (o k : ℕ) → k < length ds
    → rows_of x (drop o t) (drop k ds) ≡ row_at x t o (get_or ds k 0) ∷ rows_of x (drop (o + (get_or ds k 0 + 2)) t) (drop (k + 1) ds)
unfolding rows_of
rows_more x t ds o k h =
    ap (rows_of x (drop o t)) (drop_more ds k 0 h)
    ∙ ap (λ (r : List Float). row_at x t o (get_or ds k 0) ∷ rows_of x r (drop (k + 1) ds)) (drop-drop (get_or ds k 0 + 2) o t)

pub rows_put : (x v : Float) (t c whole : List Float) (ds : List ℕ) (o k : ℕ) → k < length c → k < length ds → v ≡ row_at x t o (get_or ds k 0)
    → take k c ++ rows_of x (drop o t) (drop k ds) ≡ whole
    → take (k + 1) (set c k v) ++ rows_of x (drop (o + (get_or ds k 0 + 2)) t) (drop (k + 1) ds) ≡ whole
rows_put x v t c whole ds o k h g e s =
    put_more c k v (rows_of x (drop (o + (get_or ds k 0 + 2)) t) (drop (k + 1) ds)) h
    ∙ ap (λ (r : Float). take k c ++ (r ∷ rows_of x (drop (o + (get_or ds k 0 + 2)) t) (drop (k + 1) ds))) e
    ∙ ap (λ (r : List Float). take k c ++ r) (sym (rows_more x t ds o k g))
    ∙ s

pub rows_all : (x : Float) (t c whole : List Float) (ds : List ℕ) (o k : ℕ) → length c ≤ k → length ds ≤ k
    → take k c ++ rows_of x (drop o t) (drop k ds) ≡ whole → c ≡ whole
unfolding rows_of
rows_all x t c whole ds o k h g s = put_all c (rows_of x (drop o t) (drop k ds)) whole k h (ap (rows_of x (drop o t)) (drop_all k ds g)) s

-- ---- rows that shorten by one

triangle_more : (x p : Float) (t : List Float) (o n m : ℕ) → n ≡ suc m
    → triangle x p (drop o t) n ≡ (p ⊗ polynomial_at x t o m) ∷ triangle x (p ⊗ x) (drop (o + (m + 1)) t) m
unfolding triangle
triangle_more x p t o n m e =
    ap (triangle x p (drop o t)) e
    ∙ ap (λ (r : List Float). (p ⊗ polynomial_at x t o m) ∷ triangle x (p ⊗ x) r m) (drop-drop (m + 1) o t)

pub triangle_put : (x p v : Float) (t c whole : List Float) (o l n m : ℕ) → n ≡ suc m → l < length c → v ≡ polynomial_at x t o m
    → take l c ++ triangle x p (drop o t) n ≡ whole
    → take (l + 1) (set c l (p ⊗ v)) ++ triangle x (p ⊗ x) (drop (o + (m + 1)) t) m ≡ whole
triangle_put x p v t c whole o l n m e h q s =
    put_more c l (p ⊗ v) (triangle x (p ⊗ x) (drop (o + (m + 1)) t) m) h
    ∙ ap (λ (r : Float). take l c ++ ((p ⊗ r) ∷ triangle x (p ⊗ x) (drop (o + (m + 1)) t) m)) q
    ∙ ap (λ (r : List Float). take l c ++ r) (sym (triangle_more x p t o n m e))
    ∙ s

pub triangle_all : (x p : Float) (t c whole : List Float) (l n : ℕ) → n ≡ 0 → length c ≤ l → take l c ++ triangle x p t n ≡ whole → c ≡ whole
unfolding triangle
triangle_all x p t c whole l n e h s = put_all c (triangle x p t n) whole l h (ap (triangle x p t) e) s
