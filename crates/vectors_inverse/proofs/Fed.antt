-- The points of a text are offered one by one: the step that a loop over the words makes, and where it ends.
use Rattle.std.proofs.Common.{◌≡◌, ℕ, zero, suc, ◌+◌, ◌-◌, ◌<◌, ◌≤◌, false, cond, eqb, List, length, sym, refl, ap, ◌∙◌, arith}
use Rattle.polygon.specs.declared.Traverse.{Traverse}
use Rattle.polygon.specs.Polygons.{Solve}
use Rattle.text.specs.Words.{first_word, after_word}
use Rattle.vectors_inverse.specs.Outlines.{fed_words, offered_words}

-- where no word is left
pub fed_done : (edge : Solve) (n : ℕ) (text : List ℕ) (t : Traverse) → length (first_word text) ≡ 0 → fed_words edge n text t ≡ t
unfolding fed_words
fed_done edge zero text t e = refl
fed_done edge (suc n) text t e =
    ap (λ k. cond (eqb k 0) t (fed_words edge n (after_word (after_word text)) (offered_words edge t (first_word text) (first_word (after_word text))))) e

fed-zero : (edge : Solve) (text : List ℕ) (t : Traverse) → fed_words edge 0 text t ≡ t
unfolding fed_words
fed-zero edge text t = refl

nothing_left : (n k : ℕ) → n ≤ k → n - k ≡ 0
nothing_left n k h = omega arith

pub fed-none : (edge : Solve) (n k : ℕ) (text : List ℕ) (t : Traverse) → n ≤ k → fed_words edge (n - k) text t ≡ t
fed-none edge n k text t h = ap (λ m. fed_words edge m text t) (nothing_left n k h) ∙ fed-zero edge text t

-- the traverse with the first point of the text
abbrev pub offered_first : Solve → List ℕ → Traverse → Traverse
offered_first edge text t = offered_words edge t (first_word text) (first_word (after_word text))

fed_suc : (edge : Solve) (m : ℕ) (text : List ℕ) (t : Traverse) → eqb (length (first_word text)) 0 ≡ false
    → fed_words edge (suc m) text t ≡ fed_words edge m (after_word (after_word text)) (offered_first edge text t)
unfolding fed_words
fed_suc edge m text t e = ap (λ b. cond b t (fed_words edge m (after_word (after_word text)) (offered_first edge text t))) e

one_more : (n k : ℕ) → k < n → n - k ≡ suc (n - (k + 1))
one_more n k h = omega arith

pub fed_more : (edge : Solve) (n k : ℕ) (text : List ℕ) (t : Traverse) → k < n → eqb (length (first_word text)) 0 ≡ false
    → fed_words edge (n - (k + 1)) (after_word (after_word text)) (offered_first edge text t) ≡ fed_words edge (n - k) text t
fed_more edge n k text t h e = sym (ap (λ m. fed_words edge m text t) (one_more n k h) ∙ fed_suc edge (n - (k + 1)) text t e)
