-- A text is its first line and the lines after it.
use Rattle.std.proofs.Common.{◌≡◌, ℕ, suc, ◌+◌, ◌<◌, Bool, true, false, Option, Some, None, MatchOption, unwrap_or, Bor, List, [], ◌∷◌, length, take, drop, sym, refl, ap, ◌∙◌, arith, length-drop, drop_of_length-le, ◌≤◌}
use Rattle.std.specs.List.{position_or_len, before_first, after_first}
use Rattle.std.proofs.Math.Seq.{take-length}
use Rattle.text.specs.Words.{newline, first_line, after_line, lines_of, grown}

-- an empty text has no line
pub lines_none : (text : List ℕ) → length text ≡ 0 → lines_of text ≡ []
unfolding lines_of
lines_none [] e = refl
lines_none (c ∷ cs) e = absurd (omega arith)

-- a cut one place further on
one_on : (c : ℕ) (cs : List ℕ) (p n m : ℕ) → n ≡ suc p → m ≡ suc (p + 1) → take n (c ∷ cs) ∷ lines_of (drop m (c ∷ cs)) ≡ (c ∷ take p cs) ∷ lines_of (drop (p + 1) cs)
one_on c cs p n m e f = ap (λ k. take k (c ∷ cs) ∷ lines_of (drop m (c ∷ cs))) e ∙ ap (λ k. (c ∷ take p cs) ∷ lines_of (drop k (c ∷ cs))) f

lines_step : (c : ℕ) (cs : List ℕ) (b : Bool) → newline c ≡ b → lines_of (c ∷ cs) ≡ before_first newline (c ∷ cs) ∷ lines_of (after_first newline (c ∷ cs))
unfolding lines_of
lines_step c cs true e = rw e refl
lines_step c [] false e = rw e refl
lines_step c (d ∷ ds) false e =
    let p : ℕ = position_or_len newline (d ∷ ds) in
    rw e (ap (grown c) (lines_step d ds (newline d) refl) ∙ sym (one_on c (d ∷ ds) p (1 + p) (1 + p + 1) (omega arith) (omega arith)))

pub lines_first : (text : List ℕ) → 0 < length text → lines_of text ≡ first_line text ∷ lines_of (after_line text)
unfolding first_line after_line
lines_first [] h = absurd (omega arith)
lines_first (c ∷ cs) h = lines_step c cs (newline c) refl

pub after_line_shorter : (text : List ℕ) → 0 < length text → length (after_line text) < length text
unfolding after_line
after_line_shorter text h = omega (arith, length-drop (position_or_len newline text + 1) text)

-- what `split_once` answers, and the whole text where there is no newline
pub cut_either : (text : List ℕ) (o : Option (Bor (List ℕ) × Bor (List ℕ))) (whole cut : Bor (List ℕ) × Bor (List ℕ)) → (whole.0.now ≡ text) × (whole.1.now ≡ [])
    → cut ≡ unwrap_or o whole
    → MatchOption o (position_or_len newline text ≡ length text) (λ x. (position_or_len newline text < length text) × (x.0.now ≡ before_first newline text) × (x.1.now ≡ after_first newline text))
    → (cut.0.now ≡ first_line text) × (cut.1.now ≡ after_line text)
unfolding first_line after_line
cut_either text None whole cut is e h =
    let past : length text ≤ position_or_len newline text + 1 = omega arith in
    (ap (λ x. x.0.now) e ∙ is.0 ∙ sym (ap (λ n. take n text) h ∙ take-length text), ap (λ x. x.1.now) e ∙ is.1 ∙ sym (drop_of_length-le text past))
cut_either text (Some x) whole cut is e h = rw e (h.1, h.2)
