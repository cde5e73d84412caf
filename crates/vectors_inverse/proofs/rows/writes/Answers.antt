-- A word that is not the figure's pattern decides against the text; where no figure is left, the text is met.
use Rattle.std.proofs.Common.{◌≡◌, ℕ, ◌+◌, ◌<◌, ◌≤◌, true, false, ◌&&◌, List, length, get_or, drop, sym, ap, ◌∙◌, arith, rules}
use lib.Ieee.{Float, nan}
use Rattle.std.proofs.lemmas.List.{at_drop_more, at_drop_all}
use Rattle.text.specs.Words.{first_word, after_word}
use Rattle.vectors_inverse.specs.Rows.{is_pattern, writes}
use Rattle.vectors_inverse.proofs.rows.writes.Goals as goal

none_left : (xs : List Float) (text : List ℕ) (i : ℕ) → length xs ≤ i → writes (drop i xs) text ≡ true
unfolding writes
none_left xs text i h = at_drop_all (λ l. writes l text) xs i h

one_more : (xs : List Float) (text : List ℕ) (i : ℕ) → i < length xs
    → writes (drop i xs) text ≡ (is_pattern (first_word text) (get_or xs i nan) && writes (drop (i + 1) xs) (after_word text))
unfolding writes
one_more xs text i h = at_drop_more (λ l. writes l text) xs i nan h

pub returns-then-not-is_pattern : goal.returns-then-not-is_pattern
returns-then-not-is_pattern c =
    let figures = c.args.figures.now in
    let rest = c.loop-figure.rest.now in
    let i = c.loop-figure.figure-index in
    let other : is_pattern (first_word rest) (get_or figures i nan) ≡ false =
    ap (λ w. is_pattern w (get_or figures i nan)) (sym c.split_word.ensures.word) ∙ sym c.if-not-is_pattern.ensures in
    sym (one_more figures rest i (omega arith) ∙ ap (λ b. b && writes (drop (i + 1) figures) (after_word rest)) other) ∙ c.loop-figure.invariant.0

pub loop-figure-preserved : goal.loop-figure-preserved
loop-figure-preserved c =
    let figures = c.args.figures.now in
    let rest = c.loop-figure.rest.now in
    let i = c.loop-figure.figure-index in
    let same : is_pattern (first_word rest) (get_or figures i nan) ≡ true =
    ap (λ w. is_pattern w (get_or figures i nan)) (sym c.split_word.ensures.word) ∙ sym c.if-not-is_pattern.ensures in (
      ap (writes (drop (i + 1) figures)) c.split_word.ensures.rest
          ∙ sym (one_more figures rest i (omega arith) ∙ ap (λ b. b && writes (drop (i + 1) figures) (after_word rest)) same)
          ∙ c.loop-figure.invariant.0,
      search rules,
    )

pub returns : goal.returns
returns c = sym (none_left c.args.figures.now c.loop-figure.rest.now c.loop-figure.figure-index (omega arith)) ∙ c.loop-figure.invariant.0
