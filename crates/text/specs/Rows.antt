-- Rows of bit patterns, a word each. Assumes nothing.
use Rattle.std.specs.Prelude.{ℕ, zero, suc, List, [], ◌∷◌, Some, None, Option, Float}
use Rattle.text.specs.Patterns.{pattern_of}
use Rattle.text.specs.Words.{first_word, after_word}

-- x before the floats that follow it, where each of them is one
abbrev pub joined : Option Float → Option (List Float) → Option (List Float)
joined None rest = None
joined (Some x) None = None
joined (Some x) (Some rest) = Some (x ∷ rest)

-- the floats of the first n words, where each of these is a pattern
abbrev pub patterns_of : ℕ → List ℕ → Option (List Float)
patterns_of zero text = Some []
patterns_of (suc n) text = joined (pattern_of (first_word text)) (patterns_of n (after_word text))

-- what follows the first n words
abbrev pub after_words : ℕ → List ℕ → List ℕ
after_words zero text = text
after_words (suc n) text = after_words n (after_word text)
