-- Rows of bit patterns, a word each: the ends of a geodesic, and figures to compare with. Assumes nothing.
use Rattle.std.specs.Prelude.{ℕ, Bool, true, false, ◌&&◌, List, [], ◌∷◌, Some, None, Option, Float}
use Rattle.replay.specs.Verdicts.{same_pattern}
use Rattle.text.specs.Patterns.{pattern_of}
use Rattle.text.specs.Rows.{patterns_of, after_words}
use Rattle.text.specs.Words.{first_word, after_word}
use Rattle.vectors_inverse.specs.declared.rows.Ends.{Ends}

abbrev pub ends_of : Option (List Float) → Option Ends
ends_of (Some (lat1 ∷ lon1 ∷ lat2 ∷ lon2 ∷ [])) = Some (record { lat1 = lat1; lon1 = lon1; lat2 = lat2; lon2 = lon2 })
ends_of _ = None

-- the ends that a row begins with, where each of its first four words is a pattern, and what follows them
abbrev pub row_ends : List ℕ → Option Ends
row_ends row = ends_of (patterns_of 4 row)

abbrev pub after_four : List ℕ → List ℕ
after_four row = after_words 4 row

abbrev pub after_three : List ℕ → List ℕ
after_three text = after_words 3 text

abbrev pub is_same : Option Float → Float → Bool
is_same None x = false
is_same (Some y) x = same_pattern y x

-- the word is the bit pattern of x
abbrev pub is_pattern : List ℕ → Float → Bool
is_pattern word x = is_same (pattern_of word) x

-- the text begins with the patterns of the figures, in their order
unfoldable pub writes : List Float → List ℕ → Bool
writes [] text = true
writes (x ∷ xs) text = is_pattern (first_word text) x && writes xs (after_word text)
