-- The lines of a text, and the words of a line: its longest runs of bytes that are not ASCII white space. Assumes nothing.
use Rattle.std.specs.Prelude.{ℕ, Bool, cond, List, [], ◌∷◌, drop, ◌==◌}
use Rattle.std.specs.Char.{is_ascii_whitespace}
use Rattle.std.specs.List.{prefix_len, position_or_len, before_first, after_first}
use Rattle.text.specs.declared.walk.Lines.{Lines}

-- the text from its first word on
abbrev pub trimmed : List ℕ → List ℕ
trimmed text = drop (prefix_len is_ascii_whitespace text) text

-- the first word, empty where there is none, and what follows it
unfoldable pub first_word : List ℕ → List ℕ
first_word text = before_first is_ascii_whitespace (trimmed text)

unfoldable pub after_word : List ℕ → List ℕ
after_word text = drop (position_or_len is_ascii_whitespace (trimmed text)) (trimmed text)

abbrev pub newline : ℕ → Bool
newline c = c == 10

-- the bytes before the first newline, and those after it
unfoldable pub first_line : List ℕ → List ℕ
first_line text = before_first newline text

unfoldable pub after_line : List ℕ → List ℕ
after_line text = after_first newline text

-- c before the first of the lines
abbrev pub grown : ℕ → List (List ℕ) → List (List ℕ)
grown c [] = (c ∷ []) ∷ []
grown c (l ∷ ls) = (c ∷ l) ∷ ls

-- the lines, each ended by a newline but perhaps the last
unfoldable pub lines_of : List ℕ → List (List ℕ)
lines_of [] = []
lines_of (c ∷ cs) = cond (newline c) ([] ∷ lines_of cs) (grown c (lines_of cs))

-- the lines that a walk over them has left
abbrev pub lines_left : Lines → List (List ℕ)
lines_left walk = lines_of walk.rest.now
