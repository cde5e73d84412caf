-- A case is a line of four bit patterns: two arguments and two answers. Which cases agree with a function, and how many lines of a list a judge meets. Assumes nothing.
use Rattle.std.specs.Prelude.{ℕ, ◌+◌, Bool, true, false, ◌&&◌, List, [], ◌∷◌, Some, None, Option, ◌==◌, to_bits, Float}
use Rattle.std.specs.Float.{binary64}
use Rattle.std.specs.Option.{option_or}
use Rattle.text.specs.Rows.{patterns_of}
use Rattle.text.specs.Words.{lines_of}
use Rattle.replay.specs.declared.Case.{Case}
use Rattle.replay.specs.declared.Tally.{Tally}

-- what a function of two floats answers
abbrev pub Answering : Type 0
Answering = Float → Float → Float × Float

abbrev pub case_from : Option (List Float) → Option Case
case_from (Some (x ∷ y ∷ first ∷ second ∷ [])) = Some (record { x = x; y = y; first = first; second = second })
case_from _ = None

-- the first four words of the line, read as patterns
abbrev pub case_of : List ℕ → Option Case
case_of line = case_from (patterns_of 4 line)

-- the same bits; NaN is one pattern
abbrev pub same_pattern : Float → Float → Bool
same_pattern x y = to_bits binary64 x == to_bits binary64 y

abbrev pub agrees_at : Answering → Option Case → Bool
agrees_at f None = false
agrees_at f (Some c) = same_pattern (f c.x c.y).0 c.first && same_pattern (f c.x c.y).1 c.second

-- the line is a case, and the function answers what it says
abbrev pub agrees_on : Answering → List ℕ → Bool
agrees_on f line = agrees_at f (case_of line)

-- one case more; `first` is the number of the first line that differs, from 1, and none while none does
abbrev pub counted : Tally → Bool → Tally
counted t true = record { cases = t.cases + 1; differing = t.differing; first = t.first }
counted t false = record { cases = t.cases + 1; differing = t.differing + 1; first = option_or t.first (Some (t.cases + 1)) }

abbrev pub judged_after : (List ℕ → Bool) → Tally → List (List ℕ) → Tally
judged_after meets t [] = t
judged_after meets t (line ∷ lines) = judged_after meets (counted t (meets line)) lines

-- how many lines the text has, how many a judge does not meet, and the first of these
abbrev pub judged_of : (List ℕ → Bool) → List ℕ → Tally
judged_of meets text = judged_after meets (record { cases = 0; differing = 0; first = None }) (lines_of text)

-- how many lines the text has, how many the function does not answer, and the first of these
abbrev pub tally_of : Answering → List ℕ → Tally
tally_of f text = judged_of (agrees_on f) text
