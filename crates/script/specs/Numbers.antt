-- The numbers of the words of a line. Assumes nothing.
use Rattle.std.specs.Prelude.{◌≡◌, ℕ, zero, suc, Bool, cond, List, [], ◌∷◌, length, Some, None, Option, ◌==◌, Float}
use Rattle.text.specs.Decimals.{ReadsDecimal}
use Rattle.text.specs.Words.{first_word, after_word}

abbrev pub absent : List ℕ → Bool
absent word = length word == 0

abbrev pub joined : Option Float → Option (List Float) → Option (List Float)
joined None rest = None
joined (Some x) None = None
joined (Some x) (Some rest) = Some (x ∷ rest)

-- the numbers of this many words, if no other word stands there; what is known of each is what is known of decimal texts
unfoldable pub ReadsNumbers : ℕ → List ℕ → Option (List Float) → Type 0
ReadsNumbers zero words answer = answer ≡ cond (absent (first_word words)) (Some []) None
ReadsNumbers (suc n) words answer =
    (x : Option Float) × (rest : Option (List Float)) × ReadsDecimal (first_word words) x × ReadsNumbers n (after_word words) rest
    × (answer ≡ joined x rest)
