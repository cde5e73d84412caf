-- What a line of the input says: nothing, where it is blank or begins with #; two points, where it is four decimal numbers. Assumes nothing.
use Rattle.std.specs.Prelude.{◌≡◌, ℕ, true, false, List, [], ◌∷◌, Some, None, Ok, Err, Option, Result, Float}
use Rattle.script.specs.Lines.{silent}
use Rattle.script.specs.Numbers.{ReadsNumbers}
use Rattle.text.specs.Words.{first_word}
use Rattle.geodsolve.specs.declared.lines.Ends.{Ends}
use Rattle.geodsolve.specs.declared.lines.NotTwoPoints.{NotTwoPoints}

abbrev pub no_points : NotTwoPoints
no_points = record {}

-- four numbers alone on a line are two points
abbrev pub ends_of : Option (List Float) → Result (Option Ends) NotTwoPoints
ends_of (Some (lat1 ∷ lon1 ∷ lat2 ∷ lon2 ∷ [])) = Ok (Some (record { lat1 = lat1; lon1 = lon1; lat2 = lat2; lon2 = lon2 }))
ends_of _ = Err no_points

-- what is known of four numbers, and no fifth word
abbrev pub ReadsPair : List ℕ → Result (Option Ends) NotTwoPoints → Type 0
ReadsPair line answer = (pair : Option (List Float)) × ReadsNumbers 4 line pair × (answer ≡ ends_of pair)

pub record Says (line : List ℕ) (answer : Result (Option Ends) NotTwoPoints) : Type 0 where
  pub remark : silent (first_word line) ≡ true → answer ≡ Ok None
  pub pair : silent (first_word line) ≡ false → ReadsPair line answer
