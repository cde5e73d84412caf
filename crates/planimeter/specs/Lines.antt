-- What a line of the input says: nothing, where it is blank or begins with #; a point, where it is two decimal numbers. Assumes nothing.
use Rattle.std.specs.Prelude.{◌≡◌, ℕ, true, false, List, [], ◌∷◌, Some, None, Ok, Err, Option, Result, Float}
use Rattle.polygon.specs.declared.Point.{Point}
use Rattle.script.specs.Lines.{silent}
use Rattle.script.specs.Numbers.{ReadsNumbers}
use Rattle.text.specs.Words.{first_word}
use Rattle.planimeter.specs.declared.lines.NotAPoint.{NotAPoint}

abbrev pub no_point : NotAPoint
no_point = record {}

-- two numbers alone on a line are a point
abbrev pub point_of : Option (List Float) → Result (Option Point) NotAPoint
point_of (Some (lat ∷ lon ∷ [])) = Ok (Some (record { lat = lat; lon = lon }))
point_of _ = Err no_point

-- what is known of two numbers, and no third word
abbrev pub ReadsPoint : List ℕ → Result (Option Point) NotAPoint → Type 0
ReadsPoint line answer = (point : Option (List Float)) × ReadsNumbers 2 line point × (answer ≡ point_of point)

pub record Says (line : List ℕ) (answer : Result (Option Point) NotAPoint) : Type 0 where
  pub remark : silent (first_word line) ≡ true → answer ≡ Ok None
  pub point : silent (first_word line) ≡ false → ReadsPoint line answer
