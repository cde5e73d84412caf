-- What a line says of which numbers are wanted: nothing, where it is blank or begins with #; a row of them, where they stand there alone. Assumes nothing.
use Rattle.std.specs.Prelude.{◌≡◌, ℕ, true, false, List, Some, None, Ok, Err, Option, Result, Float}
use Rattle.text.specs.Words.{first_word}
use Rattle.script.specs.Lines.{silent}
use Rattle.script.specs.Numbers.{ReadsNumbers}

-- other words are told by the fault
abbrev pub row_of : {F : Type 0} → F → Option (List Float) → Result (Option (List Float)) F
row_of fault None = Err fault
row_of fault (Some xs) = Ok (Some xs)

pub record SaysRow {F : Type 0} (n : ℕ) (fault : F) (line : List ℕ) (answer : Result (Option (List Float)) F) : Type 0 where
  pub remark : silent (first_word line) ≡ true → answer ≡ Ok None
  pub row : silent (first_word line) ≡ false → (xs : Option (List Float)) × ReadsNumbers n line xs × (answer ≡ row_of fault xs)
