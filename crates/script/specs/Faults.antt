-- What is told of a line that is not answered as it asks. Assumes nothing.
use Rattle.std.specs.Prelude.{ℕ, List, ◌++◌, Some, Option, codes, decimal}
use Rattle.surface.specs.Refusals.{number_of}
use Rattle.script.specs.declared.faults.LineFault.{LineFault}
use Rattle.script.specs.declared.faults.LineFault.TheVariants.{Unreadable, Refused}

-- that it cannot be read, by the text of `unreadable`, or the number of the refusal
abbrev pub fault_text : {U : Type 0} → (U → Option (List ℕ)) → LineFault U → Option (List ℕ)
fault_text unreadable (Unreadable line) = unreadable line
fault_text unreadable (Refused refusal) = Some (codes "refused " ++ decimal (number_of refusal))
