-- The edits that the lines of a text make, or the first line that has no place in a sheet. Assumes nothing.
use Rattle.std.specs.Prelude.{◌≡◌, ℕ, ◌+◌, cond, List, [], ◌∷◌, ◌++◌, codes, Some, None, Ok, Err, Option, Result, MatchResult, nat_lt}
use Rattle.std.specs.Option.{option_to_list}
use Rattle.history.specs.declared.Call.{Call}
use Rattle.history.specs.declared.Call.TheVariants as calls
use Rattle.packed.specs.declared.packs.PackFault.TheVariants.{NoMemory}
use Rattle.packed.specs.declared.sheets.Edit.{Edit}
use Rattle.packed.specs.declared.sheets.Edit.TheVariants as edits
use Rattle.packed.specs.Sheets.{next}
use Rattle.script.specs.declared.NotACall.{NotACall}
use Rattle.script.specs.Lines.{Says}
use Rattle.pack.specs.declared.edits.Fault.{Fault}
use Rattle.pack.specs.declared.edits.Fault.TheVariants.{Line, Sheet}
use Rattle.pack.specs.declared.edits.Slip.{Slip}
use Rattle.pack.specs.declared.edits.Slip.TheVariants.{NotACall as NoCall, Place}

abbrev pub no_memory : Fault
no_memory = Sheet NoMemory

-- a place takes 12 bits
abbrev pub place_field : ℕ → Result ℕ Slip
place_field place = cond (nat_lt 4095 place) (Err Place) (Ok place)

-- what a call adds to the sheet; a measure adds nothing
abbrev pub edit_from : Call → Result (Option Edit) Slip
edit_from (calls.Add lat lon) = Ok (Some (edits.Add lat lon))
edit_from (calls.Move place lat lon) = next (place_field place) (λ field. Ok (Some (edits.Move field lat lon)))
edit_from (calls.Drop place) = next (place_field place) (λ field. Ok (Some (edits.Drop field)))
edit_from calls.TakeBack = Ok (Some edits.TakeBack)
edit_from (calls.Measure sign) = Ok None

-- what a line adds that says nothing, that is no call, or that is one
abbrev pub part_of : Result (Option Call) NotACall → Result (Option Edit) Slip
part_of (Ok None) = Ok None
part_of (Ok (Some call)) = edit_from call
part_of (Err _) = Err NoCall

abbrev pub slip_text : Slip → List ℕ
slip_text NoCall = codes "not a call"
slip_text Place = codes "a place above 4095"

-- After `number` lines that made `sofar`: each line is read in its order and adds its part, and the first that cannot is told by its number, counted from 1.
abbrev pub Gathers : ℕ → List Edit → List (List ℕ) → Result (List Edit) Fault → Type 0
Gathers number sofar [] answer = answer ≡ Ok sofar
Gathers number sofar (line ∷ lines) answer =
    (said : Result (Option Call) NotACall) × Says line said
    × MatchResult (part_of said) (λ part. Gathers (number + 1) (sofar ++ option_to_list part) lines answer) (λ slip. answer ≡ Err (Line (number + 1) slip))
