-- The packed sheet of a text: its header from the options, its edits from the lines. Assumes nothing.
use Rattle.std.specs.Prelude.{◌≡◌, ℕ, List, [], length, Some, None, Ok, Err, Option, Result}
use Rattle.std.specs.Result.{result_map_both}
use Rattle.packed.specs.declared.sheets.Edit.{Edit}
use Rattle.packed.specs.declared.sheets.Header.{Header}
use Rattle.packed.specs.Packing.{packed_sheet, ReadsBack}
use Rattle.packed.specs.Sheets.{next}
use Rattle.text.specs.Words.{lines_of}
use Rattle.pack.specs.declared.edits.Fault.{Fault}
use Rattle.pack.specs.declared.edits.Fault.TheVariants.{TooMany, Sheet}
use Rattle.pack.specs.declared.options.Options.{Options}
use Rattle.pack.specs.Edits.{Gathers}
use Rattle.pack.specs.Options.{header_from}

-- the sheet under a header; without one there were too many edits
abbrev pub packed_under : Option Header → List Edit → Result (List ℕ) Fault
packed_under None edits = Err TooMany
packed_under (Some header) edits = result_map_both (λ bytes. bytes) Sheet (packed_sheet header edits)

-- the sheet of edits
abbrev pub sheet_from : Options → List Edit → Result (List ℕ) Fault
sheet_from options edits = packed_under (header_from options (length edits)) edits

-- reading the bytes gives the header of the options and these edits
abbrev pub Unpacks : Options → List Edit → List ℕ → Type 0
Unpacks options edits bytes = (header : Header) × (header_from options (length edits) ≡ Some header) × ReadsBack bytes header edits

-- what a text makes: the sheet of the edits that its lines make, or the first fault
abbrev pub Packs : Options → List ℕ → Result (List ℕ) Fault → Type 0
Packs options text answer =
    (edits : Result (List Edit) Fault) × Gathers 0 [] (lines_of text) edits × (answer ≡ next edits (sheet_from options))

-- reading the bytes gives the header of the options and the edits that the lines make
abbrev pub Carries : Options → List ℕ → List ℕ → Type 0
Carries options text bytes = (edits : List Edit) × Gathers 0 [] (lines_of text) (Ok edits) × Unpacks options edits bytes
