-- What a call from C answers and leaves that draws a packed sheet: the figures and the cost, or the fault. Assumes nothing.
use Rattle.std.specs.Prelude.{ℕ, Ok, Err, Result}
use Rattle.packed.specs.declared.faults.Layer.{Layer}
use Rattle.packed.specs.declared.faults.Layer.TheVariants.{Bits, Field, Outline}
use Rattle.packed.specs.declared.faults.SheetFault.{SheetFault}
use Rattle.packed.specs.Faults.{told}
use Rattle.history.specs.declared.Measurement.{Measurement}
use Rattle.drawing.specs.declared.Drawing.{Drawing}
use Rattle.outline_c.specs.declared.sheets.ToldFault.{ToldFault}

abbrev pub layer_number : Layer → ℕ
layer_number Bits = 1
layer_number Field = 2
layer_number Outline = 3

-- what is told of a fault
abbrev pub told_fault : SheetFault → ToldFault
told_fault fault =
    record {
      layer = layer_number (told fault).layer;
      number = (told fault).number;
      edit = (told fault).edit;
      bit = (told fault).bit;
    }

-- 0 where the sheet is drawn, else the number of its fault
abbrev pub sheet_code : Result Drawing SheetFault → ℕ
sheet_code (Ok d) = 0
sheet_code (Err fault) = (told fault).number

-- the figures and the cost where the sheet is drawn, else what stood there
abbrev pub drawn_over : Measurement → Result Drawing SheetFault → Measurement
drawn_over before (Ok d) = record { figures = d.figures; cost = d.cost }
drawn_over before (Err fault) = before

-- the fault where there is one, else what stood there
abbrev pub fault_over : ToldFault → Result Drawing SheetFault → ToldFault
fault_over before (Ok d) = before
fault_over before (Err fault) = told_fault fault
