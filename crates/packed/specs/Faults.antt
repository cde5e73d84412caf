-- What is told of a fault: its layer, its number, the edit (0 is the header) and the bit. Assumes nothing.
use Rattle.std.specs.Prelude.{ℕ, List, ◌++◌, codes, decimal, Result}
use Rattle.std.specs.Result.{result_map_both}
use Rattle.surface.specs.Refusals.{number_of}
use Rattle.packed.specs.declared.faults.BitFault.TheVariants.{Ends, TooLong}
use Rattle.packed.specs.declared.faults.FieldFault.{FieldFault}
use Rattle.packed.specs.declared.faults.FieldFault.TheVariants as fields
use Rattle.packed.specs.declared.faults.EditFault.{EditFault}
use Rattle.packed.specs.declared.faults.SheetFault.{SheetFault}
use Rattle.packed.specs.declared.faults.SheetFault.TheVariants as sheets
use Rattle.packed.specs.declared.faults.Layer.{Layer}
use Rattle.packed.specs.declared.faults.Layer.TheVariants as layers
use Rattle.packed.specs.declared.faults.Told.{Told}

abbrev pub layer_name : Layer → List ℕ
layer_name layers.Bits = codes "bits"
layer_name layers.Field = codes "field"
layer_name layers.Outline = codes "outline"

-- LAYER NUMBER edit N bit N
abbrev pub told_text : Told → List ℕ
told_text t = layer_name t.layer ++ (codes " " ++ (decimal t.number ++ (codes " edit " ++ (decimal t.edit ++ (codes " bit " ++ decimal t.bit)))))

abbrev pub layer_of : FieldFault → Layer
layer_of (fields.Bits fault) = layers.Bits
layer_of fields.Edition = layers.Field
layer_of fields.Surface = layers.Field
layer_of (fields.Fill bit) = layers.Field
layer_of (fields.Surplus bit) = layers.Field

-- 9 where the file ends before a field does, 11 where it is too long, 10 for what a field holds
abbrev pub fault_number : FieldFault → ℕ
fault_number (fields.Bits (Ends bit)) = 9
fault_number (fields.Bits TooLong) = 11
fault_number fields.Edition = 10
fault_number fields.Surface = 10
fault_number (fields.Fill bit) = 10
fault_number (fields.Surplus bit) = 10

-- the field's first bit, the first wrong fill bit or surplus bit, and the first bit that no file may have
abbrev pub fault_bit : FieldFault → ℕ
fault_bit (fields.Bits (Ends bit)) = bit
fault_bit (fields.Bits TooLong) = 524288
fault_bit fields.Edition = 0
fault_bit fields.Surface = 6
fault_bit (fields.Fill bit) = bit
fault_bit (fields.Surplus bit) = bit

-- an outline's refusal is told by its own number
abbrev pub told : SheetFault → Told
told (sheets.Field f) = record { layer = layer_of f.fault; number = fault_number f.fault; edit = f.edit; bit = fault_bit f.fault }
told (sheets.Outline edit bit refusal) = record { layer = layers.Outline; number = number_of refusal; edit = edit; bit = bit }

abbrev pub in_edit : {T : Type 0} → ℕ → Result T FieldFault → Result T EditFault
in_edit edit read = result_map_both (λ value. value) (λ fault. record { edit = edit; fault = fault }) read
