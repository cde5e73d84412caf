-- Sheets worked by hand, byte by byte. Assumes nothing.
use Rattle.std.specs.Prelude.{◌≡◌, ℕ, true, false, List, [], ◌∷◌, ◌++◌, replicate, Ok, Err, from_bits}
use Rattle.std.specs.Float.{binary64}
use Rattle.area.specs.declared.Winding.TheVariants.{Clockwise, CounterClockwise}
use Rattle.packed.specs.declared.faults.BitFault.TheVariants.{Ends}
use Rattle.packed.specs.declared.faults.FieldFault.TheVariants.{Bits, Edition, Surface, Fill, Surplus}
use Rattle.packed.specs.declared.faults.SheetFault.TheVariants.{Field}
use Rattle.packed.specs.declared.faults.Layer.TheVariants as layers
use Rattle.packed.specs.declared.sheets.SurfaceKind.TheVariants.{Wgs84, Plate}
use Rattle.packed.specs.declared.sheets.Edit.TheVariants.{Add, Drop, TakeBack}
use Rattle.packed.specs.Faults.{told}
use Rattle.packed.specs.Sheets.{header_of, edit_of, end_of}

abbrev header : List ℕ
header = 0x1d ∷ 0x00 ∷ 0x01 ∷ []

-- the point (0, 0) added to a counter-clockwise signed sheet on the plate
abbrev one_point : List ℕ
one_point = header ++ replicate 17 0

pub record Examples : Type 0 where
  pub header_read : header_of header ≡ Ok (record { winding = CounterClockwise; signed = true; surface = Plate; edits = 1 })
  pub other_header : header_of (0x10 ∷ 0x01 ∷ 0x02 ∷ []) ≡ Ok (record { winding = Clockwise; signed = false; surface = Wgs84; edits = 258 })
  pub point_added : edit_of one_point 24 ≡ Ok (Add (from_bits binary64 0) (from_bits binary64 0), 154)
  pub point_ends : end_of one_point 154 ≡ Ok tt
  pub dropped : edit_of (header ++ (0x80 ∷ 0x14 ∷ [])) 24 ≡ Ok (Drop 5, 38)
  pub taken_back : edit_of (header ++ (0xc0 ∷ [])) 24 ≡ Ok (TakeBack, 26)
  -- faults: an empty file, an edition of 2, a surface of 3 before the missing number of edits, an edit that is missing or cut off in its longitude
  pub empty_file : header_of [] ≡ Err (Bits (Ends 0))
  pub edition_two : header_of (0x2d ∷ []) ≡ Err Edition
  pub surface_three : header_of (0x1f ∷ []) ≡ Err Surface
  pub number_missing : header_of (0x1d ∷ 0x00 ∷ []) ≡ Err (Bits (Ends 8))
  pub edit_missing : edit_of header 24 ≡ Err (Bits (Ends 24))
  pub longitude_missing : edit_of (header ++ replicate 16 0) 24 ≡ Err (Bits (Ends 90))
  -- a one in the fourth of the six fill bits, and a byte after them
  pub fill_one : end_of (header ++ (0xc4 ∷ [])) 26 ≡ Err (Fill 29)
  pub surplus : end_of (header ++ (0xc0 ∷ 0x00 ∷ [])) 26 ≡ Err (Surplus 32)
  -- what is told of a fault in the first edit
  pub told_missing : told (Field (record { edit = 1; fault = Bits (Ends 24) })) ≡ record { layer = layers.Bits; number = 9; edit = 1; bit = 24 }
