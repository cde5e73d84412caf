-- How a sheet is written: the binary digits of its fields in file order, set into bytes of zeros; and why it may not be written. Assumes nothing.
use Rattle.std.specs.Prelude.{◌≡◌, ℕ, zero, suc, ◌+◌, ◌-◌, ◌*◌, ◌/◌, ◌%◌, ◌^◌, ◌≤◌, Bool, true, cond, List, [], ◌∷◌, codes, ◌++◌, length, vec_len, replicate, Some, None, Ok, Err, Option, Result, ◌==◌, bit_or, nat_le, slice_index, slice_set, to_bits, Float}
use Rattle.std.specs.Float.{binary64}
use Rattle.std.specs.Float.Ieee.{fits}
use Rattle.area.specs.declared.Winding.{Winding}
use Rattle.area.specs.declared.Winding.TheVariants.{Clockwise, CounterClockwise}
use Rattle.packed.specs.declared.bits.BitWriter.{BitWriter}
use Rattle.packed.specs.declared.packs.PackFault.{PackFault}
use Rattle.packed.specs.declared.packs.PackFault.TheVariants.{Count, Place, TooLong, NoMemory}
use Rattle.packed.specs.declared.sheets.SurfaceKind.{SurfaceKind}
use Rattle.packed.specs.declared.sheets.SurfaceKind.TheVariants.{Wgs84, Plate}
use Rattle.packed.specs.declared.sheets.Header.{Header}
use Rattle.packed.specs.declared.sheets.Edit.{Edit}
use Rattle.packed.specs.declared.sheets.Edit.TheVariants.{Add, Move, Drop, TakeBack}
use Rattle.packed.specs.Sheets.{next, end_of, header_of, edit_of}

-- the last `width` binary digits of n, the most significant first
unfoldable pub digits_of : ℕ → ℕ → List ℕ
digits_of zero n = []
digits_of (suc width) n = (n / 2 ^ width % 2) ∷ digits_of width n

abbrev pub point_digits : Float → Float → List ℕ
point_digits lat lon = digits_of 64 (to_bits binary64 lat) ++ digits_of 64 (to_bits binary64 lon)

-- kind, then the place of a move or drop, then the point of an add or move
unfoldable pub edit_digits : Edit → List ℕ
edit_digits (Add lat lon) = digits_of 2 0 ++ point_digits lat lon
edit_digits (Move place lat lon) = digits_of 2 1 ++ (digits_of 12 place ++ point_digits lat lon)
edit_digits (Drop place) = digits_of 2 2 ++ digits_of 12 place
edit_digits TakeBack = digits_of 2 3

-- how many bits an edit takes
abbrev pub width_of : Edit → ℕ
width_of (Add lat lon) = 130
width_of (Move place lat lon) = 142
width_of (Drop place) = 14
width_of TakeBack = 2

unfoldable pub edits_digits : List Edit → List ℕ
edits_digits [] = []
edits_digits (edit ∷ edits) = edit_digits edit ++ edits_digits edits

abbrev pub winding_bit : Winding → ℕ
winding_bit Clockwise = 0
winding_bit CounterClockwise = 1

abbrev pub signed_bit : Bool → ℕ
signed_bit signed = cond signed 1 0

abbrev pub surface_bits : SurfaceKind → ℕ
surface_bits Wgs84 = 0
surface_bits Plate = 1

-- edition, winding, signed, surface and the number of edits
unfoldable pub header_digits : Header → List ℕ
header_digits h =
    digits_of 4 1 ++ (digits_of 1 (winding_bit h.winding) ++ (digits_of 1 (signed_bit h.signed) ++ (digits_of 2 (surface_bits h.surface) ++ digits_of 16 h.edits)))

-- the bytes with a digit at bit `at`, and with digits from bit `at` on
unfoldable pub with_bit : List ℕ → ℕ → ℕ → List ℕ
with_bit bytes at digit = slice_set bytes (at / 8) (bit_or (slice_index bytes (at / 8)) (digit * 2 ^ (7 - at % 8)))

unfoldable pub with_digits : List ℕ → ℕ → List ℕ → List ℕ
with_digits bytes at [] = bytes
with_digits bytes at (digit ∷ digits) = with_digits (with_bit bytes at digit) (suc at) digits

-- a writer has this many bits left
abbrev pub HasRoom : BitWriter → ℕ → Type 0
HasRoom w bits = w.at + bits ≤ 8 * vec_len w.bytes

-- the digits are set from the old writer's place on, and the new writer's place is the bit after the last of them
pub record Writes (old : BitWriter) (digits : List ℕ) (new : BitWriter) : Type 0 where
  pub bytes : new.bytes.items ≡ with_digits old.bytes.items old.at digits
  pub next : new.at ≡ old.at + length digits
  pub room : vec_len new.bytes ≡ vec_len old.bytes

-- a place takes 12 bits
abbrev pub place_fits : Edit → Bool
place_fits (Add lat lon) = true
place_fits (Move place lat lon) = nat_le place 4095
place_fits (Drop place) = nat_le place 4095
place_fits TakeBack = true

-- the place of a moved or dropped point
abbrev pub place_of : Edit → Option ℕ
place_of (Add lat lon) = None
place_of (Move place lat lon) = Some place
place_of (Drop place) = Some place
place_of TakeBack = None

-- a float of the language is one of binary64
abbrev pub IsFloat : Float → Type 0
IsFloat x = fits binary64 x ≡ true

abbrev pub FloatsFit : Edit → Type 0
FloatsFit (Add lat lon) = IsFloat lat × IsFloat lon
FloatsFit (Move place lat lon) = IsFloat lat × IsFloat lon
FloatsFit (Drop place) = Unit {0}
FloatsFit TakeBack = Unit {0}

-- each number of an edit fits its field
abbrev pub Fitting : Edit → Type 0
Fitting edit = (place_fits edit ≡ true) × FloatsFit edit

-- the bit at which edits that begin at bit `at` end: refused where a place does not fit its field, or the file would be too long
unfoldable pub packed_end : ℕ → List Edit → Result ℕ PackFault
packed_end at [] = Ok at
packed_end at (edit ∷ edits) =
    cond (place_fits edit)
    (cond (nat_le (at + width_of edit) 524288) (packed_end (at + width_of edit) edits) (Err TooLong))
    (Err Place)

-- how many bytes hold so many bits
abbrev pub bytes_for : ℕ → ℕ
bytes_for bits = (bits + 7) / 8

-- the sheet, whose edits end at bit `end`
abbrev pub sheet_bytes : Header → List Edit → ℕ → List ℕ
sheet_bytes header edits end = with_digits (replicate (bytes_for end) 0) 0 (header_digits header ++ edits_digits edits)

-- what packing answers, where there is memory for it
unfoldable pub packed_sheet : Header → List Edit → Result (List ℕ) PackFault
packed_sheet header edits =
    cond (length edits == header.edits) (next (packed_end 24 edits) (λ end. Ok (sheet_bytes header edits end))) (Err Count)

-- from bit `at` on, these edits are read, each where the one before it ends, and then the end of the sheet
abbrev pub ReadsEdits : List ℕ → ℕ → List Edit → Type 0
ReadsEdits bytes at [] = end_of bytes at ≡ Ok tt
ReadsEdits bytes at (edit ∷ edits) = (edit_of bytes at ≡ Ok (edit, at + width_of edit)) × ReadsEdits bytes (at + width_of edit) edits

abbrev pub pack_fault_text : PackFault → List ℕ
pack_fault_text Count = codes "another number of edits"
pack_fault_text Place = codes "a place above 4095"
pack_fault_text TooLong = codes "a sheet of more than 65536 bytes"
pack_fault_text NoMemory = codes "no memory"

-- reading the bytes gives this header and these edits
abbrev pub ReadsBack : List ℕ → Header → List Edit → Type 0
ReadsBack bytes header edits = (header_of bytes ≡ Ok header) × ReadsEdits bytes 24 edits
