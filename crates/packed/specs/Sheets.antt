-- A packed sheet: its header, its edits and its end, with the fault that reading them in file order meets first. Assumes nothing.
use Rattle.std.specs.Prelude.{◌≡◌, ℕ, zero, suc, ◌+◌, ◌-◌, ◌*◌, ◌%◌, cond, List, length, Some, None, Ok, Err, Option, Result, ◌==◌, from_bits, nat_lt, Float, MatchResult}
use Rattle.std.specs.Float.{binary64}
use Rattle.std.specs.Result.{result_map_both}
use Rattle.area.specs.declared.Winding.{Winding}
use Rattle.area.specs.declared.Winding.TheVariants.{Clockwise, CounterClockwise}
use Rattle.packed.specs.declared.faults.BitFault.{BitFault}
use Rattle.packed.specs.declared.faults.FieldFault.{FieldFault}
use Rattle.packed.specs.declared.faults.FieldFault.TheVariants.{Bits, Edition, Surface, Fill, Surplus}
use Rattle.packed.specs.declared.sheets.SurfaceKind.{SurfaceKind}
use Rattle.packed.specs.declared.sheets.SurfaceKind.TheVariants.{Wgs84, Plate}
use Rattle.packed.specs.declared.sheets.Header.{Header}
use Rattle.packed.specs.declared.sheets.EditKind.{EditKind}
use Rattle.packed.specs.declared.sheets.EditKind.TheVariants as kinds
use Rattle.packed.specs.declared.sheets.Edit.{Edit}
use Rattle.packed.specs.declared.sheets.Edit.TheVariants.{Add, Move, Drop, TakeBack}
use Rattle.packed.specs.Bits.{bit, field_at}

-- what is read next, unless a fault came
abbrev pub next : {A B E : Type 0} → Result A E → (A → Result B E) → Result B E
next (Ok value) more = more value
next (Err fault) more = Err fault

-- what was read, and then the place after it, is this answer
abbrev pub Reads : {A E : Type 0} → Result (A × ℕ) E → Result A E → ℕ → Type 0
Reads answer read after = MatchResult read (λ value. answer ≡ Ok (value, after)) (λ fault. answer ≡ Err fault)

-- the number in a field; a fault of the bits is a fault of the field
abbrev pub field_in : List ℕ → ℕ → ℕ → Result ℕ FieldFault
field_in bytes at width = result_map_both (λ n. n) Bits (field_at bytes at width)

abbrev pub winding_of : ℕ → Winding
winding_of b = cond (b == 0) Clockwise CounterClockwise

abbrev pub surface_of : ℕ → Result SurfaceKind FieldFault
surface_of kind = cond (kind == 0) (Ok Wgs84) (cond (kind == 1) (Ok Plate) (Err Surface))

-- edition (4 bits, 1), winding (1), signed (1), surface (2), number of edits (16)
unfoldable pub header_of : List ℕ → Result Header FieldFault
header_of bytes =
    next (field_in bytes 0 4) (λ edition.
    cond (edition == 1)
    (next (field_in bytes 4 1) (λ winding.
    next (field_in bytes 5 1) (λ signed.
    next (field_in bytes 6 2) (λ kind.
    next (surface_of kind) (λ surface.
    next (field_in bytes 8 16) (λ edits.
    Ok (record { winding = winding_of winding; signed = (signed == 1); surface = surface; edits = edits })))))))
    (Err Edition))

-- latitude and longitude, each the pattern of a float; every pattern of a NaN is the one NaN
unfoldable pub point_at : List ℕ → ℕ → Result (Float × Float) BitFault
point_at bytes at =
    next (field_at bytes at 64) (λ lat.
    next (field_at bytes (at + 64) 64) (λ lon.
    Ok (from_bits binary64 lat, from_bits binary64 lon)))

-- what follows an edit's kind, and where the edit ends
unfoldable pub add_at : List ℕ → ℕ → Result (Edit × ℕ) BitFault
add_at bytes at = next (point_at bytes at) (λ p. Ok (Add p.0 p.1, at + 128))

unfoldable pub move_at : List ℕ → ℕ → Result (Edit × ℕ) BitFault
move_at bytes at = next (field_at bytes at 12) (λ place. next (point_at bytes (at + 12)) (λ p. Ok (Move place p.0 p.1, at + 140)))

unfoldable pub drop_at : List ℕ → ℕ → Result (Edit × ℕ) BitFault
drop_at bytes at = next (field_at bytes at 12) (λ place. Ok (Drop place, at + 12))

-- the two bits of a kind
abbrev pub kind_bits : EditKind → ℕ
kind_bits kinds.Add = 0
kind_bits kinds.Move = 1
kind_bits kinds.Drop = 2
kind_bits kinds.TakeBack = 3

abbrev pub of_kind : List ℕ → ℕ → ℕ → Result (Edit × ℕ) BitFault
of_kind bytes at kind =
    cond (kind == 0) (add_at bytes at) (cond (kind == 1) (move_at bytes at) (cond (kind == 2) (drop_at bytes at) (Ok (TakeBack, at))))

-- kind (2 bits; 0 add, 1 move, 2 drop, 3 take back), then a place (12 bits) for move and drop, then a point for add and move
unfoldable pub edit_at : List ℕ → ℕ → Result (Edit × ℕ) BitFault
edit_at bytes at = next (field_at bytes at 2) (of_kind bytes (at + 2))

-- the edit that begins at bit `at`, and where the next begins; a fault of the bits is a fault of the field
unfoldable pub edit_of : List ℕ → ℕ → Result (Edit × ℕ) FieldFault
edit_of bytes at = result_map_both (λ read. read) Bits (edit_at bytes at)

-- how many bits fill the byte that ends at bit `at` or after it
abbrev pub fill_bits : ℕ → ℕ
fill_bits at = (8 - at % 8) % 8

-- the first of so many bits from `at` on that is one
unfoldable pub first_one : List ℕ → ℕ → ℕ → Option ℕ
first_one bytes at zero = None
first_one bytes at (suc count) = cond (bit bytes at == 1) (Some at) (first_one bytes (suc at) count)

-- what follows the last edit, given the first one of the fill bits, which end before bit `at`
abbrev pub after_fill : List ℕ → ℕ → Option ℕ → Result (Unit {0}) FieldFault
after_fill bytes at (Some one) = Err (Fill one)
after_fill bytes at None = cond (nat_lt at (8 * length bytes)) (Err (Surplus at)) (Ok tt)

-- the end of a sheet whose edits end at bit `at`: zero bits fill the last byte, and nothing follows
unfoldable pub end_of : List ℕ → ℕ → Result (Unit {0}) FieldFault
end_of bytes at = next (field_in bytes at (fill_bits at)) (λ _. after_fill bytes (at + fill_bits at) (first_one bytes at (fill_bits at)))
