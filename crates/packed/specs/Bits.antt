-- The bits of a file and its fields: bytes in order, the most significant bit of each first, counted from 0. Assumes nothing.
use Rattle.std.specs.Prelude.{◌≡◌, ℕ, zero, suc, ◌+◌, ◌-◌, ◌*◌, ◌/◌, ◌%◌, ◌^◌, cond, List, length, Ok, Err, Result, nat_le, nat_lt, slice_index, OnOk}
use Rattle.packed.specs.declared.bits.BitReader.{BitReader}
use Rattle.packed.specs.declared.faults.BitFault.{BitFault}
use Rattle.packed.specs.declared.faults.BitFault.TheVariants.{Ends, TooLong}

-- bit k of the file; 0 past its end
unfoldable pub bit : List ℕ → ℕ → ℕ
bit bytes k = slice_index bytes (k / 8) / 2 ^ (7 - k % 8) % 2

-- the field of this width that begins at bit `at`
unfoldable pub field : List ℕ → ℕ → ℕ → ℕ
field bytes at zero = 0
field bytes at (suc width) = 2 * field bytes at width + bit bytes (at + width)

-- What reading a field answers: no file is longer than 65,536 bytes, and a file that ends before the field does is told by the field's first bit.
unfoldable pub field_at : List ℕ → ℕ → ℕ → Result ℕ BitFault
field_at bytes at width =
    cond (nat_lt 65536 (length bytes)) (Err TooLong)
    (cond (nat_le (at + width) (8 * length bytes)) (Ok (field bytes at width)) (Err (Ends at)))

-- a reader has read so many bits, unless a fault came; it reads the same file
abbrev pub Moves : {A : Type 0} → BitReader → ℕ → Result A BitFault → BitReader → Type 0
Moves old width read new = OnOk read (new.at ≡ old.at + width) × (new.bytes ≡ old.bytes)
