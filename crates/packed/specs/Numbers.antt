-- What a field is, said of the file as one number: the file's bytes are its digits in base 256. Assumes nothing.
use Rattle.std.specs.Prelude.{◌≡◌, ℕ, ◌+◌, ◌-◌, ◌*◌, ◌/◌, ◌%◌, ◌^◌, ◌<◌, ◌≤◌, List, [], ◌∷◌, length, slice_index}
use Rattle.packed.specs.Bits.{field}

-- the number that the bytes write, the first the most significant
unfoldable pub number : List ℕ → ℕ
number [] = 0
number (byte ∷ rest) = byte * 2 ^ (8 * length rest) + number rest

-- the number that the binary digits of the file from `at` on write, as many as `width`
abbrev pub digits_write : List ℕ → ℕ → ℕ → ℕ
digits_write bytes at width = number bytes / 2 ^ (8 * length bytes - (at + width)) % 2 ^ width

abbrev pub Bytes : List ℕ → Type 0
Bytes bytes = (i : ℕ) → slice_index bytes i < 256

-- every field within the file is the number that its binary digits write, whatever its place and its width
abbrev pub FieldsAreNumbers : Type 0
FieldsAreNumbers = (bytes : List ℕ) (at width : ℕ) → Bytes bytes → at + width ≤ 8 * length bytes → field bytes at width ≡ digits_write bytes at width
