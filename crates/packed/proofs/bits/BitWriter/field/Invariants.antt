use Rattle.std.proofs.Common.{◌≡◌, ◌+◌, vec_len}
use Rattle.packed.specs.Packing.{with_digits, digits_of}
use Rattle.packed.proofs.bits.BitWriter.field.Given as goal

-- the digits that are left are set as all of them were to be
abbrev pub invariant-loop-i : goal.invariant-loop-i
invariant-loop-i l =
    (with_digits l.self.bytes.items l.self.at (digits_of l.i l.number) ≡ with_digits l.initial.self.bytes.items l.initial.self.at (digits_of l.width l.number))
    × (l.self.at + l.i ≡ l.initial.self.at + l.width)
    × (vec_len l.self.bytes ≡ vec_len l.initial.self.bytes)
