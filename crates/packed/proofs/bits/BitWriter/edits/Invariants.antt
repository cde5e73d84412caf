use Rattle.std.proofs.Common.{◌≡◌, ◌+◌, length, vec_len, drop}
use Rattle.packed.specs.Packing.{with_digits, edits_digits}
use Rattle.packed.proofs.bits.BitWriter.edits.Given as goal

-- the edits that are left are set as all of them were to be
abbrev pub invariant-loop-edit : goal.invariant-loop-edit
invariant-loop-edit l =
    (with_digits l.self.bytes.items l.self.at (edits_digits (drop l.edit-index l.edits)) ≡ with_digits l.initial.self.bytes.items l.initial.self.at (edits_digits l.edits))
    × (l.self.at + length (edits_digits (drop l.edit-index l.edits)) ≡ l.initial.self.at + length (edits_digits l.edits))
    × (vec_len l.self.bytes ≡ vec_len l.initial.self.bytes)
