use Rattle.std.proofs.Common.{◌≡◌, ◌+◌, ◌≤◌, length, take, drop}
use Rattle.std.specs.List.{AllByRecursion as All}
use Rattle.packed.specs.Packing.{packed_end, edits_digits, Fitting}
use Rattle.packed.proofs.packs.edits_end.Given as goal

abbrev pub invariant-loop-edit : goal.invariant-loop-edit
invariant-loop-edit l =
    (packed_end l.at (drop l.edit-index l.edits) ≡ packed_end 24 l.edits)
    × (l.at ≤ 524288)
    × (l.at + length (edits_digits (drop l.edit-index l.edits)) ≡ 24 + length (edits_digits l.edits))
    × All Fitting (take l.edit-index l.edits)
