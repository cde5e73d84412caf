-- What is left of the row, added to the sums so far, gives the traverse over the row; each crossing is at most 128 in size.
use Rattle.std.proofs.Common.{◌≡◌, ◌*◌, ◌≤◌, drop, nat_abs}
use Rattle.history.specs.Calls.{traverse_of}
use Rattle.outline.proofs.Summing.{on_from}
use Rattle.outline.proofs.sums.traverse_over.Given as goal

abbrev pub invariant-loop-station : goal.invariant-loop-station
invariant-loop-station l =
    (on_from l.traverse (drop l.station-index l.row) ≡ traverse_of l.row) × (nat_abs l.traverse.crossings ≤ 128 * l.station-index)
