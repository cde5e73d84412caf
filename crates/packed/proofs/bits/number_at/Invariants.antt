use Rattle.std.proofs.Common.{◌≡◌, ◌-◌, ◌^◌, ◌<◌, ◌≤◌}
use Rattle.packed.specs.Bits.{field}
use Rattle.packed.proofs.bits.number_at.Given as goal

abbrev pub invariant-loop-k : goal.invariant-loop-k
invariant-loop-k l = (l.number ≡ field l.bytes l.at (l.k - l.at)) × (l.number < 2 ^ (l.k - l.at)) × (l.at ≤ l.k)
