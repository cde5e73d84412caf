use Rattle.std.proofs.Common.{◌≡◌, ◌-◌}
use Rattle.functions.specs.CubeRoot.{improved_times}
use Rattle.functions.proofs.cube_root.root_near.Given as goal

abbrev pub invariant-loop : goal.invariant-loop
invariant-loop l = improved_times (5 - l.counter) l.t l.y ≡ improved_times 5 l.t l.initial.y
