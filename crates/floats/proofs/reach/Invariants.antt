use Rattle.std.proofs.Common.{◌-◌, ◌≤◌}
use Rattle.std.specs.Float.{binary64}
use Rattle.floats.specs.Roots.{units}
use Rattle.floats.specs.Rests.{Size, IsPowerMultiple}
use Rattle.floats.proofs.reach.Given as goal

-- t is y times a power of two, and at most r
abbrev pub invariant-loop-t : goal.invariant-loop-t
invariant-loop-t l = record {
  size : Size l.t;
  multiple : IsPowerMultiple (units binary64 l.y) (units binary64 l.t);
  reached : units binary64 l.t ≤ units binary64 l.r;
}

abbrev pub decreases-loop-t : goal.decreases-loop-t
decreases-loop-t l = units binary64 l.r - units binary64 l.t
