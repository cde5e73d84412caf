use Rattle.std.proofs.Common.{◌≡◌, ◌%◌, ◌<◌}
use Rattle.std.specs.Float.{binary64}
use Rattle.floats.specs.Roots.{units}
use Rattle.floats.specs.Rests.{Size, IsPowerMultiple}
use Rattle.floats.proofs.rest.Given as goal

-- t is y times a power of two; what is left is below t, and leaves over by y what r does
abbrev pub invariant-loop-t : goal.invariant-loop-t
invariant-loop-t l = record {
  size : Size l.t;
  multiple : IsPowerMultiple (units binary64 l.y) (units binary64 l.t);
  left : Size l.left;
  below : units binary64 l.left < units binary64 l.t;
  rest : units binary64 l.left % units binary64 l.y ≡ units binary64 l.r % units binary64 l.y;
}

abbrev pub decreases-loop-t : goal.decreases-loop-t
decreases-loop-t l = units binary64 l.t
