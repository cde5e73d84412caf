use Rattle.std.proofs.Common.{◌≡◌, drop}
use Rattle.floats.specs.Polynomials.{horner, polynomial}
use Rattle.floats.proofs.polyval.Given as goal

abbrev pub invariant-loop-c : goal.invariant-loop-c
invariant-loop-c l = horner l.x l.y (drop l.c-index l.rest) ≡ polynomial l.x l.p
