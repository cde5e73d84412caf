-- The turns that are left make of the present guess what all turns make of the start.
use Rattle.std.proofs.Common.{◌≡◌, ◌-◌}
use Rattle.azimuth.specs.Newton.{turns, solved_azimuth}
use Rattle.azimuth.proofs.problem.Problem.solve_azimuth.Given as goal

abbrev pub invariant-loop-i : goal.invariant-loop-i
invariant-loop-i g l =
    turns (g.F.FunctionSet.funcs l.self.set.now) l.self.shape.now l.self.ends l.self.difference (83 - l.i) l.i l.s
    ≡ solved_azimuth (g.F.FunctionSet.funcs l.self.set.now) l.self.shape.now l.self.ends l.self.difference l.fn.start
