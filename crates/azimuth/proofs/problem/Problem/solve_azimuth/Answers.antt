-- Each turn is one turn of the definition.
use Rattle.std.proofs.Common.{arith, lit≤}
use Rattle.azimuth.proofs.Turns.{turns_break, turns_continue, turns_over, solved_is, solved_few}
use Rattle.azimuth.proofs.problem.Problem.solve_azimuth.Goals as goal

pub loop-i-init : goal.loop-i-init
loop-i-init g c =
    let p = c.args.self.now in
    solved_is (g.F.FunctionSet.funcs p.set.now) p.shape.now p.ends p.difference c.args.start c.new-s.result c.new-s.ensures

pub loop-i-preserved : goal.loop-i-preserved
loop-i-preserved g c =
    let p = c.args.self.now in
    turns_continue (g.F.FunctionSet.funcs p.set.now) p.shape.now p.ends p.difference c.loop-i.i c.loop-i.s c.in-Continue.t c.args.start c.loop-i-test.true c.in-Continue.ensures c.loop-i.invariant

pub returns-in-Break : goal.returns-in-Break
returns-in-Break g c =
    let p = c.args.self.now in let F = g.F.FunctionSet.funcs p.set.now in
    let value =
    turns_break F p.shape.now p.ends p.difference c.loop-i.i c.loop-i.s c.in-Break.found c.args.start c.loop-i-test.true c.in-Break.ensures c.loop-i.invariant in
    record { value = value; few = rw value (solved_few F p.shape.now p.ends p.difference c.args.start) }

pub returns : goal.returns
returns g c =
    let p = c.args.self.now in
    record {
      value = turns_over (g.F.FunctionSet.funcs p.set.now) p.shape.now p.ends p.difference c.loop-i.i c.loop-i.s c.args.start (omega arith) c.loop-i.invariant;
      few = lit≤ tt;
    }
