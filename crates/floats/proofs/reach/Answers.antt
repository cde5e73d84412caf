-- Twice of t is at most r wherever t is doubled, so the sum is exact.
use Rattle.std.proofs.Common.{ℕ, ◌-◌, ◌+◌, ◌<◌, ◌≤◌, sym, subst, arith}
use lib.Ieee.{binary64}
use Rattle.floats.specs.Roots.{units}
use Rattle.floats.specs.Rests.{IsPowerMultiple}
use Rattle.floats.proofs.Rests.{power_pos, power_twice, twice_reached, twice_size, twice_units, within_twice}
use Rattle.floats.proofs.reach.Goals as goal

further : (a b : ℕ) → 0 < b → b + b ≤ a → a - (b + b) < a - b
further a b l k = omega arith

pub loop-t-smaller : goal.loop-t-smaller
loop-t-smaller c =
    let i = c.loop-t.invariant in
    let some = power_pos _ _ i.multiple c.requires.above in
    subst (λ (k : ℕ). units binary64 c.args.r - k < units binary64 c.args.r - units binary64 c.loop-t.t) (sym (twice_units c.args.r c.loop-t.t c.requires.whole i.size some i.reached c.loop-t-test.true))
    (further _ _ some (twice_reached c.args.r c.loop-t.t c.requires.whole i.size some i.reached c.loop-t-test.true))

pub loop-t-preserved : goal.loop-t-preserved
loop-t-preserved c =
    let i = c.loop-t.invariant in
    let some = power_pos _ _ i.multiple c.requires.above in
    let is = sym (twice_units c.args.r c.loop-t.t c.requires.whole i.size some i.reached c.loop-t-test.true) in
    record {
      size = twice_size c.args.r c.loop-t.t c.requires.whole i.size some i.reached c.loop-t-test.true;
      multiple = subst (IsPowerMultiple (units binary64 c.args.y)) is (power_twice _ _ i.multiple);
      reached = subst (λ (k : ℕ). k ≤ units binary64 c.args.r) is (twice_reached c.args.r c.loop-t.t c.requires.whole i.size some i.reached c.loop-t-test.true);
    }

pub returns-clause-near : goal.returns-clause-near
returns-clause-near c =
    let i = c.loop-t.invariant in
    within_twice c.args.r c.loop-t.t c.requires.whole i.size (power_pos _ _ i.multiple c.requires.above) i.reached c.loop-t-test.false
