-- Long division: what is left is below t and leaves over by y what r does, until t is y.
use Rattle.std.proofs.Common.{◌∙◌, sym, ltb-true, ltb-false, mod-eq_of_lt}
use Rattle.floats.proofs.Rests.{power_pos, less_test, rest_is, turn_size, turn_multiple, turn_near, turn_smaller, left_below, left_rest, ends_below}
use Rattle.floats.proofs.rest.Goals as goal

pub returns-then-r-y : goal.returns-then-r-y
returns-then-r-y c =
    rest_is c.args.r c.args.r c.args.y c.requires.whole c.requires.whole c.requires.part c.requires.above
    (sym (mod-eq_of_lt (ltb-true _ _ (less_test c.args.r c.args.y c.requires.whole c.requires.part _ c.if-r-y.true))))

pub reach-t-requires-clause-reached : goal.reach-t-requires-clause-reached
reach-t-requires-clause-reached c = ltb-false _ _ (less_test c.args.r c.args.y c.requires.whole c.requires.part _ c.if-r-y.false)

pub loop-t-init : goal.loop-t-init
loop-t-init c =
    let t = c.reach-t.ensures in
    record {
      size = t.size;
      multiple = t.multiple;
      left = c.lessened-left.ensures.size;
      below = left_below _ _ _ (power_pos _ _ t.multiple c.requires.above) c.lessened-left.ensures.units;
      rest = left_rest _ _ _ _ t.multiple c.lessened-left.ensures.units;
    }

pub lessened-left-requires-in-loop-t-clause-part : goal.lessened-left-requires-in-loop-t-clause-part
lessened-left-requires-in-loop-t-clause-part c =
    let i = c.loop-t.invariant in
    turn_size c.args.y c.loop-t.t c.loop-t.left i.size i.multiple c.requires.above c.loop-t-test.true c.requires.part i.below

pub lessened-left-requires-in-loop-t-clause-near : goal.lessened-left-requires-in-loop-t-clause-near
lessened-left-requires-in-loop-t-clause-near c =
    let i = c.loop-t.invariant in
    turn_near c.args.y c.loop-t.t c.loop-t.left i.size i.multiple c.requires.above c.loop-t-test.true c.requires.part i.below

pub loop-t-smaller : goal.loop-t-smaller
loop-t-smaller c =
    let i = c.loop-t.invariant in
    turn_smaller c.args.y c.loop-t.t c.loop-t.left i.size i.multiple c.requires.above c.loop-t-test.true c.requires.part i.below

pub loop-t-preserved : goal.loop-t-preserved
loop-t-preserved c =
    let i = c.loop-t.invariant in
    let multiple = turn_multiple c.args.y c.loop-t.t c.loop-t.left i.size i.multiple c.requires.above c.loop-t-test.true c.requires.part i.below in
    let left = c.lessened-left-in-loop-t.ensures in
    record {
      size = turn_size c.args.y c.loop-t.t c.loop-t.left i.size i.multiple c.requires.above c.loop-t-test.true c.requires.part i.below;
      multiple = multiple;
      left = left.size;
      below = left_below _ _ _ (power_pos _ _ multiple c.requires.above) left.units;
      rest = left_rest _ _ _ _ multiple left.units ∙ i.rest;
    }

pub returns : goal.returns
returns c =
    let i = c.loop-t.invariant in
    rest_is c.loop-t.left c.args.r c.args.y i.left c.requires.whole c.requires.part c.requires.above
    (ends_below _ _ _ _ i.below (ltb-false _ _ (less_test c.args.y c.loop-t.t c.requires.part i.size _ c.loop-t-test.false)) i.rest)
