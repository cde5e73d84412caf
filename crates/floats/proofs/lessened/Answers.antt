use Rattle.std.proofs.Common.{◌∙◌, sym, ap, subst}
use lib.Ieee.{binary64}
use Rattle.floats.specs.Roots.{units}
use Rattle.floats.specs.Rests.{Size}
use Rattle.floats.proofs.Rests.{kept_units, lessened_size, lessened_units}
use Rattle.floats.proofs.lessened.Goals as goal

pub returns-then-r-t-clause-units : goal.returns-then-r-t-clause-units
returns-then-r-t-clause-units c = kept_units c.args.r c.args.t c.requires.whole c.requires.part c.requires.near c.if-r-t.true

pub returns-else-r-t-clause-size : goal.returns-else-r-t-clause-size
returns-else-r-t-clause-size c = subst Size (sym c.abs.ensures.value) (lessened_size c.args.r c.args.t c.requires.whole c.requires.part c.requires.near c.if-r-t.false)

pub returns-else-r-t-clause-units : goal.returns-else-r-t-clause-units
returns-else-r-t-clause-units c = ap (units binary64) c.abs.ensures.value ∙ lessened_units c.args.r c.args.t c.requires.whole c.requires.part c.requires.near c.if-r-t.false
