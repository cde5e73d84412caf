-- The law holds of the definition.
use Rattle.std.proofs.Common.{rules}
use Rattle.geomath.proofs.Difference.{difference}
use Rattle.geomath.proofs.ang_diff.Goals as goal

pub returns-clause-exact : goal.returns-clause-exact
returns-clause-exact c = difference c.args.x c.args.y (search rules) (search rules)
