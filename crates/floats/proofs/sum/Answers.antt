-- Both parts are the definition's, and the law holds of the definition.
use Rattle.std.proofs.Common.{T, refl, rules}
use lib.Ieee.{binary64, fits}
use Rattle.floats.proofs.ErrorFree.{error-free}
use Rattle.floats.proofs.sum.Goals as goal

pub returns : goal.returns
returns c =
    let F : T (fits binary64 c.args.u) = search rules in
    let G : T (fits binary64 c.args.v) = search rules in
    record { high = refl; low = refl; exact = λ m n. error-free c.args.u c.args.v F G m n }
