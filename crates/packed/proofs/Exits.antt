-- Where a `?` leaves a function, the function answers the error that its `From` made.
use Rattle.std.proofs.Common.{◌≡◌, IsErrAnd, Err, Result, ap, ◌∙◌}
use Rattle.std.proofs.lemmas.Result.{err_from_is_err_and}

pub leaves : {T E : Type 0} (q : Result T E) (e : E) → IsErrAnd q (λ y. y ≡ e) → q ≡ Err e
leaves q e h = let p = err_from_is_err_and q h in p.1 ∙ ap Err p.2
