-- What has no whole multiples taken off is answered at once; otherwise the sizes leave a rest over, which takes the sign of x.
use Rattle.std.proofs.Common.{ℕ, ◌<◌, true, false, sym, ap, ◌∙◌, subst}
use lib.Ieee.{Float, binary64, neg, rem}
use Rattle.floats.specs.Roots.{units}
use Rattle.floats.specs.Rests.{Size}
use Rattle.floats.proofs.Rests.{not_finite_rest, nan_rest, rest_by_infinity, rest_by_zero, finite_of, tested_zero, some_units, abs_size, abs_units, rest_of_plus, rest_of_minus}
use Rattle.floats.proofs.rem.Goals as goal
use Rattle.floats.proofs.rem.Goals.{then-not-is_finite-via-then-not-is_finite, then-not-is_finite-via-else-not-is_finite+then-is_nan, then-not-is_finite-via-else-not-is_finite+else-is_nan+then-y}

pub returns-then-not-is_finite : goal.returns-then-not-is_finite
returns-then-not-is_finite c =
    elim c.then-not-is_finite.branch [
      | then-not-is_finite-via-then-not-is_finite w ↦ not_finite_rest c.args.x c.args.y (sym c.is_finite.ensures.value ∙ w.if-not-is_finite.true)
      | then-not-is_finite-via-else-not-is_finite+then-is_nan w ↦ nan_rest c.args.x c.args.y (sym w.is_nan.ensures.value ∙ w.if-is_nan.true)
      | then-not-is_finite-via-else-not-is_finite+else-is_nan+then-y w ↦
          rest_by_zero c.args.x c.args.y c.well_formed.1.0.1 (sym c.is_finite.ensures.value ∙ w.if-not-is_finite.false) (tested_zero c.args.y true w.if-y.true)
    ]

pub returns-then-is_infinite : goal.returns-then-is_infinite
returns-then-is_infinite c = rest_by_infinity c.args.x c.args.y (sym c.is_finite.ensures.value ∙ c.if-not-is_finite.false) (sym c.is_infinite.ensures.value ∙ c.if-is_infinite.true)

pub rest-size-requires-clause-whole : goal.rest-size-requires-clause-whole
rest-size-requires-clause-whole c = subst Size (sym c.abs.ensures.value) (abs_size c.args.x c.well_formed.0.1 (sym c.is_finite.ensures.value ∙ c.if-not-is_finite.false))

pub rest-size-requires-clause-part : goal.rest-size-requires-clause-part
rest-size-requires-clause-part c =
    subst Size (sym c.abs-2.ensures.value)
    (abs_size c.args.y c.well_formed.1.0.1 (finite_of c.args.y (sym c.is_nan.ensures.value ∙ c.if-is_nan.false) (sym c.is_infinite.ensures.value ∙ c.if-is_infinite.false)))

pub rest-size-requires-clause-above : goal.rest-size-requires-clause-above
rest-size-requires-clause-above c =
    let finite = finite_of c.args.y (sym c.is_nan.ensures.value ∙ c.if-is_nan.false) (sym c.is_infinite.ensures.value ∙ c.if-is_infinite.false) in
    subst (λ (v : Float). 0 < units binary64 v) (sym c.abs-2.ensures.value)
    (subst (λ (k : ℕ). 0 < k) (sym (abs_units c.args.y c.well_formed.1.0.1 finite)) (some_units c.args.y c.well_formed.1.0.1 finite (tested_zero c.args.y false c.if-y.false)))

pub returns-then-is_sign_negative : goal.returns-then-is_sign_negative
returns-then-is_sign_negative c =
    let finite = finite_of c.args.y (sym c.is_nan.ensures.value ∙ c.if-is_nan.false) (sym c.is_infinite.ensures.value ∙ c.if-is_infinite.false) in
    ap neg (c.rest-size.ensures ∙ (λ k. rem binary64 (c.abs.ensures.value k) (c.abs-2.ensures.value k)))
    ∙ rest_of_minus c.args.x c.args.y c.well_formed.0.1 c.well_formed.1.0.1 (sym c.is_finite.ensures.value ∙ c.if-not-is_finite.false) finite
    (some_units c.args.y c.well_formed.1.0.1 finite (tested_zero c.args.y false c.if-y.false)) (sym c.is_sign_negative.ensures ∙ c.if-is_sign_negative.true)

pub returns-else-is_sign_negative : goal.returns-else-is_sign_negative
returns-else-is_sign_negative c =
    let finite = finite_of c.args.y (sym c.is_nan.ensures.value ∙ c.if-is_nan.false) (sym c.is_infinite.ensures.value ∙ c.if-is_infinite.false) in
    c.rest-size.ensures ∙ (λ k. rem binary64 (c.abs.ensures.value k) (c.abs-2.ensures.value k))
    ∙ rest_of_plus c.args.x c.args.y c.well_formed.0.1 c.well_formed.1.0.1 (sym c.is_finite.ensures.value ∙ c.if-not-is_finite.false) finite
    (some_units c.args.y c.well_formed.1.0.1 finite (tested_zero c.args.y false c.if-y.false)) (sym c.is_sign_negative.ensures ∙ c.if-is_sign_negative.false)
