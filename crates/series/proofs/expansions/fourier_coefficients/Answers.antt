-- Each turn puts one more coefficient behind those that stand.
use Rattle.std.proofs.Common.{◌+◌, ◌-◌, ◌++◌, List, take, drop, set, refl, ap, ◌∙◌, arith, length-set}
use lib.Ieee.{Float}
use Rattle.floats.specs.Arithmetic.{◌⊗◌, ◌⊘◌}
use Rattle.series.specs.Expansions.{degree_of, coefficients}
use Rattle.series.proofs.Fourier.{written, written_all, scaled_row_is, left_over}
use Rattle.series.proofs.expansions.fourier_coefficients.Goals as goal

pub loop-l-init : goal.loop-l-init
loop-l-init c = record { made = refl; places = refl }

pub loop-l-preserved : goal.loop-l-preserved
loop-l-preserved c =
    let v = c.loop-l in let t = v.rows.now in let m = degree_of v.l in
    let row = scaled_row_is c.args.eps v.d c.sq-eps2.result c.polyval_at.result c.divisor.result t m c.sq-eps2.ensures c.polyval_at.ensures c.divisor.ensures in
    record {
      made = ap (λ (r : List Float). take (v.l + 1) (set v.c v.l (v.d ⊗ c.polyval_at.result ⊘ c.divisor.result)) ++ coefficients c.args.eps (v.d ⊗ c.args.eps) r (v.l + 1) (7 - (v.l + 1))) c.rest_from-rows.ensures
          ∙ ap (λ (x : Float). take (v.l + 1) (set v.c v.l x) ++ coefficients c.args.eps (v.d ⊗ c.args.eps) (drop (m + 2) t) (v.l + 1) (7 - (v.l + 1))) row
          ∙ written c.args.eps v.d t v.c v.l (7 - v.l) (7 - (v.l + 1)) (left_over v.l (omega arith)) (omega arith)
          ∙ v.invariant.made;
      places = length-set v.c v.l (v.d ⊗ c.polyval_at.result ⊘ c.divisor.result) ∙ v.invariant.places;
    }

pub returns : goal.returns
returns c =
    let v = c.loop-l in
    written_all c.args.eps v.d v.rows.now v.c _ v.l (7 - v.l) (omega arith) (omega arith) v.invariant.made
