-- The table holds the whole numbers that the definition names.
use Rattle.std.proofs.Common.{ap, ◌∙◌}
use lib.Ieee.{Float, of_bits, of_int}
use Rattle.floats.specs.Arithmetic.{◌⊕◌, ◌⊖◌, ◌⊘◌}
use Rattle.geomath.specs.Angles.{one}
use Rattle.series.specs.Tables.{row_at}
use Rattle.series.specs.Expansions.{A2m1f, table_a2}
use Rattle.series.proofs.expansions._A2m1f.Goals as goal

pub returns : goal.returns
unfolding A2m1f table_a2 of_bits of_int
returns c =
    let e = c.args.eps in
    ap (λ (t : Float). (t ⊖ e) ⊘ (one ⊕ e)) (c.row-t.ensures ∙ ap (λ (x : Float). row_at x table_a2 0 3) c.sq.ensures)
