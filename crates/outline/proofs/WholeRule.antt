-- The three laws, each from the crate that proves it.
use Rattle.polygon.specs.Polygons.{figures_of}
use Rattle.polygon.proofs.Laws.{area_law_of}
use Rattle.history.proofs.Law.{history_law}
use Rattle.inverse.proofs.MirrorLaw.{mirror_law}
use Rattle.outline.specs.WholeRule.{MeasuredArea, WholeRule}

measured-area : MeasuredArea
unfolding figures_of
measured-area edge whole winding sign points F h = area_law_of edge whole winding sign points F h

pub whole_rule : WholeRule
whole_rule = record { history = history_law; area = measured-area; mirror = mirror_law }
