-- A point that is not refused is the next of those to come; at the end none is.
use Rattle.std.proofs.Common.{◌+◌, get_or, drop, sym, ap, ◌∙◌}
use lib.Ieee.{nan}
use Rattle.std.proofs.lemmas.List.{at_drop_more, at_drop_all}
use Rattle.polygon.specs.declared.Point.{Point}
use Rattle.polygon.specs.Polygons.{figures_of}
use Rattle.polygon.specs.Traverses.{begun, offered, fed_all}
use Rattle.notebook.proofs.Feeding.{offered-fed, fed_all-one, fed_all-none}
use Rattle.notebook.proofs.figures.fresh_figures.Goals as goal

pub loop-point-preserved : goal.loop-point-preserved
loop-point-preserved g c =
    let edge = g.S.Surface.edges c.new-polygon.result.surface in
    let points = c.args.points.now in
    let i = c.loop-point.point-index in
    let t = c.loop-point.polygon.traverse in
    let blank : Point = record { lat = nan; lon = nan } in
    let p = get_or points i blank in
    let told = c.in_ok-add_point.ensures in
    let fed-on = told.traverse ∙ ap (λ s. offered (g.S.Surface.edges s) t p.lat p.lon) c.loop-point.invariant.0 ∙ offered-fed edge t p told.answer in (
      told.surface ∙ c.loop-point.invariant.0,
      told.winding ∙ c.loop-point.invariant.1,
      ap (λ u. fed_all edge u (drop (i + 1) points)) fed-on
          ∙ sym (at_drop_more (fed_all edge t) points i blank c.loop-point-test.true ∙ fed_all-one edge t p (drop (i + 1) points))
          ∙ c.loop-point.invariant.2,
    )

pub returns : goal.returns
returns g c =
    let surface = c.new-polygon.result.surface in
    let points = c.args.points.now in
    let t = c.loop-point.polygon.traverse in
    let same = c.loop-point.invariant.0 ∙ c.new-polygon.ensures.surface in
    let ended = sym (at_drop_all (fed_all (g.S.Surface.edges surface) t) points c.loop-point.point-index c.loop-point-test.false ∙ fed_all-none (g.S.Surface.edges surface) t) in
    let all = ended ∙ c.loop-point.invariant.2 ∙ ap (λ u. fed_all (g.S.Surface.edges surface) u points) c.new-polygon.ensures.traverse in
    let from = all ∙ ap (λ s. fed_all (g.S.Surface.edges s) begun points) (sym c.loop-point.invariant.0) in
    c.compute.ensures.polygon points from
    ∙ ap (λ s. figures_of (g.S.Surface.edges s) (g.S.Surface.whole s) c.loop-point.polygon.winding c.args.sign points) same
    ∙ ap (λ w. figures_of (g.S.Surface.edges c.args.surface) (g.S.Surface.whole c.args.surface) w c.args.sign points) (c.loop-point.invariant.1 ∙ c.new-polygon.ensures.winding)
