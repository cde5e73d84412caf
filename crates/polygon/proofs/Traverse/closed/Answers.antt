-- The figures are those of the traverse with the closing edge, and so those of the points that it was fed.
use Rattle.std.proofs.Common.{◌≡◌, ◌≤◌, T, pos, ◌+ℤ◌, nat_abs, sym, ap, ◌∙◌, subst, arith, rules, w64, SFits}
use Rattle.std.specs.Int.RustNames.{int_rem}
use Rattle.std.proofs.lemmas.Int.{to_z-of_z, rem_below}
use lib.Ieee.{Float, binary64, fits}
use Rattle.polygon.specs.declared.Figures.{Figures}
use Rattle.polygon.specs.Polygons.{figures_of}
use Rattle.polygon.specs.Laws.{PolygonLaw}
use Rattle.polygon.specs.Traverses.{closed}
use Rattle.polygon.proofs.Closing.{closed-fed_all}
use Rattle.polygon.proofs.Laws.{area_law_of}
use Rattle.polygon.proofs.Feeding.{few_read, few_more, same_parity}
use Rattle.polygon.proofs.Traverse.closed.Goals as goal

pub returns : goal.returns
unfolding figures_of
returns g c =
    let t = c.args.self.now in
    let edges = g.S.Surface.edges c.args.surface.now in
    let whole = g.S.Surface.whole c.args.surface.now in
    let k = c.transit.result in
    let half = int_rem t.crossings (pos 2) in
    let held : SFits w64 t.crossings = search rules in
    let low : nat_abs half ≤ 1 = omega (arith, rem_below t.crossings (pos 2)) in
    let read = to_z-of_z w64 t.crossings held in
    let first = few_read half 1 low (omega arith) in
    let next = few_read k 1 c.transit.ensures.size (omega arith) in
    let sum = few_read (half +ℤ k) 2 (few_more half k 1 low c.transit.ensures.size) (omega arith) in
    let odd = same_parity t.crossings k in
    let crossed = c.transit.ensures.value in
    let reduced = c.reduce_area.ensures.value in
    let area-is : c.reduce_area.result ≡ (closed edges whole c.args.winding c.args.sign t).area = cc in
    let fit : T (fits binary64 c.area.result) = search rules in
    record {
      value = cc;
      polygon =
          λ points e.
          let same = ap (closed edges whole c.args.winding c.args.sign) e in
          let figures = closed-fed_all edges whole c.args.winding c.args.sign points in
          cc;
      area_law =
          λ points e.
          subst (PolygonLaw edges whole c.args.winding c.args.sign points)
          (sym (area-is ∙ ap (λ (f : Figures). f.area) (ap (closed edges whole c.args.winding c.args.sign) e ∙ closed-fed_all edges whole c.args.winding c.args.sign points)))
          (area_law_of edges whole c.args.winding c.args.sign points (subst (λ (v : Float). T (fits binary64 v)) c.area.ensures fit) (g.met.S.Surface.fits c.args.surface.now));
      evaluations = cc;
    }
