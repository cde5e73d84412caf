-- The area law of a polygon is that of the reduction, at the sum over its edges.
use Rattle.std.proofs.Common.{◌≡◌, Bool, true, ◌&&◌, T, List, [], ◌∷◌, sym, subst}
use lib.Ieee.{Float, binary64, fits, of_bits}
use lib.Ieee.Fits.{add-fits, and_l, and_r}
use lib.Ieee.Bits.{of_bits-fits, is_true}
use Rattle.std.specs.Float.{float_is_finite}
use Rattle.floats.specs.Arithmetic.{◌⊕◌, ◌≽◌}
use Rattle.surface.specs.Wholes.{whole_fits, least_whole}
use Rattle.area.specs.declared.Winding.{Winding}
use Rattle.area.specs.Reduction.{is_odd}
use Rattle.area.specs.AreaLaw.{WholeArea}
use Rattle.area.proofs.Law.{area_law}
use Rattle.polygon.specs.declared.Point.{Point}
use Rattle.polygon.specs.Polygons.{Solve, added_to, strips, edges_of, area_sum_of, crossings_of, area_of}
use Rattle.polygon.specs.Laws.{PolygonLaw}

added_fits : (x : Float) (ys : List Float) → T (fits binary64 x) → T (fits binary64 (added_to x ys))
unfolding added_to
added_fits x [] F = F
added_fits x (y ∷ ys) F = added_fits (x ⊕ y) ys (add-fits binary64 x y)

whole-area : (whole : Float) → whole_fits whole ≡ true → WholeArea whole
whole-area whole h =
    let both : T (float_is_finite whole && (whole ≽ least_whole)) = subst T (sym h) tt in
    record { finite = and_l (float_is_finite whole) (whole ≽ least_whole) both; large = and_r (float_is_finite whole) (whole ≽ least_whole) both }

pub area_law_of : (edge : Solve) (whole : Float) (winding : Winding) (sign : Bool) (points : List Point) → T (fits binary64 whole) → whole_fits whole ≡ true
    → PolygonLaw edge whole winding sign points (area_of edge whole winding sign points)
area_law_of edge whole winding sign points F h =
    let law = area_law whole winding sign (is_odd (crossings_of points)) (area_sum_of edge points) F (added_fits (of_bits binary64 0) (strips edge (edges_of points)) (of_bits-fits binary64 0)) in
    record {
      is_finite = λ e. is_true (float_is_finite (area_of edge whole winding sign points)) (law.finite (whole-area whole h) (subst T (sym e) tt));
      reduced = λ e. law.reduced (whole-area whole h) (subst T (sym e) tt);
      none = law.none;
    }
