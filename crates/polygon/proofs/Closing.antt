-- A traverse fed a list of points holds the sums over the edges between them, so that with the closing edge it has the polygon's figures.
use Rattle.std.proofs.Common.{◌≡◌, ℕ, suc, ◌+◌, ◌<◌, Bool, List, [], ◌∷◌, ◌++◌, map, length, ℤ, pos, ◌+ℤ◌, sym, refl, ap, ◌∙◌, add-zero, arith}
use lib.Ieee.{Float}
use Rattle.floats.specs.Arithmetic.{◌⊕◌}
use Rattle.area.specs.declared.Winding.{Winding}
use Rattle.polygon.specs.declared.Point.{Point}
use Rattle.polygon.specs.declared.Traverse.{Traverse}
use Rattle.polygon.specs.Polygons.{Ends, Solve, edges_from, open_edges, first_of, last_after, added_to, counted_to, lengths, strips, transits, figures_of}
use Rattle.polygon.specs.Traverses.{begun, started, extended, fed, fed_all, closed}
use Rattle.polygon.proofs.Feeding.{fed_later}

-- ---- one number more at the end of a sum

added_to_last : (f : Ends → Float) (x : Float) (es : List Ends) (e : Ends) → added_to x (map f (es ++ (e ∷ []))) ≡ added_to x (map f es) ⊕ f e
unfolding added_to
added_to_last f x [] e = refl
added_to_last f x (d ∷ es) e = added_to_last f (x ⊕ f d) es e

counted_to_last : (f : Ends → ℤ) (n : ℤ) (es : List Ends) (e : Ends) → counted_to n (map f (es ++ (e ∷ []))) ≡ counted_to n (map f es) +ℤ f e
unfolding counted_to
counted_to_last f n [] e = refl
counted_to_last f n (d ∷ es) e = counted_to_last f (n +ℤ f d) es e

-- ---- the points after the first

-- what t becomes when it is extended by each of the points
abbrev after : Solve → Traverse → List Point → Traverse
after edge t ps =
    record {
      num = t.num + length ps;
      areasum = added_to t.areasum (strips edge (edges_from t.latest ps));
      perimetersum = added_to t.perimetersum (lengths edge (edges_from t.latest ps));
      crossings = counted_to t.crossings (transits (edges_from t.latest ps));
      initial = t.initial;
      latest = last_after t.latest ps;
    }

counted : (n k : ℕ) → n + 1 + k ≡ n + suc k
counted n k = omega arith

above : (n : ℕ) → 0 < n + 1
above n = omega arith

fed_all_later : (edge : Solve) (t : Traverse) (ps : List Point) → 0 < t.num → fed_all edge t ps ≡ after edge t ps
unfolding fed_all added_to counted_to edges_from last_after
fed_all_later edge t [] h = let again : ℕ → Traverse = λ n. record { num = n; areasum = t.areasum; perimetersum = t.perimetersum; crossings = t.crossings; initial = t.initial; latest = t.latest } in ap again (sym (add-zero t.num))
fed_all_later edge t (p ∷ ps) h =
    let again : ℕ → Traverse =
    λ n. record {
      num = n;
      areasum = (after edge (extended edge t p) ps).areasum;
      perimetersum = (after edge (extended edge t p) ps).perimetersum;
      crossings = (after edge (extended edge t p) ps).crossings;
      initial = t.initial;
      latest = last_after p ps;
    } in
    ap (λ u. fed_all edge u ps) (fed_later edge t p h)
    ∙ fed_all_later edge (extended edge t p) ps (above t.num)
    ∙ ap again (counted t.num (length ps))

-- ---- all the points

-- what a traverse holds of these points
abbrev held : Solve → List Point → Traverse
held edge ps =
    record {
      num = length ps;
      areasum = added_to begun.areasum (strips edge (open_edges ps));
      perimetersum = added_to begun.perimetersum (lengths edge (open_edges ps));
      crossings = counted_to (pos 0) (transits (open_edges ps));
      initial = first_of ps;
      latest = last_after begun.latest ps;
    }

one_more : (n : ℕ) → 1 + n ≡ suc n
one_more n = omega arith

pub fed_all_holds : (edge : Solve) (ps : List Point) → fed_all edge begun ps ≡ held edge ps
unfolding fed fed_all added_to counted_to open_edges first_of last_after
fed_all_holds edge [] = refl
fed_all_holds edge (p ∷ ps) =
    let again : ℕ → Traverse =
    λ n. record {
      num = n;
      areasum = (held edge (p ∷ ps)).areasum;
      perimetersum = (held edge (p ∷ ps)).perimetersum;
      crossings = (held edge (p ∷ ps)).crossings;
      initial = p;
      latest = last_after p ps;
    } in
    fed_all_later edge (started begun p) ps (omega arith) ∙ ap again (one_more (length ps))

pub closed-held : (edge : Solve) (whole : Float) (winding : Winding) (sign : Bool) (ps : List Point) → closed edge whole winding sign (held edge ps) ≡ figures_of edge whole winding sign ps
unfolding figures_of
closed-held edge whole winding sign ps = simp (added_to_last, counted_to_last)

pub closed-fed_all : (edge : Solve) (whole : Float) (winding : Winding) (sign : Bool) (ps : List Point) → closed edge whole winding sign (fed_all edge begun ps) ≡ figures_of edge whole winding sign ps
closed-fed_all edge whole winding sign ps = ap (closed edge whole winding sign) (fed_all_holds edge ps) ∙ closed-held edge whole winding sign ps
