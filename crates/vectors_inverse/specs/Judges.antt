-- Which lines of a list are what the code answers, bit by bit or within a tolerance. Assumes nothing.
use Rattle.std.specs.Prelude.{ℕ, Bool, false, ◌&&◌, List, [], ◌∷◌, pos, Some, None, Ok, Err, Option, Result, Float}
use Rattle.std.specs.Float.Ieee.{of_int}
use Rattle.std.specs.Float.{float_with_sign, binary64}
use Rattle.area.specs.declared.Winding.{Winding}
use Rattle.floats.specs.Arithmetic.{◌⊖◌, ◌≼◌, bits}
use Rattle.functions.specs.Series.{series}
use Rattle.ellipsoid.specs.Ellipsoids.{ellipsoid, whole_of, wgs84_a, wgs84_f}
use Rattle.ellipsoid.specs.declared.shape.Ellipsoid.{Ellipsoid}
use Rattle.geodesic.specs.Answers.{answered, edge_of}
use Rattle.geodesic.specs.Shapes.{shape_refusal}
use Rattle.inverse.specs.Inverse.{inverse, inverse_azi}
use Rattle.inverse.specs.declared.problem.Inverse.{Inverse}
use Rattle.inverse.specs.declared.problem.Bearings.{Bearings}
use Rattle.inverse.specs.declared.problem.Directions.{Directions}
use Rattle.surface.specs.declared.refusals.Refusal.{Refusal}
use Rattle.text.specs.Rows.{patterns_of}
use Rattle.vectors_inverse.specs.declared.rows.Ends.{Ends}
use Rattle.vectors_inverse.specs.Lists.{everything}
use Rattle.vectors_inverse.specs.Outlines.{outline_agrees}
use Rattle.vectors_inverse.specs.Rows.{row_ends, after_four, writes}

-- ---- bit by bit

-- the figures in the order of a list, the count of evaluations last
abbrev pub figures_of : Inverse Directions → List Float
figures_of r =
    r.a12 ∷ r.s12 ∷ r.directions.salp1 ∷ r.directions.calp1 ∷ r.directions.salp2 ∷ r.directions.calp2 ∷ r.m12 ∷ r.M12 ∷ r.M21 ∷ r.S12 ∷ of_int binary64 (pos r.evaluations) ∷ []

abbrev pub writes_figures : Result (Inverse Directions) Refusal → List ℕ → Bool
writes_figures (Ok r) text = writes (figures_of r) text
writes_figures (Err e) text = false

-- the text begins with the figures of the geodesic between the ends
abbrev pub ends_agree : Ellipsoid → ℕ → Ends → List ℕ → Bool
ends_agree E mask e text =
    writes_figures (answered e.lat1 e.lon1 e.lat2 e.lon2 (inverse series E mask e.lat1 e.lon1 e.lat2 e.lon2)) text

abbrev pub answers_pair : Ellipsoid → ℕ → Option Ends → List ℕ → Bool
answers_pair E mask None text = false
answers_pair E mask (Some e) text = ends_agree E mask e text

-- the line is two points and the figures of the geodesic between them
abbrev pub pair_agrees : Ellipsoid → ℕ → List ℕ → Bool
pair_agrees E mask line = answers_pair E mask (row_ends line) (after_four line)

abbrev pub outline_unless : Option Refusal → Winding → Bool → List ℕ → Bool
outline_unless (Some e) winding sign line = false
outline_unless None winding sign line =
    outline_agrees (edge_of series (ellipsoid series wgs84_a wgs84_f)) (whole_of (ellipsoid series wgs84_a wgs84_f)) winding sign line

-- the line is the perimeter, the area and the count of a polygon on WGS84 and its points
abbrev pub outline_meets : Winding → Bool → List ℕ → Bool
outline_meets winding sign line = outline_unless (shape_refusal series wgs84_a wgs84_f) winding sign line

-- ---- within a tolerance: 10^-11 degrees for a bearing, 10^-8 metres for a length

abbrev pub is_near : Float → Float → Float → Bool
is_near y x tolerance = float_with_sign false (y ⊖ x) ≼ tolerance

abbrev pub bearing_tolerance : Float
bearing_tolerance = bits 0x3da5fd7fe1796495

abbrev pub length_tolerance : Float
length_tolerance = bits 0x3e45798ee2308c3a

abbrev pub near_figures : Inverse Bearings → Option (List Float) → Bool
near_figures r (Some (azi1 ∷ azi2 ∷ s12 ∷ [])) =
    is_near azi1 r.directions.azi1 bearing_tolerance && is_near azi2 r.directions.azi2 bearing_tolerance && is_near s12 r.s12 length_tolerance
near_figures r _ = false

-- the first three words of the row are patterns, of the bearings and the length within the tolerances
abbrev pub near_solved : Inverse Bearings → List ℕ → Bool
near_solved r row = near_figures r (patterns_of 3 row)

abbrev pub near_answer : Result (Inverse Bearings) Refusal → List ℕ → Bool
near_answer (Ok r) text = near_solved r text
near_answer (Err e) text = false

-- the text begins with the bearings and the length of the geodesic between the ends
abbrev pub near_ends : Ellipsoid → Ends → List ℕ → Bool
near_ends E e text =
    near_answer (answered e.lat1 e.lon1 e.lat2 e.lon2 (inverse_azi series E everything e.lat1 e.lon1 e.lat2 e.lon2)) text

abbrev pub near_pair : Ellipsoid → Option Ends → List ℕ → Bool
near_pair E None text = false
near_pair E (Some e) text = near_ends E e text

-- the line is two points and the bearings and the length of the geodesic between them
abbrev pub rounded_agrees : Ellipsoid → List ℕ → Bool
rounded_agrees E line = near_pair E (row_ends line) (after_four line)
