-- Polygons of a list: a line is the perimeter, the area and the count of points, and then the points. Assumes nothing.
use Rattle.std.specs.Prelude.{ℕ, zero, suc, Bool, cond, List, [], ◌∷◌, length, pos, Some, None, Option, ◌==◌, Float}
use Rattle.std.specs.Float.{binary64}
use Rattle.std.specs.Float.Ieee.{of_int}
use Rattle.area.specs.declared.Winding.{Winding}
use Rattle.polygon.specs.declared.Figures.{Figures}
use Rattle.polygon.specs.declared.Traverse.{Traverse}
use Rattle.polygon.specs.Polygons.{Solve}
use Rattle.polygon.specs.Traverses.{begun, offered, closed}
use Rattle.text.specs.Patterns.{pattern_of}
use Rattle.text.specs.Words.{first_word, after_word}
use Rattle.vectors_inverse.specs.Rows.{after_three, writes}

abbrev pub offered_point : Solve → Traverse → Option Float → Option Float → Traverse
offered_point edge t None lon = t
offered_point edge t (Some lat) None = t
offered_point edge t (Some lat) (Some lon) = offered edge t lat lon

-- the traverse once the point of two words is offered; words that are no patterns are no point
abbrev pub offered_words : Solve → Traverse → List ℕ → List ℕ → Traverse
offered_words edge t lat lon = offered_point edge t (pattern_of lat) (pattern_of lon)

-- the traverse once the points that the text writes were offered in their order, `most` of them at most
unfoldable pub fed_words : Solve → ℕ → List ℕ → Traverse → Traverse
fed_words edge zero text t = t
fed_words edge (suc most) text t =
    cond (length (first_word text) == 0) t
    (fed_words edge most (after_word (after_word text)) (offered_words edge t (first_word text) (first_word (after_word text))))

-- a text has no more points than bytes
abbrev pub polygon_of : Solve → List ℕ → Traverse
polygon_of edge text = fed_words edge (length text) text begun

abbrev pub row_of : Figures → List Float
row_of f = f.perimeter ∷ f.area ∷ of_int binary64 (pos f.count) ∷ []

abbrev pub outline_agrees : Solve → Float → Winding → Bool → List ℕ → Bool
outline_agrees edge whole winding sign line = writes (row_of (closed edge whole winding sign (polygon_of edge (after_three line)))) line
