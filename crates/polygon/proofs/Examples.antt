-- The worked examples, by computation.
use Rattle.std.proofs.Common.{refl}
use lib.Ieee as Ieee
use lib.Ieee.{of_bits, of_fields, neg, add, sub, mul, div, rem, round, units, size, span, climb, lt, le, eq, of_int, is_nan}
use lib.Count.{count_trailing_zeros}
use Rattle.std.specs.Float as Floats
use Rattle.area.specs.Reduction.{reduced_area}
use Rattle.area.proofs.Examples.{reduced_examples}
use Rattle.geomath.specs.Angles.{ang_normalize, ang_diff, ang_diff_error}
use Rattle.surface.specs.Plates.{plate_edge}
use Rattle.polygon.specs.Transits.{transit_of}
use Rattle.polygon.specs.Polygons.{edges_from, open_edges, first_of, last_after, added_to, counted_to, figures_of}
use Rattle.polygon.specs.Examples.{AngleExamples, PointExamples, TransitExamples, PlateExamples, Examples}

angles : AngleExamples
unfolding ang_normalize ang_diff ang_diff_error Floats.float_is_finite Floats.float_with_sign of_int of_bits of_fields neg add sub div rem Ieee.sum round units size span climb lt le eq Ieee.odd count_trailing_zeros
angles = record { normalize_west = refl; normalize_far = refl; normalize_over = refl; round_zero = refl; round_tiny = refl; diff = refl; diff_error = refl }

points : PointExamples
unfolding Floats.float_is_finite of_int of_bits of_fields neg round units size span climb lt le eq Ieee.odd count_trailing_zeros
points = record { pole = refl; beyond = refl; beyond_number = refl }

transits : TransitExamples
unfolding transit_of ang_normalize ang_diff ang_diff_error Floats.float_is_finite Floats.float_with_sign of_int of_bits of_fields neg add sub div rem Ieee.sum round units size span climb lt le eq Ieee.odd count_trailing_zeros
transits = record { date_line = refl; eastward = refl; westward = refl; half_way = refl }

plate : PlateExamples
unfolding figures_of edges_from open_edges first_of last_after added_to counted_to plate_edge transit_of reduced_area ang_normalize ang_diff ang_diff_error Floats.sqrt Ieee.root_twice Ieee.root_below Floats.float_is_finite Floats.float_with_sign of_int of_bits of_fields neg add sub mul div rem Ieee.sum round units size span climb lt le eq Ieee.odd count_trailing_zeros
plate = record { signed = refl; unsigned = refl }

pub examples : Examples
examples = record { angles = angles; points = points; transits = transits; areas = reduced_examples; plate = plate }
