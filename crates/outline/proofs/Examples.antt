-- The worked examples, by computation.
use Rattle.std.proofs.Common.{refl}
use lib.Ieee as Ieee
use lib.Ieee.{of_bits, of_fields, neg, round, units, size, span, climb, lt, le, eq, of_int}
use lib.Count.{count_trailing_zeros}
use Rattle.std.specs.Float as Floats
use Rattle.polygon.proofs.Examples.{examples}
use Rattle.outline.specs.Examples.{OneRecord, AllExamples}

row_of_one : OneRecord
unfolding Floats.float_is_finite of_int of_bits of_fields neg round units size span climb lt le eq Ieee.odd count_trailing_zeros
row_of_one = record { second_take_back = refl; number = refl; stands = refl }

pub all_examples : AllExamples
all_examples = record { polygons = examples; row_of_one = row_of_one }
