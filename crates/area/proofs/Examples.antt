-- The examples of reduced areas, by computation.
use Rattle.std.proofs.Common.{refl}
use lib.Ieee as Ieee
use lib.Ieee.{of_bits, of_fields, neg, add, sub, div, rem, round, units, size, span, climb, lt, le, eq, of_int}
use lib.Count.{count_trailing_zeros}
use Rattle.std.specs.Float as Floats
use Rattle.area.specs.Reduction.{reduced_area}
use Rattle.area.specs.Examples.{ReducedExamples}

pub reduced_examples : ReducedExamples
unfolding reduced_area Floats.float_is_finite of_int of_bits of_fields neg add sub div rem Ieee.sum round units size span climb lt le eq Ieee.odd count_trailing_zeros
reduced_examples = record {
  whole = record { finite = tt; large = tt };
  three_signed = refl;
  three_unsigned = refl;
  three_signed_odd = refl;
  three_unsigned_odd = refl;
  four_signed = refl;
  four_unsigned = refl;
  whole_earth = record { finite = tt; large = tt };
  all_of_earth = refl;
}
