-- Each example is computed.
use Rattle.std.proofs.Common.{refl}
use Rattle.packed.specs.Bits.{bit, field, field_at}
use Rattle.packed.specs.Sheets.{header_of, edit_at, edit_of, add_at, move_at, drop_at, point_at, end_of, first_one}
use Rattle.packed.specs.Examples.{Examples}

pub examples : Examples
unfolding bit field field_at header_of edit_at edit_of add_at move_at drop_at point_at end_of first_one
examples = record {
  header_read = refl;
  other_header = refl;
  point_added = refl;
  point_ends = refl;
  dropped = refl;
  taken_back = refl;
  empty_file = refl;
  edition_two = refl;
  surface_three = refl;
  number_missing = refl;
  edit_missing = refl;
  longitude_missing = refl;
  fill_one = refl;
  surplus = refl;
  told_missing = refl;
}
