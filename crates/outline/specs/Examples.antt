-- Worked examples of the definitions, with that of an outline whose edit row has one slot. Assumes nothing.
use Rattle.std.specs.Prelude.{◌≡◌, length, Some}
use Rattle.surface.specs.declared.refusals.Refusal.TheVariants.{NothingToTakeBack}
use Rattle.surface.specs.Refusals.{number_of}
use Rattle.polygon.specs.Examples.{Examples, plus}
use Rattle.history.specs.declared.Sizes.{Sizes}
use Rattle.history.specs.declared.Call.{Call}
use Rattle.history.specs.declared.Call.TheVariants.{Add, TakeBack}
use Rattle.history.specs.Book.{Book, empty_book, book_refusal, book_after}

-- four stations and one edit record
abbrev pub one_record : Sizes
one_record = record { stations = 4; edits = 1 }

abbrev pub after : Book → Call → Book
after = book_after one_record one_record

-- two points added, and the second taken back
abbrev pub taken_back : Book
taken_back = after (after (after empty_book (Add (plus 1) (plus 1))) (Add (plus 2) (plus 2))) TakeBack

pub record OneRecord : Type 0 where
  pub second_take_back : book_refusal one_record one_record taken_back TakeBack ≡ Some NothingToTakeBack
  pub number : number_of NothingToTakeBack ≡ 7
  pub stands : length (after taken_back TakeBack).standing ≡ 1

pub record AllExamples : Type 0 where
  pub polygons : Examples
  pub row_of_one : OneRecord
