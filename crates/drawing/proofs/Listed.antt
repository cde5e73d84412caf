-- A sheet that reads back as a list of edits takes the course of that list: each edit is read where the one before it ends.
use Rattle.std.proofs.Common.{◌≡◌, ℕ, suc, ◌+◌, List, [], ◌∷◌, length, Result, sym, ap, ◌∙◌}
use Rattle.polygon.specs.Polygons.{Solve}
use Rattle.history.specs.declared.Sizes.{Sizes}
use Rattle.history.specs.Book.{book_refusal}
use Rattle.packed.specs.declared.faults.FieldFault.{FieldFault}
use Rattle.packed.specs.declared.sheets.Edit.{Edit}
use Rattle.packed.specs.Faults.{in_edit}
use Rattle.packed.specs.Packing.{width_of, ReadsEdits}
use Rattle.drawing.specs.Strokes.{call_of}
use Rattle.drawing.specs.Sketches.{Sketch, blank_sheet, sketched_by, Course, ended_by, once_read, unless_off, course_from, course_of_list, ListLaw}

module _ (edge : Solve) (lengths : Sizes) (bytes : List ℕ) where
  -- what follows an edit that was read
  abbrev after : ℕ → ℕ → ℕ → Sketch → Edit × ℕ → Course
  after left drawn at s read =
      unless_off (suc drawn) at s (call_of read.0) (book_refusal lengths lengths s.book (call_of read.0)) (course_from edge lengths bytes left (suc drawn) read.1 (sketched_by edge lengths.edits s (call_of read.0)))

  listed : (list : List Edit) (drawn at : ℕ) (s : Sketch) → ReadsEdits bytes at list → course_from edge lengths bytes (length list) drawn at s ≡ course_of_list edge lengths list drawn at s
  unfolding course_from course_of_list
  listed [] drawn at s reads = ap (λ (r : Result (Unit {0}) FieldFault). ended_by s (in_edit drawn r)) reads
  listed (edit ∷ list) drawn at s reads =
      ap (λ (r : Result (Edit × ℕ) FieldFault). once_read s (in_edit (suc drawn) r) (after (length list) drawn at s)) reads.0
      ∙ ap (unless_off (suc drawn) at s (call_of edit) (book_refusal lengths lengths s.book (call_of edit))) (listed list (suc drawn) (at + width_of edit) (sketched_by edge lengths.edits s (call_of edit)) reads.1)

pub list_law : ListLaw
list_law edge lengths bytes header list reads count =
    ap (λ n. course_from edge lengths bytes n 0 24 blank_sheet) (sym count) ∙ listed edge lengths bytes list 0 24 blank_sheet reads.1
