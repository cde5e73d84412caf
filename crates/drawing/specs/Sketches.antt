-- What a sheet comes to, by the book: its edits in file order up to the first thing wrong, the points that stand after them, and the figures of the polygon with these points. Assumes nothing.
use Rattle.std.specs.Prelude.{◌≡◌, ℕ, zero, suc, ◌+◌, List, [], ◌∷◌, length, Some, None, Ok, Err, Option, Result, Float}
use Rattle.surface.specs.declared.refusals.Refusal.{Refusal}
use Rattle.polygon.specs.Polygons.{Solve, closing_edge, figures_of}
use Rattle.stations.specs.declared.Station.{Station}
use Rattle.stations.specs.declared.Cost.{Cost}
use Rattle.stations.specs.declared.records.EditRecord.{EditRecord}
use Rattle.stations.specs.Stations.{free, together}
use Rattle.history.specs.declared.Sizes.{Sizes}
use Rattle.history.specs.declared.Call.{Call}
use Rattle.history.specs.Calls.{open_refusal, opened, lengths_of}
use Rattle.history.specs.Book.{Book, empty_book, book_refusal, changed}
use Rattle.history.specs.Histories.{computed}
use Rattle.history.specs.Replays.{ran}
use Rattle.history.specs.Expenses.{cost_of, records_after, solved_by}
use Rattle.packed.specs.declared.faults.EditFault.{EditFault}
use Rattle.packed.specs.declared.faults.SheetFault.{SheetFault}
use Rattle.packed.specs.declared.faults.SheetFault.TheVariants.{Field, Outline}
use Rattle.packed.specs.declared.sheets.Header.{Header}
use Rattle.packed.specs.declared.sheets.Edit.{Edit}
use Rattle.packed.specs.Faults.{in_edit}
use Rattle.packed.specs.Sheets.{header_of, edit_of, end_of}
use Rattle.packed.specs.Packing.{width_of, ReadsBack}
use Rattle.drawing.specs.declared.Drawing.{Drawing}
use Rattle.drawing.specs.Surfaces.{edges_on, whole_on, surface_refusal}
use Rattle.drawing.specs.Strokes.{call_of}

-- ---- what is drawn

-- the book of the outline, what each entry of its past undoes, and the cost of all calls
pub record Sketch : Type 0 where
  pub book : Book
  pub records : List EditRecord
  pub cost : Cost

abbrev pub blank_sheet : Sketch
blank_sheet = record { book = empty_book; records = []; cost = free }

-- one call more, which the book does not refuse; it keeps `most` edit records
abbrev pub sketched_by : Solve → ℕ → Sketch → Call → Sketch
sketched_by edge most s call =
    let b = changed most s.book call in
    record {
      book = b;
      records = records_after most s.book.standing s.records call;
      cost = together s.cost (cost_of edge (solved_by call s.records b.standing));
    }

-- ---- the edits in file order

-- the edits before the first thing wrong, what is drawn by them, and what is wrong, if anything is
pub record Course : Type 0 where
  pub calls : List Call
  pub sketch : Sketch
  pub fault : Option SheetFault

abbrev pub stopped : Sketch → SheetFault → Course
stopped s fault = record { calls = []; sketch = s; fault = Some fault }

abbrev pub begun_by : Call → Course → Course
begun_by call c = record { calls = call ∷ c.calls; sketch = c.sketch; fault = c.fault }

-- the end of the sheet
abbrev pub ended_by : Sketch → Result (Unit {0}) EditFault → Course
ended_by s (Ok u) = record { calls = []; sketch = s; fault = None }
ended_by s (Err fault) = stopped s (Field fault)

-- what follows once something is read
abbrev pub once_read : {A : Type 0} → Sketch → Result A EditFault → (A → Course) → Course
once_read s (Ok value) more = more value
once_read s (Err fault) more = stopped s (Field fault)

-- an edit that is read is drawn, unless the book refuses it
abbrev pub unless_off : ℕ → ℕ → Sketch → Call → Option Refusal → Course → Course
unless_off number at s call (Some refusal) later = stopped s (Outline number at refusal)
unless_off number at s call None later = begun_by call later

-- `left` edits from bit `at` on, after `drawn` others, over rows of these lengths
unfoldable pub course_from : Solve → Sizes → List ℕ → ℕ → ℕ → ℕ → Sketch → Course
course_from edge lengths bytes zero drawn at s = ended_by s (in_edit drawn (end_of bytes at))
course_from edge lengths bytes (suc left) drawn at s =
    once_read s (in_edit (suc drawn) (edit_of bytes at)) (λ (read : Edit × ℕ).
    unless_off (suc drawn) at s (call_of read.0) (book_refusal lengths lengths s.book (call_of read.0))
    (course_from edge lengths bytes left (suc drawn) read.1 (sketched_by edge lengths.edits s (call_of read.0))))

-- all edits of a sheet, which follow its header
abbrev pub course_of : Solve → Sizes → List ℕ → Header → Course
course_of edge lengths bytes header = course_from edge lengths bytes header.edits 0 24 blank_sheet

-- ---- the sheet

-- the figures of the polygon with the standing points, and the cost of the edits and of the closing edge
abbrev pub drawing_of : Solve → Float → Header → Sketch → Drawing
drawing_of edge whole header s =
    record {
      figures = figures_of edge whole header.winding header.signed s.book.standing;
      cost = together s.cost (cost_of edge (closing_edge s.book.standing ∷ []));
    }

abbrev pub unless_fault : Option SheetFault → Drawing → Result Drawing SheetFault
unless_fault (Some fault) d = Err fault
unless_fault None d = Ok d

-- what drawing a sheet answers, and what it leaves in the rows
pub record Sheet : Type 0 where
  pub answer : Result Drawing SheetFault
  pub stations : List Station
  pub edits : List EditRecord

abbrev pub sheet_left : Result Drawing SheetFault → List Station → List EditRecord → Sheet
sheet_left answer stations edits = record { answer = answer; stations = stations; edits = edits }

module _ (stations : List Station) (edits : List EditRecord) where
  -- nothing is drawn
  abbrev pub untouched : SheetFault → Sheet
  untouched fault = record { answer = Err fault; stations = stations; edits = edits }

  -- a refusal before the first edit stands in the header, at bit 0
  abbrev pub unless_refused : Option Refusal → Sheet → Sheet
  unless_refused (Some refusal) sheet = untouched (Outline 0 0 refusal)
  unless_refused None sheet = sheet

  -- the rows hold what the calls before the first thing wrong left in them
  abbrev pub sheet_after : Solve → Float → Header → Course → Sheet
  sheet_after edge whole header c =
      let later = ran edge whole (opened header.winding (length stations) (length edits)) stations edits c.calls in
      record {
        answer = unless_fault c.fault (drawing_of edge whole header c.sketch);
        stations = later.stations;
        edits = later.edits;
      }

  -- the sheet on a surface: the outline is opened, and the edits are drawn
  unfoldable pub sheet_on : Solve → Float → List ℕ → Header → Sheet
  sheet_on edge whole bytes header =
      unless_refused (open_refusal (length stations) (length edits)) (sheet_after edge whole header (course_of edge (lengths_of stations edits) bytes header))

  abbrev pub once_headed : Result Header EditFault → (Header → Sheet) → Sheet
  once_headed (Ok header) more = more header
  once_headed (Err fault) more = untouched (Field fault)

  -- the header, its surface, then the edits
  unfoldable pub drawn_sheet : List ℕ → Sheet
  drawn_sheet bytes =
      once_headed (in_edit 0 (header_of bytes)) (λ header.
      unless_refused (surface_refusal header.surface) (sheet_on (edges_on header.surface) (whole_on header.surface) bytes header))

-- the figures that a drawing answers are those that a new PolygonArea computes, given only the points that stand after the edits, in order
abbrev pub Fresh : Solve → Float → Sizes → List ℕ → Header → Drawing → Type 0
Fresh edge whole lengths bytes header d =
    d.figures ≡ computed edge whole header.winding header.signed (course_of edge lengths bytes header).sketch.book.standing

-- ---- a list of edits

-- the course of a list of edits, each of which begins where the one before it ends
unfoldable pub course_of_list : Solve → Sizes → List Edit → ℕ → ℕ → Sketch → Course
course_of_list edge lengths [] drawn at s = record { calls = []; sketch = s; fault = None }
course_of_list edge lengths (edit ∷ list) drawn at s =
    unless_off (suc drawn) at s (call_of edit) (book_refusal lengths lengths s.book (call_of edit))
    (course_of_list edge lengths list (suc drawn) (at + width_of edit) (sketched_by edge lengths.edits s (call_of edit)))

-- a sheet that reads back as a header and a list of edits draws as that list
abbrev pub ListLaw : Type 0
ListLaw =
    (edge : Solve) (lengths : Sizes) (bytes : List ℕ) (header : Header) (list : List Edit)
    → ReadsBack bytes header list → length list ≡ header.edits
    → course_of edge lengths bytes header ≡ course_of_list edge lengths list 0 24 blank_sheet
