-- A sheet drawn on a new outline is what the book says: the fault of the first thing wrong, or the figures and the cost of the points that stand.
use Rattle.std.proofs.Common.{◌≡◌, ℕ, ◌≤◌, Bool, List, [], ◌∷◌, length, Some, None, Ok, Err, Option, Result, sym, refl, ap, ◌∙◌}
use lib.Ieee.{Float}
use Rattle.surface.specs.declared.refusals.Refusal.{Refusal}
use Rattle.area.specs.declared.Winding.{Winding}
use Rattle.polygon.specs.Polygons.{Solve, closing_edge, figures_of}
use Rattle.stations.specs.declared.Station.{Station}
use Rattle.stations.specs.declared.Cost.{Cost}
use Rattle.stations.specs.declared.records.EditRecord.{EditRecord}
use Rattle.stations.specs.Stations.{free, together}
use Rattle.history.specs.declared.Sizes.{Sizes}
use Rattle.history.specs.declared.Frame.{Frame}
use Rattle.history.specs.declared.Measurement.{Measurement}
use Rattle.history.specs.declared.Call.TheVariants.{Measure}
use Rattle.history.specs.declared.Done.TheVariants.{Measured}
use Rattle.history.specs.Calls.{measure_of, measure_answer, open_refusal, opened, lengths_of}
use Rattle.history.specs.Book.{Book}
use Rattle.history.specs.Histories.{refusal_in, computed}
use Rattle.history.specs.Expenses.{cost_of, cost_in}
use Rattle.history.proofs.Following.{Follows, call_right}
use Rattle.history.proofs.Law.{opening_follows, opening_bound}
use Rattle.history.proofs.Spending.{call_spends}
use Rattle.packed.specs.declared.faults.SheetFault.{SheetFault}
use Rattle.packed.specs.declared.faults.SheetFault.TheVariants.{Outline}
use Rattle.packed.specs.declared.sheets.Header.{Header}
use Rattle.drawing.specs.declared.Drawing.{Drawing}
use Rattle.drawing.specs.Strokes.{Strokes, edits_drawn}
use Rattle.drawing.specs.Sketches.{blank_sheet, Course, course_of, drawing_of, unless_fault, Sheet, sheet_left, unless_refused, sheet_after, sheet_on, Fresh}
use Rattle.drawing.proofs.ByTheBook.{answer_of, Took, took_course}

-- ---- results carried on

pub same_sheet : {r : Result Drawing SheetFault} {row : List Station} {notes : List EditRecord} (x : Sheet) → r ≡ x.answer → row ≡ x.stations → notes ≡ x.edits → sheet_left r row notes ≡ x
same_sheet {r} {row} {notes} x answer stations edits =
    ap (λ r. sheet_left r row notes) answer ∙ ap (λ l. sheet_left x.answer l notes) stations ∙ ap (sheet_left x.answer x.stations) edits

fault_is : (o : Option SheetFault) (cost : Cost) (fault : SheetFault) → answer_of o cost ≡ Err fault → o ≡ Some fault
fault_is (Some g) cost fault is = let same : g ≡ fault = cc in ap Some same
fault_is None cost fault is = absurd (cc)

cost_is : (o : Option SheetFault) (cost spent : Cost) → answer_of o cost ≡ Ok spent → (o ≡ None) × (cost ≡ spent)
cost_is (Some g) cost spent is = absurd (cc)
cost_is None cost spent is = let same : cost ≡ spent = cc in (refl, same)

-- ---- a measure of what follows the book

module _ (edge : Solve) (whole : Float) (winding : Winding) (opening : Sizes) (bound : opening.stations ≤ 4096) (b : Book) (f : Frame) (stations : List Station) (edits : List EditRecord) (r : Follows edge winding opening b f stations edits) (sign : Bool) where
  measure_granted : (e : Refusal) → measure_of edge whole f stations edits sign ≡ Err e → ⊥
  measure_granted e is =
      let right = call_right edge whole winding opening b f stations edits bound r (Measure sign) in
      let refused : refusal_in (measure_answer (measure_of edge whole f stations edits sign)) ≡ Some e = ap (λ (m : Result Measurement Refusal). refusal_in (measure_answer m)) is in
      let none : None ≡ Some e = sym right.refusal ∙ refused in
      cc

  module _ (m : Measurement) (is : measure_of edge whole f stations edits sign ≡ Ok m) where
    answers : measure_answer (measure_of edge whole f stations edits sign) ≡ Ok (Measured m)
    answers = ap measure_answer is

    figures : (m.figures ≡ computed edge whole winding sign b.standing) × (m.figures ≡ figures_of edge whole winding sign b.standing)
    figures = (call_right edge whole winding opening b f stations edits bound r (Measure sign)).figures sign m refl answers

    cost : m.cost ≡ cost_of edge (closing_edge b.standing ∷ [])
    cost = sym (ap cost_in answers) ∙ (call_spends edge whole winding opening b f stations edits r (Measure sign) refl).cost

-- ---- the sheet

module _ (stations : List Station) (edits : List EditRecord) (edge : Solve) (whole : Float) (bytes : List ℕ) (header : Header) where
  pub sheet_refused : (e : Refusal) → open_refusal (length stations) (length edits) ≡ Some e → sheet_on stations edits edge whole bytes header ≡ record { answer = Err (Outline 0 0 e); stations = stations; edits = edits }
  unfolding sheet_on
  sheet_refused e is =
      ap (λ (o : Option Refusal). unless_refused stations edits o (sheet_after stations edits edge whole header (course_of edge (lengths_of stations edits) bytes header))) is

  module _ (granted : open_refusal (length stations) (length edits) ≡ None) where
    abbrev new : Frame
    new = opened header.winding (length stations) (length edits)

    abbrev course : Course
    course = course_of edge (lengths_of stations edits) bytes header

    abbrev strokes : Strokes
    strokes = edits_drawn edge whole bytes header.edits 0 24 free new stations edits

    bound : length stations ≤ 4096
    bound = opening_bound (length stations) (length edits) granted

    took : Took edge whole header.winding (lengths_of stations edits) bound bytes new stations edits strokes course
    took = took_course edge whole header.winding (lengths_of stations edits) bound bytes header.edits 0 24 blank_sheet new stations edits (opening_follows edge header.winding stations edits) refl

    sheet_is : sheet_on stations edits edge whole bytes header ≡ sheet_after stations edits edge whole header course
    unfolding sheet_on
    sheet_is = ap (λ (o : Option Refusal). unless_refused stations edits o (sheet_after stations edits edge whole header course)) granted

    pub sheet_stations : strokes.stations ≡ (sheet_on stations edits edge whole bytes header).stations
    sheet_stations = took.stations_after ∙ sym (ap (λ (s : Sheet). s.stations) sheet_is)

    pub sheet_edits : strokes.edits ≡ (sheet_on stations edits edge whole bytes header).edits
    sheet_edits = took.edits_after ∙ sym (ap (λ (s : Sheet). s.edits) sheet_is)

    pub sheet_fault : (fault : SheetFault) → strokes.answer ≡ Err fault → (sheet_on stations edits edge whole bytes header).answer ≡ Err fault
    sheet_fault fault is =
        ap (λ (s : Sheet). s.answer) sheet_is
        ∙ ap (λ (o : Option SheetFault). unless_fault o (drawing_of edge whole header course.sketch)) (fault_is course.fault course.sketch.cost fault (sym took.answer ∙ is))

    pub measured_always : (e : Refusal) → measure_of edge whole strokes.frame strokes.stations strokes.edits header.signed ≡ Err e → ⊥
    measured_always e is =
        measure_granted edge whole header.winding (lengths_of stations edits) bound course.sketch.book strokes.frame strokes.stations strokes.edits took.follows header.signed e is

    module _ (spent : Cost) (is : strokes.answer ≡ Ok spent) (m : Measurement) (found : measure_of edge whole strokes.frame strokes.stations strokes.edits header.signed ≡ Ok m) where
      pub sheet_fresh : (d : Drawing) → d.figures ≡ m.figures → Fresh edge whole (lengths_of stations edits) bytes header d
      sheet_fresh d same =
          same ∙ (figures edge whole header.winding (lengths_of stations edits) bound course.sketch.book strokes.frame strokes.stations strokes.edits took.follows header.signed m found).0

      pub sheet_done : Ok (record { figures = m.figures; cost = together spent m.cost }) ≡ (sheet_on stations edits edge whole bytes header).answer
      sheet_done =
          let parts = cost_is course.fault course.sketch.cost spent (sym took.answer ∙ is) in
          let ps = course.sketch.book.standing in
          let made = (figures edge whole header.winding (lengths_of stations edits) bound course.sketch.book strokes.frame strokes.stations strokes.edits took.follows header.signed m found).1 in
          let closing = cost edge whole header.winding (lengths_of stations edits) bound course.sketch.book strokes.frame strokes.stations strokes.edits took.follows header.signed m found in
          let drawing : Cost → Cost → Result Drawing SheetFault = λ a c. Ok (record { figures = figures_of edge whole header.winding header.signed ps; cost = together a c }) in
          ap (λ figures. Ok (record { figures = figures; cost = together spent m.cost })) made
          ∙ ap (λ (x : Cost). drawing x m.cost) (sym parts.1)
          ∙ ap (drawing course.sketch.cost) closing
          ∙ sym (ap (λ (o : Option SheetFault). unless_fault o (drawing_of edge whole header course.sketch)) parts.0)
          ∙ sym (ap (λ (s : Sheet). s.answer) sheet_is)
