-- The opening is refused, or an edit or the end is a fault, or the outline is measured: in each case the book says what comes.
use Rattle.std.proofs.Common.{◌≡◌, ◌≤◌, length, Some, None, Ok, Err, sym, refl, ap, ◌∙◌, arith}
use Rattle.std.specs.Result.{result_err}
use Rattle.std.proofs.lemmas.Result.{IfOk-from_err, IfOk-at_ok}
use Rattle.stations.specs.declared.Cost.{Cost}
use Rattle.stations.specs.Stations.{free}
use Rattle.stations.proofs.Costing.{capped_is}
use Rattle.history.specs.declared.Frame.{Frame}
use Rattle.history.specs.Calls.{open_refusal, opened, measure_of}
use Rattle.packed.specs.declared.faults.SheetFault.TheVariants.{Outline}
use Rattle.packed.proofs.Exits.{leaves}
use Rattle.drawing.specs.Strokes.{Strokes, edits_drawn}
use Rattle.drawing.specs.Sketches.{sheet_left, sheet_on}
use Rattle.drawing.proofs.Mapped.{mapped_ok, mapped_err}
use Rattle.drawing.proofs.Sheets.{same_sheet, sheet_refused, sheet_stations, sheet_edits, sheet_fault, measured_always, sheet_fresh, sheet_done}
use Rattle.drawing.proofs.sheet.draw_on.Goals as goal

pub returns-in_err-outline : goal.returns-in_err-outline
returns-in_err-outline g c =
    let edge = g.S.Surface.edges c.args.surface in
    let whole = g.S.Surface.whole c.args.surface in
    let p = mapped_err (λ refusal fault. fault ≡ Outline 0 0 refusal) c.open-opened.result c.in_err-outline.field-0.0 c.in_err-outline.ensures.cases in
    let refused : open_refusal (length c.args.stations.now) (length c.args.edits.now) ≡ Some p.0 = sym c.open-opened.ensures.answer ∙ ap result_err p.1 in
    let is = sheet_refused c.args.stations.now c.args.edits.now edge whole c.args.bytes.now c.args.header p.0 refused in
    let q = leaves c.from_residual.result c.in_err-outline.field-0.0 c.from_residual.ensures.1 in
    record {
      left = ap (λ r. sheet_left r c.args.stations.now c.args.edits.now) (q ∙ ap Err p.2) ∙ sym is;
      fresh = IfOk-from_err c.from_residual.result _ c.from_residual.ensures.0;
    }

pub returns-in_err-spent : goal.returns-in_err-spent
returns-in_err-spent g c =
    let edge = g.S.Surface.edges c.args.surface in
    let whole = g.S.Surface.whole c.args.surface in
    let bytes = c.args.bytes.now in
    let header = c.args.header in
    let stations = c.args.stations.now in
    let edits = c.args.edits.now in
    let outline = c.in_ok-outline.outline in
    let new = opened header.winding (length stations) (length edits) in
    let open_is = mapped_ok (λ refusal fault. fault ≡ Outline 0 0 refusal) c.open-opened.result outline c.in_ok-outline.ensures.cases in
    let granted : open_refusal (length stations) (length edits) ≡ None = sym c.open-opened.ensures.answer ∙ ap result_err open_is in
    let surface-is : outline.surface ≡ c.args.surface = IfOk-at_ok (λ o. o.surface ≡ c.args.surface) open_is c.open-opened.ensures.surface in
    let frame_is : outline.frame ≡ new = IfOk-at_ok (λ o. o.frame ≡ new) open_is c.open-opened.ensures.frame in
    let strokes = edits_drawn edge whole bytes header.edits 0 24 free new stations edits in
    let strokes-is : edits_drawn (g.S.Surface.edges outline.surface) (g.S.Surface.whole outline.surface) bytes header.edits 0 24 free outline.frame stations edits ≡ strokes =
    ap (λ s. edits_drawn (g.S.Surface.edges s) (g.S.Surface.whole s) bytes header.edits 0 24 free outline.frame stations edits) surface-is
    ∙ ap (λ (f : Frame). edits_drawn edge whole bytes header.edits 0 24 free f stations edits) frame_is in
    let drawn = c.in_err-spent.ensures.left ∙ strokes-is in
    let fault = c.in_err-spent.field-0.0 in
    let faulty : strokes.answer ≡ Err fault = sym (ap (λ (s : Strokes). s.answer) drawn) in
    let q = leaves c.from_residual-in_err-spent.result fault c.from_residual-in_err-spent.ensures.1 in
    record {
      left =
          same_sheet (sheet_on stations edits edge whole bytes header)
          (q ∙ sym (sheet_fault stations edits edge whole bytes header granted fault faulty))
          (ap (λ (s : Strokes). s.stations) drawn ∙ sheet_stations stations edits edge whole bytes header granted)
          (ap (λ (s : Strokes). s.edits) drawn ∙ sheet_edits stations edits edge whole bytes header granted);
      fresh = IfOk-from_err c.from_residual-in_err-spent.result _ c.from_residual-in_err-spent.ensures.0;
    }

pub returns-in_err-closing : goal.returns-in_err-closing
returns-in_err-closing g c =
    let edge = g.S.Surface.edges c.args.surface in
    let whole = g.S.Surface.whole c.args.surface in
    let bytes = c.args.bytes.now in
    let header = c.args.header in
    let stations = c.args.stations.now in
    let edits = c.args.edits.now in
    let outline = c.in_ok-outline.outline in
    let new = opened header.winding (length stations) (length edits) in
    let open_is = mapped_ok (λ refusal fault. fault ≡ Outline 0 0 refusal) c.open-opened.result outline c.in_ok-outline.ensures.cases in
    let granted : open_refusal (length stations) (length edits) ≡ None = sym c.open-opened.ensures.answer ∙ ap result_err open_is in
    let surface-is : outline.surface ≡ c.args.surface = IfOk-at_ok (λ o. o.surface ≡ c.args.surface) open_is c.open-opened.ensures.surface in
    let frame_is : outline.frame ≡ new = IfOk-at_ok (λ o. o.frame ≡ new) open_is c.open-opened.ensures.frame in
    let strokes = edits_drawn edge whole bytes header.edits 0 24 free new stations edits in
    let strokes-is : edits_drawn (g.S.Surface.edges outline.surface) (g.S.Surface.whole outline.surface) bytes header.edits 0 24 free outline.frame stations edits ≡ strokes =
    ap (λ s. edits_drawn (g.S.Surface.edges s) (g.S.Surface.whole s) bytes header.edits 0 24 free outline.frame stations edits) surface-is
    ∙ ap (λ (f : Frame). edits_drawn edge whole bytes header.edits 0 24 free f stations edits) frame_is in
    let says = c.in_ok-spent.ensures in
    let drawn = says.left ∙ strokes-is in
    let spent = c.in_ok-spent.spent in
    let drawn-row : c.draw_edits.new.stations ≡ strokes.stations = ap (λ (s : Strokes). s.stations) drawn in
    let drawn-notes : c.draw_edits.new.edits ≡ strokes.edits = ap (λ (s : Strokes). s.edits) drawn in
    let drawn-frame : c.draw_edits.new.outline.frame ≡ strokes.frame = ap (λ (s : Strokes). s.frame) drawn in
    let drawn-surface : c.draw_edits.new.outline.surface ≡ c.args.surface = says.surface ∙ surface-is in
    let measured : c.measure.result ≡ measure_of edge whole strokes.frame strokes.stations strokes.edits header.signed =
    c.measure.ensures.answer
    ∙ ap (λ s. measure_of (g.S.Surface.edges s) (g.S.Surface.whole s) c.draw_edits.new.outline.frame c.draw_edits.new.stations c.draw_edits.new.edits header.signed) drawn-surface
    ∙ ap (λ (f : Frame). measure_of edge whole f c.draw_edits.new.stations c.draw_edits.new.edits header.signed) drawn-frame
    ∙ ap (λ row. measure_of edge whole strokes.frame row c.draw_edits.new.edits header.signed) drawn-row
    ∙ ap (λ notes. measure_of edge whole strokes.frame strokes.stations notes header.signed) drawn-notes in
    let p = mapped_err (λ refusal fault. fault ≡ Outline 0 0 refusal) c.measure.result c.in_err-closing.field-0.0 c.in_err-closing.ensures.cases in
    absurd (measured_always stations edits edge whole bytes header granted p.0 (sym measured ∙ p.1))

pub returns : goal.returns
returns g c =
    let edge = g.S.Surface.edges c.args.surface in
    let whole = g.S.Surface.whole c.args.surface in
    let bytes = c.args.bytes.now in
    let header = c.args.header in
    let stations = c.args.stations.now in
    let edits = c.args.edits.now in
    let outline = c.in_ok-outline.outline in
    let new = opened header.winding (length stations) (length edits) in
    let open_is = mapped_ok (λ refusal fault. fault ≡ Outline 0 0 refusal) c.open-opened.result outline c.in_ok-outline.ensures.cases in
    let granted : open_refusal (length stations) (length edits) ≡ None = sym c.open-opened.ensures.answer ∙ ap result_err open_is in
    let surface-is : outline.surface ≡ c.args.surface = IfOk-at_ok (λ o. o.surface ≡ c.args.surface) open_is c.open-opened.ensures.surface in
    let frame_is : outline.frame ≡ new = IfOk-at_ok (λ o. o.frame ≡ new) open_is c.open-opened.ensures.frame in
    let strokes = edits_drawn edge whole bytes header.edits 0 24 free new stations edits in
    let strokes-is : edits_drawn (g.S.Surface.edges outline.surface) (g.S.Surface.whole outline.surface) bytes header.edits 0 24 free outline.frame stations edits ≡ strokes =
    ap (λ s. edits_drawn (g.S.Surface.edges s) (g.S.Surface.whole s) bytes header.edits 0 24 free outline.frame stations edits) surface-is
    ∙ ap (λ (f : Frame). edits_drawn edge whole bytes header.edits 0 24 free f stations edits) frame_is in
    let says = c.in_ok-spent.ensures in
    let drawn = says.left ∙ strokes-is in
    let spent = c.in_ok-spent.spent in
    let drawn-row : c.draw_edits.new.stations ≡ strokes.stations = ap (λ (s : Strokes). s.stations) drawn in
    let drawn-notes : c.draw_edits.new.edits ≡ strokes.edits = ap (λ (s : Strokes). s.edits) drawn in
    let drawn-frame : c.draw_edits.new.outline.frame ≡ strokes.frame = ap (λ (s : Strokes). s.frame) drawn in
    let drawn-surface : c.draw_edits.new.outline.surface ≡ c.args.surface = says.surface ∙ surface-is in
    let measured : c.measure.result ≡ measure_of edge whole strokes.frame strokes.stations strokes.edits header.signed =
    c.measure.ensures.answer
    ∙ ap (λ s. measure_of (g.S.Surface.edges s) (g.S.Surface.whole s) c.draw_edits.new.outline.frame c.draw_edits.new.stations c.draw_edits.new.edits header.signed) drawn-surface
    ∙ ap (λ (f : Frame). measure_of edge whole f c.draw_edits.new.stations c.draw_edits.new.edits header.signed) drawn-frame
    ∙ ap (λ row. measure_of edge whole strokes.frame row c.draw_edits.new.edits header.signed) drawn-row
    ∙ ap (λ notes. measure_of edge whole strokes.frame strokes.stations notes header.signed) drawn-notes in
    let closing = c.in_ok-closing.closing in
    let is = mapped_ok (λ refusal fault. fault ≡ Outline 0 0 refusal) c.measure.result closing c.in_ok-closing.ensures.cases in
    let one = IfOk-at_ok (λ m. (m.cost.edges ≡ 1) × (m.cost.evaluations ≤ 83)) is c.measure.ensures.edges in
    let sum = c.add.ensures ∙ capped_is spent closing.cost (omega (arith, says.few.0, one.0)) (omega (arith, says.few.1, one.1)) in
    let found : measure_of edge whole strokes.frame strokes.stations strokes.edits header.signed ≡ Ok closing = sym measured ∙ is in
    let granted-edits : strokes.answer ≡ Ok spent = sym (ap (λ (s : Strokes). s.answer) drawn) in
    record {
      left =
          same_sheet (sheet_on stations edits edge whole bytes header)
          (ap (λ (x : Cost). Ok (record { figures = closing.figures; cost = x })) sum ∙ sheet_done stations edits edge whole bytes header granted spent granted-edits closing found)
          (drawn-row ∙ sheet_stations stations edits edge whole bytes header granted)
          (drawn-notes ∙ sheet_edits stations edits edge whole bytes header granted);
      fresh = sheet_fresh stations edits edge whole bytes header granted spent granted-edits closing found (record { figures = closing.figures; cost = c.add.result }) refl;
    }
