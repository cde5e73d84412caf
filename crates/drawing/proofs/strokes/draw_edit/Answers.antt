-- What was read of the edit, and then what its call answers and leaves.
use Rattle.std.proofs.Common.{◌≡◌, Ok, Err, sym, refl, ap, ◌∙◌, subst}
use Rattle.std.proofs.lemmas.Result.{IfOk-from_err}
use Rattle.stations.specs.declared.Cost.{Cost}
use Rattle.history.specs.Calls.{left, done_of}
use Rattle.history.specs.Expenses.{cost_in, Affordable}
use Rattle.packed.specs.declared.faults.SheetFault.TheVariants.{Field, Outline}
use Rattle.packed.specs.Faults.{in_edit}
use Rattle.packed.specs.Sheets.{edit_of}
use Rattle.packed.proofs.Exits.{leaves}
use Rattle.drawing.proofs.Drawn.{stroke_made, stroke_fault}
use Rattle.drawing.proofs.Mapped.{mapped_ok, mapped_err}
use Rattle.drawing.proofs.strokes.draw_edit.Goals as goal

pub returns-in_err-edit : goal.returns-in_err-edit
returns-in_err-edit g c =
    let edge = g.S.Surface.edges c.args.outline.now.surface in
    let whole = g.S.Surface.whole c.args.outline.now.surface in
    let f = c.args.outline.now.frame in
    let fault = c.in_err-edit.field-0.0 in
    let read : Err fault ≡ in_edit c.args.number (edit_of c.args.bytes.now c.args.at) = c.in_err-edit.ensures ∙ ap (in_edit c.args.number) c.read_edit.ensures in
    let is = stroke_fault edge whole c.args.bytes.now c.args.number c.args.at f c.args.stations.now c.args.edits.now fault read in
    let q = leaves c.from_residual.result (Field fault) c.from_residual.ensures.1 in
    record {
      left = ap (λ a. left a f c.args.stations.now c.args.edits.now) q ∙ sym is;
      surface = refl;
      few = IfOk-from_err c.from_residual.result _ c.from_residual.ensures.0;
    }

pub returns-in_err-done : goal.returns-in_err-done
returns-in_err-done g c =
    let edge = g.S.Surface.edges c.args.outline.now.surface in
    let whole = g.S.Surface.whole c.args.outline.now.surface in
    let f = c.args.outline.now.frame in
    let stations = c.args.stations.now in
    let edits = c.args.edits.now in
    let call = c.call_of.result in
    let fault = c.in_err-done.field-0.0 in
    let refused = mapped_err (λ refusal told. told ≡ Outline c.args.number c.args.at refusal) c.make.result fault c.in_err-done.ensures.cases in
    let done = left (Err refused.0) c.make.new.self.frame c.make.new.stations c.make.new.edits in
    let does : done ≡ done_of edge whole f stations edits call =
    ap (λ a. left a c.make.new.self.frame c.make.new.stations c.make.new.edits) (sym refused.1) ∙ c.make.ensures.left in
    let read : Ok (c.in_ok-edit.edit, c.in_ok-edit.end) ≡ in_edit c.args.number (edit_of c.args.bytes.now c.args.at) = c.in_ok-edit.ensures ∙ ap (in_edit c.args.number) c.read_edit.ensures in
    let is = stroke_made edge whole c.args.bytes.now c.args.number c.args.at f stations edits c.in_ok-edit.edit c.in_ok-edit.end call done read c.call_of.ensures does in
    let q = leaves c.from_residual-in_err-done.result fault c.from_residual-in_err-done.ensures.1 in
    record {
      left = ap (λ a. left a c.make.new.self.frame c.make.new.stations c.make.new.edits) (q ∙ ap Err refused.2) ∙ sym is;
      surface = c.make.ensures.surface;
      few = IfOk-from_err c.from_residual-in_err-done.result _ c.from_residual-in_err-done.ensures.0;
    }

pub returns : goal.returns
returns g c =
    let edge = g.S.Surface.edges c.args.outline.now.surface in
    let whole = g.S.Surface.whole c.args.outline.now.surface in
    let f = c.args.outline.now.frame in
    let stations = c.args.stations.now in
    let edits = c.args.edits.now in
    let call = c.call_of.result in
    let made = mapped_ok (λ refusal told. told ≡ Outline c.args.number c.args.at refusal) c.make.result c.in_ok-done.done c.in_ok-done.ensures.cases in
    let done = left (Ok c.in_ok-done.done) c.make.new.self.frame c.make.new.stations c.make.new.edits in
    let does : done ≡ done_of edge whole f stations edits call =
    ap (λ a. left a c.make.new.self.frame c.make.new.stations c.make.new.edits) (sym made) ∙ c.make.ensures.left in
    let read : Ok (c.in_ok-edit.edit, c.in_ok-edit.end) ≡ in_edit c.args.number (edit_of c.args.bytes.now c.args.at) = c.in_ok-edit.ensures ∙ ap (in_edit c.args.number) c.read_edit.ensures in
    let is = stroke_made edge whole c.args.bytes.now c.args.number c.args.at f stations edits c.in_ok-edit.edit c.in_ok-edit.end call done read c.call_of.ensures does in
    record {
      left = ap (λ (x : Cost). left (Ok (x, c.in_ok-edit.end)) c.make.new.self.frame c.make.new.stations c.make.new.edits) c.cost.ensures ∙ sym is;
      surface = c.make.ensures.surface;
      few = subst Affordable (ap cost_in made ∙ sym c.cost.ensures) c.make.ensures.few;
    }
