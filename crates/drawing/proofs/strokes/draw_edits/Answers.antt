-- The edits that are left, one edit fewer with each turn; where one is a fault, or none is left, what they come to is at hand.
use Rattle.std.proofs.Common.{◌≡◌, ◌+◌, ◌-◌, Ok, Err, sym, refl, ap, ◌∙◌, arith}
use Rattle.std.specs.Result.{result_map_both}
use Rattle.std.proofs.lemmas.Result.{IfOk-from_err}
use Rattle.stations.specs.declared.Cost.{Cost}
use Rattle.stations.proofs.Costing.{capped_is}
use Rattle.history.specs.Calls.{left}
use Rattle.packed.specs.declared.faults.SheetFault.TheVariants.{Field}
use Rattle.packed.specs.Faults.{in_edit}
use Rattle.packed.specs.Sheets.{end_of}
use Rattle.packed.proofs.Exits.{leaves}
use Rattle.drawing.specs.Strokes.{Stroke, edit_drawn, edits_drawn}
use Rattle.drawing.proofs.Drawn.{edits_more, edits_fault, edits_end}
use Rattle.drawing.proofs.strokes.draw_edits.Goals as goal

pub returns-in_err-spent : goal.returns-in_err-spent
returns-in_err-spent g c =
    let surface = c.args.outline.now.surface in
    let edge = g.S.Surface.edges surface in
    let whole = g.S.Surface.whole surface in
    let bytes = c.args.bytes.now in
    let i = c.loop-drawn.drawn in
    let f = c.loop-drawn.outline.frame in
    let stations = c.loop-drawn.stations in
    let edits = c.loop-drawn.edits in
    let fault = c.in_err-spent.field-0.0 in
    let says = c.in_err-spent.ensures in
    let stroke : Stroke = left (Err fault) c.draw_edit.new.outline.frame c.draw_edit.new.stations c.draw_edit.new.edits in
    let is : stroke ≡ edit_drawn edge whole bytes (i + 1) c.loop-drawn.at f stations edits =
    says.left ∙ ap (λ s. edit_drawn (g.S.Surface.edges s) (g.S.Surface.whole s) bytes (i + 1) c.loop-drawn.at f stations edits) c.loop-drawn.invariant.0 in
    let all = sym c.loop-drawn.invariant.3 ∙ edits_fault edge whole bytes c.args.count i c.loop-drawn.at c.loop-drawn.total f stations edits c.loop-drawn-test.true stroke is fault refl in
    let q = leaves c.from_residual.result fault c.from_residual.ensures.1 in
    record {
      left = ap (λ a. left a stroke.frame stroke.stations stroke.edits) q ∙ sym all;
      surface = says.surface ∙ c.loop-drawn.invariant.0;
      few = IfOk-from_err c.from_residual.result _ c.from_residual.ensures.0;
    }

pub loop-drawn-preserved : goal.loop-drawn-preserved
loop-drawn-preserved g c =
    let surface = c.args.outline.now.surface in
    let edge = g.S.Surface.edges surface in
    let whole = g.S.Surface.whole surface in
    let bytes = c.args.bytes.now in
    let i = c.loop-drawn.drawn in
    let f = c.loop-drawn.outline.frame in
    let stations = c.loop-drawn.stations in
    let edits = c.loop-drawn.edits in
    let spent = c.in_ok-spent.spent in
    let end = c.in_ok-spent.end in
    let says = c.in_ok-spent.ensures in
    let stroke : Stroke = left (Ok (spent, end)) c.draw_edit.new.outline.frame c.draw_edit.new.stations c.draw_edit.new.edits in
    let is : stroke ≡ edit_drawn edge whole bytes (i + 1) c.loop-drawn.at f stations edits =
    says.left ∙ ap (λ s. edit_drawn (g.S.Surface.edges s) (g.S.Surface.whole s) bytes (i + 1) c.loop-drawn.at f stations edits) c.loop-drawn.invariant.0 in
    let more = edits_more edge whole bytes c.args.count i c.loop-drawn.at c.loop-drawn.total f stations edits c.loop-drawn-test.true stroke is spent end refl in
    let total =
    c.add-total.ensures
    ∙ capped_is c.loop-drawn.total spent (omega (arith, says.few.0, c.loop-drawn.invariant.1)) (omega (arith, says.few.1, c.loop-drawn.invariant.2)) in (
      says.surface ∙ c.loop-drawn.invariant.0,
      omega (arith, ap (λ (x : Cost). x.edges) total, says.few.0, c.loop-drawn.invariant.1),
      omega (arith, ap (λ (x : Cost). x.evaluations) total, says.few.1, c.loop-drawn.invariant.2),
      ap (λ (x : Cost). edits_drawn edge whole bytes (c.args.count - (i + 1)) (i + 1) end x stroke.frame stroke.stations stroke.edits) total ∙ sym more ∙ c.loop-drawn.invariant.3,
    )

pub returns-in_err-in_edit : goal.returns-in_err-in_edit
returns-in_err-in_edit g c =
    let surface = c.args.outline.now.surface in
    let edge = g.S.Surface.edges surface in
    let whole = g.S.Surface.whole surface in
    let bytes = c.args.bytes.now in
    let i = c.loop-drawn.drawn in
    let done : i ≡ c.args.count = omega (arith, c.loop-drawn-test.false, c.loop-drawn.auto.drawn-end) in
    let fault = c.in_err-in_edit.field-0.0 in
    let read : Err fault ≡ in_edit c.args.count (end_of bytes c.loop-drawn.at) = c.in_err-in_edit.ensures ∙ ap (in_edit c.args.count) c.read_end.ensures in
    let all = sym c.loop-drawn.invariant.3 ∙ edits_end edge whole bytes c.args.count i c.loop-drawn.at c.loop-drawn.total c.loop-drawn.outline.frame c.loop-drawn.stations c.loop-drawn.edits done in
    let q = leaves c.from_residual-in_err-in_edit.result (Field fault) c.from_residual-in_err-in_edit.ensures.1 in
    record {
      left = ap (λ a. left a c.loop-drawn.outline.frame c.loop-drawn.stations c.loop-drawn.edits) (q ∙ ap (result_map_both (λ (u : Unit {0}). c.loop-drawn.total) Field) read) ∙ sym all;
      surface = c.loop-drawn.invariant.0;
      few = IfOk-from_err c.from_residual-in_err-in_edit.result _ c.from_residual-in_err-in_edit.ensures.0;
    }

pub returns : goal.returns
returns g c =
    let surface = c.args.outline.now.surface in
    let edge = g.S.Surface.edges surface in
    let whole = g.S.Surface.whole surface in
    let bytes = c.args.bytes.now in
    let i = c.loop-drawn.drawn in
    let done : i ≡ c.args.count = omega (arith, c.loop-drawn-test.false, c.loop-drawn.auto.drawn-end) in
    let read : Ok c.in_ok-in_edit.field-0 ≡ in_edit c.args.count (end_of bytes c.loop-drawn.at) = c.in_ok-in_edit.ensures ∙ ap (in_edit c.args.count) c.read_end.ensures in
    let all = sym c.loop-drawn.invariant.3 ∙ edits_end edge whole bytes c.args.count i c.loop-drawn.at c.loop-drawn.total c.loop-drawn.outline.frame c.loop-drawn.stations c.loop-drawn.edits done in
    record {
      left = ap (λ r. left (result_map_both (λ (u : Unit {0}). c.loop-drawn.total) Field r) c.loop-drawn.outline.frame c.loop-drawn.stations c.loop-drawn.edits) read ∙ sym all;
      surface = c.loop-drawn.invariant.0;
      few = (omega (arith, c.loop-drawn.invariant.1), omega (arith, c.loop-drawn.invariant.2));
    }
