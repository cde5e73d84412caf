use Rattle.std.proofs.Common.{◌≡◌, replicate, ap, ◌∙◌, rules}
use Rattle.std.proofs.lemmas.Result.{IfOk-weaker}
use Rattle.drawing.specs.Sketches.{Sheet, drawn_sheet}
use Rattle.report.specs.Reports.{report_of, new_stations}
use Rattle.report.proofs.sheet_text.Goals as goal

pub returns : goal.returns
returns c =
    let bytes = c.args.bytes.now in
    let stations : c.in_ok-stations.stations.items ≡ replicate 1024 c.first-nowhere.result = search rules in
    let edits : c.in_ok-edits.edits.items ≡ replicate 256 c.added.result = search rules in
    IfOk-weaker c.report.result _ _
    (λ s h.
    h
    ∙ ap report_of (
    ap (λ (x : Sheet). x.answer) c.draw-answer.ensures.left
    ∙ ap (λ row. (drawn_sheet row c.as_mut_slice-2.result.now bytes).answer) (c.as_mut_slice.ensures.value ∙ stations ∙ ap (replicate 1024) c.first-nowhere.ensures)
    ∙ ap (λ row. (drawn_sheet new_stations row bytes).answer) (c.as_mut_slice-2.ensures.value ∙ edits ∙ ap (replicate 256) c.added.ensures)
    ))
    c.report.ensures
