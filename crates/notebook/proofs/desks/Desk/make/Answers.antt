-- The outline keeps its surface, its winding and the lengths of its rows over a call.
use Rattle.std.proofs.Common.{ap, ◌∙◌}
use Rattle.earth.specs.Grounds.{edges_on, whole_on}
use Rattle.history.specs.declared.Frame.{Frame}
use Rattle.history.specs.Calls.{Outcome}
use Rattle.notebook.specs.Desks.{front}
use Rattle.notebook.proofs.Frames.{frame_kept}
use Rattle.notebook.proofs.desks.Desk.make.Goals as goal

pub invariant_of-self : goal.invariant_of-self
invariant_of-self c =
    let desk = c.args.self.now in
    let made = c.make_on-answer in
    let frame = ap (λ (o : Outcome). o.frame) made.ensures.left in
    let kept = frame_kept (edges_on desk.outline.surface) desk.outline.frame (front c.args.found.stations c.deref_mut.result.now) (front c.args.found.edits c.deref_mut-2.result.now) (whole_on desk.outline.surface) c.args.call in
    record {
      same_surface = made.ensures.surface ∙ desk.same_surface;
      same_winding = ap (λ (f : Frame). f.winding) frame ∙ kept.winding ∙ desk.same_winding;
      same_lengths = ap (λ (f : Frame). f.lengths) frame ∙ kept.lengths ∙ desk.same_lengths;
    }
