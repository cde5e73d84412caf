-- What the edit on the outline that is kept answers and leaves is what is told.
use Rattle.std.proofs.Common.{rules}
use Rattle.polygon.specs.Polygons.{Solve}
use Rattle.history.specs.declared.Frame.{Frame}
use Rattle.history.specs.Calls.{After, move_of}
use Rattle.outline_c.specs.Grounds.{edges_of}
use Rattle.outline_c.specs.Kept.{frame_of}
use Rattle.outline_c.specs.Exports.{move_left}
use Rattle.outline_c.proofs.Leaving.{leaves, stayed, move_stays}
use Rattle.outline_c.proofs.edits.outline_move.Goals as goal

pub returns : goal.returns
unfolding move_left
returns c =
    let k = c.args.kept.now in
    let call : Solve → Frame → After = λ edge f. move_of edge f c.args.stations.now c.args.edits.now c.args.place c.args.lat c.args.lon in
    let left = leaves k c.args.stations.now c.args.edits.now call c.args.cost.now c.edited.result _ _ _ _ _ (λ none. let d = c.edited.ensures.done none in record { on = d.outline.surface; frame = d.outline.frame; up = d.up; told = search rules; kept = search rules; row = search rules; records = search rules }) (λ e is. record { told = search rules; kept = search rules; row = search rules; records = search rules }) c.tell.ensures.code c.tell.ensures.kept in
    record {
      left = left;
      refused = stayed k c.args.stations.now c.args.edits.now call c.args.cost.now c.edited.result _ _ _ _ _ (move_stays (frame_of k) c.args.stations.now c.args.edits.now (edges_of k.surface k.scale) c.args.place c.args.lat c.args.lon) left;
    }
