-- No more records are held than there are slots.
use Rattle.std.proofs.Common.{arith}
use Rattle.stations.proofs.Noting.{noted_count_held}
use Rattle.outline.proofs.outlines.Outline.note_edit.Goals as goal

pub overflow_cast-self-2 : goal.overflow_cast-self-2
overflow_cast-self-2 g c =
    omega (arith, c.note-held.ensures.count, noted_count_held c.args.edits.now c.args.self.now.frame.counts.edits)
