-- When an outline can be taken up again from what it keeps beside its surface. Assumes nothing.
use Rattle.std.specs.Prelude.{Bool, cond, ◌&&◌, Some, None, Option, nat_le}
use Rattle.surface.specs.declared.refusals.Refusal.{Refusal}
use Rattle.surface.specs.declared.refusals.Refusal.TheVariants.{RowLength}
use Rattle.history.specs.declared.Sizes.{Sizes}
use Rattle.history.specs.declared.Frame.{Frame}

-- each number is at most the other's
abbrev pub within : Sizes → Sizes → Bool
within a b = nat_le a.stations b.stations && nat_le a.edits b.edits

-- the most slots that a row may have
abbrev pub most_slots : Sizes
most_slots = record { stations = 4096; edits = 1024 }

-- why it is refused, if it is: a row is longer than it may be, or holds more than it has slots
abbrev pub resume_refusal : Frame → Option Refusal
resume_refusal f = cond (within f.lengths most_slots && within f.counts f.lengths) None (Some RowLength)
