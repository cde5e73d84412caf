-- The outline that a program in C keeps: what it is of, and why it cannot be taken up. Assumes nothing.
use Rattle.std.specs.Prelude.{◌≡◌, ℕ, cond, Some, None, Option, Result, ◌==◌}
use Rattle.std.specs.Fn.{Mut, CalledAtMut}
use denote.Ref.{MutBor}
use Rattle.surface.specs.declared.refusals.Refusal.{Refusal}
use Rattle.stations.specs.declared.Cost.{Cost}
use Rattle.history.specs.declared.Sizes.{Sizes}
use Rattle.outline.specs.declared.outlines.Outline.{Outline}
use Rattle.area.specs.declared.Winding.{Winding}
use Rattle.area.specs.declared.Winding.TheVariants.{Clockwise, CounterClockwise}
use Rattle.history.specs.declared.Frame.{Frame}
use Rattle.earth.specs.declared.grounds.Ground.{Ground}
use Rattle.earth.specs.Grounds.{edges_on, whole_on}
use Rattle.outline.specs.Resuming.{resume_refusal}
use Rattle.outline_c.specs.declared.faults.Fault.{Fault}
use Rattle.outline_c.specs.declared.faults.Fault.TheVariants.{Unknown}
use Rattle.outline_c.specs.declared.kept.KeptOutline.{KeptOutline}
use Rattle.outline_c.specs.Faults.{fault_of, faulted, first_fault}
use Rattle.outline_c.specs.Grounds.{edges_of, whole_of, ground_fault}

-- 0 is Clockwise, 1 is CounterClockwise
abbrev pub winding_of : ℕ → Winding
winding_of winding = cond (winding == 0) Clockwise CounterClockwise

abbrev pub winding_fault : ℕ → Option Fault
winding_fault winding = cond (winding == 0) None (cond (winding == 1) None (Some Unknown))

abbrev pub frame_of : KeptOutline → Frame
frame_of k = record { winding = winding_of k.winding; lengths = k.lengths; counts = k.counts }

-- why it is no outline, if it is none: the surface first, then the winding, then the sizes
abbrev pub kept_fault : KeptOutline → Option Fault
kept_fault k =
    first_fault (ground_fault k.surface k.scale) (first_fault (winding_fault k.winding) (fault_of (resume_refusal (frame_of k))))

-- the outline on a surface and with a frame is the one that is kept
pub record TakenUp (k : KeptOutline) (g : Ground) (f : Frame) : Type 0 where
  pub none : kept_fault k ≡ None
  pub edges : edges_on g ≡ edges_of k.surface k.scale
  pub whole : whole_on g ≡ whole_of k.surface k.scale
  pub frame : f ≡ frame_of k

abbrev pub kept_with : KeptOutline → Sizes → KeptOutline
kept_with k counts =
    record { scale = k.scale; surface = k.surface; winding = k.winding; lengths = k.lengths; counts = counts }

-- a call of f made an edit on the outline that is kept in k, which gave r, and left f' and k'
pub record EditedBy {F : Type 0} (g : Mut F (MutBor (Outline Ground) × Unit {0}) (Result Cost Refusal × (MutBor (Outline Ground) × Unit {0}))) (f f' : F) (k k' : KeptOutline) (r : Result Cost Fault) : Type 0 where
  pub outline : Outline Ground
  pub after : Outline Ground
  pub answer : Result Cost Refusal
  pub up : TakenUp k outline.surface outline.frame
  pub called : CalledAtMut g f outline answer f' after
  pub told : r ≡ faulted answer
  pub kept : k' ≡ kept_with k after.frame.counts
