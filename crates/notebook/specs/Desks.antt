-- Why a desk is not opened, and what an outline on a desk answers and leaves, over the fronts of its rows. Assumes nothing.
use Rattle.std.specs.Prelude.{ℕ, ◌++◌, min, List, take, drop, length, Some, None, Ok, Err, Option, Result}
use Rattle.surface.specs.declared.refusals.Refusal.{Refusal}
use Rattle.stations.specs.declared.Station.{Station}
use Rattle.stations.specs.declared.records.EditRecord.{EditRecord}
use Rattle.earth.specs.declared.grounds.Ground.{Ground}
use Rattle.earth.specs.Grounds.{edges_on, whole_on}
use Rattle.history.specs.declared.Sizes.{Sizes}
use Rattle.history.specs.declared.Frame.{Frame}
use Rattle.history.specs.declared.Call.{Call}
use Rattle.history.specs.Calls.{Answer, Outcome, left, done_of}
use Rattle.notebook.specs.declared.desks.NotOpened.{NotOpened}
use Rattle.notebook.specs.declared.desks.NotOpened.TheVariants.{Refused, OutOfMemory}

-- why the rows of a desk are refused, if they are
abbrev pub refusal_in : {A : Type 0} → Result A NotOpened → Option Refusal
refusal_in (Ok desk) = None
refusal_in (Err (Refused refusal)) = Some refusal
refusal_in (Err OutOfMemory) = None

-- the first n of a row, or all where there are no more
abbrev pub front : {A : Type 0} → ℕ → List A → List A
front n row = take (min (length row) n) row

-- what stands behind them
abbrev pub back : {A : Type 0} → ℕ → List A → List A
back n row = drop (min (length row) n) row

-- the answer, the frame and the two rows after a call on the fronts; what stands behind them stays
abbrev pub made_on : Ground → Frame → List Station → List EditRecord → Sizes → Call → Outcome
made_on g f stations edits found call =
    let after = done_of (edges_on g) (whole_on g) f (front found.stations stations) (front found.edits edits) call in
    left after.answer after.frame (after.stations ++ back found.stations stations) (after.edits ++ back found.edits edits)

abbrev pub answer_on : Ground → Frame → List Station → List EditRecord → Sizes → Call → Answer
answer_on g f stations edits found call = (made_on g f stations edits found call).answer
