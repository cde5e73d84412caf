-- What each call on an outline answers and leaves, of what it finds: the frame and the two rows. Assumes nothing.
use Rattle.std.specs.Prelude.{ℕ, ◌+◌, ◌-◌, Bool, cond, ◌&&◌, List, map, length, take, pos, Some, None, Ok, Err, Option, Result, ◌==◌, nat_le, nat_lt, slice_index_or, Float}
use Rattle.std.specs.Float.{nan}
use Rattle.std.specs.Result.{result_map_both}
use Rattle.geomath.specs.Angles.{zero, accepts}
use Rattle.surface.specs.declared.refusals.Refusal.{Refusal}
use Rattle.surface.specs.declared.refusals.Refusal.TheVariants.{Point as PointOff, RowLength, Full, Place, NothingToTakeBack, UnfitRecord}
use Rattle.area.specs.declared.Winding.{Winding}
use Rattle.polygon.specs.declared.Traverse.{Traverse}
use Rattle.polygon.specs.Polygons.{Solve, solved, first_of, last_of, added_to, counted_to}
use Rattle.polygon.specs.Traverses.{closed}
use Rattle.stations.specs.declared.Cost.{Cost}
use Rattle.stations.specs.declared.Station.{Station}
use Rattle.stations.specs.declared.records.EditRecord.{EditRecord}
use Rattle.stations.specs.Stations.{Drawing, point_of, point_at, one_edge, unchanged, placed, moved, dropped}
use Rattle.stations.specs.Records.{add_kind, move_kind, add_record, move_record, drop_record, old_point, fits_outline, noted, noted_count}
use Rattle.history.specs.declared.Sizes.{Sizes}
use Rattle.history.specs.declared.Frame.{Frame}
use Rattle.history.specs.declared.Measurement.{Measurement}
use Rattle.history.specs.declared.Call.{Call}
use Rattle.history.specs.declared.Call.TheVariants.{Add, Move, Drop, TakeBack, Measure}
use Rattle.history.specs.declared.Done.{Done}
use Rattle.history.specs.declared.Done.TheVariants.{Edited, Measured}

-- ---- opening

-- why opening is refused, if it is: a row is longer than it may be
abbrev pub open_refusal : ℕ → ℕ → Option Refusal
open_refusal stations edits = cond (nat_le stations 4096 && nat_le edits 1024) None (Some RowLength)

-- the frame of an outline with no points, whose rows have these lengths
abbrev pub opened : Winding → ℕ → ℕ → Frame
opened winding stations edits =
    record {
      winding = winding;
      lengths = record { stations = stations; edits = edits };
      counts = record { stations = 0; edits = 0 };
    }

-- ---- what an edit answers and leaves

-- an answer, and the frame and the two rows as they are left
pub record Left (A : Type 0) : Type 0 where
  pub answer : A
  pub frame : Frame
  pub stations : List Station
  pub edits : List EditRecord

abbrev pub left : {A : Type 0} → A → Frame → List Station → List EditRecord → Left A
left answer f stations edits = record { answer = answer; frame = f; stations = stations; edits = edits }

abbrev pub After : Type 0
After = Left (Result Cost Refusal)

abbrev pub lengths_of : List Station → List EditRecord → Sizes
lengths_of stations edits = record { stations = length stations; edits = length edits }

abbrev pub same_lengths : Sizes → Sizes → Bool
same_lengths a b = a.stations == b.stations && a.edits == b.edits

abbrev pub with_counts : Frame → ℕ → ℕ → Frame
with_counts f stations edits =
    record { winding = f.winding; lengths = f.lengths; counts = record { stations = stations; edits = edits } }

-- what stands where a row has no slot
abbrev pub no_record : EditRecord
no_record = record { kind = 0; place = 0; lat = nan; lon = nan }

-- the newest of `count` edit records
abbrev pub newest_of : List EditRecord → ℕ → EditRecord
newest_of edits count = slice_index_or edits (count - 1) no_record

-- the first `count` stations without the edit of a record that fits: an added point is left out, a moved one is moved back, a dropped one is put in again
abbrev pub undrawn : Solve → List Station → ℕ → EditRecord → Drawing
undrawn edge stations count e =
    cond
    (e.kind == add_kind)
    (unchanged stations)
    (cond
    (e.kind == move_kind)
    (moved edge stations count e.place (old_point e))
    (placed edge stations count e.place (old_point e)))

-- how many they are then
abbrev pub undrawn_count : ℕ → EditRecord → ℕ
undrawn_count count e = cond (e.kind == add_kind) (count - 1) (cond (e.kind == move_kind) count (count + 1))

module _ (edge : Solve) (f : Frame) (stations : List Station) (edits : List EditRecord) where
  -- everything is as it was
  abbrev pub refuse : Refusal → After
  refuse e = record { answer = Err e; frame = f; stations = stations; edits = edits }

  -- there are `count` stations now, and the edit is noted
  abbrev pub edited : ℕ → Drawing → EditRecord → After
  edited count drawing e =
      record {
        answer = Ok drawing.cost;
        frame = with_counts f count (noted_count edits f.counts.edits);
        stations = drawing.stations;
        edits = noted edits f.counts.edits e;
      }

  -- where the rows are as long as at opening; otherwise the call is refused
  abbrev pub on_rows : After → After
  on_rows after = cond (same_lengths (lengths_of stations edits) f.lengths) after (refuse RowLength)

  -- ---- the edits

  -- the point stands last
  unfoldable pub add_of : Float → Float → After
  add_of lat lon =
      let count = f.counts.stations in
      on_rows (cond (accepts lat lon) (cond (nat_lt count (length stations)) (edited (count + 1) (placed edge stations count count (record { lat = lat; lon = lon })) (add_record count)) (refuse Full)) (refuse PointOff))

  -- the point stands in the place of another
  unfoldable pub move_of : ℕ → Float → Float → After
  move_of place lat lon =
      let count = f.counts.stations in
      on_rows (cond (nat_lt place count) (cond (accepts lat lon) (edited count (moved edge stations count place (record { lat = lat; lon = lon })) (move_record place (point_at stations place))) (refuse PointOff)) (refuse Place))

  -- the point at a place is gone
  unfoldable pub drop_of : ℕ → After
  drop_of place =
      let count = f.counts.stations in
      on_rows (cond (nat_lt place count) (edited (count - 1) (dropped edge stations count place) (drop_record place (point_at stations place))) (refuse Place))

  -- ---- taking back

  abbrev pub taken_back : EditRecord → After
  taken_back e =
      let drawing = undrawn edge stations f.counts.stations e in
      record {
        answer = Ok drawing.cost;
        frame = with_counts f (undrawn_count f.counts.stations e) (f.counts.edits - 1);
        stations = drawing.stations;
        edits = edits;
      }

  -- the newest edit is undone
  unfoldable pub take_back_of : After
  take_back_of =
      let e = newest_of edits f.counts.edits in
      on_rows (cond (f.counts.edits == 0) (refuse NothingToTakeBack) (cond (fits_outline f.counts.stations (length stations) e) (taken_back e) (refuse UnfitRecord)))

-- ---- measuring

-- the sums over these stations in their order, from 0.0 and 0, with the first and the last point
abbrev pub traverse_of : List Station → Traverse
traverse_of row =
    record {
      num = length row;
      areasum = added_to zero (map (λ (s : Station). s.S12) row);
      perimetersum = added_to zero (map (λ (s : Station). s.s12) row);
      crossings = counted_to (pos 0) (map (λ (s : Station). s.crossing) row);
      initial = first_of (map point_of row);
      latest = last_of (map point_of row);
    }

-- the figures with the closing edge, which is the one that is solved
abbrev pub measured : Solve → Float → Winding → Bool → List Station → Measurement
measured edge whole winding sign row =
    record {
      figures = closed edge whole winding sign (traverse_of row);
      cost = one_edge (solved edge (record { from = last_of (map point_of row); to = first_of (map point_of row) })).evaluations;
    }

unfoldable pub measure_of : Solve → Float → Frame → List Station → List EditRecord → Bool → Result Measurement Refusal
measure_of edge whole f stations edits sign =
    cond (same_lengths (lengths_of stations edits) f.lengths) (Ok (measured edge whole f.winding sign (take f.counts.stations stations))) (Err RowLength)

-- ---- any call

-- what a call did, or why it is refused
abbrev pub Answer : Type 0
Answer = Result Done Refusal

abbrev pub Outcome : Type 0
Outcome = Left Answer

abbrev pub answer_by : {A : Type 0} → (A → Done) → Result A Refusal → Answer
answer_by done = result_map_both done (λ e. e)

abbrev pub edit_answer : Result Cost Refusal → Answer
edit_answer = answer_by Edited

abbrev pub measure_answer : Result Measurement Refusal → Answer
measure_answer = answer_by Measured

abbrev pub done_by : After → Outcome
done_by a =
    record { answer = edit_answer a.answer; frame = a.frame; stations = a.stations; edits = a.edits }

abbrev pub done_of : Solve → Float → Frame → List Station → List EditRecord → Call → Outcome
done_of edge whole f stations edits (Add lat lon) = done_by (add_of edge f stations edits lat lon)
done_of edge whole f stations edits (Move place lat lon) = done_by (move_of edge f stations edits place lat lon)
done_of edge whole f stations edits (Drop place) = done_by (drop_of edge f stations edits place)
done_of edge whole f stations edits TakeBack = done_by (take_back_of edge f stations edits)
done_of edge whole f stations edits (Measure sign) =
    record {
      answer = measure_answer (measure_of edge whole f stations edits sign);
      frame = f;
      stations = stations;
      edits = edits;
    }
