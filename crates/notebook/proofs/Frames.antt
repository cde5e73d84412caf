-- No call changes the winding of an outline, or what it keeps of the lengths of its rows.
use Rattle.std.proofs.Common.{◌≡◌, ℕ, ◌+◌, ◌-◌, Bool, true, false, cond, List, length, Float, refl, eqb, nat_lt}
use Rattle.geomath.specs.Angles.{accepts}
use Rattle.surface.specs.declared.refusals.Refusal.{Refusal}
use Rattle.surface.specs.declared.refusals.Refusal.TheVariants.{Point as PointOff, RowLength, Full, Place, NothingToTakeBack, UnfitRecord}
use Rattle.polygon.specs.Polygons.{Solve}
use Rattle.stations.specs.declared.Station.{Station}
use Rattle.stations.specs.declared.records.EditRecord.{EditRecord}
use Rattle.stations.specs.Stations.{point_at, placed, moved, dropped}
use Rattle.stations.specs.Records.{add_record, move_record, drop_record, fits_outline}
use Rattle.history.specs.declared.Frame.{Frame}
use Rattle.history.specs.declared.Call.{Call}
use Rattle.history.specs.declared.Call.TheVariants.{Add, Move, Drop, TakeBack, Measure}
use Rattle.history.specs.Calls.{After, lengths_of, same_lengths, newest_of, refuse, edited, on_rows, taken_back, add_of, move_of, drop_of, take_back_of, done_of}

pub record Keeps (f after : Frame) : Type 0 where
  pub winding : after.winding ≡ f.winding
  pub lengths : after.lengths ≡ f.lengths

either : (f : Frame) (b : Bool) (x y : After) → Keeps f x.frame → Keeps f y.frame → Keeps f (cond b x y).frame
either f true x y h k = h
either f false x y h k = k

module _ (edge : Solve) (f : Frame) (stations : List Station) (edits : List EditRecord) where
  unless : (b : Bool) (x : After) (e : Refusal) → Keeps f x.frame → Keeps f (cond b x (refuse edge f stations edits e)).frame
  unless b x e h = either f b x (refuse edge f stations edits e) h (record { winding = refl; lengths = refl })

  on_rows_keeps : (x : After) → Keeps f x.frame → Keeps f (on_rows edge f stations edits x).frame
  on_rows_keeps x h = unless (same_lengths (lengths_of stations edits) f.lengths) x RowLength h

  add_keeps : (lat lon : Float) → Keeps f (add_of edge f stations edits lat lon).frame
  unfolding add_of
  add_keeps lat lon =
      let count : ℕ = f.counts.stations in
      let done : After = edited edge f stations edits (count + 1) (placed edge stations count count (record { lat = lat; lon = lon })) (add_record count) in
      let fits : After = cond (nat_lt count (length stations)) done (refuse edge f stations edits Full) in
      on_rows_keeps (cond (accepts lat lon) fits (refuse edge f stations edits PointOff))
      (unless (accepts lat lon) fits PointOff (unless (nat_lt count (length stations)) done Full (record { winding = refl; lengths = refl })))

  move_keeps : (place : ℕ) (lat lon : Float) → Keeps f (move_of edge f stations edits place lat lon).frame
  unfolding move_of
  move_keeps place lat lon =
      let count : ℕ = f.counts.stations in
      let done : After = edited edge f stations edits count (moved edge stations count place (record { lat = lat; lon = lon })) (move_record place (point_at stations place)) in
      let stands : After = cond (accepts lat lon) done (refuse edge f stations edits PointOff) in
      on_rows_keeps (cond (nat_lt place count) stands (refuse edge f stations edits Place))
      (unless (nat_lt place count) stands Place (unless (accepts lat lon) done PointOff (record { winding = refl; lengths = refl })))

  drop_keeps : (place : ℕ) → Keeps f (drop_of edge f stations edits place).frame
  unfolding drop_of
  drop_keeps place =
      let count : ℕ = f.counts.stations in
      let done : After = edited edge f stations edits (count - 1) (dropped edge stations count place) (drop_record place (point_at stations place)) in
      on_rows_keeps (cond (nat_lt place count) done (refuse edge f stations edits Place))
      (unless (nat_lt place count) done Place (record { winding = refl; lengths = refl }))

  take_back_keeps : Keeps f (take_back_of edge f stations edits).frame
  unfolding take_back_of
  take_back_keeps =
      let e : EditRecord = newest_of edits f.counts.edits in
      let none : Bool = eqb f.counts.edits 0 in
      let fits : Bool = fits_outline f.counts.stations (length stations) e in
      let undone : After = cond fits (taken_back edge f stations edits e) (refuse edge f stations edits UnfitRecord) in
      on_rows_keeps (cond none (refuse edge f stations edits NothingToTakeBack) undone)
      (either f none (refuse edge f stations edits NothingToTakeBack) undone (record { winding = refl; lengths = refl })
      (unless fits (taken_back edge f stations edits e) UnfitRecord (record { winding = refl; lengths = refl })))

  pub frame_kept : (whole : Float) (call : Call) → Keeps f (done_of edge whole f stations edits call).frame
  frame_kept whole (Add lat lon) = add_keeps lat lon
  frame_kept whole (Move place lat lon) = move_keeps place lat lon
  frame_kept whole (Drop place) = drop_keeps place
  frame_kept whole TakeBack = take_back_keeps
  frame_kept whole (Measure sign) = record { winding = refl; lengths = refl }
