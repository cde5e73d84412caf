-- A refused call leaves the frame and both rows as they were.
use Rattle.std.proofs.Common.{◌≡◌, ℕ, ◌+◌, ◌-◌, Bool, true, false, cond, eqb, ltb, List, length, Some, Ok, Err, Result, refl, ap}
use lib.Ieee.{Float}
use Rattle.geomath.specs.Angles.{accepts}
use Rattle.surface.specs.declared.refusals.Refusal.{Refusal}
use Rattle.surface.specs.declared.refusals.Refusal.TheVariants.{Point as PointOff, RowLength, Full, Place, NothingToTakeBack, UnfitRecord}
use Rattle.polygon.specs.Polygons.{Solve}
use Rattle.stations.specs.declared.Station.{Station}
use Rattle.stations.specs.declared.Cost.{Cost}
use Rattle.stations.specs.declared.records.EditRecord.{EditRecord}
use Rattle.stations.specs.Stations.{Drawing, point_at, placed, moved, dropped}
use Rattle.stations.specs.Records.{add_record, move_record, drop_record, fits_outline}
use Rattle.history.specs.declared.Frame.{Frame}
use Rattle.history.specs.declared.Measurement.{Measurement}
use Rattle.history.specs.declared.Call.{Call}
use Rattle.history.specs.declared.Call.TheVariants.{Add, Move, Drop, TakeBack, Measure}
use Rattle.history.specs.Calls.{Answer, After, lengths_of, same_lengths, newest_of, undrawn, refuse, edited, on_rows, taken_back, add_of, move_of, drop_of, take_back_of, measure_of, edit_answer, measure_answer, done_by, done_of}
use Rattle.history.specs.Histories.{refusal_in}

module _ (edge : Solve) (f : Frame) (stations : List Station) (edits : List EditRecord) where
  -- nothing is changed where a refusal is answered
  Keeps : After → Type 0
  Keeps a = (e : Refusal) → refusal_in (edit_answer a.answer) ≡ Some e → done_by a ≡ record { answer = Err e; frame = f; stations = stations; edits = edits }

  keeps_refuse : (e : Refusal) → Keeps (refuse edge f stations edits e)
  unfolding Keeps
  keeps_refuse e d is =
      let same : e ≡ d = cc in
      ap (λ (x : Refusal). record { answer = Err x; frame = f; stations = stations; edits = edits }) same

  keeps_done : (a : After) (cost : Cost) → a.answer ≡ Ok cost → Keeps a
  unfolding Keeps
  keeps_done a cost is e refused = absurd (cc)

  keeps_cond : (b : Bool) (x y : After) → Keeps x → Keeps y → Keeps (cond b x y)
  keeps_cond true x y kx ky = kx
  keeps_cond false x y kx ky = ky

  -- the test of the rows stands first
  keeps_rows : (a : After) → Keeps a → Keeps (on_rows edge f stations edits a)
  keeps_rows a k = keeps_cond (same_lengths (lengths_of stations edits) f.lengths) a (refuse edge f stations edits RowLength) k (keeps_refuse RowLength)

  -- an edit that is granted, else refused
  keeps_if : (b : Bool) (x : After) (e : Refusal) → Keeps x → Keeps (cond b x (refuse edge f stations edits e))
  keeps_if b x e k = keeps_cond b x (refuse edge f stations edits e) k (keeps_refuse e)

  keeps_edited : (count : ℕ) (drawing : Drawing) (e : EditRecord) → Keeps (edited edge f stations edits count drawing e)
  keeps_edited count drawing e = keeps_done (edited edge f stations edits count drawing e) drawing.cost refl

  keeps_add : (lat lon : Float) → Keeps (add_of edge f stations edits lat lon)
  unfolding add_of
  keeps_add lat lon =
      let count = f.counts.stations in
      let made = edited edge f stations edits (count + 1) (placed edge stations count count (record { lat = lat; lon = lon })) (add_record count) in
      let here = cond (ltb count (length stations)) made (refuse edge f stations edits Full) in
      keeps_rows (cond (accepts lat lon) here (refuse edge f stations edits PointOff))
      (keeps_if (accepts lat lon) here PointOff
      (keeps_if (ltb count (length stations)) made Full (keeps_edited (count + 1) (placed edge stations count count (record { lat = lat; lon = lon })) (add_record count))))

  keeps_move : (place : ℕ) (lat lon : Float) → Keeps (move_of edge f stations edits place lat lon)
  unfolding move_of
  keeps_move place lat lon =
      let count = f.counts.stations in
      let made = edited edge f stations edits count (moved edge stations count place (record { lat = lat; lon = lon })) (move_record place (point_at stations place)) in
      let here = cond (accepts lat lon) made (refuse edge f stations edits PointOff) in
      keeps_rows (cond (ltb place count) here (refuse edge f stations edits Place))
      (keeps_if (ltb place count) here Place
      (keeps_if (accepts lat lon) made PointOff (keeps_edited count (moved edge stations count place (record { lat = lat; lon = lon })) (move_record place (point_at stations place)))))

  keeps_drop : (place : ℕ) → Keeps (drop_of edge f stations edits place)
  unfolding drop_of
  keeps_drop place =
      let count = f.counts.stations in
      let made = edited edge f stations edits (count - 1) (dropped edge stations count place) (drop_record place (point_at stations place)) in
      keeps_rows (cond (ltb place count) made (refuse edge f stations edits Place))
      (keeps_if (ltb place count) made Place (keeps_edited (count - 1) (dropped edge stations count place) (drop_record place (point_at stations place))))

  keeps_take_back : Keeps (take_back_of edge f stations edits)
  unfolding take_back_of
  keeps_take_back =
      let e = newest_of edits f.counts.edits in
      let made = taken_back edge f stations edits e in
      let fits = fits_outline f.counts.stations (length stations) e in
      let here = cond fits made (refuse edge f stations edits UnfitRecord) in
      keeps_rows (cond (eqb f.counts.edits 0) (refuse edge f stations edits NothingToTakeBack) here)
      (keeps_cond (eqb f.counts.edits 0) (refuse edge f stations edits NothingToTakeBack) here (keeps_refuse NothingToTakeBack)
      (keeps_if fits made UnfitRecord (keeps_done made (undrawn edge stations f.counts.stations e).cost refl)))

  keeps_measure : (r : Result Measurement Refusal) (e : Refusal) → refusal_in (measure_answer r) ≡ Some e → measure_answer r ≡ Err e
  keeps_measure (Ok m) e is = absurd (cc)
  keeps_measure (Err d) e is = let same : d ≡ e = cc in ap Err same

pub refused_same : (edge : Solve) (whole : Float) (f : Frame) (stations : List Station) (edits : List EditRecord) (call : Call) (e : Refusal) → refusal_in (done_of edge whole f stations edits call).answer ≡ Some e → done_of edge whole f stations edits call ≡ record { answer = Err e; frame = f; stations = stations; edits = edits }
unfolding Keeps
refused_same edge whole f stations edits (Add lat lon) e is = keeps_add edge f stations edits lat lon e is
refused_same edge whole f stations edits (Move place lat lon) e is = keeps_move edge f stations edits place lat lon e is
refused_same edge whole f stations edits (Drop place) e is = keeps_drop edge f stations edits place e is
refused_same edge whole f stations edits TakeBack e is = keeps_take_back edge f stations edits e is
refused_same edge whole f stations edits (Measure sign) e is =
    ap (λ (a : Answer). record { answer = a; frame = f; stations = stations; edits = edits }) (keeps_measure edge f stations edits (measure_of edge whole f stations edits sign) e is)
