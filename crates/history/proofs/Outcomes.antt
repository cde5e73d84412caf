-- What each call comes to, test by test in the order of its checks.
use Rattle.std.proofs.Common.{◌≡◌, ℕ, ◌+◌, ◌-◌, ◌<◌, ◌≤◌, Bool, true, false, eqb, List, length, take, Ok, Err}
use lib.Ieee.{Float}
use Rattle.std.proofs.lemmas.Bool.{lt-ltb, le-ltb}
use Rattle.geomath.specs.Angles.{accepts}
use Rattle.surface.specs.declared.refusals.Refusal.TheVariants.{Point as PointOff, RowLength, Full, Place, NothingToTakeBack, UnfitRecord}
use Rattle.polygon.specs.Polygons.{Solve}
use Rattle.stations.specs.declared.Station.{Station}
use Rattle.stations.specs.declared.records.EditRecord.{EditRecord}
use Rattle.stations.specs.Stations.{point_at, placed, moved, dropped}
use Rattle.stations.specs.Records.{add_record, move_record, drop_record, fits_outline}
use Rattle.history.specs.declared.Frame.{Frame}
use Rattle.history.specs.Calls.{lengths_of, same_lengths, refuse, edited, newest_of, taken_back, add_of, move_of, drop_of, take_back_of, measured, measure_of}

module _ (edge : Solve) (f : Frame) (stations : List Station) (edits : List EditRecord) where
  module _ (other : same_lengths (lengths_of stations edits) f.lengths ≡ false) where
    pub add-lengths : (lat lon : Float) → add_of edge f stations edits lat lon ≡ refuse edge f stations edits RowLength
    unfolding add_of
    add-lengths lat lon = rw other

    pub move_lengths : (place : ℕ) (lat lon : Float) → move_of edge f stations edits place lat lon ≡ refuse edge f stations edits RowLength
    unfolding move_of
    move_lengths place lat lon = rw other

    pub drop-lengths : (place : ℕ) → drop_of edge f stations edits place ≡ refuse edge f stations edits RowLength
    unfolding drop_of
    drop-lengths place = rw other

    pub take_back_lengths : take_back_of edge f stations edits ≡ refuse edge f stations edits RowLength
    unfolding take_back_of
    take_back_lengths = rw other

    pub measure_lengths : (whole : Float) (sign : Bool) → measure_of edge whole f stations edits sign ≡ Err RowLength
    unfolding measure_of
    measure_lengths whole sign = rw other

  module _ (same : same_lengths (lengths_of stations edits) f.lengths ≡ true) where
    -- ---- add

    pub add_off : (lat lon : Float) → accepts lat lon ≡ false → add_of edge f stations edits lat lon ≡ refuse edge f stations edits PointOff
    unfolding add_of
    add_off lat lon off = rw (same, off)

    pub add-full : (lat lon : Float) → accepts lat lon ≡ true → length stations ≤ f.counts.stations → add_of edge f stations edits lat lon ≡ refuse edge f stations edits Full
    unfolding add_of
    add-full lat lon on full = rw (same, on, le-ltb f.counts.stations (length stations) full)

    pub add_done : (lat lon : Float) → accepts lat lon ≡ true → f.counts.stations < length stations → add_of edge f stations edits lat lon ≡ edited edge f stations edits (f.counts.stations + 1) (placed edge stations f.counts.stations f.counts.stations (record { lat = lat; lon = lon })) (add_record f.counts.stations)
    unfolding add_of
    add_done lat lon on room = rw (same, on, lt-ltb f.counts.stations (length stations) room)

    -- ---- move

    pub move_above : (place : ℕ) (lat lon : Float) → f.counts.stations ≤ place → move_of edge f stations edits place lat lon ≡ refuse edge f stations edits Place
    unfolding move_of
    move_above place lat lon above = rw (same, le-ltb place f.counts.stations above)

    pub move_off : (place : ℕ) (lat lon : Float) → place < f.counts.stations → accepts lat lon ≡ false → move_of edge f stations edits place lat lon ≡ refuse edge f stations edits PointOff
    unfolding move_of
    move_off place lat lon low off = rw (same, lt-ltb place f.counts.stations low, off)

    pub move_done : (place : ℕ) (lat lon : Float) → place < f.counts.stations → accepts lat lon ≡ true → move_of edge f stations edits place lat lon ≡ edited edge f stations edits f.counts.stations (moved edge stations f.counts.stations place (record { lat = lat; lon = lon })) (move_record place (point_at stations place))
    unfolding move_of
    move_done place lat lon low on = rw (same, lt-ltb place f.counts.stations low, on)

    -- ---- drop

    pub drop_above : (place : ℕ) → f.counts.stations ≤ place → drop_of edge f stations edits place ≡ refuse edge f stations edits Place
    unfolding drop_of
    drop_above place above = rw (same, le-ltb place f.counts.stations above)

    pub drop_done : (place : ℕ) → place < f.counts.stations → drop_of edge f stations edits place ≡ edited edge f stations edits (f.counts.stations - 1) (dropped edge stations f.counts.stations place) (drop_record place (point_at stations place))
    unfolding drop_of
    drop_done place low = rw (same, lt-ltb place f.counts.stations low)

    -- ---- take back

    pub take_back_none : eqb f.counts.edits 0 ≡ true → take_back_of edge f stations edits ≡ refuse edge f stations edits NothingToTakeBack
    unfolding take_back_of
    take_back_none none = rw (same, none)

    pub take_back_unfit : eqb f.counts.edits 0 ≡ false → fits_outline f.counts.stations (length stations) (newest_of edits f.counts.edits) ≡ false → take_back_of edge f stations edits ≡ refuse edge f stations edits UnfitRecord
    unfolding take_back_of
    take_back_unfit some unfit = rw (same, some, unfit)

    pub take_back_done : eqb f.counts.edits 0 ≡ false → fits_outline f.counts.stations (length stations) (newest_of edits f.counts.edits) ≡ true → take_back_of edge f stations edits ≡ taken_back edge f stations edits (newest_of edits f.counts.edits)
    unfolding take_back_of
    take_back_done some fit = rw (same, some, fit)

    -- ---- measure

    pub measure_done : (whole : Float) (sign : Bool) → measure_of edge whole f stations edits sign ≡ Ok (measured edge whole f.winding sign (take f.counts.stations stations))
    unfolding measure_of
    measure_done whole sign = rw same
