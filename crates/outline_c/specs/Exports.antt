-- What each call from C answers and leaves: its answer, the outline that is kept and the rows. Assumes nothing.
use Rattle.std.specs.Prelude.{◌≡◌, ℕ, Bool, List, Some, None, Ok, Err, Option, Result, Float}
use Rattle.functions.specs.Series.{series}
use Rattle.inverse.specs.declared.problem.Directions.{Directions}
use Rattle.inverse.specs.declared.problem.Inverse.{Inverse}
use Rattle.inverse.specs.Inverse.{inverse}
use Rattle.earth.specs.Wgs84.{wgs84}
use Rattle.geodesic.specs.Answers.{answered}
use Rattle.polygon.specs.Polygons.{Solve}
use Rattle.stations.specs.declared.Cost.{Cost}
use Rattle.stations.specs.declared.Station.{Station}
use Rattle.stations.specs.declared.records.EditRecord.{EditRecord}
use Rattle.history.specs.declared.Frame.{Frame}
use Rattle.history.specs.declared.Measurement.{Measurement}
use Rattle.history.specs.Calls.{After, open_refusal, add_of, move_of, drop_of, take_back_of, measure_of}
use Rattle.outline_c.specs.declared.faults.Fault.{Fault}
use Rattle.outline_c.specs.declared.figures.InverseFigures.{InverseFigures}
use Rattle.outline_c.specs.declared.kept.KeptOutline.{KeptOutline}
use Rattle.outline_c.specs.Faults.{fault_of, faulted, unless_fault, first_fault, told_code, written}
use Rattle.outline_c.specs.Grounds.{edges_of, whole_of, ground_fault}
use Rattle.outline_c.specs.Kept.{winding_fault, frame_of, kept_fault, kept_with}

-- ---- opening

abbrev pub open_fault : ℕ → Float → ℕ → ℕ → ℕ → Option Fault
open_fault surface scale winding stations edits =
    first_fault (ground_fault surface scale) (first_fault (winding_fault winding) (fault_of (open_refusal stations edits)))

-- an outline with no points
abbrev pub opened_kept : ℕ → Float → ℕ → ℕ → ℕ → KeptOutline
opened_kept surface scale winding stations edits =
    record {
      scale = scale;
      surface = surface;
      winding = winding;
      lengths = record { stations = stations; edits = edits };
      counts = record { stations = 0; edits = 0 };
    }

-- the outline that is kept from then on, or the fault
abbrev pub opened : ℕ → Float → ℕ → ℕ → ℕ → Result KeptOutline Fault
opened surface scale winding stations edits =
    unless_fault (open_fault surface scale winding stations edits) (Ok (opened_kept surface scale winding stations edits))

-- ---- the edits

pub record Left : Type 0 where
  pub answer : Result Cost Fault
  pub kept : KeptOutline
  pub stations : List Station
  pub edits : List EditRecord

module _ (k : KeptOutline) (stations : List Station) (edits : List EditRecord) where
  -- where the kept outline can be taken up, what the call on it leaves; otherwise everything stays
  abbrev pub left_by : Option Fault → After → Left
  left_by None a =
      record { answer = faulted a.answer; kept = kept_with k a.frame.counts; stations = a.stations; edits = a.edits }
  left_by (Some fault) a = record { answer = Err fault; kept = k; stations = stations; edits = edits }

  abbrev pub edit_left : (Solve → Frame → After) → Left
  edit_left call = left_by (kept_fault k) (call (edges_of k.surface k.scale) (frame_of k))

  unfoldable pub add_left : Float → Float → Left
  add_left lat lon = edit_left (λ edge f. add_of edge f stations edits lat lon)

  unfoldable pub move_left : ℕ → Float → Float → Left
  move_left place lat lon = edit_left (λ edge f. move_of edge f stations edits place lat lon)

  unfoldable pub drop_left : ℕ → Left
  drop_left place = edit_left (λ edge f. drop_of edge f stations edits place)

  unfoldable pub take_back_left : Left
  take_back_left = edit_left (λ edge f. take_back_of edge f stations edits)

-- a call from C tells its answer, by a code and a cost, and leaves the rest
pub record Leaves (left : Left) (before : Cost) (number : ℕ) (k-after : KeptOutline) (row-after : List Station) (records-after : List EditRecord) (spent : Cost) : Type 0 where
  pub code : number ≡ told_code left.answer
  pub kept : k-after ≡ left.kept
  pub stations : row-after ≡ left.stations
  pub edits : records-after ≡ left.edits
  pub cost : spent ≡ written before left.answer

-- everything is as it was
pub record Stayed (k k-after : KeptOutline) (row row-after : List Station) (records records-after : List EditRecord) (spent spent-after : Cost) : Type 0 where
  pub kept : k-after ≡ k
  pub stations : row-after ≡ row
  pub edits : records-after ≡ records
  pub cost : spent-after ≡ spent

-- ---- figures

abbrev pub measured_on : KeptOutline → List Station → List EditRecord → Bool → Result Measurement Fault
measured_on k stations edits sign =
    unless_fault (kept_fault k) (faulted (measure_of (edges_of k.surface k.scale) (whole_of k.surface k.scale) (frame_of k) stations edits sign))

-- an inverse as C knows it
abbrev pub figures_from : Inverse Directions → InverseFigures
figures_from r =
    record {
      a12 = r.a12;
      s12 = r.s12;
      directions = r.directions;
      m12 = r.m12;
      M12 = r.M12;
      M21 = r.M21;
      S12 = r.S12;
      evaluations = r.evaluations;
    }

-- the inverse on the WGS84 ellipsoid over the series set
abbrev pub inverse_of : Float → Float → Float → Float → ℕ → Result InverseFigures Fault
inverse_of lat1 lon1 lat2 lon2 mask =
    faulted (answered lat1 lon1 lat2 lon2 (figures_from (inverse series wgs84 mask lat1 lon1 lat2 lon2)))
