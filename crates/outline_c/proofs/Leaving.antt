-- An edit of the outline that is kept answers and leaves what the definition of the call from C says, and leaves everything where it is refused. Assumes nothing.
use Rattle.std.proofs.Common.{◌≡◌, ℕ, ◌+◌, ◌-◌, Bool, true, false, cond, eqb, ltb, List, length, Some, None, Ok, Err, Option, Result, refl, ap, ◌∙◌}
use lib.Ieee.{Float}
use Rattle.geomath.specs.Angles.{accepts}
use Rattle.surface.specs.declared.refusals.Refusal.{Refusal}
use Rattle.surface.specs.declared.refusals.Refusal.TheVariants.{Point as PointOff, RowLength, Full, Place, NothingToTakeBack, UnfitRecord}
use Rattle.polygon.specs.Polygons.{Solve}
use Rattle.stations.specs.declared.Cost.{Cost}
use Rattle.stations.specs.declared.Station.{Station}
use Rattle.stations.specs.declared.records.EditRecord.{EditRecord}
use Rattle.history.specs.declared.Frame.{Frame}
use Rattle.stations.specs.Stations.{Drawing, point_at, placed, moved, dropped}
use Rattle.stations.specs.Records.{add_record, move_record, drop_record, fits_outline}
use Rattle.history.specs.Calls.{After, lengths_of, same_lengths, refuse, edited, on_rows, newest_of, undrawn, taken_back, add_of, move_of, drop_of, take_back_of}
use Rattle.earth.specs.declared.grounds.Ground.{Ground}
use Rattle.earth.specs.Grounds.{edges_on}
use Rattle.outline_c.specs.declared.faults.Fault.{Fault}
use Rattle.outline_c.specs.declared.kept.KeptOutline.{KeptOutline}
use Rattle.outline_c.specs.Faults.{faulted, told_code, written}
use Rattle.outline_c.specs.Grounds.{edges_of}
use Rattle.outline_c.specs.Kept.{frame_of, kept_fault, kept_with, TakenUp}
use Rattle.outline_c.specs.Exports.{left_by, edit_left, Leaves, Stayed}

-- ---- a refused call leaves everything

module _ (f : Frame) (stations : List Station) (edits : List EditRecord) where
  unfoldable pub Stays : After → Type 0
  Stays a =
      (told_code (faulted a.answer) ≡ 0 → ⊥) → (a.frame ≡ f) × (a.stations ≡ stations) × (a.edits ≡ edits)

  ok_stays : (a : After) (cost : Cost) → a.answer ≡ Ok cost → Stays a
  unfolding Stays
  ok_stays a cost is = λ faulty. absurd (faulty (ap (λ r. told_code (faulted r)) is))

  refuse_stays : (edge : Solve) (e : Refusal) → Stays (refuse edge f stations edits e)
  unfolding Stays
  refuse_stays edge e = λ faulty. (refl, refl, refl)

  cond_stays : (b : Bool) (x y : After) → Stays x → Stays y → Stays (cond b x y)
  unfolding Stays
  cond_stays b x y first second = elim b as (λ v. Stays (cond v x y)) [ true ↦ first | false ↦ second ]

  module _ (edge : Solve) where
    on_rows_stays : (a : After) → Stays a → Stays (on_rows edge f stations edits a)
    on_rows_stays a is =
        cond_stays (same_lengths (lengths_of stations edits) f.lengths) a (refuse edge f stations edits RowLength) is (refuse_stays edge RowLength)

    edited_stays : (count : ℕ) (d : Drawing) (e : EditRecord) → Stays (edited edge f stations edits count d e)
    edited_stays count d e = ok_stays (edited edge f stations edits count d e) d.cost refl

    pub add_stays : (lat lon : Float) → Stays (add_of edge f stations edits lat lon)
    unfolding add_of
    add_stays lat lon =
        let count = f.counts.stations in
        let done = edited edge f stations edits (count + 1) (placed edge stations count count (record { lat = lat; lon = lon })) (add_record count) in
        let full = refuse edge f stations edits Full in
        let off = refuse edge f stations edits PointOff in
        on_rows_stays (cond (accepts lat lon) (cond (ltb count (length stations)) done full) off) (cond_stays (accepts lat lon) (cond (ltb count (length stations)) done full) off (cond_stays (ltb count (length stations)) done full (edited_stays (count + 1) (placed edge stations count count (record { lat = lat; lon = lon })) (add_record count)) (refuse_stays edge Full)) (refuse_stays edge PointOff))

    pub move_stays : (place : ℕ) (lat lon : Float) → Stays (move_of edge f stations edits place lat lon)
    unfolding move_of
    move_stays place lat lon =
        let count = f.counts.stations in
        let drawing = moved edge stations count place (record { lat = lat; lon = lon }) in
        let note = move_record place (point_at stations place) in
        let done = edited edge f stations edits count drawing note in
        let off = refuse edge f stations edits PointOff in
        let above = refuse edge f stations edits Place in
        on_rows_stays (cond (ltb place count) (cond (accepts lat lon) done off) above) (cond_stays (ltb place count) (cond (accepts lat lon) done off) above (cond_stays (accepts lat lon) done off (edited_stays count drawing note) (refuse_stays edge PointOff)) (refuse_stays edge Place))

    pub drop_stays : (place : ℕ) → Stays (drop_of edge f stations edits place)
    unfolding drop_of
    drop_stays place =
        let count = f.counts.stations in
        let drawing = dropped edge stations count place in
        let note = drop_record place (point_at stations place) in
        let done = edited edge f stations edits (count - 1) drawing note in
        let above = refuse edge f stations edits Place in
        on_rows_stays (cond (ltb place count) done above) (cond_stays (ltb place count) done above (edited_stays (count - 1) drawing note) (refuse_stays edge Place))

    pub take_back_stays : Stays (take_back_of edge f stations edits)
    unfolding take_back_of
    take_back_stays =
        let e = newest_of edits f.counts.edits in
        let none = refuse edge f stations edits NothingToTakeBack in
        let unfit = refuse edge f stations edits UnfitRecord in
        let done = taken_back edge f stations edits e in
        let fits = fits_outline f.counts.stations (length stations) e in
        on_rows_stays (cond (eqb f.counts.edits 0) none (cond fits done unfit)) (cond_stays (eqb f.counts.edits 0) none (cond fits done unfit) (refuse_stays edge NothingToTakeBack) (cond_stays fits done unfit (ok_stays done (undrawn edge stations f.counts.stations e).cost refl) (refuse_stays edge UnfitRecord)))

written_stays : (cost : Cost) (r : Result Cost Refusal) → (told_code (faulted r) ≡ 0 → ⊥) → written cost (faulted r) ≡ cost
written_stays cost (Ok spent) = λ faulty. absurd (faulty refl)
written_stays cost (Err e) = λ faulty. refl

-- ---- an edit, and the call from C that makes it

module _ (k : KeptOutline) (stations : List Station) (edits : List EditRecord) (call : Solve → Frame → After) where
  -- the call was made on an outline that is the one kept
  pub record Done (answer : Result Cost Fault) (k-after : KeptOutline) (row-after : List Station) (records-after : List EditRecord) : Type 0 where
    pub on : Ground
    pub frame : Frame
    pub up : TakenUp k on frame
    pub told : answer ≡ faulted (call (edges_on on) frame).answer
    pub kept : k-after ≡ kept_with k (call (edges_on on) frame).frame.counts
    pub row : row-after ≡ (call (edges_on on) frame).stations
    pub records : records-after ≡ (call (edges_on on) frame).edits

  -- nothing was done
  pub record Undone (e : Fault) (answer : Result Cost Fault) (k-after : KeptOutline) (row-after : List Station) (records-after : List EditRecord) : Type 0 where
    pub told : answer ≡ Err e
    pub kept : k-after ≡ k
    pub row : row-after ≡ stations
    pub records : records-after ≡ edits

  module _ (before : Cost) (answer : Result Cost Fault) (number : ℕ) (k-after : KeptOutline) (row-after : List Station) (records-after : List EditRecord) (spent : Cost) where
    leaves_at : (o : Option Fault) → kept_fault k ≡ o → (kept_fault k ≡ None → Done answer k-after row-after records-after) → ((e : Fault) → kept_fault k ≡ Some e → Undone e answer k-after row-after records-after) → number ≡ told_code answer → spent ≡ written before answer → Leaves (left_by k stations edits o (call (edges_of k.surface k.scale) (frame_of k))) before number k-after row-after records-after spent
    leaves_at None is done undone code cost =
        let d = done is in
        let same : call (edges_on d.on) d.frame ≡ call (edges_of k.surface k.scale) (frame_of k) = ap (λ (e : Solve). call e d.frame) d.up.edges ∙ ap (call (edges_of k.surface k.scale)) d.up.frame in
        let told = d.told ∙ ap (λ (a : After). faulted a.answer) same in
        record {
          code = code ∙ ap told_code told;
          kept = d.kept ∙ ap (λ (a : After). kept_with k a.frame.counts) same;
          stations = d.row ∙ ap (λ (a : After). a.stations) same;
          edits = d.records ∙ ap (λ (a : After). a.edits) same;
          cost = cost ∙ ap (written before) told;
        }
    leaves_at (Some e) is done undone code cost =
        let u = undone e is in
        record {
          code = code ∙ ap told_code u.told;
          kept = u.kept;
          stations = u.row;
          edits = u.records;
          cost = cost ∙ ap (written before) u.told;
        }

    stayed_at : (o : Option Fault) → Stays (frame_of k) stations edits (call (edges_of k.surface k.scale) (frame_of k)) → Leaves (left_by k stations edits o (call (edges_of k.surface k.scale) (frame_of k))) before number k-after row-after records-after spent → (number ≡ 0 → ⊥) → Stayed k k-after stations row-after edits records-after before spent
    unfolding Stays
    stayed_at None stays left faulty =
        let a = call (edges_of k.surface k.scale) (frame_of k) in
        let refused : told_code (faulted a.answer) ≡ 0 → ⊥ = λ is. faulty (left.code ∙ is) in
        let same = stays refused in
        record {
          kept = left.kept ∙ ap (λ (f : Frame). kept_with k f.counts) same.0;
          stations = left.stations ∙ same.1;
          edits = left.edits ∙ same.2;
          cost = left.cost ∙ written_stays before a.answer refused;
        }
    stayed_at (Some e) stays left faulty =
        record { kept = left.kept; stations = left.stations; edits = left.edits; cost = left.cost }

    pub leaves : (kept_fault k ≡ None → Done answer k-after row-after records-after) → ((e : Fault) → kept_fault k ≡ Some e → Undone e answer k-after row-after records-after) → number ≡ told_code answer → spent ≡ written before answer → Leaves (edit_left k stations edits call) before number k-after row-after records-after spent
    leaves = leaves_at (kept_fault k) refl

    -- where it is refused, everything stays
    pub stayed : Stays (frame_of k) stations edits (call (edges_of k.surface k.scale) (frame_of k)) → Leaves (edit_left k stations edits call) before number k-after row-after records-after spent → (number ≡ 0 → ⊥) → Stayed k k-after stations row-after edits records-after before spent
    stayed = stayed_at (kept_fault k)
