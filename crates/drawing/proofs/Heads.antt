-- What a sheet comes to by its header: a fault, a surface that is refused, or the sheet on its surface.
use Rattle.std.proofs.Common.{◌≡◌, ℕ, List, IfOk, Some, None, Ok, Err, Option, Result, sym, ap, ◌∙◌, subst}
use lib.Ieee.{Float}
use Rattle.geomath.specs.Angles.{one}
use Rattle.functions.specs.Series.{series}
use Rattle.surface.specs.declared.refusals.Refusal.{Refusal}
use Rattle.surface.specs.Plates.{plate_edge, plate_area, plate_refusal}
use Rattle.ellipsoid.specs.declared.shape.Ellipsoid.{Ellipsoid}
use Rattle.ellipsoid.specs.Ellipsoids.{ellipsoid, whole_of, wgs84_a, wgs84_f}
use Rattle.geodesic.specs.Answers.{edge_of}
use Rattle.geodesic.specs.Shapes.{shape_refusal}
use Rattle.history.specs.Calls.{lengths_of}
use Rattle.polygon.specs.Polygons.{Solve}
use Rattle.stations.specs.declared.Station.{Station}
use Rattle.stations.specs.declared.records.EditRecord.{EditRecord}
use Rattle.packed.specs.declared.faults.EditFault.{EditFault}
use Rattle.packed.specs.declared.faults.FieldFault.{FieldFault}
use Rattle.packed.specs.declared.faults.SheetFault.{SheetFault}
use Rattle.packed.specs.declared.faults.SheetFault.TheVariants.{Field, Outline}
use Rattle.packed.specs.declared.sheets.Header.{Header}
use Rattle.packed.specs.declared.sheets.SurfaceKind.{SurfaceKind}
use Rattle.packed.specs.declared.sheets.SurfaceKind.TheVariants.{Wgs84, Plate}
use Rattle.packed.specs.Faults.{in_edit}
use Rattle.packed.specs.Sheets.{header_of}
use Rattle.drawing.specs.declared.Drawing.{Drawing}
use Rattle.drawing.specs.Surfaces.{edges_on, whole_on, surface_refusal}
use Rattle.drawing.specs.Sketches.{untouched, unless_refused, sheet_on, once_headed, drawn_sheet, Fresh}

-- the header that was read is the only one
same_header : (r : Result Header FieldFault) (h k : Header) → Ok h ≡ in_edit 0 r → r ≡ Ok k → h ≡ k
same_header (Ok x) h k read is = cc
same_header (Err e) h k read is = absurd (cc)

module _ (stations : List Station) (edits : List EditRecord) (bytes : List ℕ) where
  pub head_fault : (fault : EditFault) → Err fault ≡ in_edit 0 (header_of bytes) → drawn_sheet stations edits bytes ≡ untouched stations edits (Field fault)
  unfolding drawn_sheet
  head_fault fault read =
      ap (λ (r : Result Header EditFault). once_headed stations edits r (λ header. unless_refused stations edits (surface_refusal header.surface) (sheet_on stations edits (edges_on header.surface) (whole_on header.surface) bytes header))) (sym read)

  module _ (header : Header) (read : Ok header ≡ in_edit 0 (header_of bytes)) where
    headed : drawn_sheet stations edits bytes ≡ unless_refused stations edits (surface_refusal header.surface) (sheet_on stations edits (edges_on header.surface) (whole_on header.surface) bytes header)
    unfolding drawn_sheet
    headed = ap (λ (r : Result Header EditFault). once_headed stations edits r (λ header. unless_refused stations edits (surface_refusal header.surface) (sheet_on stations edits (edges_on header.surface) (whole_on header.surface) bytes header))) (sym read)

    pub head_refused : (e : Refusal) → surface_refusal header.surface ≡ Some e → drawn_sheet stations edits bytes ≡ untouched stations edits (Outline 0 0 e)
    head_refused e is =
        headed ∙ ap (λ (o : Option Refusal). unless_refused stations edits o (sheet_on stations edits (edges_on header.surface) (whole_on header.surface) bytes header)) is

    pub head_drawn : surface_refusal header.surface ≡ None → drawn_sheet stations edits bytes ≡ sheet_on stations edits (edges_on header.surface) (whole_on header.surface) bytes header
    head_drawn is =
        headed ∙ ap (λ (o : Option Refusal). unless_refused stations edits o (sheet_on stations edits (edges_on header.surface) (whole_on header.surface) bytes header)) is

    pub head_on : (edge : Solve) (whole : Float) → surface_refusal header.surface ≡ None → edge ≡ edges_on header.surface → whole ≡ whole_on header.surface → sheet_on stations edits edge whole bytes header ≡ drawn_sheet stations edits bytes
    head_on edge whole granted edge-is whole_is =
        ap (λ (e : Solve). sheet_on stations edits e whole bytes header) edge-is
        ∙ ap (λ (w : Float). sheet_on stations edits (edges_on header.surface) w bytes header) whole_is
        ∙ sym (head_drawn granted)

    -- what was said of the header that was read holds of any
    pub fresh_on : (edge : Solve) (whole : Float) (r : Result Drawing SheetFault) → edge ≡ edges_on header.surface → whole ≡ whole_on header.surface → IfOk r (Fresh edge whole (lengths_of stations edits) bytes header) → (k : Header) → header_of bytes ≡ Ok k → IfOk r (Fresh (edges_on k.surface) (whole_on k.surface) (lengths_of stations edits) bytes k)
    fresh_on edge whole r edge-is whole_is fresh k found =
        subst (λ (h : Header). IfOk r (Fresh (edges_on h.surface) (whole_on h.surface) (lengths_of stations edits) bytes h)) (same_header (header_of bytes) header k read found)
        (subst (λ (w : Float). IfOk r (Fresh (edges_on header.surface) w (lengths_of stations edits) bytes header)) whole_is
        (subst (λ (e : Solve). IfOk r (Fresh e whole (lengths_of stations edits) bytes header)) edge-is fresh))

-- ---- the two surfaces

module _ (kind : SurfaceKind) (is : kind ≡ Wgs84) where
  pub ellipsoid_refused : (o : Option Refusal) → shape_refusal series wgs84_a wgs84_f ≡ o → surface_refusal kind ≡ o
  unfolding surface_refusal
  ellipsoid_refused o says = ap surface_refusal is ∙ says

  pub ellipsoid_edges : (shape : Ellipsoid) → shape ≡ ellipsoid series wgs84_a wgs84_f → edge_of series shape ≡ edges_on kind
  unfolding edges_on
  ellipsoid_edges shape IfOk = ap (edge_of series) IfOk ∙ sym (ap edges_on is)

  pub ellipsoid-whole : (shape : Ellipsoid) → shape ≡ ellipsoid series wgs84_a wgs84_f → whole_of shape ≡ whole_on kind
  unfolding whole_on
  ellipsoid-whole shape IfOk = ap whole_of IfOk ∙ sym (ap whole_on is)

module _ (kind : SurfaceKind) (is : kind ≡ Plate) where
  pub plate_refused : (o : Option Refusal) → plate_refusal one ≡ o → surface_refusal kind ≡ o
  unfolding surface_refusal
  plate_refused o says = ap surface_refusal is ∙ says

  pub plate_edges : (scale : Float) → scale ≡ one → plate_edge scale ≡ edges_on kind
  unfolding edges_on
  plate_edges scale IfOk = ap plate_edge IfOk ∙ sym (ap edges_on is)

  pub plate_whole : (scale : Float) → scale ≡ one → plate_area scale ≡ whole_on kind
  unfolding whole_on
  plate_whole scale IfOk = ap plate_area IfOk ∙ sym (ap whole_on is)
