-- The header is a fault, its surface is refused, or the sheet is drawn on its surface.
use Rattle.std.proofs.Common.{◌≡◌, Some, None, Ok, Err, sym, ap, ◌∙◌}
use Rattle.std.proofs.lemmas.Result.{IfOk-from_err, MatchResult-at_ok, MatchResult-at_err}
use Rattle.geomath.specs.Angles.{one}
use Rattle.functions.specs.Series.{series}
use Rattle.surface.specs.Plates.{plate_edge, plate_area, plate_refusal}
use Rattle.ellipsoid.specs.Ellipsoids.{whole_of, wgs84_a, wgs84_f}
use Rattle.geodesic.specs.Answers.{edge_of}
use Rattle.geodesic.specs.Shapes.{shape_refusal}
use Rattle.packed.specs.declared.faults.SheetFault.TheVariants.{Field, Outline}
use Rattle.packed.specs.Faults.{in_edit}
use Rattle.packed.specs.Sheets.{header_of}
use Rattle.packed.proofs.Exits.{leaves}
use Rattle.outline.proofs.WholeRule.{whole_rule}
use Rattle.drawing.specs.Sketches.{sheet_left}
use Rattle.drawing.proofs.Listed.{list_law}
use Rattle.drawing.proofs.Standing.{stand}
use Rattle.drawing.proofs.Mapped.{mapped_ok, mapped_err}
use Rattle.drawing.proofs.Heads.{head_fault, head_refused, head_on, fresh_on, ellipsoid_refused, ellipsoid_edges, ellipsoid-whole, plate_refused, plate_edges, plate_whole}
use Rattle.drawing.proofs.sheet.draw.Goals as goal

pub returns-in_err-header : goal.returns-in_err-header
returns-in_err-header c =
    let fault = c.in_err-header.field-0.0 in
    let read : Err fault ≡ in_edit 0 (header_of c.args.bytes.now) = c.in_err-header.ensures ∙ ap (in_edit 0) c.read_header.ensures.header in
    let is = head_fault c.args.stations.now c.args.edits.now c.args.bytes.now fault read in
    let q = leaves c.from_residual.result (Field fault) c.from_residual.ensures.1 in
    record {
      left = ap (λ r. sheet_left r c.args.stations.now c.args.edits.now) q ∙ sym is;
      fresh = λ header found. IfOk-from_err c.from_residual.result _ c.from_residual.ensures.0;
      listed = list_law;
      surfaces = stand;
      rule = whole_rule;
    }

pub returns-in_err-ellipsoid-in-Wgs84 : goal.returns-in_err-ellipsoid-in-Wgs84
returns-in_err-ellipsoid-in-Wgs84 c =
    let stations = c.args.stations.now in
    let edits = c.args.edits.now in
    let bytes = c.args.bytes.now in
    let header = c.in_ok-header.header in
    let read : Ok header ≡ in_edit 0 (header_of bytes) = c.in_ok-header.ensures ∙ ap (in_edit 0) c.read_header.ensures.header in
    let p = mapped_err (λ refusal fault. fault ≡ Outline 0 0 refusal) c.wgs84.result c.in_err-ellipsoid-in-Wgs84.field-0.0 c.in_err-ellipsoid-in-Wgs84.ensures.cases in
    let refused : shape_refusal series wgs84_a wgs84_f ≡ Some p.0 = MatchResult-at_err _ (λ e. shape_refusal series wgs84_a wgs84_f ≡ Some e) p.0 p.1 c.wgs84.ensures in
    let is = head_refused stations edits bytes header read p.0 (ellipsoid_refused header.surface c.in-Wgs84.is (Some p.0) refused) in
    let q = leaves c.from_residual-in_err-ellipsoid-in-Wgs84.result c.in_err-ellipsoid-in-Wgs84.field-0.0 c.from_residual-in_err-ellipsoid-in-Wgs84.ensures.1 in
    record {
      left = ap (λ r. sheet_left r stations edits) (q ∙ ap Err p.2) ∙ sym is;
      fresh = λ k found. IfOk-from_err c.from_residual-in_err-ellipsoid-in-Wgs84.result _ c.from_residual-in_err-ellipsoid-in-Wgs84.ensures.0;
      listed = list_law;
      surfaces = stand;
      rule = whole_rule;
    }

pub returns-in_err-plate-in-Plate : goal.returns-in_err-plate-in-Plate
returns-in_err-plate-in-Plate c =
    let stations = c.args.stations.now in
    let edits = c.args.edits.now in
    let bytes = c.args.bytes.now in
    let header = c.in_ok-header.header in
    let read : Ok header ≡ in_edit 0 (header_of bytes) = c.in_ok-header.ensures ∙ ap (in_edit 0) c.read_header.ensures.header in
    let p = mapped_err (λ refusal fault. fault ≡ Outline 0 0 refusal) c.new.result c.in_err-plate-in-Plate.field-0.0 c.in_err-plate-in-Plate.ensures.cases in
    let refused : plate_refusal one ≡ Some p.0 = MatchResult-at_err _ (λ e. plate_refusal one ≡ Some e) p.0 p.1 c.new.ensures in
    let is = head_refused stations edits bytes header read p.0 (plate_refused header.surface c.in-Plate.is (Some p.0) refused) in
    let q = leaves c.from_residual-in_err-plate-in-Plate.result c.in_err-plate-in-Plate.field-0.0 c.from_residual-in_err-plate-in-Plate.ensures.1 in
    record {
      left = ap (λ r. sheet_left r stations edits) (q ∙ ap Err p.2) ∙ sym is;
      fresh = λ k found. IfOk-from_err c.from_residual-in_err-plate-in-Plate.result _ c.from_residual-in_err-plate-in-Plate.ensures.0;
      listed = list_law;
      surfaces = stand;
      rule = whole_rule;
    }

pub returns-in_ok-ellipsoid-in-Wgs84 : goal.returns-in_ok-ellipsoid-in-Wgs84
returns-in_ok-ellipsoid-in-Wgs84 c =
    let stations = c.args.stations.now in
    let edits = c.args.edits.now in
    let bytes = c.args.bytes.now in
    let header = c.in_ok-header.header in
    let read : Ok header ≡ in_edit 0 (header_of bytes) = c.in_ok-header.ensures ∙ ap (in_edit 0) c.read_header.ensures.header in
    let ellipsoid = c.in_ok-ellipsoid-in-Wgs84.ellipsoid in
    let is = mapped_ok (λ refusal fault. fault ≡ Outline 0 0 refusal) c.wgs84.result ellipsoid c.in_ok-ellipsoid-in-Wgs84.ensures.cases in
    let made = MatchResult-at_ok _ _ ellipsoid is c.wgs84.ensures in
    let edge = edge_of series c.in_ok-ellipsoid-in-Wgs84.ellipsoid.shape in
    let whole = whole_of c.in_ok-ellipsoid-in-Wgs84.ellipsoid.shape in
    let edge-is = ellipsoid_edges header.surface c.in-Wgs84.is c.in_ok-ellipsoid-in-Wgs84.ellipsoid.shape made.2 in
    let whole_is = ellipsoid-whole header.surface c.in-Wgs84.is c.in_ok-ellipsoid-in-Wgs84.ellipsoid.shape made.2 in
    let granted = ellipsoid_refused header.surface c.in-Wgs84.is None made.0 in
    let sheet = head_on stations edits bytes header read edge whole granted edge-is whole_is in
    record {
      left = c.draw_on.ensures.left ∙ sheet;
      fresh = fresh_on stations edits bytes header read edge whole c.draw_on.result edge-is whole_is c.draw_on.ensures.fresh;
      listed = list_law;
      surfaces = stand;
      rule = whole_rule;
    }

pub returns-in_ok-plate-in-Plate : goal.returns-in_ok-plate-in-Plate
returns-in_ok-plate-in-Plate c =
    let stations = c.args.stations.now in
    let edits = c.args.edits.now in
    let bytes = c.args.bytes.now in
    let header = c.in_ok-header.header in
    let read : Ok header ≡ in_edit 0 (header_of bytes) = c.in_ok-header.ensures ∙ ap (in_edit 0) c.read_header.ensures.header in
    let plate = c.in_ok-plate-in-Plate.plate in
    let is = mapped_ok (λ refusal fault. fault ≡ Outline 0 0 refusal) c.new.result plate c.in_ok-plate-in-Plate.ensures.cases in
    let made = MatchResult-at_ok (λ x. (plate_refusal one ≡ None) × (x.scale ≡ one)) _ plate is c.new.ensures in
    let edge = plate_edge plate.scale in
    let whole = plate_area plate.scale in
    let edge-is = plate_edges header.surface c.in-Plate.is plate.scale made.1 in
    let whole_is = plate_whole header.surface c.in-Plate.is plate.scale made.1 in
    let granted = plate_refused header.surface c.in-Plate.is None made.0 in
    let sheet = head_on stations edits bytes header read edge whole granted edge-is whole_is in
    record {
      left = c.draw_on-in-Plate.ensures.left ∙ sheet;
      fresh = fresh_on stations edits bytes header read edge whole c.draw_on-in-Plate.result edge-is whole_is c.draw_on-in-Plate.ensures.fresh;
      listed = list_law;
      surfaces = stand;
      rule = whole_rule;
    }
