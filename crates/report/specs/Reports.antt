-- What is printed of a sheet: five lines of figures, or one line of its fault. Assumes nothing.
use Rattle.std.specs.Prelude.{ℕ, List, ◌++◌, Ok, Err, codes, decimal, replicate, Result}
use Rattle.text.specs.Patterns.{pattern_digits}
use Rattle.packed.specs.declared.faults.SheetFault.{SheetFault}
use Rattle.packed.specs.declared.faults.Told.{Told}
use Rattle.packed.specs.Faults.{told, told_text}
use Rattle.drawing.specs.declared.Drawing.{Drawing}
use Rattle.drawing.specs.Sketches.{drawn_sheet}
use Rattle.geomath.specs.Angles.{zero}
use Rattle.stations.specs.declared.Station.{Station}
use Rattle.stations.specs.declared.records.EditRecord.{EditRecord}
use Rattle.stations.specs.Records.{add_record}
use Rattle.stations.specs.Stations.{first_station}

-- points N, perimeter and area as patterns, edges N, evaluations N
abbrev pub figures_text : Drawing → List ℕ
figures_text d =
    codes "points " ++ (decimal d.figures.count ++ (codes "\nperimeter " ++ (pattern_digits d.figures.perimeter ++ (codes "\narea " ++ (pattern_digits d.figures.area ++ (codes "\nedges " ++ (decimal d.cost.edges ++ (codes "\nevaluations " ++ (decimal d.cost.evaluations ++ codes "\n")))))))))

-- refused LAYER NUMBER edit N bit N
abbrev pub fault_text : Told → List ℕ
fault_text t = codes "refused " ++ (told_text t ++ codes "\n")

abbrev pub report_of : Result Drawing SheetFault → List ℕ
report_of (Ok d) = figures_text d
report_of (Err fault) = fault_text (told fault)

-- the rows on which a sheet is drawn: 1,024 stations and 256 edits
abbrev pub new_stations : List Station
new_stations = replicate 1024 (first_station (record { lat = zero; lon = zero }))

abbrev pub new_edits : List EditRecord
new_edits = replicate 256 (add_record 0)

-- what is printed of the sheet that these bytes pack, drawn on new rows
abbrev pub sheet_text : List ℕ → List ℕ
sheet_text bytes = report_of (drawn_sheet new_stations new_edits bytes).answer
