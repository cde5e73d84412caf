-- What drawing the edits of a sheet answers and leaves, step by step, on any outline and any rows: each edit is a call of its own. Assumes nothing.
use Rattle.std.specs.Prelude.{ℕ, zero, suc, List, Some, None, Ok, Err, Option, Result, Float}
use Rattle.std.specs.Result.{result_map_both}
use Rattle.surface.specs.declared.refusals.Refusal.{Refusal}
use Rattle.polygon.specs.Polygons.{Solve}
use Rattle.stations.specs.declared.Station.{Station}
use Rattle.stations.specs.declared.Cost.{Cost}
use Rattle.stations.specs.declared.records.EditRecord.{EditRecord}
use Rattle.stations.specs.Stations.{together}
use Rattle.history.specs.declared.Frame.{Frame}
use Rattle.history.specs.declared.Call.{Call}
use Rattle.history.specs.declared.Call.TheVariants as calls
use Rattle.history.specs.Calls.{Left, done_of}
use Rattle.history.specs.Histories.{refusal_in}
use Rattle.history.specs.Expenses.{cost_in}
use Rattle.packed.specs.declared.faults.EditFault.{EditFault}
use Rattle.packed.specs.declared.faults.SheetFault.{SheetFault}
use Rattle.packed.specs.declared.faults.SheetFault.TheVariants.{Field, Outline}
use Rattle.packed.specs.declared.sheets.Edit.{Edit}
use Rattle.packed.specs.declared.sheets.Edit.TheVariants.{Add, Move, Drop, TakeBack}
use Rattle.packed.specs.Faults.{in_edit}
use Rattle.packed.specs.Sheets.{edit_of, end_of}

-- the call that an edit is
abbrev pub call_of : Edit → Call
call_of (Add lat lon) = calls.Add lat lon
call_of (Move place lat lon) = calls.Move place lat lon
call_of (Drop place) = calls.Drop place
call_of TakeBack = calls.TakeBack

-- ---- one edit

-- what drawing an edit answers (its cost, and where the next edit begins) and leaves
abbrev pub Stroke : Type 0
Stroke = Left (Result (Cost × ℕ) SheetFault)

-- a refused call is a fault of the edit with this number, at its first bit
abbrev pub stroke_answer : ℕ → ℕ → ℕ → Option Refusal → Cost → Result (Cost × ℕ) SheetFault
stroke_answer number at end (Some refusal) cost = Err (Outline number at refusal)
stroke_answer number at end None cost = Ok (cost, end)

module _ (edge : Solve) (whole : Float) (number at : ℕ) (f : Frame) (stations : List Station) (edits : List EditRecord) where
  abbrev pub stroke_of : Result (Edit × ℕ) EditFault → Stroke
  stroke_of (Err fault) = record { answer = Err (Field fault); frame = f; stations = stations; edits = edits }
  stroke_of (Ok read) =
      let done = done_of edge whole f stations edits (call_of read.0) in
      record {
        answer = stroke_answer number at read.1 (refusal_in done.answer) (cost_in done.answer);
        frame = done.frame;
        stations = done.stations;
        edits = done.edits;
      }

-- the edit of this number, which begins at bit `at`
unfoldable pub edit_drawn : Solve → Float → List ℕ → ℕ → ℕ → Frame → List Station → List EditRecord → Stroke
edit_drawn edge whole bytes number at f stations edits = stroke_of edge whole number at f stations edits (in_edit number (edit_of bytes at))

-- ---- the edits

-- what drawing edits answers (their cost) and leaves
abbrev pub Strokes : Type 0
Strokes = Left (Result Cost SheetFault)

-- what is drawn after an edit, unless it was a fault
abbrev pub gone_on : Stroke → Result (Cost × ℕ) SheetFault → (Cost → ℕ → Strokes) → Strokes
gone_on stroke (Err fault) more =
    record { answer = Err fault; frame = stroke.frame; stations = stroke.stations; edits = stroke.edits }
gone_on stroke (Ok spent) more = more spent.0 spent.1

-- `left` edits from bit `at` on, where `drawn` edits were drawn before at some cost, and then the end of the sheet
unfoldable pub edits_drawn : Solve → Float → List ℕ → ℕ → ℕ → ℕ → Cost → Frame → List Station → List EditRecord → Strokes
edits_drawn edge whole bytes zero drawn at cost f stations edits =
    record {
      answer = result_map_both (λ (u : Unit {0}). cost) Field (in_edit drawn (end_of bytes at));
      frame = f;
      stations = stations;
      edits = edits;
    }
edits_drawn edge whole bytes (suc left) drawn at cost f stations edits =
    let stroke = edit_drawn edge whole bytes (suc drawn) at f stations edits in
    gone_on stroke stroke.answer (λ spent end. edits_drawn edge whole bytes left (suc drawn) end (together cost spent) stroke.frame stroke.stations stroke.edits)
