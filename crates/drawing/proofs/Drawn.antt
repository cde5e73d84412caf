-- What one edit comes to, by what was read of it; and what is left of the edits, one edit after the other.
use Rattle.std.proofs.Common.{◌≡◌, ℕ, suc, ◌+◌, ◌-◌, ◌<◌, List, Ok, Err, sym, ap, ◌∙◌, add-one, arith}
use lib.Ieee.{Float}
use Rattle.std.specs.Result.{result_map_both}
use Rattle.polygon.specs.Polygons.{Solve}
use Rattle.stations.specs.declared.Station.{Station}
use Rattle.stations.specs.declared.Cost.{Cost}
use Rattle.stations.specs.declared.records.EditRecord.{EditRecord}
use Rattle.stations.specs.Stations.{together}
use Rattle.history.specs.declared.Frame.{Frame}
use Rattle.history.specs.declared.Call.{Call}
use Rattle.history.specs.Calls.{Outcome, done_of}
use Rattle.history.specs.Histories.{refusal_in}
use Rattle.history.specs.Expenses.{cost_in}
use Rattle.packed.specs.declared.faults.EditFault.{EditFault}
use Rattle.packed.specs.declared.faults.SheetFault.{SheetFault}
use Rattle.packed.specs.declared.faults.SheetFault.TheVariants.{Field}
use Rattle.packed.specs.declared.sheets.Edit.{Edit}
use Rattle.packed.specs.Faults.{in_edit}
use Rattle.packed.specs.Sheets.{edit_of, end_of}
use Rattle.drawing.specs.Strokes.{call_of, Stroke, stroke_answer, stroke_of, edit_drawn, Strokes, gone_on, edits_drawn}

-- ---- one edit

-- a call that was made for an edit that ends at bit `end`
abbrev pub stroke_by : ℕ → ℕ → ℕ → Outcome → Stroke
stroke_by number at end d =
    record {
      answer = stroke_answer number at end (refusal_in d.answer) (cost_in d.answer);
      frame = d.frame;
      stations = d.stations;
      edits = d.edits;
    }

module _ (edge : Solve) (whole : Float) (bytes : List ℕ) (number at : ℕ) (f : Frame) (stations : List Station) (edits : List EditRecord) where
  pub stroke_made : (edit : Edit) (end : ℕ) (call : Call) (d : Outcome) → Ok (edit, end) ≡ in_edit number (edit_of bytes at) → call ≡ call_of edit → d ≡ done_of edge whole f stations edits call → edit_drawn edge whole bytes number at f stations edits ≡ stroke_by number at end d
  unfolding edit_drawn
  stroke_made edit end call d read is does =
      ap (stroke_of edge whole number at f stations edits) (sym read)
      ∙ ap (λ (k : Call). stroke_by number at end (done_of edge whole f stations edits k)) (sym is)
      ∙ ap (stroke_by number at end) (sym does)

  pub stroke_fault : (fault : EditFault) → Err fault ≡ in_edit number (edit_of bytes at) → edit_drawn edge whole bytes number at f stations edits ≡ record { answer = Err (Field fault); frame = f; stations = stations; edits = edits }
  unfolding edit_drawn
  stroke_fault fault read = ap (stroke_of edge whole number at f stations edits) (sym read)

-- ---- the edits

module _ (edge : Solve) (whole : Float) (bytes : List ℕ) (count drawn at : ℕ) (cost : Cost) (f : Frame) (stations : List Station) (edits : List EditRecord) where
  -- after an edit
  module _ (more : drawn < count) (stroke : Stroke) (is : stroke ≡ edit_drawn edge whole bytes (drawn + 1) at f stations edits) where
    split : edits_drawn edge whole bytes (count - drawn) drawn at cost f stations edits ≡ gone_on stroke stroke.answer (λ spent end. edits_drawn edge whole bytes (count - (drawn + 1)) (drawn + 1) end (together cost spent) stroke.frame stroke.stations stroke.edits)
    unfolding edits_drawn
    split =
        let left : count - drawn ≡ suc (count - (drawn + 1)) = omega arith in
        let later : Stroke → ℕ → Strokes = λ s number. gone_on s s.answer (λ spent end. edits_drawn edge whole bytes (count - (drawn + 1)) number end (together cost spent) s.frame s.stations s.edits) in
        ap (λ n. edits_drawn edge whole bytes n drawn at cost f stations edits) left
        ∙ ap (λ n. later (edit_drawn edge whole bytes n at f stations edits) n) (sym (add-one drawn))
        ∙ ap (λ (s : Stroke). later s (drawn + 1)) (sym is)

    pub edits_more : (spent : Cost) (end : ℕ) → stroke.answer ≡ Ok (spent, end) → edits_drawn edge whole bytes (count - drawn) drawn at cost f stations edits ≡ edits_drawn edge whole bytes (count - (drawn + 1)) (drawn + 1) end (together cost spent) stroke.frame stroke.stations stroke.edits
    edits_more spent end answers =
        split ∙ ap (λ r. gone_on stroke r (λ spent end. edits_drawn edge whole bytes (count - (drawn + 1)) (drawn + 1) end (together cost spent) stroke.frame stroke.stations stroke.edits)) answers

    pub edits_fault : (fault : SheetFault) → stroke.answer ≡ Err fault → edits_drawn edge whole bytes (count - drawn) drawn at cost f stations edits ≡ record { answer = Err fault; frame = stroke.frame; stations = stroke.stations; edits = stroke.edits }
    edits_fault fault answers =
        split ∙ ap (λ r. gone_on stroke r (λ spent end. edits_drawn edge whole bytes (count - (drawn + 1)) (drawn + 1) end (together cost spent) stroke.frame stroke.stations stroke.edits)) answers

  -- at the end
  pub edits_end : drawn ≡ count → edits_drawn edge whole bytes (count - drawn) drawn at cost f stations edits ≡ record { answer = result_map_both (λ (u : Unit {0}). cost) Field (in_edit count (end_of bytes at)); frame = f; stations = stations; edits = edits }
  unfolding edits_drawn
  edits_end all =
      let none : count - drawn ≡ 0 = omega arith in
      ap (λ n. edits_drawn edge whole bytes n drawn at cost f stations edits) none
      ∙ ap (λ n. edits_drawn edge whole bytes 0 n at cost f stations edits) all
