-- The edits of a sheet on a new outline come to what the book says of them: each is refused exactly when the book refuses it, and costs and leaves what the book says.
use Rattle.std.proofs.Common.{◌≡◌, ℕ, zero, suc, ◌≤◌, List, [], length, Some, None, Ok, Err, Option, Result, sym, refl, ap, ◌∙◌, subst}
use lib.Ieee.{Float}
use Rattle.std.specs.Result.{result_map_both}
use Rattle.std.proofs.lemmas.Bool.{cond-true}
use Rattle.surface.specs.declared.refusals.Refusal.{Refusal}
use Rattle.surface.specs.declared.refusals.Refusal.TheVariants.{RowLength}
use Rattle.area.specs.declared.Winding.{Winding}
use Rattle.polygon.specs.Polygons.{Solve}
use Rattle.stations.specs.declared.Station.{Station}
use Rattle.stations.specs.declared.Cost.{Cost}
use Rattle.stations.specs.declared.records.EditRecord.{EditRecord}
use Rattle.stations.specs.Stations.{together}
use Rattle.history.specs.declared.Sizes.{Sizes}
use Rattle.history.specs.declared.Frame.{Frame}
use Rattle.history.specs.declared.Call.{Call}
use Rattle.history.specs.Calls.{Outcome, done_of, same_lengths}
use Rattle.history.specs.Book.{Book, refusal_on, book_refusal, changed, unless_refused}
use Rattle.history.specs.Histories.{refusal_in}
use Rattle.history.specs.Replays.{ran}
use Rattle.history.specs.Expenses.{cost_in}
use Rattle.history.proofs.Replaying.{same_itself}
use Rattle.history.proofs.Pasts.{newest_first}
use Rattle.history.proofs.Following.{Follows, Right, call_right}
use Rattle.history.proofs.Spending.{Spends, call_spends}
use Rattle.history.proofs.Refusing.{refused_same}
use Rattle.packed.specs.declared.faults.EditFault.{EditFault}
use Rattle.packed.specs.declared.faults.SheetFault.{SheetFault}
use Rattle.packed.specs.declared.faults.SheetFault.TheVariants.{Field, Outline}
use Rattle.packed.specs.declared.sheets.Edit.{Edit}
use Rattle.packed.specs.Faults.{in_edit}
use Rattle.packed.specs.Sheets.{edit_of, end_of}
use Rattle.drawing.specs.Strokes.{call_of, Stroke, stroke_answer, stroke_of, edit_drawn, Strokes, gone_on, edits_drawn}
use Rattle.drawing.specs.Sketches.{Sketch, sketched_by, Course, stopped, begun_by, ended_by, once_read, unless_off, course_from}
use Rattle.drawing.proofs.Drawn.{stroke_by}

-- what the edits answer: the fault, or the cost of all
abbrev pub answer_of : Option SheetFault → Cost → Result Cost SheetFault
answer_of (Some fault) cost = Err fault
answer_of None cost = Ok cost

module _ (edge : Solve) (whole : Float) (winding : Winding) (opening : Sizes) (bound : opening.stations ≤ 4096) (bytes : List ℕ) where
  -- the strokes on a frame and rows took this course
  pub record Took (f : Frame) (stations : List Station) (edits : List EditRecord) (strokes : Strokes) (c : Course) : Type 0 where
    pub answer : strokes.answer ≡ answer_of c.fault c.sketch.cost
    pub stations_after : strokes.stations ≡ (ran edge whole f stations edits c.calls).stations
    pub edits_after : strokes.edits ≡ (ran edge whole f stations edits c.calls).edits
    pub follows : Follows edge winding opening c.sketch.book strokes.frame strokes.stations strokes.edits

  -- nothing more is drawn
  took_none : (b : Book) (records : List EditRecord) (cost : Cost) (f : Frame) (stations : List Station) (edits : List EditRecord) → Follows edge winding opening b f stations edits → (r : Result Cost SheetFault) (fault : Option SheetFault) → r ≡ answer_of fault cost → Took f stations edits (record { answer = r; frame = f; stations = stations; edits = edits }) (record { calls = []; sketch = record { book = b; records = records; cost = cost }; fault = fault })
  unfolding ran
  took_none b records cost f stations edits r answer fault is = record { answer = is; stations_after = refl; edits_after = refl; follows = r }

  -- one call, then the others
  took_first : (f : Frame) (stations : List Station) (edits : List EditRecord) (call : Call) (strokes : Strokes) (c : Course) → Took (done_of edge whole f stations edits call).frame (done_of edge whole f stations edits call).stations (done_of edge whole f stations edits call).edits strokes c → Took f stations edits strokes (begun_by call c)
  unfolding ran
  took_first f stations edits call strokes c t =
      record { answer = t.answer; stations_after = t.stations_after; edits_after = t.edits_after; follows = t.follows }

  took_end : (s : Sketch) (f : Frame) (stations : List Station) (edits : List EditRecord) → Follows edge winding opening s.book f stations edits → (read : Result (Unit {0}) EditFault) → Took f stations edits (record { answer = result_map_both (λ (u : Unit {0}). s.cost) Field read; frame = f; stations = stations; edits = edits }) (ended_by s read)
  took_end s f stations edits r (Ok u) = took_none s.book s.records s.cost f stations edits r (Ok s.cost) None refl
  took_end s f stations edits r (Err fault) = took_none s.book s.records s.cost f stations edits r (Err (Field fault)) (Some (Field fault)) refl

  module _ (s : Sketch) (f : Frame) (stations : List Station) (edits : List EditRecord) (r : Follows edge winding opening s.book f stations edits) (kept : s.records ≡ newest_first edits f.counts.edits) (number at : ℕ) where
    -- what is drawn after a stroke, and the course after a call
    module _ (later : ℕ → Cost → Frame → List Station → List EditRecord → Strokes) (course : ℕ → Sketch → Course) (goes : (end : ℕ) (t : Sketch) (g : Frame) (row : List Station) (notes : List EditRecord) → Follows edge winding opening t.book g row notes → t.records ≡ newest_first notes g.counts.edits → Took g row notes (later end t.cost g row notes) (course end t)) where
      abbrev drawn_after : Stroke → Strokes
      drawn_after stroke = gone_on stroke stroke.answer (λ spent end. later end (together s.cost spent) stroke.frame stroke.stations stroke.edits)

      module _ (end : ℕ) (call : Call) where
        done : Outcome
        done = done_of edge whole f stations edits call

        right : Right edge whole winding opening (length stations) s.book call (done_of edge whole f stations edits call)
        right = call_right edge whole winding opening s.book f stations edits bound r call

        says : book_refusal opening opening s.book call ≡ refusal_on (length stations) s.book call
        says =
            cond-true (same_lengths opening opening) (refusal_on opening.stations s.book call) (Some RowLength) (same_itself opening)
            ∙ ap (λ n. refusal_on n s.book call) (sym r.station_row)

        abbrev next : Sketch
        next = sketched_by edge opening.edits s call

        -- by what the book says of the call
        by_refusal : (o : Option Refusal) → refusal_in done.answer ≡ o → refusal_on (length stations) s.book call ≡ o → Took f stations edits (drawn_after (record { answer = stroke_answer number at end o (cost_in done.answer); frame = done.frame; stations = done.stations; edits = done.edits })) (unless_off number at s call o (course end next))
        unfolding done
        by_refusal (Some e) is due =
            let same = refused_same edge whole f stations edits call e is in
            subst (λ (d : Outcome). Took f stations edits (record { answer = Err (Outline number at e); frame = d.frame; stations = d.stations; edits = d.edits }) (stopped s (Outline number at e))) (sym same)
            (took_none s.book s.records s.cost f stations edits r (Err (Outline number at e)) (Some (Outline number at e)) refl)
        by_refusal None is due =
            let spends = subst (λ (l : List EditRecord). Spends edge opening.edits s.book l call (done_of edge whole f stations edits call)) (sym kept) (call_spends edge whole winding opening s.book f stations edits r call due) in
            let follows : Follows edge winding opening next.book done.frame done.stations done.edits =
            subst (λ (o : Option Refusal). Follows edge winding opening (unless_refused o s.book (changed opening.edits s.book call)) done.frame done.stations done.edits) due right.follows in
            let cost : together s.cost (cost_in done.answer) ≡ next.cost = ap (together s.cost) spends.cost in
            took_first f stations edits call (later end (together s.cost (cost_in done.answer)) done.frame done.stations done.edits) (course end next)
            (subst (λ (x : Cost). Took done.frame done.stations done.edits (later end x done.frame done.stations done.edits) (course end next)) (sym cost)
            (goes end next done.frame done.stations done.edits follows (sym spends.records_after_lem)))

        took_call : Took f stations edits (drawn_after (stroke_by number at end (done_of edge whole f stations edits call))) (unless_off number at s call (book_refusal opening opening s.book call) (course end next))
        unfolding done
        took_call =
            let o = refusal_in done.answer in
            let due : refusal_on (length stations) s.book call ≡ o = sym right.refusal in
            subst (λ (x : Option Refusal). Took f stations edits (drawn_after (stroke_by number at end (done_of edge whole f stations edits call))) (unless_off number at s call x (course end next))) (sym (says ∙ due)) (by_refusal o refl due)

      pub took_read : (read : Result (Edit × ℕ) EditFault) → Took f stations edits (drawn_after (stroke_of edge whole number at f stations edits read)) (once_read s read (λ (x : Edit × ℕ). unless_off number at s (call_of x.0) (book_refusal opening opening s.book (call_of x.0)) (course x.1 (sketched_by edge opening.edits s (call_of x.0)))))
      took_read (Err fault) = took_none s.book s.records s.cost f stations edits r (Err (Field fault)) (Some (Field fault)) refl
      took_read (Ok x) = took_call x.1 (call_of x.0)

  -- all that are left
  pub took_course : (left drawn at : ℕ) (s : Sketch) (f : Frame) (stations : List Station) (edits : List EditRecord) → Follows edge winding opening s.book f stations edits → s.records ≡ newest_first edits f.counts.edits → Took f stations edits (edits_drawn edge whole bytes left drawn at s.cost f stations edits) (course_from edge opening bytes left drawn at s)
  unfolding edits_drawn edit_drawn course_from
  took_course zero drawn at s f stations edits r kept = took_end s f stations edits r (in_edit drawn (end_of bytes at))
  took_course (suc left) drawn at s f stations edits r kept =
      took_read s f stations edits r kept (suc drawn) at
      (λ end cost g row notes. edits_drawn edge whole bytes left (suc drawn) end cost g row notes)
      (λ end t. course_from edge opening bytes left (suc drawn) end t)
      (λ end t g row notes follows records. took_course left (suc drawn) end t g row notes follows records)
      (in_edit (suc drawn) (edit_of bytes at))
