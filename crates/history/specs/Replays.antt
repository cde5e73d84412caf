-- Calls made one after the other on rows that nobody else touches: what they answer and leave, and their agreement with the book. Assumes nothing.
use Rattle.std.specs.Prelude.{◌≡◌, ℕ, min, List, [], ◌∷◌, ◌++◌, length, take, drop, Some, None, Ok, Err, Option, Result, Float}
use Rattle.surface.specs.declared.refusals.Refusal.{Refusal}
use Rattle.area.specs.declared.Winding.{Winding}
use Rattle.polygon.specs.Polygons.{Solve}
use Rattle.stations.specs.declared.Station.{Station}
use Rattle.stations.specs.declared.records.EditRecord.{EditRecord}
use Rattle.history.specs.declared.Sizes.{Sizes}
use Rattle.history.specs.declared.Frame.{Frame}
use Rattle.history.specs.declared.Call.{Call}
use Rattle.history.specs.Calls.{Answer, open_refusal, opened, done_of}
use Rattle.history.specs.Book.{Book, book_refusal, book_after}
use Rattle.history.specs.Histories.{refusal_in, FiguresAgree}

-- ---- calls one after the other

pub record Ran : Type 0 where
  pub answers : List Answer
  pub stations : List Station
  pub edits : List EditRecord

unfoldable pub ran : Solve → Float → Frame → List Station → List EditRecord → List Call → Ran
ran edge whole f stations edits [] = record { answers = []; stations = stations; edits = edits }
ran edge whole f stations edits (call ∷ calls) =
    let done = done_of edge whole f stations edits call in
    let later = ran edge whole done.frame done.stations done.edits calls in
    record { answers = done.answer ∷ later.answers; stations = later.stations; edits = later.edits }

-- ---- a replay on a new outline

-- how many calls are made: as many as there are slots for their answers
abbrev pub calls_made : List Call → List Answer → ℕ
calls_made calls answers = min (length calls) (length answers)

-- what a replay answers and leaves
pub record Replay : Type 0 where
  pub answer : Result ℕ Refusal
  pub stations : List Station
  pub edits : List EditRecord
  pub answers : List Answer

abbrev pub replayed : Result ℕ Refusal → List Station → List EditRecord → List Answer → Replay
replayed answer stations edits answers =
    record { answer = answer; stations = stations; edits = edits; answers = answers }

abbrev pub replay_from : Option Refusal → Ran → ℕ → List Station → List EditRecord → List Answer → Replay
replay_from (Some e) later made stations edits answers =
    record { answer = Err e; stations = stations; edits = edits; answers = answers }
replay_from None later made stations edits answers =
    record { answer = Ok made; stations = later.stations; edits = later.edits; answers = later.answers ++ drop made answers }

-- the outline is opened, the calls are made, and their answers stand in the first slots
unfoldable pub replay_of : Solve → Float → Winding → List Station → List EditRecord → List Call → List Answer → Replay
replay_of edge whole winding stations edits calls answers =
    let made = calls_made calls answers in
    replay_from (open_refusal (length stations) (length edits)) (ran edge whole (opened winding (length stations) (length edits)) stations edits (take made calls)) made stations edits answers

-- ---- agreement with the book

-- every answer agrees with the book, which goes on by itself
unfoldable pub AnswersAgree : Solve → Float → Winding → Sizes → Book → List Call → List Answer → Type 0
AnswersAgree edge whole winding lengths b [] [] = Unit {0}
AnswersAgree edge whole winding lengths b [] (answer ∷ answers) = ⊥
AnswersAgree edge whole winding lengths b (call ∷ calls) [] = ⊥
AnswersAgree edge whole winding lengths b (call ∷ calls) (answer ∷ answers) =
    (refusal_in answer ≡ book_refusal lengths lengths b call)
    × FiguresAgree edge whole winding b.standing call answer
    × AnswersAgree edge whole winding lengths (book_after lengths lengths b call) calls answers
