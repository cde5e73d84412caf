-- What a call answers and leaves, part by part.
use Rattle.std.proofs.Common.{◌≡◌, ℕ, List, Result, IsErrAnd, Err, ap, ◌∙◌}
use Rattle.std.proofs.lemmas.Result.{err_from_is_err_and}
use Rattle.surface.specs.declared.refusals.Refusal.{Refusal}
use Rattle.surface.specs.declared.refusals.Refusal.TheVariants.{RowLength}
use Rattle.stations.specs.declared.Station.{Station}
use Rattle.stations.specs.declared.records.EditRecord.{EditRecord}
use Rattle.history.specs.declared.Frame.{Frame}
use Rattle.history.specs.Calls.{Answer, left}
use Rattle.history.specs.Replays.{replayed}

pub same_left : {A : Type 0} {a b : A} {f g : Frame} {stations more : List Station} {edits others : List EditRecord} → a ≡ b → f ≡ g → stations ≡ more → edits ≡ others → left a f stations edits ≡ left b g more others
same_left answer frame stations edits = cc

pub same_replay : {answer : Result ℕ Refusal} {stations more : List Station} {edits others : List EditRecord} {answers told : List Answer} → stations ≡ more → edits ≡ others → answers ≡ told → replayed answer stations edits answers ≡ replayed answer more others told
same_replay stations edits answers = cc

-- what a call answers where its rows are refused
pub rows_off : {A : Type 0} (r : Result A Refusal) (e : Refusal) → IsErrAnd r (λ y. y ≡ e) → e ≡ RowLength → r ≡ Err RowLength
rows_off r e h is = let p = err_from_is_err_and r h in p.1 ∙ ap Err (p.2 ∙ is)
