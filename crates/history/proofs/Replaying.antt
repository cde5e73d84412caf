-- A replay is a history on untouched storage: by the relation each of its answers agrees with the book.
use Rattle.std.proofs.Common.{◌≡◌, ℕ, suc, ◌≤◌, true, eqb, List, [], ◌∷◌, ◌++◌, length, take, Some, None, Err, Option, sym, refl, ap, ◌∙◌, subst}
use lib.Ieee.{Float}
use Rattle.std.proofs.lemmas.List.{take_at, length-take-le}
use Rattle.std.proofs.lemmas.Bool.{eq-eqb, and_from, cond-true}
use Rattle.surface.specs.declared.refusals.Refusal.{Refusal}
use Rattle.surface.specs.declared.refusals.Refusal.TheVariants.{RowLength}
use Rattle.area.specs.declared.Winding.{Winding}
use Rattle.polygon.specs.Polygons.{Solve}
use Rattle.stations.specs.declared.Station.{Station}
use Rattle.stations.specs.declared.records.EditRecord.{EditRecord}
use Rattle.history.specs.declared.Sizes.{Sizes}
use Rattle.history.specs.declared.Frame.{Frame}
use Rattle.history.specs.declared.Call.{Call}
use Rattle.history.specs.Calls.{Answer, open_refusal, opened, lengths_of, same_lengths, done_of}
use Rattle.history.specs.Book.{Book, empty_book, refusal_on, book_refusal, book_after, changed, unless_refused}
use Rattle.history.specs.Replays.{ran, calls_made, replay_from, replay_of, AnswersAgree}
use Rattle.history.proofs.Following.{Follows, call_right}
use Rattle.history.proofs.Law.{opening_follows, opening_bound}

pub same_itself : (s : Sizes) → same_lengths s s ≡ true
same_itself s = and_from (eqb s.stations s.stations) (eqb s.edits s.edits) (eq-eqb s.stations s.stations refl) (eq-eqb s.edits s.edits refl)

module _ (edge : Solve) (whole : Float) (winding : Winding) (opening : Sizes) (bound : opening.stations ≤ 4096) where
  pub ran-agrees : (b : Book) (f : Frame) (stations : List Station) (edits : List EditRecord) (calls : List Call) → Follows edge winding opening b f stations edits → AnswersAgree edge whole winding opening b calls (ran edge whole f stations edits calls).answers
  unfolding ran AnswersAgree
  ran-agrees b f stations edits [] r = tt
  ran-agrees b f stations edits (call ∷ calls) r =
      let done = done_of edge whole f stations edits call in
      let right = call_right edge whole winding opening b f stations edits bound r call in
      let says : book_refusal opening opening b call ≡ refusal_on (length stations) b call =
      cond-true (same_lengths opening opening) (refusal_on opening.stations b call) (Some RowLength) (same_itself opening) ∙ ap (λ n. refusal_on n b call) (sym r.station_row) in
      let next : Follows edge winding opening (book_after opening opening b call) done.frame done.stations done.edits =
      subst (λ (o : Option Refusal). Follows edge winding opening (unless_refused o b (changed opening.edits b call)) done.frame done.stations done.edits) (sym says) right.follows in
      (right.refusal ∙ sym says, right.figures, ran-agrees (book_after opening opening b call) done.frame done.stations done.edits calls next)

pub replay_agrees : (edge : Solve) (whole : Float) (winding : Winding) (stations : List Station) (edits : List EditRecord) (calls : List Call) → open_refusal (length stations) (length edits) ≡ None → AnswersAgree edge whole winding (lengths_of stations edits) empty_book calls (ran edge whole (opened winding (length stations) (length edits)) stations edits calls).answers
replay_agrees edge whole winding stations edits calls granted =
    ran-agrees edge whole winding (lengths_of stations edits) (opening_bound (length stations) (length edits) granted) empty_book (opened winding (length stations) (length edits)) stations edits calls (opening_follows edge winding stations edits)

-- ---- a replay on a new outline

pub replay_refused : (edge : Solve) (whole : Float) (winding : Winding) (stations : List Station) (edits : List EditRecord) (calls : List Call) (answers : List Answer) (e : Refusal) → open_refusal (length stations) (length edits) ≡ Some e → replay_of edge whole winding stations edits calls answers ≡ record { answer = Err e; stations = stations; edits = edits; answers = answers }
unfolding replay_of
replay_refused edge whole winding stations edits calls answers e says =
    let made = calls_made calls answers in
    ap (λ (o : Option Refusal). replay_from o (ran edge whole (opened winding (length stations) (length edits)) stations edits (take made calls)) made stations edits answers) says

pub replay_granted : (edge : Solve) (whole : Float) (winding : Winding) (stations : List Station) (edits : List EditRecord) (calls : List Call) (answers : List Answer) → open_refusal (length stations) (length edits) ≡ None → replay_of edge whole winding stations edits calls answers ≡ replay_from None (ran edge whole (opened winding (length stations) (length edits)) stations edits (take (calls_made calls answers) calls)) (calls_made calls answers) stations edits answers
unfolding replay_of
replay_granted edge whole winding stations edits calls answers says =
    let made = calls_made calls answers in
    ap (λ (o : Option Refusal). replay_from o (ran edge whole (opened winding (length stations) (length edits)) stations edits (take made calls)) made stations edits answers) says

length-ran : (edge : Solve) (whole : Float) (f : Frame) (stations : List Station) (edits : List EditRecord) (calls : List Call) → length (ran edge whole f stations edits calls).answers ≡ length calls
unfolding ran
length-ran edge whole f stations edits [] = refl
length-ran edge whole f stations edits (call ∷ calls) =
    let done = done_of edge whole f stations edits call in
    ap suc (length-ran edge whole done.frame done.stations done.edits calls)

-- the answers stand in the first slots
pub replay_law : (edge : Solve) (whole : Float) (winding : Winding) (stations : List Station) (edits : List EditRecord) (calls : List Call) (n : ℕ) (answers rest : List Answer) → open_refusal (length stations) (length edits) ≡ None → n ≤ length calls → answers ≡ (ran edge whole (opened winding (length stations) (length edits)) stations edits (take n calls)).answers ++ rest → AnswersAgree edge whole winding (lengths_of stations edits) empty_book (take n calls) (take n answers)
replay_law edge whole winding stations edits calls n answers rest granted few is =
    let later = ran edge whole (opened winding (length stations) (length edits)) stations edits (take n calls) in
    let long : length later.answers ≡ n = length-ran edge whole (opened winding (length stations) (length edits)) stations edits (take n calls) ∙ length-take-le n calls few in
    let front : take n answers ≡ later.answers = ap (take n) is ∙ take_at later.answers rest n long in
    subst (λ (l : List Answer). AnswersAgree edge whole winding (lengths_of stations edits) empty_book (take n calls) l) (sym front) (replay_agrees edge whole winding stations edits (take n calls) granted)
