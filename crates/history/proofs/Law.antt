-- The history law: the relation holds at opening, each call keeps it, and a call on rows of other lengths changes nothing.
use Rattle.std.proofs.Common.{◌≡◌, ℕ, ◌≤◌, true, false, cond, ◌&&◌, leb, List, [], ◌∷◌, length, Some, None, Option, sym, refl, ap, ◌∙◌, subst, ⊎_elim, arith, Err}
use lib.Ieee.{Float}
use Rattle.std.proofs.lemmas.Bool.{leb-true, and_parts, cases_Bool, cond-true, cond-false}
use Rattle.surface.specs.declared.refusals.Refusal.{Refusal}
use Rattle.surface.specs.declared.refusals.Refusal.TheVariants.{RowLength}
use Rattle.area.specs.declared.Winding.{Winding}
use Rattle.polygon.specs.Polygons.{Solve}
use Rattle.stations.specs.declared.Station.{Station}
use Rattle.stations.specs.declared.records.EditRecord.{EditRecord}
use Rattle.history.specs.declared.Sizes.{Sizes}
use Rattle.history.specs.declared.Frame.{Frame}
use Rattle.history.specs.declared.Call.{Call}
use Rattle.history.specs.declared.Call.TheVariants.{Add, Move, Drop, TakeBack, Measure}
use Rattle.history.specs.Calls.{Outcome, done_by, done_of, measure_answer, lengths_of, same_lengths, open_refusal, opened}
use Rattle.history.specs.Book.{Book, empty_book, refusal_on, book_refusal, book_after, changed, unless_refused}
use Rattle.history.specs.Histories.{Event, done_at, fitting, Untouched, refusal_in, Agree, Agrees, HistoryLaw}
use Rattle.history.proofs.Outcomes.{add-lengths, move_lengths, drop-lengths, take_back_lengths, measure_lengths}
use Rattle.history.proofs.Following.{Follows, call_right}

-- a call on rows of other lengths
other_lengths : (edge : Solve) (whole : Float) (f : Frame) (stations : List Station) (edits : List EditRecord) → same_lengths (lengths_of stations edits) f.lengths ≡ false → (call : Call) → done_of edge whole f stations edits call ≡ record { answer = Err RowLength; frame = f; stations = stations; edits = edits }
other_lengths edge whole f stations edits other (Add lat lon) = ap done_by (add-lengths edge f stations edits other lat lon)
other_lengths edge whole f stations edits other (Move place lat lon) = ap done_by (move_lengths edge f stations edits other place lat lon)
other_lengths edge whole f stations edits other (Drop place) = ap done_by (drop-lengths edge f stations edits other place)
other_lengths edge whole f stations edits other TakeBack = ap done_by (take_back_lengths edge f stations edits other)
other_lengths edge whole f stations edits other (Measure sign) =
    ap (λ r. record { answer = measure_answer r; frame = f; stations = stations; edits = edits }) (measure_lengths edge f stations edits other whole sign)

module _ (edge : Solve) (whole : Float) (winding : Winding) (opening : Sizes) (bound : opening.stations ≤ 4096) where
  abbrev after : Book → Event → Book
  after b e = book_after opening (lengths_of e.stations e.edits) b e.call

  -- what one call shows, and that the relation goes on with the rows that are kept
  pub record Stepped (b : Book) (stations : List Station) (edits : List EditRecord) (e : Event) : Type 0 where
    pub agrees : Agree edge whole winding opening b e
    pub follows : Follows edge winding opening (after b e) (done_at edge whole e).frame (cond (fitting e) (done_at edge whole e).stations stations) (cond (fitting e) (done_at edge whole e).edits edits)

  module _ (b : Book) (stations : List Station) (edits : List EditRecord) (e : Event) where
    done : Outcome
    done = done_at edge whole e

    found : Sizes
    found = lengths_of e.stations e.edits

    step_fitting : Follows edge winding opening b e.frame e.stations e.edits → fitting e ≡ true → Stepped b stations edits e
    unfolding done found
    step_fitting r fits =
        let right = call_right edge whole winding opening b e.frame e.stations e.edits bound r e.call in
        let same : same_lengths found opening ≡ true = ap (same_lengths found) (sym r.lengths) ∙ fits in
        let says : book_refusal opening found b e.call ≡ refusal_on (length e.stations) b e.call = cond-true (same_lengths found opening) (refusal_on (length e.stations) b e.call) (Some RowLength) same in
        let turned : Follows edge winding opening (after b e) done.frame done.stations done.edits =
        subst (λ (o : Option Refusal). Follows edge winding opening (unless_refused o b (changed opening.edits b e.call)) done.frame done.stations done.edits) (sym says) right.follows in
        record {
          agrees = record { refusal = right.refusal ∙ sym says; figures = right.figures };
          follows = subst (λ l. Follows edge winding opening (after b e) done.frame l (cond (fitting e) done.edits edits)) (sym (cond-true (fitting e) done.stations stations fits))
              (subst (λ l. Follows edge winding opening (after b e) done.frame done.stations l) (sym (cond-true (fitting e) done.edits edits fits)) turned);
        }

    step_other : Follows edge winding opening b e.frame stations edits → fitting e ≡ false → Stepped b stations edits e
    unfolding done found
    step_other r other =
        let same : same_lengths found opening ≡ false = ap (same_lengths found) (sym r.lengths) ∙ other in
        let says : book_refusal opening found b e.call ≡ Some RowLength = cond-false (same_lengths found opening) (refusal_on (length e.stations) b e.call) (Some RowLength) same in
        let is : done ≡ record { answer = Err RowLength; frame = e.frame; stations = e.stations; edits = e.edits } = other_lengths edge whole e.frame e.stations e.edits other e.call in
        let kept : Follows edge winding opening (after b e) e.frame stations edits =
        subst (λ (o : Option Refusal). Follows edge winding opening (unless_refused o b (changed opening.edits b e.call)) e.frame stations edits) (sym says) r in
        let framed : Follows edge winding opening (after b e) done.frame stations edits =
        subst (λ (f : Frame). Follows edge winding opening (after b e) f stations edits) (sym (ap (λ (d : Outcome). d.frame) is)) kept in
        record {
          agrees = record {
            refusal = ap (λ (d : Outcome). refusal_in d.answer) is ∙ sym says;
            figures = λ sign m asked answers. absurd (cc (ap (λ (d : Outcome). d.answer) is));
          };
          follows = subst (λ l. Follows edge winding opening (after b e) done.frame l (cond (fitting e) done.edits edits)) (sym (cond-false (fitting e) done.stations stations other))
              (subst (λ l. Follows edge winding opening (after b e) done.frame stations l) (sym (cond-false (fitting e) done.edits edits other)) framed);
        }

    pub step : (f : Frame) → Follows edge winding opening b f stations edits → e.frame ≡ f → (fitting e ≡ true → (e.stations ≡ stations) × (e.edits ≡ edits)) → Stepped b stations edits e
    step f r is rows =
        let framed : Follows edge winding opening b e.frame stations edits = subst (λ (g : Frame). Follows edge winding opening b g stations edits) (sym is) r in
        ⊎_elim
        (λ fits. step_fitting (subst (λ l. Follows edge winding opening b e.frame e.stations l) (sym (rows fits).1) (subst (λ l. Follows edge winding opening b e.frame l edits) (sym (rows fits).0) framed)) fits)
        (step_other framed)
        (cases_Bool (fitting e))

  pub run : (b : Book) (f : Frame) (stations : List Station) (edits : List EditRecord) (history : List Event) → Follows edge winding opening b f stations edits → Untouched edge whole f stations edits history → Agrees edge whole winding opening b history
  unfolding Untouched Agrees
  run b f stations edits [] r untouched = tt
  run b f stations edits (e ∷ es) r untouched =
      let s = step b stations edits e f r untouched.0 untouched.1 in
      let d = done_at edge whole e in
      (s.agrees, run (after b e) d.frame (cond (fitting e) d.stations stations) (cond (fitting e) d.edits edits) es s.follows untouched.2)

-- ---- at opening

pub opening_follows : (edge : Solve) (winding : Winding) (stations : List Station) (edits : List EditRecord) → Follows edge winding (lengths_of stations edits) empty_book (opened winding (length stations) (length edits)) stations edits
opening_follows edge winding stations edits =
    record {
      turn = refl;
      lengths = refl;
      station_row = refl;
      edit_row = refl;
      holds = record { counted = refl; held = omega arith; stations = refl; accepted = tt };
      few = omega arith;
      past = tt;
    }

pub opening_bound : (stations edits : ℕ) → open_refusal stations edits ≡ None → stations ≤ 4096
opening_bound stations edits granted =
    ⊎_elim
    (λ fit. leb-true stations 4096 (and_parts (leb stations 4096) (leb edits 1024) fit).0)
    (λ unfit. absurd (cc (cond-false (leb stations 4096 && leb edits 1024) None (Some RowLength) unfit)))
    (cases_Bool (leb stations 4096 && leb edits 1024))

pub history_law : HistoryLaw
history_law edge whole winding stations edits history granted untouched =
    run edge whole winding (lengths_of stations edits) (opening_bound (length stations) (length edits) granted) empty_book (opened winding (length stations) (length edits)) stations edits history (opening_follows edge winding stations edits) untouched
