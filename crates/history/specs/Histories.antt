-- The law of an outline's history: while storage is untouched, each call is refused as the book says, and each measure is that of a new PolygonArea over the standing points. Assumes nothing.
use Rattle.std.specs.Prelude.{◌≡◌, Bool, true, cond, List, [], ◌∷◌, length, Some, None, Ok, Err, Option, Float}
use Rattle.surface.specs.declared.refusals.Refusal.{Refusal}
use Rattle.area.specs.declared.Winding.{Winding}
use Rattle.polygon.specs.declared.Point.{Point}
use Rattle.polygon.specs.declared.Figures.{Figures}
use Rattle.polygon.specs.declared.Traverse.{Traverse}
use Rattle.polygon.specs.Polygons.{Solve, figures_of}
use Rattle.polygon.specs.Traverses.{begun, offered, closed}
use Rattle.stations.specs.declared.Station.{Station}
use Rattle.stations.specs.declared.records.EditRecord.{EditRecord}
use Rattle.history.specs.declared.Sizes.{Sizes}
use Rattle.history.specs.declared.Frame.{Frame}
use Rattle.history.specs.declared.Measurement.{Measurement}
use Rattle.history.specs.declared.Call.{Call}
use Rattle.history.specs.declared.Call.TheVariants.{Measure}
use Rattle.history.specs.declared.Done.TheVariants.{Measured}
use Rattle.history.specs.Calls.{Answer, open_refusal, opened, lengths_of, same_lengths, Outcome, done_of}
use Rattle.history.specs.Book.{Book, empty_book, book_refusal, book_after}

-- ---- a history

-- a call, with the frame and the rows that it finds
pub record Event : Type 0 where
  pub call : Call
  pub frame : Frame
  pub stations : List Station
  pub edits : List EditRecord

abbrev pub done_at : Solve → Float → Event → Outcome
done_at edge whole e = done_of edge whole e.frame e.stations e.edits e.call

-- the rows are as long as at opening
abbrev pub fitting : Event → Bool
fitting e = same_lengths (lengths_of e.stations e.edits) e.frame.lengths

-- Storage is untouched: each call finds the outline as the call before left it and, unless the lengths of its rows bring a refusal,
-- both rows as the last call without that refusal left them.
unfoldable pub Untouched : Solve → Float → Frame → List Station → List EditRecord → List Event → Type 0
Untouched edge whole f stations edits [] = Unit {0}
Untouched edge whole f stations edits (e ∷ es) =
    let done = done_at edge whole e in
    (e.frame ≡ f)
    × (fitting e ≡ true → (e.stations ≡ stations) × (e.edits ≡ edits))
    × Untouched edge whole done.frame (cond (fitting e) done.stations stations) (cond (fitting e) done.edits edits) es

-- ---- agreement with the book

abbrev pub refusal_in : Answer → Option Refusal
refusal_in (Ok done) = None
refusal_in (Err e) = Some e

-- what a PolygonArea holds once it is given these points, one after the other
unfoldable pub given : Solve → Traverse → List Point → Traverse
given edge t [] = t
given edge t (p ∷ ps) = given edge (offered edge t p.lat p.lon) ps

-- what a new PolygonArea then computes
abbrev pub computed : Solve → Float → Winding → Bool → List Point → Figures
computed edge whole winding sign points = closed edge whole winding sign (given edge begun points)

-- the call was a measure that was not refused: its figures are those of a new PolygonArea over the standing points, which are those of the polygon with these points
abbrev pub FiguresAgree : Solve → Float → Winding → List Point → Call → Answer → Type 0
FiguresAgree edge whole winding standing call answer =
    (sign : Bool) (m : Measurement) → call ≡ Measure sign → answer ≡ Ok (Measured m) → (m.figures ≡ computed edge whole winding sign standing) × (m.figures ≡ figures_of edge whole winding sign standing)

pub record Agree (edge : Solve) (whole : Float) (winding : Winding) (lengths : Sizes) (b : Book) (e : Event) : Type 0 where
  pub refusal : refusal_in (done_at edge whole e).answer ≡ book_refusal lengths (lengths_of e.stations e.edits) b e.call
  pub figures : FiguresAgree edge whole winding b.standing e.call (done_at edge whole e).answer

-- every call agrees with the book, which goes on by itself
unfoldable pub Agrees : Solve → Float → Winding → Sizes → Book → List Event → Type 0
Agrees edge whole winding lengths b [] = Unit {0}
Agrees edge whole winding lengths b (e ∷ es) =
    Agree edge whole winding lengths b e
    × Agrees edge whole winding lengths (book_after lengths (lengths_of e.stations e.edits) b e.call) es

-- On any surface, after an opening that was not refused, every history of calls on untouched storage agrees with the book.
abbrev pub HistoryLaw : Type 0
HistoryLaw =
    (edge : Solve) (whole : Float) (winding : Winding) (stations : List Station) (edits : List EditRecord) (history : List Event)
    → open_refusal (length stations) (length edits) ≡ None
    → Untouched edge whole (opened winding (length stations) (length edits)) stations edits history
    → Agrees edge whole winding (lengths_of stations edits) empty_book history
