-- The book of an outline: the standing points and the lists that stood before, fed the calls with their arguments and the lengths of the rows, and no answers. Assumes nothing.
use Rattle.std.specs.Prelude.{ℕ, cond, List, [], ◌∷◌, ◌++◌, length, take, Some, None, Option, ◌==◌, nat_lt, slice_set}
use Rattle.std.specs.List.{remove}
use Rattle.geomath.specs.Angles.{accepts}
use Rattle.surface.specs.declared.refusals.Refusal.{Refusal}
use Rattle.surface.specs.declared.refusals.Refusal.TheVariants.{Point as PointOff, RowLength, Full, Place, NothingToTakeBack}
use Rattle.polygon.specs.declared.Point.{Point}
use Rattle.history.specs.declared.Sizes.{Sizes}
use Rattle.history.specs.declared.Call.{Call}
use Rattle.history.specs.declared.Call.TheVariants.{Add, Move, Drop, TakeBack, Measure}
use Rattle.history.specs.Calls.{same_lengths}

-- the points that stand, in order, and the earlier standing lists, the newest first
pub record Book : Type 0 where
  pub standing : List Point
  pub past : List (List Point)

-- at opening both are empty
abbrev pub empty_book : Book
empty_book = record { standing = []; past = [] }

-- ---- refusals

-- 7 comes exactly when there is no past
abbrev pub take_back_refusal : List (List Point) → Option Refusal
take_back_refusal [] = Some NothingToTakeBack
take_back_refusal (before ∷ past) = None

-- on rows as long as at opening; `room` is the length of the station row
abbrev pub refusal_on : ℕ → Book → Call → Option Refusal
refusal_on room b (Add lat lon) =
    cond (accepts lat lon) (cond (length b.standing == room) (Some Full) None) (Some PointOff)
refusal_on room b (Move place lat lon) =
    cond (nat_lt place (length b.standing)) (cond (accepts lat lon) None (Some PointOff)) (Some Place)
refusal_on room b (Drop place) = cond (nat_lt place (length b.standing)) None (Some Place)
refusal_on room b TakeBack = take_back_refusal b.past
refusal_on room b (Measure sign) = None

-- why a call is refused, if it is, where the rows were opened with some lengths and now have these
abbrev pub book_refusal : Sizes → Sizes → Book → Call → Option Refusal
book_refusal lengths found b call =
    cond (same_lengths found lengths) (refusal_on found.stations b call) (Some RowLength)

-- ---- changes

-- another list stands, and the one that stood goes in front of the past, of which the newest `most` remain
abbrev pub turned_to : ℕ → Book → List Point → Book
turned_to most b standing = record { standing = standing; past = take most (b.standing ∷ b.past) }

-- the front of the past stands again
abbrev pub turned_back : Book → List (List Point) → Book
turned_back b [] = b
turned_back b (before ∷ past) = record { standing = before; past = past }

abbrev pub changed : ℕ → Book → Call → Book
changed most b (Add lat lon) = turned_to most b (b.standing ++ (record { lat = lat; lon = lon } ∷ []))
changed most b (Move place lat lon) = turned_to most b (slice_set b.standing place (record { lat = lat; lon = lon }))
changed most b (Drop place) = turned_to most b (remove b.standing place)
changed most b TakeBack = turned_back b b.past
changed most b (Measure sign) = b

abbrev pub unless_refused : Option Refusal → Book → Book → Book
unless_refused None b after = after
unless_refused (Some e) b after = b

-- the book after a call; a refused call changes nothing
abbrev pub book_after : Sizes → Sizes → Book → Call → Book
book_after lengths found b call = unless_refused (book_refusal lengths found b call) b (changed lengths.edits b call)
