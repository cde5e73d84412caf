-- Edit records: what is noted of an edit, when a record fits an outline, and which records a row holds. Assumes nothing.
use Rattle.std.specs.Prelude.{◌≡◌, ℕ, ◌+◌, ◌-◌, Bool, true, false, cond, ◌&&◌, List, length, Option, Result, MatchResult, ◌==◌, nat_le, nat_lt}
use Rattle.std.specs.Option.{MatchOption}
use Rattle.geomath.specs.Angles.{zero, accepts}
use Rattle.polygon.specs.declared.Point.{Point}
use Rattle.rows.specs.Rows.{put_in, take_out}
use Rattle.stations.specs.declared.records.EditKind.{EditKind}
use Rattle.stations.specs.declared.records.EditKind.TheVariants.{Add, Move, Drop}
use Rattle.stations.specs.declared.records.UnknownKind.{UnknownKind}
use Rattle.stations.specs.declared.records.EditRecord.{EditRecord}

-- ---- the kinds

-- 1 add, 2 move, 3 drop
abbrev pub add_kind : ℕ
add_kind = 1

abbrev pub move_kind : ℕ
move_kind = 2

abbrev pub drop_kind : ℕ
drop_kind = 3

-- the number of a kind
abbrev pub code_of : EditKind → ℕ
code_of Add = add_kind
code_of Move = move_kind
code_of Drop = drop_kind

-- the kind with this number, or an error with a number that no kind has
abbrev pub KindOf : ℕ → Result EditKind UnknownKind → Type 0
KindOf number r =
    MatchResult r (λ kind. code_of kind ≡ number) (λ e. (e.0 ≡ number) × (number ≡ add_kind → ⊥) × (number ≡ move_kind → ⊥) × (number ≡ drop_kind → ⊥))

-- ---- the records

-- an edit of a kind at a place, where the point p stood before
abbrev pub record_of : EditKind → ℕ → Point → EditRecord
record_of kind place p = record { kind = code_of kind; place = place; lat = p.lat; lon = p.lon }

-- a point was added at a place
abbrev pub add_record : ℕ → EditRecord
add_record place = record { kind = add_kind; place = place; lat = zero; lon = zero }

-- the point at a place was moved from p
abbrev pub move_record : ℕ → Point → EditRecord
move_record place p = record { kind = move_kind; place = place; lat = p.lat; lon = p.lon }

-- the point p was dropped from a place
abbrev pub drop_record : ℕ → Point → EditRecord
drop_record place p = record { kind = drop_kind; place = place; lat = p.lat; lon = p.lon }

-- the point that a record keeps
abbrev pub old_point : EditRecord → Point
old_point e = record { lat = e.lat; lon = e.lon }

-- ---- when a record fits an outline of `count` points in a row of `room` slots

-- the added point is the last one; the moved one stands, and its old place is accepted; the dropped one can be put in again
abbrev pub fits_outline : ℕ → ℕ → EditRecord → Bool
fits_outline count room e =
    cond
    (e.kind == add_kind)
    (e.place + 1 == count)
    (cond
    (e.kind == move_kind)
    (nat_lt e.place count && accepts e.lat e.lon)
    (cond (e.kind == drop_kind) (nat_le e.place count && nat_lt count room && accepts e.lat e.lon) false))

-- the kind of a record that fits, and none of one that does not
abbrev pub KindIfFit : ℕ → ℕ → EditRecord → Option EditKind → Type 0
KindIfFit count room e r =
    MatchOption r (fits_outline count room e ≡ false) (λ kind. (fits_outline count room e ≡ true) × (code_of kind ≡ e.kind))

-- ---- the row of records, the oldest first

-- how many are held once one more is noted
abbrev pub noted_count : List EditRecord → ℕ → ℕ
noted_count row count = cond (nat_lt count (length row)) (count + 1) (length row)

-- one more record at the end; in a full row the oldest makes room for it, and a row of no slots stays as it is
unfoldable pub noted : List EditRecord → ℕ → EditRecord → List EditRecord
noted row count e =
    cond
    (nat_lt count (length row))
    (put_in row count count e)
    (put_in (take_out row (length row) 0) (length row - 1) (length row - 1) e)
