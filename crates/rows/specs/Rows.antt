-- Putting an item in and taking one out at a place of a row whose first `count` slots are in use. Assumes nothing.
use Rattle.std.specs.Prelude.{ℕ, suc, ◌-◌, Bool, cond, ◌&&◌, List, ◌++◌, length, take, drop, nat_le, nat_lt}
use Rattle.std.specs.List.{insert, remove}

-- there is a free slot, and the place is in use or the first free one
abbrev pub has_room : {X : Type 0} → List X → ℕ → ℕ → Bool
has_room row count place = nat_le place count && nat_lt count (length row)

-- the place is in use
abbrev pub is_in_use : {X : Type 0} → List X → ℕ → ℕ → Bool
is_in_use row count place = nat_lt place count && nat_le count (length row)

-- the item stands at its place, what stood there and after it is one slot on, and every slot past the new count is as it was; without room nothing changes
unfoldable pub put_in : {X : Type 0} → List X → ℕ → ℕ → X → List X
put_in row count place item =
    cond (has_room row count place) (insert (take count row) place item ++ drop (suc count) row) row

-- what stood after the place is one slot back, and every slot from the new count on is as it was; where the place is not in use nothing changes
unfoldable pub take_out : {X : Type 0} → List X → ℕ → ℕ → List X
take_out row count place = cond (is_in_use row count place) (remove (take count row) place ++ drop (count - 1) row) row
