-- What putting in and taking out give where they change the row, and where they do not.
use Rattle.std.proofs.Common.{◌≡◌, ℕ, suc, ◌+◌, ◌-◌, ◌<◌, ◌≤◌, ltb, leb, List, ◌++◌, length, take, drop, ap, ◌∙◌, ⊎_elim, arith}
use Rattle.std.specs.List.{insert, remove}
use Rattle.std.proofs.lemmas.List.{length-append, length-drop, length-take-le}
use Rattle.std.proofs.lemmas.List.Edits.{length-insert, length-remove}
use Rattle.std.proofs.lemmas.Bool.{lt-ltb, le-ltb, le-leb, lt-leb, and_right, cases_lt}
use Rattle.rows.specs.Rows.{put_in, take_out}

module _ {X : Type 0} (row : List X) (count place : ℕ) where
  pub put_in_place : (item : X) → place ≤ count → count < length row → put_in row count place item ≡ insert (take count row) place item ++ drop (suc count) row
  unfolding put_in
  put_in_place item low room = rw (le-leb place count low, lt-ltb count (length row) room)

  pub put_in_above : (item : X) → count < place → put_in row count place item ≡ row
  unfolding put_in
  put_in_above item above = rw (lt-leb place count above)

  pub put_in_full : (item : X) → length row ≤ count → put_in row count place item ≡ row
  unfolding put_in
  put_in_full item full = rw (and_right (leb place count) (ltb count (length row)) (le-ltb count (length row) full))

  pub take_out_place : place < count → count ≤ length row → take_out row count place ≡ remove (take count row) place ++ drop (count - 1) row
  unfolding take_out
  take_out_place low held = rw (lt-ltb place count low, le-leb count (length row) held)

  pub take_out_above : count ≤ place → take_out row count place ≡ row
  unfolding take_out
  take_out_above above = rw (le-ltb place count above)

  pub take_out_past : length row < count → take_out row count place ≡ row
  unfolding take_out
  take_out_past past = rw (and_right (ltb place count) (leb count (length row)) (lt-leb count (length row) past))

  -- ---- the row keeps its length

  put_in_long : (item : X) → place ≤ count → count < length row → length (insert (take count row) place item ++ drop (suc count) row) ≡ length row
  put_in_long item low room =
      let front : length (take count row) ≡ count = length-take-le count row (omega arith) in
      let more : length (insert (take count row) place item) ≡ length (take count row) + 1 = length-insert (take count row) place item (omega (arith, front)) in
      omega (arith, length-append (insert (take count row) place item) (drop (suc count) row), length-drop (suc count) row, front, more)

  pub length_put_in : (item : X) → length (put_in row count place item) ≡ length row
  length_put_in item =
      ⊎_elim
      (λ above. ap length (put_in_above item above))
      (λ low. ⊎_elim (λ room. ap length (put_in_place item low room) ∙ put_in_long item low room) (λ full. ap length (put_in_full item full)) (cases_lt count (length row)))
      (cases_lt count place)

  take_out_long : place < count → count ≤ length row → length (remove (take count row) place ++ drop (count - 1) row) ≡ length row
  take_out_long low held =
      let front : length (take count row) ≡ count = length-take-le count row held in
      let less : length (remove (take count row) place) + 1 ≡ length (take count row) = length-remove (take count row) place (omega (arith, front)) in
      omega (arith, length-append (remove (take count row) place) (drop (count - 1) row), length-drop (count - 1) row, front, less)

  pub length_take_out : length (take_out row count place) ≡ length row
  length_take_out =
      ⊎_elim
      (λ low. ⊎_elim (λ past. ap length (take_out_past past)) (λ held. ap length (take_out_place low held) ∙ take_out_long low held) (cases_lt (length row) count))
      (λ above. ap length (take_out_above above))
      (cases_lt place count)
