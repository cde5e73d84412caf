-- A rotation by one of the slots from a place on puts an item in or takes one out.
use Rattle.std.proofs.Common.{◌≡◌, ℕ, suc, ◌+◌, ◌-◌, ◌<◌, ◌≤◌, List, [], ◌∷◌, ◌++◌, length, get_or, take, drop, set, sym, ap, ◌∙◌, add-one, arith, drop-cons}
use borrow.Rule.Slice.PartMut.{put_mid}
use Rattle.std.specs.List.{between, insert, remove}
use Rattle.std.proofs.lemmas.List.{append_assoc, length-append, length-take, length-drop, length-take-le, length_push, take-take, take_at, take-set-le, take_more, take_more_set, drop_at, drop-drop, drop-append-le, drop-set-lt, set_at}
use Rattle.std.proofs.lemmas.Slice.{between_is}

-- ---- putting in

-- the last of these items, then the others
abbrev pub turned_right : {X : Type 0} → List X → List X
turned_right xs = drop (length xs - 1) xs ++ take (length xs - 1) xs

turned_right_push : {X : Type 0} (xs : List X) (x : X) → turned_right (xs ++ x ∷ []) ≡ x ∷ xs
turned_right_push xs x =
    let n : length xs ≡ length (xs ++ x ∷ []) - 1 = omega (arith, length_push xs x) in
    rw (drop_at xs (x ∷ []) (length (xs ++ x ∷ []) - 1) n, take_at xs (x ∷ []) (length (xs ++ x ∷ []) - 1) n)

module _ {X : Type 0} (row : List X) (count place : ℕ) (item : X) (low : place ≤ count) (room : count < length row) where
  part_with_item : between place (count + 1) (set row count item) ≡ drop place (take count row) ++ item ∷ []
  part_with_item =
      let short : place ≤ length (take count row) = omega (arith, length-take count row) in
      between_is (set row count item) place (count + 1) ∙ ap (drop place) (take_more_set row count item room) ∙ drop-append-le place (take count row) (item ∷ []) short

  rest_kept : drop (count + 1 - place) (drop place (set row count item)) ≡ drop (suc count) row
  rest_kept =
      let e : place + (count + 1 - place) ≡ suc count = omega (arith, add-one count) in
      drop-drop (count + 1 - place) place (set row count item) ∙ ap (λ n. drop n (set row count item)) e ∙ drop-set-lt (suc count) row count item (omega arith)

  front_kept : take place (set row count item) ≡ take place (take count row)
  front_kept = take-set-le place row count item low ∙ sym (take-take place count row low)

  pub put_in_by_rotation : put_mid place (count + 1 - place) (set row count item) (turned_right (between place (count + 1) (set row count item))) ≡ insert (take count row) place item ++ drop (suc count) row
  put_in_by_rotation =
      rw (front_kept, rest_kept, part_with_item, turned_right_push (drop place (take count row)) item) (sym (append_assoc (take place (take count row)) (item ∷ drop place (take count row)) (drop (suc count) row)))

-- ---- taking out

-- the items after the first, then the first
abbrev pub turned_left : {X : Type 0} → List X → List X
turned_left xs = drop 1 xs ++ take 1 xs

module _ {X : Type 0} (row : List X) (count place : ℕ) (low : place < count) (held : count ≤ length row) where
  others : List X
  others = remove (take count row) place

  length_others : length others ≡ count - 1
  unfolding others
  length_others =
      omega (arith, length-append (take place (take count row)) (drop (suc place) (take count row)), length-take place (take count row), length-drop (suc place) (take count row), length-take-le count row held)

  turned_left_lem : (d : X) → turned_left (between place count row) ≡ drop (suc place) (take count row) ++ get_or (drop place (take count row)) 0 d ∷ []
  turned_left_lem d =
      let some : 0 < length (drop place (take count row)) = omega (arith, length-drop place (take count row), length-take-le count row held) in
      rw (between_is row place count, drop-drop 1 place (take count row), add-one place, take_more (drop place (take count row)) 0 d some)

  rest_past : drop (count - place) (drop place row) ≡ drop count row
  rest_past =
      let e : place + (count - place) ≡ count = omega arith in
      drop-drop (count - place) place row ∙ ap (λ n. drop n row) e

  rotated : (d : X) → put_mid place (count - place) row (turned_left (between place count row)) ≡ others ++ get_or (drop place (take count row)) 0 d ∷ drop count row
  unfolding others
  rotated d =
      let early : place ≤ count = omega arith in
      rw (turned_left_lem d, rest_past, ← take-take place count row early) (simp append_assoc)

  last_kept : (last : X) → last ≡ get_or row (count - 1) last → last ∷ drop count row ≡ drop (count - 1) row
  last_kept last is =
      let e : suc (count - 1) ≡ count = omega arith in
      ap (λ x. x ∷ drop count row) is ∙ ap (λ n. get_or row (count - 1) last ∷ drop n row) (sym e) ∙ sym (drop-cons row (count - 1) last (omega arith))

  pub take_out_by_rotation : (last : X) → last ≡ get_or row (count - 1) last → set (put_mid place (count - place) row (turned_left (between place count row))) (count - 1) last ≡ remove (take count row) place ++ drop (count - 1) row
  unfolding others
  take_out_by_rotation last is =
      ap (λ l. set l (count - 1) last) (rotated last) ∙ set_at others _ (drop count row) last (count - 1) length_others ∙ ap (λ l. others ++ l) (last_kept last is)
