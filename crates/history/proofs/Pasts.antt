-- The edit records, newest first, lead from the standing list back through the past: each fits the list before it and undoes it into the next.
use Rattle.std.proofs.Common.{◌≡◌, ℕ, zero, suc, ◌+◌, ◌-◌, ◌<◌, ◌≤◌, true, cond, eqb, List, [], ◌∷◌, length, get_or, take, drop, set, sym, refl, ap, ◌∙◌, subst, ⊎_elim, add-one, arith}
use Rattle.std.specs.List.{insert, remove}
use Rattle.std.proofs.lemmas.List.{length-take-le, get_or_append_left, get_or-take, take_all}
use Rattle.std.proofs.lemmas.List.Edits.{length-insert, length-remove, get_or-insert_at, get_or-insert_below, get_or-remove_above}
use Rattle.std.proofs.lemmas.Bool.{cases_lt}
use Rattle.rows.specs.Rows.{put_in, take_out}
use Rattle.rows.proofs.Changes.{put_in_place, take_out_place, length_take_out}
use Rattle.polygon.specs.declared.Point.{Point}
use Rattle.stations.specs.declared.records.EditRecord.{EditRecord}
use Rattle.stations.specs.Records.{old_point, add_kind, move_kind, fits_outline, noted, noted_count}
use Rattle.stations.proofs.Noting.{noted_room, noted-full, count_room, count_full}
use Rattle.history.specs.Calls.{no_record}

-- the first `count` records of a row, newest first
abbrev pub newest_first : List EditRecord → ℕ → List EditRecord
newest_first row zero = []
newest_first row (suc n) = get_or row n no_record ∷ newest_first row n

-- ---- noting

-- putting in at the end of what is in use
module _ (row : List EditRecord) (n : ℕ) (e : EditRecord) (free : n < length row) where
  full-length : length (insert (take n row) n e) ≡ n + 1
  full-length =
      let in_use : length (take n row) ≡ n = length-take-le n row (omega arith) in
      length-insert (take n row) n e (omega (arith, in_use)) ∙ ap (λ k. k + 1) in_use

  put_last : get_or (put_in row n n e) n no_record ≡ e
  put_last =
      ap (λ l. get_or l n no_record) (put_in_place row n n e (omega arith) free)
      ∙ get_or_append_left (insert (take n row) n e) (drop (suc n) row) no_record n (omega (arith, full-length))
      ∙ get_or-insert_at (take n row) n e no_record (omega (arith, length-take-le n row (omega arith)))

  put_others : (k : ℕ) → k < n → get_or (put_in row n n e) k no_record ≡ get_or row k no_record
  put_others k low =
      ap (λ l. get_or l k no_record) (put_in_place row n n e (omega arith) free)
      ∙ get_or_append_left (insert (take n row) n e) (drop (suc n) row) no_record k (omega (arith, full-length))
      ∙ get_or-insert_below (take n row) n e no_record k low (omega (arith, length-take-le n row (omega arith)))
      ∙ get_or-take n row k no_record low

-- the oldest taken out: every other record is one slot back
taken_others : (row : List EditRecord) (m k : ℕ) → length row ≡ suc m → k < m → get_or (take_out row (suc m) 0) k no_record ≡ get_or row (suc k) no_record
taken_others row m k long low =
    let in_use : length (take (suc m) row) ≡ suc m = length-take-le (suc m) row (omega arith) in
    let left : length (remove (take (suc m) row) 0) + 1 ≡ length (take (suc m) row) = length-remove (take (suc m) row) 0 (omega (arith, in_use)) in
    ap (λ l. get_or l k no_record) (take_out_place row (suc m) 0 (omega arith) (omega arith))
    ∙ get_or_append_left (remove (take (suc m) row) 0) (drop (suc m - 1) row) no_record k (omega (arith, in_use, left))
    ∙ get_or-remove_above (take (suc m) row) 0 no_record k (omega arith) (omega (arith, in_use))
    ∙ ap (λ i. get_or (take (suc m) row) i no_record) (add-one k)
    ∙ get_or-take (suc m) row (suc k) no_record (omega arith)

same_newest : (row other : List EditRecord) (n : ℕ) → ((k : ℕ) → k < n → get_or other k no_record ≡ get_or row k no_record) → newest_first other n ≡ newest_first row n
same_newest row other zero same = refl
same_newest row other (suc n) same =
    ap (λ e. e ∷ newest_first other n) (same n (omega arith)) ∙ ap (λ l. get_or row n no_record ∷ l) (same_newest row other n (λ k low. same k (omega arith)))

-- each record of the other row is one slot back
shifted_newest : (row other : List EditRecord) (n : ℕ) → ((k : ℕ) → k < n → get_or other k no_record ≡ get_or row (suc k) no_record) → newest_first other n ≡ take n (newest_first row (suc n))
shifted_newest row other zero same = refl
shifted_newest row other (suc n) same =
    ap (λ e. e ∷ newest_first other n) (same n (omega arith)) ∙ ap (λ l. get_or row (suc n) no_record ∷ l) (shifted_newest row other n (λ k low. same k (omega arith)))

length_newest : (row : List EditRecord) (n : ℕ) → length (newest_first row n) ≡ n
length_newest row zero = refl
length_newest row (suc n) = ap suc (length_newest row n)

-- a row of J slots holds the J newest: a full row loses its oldest, and a row of no slots holds none
module _ (row : List EditRecord) (n : ℕ) (e : EditRecord) where
  note_room : n < length row → newest_first (noted row n e) (noted_count row n) ≡ take (length row) (e ∷ newest_first row n)
  note_room free =
      let held : length (e ∷ newest_first row n) ≤ length row = omega (arith, length_newest row n) in
      ap (λ l. newest_first l (noted_count row n)) (noted_room row n e free)
      ∙ ap (newest_first (put_in row n n e)) (count_room row n free ∙ add-one n)
      ∙ ap (λ x. x ∷ newest_first (put_in row n n e) n) (put_last row n e free)
      ∙ ap (λ l. e ∷ l) (same_newest row (put_in row n n e) n (put_others row n e free))
      ∙ sym (take_all (length row) (e ∷ newest_first row n) held)

  note_none : length row ≡ 0 → newest_first (noted row n e) (noted_count row n) ≡ take (length row) (e ∷ newest_first row n)
  note_none long =
      ap (newest_first (noted row n e)) (count_full row n (omega arith) ∙ long) ∙ sym (ap (λ k. take k (e ∷ newest_first row n)) long)

  note_full : (m : ℕ) → length row ≡ suc m → n ≡ suc m → newest_first (noted row n e) (noted_count row n) ≡ take (length row) (e ∷ newest_first row n)
  note_full m long is =
      let out = take_out row (suc m) 0 in
      let free : m < length out = omega (arith, length_take_out row (suc m) 0) in
      let back : suc m - 1 ≡ m = omega arith in
      let put : noted row n e ≡ put_in out m m e =
      noted-full row n e (omega arith) ∙ ap (λ k. put_in (take_out row k 0) (k - 1) (k - 1) e) long ∙ ap (λ k. put_in out k k e) back in
      ap (λ l. newest_first l (noted_count row n)) put
      ∙ ap (newest_first (put_in out m m e)) (count_full row n (omega arith) ∙ long)
      ∙ ap (λ x. x ∷ newest_first (put_in out m m e) m) (put_last out m e free)
      ∙ ap (λ l. e ∷ l) (shifted_newest row (put_in out m m e) m (λ k low. put_others out m e free k low ∙ taken_others row m k long low))
      ∙ sym (ap (λ k. take k (e ∷ newest_first row n)) long ∙ ap (λ k. e ∷ take m (newest_first row k)) is)

  by_length : (k : ℕ) → length row ≡ k → n ≡ k → newest_first (noted row n e) (noted_count row n) ≡ take (length row) (e ∷ newest_first row n)
  by_length zero long is = note_none long
  by_length (suc m) long is = note_full m long is

  pub newest_noted : n ≤ length row → newest_first (noted row n e) (noted_count row n) ≡ take (length row) (e ∷ newest_first row n)
  newest_noted held = ⊎_elim note_room (λ full. by_length (length row) refl (omega arith)) (cases_lt n (length row))

-- ---- the past

-- the list before the edit of a record
abbrev pub undone : List Point → EditRecord → List Point
undone ps e =
    cond (eqb e.kind add_kind) (take (length ps - 1) ps) (cond (eqb e.kind move_kind) (set ps e.place (old_point e)) (insert ps e.place (old_point e)))

-- `room` is the length of the station row
abbrev pub Chain : ℕ → List Point → List EditRecord → List (List Point) → Type 0
Chain room ps [] [] = Unit {0}
Chain room ps [] (before ∷ past) = ⊥
Chain room ps (e ∷ es) [] = ⊥
Chain room ps (e ∷ es) (before ∷ past) = (fits_outline (length ps) room e ≡ true) × (undone ps e ≡ before) × Chain room before es past

chain_take : (room : ℕ) (ps : List Point) (es : List EditRecord) (past : List (List Point)) (n : ℕ) → Chain room ps es past → Chain room ps (take n es) (take n past)
chain_take room ps es past zero chain = tt
chain_take room ps [] [] (suc n) chain = tt
chain_take room ps [] (before ∷ past) (suc n) chain = absurd chain
chain_take room ps (e ∷ es) [] (suc n) chain = absurd chain
chain_take room ps (e ∷ es) (before ∷ past) (suc n) chain = (chain.0, chain.1, chain_take room before es past n chain.2)

-- an edit from one list to another is noted by a record that undoes it, of which the newest remain
pub chain_noted : (room : ℕ) (ps now : List Point) (row : List EditRecord) (n : ℕ) (past : List (List Point)) (e : EditRecord) → n ≤ length row → Chain room ps (newest_first row n) past → fits_outline (length now) room e ≡ true → undone now e ≡ ps → Chain room now (newest_first (noted row n e) (noted_count row n)) (take (length row) (ps ∷ past))
chain_noted room ps now row n past e held chain fits undoes =
    subst (λ l. Chain room now l (take (length row) (ps ∷ past))) (sym (newest_noted row n e held)) (chain_take room now (e ∷ newest_first row n) (ps ∷ past) (length row) (fits, undoes, chain))
