-- A row whose stations in use are drawn from a list of points has them drawn from the edited list once a point is placed, moved or dropped; the slots past them are as they were.
use Rattle.std.proofs.Common.{◌≡◌, ℕ, suc, ◌+◌, ◌-◌, ◌<◌, ◌≤◌, List, ◌∷◌, ◌++◌, length, get_or, take, drop, set, Some, None, sym, ap, ◌∙◌, arith}
use lib.Seq.{split_at}
use Rattle.std.specs.List.{insert, remove}
use Rattle.std.proofs.lemmas.List.{append_assoc, length-append, length-take-le, take-append-drop, drop-drop, set_at, set_split}
use Rattle.rows.specs.Rows.{put_in, take_out}
use Rattle.rows.proofs.Changes.{put_in_place, take_out_place}
use Rattle.polygon.specs.declared.Point.{Point}
use Rattle.polygon.specs.Polygons.{Solve}
use Rattle.stations.specs.declared.Station.{Station}
use Rattle.stations.specs.Stations.{Drawing, first_station, redrawn, redrawn_twice, placed, moved, dropped}
use Rattle.stations.proofs.Redrawing.{room, used, placed_room, moved_used, dropped_used}
use Rattle.history.proofs.Drawn.{drawn, drawn_from, last_point, length-drawn, drawn-append, take-drawn, drop-drawn, mended, mended_twice}

module _ (edge : Solve) (xs zs : List Point) (row : List Station) where
  module _ (is : take (length xs + length zs) row ≡ drawn_from edge None (xs ++ zs)) (free : length xs + length zs < length row) (p : Point) where
    put : put_in row (length xs + length zs) (length xs) (first_station p) ≡ drawn_from edge None xs ++ first_station p ∷ (drawn_from edge (last_point None xs) zs ++ drop (suc (length xs + length zs)) row)
    put =
        let count = length xs + length zs in
        let s = first_station p in
        let rest = drop (suc count) row in
        put_in_place row count (length xs) s (omega arith) free
        ∙ ap (λ l. insert l (length xs) s ++ rest) is
        ∙ ap (λ l. (l ++ s ∷ drop (length xs) (drawn_from edge None (xs ++ zs))) ++ rest) (take-drawn edge None xs zs)
        ∙ ap (λ l. (drawn_from edge None xs ++ s ∷ l) ++ rest) (drop-drawn edge None xs zs)
        ∙ append_assoc (drawn_from edge None xs) (s ∷ drawn_from edge (last_point None xs) zs) rest

    pub placed-drawn : (placed edge row (length xs + length zs) (length xs) p).stations ≡ drawn_from edge None (xs ++ p ∷ zs) ++ drop (suc (length xs + length zs)) row
    placed-drawn =
        let count = length xs + length zs in
        let total : count + 1 ≡ length xs + suc (length zs) = omega arith in
        let low : length xs ≤ count = omega arith in
        ap (λ (d : Drawing). d.stations) (placed_room edge row count (length xs) p (room row count (length xs) low free))
        ∙ ap (λ l. (redrawn_twice edge l (count + 1) (length xs)).stations) put
        ∙ ap (λ n. (redrawn_twice edge (drawn_from edge None xs ++ first_station p ∷ (drawn_from edge (last_point None xs) zs ++ drop (suc count) row)) n (length xs)).stations) total
        ∙ mended_twice edge xs (first_station p) (last_point None xs) zs (drop (suc count) row)

  module _ (z : Point) (is : take (length xs + suc (length zs)) row ≡ drawn_from edge None (xs ++ z ∷ zs)) (held : length xs + suc (length zs) ≤ length row) where
    split : row ≡ drawn_from edge None xs ++ drawn edge (last_point None xs) z ∷ (drawn_from edge (Some z) zs ++ drop (length xs + suc (length zs)) row)
    split =
        let count = length xs + suc (length zs) in
        sym (take-append-drop count row)
        ∙ ap (λ l. l ++ drop count row) (is ∙ drawn-append edge None xs (z ∷ zs))
        ∙ append_assoc (drawn_from edge None xs) (drawn_from edge (last_point None xs) (z ∷ zs)) (drop count row)

    pub moved-drawn : (p : Point) → (moved edge row (length xs + suc (length zs)) (length xs) p).stations ≡ drawn_from edge None (xs ++ p ∷ zs) ++ drop (length xs + suc (length zs)) row
    moved-drawn p =
        let count = length xs + suc (length zs) in
        let low : length xs < count = omega arith in
        let rest = drawn_from edge (Some z) zs ++ drop count row in
        let written : set row (length xs) (first_station p) ≡ drawn_from edge None xs ++ first_station p ∷ rest =
        ap (λ l. set l (length xs) (first_station p)) split ∙ set_at (drawn_from edge None xs) (drawn edge (last_point None xs) z) rest (first_station p) (length xs) (length-drawn edge None xs) in
        ap (λ (d : Drawing). d.stations) (moved_used edge row count (length xs) (used row count (length xs) low held) p)
        ∙ ap (λ l. (redrawn_twice edge l count (length xs)).stations) written
        ∙ mended_twice edge xs (first_station p) (Some z) zs (drop count row)

    taken : take_out row (length xs + suc (length zs)) (length xs) ≡ drawn_from edge None xs ++ (drawn_from edge (Some z) zs ++ drop (length xs + length zs) row)
    taken =
        let count = length xs + suc (length zs) in
        let low : length xs < count = omega arith in
        let one : suc (length xs) ≡ length xs + 1 = omega arith in
        let less : count - 1 ≡ length xs + length zs = omega arith in
        let points = drawn_from edge None (xs ++ z ∷ zs) in
        let later : drop (suc (length xs)) points ≡ drawn_from edge (Some z) zs =
        ap (λ n. drop n points) one ∙ sym (drop-drop 1 (length xs) points) ∙ ap (drop 1) (drop-drawn edge None xs (z ∷ zs)) in
        take_out_place row count (length xs) low held
        ∙ ap (λ l. remove l (length xs) ++ drop (count - 1) row) is
        ∙ ap (λ l. (l ++ drop (suc (length xs)) points) ++ drop (count - 1) row) (take-drawn edge None xs (z ∷ zs))
        ∙ ap (λ l. (drawn_from edge None xs ++ l) ++ drop (count - 1) row) later
        ∙ ap (λ n. (drawn_from edge None xs ++ drawn_from edge (Some z) zs) ++ drop n row) less
        ∙ append_assoc (drawn_from edge None xs) (drawn_from edge (Some z) zs) (drop (length xs + length zs) row)

    pub dropped-drawn : (dropped edge row (length xs + suc (length zs)) (length xs)).stations ≡ drawn_from edge None (xs ++ zs) ++ drop (length xs + length zs) row
    dropped-drawn =
        let count = length xs + suc (length zs) in
        let low : length xs < count = omega arith in
        let less : count - 1 ≡ length xs + length zs = omega arith in
        ap (λ (d : Drawing). d.stations) (dropped_used edge row count (length xs) (used row count (length xs) low held))
        ∙ ap (λ l. (redrawn edge l (count - 1) (length xs)).stations) taken
        ∙ ap (λ n. (redrawn edge (drawn_from edge None xs ++ (drawn_from edge (Some z) zs ++ drop (length xs + length zs) row)) n (length xs)).stations) less
        ∙ mended edge xs (Some z) zs (drop (length xs + length zs) row)

-- ---- by the place in the list

module _ (edge : Solve) (ps : List Point) (row : List Station) (is : take (length ps) row ≡ drawn_from edge None ps) (place : ℕ) where
  pub placed_at : (p : Point) → place ≤ length ps → length ps < length row → (placed edge row (length ps) place p).stations ≡ drawn_from edge None (insert ps place p) ++ drop (suc (length ps)) row
  placed_at p low free =
      let xs = take place ps in
      let zs = drop place ps in
      let at : length xs ≡ place = length-take-le place ps low in
      let total : length xs + length zs ≡ length ps = sym (length-append xs zs) ∙ ap length (take-append-drop place ps) in
      let parts : take (length xs + length zs) row ≡ drawn_from edge None (xs ++ zs) =
      ap (λ n. take n row) total ∙ is ∙ ap (drawn_from edge None) (sym (take-append-drop place ps)) in
      let room : length xs + length zs < length row = omega (arith, total) in
      ap (λ n. (placed edge row n place p).stations) (sym total)
      ∙ ap (λ n. (placed edge row (length xs + length zs) n p).stations) (sym at)
      ∙ placed-drawn edge xs zs row parts room p
      ∙ ap (λ n. drawn_from edge None (xs ++ p ∷ zs) ++ drop (suc n) row) total

  module _ (low : place < length ps) (held : length ps ≤ length row) (d : Point) where
    points : take place ps ++ get_or ps place d ∷ drop (suc place) ps ≡ ps
    points = sym (split_at ps place d low)

    at : length (take place ps) ≡ place
    at = length-take-le place ps (omega arith)

    total : length (take place ps) + suc (length (drop (suc place) ps)) ≡ length ps
    total = sym (length-append (take place ps) (get_or ps place d ∷ drop (suc place) ps)) ∙ ap length points

    parts : take (length (take place ps) + suc (length (drop (suc place) ps))) row ≡ drawn_from edge None (take place ps ++ get_or ps place d ∷ drop (suc place) ps)
    parts = ap (λ n. take n row) total ∙ is ∙ ap (drawn_from edge None) (sym points)

    pub moved_at : (p : Point) → (moved edge row (length ps) place p).stations ≡ drawn_from edge None (set ps place p) ++ drop (length ps) row
    moved_at p =
        let xs = take place ps in
        let zs = drop (suc place) ps in
        let room : length xs + suc (length zs) ≤ length row = omega (arith, total) in
        ap (λ n. (moved edge row n place p).stations) (sym total)
        ∙ ap (λ n. (moved edge row (length xs + suc (length zs)) n p).stations) (sym at)
        ∙ moved-drawn edge xs zs row (get_or ps place d) parts room p
        ∙ ap (λ n. drawn_from edge None (xs ++ p ∷ zs) ++ drop n row) total
        ∙ ap (λ l. drawn_from edge None l ++ drop (length ps) row) (sym (set_split ps place p low))

    pub dropped_at : (dropped edge row (length ps) place).stations ≡ drawn_from edge None (remove ps place) ++ drop (length ps - 1) row
    dropped_at =
        let xs = take place ps in
        let zs = drop (suc place) ps in
        let room : length xs + suc (length zs) ≤ length row = omega (arith, total) in
        let less : length xs + length zs ≡ length ps - 1 = omega (arith, total) in
        ap (λ n. (dropped edge row n place).stations) (sym total)
        ∙ ap (λ n. (dropped edge row (length xs + suc (length zs)) n).stations) (sym at)
        ∙ dropped-drawn edge xs zs row (get_or ps place d) parts room
        ∙ ap (λ n. drawn_from edge None (xs ++ zs) ++ drop n row) less
