-- What a call costs by the book: a station is drawn anew from the points of its row, so the edges solved are those beside the place of the edit, of the points that stand afterwards.
use Rattle.std.proofs.Common.{◌≡◌, ℕ, suc, ◌+◌, ◌-◌, ◌<◌, ◌≤◌, Bool, true, false, cond, ◌&&◌, eqb, ltb, List, [], ◌∷◌, ◌++◌, map, length, get_or, take, drop, set, sym, refl, ap, ◌∙◌, inl, ⊎_elim, add-zero, add_assoc, zero-add, arith}
use lib.Seq.{take-set-lt, map-set_same}
use Rattle.std.specs.List.{insert, remove}
use Rattle.std.proofs.lemmas.List.{take-map, drop-map, map-append, map-set, length-map, length-set, get_or-take, get_or-map, take_at}
use Rattle.std.proofs.lemmas.List.Edits.{length-insert, length-remove}
use Rattle.std.proofs.lemmas.Bool.{lt-ltb, le-ltb, and_from, and_left, and_right, cases_lt}
use Rattle.rows.specs.Rows.{put_in, take_out, is_in_use}
use Rattle.rows.proofs.Changes.{put_in_place, take_out_place, length_put_in, length_take_out}
use Rattle.polygon.specs.declared.Point.{Point}
use Rattle.polygon.specs.Polygons.{Solve, Ends, solved, origin}
use Rattle.stations.specs.declared.Station.{Station}
use Rattle.stations.specs.declared.Cost.{Cost}
use Rattle.stations.specs.Stations.{Drawing, blank, point_of, point_at, first_station, next_station, station_at, cost_at, free, one_edge, together, redrawn, redrawn_twice, placed, moved, dropped}
use Rattle.stations.proofs.Redrawing.{room, used, not_used, redrawn_not, redrawn_first, redrawn-next, placed_room, moved_used, dropped_used}
use Rattle.history.specs.Expenses.{arriving, beside, cost_of}

-- ---- the points of a row

-- the first stations of a row are at these points
pub record At (row : List Station) (ps : List Point) : Type 0 where
  pub points : take (length ps) (map point_of row) ≡ ps
  pub held : length ps ≤ length row

module _ (row : List Station) (ps : List Point) (at : At row ps) where
  pub point_at_lem : (k : ℕ) → k < length ps → point_at row k ≡ get_or ps k origin
  point_at_lem k low =
      sym (get_or-map point_of row k blank origin (omega (arith, at.held)))
      ∙ sym (get_or-take (length ps) (map point_of row) k origin low)
      ∙ ap (λ (l : List Point). get_or l k origin) at.points

-- ---- what edges cost

same_cost : (a b : Cost) → a.edges ≡ b.edges → a.evaluations ≡ b.evaluations → a ≡ b
same_cost a b edges evaluations =
    let made : ℕ → ℕ → Cost = λ m n. record { edges = m; evaluations = n } in
    ap (λ m. made m a.evaluations) edges ∙ ap (made b.edges) evaluations

module _ (edge : Solve) where
  pub cost_one : (e : Ends) → cost_of edge (e ∷ []) ≡ one_edge (solved edge e).evaluations
  cost_one e = same_cost (cost_of edge (e ∷ [])) (one_edge (solved edge e).evaluations) refl (add-zero (solved edge e).evaluations)

  cost_append : (xs ys : List Ends) → cost_of edge (xs ++ ys) ≡ together (cost_of edge xs) (cost_of edge ys)
  cost_append [] ys = same_cost (cost_of edge ys) (together free (cost_of edge ys)) (sym (zero-add (cost_of edge ys).edges)) (sym (zero-add (cost_of edge ys).evaluations))
  cost_append (x ∷ xs) ys =
      let one = one_edge (solved edge x).evaluations in
      ap (together one) (cost_append xs ys)
      ∙ same_cost (together one (together (cost_of edge xs) (cost_of edge ys))) (together (together one (cost_of edge xs)) (cost_of edge ys)) (sym (add_assoc 1 (cost_of edge xs).edges (cost_of edge ys).edges)) (sym (add_assoc one.evaluations (cost_of edge xs).evaluations (cost_of edge ys).evaluations))

  -- ---- one station drawn anew

  module _ (row : List Station) (ps : List Point) (at : At row ps) (place : ℕ) where
    cost_next : 0 < place → place < length ps → (redrawn edge row (length ps) place).cost ≡ cost_of edge (arriving ps place)
    cost_next some low =
        let e : Ends = record { from = get_or ps (place - 1) origin; to = get_or ps place origin } in
        let inside : (ltb 0 place && ltb place (length ps)) ≡ true = and_from (ltb 0 place) (ltb place (length ps)) (lt-ltb 0 place some) (lt-ltb place (length ps) low) in
        ap (λ (d : Drawing). d.cost) (redrawn-next edge row (length ps) place (used row (length ps) place low at.held) some)
        ∙ ap (λ (p : Point). one_edge (next_station edge p (point_at row place)).evaluations) (point_at_lem row ps at (place - 1) (omega arith))
        ∙ ap (λ (p : Point). one_edge (next_station edge (get_or ps (place - 1) origin) p).evaluations) (point_at_lem row ps at place low)
        ∙ sym (cost_one e)
        ∙ sym (ap (λ (b : Bool). cost_of edge (cond b (e ∷ []) [])) inside)

    cost_first : place ≤ 0 → place < length ps → (redrawn edge row (length ps) place).cost ≡ cost_of edge (arriving ps place)
    cost_first none low =
        let e : Ends = record { from = get_or ps (place - 1) origin; to = get_or ps place origin } in
        let outside : (ltb 0 place && ltb place (length ps)) ≡ false = and_left (ltb 0 place) (ltb place (length ps)) (le-ltb 0 place none) in
        ap (λ (d : Drawing). d.cost) (redrawn_first edge row (length ps) place (used row (length ps) place low at.held) (omega arith))
        ∙ sym (ap (λ (b : Bool). cost_of edge (cond b (e ∷ []) [])) outside)

    cost_above : length ps ≤ place → (redrawn edge row (length ps) place).cost ≡ cost_of edge (arriving ps place)
    cost_above above =
        let e : Ends = record { from = get_or ps (place - 1) origin; to = get_or ps place origin } in
        let outside : (ltb 0 place && ltb place (length ps)) ≡ false = and_right (ltb 0 place) (ltb place (length ps)) (le-ltb place (length ps) above) in
        ap (λ (d : Drawing). d.cost) (redrawn_not edge row (length ps) place (not_used row (length ps) place (inl above)))
        ∙ sym (ap (λ (b : Bool). cost_of edge (cond b (e ∷ []) [])) outside)

    pub redrawn_cost : (redrawn edge row (length ps) place).cost ≡ cost_of edge (arriving ps place)
    redrawn_cost =
        ⊎_elim
        (λ low. ⊎_elim (λ some. cost_next some low) (λ none. cost_first none low) (cases_lt 0 place))
        cost_above
        (cases_lt place (length ps))

  -- the points of the row stay
  station_point : (row : List Station) (place : ℕ) → point_of (station_at edge row place) ≡ point_at row place
  station_point row place = by (eqb place 0)
    where
      by : (b : Bool) → point_of (cond b (first_station (point_at row place)) (next_station edge (point_at row (place - 1)) (point_at row place))) ≡ point_at row place
      by true = refl
      by false = refl

  redrawn_points : (row : List Station) (count place : ℕ) → map point_of (redrawn edge row count place).stations ≡ map point_of row
  unfolding redrawn
  redrawn_points row count place = by (is_in_use row count place)
    where
      by : (b : Bool) → map point_of (cond {A = Drawing} b (record { stations = set row place (station_at edge row place); cost = cost_at edge row place }) (record { stations = row; cost = free })).stations ≡ map point_of row
      by true = map-set_same point_of row place (station_at edge row place) blank (station_point row place)
      by false = refl

  redrawn_at : (row : List Station) (ps : List Point) (count place : ℕ) → At row ps → At (redrawn edge row count place).stations ps
  redrawn_at row ps count place at =
      let after = (redrawn edge row count place).stations in
      record {
        points = ap (take (length ps)) (redrawn_points row count place) ∙ at.points;
        held = omega (arith, length-map row point_of, length-map after point_of, ap length (redrawn_points row count place), at.held);
      }

  pub twice_cost : (row : List Station) (ps : List Point) (place : ℕ) → At row ps → (redrawn_twice edge row (length ps) place).cost ≡ cost_of edge (beside ps place)
  unfolding redrawn_twice
  twice_cost row ps place at =
      let once = redrawn edge row (length ps) place in
      ap (λ (c : Cost). together c (redrawn edge once.stations (length ps) (place + 1)).cost) (redrawn_cost row ps at place)
      ∙ ap (together (cost_of edge (arriving ps place))) (redrawn_cost once.stations ps (redrawn_at row ps (length ps) place at) (place + 1))
      ∙ sym (cost_append (arriving ps place) (arriving ps (place + 1)))

  -- ---- a point placed, moved, dropped

  module _ (row : List Station) (ps : List Point) (at : At row ps) (place : ℕ) where
    front_points : map point_of (take (length ps) row) ≡ ps
    front_points = sym (take-map point_of (length ps) row) ∙ at.points

    put_at : (p : Point) → place ≤ length ps → length ps < length row → At (put_in row (length ps) place (first_station p)) (insert ps place p)
    put_at p low free =
        let n = length ps in
        let s = first_station p in
        let front = take n row in
        let more : length (insert ps place p) ≡ n + 1 = length-insert ps place p low in
        let mapped : map point_of (insert front place s) ≡ insert ps place p =
        map-append point_of (take place front) (s ∷ drop place front)
        ∙ ap (λ l. l ++ p ∷ map point_of (drop place front)) (sym (take-map point_of place front))
        ∙ ap (λ l. take place (map point_of front) ++ p ∷ l) (sym (drop-map point_of place front))
        ∙ ap (λ l. insert l place p) front_points in
        record {
          points =
              ap (λ l. take (length (insert ps place p)) (map point_of l)) (put_in_place row n place s low free)
              ∙ ap (take (length (insert ps place p))) (map-append point_of (insert front place s) (drop (suc n) row) ∙ ap (λ l. l ++ map point_of (drop (suc n) row)) mapped)
              ∙ take_at (insert ps place p) (map point_of (drop (suc n) row)) (length (insert ps place p)) refl;
          held = omega (arith, more, length_put_in row n place s);
        }

    pub placed_cost : (p : Point) → place ≤ length ps → length ps < length row → (placed edge row (length ps) place p).cost ≡ cost_of edge (beside (insert ps place p) place)
    placed_cost p low free =
        let more : length (insert ps place p) ≡ length ps + 1 = length-insert ps place p low in
        ap (λ (d : Drawing). d.cost) (placed_room edge row (length ps) place p (room row (length ps) place low free))
        ∙ ap (λ n. (redrawn_twice edge (put_in row (length ps) place (first_station p)) n place).cost) (sym more)
        ∙ twice_cost (put_in row (length ps) place (first_station p)) (insert ps place p) place (put_at p low free)

    module _ (low : place < length ps) where
      set_at : (p : Point) → At (set row place (first_station p)) (set ps place p)
      set_at p =
          let same : length (set ps place p) ≡ length ps = length-set ps place p in
          record {
            points =
                ap (λ n. take n (map point_of (set row place (first_station p)))) same
                ∙ ap (take (length ps)) (map-set point_of row place (first_station p))
                ∙ take-set-lt (length ps) (map point_of row) place p low
                ∙ ap (λ l. set l place p) at.points;
            held = omega (arith, same, length-set row place (first_station p), at.held);
          }

      pub moved_cost : (p : Point) → (moved edge row (length ps) place p).cost ≡ cost_of edge (beside (set ps place p) place)
      moved_cost p =
          ap (λ (d : Drawing). d.cost) (moved_used edge row (length ps) place (used row (length ps) place low at.held) p)
          ∙ ap (λ n. (redrawn_twice edge (set row place (first_station p)) n place).cost) (sym (length-set ps place p))
          ∙ twice_cost (set row place (first_station p)) (set ps place p) place (set_at p)

      out_at : At (take_out row (length ps) place) (remove ps place)
      out_at =
          let n = length ps in
          let front = take n row in
          let rest = drop (n - 1) row in
          let less : length (remove ps place) + 1 ≡ n = length-remove ps place low in
          let mapped : map point_of (remove front place) ≡ remove ps place =
          map-append point_of (take place front) (drop (suc place) front)
          ∙ ap (λ l. l ++ map point_of (drop (suc place) front)) (sym (take-map point_of place front))
          ∙ ap (λ l. take place (map point_of front) ++ l) (sym (drop-map point_of (suc place) front))
          ∙ ap (λ l. remove l place) front_points in
          record {
            points =
                ap (λ l. take (length (remove ps place)) (map point_of l)) (take_out_place row n place low at.held)
                ∙ ap (take (length (remove ps place))) (map-append point_of (remove front place) rest ∙ ap (λ l. l ++ map point_of rest) mapped)
                ∙ take_at (remove ps place) (map point_of rest) (length (remove ps place)) refl;
            held = omega (arith, less, length_take_out row n place, at.held);
          }

      pub dropped_cost : (dropped edge row (length ps) place).cost ≡ cost_of edge (arriving (remove ps place) place)
      dropped_cost =
          let less : length (remove ps place) + 1 ≡ length ps = length-remove ps place low in
          let fewer : length ps - 1 ≡ length (remove ps place) = omega (arith, less) in
          ap (λ (d : Drawing). d.cost) (dropped_used edge row (length ps) place (used row (length ps) place low at.held))
          ∙ ap (λ n. (redrawn edge (take_out row (length ps) place) n place).cost) fewer
          ∙ redrawn_cost (take_out row (length ps) place) (remove ps place) out_at place
