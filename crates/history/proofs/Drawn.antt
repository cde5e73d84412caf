-- Stations drawn one after the other from a list of points: after a point is put in, replaced or taken out and the stations beside it are drawn anew, the row is the one drawn from the new list.
use Rattle.std.proofs.Common.{◌≡◌, ℕ, suc, ◌+◌, ◌-◌, ◌<◌, ◌≤◌, true, eqb, List, [], ◌∷◌, ◌++◌, map, length, get_or, take, drop, set, Some, None, Option, sym, refl, ap, ◌∙◌, inl, arith}
use lib.Dec.{eqb-suc-zero}
use Rattle.std.proofs.lemmas.List.{append_assoc, append-nil, length-append, take_at, drop_at, set_at, get_or_at, get_or_append_left}
use Rattle.std.proofs.lemmas.Bool.{cond-false}
use Rattle.rows.specs.Rows.{is_in_use}
use Rattle.polygon.specs.declared.Point.{Point}
use Rattle.polygon.specs.Polygons.{Solve}
use Rattle.stations.specs.declared.Station.{Station}
use Rattle.stations.specs.Stations.{Drawing, blank, point_of, point_at, first_station, next_station, station_at, redrawn, redrawn_twice}
use Rattle.stations.proofs.Redrawing.{used, not_used, redrawn_not}

-- ---- the row drawn from a list of points

-- the station at a point, after the point before it if there is one
abbrev pub drawn : Solve → Option Point → Point → Station
drawn edge None p = first_station p
drawn edge (Some q) p = next_station edge q p

abbrev pub drawn_from : Solve → Option Point → List Point → List Station
drawn_from edge before [] = []
drawn_from edge before (p ∷ ps) = drawn edge before p ∷ drawn_from edge (Some p) ps

-- the last of the points, or the one before them
abbrev pub last_point : Option Point → List Point → Option Point
last_point before [] = before
last_point before (p ∷ ps) = last_point (Some p) ps

last_point_push : (before : Option Point) (ps : List Point) (p : Point) → last_point before (ps ++ p ∷ []) ≡ Some p
last_point_push before [] p = refl
last_point_push before (q ∷ ps) p = last_point_push (Some q) ps p

module _ (edge : Solve) where
  pub point_drawn : (before : Option Point) (p : Point) → point_of (drawn edge before p) ≡ p
  point_drawn None p = refl
  point_drawn (Some q) p = refl

  pub points_drawn : (before : Option Point) (ps : List Point) → map point_of (drawn_from edge before ps) ≡ ps
  points_drawn before [] = refl
  points_drawn before (p ∷ ps) = ap (λ (q : Point). q ∷ map point_of (drawn_from edge (Some p) ps)) (point_drawn before p) ∙ ap (λ l. p ∷ l) (points_drawn (Some p) ps)

  pub length-drawn : (before : Option Point) (ps : List Point) → length (drawn_from edge before ps) ≡ length ps
  length-drawn before [] = refl
  length-drawn before (p ∷ ps) = ap suc (length-drawn (Some p) ps)

  pub drawn-append : (before : Option Point) (xs zs : List Point) → drawn_from edge before (xs ++ zs) ≡ drawn_from edge before xs ++ drawn_from edge (last_point before xs) zs
  drawn-append before [] zs = refl
  drawn-append before (x ∷ xs) zs = ap (λ l. drawn edge before x ∷ l) (drawn-append (Some x) xs zs)

  pub take-drawn : (before : Option Point) (xs zs : List Point) → take (length xs) (drawn_from edge before (xs ++ zs)) ≡ drawn_from edge before xs
  take-drawn before xs zs =
      ap (take (length xs)) (drawn-append before xs zs) ∙ take_at (drawn_from edge before xs) (drawn_from edge (last_point before xs) zs) (length xs) (length-drawn before xs)

  pub drop-drawn : (before : Option Point) (xs zs : List Point) → drop (length xs) (drawn_from edge before (xs ++ zs)) ≡ drawn_from edge (last_point before xs) zs
  drop-drawn before xs zs =
      ap (drop (length xs)) (drawn-append before xs zs) ∙ drop_at (drawn_from edge before xs) (drawn_from edge (last_point before xs) zs) (length xs) (length-drawn before xs)

-- ---- one station drawn anew

-- the last point of a row that is not empty
last_of_row : (before : Option Point) (a : Station) (row : List Station) → last_point before (map point_of (a ∷ row)) ≡ Some (point_at (a ∷ row) (length row))
last_of_row before a [] = refl
last_of_row before a (b ∷ row) = last_of_row (Some (point_of a)) b row

station_at_lem : (edge : Solve) (row : List Station) (s : Station) (rest : List Station) → station_at edge (row ++ s ∷ rest) (length row) ≡ drawn edge (last_point None (map point_of row)) (point_of s)
station_at_lem edge [] s rest = refl
station_at_lem edge (a ∷ row) s rest =
    let whole = a ∷ (row ++ s ∷ rest) in
    let n = length row in
    let back : suc n - 1 ≡ n = omega arith in
    let here : get_or whole (suc n) blank ≡ s = get_or_at (a ∷ row) s rest blank (suc n) refl in
    let before : get_or whole n blank ≡ get_or (a ∷ row) n blank = get_or_append_left (a ∷ row) (s ∷ rest) blank n (omega arith) in
    cond-false (eqb (suc n) 0) (first_station (point_at whole (suc n))) (next_station edge (point_at whole (suc n - 1)) (point_at whole (suc n))) (eqb-suc-zero n)
    ∙ ap (λ k. next_station edge (point_at whole k) (point_at whole (suc n))) back
    ∙ ap (λ (t : Station). next_station edge (point_of t) (point_at whole (suc n))) before
    ∙ ap (λ (t : Station). next_station edge (point_at (a ∷ row) n) (point_of t)) here
    ∙ sym (ap (λ (o : Option Point). drawn edge o (point_of s)) (last_of_row None a row))

module _ (edge : Solve) where
  redrawn_used : (row : List Station) (count place : ℕ) → is_in_use row count place ≡ true → (redrawn edge row count place).stations ≡ set row place (station_at edge row place)
  unfolding redrawn
  redrawn_used row count place test = rw test

  -- the station after the points ys
  redraw_at : (ys : List Point) (s : Station) (rest : List Station) (count : ℕ) → length ys < count → count ≤ length (drawn_from edge None ys ++ s ∷ rest) → (redrawn edge (drawn_from edge None ys ++ s ∷ rest) count (length ys)).stations ≡ drawn_from edge None (ys ++ point_of s ∷ []) ++ rest
  redraw_at ys s rest count low held =
      let front = drawn_from edge None ys in
      let row = front ++ s ∷ rest in
      let station : station_at edge row (length ys) ≡ drawn edge (last_point None ys) (point_of s) =
      ap (station_at edge row) (sym (length-drawn edge None ys)) ∙ station_at_lem edge front s rest ∙ ap (λ (l : List Point). drawn edge (last_point None l) (point_of s)) (points_drawn edge None ys) in
      redrawn_used row count (length ys) (used row count (length ys) low held)
      ∙ set_at front s rest (station_at edge row (length ys)) (length ys) (length-drawn edge None ys)
      ∙ ap (λ (t : Station). front ++ t ∷ rest) station
      ∙ sym (ap (λ l. l ++ rest) (drawn-append edge None ys (point_of s ∷ [])) ∙ append_assoc front (drawn edge (last_point None ys) (point_of s) ∷ []) rest)

  -- the first of the stations after the points ys, which were drawn after another point
  pub mended : (ys : List Point) (before : Option Point) (zs : List Point) (rest : List Station) → (redrawn edge (drawn_from edge None ys ++ (drawn_from edge before zs ++ rest)) (length ys + length zs) (length ys)).stations ≡ drawn_from edge None (ys ++ zs) ++ rest
  mended ys before [] rest =
      let row = drawn_from edge None ys ++ rest in
      let end : length ys + 0 ≤ length ys = omega arith in
      ap (λ (d : Drawing). d.stations) (redrawn_not edge row (length ys + 0) (length ys) (not_used row (length ys + 0) (length ys) (inl end)))
      ∙ ap (λ (l : List Point). drawn_from edge None l ++ rest) (sym (append-nil ys))
  mended ys before (z ∷ zs) rest =
      let s = drawn edge before z in
      let after = drawn_from edge (Some z) zs ++ rest in
      let low : length ys < length ys + suc (length zs) = omega arith in
      let held : length ys + suc (length zs) ≤ length (drawn_from edge None ys ++ s ∷ after) =
      omega (arith, length-append (drawn_from edge None ys) (s ∷ after), length-append (drawn_from edge (Some z) zs) rest, length-drawn edge None ys, length-drawn edge (Some z) zs) in
      redraw_at ys s after (length ys + suc (length zs)) low held
      ∙ ap (λ (p : Point). drawn_from edge None (ys ++ p ∷ []) ++ after) (point_drawn edge before z)
      ∙ sym (append_assoc (drawn_from edge None (ys ++ z ∷ [])) (drawn_from edge (Some z) zs) rest)
      ∙ ap (λ l. l ++ rest) (ap (λ (o : Option Point). drawn_from edge None (ys ++ z ∷ []) ++ drawn_from edge o zs) (sym (last_point_push None ys z)) ∙ sym (drawn-append edge None (ys ++ z ∷ []) zs))
      ∙ ap (λ (l : List Point). drawn_from edge None l ++ rest) (append_assoc ys (z ∷ []) zs)

  -- a station with the point p after the points xs, and the station after it
  pub mended_twice : (xs : List Point) (s : Station) (before : Option Point) (zs : List Point) (rest : List Station) → (redrawn_twice edge (drawn_from edge None xs ++ s ∷ (drawn_from edge before zs ++ rest)) (length xs + suc (length zs)) (length xs)).stations ≡ drawn_from edge None (xs ++ point_of s ∷ zs) ++ rest
  unfolding redrawn_twice
  mended_twice xs s before zs rest =
      let p = point_of s in
      let ys = xs ++ p ∷ [] in
      let after = drawn_from edge before zs ++ rest in
      let count = length xs + suc (length zs) in
      let low : length xs < count = omega arith in
      let held : count ≤ length (drawn_from edge None xs ++ s ∷ after) =
      omega (arith, length-append (drawn_from edge None xs) (s ∷ after), length-append (drawn_from edge before zs) rest, length-drawn edge None xs, length-drawn edge before zs) in
      let place : length xs + 1 ≡ length ys = omega (arith, length-append xs (p ∷ [])) in
      let total : count ≡ length ys + length zs = omega (arith, length-append xs (p ∷ [])) in
      ap (λ l. (redrawn edge l count (length xs + 1)).stations) (redraw_at xs s after count low held)
      ∙ ap (λ n. (redrawn edge (drawn_from edge None ys ++ after) count n).stations) place
      ∙ ap (λ n. (redrawn edge (drawn_from edge None ys ++ after) n (length ys)).stations) total
      ∙ mended ys before zs rest
      ∙ ap (λ (l : List Point). drawn_from edge None l ++ rest) (append_assoc xs (p ∷ []) zs)
