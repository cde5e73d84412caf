-- Every call that is not refused costs what the book says of it, and leaves the records that the book keeps.
use Rattle.std.proofs.Common.{◌≡◌, ℕ, zero, suc, ◌+◌, ◌-◌, ◌<◌, ◌≤◌, Bool, true, false, cond, ◌&&◌, eqb, ltb, leb, List, [], ◌∷◌, ◌++◌, map, length, get_or, take, drop, set, Some, None, sym, refl, ap, ◌∙◌, subst, ⊎_elim, arith}
use lib.Seq.{take-length, drop-length}
use lib.Ieee.{Float}
use Rattle.std.specs.List.{insert}
use Rattle.std.proofs.lemmas.List.{take-map, append-nil, length_push}
use Rattle.std.proofs.lemmas.Bool.{both_ways, ltb-true, leb-true, lt-ltb, le-ltb, eq-eqb, ne_eqb, and_parts, and_right, cases_Bool, cases_lt}
use Rattle.geomath.specs.Angles.{accepts}
use Rattle.surface.specs.declared.refusals.Refusal.TheVariants.{Point as PointOff, Full, Place}
use Rattle.area.specs.declared.Winding.{Winding}
use Rattle.polygon.specs.declared.Point.{Point}
use Rattle.polygon.specs.Polygons.{Solve, Ends, solved, first_of, last_of, origin, closing_edge}
use Rattle.stations.specs.declared.Station.{Station}
use Rattle.stations.specs.declared.records.EditRecord.{EditRecord}
use Rattle.stations.specs.Stations.{point_of, point_at, one_edge, placed, moved, dropped}
use Rattle.stations.specs.Records.{old_point, add_kind, move_kind, drop_kind, add_record, move_record, drop_record, fits_outline, noted, noted_count}
use Rattle.history.specs.declared.Sizes.{Sizes}
use Rattle.history.specs.declared.Frame.{Frame}
use Rattle.history.specs.declared.Call.{Call}
use Rattle.history.specs.declared.Call.TheVariants.{Add, Move, Drop, TakeBack, Measure}
use Rattle.history.specs.Calls.{After, Outcome, lengths_of, same_lengths, no_record, newest_of, undrawn, add_of, move_of, drop_of, take_back_of, measure_of, measure_answer, done_by, done_of}
use Rattle.history.specs.Book.{Book, refusal_on, changed}
use Rattle.history.specs.Expenses.{arriving, beside, cost_of, cost_in, records_after, solved_back, solved_by}
use Rattle.history.proofs.Outcomes.{add_done, move_done, drop_done, take_back_done, measure_done}
use Rattle.history.proofs.Drawn.{points_drawn}
use Rattle.history.proofs.Pasts.{newest_first, newest_noted, undone, Chain}
use Rattle.history.proofs.Expenses.{At, point_at_lem, cost_one, placed_cost, moved_cost, dropped_cost}
use Rattle.history.proofs.Following.{same as fitting_rows, Follows}

-- a call did as the book says: its cost, and the records afterwards
pub record Spends (edge : Solve) (most : ℕ) (b : Book) (records : List EditRecord) (call : Call) (d : Outcome) : Type 0 where
  pub cost : cost_in d.answer ≡ cost_of edge (solved_by call records (changed most b call).standing)
  pub records_after_lem : newest_first d.edits d.frame.counts.edits ≡ records_after most b.standing records call

module _ (edge : Solve) (whole : Float) (winding : Winding) (opening : Sizes) (b : Book) (f : Frame) (stations : List Station) (edits : List EditRecord) (r : Follows edge winding opening b f stations edits) where
  abbrev ps : List Point
  ps = b.standing

  abbrev records : List EditRecord
  records = newest_first edits f.counts.edits

  same : same_lengths (lengths_of stations edits) f.lengths ≡ true
  same = fitting_rows edge whole winding opening b f stations edits r

  row_points : map point_of (take (length ps) stations) ≡ ps
  row_points = ap (map point_of) r.holds.stations ∙ points_drawn edge None ps

  at : At stations ps
  at = record { points = take-map point_of (length ps) stations ∙ row_points; held = r.holds.held }

  -- the record that is noted goes in front, and the row keeps the newest
  noted-front : (e e₀ : EditRecord) → e ≡ e₀ → newest_first (noted edits f.counts.edits e) (noted_count edits f.counts.edits) ≡ take opening.edits (e₀ ∷ records)
  noted-front e e₀ is =
      newest_noted edits f.counts.edits e r.few
      ∙ ap (λ n. take n (e ∷ records)) r.edit_row
      ∙ ap (λ (x : EditRecord). take opening.edits (x ∷ records)) is

  -- ---- add

  module _ (lat lon : Float) where
    abbrev p : Point
    p = record { lat = lat; lon = lon }

    at_the_end : insert ps (length ps) p ≡ ps ++ p ∷ []
    at_the_end = ap (λ l. l ++ p ∷ drop (length ps) ps) (take-length ps) ∙ ap (λ l. ps ++ p ∷ l) (drop-length ps)

    last_edge : (qs : List Point) → length qs ≡ length ps + 1 → cost_of edge (beside qs (length ps)) ≡ cost_of edge (arriving qs (length qs - 1))
    last_edge qs more =
        let n = length ps in
        let e : Ends = record { from = get_or qs (n + 1 - 1) origin; to = get_or qs (n + 1) origin } in
        let outside : (ltb 0 (n + 1) && ltb (n + 1) (length qs)) ≡ false = and_right (ltb 0 (n + 1)) (ltb (n + 1) (length qs)) (le-ltb (n + 1) (length qs) (omega (arith, more))) in
        let last : n ≡ length qs - 1 = omega (arith, more) in
        ap (λ (t : Bool). cost_of edge (arriving qs n ++ cond t (e ∷ []) [])) outside
        ∙ ap (cost_of edge) (append-nil (arriving qs n))
        ∙ ap (λ k. cost_of edge (arriving qs k)) last

    added : accepts lat lon ≡ true → f.counts.stations < length stations → Spends edge opening.edits b records (Add lat lon) (done_by (add_of edge f stations edits lat lon))
    added on free =
        let count = f.counts.stations in
        let is : count ≡ length ps = r.holds.counted in
        subst (λ (a : After). Spends edge opening.edits b records (Add lat lon) (done_by a)) (sym (add_done edge f stations edits same lat lon on free))
        (record {
          cost =
              ap (λ n. (placed edge stations n n p).cost) is
              ∙ placed_cost edge stations ps at (length ps) p (omega arith) (omega (arith, is))
              ∙ ap (λ (l : List Point). cost_of edge (beside l (length ps))) at_the_end
              ∙ last_edge (ps ++ p ∷ []) (length_push ps p);
          records_after_lem = noted-front (add_record count) (add_record (length ps)) (ap add_record is);
        })

    pub add_spends : refusal_on (length stations) b (Add lat lon) ≡ None → Spends edge opening.edits b records (Add lat lon) (done_by (add_of edge f stations edits lat lon))
    add_spends granted =
        ⊎_elim
        (λ on. ⊎_elim (added on) (λ full. absurd (cc (full_says on full))) (cases_lt f.counts.stations (length stations)))
        (λ (off : accepts lat lon ≡ false). let says : refusal_on (length stations) b (Add lat lon) ≡ Some PointOff = rw off in absurd (cc))
        (cases_Bool (accepts lat lon))
      where
        full_says : accepts lat lon ≡ true → length stations ≤ f.counts.stations → refusal_on (length stations) b (Add lat lon) ≡ Some Full
        full_says on full =
            let all : length b.standing ≡ length stations = omega (arith, r.holds.counted, r.holds.held) in
            rw (on, eq-eqb (length b.standing) (length stations) all)

  -- ---- move and drop

  module _ (place : ℕ) where
    placed-low : refusal_on (length stations) b (Drop place) ≡ None → place < length ps
    placed-low granted =
        ⊎_elim
        (λ low. low)
        (λ above. let says : refusal_on (length stations) b (Drop place) ≡ Some Place = rw (le-ltb place (length b.standing) above) in absurd (cc))
        (cases_lt place (length b.standing))

    pub drop_spends : refusal_on (length stations) b (Drop place) ≡ None → Spends edge opening.edits b records (Drop place) (done_by (drop_of edge f stations edits place))
    drop_spends granted =
        let count = f.counts.stations in
        let is : count ≡ length ps = r.holds.counted in
        let low : place < length ps = placed-low granted in
        subst (λ (a : After). Spends edge opening.edits b records (Drop place) (done_by a)) (sym (drop_done edge f stations edits same place (omega (arith, is))))
        (record {
          cost = ap (λ n. (dropped edge stations n place).cost) is ∙ dropped_cost edge stations ps at place low;
          records_after_lem = noted-front (drop_record place (point_at stations place)) (drop_record place (get_or ps place origin)) (ap (drop_record place) (point_at_lem stations ps at place low));
        })

    module _ (lat lon : Float) where
      moves : accepts lat lon ≡ true → place < length ps → Spends edge opening.edits b records (Move place lat lon) (done_by (move_of edge f stations edits place lat lon))
      moves on low =
          let count = f.counts.stations in
          let q : Point = record { lat = lat; lon = lon } in
          let is : count ≡ length ps = r.holds.counted in
          subst (λ (a : After). Spends edge opening.edits b records (Move place lat lon) (done_by a)) (sym (move_done edge f stations edits same place lat lon (omega (arith, is)) on))
          (record {
            cost = ap (λ n. (moved edge stations n place q).cost) is ∙ moved_cost edge stations ps at place low q;
            records_after_lem = noted-front (move_record place (point_at stations place)) (move_record place (get_or ps place origin)) (ap (move_record place) (point_at_lem stations ps at place low));
          })

      pub move_spends : refusal_on (length stations) b (Move place lat lon) ≡ None → Spends edge opening.edits b records (Move place lat lon) (done_by (move_of edge f stations edits place lat lon))
      move_spends granted =
          ⊎_elim
          (λ low. ⊎_elim (λ on. moves on low) (λ (off : accepts lat lon ≡ false). let says : refusal_on (length stations) b (Move place lat lon) ≡ Some PointOff = rw (lt-ltb place (length b.standing) low, off) in absurd (cc)) (cases_Bool (accepts lat lon)))
          (λ above. let says : refusal_on (length stations) b (Move place lat lon) ≡ Some Place = rw (le-ltb place (length b.standing) above) in absurd (cc))
          (cases_lt place (length b.standing))

  -- ---- measure

  pub measure_spends : (sign : Bool) → Spends edge opening.edits b records (Measure sign) (record { answer = measure_answer (measure_of edge whole f stations edits sign); frame = f; stations = stations; edits = edits })
  measure_spends sign =
      let row : map point_of (take f.counts.stations stations) ≡ ps = ap (λ n. map point_of (take n stations)) r.holds.counted ∙ row_points in
      record {
        cost =
            ap (λ m. cost_in (measure_answer m)) (measure_done edge f stations edits same whole sign)
            ∙ ap (λ (l : List Point). one_edge (solved edge (record { from = last_of l; to = first_of l })).evaluations) row
            ∙ sym (cost_one edge (closing_edge ps));
        records_after_lem = refl;
      }

-- ---- take back

module _ (edge : Solve) (whole : Float) (winding : Winding) (opening : Sizes) (f : Frame) (stations : List Station) (edits : List EditRecord) where
  -- what undoing a record that fits costs
  module _ (ps before : List Point) (at_row : At stations ps) (e : EditRecord) (fit : fits_outline (length ps) (length stations) e ≡ true) (undoes : undone ps e ≡ before) where
    back_move : eqb e.kind add_kind ≡ false → eqb e.kind move_kind ≡ true → (undrawn edge stations (length ps) e).cost ≡ cost_of edge (cond (eqb e.kind add_kind) [] (beside before e.place))
    back_move other move =
        let both : (ltb e.place (length ps) && accepts e.lat e.lon) ≡ true = rw (other, move) at fit in
        let low : e.place < length ps = ltb-true e.place (length ps) (and_parts (ltb e.place (length ps)) (accepts e.lat e.lon) both).0 in
        let is : set ps e.place (old_point e) ≡ before = rw (other, move) at undoes in
        rw (other, move) (moved_cost edge stations ps at_row e.place low (old_point e) ∙ ap (λ (l : List Point). cost_of edge (beside l e.place)) is)

    back_drop : eqb e.kind add_kind ≡ false → eqb e.kind move_kind ≡ false → eqb e.kind drop_kind ≡ true → (undrawn edge stations (length ps) e).cost ≡ cost_of edge (cond (eqb e.kind add_kind) [] (beside before e.place))
    back_drop other another drops =
        let all : ((leb e.place (length ps) && ltb (length ps) (length stations)) && accepts e.lat e.lon) ≡ true = rw (other, another, drops) at fit in
        let parts = and_parts (leb e.place (length ps) && ltb (length ps) (length stations)) (accepts e.lat e.lon) all in
        let free = and_parts (leb e.place (length ps)) (ltb (length ps) (length stations)) parts.0 in
        let is : insert ps e.place (old_point e) ≡ before = rw (other, another) at undoes in
        rw (other, another) (placed_cost edge stations ps at_row e.place (old_point e) (leb-true e.place (length ps) free.0) (ltb-true (length ps) (length stations) free.1) ∙ ap (λ (l : List Point). cost_of edge (beside l e.place)) is)

    unknown : eqb e.kind add_kind ≡ false → eqb e.kind move_kind ≡ false → eqb e.kind drop_kind ≡ false → ⊥
    unknown other another third = both_ways false refl (rw (other, another, third) at fit)

    back_cost : (undrawn edge stations (length ps) e).cost ≡ cost_of edge (cond (eqb e.kind add_kind) [] (beside before e.place))
    back_cost =
        ⊎_elim
        (λ add. rw add)
        (λ other. ⊎_elim (back_move other) (λ another. ⊎_elim (back_drop other another) (λ third. absurd (unknown other another third)) (cases_Bool (eqb e.kind drop_kind))) (cases_Bool (eqb e.kind move_kind)))
        (cases_Bool (eqb e.kind add_kind))

  back : (ps before : List Point) (past : List (List Point)) (m : ℕ) → f.counts.edits ≡ suc m → Follows edge winding opening (record { standing = ps; past = before ∷ past }) f stations edits → Spends edge opening.edits (record { standing = ps; past = before ∷ past }) (newest_first edits f.counts.edits) TakeBack (done_by (take_back_of edge f stations edits))
  back ps before past m some r =
      let b : Book = record { standing = ps; past = before ∷ past } in
      let count = f.counts.stations in
      let e = newest_of edits f.counts.edits in
      let last : f.counts.edits - 1 ≡ m = omega (arith, some) in
      let newest : get_or edits m no_record ≡ e = ap (λ n. get_or edits n no_record) (sym last) in
      let front : newest_first edits f.counts.edits ≡ e ∷ newest_first edits m = ap (newest_first edits) some ∙ ap (λ (x : EditRecord). x ∷ newest_first edits m) newest in
      let chain : Chain opening.stations ps (newest_first edits (suc m)) (before ∷ past) = subst (λ n. Chain opening.stations ps (newest_first edits n) (before ∷ past)) some r.past in
      let fits : fits_outline (length ps) (length stations) e ≡ true = ap (λ n. fits_outline (length ps) n e) r.station_row ∙ ap (fits_outline (length ps) opening.stations) (sym newest) ∙ chain.0 in
      let undoes : undone ps e ≡ before = ap (undone ps) (sym newest) ∙ chain.1 in
      let ne : f.counts.edits ≡ 0 → ⊥ = λ z. omega (arith, some) in
      let fitting : fits_outline count (length stations) e ≡ true = ap (λ n. fits_outline n (length stations) e) r.holds.counted ∙ fits in
      subst (λ (a : After). Spends edge opening.edits b (newest_first edits f.counts.edits) TakeBack (done_by a)) (sym (take_back_done edge f stations edits (fitting_rows edge whole winding opening b f stations edits r) (ne_eqb f.counts.edits 0 ne) fitting))
      (record {
        cost =
            ap (λ n. (undrawn edge stations n e).cost) r.holds.counted
            ∙ back_cost ps before (row_at b r) e fits undoes
            ∙ sym (ap (λ (l : List EditRecord). cost_of edge (solved_back l before)) front);
        records_after_lem = ap (newest_first edits) last ∙ sym (ap (λ (l : List EditRecord). drop 1 l) front);
      })
    where
      row_at : (b : Book) → Follows edge winding opening b f stations edits → At stations b.standing
      row_at b r = at edge whole winding opening b f stations edits r

  by_past : (ps : List Point) (past : List (List Point)) (n : ℕ) → f.counts.edits ≡ n → Follows edge winding opening (record { standing = ps; past = past }) f stations edits → refusal_on (length stations) (record { standing = ps; past = past }) TakeBack ≡ None → Spends edge opening.edits (record { standing = ps; past = past }) (newest_first edits f.counts.edits) TakeBack (done_by (take_back_of edge f stations edits))
  by_past ps [] n is r granted = absurd (cc)
  by_past ps (before ∷ past) zero none r granted = absurd (subst (λ n. Chain opening.stations ps (newest_first edits n) (before ∷ past)) none r.past)
  by_past ps (before ∷ past) (suc m) some r granted = back ps before past m some r

  pub take_back_spends : (b : Book) → Follows edge winding opening b f stations edits → refusal_on (length stations) b TakeBack ≡ None → Spends edge opening.edits b (newest_first edits f.counts.edits) TakeBack (done_by (take_back_of edge f stations edits))
  take_back_spends b r granted = by_past b.standing b.past f.counts.edits refl r granted

-- ---- any call

pub call_spends : (edge : Solve) (whole : Float) (winding : Winding) (opening : Sizes) (b : Book) (f : Frame) (stations : List Station) (edits : List EditRecord) → Follows edge winding opening b f stations edits → (call : Call) → refusal_on (length stations) b call ≡ None → Spends edge opening.edits b (newest_first edits f.counts.edits) call (done_of edge whole f stations edits call)
call_spends edge whole winding opening b f stations edits r (Add lat lon) granted = add_spends edge whole winding opening b f stations edits r lat lon granted
call_spends edge whole winding opening b f stations edits r (Move place lat lon) granted = move_spends edge whole winding opening b f stations edits r place lat lon granted
call_spends edge whole winding opening b f stations edits r (Drop place) granted = drop_spends edge whole winding opening b f stations edits r place granted
call_spends edge whole winding opening b f stations edits r TakeBack granted = take_back_spends edge whole winding opening f stations edits b r granted
call_spends edge whole winding opening b f stations edits r (Measure sign) granted = measure_spends edge whole winding opening b f stations edits r sign
