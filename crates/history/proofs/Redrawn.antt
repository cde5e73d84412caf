-- What a row and a count must be to hold the stations of a list of points, and that each edit and its taking back make them so.
use Rattle.std.proofs.Common.{◌≡◌, ℕ, suc, ◌+◌, ◌-◌, ◌<◌, ◌≤◌, true, false, ◌&&◌, eqb, ltb, leb, List, ◌∷◌, ◌++◌, length, take, drop, set, None, sym, refl, ap, ◌∙◌, ⊎_elim, add-one, arith}
use Rattle.std.specs.List.{insert, remove}
use Rattle.std.proofs.lemmas.List.{length-append, length-drop, length-set, length-take-le, take-append-drop, take_at, take-take}
use Rattle.std.proofs.lemmas.List.Edits.{length-insert, length-remove}
use Rattle.std.proofs.ByRecursion.{All-append, All-set, All-take, All-drop}
use Rattle.std.proofs.lemmas.Bool.{both_ways, ltb-true, leb-true, eqb-true, and_parts, cases_Bool}
use Rattle.geomath.specs.Angles.{accepts}
use Rattle.polygon.specs.declared.Point.{Point}
use Rattle.polygon.specs.Polygons.{Solve, origin}
use Rattle.stations.specs.declared.Station.{Station}
use Rattle.stations.specs.declared.records.EditRecord.{EditRecord}
use Rattle.stations.specs.Stations.{Drawing, unchanged, placed, moved, dropped}
use Rattle.stations.specs.Records.{old_point, add_kind, move_kind, drop_kind, fits_outline}
use Rattle.history.specs.Calls.{undrawn, undrawn_count}
use Rattle.history.proofs.Drawn.{drawn_from, length-drawn, take-drawn}
use Rattle.history.proofs.RowEdits.{placed_at, moved_at, dropped_at}
use Rattle.history.proofs.Measures.{Accepted}
use Rattle.history.proofs.Pasts.{undone}

abbrev pub Accepts : Point → Type 0
Accepts p = accepts p.lat p.lon ≡ true

-- the row holds the stations of the points ps, which are accepted, and `count` is their number
pub record Holds (edge : Solve) (row : List Station) (count : ℕ) (ps : List Point) : Type 0 where
  pub counted : count ≡ length ps
  pub held : length ps ≤ length row
  pub stations : take (length ps) row ≡ drawn_from edge None ps
  pub accepted : Accepted ps

-- a drawing of such a row that keeps its length
pub record Redraws (edge : Solve) (row : List Station) (count : ℕ) (drawing : Drawing) (ps : List Point) : Type 0 where
  pub long : length drawing.stations ≡ length row
  pub holds : Holds edge drawing.stations count ps

module _ (edge : Solve) (row : List Station) where
  -- the stations of qs, and the other slots as they were
  redraws : (count : ℕ) (drawing : Drawing) (qs : List Point) → drawing.stations ≡ drawn_from edge None qs ++ drop (length qs) row → length qs ≤ length row → count ≡ length qs → Accepted qs → Redraws edge row count drawing qs
  redraws count drawing qs is held counted accepted =
      let rest = drop (length qs) row in
      let long : length drawing.stations ≡ length row =
      ap length is ∙ omega (arith, length-append (drawn_from edge None qs) rest, length-drawn edge None qs, length-drop (length qs) row) in
      record {
        long = long;
        holds = record {
          counted = counted;
          held = omega (arith, long);
          stations = ap (take (length qs)) is ∙ take_at (drawn_from edge None qs) rest (length qs) (length-drawn edge None qs);
          accepted = accepted;
        };
      }

  module _ (count : ℕ) (ps : List Point) (h : Holds edge row count ps) where
    pub place_redraws : (place : ℕ) (p : Point) → place ≤ length ps → length ps < length row → Accepts p → Redraws edge row (count + 1) (placed edge row count place p) (insert ps place p)
    place_redraws place p low free on =
        let more : length (insert ps place p) ≡ length ps + 1 = length-insert ps place p low in
        let is : (placed edge row count place p).stations ≡ drawn_from edge None (insert ps place p) ++ drop (length (insert ps place p)) row =
        ap (λ n. (placed edge row n place p).stations) h.counted
        ∙ placed_at edge ps row h.stations place p low free
        ∙ ap (λ n. drawn_from edge None (insert ps place p) ++ drop n row) (sym (more ∙ add-one (length ps))) in
        redraws (count + 1) (placed edge row count place p) (insert ps place p) is (omega (arith, more)) (ap (λ n. n + 1) h.counted ∙ sym more) (All-append Accepts (take place ps) (p ∷ drop place ps) (All-take Accepts place ps h.accepted) (on, All-drop Accepts place ps h.accepted))

    pub move_redraws : (place : ℕ) (p : Point) → place < length ps → Accepts p → Redraws edge row count (moved edge row count place p) (set ps place p)
    move_redraws place p low on =
        let same : length (set ps place p) ≡ length ps = length-set ps place p in
        let is : (moved edge row count place p).stations ≡ drawn_from edge None (set ps place p) ++ drop (length (set ps place p)) row =
        ap (λ n. (moved edge row n place p).stations) h.counted
        ∙ moved_at edge ps row h.stations place low h.held origin p
        ∙ ap (λ n. drawn_from edge None (set ps place p) ++ drop n row) (sym same) in
        redraws count (moved edge row count place p) (set ps place p) is (omega (arith, same, h.held)) (h.counted ∙ sym same) (All-set Accepts ps place p on h.accepted)

    pub drop_redraws : (place : ℕ) → place < length ps → Redraws edge row (count - 1) (dropped edge row count place) (remove ps place)
    drop_redraws place low =
        let less : length (remove ps place) + 1 ≡ length ps = length-remove ps place low in
        let back : length ps - 1 ≡ length (remove ps place) = omega (arith, less) in
        let is : (dropped edge row count place).stations ≡ drawn_from edge None (remove ps place) ++ drop (length (remove ps place)) row =
        ap (λ n. (dropped edge row n place).stations) h.counted
        ∙ dropped_at edge ps row h.stations place low h.held origin
        ∙ ap (λ n. drawn_from edge None (remove ps place) ++ drop n row) back in
        redraws (count - 1) (dropped edge row count place) (remove ps place) is (omega (arith, less, h.held)) (ap (λ n. n - 1) h.counted ∙ back) (All-append Accepts (take place ps) (drop (suc place) ps) (All-take Accepts place ps h.accepted) (All-drop Accepts (suc place) ps h.accepted))

    -- the last point left out: no station changes
    last_left_out : 0 < length ps → Redraws edge row (count - 1) (unchanged row) (take (length ps - 1) ps)
    last_left_out some =
        let n = length ps - 1 in
        let early : n ≤ length ps = omega arith in
        let qs = take n ps in
        let short : length qs ≡ n = length-take-le n ps early in
        let front : take n row ≡ drawn_from edge None qs =
        sym (take-take n (length ps) row early) ∙ ap (take n) (h.stations ∙ ap (drawn_from edge None) (sym (take-append-drop n ps))) ∙ ap (λ k. take k (drawn_from edge None (qs ++ drop n ps))) (sym short) ∙ take-drawn edge None qs (drop n ps) in
        record {
          long = refl;
          holds = record {
            counted = ap (λ k. k - 1) h.counted ∙ sym short;
            held = omega (arith, short, h.held);
            stations = ap (λ k. take k row) short ∙ front;
            accepted = All-take Accepts n ps h.accepted;
          };
        }

    -- ---- taking back

    module _ (e : EditRecord) (fit : fits_outline (length ps) (length row) e ≡ true) where
      undo_add : eqb e.kind add_kind ≡ true → Redraws edge row (undrawn_count count e) (undrawn edge row count e) (undone ps e)
      undo_add add =
          let is : e.place + 1 ≡ length ps = eqb-true (e.place + 1) (length ps) (rw add at fit) in
          rw add (last_left_out (omega (arith, is)))

      undo_move : eqb e.kind add_kind ≡ false → eqb e.kind move_kind ≡ true → Redraws edge row (undrawn_count count e) (undrawn edge row count e) (undone ps e)
      undo_move other move =
          let both : (ltb e.place (length ps) && accepts e.lat e.lon) ≡ true = rw (other, move) at fit in
          let parts = and_parts (ltb e.place (length ps)) (accepts e.lat e.lon) both in
          rw (other, move) (move_redraws e.place (old_point e) (ltb-true e.place (length ps) parts.0) parts.1)

      undo_drop : eqb e.kind add_kind ≡ false → eqb e.kind move_kind ≡ false → eqb e.kind drop_kind ≡ true → Redraws edge row (undrawn_count count e) (undrawn edge row count e) (undone ps e)
      undo_drop other another drops =
          let all : ((leb e.place (length ps) && ltb (length ps) (length row)) && accepts e.lat e.lon) ≡ true = rw (other, another, drops) at fit in
          let parts = and_parts (leb e.place (length ps) && ltb (length ps) (length row)) (accepts e.lat e.lon) all in
          let room = and_parts (leb e.place (length ps)) (ltb (length ps) (length row)) parts.0 in
          rw (other, another) (place_redraws e.place (old_point e) (leb-true e.place (length ps) room.0) (ltb-true (length ps) (length row) room.1) parts.1)

      unknown : eqb e.kind add_kind ≡ false → eqb e.kind move_kind ≡ false → eqb e.kind drop_kind ≡ false → ⊥
      unknown other another third = both_ways false refl (rw (other, another, third) at fit)

      pub undo_redraws : Redraws edge row (undrawn_count count e) (undrawn edge row count e) (undone ps e)
      undo_redraws =
          ⊎_elim
          undo_add
          (λ other. ⊎_elim (undo_move other) (λ another. ⊎_elim (undo_drop other another) (λ third. absurd (unknown other another third)) (cases_Bool (eqb e.kind drop_kind))) (cases_Bool (eqb e.kind move_kind)))
          (cases_Bool (eqb e.kind add_kind))
