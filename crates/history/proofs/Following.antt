-- The relation between an outline and its book, and that each call on rows as long as at opening keeps it and agrees with the book.
use Rattle.std.proofs.Common.{◌≡◌, ℕ, zero, suc, ◌+◌, ◌-◌, ◌<◌, ◌≤◌, Bool, true, eqb, List, [], ◌∷◌, ◌++◌, map, length, get_or, take, drop, set, Some, None, Ok, Err, Option, sym, refl, ap, ◌∙◌, subst, ⊎_elim, arith}
use lib.ListN.{get_or-map}
use lib.Seq.{take-length, drop-length}
use lib.Ieee.{Float}
use Rattle.std.specs.List.{insert, remove}
use Rattle.std.proofs.lemmas.List.{get_or-take, get_or_default}
use Rattle.std.proofs.ByRecursion.{All-get_or}
use Rattle.std.proofs.lemmas.Bool.{lt-ltb, le-ltb, eq-eqb, ne_eqb, and_from, cases_lt, cases_Bool}
use Rattle.geomath.specs.Angles.{accepts}
use Rattle.surface.specs.declared.refusals.Refusal.{Refusal}
use Rattle.surface.specs.declared.refusals.Refusal.TheVariants.{Point as PointOff, Full, Place, NothingToTakeBack}
use Rattle.area.specs.declared.Winding.{Winding}
use Rattle.polygon.specs.declared.Point.{Point}
use Rattle.polygon.specs.Polygons.{Solve}
use Rattle.polygon.specs.Traverses.{most_points}
use Rattle.stations.specs.declared.Station.{Station}
use Rattle.stations.specs.declared.Cost.{Cost}
use Rattle.stations.specs.declared.records.EditRecord.{EditRecord}
use Rattle.stations.specs.Stations.{Drawing, blank, point_of, point_at, placed, moved, dropped}
use Rattle.stations.specs.Records.{add_record, move_record, drop_record, fits_outline, noted, noted_count}
use Rattle.stations.proofs.Noting.{length-noted, noted_count_held}
use Rattle.history.specs.declared.Sizes.{Sizes}
use Rattle.history.specs.declared.Frame.{Frame}
use Rattle.history.specs.declared.Measurement.{Measurement}
use Rattle.history.specs.declared.Call.{Call}
use Rattle.history.specs.declared.Call.TheVariants.{Add, Move, Drop, TakeBack, Measure}
use Rattle.history.specs.declared.Done.TheVariants.{Edited, Measured}
use Rattle.history.specs.Calls.{Answer, After, Outcome, lengths_of, same_lengths, with_counts, no_record, newest_of, undrawn, undrawn_count, add_of, move_of, drop_of, take_back_of, measured, measure_of, measure_answer, done_by, done_of}
use Rattle.history.specs.Book.{Book, refusal_on, turned_to, changed, unless_refused}
use Rattle.history.specs.Histories.{refusal_in, FiguresAgree}
use Rattle.history.proofs.Outcomes.{add_off, add-full, add_done, move_above, move_off, move_done, drop_above, drop_done, take_back_none, take_back_done, measure_done}
use Rattle.history.proofs.Drawn.{drawn_from, points_drawn}
use Rattle.history.proofs.Measures.{measured-figures, measured-computed}
use Rattle.history.proofs.Pasts.{newest_first, undone, Chain, chain_noted}
use Rattle.history.proofs.Undoing.{add-fits, add-undone, move_fits, move_undone, drop-fits, drop-undone}
use Rattle.history.proofs.Redrawn.{Accepts, Holds, Redraws, place_redraws, move_redraws, drop_redraws, undo_redraws}

-- the frame and the rows follow the book b of an outline that was opened with this winding and these lengths
pub record Follows (edge : Solve) (winding : Winding) (opening : Sizes) (b : Book) (f : Frame) (stations : List Station) (edits : List EditRecord) : Type 0 where
  pub turn : f.winding ≡ winding
  pub lengths : f.lengths ≡ opening
  pub station_row : length stations ≡ opening.stations
  pub edit_row : length edits ≡ opening.edits
  pub holds : Holds edge stations f.counts.stations b.standing
  pub few : f.counts.edits ≤ length edits
  pub past : Chain opening.stations b.standing (newest_first edits f.counts.edits) b.past

-- a call on a station row of `room` slots did as the book says
pub record Right (edge : Solve) (whole : Float) (winding : Winding) (opening : Sizes) (room : ℕ) (b : Book) (call : Call) (d : Outcome) : Type 0 where
  pub refusal : refusal_in d.answer ≡ refusal_on room b call
  pub figures : FiguresAgree edge whole winding b.standing call d.answer
  pub follows : Follows edge winding opening (unless_refused (refusal_on room b call) b (changed opening.edits b call)) d.frame d.stations d.edits

module _ (edge : Solve) (whole : Float) (winding : Winding) (opening : Sizes) (room : ℕ) (b : Book) (call : Call) (f : Frame) (stations : List Station) (edits : List EditRecord) where
  refused_right : (e : Refusal) → refusal_on room b call ≡ Some e → Follows edge winding opening b f stations edits → Right edge whole winding opening room b call (record { answer = Err e; frame = f; stations = stations; edits = edits })
  refused_right e says r =
      record {
        refusal = sym says;
        figures = λ sign m is answers. absurd (cc);
        follows = subst (λ (o : Option Refusal). Follows edge winding opening (unless_refused o b (changed opening.edits b call)) f stations edits) (sym says) r;
      }

  edited_right : (cost : Cost) → refusal_on room b call ≡ None → Follows edge winding opening (changed opening.edits b call) f stations edits → Right edge whole winding opening room b call (record { answer = Ok (Edited cost); frame = f; stations = stations; edits = edits })
  edited_right cost says r =
      record {
        refusal = sym says;
        figures = λ sign m is answers. absurd (cc);
        follows = subst (λ (o : Option Refusal). Follows edge winding opening (unless_refused o b (changed opening.edits b call)) f stations edits) (sym says) r;
      }

module _ (edge : Solve) (whole : Float) (winding : Winding) (opening : Sizes) (b : Book) (f : Frame) (stations : List Station) (edits : List EditRecord) (r : Follows edge winding opening b f stations edits) where
  pub same : same_lengths (lengths_of stations edits) f.lengths ≡ true
  same =
      and_from (eqb (length stations) f.lengths.stations) (eqb (length edits) f.lengths.edits)
      (eq-eqb (length stations) f.lengths.stations (r.station_row ∙ sym (ap (λ (s : Sizes). s.stations) r.lengths)))
      (eq-eqb (length edits) f.lengths.edits (r.edit_row ∙ sym (ap (λ (s : Sizes). s.edits) r.lengths)))

  -- an edit that is drawn and noted
  edit_follows : (count : ℕ) (drawing : Drawing) (qs : List Point) (e : EditRecord) → Redraws edge stations count drawing qs → fits_outline (length qs) opening.stations e ≡ true → undone qs e ≡ b.standing → Follows edge winding opening (turned_to opening.edits b qs) (with_counts f count (noted_count edits f.counts.edits)) drawing.stations (noted edits f.counts.edits e)
  edit_follows count drawing qs e redraws fits undoes =
      record {
        turn = r.turn;
        lengths = r.lengths;
        station_row = redraws.long ∙ r.station_row;
        edit_row = length-noted edits f.counts.edits e ∙ r.edit_row;
        holds = redraws.holds;
        few = omega (arith, length-noted edits f.counts.edits e, noted_count_held edits f.counts.edits);
        past = subst (λ n. Chain opening.stations qs (newest_first (noted edits f.counts.edits e) (noted_count edits f.counts.edits)) (take n (b.standing ∷ b.past))) r.edit_row (chain_noted opening.stations b.standing qs edits f.counts.edits b.past e r.few r.past fits undoes);
      }

  -- ---- what the rows hold

  count_is : f.counts.stations ≡ length b.standing
  count_is = r.holds.counted

  -- the point that is read out of the row stands at its place
  old_stands : (place : ℕ) → place < length b.standing → point_at stations place ≡ get_or b.standing place (point_at stations place)
  old_stands place low =
      let ps = b.standing in
      let row : map point_of (take (length ps) stations) ≡ ps = ap (map point_of) r.holds.stations ∙ points_drawn edge None ps in
      ap point_of (sym (get_or-take (length ps) stations place blank low))
      ∙ sym (get_or-map point_of (take (length ps) stations) place blank)
      ∙ ap (λ (l : List Point). get_or l place (point_of blank)) row
      ∙ get_or_default ps place (point_of blank) (point_at stations place) low

  old_accepted : (place : ℕ) → place < length b.standing → Accepts (point_at stations place)
  old_accepted place low =
      subst Accepts (sym (old_stands place low)) (All-get_or Accepts b.standing place (point_at stations place) low r.holds.accepted)

  -- ---- add

  module _ (lat lon : Float) where
    -- a point put in after the last
    at_the_end : insert b.standing f.counts.stations (record { lat = lat; lon = lon }) ≡ b.standing ++ (record { lat = lat; lon = lon } ∷ [])
    at_the_end =
        let ps = b.standing in
        let p : Point = record { lat = lat; lon = lon } in
        ap (λ n. insert ps n p) count_is ∙ ap (λ l. l ++ p ∷ drop (length ps) ps) (take-length ps) ∙ ap (λ l. ps ++ p ∷ l) (drop-length ps)

    added : accepts lat lon ≡ true → f.counts.stations < length stations → Right edge whole winding opening (length stations) b (Add lat lon) (done_by (add_of edge f stations edits lat lon))
    added on free =
        let ps = b.standing in
        let count = f.counts.stations in
        let p : Point = record { lat = lat; lon = lon } in
        let short : length ps ≡ length stations → ⊥ = λ e. omega (arith, count_is) in
        let says : refusal_on (length stations) b (Add lat lon) ≡ None = rw (on, ne_eqb (length ps) (length stations) short) in
        let drawn : Redraws edge stations (count + 1) (placed edge stations count count p) (ps ++ p ∷ []) =
        subst (Redraws edge stations (count + 1) (placed edge stations count count p)) at_the_end (place_redraws edge stations count ps r.holds count p (omega (arith, count_is)) (omega (arith, count_is)) on) in
        let fits : fits_outline (length (ps ++ p ∷ [])) opening.stations (add_record count) ≡ true =
        ap (λ n. fits_outline (length (ps ++ p ∷ [])) opening.stations (add_record n)) count_is ∙ add-fits opening.stations ps p in
        let undoes : undone (ps ++ p ∷ []) (add_record count) ≡ ps =
        ap (λ n. undone (ps ++ p ∷ []) (add_record n)) count_is ∙ add-undone opening.stations ps p in
        subst (λ (a : After). Right edge whole winding opening (length stations) b (Add lat lon) (done_by a)) (sym (add_done edge f stations edits same lat lon on free))
        (edited_right edge whole winding opening (length stations) b (Add lat lon) (with_counts f (count + 1) (noted_count edits f.counts.edits)) (placed edge stations count count p).stations (noted edits f.counts.edits (add_record count)) (placed edge stations count count p).cost says
        (edit_follows (count + 1) (placed edge stations count count p) (ps ++ p ∷ []) (add_record count) drawn fits undoes))

    add_refused : (e : Refusal) → add_of edge f stations edits lat lon ≡ record { answer = Err e; frame = f; stations = stations; edits = edits } → refusal_on (length stations) b (Add lat lon) ≡ Some e → Right edge whole winding opening (length stations) b (Add lat lon) (done_by (add_of edge f stations edits lat lon))
    add_refused e is says =
        subst (λ (a : After). Right edge whole winding opening (length stations) b (Add lat lon) (done_by a)) (sym is) (refused_right edge whole winding opening (length stations) b (Add lat lon) f stations edits e says r)

    no_room : accepts lat lon ≡ true → length stations ≤ f.counts.stations → Right edge whole winding opening (length stations) b (Add lat lon) (done_by (add_of edge f stations edits lat lon))
    no_room on full =
        let all : length b.standing ≡ length stations = omega (arith, count_is, r.holds.held) in
        add_refused Full (add-full edge f stations edits same lat lon on full) (rw (on, eq-eqb (length b.standing) (length stations) all))

    pub add_right : Right edge whole winding opening (length stations) b (Add lat lon) (done_by (add_of edge f stations edits lat lon))
    add_right =
        ⊎_elim
        (λ on. ⊎_elim (added on) (no_room on) (cases_lt f.counts.stations (length stations)))
        (λ off. add_refused PointOff (add_off edge f stations edits same lat lon off) (rw off))
        (cases_Bool (accepts lat lon))

  -- ---- move

  module _ (place : ℕ) (lat lon : Float) where
    move_refused : (e : Refusal) → move_of edge f stations edits place lat lon ≡ record { answer = Err e; frame = f; stations = stations; edits = edits } → refusal_on (length stations) b (Move place lat lon) ≡ Some e → Right edge whole winding opening (length stations) b (Move place lat lon) (done_by (move_of edge f stations edits place lat lon))
    move_refused e is says =
        subst (λ (a : After). Right edge whole winding opening (length stations) b (Move place lat lon) (done_by a)) (sym is) (refused_right edge whole winding opening (length stations) b (Move place lat lon) f stations edits e says r)

    shifted : place < f.counts.stations → accepts lat lon ≡ true → Right edge whole winding opening (length stations) b (Move place lat lon) (done_by (move_of edge f stations edits place lat lon))
    shifted below on =
        let ps = b.standing in
        let count = f.counts.stations in
        let p : Point = record { lat = lat; lon = lon } in
        let old = point_at stations place in
        let low : place < length ps = omega (arith, count_is) in
        let says : refusal_on (length stations) b (Move place lat lon) ≡ None = rw (lt-ltb place (length ps) low, on) in
        subst (λ (a : After). Right edge whole winding opening (length stations) b (Move place lat lon) (done_by a)) (sym (move_done edge f stations edits same place lat lon below on))
        (edited_right edge whole winding opening (length stations) b (Move place lat lon) (with_counts f count (noted_count edits f.counts.edits)) (moved edge stations count place p).stations (noted edits f.counts.edits (move_record place old)) (moved edge stations count place p).cost says
        (edit_follows count (moved edge stations count place p) (set ps place p) (move_record place old) (move_redraws edge stations count ps r.holds place p low on) (move_fits opening.stations ps place low old (old_stands place low) p (old_accepted place low)) (move_undone opening.stations ps place low old (old_stands place low) p)))

    pub move_right : Right edge whole winding opening (length stations) b (Move place lat lon) (done_by (move_of edge f stations edits place lat lon))
    move_right =
        ⊎_elim
        (λ below. ⊎_elim (shifted below) (λ off. move_refused PointOff (move_off edge f stations edits same place lat lon below off) (rw (lt-ltb place (length b.standing) (omega (arith, count_is)), off))) (cases_Bool (accepts lat lon)))
        (λ above. move_refused Place (move_above edge f stations edits same place lat lon above) (rw (le-ltb place (length b.standing) (omega (arith, count_is)))))
        (cases_lt place f.counts.stations)

  -- ---- drop

  module _ (place : ℕ) where
    gone : place < f.counts.stations → Right edge whole winding opening (length stations) b (Drop place) (done_by (drop_of edge f stations edits place))
    gone below =
        let ps = b.standing in
        let count = f.counts.stations in
        let old = point_at stations place in
        let low : place < length ps = omega (arith, count_is) in
        let room : length ps ≤ opening.stations = omega (arith, r.holds.held, r.station_row) in
        let says : refusal_on (length stations) b (Drop place) ≡ None = rw (lt-ltb place (length ps) low) in
        subst (λ (a : After). Right edge whole winding opening (length stations) b (Drop place) (done_by a)) (sym (drop_done edge f stations edits same place below))
        (edited_right edge whole winding opening (length stations) b (Drop place) (with_counts f (count - 1) (noted_count edits f.counts.edits)) (dropped edge stations count place).stations (noted edits f.counts.edits (drop_record place old)) (dropped edge stations count place).cost says
        (edit_follows (count - 1) (dropped edge stations count place) (remove ps place) (drop_record place old) (drop_redraws edge stations count ps r.holds place low) (drop-fits opening.stations ps place low old (old_stands place low) room (old_accepted place low)) (drop-undone opening.stations ps place low old (old_stands place low))))

    pub drop_right : Right edge whole winding opening (length stations) b (Drop place) (done_by (drop_of edge f stations edits place))
    drop_right =
        ⊎_elim
        gone
        (λ above. subst (λ (a : After). Right edge whole winding opening (length stations) b (Drop place) (done_by a)) (sym (drop_above edge f stations edits same place above)) (refused_right edge whole winding opening (length stations) b (Drop place) f stations edits Place (rw (le-ltb place (length b.standing) (omega (arith, count_is)))) r))
        (cases_lt place f.counts.stations)

  -- ---- measure

  row_is : take f.counts.stations stations ≡ drawn_from edge None b.standing
  row_is = ap (λ n. take n stations) count_is ∙ r.holds.stations

  measurement : Bool → Measurement
  measurement sign = measured edge whole f.winding sign (take f.counts.stations stations)

  measurement_is : (sign : Bool) → measurement sign ≡ measured edge whole winding sign (drawn_from edge None b.standing)
  unfolding measurement
  measurement_is sign =
      ap (λ (w : Winding). measured edge whole w sign (take f.counts.stations stations)) r.turn ∙ ap (measured edge whole winding sign) row_is

  pub measure_right : opening.stations ≤ 4096 → (sign : Bool) → Right edge whole winding opening (length stations) b (Measure sign) (record { answer = measure_answer (measure_of edge whole f stations edits sign); frame = f; stations = stations; edits = edits })
  unfolding measurement
  measure_right bound sign =
      let ps = b.standing in
      let few : length ps < most_points = omega (arith, r.holds.held, r.station_row) in
      let answers : measure_answer (measure_of edge whole f stations edits sign) ≡ Ok (Measured (measurement sign)) = ap measure_answer (measure_done edge f stations edits same whole sign) in
      subst (λ (a : Answer). Right edge whole winding opening (length stations) b (Measure sign) (record { answer = a; frame = f; stations = stations; edits = edits })) (sym answers)
      (record {
        refusal = refl;
        figures = λ other m is found.
            let asked : sign ≡ other = cc in
            let given : measurement sign ≡ m = cc in
            let figures : m.figures ≡ (measured edge whole winding other (drawn_from edge None ps)).figures =
            ap (λ (x : Measurement). x.figures) (sym given ∙ measurement_is sign) ∙ ap (λ (s : Bool). (measured edge whole winding s (drawn_from edge None ps)).figures) asked in
            (figures ∙ measured-computed edge whole winding other ps r.holds.accepted few, figures ∙ measured-figures edge whole winding other ps);
        follows = r;
      })

-- ---- take back

module _ (edge : Solve) (whole : Float) (winding : Winding) (opening : Sizes) (f : Frame) (stations : List Station) (edits : List EditRecord) where
  -- the book has a past, and the newest record leads to it
  back : (ps before : List Point) (past : List (List Point)) (m : ℕ) → f.counts.edits ≡ suc m → Follows edge winding opening (record { standing = ps; past = before ∷ past }) f stations edits → Right edge whole winding opening (length stations) (record { standing = ps; past = before ∷ past }) TakeBack (done_by (take_back_of edge f stations edits))
  back ps before past m some r =
      let b : Book = record { standing = ps; past = before ∷ past } in
      let count = f.counts.stations in
      let e = newest_of edits f.counts.edits in
      let last : f.counts.edits - 1 ≡ m = omega (arith, some) in
      let newest : get_or edits m no_record ≡ e = ap (λ n. get_or edits n no_record) (sym last) in
      let chain : Chain opening.stations ps (newest_first edits (suc m)) (before ∷ past) = subst (λ n. Chain opening.stations ps (newest_first edits n) (before ∷ past)) some r.past in
      let fits : fits_outline (length ps) opening.stations e ≡ true = ap (fits_outline (length ps) opening.stations) (sym newest) ∙ chain.0 in
      let fits-row : fits_outline (length ps) (length stations) e ≡ true = ap (λ n. fits_outline (length ps) n e) r.station_row ∙ fits in
      let undoes : undone ps e ≡ before = ap (undone ps) (sym newest) ∙ chain.1 in
      let drawn : Redraws edge stations (undrawn_count count e) (undrawn edge stations count e) before =
      subst (Redraws edge stations (undrawn_count count e) (undrawn edge stations count e)) undoes (undo_redraws edge stations count ps r.holds e fits-row) in
      let ne : f.counts.edits ≡ 0 → ⊥ = λ z. omega (arith, some) in
      let fitting : fits_outline count (length stations) e ≡ true = ap (λ n. fits_outline n (length stations) e) r.holds.counted ∙ fits-row in
      subst (λ (a : After). Right edge whole winding opening (length stations) b TakeBack (done_by a)) (sym (take_back_done edge f stations edits (same edge whole winding opening b f stations edits r) (ne_eqb f.counts.edits 0 ne) fitting))
      (edited_right edge whole winding opening (length stations) b TakeBack (with_counts f (undrawn_count count e) (f.counts.edits - 1)) (undrawn edge stations count e).stations edits (undrawn edge stations count e).cost refl
      (record {
        turn = r.turn;
        lengths = r.lengths;
        station_row = drawn.long ∙ r.station_row;
        edit_row = r.edit_row;
        holds = drawn.holds;
        few = omega (arith, r.few);
        past = subst (λ n. Chain opening.stations before (newest_first edits n) past) (sym last) chain.2;
      }))

  by_past : (ps : List Point) (past : List (List Point)) (n : ℕ) → f.counts.edits ≡ n → Follows edge winding opening (record { standing = ps; past = past }) f stations edits → Right edge whole winding opening (length stations) (record { standing = ps; past = past }) TakeBack (done_by (take_back_of edge f stations edits))
  by_past ps [] zero none r =
      let b : Book = record { standing = ps; past = [] } in
      subst (λ (a : After). Right edge whole winding opening (length stations) b TakeBack (done_by a)) (sym (take_back_none edge f stations edits (same edge whole winding opening b f stations edits r) (eq-eqb f.counts.edits 0 none)))
      (refused_right edge whole winding opening (length stations) b TakeBack f stations edits NothingToTakeBack refl r)
  by_past ps (before ∷ past) zero none r = absurd (subst (λ n. Chain opening.stations ps (newest_first edits n) (before ∷ past)) none r.past)
  by_past ps [] (suc m) some r = absurd (subst (λ n. Chain opening.stations ps (newest_first edits n) []) some r.past)
  by_past ps (before ∷ past) (suc m) some r = back ps before past m some r

  pub take_back_right : (b : Book) → Follows edge winding opening b f stations edits → Right edge whole winding opening (length stations) b TakeBack (done_by (take_back_of edge f stations edits))
  take_back_right b r = by_past b.standing b.past f.counts.edits refl r

-- ---- any call

pub call_right : (edge : Solve) (whole : Float) (winding : Winding) (opening : Sizes) (b : Book) (f : Frame) (stations : List Station) (edits : List EditRecord) → opening.stations ≤ 4096 → Follows edge winding opening b f stations edits → (call : Call) → Right edge whole winding opening (length stations) b call (done_of edge whole f stations edits call)
call_right edge whole winding opening b f stations edits bound r (Add lat lon) = add_right edge whole winding opening b f stations edits r lat lon
call_right edge whole winding opening b f stations edits bound r (Move place lat lon) = move_right edge whole winding opening b f stations edits r place lat lon
call_right edge whole winding opening b f stations edits bound r (Drop place) = drop_right edge whole winding opening b f stations edits r place
call_right edge whole winding opening b f stations edits bound r TakeBack = take_back_right edge whole winding opening f stations edits b r
call_right edge whole winding opening b f stations edits bound r (Measure sign) = measure_right edge whole winding opening b f stations edits r bound sign
