-- The record of each edit fits the list after it and undoes it into the list before.
use Rattle.std.proofs.Common.{◌≡◌, ℕ, suc, ◌+◌, ◌-◌, ◌<◌, ◌≤◌, true, ltb, leb, List, [], ◌∷◌, ◌++◌, length, get_or, take, drop, set, sym, ap, ◌∙◌, arith}
use lib.Seq.{split_at}
use Rattle.std.specs.List.{remove}
use Rattle.std.proofs.lemmas.List.{length_push, length-set, length-take-le, take_at, drop_at, set-set, set-get_or}
use Rattle.std.proofs.lemmas.List.Edits.{length-remove}
use Rattle.std.proofs.lemmas.Bool.{lt-ltb, le-leb, eq-eqb, and_from}
use Rattle.geomath.specs.Angles.{accepts}
use Rattle.polygon.specs.declared.Point.{Point}
use Rattle.stations.specs.Records.{add_record, move_record, drop_record, fits_outline}
use Rattle.history.proofs.Pasts.{undone}

module _ (room : ℕ) (ps : List Point) where
  pub add-fits : (p : Point) → fits_outline (length (ps ++ p ∷ [])) room (add_record (length ps)) ≡ true
  add-fits p = eq-eqb (length ps + 1) (length (ps ++ p ∷ [])) (sym (length_push ps p))

  pub add-undone : (p : Point) → undone (ps ++ p ∷ []) (add_record (length ps)) ≡ ps
  add-undone p = take_at ps (p ∷ []) (length (ps ++ p ∷ []) - 1) (omega (arith, length_push ps p))

  module _ (place : ℕ) (low : place < length ps) (old : Point) (was : old ≡ get_or ps place old) where
    pub move_fits : (p : Point) → accepts old.lat old.lon ≡ true → fits_outline (length (set ps place p)) room (move_record place old) ≡ true
    move_fits p on = and_from (ltb place (length (set ps place p))) (accepts old.lat old.lon) (lt-ltb place (length (set ps place p)) (omega (arith, length-set ps place p))) on

    pub move_undone : (p : Point) → undone (set ps place p) (move_record place old) ≡ ps
    move_undone p = set-set ps place p old ∙ ap (set ps place) was ∙ set-get_or ps place old

    pub drop-fits : length ps ≤ room → accepts old.lat old.lon ≡ true → fits_outline (length (remove ps place)) room (drop_record place old) ≡ true
    drop-fits held on =
        let less : length (remove ps place) + 1 ≡ length ps = length-remove ps place low in
        let slot : leb place (length (remove ps place)) ≡ true = le-leb place (length (remove ps place)) (omega (arith, less)) in
        let free : ltb (length (remove ps place)) room ≡ true = lt-ltb (length (remove ps place)) room (omega (arith, less)) in
        rw (slot, free, on)

    pub drop-undone : undone (remove ps place) (drop_record place old) ≡ ps
    drop-undone =
        let at : length (take place ps) ≡ place = length-take-le place ps (omega arith) in
        ap (λ l. l ++ old ∷ drop place (remove ps place)) (take_at (take place ps) (drop (suc place) ps) place at)
        ∙ ap (λ l. take place ps ++ old ∷ l) (drop_at (take place ps) (drop (suc place) ps) place at)
        ∙ ap (λ x. take place ps ++ x ∷ drop (suc place) ps) was
        ∙ sym (split_at ps place old low)
