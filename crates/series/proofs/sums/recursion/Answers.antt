-- The fold over the pairs is the recursion.
use Rattle.std.proofs.Common.{◌≡◌, ◌*◌, ◌/◌, length, get_or, reverse, refl, ap, ◌∙◌, rules}
use lib.Ieee.{Float}
use Rattle.std.proofs.lemmas.Iterator.Adapters.{YieldsList-from_rev_slice}
use Rattle.std.proofs.lemmas.Iterator.Consumers.{fold_from_yields_List}
use Rattle.std.proofs.lemmas.List.{get_or-drop}
use Rattle.std.specs.List.{fold}
use Rattle.geomath.specs.Angles.{zero}
use Rattle.series.specs.Clenshaw.{clenshaw}
use Rattle.series.proofs.Recursion.{turn, folded}
use Rattle.series.proofs.sums.recursion.Goals as goal

by_pairs : (c : goal.After-fold) → c.fold.result ≡ fold (turn c.args.ar) (c.unwrap_or-start.result, zero) (reverse c.as_chunks.result.0.now)
by_pairs c = fold_from_yields_List _ (turn c.args.ar) _ _ c.fold.ensures.ran (YieldsList-from_rev_slice c.as_chunks.result.0.now (search rules)) (λ a x b q k. search rules)

starts : (c : goal.After-fold) → c.unwrap_or-start.result ≡ get_or c.args.terms.now (length c.args.terms.now / 2 * 2) zero
starts c = search (rules, get_or-drop)

value_is : (c : goal.After-fold) → c.fold.result ≡ ((clenshaw c.args.ar c.args.terms.now).y0, (clenshaw c.args.ar c.args.terms.now).y1)
value_is c =
    by_pairs c
    ∙ ap (λ ps. fold (turn c.args.ar) (c.unwrap_or-start.result, zero) (reverse ps)) c.as_chunks.ensures.front
    ∙ folded c.args.ar c.unwrap_or-start.result (length c.args.terms.now / 2) c.args.terms.now refl (starts c)

pub returns : goal.returns
returns c = record { last = ap (λ (y : Float × Float). y.0) (value_is c); before = ap (λ (y : Float × Float). y.1) (value_is c) }
