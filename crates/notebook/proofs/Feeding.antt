-- A point that is not refused is fed to the traverse.
use Rattle.std.proofs.Common.{◌≡◌, List, [], ◌∷◌, None, sym, refl, ap}
use Rattle.polygon.specs.declared.Point.{Point}
use Rattle.polygon.specs.declared.Traverse.{Traverse}
use Rattle.polygon.specs.Polygons.{Solve}
use Rattle.polygon.specs.Traverses.{point_refusal, offered, unless, fed, fed_all}

pub offered-fed : (edge : Solve) (t : Traverse) (p : Point) → None ≡ point_refusal t.num p.lat p.lon → offered edge t p.lat p.lon ≡ fed edge t p
offered-fed edge t p h = ap (λ o. unless o t (fed edge t p)) (sym h)

pub fed_all-one : (edge : Solve) (t : Traverse) (p : Point) (ps : List Point) → fed_all edge t (p ∷ ps) ≡ fed_all edge (fed edge t p) ps
unfolding fed_all
fed_all-one edge t p ps = refl

pub fed_all-none : (edge : Solve) (t : Traverse) → fed_all edge t [] ≡ t
unfolding fed_all
fed_all-none edge t = refl
