-- An inverse problem takes at most 83 evaluations of the longitude equation: only a path by Newton's method takes any.
use Rattle.std.proofs.Common.{ℕ, ◌≤◌, arith}
use lib.Ieee.{Float}
use Rattle.functions.specs.Sets.{Funcs}
use Rattle.inverse.specs.Inverse.{measured, solved, signed, exchanged, restored, inverse}
use Rattle.inverse.specs.Paths.{evaluations_of, meridian_path, equator_path, short_path, found_path, newton_path, other_path, meridian_first, path_of}
use Rattle.azimuth.specs.Start.{inverse_start}
use Rattle.inverse.specs.declared.canonical.Canonical.{Canonical}
use Rattle.ellipsoid.specs.declared.shape.Ellipsoid.{Ellipsoid}
use Rattle.ellipsoid.specs.declared.latitudes.Ends.{Ends}
use Rattle.ellipsoid.specs.declared.latitudes.Difference.{Difference}
use Rattle.azimuth.proofs.Turns.{solved_few}

path_few : (F : Funcs) (E : Ellipsoid) (c : Canonical) (e : Ends) (d : Difference) (mask : ℕ) → evaluations_of (path_of F E c e d mask).way ≤ 83
unfolding path_of meridian_first other_path newton_path short_path equator_path meridian_path found_path
path_few F E c e d mask = let h = solved_few F E e d (inverse_start F E e d).alp1 in grind arith

pub inverse_few : (F : Funcs) (E : Ellipsoid) (mask : ℕ) (lat1 lon1 lat2 lon2 : Float) → (inverse F E mask lat1 lon1 lat2 lon2).evaluations ≤ 83
unfolding inverse restored signed exchanged solved measured
inverse_few F E mask lat1 lon1 lat2 lon2 = grind (arith, path_few)
