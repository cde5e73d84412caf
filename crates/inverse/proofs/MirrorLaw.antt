-- The mirror law: the canonical form of the problem does not change, bit for bit, and s12, a12 and m12 are functions of it alone.
use Rattle.std.proofs.Common.{◌≡◌, ℕ, ◌≤◌, Bool, true, false, cond, T, ℤ, pos, ◌-ℤ◌, neg_ℤ, nat_abs, ◌≤ℤ◌, ap, ◌∙◌, subst, arith, rules, le-ltb}
use lib.Signed.{le_z_yes}
use Rattle.std.proofs.lemmas.Int.{ints}
use lib.Ieee.{Float, binary64, nan, inf, fin, neg, lt, le, eq, fits, of_bits}
use lib.Ieee.Fits.{neg-fits}
use lib.Ieee.Bits.{is_true}
use lib.Ieee.Scale as Scale
use Rattle.std.specs.Float.{float_is_finite, float_with_sign}
use Rattle.functions.specs.Sets.{Funcs}
use Rattle.exact.specs.Values.{value, Is}
use Rattle.exact.proofs.Values.{finite_value, finite_is, is_value, is_tested, neg_is}
use Rattle.exact.proofs.Orders.{lt_is, le_is}
use Rattle.floats.specs.Arithmetic.{◌≼◌, ◌≽◌}
use Rattle.geomath.specs.Angles.{quarter_turn, ang_round, lat_fix, not_a_number, accepts}
use Rattle.geomath.specs.Exact.{exactly}
use Rattle.geomath.proofs.Mirror.{round_opposite, mirrored_longitudes}
use Rattle.geomath.proofs.OffEquator.{Off, off_equator, size_is}
use Rattle.geomath.proofs.Latitudes.{mirrored_first, mirrored_second, exchanged_first, exchanged_second, sorted_first, sorted_second}
use Rattle.inverse.specs.Canonical.{canonical, longitudes, latitudes, sorted, turned_south, signs, rounded}
use Rattle.inverse.specs.Inverse.{inverse, restored, signed, exchanged, solved}
use Rattle.inverse.specs.MirrorLaw.{OffEquator, SameLengths, MirrorLaw}
use Rattle.inverse.specs.declared.canonical.Signs.{Signs}
use Rattle.ellipsoid.specs.declared.shape.Ellipsoid.{Ellipsoid}
use Rattle.inverse.specs.declared.problem.Directions.{Directions}
use Rattle.inverse.specs.declared.problem.Inverse.{Inverse}

-- ---- the signs and an exchange leave the lengths alone
restored_same : (k : Signs) (mask : ℕ) (r : Inverse Directions) → SameLengths (restored k mask r) r
unfolding restored signed exchanged
restored_same k mask r = search rules

-- one canonical form, one set of lengths
same_lengths : (F : Funcs) (E : Ellipsoid) (mask : ℕ) (a b c d a' b' c' d' : Float) → canonical a b c d ≡ canonical a' b' c' d' → SameLengths (inverse F E mask a b c d) (inverse F E mask a' b' c' d')
unfolding inverse
same_lengths F E mask a b c d a' b' c' d' h =
    let one = restored_same (signs a b c d) mask (solved F E mask (canonical a b c d)) in
    let other = restored_same (signs a' b' c' d') mask (solved F E mask (canonical a' b' c' d')) in
    record { s12 = cc; a12 = cc; m12 = cc }

-- ---- the canonical form in its parts
lat1_is : (p q : Float) → (sorted p q).lat1 ≡ sorted_first p q
unfolding sorted turned_south
lat1_is p q = search rules

lat2_is : (p q : Float) → (sorted p q).lat2 ≡ sorted_second p q
unfolding sorted turned_south
lat2_is p q = search rules

-- ---- accepted points
accepted_parts : (lat lon : Float) → accepts lat lon ≡ true → (T (lat ≽ neg quarter_turn)) × (T (lat ≼ quarter_turn)) × (T (float_is_finite lon))
accepted_parts lat lon h = search rules

bounded_finite : (lat : Float) → T (lat ≽ neg quarter_turn) → T (lat ≼ quarter_turn) → T (Scale.finite lat)
unfolding le lt eq neg of_bits
bounded_finite nan l u = u
bounded_finite (inf true) l u = l
bounded_finite (inf false) l u = u
bounded_finite (fin s m e) l u = tt

-- a latitude in range is kept
quarter-fits : T (fits binary64 quarter_turn)
unfolding fits of_bits
quarter-fits = tt

unfoldable quarter : ℕ
quarter = nat_abs (exactly quarter_turn)

is_quarter : Is binary64 quarter_turn (pos quarter)
unfolding quarter of_bits value
is_quarter = finite_is binary64 quarter_turn quarter-fits tt

lat_kept : (lat : Float) (z : ℤ) → Is binary64 lat z → nat_abs z ≤ quarter → lat_fix lat ≡ lat
lat_kept lat z i h =
    ap (λ (b : Bool). cond b not_a_number lat) (lt_is binary64 quarter_turn (float_with_sign false lat) (pos quarter) (pos (nat_abs z)) is_quarter (size_is lat z i) ∙ le-ltb quarter (nat_abs z) h)

-- ---- a point off the equator
module _ (lat lon : Float) (p : OffEquator lat lon) where
  parts : (T (lat ≽ neg quarter_turn)) × (T (lat ≼ quarter_turn)) × (T (float_is_finite lon))
  parts = accepted_parts lat lon p.accepted

  lat_is : Is binary64 lat (exactly lat)
  lat_is = finite_is binary64 lat p.lat_double (bounded_finite lat parts.0 parts.1)

  lon_finite : float_is_finite lon ≡ true
  lon_finite = is_true (float_is_finite lon) parts.2

  off : Off lat (exactly lat)
  off = off_equator lat (exactly lat) p.lat_double lat_is p.off

  size : nat_abs (exactly lat) ≤ quarter
  size =
      let low : neg_ℤ (pos quarter) ≤ℤ exactly lat = le_z_yes (subst T (le_is binary64 (neg quarter_turn) lat (neg_ℤ (pos quarter)) (exactly lat) (neg_is binary64 quarter_turn (pos quarter) is_quarter) lat_is) parts.0) in
      let high : exactly lat ≤ℤ pos quarter = le_z_yes (subst T (le_is binary64 lat quarter_turn (exactly lat) (pos quarter) lat_is is_quarter) parts.1) in
      omega (arith, ints)

  rounded_is : rounded lat ≡ ang_round lat
  rounded_is = ap ang_round (lat_kept lat (exactly lat) lat_is size)

  rounded_opposite : rounded (neg lat) ≡ neg (ang_round lat)
  rounded_opposite =
      let opposite_size : nat_abs (neg_ℤ (exactly lat)) ≤ quarter = let s = size in omega (arith, ints) in
      ap ang_round (lat_kept (neg lat) (neg_ℤ (exactly lat)) (neg_is binary64 lat (exactly lat) lat_is) opposite_size)
      ∙ round_opposite lat (exactly lat) lat_is off.given

-- ---- two points off the equator
module _ (lat1 lon1 lat2 lon2 : Float) (p : OffEquator lat1 lon1) (q : OffEquator lat2 lon2) where
  abbrev r1 : Float
  r1 = ang_round lat1

  abbrev r2 : Float
  r2 = ang_round lat2

  o1 : Off lat1 (exactly lat1)
  o1 = off lat1 lon1 p

  o2 : Off lat2 (exactly lat2)
  o2 = off lat2 lon2 q

  -- ---- exchanged
  exchanged_longitudes : ((longitudes lon2 lon1).lon12 ≡ (longitudes lon1 lon2).lon12) × ((longitudes lon2 lon1).lon12s ≡ (longitudes lon1 lon2).lon12s)
  unfolding longitudes
  exchanged_longitudes =
      mirrored_longitudes lon2 lon1 lon1 lon2 q.lon_double p.lon_double p.lon_double q.lon_double (lon_finite lat2 lon2 q) (lon_finite lat1 lon1 p) (lon_finite lat1 lon1 p) (lon_finite lat2 lon2 q)
      (omega (arith, ints))

  exchanged_canonical : canonical lat2 lon2 lat1 lon1 ≡ canonical lat1 lon1 lat2 lon2
  unfolding canonical latitudes
  exchanged_canonical =
      let lon = exchanged_longitudes in
      let first = exchanged_first r1 r2 o1.exact o2.exact o1.fit o2.fit o1.is o2.is o1.some o2.some in
      let second = exchanged_second r1 r2 o1.exact o2.exact o1.fit o2.fit o1.is o2.is o1.some o2.some in
      cc (rounded_is lat1 lon1 p, rounded_is lat2 lon2 q, lat1_is r1 r2, lat1_is r2 r1, lat2_is r1 r2, lat2_is r2 r1)

  -- ---- both latitudes mirrored
  mirrored_latitudes : canonical (neg lat1) lon1 (neg lat2) lon2 ≡ canonical lat1 lon1 lat2 lon2
  unfolding canonical latitudes
  mirrored_latitudes =
      let first = mirrored_first r1 r2 o1.exact o2.exact o1.fit o2.fit o1.is o2.is o1.some o2.some in
      let second = mirrored_second r1 r2 o1.exact o2.exact o1.fit o2.fit o1.is o2.is o1.some o2.some in
      rw (rounded_is lat1 lon1 p, rounded_is lat2 lon2 q, rounded_opposite lat1 lon1 p, rounded_opposite lat2 lon2 q)
      cc (lat1_is r1 r2, lat1_is (neg r1) (neg r2), lat2_is r1 r2, lat2_is (neg r1) (neg r2))

  -- ---- both longitudes mirrored
  minus_lon : (lat lon : Float) → OffEquator lat lon → Is binary64 (neg lon) (neg_ℤ (exactly lon))
  minus_lon lat lon o = neg_is binary64 lon (exactly lon) (finite_value binary64 lon o.lon_double (lon_finite lat lon o))

  minus_difference : exactly (neg lon2) -ℤ exactly (neg lon1) ≡ neg_ℤ (exactly lon2 -ℤ exactly lon1)
  minus_difference =
      let first = is_value binary64 (neg lon1) (neg_ℤ (exactly lon1)) (minus_lon lat1 lon1 p) in
      let second = is_value binary64 (neg lon2) (neg_ℤ (exactly lon2)) (minus_lon lat2 lon2 q) in
      rw (first, second)
      omega (arith, ints)

  opposite_longitudes : ((longitudes lon1 lon2).lon12 ≡ (longitudes (neg lon1) (neg lon2)).lon12) × ((longitudes lon1 lon2).lon12s ≡ (longitudes (neg lon1) (neg lon2)).lon12s)
  unfolding longitudes
  opposite_longitudes =
      mirrored_longitudes lon1 lon2 (neg lon1) (neg lon2) p.lon_double q.lon_double (neg-fits binary64 lon1 p.lon_double) (neg-fits binary64 lon2 q.lon_double)
      (lon_finite lat1 lon1 p) (lon_finite lat2 lon2 q) (is_tested binary64 (neg lon1) (neg_ℤ (exactly lon1)) (minus_lon lat1 lon1 p)) (is_tested binary64 (neg lon2) (neg_ℤ (exactly lon2)) (minus_lon lat2 lon2 q))
      minus_difference

  mirrored_canonical : canonical lat1 (neg lon1) lat2 (neg lon2) ≡ canonical lat1 lon1 lat2 lon2
  unfolding canonical
  mirrored_canonical = let lon = opposite_longitudes in cc

pub mirror_law : MirrorLaw
mirror_law F E mask lat1 lon1 lat2 lon2 p q = record {
  exchanged = same_lengths F E mask lat2 lon2 lat1 lon1 lat1 lon1 lat2 lon2 (exchanged_canonical lat1 lon1 lat2 lon2 p q);
  latitudes = same_lengths F E mask (neg lat1) lon1 (neg lat2) lon2 lat1 lon1 lat2 lon2 (mirrored_latitudes lat1 lon1 lat2 lon2 p q);
  longitudes = same_lengths F E mask lat1 (neg lon1) lat2 (neg lon2) lat1 lon1 lat2 lon2 (mirrored_canonical lat1 lon1 lat2 lon2 p q);
}
