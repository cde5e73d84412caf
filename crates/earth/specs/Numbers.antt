-- The constants of the WGS84 ellipsoid over the series set are those of the definition, and its whole area fits: by computation, number by number. Assumes nothing.
use Rattle.std.proofs.Common.{◌≡◌, ℕ, true, false, cond, List, [], ◌∷◌, sym, refl, ap, ◌∙◌, subst}
use lib.Count.{count_trailing_zeros}
use lib.Ieee as Ieee
use lib.Ieee.{Float, of_bits, of_fields, neg, add, sub, mul, div, round, units, size, span, climb, lt, le, eq, of_int, is_nan}
use Rattle.std.specs.Float as Floats
use Rattle.std.specs.Float.{float_with_sign}
use Rattle.floats.specs.Arithmetic.{◌⊕◌, ◌⊖◌, ◌⊗◌, ◌⊘◌, ◌≺◌, ◌≗◌, bits}
use Rattle.floats.specs.Choices.{larger_of, smaller_of}
use Rattle.floats.specs.Polynomials.{horner, polynomial}
use Rattle.functions.specs.Coefficients.{area_terms}
use Rattle.functions.specs.Series.{series}
use Rattle.geomath.specs.Angles.{zero, one, two, square}
use Rattle.series.specs.Eccentric.{eatanhe}
use Rattle.surface.specs.Wholes.{whole_fits}
use Rattle.ellipsoid.specs.Constants.{tenth, thousandth, tol2, root}
use Rattle.ellipsoid.specs.Tables.{coeff_a3, coeff_c3, coeff_c4, degrees_a3, degrees_c3, degrees_c4, rows_of}
use Rattle.ellipsoid.specs.declared.shape.Ellipsoid.{Ellipsoid}
use Rattle.ellipsoid.specs.Ellipsoids.{e2_of, b_of, n_of, eccentricity, area_ratio, c2_of, etol2_of, ellipsoid, whole_of, wgs84_a, wgs84_f}
use Rattle.earth.specs.Wgs84.{wgs84}

-- ---- the axes

f1_is : one ⊖ wgs84_f ≡ bits 0x3fefe488a57b0c1f
unfolding of_int of_bits of_fields neg add sub mul div Ieee.sum round units size span climb lt le eq is_nan Ieee.odd count_trailing_zeros Floats.float_with_sign Floats.is_sign_negative Floats.float_is_finite
f1_is = refl

e2_is : e2_of wgs84_f ≡ bits 0x3f7b6b90f1fe94f0
unfolding of_int of_bits of_fields neg add sub mul div Ieee.sum round units size span climb lt le eq is_nan Ieee.odd count_trailing_zeros Floats.float_with_sign Floats.is_sign_negative Floats.float_is_finite
e2_is = refl

ep2_is : e2_of wgs84_f ⊘ square (one ⊖ wgs84_f) ≡ bits 0x3f7b9adfe197dcd2
unfolding of_int of_bits of_fields neg add sub mul div Ieee.sum round units size span climb lt le eq is_nan Ieee.odd count_trailing_zeros Floats.float_with_sign Floats.is_sign_negative Floats.float_is_finite
ep2_is = refl

n_is : n_of wgs84_f ≡ bits 0x3f5b8329291b5a5f
unfolding of_int of_bits of_fields neg add sub mul div Ieee.sum round units size span climb lt le eq is_nan Ieee.odd count_trailing_zeros Floats.float_with_sign Floats.is_sign_negative Floats.float_is_finite
n_is = refl

b_is : b_of wgs84_a wgs84_f ≡ bits 0x41583fc4141c97d0
unfolding of_int of_bits of_fields neg add sub mul div Ieee.sum round units size span climb lt le eq is_nan Ieee.odd count_trailing_zeros Floats.float_with_sign Floats.is_sign_negative Floats.float_is_finite
b_is = refl

-- ---- the authalic radius

root_is : root (float_with_sign false (bits 0x3f7b6b90f1fe94f0)) ≡ bits 0x3fb4f21a3cdaaf9a
unfolding Floats.sqrt Ieee.root_twice Ieee.root_below of_int of_bits of_fields neg add sub mul div Ieee.sum round units size span climb lt le eq is_nan Ieee.odd count_trailing_zeros Floats.float_with_sign Floats.is_sign_negative Floats.float_is_finite
root_is = refl

signed_is : cond (wgs84_f ≺ zero) (neg one) one ⊗ bits 0x3fb4f21a3cdaaf9a ≡ bits 0x3fb4f21a3cdaaf9a
unfolding of_int of_bits of_fields neg add sub mul div Ieee.sum round units size span climb lt le eq is_nan Ieee.odd count_trailing_zeros Floats.float_with_sign Floats.is_sign_negative Floats.float_is_finite
signed_is = refl

eccentricity_is : eccentricity wgs84_f ≡ bits 0x3fb4f21a3cdaaf9a
eccentricity_is =
    ap (λ (x : Float). cond (wgs84_f ≺ zero) (neg one) one ⊗ root (float_with_sign false x)) e2_is
    ∙ ap (λ (x : Float). cond (wgs84_f ≺ zero) (neg one) one ⊗ x) root_is
    ∙ signed_is

area_tangent_is : eatanhe series one (bits 0x3fb4f21a3cdaaf9a) ≡ bits 0x3f7b7b4b1530e6b4
unfolding eatanhe horner polynomial area_terms of_int of_bits of_fields neg add sub mul div Ieee.sum round units size span climb lt le eq is_nan Ieee.odd count_trailing_zeros Floats.float_with_sign Floats.is_sign_negative Floats.float_is_finite
area_tangent_is = refl

quotient_is : cond (e2_of wgs84_f ≗ zero) one (bits 0x3f7b7b4b1530e6b4 ⊘ e2_of wgs84_f) ≡ bits 0x3ff0092d4c84ce97
unfolding of_int of_bits of_fields neg add sub mul div Ieee.sum round units size span climb lt le eq is_nan Ieee.odd count_trailing_zeros Floats.float_with_sign Floats.is_sign_negative Floats.float_is_finite
quotient_is = refl

ratio_is : area_ratio series wgs84_f ≡ bits 0x3ff0092d4c84ce97
ratio_is =
    ap (λ (x : Float). cond (e2_of wgs84_f ≗ zero) one (eatanhe series one x ⊘ e2_of wgs84_f)) eccentricity_is
    ∙ ap (λ (x : Float). cond (e2_of wgs84_f ≗ zero) one (x ⊘ e2_of wgs84_f)) area_tangent_is
    ∙ quotient_is

mean_is : (square wgs84_a ⊕ square (b_of wgs84_a wgs84_f) ⊗ bits 0x3ff0092d4c84ce97) ⊘ two ≡ bits 0x42c275444b27b961
unfolding of_int of_bits of_fields neg add sub mul div Ieee.sum round units size span climb lt le eq is_nan Ieee.odd count_trailing_zeros Floats.float_with_sign Floats.is_sign_negative Floats.float_is_finite
mean_is = refl

c2_is : c2_of series wgs84_a wgs84_f ≡ bits 0x42c275444b27b961
unfolding c2_of
c2_is = ap (λ (x : Float). (square wgs84_a ⊕ square (b_of wgs84_a wgs84_f) ⊗ x) ⊘ two) ratio_is ∙ mean_is

-- ---- short lines

half_is : larger_of (float_with_sign false wgs84_f) thousandth ⊗ smaller_of (one ⊖ wgs84_f ⊘ two) one ⊘ two ≡ bits 0x3f5b6b90f1fe94f0
unfolding of_int of_bits of_fields neg add sub mul div Ieee.sum round units size span climb lt le eq is_nan Ieee.odd count_trailing_zeros Floats.float_with_sign Floats.is_sign_negative Floats.float_is_finite
half_is = refl

half_root_is : root (bits 0x3f5b6b90f1fe94f0) ≡ bits 0x3fa4f21a3cdaaf9a
unfolding Floats.sqrt Ieee.root_twice Ieee.root_below of_int of_bits of_fields neg add sub mul div Ieee.sum round units size span climb lt le eq is_nan Ieee.odd count_trailing_zeros Floats.float_with_sign Floats.is_sign_negative Floats.float_is_finite
half_root_is = refl

short_is : tenth ⊗ tol2 ⊘ bits 0x3fa4f21a3cdaaf9a ≡ bits 0x3e638e291574bf71
unfolding of_int of_bits of_fields neg add sub mul div Ieee.sum round units size span climb lt le eq is_nan Ieee.odd count_trailing_zeros Floats.float_with_sign Floats.is_sign_negative Floats.float_is_finite
short_is = refl

etol2_is : etol2_of wgs84_f ≡ bits 0x3e638e291574bf71
unfolding etol2_of
etol2_is =
    ap (λ (x : Float). tenth ⊗ tol2 ⊘ root x) half_is
    ∙ ap (λ (x : Float). tenth ⊗ tol2 ⊘ x) half_root_is
    ∙ short_is

-- ---- the tables

abbrev A3 : List Float
A3 =
    bits 0xbf98000000000000 ∷ bits 0xbfa806e0ca4a46d7 ∷ bits 0xbfb014a553ccb656 ∷ bits 0xbfd0036bf5c050b0
    ∷ bits 0xbfdff23e6b6b7253 ∷ bits 0x3ff0000000000000 ∷ []

abbrev C3 : List Float
C3 =
    bits 0x3f98000000000000 ∷ bits 0x3fa403706525236b ∷ bits 0x3fa80a4fb4f87959 ∷ bits 0x3fbffffa16243c5b
    ∷ bits 0x3fcff23e6b6b7253 ∷ bits 0x3f94000000000000 ∷ bits 0x3f9803706525236b ∷ bits 0x3fa7f91ac650e66e
    ∷ bits 0x3fafeb60960f0d4f ∷ bits 0x3f8c000000000000 ∷ bits 0x3f97f4895984349b ∷ bits 0x3f9a960d39584e85
    ∷ bits 0x3f8c000000000000 ∷ bits 0x3f8be7ed3bfc0811 ∷ bits 0x3f80cccccccccccd ∷ []

abbrev C4 : List Float
C4 =
    bits 0x3f7a7604778d4a49 ∷ bits 0x3f6cb3ec49a0c00c ∷ bits 0x3fa1c9bd7417f2b3 ∷ bits 0xbf93adb4aa052e9f
    ∷ bits 0xbfc98079588d9fdf ∷ bits 0x3fe551aab2270964 ∷ bits 0x3f1d191762ea8bc0 ∷ bits 0x3f6c1224ed9e308a
    ∷ bits 0xbf837a6151e1c3b0 ∷ bits 0xbf9363786b442705 ∷ bits 0x3f96ab16879a5538 ∷ bits 0x3f48713c9ac504c0
    ∷ bits 0xbf70f73558fa117f ∷ bits 0xbf74a72f26bb1093 ∷ bits 0x3f7f116e264e7d18 ∷ bits 0xbf61aaa9a0a0b047
    ∷ bits 0xbf6013e607bc31c3 ∷ bits 0x3f6d939d044d41c2 ∷ bits 0xbf4f09b28ba4d955 ∷ bits 0x3f60b9ae8bbfc253
    ∷ bits 0x3f5529855f363717 ∷ []

a3_is : rows_of (bits 0x3f5b8329291b5a5f) coeff_a3 degrees_a3 ≡ A3
unfolding horner polynomial rows_of coeff_a3 of_int of_bits of_fields neg add sub mul div Ieee.sum round units size span climb lt le eq is_nan Ieee.odd count_trailing_zeros Floats.float_with_sign Floats.is_sign_negative Floats.float_is_finite
a3_is = refl

c3_is : rows_of (bits 0x3f5b8329291b5a5f) coeff_c3 degrees_c3 ≡ C3
unfolding horner polynomial rows_of coeff_c3 of_int of_bits of_fields neg add sub mul div Ieee.sum round units size span climb lt le eq is_nan Ieee.odd count_trailing_zeros Floats.float_with_sign Floats.is_sign_negative Floats.float_is_finite
c3_is = refl

c4_is : rows_of (bits 0x3f5b8329291b5a5f) coeff_c4 degrees_c4 ≡ C4
unfolding horner polynomial rows_of coeff_c4 of_int of_bits of_fields neg add sub mul div Ieee.sum round units size span climb lt le eq is_nan Ieee.odd count_trailing_zeros Floats.float_with_sign Floats.is_sign_negative Floats.float_is_finite
c4_is = refl

-- ---- all of them

-- an ellipsoid of WGS84's a and f, and of these other constants
abbrev with : Float → Float → Float → Float → Float → Float → Float → List Float → List Float → List Float → Ellipsoid
with f1 e2 ep2 n b c2 etol2 A3x C3x C4x =
    record {
      a = wgs84_a;
      f = wgs84_f;
      f1 = f1;
      e2 = e2;
      ep2 = ep2;
      n = n;
      b = b;
      c2 = c2;
      etol2 = etol2;
      A3x = A3x;
      C3x = C3x;
      C4x = C4x;
    }

abbrev pub constants : Ellipsoid
constants = with (bits 0x3fefe488a57b0c1f) (bits 0x3f7b6b90f1fe94f0) (bits 0x3f7b9adfe197dcd2) (bits 0x3f5b8329291b5a5f) (bits 0x41583fc4141c97d0) (bits 0x42c275444b27b961) (bits 0x3e638e291574bf71) A3 C3 C4

same : (f1 f1' e2 e2' ep2 ep2' n n' b b' c2 c2' t t' : Float) (A A' C C' D D' : List Float) → f1 ≡ f1' → e2 ≡ e2' → ep2 ≡ ep2' → n ≡ n' → b ≡ b' → c2 ≡ c2' → t ≡ t' → A ≡ A' → C ≡ C' → D ≡ D' → with f1 e2 ep2 n b c2 t A C D ≡ with f1' e2' ep2' n' b' c2' t' A' C' D'
same f1 f1' e2 e2' ep2 ep2' n n' b b' c2 c2' t t' A A' C C' D D' p q r s u v x y z w =
    ap (λ (it : Float). with it e2 ep2 n b c2 t A C D) p
    ∙ ap (λ (it : Float). with f1' it ep2 n b c2 t A C D) q
    ∙ ap (λ (it : Float). with f1' e2' it n b c2 t A C D) r
    ∙ ap (λ (it : Float). with f1' e2' ep2' it b c2 t A C D) s
    ∙ ap (λ (it : Float). with f1' e2' ep2' n' it c2 t A C D) u
    ∙ ap (λ (it : Float). with f1' e2' ep2' n' b' it t A C D) v
    ∙ ap (λ (it : Float). with f1' e2' ep2' n' b' c2' it A C D) x
    ∙ ap (λ (it : List Float). with f1' e2' ep2' n' b' c2' t' it C D) y
    ∙ ap (λ (it : List Float). with f1' e2' ep2' n' b' c2' t' A' it D) z
    ∙ ap (λ (it : List Float). with f1' e2' ep2' n' b' c2' t' A' C' it) w

rows_are : (t : List Float) (degrees : List ℕ) (row : List Float) → rows_of (bits 0x3f5b8329291b5a5f) t degrees ≡ row → rows_of (n_of wgs84_f) t degrees ≡ row
rows_are t degrees row is = ap (λ (x : Float). rows_of x t degrees) n_is ∙ is

pub wgs84_is : constants ≡ wgs84
unfolding ellipsoid
wgs84_is =
    sym (same _ _ _ _ _ _ _ _ _ _ _ _ _ _ _ _ _ _ _ _ f1_is e2_is ep2_is n_is b_is c2_is etol2_is (rows_are coeff_a3 degrees_a3 A3 a3_is) (rows_are coeff_c3 degrees_c3 C3 c3_is) (rows_are coeff_c4 degrees_c4 C4 c4_is))

constants_fit : whole_fits (whole_of constants) ≡ true
unfolding whole_of of_int of_bits of_fields neg add sub mul div Ieee.sum round units size span climb lt le eq is_nan Ieee.odd count_trailing_zeros Floats.float_with_sign Floats.is_sign_negative Floats.float_is_finite
constants_fit = refl

pub whole-fits : whole_fits (whole_of wgs84) ≡ true
whole-fits = subst (λ (E : Ellipsoid). whole_fits (whole_of E) ≡ true) wgs84_is constants_fit
