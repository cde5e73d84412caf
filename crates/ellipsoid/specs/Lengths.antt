-- The distance, the reduced length and the geodesic scales along an arc, in units of the polar half axis b, Karney (2013), eqs. 7, 15 and 38 to 43. Assumes nothing.
-- What the mask does not want is NaN.
use Rattle.std.specs.Prelude.{ℕ, cond, List, [], ◌∷◌, slice_index_or, Float}
use Rattle.std.specs.Float.{nan}
use Rattle.floats.specs.Arithmetic.{◌⊕◌, ◌⊖◌, ◌⊗◌, ◌⊘◌}
use Rattle.geomath.specs.Angles.{zero, one, not_a_number}
use Rattle.series.specs.Expansions.{A1m1f, A2m1f, C1f, C2f}
use Rattle.ellipsoid.specs.Arcs.{wave}
use Rattle.ellipsoid.specs.Capabilities.{wants, distance, reduced_length, geodesic_scale, differential}
use Rattle.ellipsoid.specs.declared.arcs.Arc.{Arc}
use Rattle.ellipsoid.specs.declared.latitudes.Ends.{Ends}
use Rattle.ellipsoid.specs.declared.shape.Ellipsoid.{Ellipsoid}
use Rattle.ellipsoid.specs.declared.lengths.Integrals.{Integrals}
use Rattle.ellipsoid.specs.declared.lengths.Lengths.{Lengths}

-- A1 and A2
abbrev pub scale1 : Float → Float
scale1 eps = A1m1f eps ⊕ one

abbrev pub scale2 : Float → Float
scale2 eps = A2m1f eps ⊕ one

-- A1 - A2
abbrev pub m0_of : Float → Float
m0_of eps = A1m1f eps ⊖ A2m1f eps

-- I1 = A1 (σ12 + B1), the distance
abbrev pub distance_of : Float → Arc → Float
distance_of eps arc = scale1 eps ⊗ (arc.sig12 ⊕ wave arc (C1f eps))

-- J = I1 - I2 = (A1 - A2) σ12 + (A1 B1 - A2 B2), with both series summed
abbrev pub difference_of : Float → Arc → Float
difference_of eps arc = m0_of eps ⊗ arc.sig12 ⊕ (scale1 eps ⊗ wave arc (C1f eps) ⊖ scale2 eps ⊗ wave arc (C2f eps))

-- the l-th coefficient of A1 B1 - A2 B2
abbrev pub joined_term : Float → ℕ → Float
joined_term eps l = scale1 eps ⊗ slice_index_or (C1f eps) l nan ⊖ scale2 eps ⊗ slice_index_or (C2f eps) l nan

unfoldable pub joined : Float → List Float
joined eps = zero ∷ joined_term eps 1 ∷ joined_term eps 2 ∷ joined_term eps 3 ∷ joined_term eps 4 ∷ joined_term eps 5 ∷ joined_term eps 6 ∷ []

-- the same J with the coefficients joined first, where the distance is not wanted
abbrev pub joined_difference : Float → Arc → Float
joined_difference eps arc = m0_of eps ⊗ arc.sig12 ⊕ wave arc (joined eps)

unfoldable pub integrals_with_distance : Float → Arc → ℕ → Integrals
integrals_with_distance eps arc mask =
    cond (wants mask differential)
    (record { s12b = distance_of eps arc; m0 = m0_of eps; J12 = difference_of eps arc })
    (record { s12b = distance_of eps arc; m0 = zero; J12 = zero })

unfoldable pub integrals_without : Float → Arc → ℕ → Integrals
integrals_without eps arc mask =
    cond (wants mask differential)
    (record { s12b = not_a_number; m0 = m0_of eps; J12 = joined_difference eps arc })
    (record { s12b = not_a_number; m0 = zero; J12 = zero })

unfoldable pub integrals : Float → Arc → ℕ → Integrals
integrals eps arc mask = cond (wants mask distance) (integrals_with_distance eps arc mask) (integrals_without eps arc mask)

-- m12, eq. 38
unfoldable pub reduced_of : Float → Arc → Ends → Float
reduced_of J12 arc ends =
    ends.dn2 ⊗ (arc.csig1 ⊗ arc.ssig2) ⊖ ends.dn1 ⊗ (arc.ssig1 ⊗ arc.csig2) ⊖ arc.csig1 ⊗ arc.csig2 ⊗ J12

-- M12 and M21, eq. 39, which both begin with cos σ12 and have t in common
abbrev pub cosine_of : Arc → Float
cosine_of arc = arc.csig1 ⊗ arc.csig2 ⊕ arc.ssig1 ⊗ arc.ssig2

abbrev pub common_of : Ellipsoid → Ends → Float
common_of E ends = E.ep2 ⊗ (ends.cbet1 ⊖ ends.cbet2) ⊗ (ends.cbet1 ⊕ ends.cbet2) ⊘ (ends.dn1 ⊕ ends.dn2)

unfoldable pub scale12 : Ellipsoid → Float → Arc → Ends → Float
scale12 E J12 arc ends = cosine_of arc ⊕ (common_of E ends ⊗ arc.ssig2 ⊖ arc.csig2 ⊗ J12) ⊗ arc.ssig1 ⊘ ends.dn1

unfoldable pub scale21 : Ellipsoid → Float → Arc → Ends → Float
scale21 E J12 arc ends = cosine_of arc ⊖ (common_of E ends ⊗ arc.ssig1 ⊖ arc.csig1 ⊗ J12) ⊗ arc.ssig2 ⊘ ends.dn2

-- each where it is wanted
abbrev pub reduced_if : Integrals → Arc → Ends → ℕ → Float
reduced_if I arc ends mask = cond (wants mask reduced_length) (reduced_of I.J12 arc ends) not_a_number

abbrev pub m0_if : Integrals → ℕ → Float
m0_if I mask = cond (wants mask reduced_length) I.m0 not_a_number

abbrev pub scale12_if : Ellipsoid → Integrals → Arc → Ends → ℕ → Float
scale12_if E I arc ends mask = cond (wants mask geodesic_scale) (scale12 E I.J12 arc ends) not_a_number

abbrev pub scale21_if : Ellipsoid → Integrals → Arc → Ends → ℕ → Float
scale21_if E I arc ends mask = cond (wants mask geodesic_scale) (scale21 E I.J12 arc ends) not_a_number

-- the five figures, from the integrals
abbrev pub figures : Ellipsoid → Integrals → Arc → Ends → ℕ → Lengths
figures E I arc ends mask =
    record {
      s12b = I.s12b;
      m12b = reduced_if I arc ends mask;
      m0 = m0_if I mask;
      M12 = scale12_if E I arc ends mask;
      M21 = scale21_if E I arc ends mask;
    }

unfoldable pub lengths : Ellipsoid → Float → Arc → Ends → ℕ → Lengths
lengths E eps arc ends mask = figures E (integrals eps arc mask) arc ends mask
