-- The lists by name, and what each of them is about: an ellipsoid by its flattening and a mask, or polygons with a winding and a sign. Assumes nothing.
use Rattle.std.specs.Prelude.{ℕ, Bool, true, false, List as Texts, codes, Float}
use Rattle.std.specs.Float.Ieee.{neg}
use Rattle.area.specs.declared.Winding.{Winding}
use Rattle.area.specs.declared.Winding.TheVariants.{Clockwise, CounterClockwise}
use Rattle.floats.specs.Arithmetic.{bits}
use Rattle.ellipsoid.specs.Capabilities.{distance, polygon_area}
use Rattle.ellipsoid.specs.Ellipsoids.{wgs84_f}
use Rattle.vectors_inverse.specs.declared.lists.List.{List}
use Rattle.vectors_inverse.specs.declared.lists.List.TheVariants.{Wgs84, Sphere, Oblate, Prolate, Moderate, Nothing, Distance, Outline, Signed, Unsigned, SignedClockwise, UnsignedClockwise, Geodsolve}
use Rattle.vectors_inverse.specs.declared.lists.Subject.{Subject}
use Rattle.vectors_inverse.specs.declared.lists.Subject.TheVariants.{Pairs, Outlines, Rounded}

abbrev pub name_of : List → Texts ℕ
name_of Wgs84 = codes "wgs84"
name_of Sphere = codes "sphere"
name_of Oblate = codes "oblate"
name_of Prolate = codes "prolate"
name_of Moderate = codes "moderate"
name_of Nothing = codes "nothing"
name_of Distance = codes "distance"
name_of Outline = codes "outline"
name_of Signed = codes "signed"
name_of Unsigned = codes "unsigned"
name_of SignedClockwise = codes "signed_clockwise"
name_of UnsignedClockwise = codes "unsigned_clockwise"
name_of Geodsolve = codes "geodsolve"

-- every figure but longitudes that are not reduced
abbrev pub everything : ℕ
everything = 0x7f9f

-- 0.02 and -0.02, the flattest ellipsoids that are accepted, and 1/150
abbrev pub fiftieth : Float
fiftieth = bits 0x3f947ae147ae147b

abbrev pub minus_fiftieth : Float
minus_fiftieth = neg fiftieth

abbrev pub moderate : Float
moderate = bits 0x3f7b4e81b4e81b4f

abbrev pub outlines : Winding → Bool → Subject
outlines winding sign = Outlines (record { winding = winding; sign = sign })

abbrev pub subject_of : List → Subject
subject_of Wgs84 = Pairs wgs84_f everything
subject_of Sphere = Pairs (bits 0) everything
subject_of Oblate = Pairs fiftieth everything
subject_of Prolate = Pairs minus_fiftieth everything
subject_of Moderate = Pairs moderate everything
subject_of Nothing = Pairs wgs84_f 0
subject_of Distance = Pairs wgs84_f distance
subject_of Outline = Pairs wgs84_f polygon_area
subject_of Signed = outlines CounterClockwise true
subject_of Unsigned = outlines CounterClockwise false
subject_of SignedClockwise = outlines Clockwise true
subject_of UnsignedClockwise = outlines Clockwise false
subject_of Geodsolve = Rounded
