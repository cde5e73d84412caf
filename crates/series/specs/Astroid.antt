-- The astroid problem of nearly antipodal points: the positive root κ of κ⁴ + 2κ³ + (1 - x² - y²)κ² - 2y²κ - y² = 0, Karney (2013), eq. 55,
-- by a root of its resolvent cubic. Assumes nothing.
use Rattle.std.specs.Prelude.{cond, ◌&&◌, Float}
use Rattle.std.specs.Float.{binary64}
use Rattle.std.specs.Float.Ieee.{neg}
use Rattle.std.specs.Float as Floats
use Rattle.functions.specs.Sets.{Funcs}
use Rattle.floats.specs.Arithmetic.{◌⊕◌, ◌⊖◌, ◌⊗◌, ◌⊘◌, ◌≺◌, ◌≼◌, ◌≽◌, ◌≗◌, bits}
use Rattle.geomath.specs.Angles.{zero, one, two, square}

abbrev pub three : Float
three = bits 0x4008000000000000

abbrev pub four : Float
four = bits 0x4010000000000000

abbrev pub six : Float
six = bits 0x4018000000000000

abbrev pub root : Float → Float
root x = Floats.sqrt binary64 x

-- ---- the resolvent cubic u³ - 3ru² - 2S = 0, with r = (x² + y² - 1)/6 and S = x²y²/4: a real root u, chosen so that nothing cancels

abbrev pub cube : Float → Float
cube r = r ⊗ square r

abbrev pub discriminant : Float → Float → Float
discriminant s r = s ⊗ (s ⊕ two ⊗ cube r)

-- the cube of T: of the two square roots the one with the sign of what it is added to
abbrev pub cube_t : Float → Float → Float
cube_t s r = let t = s ⊕ cube r in let d = root (discriminant s r) in t ⊕ cond (t ≺ zero) (neg d) d

-- one real root, u = r + T + r²/T
abbrev pub one_root : Funcs → Float → Float → Float
one_root F s r = let t = F.cbrt_of (cube_t s r) in r ⊕ (t ⊕ cond (t ≗ zero) zero (square r ⊘ t))

-- three real roots, and r is negative: T is complex, and u = r + 2r cos (ang/3) the root of the largest size
abbrev pub three_roots : Funcs → Float → Float → Float
three_roots F s r = r ⊕ two ⊗ r ⊗ F.cos_of (F.atan2_of (root (neg (discriminant s r))) (neg (s ⊕ cube r)) ⊘ three)

unfoldable pub resolvent : Funcs → Float → Float → Float
resolvent F s r = cond (discriminant s r ≽ zero) (one_root F s r) (three_roots F s r)

-- ---- the quartic's positive root from u, with q = y²

abbrev pub root_v : Float → Float → Float
root_v u q = root (square u ⊕ q)

-- u + v, written so that nothing cancels where u is negative
abbrev pub sum_uv : Float → Float → Float
sum_uv u q = cond (u ≺ zero) (q ⊘ (root_v u q ⊖ u)) (u ⊕ root_v u q)

abbrev pub half_w : Float → Float → Float
half_w u q = (sum_uv u q ⊖ q) ⊘ (two ⊗ root_v u q)

unfoldable pub positive_root : Float → Float → Float
positive_root u q = sum_uv u q ⊘ (root (sum_uv u q ⊕ square (half_w u q)) ⊕ half_w u q)

-- r = (p + q - 1)/6 and S = pq/4
abbrev pub sixth : Float → Float → Float
sixth p q = (p ⊕ q ⊖ one) ⊘ six

abbrev pub quarter : Float → Float → Float
quarter p q = p ⊗ q ⊘ four

-- on y = 0 with |x| ≤ 1 there is no positive root: 0
unfoldable pub astroid : Funcs → Float → Float → Float
astroid F x y =
    let p = square x in let q = square y in
    cond ((q ≗ zero) && (sixth p q ≼ zero)) zero (positive_root (resolvent F (quarter p q) (sixth p q)) q)
