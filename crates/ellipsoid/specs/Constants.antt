-- Constants of the inverse problem: small numbers and tolerances. Assumes nothing.
use Rattle.std.specs.Prelude.{Float}
use Rattle.std.specs.Float.{binary64}
use Rattle.std.specs.Float as Floats
use Rattle.floats.specs.Arithmetic.{bits}

abbrev pub three : Float
three = bits 0x4008000000000000

abbrev pub four : Float
four = bits 0x4010000000000000

abbrev pub six : Float
six = bits 0x4018000000000000

abbrev pub eight : Float
eight = bits 0x4020000000000000

abbrev pub half : Float
half = bits 0x3fe0000000000000

-- 0.1, 0.01 and 0.001
abbrev pub tenth : Float
tenth = bits 0x3fb999999999999a

abbrev pub hundredth : Float
hundredth = bits 0x3f847ae147ae147b

abbrev pub thousandth : Float
thousandth = bits 0x3f50624dd2f1a9fc

-- 2 ^ -511, the root of the least normal number: it stands for a cosine that would vanish at a pole
abbrev pub tiny : Float
tiny = bits 0x2000000000000000

-- 2 ^ -52, one unit in the last place of 1
abbrev pub tol0 : Float
tol0 = bits 0x3cb0000000000000

-- 200 times tol0
abbrev pub tol1 : Float
tol1 = bits 0x3d29000000000000

-- 2 ^ -26, the root of tol0
abbrev pub tol2 : Float
tol2 = bits 0x3e50000000000000

-- 2 ^ -78, the product of tol0 and tol2: how narrow a bracket becomes before it is given up
abbrev pub tolb : Float
tolb = bits 0x3b10000000000000

-- 1000 times tol2
abbrev pub xthresh : Float
xthresh = bits 0x3eef400000000000

-- the root of 1/2
abbrev pub root_half : Float
root_half = bits 0x3fe6a09e667f3bcd

-- 7/4
abbrev pub seven_quarters : Float
seven_quarters = bits 0x3ffc000000000000

abbrev pub root : Float → Float
root x = Floats.sqrt binary64 x
