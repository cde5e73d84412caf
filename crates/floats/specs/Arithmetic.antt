-- The operations of binary64 as definitions write them. Each is the language's own operation of that name, rounded to nearest, ties to even. Assumes nothing.
use Rattle.std.specs.Prelude.{ℕ, Bool, from_bits, Float}
use Rattle.std.specs.Float.{binary64}
use Rattle.std.specs.Float.Ieee.{add, sub, mul, div, rem, lt, le, eq}

infixl 6 ◌⊕◌ ◌⊖◌
infixl 7 ◌⊗◌ ◌⊘◌ ◌⊛◌
infix 5 ◌≺◌ ◌≼◌ ◌≻◌ ◌≽◌ ◌≗◌
abbrev pub ◌⊕◌ : Float → Float → Float
x ⊕ y = add binary64 x y

abbrev pub ◌⊖◌ : Float → Float → Float
x ⊖ y = sub binary64 x y

abbrev pub ◌⊗◌ : Float → Float → Float
x ⊗ y = mul binary64 x y

abbrev pub ◌⊘◌ : Float → Float → Float
x ⊘ y = div binary64 x y

-- `%`: exact, with the sign of x
abbrev pub ◌⊛◌ : Float → Float → Float
x ⊛ y = rem binary64 x y

-- the comparisons `<`, `<=`, `>`, `>=` and `==`: false beside a NaN, and -0 equals +0
abbrev pub ◌≺◌ : Float → Float → Bool
x ≺ y = lt x y

abbrev pub ◌≼◌ : Float → Float → Bool
x ≼ y = le x y

abbrev pub ◌≻◌ : Float → Float → Bool
x ≻ y = lt y x

abbrev pub ◌≽◌ : Float → Float → Bool
x ≽ y = le y x

abbrev pub ◌≗◌ : Float → Float → Bool
x ≗ y = eq x y

-- the float of a bit pattern
abbrev pub bits : ℕ → Float
bits n = from_bits binary64 n
