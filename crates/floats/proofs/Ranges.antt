-- What a range of floats contains: it tests its ends by `partial_cmp`, which says of two floats what `<=` says.
use Rattle.std.proofs.Common.{◌≡◌, Bool, true, false, cond, ◌||◌, Some, None, refl}
use Rattle.std.specs.declared.cmp.Ordering.TheVariants.{Less, Equal, Greater}
use Rattle.std.specs.Ordering.{partial_le, float_partial_cmp}
use lib.Ieee.{Float, lt, eq, le}

pub at_most : (x y : Float) → partial_le float_partial_cmp x y ≡ le x y
unfolding le
at_most x y = go (lt x y) (eq x y) (lt y x)
  where
    go : (a b c : Bool) → partial_le (λ (x y : Bool). cond a (Some Less) (cond b (Some Equal) (cond c (Some Greater) None))) a a ≡ (a || b)
    go true b c = refl
    go false true c = refl
    go false false true = refl
    go false false false = refl
