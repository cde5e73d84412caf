-- A two-vector divided by its length. Assumes nothing.
use Rattle.std.specs.Prelude.{Float}
use Rattle.functions.specs.Sets.{Funcs}
use Rattle.floats.specs.Arithmetic.{◌⊘◌}

unfoldable pub norm_x : Funcs → Float → Float → Float
norm_x F x y = x ⊘ F.hypot_of x y

unfoldable pub norm_y : Funcs → Float → Float → Float
norm_y F x y = y ⊘ F.hypot_of x y
