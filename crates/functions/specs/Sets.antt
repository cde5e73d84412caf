-- What a function set means: seven functions of the argument values, +0 and -0 told apart. Assumes nothing.
use Rattle.std.specs.Prelude.{Float}

pub record Funcs : Type 0 where
  pub sin_of : Float → Float
  pub cos_of : Float → Float
  pub atan2_of : Float → Float → Float
  pub atan_of : Float → Float
  pub atanh_of : Float → Float
  pub hypot_of : Float → Float → Float
  pub cbrt_of : Float → Float
