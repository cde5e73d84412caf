-- Newton's method for the azimuth α1 at which λ12 is the wanted one, kept within a bracket and replaced by bisection where it fails; Karney (2013), section 4. Assumes nothing.
-- λ12 grows with α1 through its root, which is single, so a positive error bounds α1 from one side and a negative one from the other.
use Rattle.std.specs.Prelude.{ℕ, zero, suc, ◌+◌, Bool, false, cond, ◌&&◌, ◌||◌, is_nan, nat_lt, Float}
use Rattle.std.specs.Float.Ieee.{neg}
use Rattle.std.specs.Float.{float_with_sign}
use Rattle.functions.specs.Sets.{Funcs}
use Rattle.floats.specs.Arithmetic.{◌⊕◌, ◌⊖◌, ◌⊗◌, ◌⊘◌, ◌≺◌, ◌≼◌, ◌≻◌}
use Rattle.geomath.specs.Angles as Angles
use Rattle.geomath.specs.Angles.{one, two, sixteen}
use Rattle.series.specs.Degrees.{π}
use Rattle.ellipsoid.specs.Arcs.{unit, turned}
use Rattle.ellipsoid.specs.Constants.{eight, tiny, tol0, tolb}
use Rattle.azimuth.specs.Lambda.{lambda12}
use Rattle.ellipsoid.specs.declared.arcs.Azimuth.{Azimuth}
use Rattle.ellipsoid.specs.declared.shape.Ellipsoid.{Ellipsoid}
use Rattle.azimuth.specs.declared.lambda.Lambda.{Lambda}
use Rattle.ellipsoid.specs.declared.latitudes.Ends.{Ends}
use Rattle.ellipsoid.specs.declared.latitudes.Difference.{Difference}
use Rattle.azimuth.specs.declared.newton.Bracket.{Bracket}
use Rattle.azimuth.specs.declared.newton.Search.{Search}
use Rattle.azimuth.specs.declared.newton.Found.{Found}
use Rattle.std.specs.declared.ops.ControlFlow.{ControlFlow}
use Rattle.std.specs.declared.ops.ControlFlow.TheVariants.{Continue, Break}

-- Newton's steps are tried so many times, and evaluations are made at most so many times
abbrev pub maxit1 : ℕ
maxit1 = 20

abbrev pub maxit2 : ℕ
maxit2 = 83

-- ---- one turn

-- the error v is as small as it gets; after a small Newton step, which does not converge quadratically any more, eight times that does
unfoldable pub converged : Search → Float → Bool
converged s v =
    s.tripb || (float_with_sign false v ≺ cond s.tripn eight one ⊗ tol0) || is_nan (float_with_sign false v)

abbrev pub cotangent : Azimuth → Float
cotangent z = z.calp ⊘ z.salp

-- the present azimuth bounds the root from one side, by the error's sign, where it is narrower than before or Newton's method was given up
unfoldable pub narrowed : ℕ → Float → Azimuth → Bracket → Bracket
narrowed i v z k =
    cond ((v ≻ Angles.zero) && (nat_lt maxit1 i || (cotangent z ≻ cotangent k.alp1b)))
    (record { alp1a = k.alp1a; alp1b = z })
    (cond ((v ≺ Angles.zero) && (nat_lt maxit1 i || (cotangent z ≺ cotangent k.alp1a)))
    (record { alp1a = z; alp1b = k.alp1b })
    k)

-- Newton's step -v/v'
abbrev pub newton_step : Lambda → Float
newton_step L = neg L.lam12 ⊘ L.dlam12

-- Newton's step is taken where the derivative is positive and the step leads to an azimuth to the east
unfoldable pub steps : Funcs → ℕ → Azimuth → Lambda → Bool
steps F i z L =
    nat_lt i maxit1 && (L.dlam12 ≻ Angles.zero) && ((turned F z (newton_step L)).salp ≻ Angles.zero) && (float_with_sign false (newton_step L) ≺ π)

unfoldable pub stepped : Funcs → Search → Bracket → Lambda → Search
stepped F s k L =
    record {
      alp1 = unit F (turned F s.alp1 (newton_step L));
      bracket = k;
      tripn = float_with_sign false L.lam12 ≼ sixteen ⊗ tol0;
      tripb = s.tripb;
      last = L;
    }

-- the middle of the bracket
unfoldable pub middle : Funcs → Bracket → Azimuth
middle F k =
    unit F (record { salp = (k.alp1a.salp ⊕ k.alp1b.salp) ⊘ two; calp = (k.alp1a.calp ⊕ k.alp1b.calp) ⊘ two })

-- the middle is not told from a side any more
unfoldable pub closed : Bracket → Azimuth → Bool
closed k z =
    (float_with_sign false (k.alp1a.salp ⊖ z.salp) ⊕ (k.alp1a.calp ⊖ z.calp) ≺ tolb)
    || (float_with_sign false (z.salp ⊖ k.alp1b.salp) ⊕ (z.calp ⊖ k.alp1b.calp) ≺ tolb)

unfoldable pub bisected : Funcs → Bracket → Lambda → Search
bisected F k L = record { alp1 = middle F k; bracket = k; tripn = false; tripb = closed k (middle F k); last = L }

unfoldable pub next : Funcs → ℕ → Search → Lambda → Bracket → Search
next F i s L k = cond (steps F i s.alp1 L) (stepped F s k L) (bisected F k L)

-- what is done with the i-th evaluation: the search breaks off with what is found there, or continues with another guess
unfoldable pub judged : Funcs → ℕ → Search → Lambda → ControlFlow Found Search
judged F i s L =
    cond (converged s L.lam12)
    (Break (record { alp1 = s.alp1; last = L; evaluations = i + 1 }))
    (Continue (next F i s L (narrowed i L.lam12 s.alp1 s.bracket)))

unfoldable pub one_turn : Funcs → Ellipsoid → Ends → Difference → ℕ → Search → ControlFlow Found Search
one_turn F E e d i s = judged F i s (lambda12 F E e d s.alp1 (nat_lt i maxit1))

-- ---- all turns: each makes one evaluation; when they run out, the azimuth of the next guess goes with the last evaluation

abbrev pub found : Search → ℕ → Found
found s n = record { alp1 = s.alp1; last = s.last; evaluations = n }

-- after a turn: what is found, or what the other turns make of the next guess
unfoldable pub after : ControlFlow Found Search → (Search → Found) → Found
after (Break r) others = r
after (Continue t) others = others t

unfoldable pub turns : Funcs → Ellipsoid → Ends → Difference → ℕ → ℕ → Search → Found
turns F E e d zero i s = found s i
turns F E e d (suc fuel) i s = after (one_turn F E e d i s) (turns F E e d fuel (i + 1))

-- before the first evaluation: the azimuth of the start, and a bracket from due north to due south
abbrev pub north : Azimuth
north = record { salp = tiny; calp = one }

abbrev pub south : Azimuth
south = record { salp = tiny; calp = neg one }

abbrev pub no_arc : Azimuth
no_arc = record { salp = Angles.zero; calp = Angles.zero }

unfoldable pub begun : Azimuth → Search
begun z =
    record {
      alp1 = z;
      bracket = record { alp1a = north; alp1b = south };
      tripn = false;
      tripb = false;
      last = record {
        lam12 = Angles.zero;
        alp2 = no_arc;
        arc = record { sig12 = Angles.zero; ssig1 = Angles.zero; csig1 = Angles.zero; ssig2 = Angles.zero; csig2 = Angles.zero };
        eps = Angles.zero;
        domg12 = Angles.zero;
        dlam12 = Angles.zero;
      };
    }

unfoldable pub solved_azimuth : Funcs → Ellipsoid → Ends → Difference → Azimuth → Found
solved_azimuth F E e d z = turns F E e d maxit2 0 (begun z)
