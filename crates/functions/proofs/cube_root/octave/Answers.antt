-- The place of the leading digit, in steps of three binary digits.
use Rattle.std.proofs.Common.{◌≡◌, ℕ, suc, ◌/◌, ◌^◌, ◌<◌, ◌≤◌, T, sym, ap, ◌∙◌, subst, rules}
use lib.Ieee.{binary64, fits}
use Rattle.functions.specs.CubeRoot.{place_of, units_of, octave_of}
use Rattle.functions.proofs.Places.{octave_of_pattern, octave_below, octave_reaches, octave_ends}
use Rattle.functions.proofs.cube_root.octave.Goals as goal

pub returns : goal.returns
returns c =
    let x = c.args.x in
    let t : T (fits binary64 x) = search rules in
    let is : c.place.result / 3 ≡ octave_of x =
    ap (λ (k : ℕ). k / 3) (c.place.ensures ∙ ap place_of c.f64_to_bits_with_nan.ensures) ∙ octave_of_pattern x c.requires.finite c.requires.plus in
    record {
      value = is;
      bound = subst (λ (k : ℕ). k < 700) (sym is) (octave_below x t c.requires.finite);
      reaches = λ h. subst (λ (k : ℕ). 8 ^ k ≤ units_of x) (sym is) (octave_reaches x h);
      ends = subst (λ (k : ℕ). units_of x < 8 ^ suc k) (sym is) (octave_ends x);
    }
