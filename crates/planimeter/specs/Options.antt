-- What the words of the command line switch. Assumes nothing.
use Rattle.std.specs.Prelude.{◌≡◌, ℕ, true, not, List, codes, Result, MatchResult, ◌≢◌}
use Rattle.area.specs.declared.Winding.TheVariants.{CounterClockwise}
use Rattle.area.specs.Reduction.{reversed}
use Rattle.ellipsoid.specs.Ellipsoids.{wgs84_a, wgs84_f}
use Rattle.planimeter.specs.declared.options.Flag.{Flag}
use Rattle.planimeter.specs.declared.options.Flag.TheVariants.{Reverse, Sign, Scale, Shape}
use Rattle.planimeter.specs.declared.options.Ground.{Ground}
use Rattle.planimeter.specs.declared.options.Ground.TheVariants.{Ellipsoid}
use Rattle.planimeter.specs.declared.options.NotAFlag.{NotAFlag}
use Rattle.planimeter.specs.declared.options.Options.{Options}

abbrev pub word_of : Flag → List ℕ
word_of Reverse = codes "-r"
word_of Sign = codes "-s"
word_of Scale = codes "-k"
word_of Shape = codes "-e"

-- the flag that the word names; no other word is the word of a flag
abbrev pub ReadsFlag : List ℕ → Result Flag NotAFlag → Type 0
ReadsFlag word answer = MatchResult answer (λ f. word_of f ≡ word) (λ _. (f : Flag) → word_of f ≢ word)

-- the WGS84 ellipsoid, counter-clockwise positive, with a sign
abbrev pub usual : Options
usual = record { surface = Ellipsoid wgs84_a wgs84_f; winding = CounterClockwise; signed = true }

abbrev pub switched : Options → Flag → Options
switched o Reverse = record { surface = o.surface; winding = reversed o.winding; signed = o.signed }
switched o Sign = record { surface = o.surface; winding = o.winding; signed = not o.signed }
switched o Scale = o
switched o Shape = o

abbrev pub drawn_on : Options → Ground → Options
drawn_on o surface = record { surface = surface; winding = o.winding; signed = o.signed }
