-- What the words of the command line switch, and the header that the options make. Assumes nothing.
use Rattle.std.specs.Prelude.{◌≡◌, ℕ, true, cond, not, List, Some, None, codes, Option, Result, MatchResult, ◌≢◌, nat_lt}
use Rattle.area.specs.declared.Winding.TheVariants.{CounterClockwise}
use Rattle.area.specs.Reduction.{reversed}
use Rattle.packed.specs.declared.sheets.Header.{Header}
use Rattle.packed.specs.declared.sheets.SurfaceKind.TheVariants as surfaces
use Rattle.pack.specs.declared.options.Flag.{Flag}
use Rattle.pack.specs.declared.options.Flag.TheVariants.{Plate, Reverse, Unsigned}
use Rattle.pack.specs.declared.options.UnknownFlag.{UnknownFlag}
use Rattle.pack.specs.declared.options.Options.{Options}

abbrev pub word_of : Flag → List ℕ
word_of Plate = codes "-p"
word_of Reverse = codes "-r"
word_of Unsigned = codes "-u"

-- the flag that the word names, or an error where it names none
abbrev pub Named : List ℕ → Result Flag UnknownFlag → Type 0
Named word answer = MatchResult answer (λ f. word_of f ≡ word) (λ _. (f : Flag) → word_of f ≢ word)

-- the WGS84 ellipsoid, counter-clockwise positive, with a sign
abbrev pub usual : Options
usual = record { surface = surfaces.Wgs84; winding = CounterClockwise; signed = true }

abbrev pub switched : Options → Flag → Options
switched o Plate = record { surface = surfaces.Plate; winding = o.winding; signed = o.signed }
switched o Reverse = record { surface = o.surface; winding = reversed o.winding; signed = o.signed }
switched o Unsigned = record { surface = o.surface; winding = o.winding; signed = not o.signed }

-- the header of a sheet with so many edits, unless their number takes more than 16 bits
abbrev pub header_from : Options → ℕ → Option Header
header_from o edits = cond (nat_lt 65535 edits) None (Some (record { winding = o.winding; signed = o.signed; surface = o.surface; edits = edits }))
