-- What the words of the command line switch. Assumes nothing.
use Rattle.std.specs.Prelude.{◌≡◌, ℕ, min, true, false, List, codes, Result, MatchResult, ◌≢◌}
use Rattle.geodsolve.specs.declared.options.Flag.{Flag}
use Rattle.geodsolve.specs.declared.options.Flag.TheVariants.{Full, Precision}
use Rattle.geodsolve.specs.declared.options.NotAFlag.{NotAFlag}
use Rattle.geodsolve.specs.declared.options.Options.{Options}

abbrev pub word_of : Flag → List ℕ
word_of Full = codes "-f"
word_of Precision = codes "-p"

-- the flag that the word names; no other word is the word of a flag
abbrev pub ReadsFlag : List ℕ → Result Flag NotAFlag → Type 0
ReadsFlag word answer = MatchResult answer (λ f. word_of f ≡ word) (λ _. (f : Flag) → word_of f ≢ word)

-- bearings and distance, three decimals
abbrev pub usual : Options
usual = record { full = false; digits = 3 }

abbrev pub full : Options → Options
full o = record { full = true; digits = o.digits }

-- this many decimals, ten at most
abbrev pub precise : Options → ℕ → Options
precise o digits = record { full = o.full; digits = min digits 10 }
