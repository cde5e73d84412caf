-- When an answer is the one that is due, and the tally of one call. Assumes nothing.
use Rattle.std.specs.Prelude.{◌≡◌, ℕ, Bool, cond, ⊤, List, ◌++◌, codes, decimal, Some, None, Ok, Err, Option, IsTrue, IsSomeAnd}
use Rattle.surface.specs.declared.refusals.Refusal.{Refusal}
use Rattle.polygon.specs.declared.Figures.{Figures}
use Rattle.history.specs.declared.Done.TheVariants.{Edited, Measured}
use Rattle.history.specs.Calls.{Answer}
use Rattle.notebook.specs.Pages.{same_figures}
use Rattle.long_runs.specs.declared.Tally.{Tally}

-- a refusal is the book's, and the figures of a measure are those of a new polygon
abbrev pub Agrees : Answer → Option Refusal → Option Figures → Type 0
Agrees (Err given) (Some due) anew = given ≡ due
Agrees (Err given) None anew = ⊥
Agrees (Ok done) (Some due) anew = ⊥
Agrees (Ok (Edited cost)) None anew = ⊤
Agrees (Ok (Measured m)) None anew = IsSomeAnd anew (λ figures. IsTrue (same_figures m.figures figures))

abbrev pub refused : Answer → ℕ
refused (Ok done) = 0
refused (Err e) = 1

abbrev pub measured : Answer → ℕ
measured (Ok (Edited cost)) = 0
measured (Ok (Measured m)) = 1
measured (Err e) = 0

abbrev pub tally_of : Answer → Bool → Tally
tally_of answer agrees =
    record { calls = 1; refused = refused answer; measures = measured answer; differ = cond agrees 0 1 }

abbrev pub tally_text : Tally → List ℕ
tally_text t =
    decimal t.calls ++ (codes " calls, " ++ (decimal t.refused ++ (codes " refused, " ++ (decimal t.measures ++ (codes " measures, " ++ (decimal t.differ ++ codes " differ"))))))
