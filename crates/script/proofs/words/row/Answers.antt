-- From its first word on, a line says what it says.
use Rattle.std.proofs.Common.{◌≡◌, ℕ, List, sym, ap, ◌∙◌, subst, refl, rules}
use Rattle.std.proofs.lemmas.Str.Ascii.{trim_ascii_start_is}
use Rattle.text.specs.Words.{trimmed, first_word}
use Rattle.script.specs.Lines.{silent}
use Rattle.script.specs.Numbers.{ReadsNumbers}
use Rattle.script.proofs.Trimming.{silent_trimmed, numbers_trimmed}
use Rattle.script.proofs.words.row.Goals as goal

pub returns-then-is_silent : goal.returns-then-is_silent
returns-then-is_silent g c =
    let line : List ℕ = c.args.line.now in
    let trims = trim_ascii_start_is line _ c.trim_ascii_start-words.ensures.value in
    let says : silent (first_word line) ≡ c.is_silent.result = silent_trimmed line ∙ ap silent (sym trims) ∙ sym c.is_silent.ensures in
    record { remark = λ _. refl; row = λ e. cc }

pub returns-in_err-row : goal.returns-in_err-row
returns-in_err-row g c =
    let line : List ℕ = c.args.line.now in
    let trims = trim_ascii_start_is line _ c.trim_ascii_start-words.ensures.value in
    let says : silent (first_word line) ≡ c.is_silent.result = silent_trimmed line ∙ ap silent (sym trims) ∙ sym c.is_silent.ensures in
    let reads = numbers_trimmed g.row.N line c.numbers.result (subst (λ t. ReadsNumbers g.row.N t c.numbers.result) trims c.numbers.ensures) in
    record { remark = λ e. cc; row = λ _. (c.numbers.result, reads, search rules) }

pub returns : goal.returns
returns g c =
    let line : List ℕ = c.args.line.now in
    let trims = trim_ascii_start_is line _ c.trim_ascii_start-words.ensures.value in
    let says : silent (first_word line) ≡ c.is_silent.result = silent_trimmed line ∙ ap silent (sym trims) ∙ sym c.is_silent.ensures in
    let reads = numbers_trimmed g.row.N line c.numbers.result (subst (λ t. ReadsNumbers g.row.N t c.numbers.result) trims c.numbers.ensures) in
    record { remark = λ e. cc; row = λ _. (c.numbers.result, reads, search rules) }
