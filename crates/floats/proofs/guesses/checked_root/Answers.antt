use Rattle.std.proofs.Common.{◌≡◌, ℕ, ◌*◌, ◌^◌, true, sym, ◌∙◌, subst}
use Rattle.floats.specs.GuessedRoots.{is_rounded_root}
use Rattle.floats.proofs.AcceptedRoots.{tested, accepted_passes, accepted_is_root}
use Rattle.floats.proofs.guesses.checked_root.Goals as goal

pub returns : goal.returns
returns c =
    let pattern = c.args.pattern in
    let root = c.in_ok-root.root in
    let passes = accepted_passes (c.even_digits.result * 2 ^ 52) c.guessed_digits.result root (sym c.accepted_root.ensures ∙ c.in_ok-root.was) in
    c.f64_from_bits_with_nan.ensures
    ∙ accepted_is_root pattern root c.requires (tested pattern root (subst (λ (d : ℕ). is_rounded_root (d * 2 ^ 52) root ≡ true) c.even_digits.ensures passes))
