-- The digits of the pattern are read back as the float.
use Rattle.std.proofs.Common.{ap, ◌∙◌, rules}
use Rattle.text.specs.Patterns.{hex_digits, pattern_of}
use Rattle.text.proofs.Digits.{pattern_back}
use Rattle.text.proofs.PatternFromF64.from.Goals as goal

pub returns : goal.returns
returns c = (c.f64_to_bits_with_nan.ensures, ap (λ n. pattern_of (hex_digits 16 n)) c.f64_to_bits_with_nan.ensures ∙ pattern_back c.args.x (search rules))
