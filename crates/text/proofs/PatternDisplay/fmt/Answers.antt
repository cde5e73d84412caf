-- What `{:016x}` writes are the sixteen digits.
use Rattle.std.proofs.Common.{arith}
use Rattle.text.proofs.Digits.{hex_padded}
use Rattle.text.proofs.PatternDisplay.fmt.Goals as goal

pub returns-clause-writes : goal.returns-clause-writes
returns-clause-writes g c =
    let h = rw (c.laid_out.ensures, c.in_radix.ensures) at c.write.ensures.writes in
    rw (hex_padded c.args.self.now.bits (omega arith)) at h
