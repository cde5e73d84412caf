-- `==` on text compares byte by byte.
use Rattle.std.proofs.Common.{arith, codes}
use Rattle.std.proofs.lemmas.Slice.Eq.{bytes_eq-Decides}
use Rattle.std.proofs.lemmas.Grind.{common_steps}
use Rattle.script.proofs.read_measure.Goals as goal

pub returns-in_default : goal.returns-in_default
returns-in_default c = grind (arith, common_steps, bytes_eq-Decides c.split_word.result.0.now (codes "unsigned"))
