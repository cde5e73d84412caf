-- The number behind a row is the next one in what is left after the row's first m.
use Rattle.std.proofs.Common.{rules}
use Rattle.std.proofs.lemmas.List.{get_or-drop}
use lib.Ieee.{of_bits}
use Rattle.series.proofs.tables.divisor.Goals as goal

pub returns : goal.returns
unfolding of_bits
returns c = search (rules, get_or-drop)
