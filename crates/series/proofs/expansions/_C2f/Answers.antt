-- The table holds the whole numbers that the definition names.
use lib.Ieee.{of_bits, of_int}
use Rattle.series.specs.Expansions.{C2f, table_c2}
use Rattle.series.proofs.expansions._C2f.Goals as goal

pub returns : goal.returns
unfolding C2f table_c2 of_bits of_int
returns c = c.fourier_coefficients.ensures
