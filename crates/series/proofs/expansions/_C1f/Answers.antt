-- The table holds the whole numbers that the definition names.
use lib.Ieee.{of_bits, of_int}
use Rattle.series.specs.Expansions.{C1f, table_c1}
use Rattle.series.proofs.expansions._C1f.Goals as goal

pub returns : goal.returns
unfolding C1f table_c1 of_bits of_int
returns c = c.fourier_coefficients.ensures
