-- The table holds the whole numbers that the definition names. Unfolded here, since an attribute names nothing of `lib`.
use lib.Ieee.{of_bits, of_int}
use Rattle.ellipsoid.specs.Tables.{coeff_c3}
use Rattle.ellipsoid.proofs.tables.c3_coefficients.Goals as goal

pub returns : goal.returns
unfolding coeff_c3 of_bits of_int
returns c = c.rows.ensures
