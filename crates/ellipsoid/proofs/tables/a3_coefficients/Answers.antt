-- The table holds the whole numbers that the definition names. Unfolded here, since an attribute names nothing of `lib`.
use lib.Ieee.{of_bits, of_int}
use Rattle.ellipsoid.specs.Tables.{coeff_a3}
use Rattle.ellipsoid.proofs.tables.a3_coefficients.Goals as goal

pub returns : goal.returns
unfolding coeff_a3 of_bits of_int
returns c = c.rows.ensures
