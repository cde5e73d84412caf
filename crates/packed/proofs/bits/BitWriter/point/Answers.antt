use Rattle.packed.proofs.Writing.{then_field, last_field}
use Rattle.packed.proofs.bits.BitWriter.point.Goals as goal

pub returns : goal.returns
returns c =
    then_field _ _ _ _ _ _ _ c.f64_to_bits_with_nan.ensures c.field.ensures.writes
    (last_field _ _ _ _ _ c.f64_to_bits_with_nan-2.ensures c.field-2.ensures.writes)
