use Rattle.std.proofs.Common.{refl, ◌∙◌}
use Rattle.packed.specs.Packing.{header_digits}
use Rattle.packed.proofs.Writing.{then_field, last_field, sign_is}
use Rattle.packed.proofs.bits.BitWriter.header.Goals as goal

pub returns : goal.returns
unfolding header_digits
returns c =
    then_field _ _ _ _ _ _ _ refl c.field.ensures.writes
    (then_field _ _ _ _ _ _ _ c.winding_bit.ensures c.field-2.ensures.writes
    (then_field _ _ _ _ _ _ _ (c.into.ensures ∙ sign_is c.args.header.signed) c.field-3.ensures.writes
    (then_field _ _ _ _ _ _ _ c.into-2.ensures c.field-4.ensures.writes
    (last_field _ _ _ _ _ c.into-3.ensures c.field-5.ensures.writes))))
