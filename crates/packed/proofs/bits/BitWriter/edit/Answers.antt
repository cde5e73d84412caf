use Rattle.packed.specs.Packing.{edit_digits}
use Rattle.packed.proofs.Writing.{then_field, last_field}
use Rattle.packed.proofs.bits.BitWriter.edit.Goals as goal

pub returns-in-Add : goal.returns-in-Add
unfolding edit_digits
returns-in-Add c = rw c.in-Add.is (then_field _ _ _ _ _ _ _ c.into.ensures c.field.ensures.writes c.point.ensures)

pub returns-in-Move : goal.returns-in-Move
unfolding edit_digits
returns-in-Move c =
    rw c.in-Move.is
    (then_field _ _ _ _ _ _ _ c.into-in-Move.ensures c.field-in-Move.ensures.writes
    (then_field _ _ _ _ _ _ _ c.into-in-Move-2.ensures c.field-in-Move-2.ensures.writes c.point-in-Move.ensures))

pub returns-in-Drop : goal.returns-in-Drop
unfolding edit_digits
returns-in-Drop c =
    rw c.in-Drop.is
    (then_field _ _ _ _ _ _ _ c.into-in-Drop.ensures c.field-in-Drop.ensures.writes
    (last_field _ _ _ _ _ c.into-in-Drop-2.ensures c.field-in-Drop-2.ensures.writes))

pub returns-in-TakeBack : goal.returns-in-TakeBack
unfolding edit_digits
returns-in-TakeBack c = rw c.in-TakeBack.is (last_field _ _ _ _ _ c.into-in-TakeBack.ensures c.field-in-TakeBack.ensures.writes)
