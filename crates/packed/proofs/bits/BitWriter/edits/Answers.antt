use Rattle.std.proofs.Common.{length, sym, ap, ◌∙◌, add-one, arith, drop_of_length-le}
use Rattle.packed.specs.Packing.{with_digits, edits_digits}
use Rattle.packed.proofs.Writing.{edits_none, edit_inside, edit_written, with_none}
use Rattle.packed.proofs.bits.BitWriter.edits.Goals as goal

pub edit-requires : goal.edit-requires
edit-requires c =
    edit_inside c.args.edits.now c.loop-edit.edit-index _ c.loop-edit.self.at c.args.self.now.at _ c.loop-edit-test.true c.loop-edit.invariant.1
    (omega (arith, c.requires, c.loop-edit.invariant.2))

pub loop-edit-preserved : goal.loop-edit-preserved
loop-edit-preserved c =
    let more = edit_written c.args.edits.now c.loop-edit.edit-index _ c.loop-edit.self c.edit.new.self c.loop-edit-test.true c.edit.ensures in
    rw add-one (more.0 ∙ c.loop-edit.invariant.0, more.1 ∙ c.loop-edit.invariant.1, c.edit.ensures.room ∙ c.loop-edit.invariant.2)

pub returns : goal.returns
returns c =
    let bytes = c.loop-edit.self.bytes.items in
    let at = c.loop-edit.self.at in
    let none = ap edits_digits (drop_of_length-le c.args.edits.now {i = c.loop-edit.edit-index} (omega arith)) ∙ edits_none in
    record {
      bytes = sym (ap (with_digits bytes at) none ∙ with_none bytes at) ∙ c.loop-edit.invariant.0;
      next = omega (arith, ap length none, c.loop-edit.invariant.1);
      room = c.loop-edit.invariant.2;
    }
