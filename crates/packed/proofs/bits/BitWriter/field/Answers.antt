use Rattle.std.proofs.Common.{◌≡◌, ℕ, suc, ◌+◌, ◌-◌, ◌/◌, ◌%◌, ◌^◌, [], ◌∷◌, sym, ap, ◌∙◌, arith}
use Rattle.packed.specs.Packing.{with_digits, digits_of}
use Rattle.packed.proofs.Writing.{digits_none, digits_more, length_digits, with_none, with_append}
use Rattle.packed.proofs.bits.BitWriter.field.Goals as goal

pub loop-i-preserved : goal.loop-i-preserved
loop-i-preserved c =
    let number = c.args.number in
    let i : ℕ = c.loop-i.i - 1 in
    let back : suc i ≡ c.loop-i.i = omega arith in
    let bytes = c.loop-i.self.bytes.items in
    let k = c.loop-i.self.at in
    let wrote = c.digit.ensures in (
      ap (λ j. with_digits c.digit.new.self.bytes.items j (digits_of i number)) wrote.next
          ∙ ap (λ b. with_digits b (k + 1) (digits_of i number)) wrote.bytes
          ∙ sym (with_append bytes k ((number / 2 ^ i % 2) ∷ []) (digits_of i number))
          ∙ ap (with_digits bytes k) (sym (digits_more i number) ∙ ap (λ w. digits_of w number) back)
          ∙ c.loop-i.invariant.0,
      omega (arith, wrote.next, c.loop-i.invariant.1),
      wrote.room ∙ c.loop-i.invariant.2,
    )

pub returns-clause-writes : goal.returns-clause-writes
returns-clause-writes c =
    let bytes = c.loop-i.self.bytes.items in
    let k = c.loop-i.self.at in
    let none : c.loop-i.i ≡ 0 = omega arith in
    record {
      bytes =
          sym (ap (λ w. with_digits bytes k (digits_of w c.args.number)) none ∙ ap (with_digits bytes k) (digits_none c.args.number) ∙ with_none bytes k)
          ∙ c.loop-i.invariant.0;
      next = omega (arith, length_digits c.args.width c.args.number);
      room = c.loop-i.invariant.2;
    }
