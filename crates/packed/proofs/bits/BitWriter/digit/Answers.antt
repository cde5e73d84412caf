use Rattle.std.proofs.Common.{◌≡◌, ◌-◌, ◌*◌, ◌/◌, ◌%◌, ◌^◌, ap, ◌∙◌, get_or, set, refl, arith}
use lib.Bits.{bit_or}
use Rattle.std.proofs.lemmas.List.{get_or_read}
use Rattle.packed.specs.Packing.{with_bit, with_digits}
use Rattle.packed.proofs.Writing.{digit_shifted}
use Rattle.packed.proofs.bits.BitWriter.digit.Goals as goal

pub returns : goal.returns
unfolding with_bit with_digits
returns c =
    let items = c.args.self.now.bytes.items in
    let at = c.args.self.now.at in
    let here : c.index_mut.result.now ≡ get_or items (at / 8) 0 = grind (arith, get_or_read) in
    let wrote =
    ap (λ x. set items (at / 8) (bit_or x (c.args.digit * 2 ^ (7 - at % 8) % 256))) here
    ∙ ap (λ d. set items (at / 8) (bit_or (get_or items (at / 8) 0) d)) (digit_shifted c.args.digit (7 - at % 8) c.requires.binary (omega arith)) in
    record { bytes = wrote; next = refl; room = refl }
