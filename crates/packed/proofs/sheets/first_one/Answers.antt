use Rattle.std.proofs.Common.{◌≡◌, arith, rules, tests}
use Rattle.std.proofs.lemmas.Iterator.{first_from_Range}
use Rattle.packed.specs.Bits.{bit}
use Rattle.packed.proofs.Fields.{found}
use Rattle.packed.proofs.sheets.first_one.Goals as goal

pub returns : goal.returns
returns c =
    let bytes = c.args.bytes.now in
    found bytes c.args.at c.args.count _
    (first_from_Range _ _ _ _ (λ k. bit bytes k ≡ 1) (λ k. bit bytes k ≡ 1 → ⊥) c.find.ensures.ran
    (λ k q h. grind (arith, tests))
    (λ k q h. (search rules, grind (arith, tests))))
