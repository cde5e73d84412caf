use Rattle.std.proofs.Common.{◌≡◌, ℕ, suc, ◌+◌, ◌-◌, ◌*◌, ◌^◌, ◌<◌, ◌≤◌, List, sym, ap, ◌∙◌, subst, arith, pow_mono}
use Rattle.packed.specs.Bits.{bit, field}
use Rattle.packed.proofs.Fields.{bit_below, field_more, one_more_below}
use Rattle.packed.proofs.bits.number_at.Goals as goal

-- the number after the bit k as well
more : (bytes : List ℕ) (at k n b : ℕ) → at ≤ k → n ≡ field bytes at (k - at) → n < 2 ^ (k - at) → b ≡ bit bytes k → (2 * n + b ≡ field bytes at (k + 1 - at)) × (2 * n + b < 2 ^ (k + 1 - at))
more bytes at k n b past e below is =
    let next : k + 1 - at ≡ suc (k - at) = omega arith in
    let here : at + (k - at) ≡ k = omega arith in (
      ap (λ x. 2 * x + b) e ∙ ap (λ x. 2 * field bytes at (k - at) + x) (is ∙ ap (bit bytes) (sym here)) ∙ sym (field_more bytes at (k - at)) ∙ ap (field bytes at) (sym next),
      subst (λ w. 2 * n + b < 2 ^ w) (sym next) (one_more_below n b (k - at) below (subst (λ x. x < 2) (sym is) (bit_below bytes k))),
    )

fits_number : (i n : ℕ) → i ≤ 64 → n < 2 ^ i → n < 2 ^ 64
fits_number i n h k = omega (arith, pow_mono {i = i} {j = 64} h)

pub overflow_add-number : goal.overflow_add-number
overflow_add-number c =
    let h = more c.args.bytes.now c.args.at c.loop-k.k c.loop-k.number c.from.result c.loop-k.invariant.2 c.loop-k.invariant.0 c.loop-k.invariant.1 (c.from.ensures ∙ c.bit_at.ensures) in
    omega (arith, fits_number (c.loop-k.k + 1 - c.args.at) (2 * c.loop-k.number + c.from.result) (omega (arith, c.requires.small)) h.1)

pub loop-k-preserved : goal.loop-k-preserved
loop-k-preserved c =
    let h = more c.args.bytes.now c.args.at c.loop-k.k c.loop-k.number c.from.result c.loop-k.invariant.2 c.loop-k.invariant.0 c.loop-k.invariant.1 (c.from.ensures ∙ c.bit_at.ensures) in
    (h.0, h.1, omega (arith, c.loop-k.invariant.2))
