-- A turn writes the last digit of what is left; read back, the digits are the float.
use Rattle.std.proofs.Common.{◌≡◌, ℕ, suc, ◌-◌, ◌/◌, ◌<◌, ◌++◌, length, drop, set, sym, refl, ap, ◌∙◌, append-nil, arith, length-set, rules}
use Rattle.text.specs.Patterns.{hex_digits, pattern_digits, pattern_of}
use Rattle.text.proofs.Digits.{hex_digits-none, hex_digits_more, pattern_back}
use Rattle.text.proofs.pattern_digits.Goals as goal

pub loop-i-init : goal.loop-i-init
loop-i-init c = (append-nil (hex_digits 16 _) ∙ ap (hex_digits 16) c.from-rest.ensures.0, refl)

pub loop-i-preserved : goal.loop-i-preserved
loop-i-preserved c =
    let i : ℕ = c.loop-i.i - 1 in
    let back : suc i ≡ c.loop-i.i = omega arith in
    let within : i < length c.loop-i.digits = omega (arith, c.loop-i.invariant.1) in (
      ap (λ d. hex_digits i (c.loop-i.rest / 16) ++ drop i (set c.loop-i.digits i d)) c.digit_char.ensures
          ∙ hex_digits_more i c.loop-i.rest c.loop-i.digits within
          ∙ ap (λ k. hex_digits k c.loop-i.rest ++ drop k c.loop-i.digits) back
          ∙ c.loop-i.invariant.0,
      simp length-set c.loop-i.invariant.1,
    )

written : (c : goal.After-loop-i) → c.loop-i.digits ≡ pattern_digits c.args.x
written c =
    let none : c.loop-i.i ≡ 0 = omega arith in
    sym (ap (λ k. hex_digits k c.loop-i.rest ++ drop k c.loop-i.digits) none ∙ ap (λ l. l ++ c.loop-i.digits) (hex_digits-none c.loop-i.rest)) ∙ c.loop-i.invariant.0

pub returns : goal.returns
returns c = record { digits = written c; reads_back = ap pattern_of (written c) ∙ pattern_back c.args.x (search rules) }
