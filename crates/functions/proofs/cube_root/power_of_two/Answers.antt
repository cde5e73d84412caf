-- A shift within 64 bits loses nothing, and what it makes is the pattern of the power.
use Rattle.std.proofs.Common.{ℕ, ◌-◌, ◌*◌, ◌%◌, ◌^◌, ◌<◌, ◌≤◌, ap, ◌∙◌, lt_of_lt_of_le, mod-eq_of_lt, one-mul, arith, lit≤}
use lib.Pow.{pow-lt}
use lib.Ieee.{binary64, of_bits}
use Rattle.functions.proofs.Powers.{small_power, large_power}
use Rattle.functions.proofs.cube_root.power_of_two.Goals as goal

within_word : (j : ℕ) → 52 ≤ j → j < 2098 → (j - 51) * 2 ^ 52 < 2 ^ 64
within_word j h i = omega arith

pub returns-then-j-lt52 : goal.returns-then-j-lt52
returns-then-j-lt52 c =
    let j = c.args.j in
    let under : 2 ^ j < 2 ^ 64 = pow-lt {j = 64} (lt_of_lt_of_le c.if-j-lt52.true (lit≤ tt)) in
    c.f64_from_bits_with_nan.ensures
    ∙ ap (λ (b : ℕ). of_bits binary64 (b % 2 ^ 64)) (one-mul (2 ^ j))
    ∙ ap (of_bits binary64) (mod-eq_of_lt under)
    ∙ small_power j c.if-j-lt52.true

pub returns-else-j-lt52 : goal.returns-else-j-lt52
returns-else-j-lt52 c =
    let j = c.args.j in
    c.f64_from_bits_with_nan-else-j-lt52.ensures
    ∙ ap (of_bits binary64) (mod-eq_of_lt (within_word j c.if-j-lt52.false c.requires))
    ∙ large_power j c.if-j-lt52.false c.requires
