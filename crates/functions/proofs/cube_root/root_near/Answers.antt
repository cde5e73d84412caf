-- The steps that are left from here lead to the same root as all steps from the first guess.
use Rattle.std.proofs.Common.{◌≡◌, ℕ, suc, ◌+◌, ◌-◌, ◌<◌, ◌≤◌, sym, refl, ap, ◌∙◌, arith}
use lib.Ieee.{Float}
use Rattle.functions.specs.CubeRoot.{improved, improved_times}
use Rattle.functions.proofs.cube_root.root_near.Goals as goal

one_less : (i : ℕ) → i < 5 → 5 - i ≡ suc (5 - (i + 1))
one_less i h = omega arith

none_left : (i : ℕ) → 5 ≤ i → 5 - i ≡ 0
none_left i h = omega arith

one-step : (t y z : Float) (i : ℕ) → i < 5 → z ≡ improved t y → improved_times (5 - (i + 1)) t z ≡ improved_times (5 - i) t y
unfolding improved_times
one-step t y z i h e = ap (improved_times (5 - (i + 1)) t) e ∙ ap (λ (n : ℕ). improved_times n t y) (sym (one_less i h))

at_end : (t y : Float) (i : ℕ) → 5 ≤ i → y ≡ improved_times (5 - i) t y
unfolding improved_times
at_end t y i h = ap (λ (n : ℕ). improved_times n t y) (sym (none_left i h))

pub loop-init : goal.loop-init
loop-init c = refl

pub loop-preserved : goal.loop-preserved
loop-preserved c = one-step c.args.t c.loop.y c.improve-y.result c.loop.counter (omega arith) c.improve-y.ensures ∙ c.loop.invariant

pub returns : goal.returns
returns c = at_end c.args.t c.loop.y c.loop.counter (omega arith) ∙ c.loop.invariant
