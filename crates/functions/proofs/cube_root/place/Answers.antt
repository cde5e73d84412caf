-- The place of the leading digit is the binary logarithm.
use Rattle.std.proofs.Common.{ℕ, ◌+◌, ◌-◌, ◌/◌, ◌^◌, Bool, cond, sym, ap, ◌∙◌, eq-eqb}
use lib.Ieee.{size}
use Rattle.functions.proofs.Places.{place_by_log}
use Rattle.functions.proofs.cube_root.place.Goals as goal

pub returns-then-field-eq0 : goal.returns-then-field-eq0
returns-then-field-eq0 c =
    let b : ℕ = c.args.pattern in
    let log = c.checked_ilog2.ensures in
    c.from.ensures
    ∙ c.unwrap_or.ensures
    ∙ place_by_log c.checked_ilog2.result b log.none log.power_le log.next_power_gt
    ∙ ap (λ (t : Bool). cond t (size b - 1) (b / 2 ^ 52 + 51)) (sym (eq-eqb (b / 2 ^ 52) 0 c.if-field-eq0.true))
