-- One word more in each round.
use Rattle.std.proofs.Common.{◌≡◌, Some, None, ◌∙◌, subst, rules, arith, length-set}
use Rattle.std.proofs.lemmas.List.{length-replicate}
use Rattle.text.specs.Patterns.{pattern_of}
use Rattle.text.proofs.Readings.{none_read, one_read, none_here, all_read}
use Rattle.text.proofs.rows.patterns.Goals as goal

pub loop-x-init : goal.loop-x-init
loop-x-init g c = (c.utf8.text, length-replicate _ _, none_read g.row.N c.args.text.now)

pub loop-x-preserved : goal.loop-x-preserved
loop-x-preserved g c =
    let now = c.loop-x in
    let split = c.split_word.ensures in
    let read = subst (λ w. Some c.in_ok-x.field-0 ≡ pattern_of w) split.word c.in_ok-x.ensures in
    let more = one_read g.row.N now.x-index c.args.text.now now.rest.now now.x-items c.in_ok-x.field-0 (omega arith) now.invariant.1 read now.invariant.2 in
    (search rules, length-set _ _ _ ∙ now.invariant.1, rw (split.rest) more)

pub returns-in_err-x : goal.returns-in_err-x
returns-in_err-x g c =
    let now = c.loop-x in
    let read = subst (λ w. None ≡ pattern_of w) c.split_word.ensures.word c.in_err-x.ensures in
    rw c.from_residual.ensures (none_here g.row.N now.x-index c.args.text.now now.rest.now _ (omega arith) read now.invariant.2)

pub returns : goal.returns
returns g c =
    let now = c.loop-x in
    all_read g.row.N now.x-index c.args.text.now now.rest.now now.x-items (omega arith) now.invariant.1 now.invariant.2
