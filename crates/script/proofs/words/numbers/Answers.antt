-- One word more in each round.
use Rattle.std.proofs.Common.{Some, None, ◌∙◌, rules, subst, arith, length-set}
use Rattle.std.proofs.lemmas.List.{length-replicate}
use Rattle.text.specs.Words.{first_word}
use Rattle.text.specs.Decimals.{ReadsDecimal}
use Rattle.script.proofs.Readings.{none_read, one_read, none_here, all_read}
use Rattle.script.proofs.words.numbers.Goals as goal

pub loop-number-init : goal.loop-number-init
loop-number-init g c = (c.utf8.words, length-replicate _ _, none_read g.row.N c.args.words.now)

pub loop-number-preserved : goal.loop-number-preserved
loop-number-preserved g c =
    let now = c.loop-number in
    let split = c.split_word.ensures in
    let read : ReadsDecimal (first_word now.rest.now) (Some c.in_ok-number.field-0) = subst (λ w. ReadsDecimal w (Some c.in_ok-number.field-0)) split.word c.in_ok-number.ensures in
    let more = one_read g.row.N now.number-index c.args.words.now now.rest.now now.number-items c.in_ok-number.field-0 (omega arith) now.invariant.1 read now.invariant.2 in
    (search rules, length-set _ _ _ ∙ now.invariant.1, rw (split.rest) more)

pub returns-in_err-number : goal.returns-in_err-number
returns-in_err-number g c =
    let now = c.loop-number in
    let split = c.split_word.ensures in
    let read = subst (λ w. ReadsDecimal w None) split.word c.in_err-number.ensures in
    rw c.from_residual.ensures (none_here g.row.N now.number-index c.args.words.now now.rest.now _ (omega arith) read now.invariant.2)

pub returns : goal.returns
returns g c =
    let now = c.loop-number in
    let all = all_read g.row.N now.number-index c.args.words.now now.rest.now now.number-items (omega arith) now.invariant.1 now.invariant.2 in
    rw (c.then_some.ensures, c.is_blank.ensures) all
