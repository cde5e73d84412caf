-- What the lines so far have counted, with those that are left, makes the whole count; each line takes a byte at least.
use Rattle.std.proofs.Common.{◌≡◌, ◌+◌, ◌≤◌, length}
use Rattle.text.specs.Words.{lines_left}
use Rattle.replay.specs.Verdicts.{judged_after, judged_of}
use Rattle.replay.proofs.count_lines.Given as goal

abbrev pub invariant-loop-line : goal.invariant-loop-line
invariant-loop-line g l =
    (judged_after (g.J.Judge.meets l.judge) l.tally (lines_left l.line-iterator) ≡ judged_of (g.J.Judge.meets l.judge) l.text)
    × (l.tally.cases + length l.line-iterator.rest.now ≤ length l.text)
    × (l.tally.differing ≤ l.tally.cases)
