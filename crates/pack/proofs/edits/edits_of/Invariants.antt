-- What the lines to come make of the edits so far, all lines make of none.
use Rattle.std.proofs.Common.{List, [], vec_items, Result}
use Rattle.packed.specs.declared.sheets.Edit.{Edit}
use Rattle.text.specs.Words.{lines_of, lines_left}
use Rattle.pack.specs.declared.edits.Fault.{Fault}
use Rattle.pack.specs.Edits.{Gathers}
use Rattle.pack.proofs.edits.edits_of.Given as goal

abbrev pub invariant-loop-before : goal.invariant-loop-before
invariant-loop-before l =
    (answer : Result (List Edit) Fault) → Gathers l.before-iterator.count (vec_items l.edits) (lines_left l.before-iterator.iter) answer → Gathers 0 [] (lines_of l.text) answer
