-- The examples of the definitions are shown by computation.
use Rattle.outline.proofs.Examples.{all_examples}
use Rattle.outline.proofs.outlines.Outline.open.Goals as goal

pub returns-in_default-clause-examples : goal.returns-in_default-clause-examples
returns-in_default-clause-examples g c = all_examples

pub returns-clause-examples : goal.returns-clause-examples
returns-clause-examples g c = all_examples
