-- Each round takes a word at least.
use Rattle.std.specs.Vec.Iter.{into_iter_len}
use Rattle.geodsolve.proofs.read_options.Given as goal

abbrev pub decreases-loop-word : goal.decreases-loop-word
decreases-loop-word l = into_iter_len l.words
