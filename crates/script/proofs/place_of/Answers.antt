-- The place that a word writes is what `parse` reads.
use Rattle.script.proofs.Places.{place_parsed}
use Rattle.script.proofs.place_of.Goals as goal

pub returns : goal.returns
returns c = let e = place_parsed c.args.word.now c.parse.result c.parse.ensures.value.0 in cc
