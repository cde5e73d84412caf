-- What is told of a count. Assumes nothing.
use Rattle.std.specs.Prelude.{ℕ, cond, List, [], ◌++◌, ◌==◌, codes, decimal}
use Rattle.edits.specs.declared.Counted.{Counted}

-- the count, and the name, with an s unless it is one
abbrev pub counted_text : Counted → List ℕ
counted_text c = decimal c.0 ++ (codes " " ++ (c.1.now ++ cond (c.0 == 1) [] (codes "s")))
