-- The examples of the definitions are shown by computation.
use Rattle.polygon.proofs.Examples.{examples}
use Rattle.polygon.proofs.polygon_area.PolygonArea.new.Goals as goal

pub returns-clause-examples : goal.returns-clause-examples
returns-clause-examples g c = examples
