-- What a definition says of a problem: its function set, ellipsoid, ends and difference are the definition's first four arguments. Assumes nothing.
use Rattle.functions.specs.Sets.{Funcs}
use Rattle.ellipsoid.specs.declared.shape.Ellipsoid.{Ellipsoid}
use Rattle.ellipsoid.specs.declared.latitudes.Ends.{Ends}
use Rattle.ellipsoid.specs.declared.latitudes.Difference.{Difference}
use Rattle.azimuth.specs.declared.problem.Problem.{Problem}

abbrev pub of_problem : {F A : Type 0} → (F → Funcs) → Problem F → (Funcs → Ellipsoid → Ends → Difference → A) → A
of_problem funcs p definition = definition (funcs p.set.now) p.shape.now p.ends p.difference
