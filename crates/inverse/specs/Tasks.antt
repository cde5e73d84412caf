-- What a definition says of a task: its function set, ellipsoid, canonical form, ends, difference and mask are the definition's arguments. Assumes nothing.
use Rattle.std.specs.Prelude.{ℕ}
use Rattle.functions.specs.Sets.{Funcs}
use Rattle.ellipsoid.specs.declared.shape.Ellipsoid.{Ellipsoid}
use Rattle.ellipsoid.specs.declared.latitudes.Ends.{Ends}
use Rattle.ellipsoid.specs.declared.latitudes.Difference.{Difference}
use Rattle.inverse.specs.declared.canonical.Canonical.{Canonical}
use Rattle.inverse.specs.declared.task.Task.{Task}

abbrev pub of_task : {F A : Type 0} → (F → Funcs) → Task F → (Funcs → Ellipsoid → Canonical → Ends → Difference → ℕ → A) → A
of_task funcs t definition = definition (funcs t.problem.set.now) t.problem.shape.now t.form t.problem.ends t.problem.difference t.mask
