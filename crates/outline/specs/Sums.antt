-- One station more in the sums of a traverse. Assumes nothing.
use Rattle.std.specs.Prelude.{◌+ℤ◌}
use Rattle.floats.specs.Arithmetic.{◌⊕◌}
use Rattle.polygon.specs.declared.Traverse.{Traverse}
use Rattle.stations.specs.declared.Station.{Station}

abbrev pub plus : Traverse → Station → Traverse
plus t s =
    record {
      num = t.num;
      areasum = t.areasum ⊕ s.S12;
      perimetersum = t.perimetersum ⊕ s.s12;
      crossings = t.crossings +ℤ s.crossing;
      initial = t.initial;
      latest = t.latest;
    }
