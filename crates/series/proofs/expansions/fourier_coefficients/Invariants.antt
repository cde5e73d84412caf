use Rattle.std.proofs.Common.{◌≡◌, ◌-◌, ◌++◌, length, take}
use Rattle.series.specs.Expansions.{coefficients, fourier}
use Rattle.series.proofs.expansions.fourier_coefficients.Given as goal

-- what stands and what is left make the whole
abbrev pub invariant-loop-l : goal.invariant-loop-l
invariant-loop-l v = record {
  made : take v.l v.c ++ coefficients v.eps v.d v.rows v.l (7 - v.l) ≡ fourier v.eps v.table;
  places : length v.c ≡ 7;
}
