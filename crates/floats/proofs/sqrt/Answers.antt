use Rattle.std.proofs.Common.{rules}
use Rattle.floats.proofs.Roots.{nearest_answer, other_answer}
use Rattle.floats.proofs.AcceptedRoots.{root_by_pattern}
use Rattle.floats.proofs.sqrt.Goals as goal

pub returns : goal.returns
returns c =
    let value = root_by_pattern c.args.x c.in-Some.root c.f64_to_bits_with_nan-pattern.result c.well_formed.0.1 c.f64_to_bits_with_nan-pattern.ensures c.in-Some.ensures in
    record { value = value; nearest = nearest_answer _ _ c.well_formed.0.1 value; other = other_answer _ _ c.well_formed.0.1 value }

pub returns-2 : goal.returns-2
returns-2 c = record { value = search rules; nearest = nearest_answer _ _ c.well_formed.0.1 (search rules); other = other_answer _ _ c.well_formed.0.1 (search rules) }
