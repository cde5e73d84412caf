-- What one more point does to a traverse, and that the crossings stay few enough for 64 bits: each point adds one at most.
use Rattle.std.proofs.Common.{◌≡◌, ℕ, ◌+◌, ◌%◌, ◌<◌, ◌≤◌, true, false, eqb, ℤ, pos, negsuc, ◌+ℤ◌, ◌*ℤ◌, nat_abs, ap, arith, w64, SFits, to_z, of_z}
use Rattle.std.specs.Prelude.{◌==◌}
use Rattle.std.specs.Int.RustNames.{int_div, int_rem}
use Rattle.std.proofs.lemmas.Int.{ints, to_z-of_z, quot-rem}
use Rattle.std.proofs.lemmas.Bool.Decides.{nat_tests}
use Rattle.area.specs.Reduction.{is_odd}
use Rattle.polygon.specs.declared.Point.{Point}
use Rattle.polygon.specs.declared.Traverse.{Traverse}
use Rattle.polygon.specs.Polygons.{Solve}
use Rattle.polygon.specs.Traverses.{started, extended, fed}

pub fed_first : (edge : Solve) (t : Traverse) (p : Point) → t.num ≡ 0 → fed edge t p ≡ started t p
unfolding fed
fed_first edge t p h = let e : eqb t.num 0 ≡ true = grind (arith, nat_tests) in rw e

pub fed_later : (edge : Solve) (t : Traverse) (p : Point) → 0 < t.num → fed edge t p ≡ extended edge t p
unfolding fed
fed_later edge t p h = let e : eqb t.num 0 ≡ false = grind (arith, nat_tests) in rw e

-- ---- crossings

pub few_fit : (z : ℤ) (n : ℕ) → nat_abs z ≤ n → n ≤ 4294967296 → SFits w64 z
few_fit (pos k) n h l = record { sfits = omega arith }
few_fit (negsuc k) n h l = record { sfits = omega arith }

-- as the machine reads them back
pub few_read : (z : ℤ) (n : ℕ) → nat_abs z ≤ n → n ≤ 4294967296 → to_z w64 (of_z w64 z) ≡ z
few_read z n h l = to_z-of_z w64 z (few_fit z n h l)

pub few_more : (z k : ℤ) (n : ℕ) → nat_abs z ≤ n → nat_abs k ≤ 1 → nat_abs (z +ℤ k) ≤ n + 1
few_more z k n h l = omega (arith, ints)

-- ---- parity

half_off : (q r k z : ℤ) → q *ℤ pos 2 +ℤ r ≡ z → nat_abs (r +ℤ k) % 2 ≡ nat_abs (z +ℤ k) % 2
half_off q r k z h = omega (arith, ints)

-- a remainder of 2 in the place of the number leaves the sum odd or even as it is
pub same_parity : (z k : ℤ) → is_odd (int_rem z (pos 2) +ℤ k) ≡ is_odd (z +ℤ k)
same_parity z k = ap (λ n. n == 1) (half_off (int_div z (pos 2)) (int_rem z (pos 2)) k z (quot-rem z (pos 2)))
