-- What a result was whose refusal is told as a fault.
use Rattle.std.proofs.Common.{◌≡◌, Ok, Err, Result, MatchResult, refl, ap, sym}
use Rattle.std.specs.Result.{IsErrAnd}

module _ {A B C : Type 0} (Q : B → C → Type 0) where
  abbrev told : Result A B → Result A C → Type 0
  told r m = MatchResult r (λ x. m ≡ Ok x) (λ e. IsErrAnd m (Q e))

  pub mapped_ok : (r : Result A B) (x : A) → told r (Ok x) → r ≡ Ok x
  mapped_ok (Ok y) x is = let same : x ≡ y = cc in ap Ok (sym same)
  mapped_ok (Err e) x is = absurd is

  pub mapped_err : (r : Result A B) (d : C) → told r (Err d) → (e : B) × (r ≡ Err e) × Q e d
  mapped_err (Ok y) d is = absurd (cc)
  mapped_err (Err e) d is = (e, refl, is)
