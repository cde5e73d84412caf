-- Names: what is found under one. Assumes nothing.
use Rattle.std.specs.Prelude.{◌≡◌, ◌≢◌, ℕ, List, Result, MatchResult}

-- the thing of that name, or an error where none has it
abbrev pub Named : {F E : Type 0} → (F → List ℕ) → List ℕ → Result F E → Type 0
Named {F} name_of name answer = MatchResult answer (λ f. name_of f ≡ name) (λ _. (f : F) → name_of f ≢ name)
