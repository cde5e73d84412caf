-- Signs go through a product, bit for bit: of two opposites it is the same, and the minus of one factor can stand at the other.
use Rattle.std.proofs.Common.{◌≡◌, ◌*◌, Bool, true, false, cond, not, eqb, refl, ap}
use lib.Ieee.{Float, Format, nan, inf, fin, up, down, unlike, neg, mul, round}

unlike_both : (s t : Bool) → unlike (not s) (not t) ≡ unlike s t
unlike_both true true = refl
unlike_both true false = refl
unlike_both false true = refl
unlike_both false false = refl

unlike_moved : (s t : Bool) → unlike (not s) t ≡ unlike s (not t)
unlike_moved true true = refl
unlike_moved true false = refl
unlike_moved false true = refl
unlike_moved false false = refl

pub mul_opposites : (f : Format) (x y : Float) → mul f (neg x) (neg y) ≡ mul f x y
unfolding mul neg
mul_opposites f nan y = refl
mul_opposites f (inf s) nan = refl
mul_opposites f (inf s) (inf t) = ap inf (unlike_both s t)
mul_opposites f (inf s) (fin t n d) = ap (λ (u : Bool). cond (eqb n 0) nan (inf u)) (unlike_both s t)
mul_opposites f (fin s m e) nan = refl
mul_opposites f (fin s m e) (inf t) = ap (λ (u : Bool). cond (eqb m 0) nan (inf u)) (unlike_both s t)
mul_opposites f (fin s m e) (fin t n d) = ap (λ (u : Bool). round f u (m * up e * (n * up d)) (down e * down d)) (unlike_both s t)

pub mul-minus-moved : (f : Format) (x y : Float) → mul f (neg x) y ≡ mul f x (neg y)
unfolding mul neg
mul-minus-moved f nan y = refl
mul-minus-moved f (inf s) nan = refl
mul-minus-moved f (inf s) (inf t) = ap inf (unlike_moved s t)
mul-minus-moved f (inf s) (fin t n d) = ap (λ (u : Bool). cond (eqb n 0) nan (inf u)) (unlike_moved s t)
mul-minus-moved f (fin s m e) nan = refl
mul-minus-moved f (fin s m e) (inf t) = ap (λ (u : Bool). cond (eqb m 0) nan (inf u)) (unlike_moved s t)
mul-minus-moved f (fin s m e) (fin t n d) = ap (λ (u : Bool). round f u (m * up e * (n * up d)) (down e * down d)) (unlike_moved s t)

pub neg-neg : (x : Float) → neg (neg x) ≡ x
unfolding neg
neg-neg nan = refl
neg-neg (inf true) = refl
neg-neg (inf false) = refl
neg-neg (fin true m e) = refl
neg-neg (fin false m e) = refl
