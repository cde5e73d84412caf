-- What a size leaves over after whole multiples of another is exact: each difference is of two sizes of which the larger is at most twice the smaller. It is what `%` answers.
use Rattle.std.proofs.Common.{◌≡◌, ℕ, zero, suc, ◌+◌, ◌-◌, ◌*◌, ◌/◌, ◌%◌, ◌^◌, ◌<◌, ◌≤◌, Bool, true, false, T, ltb, ℤ, pos, ◌-ℤ◌, nat_abs, sym, refl, ap, ◌∙◌, subst, inl, inr, not, true≢false, mul_comm, mul_assoc, lt_irrefl, zero-mul, mul-pos, zero-lt-suc, pow_pos, mod-lt, div-add-mod', lt_of_le_of_lt, lt_of_lt_of_le, pow-suc, arith, ltb-true, ltb-false, le-leb}
use Rattle.std.proofs.lemmas.Bool.{cases_lt, lt-leb}
use Rattle.std.proofs.Math.Nat.{add-mul-mod_self_left, mod-eq_of_lt}
use Rattle.std.proofs.lemmas.Int.{ints}
use lib.Ieee.{Float, Format, nan, inf, fin, binary64, prec, low, up, down, fits, is_nan, neg, add, sub, div, rem, lt, le, eq, of_bits}
use lib.Ieee.Exact.{HasValue}
use lib.Ieee.Fits.{up_pos, add-fits, sub-fits, div-fits, rem-fits, neg-fits}
use lib.Ieee.Scale.{overflow}
use Rattle.std.specs.Float.{float_zero, float_is_finite, float_is_infinite, is_sign_negative, float_with_sign}
use Rattle.exact.specs.Rounded.{Rep, rounded, rounded_z}
use Rattle.exact.specs.Values.{signed, value, Is, Rounds}
use Rattle.exact.proofs.Naturals.{rep_double, rounded-low, rounded-high}
use Rattle.exact.proofs.Values.{finite_is, finite_value, is_rep, is_below}
use Rattle.exact.proofs.Unique.{same_sized}
use Rattle.exact.proofs.Sums.{add_rounds, sub-rounds}
use Rattle.exact.proofs.Roundings.{rounds_exact, rounds_is, prec_pos}
use Rattle.exact.proofs.Sterbenz.{sterbenz}
use Rattle.exact.proofs.Halves.{half_is}
use Rattle.exact.proofs.Orders.{lt_is, le_is, eq_is, eq_z_true, eq_z_false}
use Rattle.exact.proofs.Remainders.{rem_has}
use Rattle.floats.specs.Roots.{units}
use Rattle.floats.specs.Rests.{Size, IsPowerMultiple}
use Rattle.floats.proofs.Roots.{plain_value}
use Rattle.floats.proofs.Roots as Roots

-- ---- on natural numbers
-- a number less a multiple of b leaves over the same
rest_of_multiple : (a b c : ℕ) → (k : ℕ) → c ≡ b * k → a % c % b ≡ a % b
rest_of_multiple a b c k e = sym (ap (λ (n : ℕ). n % b) (parts a b k (a / c) (a % c) (ap (λ (m : ℕ). a / c * m + a % c) (sym e) ∙ div-add-mod' a c)) ∙ add-mul-mod_self_left (a % c) b (k * (a / c)))
  where
    parts : (a b k q s : ℕ) → q * (b * k) + s ≡ a → a ≡ s + b * (k * q)
    parts a b k q s e = omega (arith, mul_comm q (b * k), mul_assoc b k q)

rest_once : (a b : ℕ) → b ≤ a → a < b + b → a % b ≡ a - b
rest_once a b h l = ap (λ (n : ℕ). n % b) (taken a b h) ∙ add-mul-mod_self_left (a - b) b 1 ∙ mod-eq_of_lt (omega arith)
  where
    taken : (a b : ℕ) → b ≤ a → a ≡ a - b + b * 1
    taken a b h = omega arith

-- ---- x is a units in size, and its sign is plus
pub record Sized (f : Format) (x : Float) (a : ℕ) : Type 0 where
  pub held : T (fits f x)
  pub has : HasValue x false a (2 ^ low f)

module _ (f : Format) where
  sized_is : (x : Float) (a : ℕ) → Sized f x a → Is f x (pos a)
  sized_is x a s = record { sign = false; has = s.has; signs = refl }

  sized_rep : (x : Float) (a : ℕ) → Sized f x a → Rep (prec f) a
  sized_rep x a s = is_rep f x (pos a) s.held (sized_is x a s)

  pub sized_below : (x : Float) (a : ℕ) → Sized f x a → a < overflow f
  sized_below x a s = is_below f x (pos a) s.held (sized_is x a s)

  same : (x y : Float) (a b : ℕ) → a ≡ b → Sized f x a → Sized f y b → x ≡ y
  same x y a b e s t = same_sized f x y false b s.held t.held (subst (λ (k : ℕ). HasValue x false k (2 ^ low f)) e s.has) t.has

  pub rem_sized : (x y : Float) (a b : ℕ) → 0 < b → Sized f x a → Sized f y b → Sized f (rem f x y) (a % b)
  rem_sized x y a b B s t = record { held = rem-fits f x y s.held; has = rem_has f x y false false a b (sized_rep x a s) (sized_rep y b t) (sized_below x a s) s.has t.has B }

  pub plus_held : (x : Float) → T (fits f x) → T (fits f (float_with_sign false x))
  unfolding float_with_sign fits
  plus_held nan F = F
  plus_held (inf s) F = F
  plus_held (fin s zero e) F = F
  plus_held (fin s (suc m) e) F = F

  plus_has : (x : Float) (a : ℕ) (s : Bool) → HasValue x s a (2 ^ low f) → HasValue (float_with_sign false x) false a (2 ^ low f)
  unfolding float_with_sign
  plus_has nan a s v = absurd v
  plus_has (inf t) a s v = absurd v
  plus_has (fin t m e) a s v = (refl, v.1)

  pub plus_sized : (x : Float) (a : ℕ) (s : Bool) → T (fits f x) → HasValue x s a (2 ^ low f) → Sized f (float_with_sign false x) a
  plus_sized x a s F v = record { held = plus_held x F; has = plus_has x a s v }

  -- ---- tests
  lt_sized : (x y : Float) (a b : ℕ) → Sized f x a → Sized f y b → lt x y ≡ ltb a b
  lt_sized x y a b s t = lt_is f x y (pos a) (pos b) (sized_is x a s) (sized_is y b t)

  -- ---- differences
  apart : (a b : ℕ) → b ≤ a → pos a -ℤ pos b ≡ pos (a - b)
  apart a b h = omega (arith, ints)

  module _ (r y : Float) (a b : ℕ) (s : Sized f r a) (t : Sized f y b) (h : b ≤ a) where
    difference_rounds : Rounds f (sub f r y) (pos (a - b))
    difference_rounds = subst (Rounds f (sub f r y)) (apart a b h) (sub-rounds f r y (pos a) (pos b) (sized_is r a s) (sized_is y b t))

    difference_is : a ≤ b + b → Is f (sub f r y) (pos (a - b))
    difference_is g =
        rounds_exact f (sub f r y) (pos (a - b)) difference_rounds
        (subst (λ (z : ℤ). Rep (prec f) (nat_abs z)) (apart a b h) (sterbenz (prec f) (pos a) (pos b) (sized_rep r a s) (sized_rep y b t) (omega (arith, ints)) (omega (arith, ints))))
        (lt_of_le_of_lt (omega arith) (sized_below r a s))

    pub difference_sized : a ≤ b + b → Sized f (float_with_sign false (sub f r y)) (a - b)
    difference_sized g = let i = difference_is g in plus_sized (sub f r y) (a - b) i.sign (sub-fits f r y) i.has

    far : b + b ≤ a → le y (sub f r y) ≡ true
    unfolding rounded_z
    far g =
        let p = prec f in
        let most : rounded p (a - b) ≤ a = (rounded-high p a (a - b) (prec_pos f) (sized_rep r a s) (omega arith)).0 in
        let i = rounds_is f (sub f r y) (pos (a - b)) difference_rounds (lt_of_le_of_lt most (sized_below r a s)) in
        let least : b ≤ rounded p (a - b) = (rounded-low p b (a - b) (prec_pos f) (sized_rep y b t) (omega arith)).0 in
        le_is f y (sub f r y) (pos b) (pos (rounded p (a - b))) (sized_is y b t) i ∙ le-leb b (rounded p (a - b)) least

    near : a < b + b → le y (sub f r y) ≡ false
    near g = le_is f y (sub f r y) (pos b) (pos (a - b)) (sized_is y b t) (difference_is (omega arith)) ∙ lt-leb b (a - b) (omega arith)

    pub at_most_twice : le y (sub f r y) ≡ false → a < b + b
    at_most_twice e = elim (cases_lt a (b + b)) [ inr g ↦ absurd (true≢false (sym (far g) ∙ e)) | inl g ↦ g ]

    pub at_least_twice : le y (sub f r y) ≡ true → b + b ≤ a
    at_least_twice e = elim (cases_lt a (b + b)) [ inr g ↦ g | inl g ↦ absurd (true≢false (sym e ∙ near g)) ]

  -- ---- twice a size
  plus_sign : (s : Bool) (n : ℕ) → 0 < n → signed s n ≡ pos n → s ≡ false
  plus_sign false n h e = refl
  plus_sign true n h e = absurd (differ n h e)
    where
      differ : (n : ℕ) → 0 < n → signed true n ≡ pos n → ⊥
      differ n h e = omega (arith, ints)

  doubled_rep : (b : ℕ) → Rep (prec f) b → Rep (prec f) (b + b)
  doubled_rep b r = subst (Rep (prec f)) (omega arith) (rep_double (prec f) b r)

  pub doubled_sized : (y : Float) (b : ℕ) → 0 < b → b + b < overflow f → Sized f y b → Sized f (add f y y) (b + b)
  doubled_sized y b B l t =
      let i = rounds_exact f (add f y y) (pos (b + b)) (add_rounds f y y (pos b) (pos b) (sized_is y b t) (sized_is y b t)) (doubled_rep b (sized_rep y b t)) l in
      record { held = add-fits f y y; has = subst (λ (s : Bool). HasValue (add f y y) s (b + b) (2 ^ low f)) (plus_sign i.sign (b + b) (omega arith) i.signs) i.has }

-- ---- of sizes in binary64
pub of_size : (x : Float) → Size x → Sized binary64 x (units binary64 x)
of_size x s = record { held = s.held; has = s.has }

pub counted : (x : Float) (a : ℕ) → Sized binary64 x a → units binary64 x ≡ a
counted x a s = Roots.units_of binary64 x a s.has

pub size_of : (x : Float) (a : ℕ) → Sized binary64 x a → Size x
size_of x a s = record { held = s.held; has = subst (λ (k : ℕ). HasValue x false k (2 ^ low binary64)) (sym (counted x a s)) s.has }

-- ---- the cases with no whole multiple
pub not_finite_rest : (x y : Float) → float_is_finite x ≡ false → of_bits binary64 0x7ff8000000000000 ≡ rem binary64 x y
unfolding float_is_finite rem of_bits
not_finite_rest nan y h = refl
not_finite_rest (inf s) y h = refl
not_finite_rest (fin s m e) y h = absurd (true≢false h)

pub nan_rest : (x y : Float) → is_nan y ≡ true → of_bits binary64 0x7ff8000000000000 ≡ rem binary64 x y
unfolding is_nan rem of_bits
nan_rest nan nan h = refl
nan_rest (inf s) nan h = refl
nan_rest (fin s m e) nan h = refl
nan_rest x (inf t) h = absurd (true≢false (sym h))
nan_rest x (fin t n d) h = absurd (true≢false (sym h))

pub rest_by_infinity : (x y : Float) → float_is_finite x ≡ true → float_is_infinite y ≡ true → x ≡ rem binary64 x y
unfolding float_is_finite float_is_infinite rem
rest_by_infinity nan y h g = absurd (true≢false (sym h))
rest_by_infinity (inf s) y h g = absurd (true≢false (sym h))
rest_by_infinity (fin s m e) nan h g = absurd (true≢false (sym g))
rest_by_infinity (fin s m e) (inf t) h g = refl
rest_by_infinity (fin s m e) (fin t n d) h g = absurd (true≢false (sym g))

-- ---- a finite float is zero exactly where it has no units
zero_pattern : float_zero ≡ of_bits binary64 0
unfolding of_bits
zero_pattern = refl

-- what a test against 0.0 says
pub tested_zero : (y : Float) (t : Bool) → eq y (of_bits binary64 0) ≡ t → eq y float_zero ≡ t
tested_zero y t e = ap (eq y) zero_pattern ∙ e

zero_sized : Sized binary64 float_zero 0
unfolding fits
zero_sized = record { held = tt; has = (refl, refl) }

pub finite_of : (y : Float) → is_nan y ≡ false → float_is_infinite y ≡ false → float_is_finite y ≡ true
unfolding is_nan float_is_infinite float_is_finite
finite_of nan h g = absurd (true≢false h)
finite_of (inf t) h g = absurd (true≢false g)
finite_of (fin t n d) h g = refl

no_units : (y : Float) (w : ℤ) → Is binary64 y w → eq y float_zero ≡ true → w ≡ pos 0
no_units y w i e = eq_z_true w (pos 0) (sym (eq_is binary64 y float_zero w (pos 0) i (sized_is binary64 float_zero 0 zero_sized)) ∙ e)

not_zero : (w : ℤ) → (w ≡ pos 0 → ⊥) → 0 < nat_abs w
not_zero w n = omega (arith, ints)

pub some_units : (y : Float) → fits binary64 y ≡ true → float_is_finite y ≡ true → eq y float_zero ≡ false → 0 < units binary64 y
some_units y F h e =
    let i = finite_value binary64 y (subst T (sym F) tt) h in
    not_zero (value binary64 y) (eq_z_false (value binary64 y) (pos 0) (sym (eq_is binary64 y float_zero (value binary64 y) (pos 0) i (sized_is binary64 float_zero 0 zero_sized)) ∙ e))

pub rest_by_zero : (x y : Float) → fits binary64 y ≡ true → float_is_finite x ≡ true → eq y float_zero ≡ true → of_bits binary64 0x7ff8000000000000 ≡ rem binary64 x y
unfolding float_is_finite rem of_bits eq
rest_by_zero nan y F h e = refl
rest_by_zero (inf s) y F h e = refl
rest_by_zero (fin s m q) nan F h e = refl
rest_by_zero (fin s m q) (inf t) F h e = absurd (true≢false (sym e))
rest_by_zero (fin s m q) (fin t zero d) F h e = refl
rest_by_zero (fin s m q) (fin t (suc n) d) F h e =
    let i = finite_is binary64 (fin t (suc n) d) (subst T (sym F) tt) tt in
    absurd (positive_units n d (nat_abs (value binary64 (fin t (suc n) d))) i.has.1 (ap nat_abs (no_units (fin t (suc n) d) (value binary64 (fin t (suc n) d)) i e)))
  where
    positive_units : (n : ℕ) (d : ℤ) (k : ℕ) → suc n * up d * 2 ^ low binary64 ≡ k * down d → k ≡ 0 → ⊥
    positive_units n d k v z = lt_irrefl 0 (subst (λ (j : ℕ). 0 < j) (v ∙ ap (λ (j : ℕ). j * down d) z ∙ zero-mul (down d)) (mul-pos (mul-pos (zero-lt-suc n) (up_pos d)) (pow_pos (low binary64))))

-- ---- the sign
finite_has : (x : Float) → T (fits binary64 x) → float_is_finite x ≡ true → HasValue x (is_sign_negative x) (units binary64 x) (2 ^ low binary64)
unfolding float_is_finite is_sign_negative
finite_has nan F h = absurd (true≢false (sym h))
finite_has (inf s) F h = absurd (true≢false (sym h))
finite_has (fin s m e) F h = (refl, (finite_is binary64 (fin s m e) F tt).has.1)

pub abs_sized : (x : Float) → fits binary64 x ≡ true → float_is_finite x ≡ true → Sized binary64 (float_with_sign false x) (units binary64 x)
abs_sized x F h = let held : T (fits binary64 x) = subst T (sym F) tt in plus_sized binary64 x (units binary64 x) (is_sign_negative x) held (finite_has x held h)

pub abs_size : (x : Float) → fits binary64 x ≡ true → float_is_finite x ≡ true → Size (float_with_sign false x)
abs_size x F h = size_of (float_with_sign false x) (units binary64 x) (abs_sized x F h)

pub abs_units : (x : Float) → fits binary64 x ≡ true → float_is_finite x ≡ true → units binary64 (float_with_sign false x) ≡ units binary64 x
abs_units x F h = counted (float_with_sign false x) (units binary64 x) (abs_sized x F h)

neg_has : (x : Float) (a : ℕ) → HasValue x false a (2 ^ low binary64) → HasValue (neg x) true a (2 ^ low binary64)
unfolding neg
neg_has nan a v = absurd v
neg_has (inf t) a v = absurd v
neg_has (fin t m e) a v = (ap not v.0, v.1)

module _ (x y : Float) (F : fits binary64 x ≡ true) (G : fits binary64 y ≡ true) (h : float_is_finite x ≡ true) (g : float_is_finite y ≡ true) (B : 0 < units binary64 y) where
  abbrev a : ℕ
  a = units binary64 x

  abbrev b : ℕ
  b = units binary64 y

  s : Sized binary64 (float_with_sign false x) a
  s = abs_sized x F h

  t : Sized binary64 (float_with_sign false y) b
  t = abs_sized y G g

  held : T (fits binary64 x)
  held = subst T (sym F) tt

  whole_rest : Sized binary64 (rem binary64 (float_with_sign false x) (float_with_sign false y)) (a % b)
  whole_rest = rem_sized binary64 (float_with_sign false x) (float_with_sign false y) a b B s t

  signed_rest : HasValue (rem binary64 x y) (is_sign_negative x) (a % b) (2 ^ low binary64)
  signed_rest =
      rem_has binary64 x y (is_sign_negative x) (is_sign_negative y) a b (sized_rep binary64 (float_with_sign false x) a s) (sized_rep binary64 (float_with_sign false y) b t)
      (sized_below binary64 (float_with_sign false x) a s) (finite_has x held h) (finite_has y (subst T (sym G) tt) g) B

  pub rest_of_plus : is_sign_negative x ≡ false → rem binary64 (float_with_sign false x) (float_with_sign false y) ≡ rem binary64 x y
  rest_of_plus p =
      same_sized binary64 _ (rem binary64 x y) false (a % b) whole_rest.held (rem-fits binary64 x y held) whole_rest.has
      (subst (λ (q : Bool). HasValue (rem binary64 x y) q (a % b) (2 ^ low binary64)) p signed_rest)

  pub rest_of_minus : is_sign_negative x ≡ true → neg (rem binary64 (float_with_sign false x) (float_with_sign false y)) ≡ rem binary64 x y
  rest_of_minus p =
      same_sized binary64 _ (rem binary64 x y) true (a % b) (neg-fits binary64 _ whole_rest.held) (rem-fits binary64 x y held)
      (neg_has (rem binary64 (float_with_sign false x) (float_with_sign false y)) (a % b) whole_rest.has)
      (subst (λ (q : Bool). HasValue (rem binary64 x y) q (a % b) (2 ^ low binary64)) p signed_rest)

-- ---- steps of the division
-- the size t doubled, while twice of it is at most r
module _ (r t : Float) (s : Size r) (u : Size t) (B : 0 < units binary64 t) (h : units binary64 t ≤ units binary64 r) where
  pub within_twice : le t (sub binary64 r t) ≡ false → units binary64 r < units binary64 t + units binary64 t
  within_twice e = at_most_twice binary64 r t _ _ (of_size r s) (of_size t u) h e

  module _ (e : le t (sub binary64 r t) ≡ true) where
    pub twice_reached : units binary64 t + units binary64 t ≤ units binary64 r
    twice_reached = at_least_twice binary64 r t _ _ (of_size r s) (of_size t u) h e

    twice_sized : Sized binary64 (add binary64 t t) (units binary64 t + units binary64 t)
    twice_sized = doubled_sized binary64 t _ B (lt_of_le_of_lt twice_reached (sized_below binary64 r _ (of_size r s))) (of_size t u)

    pub twice_size : Size (add binary64 t t)
    twice_size = size_of (add binary64 t t) _ twice_sized

    pub twice_units : units binary64 (add binary64 t t) ≡ units binary64 t + units binary64 t
    twice_units = counted (add binary64 t t) _ twice_sized

-- the size t halved, where it is a multiple of y by a power of two, and more than y
two_pattern : fin false 1 (pos 1) ≡ of_bits binary64 0x4000000000000000
unfolding of_bits
two_pattern = refl

module _ (t : Float) (u : Size t) (h : ℕ) (e : units binary64 t ≡ h + h) (B : 0 < h) where
  half_sized : Sized binary64 (div binary64 t (of_bits binary64 0x4000000000000000)) h
  half_sized =
      let i = half_is binary64 t (pos h) u.held (record { sign = false; has = subst (λ (k : ℕ). HasValue t false k (2 ^ low binary64)) e u.has; signs = refl }) in
      subst (λ (w : Float). Sized binary64 (div binary64 t w) h) two_pattern
      (record { held = div-fits binary64 t (fin false 1 (pos 1)); has = subst (λ (s : Bool). HasValue (div binary64 t (fin false 1 (pos 1))) s h (2 ^ low binary64)) (plus_sign binary64 i.sign h B i.signs) i.has })

  pub half_size : Size (div binary64 t (of_bits binary64 0x4000000000000000))
  half_size = size_of _ h half_sized

  pub half_units : units binary64 (div binary64 t (of_bits binary64 0x4000000000000000)) ≡ h
  half_units = counted _ h half_sized

-- a size below twice t, lessened by t where it reaches it
module _ (r t : Float) (s : Size r) (u : Size t) (l : units binary64 r < units binary64 t + units binary64 t) where
  tested : lt r t ≡ ltb (units binary64 r) (units binary64 t)
  tested = lt_sized binary64 r t _ _ (of_size r s) (of_size t u)

  pub kept_units : lt r t ≡ true → units binary64 r ≡ units binary64 r % units binary64 t
  kept_units e = sym (mod-eq_of_lt (ltb-true _ _ (sym tested ∙ e)))

  module _ (e : lt r t ≡ false) where
    reached : units binary64 t ≤ units binary64 r
    reached = ltb-false _ _ (sym tested ∙ e)

    lessened_sized : Sized binary64 (float_with_sign false (sub binary64 r t)) (units binary64 r - units binary64 t)
    lessened_sized = difference_sized binary64 r t _ _ (of_size r s) (of_size t u) reached (omega arith)

    pub lessened_size : Size (float_with_sign false (sub binary64 r t))
    lessened_size = size_of _ _ lessened_sized

    pub lessened_units : units binary64 (float_with_sign false (sub binary64 r t)) ≡ units binary64 r % units binary64 t
    lessened_units = counted _ _ lessened_sized ∙ sym (rest_once _ _ reached l)

-- ---- what is left below y is the rest
pub less_test : (r y : Float) → Size r → Size y → (b : Bool) → lt r y ≡ b → ltb (units binary64 r) (units binary64 y) ≡ b
less_test r y s u b e = sym (lt_sized binary64 r y _ _ (of_size r s) (of_size y u)) ∙ e

pub rest_is : (q r y : Float) → Size q → Size r → Size y → 0 < units binary64 y → units binary64 q ≡ units binary64 r % units binary64 y → q ≡ rem binary64 r y
rest_is q r y s t u B e = same binary64 q (rem binary64 r y) _ _ e (of_size q s) (rem_sized binary64 r y _ _ B (of_size r t) (of_size y u))

-- ---- multiples by powers of two
pub power_pos : (b n : ℕ) → IsPowerMultiple b n → 0 < b → 0 < n
power_pos b n m B = subst (λ (k : ℕ). 0 < k) (sym m.is) (mul-pos B (pow_pos m.power))

pub power_once : (b : ℕ) → IsPowerMultiple b b
power_once b = record { power = 0; is = omega arith }

pub power_twice : (b n : ℕ) → IsPowerMultiple b n → IsPowerMultiple b (n + n)
power_twice b n m = record { power = suc m.power; is = twice b n (2 ^ m.power) m.is ∙ sym (ap (λ (k : ℕ). b * k) (pow-suc 2 m.power)) }
  where
    twice : (b n k : ℕ) → n ≡ b * k → n + n ≡ b * (k * 2)
    twice b n k e = omega (arith, mul_assoc b k 2)

-- a multiple above b is twice another
pub record Halved (b n : ℕ) : Type 0 where
  pub half : ℕ
  pub twice : n ≡ half + half
  pub multiple : IsPowerMultiple b half

pub power_half : (b n : ℕ) → IsPowerMultiple b n → b < n → Halved b n
power_half b n m l = go m.power m.is
  where
    none : (b n : ℕ) → n ≡ b * 2 ^ 0 → b < n → ⊥
    none b n e l = omega arith

    twice : (b n k : ℕ) → n ≡ b * (k * 2) → n ≡ b * k + b * k
    twice b n k e = omega (arith, mul_assoc b k 2)

    go : (p : ℕ) → n ≡ b * 2 ^ p → Halved b n
    go zero e = absurd (none b n e l)
    go (suc p) e = record { half = b * 2 ^ p; twice = twice b n (2 ^ p) (e ∙ ap (λ (k : ℕ). b * k) (pow-suc 2 p)); multiple = record { power = p; is = refl } }

-- ---- a turn of the division: t halved, and what is left less it
module _ (y t left : Float) (s : Size t) (m : IsPowerMultiple (units binary64 y) (units binary64 t)) (B : 0 < units binary64 y) (e : lt y t ≡ true) (w : Size y) (low_left : units binary64 left < units binary64 t) where
  halved : Halved (units binary64 y) (units binary64 t)
  halved = power_half _ _ m (ltb-true _ _ (sym (lt_sized binary64 y t _ _ (of_size y w) (of_size t s)) ∙ e))

  some_half : 0 < halved.half
  some_half = power_pos _ _ halved.multiple B

  pub turn_size : Size (div binary64 t (of_bits binary64 0x4000000000000000))
  turn_size = half_size t s halved.half halved.twice some_half

  turn_units : units binary64 (div binary64 t (of_bits binary64 0x4000000000000000)) ≡ halved.half
  turn_units = half_units t s halved.half halved.twice some_half

  pub turn_multiple : IsPowerMultiple (units binary64 y) (units binary64 (div binary64 t (of_bits binary64 0x4000000000000000)))
  turn_multiple = subst (IsPowerMultiple (units binary64 y)) (sym turn_units) halved.multiple

  pub turn_near : units binary64 left < units binary64 (div binary64 t (of_bits binary64 0x4000000000000000)) + units binary64 (div binary64 t (of_bits binary64 0x4000000000000000))
  turn_near = subst (λ (k : ℕ). units binary64 left < k + k) (sym turn_units) (subst (λ (k : ℕ). units binary64 left < k) halved.twice low_left)

  pub turn_smaller : units binary64 (div binary64 t (of_bits binary64 0x4000000000000000)) < units binary64 t
  turn_smaller = subst (λ (k : ℕ). k < units binary64 t) (sym turn_units) (subst (λ (k : ℕ). halved.half < k) (sym halved.twice) (less halved.half some_half))
    where
      less : (k : ℕ) → 0 < k → k < k + k
      less k h = omega arith

-- what is left is below t, and leaves over by y what it did
pub left_below : (a t q : ℕ) → 0 < t → q ≡ a % t → q < t
left_below a t q h e = subst (λ (k : ℕ). k < t) (sym e) (mod-lt a h)

pub left_rest : (a b t q : ℕ) → IsPowerMultiple b t → q ≡ a % t → q % b ≡ a % b
left_rest a b t q m e = ap (λ (k : ℕ). k % b) e ∙ rest_of_multiple a b t (2 ^ m.power) m.is

pub ends_below : (a b t q : ℕ) → q < t → t ≤ b → q % b ≡ a % b → q ≡ a % b
ends_below a b t q l h e = sym (mod-eq_of_lt (lt_of_lt_of_le l h)) ∙ e
