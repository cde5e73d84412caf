-- A longitude is normalized exactly: the remainder by a turn is exact, and so is the turn added or taken off, by Sterbenz.
use Rattle.std.proofs.Common.{◌≡◌, ℕ, ◌+◌, ◌<◌, ◌≤◌, Bool, true, false, cond, not, T, ℤ, pos, ◌+ℤ◌, ◌-ℤ◌, neg_ℤ, nat_abs, ◌≤ℤ◌, ◌<ℤ◌, sym, refl, ◌∙◌, subst, lt_of_le_of_lt, arith}
use lib.Signed.{rem_z, lt_z, lt_z_yes, lt_z_no}
use Rattle.std.proofs.lemmas.Int.{ints}
use lib.Ieee.{Float, binary64, prec, neg, fits}
use lib.Ieee.Fits.{add-fits, sub-fits, rem-fits}
use lib.Ieee.Scale.{overflow}
use Rattle.std.specs.Float.{float_is_finite}
use Rattle.exact.specs.Rounded.{RepZ}
use Rattle.exact.specs.Values.{Is}
use Rattle.exact.specs.Congruent.{Congruent, Reduced}
use Rattle.exact.proofs.Values.{finite_value, is_value, is_tested, is_rep, is_below}
use Rattle.exact.proofs.Sums.{add_rounds, sub-rounds}
use Rattle.exact.proofs.Roundings.{rounds_exact}
use Rattle.exact.proofs.Remainders.{rem_is}
use Rattle.exact.proofs.Integers.{rep_neg}
use Rattle.exact.proofs.Sterbenz.{sterbenz}
use Rattle.exact.proofs.Orders.{lt_is, eq_is, eq_z, eq_z_true, eq_z_false}
use Rattle.exact.proofs.Congruent.{congruent_same, congruent_trans, congruent_turned, congruent_turn_on}
use Rattle.floats.specs.Arithmetic.{◌⊕◌, ◌⊖◌, ◌⊛◌, ◌≺◌, ◌≗◌}
use Rattle.geomath.specs.Angles.{zero as none, turn, half_turn, not_a_number, left_over, remainder_of, ang_normalize}
use Rattle.geomath.specs.Exact.{half, exactly, Normalized}
use Rattle.geomath.proofs.Turns.{half_pos, half-fits, turn-fits, is_half, is_turn, is_none, is_minus_half, half_of_turn, minus_half_of_turn, remainder_congruent, remainder_below}

abbrev F : ℕ
F = half + half

-- x is a float with an exact value that differs from z by whole turns
pub record Turned (z : ℤ) (x : Float) : Type 0 where
  pub exact : ℤ
  pub is : Is binary64 x exact
  pub fit : T (fits binary64 x)
  pub turns : Congruent F z exact

-- ---- what `%` leaves
turn_pos : 0 < F
turn_pos = pos_twice half half_pos
  where
    pos_twice : (h : ℕ) → 0 < h → 0 < h + h
    pos_twice h p = omega arith

pub record Left (x : Float) : Type 0 where
  pub rest : Turned (exactly x) (left_over x turn)
  pub small : nat_abs rest.exact < F

left_over_lem : (x : Float) → T (fits binary64 x) → float_is_finite x ≡ true → Left x
left_over_lem x fit h = go (x ≗ none) refl
  where
    own : Is binary64 x (exactly x)
    own = finite_value binary64 x fit h

    by_zero : (z : ℤ) → z ≡ pos 0 → nat_abs z < F
    by_zero z e = subst (λ (v : ℤ). nat_abs v < F) (sym e) turn_pos

    go : (b : Bool) → (x ≗ none) ≡ b → Left x
    go true e = record {
      rest = record { exact = exactly x; is = subst (λ (t : Bool). Is binary64 (cond t x (cond (float_is_finite x) (x ⊛ turn) not_a_number)) (exactly x)) (sym e) own; fit = subst (λ (t : Bool). T (fits binary64 (cond t x (cond (float_is_finite x) (x ⊛ turn) not_a_number)))) (sym e) fit; turns = congruent_same F (exactly x) (exactly x) refl };
      small = by_zero (exactly x) (eq_z_true (exactly x) (pos 0) (sym (eq_is binary64 x none (exactly x) (pos 0) own is_none) ∙ e));
    }
    go false e = record {
      rest = record {
        exact = rem_z (exactly x) (pos F);
        is = subst (λ (v : Float). Is binary64 v (rem_z (exactly x) (pos F))) (sym taken) (rem_is binary64 x turn (exactly x) (pos F) fit turn-fits own is_turn turn_pos);
        fit = subst (λ (v : Float). T (fits binary64 v)) (sym taken) (rem-fits binary64 x turn fit);
        turns = remainder_congruent F (exactly x);
      };
      small = remainder_below F (exactly x) turn_pos;
    }
      where
        taken : left_over x turn ≡ x ⊛ turn
        taken = (λ i. cond (e i) x (cond (h i) (x ⊛ turn) not_a_number))

-- ---- into the half turn either way
below_of : (p q : ℤ) → lt_z p q ≡ true → p <ℤ q
below_of p q e = lt_z_yes (subst T (sym e) tt)

not_below_of : (p q : ℤ) → lt_z p q ≡ false → q ≤ℤ p
not_below_of p q e = lt_z_no (subst (λ (t : Bool). T (not t)) (sym e) tt)

module _ (h : ℕ) (p : ℤ) (small : nat_abs p < h + h) where
  opposite_small : neg_ℤ p ≤ℤ (pos (h + h) +ℤ pos (h + h))
  opposite_small = omega (arith, ints)

  opposite_large : p <ℤ neg_ℤ (pos h) → pos (h + h) ≤ℤ (neg_ℤ p +ℤ neg_ℤ p)
  opposite_large l = omega (arith, ints)

  turn_on_is : pos (h + h) -ℤ neg_ℤ p ≡ p +ℤ pos (h + h)
  turn_on_is = omega (arith, ints)

  turn_on_size : p <ℤ neg_ℤ (pos h) → nat_abs (p +ℤ pos (h + h)) ≤ nat_abs (pos (h + h))
  turn_on_size l = omega (arith, ints)

  turn_on_low : neg_ℤ (pos h) ≤ℤ (p +ℤ pos (h + h))
  turn_on_low = omega (arith, ints)

  turn_on_high : p <ℤ neg_ℤ (pos h) → (p +ℤ pos (h + h)) ≤ℤ pos h
  turn_on_high l = omega (arith, ints)

  large : pos h ≤ℤ p → pos (h + h) ≤ℤ (p +ℤ p)
  large l = omega (arith, ints)

  not_larger : p ≤ℤ (pos (h + h) +ℤ pos (h + h))
  not_larger = omega (arith, ints)

  turn_off_size : pos h ≤ℤ p → nat_abs (p -ℤ pos (h + h)) ≤ nat_abs (pos (h + h))
  turn_off_size l = omega (arith, ints)

  turn_off_low : pos h ≤ℤ p → neg_ℤ (pos h) ≤ℤ (p -ℤ pos (h + h))
  turn_off_low l = omega (arith, ints)

  turn_off_high : (p -ℤ pos (h + h)) ≤ℤ pos h
  turn_off_high = omega (arith, ints)

  turn_off_back : (p -ℤ pos (h + h)) +ℤ pos (h + h) ≡ p
  turn_off_back = omega (arith, ints)

within : (p : ℤ) → p <ℤ pos half → p ≤ℤ pos half
within p l = omega (arith, ints)

pub record Placed (z : ℤ) (x : Float) : Type 0 where
  pub at : Turned z x
  pub low : neg_ℤ (pos half) ≤ℤ at.exact
  pub high : at.exact ≤ℤ pos half

placed : (z : ℤ) (x : Float) (l : Turned z x) → nat_abs l.exact < F → Placed z (cond (x ≺ neg half_turn) (x ⊕ turn) (cond (x ≺ half_turn) x (x ⊖ turn)))
placed z x l s = go (x ≺ neg half_turn) (x ≺ half_turn) refl refl
  where
    p : ℤ
    p = l.exact

    under : (x ≺ neg half_turn) ≡ lt_z p (neg_ℤ (pos half))
    under = lt_is binary64 x (neg half_turn) p (neg_ℤ (pos half)) l.is is_minus_half

    over : (x ≺ half_turn) ≡ lt_z p (pos half)
    over = lt_is binary64 x half_turn p (pos half) l.is is_half

    turn_small : nat_abs (pos F) < overflow binary64
    turn_small = is_below binary64 turn (pos F) turn-fits is_turn

    turn_rep : RepZ (prec binary64) (pos F)
    turn_rep = is_rep binary64 turn (pos F) turn-fits is_turn

    rep : RepZ (prec binary64) p
    rep = is_rep binary64 x p l.fit l.is

    go : (a b : Bool) → (x ≺ neg half_turn) ≡ a → (x ≺ half_turn) ≡ b → Placed z (cond a (x ⊕ turn) (cond b x (x ⊖ turn)))
    go true b e k =
        let lt = below_of p (neg_ℤ (pos half)) (sym under ∙ e) in
        record {
          at = record {
            exact = p +ℤ pos F;
            is = rounds_exact binary64 (x ⊕ turn) (p +ℤ pos F) (add_rounds binary64 x turn p (pos F) l.is is_turn)
                (subst (RepZ (prec binary64)) (turn_on_is half p s) (sterbenz (prec binary64) (pos F) (neg_ℤ p) turn_rep (rep_neg (prec binary64) p rep) (opposite_small half p s) (opposite_large half p s lt)))
                (lt_of_le_of_lt (turn_on_size half p s lt) turn_small);
            fit = add-fits binary64 x turn;
            turns = congruent_trans F z p (p +ℤ pos F) l.turns (congruent_turn_on F p (p +ℤ pos F) refl);
          };
          low = turn_on_low half p s;
          high = turn_on_high half p s lt;
        }
    go false true e k = record { at = l; low = not_below_of p (neg_ℤ (pos half)) (sym under ∙ e); high = within p (below_of p (pos half) (sym over ∙ k)) }
    go false false e k =
        let ge = not_below_of p (pos half) (sym over ∙ k) in
        record {
          at = record {
            exact = p -ℤ pos F;
            is = rounds_exact binary64 (x ⊖ turn) (p -ℤ pos F) (sub-rounds binary64 x turn p (pos F) l.is is_turn)
                (sterbenz (prec binary64) p (pos F) rep turn_rep (large half p s ge) (not_larger half p s))
                (lt_of_le_of_lt (turn_off_size half p s ge) turn_small);
            fit = sub-fits binary64 x turn;
            turns = congruent_trans F z p (p -ℤ pos F) l.turns (congruent_turned F (p -ℤ pos F) p (congruent_turn_on F (p -ℤ pos F) p (turn_off_back half p s)));
          };
          low = turn_off_low half p s ge;
          high = turn_off_high half p s;
        }

-- ---- minus a half turn is written as a half turn
pub record Normal (z : ℤ) (x : Float) : Type 0 where
  pub exact : ℤ
  pub is : Is binary64 x exact
  pub fit : T (fits binary64 x)
  pub reduced : Reduced half z exact

half_again : (h : ℕ) (q : ℤ) → q ≡ neg_ℤ (pos h) → q +ℤ pos (h + h) ≡ pos h
half_again h q e = omega (arith, ints)

half_above : (h : ℕ) → 0 < h → neg_ℤ (pos h) <ℤ pos h
half_above h p = omega (arith, ints)

half_upto : (h : ℕ) → pos h ≤ℤ pos h
half_upto h = omega (arith, ints)

strictly : (h : ℕ) (q : ℤ) → neg_ℤ (pos h) ≤ℤ q → (q ≡ neg_ℤ (pos h) → ⊥) → neg_ℤ (pos h) <ℤ q
strictly h q l n = omega (arith, ints)

finished : (z : ℤ) (y : Float) → Placed z y → Normal z (cond (y ≗ neg half_turn) half_turn y)
finished z y p = go (y ≗ neg half_turn) refl
  where
    q : ℤ
    q = p.at.exact

    test : (y ≗ neg half_turn) ≡ eq_z q (neg_ℤ (pos half))
    test = eq_is binary64 y (neg half_turn) q (neg_ℤ (pos half)) p.at.is is_minus_half

    go : (b : Bool) → (y ≗ neg half_turn) ≡ b → Normal z (cond b half_turn y)
    go true e = record {
      exact = pos half;
      is = is_half;
      fit = half-fits;
      reduced = record {
        turns = congruent_trans F z q (pos half) p.at.turns (congruent_turn_on F q (pos half) (half_again half q (eq_z_true q (neg_ℤ (pos half)) (sym test ∙ e))));
        above = half_above half half_pos;
        upto = half_upto half;
      };
    }
    go false e = record {
      exact = q;
      is = p.at.is;
      fit = p.at.fit;
      reduced = record { turns = p.at.turns; above = strictly half q p.low (eq_z_false q (neg_ℤ (pos half)) (sym test ∙ e)); upto = p.high };
    }

pub normal : (x : Float) → T (fits binary64 x) → float_is_finite x ≡ true → Normal (exactly x) (ang_normalize x)
unfolding ang_normalize
normal x fit h =
    let l = left_over_lem x fit h in
    let y = left_over x turn in
    let at : Placed (exactly x) (remainder_of x turn) =
    subst (Placed (exactly x)) (λ i. cond (y ≺ sym minus_half_of_turn i) (y ⊕ turn) (cond (y ≺ sym half_of_turn i) y (y ⊖ turn))) (placed (exactly x) y l.rest l.small) in
    finished (exactly x) (remainder_of x turn) at

pub normalized : (x : Float) → T (fits binary64 x) → float_is_finite x ≡ true → Normalized x
normalized x fit h =
    let n = normal x fit h in
    record {
      is_finite = is_tested binary64 (ang_normalize x) n.exact n.is;
      reduced = subst (Reduced half (exactly x)) (sym (is_value binary64 (ang_normalize x) n.exact n.is)) n.reduced;
    }
