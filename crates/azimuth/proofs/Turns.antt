-- The turns of Newton's method one by one, and that they make at most as many evaluations as there are turns.
use Rattle.std.proofs.Common.{◌≡◌, ℕ, zero, suc, ◌+◌, ◌-◌, ◌<◌, ◌≤◌, Bool, true, false, cond, sym, ap, ◌∙◌, arith, ControlFlow, Continue, Break}
use Rattle.functions.specs.Sets.{Funcs}
use Rattle.azimuth.specs.Newton.{judged, one_turn, found, after, turns, solved_azimuth, begun}
use Rattle.ellipsoid.specs.declared.arcs.Azimuth.{Azimuth}
use Rattle.ellipsoid.specs.declared.shape.Ellipsoid.{Ellipsoid}
use Rattle.ellipsoid.specs.declared.latitudes.Ends.{Ends}
use Rattle.ellipsoid.specs.declared.latitudes.Difference.{Difference}
use Rattle.azimuth.specs.declared.newton.Search.{Search}
use Rattle.azimuth.specs.declared.newton.Found.{Found}

turns_left : (i : ℕ) → i < 83 → 83 - i ≡ suc (83 - (i + 1))
turns_left i h = omega arith

cond_few : (b : Bool) (most : ℕ) (r : Found) (t : Search) (others : Search → Found) → r.evaluations ≤ most → (others t).evaluations ≤ most → (after (cond b (Break r) (Continue t)) others).evaluations ≤ most
unfolding after
cond_few true most r t others h g = h
cond_few false most r t others h g = g

module _ (F : Funcs) (E : Ellipsoid) (e : Ends) (d : Difference) where
  turns-one : (i : ℕ) (s : Search) → i < 83 → turns F E e d (83 - i) i s ≡ after (one_turn F E e d i s) (turns F E e d (83 - (i + 1)) (i + 1))
  unfolding turns
  turns-one i s h = ap (λ (m : ℕ). turns F E e d m i s) (turns_left i h)

  pub turns_break : (i : ℕ) (s : Search) (r : Found) (z : Azimuth) → i < 83 → Break r ≡ one_turn F E e d i s → turns F E e d (83 - i) i s ≡ solved_azimuth F E e d z → r ≡ solved_azimuth F E e d z
  unfolding after
  turns_break i s r z h o k = ap (λ (c : ControlFlow Found Search). after c (turns F E e d (83 - (i + 1)) (i + 1))) o ∙ sym (turns-one i s h) ∙ k

  pub turns_continue : (i : ℕ) (s t : Search) (z : Azimuth) → i < 83 → Continue t ≡ one_turn F E e d i s → turns F E e d (83 - i) i s ≡ solved_azimuth F E e d z → turns F E e d (83 - (i + 1)) (i + 1) t ≡ solved_azimuth F E e d z
  unfolding after
  turns_continue i s t z h o k = ap (λ (c : ControlFlow Found Search). after c (turns F E e d (83 - (i + 1)) (i + 1))) o ∙ sym (turns-one i s h) ∙ k

  pub turns_over : (i : ℕ) (s : Search) (z : Azimuth) → 83 ≡ i → turns F E e d (83 - i) i s ≡ solved_azimuth F E e d z → found s 83 ≡ solved_azimuth F E e d z
  unfolding turns
  turns_over i s z h k = ap (λ (m : ℕ). turns F E e d (83 - m) m s) h ∙ k

  one_turn_few : (i most : ℕ) (s : Search) (others : Search → Found) → i + 1 ≤ most → ((t : Search) → (others t).evaluations ≤ most) → (after (one_turn F E e d i s) others).evaluations ≤ most
  unfolding one_turn judged
  one_turn_few i most s others h g = cond_few _ most _ _ others h (g _)

  pub turns_few : (n i most : ℕ) (s : Search) → i + n ≤ most → (turns F E e d n i s).evaluations ≤ most
  unfolding turns
  turns_few zero i most s h = omega arith
  turns_few (suc n) i most s h =
      one_turn_few i most s (turns F E e d n (i + 1)) (omega arith) (λ t. turns_few n (i + 1) most t (omega arith))

  pub solved_few : (z : Azimuth) → (solved_azimuth F E e d z).evaluations ≤ 83
  unfolding solved_azimuth
  solved_few z = turns_few 83 0 83 (begun z) (omega arith)

  pub solved_is : (z : Azimuth) (s : Search) → s ≡ begun z → turns F E e d 83 0 s ≡ solved_azimuth F E e d z
  unfolding solved_azimuth
  solved_is z s h = ap (turns F E e d 83 0) h
