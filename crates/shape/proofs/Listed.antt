-- The sides of a plan's network by what they are: of a leg, through an angle, or back.
use Rattle.std.proofs.Common.{◌≡◌, ℕ, ◌+◌, ◌-◌, ◌*◌, ◌/◌, ◌%◌, ◌<◌, ◌≤◌, cond, ltb, List, length, sym, refl, ap, ◌∙◌, subst, ⊎_elim, arith}
use Rattle.std.proofs.lemmas.Bool.{cases_lt, cases_eq, cond-true, lt-ltb, le-ltb, eq-eqb, ne_eqb}
use Rattle.survey.specs.declared.leg.Leg.{Leg}
use Rattle.survey.specs.Ends.{ends, outgoing}
use Rattle.embedding.specs.Rotation.{twin}
use Rattle.embedding.proofs.Faces.{twin_lt}
use Rattle.search.specs.declared.Side.{Side}
use Rattle.search.specs.Networks.{twin as paired}
use Rattle.search.specs.Sides.{side_at}
use Rattle.search.proofs.Twins.{twin_even, twin_odd}
use Rattle.duality.specs.Sums.{Ordered, sum}
use Rattle.shape.specs.Units.{leg_side, angle_side, back_side, side_count, plan_side}
use Rattle.shape.specs.Statements.{HoldsNetwork}
use Rattle.shape.proofs.Splits.{sum_append, sum_pairs}

-- what is told of the sides of legs, of those through angles and of those back, by end, at a side through an angle
pub at_angle : {A : Type 0} (n e : ℕ) (x : A) (y w : ℕ → A) → n % 2 ≡ 0 → cond (ltb (n + 2 * e) n) x (cond (outgoing (n + 2 * e)) (y ((n + 2 * e - n) / 2)) (w ((n + 2 * e - n) / 2))) ≡ y e
at_angle n e x y w even =
    let h : (n + 2 * e - n) / 2 ≡ e = omega arith in
    rw (le-ltb (n + 2 * e) n (omega arith), eq-eqb ((n + 2 * e) % 2) 0 (omega arith)) (ap y h)

-- and at a side back
pub at_back : {A : Type 0} (n e : ℕ) (x : A) (y w : ℕ → A) → n % 2 ≡ 0 →
    cond (ltb (n + (2 * e + 1)) n) x (cond (outgoing (n + (2 * e + 1))) (y ((n + (2 * e + 1) - n) / 2)) (w ((n + (2 * e + 1) - n) / 2))) ≡ w e
at_back n e x y w even =
    let h : (n + (2 * e + 1) - n) / 2 ≡ e = omega arith in
    let odd : (n + (2 * e + 1)) % 2 ≡ 0 → ⊥ = λ q. omega arith in
    rw (le-ltb (n + (2 * e + 1)) n (omega arith), ne_eqb ((n + (2 * e + 1)) % 2) 0 odd) (ap w h)

module _ (legs : List Leg) where
  -- a side is one of a leg, one through an angle, or one back
  by_side : (Q : ℕ → Type 0) → ((e : ℕ) → e < ends legs → Q e) → ((e : ℕ) → e < ends legs → Q (ends legs + 2 * e)) → ((e : ℕ) → e < ends legs → Q (ends legs + (2 * e + 1))) →
      (s : ℕ) → s < side_count legs → Q s
  by_side Q leg angle back s l =
      let e : ℕ = (s - ends legs) / 2 in
      ⊎_elim
      (λ (h : s < ends legs). leg s h)
      (λ (h : ends legs ≤ s). ⊎_elim
      (λ (t : s % 2 ≡ 0). let q : ends legs + 2 * e ≡ s = omega arith in subst Q q (angle e (omega arith)))
      (λ (t : s % 2 ≡ 0 → ⊥). let q : ends legs + (2 * e + 1) ≡ s = omega arith in subst Q q (back e (omega arith)))
      (cases_eq (s % 2) 0))
      (cases_lt s (ends legs))

  leg_is : (e : ℕ) → e < ends legs → plan_side legs e ≡ leg_side legs e
  leg_is e l = cond-true _ _ _ (lt-ltb _ _ l)

  angle_is : (e : ℕ) → plan_side legs (ends legs + 2 * e) ≡ angle_side legs e
  angle_is e = at_angle (ends legs) e (leg_side legs (ends legs + 2 * e)) (angle_side legs) (back_side legs) (omega arith)

  back_is : (e : ℕ) → plan_side legs (ends legs + (2 * e + 1)) ≡ back_side legs e
  back_is e = at_back (ends legs) e (leg_side legs (ends legs + (2 * e + 1))) (angle_side legs) (back_side legs) (omega arith)

  pub paired_leg : (e : ℕ) → paired e ≡ twin e
  unfolding paired
  paired_leg e = refl

  paired_angle : (e : ℕ) → paired (ends legs + 2 * e) ≡ ends legs + (2 * e + 1)
  paired_angle e = let h = twin_even (ends legs + 2 * e) (omega arith) in omega arith

  paired_back : (e : ℕ) → paired (ends legs + (2 * e + 1)) ≡ ends legs + 2 * e
  paired_back e = let h = twin_odd (ends legs + (2 * e + 1)) (λ q. omega arith) in omega arith

module _ (legs : List Leg) (sides : List Side) (holds : HoldsNetwork legs sides) where
  pub side_leg : (e : ℕ) → e < ends legs → side_at sides e ≡ leg_side legs e
  side_leg e l = holds.each e (omega arith) ∙ leg_is legs e l

  pub side_leg_twin : (e : ℕ) → e < ends legs → side_at sides (paired e) ≡ leg_side legs (twin e)
  side_leg_twin e l = ap (side_at sides) (paired_leg legs e) ∙ side_leg (twin e) (twin_lt (length legs) e l)

  pub side_angle : (e : ℕ) → e < ends legs → side_at sides (ends legs + 2 * e) ≡ angle_side legs e
  side_angle e l = holds.each (ends legs + 2 * e) (omega arith) ∙ angle_is legs e

  pub side_back : (e : ℕ) → e < ends legs → side_at sides (ends legs + (2 * e + 1)) ≡ back_side legs e
  side_back e l = holds.each (ends legs + (2 * e + 1)) (omega arith) ∙ back_is legs e

  pub side_angle_twin : (e : ℕ) → e < ends legs → side_at sides (paired (ends legs + 2 * e)) ≡ back_side legs e
  side_angle_twin e l = ap (side_at sides) (paired_angle legs e) ∙ side_back e l

  side_back_twin : (e : ℕ) → e < ends legs → side_at sides (paired (ends legs + (2 * e + 1))) ≡ angle_side legs e
  side_back_twin e l = ap (side_at sides) (paired_back legs e) ∙ side_angle e l

  -- what holds of each side, by what it is, beside its twin
  pub each_side : (Q : Side → Side → ℕ → Type 0) →
      ((e : ℕ) → e < ends legs → Q (leg_side legs e) (leg_side legs (twin e)) e) →
      ((e : ℕ) → e < ends legs → Q (angle_side legs e) (back_side legs e) (ends legs + 2 * e)) →
      ((e : ℕ) → e < ends legs → Q (back_side legs e) (angle_side legs e) (ends legs + (2 * e + 1))) →
      (s : ℕ) → s < length sides → Q (side_at sides s) (side_at sides (paired s)) s
  each_side Q leg angle back s l =
      let count = holds.count in
      by_side legs (λ s. Q (side_at sides s) (side_at sides (paired s)) s)
      (λ e l. both (side_leg e l) (side_leg_twin e l) (leg e l))
      (λ e l. both (side_angle e l) (side_angle_twin e l) (angle e l))
      (λ e l. both (side_back e l) (side_back_twin e l) (back e l))
      s (omega arith)
    where
      both : {s : ℕ} {a b c d : Side} → a ≡ c → b ≡ d → Q c d s → Q a b s
      both {s} {a} {b} {c} {d} p q h = subst (λ (x : Side). Q x b s) (sym p) (subst (λ (x : Side). Q c x s) (sym q) h)

  pub sum_sides : {P : Type 0} {o : P} {add : P → P → P} {le : P → P → Type 0} → Ordered o add le → (g : ℕ → P) →
      sum o add (length sides) g ≡ add (sum o add (ends legs) g) (sum o add (ends legs) (λ e. add (g (ends legs + 2 * e)) (g (ends legs + (2 * e + 1)))))
  sum_sides {o = o} {add = add} laws g =
      ap (λ (k : ℕ). sum o add k g) holds.count ∙ sum_append laws (ends legs) (2 * ends legs) g ∙ ap (add (sum o add (ends legs) g)) (sum_pairs laws (ends legs) (λ k. g (ends legs + k)))
