-- A valid shape is a flow that meets the demands and costs no more.
use Rattle.std.proofs.Common.{◌≡◌, ℕ, ◌+◌, ◌*◌, ◌/◌, ◌%◌, ◌<◌, ◌≤◌, Bool, true, false, cond, eqb, List, length, sym, refl, ap, ◌∙◌, subst, ⊎_elim, arith}
use Rattle.std.proofs.lemmas.Bool.{cases_lt, cases_eq, cond-true, cond-false, cond_both, lt-ltb, eq-eqb, ne_eqb}
use Rattle.price.specs.Laws.{Ops, Laws}
use Rattle.survey.specs.declared.leg.Leg.{Leg}
use Rattle.survey.specs.Counting.{count}
use Rattle.survey.specs.Ends.{ends, outgoing, station, same_station}
use Rattle.survey.specs.Model.{valid_legs}
use Rattle.embedding.specs.Rotation.{twin, face, faces}
use Rattle.embedding.specs.Demands.{demand}
use Rattle.search.specs.declared.Side.{Side}
use Rattle.duality.proofs.Exchange.{sum_mono}
use Rattle.duality.proofs.Theorems.{prices}
use Rattle.shape.specs.Shapes.{Shape, Valid, switch, leg_at, shape_price}
use Rattle.shape.specs.Nodes.{names_face, nodes}
use Rattle.shape.specs.Units.{crossing_room, shape_units}
use Rattle.shape.specs.Statements.{HoldsNetwork, HoldsDemands, ShapeFlows}
use Rattle.shape.proofs.Splits.{count_sum, term_le}
use Rattle.shape.proofs.Places.{face_of, switch_of}
use Rattle.shape.proofs.Listed.{at_angle, at_back, each_side}
use Rattle.shape.proofs.AtNodes.{Angled, comes, leaves, twin_first, twin_second, comes_face, leaves_face, comes_switch, leaves_switch}
use Rattle.shape.proofs.Halves.{Halved, halved_even, halved_same, in_units}
use Rattle.shape.proofs.Prices.{times_le, price_is}
use Rattle.shape.proofs.Wanted.{wants_face, gives_face, wants_switch, gives_switch}

cond_le : (b : Bool) (x y : ℕ) → x ≤ y → cond b 0 x ≤ cond b 0 y
cond_le true x y h = omega arith
cond_le false x y h = h

module _ (legs : List Leg) (z : Shape) where
  -- what a shape sends over a leg before it is seen which way
  leg_units : ℕ → ℕ
  leg_units s = cond (eqb (face legs s) (face legs (twin s))) 0 (cond (outgoing s) (z.right (s / 2) / 2) (z.left (s / 2) / 2))

  unit_angle : (e : ℕ) → shape_units legs z (ends legs + 2 * e) ≡ cond (z.large e) 1 0
  unfolding leg_units
  unit_angle e = at_angle (ends legs) e (leg_units (ends legs + 2 * e)) (λ k. cond (z.large k) 1 0) (λ k. 0) (omega arith)

  unit_back : (e : ℕ) → shape_units legs z (ends legs + (2 * e + 1)) ≡ 0
  unfolding leg_units
  unit_back e = at_back (ends legs) e (leg_units (ends legs + (2 * e + 1))) (λ k. cond (z.large k) 1 0) (λ k. 0) (omega arith)

  unit_leg : (e : ℕ) → e < ends legs → shape_units legs z e ≡ cond (eqb (face legs e) (face legs (twin e))) 0 (cond (outgoing e) (z.right (e / 2) / 2) (z.left (e / 2) / 2))
  unit_leg e l = cond-true _ _ _ (lt-ltb e (ends legs) l)

  unit_right : (i : ℕ) → i < length legs → shape_units legs z (2 * i) ≡ cond (eqb (face legs (2 * i)) (face legs (2 * i + 1))) 0 (z.right i / 2)
  unit_right i l =
      let h : (2 * i) / 2 ≡ i = omega arith in
      let a : cond (outgoing (2 * i)) (z.right ((2 * i) / 2) / 2) (z.left ((2 * i) / 2) / 2) ≡ z.right i / 2 = cond-true _ _ _ (eq-eqb ((2 * i) % 2) 0 (omega arith)) ∙ ap (λ (k : ℕ). z.right k / 2) h in
      unit_leg (2 * i) (omega arith) ∙ ap (λ (k : ℕ). cond (eqb (face legs (2 * i)) (face legs k)) 0 (cond (outgoing (2 * i)) (z.right ((2 * i) / 2) / 2) (z.left ((2 * i) / 2) / 2))) (twin_first i)
      ∙ ap (cond (eqb (face legs (2 * i)) (face legs (2 * i + 1))) 0) a

  unit_left : (i : ℕ) → i < length legs → shape_units legs z (2 * i + 1) ≡ cond (eqb (face legs (2 * i + 1)) (face legs (2 * i))) 0 (z.left i / 2)
  unit_left i l =
      let h : (2 * i + 1) / 2 ≡ i = omega arith in
      let odd : (2 * i + 1) % 2 ≡ 0 → ⊥ = λ q. omega arith in
      let a : cond (outgoing (2 * i + 1)) (z.right ((2 * i + 1) / 2) / 2) (z.left ((2 * i + 1) / 2) / 2) ≡ z.left i / 2 = cond-false _ _ _ (ne_eqb ((2 * i + 1) % 2) 0 odd) ∙ ap (λ (k : ℕ). z.left k / 2) h in
      unit_leg (2 * i + 1) (omega arith) ∙ ap (λ (k : ℕ). cond (eqb (face legs (2 * i + 1)) (face legs k)) 0 (cond (outgoing (2 * i + 1)) (z.right ((2 * i + 1) / 2) / 2) (z.left ((2 * i + 1) / 2) / 2))) (twin_second i)
      ∙ ap (cond (eqb (face legs (2 * i + 1)) (face legs (2 * i))) 0) a

  -- the units on a leg are at most half of its bends
  units_le : (i : ℕ) → i < length legs → (shape_units legs z (2 * i) ≤ z.right i / 2) × (shape_units legs z (2 * i + 1) ≤ z.left i / 2)
  units_le i l = (
    subst (λ (x : ℕ). x ≤ z.right i / 2) (sym (unit_right i l)) (cond_both (eqb (face legs (2 * i)) (face legs (2 * i + 1))) 0 (z.right i / 2) (λ (x : ℕ). x ≤ z.right i / 2) (λ q. omega arith) (λ q. omega arith)),
    subst (λ (x : ℕ). x ≤ z.left i / 2) (sym (unit_left i l)) (cond_both (eqb (face legs (2 * i + 1)) (face legs (2 * i))) 0 (z.left i / 2) (λ (x : ℕ). x ≤ z.left i / 2) (λ q. omega arith) (λ q. omega arith)),
  )

  -- only a source or sink has a large angle
  one_large : (outer : ℕ) → Valid legs outer z → (e : ℕ) → e < ends legs → cond (z.large e) 1 0 ≤ cond (switch legs e) 1 0
  one_large outer ok e l =
      let here : ◌≡◌ {A = ℕ} (cond (same_station legs e e) (cond (z.large e) 1 0) 0) (cond (z.large e) 1 0) = cond-true _ _ _ (eq-eqb (station legs e) (station legs e) refl) in
      let a = ok.angles e l in
      let c = count_sum (same_station legs e) z.large (ends legs) in
      let t = term_le (ends legs) e (λ k. cond (same_station legs e k) (cond (z.large k) 1 0) 0) l in
      omega arith

  angled : (outer : ℕ) → Valid legs outer z → Angled legs z (shape_units legs z)
  angled outer ok = record {
    large = λ e l. unit_angle e;
    back = λ e l. unit_back e;
    still = λ e l t. let a = unit_angle e in let b = one_large outer ok e l in let c = cond-false {A = ℕ} (switch legs e) 1 0 t in omega arith;
  }

  halved : (outer : ℕ) → Valid legs outer z → Halved legs z (shape_units legs z)
  halved outer ok i l g = ⊎_elim
      (λ (h : face legs (2 * i) ≡ face legs (2 * i + 1)). halved_same _ _ _ _ _ _ (ap (λ (x : ℕ). eqb x g) h))
      (λ (h : face legs (2 * i) ≡ face legs (2 * i + 1) → ⊥). halved_even _ _ _ _ _ _ (ok.even i l)
      (unit_right i l ∙ cond-false _ _ _ (ne_eqb _ _ h))
      (unit_left i l ∙ cond-false _ _ _ (ne_eqb _ _ (λ q. h (sym q)))))
      (cases_eq (face legs (2 * i)) (face legs (2 * i + 1)))

  leg_fits : (outer : ℕ) → Valid legs outer z → (e : ℕ) → e < ends legs → shape_units legs z e ≤ crossing_room legs e
  leg_fits outer ok e l =
      let b = ok.bounded (e / 2) (omega arith) in
      subst (λ (x : ℕ). x ≤ crossing_room legs e) (sym (unit_leg e l))
      (cond_le (eqb (face legs e) (face legs (twin e))) _ (leg_at legs (e / 2)).limit
      (cond_both (outgoing e) (z.right (e / 2) / 2) (z.left (e / 2) / 2) (λ (x : ℕ). x ≤ (leg_at legs (e / 2)).limit) (λ q. omega arith) (λ q. omega arith)))

module _ {P : Type 0} {ops : Ops P} (L : Laws ops) (rate : ℕ → ℕ → P) (low : (w f : ℕ) → ops.leq ops.zero (rate w f) ≡ true)
    (legs : List Leg) (outer : ℕ) (sides : List Side) (p q : ℕ → ℕ) (valid : valid_legs legs ≡ true) (held : HoldsNetwork legs sides) (demands : HoldsDemands legs outer p q) where
  at_face : (z : Shape) → Valid legs outer z → (g : ℕ) → g < ends legs → face legs g ≡ g →
      comes sides (shape_units legs z) (count (names_face legs) g) + q (count (names_face legs) g) ≡ leaves sides (shape_units legs z) (count (names_face legs) g) + p (count (names_face legs) g)
  at_face z ok g l h =
      let f = shape_units legs z in
      let a = comes_face legs valid sides held z f (angled legs z outer ok) g h in
      let b = leaves_face legs valid sides held z f (angled legs z outer ok) g l h in
      let c = in_units legs z f (halved legs z outer ok) g (demand legs outer g) (ok.balance g l h) in
      let w = wants_face legs valid outer p q demands g l h in
      let x = gives_face legs valid outer p q demands g l h in
      omega arith

  at_switch : (z : Shape) → Valid legs outer z → (v : ℕ) → faces legs ≤ v → v < nodes legs → comes sides (shape_units legs z) v + q v ≡ leaves sides (shape_units legs z) v + p v
  at_switch z ok v h l =
      let f = shape_units legs z in
      let s = switch_of legs valid v h l in
      let a = comes_switch legs valid sides held z f (angled legs z outer ok) v h in
      let b = subst (λ (x : ℕ). leaves sides f x ≡ 1) s.3 (leaves_switch legs valid sides held z f (angled legs z outer ok) s.0 s.1 s.2 ∙ ok.angles s.0 s.1 ∙ cond-true _ _ _ s.2) in
      let w = wants_switch legs valid outer p q demands v h l in
      let x = gives_switch legs valid outer p q demands v h l in
      omega arith

  pub to_flow : (z : Shape) → Valid legs outer z → ShapeFlows ops rate legs sides p q z
  to_flow z ok = record {
    fits = each_side legs sides held (λ a b s. shape_units legs z s ≤ a.room) (leg_fits legs z outer ok)
        (λ e l. let a = unit_angle legs z e in let b = one_large legs z outer ok e l in omega arith)
        (λ e l. let a = unit_back legs z e in omega arith);
    meets = λ v l. ⊎_elim
        (λ (h : v < faces legs).
        let w = face_of legs valid v h in
        subst (λ (x : ℕ). comes sides (shape_units legs z) x + q x ≡ leaves sides (shape_units legs z) x + p x) w.3 (at_face z ok w.0 w.1 w.2))
        (λ (h : faces legs ≤ v). at_switch z ok v h l)
        (cases_lt v (faces legs));
    costs = subst (λ (x : P). ops.leq x (shape_price ops rate legs z) ≡ true) (sym (price_is L rate legs sides held (shape_units legs z)))
        (sum_mono (prices L) (length legs) _ _ (λ i l. times_le (prices L) (rate (leg_at legs i).weight (leg_at legs i).wet) _ _ (let u = units_le legs z i l in omega arith) (low _ _)));
  }
