-- The sides of a plan's network are proper: in pairs, few, within bounds, and told by node and end.
use Rattle.std.proofs.Common.{◌≡◌, ℕ, ◌+◌, ◌-◌, ◌*◌, ◌/◌, ◌%◌, ◌<◌, ◌≤◌, Bool, true, false, cond, not, ◌&&◌, eqb, ltb, ◌⊎◌, List, length, Option, Some, sym, refl, ap, ◌∙◌, ⊎_elim, arith}
use Rattle.std.specs.Option.{ForSome}
use Rattle.std.proofs.lemmas.Bool.{cases_eq, cond-true, cond-false, cond_both, lt-ltb, le-ltb, ltb-false, eq-eqb, ne_eqb, and_from, and_left, and_right, not_from_true, not_from_false}
use Rattle.survey.specs.declared.leg.Leg.{Leg}
use Rattle.survey.specs.Ends.{ends, no_leg}
use Rattle.survey.specs.Model.{valid_leg, valid_legs}
use Rattle.survey.proofs.Accepted.{in_range, not_met}
use Rattle.survey.proofs.Valid.{valid_at}
use Rattle.embedding.specs.Rotation.{twin, face, faces}
use Rattle.embedding.proofs.Faces.{twin_lt, twin_twin}
use Rattle.search.specs.declared.Bend.{Bend}
use Rattle.search.specs.declared.Side.{Side}
use Rattle.search.specs.Sides.{Proper}
use Rattle.shape.specs.Shapes.{switch, leg_at}
use Rattle.shape.specs.Nodes.{face_node, switch_node, nodes}
use Rattle.shape.specs.Units.{crossing_room, leg_side, angle_side, back_side}
use Rattle.shape.specs.Statements.{HoldsNetwork}
use Rattle.shape.proofs.Places.{face_node_lt, face_node_one, switch_node_lt}
use Rattle.shape.proofs.Listed.{each_side}

bounds : (l : Leg) → valid_leg l ≡ true → (l.weight ≤ 1000) × (l.limit ≤ 999)
bounds l v =
    let a = not_met (ltb 1000 l.weight) 3 1 _ (in_range l v).attributes in
    let b = not_met (ltb 1 l.wet) 3 2 _ a.1 in
    let c = not_met (ltb 999 l.limit) 3 3 _ b.1 in
    (ltb-false _ _ a.0, ltb-false _ _ c.0)

-- the side with a node and an end, among those that can ever be open
abbrev key : List Leg → ℕ → ℕ → ℕ
key legs v e = cond (ltb v (faces legs)) (cond (eqb (face_node legs e) v && not (eqb (face legs e) (face legs (twin e)))) e (ends legs + 2 * e)) (ends legs + (2 * e + 1))

first_of : (b c : Bool) (x y z : ℕ) → b ≡ true → c ≡ true → cond b (cond c x y) z ≡ x
first_of b c x y z p q = rw (p, q)

second_of : (b c : Bool) (x y z : ℕ) → b ≡ true → c ≡ false → cond b (cond c x y) z ≡ y
second_of b c x y z p q = rw (p, q)

abbrev leg_bend : List Leg → ℕ → Option Bend
leg_bend legs i = Some (record { weight = (leg_at legs i).weight; wet = (leg_at legs i).wet })

-- a leg with one face on both sides has no room
no_crossing : (legs : List Leg) (e : ℕ) → face legs e ≡ face legs (twin e) → crossing_room legs e ≡ 0
no_crossing legs e h = cond-true _ _ _ (eq-eqb _ _ h)

module _ (legs : List Leg) (valid : valid_legs legs ≡ true) where
  abbrev Key : Side → Side → ℕ → Type 0
  Key a b s = (0 < a.room) ⊎ (0 < b.room) → key legs a.node a.end ≡ s

  key_leg : (e : ℕ) → e < ends legs → Key (leg_side legs e) (leg_side legs (twin e)) e
  key_leg e l h =
      let ne : face legs e ≡ face legs (twin e) → ⊥ = λ q.
      let a = no_crossing legs e q in
      let b = no_crossing legs (twin e) (sym q ∙ ap (face legs) (sym (twin_twin e))) in
      ⊎_elim (λ (r : 0 < crossing_room legs e). omega arith) (λ (r : 0 < crossing_room legs (twin e)). omega arith) h in
      first_of _ _ _ _ _ (lt-ltb _ _ (face_node_lt legs valid e l)) (and_from _ _ (eq-eqb (face_node legs e) _ refl) (not_from_false _ (ne_eqb _ _ ne)))

  switch_room : (e : ℕ) → 0 < cond (switch legs e) 1 0 → switch legs e ≡ true
  switch_room e = elim (switch legs e) as (λ b. 0 < cond b 1 0 → b ≡ true) [ true ↦ λ h. refl | false ↦ λ h. absurd (omega arith) ]

  key_angle : (e : ℕ) → e < ends legs → Key (angle_side legs e) (back_side legs e) (ends legs + 2 * e)
  key_angle e l h =
      let off : (eqb (face_node legs e) (face_node legs (twin e)) && not (eqb (face legs e) (face legs (twin e)))) ≡ false = ⊎_elim
      (λ (q : face legs e ≡ face legs (twin e)). and_right _ _ (not_from_true _ (eq-eqb _ _ q)))
      (λ (q : face legs e ≡ face legs (twin e) → ⊥). and_left _ _ (ne_eqb _ _ (λ r. q (face_node_one legs valid e (twin e) l (twin_lt (length legs) e l) r))))
      (cases_eq (face legs e) (face legs (twin e))) in
      second_of _ _ _ _ _ (lt-ltb _ _ (face_node_lt legs valid (twin e) (twin_lt (length legs) e l))) off

  key_back : (e : ℕ) → e < ends legs → Key (back_side legs e) (angle_side legs e) (ends legs + (2 * e + 1))
  key_back e l h =
      let t = ⊎_elim (λ (r : 0 < 0). absurd (omega arith)) (switch_room e) h in
      let node : cond (switch legs e) (switch_node legs e) (face_node legs (twin e)) ≡ switch_node legs e = cond-true _ _ _ t in
      cond-false _ _ _ (le-ltb (cond (switch legs e) (switch_node legs e) (face_node legs (twin e))) (faces legs) (omega arith))

  leg_bounds : (e : ℕ) → e < ends legs → ((leg_at legs (e / 2)).weight ≤ 1000) × ((leg_at legs (e / 2)).limit ≤ 999)
  leg_bounds e l = bounds (leg_at legs (e / 2)) (valid_at legs (e / 2) no_leg valid (omega arith))

  crossing_le : (e : ℕ) → e < ends legs → crossing_room legs e ≤ 1000
  crossing_le e l = let b = (leg_bounds e l).1 in cond_both (eqb (face legs e) (face legs (twin e))) 0 (leg_at legs (e / 2)).limit (λ (x : ℕ). x ≤ 1000) (λ q. omega arith) (λ q. omega arith)

  one_le : (e : ℕ) → cond (switch legs e) 1 0 ≤ 1000
  one_le e = cond_both (switch legs e) 1 0 (λ (x : ℕ). x ≤ 1000) (λ q. omega arith) (λ q. omega arith)

  face_node_node : (e : ℕ) → e < ends legs → face_node legs e < nodes legs
  face_node_node e l = let h = face_node_lt legs valid e l in omega arith

  twin_leg : (e : ℕ) → twin e / 2 ≡ e / 2
  twin_leg e = ⊎_elim
      (λ (h : e % 2 ≡ 0). let t = cond-true {A = ℕ} _ (e + 1) (e - 1) (eq-eqb _ _ h) in omega arith)
      (λ (h : e % 2 ≡ 0 → ⊥). let t = cond-false {A = ℕ} _ (e + 1) (e - 1) (ne_eqb _ _ h) in omega arith)
      (cases_eq (e % 2) 0)

  pub proper : (sides : List Side) → HoldsNetwork legs sides → length legs ≤ 256 → Proper (nodes legs) sides
  proper sides holds small =
      let count = holds.count in
      let each = each_side legs sides holds in
      record {
        few = omega arith;
        even = omega arith;
        inside = each (λ a b s. a.node < nodes legs) face_node_node (λ e l. face_node_node (twin e) (twin_lt (length legs) e l))
            (λ e l. cond_both (switch legs e) _ _ (λ (x : ℕ). x < nodes legs) (switch_node_lt legs valid e l) (λ q. face_node_node (twin e) (twin_lt (length legs) e l)));
        low = each (λ a b s. a.end < 65533) (λ e l. omega arith) (λ e l. omega arith) (λ e l. omega arith);
        light = each (λ a b s. ForSome a.bend (λ x. x.weight ≤ 1000)) (λ e l x h. let w : (leg_at legs (e / 2)).weight ≡ x.weight = cc in let q = (leg_bounds e l).0 in omega arith) (λ e l x h. cc) (λ e l x h. cc);
        room = each (λ a b s. a.room ≤ 1000) crossing_le (λ e l. one_le e) (λ e l. omega arith);
        paired = each (λ a b s. b.bend ≡ a.bend) (λ e l. ap (leg_bend legs) (twin_leg e)) (λ e l. refl) (λ e l. refl);
        keyed = λ s t ls lt us ut node end.
            let is = each Key key_leg key_angle key_back in
            sym (is s ls us) ∙ (λ i. key legs (node i) (end i)) ∙ is t lt ut;
      }
