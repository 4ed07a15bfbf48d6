-- What comes to a node and what leaves it, where units and a shape say the same.
use Rattle.std.proofs.Common.{◌≡◌, ℕ, ◌+◌, ◌-◌, ◌*◌, ◌%◌, ◌<◌, ◌≤◌, Bool, true, false, cond, eqb, List, length, sym, refl, ap, ◌∙◌, ⊎_elim, arith}
use Rattle.std.proofs.lemmas.Bool.{cases_Bool, cond-true, cond-false, eq-eqb, ne_eqb}
use Rattle.survey.specs.declared.leg.Leg.{Leg}
use Rattle.survey.specs.Counting.{count}
use Rattle.survey.specs.Ends.{ends, same_station}
use Rattle.survey.specs.Model.{valid_legs}
use Rattle.embedding.specs.Rotation.{twin, face, faces, angle_face}
use Rattle.embedding.proofs.Faces.{stands, twin_lt}
use Rattle.search.specs.declared.Side.{Side}
use Rattle.search.specs.Networks.{twin as paired}
use Rattle.search.specs.Sides.{side_at}
use Rattle.duality.specs.Sums.{sum, at}
use Rattle.duality.proofs.Exchange.{sum_ext, sum_zero}
use Rattle.duality.proofs.Theorems.{numbers}
use Rattle.shape.specs.Shapes.{Shape, switch, large_at, large_in}
use Rattle.shape.specs.Nodes.{names_face, names_switch, face_node, switch_node}
use Rattle.shape.specs.Units.{back_side}
use Rattle.shape.specs.Statements.{HoldsNetwork}
use Rattle.shape.proofs.Splits.{sum_pairs, count_sum}
use Rattle.shape.proofs.Places.{eqb_same, face_node_lt, at_face, face_rank_lt, switch_node_one, lowest_same}
use Rattle.shape.proofs.Listed.{side_leg, side_leg_twin, side_angle, side_angle_twin, sum_sides}

-- the units through angles are the large angles of the shape, none of which stands where there is no source or sink
pub record Angled (legs : List Leg) (z : Shape) (f : ℕ → ℕ) : Type 0 where
  pub large : (e : ℕ) → e < ends legs → f (ends legs + 2 * e) ≡ cond (z.large e) 1 0
  pub back : (e : ℕ) → e < ends legs → f (ends legs + (2 * e + 1)) ≡ 0
  pub still : (e : ℕ) → e < ends legs → switch legs e ≡ false → f (ends legs + 2 * e) ≡ 0

-- what the sides of legs bring to a face, and what they take from it
abbrev pub ins : List Leg → (ℕ → ℕ) → ℕ → ℕ
ins legs f g = sum 0 ◌+◌ (length legs) (λ i. cond (eqb (face legs (2 * i)) g) (f (2 * i)) 0 + cond (eqb (face legs (2 * i + 1)) g) (f (2 * i + 1)) 0)

abbrev pub outs : List Leg → (ℕ → ℕ) → ℕ → ℕ
outs legs f g = sum 0 ◌+◌ (length legs) (λ i. cond (eqb (face legs (2 * i + 1)) g) (f (2 * i)) 0 + cond (eqb (face legs (2 * i)) g) (f (2 * i + 1)) 0)

-- what comes to a node by its sides, and what leaves it by their twins
abbrev pub comes : List Side → (ℕ → ℕ) → ℕ → ℕ
comes sides f v = at (length sides) (λ s. (side_at sides s).node) f v

abbrev pub leaves : List Side → (ℕ → ℕ) → ℕ → ℕ
leaves sides f v = at (length sides) (λ s. (side_at sides (paired s)).node) f v

same_pick : (b c : Bool) (x y : ℕ) → b ≡ c → x ≡ y → cond b x 0 ≡ cond c y 0
same_pick b c x y p q = rw (p, q)

pick_none : (b : Bool) (x : ℕ) → b ≡ false → cond b x 0 ≡ 0
pick_none b x p = rw p

pick_zero : (b : Bool) (x : ℕ) → x ≡ 0 → cond b x 0 ≡ 0
pick_zero true x q = q
pick_zero false x q = refl

pub twin_first : (i : ℕ) → twin (2 * i) ≡ 2 * i + 1
twin_first i = cond-true _ _ _ (eq-eqb ((2 * i) % 2) 0 (omega arith))

pub twin_second : (i : ℕ) → twin (2 * i + 1) ≡ 2 * i
twin_second i = let h : (2 * i + 1) % 2 ≡ 0 → ⊥ = λ q. omega arith in let t = cond-false _ (2 * i + 1 + 1) (2 * i + 1 - 1) (ne_eqb ((2 * i + 1) % 2) 0 h) in omega arith

module _ (legs : List Leg) (valid : valid_legs legs ≡ true) (sides : List Side) (holds : HoldsNetwork legs sides) (z : Shape) (f : ℕ → ℕ) (angled : Angled legs z f) where
  -- a sum at a node, whose sides lead to the nodes that are told
  at_node : (node : ℕ → ℕ) (v : ℕ) (x y : ℕ → ℕ) → ((e : ℕ) → e < ends legs → cond (eqb (node e) v) (f e) 0 ≡ x e) → ((e : ℕ) → e < ends legs → cond (eqb (node (ends legs + 2 * e)) v) (f (ends legs + 2 * e)) 0 ≡ y e) →
      at (length sides) node f v ≡ sum 0 ◌+◌ (ends legs) x + sum 0 ◌+◌ (ends legs) y
  at_node node v x y h k =
      let a = sum_sides legs sides holds numbers (λ s. cond (eqb (node s) v) (f s) 0) in
      let b = sum_ext numbers (ends legs) (λ s. cond (eqb (node s) v) (f s) 0) x h in
      let c = sum_ext numbers (ends legs) (λ e. cond (eqb (node (ends legs + 2 * e)) v) (f (ends legs + 2 * e)) 0 + cond (eqb (node (ends legs + (2 * e + 1))) v) (f (ends legs + (2 * e + 1))) 0) y
      (λ e m. let p = k e m in let q = pick_zero (eqb (node (ends legs + (2 * e + 1))) v) _ (angled.back e m) in omega arith) in
      omega arith

  -- whether a side whose node is known leads to v
  to_node : {d : Side} (s v : ℕ) (b : Bool) → side_at sides s ≡ d → eqb d.node v ≡ b → eqb (side_at sides s).node v ≡ b
  to_node s v b h t = ap (λ (d : Side). eqb d.node v) h ∙ t

  pub comes_face : (g : ℕ) → face legs g ≡ g → comes sides f (count (names_face legs) g) ≡ ins legs f g + large_in legs z g
  comes_face g h =
      let v : ℕ = count (names_face legs) g in
      at_node (λ s. (side_at sides s).node) v (λ e. cond (eqb (face legs e) g) (f e) 0) (λ e. cond (eqb (angle_face legs e) g) (cond (z.large e) 1 0) 0)
      (λ e m. same_pick _ _ _ _ (to_node e v _ (side_leg legs sides holds e m) (at_face legs valid e g m h)) refl)
      (λ e m. same_pick _ _ _ _ (to_node (ends legs + 2 * e) v _ (side_angle legs sides holds e m) (at_face legs valid (twin e) g (twin_lt (length legs) e m) h ∙ ap (λ (x : ℕ). eqb x g) (sym ((stands legs valid).angle e m)))) (angled.large e m))
      ∙ ap (λ (w : ℕ). w + sum 0 ◌+◌ (ends legs) (λ e. cond (eqb (angle_face legs e) g) (cond (z.large e) 1 0) 0)) (sum_pairs numbers (length legs) (λ e. cond (eqb (face legs e) g) (f e) 0))
      ∙ ap (λ (w : ℕ). ins legs f g + w) (sym (count_sum (λ e. eqb (angle_face legs e) g) z.large (ends legs)))

  -- a unit through an angle comes from a source or sink, and from no face
  not_face : (e v : ℕ) → e < ends legs → v < faces legs → cond (eqb (back_side legs e).node v) (f (ends legs + 2 * e)) 0 ≡ 0
  not_face e v m l = ⊎_elim
      (λ (t : switch legs e ≡ true).
      let n = cond-true _ (switch_node legs e) (face_node legs (twin e)) t in
      pick_none (eqb (back_side legs e).node v) _ (ne_eqb _ _ (λ (q : (back_side legs e).node ≡ v). omega arith)))
      (λ (t : switch legs e ≡ false). pick_zero (eqb (back_side legs e).node v) _ (angled.still e m t))
      (cases_Bool (switch legs e))

  pub leaves_face : (g : ℕ) → g < ends legs → face legs g ≡ g → leaves sides f (count (names_face legs) g) ≡ outs legs f g
  leaves_face g l h =
      let v : ℕ = count (names_face legs) g in
      let a = at_node (λ s. (side_at sides (paired s)).node) v (λ e. cond (eqb (face legs (twin e)) g) (f e) 0) (λ e. 0)
      (λ e m. same_pick _ _ _ _ (to_node (paired e) v _ (side_leg_twin legs sides holds e m) (at_face legs valid (twin e) g (twin_lt (length legs) e m) h)) refl)
      (λ e m. same_pick _ _ _ _ (to_node (paired (ends legs + 2 * e)) v _ (side_angle_twin legs sides holds e m) refl) refl ∙ not_face e v m (face_rank_lt legs valid g l h)) in
      let b = sum_pairs numbers (length legs) (λ e. cond (eqb (face legs (twin e)) g) (f e) 0) in
      let c = sum_ext numbers (length legs) (λ i. cond (eqb (face legs (twin (2 * i))) g) (f (2 * i)) 0 + cond (eqb (face legs (twin (2 * i + 1))) g) (f (2 * i + 1)) 0) (λ i. cond (eqb (face legs (2 * i + 1)) g) (f (2 * i)) 0 + cond (eqb (face legs (2 * i)) g) (f (2 * i + 1)) 0)
      (λ i m.
      let x = ap (λ (e : ℕ). cond (eqb (face legs e) g) (f (2 * i)) 0) (twin_first i) in
      let y = ap (λ (e : ℕ). cond (eqb (face legs e) g) (f (2 * i + 1)) 0) (twin_second i) in
      omega arith) in
      let o = sum_zero numbers (ends legs) (λ e. 0) (λ e m. refl) in
      omega arith

  -- past the faces there is no face
  no_face : (v : ℕ) → faces legs ≤ v → (e : ℕ) → e < ends legs → eqb (face_node legs e) v ≡ false
  no_face v l e m = let n = face_node_lt legs valid e m in ne_eqb _ _ (λ (q : face_node legs e ≡ v). omega arith)

  -- nothing leads to a source or sink
  pub comes_switch : (v : ℕ) → faces legs ≤ v → comes sides f v ≡ 0
  comes_switch v l =
      let a = at_node (λ s. (side_at sides s).node) v (λ e. 0) (λ e. 0)
      (λ e m. same_pick _ _ _ _ (to_node e v false (side_leg legs sides holds e m) (no_face v l e m)) refl)
      (λ e m. same_pick _ _ _ _ (to_node (ends legs + 2 * e) v false (side_angle legs sides holds e m) (no_face v l (twin e) (twin_lt (length legs) e m))) refl) in
      let o = sum_zero numbers (ends legs) (λ e. 0) (λ e m. refl) in
      omega arith

  -- a unit through the angle of k comes from the source or sink of e just where the two are one
  from_switch : (e k : ℕ) → e < ends legs → switch legs e ≡ true → k < ends legs →
      cond (eqb (back_side legs k).node (switch_node legs e)) (f (ends legs + 2 * k)) 0 ≡ cond (same_station legs e k) (cond (z.large k) 1 0) 0
  from_switch e k l t m = ⊎_elim
      (λ (s : switch legs k ≡ true).
      same_pick _ _ _ _
      (ap (λ (x : ℕ). eqb x (switch_node legs e)) (cond-true _ (switch_node legs k) (face_node legs (twin k)) s)
      ∙ eqb_same _ _ _ _ (switch_node_one legs valid k e m l s t) (λ q. ap (λ (x : ℕ). faces legs + count (names_switch legs) x) (lowest_same legs k e q)))
      (angled.large k m))
      (λ (s : switch legs k ≡ false).
      pick_zero (eqb (back_side legs k).node (switch_node legs e)) _ (angled.still k m s)
      ∙ sym (pick_zero (same_station legs e k) _ (sym (angled.large k m) ∙ angled.still k m s)))
      (cases_Bool (switch legs k))

  pub leaves_switch : (e : ℕ) → e < ends legs → switch legs e ≡ true → leaves sides f (switch_node legs e) ≡ large_at legs z e
  leaves_switch e l t =
      let v : ℕ = switch_node legs e in
      let a = at_node (λ s. (side_at sides (paired s)).node) v (λ k. 0) (λ k. cond (same_station legs e k) (cond (z.large k) 1 0) 0)
      (λ k m. same_pick _ _ _ _ (to_node (paired k) v false (side_leg_twin legs sides holds k m) (no_face v (omega arith) (twin k) (twin_lt (length legs) k m))) refl)
      (λ k m. same_pick _ _ _ _ (to_node (paired (ends legs + 2 * k)) v _ (side_angle_twin legs sides holds k m) refl) refl ∙ from_switch e k l t m) in
      let o = sum_zero numbers (ends legs) (λ e. 0) (λ e m. refl) in
      let c = count_sum (same_station legs e) z.large (ends legs) in
      omega arith
