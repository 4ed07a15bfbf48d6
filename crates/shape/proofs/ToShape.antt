-- A flow that meets the demands and goes one way only makes a valid shape of its price.
use Rattle.std.proofs.Common.{◌≡◌, ℕ, ◌+◌, ◌*◌, ◌/◌, ◌<◌, ◌≤◌, Bool, true, false, cond, eqb, ltb, ◌⊎◌, List, length, sym, refl, ap, ◌∙◌, subst, inl, inr, ⊎_elim, arith}
use Rattle.std.proofs.lemmas.Bool.{cases_Bool, cases_lt, cond-true, cond-false, cond_both, lt-ltb, le-ltb, eqb-true}
use Rattle.price.specs.Laws.{Ops, Laws}
use Rattle.survey.specs.declared.leg.Leg.{Leg}
use Rattle.survey.specs.Counting.{count}
use Rattle.survey.specs.Ends.{ends, same_station}
use Rattle.survey.specs.Model.{valid_legs}
use Rattle.embedding.specs.Rotation.{twin, face}
use Rattle.embedding.specs.Demands.{demand}
use Rattle.search.specs.declared.Side.{Side}
use Rattle.search.specs.Networks.{twin as paired}
use Rattle.search.specs.Sides.{side_at, network}
use Rattle.solve.specs.Solutions.{arcs, OneWay}
use Rattle.duality.specs.Sums.{times}
use Rattle.duality.specs.Flows.{Fits, Meets}
use Rattle.duality.proofs.Exchange.{sum_ext, sum_zero}
use Rattle.duality.proofs.Theorems.{prices, numbers}
use Rattle.shape.specs.Shapes.{switch, leg_at, large_at}
use Rattle.shape.specs.Nodes.{names_face, switch_node, nodes}
use Rattle.shape.specs.Units.{units_shape}
use Rattle.shape.specs.Statements.{HoldsNetwork, HoldsDemands, FlowShapes}
use Rattle.shape.proofs.Splits.{count_sum}
use Rattle.shape.proofs.Places.{switch_same, switch_node_lt, face_rank_lt}
use Rattle.shape.proofs.Listed.{paired_leg, side_leg, side_angle, side_back}
use Rattle.shape.proofs.AtNodes.{Angled, comes, leaves, twin_first, comes_face, leaves_face, comes_switch, leaves_switch}
use Rattle.shape.proofs.Halves.{Halved, halved_double, in_bends}
use Rattle.shape.proofs.Prices.{price_is}
use Rattle.shape.proofs.Wanted.{wants_face, gives_face, wants_switch, gives_switch}

-- a number of at most one, by its test
flag : (x : ℕ) → x ≤ 1 → x ≡ cond (ltb 0 x) 1 0
flag x h = ⊎_elim
    (λ (l : 0 < x). let e : x ≡ 1 = omega arith in e ∙ sym (cond-true _ _ _ (lt-ltb 0 x l)))
    (λ (l : x ≤ 0). let e : x ≡ 0 = omega arith in e ∙ sym (cond-false _ _ _ (le-ltb 0 x l)))
    (cases_lt 0 x)

at_most : (b : Bool) (x : ℕ) → cond b 0 x ≤ x
at_most true x = omega arith
at_most false x = omega arith

module _ (legs : List Leg) (sides : List Side) (held : HoldsNetwork legs sides) (f : ℕ → ℕ)
    (fits : (s : ℕ) → s < length sides → f s ≤ (side_at sides s).room) (one_way : (s : ℕ) → s < length sides → 0 < f s → f (paired s) ≡ 0) where
  back : (e : ℕ) → e < ends legs → f (ends legs + (2 * e + 1)) ≡ 0
  back e l =
      let count = held.count in
      let h = fits (ends legs + (2 * e + 1)) (omega arith) in
      let r = ap (λ (d : Side). d.room) (side_back legs sides held e l) in
      omega arith

  angle : (e : ℕ) → e < ends legs → f (ends legs + 2 * e) ≤ cond (switch legs e) 1 0
  angle e l =
      let count = held.count in
      subst (λ (d : Side). f (ends legs + 2 * e) ≤ d.room) (side_angle legs sides held e l) (fits (ends legs + 2 * e) (omega arith))

  angle_one : (e : ℕ) → e < ends legs → f (ends legs + 2 * e) ≤ 1
  angle_one e l = let h = angle e l in let b = cond_both (switch legs e) 1 0 (λ (x : ℕ). x ≤ 1) (λ q. omega arith) (λ q. omega arith) in omega arith

  angled : Angled legs (units_shape legs f) f
  angled = record {
    large = λ e l. flag (f (ends legs + 2 * e)) (angle_one e l);
    back = back;
    still = λ e l t. let h = angle e l in let c = cond-false {A = ℕ} (switch legs e) 1 0 t in omega arith;
  }

  halved : Halved legs (units_shape legs f) f
  halved i l g = halved_double _ _ _ _ _ _ refl refl

  leg_room : (e i : ℕ) → e < ends legs → e / 2 ≡ i → f e ≤ (leg_at legs i).limit
  leg_room e i l h =
      let count = held.count in
      let a = subst (λ (d : Side). f e ≤ d.room) (side_leg legs sides held e l) (fits e (omega arith)) in
      let b = at_most (eqb (face legs e) (face legs (twin e))) (leg_at legs (e / 2)).limit in
      subst (λ (j : ℕ). f e ≤ (leg_at legs j).limit) h (omega arith)

  -- a leg carries units one way only
  either : (i : ℕ) → i < length legs → (f (2 * i + 1) ≡ 0) ⊎ (f (2 * i) ≡ 0)
  either i l = let count = held.count in ⊎_elim
      (λ (h : 0 < f (2 * i)). inl (ap f (sym (twin_first i) ∙ sym (paired_leg legs (2 * i))) ∙ one_way (2 * i) (omega arith) h))
      (λ (h : f (2 * i) ≤ 0). inr (omega arith))
      (cases_lt 0 (f (2 * i)))

  bounded : (i : ℕ) → i < length legs → (2 * f (2 * i + 1) + 2 * f (2 * i)) / 2 ≤ (leg_at legs i).limit
  bounded i l =
      let a = leg_room (2 * i) i (omega arith) (omega arith) in
      let b = leg_room (2 * i + 1) i (omega arith) (omega arith) in
      ⊎_elim (λ (h : f (2 * i + 1) ≡ 0). omega arith) (λ (h : f (2 * i) ≡ 0). omega arith) (either i l)

  -- a station that is no source or sink has no large angle
  none_large : (e : ℕ) → switch legs e ≡ false → large_at legs (units_shape legs f) e ≡ 0
  none_large e t =
      count_sum (same_station legs e) (units_shape legs f).large (ends legs)
      ∙ sum_zero numbers (ends legs) _ (λ k l. ⊎_elim
      (λ (s : same_station legs e k ≡ true).
      cond-true _ _ _ s ∙ sym (angled.large k l) ∙ angled.still k l (switch_same legs k e (eqb-true _ _ s) ∙ t))
      (λ (s : same_station legs e k ≡ false). cond-false _ _ _ s)
      (cases_Bool (same_station legs e k)))

module _ {P : Type 0} {ops : Ops P} (L : Laws ops) (rate : ℕ → ℕ → P)
    (legs : List Leg) (outer : ℕ) (sides : List Side) (p q : ℕ → ℕ) (valid : valid_legs legs ≡ true) (held : HoldsNetwork legs sides) (demands : HoldsDemands legs outer p q) where
  pub to_shape : (f : ℕ → ℕ) → Fits (arcs (nodes legs) (network ops rate sides)) f → OneWay (network ops rate sides) f → Meets (arcs (nodes legs) (network ops rate sides)) p q f → FlowShapes ops rate legs outer sides f
  to_shape f fits one_way meets =
      let z = units_shape legs f in
      let ang = angled legs sides held f fits one_way in
      record {
        valid = record {
          angles = λ e l. ⊎_elim
              (λ (t : switch legs e ≡ true).
              let v : ℕ = switch_node legs e in
              let n = switch_node_lt legs valid e l t in
              let m : comes sides f v + q v ≡ leaves sides f v + p v = meets v n in
              let a = comes_switch legs valid sides held z f ang v (omega arith) in
              let b = leaves_switch legs valid sides held z f ang e l t in
              let w = wants_switch legs valid outer p q demands v (omega arith) n in
              let x = gives_switch legs valid outer p q demands v (omega arith) n in
              let one : large_at legs z e ≡ 1 = omega arith in
              one ∙ sym (cond-true _ _ _ t))
              (λ (t : switch legs e ≡ false). none_large legs sides held f fits one_way e t ∙ sym (cond-false _ _ _ t))
              (cases_Bool (switch legs e));
          even = λ i l. omega arith;
          bounded = bounded legs sides held f fits one_way;
          balance = λ g l h.
              let v : ℕ = count (names_face legs) g in
              let n = face_rank_lt legs valid g l h in
              let m : comes sides f v + q v ≡ leaves sides f v + p v = meets v (omega arith) in
              let a = comes_face legs valid sides held z f ang g h in
              let b = leaves_face legs valid sides held z f ang g l h in
              let w = wants_face legs valid outer p q demands g l h in
              let x = gives_face legs valid outer p q demands g l h in
              in_bends legs z f (halved legs sides held f fits one_way) g (demand legs outer g) (omega arith);
        };
        costs = sum_ext (prices L) (length legs) _ _ (λ i l.
            let e : 2 * f (2 * i + 1) + 2 * f (2 * i) ≡ f (2 * i) + f (2 * i) + (f (2 * i + 1) + f (2 * i + 1)) = omega arith in
            ap (λ (k : ℕ). times ops.zero ops.plus k (rate (leg_at legs i).weight (leg_at legs i).wet)) e)
            ∙ sym (price_is L rate legs sides held f);
        one_sided = λ i l. ⊎_elim (λ (h : f (2 * i + 1) ≡ 0). inl (omega arith)) (λ (h : f (2 * i) ≡ 0). inr (omega arith)) (either legs sides held f fits one_way i l);
      }
