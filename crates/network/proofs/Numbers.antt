-- The sides by their numbers: those of the legs first, then two for each angle; and the units of the faces by theirs.
use Rattle.std.proofs.Common.{◌≡◌, ℕ, ◌+◌, ◌-◌, ◌*◌, ◌/◌, ◌%◌, ◌<◌, ◌≤◌, true, cond, ◌&&◌, eqb, ltb, List, length, ℤ, pos, negsuc, ◌+ℤ◌, ◌-ℤ◌, ap, ◌∙◌, arith}
use lib.Signed.{le_z}
use Rattle.std.proofs.lemmas.Int.{ints}
use Rattle.std.proofs.lemmas.Bool.{cond-true, cond-false, cond_both, eq-eqb, ne_eqb, lt-ltb, le-ltb}
use Rattle.survey.specs.declared.leg.Leg.{Leg}
use Rattle.survey.specs.Counting.{count}
use Rattle.survey.specs.Ends.{ends, outgoing}
use Rattle.survey.specs.Model.{valid_legs}
use Rattle.embedding.specs.Rotation.{face, faces, angle_face}
use Rattle.embedding.specs.Demands.{source_switch, source_switches, demand}
use Rattle.embedding.proofs.Reached.{count_bound}
use Rattle.shape.specs.Nodes.{names_face, above, beneath}
use Rattle.shape.specs.Units.{leg_side, angle_side, back_side, plan_side, plan_wants, plan_gives}
use Rattle.shape.proofs.Places.{face_rank_lt, naming_of}

module _ (legs : List Leg) where
  pub plan_leg : (s : ℕ) → s < ends legs → plan_side legs s ≡ leg_side legs s
  plan_leg s l = cond-true (ltb s (ends legs)) (leg_side legs s) _ (lt-ltb s (ends legs) l)

  past : (s : ℕ) → ends legs ≤ s → plan_side legs s ≡ cond (outgoing s) (angle_side legs ((s - ends legs) / 2)) (back_side legs ((s - ends legs) / 2))
  past s l = cond-false (ltb s (ends legs)) (leg_side legs s) _ (le-ltb s (ends legs) l)

  pub plan_angle : (e : ℕ) → plan_side legs (ends legs + 2 * e) ≡ angle_side legs e
  plan_angle e =
      let s = ends legs + 2 * e in
      let h : (s - ends legs) / 2 ≡ e = omega arith in
      past s (omega arith) ∙ cond-true (outgoing s) (angle_side legs ((s - ends legs) / 2)) (back_side legs ((s - ends legs) / 2)) (eq-eqb (s % 2) 0 (omega arith)) ∙ ap (angle_side legs) h

  pub plan_back : (e : ℕ) → plan_side legs (ends legs + 2 * e + 1) ≡ back_side legs e
  plan_back e =
      let s = ends legs + 2 * e + 1 in
      let h : (s - ends legs) / 2 ≡ e = omega arith in
      past s (omega arith) ∙ cond-false (outgoing s) (angle_side legs ((s - ends legs) / 2)) (back_side legs ((s - ends legs) / 2)) (ne_eqb (s % 2) 0 (λ q. omega arith)) ∙ ap (back_side legs) h

module _ (legs : List Leg) (valid : valid_legs legs ≡ true) (e : ℕ) (l : e < ends legs) (t : face legs e ≡ e) (outer : ℕ) where
  pub wants_at : plan_wants legs outer (count (names_face legs) e) ≡ above (demand legs outer e)
  wants_at = cond-true {A = ℕ} (ltb (count (names_face legs) e) (faces legs)) _ 0 (lt-ltb _ _ (face_rank_lt legs valid e l t)) ∙ ap (λ (f : ℕ). above (demand legs outer f)) (naming_of legs valid e l t)

  pub gives_at : plan_gives legs outer (count (names_face legs) e) ≡ beneath (demand legs outer e)
  gives_at = cond-true {A = ℕ} (ltb (count (names_face legs) e) (faces legs)) _ 1 (lt-ltb _ _ (face_rank_lt legs valid e l t)) ∙ ap (λ (f : ℕ). beneath (demand legs outer f)) (naming_of legs valid e l t)

-- a demand is at least -1 and at most one more than the number of ends
module _ (legs : List Leg) (few : length legs ≤ 256) (outer f : ℕ) where
  switches_le : source_switches legs f ≤ 512
  switches_le = let b = count_bound (λ e. source_switch legs e && eqb (angle_face legs e) f) (ends legs) in omega arith

  pub demand_high : le_z (demand legs outer f) (pos 1000) ≡ true
  demand_high = let b = switches_le in
      cond_both (eqb f outer) (pos (source_switches legs f) +ℤ pos 1) (pos (source_switches legs f) -ℤ pos 1) (λ (d : ℤ). le_z d (pos 1000) ≡ true) (λ t. grind (arith, ints)) (λ t. grind (arith, ints))

  pub demand_low : le_z (negsuc 999) (demand legs outer f) ≡ true
  demand_low = cond_both (eqb f outer) (pos (source_switches legs f) +ℤ pos 1) (pos (source_switches legs f) -ℤ pos 1) (λ (d : ℤ). le_z (negsuc 999) d ≡ true) (λ t. grind (arith, ints)) (λ t. grind (arith, ints))
