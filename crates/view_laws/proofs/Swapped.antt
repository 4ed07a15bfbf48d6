-- The reversed view is a view.
use Rattle.std.proofs.Common.{◌≡◌, ℕ, ◌<◌, Bool, true, false, cond, ◌||◌, eqb, ltb, refl, ap, ◌∙◌, arith}
use Rattle.std.proofs.lemmas.Bool.Decides.{nat_tests as tests}
use Rattle.refusal.specs.Answers.{Answer, refuses}
use Rattle.survey.specs.declared.leg.Leg.{Leg}
use Rattle.survey.specs.Ends.{far_bearing}
use Rattle.survey.specs.Model.{is_accepted, attributes_answer, attributes_of, leg_answer, valid_leg, coincide, clash}
use Rattle.view_laws.specs.Views.{with_bearing, swapped, opposite, reversed_shows, reversed_sends}
use Rattle.view_laws.specs.Laws.{ViewLaws}
use Rattle.view_laws.proofs.Bearings.{not_over, bearing_small}

or_turn : (a b c d : Bool) → ((d || c) || (b || a)) ≡ ((a || b) || (c || d))
or_turn a b c d = grind arith

same_station : (s t : ℕ) (rest : Answer) → cond (eqb t s) (refuses 2 t) rest ≡ cond (eqb s t) (refuses 2 s) rest
same_station s t rest = grind (arith, tests)

-- what a bearing meets, and the attributes after it
abbrev from_bearing : Leg → ℕ → Answer
from_bearing l b = cond (ltb 3599 b) (refuses 3 b) (attributes_answer (attributes_of l))

same_answer : (l : Leg) (b : ℕ) → from_bearing l b ≡ from_bearing l l.bearing → leg_answer (swapped l b) ≡ leg_answer l
same_answer l b e = let s = same_station l.from l.to (from_bearing l b) in grind (arith, tests)

opposite_in : (b : ℕ) → ltb 3599 (opposite b) ≡ false
opposite_in b = not_over _ (omega arith)

both_in : (l : Leg) (b c : ℕ) → ltb 3599 b ≡ false → ltb 3599 c ≡ false → from_bearing l b ≡ from_bearing l c
both_in l b c p q = rw (p, q) refl

refusal_at : (l : Leg) → leg_answer (reversed_sends l) ≡ leg_answer l
refusal_at l = elim (ltb 3599 l.bearing) as (λ v. ltb 3599 l.bearing ≡ v → leg_answer (swapped l (cond v l.bearing (opposite l.bearing))) ≡ leg_answer l) [
  | true ↦ λ p. same_answer l l.bearing refl
  | false ↦ λ p. same_answer l _ (both_in l _ _ (opposite_in l.bearing) p)
] refl

twice : (b : ℕ) → b < 3600 → opposite (opposite b) ≡ b
twice b h = omega arith

as_given_at : (l : Leg) → valid_leg l ≡ true → reversed_shows (reversed_sends l) ≡ l
as_given_at l h =
    let r = bearing_small l h in
    ap (λ (v : Bool). reversed_shows (swapped l (cond v l.bearing (opposite l.bearing)))) (not_over l.bearing r) ∙ ap (with_bearing l) (twice l.bearing r)

as_kept_at : (l : Leg) → valid_leg l ≡ true → reversed_sends (reversed_shows l) ≡ l
as_kept_at l h =
    let b = opposite l.bearing in
    ap (λ (v : Bool). with_bearing l (cond v b (opposite b))) (opposite_in l.bearing) ∙ ap (with_bearing l) (twice l.bearing (bearing_small l h))

valid_at : (l : Leg) → valid_leg l ≡ true → valid_leg (reversed_shows l) ≡ true
valid_at l h = ap is_accepted (same_answer l _ (both_in l _ _ (opposite_in l.bearing) (not_over _ (bearing_small l h)))) ∙ h

clashes_at : (a b : Leg) → valid_leg a ≡ true → valid_leg b ≡ true → clash (reversed_shows a) (reversed_shows b) ≡ clash a b
clashes_at a b p q =
    let x = twice a.bearing (bearing_small a p) in
    let y = twice b.bearing (bearing_small b q) in
    let o = or_turn (coincide a.from a.bearing b.from b.bearing) (coincide a.from a.bearing b.to (far_bearing b)) (coincide a.to (far_bearing a) b.from b.bearing) (coincide a.to (far_bearing a) b.to (far_bearing b)) in
    cc

pub reversed_laws : ViewLaws reversed_shows reversed_sends
reversed_laws = record { refusal = refusal_at; as_given = as_given_at; as_kept = as_kept_at; valid = valid_at; clashes = clashes_at; attributes = λ l. refl; amends = λ x l. refl }
