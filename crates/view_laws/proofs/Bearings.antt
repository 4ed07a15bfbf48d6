-- Views that alter bearings alone: what such a map of bearings owes, and that it makes a view.
use Rattle.std.proofs.Common.{◌≡◌, ℕ, ◌<◌, Bool, true, false, cond, ◌||◌, eqb, ltb, sym, refl, ap, ◌∙◌, arith}
use Rattle.std.proofs.lemmas.Bool.Decides.{nat_tests as tests}
use Rattle.refusal.specs.Answers.{Answer, refuses}
use Rattle.survey.specs.declared.leg.Leg.{Leg}
use Rattle.survey.specs.Ends.{far_bearing}
use Rattle.survey.specs.Model.{is_accepted, attributes_answer, attributes_of, no_station, leg_answer, valid_leg, clash}
use Rattle.survey.proofs.Accepted.{in_range}
use Rattle.view_laws.specs.Views.{with_bearing, turned, turned_back, opposite, mirrored, shows_bearing, sends_bearing}
use Rattle.view_laws.specs.Laws.{ViewLaws}

pub not_over : (b : ℕ) → b < 3600 → ltb 3599 b ≡ false
not_over b h = grind (arith, tests)

pub not_under : (b : ℕ) → ltb 3599 b ≡ false → b < 3600
not_under b h = grind (arith, tests)

-- a valid leg's bearing
pub bearing_small : (l : Leg) → valid_leg l ≡ true → l.bearing < 3600
bearing_small l h = not_under l.bearing (in_range l h).bearing

-- a map of bearings with a way back, which keeps opposite bearings opposite
pub record Turns (f g : ℕ → ℕ) : Type 0 where
  pub forth_small : (b : ℕ) → b < 3600 → f b < 3600
  pub back_small : (b : ℕ) → b < 3600 → g b < 3600
  pub forth : (b : ℕ) → b < 3600 → f (g b) ≡ b
  pub back : (b : ℕ) → b < 3600 → g (f b) ≡ b
  pub distinct : (b c : ℕ) → b < 3600 → c < 3600 → eqb (f b) (f c) ≡ eqb b c
  pub opposites : (b : ℕ) → b < 3600 → opposite (f b) ≡ f (opposite b)

-- the causes that a leg's own numbers meet, by its bearing
abbrev answer_at : Leg → Bool → ℕ → Answer
answer_at l over b = cond (no_station l.from || no_station l.to) (refuses 1 0) (cond (eqb l.from l.to) (refuses 2 l.from) (cond over (refuses 3 b) (attributes_answer (attributes_of l))))

same_answer : (l : Leg) (b : ℕ) → ltb 3599 b ≡ false → ltb 3599 l.bearing ≡ false → leg_answer (with_bearing l b) ≡ leg_answer l
same_answer l b p q = ap (λ (v : Bool). answer_at l v b) p ∙ ap (λ (v : Bool). answer_at l v l.bearing) (sym q)

opposite_small : (b : ℕ) → opposite b < 3600
opposite_small b = omega arith

module _ {f g : ℕ → ℕ} (t : Turns f g) where
  refusal_at : (l : Leg) → leg_answer (sends_bearing g l) ≡ leg_answer l
  refusal_at l = elim (ltb 3599 l.bearing) as (λ v. ltb 3599 l.bearing ≡ v → leg_answer (with_bearing l (cond v l.bearing (g l.bearing))) ≡ leg_answer l) [
    | true ↦ λ p. refl
    | false ↦ λ p. same_answer l (g l.bearing) (not_over _ (t.back_small l.bearing (not_under l.bearing p))) p
  ] refl

  as_given_at : (l : Leg) → valid_leg l ≡ true → shows_bearing f (sends_bearing g l) ≡ l
  as_given_at l h =
      let r = bearing_small l h in
      ap (λ (v : Bool). with_bearing l (f (cond v l.bearing (g l.bearing)))) (not_over l.bearing r) ∙ ap (with_bearing l) (t.forth l.bearing r)

  as_kept_at : (l : Leg) → valid_leg l ≡ true → sends_bearing g (shows_bearing f l) ≡ l
  as_kept_at l h =
      let r = bearing_small l h in
      let b = f l.bearing in
      ap (λ (v : Bool). with_bearing l (cond v b (g b))) (not_over b (t.forth_small l.bearing r)) ∙ ap (with_bearing l) (t.back l.bearing r)

  valid_at : (l : Leg) → valid_leg l ≡ true → valid_leg (shows_bearing f l) ≡ true
  valid_at l h =
      let r = bearing_small l h in
      ap is_accepted (same_answer l (f l.bearing) (not_over _ (t.forth_small l.bearing r)) (not_over _ r)) ∙ h

  clashes_at : (a b : Leg) → valid_leg a ≡ true → valid_leg b ≡ true → clash (shows_bearing f a) (shows_bearing f b) ≡ clash a b
  clashes_at a b p q =
      let x = bearing_small a p in
      let y = bearing_small b q in
      let e1 = t.distinct a.bearing b.bearing x y in
      let e2 = t.distinct a.bearing (far_bearing b) x (opposite_small b.bearing) in
      let e3 = t.distinct (far_bearing a) b.bearing (opposite_small a.bearing) y in
      let e4 = t.distinct (far_bearing a) (far_bearing b) (opposite_small a.bearing) (opposite_small b.bearing) in
      let u = t.opposites a.bearing x in
      let v = t.opposites b.bearing y in cc

  pub turns_laws : ViewLaws (shows_bearing f) (sends_bearing g)
  turns_laws = record { refusal = refusal_at; as_given = as_given_at; as_kept = as_kept_at; valid = valid_at; clashes = clashes_at; attributes = λ l. refl; amends = λ x l. refl }

turned_distinct : (d b c : ℕ) → b < 3600 → c < 3600 → eqb (turned d b) (turned d c) ≡ eqb b c
turned_distinct d b c p q = grind (arith, tests)

pub declination_turns : (d : ℕ) → Turns (turned d) (turned_back d)
declination_turns d = record {
  forth_small = λ b h. omega arith;
  back_small = λ b h. omega arith;
  forth = λ b h. omega arith;
  back = λ b h. omega arith;
  distinct = turned_distinct d;
  opposites = λ b h. omega arith;
}

mirrored_distinct : (b c : ℕ) → b < 3600 → c < 3600 → eqb (mirrored b) (mirrored c) ≡ eqb b c
mirrored_distinct b c p q = grind (arith, tests)

pub mirror_turns : Turns mirrored mirrored
mirror_turns = record {
  forth_small = λ b h. omega arith;
  back_small = λ b h. omega arith;
  forth = λ b h. omega arith;
  back = λ b h. omega arith;
  distinct = mirrored_distinct;
  opposites = λ b h. omega arith;
}
