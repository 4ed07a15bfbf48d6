-- What units on the sides of a plan's network cost, in bends.
use Rattle.std.proofs.Common.{◌≡◌, ℕ, zero, suc, ◌+◌, ◌-◌, ◌*◌, ◌/◌, ◌<◌, ◌≤◌, List, length, refl, ap, ◌∙◌, subst, arith}
use Rattle.price.specs.Laws.{Ops, Laws}
use Rattle.survey.specs.declared.leg.Leg.{Leg}
use Rattle.survey.specs.Ends.{ends}
use Rattle.search.specs.declared.Side.{Side}
use Rattle.search.specs.Sides.{side_at, fee_of}
use Rattle.duality.specs.Sums.{Ordered, sum, times}
use Rattle.duality.proofs.Exchange.{sum_ext, sum_add, sum_zero, times_add}
use Rattle.duality.proofs.Theorems.{prices}
use Rattle.shape.specs.Shapes.{leg_at}
use Rattle.shape.specs.Statements.{HoldsNetwork}
use Rattle.shape.proofs.Splits.{sum_pairs}
use Rattle.shape.proofs.Listed.{side_leg, side_angle, side_back, sum_sides}

module _ {P : Type 0} {o : P} {add : P → P → P} {le : P → P → Type 0} (laws : Ordered o add le) where
  grow : (x c : P) → le o c → le x (add x c)
  grow x c h = rw (laws.comm x c) (rw (laws.comm o x, laws.unit x) at (laws.mono o c x h))

  times_least : (c : P) (k : ℕ) → le o c → le o (times o add k c)
  times_least c zero h = laws.refl o
  times_least c (suc k) h = laws.trans _ _ _ (times_least c k h) (grow _ c h)

  -- more of what is not below zero costs no less
  pub times_le : (c : P) (k l : ℕ) → k ≤ l → le o c → le (times o add k c) (times o add l c)
  times_le c k l b h =
      let e : k + (l - k) ≡ l = omega arith in
      subst (λ (z : ℕ). le (times o add k c) (times o add z c)) e (rw (times_add laws k (l - k) c) (grow _ _ (times_least c (l - k) h)))

  -- pairs of bends, at twice the price of one
  pairs : (c : P) (k l : ℕ) → add (times o add k (add c c)) (times o add l (add c c)) ≡ times o add (k + k + (l + l)) c
  pairs c k l = simp (times_add laws, sum_add laws k (λ a. c) (λ a. c), sum_add laws l (λ a. c) (λ a. c))

  nothing : (k : ℕ) → times o add k o ≡ o
  nothing k = sum_zero laws k (λ a. o) (λ i b. refl)

module _ {P : Type 0} {ops : Ops P} (L : Laws ops) (rate : ℕ → ℕ → P) (legs : List Leg) (sides : List Side) (holds : HoldsNetwork legs sides) where
  -- the price of a bend of leg i
  abbrev pub bend : ℕ → P
  bend i = rate (leg_at legs i).weight (leg_at legs i).wet

  -- what n units on side s cost
  cost : ℕ → ℕ → P
  cost s n = times ops.zero ops.plus n (fee_of ops rate (side_at sides s))

  leg_cost : (e i n : ℕ) → e < ends legs → e / 2 ≡ i → cost e n ≡ times ops.zero ops.plus n (ops.plus (bend i) (bend i))
  unfolding cost
  leg_cost e i n l h = ap (λ (d : Side). times ops.zero ops.plus n (fee_of ops rate d)) (side_leg legs sides holds e l) ∙ ap (λ (j : ℕ). times ops.zero ops.plus n (ops.plus (bend j) (bend j))) h

  angle_cost : (e n : ℕ) → e < ends legs → cost (ends legs + 2 * e) n ≡ ops.zero
  unfolding cost
  angle_cost e n l = ap (λ (d : Side). times ops.zero ops.plus n (fee_of ops rate d)) (side_angle legs sides holds e l) ∙ nothing (prices L) n

  back_cost : (e n : ℕ) → e < ends legs → cost (ends legs + (2 * e + 1)) n ≡ ops.zero
  unfolding cost
  back_cost e n l = ap (λ (d : Side). times ops.zero ops.plus n (fee_of ops rate d)) (side_back legs sides holds e l) ∙ nothing (prices L) n

  -- the price of units, leg by leg, in bends
  pub price_is : (f : ℕ → ℕ) → sum ops.zero ops.plus (length sides) (λ s. times ops.zero ops.plus (f s) (fee_of ops rate (side_at sides s)))
      ≡ sum ops.zero ops.plus (length legs) (λ i. times ops.zero ops.plus (f (2 * i) + f (2 * i) + (f (2 * i + 1) + f (2 * i + 1))) (bend i))
  unfolding cost
  price_is f =
      let laws = prices L in
      sum_sides legs sides holds laws (λ s. cost s (f s))
      ∙ ap (ops.plus (sum ops.zero ops.plus (ends legs) (λ s. cost s (f s))))
      (sum_zero laws (ends legs) (λ e. ops.plus (cost (ends legs + 2 * e) (f (ends legs + 2 * e))) (cost (ends legs + (2 * e + 1)) (f (ends legs + (2 * e + 1)))))
      (λ e l. ap (λ (x : P). ops.plus x (cost (ends legs + (2 * e + 1)) (f (ends legs + (2 * e + 1))))) (angle_cost e _ l) ∙ ap (ops.plus ops.zero) (back_cost e _ l) ∙ laws.unit ops.zero))
      ∙ laws.unit (sum ops.zero ops.plus (ends legs) (λ s. cost s (f s)))
      ∙ sum_pairs laws (length legs) (λ s. cost s (f s))
      ∙ sum_ext laws (length legs) (λ i. ops.plus (cost (2 * i) (f (2 * i))) (cost (2 * i + 1) (f (2 * i + 1)))) _ (λ i l.
      ap (λ (x : P). ops.plus x (cost (2 * i + 1) (f (2 * i + 1)))) (leg_cost (2 * i) i (f (2 * i)) (omega arith) (omega arith))
      ∙ ap (ops.plus (times ops.zero ops.plus (f (2 * i)) (ops.plus (bend i) (bend i)))) (leg_cost (2 * i + 1) i (f (2 * i + 1)) (omega arith) (omega arith))
      ∙ pairs laws (bend i) (f (2 * i)) (f (2 * i + 1)))
