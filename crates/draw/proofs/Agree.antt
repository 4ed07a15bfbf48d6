-- Shapes that agree on the ends and legs of a list are valid together, and cost the same.
use Rattle.std.proofs.Common.{◌≡◌, ℕ, ◌+◌, ◌*◌, ◌/◌, ◌%◌, ◌<◌, ◌≤◌, Bool, cond, ◌&&◌, eqb, List, length, ℤ, pos, ◌+ℤ◌, ◌-ℤ◌, sym, ap, ◌∙◌, subst}
use Rattle.price.specs.Laws.{Ops, Laws}
use Rattle.duality.specs.Sums.{times}
use Rattle.duality.proofs.Exchange.{sum_ext}
use Rattle.duality.proofs.Theorems.{prices, numbers}
use Rattle.survey.specs.declared.leg.Leg.{Leg}
use Rattle.survey.specs.Ends.{ends, same_station}
use Rattle.embedding.specs.Rotation.{face, angle_face}
use Rattle.cycles.proofs.Tables.{count_same}
use Rattle.shape.specs.Shapes.{Shape, large_at, large_in, along, leg_at, Valid, shape_price}

pub record Agree (legs : List Leg) (z z' : Shape) : Type 0 where
  pub large : (e : ℕ) → e < ends legs → z.large e ≡ z'.large e
  pub left : (i : ℕ) → i < length legs → z.left i ≡ z'.left i
  pub right : (i : ℕ) → i < length legs → z.right i ≡ z'.right i

module _ (legs : List Leg) (z z' : Shape) (a : Agree legs z z') where
  same_large_at : (e : ℕ) → large_at legs z e ≡ large_at legs z' e
  same_large_at e = count_same (λ k. same_station legs e k && z.large k) (λ k. same_station legs e k && z'.large k) (ends legs) (λ k l. ap (λ (b : Bool). same_station legs e k && b) (a.large k l))

  same_large_in : (f : ℕ) → large_in legs z f ≡ large_in legs z' f
  same_large_in f = count_same (λ e. eqb (angle_face legs e) f && z.large e) (λ e. eqb (angle_face legs e) f && z'.large e) (ends legs) (λ k l. ap (λ (b : Bool). eqb (angle_face legs k) f && b) (a.large k l))

  same_along : (side f : ℕ) (g g' : ℕ → ℕ) → ((i : ℕ) → i < length legs → g i ≡ g' i) → along legs side f g ≡ along legs side f g'
  same_along side f g g' h = sum_ext numbers (length legs) (λ i. cond (eqb (face legs (2 * i + side)) f) (g i) 0) (λ i. cond (eqb (face legs (2 * i + side)) f) (g' i) 0) (λ i l. ap (λ (x : ℕ). cond (eqb (face legs (2 * i + side)) f) x 0) (h i l))

  same_bends : (i : ℕ) → i < length legs → z.left i + z.right i ≡ z'.left i + z'.right i
  same_bends i l = λ t. a.left i l t + a.right i l t

  abbrev share : Shape → ℕ → ℤ
  share y f = pos (2 * large_in legs y f) +ℤ (pos (along legs 0 f y.right) -ℤ pos (along legs 0 f y.left)) +ℤ (pos (along legs 1 f y.left) -ℤ pos (along legs 1 f y.right))

  same_balance : (f : ℕ) → share z f ≡ share z' f
  same_balance f =
      let l0 = same_along 0 f z.left z'.left a.left in
      let r0 = same_along 0 f z.right z'.right a.right in
      let l1 = same_along 1 f z.left z'.left a.left in
      let r1 = same_along 1 f z.right z'.right a.right in
      let n = same_large_in f in
      λ t. pos (2 * n t) +ℤ (pos (r0 t) -ℤ pos (l0 t)) +ℤ (pos (l1 t) -ℤ pos (r1 t))

  pub same_valid : (outer : ℕ) → Valid legs outer z → Valid legs outer z'
  same_valid outer v = record {
    angles = λ e l. sym (same_large_at e) ∙ v.angles e l;
    even = λ i l. ap (λ (n : ℕ). n % 2) (sym (same_bends i l)) ∙ v.even i l;
    bounded = λ i l. subst (λ (n : ℕ). n / 2 ≤ (leg_at legs i).limit) (same_bends i l) (v.bounded i l);
    balance = λ f l h. sym (same_balance f) ∙ v.balance f l h;
  }

  pub same_price : {P : Type 0} {ops : Ops P} → Laws ops → (rate : ℕ → ℕ → P) → shape_price ops rate legs z ≡ shape_price ops rate legs z'
  same_price {P} {ops} L rate =
      sum_ext (prices L) (length legs)
      (λ i. times ops.zero ops.plus (z.left i + z.right i) (rate (leg_at legs i).weight (leg_at legs i).wet))
      (λ i. times ops.zero ops.plus (z'.left i + z'.right i) (rate (leg_at legs i).weight (leg_at legs i).wet))
      (λ i l. ap (λ (n : ℕ). times ops.zero ops.plus n (rate (leg_at legs i).weight (leg_at legs i).wet)) (same_bends i l))
