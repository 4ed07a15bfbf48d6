-- The tables that are filled from units hold the shape that the units make, and nothing past the last leg.
use Rattle.std.proofs.Common.{◌≡◌, ℕ, ◌+◌, ◌*◌, ◌/◌, ◌<◌, ◌≤◌, ◌≢◌, ◌⊎◌, Bool, true, false, cond, ltb, List, [], length, get_or, sym, ap, ◌∙◌, subst, inl, inr, ⊎_elim, arith}
use Rattle.std.proofs.lemmas.Bool.{cases_eq, cond-true, cond-false, lt-ltb, le-ltb}
use Rattle.price.specs.Laws.{Ops, Laws}
use Rattle.survey.specs.declared.leg.Leg.{Leg}
use Rattle.survey.specs.Model.{valid_legs}
use Rattle.network.proofs.Ranges.{limit_le}
use Rattle.shape.specs.Shapes.{Valid, shape_price}
use Rattle.shape.specs.Units.{units_shape}
use Rattle.draw.specs.declared.bends.Bends.{Bends}
use Rattle.draw.specs.Tables.{straight, doubled, shape_of}
use Rattle.draw.specs.Shapes.{EndsThere, LeastShape}
use Rattle.draw.specs.Routes.{MakesLeast}
use Rattle.draw.proofs.Agree.{Agree, same_valid, same_price}

either : (k : ℕ) → (k ≡ 2 * (k / 2)) ⊎ (k ≡ 2 * (k / 2) + 1)
either k = ⊎_elim (λ (e : k ≡ 2 * (k / 2)). inl e) (λ (n : k ≢ 2 * (k / 2)). inr (omega arith)) (cases_eq k (2 * (k / 2)))

-- a leg of a valid shape has at most 999 units on each side
pub units_small : (legs : List Leg) (outer : ℕ) (f : ℕ → ℕ) → valid_legs legs ≡ true → Valid legs outer (units_shape legs f) → (k : ℕ) → k < 2 * length legs → f k ≤ 1000
units_small legs outer f valid v k l =
    let i = k / 2 in
    let h : i < length legs = omega arith in
    let b = v.bounded i h in
    let m = limit_le legs i valid h in
    ⊎_elim
    (λ (q : k ≡ 2 * i). let e = ap f q in omega arith)
    (λ (q : k ≡ 2 * i + 1). let e = ap f q in omega arith)
    (either k)

-- large angles and bends as they are filled in from the units f, where there are n legs
pub record Filled (n : ℕ) (f : ℕ → ℕ) (large : List Bool) (bends : List Bends) : Type 0 where
  pub large_at : (e : ℕ) → get_or large e false ≡ cond (ltb e (2 * n)) (ltb 0 (f (2 * n + 2 * e))) false
  pub bends_at : (i : ℕ) → get_or bends i straight ≡ cond (ltb i n) (doubled (f (2 * i + 1)) (f (2 * i))) straight

module _ (legs : List Leg) (n : ℕ) (all : n ≡ length legs) (f : ℕ → ℕ) (large : List Bool) (bends : List Bends) (h : Filled n f large bends) where
  bent : (i : ℕ) → i < length legs → get_or bends i straight ≡ doubled (f (2 * i + 1)) (f (2 * i))
  bent i l = h.bends_at i ∙ cond-true (ltb i n) (doubled (f (2 * i + 1)) (f (2 * i))) straight (lt-ltb i n (omega arith))

  pub unbent : (i : ℕ) → length legs ≤ i → get_or bends i straight ≡ straight
  unbent i l = h.bends_at i ∙ cond-false (ltb i n) (doubled (f (2 * i + 1)) (f (2 * i))) straight (le-ltb i n (omega arith))

  pub agrees : Agree legs (units_shape legs f) (shape_of large bends)
  agrees = record {
    large = λ e l. sym (h.large_at e ∙ cond-true (ltb e (2 * n)) (ltb 0 (f (2 * n + 2 * e))) false (lt-ltb e (2 * n) (omega arith)) ∙ ap (λ (m : ℕ). ltb 0 (f (2 * m + 2 * e))) all);
    left = λ i l. sym (ap (λ (b : Bends). b.left) (bent i l));
    right = λ i l. sym (ap (λ (b : Bends). b.right) (bent i l));
  }

  pub ends_there : EndsThere legs (shape_of large bends)
  ends_there = record {
    large = λ e l. h.large_at e ∙ cond-false (ltb e (2 * n)) (ltb 0 (f (2 * n + 2 * e))) false (le-ltb e (2 * n) (omega arith));
    left = λ i l. ap (λ (b : Bends). b.left) (unbent i l);
    right = λ i l. ap (λ (b : Bends). b.right) (unbent i l);
  }

  pub bends_small : (outer : ℕ) → valid_legs legs ≡ true → Valid legs outer (units_shape legs f) → (i : ℕ) → i < length legs → (get_or bends i straight).left + (get_or bends i straight).right ≤ 4000
  bends_small outer valid v i l =
      let a = units_small legs outer f valid v (2 * i + 1) (omega arith) in
      let b = units_small legs outer f valid v (2 * i) (omega arith) in
      let c = agrees.left i l in
      let d = agrees.right i l in
      omega arith

  pub tables_valid : (outer : ℕ) → Valid legs outer (units_shape legs f) → Valid legs outer (shape_of large bends)
  tables_valid outer v = same_valid legs (units_shape legs f) (shape_of large bends) agrees outer v

  -- the shape in the tables is the one that the units make, at its price
  pub least_shape : {P : Type 0} {ops : Ops P} → Laws ops → (rate : ℕ → ℕ → P) (outer : ℕ) (price : P) → MakesLeast ops rate legs outer f → price ≡ shape_price ops rate legs (shape_of [] bends) → LeastShape ops rate legs outer (shape_of large bends) price
  least_shape {P} {ops} L rate outer price m q =
      let z = shape_of large bends in
      record {
        valid = tables_valid outer m.valid;
        costs = q;
        least = λ z' v. subst (λ (x : P). ops.leq x (shape_price ops rate legs z') ≡ true) (sym (q ∙ sym (same_price legs (units_shape legs f) z agrees L rate))) (m.least z' v);
        one_sided = λ i l. ⊎_elim (λ (a : (units_shape legs f).left i ≡ 0). inl (sym (agrees.left i l) ∙ a)) (λ (a : (units_shape legs f).right i ≡ 0). inr (sym (agrees.right i l) ∙ a)) (m.one_sided i l);
        within = ends_there;
      }
