-- The new drawing: one leg, whose two stations are a source and a sink, with both angles large.
use Rattle.std.proofs.Common.{◌≡◌, ℕ, zero, suc, ◌<◌, true, false, cond, ltb, [], ◌∷◌, get_or, set, replicate, sym, refl, ◌∙◌, arith}
use Rattle.std.proofs.lemmas.Bool.{le-ltb}
use Rattle.plan.specs.States.{first_leg}
use Rattle.shape.specs.Shapes.{Shape, switch, large_at}

-- a table of one value
pub same_all : {A : Type 0} (x : A) (n e : ℕ) → get_or (replicate n x) e x ≡ x
same_all x zero e = refl
same_all x (suc n) zero = refl
same_all x (suc n) (suc e) = same_all x n e

-- the first two marked
pub two_marked : (e : ℕ) → get_or (set (set (replicate 512 false) 0 true) 1 true) e false ≡ ltb e 2
two_marked zero = refl
two_marked (suc zero) = refl
two_marked (suc (suc e)) = same_all false 510 e ∙ sym (le-ltb (suc (suc e)) 2 (omega arith))

pub first_angles : (z : Shape) → z.large 0 ≡ true → z.large 1 ≡ true → (e : ℕ) → e < 2 → large_at (first_leg ∷ []) z e ≡ cond (switch (first_leg ∷ []) e) 1 0
first_angles z p q zero l = rw p refl
first_angles z p q (suc zero) l = rw q refl
first_angles z p q (suc (suc e)) l = absurd (omega arith)
