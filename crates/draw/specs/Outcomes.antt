-- What a draw leaves: a least valid shape of the plan, or a refusal and the drawing as it was.
use Rattle.std.specs.Prelude.{◌≡◌, ℕ, ◌+◌, ◌<◌, ◌≤◌, ◌⊎◌, List, length, Ok, Err, Result}
use Rattle.refusal.specs.declared.Refusal.{Refusal}
use Rattle.refusal.specs.Answers.{refused, refuses}
use Rattle.price.specs.Laws.{Ops}
use Rattle.search.specs.declared.Label.{Label}
use Rattle.embedding.specs.Rotation.{face, side_end}
use Rattle.plan.specs.States.{PlanState}
use Rattle.draw.specs.declared.drawings.Drawing.{Drawing}
use Rattle.draw.specs.Shapes.{LeastShape, NoShape}
use Rattle.draw.specs.Drawings.{drawing_shape, drawing_state}

-- labels: their places, and how many of them are in use
pub record Labels (P : Type 0) : Type 0 where
  pub places : List (Label P)
  pub used : ℕ

-- the outer face of a plan
abbrev pub outside : PlanState → ℕ
outside p = face p.legs (side_end p.outer p.side)

-- the labels that a draw of a plan takes
abbrev pub labels_wanted : PlanState → ℕ
labels_wanted p = length p.legs + 4

-- refused for want of labels, exactly when there are fewer places than wanted: nothing is altered
pub record ShortOfLabels {P : Type 0} (p : PlanState) (before after : Drawing) (labels labels' : Labels P) (e : Refusal) : Type 0 where
  pub told : refused e ≡ refuses 15 (labels_wanted p)
  pub fewer : length labels.places < labels_wanted p
  pub drawing : after ≡ before
  pub unused : labels' ≡ labels

-- refused for want of a shape, exactly when no shape is valid: the drawing is not altered
pub record WithoutShape {P : Type 0} (p : PlanState) (before after : Drawing) (labels : Labels P) (e : Refusal) : Type 0 where
  pub told : refused e ≡ refuses 16 0
  pub enough : labels_wanted p ≤ length labels.places
  pub none : NoShape p.legs (outside p)
  pub drawing : after ≡ before

-- drawn: the plan's legs and outer side, and a least valid shape of the price told
pub record Drawn {P : Type 0} (ops : Ops P) (rate : ℕ → ℕ → P) (p : PlanState) (after : Drawing) (labels : Labels P) (price : P) : Type 0 where
  pub enough : labels_wanted p ≤ length labels.places
  pub plan : drawing_state after ≡ p
  pub shape : LeastShape ops rate p.legs (outside p) (drawing_shape after) price

-- what a draw answers, and what it leaves of the drawing and of the labels
abbrev pub Outcome : {P : Type 0} → Ops P → (ℕ → ℕ → P) → PlanState → (before after : Drawing) → (labels labels' : Labels P) → Result P Refusal → Type 0
Outcome ops rate p before after labels labels' (Ok price) = Drawn ops rate p after labels price
Outcome ops rate p before after labels labels' (Err e) = ShortOfLabels p before after labels labels' e ⊎ WithoutShape p before after labels e
