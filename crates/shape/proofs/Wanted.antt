-- What faces, sources and sinks want and give.
use Rattle.std.proofs.Common.{◌≡◌, ℕ, ◌<◌, ◌≤◌, true, List, ap, ◌∙◌, arith}
use Rattle.std.proofs.lemmas.Bool.{cond-true, cond-false, lt-ltb, le-ltb}
use Rattle.survey.specs.declared.leg.Leg.{Leg}
use Rattle.survey.specs.Counting.{count}
use Rattle.survey.specs.Ends.{ends}
use Rattle.survey.specs.Model.{valid_legs}
use Rattle.embedding.specs.Rotation.{face, faces}
use Rattle.embedding.specs.Demands.{demand}
use Rattle.shape.specs.Nodes.{names_face, nodes, above, beneath}
use Rattle.shape.specs.Statements.{HoldsDemands}
use Rattle.shape.proofs.Places.{face_rank_lt, naming_of}

module _ (legs : List Leg) (valid : valid_legs legs ≡ true) (outer : ℕ) (p q : ℕ → ℕ) (holds : HoldsDemands legs outer p q) where
  pub wants_face : (g : ℕ) → g < ends legs → face legs g ≡ g → p (count (names_face legs) g) ≡ above (demand legs outer g)
  wants_face g l h =
      let r = face_rank_lt legs valid g l h in
      holds.wants (count (names_face legs) g) (omega arith) ∙ cond-true _ _ _ (lt-ltb _ _ r) ∙ ap (λ (x : ℕ). above (demand legs outer x)) (naming_of legs valid g l h)

  pub gives_face : (g : ℕ) → g < ends legs → face legs g ≡ g → q (count (names_face legs) g) ≡ beneath (demand legs outer g)
  gives_face g l h =
      let r = face_rank_lt legs valid g l h in
      holds.gives (count (names_face legs) g) (omega arith) ∙ cond-true _ _ _ (lt-ltb _ _ r) ∙ ap (λ (x : ℕ). beneath (demand legs outer x)) (naming_of legs valid g l h)

  pub wants_switch : (v : ℕ) → faces legs ≤ v → v < nodes legs → p v ≡ 0
  wants_switch v h l = holds.wants v l ∙ cond-false _ _ _ (le-ltb v (faces legs) h)

  pub gives_switch : (v : ℕ) → faces legs ≤ v → v < nodes legs → q v ≡ 1
  gives_switch v h l = holds.gives v l ∙ cond-false _ _ _ (le-ltb v (faces legs) h)
