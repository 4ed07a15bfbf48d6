-- The table of steps is the face walk, and the names of its cycles are the faces.
use Rattle.std.proofs.Common.{ℕ, get_or, sym, ap, ◌∙◌, subst, arith}
use Rattle.survey.specs.Ends.{ends}
use Rattle.embedding.specs.Walks.{lowest}
use Rattle.embedding.specs.Laws.{Permutes}
use Rattle.embedding.specs.Rotation.{face_step, face}
use Rattle.embedding.proofs.Orbit.{permutes_same, lowest_same}
use Rattle.embedding.proofs.Distinct.{distinct}
use Rattle.embedding.proofs.Faces.{walks}
use Rattle.faces.proofs.walks.Faces.new.Goals as goal

pub name_cycles-requires-clause-permutes : goal.name_cycles-requires-clause-permutes
name_cycles-requires-clause-permutes c =
    let legs = c.args.rotation.cave.legs.now in
    subst (Permutes (λ e. get_or c.steps.result e 0)) (sym c.ends.ensures) (permutes_same (ends legs) (face_step legs) _ (walks legs (distinct legs c.args.rotation.cave.valid)) c.steps.ensures)

pub invariant_of-result-clause-named : goal.invariant_of-result-clause-named
unfolding face
invariant_of-result-clause-named c e l =
    let legs = c.args.rotation.cave.legs.now in
    c.name_cycles.ensures e (omega arith) ∙ ap (λ (n : ℕ). lowest (λ x. get_or c.steps.result x 0) n e) c.ends.ensures ∙ lowest_same (ends legs) (face_step legs) _ (walks legs (distinct legs c.args.rotation.cave.valid)) c.steps.ensures (ends legs) e l
