-- One leg is accepted.
use Rattle.std.proofs.Common.{◌≡◌, true, List, [], ◌∷◌, ◌++◌, refl, ap, ◌∙◌}
use Rattle.survey.specs.declared.leg.Leg.{Leg}
use Rattle.survey.specs.Model.{valid_legs, is_accepted}
use Rattle.embedding.specs.Rotation.{next, face}
use Rattle.embedding.specs.Joins.{joined}
use Rattle.embedding.specs.Plans.{plan_answer}
use Rattle.plan.specs.States.{first_leg}
use Rattle.plan.proofs.plans.Plan.new.Goals as goal

first_accepted : is_accepted (plan_answer (first_leg ∷ []) 0 0) ≡ true
unfolding next face joined
first_accepted = refl

pub invariant_of-result : goal.invariant_of-result
invariant_of-result c =
    let l : c.plain.result ≡ first_leg = c.plain.ensures in
    let e : c.push.new.self.items ≡ first_leg ∷ [] = c.push.ensures.items ∙ (λ t. c.new-legs.ensures t ++ (l t ∷ [])) in
    record {
      valid = ap valid_legs e;
      accepted = ap (λ (xs : List Leg). is_accepted (plan_answer xs 0 0)) e ∙ first_accepted;
    }
