-- One leg is accepted, and both its angles are large.
use Rattle.std.proofs.Common.{◌≡◌, ℕ, ◌<◌, true, false, cond, List, [], ◌∷◌, replicate, set, sym, refl, ap, ◌∙◌, subst, arith}
use Rattle.std.proofs.lemmas.Bool.{le-ltb}
use Rattle.survey.specs.declared.leg.Leg.{Leg}
use Rattle.survey.specs.Ends.{ends}
use Rattle.plan.specs.States.{PlanState, plan_legs, first_leg}
use Rattle.shape.specs.Shapes.{switch, large_at}
use Rattle.draw.specs.Tables.{straight, shape_of}
use Rattle.draw.proofs.First.{same_all, two_marked, first_angles}
use Rattle.draw.proofs.drawings.Drawing.new.Goals as goal

pub invariant_of-result : goal.invariant_of-result
invariant_of-result c =
    let one : plan_legs c.new.result ≡ first_leg ∷ [] = ap (λ (s : PlanState). s.legs) c.new.ensures in
    let n : ends (plan_legs c.new.result) ≡ 2 = ap ends one in
    let z = shape_of (set (set (replicate 512 false) 0 true) 1 true) (replicate 256 straight) in
    record {
      every_end = refl;
      every_leg = refl;
      blank = λ e l. two_marked e ∙ le-ltb e 2 (omega arith);
      unbent = λ i l. same_all straight 256 i;
      angles = subst (λ (xs : List Leg). (e : ℕ) → e < ends xs → large_at xs z e ≡ cond (switch xs e) 1 0) (sym one) (λ e l. first_angles z refl refl e l);
    }

pub returns : goal.returns
returns c = record { plan = c.new.ensures; shape = record { large = two_marked; left = λ i t. (same_all straight 256 i t).left; right = λ i t. (same_all straight 256 i t).right } }
