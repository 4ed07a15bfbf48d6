-- The attributes of the legs of a valid list are in their ranges.
use Rattle.std.proofs.Common.{◌≡◌, ℕ, ◌<◌, ◌≤◌, true, ltb, List, length}
use Rattle.std.proofs.lemmas.Bool.{ltb-false}
use Rattle.survey.specs.declared.leg.Leg.{Leg}
use Rattle.survey.specs.Ends.{no_leg}
use Rattle.survey.specs.Model.{valid_legs}
use Rattle.survey.proofs.Accepted.{not_met, in_range}
use Rattle.survey.proofs.Valid.{valid_at}
use Rattle.shape.specs.Shapes.{leg_at}

module _ (legs : List Leg) (i : ℕ) (valid : valid_legs legs ≡ true) (l : i < length legs) where
  pub weight_le : (leg_at legs i).weight ≤ 1000
  weight_le =
      let a = leg_at legs i in
      let w = not_met (ltb 1000 a.weight) 3 1 _ (in_range a (valid_at legs i no_leg valid l)).attributes in
      ltb-false 1000 a.weight w.0

  pub limit_le : (leg_at legs i).limit ≤ 999
  limit_le =
      let a = leg_at legs i in
      let w = not_met (ltb 1000 a.weight) 3 1 _ (in_range a (valid_at legs i no_leg valid l)).attributes in
      let f = not_met (ltb 1 a.wet) 3 2 _ w.1 in
      let m = not_met (ltb 999 a.limit) 3 3 _ f.1 in
      ltb-false 999 a.limit m.0
