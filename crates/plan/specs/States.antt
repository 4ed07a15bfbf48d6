-- What a plan holds, and what planning and turning leave.
use Rattle.std.specs.Prelude.{◌≡◌, ℕ, cond, List, [], ◌∷◌, ℤ, Some, None, Ok, Err, Option, Result, nat_lt}
use Rattle.refusal.specs.Answers.{Answer, accepted, refused}
use Rattle.survey.specs.declared.leg.Leg.{Leg}
use Rattle.survey.specs.Ends.{ends}
use Rattle.survey.specs.Model.{is_accepted}
use Rattle.embedding.specs.Rotation.{face, side_end}
use Rattle.embedding.specs.Demands.{demand}
use Rattle.plan.specs.declared.plans.Plan.{Plan}
use Rattle.plan.specs.declared.turning.Turned.{Turned}

-- the legs of a plan
abbrev pub plan_legs : Plan → List Leg
plan_legs p = p.legs.items

-- what a plan tells: its legs, and its outer side
pub record PlanState : Type 0 where
  pub legs : List Leg
  pub outer : ℕ
  pub side : ℕ

abbrev pub state : List Leg → (outer side : ℕ) → PlanState
state legs outer side = record { legs = legs; outer = outer; side = side }

abbrev pub plan_state : Plan → PlanState
plan_state p = state (plan_legs p) p.outer.leg p.outer.side

-- the one leg of a new plan
abbrev pub first_leg : Leg
first_leg = record { from = 1; to = 2; bearing = 0; weight = 1; wet = 0; limit = 999 }

-- a new plan: the first leg, and its left as the outer side
abbrev pub new_state : PlanState
new_state = state (first_leg ∷ []) 0 0

-- after planning: the legs and the side asked for where it is accepted, else what was there
abbrev pub planned_state : Answer → List Leg → (outer side : ℕ) → PlanState → PlanState
planned_state a legs outer side was = cond (is_accepted a) (state legs outer side) was

-- the outer face of a plan
abbrev pub outer_face : Plan → ℕ
outer_face p = face (plan_legs p) (side_end p.outer.leg p.outer.side)

-- the face of an end of a plan
abbrev pub face_at : Plan → ℕ → Option ℕ
face_at p e = cond (nat_lt e (ends (plan_legs p))) (Some (face (plan_legs p) e)) None

-- the demand of the face of an end of a plan
abbrev pub demand_at : Plan → ℕ → Option ℤ
demand_at p e = cond (nat_lt e (ends (plan_legs p))) (Some (demand (plan_legs p) (outer_face p) (face (plan_legs p) e))) None

-- what turning tells
abbrev pub told_turn : Result Plan Turned → Answer
told_turn (Ok q) = accepted
told_turn (Err t) = refused t.refusal

-- turning gives the same legs with the outer side asked for, or the plan as it was
abbrev pub Turns : Plan → (outer side : ℕ) → Result Plan Turned → Type 0
Turns p outer side (Ok q) = plan_state q ≡ state (plan_legs p) outer side
Turns p outer side (Err t) = t.plan ≡ p
