-- What a drawing holds.
use Rattle.std.specs.Prelude.{List}
use Rattle.survey.specs.declared.leg.Leg.{Leg}
use Rattle.plan.specs.States.{PlanState, plan_legs, plan_state}
use Rattle.shape.specs.Shapes.{Shape}
use Rattle.draw.specs.declared.drawings.Drawing.{Drawing}
use Rattle.draw.specs.Tables.{shape_of}

-- the legs of a drawing
abbrev pub drawing_legs : Drawing → List Leg
drawing_legs d = plan_legs d.plan

-- its shape
abbrev pub drawing_shape : Drawing → Shape
drawing_shape d = shape_of d.large d.bends

-- the plan that it keeps: legs and outer side
abbrev pub drawing_state : Drawing → PlanState
drawing_state d = plan_state d.plan
