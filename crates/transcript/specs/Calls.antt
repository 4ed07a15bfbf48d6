-- The reference model of every call: what it answers and which list it leaves, given the list and what may be done.
use Rattle.std.specs.Prelude.{◌≡◌, Bool, cond, List, [], length, Ok, Err, Result, Option, Some, None, slice_index_or}
use Rattle.refusal.specs.declared.Refusal.{Refusal}
use Rattle.refusal.specs.Answers.{Answer, tells}
use Rattle.survey.specs.declared.leg.Leg.{Leg}
use Rattle.survey.specs.declared.leg.Change.{Change as Changing}
use Rattle.survey.specs.declared.leg.Change.TheVariants.{Enter, Strike, Amend}
use Rattle.survey.specs.Ends.{no_leg}
use Rattle.survey.specs.Model.{enter_answer, enter_legs, strike_answer, strike_legs, amend_answer, amend_legs, query_answer}
use Rattle.survey.specs.Changes.{changes}
use Rattle.embedding.specs.Plans.{plan_answer}
use Rattle.plan.specs.States.{PlanState, planned_state}
use Rattle.transcript.specs.declared.step.Call.{Call}
use Rattle.transcript.specs.declared.step.Call.TheVariants.{Change, Count, LegAt, MayEnter, MayAmend, Plan}
use Rattle.transcript.specs.declared.step.Reply.{Reply}
use Rattle.transcript.specs.declared.step.Reply.TheVariants.{Changed, Counted, Found, Allowed, Planned}

abbrev pub change_answer : List Leg → (enters amends : Bool) → Changing → Answer
change_answer legs enters amends (Enter l) = enter_answer legs enters l
change_answer legs enters amends (Strike start end) = strike_answer (length legs) amends start end
change_answer legs enters amends (Amend start end x) = amend_answer (length legs) amends start end x

abbrev pub change_legs : List Leg → (enters amends : Bool) → Changing → List Leg
change_legs legs enters amends (Enter l) = enter_legs legs enters l
change_legs legs enters amends (Strike start end) = strike_legs legs amends start end
change_legs legs enters amends (Amend start end x) = amend_legs legs amends start end x

abbrev pub call_answer : List Leg → (enters amends : Bool) → Call → Answer
call_answer legs enters amends (Change c) = change_answer legs enters amends c
call_answer legs enters amends Count = tells (length legs)
call_answer legs enters amends (LegAt i) = query_answer legs i
call_answer legs enters amends MayEnter = tells (cond enters 1 0)
call_answer legs enters amends MayAmend = tells (cond amends 1 0)
call_answer legs enters amends (Plan o) = plan_answer legs o.leg o.side

-- a query and a plan leave the list as it is
abbrev pub call_legs : List Leg → (enters amends : Bool) → Call → List Leg
call_legs legs enters amends (Change c) = change_legs legs enters amends c
call_legs legs enters amends Count = legs
call_legs legs enters amends (LegAt i) = legs
call_legs legs enters amends MayEnter = legs
call_legs legs enters amends MayAmend = legs
call_legs legs enters amends (Plan o) = legs

-- the reply to a call that is accepted
abbrev pub call_reply : List Leg → (enters amends : Bool) → Call → Reply
call_reply legs enters amends (Change c) = Changed
call_reply legs enters amends Count = Counted (length legs)
call_reply legs enters amends (LegAt i) = Found (slice_index_or legs i no_leg)
call_reply legs enters amends MayEnter = Allowed enters
call_reply legs enters amends MayAmend = Allowed amends
call_reply legs enters amends (Plan o) = Planned

-- an answer that is no refusal is this reply
abbrev pub Replies : Result Reply Refusal → Reply → Type 0
Replies (Ok r) reply = r ≡ reply
Replies (Err e) reply = Unit {0}

-- a call was sent, and its answer, if no refusal, is this reply
abbrev pub Replied : Option (Result Reply Refusal) → Reply → Type 0
Replied None reply = ⊥
Replied (Some r) reply = Replies r reply

-- what a call changed, by its answer
abbrev pub call_changes : Answer → Call → List Changing
call_changes a (Change c) = changes a c
call_changes a Count = []
call_changes a (LegAt i) = []
call_changes a MayEnter = []
call_changes a MayAmend = []
call_changes a (Plan o) = []

-- the plan after a call: an accepted call to plan gives it the legs of that moment and the side asked for
abbrev pub call_plan : List Leg → PlanState → Call → PlanState
call_plan legs p (Change c) = p
call_plan legs p Count = p
call_plan legs p (LegAt i) = p
call_plan legs p MayEnter = p
call_plan legs p MayAmend = p
call_plan legs p (Plan o) = planned_state (plan_answer legs o.leg o.side) legs o.leg o.side p
