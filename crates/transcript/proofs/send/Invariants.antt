-- The calls are those given, the steps before the index are recorded one after another, and the plan is what they make of it.
use Rattle.std.proofs.Common.{◌≡◌, take}
use Rattle.plan.specs.States.{plan_state}
use Rattle.transcript.specs.Runs.{calls, run_plan}
use Rattle.transcript.proofs.Traces.{Trace}
use Rattle.transcript.proofs.send.Given as goal

abbrev pub invariant-loop-step : goal.invariant-loop-step
invariant-loop-step g l =
    let h = g.S.Survey in
    (calls l.steps ≡ calls l.initial.steps) × Trace h.legs h.enters h.amends h.leads l.initial.survey (take l.step-index l.steps) l.survey
    × (plan_state l.plan ≡ run_plan (h.legs l.initial.survey) (plan_state l.initial.plan) (take l.step-index l.steps))
