-- One step more is recorded; past the last, all are.
use Rattle.std.proofs.Common.{◌<◌, ◌≤◌, List, length, take, sym, ap, ◌∙◌, subst, arith}
use Rattle.std.proofs.lemmas.List.{take_all}
use Rattle.survey.specs.declared.leg.Change.TheVariants.{Enter}
use Rattle.survey.specs.Ends.{no_leg}
use Rattle.plan.specs.States.{plan_state}
use Rattle.transcript.specs.declared.step.Call.TheVariants.{Change}
use Rattle.transcript.specs.declared.step.Step.{Step}
use Rattle.transcript.specs.Steps.{unsent}
use Rattle.transcript.specs.Calls.{call_plan}
use Rattle.transcript.specs.Runs.{run_plan}
use Rattle.transcript.proofs.Traces.{Trace, push_set, calls_set, plan_set, trace_list, trace_sent}
use Rattle.transcript.proofs.send.Goals as goal

pub loop-step-preserved : goal.loop-step-preserved
loop-step-preserved g c =
    let h = g.S.Survey in
    let xs = c.loop-step.steps in
    let i = c.loop-step.step-index in
    let m = c.send_one.ensures in
    let x = c.send_one.result in
    let lt : i < length xs = omega (arith, c.loop-step-test.true, c.loop-step.auto.steps) in (
      calls_set xs i x (unsent (Change (Enter no_leg))) lt m.call ∙ c.loop-step.invariant.0,
      push_set h.legs h.enters h.amends h.leads c.args.survey.now xs i c.loop-step.survey x c.send_one.new.survey lt c.loop-step.invariant.1 m.recorded,
      plan_set (h.legs c.args.survey.now) (h.legs c.loop-step.survey) (plan_state c.args.plan.now) (plan_state c.loop-step.plan) (plan_state c.send_one.new.plan) xs i x lt
          (trace_list h.legs h.enters h.amends h.leads c.args.survey.now (take i xs) c.loop-step.survey c.loop-step.invariant.1) c.loop-step.invariant.2 (m.plan ∙ ap (call_plan (h.legs c.loop-step.survey) (plan_state c.loop-step.plan)) (sym m.call)),
    )

pub returns : goal.returns
returns g c =
    let h = g.S.Survey in
    let xs = c.loop-step.steps in
    let le : length xs ≤ c.loop-step.step-index = omega (arith, c.loop-step-test.false, c.loop-step.auto.steps) in
    let s = c.args.survey.now in
    let t = c.loop-step.survey in
    let e = take_all c.loop-step.step-index xs le in
    record {
      sent = trace_sent h.legs h.enters h.amends h.leads h.leading s c.args.steps.now xs t c.loop-step.invariant.0
          (subst (λ (ys : List Step). Trace h.legs h.enters h.amends h.leads s ys t) e c.loop-step.invariant.1);
      plan = c.loop-step.invariant.2 ∙ ap (run_plan (h.legs s) (plan_state c.args.plan.now)) e;
    }
