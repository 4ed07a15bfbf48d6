-- A run on the stack of views is a run on the survey below, as seen through the stack.
use Rattle.std.proofs.Common.{ℕ, ◌%◌, sym, subst, rules}
use Rattle.transcript.specs.Runs.{Sent}
use Rattle.survey_runs.specs.Stack.{stack_shows, stack_sends}
use Rattle.survey_runs.proofs.Below.{stack_sent}
use Rattle.survey_runs.proofs.send_through.Goals as goal

pub returns : goal.returns
returns g c =
    let h = g.S.Survey in
    let P : ℕ → g.row.S.Denot → Type 0 = λ d t. Sent (λ s. stack_shows d (h.legs s)) h.enters h.amends (λ s cs t. h.leads s (stack_sends d cs) t) c.args.below.now c.args.steps.now c.send.new.steps t in
    let q = stack_sent h.legs h.enters h.amends h.leads _ _ _ _ c.send.ensures.sent in
    let below = c.send.new.survey.below.below.below.now in
    let n = sym c.send.ensures.sent.led.1.1.1.0 in
    subst (P (c.args.turn % 3600)) {x = below} (sym (search rules)) (subst (λ (d : ℕ). P d below) c.new.ensures q)
