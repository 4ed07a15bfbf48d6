-- A new journal has no legs and every entry free, and the run is told from there.
use Rattle.std.proofs.Common.{ℕ, ◌%◌, List, length, ap, ◌∙◌, subst, arith}
use Rattle.survey.specs.declared.leg.Leg.{Leg}
use Rattle.survey.specs.declared.leg.Change.{Change}
use Rattle.replay.specs.Entries.{written}
use Rattle.journal.specs.Journals.{held_entries}
use Rattle.transcript.specs.Runs.{run_legs, run_changes}
use Rattle.survey_runs.specs.Stack.{stack_shows, stack_sends}
use Rattle.survey_runs.specs.Ran.{Ran, journal_allows}
use Rattle.survey_runs.proofs.Closed.{length_sent, journal_ran}
use Rattle.survey_runs.proofs.run_journal.Goals as goal

pub returns : goal.returns
returns c =
    let j = c.new-journal.result in
    let n = c.new-journal.ensures in
    let h = c.send_through.ensures in
    let d = c.args.turn % 3600 in
    let after = c.send_through.new.steps in
    record {
      ran = subst (λ (xs : List Change). Ran (journal_allows (length xs)) (journal_allows (length xs)) c.args.steps.now after) n.held (journal_ran d j n.taken n.list _ _ _ h);
      list = h.list ∙ ap (λ (xs : List Leg). run_legs (stack_shows d xs) after) n.list;
      taken = omega (arith, h.led.taken, n.taken, length_sent d (run_changes after));
      lender = h.led.lender ∙ n.lender;
      entries = h.led.entries ∙ ap (λ (k : ℕ). written (held_entries j) k (stack_sends d (run_changes after))) n.taken ∙ ap (λ (xs : List Change). written xs 0 (stack_sends d (run_changes after))) n.held;
    }
