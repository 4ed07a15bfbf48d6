-- A new table has no legs, and the run is told from there.
use Rattle.std.proofs.Common.{◌%◌, List, ap, ◌∙◌}
use Rattle.survey.specs.declared.leg.Leg.{Leg}
use Rattle.transcript.specs.Runs.{run_legs}
use Rattle.survey_runs.specs.Stack.{stack_shows}
use Rattle.survey_runs.proofs.Closed.{table_ran}
use Rattle.survey_runs.proofs.run_table.Goals as goal

pub returns : goal.returns
returns c =
    let h = c.send_through.ensures in
    let d = c.args.turn % 3600 in
    record {
      ran = table_ran d c.new-table.result c.new-table.ensures _ _ _ h;
      list = h.list ∙ ap (λ (xs : List Leg). run_legs (stack_shows d xs) c.send_through.new.steps) c.new-table.ensures;
    }
