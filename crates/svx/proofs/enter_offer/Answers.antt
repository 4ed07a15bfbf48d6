-- The survey's answer at the line.
use Rattle.std.proofs.Common.{rules}
use Rattle.svx.specs.Reading.{means}
use Rattle.svx.proofs.Runs.{at_line, entered}
use Rattle.svx.proofs.enter_offer.Goals as goal

pub returns : goal.returns
returns g c =
    let m = means g.S.Survey.legs g.S.Survey.enters g.S.Survey.amends g.S.Survey.leads in
    let r = c.enter.ensures in
    entered m c.args.line c.args.x.place c.args.x.leg c.enter.result _ c.args.survey.now c.enter.new.self r.answer r.list r.facts r.led
    (at_line c.args.line c.args.x.place c.enter.result c.map_err.result _ (λ e f h. search rules) c.map_err.ensures.cases)
