-- What the code's answer for a line tells.
use Rattle.std.specs.Prelude.{Some, None, Ok, Err, Option, Result}
use Rattle.refusal.specs.Answers.{number_of, value_of}
use Rattle.svx_line.specs.Verdicts.{Verdict, nothing, offers, bad}
use Rattle.svx_line.specs.declared.offer.Offer.{Offer}
use Rattle.svx_line.specs.declared.offer.Flaw.{Flaw}

abbrev pub flaw_told : Flaw → Verdict
flaw_told x = bad (number_of x.cause) (value_of x.cause) x.place

abbrev pub offer_told : Result Offer Flaw → Verdict
offer_told (Ok o) = offers o.place o.leg
offer_told (Err e) = flaw_told e

abbrev pub maybe_told : Option Offer → Verdict
maybe_told None = nothing
maybe_told (Some o) = offers o.place o.leg

abbrev pub line_told : Result (Option Offer) Flaw → Verdict
line_told (Ok o) = maybe_told o
line_told (Err e) = flaw_told e
