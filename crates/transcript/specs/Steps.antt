-- Steps of a transcript: what they hold before they are sent, and what their answers tell.
use Rattle.std.specs.Prelude.{false, cond, [], Result, Option, Some, None}
use Rattle.refusal.specs.declared.Refusal.{Refusal}
use Rattle.refusal.specs.Answers.{Answer, accepted, answers, tells, told_by}
use Rattle.survey.specs.Model.{leg_told}
use Rattle.transcript.specs.declared.step.Call.{Call}
use Rattle.transcript.specs.declared.step.Reply.{Reply}
use Rattle.transcript.specs.declared.step.Reply.TheVariants.{Changed, Counted, Found, Allowed, Planned}
use Rattle.transcript.specs.declared.step.Step.{Step}

abbrev pub unsent : Call → Step
unsent call = record { call = call; may_enter = false; may_amend = false; answer = None }

abbrev pub reply_told : Reply → Answer
reply_told Changed = accepted
reply_told (Counted n) = tells n
reply_told (Found l) = leg_told l
reply_told (Allowed may) = tells (cond may 1 0)
reply_told Planned = accepted

-- an unsent call tells nothing, which no answer of the model is
abbrev pub answer_told : Option (Result Reply Refusal) → Answer
answer_told None = answers 0 []
answer_told (Some r) = told_by reply_told r

-- the answer that a step records
abbrev pub step_told : Step → Answer
step_told x = answer_told x.answer
