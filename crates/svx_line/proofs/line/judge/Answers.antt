-- The verdict by the line's first token.
use Rattle.std.proofs.Common.{ap, ⊎_elim, inl, inr}
use Rattle.svx_line.specs.Parts.{span_of}
use Rattle.svx_line.specs.Tokens.{sign}
use Rattle.svx_line.proofs.Judging.{of_command, of_word, of_none}
use Rattle.svx_line.proofs.line.judge.Goals as goal

pub returns-in-Comment : goal.returns-in-Comment
returns-in-Comment c = of_none (sign c.next_token.result) _ _ (⊎_elim (λ e. inl (ap sign e)) (λ e. inr (ap sign e)) c.in-Comment.is) c.next_token.ensures.token c.new.ensures

pub returns-in-Command : goal.returns-in-Command
returns-in-Command c = of_command (span_of c.in-Command.first) _ _ _ _ _ c.in-Command.ensures.token c.new.ensures c.new-fields.ensures.first c.new-fields.ensures.count c.command.ensures

pub returns-in-Field : goal.returns-in-Field
returns-in-Field c = of_word (span_of c.in-Field.first) _ _ _ _ _ c.in-Field.ensures.token c.new.ensures c.new-fields.ensures.first c.new-fields.ensures.count c.leg.ensures
