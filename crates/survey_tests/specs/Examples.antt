-- Answers as the examples write them.
use Rattle.std.specs.Prelude.{ℕ, cond, Some, None, Option, slice_index}
use Rattle.refusal.specs.Answers.{Answer}
use Rattle.survey.specs.Model.{is_accepted}

-- the bearing in the answer to a query for a leg
abbrev pub bearing_told : Answer → Option ℕ
bearing_told a = cond (is_accepted a) (Some (slice_index a.values 2)) None
