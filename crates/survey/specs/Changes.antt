-- Accepted changes, and how a survey says that they led from one of its states to another.
use Rattle.std.specs.Prelude.{cond, List, [], ◌∷◌, ◌++◌}
use Rattle.refusal.specs.Answers.{Answer}
use Rattle.survey.specs.declared.leg.Change.{Change}
use Rattle.survey.specs.Model.{is_accepted}

-- what a call changed: itself where it was accepted, else nothing
abbrev pub changes : Answer → Change → List Change
changes a c = cond (is_accepted a) (c ∷ []) []

-- changes lead from a state to a state
pub record Leading {S : Type 0} (leads : S → List Change → S → Type 0) : Type 0 where
  pub stays : (s : S) → leads s [] s
  pub onward : (s t u : S) (cs ds : List Change) → leads s cs t → leads t ds u → leads s (cs ++ ds) u
