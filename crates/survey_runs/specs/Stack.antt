-- The stack of three views over a survey: declination on top, reversed below it, mirrored at the bottom.
use Rattle.std.specs.Prelude.{ℕ, List, map}
use Rattle.survey.specs.declared.leg.Leg.{Leg}
use Rattle.survey.specs.declared.leg.Change.{Change}
use Rattle.view_laws.specs.Views.{declination_shows, declination_sends, reversed_shows, reversed_sends, mirrored_shows, mirrored_sends}
use Rattle.view_laws.specs.Sent.{sent}

-- the legs as they are seen through the top view, the two upper ones, and the stack
abbrev pub top_shows : ℕ → List Leg → List Leg
top_shows d legs = map (declination_shows d) legs

abbrev pub upper_shows : ℕ → List Leg → List Leg
upper_shows d legs = top_shows d (map reversed_shows legs)

abbrev pub stack_shows : ℕ → List Leg → List Leg
stack_shows d legs = upper_shows d (map mirrored_shows legs)

-- changes as they come down through the same views
abbrev pub top_sends : ℕ → List Change → List Change
top_sends d cs = map (sent (declination_sends d)) cs

abbrev pub upper_sends : ℕ → List Change → List Change
upper_sends d cs = map (sent reversed_sends) (top_sends d cs)

abbrev pub stack_sends : ℕ → List Change → List Change
stack_sends d cs = map (sent mirrored_sends) (upper_sends d cs)
