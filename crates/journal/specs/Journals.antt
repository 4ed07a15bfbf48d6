-- What a survey journal holds, when it has a free entry, and what accepted changes write into its entries.
use Rattle.std.specs.Prelude.{◌≡◌, List, Bool, ℕ, ◌+◌, length, take}
use Rattle.survey.specs.declared.leg.Leg.{Leg}
use Rattle.survey.specs.declared.leg.Change.{Change}
use Rattle.replay.specs.Replay.{replayed}
use Rattle.replay.specs.Entries.{free_entry, written}
use Rattle.journal.specs.declared.survey_journal.SurveyJournal.{SurveyJournal}

-- what the supplied entries hold, taken or not
abbrev pub held_entries : SurveyJournal → List Change
held_entries j = j.entries.places.now

-- how many entries are taken: one for each accepted change
abbrev pub taken_entries : SurveyJournal → ℕ
taken_entries j = j.entries.used

-- the accepted changes, in order
abbrev pub journal_changes : SurveyJournal → List Change
journal_changes j = take (taken_entries j) (held_entries j)

-- the legs that the accepted changes make
abbrev pub journal_legs : SurveyJournal → List Leg
journal_legs j = replayed (journal_changes j)

abbrev pub has_free_entry : SurveyJournal → Bool
has_free_entry j = free_entry (taken_entries j) (length (held_entries j))

-- accepted changes led from one state of a journal to another: each took one entry of the same lender
pub record Wrote (j : SurveyJournal) (cs : List Change) (k : SurveyJournal) : Type 0 where
  pub lender : k.entries.places.ghost_name ≡ j.entries.places.ghost_name
  pub taken : taken_entries k ≡ taken_entries j + length cs
  pub entries : held_entries k ≡ written (held_entries j) (taken_entries j) cs
