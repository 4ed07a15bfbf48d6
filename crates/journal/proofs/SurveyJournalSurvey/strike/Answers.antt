-- A range accepted to be struck has a free entry, and leaves a valid list.
use Rattle.std.proofs.Common.{rules}
use Rattle.replay.proofs.Allowed.{strike_allowed}
use Rattle.journal.specs.Journals.{journal_legs, has_free_entry}
use Rattle.journal.proofs.SurveyJournalSurvey.strike.Goals as goal

pub write-requires : goal.write-requires
write-requires c = let s = c.args.self.now in strike_allowed (journal_legs s) (has_free_entry s) c.args.start c.args.end s.valid (search rules)
