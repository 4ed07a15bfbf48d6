-- An accepted leg has a free entry, and leaves a valid list.
use Rattle.std.proofs.Common.{rules}
use Rattle.replay.proofs.Allowed.{enter_allowed}
use Rattle.journal.specs.Journals.{journal_legs, has_free_entry}
use Rattle.journal.proofs.SurveyJournalSurvey.enter.Goals as goal

pub write-requires : goal.write-requires
write-requires c = let s = c.args.self.now in enter_allowed (journal_legs s) (has_free_entry s) c.args.leg s.valid (search rules)
