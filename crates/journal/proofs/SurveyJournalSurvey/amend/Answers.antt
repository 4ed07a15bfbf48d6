-- A range accepted to be amended has a free entry, and leaves a valid list.
use Rattle.std.proofs.Common.{rules}
use Rattle.replay.proofs.Allowed.{amend_allowed}
use Rattle.journal.specs.Journals.{journal_legs, has_free_entry}
use Rattle.journal.proofs.SurveyJournalSurvey.amend.Goals as goal

pub write-requires : goal.write-requires
write-requires c = let s = c.args.self.now in amend_allowed (journal_legs s) (has_free_entry s) c.args.start c.args.end c.args.attributes s.valid (search rules)
