-- Changes written one after another lead from a state of a journal to a state.
use Rattle.std.specs.Prelude.{refl, List, ◌++◌}
use Rattle.std.proofs.Common.{sym, ap, ◌∙◌, arith, length-append}
use Rattle.survey.specs.declared.leg.Change.{Change}
use Rattle.survey.specs.Changes.{Leading}
use Rattle.replay.specs.Entries.{written}
use Rattle.replay.proofs.Written.{written_on}
use Rattle.journal.specs.declared.survey_journal.SurveyJournal.{SurveyJournal}
use Rattle.journal.specs.Journals.{held_entries, taken_entries, Wrote}

wrote_onward : (i j k : SurveyJournal) (cs ds : List Change) → Wrote i cs j → Wrote j ds k → Wrote i (cs ++ ds) k
wrote_onward i j k cs ds p q = record {
  lender = q.lender ∙ p.lender;
  taken = simp length-append (omega (arith, p.taken, q.taken));
  entries = q.entries ∙ ap (λ (xs : List Change). written xs (taken_entries j) ds) p.entries ∙ sym (written_on (held_entries i) (taken_entries i) (taken_entries j) cs ds p.taken);
}

pub writing : Leading Wrote
writing = record { stays = λ j. record { lender = refl; taken = omega arith; entries = refl }; onward = wrote_onward }
