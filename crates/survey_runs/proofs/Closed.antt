-- Runs on a new journal and on a new table, told by the model alone.
use Rattle.std.proofs.Common.{◌≡◌, ℕ, ◌+◌, ◌<◌, Bool, true, ltb, List, [], ◌∷◌, length, take, set, refl, ap, ◌∙◌, subst, arith, length-set}
use Rattle.std.proofs.lemmas.List.{length-map}
use Rattle.survey.specs.declared.leg.Leg.{Leg}
use Rattle.survey.specs.declared.leg.Change.{Change}
use Rattle.table.specs.declared.survey_table.SurveyTable.{SurveyTable}
use Rattle.table.specs.Tables.{table_legs}
use Rattle.replay.specs.Entries.{free_entry, written}
use Rattle.journal.specs.declared.survey_journal.SurveyJournal.{SurveyJournal}
use Rattle.journal.specs.Journals.{held_entries, taken_entries, journal_legs, has_free_entry, Wrote}
use Rattle.transcript.specs.declared.step.Step.{Step}
use Rattle.transcript.specs.Runs.{step_at, run_legs, run_changes, Answered, Sent}
use Rattle.survey_runs.specs.Stack.{stack_shows, stack_sends}
use Rattle.survey_runs.specs.Ran.{Ran, journal_allows, table_enters, table_amends}

-- a run on an empty survey, where its list and the changes so far say what is allowed
module _ {S : Type 0} (legs : S → List Leg) (enters amends : S → Bool) (leads : S → List Change → S → Type 0) (s : S) (empty : legs s ≡ []) (may_enter may_amend : List Step → Bool) where
  ran : ((done : List Step) (u : S) → legs u ≡ run_legs [] done → leads s (run_changes done) u → (enters u ≡ may_enter done) × (amends u ≡ may_amend done))
      → (before steps : List Step) (t : S) → Sent legs enters amends leads s before steps t → Ran may_enter may_amend before steps
  ran allows before steps t h =
      let p = h.passed in
      let allowed : (i : ℕ) → i < length steps → (enters (p.state i) ≡ may_enter (take i steps)) × (amends (p.state i) ≡ may_amend (take i steps)) =
      λ i l. allows (take i steps) (p.state i) (p.list i (omega arith) ∙ ap (λ (xs : List Leg). run_legs xs (take i steps)) empty) (p.led i (omega arith)) in
      record {
        same = h.same;
        may_enter = λ i l. (p.recorded i l).may_enter ∙ (allowed i l).0;
        may_amend = λ i l. (p.recorded i l).may_amend ∙ (allowed i l).1;
        answered = λ i l. subst (λ (xs : List Leg). Answered (run_legs xs (take i steps)) (step_at steps i)) empty (h.answered i l);
      }

length_written : (entries : List Change) (n : ℕ) (cs : List Change) → length (written entries n cs) ≡ length entries
length_written entries n [] = refl
length_written entries n (c ∷ cs) = length_written (set entries n c) (n + 1) cs ∙ length-set entries n c

pub length_sent : (d : ℕ) (cs : List Change) → length (stack_sends d cs) ≡ length cs
length_sent d cs = simp length-map

-- a new journal
module _ (d : ℕ) (j : SurveyJournal) (new : taken_entries j ≡ 0) where
  free_then : (cs : List Change) (u : SurveyJournal) → Wrote j (stack_sends d cs) u → has_free_entry u ≡ free_entry (length cs) (length (held_entries j))
  free_then cs u w =
      let m : taken_entries u ≡ length cs = omega (arith, w.taken, length_sent d cs, new) in
      let k : length (held_entries u) ≡ length (held_entries j) = ap length w.entries ∙ length_written (held_entries j) (taken_entries j) (stack_sends d cs) in
      ap (λ (x : ℕ). free_entry x (length (held_entries u))) m ∙ ap (free_entry (length cs)) k

  pub journal_ran : journal_legs j ≡ [] → (before steps : List Step) (t : SurveyJournal)
      → Sent (λ s. stack_shows d (journal_legs s)) has_free_entry has_free_entry (λ s cs u. Wrote s (stack_sends d cs) u) j before steps t
      → Ran (journal_allows (length (held_entries j))) (journal_allows (length (held_entries j))) before steps
  journal_ran empty before steps t h =
      ran (λ s. stack_shows d (journal_legs s)) has_free_entry has_free_entry (λ s cs u. Wrote s (stack_sends d cs) u) j (ap (stack_shows d) empty) (journal_allows (length (held_entries j))) (journal_allows (length (held_entries j)))
      (λ done u e w. let f = free_then (run_changes done) u w in (f, f)) before steps t h

-- a new table
pub table_ran : (d : ℕ) (s : SurveyTable) → table_legs s ≡ [] → (before steps : List Step) (t : SurveyTable)
    → Sent (λ u. stack_shows d (table_legs u)) (λ u. ltb (length (table_legs u)) 256) (λ u. true) (λ u cs v. Unit {0}) s before steps t
    → Ran table_enters table_amends before steps
table_ran d s empty before steps t h =
    ran (λ u. stack_shows d (table_legs u)) (λ u. ltb (length (table_legs u)) 256) (λ u. true) (λ u cs v. Unit {0}) s (ap (stack_shows d) empty) table_enters table_amends
    (λ done u e w. let n : length (stack_shows d (table_legs u)) ≡ length (table_legs u) = simp length-map in
    let m : length (table_legs u) ≡ length (run_legs [] done) = omega (arith, n, ap length e) in
    (ap (λ (x : ℕ). ltb x 256) m, refl)) before steps t h
