-- A whole run on a new survey, told by the reference model alone.
use Rattle.std.specs.Prelude.{◌≡◌, ℕ, ◌<◌, Bool, true, List, [], length, take, nat_lt}
use Rattle.replay.specs.Entries.{free_entry}
use Rattle.transcript.specs.declared.step.Step.{Step}
use Rattle.transcript.specs.Runs.{calls, step_at, run_legs, run_changes, Answered}

-- the steps of a run from an empty list: the two functions say what the steps before a call leave allowed
pub record Ran (enters amends : List Step → Bool) (before steps : List Step) : Type 0 where
  pub same : calls steps ≡ calls before
  pub may_enter : (i : ℕ) → i < length steps → (step_at steps i).may_enter ≡ enters (take i steps)
  pub may_amend : (i : ℕ) → i < length steps → (step_at steps i).may_amend ≡ amends (take i steps)
  pub answered : (i : ℕ) → i < length steps → Answered (run_legs [] (take i steps)) (step_at steps i)

-- a journal over so many entries: each accepted change so far took one
abbrev pub journal_allows : ℕ → List Step → Bool
journal_allows supplied done = free_entry (length (run_changes done)) supplied

-- a table: there are fewer than 256 legs
abbrev pub table_enters : List Step → Bool
table_enters done = nat_lt (length (run_legs [] done)) 256

abbrev pub table_amends : List Step → Bool
table_amends done = true
