-- Runs of the reference model: a survey's calls, each with what the survey allowed just before it, and the answers.
use Rattle.std.specs.Prelude.{◌≡◌, ℕ, ◌+◌, ◌<◌, ◌≤◌, Bool, List, [], ◌∷◌, ◌++◌, map, length, take, fold, slice_index_or}
use Rattle.survey.specs.declared.leg.Leg.{Leg}
use Rattle.survey.specs.declared.leg.Change.{Change}
use Rattle.plan.specs.States.{PlanState}
use Rattle.transcript.specs.declared.step.Call.{Call}
use Rattle.transcript.specs.declared.step.Call.TheVariants.{Count}
use Rattle.transcript.specs.declared.step.Step.{Step}
use Rattle.transcript.specs.Steps.{unsent, step_told}
use Rattle.transcript.specs.Calls.{call_answer, call_legs, call_reply, Replied, call_changes, call_plan}

abbrev pub calls : List Step → List Call
calls steps = map (λ (x : Step). x.call) steps

-- step i of a transcript
abbrev pub step_at : List Step → ℕ → Step
step_at steps i = slice_index_or steps i (unsent Count)

-- the list that the model makes of a list by one step, from the call and what was allowed
abbrev pub step_legs : List Leg → Step → List Leg
step_legs legs x = call_legs legs x.may_enter x.may_amend x.call

-- the list that the model makes of a list by a run
abbrev pub run_legs : List Leg → List Step → List Leg
run_legs legs steps = fold step_legs legs steps

-- the plan that the model makes of a plan by a run: the last accepted call to plan tells it
abbrev pub run_plan : List Leg → PlanState → List Step → PlanState
run_plan legs p [] = p
run_plan legs p (x ∷ steps) = run_plan (step_legs legs x) (call_plan legs p x.call) steps

-- the accepted changes of a run, in order
abbrev pub step_changes : Step → List Change
step_changes x = call_changes (step_told x) x.call

abbrev pub run_changes : List Step → List Change
run_changes [] = []
run_changes (x ∷ steps) = step_changes x ++ run_changes steps

-- a step records the answer that the model gives on this list
pub record Answered (legs : List Leg) (x : Step) : Type 0 where
  pub answer : step_told x ≡ call_answer legs x.may_enter x.may_amend x.call
  pub reply : Replied x.answer (call_reply legs x.may_enter x.may_amend x.call)

module _ {S : Type 0} (legs : S → List Leg) (enters amends : S → Bool) (leads : S → List Change → S → Type 0) where
  -- a call was sent in one state of a survey, and left another
  pub record Recorded (s : S) (x : Step) (t : S) : Type 0 where
    pub may_enter : x.may_enter ≡ enters s
    pub may_amend : x.may_amend ≡ amends s
    pub answered : Answered (legs s) x
    pub list : legs t ≡ step_legs (legs s) x
    pub led : leads s (step_changes x) t
    -- what changes nothing leaves what is allowed
    pub kept : step_changes x ≡ [] → (enters t ≡ enters s) × (amends t ≡ amends s)

  -- the states of a survey through a run: each step was recorded between two of them
  pub record Passed (s : S) (steps : List Step) (t : S) : Type 0 where
    pub state : ℕ → S
    pub first : state 0 ≡ s
    pub last : state (length steps) ≡ t
    pub recorded : (i : ℕ) → i < length steps → Recorded (state i) (step_at steps i) (state (i + 1))
    pub list : (i : ℕ) → i ≤ length steps → legs (state i) ≡ run_legs (legs s) (take i steps)
    pub led : (i : ℕ) → i ≤ length steps → leads s (run_changes (take i steps)) (state i)

  -- steps were sent to a survey
  pub record Sent (s : S) (before steps : List Step) (t : S) : Type 0 where
    -- the calls are those given
    pub same : calls steps ≡ calls before
    -- each answer is the model's, fed the calls and what was allowed
    pub answered : (i : ℕ) → i < length steps → Answered (run_legs (legs s) (take i steps)) (step_at steps i)
    -- the survey's list is the model's
    pub list : legs t ≡ run_legs (legs s) steps
    -- the accepted changes led there
    pub led : leads s (run_changes steps) t
    -- what was allowed was told by the survey just before each call
    pub passed : Passed s steps t
