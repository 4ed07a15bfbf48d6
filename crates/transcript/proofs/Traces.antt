-- Steps recorded one after another, and what they make together.
use Rattle.std.proofs.Common.{◌≡◌, ℕ, zero, suc, ◌+◌, ◌<◌, ◌≤◌, Bool, List, [], ◌∷◌, ◌++◌, length, get_or, take, set, sym, refl, ap, ◌∙◌, subst, add-one, arith}
use Rattle.std.proofs.lemmas.List.{take_all, take_more_set}
use Rattle.survey.specs.declared.leg.Leg.{Leg}
use Rattle.survey.specs.declared.leg.Change.{Change}
use Rattle.survey.specs.Changes.{Leading}
use Rattle.plan.specs.States.{PlanState}
use Rattle.transcript.specs.declared.step.Step.{Step}
use Rattle.transcript.specs.Calls.{call_plan}
use Rattle.transcript.specs.Runs.{calls, step_at, step_legs, run_legs, run_plan, step_changes, run_changes, Answered, Recorded, Sent}

-- another step of the same call keeps the calls
pub calls_set : (xs : List Step) (i : ℕ) (x d : Step) → i < length xs → x.call ≡ (get_or xs i d).call → calls (set xs i x) ≡ calls xs
calls_set [] i x d h e = refl
calls_set (y ∷ xs) zero x d h e = ap (λ z. z ∷ calls xs) e
calls_set (y ∷ xs) (suc i) x d h e = ap (λ z. y.call ∷ z) (calls_set xs i x d (omega arith) e)

plan_push : (legs : List Leg) (p : PlanState) (xs : List Step) (x : Step) → run_plan legs p (xs ++ (x ∷ [])) ≡ call_plan (run_legs legs xs) (run_plan legs p xs) x.call
plan_push legs p [] x = refl
plan_push legs p (y ∷ xs) x = plan_push (step_legs legs y) (call_plan legs p y.call) xs x

-- the plan after one step more, written in its place
pub plan_set : (legs now : List Leg) (p q q' : PlanState) (xs : List Step) (i : ℕ) (x : Step) → i < length xs → now ≡ run_legs legs (take i xs) → q ≡ run_plan legs p (take i xs) → q' ≡ call_plan now q x.call → q' ≡ run_plan legs p (take (i + 1) (set xs i x))
plan_set legs now p q q' xs i x lt e f h =
    h ∙ ap (λ (v : List Leg). call_plan v q x.call) e ∙ ap (λ (v : PlanState). call_plan (run_legs legs (take i xs)) v x.call) f
    ∙ sym (ap (run_plan legs p) (take_more_set xs i x lt) ∙ plan_push legs p (take i xs) x)

module _ {S : Type 0} (legs : S → List Leg) (enters amends : S → Bool) (leads : S → List Change → S → Type 0) where
  -- each step was recorded from the state that the one before it left
  abbrev pub Trace : S → List Step → S → Type 0
  Trace s [] t = s ≡ t
  Trace s (x ∷ xs) t = (u : S) × Recorded legs enters amends leads s x u × Trace u xs t

  push : (s : S) (xs : List Step) (t : S) (x : Step) (u : S) → Trace s xs t → Recorded legs enters amends leads t x u → Trace s (xs ++ (x ∷ [])) u
  push s [] t x u h r = (u, subst (λ (v : S). Recorded legs enters amends leads v x u) (sym h) r, refl)
  push s (y ∷ xs) t x u h r = (h.0, h.1, push h.0 xs t x u h.2 r)

  -- one step more, written in its place
  pub push_set : (s : S) (xs : List Step) (i : ℕ) (t : S) (x : Step) (u : S) → i < length xs → Trace s (take i xs) t → Recorded legs enters amends leads t x u → Trace s (take (i + 1) (set xs i x)) u
  push_set s xs i t x u lt h r = let e = take_more_set xs i x lt in rw e (push s (take i xs) t x u h r)

  -- the list that a trace leaves
  pub trace_list : (s : S) (xs : List Step) (t : S) → Trace s xs t → legs t ≡ run_legs (legs s) xs
  trace_list s [] t h = ap legs (sym h)
  trace_list s (x ∷ xs) t h = trace_list h.0 xs t h.2 ∙ ap (λ (v : List Leg). run_legs v xs) h.1.list

  state_at : (s : S) (xs : List Step) (t : S) → Trace s xs t → ℕ → S
  state_at s [] t h i = s
  state_at s (x ∷ xs) t h zero = s
  state_at s (x ∷ xs) t h (suc i) = state_at h.0 xs t h.2 i

  first_state : (s : S) (xs : List Step) (t : S) (h : Trace s xs t) → state_at s xs t h 0 ≡ s
  unfolding state_at
  first_state s [] t h = refl
  first_state s (x ∷ xs) t h = refl

  last_state : (s : S) (xs : List Step) (t : S) (h : Trace s xs t) → state_at s xs t h (length xs) ≡ t
  unfolding state_at
  last_state s [] t h = h
  last_state s (x ∷ xs) t h = last_state h.0 xs t h.2

  recorded_at : (s : S) (xs : List Step) (t : S) (h : Trace s xs t) (i : ℕ) → i < length xs → Recorded legs enters amends leads (state_at s xs t h i) (step_at xs i) (state_at s xs t h (suc i))
  unfolding state_at
  recorded_at s [] t h i l = absurd (omega arith)
  recorded_at s (x ∷ xs) t h zero l = subst (λ (v : S). Recorded legs enters amends leads s x v) (sym (first_state h.0 xs t h.2)) h.1
  recorded_at s (x ∷ xs) t h (suc i) l = recorded_at h.0 xs t h.2 i (omega arith)

  list_at : (s : S) (xs : List Step) (t : S) (h : Trace s xs t) (i : ℕ) → i ≤ length xs → legs (state_at s xs t h i) ≡ run_legs (legs s) (take i xs)
  unfolding state_at
  list_at s [] t h zero l = refl
  list_at s [] t h (suc i) l = absurd (omega arith)
  list_at s (x ∷ xs) t h zero l = refl
  list_at s (x ∷ xs) t h (suc i) l = list_at h.0 xs t h.2 i (omega arith) ∙ ap (λ (v : List Leg). run_legs v (take i xs)) h.1.list

  module _ (w : Leading leads) where
    led_at : (s : S) (xs : List Step) (t : S) (h : Trace s xs t) (i : ℕ) → i ≤ length xs → leads s (run_changes (take i xs)) (state_at s xs t h i)
    unfolding state_at
    led_at s [] t h zero l = w.stays s
    led_at s [] t h (suc i) l = absurd (omega arith)
    led_at s (x ∷ xs) t h zero l = w.stays s
    led_at s (x ∷ xs) t h (suc i) l = w.onward s h.0 (state_at h.0 xs t h.2 i) (step_changes x) (run_changes (take i xs)) h.1.led (led_at h.0 xs t h.2 i (omega arith))

    -- a trace of all the steps, whose calls are those given
    pub trace_sent : (s : S) (before xs : List Step) (t : S) → calls xs ≡ calls before → Trace s xs t → Sent legs enters amends leads s before xs t
    trace_sent s before xs t e h =
        let n = length xs in
        let all = take_all n xs (omega arith) in
        let end = last_state s xs t h in
        record {
          same = e;
          answered = λ i l. subst (λ (v : List Leg). Answered v (step_at xs i)) (list_at s xs t h i (omega arith)) (recorded_at s xs t h i l).answered;
          list = ap legs (sym end) ∙ list_at s xs t h n (omega arith) ∙ ap (run_legs (legs s)) all;
          led = subst (λ (v : S). leads s (run_changes xs) v) end (subst (λ (ys : List Step). leads s (run_changes ys) (state_at s xs t h n)) all (led_at s xs t h n (omega arith)));
          passed = record {
            state = state_at s xs t h;
            first = first_state s xs t h;
            last = end;
            recorded = λ i l. subst (λ (k : ℕ). Recorded legs enters amends leads (state_at s xs t h i) (step_at xs i) (state_at s xs t h k)) (sym (add-one i)) (recorded_at s xs t h i l);
            list = list_at s xs t h;
            led = led_at s xs t h;
          };
        }
