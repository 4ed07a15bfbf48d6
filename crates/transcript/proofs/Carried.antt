-- A run on one kind of survey is a run on another that its states can be read as.
use Rattle.std.proofs.Common.{◌≡◌, ℕ, ◌+◌, ◌≤◌, Bool, List, length, take, sym, ap, ◌∙◌, subst, arith}
use Rattle.survey.specs.declared.leg.Leg.{Leg}
use Rattle.survey.specs.declared.leg.Change.{Change}
use Rattle.transcript.specs.declared.step.Step.{Step}
use Rattle.transcript.specs.Runs.{step_at, step_legs, run_legs, step_changes, run_changes, Answered, Recorded, Sent}

-- how a survey's states are read: by a function that keeps the list, what is allowed and what changes led to
pub record Read {T S : Type 0}
    (legs : T → List Leg) (enters amends : T → Bool) (leads : T → List Change → T → Type 0)
    (legs' : S → List Leg) (enters' amends' : S → Bool) (leads' : S → List Change → S → Type 0)
    (Kept : T → Type 0) (read : T → S) (s : T) : Type 0 where
  pub kept : (u : T) (cs : List Change) → leads s cs u → Kept u
  pub list : (u : T) → Kept u → legs u ≡ legs' (read u)
  pub may_enter : (u : T) → enters u ≡ enters' (read u)
  pub may_amend : (u : T) → amends u ≡ amends' (read u)
  pub led : (u v : T) (cs : List Change) → Kept u → leads u cs v → leads' (read u) cs (read v)

module _ {T S : Type 0}
    {legs : T → List Leg} {enters amends : T → Bool} {leads : T → List Change → T → Type 0}
    {legs' : S → List Leg} {enters' amends' : S → Bool} {leads' : S → List Change → S → Type 0}
    {Kept : T → Type 0} {read : T → S} {s : T}
    (r : Read legs enters amends leads legs' enters' amends' leads' Kept read s) where
  recorded_read : (u v : T) (x : Step) → Kept u → Kept v → Recorded legs enters amends leads u x v → Recorded legs' enters' amends' leads' (read u) x (read v)
  recorded_read u v x k l h = record {
    may_enter = h.may_enter ∙ r.may_enter u;
    may_amend = h.may_amend ∙ r.may_amend u;
    answered = subst (λ (ys : List Leg). Answered ys x) (r.list u k) h.answered;
    list = sym (r.list v l) ∙ h.list ∙ ap (λ (ys : List Leg). step_legs ys x) (r.list u k);
    led = r.led u v (step_changes x) k h.led;
    kept = λ e. (sym (r.may_enter v) ∙ (h.kept e).0 ∙ r.may_enter u, sym (r.may_amend v) ∙ (h.kept e).1 ∙ r.may_amend u);
  }

  pub sent_read : (before steps : List Step) (t : T) → Sent legs enters amends leads s before steps t → Sent legs' enters' amends' leads' (read s) before steps (read t)
  sent_read before steps t h =
      let p = h.passed in
      let kept_at : (i : ℕ) → i ≤ length steps → Kept (p.state i) = λ i l. r.kept (p.state i) (run_changes (take i steps)) (p.led i l) in
      let k : Kept s = subst Kept p.first (kept_at 0 (omega arith)) in
      let e : legs s ≡ legs' (read s) = r.list s k in
      record {
        same = h.same;
        answered = λ i l. subst (λ (ys : List Leg). Answered (run_legs ys (take i steps)) (step_at steps i)) e (h.answered i l);
        list = sym (r.list t (r.kept t (run_changes steps) h.led)) ∙ h.list ∙ ap (λ (ys : List Leg). run_legs ys steps) e;
        led = r.led s t (run_changes steps) k h.led;
        passed = record {
          state = λ i. read (p.state i);
          first = ap read p.first;
          last = ap read p.last;
          recorded = λ i l. recorded_read (p.state i) (p.state (i + 1)) (step_at steps i) (kept_at i (omega arith)) (kept_at (i + 1) (omega arith)) (p.recorded i l);
          list = λ i l. sym (r.list (p.state i) (kept_at i l)) ∙ p.list i l ∙ ap (λ (ys : List Leg). run_legs ys (take i steps)) e;
          led = λ i l. r.led s (p.state i) (run_changes (take i steps)) k (p.led i l);
        };
      }
