-- The states of a viewed survey, and of a lent one, read as those of the survey below.
use Rattle.std.proofs.Common.{◌≡◌, Bool, List, map, refl, ap, subst, MutBor}
use Rattle.survey.specs.declared.leg.Leg.{Leg}
use Rattle.survey.specs.declared.leg.Change.{Change}
use Rattle.view_laws.specs.Sent.{sent}
use Rattle.view_laws.specs.Views.{declination_shows, declination_sends, reversed_shows, reversed_sends, mirrored_shows, mirrored_sends}
use Rattle.views.specs.declared.Viewed.{Viewed}
use Rattle.views.specs.declared.view.Declination.{Declination}
use Rattle.views.specs.declared.view.Reversed.{Reversed}
use Rattle.views.specs.declared.view.Mirrored.{Mirrored}
use Rattle.survey_runs.specs.Stack.{top_shows, top_sends, upper_shows, upper_sends, stack_shows, stack_sends}
use Rattle.transcript.specs.declared.step.Step.{Step}
use Rattle.transcript.specs.Runs.{Sent}
use Rattle.transcript.proofs.Carried.{Read, sent_read}

-- changes seen through a view lead where the changes sent down lead below, and the view stays
abbrev Through : {V S : Type 0} → (V → Leg → Leg) → (S → List Change → S → Type 0) → Viewed V S → List Change → Viewed V S → Type 0
Through sends leads s cs t = (t.view ≡ s.view) × leads s.below (map (sent (sends s.view)) cs) t.below

-- changes to a lent survey lead where they lead behind the loan, and the lender stays
abbrev Lent : {S : Type 0} → (S → List Change → S → Type 0) → MutBor S → List Change → MutBor S → Type 0
Lent leads s cs t = (t.ghost_name ≡ s.ghost_name) × leads s.now cs t.now

module _ {S : Type 0} (legs : S → List Leg) (enters amends : S → Bool) (leads : S → List Change → S → Type 0) (f : List Leg → List Leg) (g : List Change → List Change) where
  view_read : {V : Type 0} (shows sends : V → Leg → Leg) (s : Viewed V S)
      → Read (λ (t : Viewed V S). f (map (shows t.view) (legs t.below))) (λ t. enters t.below) (λ t. amends t.below) (λ u cs v. Through sends leads u (g cs) v)
      (λ b. f (map (shows s.view) (legs b))) enters amends (λ a cs b. leads a (map (sent (sends s.view)) (g cs)) b) (λ t. t.view ≡ s.view) (λ t. t.below) s
  view_read shows sends s = record {
    kept = λ u cs h. h.0;
    list = λ u k. ap (λ v. f (map (shows v) (legs u.below))) k;
    may_enter = λ u. refl;
    may_amend = λ u. refl;
    led = λ u v cs k h. subst (λ w. leads u.below (map (sent (sends w)) (g cs)) v.below) k h.1;
  }

  lent_read : (s : MutBor S)
      → Read (λ (t : MutBor S). f (legs t.now)) (λ t. enters t.now) (λ t. amends t.now) (λ u cs v. Lent leads u (g cs) v)
      (λ b. f (legs b)) enters amends (λ a cs b. leads a (g cs) b) (λ t. Unit {0}) (λ x. x.now) s
  lent_read s = record { kept = λ u cs h. tt; list = λ u k. refl; may_enter = λ u. refl; may_amend = λ u. refl; led = λ u v cs k h. h.1 }

  -- a run on a view of a survey is a run on the survey, as seen through the view
  pub below_sent : {V : Type 0} (shows sends : V → Leg → Leg) (s : Viewed V S) (before steps : List Step) (t : Viewed V S)
      → Sent (λ (u : Viewed V S). f (map (shows u.view) (legs u.below))) (λ u. enters u.below) (λ u. amends u.below) (λ u cs v. Through sends leads u (g cs) v) s before steps t
      → Sent (λ b. f (map (shows s.view) (legs b))) enters amends (λ a cs b. leads a (map (sent (sends s.view)) (g cs)) b) s.below before steps t.below
  below_sent shows sends s before steps t h = sent_read (view_read shows sends s) before steps t h

  -- a run on a lent survey is a run on the survey
  pub lent_sent : (s : MutBor S) (before steps : List Step) (t : MutBor S)
      → Sent (λ (u : MutBor S). f (legs u.now)) (λ u. enters u.now) (λ u. amends u.now) (λ u cs v. Lent leads u (g cs) v) s before steps t
      → Sent (λ b. f (legs b)) enters amends (λ a cs b. leads a (g cs) b) s.now before steps t.now
  lent_sent s before steps t h = sent_read (lent_read s) before steps t h

module _ {S : Type 0} (legs : S → List Leg) (enters amends : S → Bool) (leads : S → List Change → S → Type 0) where
  abbrev Turned : Type 0
  Turned = Viewed Declination (Viewed Reversed (Viewed Mirrored (MutBor S)))

  -- a run on the stack of three views of a lent survey is a run on the survey, as seen through the stack
  pub stack_sent : (s : Turned) (before steps : List Step) (t : Turned)
      → Sent (λ (u : Turned). map (declination_shows u.view.turn) (map reversed_shows (map mirrored_shows (legs u.below.below.below.now)))) (λ u. enters u.below.below.below.now) (λ u. amends u.below.below.below.now)
      (λ u cs v. Through (λ (w : Declination). declination_sends w.turn) (Through (λ (w : Reversed). reversed_sends) (Through (λ (w : Mirrored). mirrored_sends) (Lent leads))) u cs v) s before steps t
      → Sent (λ b. stack_shows s.view.turn (legs b)) enters amends (λ a cs b. leads a (stack_sends s.view.turn cs) b) s.below.below.below.now before steps t.below.below.below.now
  stack_sent s before steps t h =
      let d = s.view.turn in
      let lent : MutBor S → List Leg = λ u. legs u.now in
      let seen : Viewed Mirrored (MutBor S) → List Leg = λ u. map mirrored_shows (lent u.below) in
      let led : Viewed Mirrored (MutBor S) → List Change → Viewed Mirrored (MutBor S) → Type 0 = Through (λ (w : Mirrored). mirrored_sends) (Lent leads) in
      let x = below_sent (λ (u : Viewed Reversed (Viewed Mirrored (MutBor S))). map reversed_shows (seen u.below)) (λ u. enters u.below.below.now) (λ u. amends u.below.below.now) (Through (λ (w : Reversed). reversed_sends) led)
      (λ xs. xs) (λ cs. cs) (λ (w : Declination). declination_shows w.turn) (λ (w : Declination). declination_sends w.turn) s before steps t h in
      let y = below_sent seen (λ u. enters u.below.now) (λ u. amends u.below.now) led
      (top_shows d) (top_sends d) (λ (w : Reversed). reversed_shows) (λ (w : Reversed). reversed_sends) s.below before steps t.below x in
      let z = below_sent lent (λ u. enters u.now) (λ u. amends u.now) (Lent leads)
      (upper_shows d) (upper_sends d) (λ (w : Mirrored). mirrored_shows) (λ (w : Mirrored). mirrored_sends) s.below.below before steps t.below.below y in
      lent_sent legs enters amends leads (stack_shows d) (stack_sends d) s.below.below.below before steps t.below.below.below z
