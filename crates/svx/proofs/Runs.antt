-- What the loop over the lines keeps, and what a whole run says of the text and of the survey.
use Rattle.std.proofs.Common.{◌≡◌, ℕ, ◌+◌, ◌≤◌, Bool, true, false, ltb, ◌⊎◌, List, [], ◌∷◌, length, drop, MatchBool, Ok, Err, Result, sym, refl, ap, ◌∙◌, subst, inl, inr, ⊎_elim, arith}
use Rattle.std.proofs.lemmas.Bool.{cases_Bool, cond-false, le-ltb}
use Rattle.std.proofs.lemmas.Bool.Decides.{when_true, when_false}
use Rattle.std.specs.Result.{MatchResult, IsErrAnd}
use Rattle.refusal.specs.declared.Refusal.{Refusal}
use Rattle.refusal.specs.Answers.{Answer, number_of, value_of, accepted, refused, told}
use Rattle.survey.specs.declared.leg.Leg.{Leg}
use Rattle.survey.specs.declared.leg.Change.TheVariants.{Enter}
use Rattle.survey.specs.Model.{is_accepted, enter_legs}
use Rattle.survey.specs.Changes.{changes}
use Rattle.survey.proofs.Accepted.{refused_not}
use Rattle.svx_line.specs.Spans.{Span, fields}
use Rattle.svx_line.specs.Verdicts.{Verdict, nothing, offers, bad, verdict}
use Rattle.svx.specs.declared.fault.Fault.{Fault}
use Rattle.svx.specs.declared.fault.Layer.TheVariants.{Survey}
use Rattle.svx.specs.Lines.{lines, lines_from, lines_left}
use Rattle.svx.specs.Script.{Script, ends, flaw, offer, follow, script_from, script, offered, keeps_rules}
use Rattle.svx.specs.Reading.{Outcome, through, stopped, Meaning, answer_to, takes, refused_at, Reads, TakesAll, RefusesOne, Exactly}
use Rattle.svx.specs.Told.{fault_told, outcome}

when_map : (b : Bool) (P P' Q Q' : Type 0) → (b ≡ true → P → P') → (b ≡ false → Q → Q') → MatchBool b P Q → MatchBool b P' Q'
when_map true P P' Q Q' f g h = f refl h
when_map false P P' Q Q' f g h = g refl h

pub not_through : (f : Fault) → fault_told f ≡ through → ⊥
not_through f e = let z : ◌≡◌ {A = ℕ} 0 1 = cc in omega arith

-- what the code makes of the survey's refusal
pub at_line : (k p : ℕ) (r : Result (Unit {0}) Refusal) (q : Result (Unit {0}) Fault) (F : Refusal → Fault → Type 0) → ((e : Refusal) (f : Fault) → F e f → f ≡ record { cause = e; line = k; place = p; layer = Survey })
    → MatchResult r (λ x. q ≡ Ok x) (λ e. IsErrAnd q (F e)) → MatchResult r (λ _. outcome q ≡ through) (λ e. outcome q ≡ stopped (number_of e) (value_of e) k p Survey)
at_line k p (Ok x) q F g h = ap outcome h
at_line k p (Err e) (Ok x) F g h = absurd h
at_line k p (Err e) (Err f) F g h = ap fault_told (g e f h)

module _ {S : Type 0} (m : Meaning S) where
  -- a line read through, and then the lines after it
  pub chain : (k : ℕ) (rest : Script) (v : Verdict) (s u : S) (o : Outcome) (t : S) → Reads m (follow v k ends) s through u → Reads m rest u o t → Reads m (follow v k rest) s o t
  chain k rest nothing s u o t h r = let P : S → Type 0 = λ y. Reads m rest y o t in subst P (sym h.1) r
  chain k rest (bad n v q) s u o t h r = let e = h.0 in let z : ◌≡◌ {A = ℕ} 0 1 = cc in absurd (omega arith)
  chain k rest (offers p l) s u o t h r = (
    h.0,
    h.1,
    when_map (takes m s l) _ _ _ _
        (λ _ i. let P : S → Type 0 = λ y. Reads m rest y o t in subst P (sym i.1) r)
        (λ _ i. let e = i.0 in let z : ◌≡◌ {A = ℕ} 0 1 = cc in absurd (omega arith))
        h.2,
  )

  -- a line that stops the reading stops it whatever follows
  pub halt : (k : ℕ) (rest : Script) (v : Verdict) (s : S) (o : Outcome) (t : S) → (o ≡ through → ⊥) → Reads m (follow v k ends) s o t → Reads m (follow v k rest) s o t
  halt k rest nothing s o t no' h = absurd (no' h.0)
  halt k rest (bad n v q) s o t no' h = h
  halt k rest (offers p l) s o t no' h = (h.0, h.1, when_map (takes m s l) _ _ _ _ (λ _ i. absurd (no' i.0)) (λ _ i. i) h.2)

  by_answer : (k p : ℕ) (r : Result (Unit {0}) Refusal) (o : Outcome) (u : S) → MatchResult r (λ _. o ≡ through) (λ e. o ≡ stopped (number_of e) (value_of e) k p Survey)
      → MatchBool (is_accepted (told r)) ((o ≡ through) × (u ≡ u)) ((o ≡ refused_at k p (told r)) × (u ≡ u))
  by_answer k p (Ok x) o u h = (h, refl)
  by_answer k p (Err e) o u h =
      let B : Bool → Type 0 = λ b. MatchBool b ((o ≡ through) × (u ≡ u)) ((o ≡ refused_at k p (refused e)) × (u ≡ u)) in
      subst B (sym (refused_not e)) (h, refl)

  -- what the survey answers to the leg that a line offers, and what the code makes of it
  pub entered : (k p : ℕ) (l : Leg) (r : Result (Unit {0}) Refusal) (o : Outcome) (s u : S) → told r ≡ answer_to m s l → m.legs u ≡ enter_legs (m.legs s) (m.enters s) l
      → ((told r ≡ accepted → ⊥) → (m.enters u ≡ m.enters s) × (m.amends u ≡ m.amends s)) → m.leads s (changes (told r) (Enter l)) u
      → MatchResult r (λ _. o ≡ through) (λ e. o ≡ stopped (number_of e) (value_of e) k p Survey) → Reads m (offer k p l ends) s o u
  entered k p l r o s u a list facts led h =
      let P : Answer → Type 0 = λ b. MatchBool (is_accepted b) ((o ≡ through) × (u ≡ u)) ((o ≡ refused_at k p b) × (u ≡ u)) in (
        u,
        record {
          list = list;
          facts = λ f. facts (λ e. let t : is_accepted (told r) ≡ true = ap is_accepted e in let g : is_accepted (told r) ≡ false = ap is_accepted a ∙ f in let z : ◌≡◌ {A = ℕ} 0 1 = cc in omega arith);
          led = subst (λ (b : Answer). m.leads s (changes b (Enter l)) u) a led;
        },
        subst P a (by_answer k p r o u h),
      )

  -- what is left to read from here makes a reading of the whole from the start
  abbrev pub Onward : List ℕ → ℕ → ℕ → S → S → Type 0
  Onward text place line s₀ s = (o : Outcome) (t : S) → Reads m (script_from (line + 1) (lines_left place text)) s o t → Reads m (script_from 1 (lines text)) s₀ o t

  pub onward_start : (text : List ℕ) (s : S) → Onward text 0 0 s s
  onward_start text s o t h =
      let e : lines_left 0 text ≡ lines text = cond-false (ltb (length text) 0) [] (lines_from 0 [] (drop 0 text)) (le-ltb (length text) 0 (omega arith)) in
      let P : List Span → Type 0 = λ ls. Reads m (script_from 1 ls) s o t in subst P e h

  module _ (text : List ℕ) (place line place' line' : ℕ) (s₀ s u : S) (x : Span) (e : lines_left place text ≡ x ∷ lines_left place' text) (l : line' ≡ line + 1) (h : Onward text place line s₀ s) where
    -- the run from here, the next line being x
    here : (o : Outcome) (t : S) → Reads m (follow (verdict (fields x)) line' (script_from (line' + 1) (lines_left place' text))) s o t → Reads m (script_from 1 (lines text)) s₀ o t
    here o t r =
        let P : List Span → Type 0 = λ ls. Reads m (script_from (line + 1) ls) s o t in
        let Q : ℕ → Type 0 = λ k. Reads m (script_from k (x ∷ lines_left place' text)) s o t in
        h o t (subst P (sym e) (subst Q l r))

    pub onward_more : Reads m (follow (verdict (fields x)) line' ends) s through u → Onward text place' line' s₀ u
    onward_more r o t rest = here o t (chain line' (script_from (line' + 1) (lines_left place' text)) (verdict (fields x)) s u o t r rest)

    pub onward_stop : (o : Outcome) → (o ≡ through → ⊥) → Reads m (follow (verdict (fields x)) line' ends) s o u → Reads m (script_from 1 (lines text)) s₀ o u
    onward_stop o no' r = here o u (halt line' (script_from (line' + 1) (lines_left place' text)) (verdict (fields x)) s o u no' r)

  pub onward_end : (text : List ℕ) (place line : ℕ) (s₀ s : S) → lines_left place text ≡ [] → Onward text place line s₀ s → Reads m (script_from 1 (lines text)) s₀ through s
  onward_end text place line s₀ s e h =
      let P : List Span → Type 0 = λ ls. Reads m (script_from (line + 1) ls) s through s in h through s (subst P (sym e) (refl, refl))

  -- a text that is not too long
  pub short : (text : List ℕ) (s : S) (o : Outcome) (t : S) → length text ≤ 65536 → Reads m (script_from 1 (lines text)) s o t → Reads m (script text) s o t
  short text s o t h r =
      let P : Script → Type 0 = λ sc. Reads m sc s o t in
      subst P (sym (cond-false (ltb 65536 (length text)) (flaw 24 (length text) 0 0) (script_from 1 (lines text)) (le-ltb 65536 (length text) h))) r

  if_through : (sc : Script) (s : S) (o : Outcome) (t : S) → Reads m sc s o t → o ≡ through → (keeps_rules sc ≡ true) × TakesAll m (offered sc) s t
  if_through ends s o t r e = (refl, r.1)
  if_through (flaw n v k p) s o t r e = let f = r.0 in absurd (let z : ◌≡◌ {A = ℕ} 0 1 = cc in omega arith)
  if_through (offer k p l rest) s o t r e =
      ⊎_elim
      (λ (y : takes m s l ≡ true). let i = if_through rest r.0 o t (when_true {b = takes m s l} _ _ y r.2) e in (i.0, (r.0, r.1, y, i.1)))
      (λ (n : takes m s l ≡ false). let f = (when_false {b = takes m s l} _ _ n r.2).0 in absurd (let z : ◌≡◌ {A = ℕ} 0 1 = cc in omega arith))
      (cases_Bool (takes m s l))

  if_stopped : (sc : Script) (s : S) (o : Outcome) (t : S) → Reads m sc s o t → (o ≡ through → ⊥) → (keeps_rules sc ≡ false) ⊎ RefusesOne m (offered sc) s t
  if_stopped ends s o t r no' = absurd (no' r.0)
  if_stopped (flaw n v k p) s o t r no' = inl refl
  if_stopped (offer k p l rest) s o t r no' =
      ⊎_elim
      (λ (y : takes m s l ≡ true).
      ⊎_elim
      (λ (f : keeps_rules rest ≡ false). inl f)
      (λ (q : RefusesOne m (offered rest) r.0 t). inr (r.0, r.1, (let P : Bool → Type 0 = λ b. MatchBool b (RefusesOne m (offered rest) r.0 t) (r.0 ≡ t) in subst P (sym y) q)))
      (if_stopped rest r.0 o t (when_true {b = takes m s l} _ _ y r.2) no'))
      (λ (n : takes m s l ≡ false).
      inr (r.0, r.1, (let P : Bool → Type 0 = λ b. MatchBool b (RefusesOne m (offered rest) r.0 t) (r.0 ≡ t) in subst P (sym n) (when_false {b = takes m s l} _ _ n r.2).1)))
      (cases_Bool (takes m s l))

  pub exactly : (sc : Script) (s : S) (o : Outcome) (t : S) → Reads m sc s o t → Exactly m sc s o t
  exactly sc s o t r = record { if_through = if_through sc s o t r; if_stopped = if_stopped sc s o t r }
