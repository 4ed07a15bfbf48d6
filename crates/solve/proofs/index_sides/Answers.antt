-- A side that its node's label came by is the only such side, so that what is written stays.
use Rattle.std.proofs.Common.{◌≡◌, ℕ, ◌+◌, ◌<◌, ◌≤◌, List, length, take, set, sym, ap, ◌∙◌, subst, ⊎_elim, arith}
use Rattle.std.proofs.lemmas.Bool.{cases_eq}
use Rattle.search.specs.declared.Label.{Label}
use Rattle.search.specs.declared.Side.{Side}
use Rattle.search.specs.Labels.{label_at}
use Rattle.search.specs.Networks.{units}
use Rattle.search.specs.Sides.{side_at, CanOpen, Proper}
use Rattle.search.proofs.Sweep.{at_set}
use Rattle.solve.proofs.Held.{label_read}
use Rattle.solve.proofs.index_sides.Goals as goal
use Rattle.solve.proofs.index_sides.Goals.{then-is_usable+then-label_at-side, else-is_usable, else-is_usable-via-then-is_usable+else-label_at-side, else-is_usable-via-else-is_usable}

-- the sides below s are indexed; `end v` is the end of the label of v
abbrev Below : List Side → (ℕ → ℕ) → List ℕ → ℕ → Type 0
Below sides end came s = (k : ℕ) → k < s → CanOpen sides k → end (side_at sides k).node ≡ (side_at sides k).end → units came (side_at sides k).node ≡ k

module _ (n : ℕ) (sides : List Side) (proper : Proper n sides) (end : ℕ → ℕ) (came : List ℕ) (s : ℕ) (inside : s < length sides) (below : Below sides end came s) where
  one : (k : ℕ) → k < length sides → CanOpen sides k → CanOpen sides s → (side_at sides k).node ≡ (side_at sides s).node → (side_at sides k).end ≡ (side_at sides s).end → k ≡ s
  one k lt a b e f =
      proper.keyed k s lt inside a b e f

  written : n ≤ length came → CanOpen sides s → end (side_at sides s).node ≡ (side_at sides s).end → Below sides end (set came (side_at sides s).node s) (s + 1)
  written long b is k lt a by =
      ⊎_elim
      (λ e. e.1 ∙ sym (one k (omega arith) a b e.0 (sym by ∙ ap end e.0 ∙ is)))
      (λ e. e.1 ∙ below k (let ne : k ≡ s → ⊥ = λ q. e.0 (ap (λ z. (side_at sides z).node) q) in omega arith) a by)
      (at_set came (side_at sides s).node (side_at sides k).node s 0 (let h = proper.inside s inside in omega arith))

  passed : (CanOpen sides s → end (side_at sides s).node ≡ (side_at sides s).end → ⊥) → Below sides end came (s + 1)
  passed not-here k lt a by =
      ⊎_elim
      (λ e. absurd (not-here (subst (CanOpen sides) e a) (subst (λ z. end (side_at sides z).node ≡ (side_at sides z).end) e by)))
      (λ ne. below k (omega arith) a by)
      (cases_eq k s)

pub loop-s-preserved : goal.loop-s-preserved
loop-s-preserved g c =
    let o = g.T.Price.Price.ops in
    let n = c.args.network.now.nodes in
    let places = c.args.labels.now.places.now in
    let sides = c.args.network.now.sides.now in
    let s = c.loop-s.s in
    let lt = c.loop-s-test.true in
    let node = c.args.network.now.proper.inside s lt in
    let end : ℕ → ℕ = λ z. (label_at o (take n places) z).end in
    let read : (r : Label g.row.T-Price.Denot) → ((side_at sides s).node < c.args.labels.now.used → r ≡ label_at o places (side_at sides s).node) → r.end ≡ end (side_at sides s).node =
    λ r e. ap (λ (m : Label g.row.T-Price.Denot). m.end) (label_read o n places (side_at sides s).node r node (e (omega (arith, c.requires.labels.0)))) in
    elim c.if-is_usable.branch [
      | then-is_usable+then-label_at-side w ↦
          subst (λ xs. Below sides end xs (s + 1)) (sym w.came_by-is)
          (written n sides c.args.network.now.proper end c.loop-s.came_by s lt c.loop-s.invariant (omega (arith, c.loop-s.auto.came_by, c.requires.labels.2)) (c.is_usable.ensures.may w.if-is_usable.true) (sym (read w.label_at.result w.label_at.ensures.held) ∙ w.if-label_at-side.true))
      | else-is_usable w ↦
          subst (λ xs. Below sides end xs (s + 1)) (sym w.came_by-is)
          (passed n sides c.args.network.now.proper end c.loop-s.came_by s lt c.loop-s.invariant (elim w.else-is_usable.branch [
            | else-is_usable-via-then-is_usable+else-label_at-side x ↦ λ _ is. x.if-label_at-side.false (read x.label_at.result x.label_at.ensures.held ∙ is)
            | else-is_usable-via-else-is_usable x ↦ λ may _. let z = c.is_usable.ensures.never x.if-is_usable.false in ⊎_elim (λ h. omega arith) (λ h. omega arith) may
          ]))
    ]
