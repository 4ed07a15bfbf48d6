-- A large angle that is found is the only one of its station; where none is, there is no source or sink.
use Rattle.std.proofs.Common.{◌≡◌, ℕ, ◌≤◌, ◌<◌, true, Option, Some, None, MatchOption, sym, ◌∙◌, arith, rules, tests}
use Rattle.std.proofs.lemmas.Iterator.{first_from_Range}
use Rattle.survey.specs.Ends.{ends, station}
use Rattle.draw.specs.Drawings.{drawing_legs, drawing_shape}
use Rattle.draw.specs.declared.drawings.Drawing.{Drawing}
use Rattle.draw.specs.Shapes.{NamesLarge}
use Rattle.draw.proofs.Large.{at_switch, only_large, no_switch}
use Rattle.draw.proofs.drawings.Drawing.large_at.Goals as goal

module _ (d : Drawing) (s : ℕ) where
  -- the angle of e is large, and e stands at the station
  abbrev Yes : ℕ → Type 0
  Yes e = (station (drawing_legs d) e ≡ s) × ((drawing_shape d).large e ≡ true)

  abbrev No : ℕ → Type 0
  No e = station (drawing_legs d) e ≡ s → (drawing_shape d).large e ≡ true → ⊥

  named : (n : ℕ) → n ≡ ends (drawing_legs d) → (r : Option ℕ) → MatchOption r ((k : ℕ) → 0 ≤ k → k < n → k < ends (drawing_legs d) → No k) (λ i. (0 ≤ i) × (i < n) × (i < ends (drawing_legs d) → Yes i) × ((k : ℕ) → 0 ≤ k → k < i → k < ends (drawing_legs d) → No k)) → NamesLarge (drawing_legs d) (drawing_shape d) s r
  named n q None h = λ k l t. no_switch (drawing_legs d) (drawing_shape d) d.angles s (λ k l. h k (omega arith) (omega arith) (omega arith)) k l t
  named n q (Some e) (z, l, hit, missed) =
      let m : e < ends (drawing_legs d) = omega arith in
      let w = hit m in
      (m, w.0, at_switch (drawing_legs d) (drawing_shape d) d.angles e m w.1, w.1, λ k l t u. only_large (drawing_legs d) (drawing_shape d) d.angles e m w.1 k l (t ∙ sym w.0) u)

pub returns : goal.returns
returns c =
    let d = c.args.self.now in
    let s = c.args.station in
    let n = ends (drawing_legs d) in
    named d s _ (search rules) c.find.result
    (first_from_Range _ _ _ c.find.result (λ e. e < n → Yes d s e) (λ e. e < n → No d s e) c.find.ensures.ran
    (λ x q k l. search (rules, tests))
    (λ x q k. (search (rules, tests), λ l t u. search (rules, tests))))
