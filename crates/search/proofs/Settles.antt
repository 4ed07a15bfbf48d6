-- One round of tries more, on places of which the first n are labels.
use Rattle.std.proofs.Common.{◌≡◌, ℕ, ◌+◌, ◌*◌, ◌≤◌, Bool, true, false, List, length, take, sym, ap, ◌∙◌, subst, arith}
use Rattle.price.specs.Laws.{Ops, Laws}
use Rattle.search.specs.declared.Label.{Label}
use Rattle.search.specs.declared.Side.{Side}
use Rattle.search.specs.Labels.{Lower, Roots, Sized}
use Rattle.search.specs.Moves.{Move, State, swept}
use Rattle.search.specs.Paths.{Safe, Named, Settled}
use Rattle.search.specs.Networks.{units}
use Rattle.search.specs.Sides.{network, residual, Proper, WithinRoom}
use Rattle.search.proofs.Sweep.{AllFit, start, front, front_at, swept_front, swept_keeps, sized_sweep}
use Rattle.search.proofs.Keys.{key}
use Rattle.search.proofs.Going.{Going, going_next, going_end}
use Rattle.search.proofs.Residual.{Sound, sound, all_fit, from_at, named}

-- what a round did to the places: `before` at its start, `after` at its end
pub record Rounded {P : Type 0} {ops : Ops P} (L : Laws ops) (n count : ℕ) (moves : ℕ → Move P) (r : ℕ) (before after : List (Label P)) (changed : Bool) : Type 0 where
  pub lower : Lower ops (take n before) (take n after)
  pub roots : Roots ops (take n before) (take n after)
  pub small : (b : ℕ) → 8190000 * (r + 1) ≤ b → Sized ops n b after
  pub long : length after ≡ length before
  pub next : changed ≡ true → Going L count moves n (r + 1) (take n after)
  pub rest : changed ≡ false → (from : ℕ → ℕ → ℕ) → Named count moves from → Settled ops from count moves (take n after)

module _ {P : Type 0} {ops : Ops P} (L : Laws ops) (n : ℕ) (rate : ℕ → ℕ → P) (sides : List Side) (proper : Proper n sides) (low : (a b : ℕ) → ops.leq ops.zero (rate a b) ≡ true) (small : (a b : ℕ) → a ≤ 1000 → ops.size (rate a b) ≤ 1000) (flow : List ℕ) (room : WithinRoom sides flow) (pot : ℕ → P) (safe : Safe ops (length sides) (residual ops rate sides flow) pot) where
  abbrev moves : ℕ → Move P
  moves = residual ops rate sides flow

  sd : Sound ops n (network ops rate sides) (key sides)
  sd = sound L n rate sides proper low small

  fit : AllFit ops n (length sides) moves
  fit = all_fit L n (network ops rate sides) (key sides) sd (units flow)

  few : length sides ≤ 4095
  few = let h = proper.few in omega arith

  module _ (r : ℕ) (places after : List (Label P)) (changed : Bool) (long : n ≤ length places) (going : Going L (length sides) moves n r (take n places)) (e : ◌≡◌ {A = State P} (record { changed = changed; labels = after }) (swept ops (start places) moves (length sides))) where
    round_front : ◌≡◌ {A = State P} (record { changed = changed; labels = take n after }) (swept ops (start (take n places)) moves (length sides))
    round_front = ap (front n) e ∙ sym (swept_front ops n (length sides) (start places) moves fit (length sides) (omega arith))

    keeps : Lower ops (take n places) (take n after) × Roots ops (take n places) (take n after)
    keeps =
        let k = swept_keeps L n (length sides) (start (take n places)) moves going.long fit (length sides) (omega arith) in
        subst (λ (s : State P). Lower ops (take n places) s.labels × Roots ops (take n places) s.labels) (sym round_front) (k.1, k.2)

    sizes : Sized ops n (8190000 * r + 2000 * length sides) after × (length after ≡ length places)
    sizes =
        let z = sized_sweep L n (8190000 * r) (start places) (length sides) moves long (λ v lt. subst (λ (m : Label P). ops.size m.price ≤ 8190000 * r) (front_at ops n places v lt) (going.small v lt)) fit (length sides) (omega arith) in
        subst (λ (s : State P). Sized ops n (8190000 * r + 2000 * length sides) s.labels × (length s.labels ≡ length places)) (sym e) z

    pub rounded : Rounded L n (length sides) moves r places after changed
    rounded = record {
      lower = keeps.0;
      roots = keeps.1;
      small = λ b h v lt. let q = sizes.0 v lt in let f = proper.few in omega arith;
      long = sizes.1;
      next = λ h. going_next L (length sides) moves n r (take n places) going fit few (from_at ops (network ops rate sides) (key sides) (units flow)) pot (named ops n (network ops rate sides) (key sides) sd (units flow) room) safe
          (record { changed = changed; labels = take n after }) round_front h;
      rest = λ h from nm. going_end L (length sides) moves n r (take n places) going fit few from pot nm safe (record { changed = changed; labels = take n after }) round_front h;
    }
