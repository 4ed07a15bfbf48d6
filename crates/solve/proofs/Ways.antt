-- Ways back to a root: they do not branch, they are short, and a unit sent over their first side leaves the rest open.
use Rattle.std.proofs.Common.{◌≡◌, ℕ, suc, ◌+◌, ◌<◌, ◌≤◌, true, List, length, sym, refl, ap, ◌∙◌, subst, inl, inr, ⊎_elim, arith}
use Rattle.std.proofs.lemmas.Bool.{ne_eqb, not_from_false}
use Rattle.price.specs.Laws.{Ops, Laws}
use Rattle.duality.specs.Flows.{Fits}
use Rattle.search.specs.declared.Label.{Label}
use Rattle.search.specs.Labels.{label_at, reached}
use Rattle.search.specs.Paths.{Chain, Safe}
use Rattle.search.specs.Paths as paths
use Rattle.search.specs.Networks.{twin, Network, cost_by, move}
use Rattle.search.proofs.Twins.{twin_twin, twin_inside}
use Rattle.search.proofs.Rounds.{det, short}
use Rattle.search.proofs.Residual.{Sound}
use Rattle.solve.specs.Solutions.{arcs, OneWay}
use Rattle.solve.specs.Chains.{Push, Tight, Way, root, back, Shift, Priced, Sent}
use Rattle.solve.proofs.Pushes.{apart, apart_twin, fits_on, one_way_on, shift_on, shift_trans, safe_on}

module _ {P : Type 0} {ops : Ops P} {w : Network P} {side : ℕ → ℕ} {label : ℕ → Label P} where
  -- a way is a chain, whatever the flow
  pub way_chain : {f : ℕ → ℕ} {v u k : ℕ} → Way ops w side label f v u k → Chain (λ v e. w.node (twin (side v))) label v k
  way_chain (root e) = paths.root e
  way_chain (back h t c) = paths.back h (way_chain c)

  pub way_reached : {f : ℕ → ℕ} {v u k : ℕ} → Way ops w side label f v u k → reached (label v) ≡ true
  way_reached {v = v} (root e) = not_from_false _ (ne_eqb (label v).end 65535 (λ q. omega arith))
  way_reached {v = v} (back h t c) = not_from_false _ (ne_eqb (label v).end 65535 (λ q. omega arith))

  same_depth : {f : ℕ → ℕ} {x v t u k l : ℕ} → x ≡ v → Way ops w side label f x t k → Way ops w side label f v u l → k ≡ l
  same_depth {f} {t = t} {k = k} e a b = det (λ v e. w.node (twin (side v))) label (way_chain (subst (λ z. Way ops w side label f z t k) e a)) (way_chain b)

  -- ways from one node lead to one root, whatever the flows
  pub same_root : {f f' : ℕ → ℕ} {v t u k l : ℕ} → Way ops w side label f v t k → Way ops w side label f' v u l → t ≡ u
  same_root (root e) (root d) = refl
  same_root (root e) (back h t c) = absurd (omega arith)
  same_root (back h t c) (root e) = absurd (omega arith)
  same_root (back h t c) (back g s d) = same_root c d

  -- the first side of a way that does not start at a root, and the rest
  pub first_side : {f : ℕ → ℕ} {v u k : ℕ} → Way ops w side label f v u k → ((label v).end ≡ 65534 → ⊥) → (j : ℕ) × (suc j ≡ k) × ((label v).end < 65534) × Tight ops w label f v (side v) × Way ops w side label f (w.node (twin (side v))) u j
  first_side (root e) ne = absurd (ne e)
  first_side (back {k = j} h t c) ne = (j, refl, h, t, c)

  pub at_root : {f : ℕ → ℕ} {v u k : ℕ} → Way ops w side label f v u k → (label v).end ≡ 65534 → v ≡ u
  at_root (root e) r = refl
  at_root (back h t c) r = absurd (omega arith)

  -- after a unit over the side that leads to v, a way from y that is no longer than the rest is as it was
  module _ (f f' : ℕ → ℕ) (v u k : ℕ) (push : Push w.room f f' (side v)) (tight : Tight ops w label f v (side v)) (way : Way ops w side label f v u (suc k)) where
    tight_on : (y t j : ℕ) → suc j ≤ k → Tight ops w label f y (side y) → Way ops w side label f y t (suc j) → Way ops w side label f (w.node (twin (side y))) t j → Tight ops w label f' y (side y)
    tight_on y t j le old all rest =
        let ne : side y ≡ side v → ⊥ = λ e. let d = same_depth (sym old.to ∙ ap w.node e ∙ tight.to) all way in omega arith in
        let no : side y ≡ twin (side v) → ⊥ = λ e. let d = same_depth (ap (λ z. w.node (twin z)) e ∙ ap w.node (twin_twin (side v)) ∙ tight.to) rest way in omega arith in
        let a = apart w.room f f' (side v) (side y) push ne no in
        let b = apart_twin w.room f f' (side v) (side y) push ne no in
        record {
          inside = old.inside;
          to = old.to;
          by = old.by;
          free = ⊎_elim (λ z. inl (omega arith)) (λ z. inr (omega arith)) old.free;
          held = old.held ∙ ap (λ z. ops.plus (label (w.node (twin (side y)))).price (cost_by ops w (side y) z)) (sym b);
        }

    pub way_on : {y t j : ℕ} → j ≤ k → Way ops w side label f y t j → Way ops w side label f' y t j
    way_on le (root e) = root e
    way_on {y} {t} le (back {k = j} h s c) = back h (tight_on y t j le s (back h s c) c) (way_on (omega arith) c)

-- a unit is on its way from the root u to v, and has come back to x, after i steps
pub record On {P : Type 0} (ops : Ops P) (n : ℕ) (w : Network P) (side : ℕ → ℕ) (label : ℕ → Label P) (f₀ f : ℕ → ℕ) (v u x i : ℕ) : Type 0 where
  pub k : ℕ
  pub first : (t j : ℕ) → Way ops w side label f₀ v t j → u ≡ t
  pub way : Way ops w side label f x u k
  pub left : k + i < n
  pub inside : x < n
  pub fits : Fits (arcs n w) f
  pub one_way : OneWay w f
  pub kept : (pot : ℕ → P) → Priced label pot → Safe ops w.count (move ops w f₀) pot → Safe ops w.count (move ops w f) pot
  pub shift : Shift n w f₀ f x v

module _ {P : Type 0} {ops : Ops P} (L : Laws ops) (n : ℕ) (w : Network P) (key : ℕ → ℕ → ℕ) (sound : Sound ops n w key) (side : ℕ → ℕ) (labels : List (Label P)) (long : length labels ≡ n) (f₀ : ℕ → ℕ) (v u : ℕ) where
  abbrev label : ℕ → Label P
  label = label_at ops labels

  pub on_start : (k : ℕ) → v < n → Fits (arcs n w) f₀ → OneWay w f₀ → Way ops w side label f₀ v u k → On ops n w side label f₀ f₀ v u v 0
  on_start k b fits one_way way = record {
    k = k;
    first = λ t j other. same_root way other;
    way = way;
    left = (let s = short ops (λ v e. w.node (twin (side v))) labels v k (way_chain way) in omega arith);
    inside = b;
    fits = fits;
    one_way = one_way;
    kept = λ pot priced safe. safe;
    shift = λ m lt. omega arith;
  }

  module _ (f f' : ℕ → ℕ) (x i : ℕ) (ne : (label x).end ≡ 65534 → ⊥) (push : Push w.room f f' (side x)) (on : On ops n w side label f₀ f v u x i) where
    pub on_step : On ops n w side label f₀ f' v u (w.node (twin (side x))) (i + 1)
    on_step =
        let a = first_side on.way ne in
        let j = a.0 in
        let is = a.1 in
        let t = a.3 in
        let all : Way ops w side label f x u (suc j) = back a.2 t a.4 in
        let left = on.left in
        record {
          k = j;
          first = on.first;
          way = way_on f f' x u j push t all (omega arith) a.4;
          left = omega arith;
          inside = sound.inside _ (twin_inside w.count (side x) sound.even t.inside);
          fits = fits_on n w f f' (side x) on.fits push;
          one_way = one_way_on w f f' (side x) sound.even t.inside on.one_way push;
          kept = λ pot priced safe.
              safe_on L n w key sound pot f f' (side x) on.one_way t.inside
              (ap pot t.to ∙ priced x (way_reached all) ∙ t.held ∙ ap (λ z. ops.plus z (cost_by ops w (side x) (f (twin (side x))))) (sym (priced (w.node (twin (side x))) (way_reached a.4))))
              push (on.kept pot priced safe);
          shift = shift_trans n w f₀ f f' _ x v on.shift (subst (Shift n w f f' (w.node (twin (side x)))) t.to (shift_on n w f f' (side x) sound.even t.inside push));
        }

  pub on_end : (f : ℕ → ℕ) (x i : ℕ) → On ops n w side label f₀ f v u x i → Sent ops n w label f₀ f v x
  on_end f x i on = record { inside = on.inside; fits = on.fits; one_way = on.one_way; kept = on.kept; shift = on.shift }
