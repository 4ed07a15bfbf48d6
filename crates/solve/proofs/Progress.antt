-- The solver's loop: what holds at first, after a unit, and at the end.
use Rattle.std.proofs.Common.{◌≡◌, ℕ, ◌<◌, true, eqb, ltb, List, sym, refl, ◌∙◌, subst, ⊎_elim, arith}
use Rattle.std.proofs.lemmas.Bool.{cases_lt, cases_Bool, cond-true, cond-false, eq-eqb, ne_eqb, lt-ltb, le-ltb, both_ways, not_from_false, not_from_true}
use Rattle.price.specs.Laws.{Ops, Laws}
use Rattle.duality.specs.Sums.{at}
use Rattle.duality.proofs.Exchange.{sum_zero}
use Rattle.duality.proofs.Theorems.{numbers, sum_strict}
use Rattle.search.specs.declared.Label.{Label}
use Rattle.search.specs.Labels.{label_at, reached, Lower, Roots, Fresh}
use Rattle.search.specs.Paths.{Named, Settled}
use Rattle.search.specs.Networks.{twin, Network, move, Usable}
use Rattle.search.proofs.Next.{next_pot, next_safe, pot_reached}
use Rattle.search.proofs.Residual.{Sound, from_at, named}
use Rattle.solve.specs.Solutions.{Best, NoFlow, Leaves}
use Rattle.solve.specs.Chains.{Way, root, back, Supplied, one_at, Sent, Seeded, Underway, Labelled, Onward, OneLess, total}
use Rattle.solve.proofs.Steady.{held}
use Rattle.solve.proofs.Ends.{best, uneven, cut, way}

none_at : (A : ℕ) (end f : ℕ → ℕ) (m : ℕ) → ((s : ℕ) → f s ≡ 0) → at A end f m ≡ 0
none_at A end f m h = sum_zero numbers A _ (λ a b. ⊎_elim (λ e. cond-true _ _ _ e ∙ h a) (λ e. cond-false _ _ _ e) (cases_Bool (eqb (end a) m)))

total_less : (n : ℕ) (f f' : ℕ → ℕ) (v : ℕ) → v < n → OneLess f f' v → total n f' < total n f
total_less n f f' v b less =
    sum_strict n v _ _ (λ m c. let e = less m in omega arith) b
    (let e = less v in let o : one_at v v ≡ 1 = cond-true _ _ _ (eq-eqb v v refl) in omega arith)

pub seeded_fresh : {P : Type 0} (ops : Ops P) (over : ℕ → ℕ) (labels : List (Label P)) → Seeded ops over labels → Fresh ops labels
seeded_fresh ops over labels seeds v = (
  (seeds v).0,
  λ r. ⊎_elim
      (λ h. (seeds v).1 ∙ cond-true _ _ _ h)
      (λ h. absurd (both_ways _ (not_from_true _ (eq-eqb _ 65535 ((seeds v).1 ∙ cond-false _ _ _ h))) r))
      (cases_Bool (ltb 0 (over v))),
)

module _ {P : Type 0} {ops : Ops P} (L : Laws ops) (n : ℕ) (w : Network P) (key : ℕ → ℕ → ℕ) (sound : Sound ops n w key) where
  pub underway_start : (f : ℕ → ℕ) → ((s : ℕ) → f s ≡ 0) → Underway ops n w f
  underway_start f z = record {
    fits = λ s b. let e = z s in omega arith;
    one_way = λ s b some. z (twin s);
    safe = (
      λ _. ops.zero,
      λ s b. held L w (λ _. ops.zero) f s (record {
        less = λ k. absurd (let e = z (twin s) in omega arith);
        more = λ k l. subst (λ x. ops.leq ops.zero x ≡ true) (sym (L.comm ops.zero (w.fee s) ∙ L.unit (w.fee s))) (sound.paid s b);
      }),
    );
  }

  pub leaves_start : (p q f : ℕ → ℕ) → ((s : ℕ) → f s ≡ 0) → Leaves n w p q p q f
  leaves_start p q f z v b = let x = none_at w.count w.node f v z in let y = none_at w.count (λ s. w.node (twin s)) f v z in omega arith

  -- a unit was sent from u to v, and both demands are one less
  module _ (label : ℕ → Label P) (f f' : ℕ → ℕ) (v u : ℕ) (sent : Sent ops n w label f f' v u) where
    pub labelled_next : Labelled ops n w label f → Labelled ops n w label f'
    labelled_next old = record { fits = sent.fits; one_way = sent.one_way; pot = old.pot; priced = old.priced; safe = sent.kept old.pot old.priced old.safe }

    pub onward_next : (short over short' over' : ℕ → ℕ) → OneLess short short' v → OneLess over over' u → Onward n w short over f short' over' f'
    onward_next short over short' over' less_short less_over p q old m b =
        let x = old m b in
        let y = sent.shift m b in
        let a = less_short m in
        let c = less_over m in
        omega arith

    pub less_next : (over over' : ℕ → ℕ) → OneLess over over' u → total n over' < total n over
    less_next over over' less = total_less n over over' u sent.inside less

  -- nothing is left to give, and nothing wanted
  pub met : (p q short over f : ℕ → ℕ) → Underway ops n w f → Leaves n w p q short over f → ((v : ℕ) → v < n → over v ≡ 0) → ((v : ℕ) → v < n → short v ≡ 0) → Best ops n w p q f
  met p q short over f u left no_over no_short = best L n w key sound u.safe.0 p q f u.safe.1 u.fits u.one_way (λ v b. let x = left v b in let y = no_over v b in let z = no_short v b in omega arith)

  -- nothing is left to give, and something wanted
  pub unmet : (p q short over f : ℕ → ℕ) → Leaves n w p q short over f → ((v : ℕ) → v < n → over v ≡ 0) → (m : ℕ) → m < n → 0 < short m → NoFlow n w p q
  unmet p q short over f left no_over m b some = uneven L n w key sound p q short f (λ v c. let x = left v c in let y = no_over v c in omega arith) m b some

  -- after a search from the nodes that have units left
  module _ (short over f : ℕ → ℕ) (under : Underway ops n w f) (seeded labels : List (Label P)) (seeds : Seeded ops over seeded) (lower : Lower ops seeded labels) (roots : Roots ops seeded labels)
      (settled : (from : ℕ → ℕ → ℕ) → Named w.count (move ops w f) from → Settled ops from w.count (move ops w f) labels) where
    rest : Settled ops (from_at ops w key f) w.count (move ops w f) labels
    rest = settled (from_at ops w key f) (named ops n w key sound f under.fits)

    seed_reached : (v : ℕ) → 0 < over v → reached (label_at ops seeded v) ≡ true
    seed_reached v h = not_from_false _ (ne_eqb _ 65535 (λ e. let y : (label_at ops seeded v).end ≡ 65534 = (seeds v).1 ∙ cond-true _ _ _ (lt-ltb 0 (over v) h) in omega arith))

    -- no labelled node wants a unit
    pub stuck : ((v : ℕ) → v < n → reached (label_at ops labels v) ≡ true → short v ≡ 0) → (m : ℕ) → m < n → 0 < over m → (p q : ℕ → ℕ) → Leaves n w p q short over f → NoFlow n w p q
    stuck no_short m b some p q left = cut L n w key sound f under.fits labels rest p q short over left no_short m b (lower m (seed_reached m some)).0 some

    root_gives : {side : ℕ → ℕ} {v u k : ℕ} → Way ops w side (label_at ops labels) f v u k → 0 < over u
    root_gives (root e) =
        ⊎_elim (λ h. h) (λ h. absurd (let x = roots _ e in let z : (label_at ops seeded _).end ≡ 65535 = (seeds _).1 ∙ cond-false _ _ _ (le-ltb 0 (over _) h) in omega arith)) (cases_lt 0 (over _))
    root_gives (back h t c) = root_gives c

    -- a labelled node can be supplied
    pub supplied : (side : ℕ → ℕ) → ((s : ℕ) → s < w.count → Usable w s → (label_at ops labels (w.node s)).end ≡ w.end s → side (w.node s) ≡ s) → (v : ℕ) → reached (label_at ops labels v) ≡ true → Supplied ops w side (label_at ops labels) f over v
    supplied side indexed v r =
        let c = rest.chained v r in
        let on = way L n w key sound f under.fits labels rest side indexed c.1 in
        record { from = on.0; sides = c.0; way = on.1; some = root_gives on.1 }

    -- the prices are a potential, lifted where there are none
    pub labelled : Labelled ops n w (label_at ops labels) f
    labelled = record {
      fits = under.fits;
      one_way = under.one_way;
      pot = next_pot L (from_at ops w key f) w.count (move ops w f) labels under.safe.0 rest under.safe.1;
      priced = pot_reached L (from_at ops w key f) w.count (move ops w f) labels under.safe.0 rest under.safe.1;
      safe = next_safe L (from_at ops w key f) w.count (move ops w f) labels under.safe.0 rest under.safe.1;
    }

pub underway_of : {P : Type 0} {ops : Ops P} {n : ℕ} {w : Network P} {label : ℕ → Label P} {f : ℕ → ℕ} → Labelled ops n w label f → Underway ops n w f
underway_of l = record { fits = l.fits; one_way = l.one_way; safe = (l.pot, l.safe) }
