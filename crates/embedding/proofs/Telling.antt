-- Tables of what was told of each index.
use Rattle.std.proofs.Common.{◌≡◌, ℕ, ◌<◌, ◌≤◌, cond, ltb, List, get_or, sym, ◌∙◌, ⊎_elim, arith}
use Rattle.std.proofs.lemmas.Bool.{cases_lt, cond-true, cond-false, lt-ltb, le-ltb}
use Rattle.embedding.specs.Tables.{Holds, Tells}

-- where all that is told of an index is what f says of it, the table holds f
pub holds_told : {A : Type 0} {told : ℕ → A → Type 0} {xs : List A} {k : ℕ} (d : A) (f : ℕ → A) (n : ℕ) → n ≤ k → Tells told xs k → ((e : ℕ) (v : A) → e < k → told e v → v ≡ f e) → Holds d f xs n
holds_told d f n le t h e l = h e _ (omega arith) (t.at d e (omega arith))

-- and where its other places hold d, it is known at every index
pub held_everywhere : {A : Type 0} {told : ℕ → A → Type 0} {xs : List A} {k : ℕ} (d : A) (f : ℕ → A) → Tells told xs k → ((e : ℕ) → k ≤ e → get_or xs e d ≡ d) → ((e : ℕ) (v : A) → e < k → told e v → v ≡ f e) → (e : ℕ) → get_or xs e d ≡ cond (ltb e k) (f e) d
held_everywhere {k = k} d f t rest h e = ⊎_elim
    (λ (l : e < k). h e _ l (t.at d e l) ∙ sym (cond-true (ltb e k) (f e) d (lt-ltb e k l)))
    (λ (l : k ≤ e). rest e l ∙ sym (cond-false (ltb e k) (f e) d (le-ltb e k l)))
    (cases_lt e k)
