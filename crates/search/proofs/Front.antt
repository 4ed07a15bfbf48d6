-- What is read at a place of a list, and the label that a read gives.
use Rattle.std.proofs.Common.{◌≡◌, ℕ, ◌<◌, List, length, get_or, take, drop, sym, ap, ◌∙◌, ⊎_elim, drop-cons}
use Rattle.std.proofs.lemmas.List.{drop_all, get_or_past, get_or-take}
use Rattle.std.proofs.lemmas.Bool.{cases_lt}
use Rattle.price.specs.Laws.{Ops}
use Rattle.slice_vec.specs.Places.{at_item}
use Rattle.search.specs.declared.Label.{Label}
use Rattle.search.specs.Labels.{first_of, blank, label_at}

first_read : {A : Type 0} (xs : List A) (i : ℕ) (d : A) → first_of d (take 1 (drop i xs)) ≡ get_or xs i d
first_read xs i d =
    ⊎_elim
    (λ b. ap (λ ys. first_of d (take 1 ys)) (drop-cons xs i d b))
    (λ b. ap (λ ys. first_of d (take 1 ys)) (drop_all i xs b) ∙ sym (get_or_past xs i d b))
    (cases_lt i (length xs))

-- a node's label among those in use
pub held_at : {P : Type 0} (ops : Ops P) (used : ℕ) (places : List (Label P)) (v : ℕ) → v < used → first_of (blank ops) (at_item places used v) ≡ label_at ops places v
held_at ops used places v h = first_read (take used places) v (blank ops) ∙ get_or-take used places v (blank ops) h
