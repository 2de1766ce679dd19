-- Texts that are put one behind another.
use Rattle.std.proofs.Common.{◌≡◌, ℕ, List, [], ◌++◌, sym, ap, ◌∙◌, append_assoc}
use Rattle.std.proofs.lemmas.List.{append-nil}

pub nothing_behind : (old : List ℕ) → old ≡ old ++ []
nothing_behind old = sym (append-nil old)

-- one more text behind those that were put before it
pub put_behind : (old done text now after : List ℕ) → now ≡ old ++ done → after ≡ now ++ text → after ≡ old ++ (done ++ text)
put_behind old done text now after before is = is ∙ ap (λ (l : List ℕ). l ++ text) before ∙ append_assoc old done text

-- a mark, and a text behind it
pub marked_behind : (old done mark text now after : List ℕ) → now ≡ old ++ done → after ≡ now ++ mark ++ text → after ≡ old ++ (done ++ mark ++ text)
marked_behind old done mark text now after before is =
    is ∙ ap (λ (l : List ℕ). l ++ mark ++ text) before ∙ ap (λ (l : List ℕ). l ++ text) (append_assoc old done mark) ∙ append_assoc old (done ++ mark) text
