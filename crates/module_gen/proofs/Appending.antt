-- Instructions put behind others, one at a time.
use Rattle.std.proofs.Common.{◌≡◌, List, [], ◌∷◌, ◌++◌, sym, ap, ◌∙◌, append_assoc}
use Rattle.std.proofs.lemmas.List.{append-nil}
use Rattle.op_table.specs.Instruction.{Instruction}

pub nothing_behind : (list : List Instruction) → list ≡ list ++ []
nothing_behind list = sym (append-nil list)

-- one more stands behind those that were put before it
pub behind : (list items now after : List Instruction) (put x : Instruction) → now ≡ list ++ items → after ≡ now ++ put ∷ [] → put ≡ x → after ≡ list ++ (items ++ x ∷ [])
behind list items now after put x before is same =
    is ∙ ap (λ (y : Instruction). now ++ y ∷ []) same ∙ ap (λ (l : List Instruction). l ++ x ∷ []) before ∙ append_assoc list items (x ∷ [])
