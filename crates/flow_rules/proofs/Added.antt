-- Edges that are added one by one.
use Rattle.std.proofs.Common.{◌≡◌, ℕ, zero, suc, ◌<◌, List, [], ◌∷◌, ◌++◌, length, take, drop, get_or, refl, ap, arith, Result, Ok, Err}
use Rattle.std.specs.Result.{OnErr}
use Rattle.reg_state.specs.States.{Known}
use Rattle.label_fixpoint.specs.declared.edge.Edge.{Edge}
use Rattle.flow_rules.specs.KnownEdges.{edge_to, edges_to}

pub one_more : (place : ℕ → ℕ) (labels : List ℕ) (i d : ℕ) (s : Known) → i < length labels → edges_to place (take (suc i) labels) s ≡ edges_to place (take i labels) s ++ edge_to (place (get_or labels i d)) s ∷ []
one_more place [] i d s inside = absurd (omega arith)
one_more place (label ∷ labels) zero d s inside = refl
one_more place (label ∷ labels) (suc i) d s inside = ap (λ (es : List (Edge Known)). edge_to (place label) s ∷ es) (one_more place labels i d s (omega arith))

pub cut_at : (place : ℕ → ℕ) (labels : List ℕ) (i : ℕ) (s : Known) → edges_to place labels s ≡ edges_to place (take i labels) s ++ edges_to place (drop i labels) s
cut_at place [] zero s = refl
cut_at place [] (suc i) s = refl
cut_at place (label ∷ labels) zero s = refl
cut_at place (label ∷ labels) (suc i) s = ap (λ (es : List (Edge Known)). edge_to (place label) s ∷ es) (cut_at place labels i s)

pub on_err : {T E P : Type 0} (r : Result T E) → P → OnErr r P
on_err (Ok _) p = tt
on_err (Err _) p = p
