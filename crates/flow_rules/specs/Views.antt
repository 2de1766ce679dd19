-- The state that stands for what is known, where that fits, says just what is known.
use Rattle.std.proofs.Common.{◌≡◌, ℕ, zero, suc, ◌+◌, ◌≤◌, List, [], ◌∷◌, map, refl, ap, ◌∙◌, arith}
use Rattle.std.specs.List.{All}
use Rattle.std.proofs.lemmas.List.Elements.{All-head, All-tail}
use Rattle.reg_state.specs.declared.kind.Kind.{Kind}
use Rattle.reg_state.specs.declared.kind.Kind.TheVariants.{Unset}
use Rattle.reg_state.specs.Store.{SlotOf, FrameOf}
use Rattle.reg_state.specs.Store.SlotOf.{Holds, Tagged}
use Rattle.reg_state.specs.Store.FrameOf.{Absent, Slots, Unknown}
use Rattle.reg_state.specs.States.{Known, x_of, slot_of, frame_of, store_of}
use Rattle.reg_state.specs.Ordered.{same_parts}
use Rattle.label_fixpoint.specs.declared.edge.Edge.{Edge}
use Rattle.action_rules.specs.Fitting.{Bounds, Fits}
use Rattle.flow_rules.specs.Stating.{kinds_from, slot_from, frame_from, state_from}
use Rattle.flow_rules.specs.Flow.{stated, known_edge}

kind_viewed : (x : ℕ → Kind) (from count i : ℕ) → ((j : ℕ) → from + count ≤ j → x j ≡ Unset) → x_of (kinds_from x from count) i ≡ x (from + i)
kind_viewed x from zero i unset = let is = unset (from + i) (omega arith) in cc
kind_viewed x from (suc more) zero unset = ap x (omega arith)
kind_viewed x from (suc more) (suc i) unset =
    let later = kind_viewed x (suc from) more i (λ j outside. unset j (omega (arith, outside))) in
    let same : suc from + i ≡ from + suc i = omega arith in
    cc

slot_viewed : (s : SlotOf Kind) → slot_of (slot_from s) ≡ s
slot_viewed (Holds kind) = refl
slot_viewed (Tagged label kind) = refl

slots_viewed : (ss : List (SlotOf Kind)) → map slot_of (map slot_from ss) ≡ ss
slots_viewed [] = refl
slots_viewed (s ∷ ss) = let first = slot_viewed s in let rest = slots_viewed ss in cc

frame_viewed : (f : FrameOf Kind (Unit {0})) → frame_of (frame_from f) ≡ f
frame_viewed Absent = refl
frame_viewed (Slots ss) = ap Slots (slots_viewed ss)
frame_viewed (Unknown why) = refl

pub state_viewed : (b : Bounds) (s : Known) → Fits b s → store_of (state_from b.x s) ≡ s
state_viewed b s fit =
    same_parts (store_of (state_from b.x s)) s kind (frame_viewed s.frame) refl refl where
      kind : (i : ℕ) → x_of (kinds_from s.x 0 b.x) i ≡ s.x i
      kind i = kind_viewed s.x 0 b.x i (λ j outside. fit.registers j (omega (arith, outside))) ∙ ap s.x (omega arith)

pub edge_viewed : (b : Bounds) (e : Edge Known) → Fits b e.state → known_edge (stated b.x e) ≡ e
edge_viewed b e fit = λ j. record { target = e.target; state = state_viewed b e.state fit j }

pub edges_viewed : (b : Bounds) (es : List (Edge Known)) → All (λ (e : Edge Known). Fits b e.state) es → map known_edge (map (stated b.x) es) ≡ es
edges_viewed b [] fit = refl
edges_viewed b (e ∷ es) fit =
    let first = edge_viewed b e (All-head (λ (d : Edge Known). Fits b d.state) e es fit) in
    let rest = edges_viewed b es (All-tail (λ (d : Edge Known). Fits b d.state) e es fit) in
    cc
