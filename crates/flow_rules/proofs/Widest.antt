-- The greatest frame of plans, one after another.
use Rattle.std.proofs.Common.{◌≡◌, ◌∙◌, ℕ, ◌+◌, ◌<◌, List, [], ◌∷◌, ◌++◌, drop, length, get_or, refl, sym, ap}
use Rattle.std.specs.List.{flat_map}
use Rattle.std.proofs.lemmas.List.{drop_more}
use Rattle.op_table.specs.declared.action.Action.{Action}
use Rattle.op_table.specs.declared.plans.Plan.{Plan}
use Rattle.flow_rules.specs.Making.{widened, widened_by}

abbrev pub all_actions : List Plan → List Action
all_actions plans = flat_map (λ p. p.before ++ p.after) plans

widened_append : (y : ℕ) (list others : List Action) → widened_by y (list ++ others) ≡ widened_by (widened_by y list) others
widened_append y [] others = refl
widened_append y (a ∷ rest) others = widened_append (widened y a) rest others

pub next_frames : (total y first second : ℕ) (plans : List Plan) (k : ℕ) (p : Plan) → total ≡ widened_by y (all_actions (drop k plans)) → k < length plans → p ≡ get_or plans k p → first ≡ widened_by y p.before → second ≡ widened_by first p.after → total ≡ widened_by second (all_actions (drop (k + 1) plans))
next_frames total y first second plans k p is below at before after =
    let later = all_actions (drop (k + 1) plans) in
    is
    ∙ (ap (λ (ps : List Plan). widened_by y (all_actions ps)) (drop_more plans k p below ∙ ap (λ (q : Plan). q ∷ drop (k + 1) plans) (sym at))
    ∙ (widened_append y (p.before ++ p.after) later
    ∙ (ap (λ (n : ℕ). widened_by n later) (widened_append y p.before p.after)
    ∙ ap (λ (n : ℕ). widened_by n later) (ap (λ (n : ℕ). widened_by n p.after) (sym before) ∙ sym after))))
