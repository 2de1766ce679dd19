-- The needs of a plan, told from one state.
use Rattle.std.proofs.Common.{◌≡◌, ◌∙◌, ℕ, zero, suc, Bool, true, Option, Some, None, option_map, List, [], ◌∷◌, ◌++◌, refl, sym, ap}
use Rattle.std.specs.List.{list_all, slice_get}
use Rattle.std.specs.Option.{option_or, option_to_list}
use Rattle.std.proofs.lemmas.Bool.{and_parts}
use Rattle.op_table.specs.declared.action.Action.{Action}
use Rattle.op_table.specs.declared.plans.Plan.{Plan}
use Rattle.reg_state.specs.States.{Known}
use Rattle.action_rules.specs.declared.reason.Reason.{Reason}
use Rattle.action_rules.specs.KindDomain.{kinds}
use Rattle.action_rules.specs.Needs.{need, exit_need, plan_need}
use Rattle.action_rules.specs.Steady.{needs_now, steady_needs}
use Rattle.code_faults.specs.declared.fault.Fault.{Fault}
use Rattle.code_faults.specs.Faults.{fault_at, faults_at}
use Rattle.flow_rules.specs.Body.{plan_is_steady}

pub steady_at : (plans : List Plan) (place : ℕ) (p : Plan) → list_all plan_is_steady plans ≡ true → slice_get plans place ≡ Some p → plan_is_steady p ≡ true
steady_at [] place p all at = absurd cc
steady_at (q ∷ plans) zero p all at = let same : q ≡ p = cc in ap plan_is_steady (sym same) ∙ (and_parts _ _ all).0
steady_at (q ∷ plans) (suc place) p all at = steady_at plans place p (and_parts _ _ all).1 at

-- ---- needs one after another

or_first : (a b c : Option Reason) → option_or (option_or a b) c ≡ option_or a (option_or b c)
or_first None b c = refl
or_first (Some why) b c = refl

joined_needs : (first rest : List Action) (s : Known) → needs_now kinds (first ++ rest) s ≡ option_or (needs_now kinds first s) (needs_now kinds rest s)
joined_needs [] rest s = refl
joined_needs (a ∷ first) rest s = ap (option_or (need kinds a s)) (joined_needs first rest s) ∙ sym (or_first (need kinds a s) (needs_now kinds first s) (needs_now kinds rest s))

pub plan_needs : (p : Plan) (has_next : Bool) (s : Known) → plan_is_steady p ≡ true → option_or (option_or (needs_now kinds p.before s) (needs_now kinds p.after s)) (exit_need has_next p.exit) ≡ plan_need kinds has_next p s
plan_needs p has_next s steady =
    ap (λ (first : Option Reason). option_or first (exit_need has_next p.exit)) (sym (steady_needs kinds (p.before ++ p.after) [] s steady ∙ joined_needs p.before p.after s))

-- ---- one after another, where the first that fails is told

module _ (p : Plan) (has_next : Bool) (s : Known) (steady : plan_is_steady p ≡ true) where
  pub fails_before : (why : Reason) → Some why ≡ needs_now kinds p.before s → Some why ≡ plan_need kinds has_next p s
  fails_before why before = ap (λ (first : Option Reason). option_or (option_or first (needs_now kinds p.after s)) (exit_need has_next p.exit)) before ∙ plan_needs p has_next s steady

  met_before : None ≡ needs_now kinds p.before s → option_or (needs_now kinds p.after s) (exit_need has_next p.exit) ≡ plan_need kinds has_next p s
  met_before before = ap (λ (first : Option Reason). option_or (option_or first (needs_now kinds p.after s)) (exit_need has_next p.exit)) before ∙ plan_needs p has_next s steady

  pub fails_after : (why : Reason) → None ≡ needs_now kinds p.before s → Some why ≡ needs_now kinds p.after s → Some why ≡ plan_need kinds has_next p s
  fails_after why before after = ap (λ (next : Option Reason). option_or next (exit_need has_next p.exit)) after ∙ met_before before

  pub exit_is_left : None ≡ needs_now kinds p.before s → None ≡ needs_now kinds p.after s → exit_need has_next p.exit ≡ plan_need kinds has_next p s
  exit_is_left before after = ap (λ (next : Option Reason). option_or next (exit_need has_next p.exit)) after ∙ met_before before

-- a need that is found, as a list of faults
pub need_listed : (number place : ℕ) (o : Option Reason) (found : Option Fault) → found ≡ option_map (fault_at number place) o → option_to_list found ≡ faults_at number place o
need_listed number place o found is = ap option_to_list is ∙ listed o where
  listed : (r : Option Reason) → option_to_list (option_map (fault_at number place) r) ≡ faults_at number place r
  listed None = refl
  listed (Some why) = refl
