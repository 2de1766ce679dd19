-- A function as its flow sees it: the plans of its instructions, where its labels stand, and the bounds of its states.
use Rattle.std.specs.Prelude.{ℕ, suc, nat_lt, nat_le, Bool, ◌&&◌, if◌then◌else◌, List, [], ◌∷◌, ◌++◌, length}
use Rattle.std.specs.List.{list_all}
use Rattle.op_table.specs.declared.plans.Plan.{Plan}
use Rattle.op_table.specs.Rules.{exit_labels}
use Rattle.func_split.specs.declared.mark.Mark.{Mark}
use Rattle.func_split.specs.Marks.{marks_of}
use Rattle.func_split.specs.Faults.{is_label}
use Rattle.func_split.specs.Functions.{Piece}
use Rattle.action_rules.specs.Fitting.{Bounds, action_fits}
use Rattle.action_rules.specs.Steady.{are_steady}

pub record Body : Type 0 where
  pub plans : List Plan
  pub place : ℕ → ℕ
  pub entry : ℕ
  pub arity : ℕ
  pub bounds : Bounds

-- where a label stands first, and the number of places where it stands nowhere
abbrev pub place_in : List Mark → ℕ → ℕ
place_in [] label = 0
place_in (m ∷ ms) label = if is_label label m then 0 else suc (place_in ms label)

abbrev pub body_from : Piece → List Plan → List ℕ → ℕ → ℕ → Body
body_from f plans handlers x y = record {
  plans = plans;
  place = place_in (marks_of f.instrs);
  entry = f.entry;
  arity = f.arity;
  bounds = record { x = x; y = y; handlers = handlers };
}

-- ---- bodies that lead to places of their own alone

abbrev pub label_fits : Body → ℕ → Bool
label_fits b label = nat_lt (b.place label) (length b.plans)

abbrev pub plan_fits : Body → Plan → Bool
plan_fits b p = list_all (label_fits b) p.fails && list_all (label_fits b) (exit_labels p.exit) && list_all (action_fits b.bounds) p.before && list_all (action_fits b.bounds) p.after

abbrev pub body_fits : Body → Bool
body_fits b = nat_lt b.entry (length b.plans) && nat_le b.arity b.bounds.x && nat_le 3 b.bounds.x && list_all (label_fits b) b.bounds.handlers && list_all (plan_fits b) b.plans

-- ---- plans whose needs are all told from the state before them

abbrev pub plan_is_steady : Plan → Bool
plan_is_steady p = are_steady (p.before ++ p.after)
