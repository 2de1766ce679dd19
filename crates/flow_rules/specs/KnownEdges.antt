-- Where a plan leads from what is known, and what is known there.
use Rattle.std.specs.Prelude.{ℕ, ◌+◌, ◌==◌, nat_lt, Bool, true, false, ◌&&◌, ◌||◌, if◌then◌else◌, Option, Some, None, List, [], ◌∷◌, ◌++◌, map, length, slice_get}
use Rattle.op_table.specs.declared.plans.Exit.{Exit}
use Rattle.op_table.specs.declared.plans.Exit.TheVariants as exits
use Rattle.op_table.specs.declared.plans.Plan.{Plan}
use Rattle.op_table.specs.Rules.{exit_labels}
use Rattle.reg_state.specs.declared.kind.Kind.{Kind}
use Rattle.reg_state.specs.declared.kind.Kind.TheVariants.{Term, Caught, Unset}
use Rattle.reg_state.specs.Store.{SlotOf, FrameOf}
use Rattle.reg_state.specs.Store.SlotOf.{Holds, Tagged}
use Rattle.reg_state.specs.Store.FrameOf.{Absent, Slots, Unknown}
use Rattle.reg_state.specs.States.{Known}
use Rattle.label_fixpoint.specs.declared.edge.Edge.{Edge}
use Rattle.label_fixpoint.specs.Cut.{onward}
use Rattle.action_rules.specs.Known.{known_effects}
use Rattle.action_rules.specs.Needs.{goes_on}
use Rattle.flow_rules.specs.Body.{Body}

abbrev pub edge_to : ℕ → Known → Edge Known
edge_to target s = record { target = target; state = s }

-- the same state goes to each of the labels
abbrev pub edges_to : (ℕ → ℕ) → List ℕ → Known → List (Edge Known)
edges_to place labels s = map (λ label. edge_to (place label) s) labels

-- ---- states

-- so many arguments, no frame and no room
abbrev pub arguments : ℕ → ℕ → Kind
arguments arity i = if nat_lt i arity then Term else Unset

abbrev pub first_known : ℕ → Known
first_known arity = record { x = arguments arity; frame = Absent; words = 0; funs = 0 }

-- what comes before it can fail is done
abbrev pub entered : Plan → Known → Known
entered p s = known_effects p.before s

-- all is done
abbrev pub done : Plan → Known → Known
done p s = known_effects p.after (entered p s)

abbrev pub mark_alone : ℕ → Kind
mark_alone i = if i == 0 then Caught else Unset

-- a handler is entered with the mark, the frame and no room
abbrev pub caught : FrameOf Kind (Unit {0}) → Known
caught frame = record { x = mark_alone; frame = frame; words = 0; funs = 0 }

-- ---- raising

abbrev pub exit_raises : Exit → Bool
exit_raises exits.Next = false
exit_raises (exits.Labels labels) = false
exit_raises (exits.Enter label) = true
exit_raises (exits.TailLocal label) = false
exit_raises exits.TailExt = false
exit_raises exits.Return = false
exit_raises exits.End = true

abbrev pub may_raise : Plan → Bool
may_raise p = p.raises || exit_raises p.exit

-- the label of the lowest handler, if there is one
abbrev pub lowest : {A : Type 0} → List (SlotOf A) → List ℕ
lowest [] = []
lowest (Holds kind ∷ ss) = lowest ss
lowest (Tagged label kind ∷ ss) = label ∷ []

-- where it isn't known which frame there is, any handler of the function may be the one
abbrev pub handlers_in : List ℕ → FrameOf Kind (Unit {0}) → List ℕ
handlers_in handlers Absent = []
handlers_in handlers (Slots ss) = lowest ss
handlers_in handlers (Unknown why) = handlers

abbrev pub raise_edges : Body → FrameOf Kind (Unit {0}) → List (Edge Known)
raise_edges b frame = edges_to b.place (handlers_in b.bounds.handlers frame) (caught frame)

abbrev pub raises_of : Body → Plan → Known → List (Edge Known)
raises_of b p s = if may_raise p then raise_edges b (entered p s).frame else []

-- ---- edges

-- from a state in which a plan can fail: to labels where it does, and to handlers where it raises
abbrev pub failures : Body → Plan → Known → List (Edge Known)
failures b p s = edges_to b.place p.fails s ++ (if may_raise p then raise_edges b s.frame else [])

-- to labels: where it fails, where it raises, and where it goes when all is done
abbrev pub jumps : Body → Plan → Known → List (Edge Known)
jumps b p s = edges_to b.place p.fails (entered p s) ++ raises_of b p s ++ edges_to b.place (exit_labels p.exit) (done p s)

abbrev pub has_next : Body → ℕ → Bool
has_next b place = nat_lt (place + 1) (length b.plans)

-- what the next place is entered with
abbrev pub goes : Body → ℕ → Plan → Known → Option Known
goes b place p s = if goes_on p.exit && has_next b place then Some (done p s) else None

abbrev pub plan_edges : Body → ℕ → Plan → Known → List (Edge Known)
plan_edges b place p s = jumps b p s ++ onward (place + 1) (goes b place p s)

abbrev pub edges_by : Body → ℕ → Option Plan → Known → List (Edge Known)
edges_by b place None s = []
edges_by b place (Some p) s = plan_edges b place p s

abbrev pub known_edges : Body → ℕ → Known → List (Edge Known)
known_edges b place s = edges_by b place (slice_get b.plans place) s

-- ---- the edges of a place apart

abbrev pub jumps_by : Body → Option Plan → Known → List (Edge Known)
jumps_by b None s = []
jumps_by b (Some p) s = jumps b p s

-- those to labels
abbrev pub jumps_at : Body → ℕ → Known → List (Edge Known)
jumps_at b place s = jumps_by b (slice_get b.plans place) s

abbrev pub goes_by : Body → ℕ → Option Plan → Known → Option Known
goes_by b place None s = None
goes_by b place (Some p) s = goes b place p s

-- what the next place is entered with
abbrev pub goes_at : Body → ℕ → Known → Option Known
goes_at b place s = goes_by b place (slice_get b.plans place) s
