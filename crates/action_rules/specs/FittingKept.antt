-- Actions that keep to the bounds of a function leave states that fit it.
use Rattle.std.proofs.Common.{◌≡◌, ℕ, zero, suc, ◌+◌, ◌≤◌, ◌==◌, nat_le, nat_lt, Bool, true, false, if◌then◌else◌, Option, Some, None, List, [], ◌∷◌, length, drop, replicate, refl, ap, ◌∙◌, arith}
use Rattle.std.specs.List.{list_all, slice_get}
use Rattle.std.proofs.lemmas.Bool.{and_parts, and_from}
use Rattle.std.proofs.lemmas.Bool.Decides.{nat_tests}
use Rattle.compact_term.specs.declared.operand.Reg.{Reg}
use Rattle.compact_term.specs.declared.operand.Reg.TheVariants as regs
use Rattle.op_table.specs.declared.action.Src.{Src}
use Rattle.op_table.specs.declared.action.Src.TheVariants as sources
use Rattle.op_table.specs.declared.action.Action.{Action}
use Rattle.op_table.specs.declared.action.Action.TheVariants as acts
use Rattle.reg_state.specs.declared.kind.Kind.{Kind}
use Rattle.reg_state.specs.declared.kind.Kind.TheVariants.{Term, Unset}
use Rattle.reg_state.specs.Store.{SlotOf, FrameOf}
use Rattle.reg_state.specs.Store.SlotOf.{Holds, Tagged}
use Rattle.reg_state.specs.Store.FrameOf.{Absent, Slots, Unknown}
use Rattle.reg_state.specs.States.{Known}
use Rattle.action_rules.specs.Effects.{overwritten, write_slot, put_slot, over_slots, value_in, slot_value, value_of, source_value, put_x, write_reg, first_kept, arrived, with_x, with_frame, with_room, trimmed, terms_of, effect, effects}
use Rattle.action_rules.specs.KindDomain.{copied_kind, kinds}
use Rattle.action_rules.specs.Known.{known_effects}
use Rattle.action_rules.specs.Fitting.{Bounds, slot_kind_fits, slot_fits, slots_fit, frame_fits, Fits, reg_fits, action_fits}

-- ---- slots

write_size : (ss : List (SlotOf Kind)) (y : ℕ) (new : Kind) → length (write_slot ss y new) ≡ length ss
write_size [] y new = refl
write_size (s ∷ ss) zero new = refl
write_size (s ∷ ss) (suc y) new = ap suc (write_size ss y new)

put_size : (ss : List (SlotOf Kind)) (y : ℕ) (new : SlotOf Kind) → length (put_slot ss y new) ≡ length ss
put_size [] y new = refl
put_size (s ∷ ss) zero new = refl
put_size (s ∷ ss) (suc y) new = ap suc (put_size ss y new)

replicate_size : (n : ℕ) (s : SlotOf Kind) → length (replicate n s) ≡ n
replicate_size zero s = refl
replicate_size (suc n) s = ap suc (replicate_size n s)

drop_size : (n : ℕ) (ss : List (SlotOf Kind)) → length (drop n ss) ≤ length ss
drop_size zero ss = omega arith
drop_size (suc n) [] = omega arith
drop_size (suc n) (s ∷ ss) = let fewer = drop_size n ss in omega (arith, fewer)

-- ---- what is written

copied_fits : (kind : Kind) → slot_kind_fits (copied_kind kind) ≡ true
copied_fits kind = grind arith

value_in_fits : (slot : Option (SlotOf Kind)) → slot_kind_fits (value_in kinds slot) ≡ true
value_in_fits None = refl
value_in_fits (Some (Holds kind)) = copied_fits kind
value_in_fits (Some (Tagged label kind)) = refl

slot_value_fits : (f : FrameOf Kind (Unit {0})) (y : ℕ) → slot_kind_fits (slot_value kinds f y) ≡ true
slot_value_fits Absent y = refl
slot_value_fits (Slots ss) y = value_in_fits (slice_get ss y)
slot_value_fits (Unknown why) y = refl

value_fits : (r : Reg) (s : Known) → slot_kind_fits (value_of kinds r s) ≡ true
value_fits (regs.X n) s = copied_fits (s.x n)
value_fits (regs.Y y) s = slot_value_fits s.frame y

source_fits : (source : Src) (terms : List ℕ) (s : Known) → slot_kind_fits (source_value kinds source terms s) ≡ true
source_fits (sources.Reg r) terms s = value_fits r s
source_fits sources.Const terms s = refl

-- ---- registers

kept_unset : (n : ℕ) (x : ℕ → Kind) (i : ℕ) → x i ≡ Unset → first_kept kinds n x i ≡ Unset
kept_unset n x i unset = go (nat_lt i n) where
  go : (kept : Bool) → (if kept then x i else Unset) ≡ Unset
  go true = unset
  go false = refl

-- ---- within bounds

module _ (b : Bounds) where
  overwritten_fits : (s : SlotOf Kind) (new : Kind) → slot_kind_fits new ≡ true → slot_fits b s ≡ true → slot_fits b (overwritten s new) ≡ true
  overwritten_fits (Holds old) new fit old_fit = fit
  overwritten_fits (Tagged label kind) new fit old_fit = old_fit

  written_fit : (ss : List (SlotOf Kind)) (y : ℕ) (new : Kind) → slot_kind_fits new ≡ true → list_all (slot_fits b) ss ≡ true → list_all (slot_fits b) (write_slot ss y new) ≡ true
  written_fit [] y new fit all = refl
  written_fit (s ∷ ss) zero new fit all = let parts = and_parts (slot_fits b s) (list_all (slot_fits b) ss) all in and_from _ _ (overwritten_fits s new fit parts.0) parts.1
  written_fit (s ∷ ss) (suc y) new fit all = let parts = and_parts (slot_fits b s) (list_all (slot_fits b) ss) all in and_from _ _ parts.0 (written_fit ss y new fit parts.1)

  put_fit : (ss : List (SlotOf Kind)) (y : ℕ) (new : SlotOf Kind) → slot_fits b new ≡ true → list_all (slot_fits b) ss ≡ true → list_all (slot_fits b) (put_slot ss y new) ≡ true
  put_fit [] y new fit all = refl
  put_fit (s ∷ ss) zero new fit all = and_from _ _ fit (and_parts (slot_fits b s) (list_all (slot_fits b) ss) all).1
  put_fit (s ∷ ss) (suc y) new fit all = let parts = and_parts (slot_fits b s) (list_all (slot_fits b) ss) all in and_from _ _ parts.0 (put_fit ss y new fit parts.1)

  replicate_fit : (n : ℕ) (s : SlotOf Kind) → slot_fits b s ≡ true → list_all (slot_fits b) (replicate n s) ≡ true
  replicate_fit zero s fit = refl
  replicate_fit (suc n) s fit = and_from _ _ fit (replicate_fit n s fit)

  drop_fit : (n : ℕ) (ss : List (SlotOf Kind)) → list_all (slot_fits b) ss ≡ true → list_all (slot_fits b) (drop n ss) ≡ true
  drop_fit zero ss all = all
  drop_fit (suc n) [] all = refl
  drop_fit (suc n) (s ∷ ss) all = drop_fit n ss (and_parts (slot_fits b s) (list_all (slot_fits b) ss) all).1

  -- ---- frames

  as_many : (ss ts : List (SlotOf Kind)) → length ts ≤ length ss → slots_fit b ss ≡ true → list_all (slot_fits b) ts ≡ true → slots_fit b ts ≡ true
  as_many ss ts fewer fit all =
      let size = (and_parts (nat_le (length ss) b.y) (list_all (slot_fits b) ss) fit).0 in
      and_from _ _ (few (length ss) (length ts) fewer size) all where
        few : (m n : ℕ) → n ≤ m → nat_le m b.y ≡ true → nat_le n b.y ≡ true
        few m n below at_most = grind (arith, nat_tests)

  each_fits : (ss : List (SlotOf Kind)) → slots_fit b ss ≡ true → list_all (slot_fits b) ss ≡ true
  each_fits ss fit = (and_parts (nat_le (length ss) b.y) (list_all (slot_fits b) ss) fit).1

  over_fits : (change : List (SlotOf Kind) → List (SlotOf Kind)) (f : FrameOf Kind (Unit {0})) → ((ss : List (SlotOf Kind)) → slots_fit b ss ≡ true → slots_fit b (change ss) ≡ true) → frame_fits b f ≡ true → frame_fits b (over_slots change f) ≡ true
  over_fits change Absent changed fit = refl
  over_fits change (Slots ss) changed fit = changed ss fit
  over_fits change (Unknown why) changed fit = refl

  write_frame_fits : (y : ℕ) (new : Kind) (f : FrameOf Kind (Unit {0})) → slot_kind_fits new ≡ true → frame_fits b f ≡ true → frame_fits b (over_slots (λ ss. write_slot ss y new) f) ≡ true
  write_frame_fits y new f new_fits fit =
      over_fits (λ ss. write_slot ss y new) f (λ ss slots. let size = write_size ss y new in as_many ss (write_slot ss y new) (omega (arith, size)) slots (written_fit ss y new new_fits (each_fits ss slots))) fit

  put_frame_fits : (y : ℕ) (new : SlotOf Kind) (f : FrameOf Kind (Unit {0})) → slot_fits b new ≡ true → frame_fits b f ≡ true → frame_fits b (over_slots (λ ss. put_slot ss y new) f) ≡ true
  put_frame_fits y new f new_fits fit =
      over_fits (λ ss. put_slot ss y new) f (λ ss slots. let size = put_size ss y new in as_many ss (put_slot ss y new) (omega (arith, size)) slots (put_fit ss y new new_fits (each_fits ss slots))) fit

  either_fits : (yes : Bool) (ss : List (SlotOf Kind)) → slots_fit b ss ≡ true → frame_fits b (if yes then Slots ss else Unknown tt) ≡ true
  either_fits true ss fit = fit
  either_fits false ss fit = refl

  trimmed_fits : (n r : ℕ) (f : FrameOf Kind (Unit {0})) → frame_fits b f ≡ true → frame_fits b (trimmed kinds n r f) ≡ true
  trimmed_fits n r Absent fit = refl
  trimmed_fits n r (Slots ss) fit = either_fits (length ss == n + r) (drop n ss) (as_many ss (drop n ss) (drop_size n ss) fit (drop_fit n ss (each_fits ss fit)))
  trimmed_fits n r (Unknown why) fit = refl

  -- ---- registers that the function lacks stay unset

  put_unset : (x : ℕ → Kind) (n : ℕ) (new : Kind) (i : ℕ) → nat_lt n b.x ≡ true → b.x ≤ i → x i ≡ Unset → put_x x n new i ≡ Unset
  put_unset x n new i inside outside unset = go (i == n) refl where
    go : (same : Bool) → (i == n) ≡ same → (if same then new else x i) ≡ Unset
    go true is = absurd (grind (arith, nat_tests))
    go false is = unset

  arrived_unset : (n : ℕ) (terms : List ℕ) (i : ℕ) → nat_le n b.x ≡ true → b.x ≤ i → arrived kinds n terms i ≡ Unset
  arrived_unset n terms i inside outside = go (nat_lt i n) refl where
    go : (below : Bool) → nat_lt i n ≡ below → (if below then Term else Unset) ≡ Unset
    go true is = absurd (grind (arith, nat_tests))
    go false is = refl

  -- ---- actions

  write_reg_fits : (r : Reg) (new : Kind) (s : Known) → reg_fits b r ≡ true → slot_kind_fits new ≡ true → Fits b s → Fits b (write_reg r new s)
  write_reg_fits (regs.X n) new s inside new_fits fit = record { registers = λ i outside. put_unset s.x n new i inside outside (fit.registers i outside); frame = fit.frame }
  write_reg_fits (regs.Y y) new s inside new_fits fit = record { registers = fit.registers; frame = write_frame_fits y new s.frame new_fits fit.frame }

  with_x_fits : (x : ℕ → Kind) (s : Known) → ((i : ℕ) → b.x ≤ i → x i ≡ Unset) → Fits b s → Fits b (with_x x s)
  with_x_fits x s unset fit = record { registers = unset; frame = fit.frame }

  with_frame_fits : (f : FrameOf Kind (Unit {0})) (s : Known) → frame_fits b f ≡ true → Fits b s → Fits b (with_frame f s)
  with_frame_fits f s frame fit = record { registers = fit.registers; frame = frame }

  with_room_fits : (words funs : ℕ) (s : Known) → Fits b s → Fits b (with_room words funs s)
  with_room_fits words funs s fit = record { registers = fit.registers; frame = fit.frame }

  new_frame_fits : (n : ℕ) → nat_le n b.y ≡ true → slots_fit b (replicate n (Holds Unset)) ≡ true
  new_frame_fits n few = and_from _ _ (ap (λ (size : ℕ). nat_le size b.y) (replicate_size n (Holds Unset)) ∙ few) (replicate_fit n (Holds Unset) refl)

  effect_fits : (a : Action) (terms : List ℕ) (s : Known) → action_fits b a ≡ true → Fits b s → Fits b (effect kinds a terms s)
  effect_fits (acts.Read source) terms s inside fit = fit
  effect_fits (acts.Live n) terms s inside fit = fit
  effect_fits acts.FullY terms s inside fit = fit
  effect_fits (acts.Keep n) terms s inside fit = with_x_fits _ s (λ i outside. kept_unset n s.x i (fit.registers i outside)) fit
  effect_fits (acts.Room words funs) terms s inside fit = with_room_fits words funs s fit
  effect_fits (acts.Take words) terms s inside fit = with_room_fits _ _ s fit
  effect_fits acts.TakeFun terms s inside fit = with_room_fits _ _ s fit
  effect_fits (acts.Write r) terms s inside fit = write_reg_fits r Term s inside refl fit
  effect_fits (acts.Copy source r) terms s inside fit = write_reg_fits r _ s inside (source_fits source terms s) fit
  effect_fits (acts.Swap first second) terms s inside fit =
      let parts = and_parts (reg_fits b first) (reg_fits b second) inside in
      write_reg_fits second _ _ parts.1 (value_fits first s) (write_reg_fits first _ s parts.0 (value_fits second s) fit)
  effect_fits (acts.NewFrame n) terms s inside fit = with_frame_fits _ s (new_frame_fits n inside) fit
  effect_fits (acts.DropFrame n) terms s inside fit = with_frame_fits Absent s refl fit
  effect_fits (acts.Trim n r) terms s inside fit = with_frame_fits _ s (trimmed_fits n r s.frame fit.frame) fit
  effect_fits acts.InFrame terms s inside fit = fit
  effect_fits acts.NoFrame terms s inside fit = fit
  effect_fits (acts.Tag y label kind) terms s inside fit = with_frame_fits _ s (put_frame_fits y (Tagged label kind) s.frame inside fit.frame) fit
  effect_fits (acts.Untag y kind) terms s inside fit = with_frame_fits _ s (put_frame_fits y (Holds Term) s.frame refl fit.frame) fit
  effect_fits acts.Caught terms s inside fit = with_x_fits _ s (λ i outside. arrived_unset 1 terms i inside outside) fit
  effect_fits acts.Landed terms s inside fit = with_x_fits _ s (λ i outside. arrived_unset 3 terms i inside outside) fit

  effects_fit : (list : List Action) (terms : List ℕ) (s : Known) → list_all (action_fits b) list ≡ true → Fits b s → Fits b (effects kinds list terms s)
  effects_fit [] terms s inside fit = fit
  effects_fit (a ∷ rest) terms s inside fit =
      let parts = and_parts (action_fits b a) (list_all (action_fits b) rest) inside in
      effects_fit rest (drop (terms_of a) terms) (effect kinds a terms s) parts.1 (effect_fits a terms s parts.0 fit)

pub known_effects_fit : (b : Bounds) (list : List Action) (s : Known) → list_all (action_fits b) list ≡ true → Fits b s → Fits b (known_effects list s)
known_effects_fit b list s inside fit = effects_fit b list [] s inside fit
