-- Actions none of which changes what a later one needs: all their needs can be told from the store before them.
use Rattle.std.proofs.Common.{◌≡◌, ◌∙◌, ℕ, zero, suc, Bool, true, false, not, ◌&&◌, Option, None, List, [], ◌∷◌, drop, refl, ap}
use Rattle.std.specs.List.{list_all, slice_get}
use Rattle.std.specs.Option.{option_or}
use Rattle.std.proofs.lemmas.Bool.{and_parts}
use Rattle.compact_term.specs.declared.operand.Reg.{Reg}
use Rattle.compact_term.specs.declared.operand.Reg.TheVariants as regs
use Rattle.op_table.specs.declared.action.Action.{Action}
use Rattle.op_table.specs.declared.action.Action.TheVariants as acts
use Rattle.reg_state.specs.Store.{SlotOf, FrameOf, Store}
use Rattle.reg_state.specs.Store.SlotOf.{Holds, Tagged}
use Rattle.reg_state.specs.Store.FrameOf.{Absent, Slots, Unknown}
use Rattle.action_rules.specs.declared.reason.Reason.{Reason}
use Rattle.action_rules.specs.declared.reason.Reason.TheVariants as reasons
use Rattle.action_rules.specs.Domain.{Domain}
use Rattle.action_rules.specs.Effects.{write_slot, over_slots, value_of, chosen, source_value, write_reg, terms_of, effect}
use Rattle.action_rules.specs.Needs.{check, in_frame, in_slot, is_tagged, writable, need, needs}

abbrev pub changes_nothing : Action → Bool
changes_nothing (acts.Read source) = true
changes_nothing (acts.Live n) = true
changes_nothing acts.FullY = true
changes_nothing acts.InFrame = true
changes_nothing acts.NoFrame = true
changes_nothing _ = false

-- no frame, slot or handler comes or goes
abbrev pub keeps_slots : Action → Bool
keeps_slots (acts.NewFrame n) = false
keeps_slots (acts.DropFrame n) = false
keeps_slots (acts.Trim n r) = false
keeps_slots (acts.Tag y label kind) = false
keeps_slots (acts.Untag y kind) = false
keeps_slots _ = true

abbrev pub keeps_x : Action → Bool
keeps_x (acts.Keep n) = false
keeps_x (acts.Write r) = false
keeps_x (acts.Copy source r) = false
keeps_x (acts.Swap a b) = false
keeps_x acts.Caught = false
keeps_x acts.Landed = false
keeps_x _ = true

-- the first action changes nothing that the second one needs
abbrev pub undisturbed : Action → Action → Bool
undisturbed first (acts.Keep n) = true
undisturbed first (acts.Room words funs) = true
undisturbed first (acts.Write r) = keeps_slots first
undisturbed first acts.Caught = keeps_x first
undisturbed first acts.Landed = keeps_x first
undisturbed first _ = changes_nothing first

abbrev pub are_steady : List Action → Bool
are_steady [] = true
are_steady (a ∷ rest) = list_all (undisturbed a) rest && are_steady rest

-- of actions one after another, each on the store before them
abbrev pub needs_now : {A C : Type 0} → Domain A C → List Action → Store A C → Option Reason
needs_now d [] s = None
needs_now d (a ∷ rest) s = option_or (need d a s) (needs_now d rest s)

-- ---- what changes

unchanged : {A C : Type 0} (d : Domain A C) (a : Action) (terms : List ℕ) (s : Store A C) → changes_nothing a ≡ true → effect d a terms s ≡ s
unchanged d (acts.Read source) terms s nothing = refl
unchanged d (acts.Live n) terms s nothing = refl
unchanged d acts.FullY terms s nothing = refl
unchanged d acts.InFrame terms s nothing = refl
unchanged d acts.NoFrame terms s nothing = refl
unchanged d _ terms s nothing = absurd cc

x_kept : {A C : Type 0} (d : Domain A C) (a : Action) (terms : List ℕ) (s : Store A C) → keeps_x a ≡ true → (effect d a terms s).x ≡ s.x
x_kept d (acts.Keep n) terms s keeps = absurd cc
x_kept d (acts.Write r) terms s keeps = absurd cc
x_kept d (acts.Copy source r) terms s keeps = absurd cc
x_kept d (acts.Swap a b) terms s keeps = absurd cc
x_kept d acts.Caught terms s keeps = absurd cc
x_kept d acts.Landed terms s keeps = absurd cc
x_kept d _ terms s keeps = refl

-- ---- writes

-- whether slot y can be written
abbrev free_slot : {A : Type 0} → ℕ → Option (SlotOf A) → Option Reason
free_slot y slot = in_slot y slot (λ s. check (not (is_tagged s)) (reasons.OpenTag (regs.Y y)))

free_after : {A : Type 0} (y : ℕ) (ss : List (SlotOf A)) (z at : ℕ) (new : A) → free_slot y (slice_get (write_slot ss z new) at) ≡ free_slot y (slice_get ss at)
free_after y [] z at new = refl
free_after y (Holds old ∷ ss) zero zero new = refl
free_after y (Tagged label kind ∷ ss) zero zero new = refl
free_after y (s ∷ ss) zero (suc at) new = refl
free_after y (s ∷ ss) (suc z) zero new = refl
free_after y (s ∷ ss) (suc z) (suc at) new = free_after y ss z at new

free_in : {A C : Type 0} (y z : ℕ) (new : A) (f : FrameOf A C) → in_frame (over_slots (λ ss. write_slot ss z new) f) (λ ss. free_slot y (slice_get ss y)) ≡ in_frame f (λ ss. free_slot y (slice_get ss y))
free_in y z new Absent = refl
free_in y z new (Slots ss) = free_after y ss z y new
free_in y z new (Unknown why) = refl

writable_after : {A C : Type 0} (r written : Reg) (new : A) (s : Store A C) → writable r (write_reg written new s) ≡ writable r s
writable_after (regs.X n) written new s = refl
writable_after (regs.Y y) (regs.X n) new s = refl
writable_after (regs.Y y) (regs.Y z) new s = free_in y z new s.frame

still_writable : {A C : Type 0} (d : Domain A C) (a : Action) (r : Reg) (terms : List ℕ) (s : Store A C) → keeps_slots a ≡ true → writable r (effect d a terms s) ≡ writable r s
still_writable d a (regs.X n) terms s keeps = refl
still_writable d (acts.Write written) r terms s keeps = writable_after r written (chosen d terms 0) s
still_writable d (acts.Copy source written) r terms s keeps = writable_after r written (source_value d source terms s) s
still_writable d (acts.Swap a b) r terms s keeps =
    writable_after r b (value_of d a s) (write_reg a (value_of d b s) s) ∙ writable_after r a (value_of d b s) s
still_writable d (acts.NewFrame n) r terms s keeps = absurd cc
still_writable d (acts.DropFrame n) r terms s keeps = absurd cc
still_writable d (acts.Trim n m) r terms s keeps = absurd cc
still_writable d (acts.Tag y label kind) r terms s keeps = absurd cc
still_writable d (acts.Untag y kind) r terms s keeps = absurd cc
still_writable d _ (regs.Y y) terms s keeps = refl

-- ---- needs

same_need : {A C : Type 0} (d : Domain A C) (a b : Action) (terms : List ℕ) (s : Store A C) → undisturbed a b ≡ true → need d b (effect d a terms s) ≡ need d b s
same_need d a (acts.Keep n) terms s is = refl
same_need d a (acts.Room words funs) terms s is = refl
same_need d a (acts.Write r) terms s is = still_writable d a r terms s is
same_need d a acts.Caught terms s is = ap (λ x. check (d.has_value (x 0)) (reasons.Unset (regs.X 0))) (x_kept d a terms s is)
same_need d a acts.Landed terms s is = ap (λ x. check (d.has_mark (x 0)) (reasons.Unset (regs.X 0))) (x_kept d a terms s is)
same_need d a b terms s is = ap (need d b) (unchanged d a terms s is)

same_needs : {A C : Type 0} (d : Domain A C) (a : Action) (list : List Action) (terms : List ℕ) (s : Store A C) → list_all (undisturbed a) list ≡ true → needs_now d list (effect d a terms s) ≡ needs_now d list s
same_needs d a [] terms s are = refl
same_needs d a (b ∷ rest) terms s are =
    let parts = and_parts (undisturbed a b) (list_all (undisturbed a) rest) are in
    let first = same_need d a b terms s parts.0 in
    let others = same_needs d a rest terms s parts.1 in
    rw (first, others) refl

pub steady_needs : {A C : Type 0} (d : Domain A C) (list : List Action) (terms : List ℕ) (s : Store A C) → are_steady list ≡ true → needs d list terms s ≡ needs_now d list s
steady_needs d [] terms s steady = refl
steady_needs d (a ∷ rest) terms s steady =
    let parts = and_parts (list_all (undisturbed a) rest) (are_steady rest) steady in
    let later = steady_needs d rest (drop (terms_of a) terms) (effect d a terms s) parts.1 in
    ap (option_or (need d a s)) (later ∙ same_needs d a rest terms s parts.0)
