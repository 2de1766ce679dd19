-- Values agree with kinds: needs of kinds are enough, effects keep agreement, and less may be known. Handlers stay those of the function.
use Rattle.std.proofs.Common.{◌≡◌, ℕ, zero, suc, ◌+◌, ◌==◌, Bool, true, false, if◌then◌else◌, Some, None, List, [], ◌∷◌, length, drop, replicate, refl, arith}
use Rattle.std.specs.List.{list_all}
use Rattle.std.proofs.lemmas.Bool.{and_from, and_parts}
use Rattle.compact_term.specs.declared.operand.Reg.{Reg}
use Rattle.compact_term.specs.declared.operand.Reg.TheVariants as regs
use Rattle.op_table.specs.declared.action.Action.{Action}
use Rattle.op_table.specs.declared.action.Action.TheVariants as acts
use Rattle.reg_state.specs.declared.kind.Kind.{Kind}
use Rattle.reg_state.specs.declared.kind.Kind.TheVariants as kind
use Rattle.reg_state.specs.Store.{SlotOf}
use Rattle.reg_state.specs.Store.SlotOf.{Holds, Tagged}
use Rattle.reg_state.specs.Store.FrameOf.{Absent, Slots, Unknown}
use Rattle.reg_state.specs.Related.{StoreRel}
use Rattle.reg_state.specs.Related.FrameRel.{not_known}
use Rattle.reg_state.specs.Kinds.{KindBelow}
use Rattle.reg_state.specs.States.{Known, IsBelow}
use Rattle.reg_state.specs.Ordered.{stores_through}
use Rattle.action_rules.specs.Effects.{overwritten, write_slot, put_slot, over_slots, write_reg, trimmed, terms_of, effect, effects}
use Rattle.action_rules.specs.Fitting.{Bounds, action_fits}
use Rattle.action_rules.specs.KindDomain.{copied_kind, is_term as is_known_term, is_mark as is_known_mark, is_set, kinds}
use Rattle.action_rules.specs.Relating.{DomainRel}
use Rattle.flow_rules.specs.Values.{Contents, Frame, Local, is_mark, is_term, is_value, values}
use Rattle.flow_rules.specs.Values.Value.{Term, Context, Mark}
use Rattle.flow_rules.specs.Conforming.{Conforms, tag_is_own, tags_are_own}

-- ---- values and kinds

copies : (a : Contents) (k : Kind) → Conforms a k → Conforms a (copied_kind k)
copies a kind.Context is = is
copies a kind.Term is = is
copies a kind.Caught is = tt
copies a kind.Loose is = tt
copies a kind.Unset is = tt

terms_are : (a : Contents) (k : Kind) → Conforms a k → is_known_term k ≡ true → is_term a ≡ true
terms_are None k is known = grind arith
terms_are (Some (Term n)) k is known = refl
terms_are (Some Context) k is known = refl
terms_are (Some Mark) k is known = grind arith

marks_are : (a : Contents) (k : Kind) → Conforms a k → is_known_mark k ≡ true → is_mark a ≡ true
marks_are None k is known = grind arith
marks_are (Some (Term n)) k is known = grind arith
marks_are (Some Context) k is known = grind arith
marks_are (Some Mark) k is known = refl

values_are : (a : Contents) (k : Kind) → Conforms a k → is_set k ≡ true → is_value a ≡ true
values_are None k is known = grind arith
values_are (Some v) k is known = refl

pub values_agree : DomainRel Conforms values kinds
values_agree = record {
  unset = λ a. tt;
  term = λ m n. tt;
  copied = copies;
  untrimmed = not_known Absent tt;
  term_down = terms_are;
  mark_down = marks_are;
  value_down = values_are;
}

less_known : (a : Contents) (k l : Kind) → Conforms a k → KindBelow k l → Conforms a l
less_known None k l is below = grind arith
less_known (Some (Term n)) k l is below = grind arith
less_known (Some Context) k l is below = grind arith
less_known (Some Mark) k l is below = grind arith

pub agrees_above : (s : Local) (t u : Known) → StoreRel Conforms s t → IsBelow t u → StoreRel Conforms s u
agrees_above s t u agrees below = stores_through less_known s t u agrees below

-- ---- handlers

module _ (b : Bounds) where
  overwritten_own : (s : SlotOf Contents) (a : Contents) → tag_is_own b s ≡ true → tag_is_own b (overwritten s a) ≡ true
  overwritten_own (Holds old) a own = refl
  overwritten_own (Tagged label kind) a own = own

  write_own : (ss : List (SlotOf Contents)) (y : ℕ) (a : Contents) → list_all (tag_is_own b) ss ≡ true → list_all (tag_is_own b) (write_slot ss y a) ≡ true
  write_own [] y a own = refl
  write_own (s ∷ ss) zero a own = let parts = and_parts (tag_is_own b s) (list_all (tag_is_own b) ss) own in and_from _ _ (overwritten_own s a parts.0) parts.1
  write_own (s ∷ ss) (suc y) a own = let parts = and_parts (tag_is_own b s) (list_all (tag_is_own b) ss) own in and_from _ _ parts.0 (write_own ss y a parts.1)

  put_own : (ss : List (SlotOf Contents)) (y : ℕ) (new : SlotOf Contents) → tag_is_own b new ≡ true → list_all (tag_is_own b) ss ≡ true → list_all (tag_is_own b) (put_slot ss y new) ≡ true
  put_own [] y new new_own own = refl
  put_own (s ∷ ss) zero new new_own own = and_from _ _ new_own (and_parts (tag_is_own b s) (list_all (tag_is_own b) ss) own).1
  put_own (s ∷ ss) (suc y) new new_own own = let parts = and_parts (tag_is_own b s) (list_all (tag_is_own b) ss) own in and_from _ _ parts.0 (put_own ss y new new_own parts.1)

  fresh_own : (n : ℕ) → list_all (tag_is_own b) (replicate n (Holds None)) ≡ true
  fresh_own zero = refl
  fresh_own (suc n) = fresh_own n

  drop_own : (n : ℕ) (ss : List (SlotOf Contents)) → list_all (tag_is_own b) ss ≡ true → list_all (tag_is_own b) (drop n ss) ≡ true
  drop_own zero ss own = own
  drop_own (suc n) [] own = refl
  drop_own (suc n) (s ∷ ss) own = drop_own n ss (and_parts (tag_is_own b s) (list_all (tag_is_own b) ss) own).1

  over_own : (change : List (SlotOf Contents) → List (SlotOf Contents)) (f : Frame) → ((ss : List (SlotOf Contents)) → list_all (tag_is_own b) ss ≡ true → list_all (tag_is_own b) (change ss) ≡ true) → tags_are_own b f ≡ true → tags_are_own b (over_slots change f) ≡ true
  over_own change Absent each own = refl
  over_own change (Slots ss) each own = each ss own
  over_own change (Unknown why) each own = refl

  written_own : (r : Reg) (a : Contents) (s : Local) → tags_are_own b s.frame ≡ true → tags_are_own b (write_reg r a s).frame ≡ true
  written_own (regs.X n) a s own = own
  written_own (regs.Y y) a s own = over_own (λ ss. write_slot ss y a) s.frame (λ ss slots. write_own ss y a slots) own

  trimmed_own : (n r : ℕ) (f : Frame) → tags_are_own b f ≡ true → tags_are_own b (trimmed values n r f) ≡ true
  trimmed_own n r Absent own = refl
  trimmed_own n r (Slots ss) own = go (length ss == n + r) where
    go : (is : Bool) → tags_are_own b (if is then Slots (drop n ss) else Absent) ≡ true
    go true = drop_own n ss own
    go false = refl
  trimmed_own n r (Unknown why) own = refl

  effect_own : (a : Action) (terms : List ℕ) (s : Local) → action_fits b a ≡ true → tags_are_own b s.frame ≡ true → tags_are_own b (effect values a terms s).frame ≡ true
  effect_own (acts.Write r) terms s fits own = written_own r _ s own
  effect_own (acts.Copy source r) terms s fits own = written_own r _ s own
  effect_own (acts.Swap first second) terms s fits own = written_own second _ _ (written_own first _ s own)
  effect_own (acts.NewFrame n) terms s fits own = fresh_own n
  effect_own (acts.DropFrame n) terms s fits own = refl
  effect_own (acts.Trim n r) terms s fits own = trimmed_own n r s.frame own
  effect_own (acts.Tag y label kind) terms s fits own = over_own (λ ss. put_slot ss y (Tagged label kind)) s.frame (λ ss slots. put_own ss y (Tagged label kind) fits slots) own
  effect_own (acts.Untag y kind) terms s fits own = over_own (λ ss. put_slot ss y (Holds (values.term 0))) s.frame (λ ss slots. put_own ss y (Holds (values.term 0)) refl slots) own
  effect_own (acts.Read source) terms s fits own = own
  effect_own (acts.Live n) terms s fits own = own
  effect_own acts.FullY terms s fits own = own
  effect_own (acts.Keep n) terms s fits own = own
  effect_own (acts.Room words funs) terms s fits own = own
  effect_own (acts.Take words) terms s fits own = own
  effect_own acts.TakeFun terms s fits own = own
  effect_own acts.InFrame terms s fits own = own
  effect_own acts.NoFrame terms s fits own = own
  effect_own acts.Caught terms s fits own = own
  effect_own acts.Landed terms s fits own = own

  pub effects_own : (list : List Action) (terms : List ℕ) (s : Local) → list_all (action_fits b) list ≡ true → tags_are_own b s.frame ≡ true → tags_are_own b (effects values list terms s).frame ≡ true
  effects_own [] terms s fits own = own
  effects_own (a ∷ rest) terms s fits own =
      let parts = and_parts (action_fits b a) (list_all (action_fits b) rest) fits in
      effects_own rest (drop (terms_of a) terms) (effect values a terms s) parts.1 (effect_own a terms s parts.0 own)
