-- Two domains whose contents are related: what is enough for the second is enough for the first, and effects keep stores related.
use Rattle.std.proofs.Common.{◌≡◌, ℕ, zero, suc, ◌+◌, ◌-◌, ◌==◌, nat_le, nat_lt, Bool, true, false, not, if◌then◌else◌, Option, Some, None, List, [], ◌∷◌, length, take, drop, replicate, slice_index_or, refl, ap, arith, inl}
use Rattle.std.specs.List.{slice_get}
use Rattle.std.specs.Option.{option_or}
use Rattle.std.proofs.lemmas.Bool.Decides.{nat_tests}
use Rattle.compact_term.specs.declared.operand.Reg.{Reg}
use Rattle.compact_term.specs.declared.operand.Reg.TheVariants as regs
use Rattle.bk_base.specs.declared.tag_kind.TagKind.{TagKind}
use Rattle.op_table.specs.declared.action.Src.{Src}
use Rattle.op_table.specs.declared.action.Src.TheVariants as sources
use Rattle.op_table.specs.declared.action.Action.{Action}
use Rattle.op_table.specs.declared.action.Action.TheVariants as acts
use Rattle.reg_state.specs.Store.{SlotOf, FrameOf, Store}
use Rattle.reg_state.specs.Store.FrameOf.{Slots, Unknown}
use Rattle.reg_state.specs.Related.{SlotRel, SlotsRel, FrameRel, Reserved, StoreRel}
use Rattle.reg_state.specs.Related.SlotRel.{both_hold, both_tagged}
use Rattle.reg_state.specs.Related.SlotsRel.{none, more}
use Rattle.reg_state.specs.Related.FrameRel.{both_absent, both_slots, not_known}
use Rattle.reg_state.specs.Kinds.{KindBelow}
use Rattle.reg_state.specs.States.{Known, IsBelow}
use Rattle.action_rules.specs.declared.reason.Reason.{Reason}
use Rattle.action_rules.specs.declared.reason.Reason.TheVariants as reasons
use Rattle.action_rules.specs.Domain.{Domain}
use Rattle.action_rules.specs.Effects.{overwritten, write_slot, put_slot, over_slots, value_in, slot_value, value_of, chosen, source_value, write_reg, first_kept, arrived, with_x, with_frame, with_room, trimmed, terms_of, effect, effects}
use Rattle.action_rules.specs.Needs.{check, in_frame, no_frame, in_slot, is_tagged, is_tagged_as, none_tagged, holds_term, is_full, full_from, full_frame, untagged_from, sized, readable, source_readable, writable, live_from, taggable, untaggable, need, needs}
use Rattle.action_rules.specs.KindDomain.{kinds}
use Rattle.action_rules.specs.Known.{known_effects}

-- R relates the contents of d to those of e: everything to no value, any two terms, and to what passes a test of e only what passes that test of d
pub record DomainRel {A B C E : Type 0} (R : A → B → Type 0) (d : Domain A C) (e : Domain B E) : Type 0 where
  pub unset : (a : A) → R a e.unset
  pub term : (m n : ℕ) → R (d.term m) (e.term n)
  pub copied : (a : A) (b : B) → R a b → R (d.copied a) (e.copied b)
  pub untrimmed : FrameRel R d.untrimmed e.untrimmed
  pub term_down : (a : A) (b : B) → R a b → e.has_term b ≡ true → d.has_term a ≡ true
  pub mark_down : (a : A) (b : B) → R a b → e.has_mark b ≡ true → d.has_mark a ≡ true
  pub value_down : (a : A) (b : B) → R a b → e.has_value b ≡ true → d.has_value a ≡ true

-- ---- needs of parts: the first one is met where the second one is

abbrev Passes : Option Reason → Option Reason → Type 0
Passes a b = b ≡ None → a ≡ None

check_passes : (b c : Bool) (why : Reason) → (c ≡ true → b ≡ true) → Passes (check b why) (check c why)
check_passes true c why down met = refl
check_passes false true why down met = absurd (let no = down refl in cc)
check_passes false false why down met = absurd cc

or_passes : (a b c e : Option Reason) → Passes a c → Passes b e → Passes (option_or a b) (option_or c e)
or_passes None b None e first next met = next met
or_passes (Some why) b None e first next met = absurd (let no = first refl in cc)
or_passes None b (Some why) e first next met = absurd cc
or_passes (Some other) b (Some why) e first next met = absurd cc

same_passes : (a b : Option Reason) → a ≡ b → Passes a b
same_passes a b same met = cc

module _ {A B C E : Type 0} {R : A → B → Type 0} where
  frame_passes : (first : List (SlotOf A) → Option Reason) (second : List (SlotOf B) → Option Reason) {f : FrameOf A C} {g : FrameOf B E} → FrameRel R f g → ((ss : List (SlotOf A)) (ts : List (SlotOf B)) → SlotsRel R ss ts → Passes (first ss) (second ts)) → Passes (in_frame f first) (in_frame g second)
  frame_passes first second both_absent passes met = absurd cc
  frame_passes first second (both_slots {ss = ss} {ts = ts} related) passes met = passes ss ts related met
  frame_passes first second (not_known f why) passes met = absurd cc

  no_frame_passes : {f : FrameOf A C} {g : FrameOf B E} → FrameRel R f g → Passes (no_frame f) (no_frame g)
  no_frame_passes both_absent met = refl
  no_frame_passes (both_slots related) met = absurd cc
  no_frame_passes (not_known f why) met = absurd cc

module _ {A B : Type 0} {R : A → B → Type 0} where
  slot_passes : (k y : ℕ) (first : SlotOf A → Option Reason) (second : SlotOf B → Option Reason) {ss : List (SlotOf A)} {ts : List (SlotOf B)} → SlotsRel R ss ts → ((s : SlotOf A) (t : SlotOf B) → SlotRel R s t → Passes (first s) (second t)) → Passes (in_slot k (slice_get ss y) first) (in_slot k (slice_get ts y) second)
  slot_passes k y first second none passes met = absurd cc
  slot_passes k zero first second (more {s = s} {t = t} slot rest) passes met = passes s t slot met
  slot_passes k (suc y) first second (more slot rest) passes met = slot_passes k y first second rest passes met

  tagged_same : {s : SlotOf A} {t : SlotOf B} → SlotRel R s t → is_tagged s ≡ is_tagged t
  tagged_same (both_hold related) = refl
  tagged_same (both_tagged label kind) = refl

  tagged_as_same : (kind : TagKind) {s : SlotOf A} {t : SlotOf B} → SlotRel R s t → is_tagged_as kind s ≡ is_tagged_as kind t
  tagged_as_same kind (both_hold related) = refl
  tagged_as_same kind (both_tagged label other) = refl

  none_tagged_same : {ss : List (SlotOf A)} {ts : List (SlotOf B)} → SlotsRel R ss ts → none_tagged ss ≡ none_tagged ts
  none_tagged_same none = refl
  none_tagged_same (more slot rest) = let first = tagged_same slot in let others = none_tagged_same rest in rw (first, others) refl

  untagged_same : (y : ℕ) {ss : List (SlotOf A)} {ts : List (SlotOf B)} → SlotsRel R ss ts → untagged_from y ss ≡ untagged_from y ts
  untagged_same y none = refl
  untagged_same y (more slot rest) = let first = tagged_same slot in let others = untagged_same (suc y) rest in rw (first, others) refl

  size_same : {ss : List (SlotOf A)} {ts : List (SlotOf B)} → SlotsRel R ss ts → length ss ≡ length ts
  size_same none = refl
  size_same (more slot rest) = ap suc (size_same rest)

  taken : (n : ℕ) {ss : List (SlotOf A)} {ts : List (SlotOf B)} → SlotsRel R ss ts → SlotsRel R (take n ss) (take n ts)
  taken zero none = none
  taken zero (more slot rest) = none
  taken (suc n) none = none
  taken (suc n) (more slot rest) = more slot (taken n rest)

  dropped : (n : ℕ) {ss : List (SlotOf A)} {ts : List (SlotOf B)} → SlotsRel R ss ts → SlotsRel R (drop n ss) (drop n ts)
  dropped zero related = related
  dropped (suc n) none = none
  dropped (suc n) (more slot rest) = dropped n rest

-- ---- needs of actions

module _ {A B C E : Type 0} {R : A → B → Type 0} {d : Domain A C} {e : Domain B E} (rel : DomainRel R d e) where
  term_passes : {s : SlotOf A} {t : SlotOf B} → SlotRel R s t → holds_term e t ≡ true → holds_term d s ≡ true
  term_passes (both_hold {a = a} {b = b} related) term = rel.term_down a b related term
  term_passes (both_tagged label kind) term = term

  full_down : {s : SlotOf A} {t : SlotOf B} → SlotRel R s t → is_full e t ≡ true → is_full d s ≡ true
  full_down (both_hold {a = a} {b = b} related) term = rel.term_down a b related term
  full_down (both_tagged label kind) term = term

  full_passes : (y : ℕ) {ss : List (SlotOf A)} {ts : List (SlotOf B)} → SlotsRel R ss ts → Passes (full_from d y ss) (full_from e y ts)
  full_passes y none met = met
  full_passes y (more {s = s} {t = t} {ss = ss} {ts = ts} slot rest) met =
      or_passes (check (is_full d s) _) (full_from d (suc y) ss) (check (is_full e t) _) (full_from e (suc y) ts) (check_passes (is_full d s) (is_full e t) (reasons.Unset (regs.Y y)) (full_down slot)) (full_passes (suc y) rest) met

  full_frame_passes : {f : FrameOf A C} {g : FrameOf B E} → FrameRel R f g → Passes (full_frame d f) (full_frame e g)
  full_frame_passes both_absent met = met
  full_frame_passes (both_slots related) met = full_passes 0 related met
  full_frame_passes (not_known f why) met = absurd cc

  readable_passes : (r : Reg) (s : Store A C) (t : Store B E) → StoreRel R s t → Passes (readable d r s) (readable e r t)
  readable_passes (regs.X n) s t related met = check_passes (d.has_term (s.x n)) (e.has_term (t.x n)) _ (rel.term_down (s.x n) (t.x n) (related.x n)) met
  readable_passes (regs.Y y) s t related met =
      frame_passes _ _ related.frame (λ ss ts slots. slot_passes y y _ _ slots (λ u v slot. check_passes (holds_term d u) (holds_term e v) (reasons.Unset (regs.Y y)) (term_passes slot))) met

  source_passes : (source : Src) (s : Store A C) (t : Store B E) → StoreRel R s t → Passes (source_readable d source s) (source_readable e source t)
  source_passes (sources.Reg r) s t related met = readable_passes r s t related met
  source_passes sources.Const s t related met = refl

  live_passes : (x : ℕ → A) (z : ℕ → B) → ((i : ℕ) → R (x i) (z i)) → (n many : ℕ) → Passes (live_from d x n many) (live_from e z n many)
  live_passes x z related n zero met = refl
  live_passes x z related n (suc many) met =
      or_passes (check (d.has_term (x n)) _) (live_from d x (suc n) many) (check (e.has_term (z n)) _) (live_from e z (suc n) many) (check_passes (d.has_term (x n)) (e.has_term (z n)) (reasons.Unset (regs.X n)) (rel.term_down (x n) (z n) (related n))) (live_passes x z related (suc n) many) met

module _ {A B C E : Type 0} {R : A → B → Type 0} where
  writable_passes : (r : Reg) (s : Store A C) (t : Store B E) → StoreRel R s t → Passes (writable r s) (writable r t)
  writable_passes (regs.X n) s t related met = refl
  writable_passes (regs.Y y) s t related met =
      frame_passes _ _ related.frame (λ ss ts slots. slot_passes y y _ _ slots (λ u v slot. same_passes _ _ (ap (λ (b : Bool). check (not b) (reasons.OpenTag (regs.Y y))) (tagged_same slot)))) met

  sized_passes : (size first : ℕ) {f : FrameOf A C} {g : FrameOf B E} → FrameRel R f g → Passes (sized f size first) (sized g size first)
  sized_passes size first related met =
      frame_passes _ _ related (λ ss ts slots. let number = size_same slots in let untagged = untagged_same 0 (taken first slots) in same_passes _ _ (rw (number, untagged) refl)) met

  taggable_passes : (y : ℕ) {f : FrameOf A C} {g : FrameOf B E} → FrameRel R f g → Passes (taggable y f) (taggable y g)
  taggable_passes y related met =
      frame_passes _ _ related (λ ss ts slots. slot_passes y y _ _ slots (λ u v slot. let none = none_tagged_same (taken (suc y) slots) in same_passes _ _ (rw none refl))) met

  untaggable_passes : (y : ℕ) (kind : TagKind) {f : FrameOf A C} {g : FrameOf B E} → FrameRel R f g → Passes (untaggable y kind f) (untaggable y kind g)
  untaggable_passes y kind related met =
      frame_passes _ _ related (λ ss ts slots. slot_passes y y _ _ slots (λ u v slot. let none = none_tagged_same (taken y slots) in let same = tagged_as_same kind slot in same_passes _ _ (rw (none, same) refl))) met

-- where none are reserved, none are needed
reserved_down : (n a b : ℕ) → Reserved a b → nat_le n b ≡ true → nat_le n a ≡ true
reserved_down n a b reserved enough = grind (arith, nat_tests)

pub need_passes : {A B C E : Type 0} {R : A → B → Type 0} {d : Domain A C} {e : Domain B E} → DomainRel R d e → (a : Action) (s : Store A C) (t : Store B E) → StoreRel R s t → need e a t ≡ None → need d a s ≡ None
need_passes rel (acts.Read source) s t related met = source_passes rel source s t related met
need_passes rel (acts.Live n) s t related met = live_passes rel s.x t.x related.x 0 n met
need_passes rel acts.FullY s t related met = full_frame_passes rel related.frame met
need_passes rel (acts.Keep n) s t related met = refl
need_passes rel (acts.Room words funs) s t related met = refl
need_passes rel (acts.Take words) s t related met = check_passes (nat_le words s.words) (nat_le words t.words) reasons.Heap (reserved_down words s.words t.words related.words) met
need_passes rel acts.TakeFun s t related met = check_passes (nat_le 1 s.funs) (nat_le 1 t.funs) reasons.Heap (reserved_down 1 s.funs t.funs related.funs) met
need_passes rel (acts.Write r) s t related met = writable_passes r s t related met
need_passes {d = d} {e = e} rel (acts.Copy source r) s t related met =
    or_passes (source_readable d source s) (writable r s) (source_readable e source t) (writable r t) (source_passes rel source s t related) (writable_passes r s t related) met
need_passes {d = d} {e = e} rel (acts.Swap first second) s t related met =
    or_passes (readable d first s) (readable d second s) (readable e first t) (readable e second t) (readable_passes rel first s t related) (readable_passes rel second s t related) met
need_passes rel (acts.NewFrame n) s t related met = no_frame_passes related.frame met
need_passes rel (acts.DropFrame n) s t related met = sized_passes n n related.frame met
need_passes rel (acts.Trim n r) s t related met = sized_passes (n + r) n related.frame met
need_passes rel acts.InFrame s t related met = frame_passes _ _ related.frame (λ ss ts slots none. refl) met
need_passes rel acts.NoFrame s t related met = no_frame_passes related.frame met
need_passes rel (acts.Tag y label kind) s t related met = taggable_passes y related.frame met
need_passes rel (acts.Untag y kind) s t related met = untaggable_passes y kind related.frame met
need_passes {d = d} {e = e} rel acts.Caught s t related met = check_passes (d.has_value (s.x 0)) (e.has_value (t.x 0)) _ (rel.value_down (s.x 0) (t.x 0) (related.x 0)) met
need_passes {d = d} {e = e} rel acts.Landed s t related met = check_passes (d.has_mark (s.x 0)) (e.has_mark (t.x 0)) _ (rel.mark_down (s.x 0) (t.x 0) (related.x 0)) met

-- ---- effects on parts

module _ {A B : Type 0} {R : A → B → Type 0} where
  overwritten_related : {s : SlotOf A} {t : SlotOf B} {a : A} {b : B} → SlotRel R s t → R a b → SlotRel R (overwritten s a) (overwritten t b)
  overwritten_related (both_hold old) new = both_hold new
  overwritten_related (both_tagged label kind) new = both_tagged label kind

  write_related : (y : ℕ) {ss : List (SlotOf A)} {ts : List (SlotOf B)} {a : A} {b : B} → SlotsRel R ss ts → R a b → SlotsRel R (write_slot ss y a) (write_slot ts y b)
  write_related y none new = none
  write_related zero (more slot rest) new = more (overwritten_related slot new) rest
  write_related (suc y) (more slot rest) new = more slot (write_related y rest new)

  put_related : (y : ℕ) {ss : List (SlotOf A)} {ts : List (SlotOf B)} {s : SlotOf A} {t : SlotOf B} → SlotsRel R ss ts → SlotRel R s t → SlotsRel R (put_slot ss y s) (put_slot ts y t)
  put_related y none new = none
  put_related zero (more slot rest) new = more new rest
  put_related (suc y) (more slot rest) new = more slot (put_related y rest new)

  replicated : (n : ℕ) {s : SlotOf A} {t : SlotOf B} → SlotRel R s t → SlotsRel R (replicate n s) (replicate n t)
  replicated zero slot = none
  replicated (suc n) slot = more slot (replicated n slot)

either_related : {A B : Type 0} (R : A → B → Type 0) (yes : Bool) (a c : A) (b e : B) → R a b → R c e → R (if yes then a else c) (if yes then b else e)
either_related R true a c b e first second = first
either_related R false a c b e first second = second

module _ {A B C E : Type 0} {R : A → B → Type 0} where
  over_related : (first : List (SlotOf A) → List (SlotOf A)) (second : List (SlotOf B) → List (SlotOf B)) {f : FrameOf A C} {g : FrameOf B E} → FrameRel R f g → ((ss : List (SlotOf A)) (ts : List (SlotOf B)) → SlotsRel R ss ts → SlotsRel R (first ss) (second ts)) → FrameRel R (over_slots first f) (over_slots second g)
  over_related first second both_absent changed = both_absent
  over_related first second (both_slots {ss = ss} {ts = ts} related) changed = both_slots (changed ss ts related)
  over_related first second (not_known f why) changed = not_known (over_slots first f) why

  write_reg_related : (r : Reg) (a : A) (b : B) (s : Store A C) (t : Store B E) → R a b → StoreRel R s t → StoreRel R (write_reg r a s) (write_reg r b t)
  write_reg_related (regs.X n) a b s t new related = record {
    x = λ i. either_related R (i == n) a (s.x i) b (t.x i) new (related.x i);
    frame = related.frame;
    words = related.words;
    funs = related.funs;
  }
  write_reg_related (regs.Y y) a b s t new related = record {
    x = related.x;
    frame = over_related (λ ss. write_slot ss y a) (λ ts. write_slot ts y b) related.frame (λ ss ts slots. write_related y slots new);
    words = related.words;
    funs = related.funs;
  }

  with_x_related : (x : ℕ → A) (z : ℕ → B) (s : Store A C) (t : Store B E) → ((i : ℕ) → R (x i) (z i)) → StoreRel R s t → StoreRel R (with_x x s) (with_x z t)
  with_x_related x z s t each related = record { x = each; frame = related.frame; words = inl refl; funs = inl refl }

  with_frame_related : (f : FrameOf A C) (g : FrameOf B E) (s : Store A C) (t : Store B E) → FrameRel R f g → StoreRel R s t → StoreRel R (with_frame f s) (with_frame g t)
  with_frame_related f g s t frames related = record { x = related.x; frame = frames; words = related.words; funs = related.funs }

  with_room_related : (words funs more_words more_funs : ℕ) (s : Store A C) (t : Store B E) → Reserved words more_words → Reserved funs more_funs → StoreRel R s t → StoreRel R (with_room words funs s) (with_room more_words more_funs t)
  with_room_related words funs more_words more_funs s t first second related = record { x = related.x; frame = related.frame; words = first; funs = second }

used : (n a b : ℕ) → Reserved a b → Reserved (a - n) (b - n)
used n a b reserved = grind arith

-- ---- effects of actions

module _ {A B C E : Type 0} {R : A → B → Type 0} {d : Domain A C} {e : Domain B E} (rel : DomainRel R d e) where
  slot_related : (y : ℕ) {ss : List (SlotOf A)} {ts : List (SlotOf B)} → SlotsRel R ss ts → R (value_in d (slice_get ss y)) (value_in e (slice_get ts y))
  slot_related y none = rel.unset d.unset
  slot_related zero (more (both_hold {a = a} {b = b} related) rest) = rel.copied a b related
  slot_related zero (more (both_tagged label kind) rest) = rel.unset d.unset
  slot_related (suc y) (more slot rest) = slot_related y rest

  slot_value_related : (y : ℕ) {f : FrameOf A C} {g : FrameOf B E} → FrameRel R f g → R (slot_value d f y) (slot_value e g y)
  slot_value_related y both_absent = rel.unset d.unset
  slot_value_related y (both_slots related) = slot_related y related
  slot_value_related y (not_known f why) = rel.unset (slot_value d f y)

  value_related : (r : Reg) (s : Store A C) (t : Store B E) → StoreRel R s t → R (value_of d r s) (value_of e r t)
  value_related (regs.X n) s t related = rel.copied (s.x n) (t.x n) (related.x n)
  value_related (regs.Y y) s t related = slot_value_related y related.frame

  source_related : (source : Src) (us vs : List ℕ) (s : Store A C) (t : Store B E) → StoreRel R s t → R (source_value d source us s) (source_value e source vs t)
  source_related (sources.Reg r) us vs s t related = value_related r s t related
  source_related sources.Const us vs s t related = rel.term (slice_index_or us 0 0) (slice_index_or vs 0 0)

  kept_related : (n : ℕ) (x : ℕ → A) (z : ℕ → B) → ((i : ℕ) → R (x i) (z i)) → (i : ℕ) → R (first_kept d n x i) (first_kept e n z i)
  kept_related n x z each i = either_related R (nat_lt i n) (x i) d.unset (z i) e.unset (each i) (rel.unset d.unset)

  arrived_related : (n : ℕ) (us vs : List ℕ) (i : ℕ) → R (arrived d n us i) (arrived e n vs i)
  arrived_related n us vs i = either_related R (nat_lt i n) (chosen d us i) d.unset (chosen e vs i) e.unset (rel.term (slice_index_or us i 0) (slice_index_or vs i 0)) (rel.unset d.unset)

  trimmed_related : (n r : ℕ) {f : FrameOf A C} {g : FrameOf B E} → FrameRel R f g → FrameRel R (trimmed d n r f) (trimmed e n r g)
  trimmed_related n r both_absent = rel.untrimmed
  trimmed_related n r (both_slots {ss = ss} {ts = ts} related) =
      let size = size_same related in
      let slots = both_slots (dropped n related) in
      rw size (either_related (FrameRel R) (length ts == n + r) (Slots (drop n ss)) d.untrimmed (Slots (drop n ts)) e.untrimmed slots rel.untrimmed)
  trimmed_related n r (not_known f why) = not_known (trimmed d n r f) why

pub effect_related : {A B C E : Type 0} {R : A → B → Type 0} {d : Domain A C} {e : Domain B E} → DomainRel R d e → (a : Action) (us vs : List ℕ) (s : Store A C) (t : Store B E) → StoreRel R s t → StoreRel R (effect d a us s) (effect e a vs t)
effect_related rel (acts.Read source) us vs s t related = related
effect_related rel (acts.Live n) us vs s t related = related
effect_related rel acts.FullY us vs s t related = related
effect_related rel (acts.Keep n) us vs s t related = with_x_related _ _ s t (kept_related rel n s.x t.x related.x) related
effect_related rel (acts.Room words funs) us vs s t related = with_room_related words funs words funs s t (inl refl) (inl refl) related
effect_related rel (acts.Take words) us vs s t related = with_room_related _ _ _ _ s t (used words s.words t.words related.words) related.funs related
effect_related rel acts.TakeFun us vs s t related = with_room_related _ _ _ _ s t related.words (used 1 s.funs t.funs related.funs) related
effect_related rel (acts.Write r) us vs s t related = write_reg_related r _ _ s t (rel.term (slice_index_or us 0 0) (slice_index_or vs 0 0)) related
effect_related rel (acts.Copy source r) us vs s t related = write_reg_related r _ _ s t (source_related rel source us vs s t related) related
effect_related rel (acts.Swap first second) us vs s t related =
    write_reg_related second _ _ _ _ (value_related rel first s t related) (write_reg_related first _ _ s t (value_related rel second s t related) related)
effect_related {d = d} {e = e} rel (acts.NewFrame n) us vs s t related = with_frame_related _ _ s t (both_slots (replicated n (both_hold (rel.unset d.unset)))) related
effect_related rel (acts.DropFrame n) us vs s t related = with_frame_related _ _ s t both_absent related
effect_related rel (acts.Trim n r) us vs s t related = with_frame_related _ _ s t (trimmed_related rel n r related.frame) related
effect_related rel acts.InFrame us vs s t related = related
effect_related rel acts.NoFrame us vs s t related = related
effect_related rel (acts.Tag y label kind) us vs s t related = with_frame_related _ _ s t (over_related _ _ related.frame (λ ss ts slots. put_related y slots (both_tagged label kind))) related
effect_related rel (acts.Untag y kind) us vs s t related = with_frame_related _ _ s t (over_related _ _ related.frame (λ ss ts slots. put_related y slots (both_hold (rel.term 0 0)))) related
effect_related rel acts.Caught us vs s t related = with_x_related _ _ s t (arrived_related rel 1 us vs) related
effect_related rel acts.Landed us vs s t related = with_x_related _ _ s t (arrived_related rel 3 us vs) related

-- ---- of actions one after another, with any terms

pub effects_related : {A B C E : Type 0} {R : A → B → Type 0} {d : Domain A C} {e : Domain B E} → DomainRel R d e → (list : List Action) (us vs : List ℕ) (s : Store A C) (t : Store B E) → StoreRel R s t → StoreRel R (effects d list us s) (effects e list vs t)
effects_related rel [] us vs s t related = related
effects_related {d = d} {e = e} rel (a ∷ rest) us vs s t related =
    effects_related rel rest (drop (terms_of a) us) (drop (terms_of a) vs) (effect d a us s) (effect e a vs t) (effect_related rel a us vs s t related)

pub needs_pass : {A B C E : Type 0} {R : A → B → Type 0} {d : Domain A C} {e : Domain B E} → DomainRel R d e → (list : List Action) (us vs : List ℕ) (s : Store A C) (t : Store B E) → StoreRel R s t → needs e list vs t ≡ None → needs d list us s ≡ None
needs_pass rel [] us vs s t related met = refl
needs_pass {d = d} {e = e} rel (a ∷ rest) us vs s t related met =
    let later = needs_pass rel rest (drop (terms_of a) us) (drop (terms_of a) vs) (effect d a us s) (effect e a vs t) (effect_related rel a us vs s t related) in
    or_passes (need d a s) (needs d rest (drop (terms_of a) us) (effect d a us s)) (need e a t) (needs e rest (drop (terms_of a) vs) (effect e a vs t)) (need_passes rel a s t related) later met

-- ---- kinds

pub kinds_related : DomainRel KindBelow kinds kinds
kinds_related = record {
  unset = λ a. grind arith;
  term = λ m n. tt;
  copied = λ a b below. grind arith;
  untrimmed = not_known (Unknown tt) tt;
  term_down = λ a b below is. grind arith;
  mark_down = λ a b below is. grind arith;
  value_down = λ a b below is. grind arith;
}

-- more that is known before is more that is known after
pub known_effects_rise : (list : List Action) (s t : Known) → IsBelow s t → IsBelow (known_effects list s) (known_effects list t)
known_effects_rise list s t below = effects_related kinds_related list [] [] s t below
