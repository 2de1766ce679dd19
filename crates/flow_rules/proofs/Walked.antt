-- A block that is followed from place to place.
use Rattle.std.proofs.Common.{◌≡◌, ◌∙◌, ℕ, zero, suc, ◌+◌, ◌-◌, ◌<◌, ◌≤◌, Bool, if◌then◌else◌, Option, Some, None, option_and_then, List, [], ◌∷◌, ◌++◌, length, get_or, unwrap_or, slice_get, sym, ap, subst, arith, append_assoc, inl, inr}
use Rattle.std.proofs.lemmas.Bool.{cases_lt}
use Rattle.std.proofs.lemmas.List.{append-nil, get_or-map}
use Rattle.std.proofs.lemmas.Option.{get_or_from_slice_get, unwrap_or-slice_get}
use Rattle.op_table.specs.Instruction.{Instruction}
use Rattle.reg_state.specs.declared.state.State.{State}
use Rattle.reg_state.specs.States.{Known, store_of}
use Rattle.label_fixpoint.specs.declared.edge.Edge.{Edge}
use Rattle.label_fixpoint.specs.Cut.{along, at_state, gathered, onward}
use Rattle.label_fixpoint.specs.Heads.{head_at, heads_by, number_at, numbers_by}
use Rattle.label_fixpoint.specs.HeadLaws.{head_rises, number_most}
use Rattle.label_fixpoint.specs.Leaving.{end_inside}
use Rattle.func_split.specs.declared.mark.Mark.TheVariants as marks
use Rattle.func_split.specs.Marks.{mark_of, marks_of}
use Rattle.flow_rules.specs.declared.fn_flow.FnFlow.{FnFlow}
use Rattle.flow_rules.specs.Blocks.{blocks_in, cut_of, marks_in}
use Rattle.flow_rules.specs.BlockLaws.{flow_cut}
use Rattle.flow_rules.specs.BlockViews.{along_fits}
use Rattle.flow_rules.specs.EdgeLaws.{fit_body}
use Rattle.flow_rules.specs.Flow.{FitsBody, meaning_of}
use Rattle.flow_rules.specs.KnownEdges.{goes_at}
use Rattle.flow_rules.specs.FlowBody.{body_of}
use Rattle.flow_rules.specs.Gaining.{AddsPart, Gains, GainsPart}
use Rattle.flow_rules.specs.Gathering.{Gains-one, Gains-then, GainsPart-front, GainsPart-then}
use Rattle.flow_rules.specs.Lawful.{body_lawful}
use Rattle.flow_rules.specs.Starts.{begins, is_head}

-- ---- where blocks begin

pub begins_at : (instrs : List Instruction) (place : ℕ) (i : Instruction) → place < length instrs → i ≡ get_or instrs place i → begins (marks_of instrs) place ≡ is_head (mark_of i)
begins_at instrs place i inside is = ap is_head (get_or-map mark_of instrs place i marks.Other inside ∙ ap mark_of (sym is))

module _ (begin : ℕ → Bool) (place : ℕ) where
  next_place : suc place ≡ place + 1
  next_place = omega arith

  pub heads_next : (heads after : List ℕ) (test : Bool) → heads ≡ heads_by begin place → begin place ≡ test → after ≡ heads ++ (if test then place ∷ [] else []) → after ≡ heads_by begin (place + 1)
  heads_next heads after test so_far is gained =
      gained
      ∙ (ap (λ (b : Bool). heads ++ (if b then place ∷ [] else [])) (sym is)
      ∙ (ap (λ (hs : List ℕ). hs ++ (if begin place then place ∷ [] else [])) so_far ∙ ap (heads_by begin) next_place))

  pub numbers_next : (heads numbers after : List ℕ) (count : ℕ) → heads ≡ heads_by begin place → numbers ≡ numbers_by begin place → count ≡ length heads → after ≡ numbers ++ count ∷ [] → after ≡ numbers_by begin (place + 1)
  numbers_next heads numbers after count heads_are so_far counted gained =
      let number : count ≡ number_at begin place = counted ∙ ap (λ (hs : List ℕ). length hs) heads_are in
      gained ∙ (ap (λ (n : ℕ). numbers ++ n ∷ []) number ∙ (ap (λ (ns : List ℕ). ns ++ number_at begin place ∷ []) so_far ∙ ap (numbers_by begin) next_place))

pub end_found : (heads : List ℕ) (found : List ℕ) (block places next : ℕ) → heads ≡ found → Some next ≡ slice_get heads block → next ≡ get_or found block places
end_found heads found block places next is there = sym (get_or_from_slice_get heads block next places (sym there)) ∙ ap (λ (hs : List ℕ). get_or hs block places) is

pub end_past : (heads : List ℕ) (found : List ℕ) (block places : ℕ) → heads ≡ found → None ≡ slice_get heads block → places ≡ get_or found block places
end_past heads found block places is there = ap (λ (o : Option ℕ). unwrap_or o places) there ∙ (unwrap_or-slice_get heads block places ∙ ap (λ (hs : List ℕ). get_or hs block places) is)

module _ (f : FnFlow) (block : ℕ) (within : block < (blocks_in f).place_count) where
  pub few_blocks : block + 1 ≤ 4294967296
  few_blocks = let most = number_most (begins (marks_in f)) (length f.plans) in let size = f.sized in let short = f.short in omega (arith, most, size, short, within)

  pub block_end : head_at (begins (marks_in f)) (length f.plans) (block + 1) ≤ length f.plans
  block_end = end_inside State (meaning_of (body_of f)) (cut_of (body_of f) (marks_in f)) (body_lawful (body_of f) f.fits) (flow_cut f) block within

  pub block_rises : head_at (begins (marks_in f)) (length f.plans) block < head_at (begins (marks_in f)) (length f.plans) (block + 1)
  block_rises = head_rises (begins (marks_in f)) (length f.plans) block within

-- ---- from place to place

-- from place p with the state s, place q is entered with t
pub record Reaches (goes : ℕ → Known → Option Known) (p q : ℕ) (s t : Known) : Type 0 where
  pub low : p ≤ q
  pub at : along goes p (q - p) s ≡ Some t

module _ (goes : ℕ → Known → Option Known) (p : ℕ) (s : Known) where
  pub reaches_first : (q : ℕ) → q ≡ p → Reaches goes p q s s
  reaches_first q is =
      let none : q - p ≡ 0 = omega (arith, is) in
      record { low = omega (arith, is); at = ap (λ (n : ℕ). along goes p n s) none }

  pub reaches_next : (q : ℕ) (t u : Known) → Reaches goes p q s t → goes q t ≡ Some u → Reaches goes p (q + 1) s u
  reaches_next q t u so on =
      let low = so.low in
      let count : q + 1 - p ≡ suc (q - p) = omega (arith, low) in
      let place : q ≡ p + (q - p) = omega (arith, low) in
      record {
        low = omega (arith, low);
        at = ap (λ (n : ℕ). along goes p n s) count ∙ (ap (option_and_then (goes (p + (q - p)))) so.at ∙ (ap (λ (n : ℕ). goes n t) (sym place) ∙ on));
      }

  module _ {A : Type 0} (f : ℕ → Known → List A) where
    pub read_one : (q : ℕ) (t : Known) → Reaches goes p q s t → gathered goes f p (q + 1 - p) s ≡ gathered goes f p (q - p) s ++ f q t
    read_one q t so =
        let low = so.low in
        let count : q + 1 - p ≡ suc (q - p) = omega (arith, low) in
        let place : q ≡ p + (q - p) = omega (arith, low) in
        ap (λ (n : ℕ). gathered goes f p n s) count ∙ ap (λ (xs : List A). gathered goes f p (q - p) s ++ xs) (ap (at_state (f (p + (q - p)))) so.at ∙ ap (λ (n : ℕ). f n t) (sym place))

    pub read_none : (q : ℕ) → q ≡ p → gathered goes f p (q - p) s ≡ []
    read_none q is = let none : q - p ≡ 0 = omega (arith, is) in ap (λ (n : ℕ). gathered goes f p n s) none

    -- behind a place that leads to no next one nothing is read
    over : (k n : ℕ) → along goes p k s ≡ None → k ≤ n → (along goes p n s ≡ None) × (gathered goes f p n s ≡ gathered goes f p k s)
    over k zero none low = let same : k ≡ 0 = omega (arith, low) in (ap (λ (n : ℕ). along goes p n s) (sym same) ∙ none, ap (λ (n : ℕ). gathered goes f p n s) (sym same))
    over k (suc n) none low =
        elim (cases_lt n k) [
          | inl last ↦ let same : suc n ≡ k = omega (arith, low, last) in (ap (λ (m : ℕ). along goes p m s) same ∙ none, ap (λ (m : ℕ). gathered goes f p m s) same)
          | inr before ↦
              let rest = over k n none before in (
                ap (option_and_then (goes (p + n))) rest.0,
                ap (λ (o : Option Known). gathered goes f p n s ++ at_state (f (p + n)) o) rest.0 ∙ (append-nil (gathered goes f p n s) ∙ rest.1),
              )
        ]

    pub stops : (q size : ℕ) (t : Known) → Reaches goes p q s t → goes q t ≡ None → q < p + size → (along goes p size s ≡ None) × (gathered goes f p size s ≡ gathered goes f p (q - p) s ++ f q t)
    stops q size t so on inside =
        let low = so.low in
        let count : q + 1 - p ≡ suc (q - p) = omega (arith, low) in
        let place : q ≡ p + (q - p) = omega (arith, low) in
        let none : along goes p (q + 1 - p) s ≡ None = ap (λ (n : ℕ). along goes p n s) count ∙ (ap (option_and_then (goes (p + (q - p)))) so.at ∙ (ap (λ (n : ℕ). goes n t) (sym place) ∙ on)) in
        let rest = over (q + 1 - p) size none (omega (arith, low, inside)) in
        (rest.0, rest.1 ∙ read_one q t so)

    -- what was read so far comes first
    pub read_front : (k size : ℕ) → k ≤ size → (rest : List A) × (gathered goes f p size s ≡ gathered goes f p k s ++ rest)
    read_front k zero low = let same : 0 ≡ k = omega (arith, low) in ([], ap (λ (n : ℕ). gathered goes f p n s) same ∙ sym (append-nil (gathered goes f p k s)))
    read_front k (suc size) low =
        elim (cases_lt size k) [
          | inl last ↦ let same : suc size ≡ k = omega (arith, low, last) in ([], ap (λ (n : ℕ). gathered goes f p n s) same ∙ sym (append-nil (gathered goes f p k s)))
          | inr before ↦
              let was = read_front k size before in
              let more = at_state (f (p + size)) (along goes p size s) in
              (was.0 ++ more, ap (λ (xs : List A). xs ++ more) was.1 ∙ append_assoc (gathered goes f p k s) was.0 more)
        ]

    pub read_front_one : (q size : ℕ) (t : Known) → Reaches goes p q s t → q < p + size → (rest : List A) × (gathered goes f p size s ≡ (gathered goes f p (q - p) s ++ f q t) ++ rest)
    read_front_one q size t so inside =
        let low = so.low in
        let was = read_front (q + 1 - p) size (omega (arith, low, inside)) in
        (was.0, was.1 ∙ ap (λ (xs : List A). xs ++ was.0) (read_one q t so))

-- states fit along a block
pub state_fits : (f : FnFlow) (p q : ℕ) (s t : State) → Reaches (goes_at (body_of f)) p q (store_of s) (store_of t) → FitsBody (body_of f) s → FitsBody (body_of f) t
unfolding FitsBody
state_fits f p q s t so fit = along_fits (body_of f) (fit_body (body_of f) f.fits) p (q - p) (store_of s) (store_of t) fit so.at

-- ---- the edges of a block

module _ (goes : ℕ → Known → Option Known) (jumps : ℕ → Known → List (Edge Known)) (p end to : ℕ) (s : Known) (rises : p < end) (e0 : List (Edge State)) where
  abbrev size : ℕ
  size = end - p

  abbrev edges : List (Edge Known)
  edges = gathered goes jumps p size s ++ onward to (along goes p size s)

  pub walk_next : (q : ℕ) (t : Known) (e1 e2 : List (Edge State)) → Reaches goes p q s t → Gains e0 (gathered goes jumps p (q - p) s) e1 → Gains e1 (jumps q t) e2 → Gains e0 (gathered goes jumps p (q + 1 - p) s) e2
  walk_next q t e1 e2 so first next = subst (λ (wanted : List (Edge Known)). Gains e0 wanted e2) (sym (read_one goes p s jumps q t so)) (Gains-then e0 (gathered goes jumps p (q - p) s) e1 (jumps q t) e2 first next)

  pub walk_stops : (q : ℕ) (t : Known) (e1 e2 : List (Edge State)) → Reaches goes p q s t → q < end → goes q t ≡ None → Gains e0 (gathered goes jumps p (q - p) s) e1 → Gains e1 (jumps q t) e2 → Gains e0 edges e2
  walk_stops q t e1 e2 so inside none first next =
      let stop = stops goes p s jumps q size t so none (omega (arith, inside, rises)) in
      let all : edges ≡ gathered goes jumps p (q - p) s ++ jumps q t = ap (λ (o : Option Known). gathered goes jumps p size s ++ onward to o) stop.0 ∙ (append-nil (gathered goes jumps p size s) ∙ stop.1) in
      subst (λ (wanted : List (Edge Known)). Gains e0 wanted e2) (sym all) (Gains-then e0 (gathered goes jumps p (q - p) s) e1 (jumps q t) e2 first next)

  pub walk_part : (q : ℕ) (t : Known) (e1 e2 : List (Edge State)) → Reaches goes p q s t → q < end → Gains e0 (gathered goes jumps p (q - p) s) e1 → GainsPart e1 (jumps q t) e2 → GainsPart e0 edges e2
  walk_part q t e1 e2 so inside first next =
      let rest = read_front_one goes p s jumps q size t so (omega (arith, inside, rises)) in
      let part = GainsPart-then e0 (gathered goes jumps p (q - p) s) e1 (jumps q t) e2 first next in
      let more = GainsPart-front e0 (gathered goes jumps p (q - p) s ++ jumps q t) rest.0 e2 part in
      GainsPart-front e0 (gathered goes jumps p size s) (onward to (along goes p size s)) e2 (subst (λ (wanted : List (Edge Known)). GainsPart e0 wanted e2) (sym rest.1) more)

  -- its end is reached
  module _ (t : Known) (so : Reaches goes p end s t) (e1 : List (Edge State)) (first : Gains e0 (gathered goes jumps p size s) e1) where
    all : edges ≡ gathered goes jumps p size s ++ onward to (Some t)
    all = ap (λ (o : Option Known). gathered goes jumps p size s ++ onward to o) so.at

    pub walk_ends : (d : State) (e2 : List (Edge State)) → store_of d ≡ t → e2 ≡ e1 ++ record { target = to; state = d } ∷ [] → Gains e0 edges e2
    walk_ends d e2 is pushed = subst (λ (wanted : List (Edge Known)). Gains e0 wanted e2) (sym all) (Gains-then e0 (gathered goes jumps p size s) e1 (onward to (Some t)) e2 first (Gains-one e1 (record { target = to; state = d }) t e2 pushed is))

-- ---- what is read off a block

module _ {A : Type 0} (goes : ℕ → Known → Option Known) (f : ℕ → Known → List A) (p end : ℕ) (s : Known) (rises : p < end) (before : List A) where
  pub adds_none : (q : ℕ) → q ≡ p → before ≡ before ++ gathered goes f p (q - p) s
  adds_none q is = sym (append-nil before) ∙ ap (λ (xs : List A). before ++ xs) (sym (read_none goes p s f q is))

  module _ (q : ℕ) (t : Known) (now after : List A) (so : Reaches goes p q s t) (so_far : now ≡ before ++ gathered goes f p (q - p) s) where
    abbrev read_so_far : List A
    read_so_far = gathered goes f p (q - p) s

    put : after ≡ now ++ f q t → after ≡ before ++ (read_so_far ++ f q t)
    put gained = gained ∙ (ap (λ (xs : List A). xs ++ f q t) so_far ∙ append_assoc before read_so_far (f q t))

    pub adds_next : after ≡ now ++ f q t → after ≡ before ++ gathered goes f p (q + 1 - p) s
    adds_next gained = put gained ∙ ap (λ (xs : List A). before ++ xs) (sym (read_one goes p s f q t so))

    pub adds_last : q < end → goes q t ≡ None → after ≡ now ++ f q t → after ≡ before ++ gathered goes f p (end - p) s
    adds_last inside none gained = let stop = stops goes p s f q (end - p) t so none (omega (arith, inside, rises)) in put gained ∙ ap (λ (xs : List A). before ++ xs) (sym stop.1)

    pub adds_nothing : q < end → after ≡ now → AddsPart before (gathered goes f p (end - p) s) after
    adds_nothing inside same =
        let low = so.low in
        let rest = read_front goes p s f (q - p) (end - p) (omega (arith, inside, low)) in
        (read_so_far, rest.0, rest.1, same ∙ so_far)

    pub adds_part : q < end → after ≡ now ++ f q t → AddsPart before (gathered goes f p (end - p) s) after
    adds_part inside gained =
        let rest = read_front_one goes p s f q (end - p) t so (omega (arith, inside, rises)) in
        (read_so_far ++ f q t, rest.0, rest.1, put gained)
