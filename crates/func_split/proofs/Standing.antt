-- Where the functions of split code stand in it.
use Rattle.std.proofs.Common.{◌≡◌, ℕ, zero, suc, ◌+◌, ◌-◌, ◌<◌, ◌≤◌, List, [], ◌∷◌, ◌++◌, length, drop, replicate, Some, refl, sym, ap, subst, ◌∙◌, append_assoc, arith, length-append}
use Rattle.std.specs.List.{slice_get, AllByRecursion}
use Rattle.std.specs.Option.{option_map}
use Rattle.std.proofs.lemmas.List.{length-map, length-replicate, length-take}
use Rattle.std.proofs.lemmas.Option.{none-some, same_Some, slice_get-map}
use Rattle.op_table.specs.Instruction.{Instruction}
use Rattle.func_split.specs.declared.mark.Mark.TheVariants as marks
use Rattle.func_split.specs.declared.splitting.Extent.{Extent}
use Rattle.func_split.specs.Marks.{marks_of, mark_of}
use Rattle.func_split.specs.Functions.{Piece, IsFunction, AreFrom, IsSplit, StandsIn}
use Rattle.func_split.specs.Reading.{pieces_of, piece_of, end_before}

-- ---- items of lists

pub slice_get-behind : {X : Type 0} (xs ys : List X) (k n : ℕ) → n ≡ length xs + k → slice_get (xs ++ ys) n ≡ slice_get ys k
slice_get-behind [] ys k n e = ap (λ m. slice_get ys m) (omega arith)
slice_get-behind (x ∷ xs) ys k zero e = absurd (omega arith)
slice_get-behind (x ∷ xs) ys k (suc n) e = slice_get-behind xs ys k n (omega arith)

pub slice_get-front : {X : Type 0} (xs ys : List X) (k : ℕ) → k < length xs → slice_get (xs ++ ys) k ≡ slice_get xs k
slice_get-front [] ys k below = absurd (omega arith)
slice_get-front (x ∷ xs) ys zero below = refl
slice_get-front (x ∷ xs) ys (suc k) below = slice_get-front xs ys k (omega arith)

pub each_at : {X : Type 0} (P : X → Type 0) (xs : List X) → AllByRecursion P xs → (i : ℕ) (x : X) → slice_get xs i ≡ Some x → P x
each_at P [] all i x e = absurd (none-some x e)
each_at P (y ∷ xs) all zero x e = subst P (same_Some y x e) all.0
each_at P (y ∷ xs) all (suc i) x e = each_at P xs all.1 i x e

pub first_of_drop : {X : Type 0} (xs : List X) (i : ℕ) (x : X) (rest : List X) → drop i xs ≡ x ∷ rest → slice_get xs i ≡ Some x
first_of_drop [] zero x rest e = absurd (grind arith)
first_of_drop [] (suc i) x rest e = absurd (grind arith)
first_of_drop (y ∷ xs) zero x rest e = grind arith
first_of_drop (y ∷ xs) (suc i) x rest e = first_of_drop xs i x rest e

-- ---- pieces

pub length-pieces_of : (code : List Instruction) (found : List Extent) → length (pieces_of code found) ≡ length found
length-pieces_of code [] = refl
length-pieces_of code (e ∷ found) = ap suc (length-pieces_of code found)

pub piece_at : (code : List Instruction) (found : List Extent) (i : ℕ) (e : Extent) → slice_get found i ≡ Some e → slice_get (pieces_of code found) i ≡ Some (piece_of code e (end_before code (drop (suc i) found)))
piece_at code [] i e is = absurd (none-some e is)
piece_at code (d ∷ found) zero e is = ap (λ (x : Extent). Some (piece_of code x (end_before code found))) (same_Some d e is)
piece_at code (d ∷ found) (suc i) e is = piece_at code found i e is

-- ---- places

-- a function stands in code that begins at a place
pub record Stands (at : ℕ) (code : List Instruction) (f : Piece) : Type 0 where
  pub front : List Instruction
  pub rest : List Instruction
  pub joined : code ≡ front ++ (f.instrs ++ rest)
  pub first : f.first ≡ at + length front

pub stands_at : (fs : List Piece) (at : ℕ) (code : List Instruction) → AreFrom at fs code → (i : ℕ) (f : Piece) → slice_get fs i ≡ Some f → Stands at code f
stands_at [] at code are i f e = absurd (none-some f e)
stands_at (g ∷ fs) at code are zero f e =
    let first : Stands at code g = record { front = []; rest = are.1.0; joined = are.1.1; first = are.0 ∙ omega arith } in
    subst (λ (h : Piece). Stands at code h) (same_Some g f e) first
stands_at (g ∷ fs) at code are (suc i) f e =
    let later = stands_at fs (at + length g.instrs) are.1.0 are.1.2 i f e in
    let front = g.instrs ++ later.front in
    record {
      front = front;
      rest = later.rest;
      joined = are.1.1 ∙ ap (λ (t : List Instruction). g.instrs ++ t) later.joined ∙ sym (append_assoc g.instrs later.front (f.instrs ++ later.rest));
      first = later.first ∙ omega (arith, length-append g.instrs later.front);
    }

-- an instruction of a function is that of the code at this place
pub inside : (at : ℕ) (code : List Instruction) (f : Piece) → Stands at code f → (k n : ℕ) → k < length f.instrs → at + n ≡ f.first + k → slice_get (marks_of code) n ≡ slice_get (marks_of f.instrs) k
inside at code f is k n below e =
    slice_get-map mark_of code n
    ∙ ap (option_map mark_of) (ap (λ (t : List Instruction). slice_get t n) is.joined ∙ slice_get-behind is.front (f.instrs ++ is.rest) k n (omega (arith, is.first)) ∙ slice_get-front f.instrs is.rest k below)
    ∙ sym (slice_get-map mark_of f.instrs k)

pub size_is : (f : Piece) (is : IsFunction f) → length f.instrs ≡ 3 + is.lines + length is.body
size_is f is =
    let heads = replicate is.lines marks.Line in
    let behind = marks.Func (Some (f.name, f.arity)) ∷ marks.Label (Some is.entry_label) ∷ is.body in
    let joined : length (marks_of f.instrs) ≡ suc (length (heads ++ behind)) = ap length is.marks in
    omega (arith, joined, length-map f.instrs mark_of, length-append heads behind, length-replicate is.lines marks.Line)

-- functions have instructions, and one more stands behind them
some_left : (fs : List Piece) (at : ℕ) (code : List Instruction) → AreFrom at fs code → 0 < length code
some_left [] at code are = omega (arith, ap length are, length-map code mark_of)
some_left (f ∷ fs) at code are =
    omega (arith, ap length are.1.1, length-append f.instrs are.1.0, some_left fs (at + length f.instrs) are.1.0 are.1.2)

-- where function i begins and ends, in code that begins at a place
bounds : (fs : List Piece) (at : ℕ) (code : List Instruction) → AreFrom at fs code → AllByRecursion IsFunction fs → (i : ℕ) (f : Piece) → slice_get fs i ≡ Some f
    → (at + i ≤ f.first) × (f.first + length f.instrs < at + length code)
bounds [] at code are each i f e = absurd (none-some f e)
bounds (g ∷ fs) at code are each zero f e =
    let left = some_left fs (at + length g.instrs) are.1.0 are.1.2 in
    let joined = ap length are.1.1 ∙ length-append g.instrs are.1.0 in
    subst (λ (h : Piece). (at + 0 ≤ h.first) × (h.first + length h.instrs < at + length code)) (same_Some g f e) (omega (arith, are.0), omega (arith, are.0, left, joined))
bounds (g ∷ fs) at code are each (suc i) f e =
    let later = bounds fs (at + length g.instrs) are.1.0 are.1.2 each.1 i f e in
    let joined = ap length are.1.1 ∙ length-append g.instrs are.1.0 in
    (omega (arith, size_is g each.0, later.0), omega (arith, later.1, joined))

pub stands_in : (labels : ℕ) (code : List Instruction) (functions : List Piece) → IsSplit labels code functions → (i : ℕ) (f : Piece) → slice_get functions i ≡ Some f → StandsIn code i f
stands_in labels code functions split i f e =
    let is = each_at IsFunction functions split.each i f e in
    let bound = bounds functions 0 code split.pieces split.each i f e in
    record { before = omega (arith, bound.0); within = omega (arith, bound.1); entry = omega (arith, size_is f is, is.entry); is = is }

pub record IsPlaced (code : List Instruction) (e : Extent) (end : ℕ) : Type 0 where
  pub first_end : e.first < end
  pub end_code : end ≤ length code
  pub first_info : e.first ≤ e.info
  pub info_end : e.info + 1 < end

-- where a function ends that stands at a place
ends_within : (labels : ℕ) (code : List Instruction) (found : List Extent) → IsSplit labels code (pieces_of code found) → (i : ℕ) → end_before code (drop i found) ≤ length code
ends_within labels code found split i = ends (drop i found) refl
  where
    later : (e : Extent) (rest : List Extent) → drop i found ≡ e ∷ rest → slice_get found i ≡ Some e
    later e rest is = first_of_drop found i e rest is

    ends : (rest : List Extent) → drop i found ≡ rest → end_before code rest ≤ length code
    ends [] is = omega arith
    ends (e ∷ rest) is =
        let f = piece_of code e (end_before code (drop (suc i) found)) in
        let stands = stands_at (pieces_of code found) 0 code split.pieces i f (piece_at code found i e (later e rest is)) in
        omega (arith, stands.first, ap length stands.joined, length-append stands.front (f.instrs ++ stands.rest))

pub placed : (labels : ℕ) (code : List Instruction) (found : List Extent) → IsSplit labels code (pieces_of code found) → (i : ℕ) (e : Extent) → slice_get found i ≡ Some e → IsPlaced code e (end_before code (drop (suc i) found))
placed labels code found split i e is =
    let end = end_before code (drop (suc i) found) in
    let f = piece_of code e end in
    let at = piece_at code found i e is in
    let stands = stands_at (pieces_of code found) 0 code split.pieces i f at in
    let function = each_at IsFunction (pieces_of code found) split.each i f at in
    let size = size_is f function in
    let within = ends_within labels code found split (suc i) in
    let joined : length code ≡ length stands.front + (length f.instrs + length stands.rest) = ap length stands.joined ∙ length-append stands.front (f.instrs ++ stands.rest) ∙ ap (λ (n : ℕ). length stands.front + n) (length-append f.instrs stands.rest) in
    let part : length f.instrs ≤ end - e.first = omega (arith, length-take (end - e.first) (drop e.first code)) in
    let first : e.first ≡ 0 + length stands.front = stands.first in
    let entry : suc e.info - e.first ≡ 2 + function.lines = function.entry in
    record { first_end = omega arith; end_code = within; first_info = omega arith; info_end = omega arith }
