-- The instructions of functions, and their marks.
use Rattle.std.proofs.Common.{◌≡◌, ℕ, suc, ◌+◌, ◌-◌, ◌≤◌, Some, List, [], ◌∷◌, ◌++◌, map, length, take, drop, replicate, refl, sym, ap, subst, ◌∙◌, arith, append_assoc}
use Rattle.std.specs.List.{AllByRecursion}
use Rattle.std.proofs.lemmas.List.{drop-map, drop_at, length-append, length-map, length-replicate, map-append, take-append-drop, take-map, take_at}
use Rattle.op_table.specs.Instruction.{Instruction}
use Rattle.func_split.specs.declared.mark.Mark.{Mark}
use Rattle.func_split.specs.declared.mark.Mark.TheVariants as marks
use Rattle.func_split.specs.declared.splitting.Extent.{Extent}
use Rattle.func_split.specs.Marks.{mark_of, marks_of}
use Rattle.func_split.specs.Functions.{AreFrom, IsFunction, Piece, size_limit}
use Rattle.func_split.specs.Reading.{end_before, piece_of, pieces_of}
use Rattle.func_split.proofs.Following.{Follows, Front, behind_label}
use Rattle.func_split.proofs.Standing.{size_is}

-- the marks of a function
abbrev front_marks : ℕ → ℕ → ℕ → ℕ → ℕ → List Mark → List Mark
front_marks label lines name arity entry body = marks.Label (Some label) ∷ behind_label lines name arity entry body

front_length : (label lines name arity entry : ℕ) (body : List Mark) → length (front_marks label lines name arity entry body) ≡ lines + (3 + length body)
front_length label lines name arity entry body =
    let both = length-append (replicate lines marks.Line) (marks.Func (Some (name, arity)) ∷ marks.Label (Some entry) ∷ body) in
    let front = length-replicate lines marks.Line in
    omega arith

front_joined : (label lines name arity entry : ℕ) (body rest : List Mark) → marks.Label (Some label) ∷ behind_label lines name arity entry (body ++ rest) ≡ front_marks label lines name arity entry body ++ rest
front_joined label lines name arity entry body rest = ap (λ (t : List Mark). marks.Label (Some label) ∷ t) (sym (append_assoc (replicate lines marks.Line) (marks.Func (Some (name, arity)) ∷ marks.Label (Some entry) ∷ body) rest))

-- where a function ends
end_at : (code : List Instruction) (place : ℕ) (xs : List Extent) (rest : List Instruction) → Follows place xs (marks_of rest) → length code ≡ place + length rest → end_before code xs ≡ place
end_at code place [] rest f long =
    let one : length (marks_of rest) ≡ 1 = ap length f in
    let same : length (marks_of rest) ≡ length rest = length-map rest mark_of in
    omega arith
end_at code place (x ∷ xs) rest f long = f.0.first

-- ---- from where functions stand to the functions

-- these are the pieces of the code from this place on
pub record ArePieces (place : ℕ) (pieces : List Piece) (rest : List Instruction) : Type 0 where
  pub are : AreFrom place pieces rest
  pub each : AllByRecursion IsFunction pieces

module _ (code : List Instruction) where
  -- what is cut out of the code for a function
  record Cut (place : ℕ) (x : Extent) (xs : List Extent) (is : List Instruction) (front : Front place x (marks_of is)) : Type 0 where
    size : ℕ
    size_is : size ≡ front.lines + (3 + length front.body)
    instrs : take (end_before code xs - x.first) (drop x.first code) ≡ take size is
    joined : take size is ++ drop size is ≡ is
    taken : marks_of (take size is) ≡ front_marks front.label front.lines x.name x.arity front.entry front.body
    dropped : marks_of (drop size is) ≡ front.rest
    long : length (take size is) ≡ size

  cut : (place : ℕ) (x : Extent) (xs : List Extent) (pre is : List Instruction) → length pre ≡ place → pre ++ is ≡ code → (f : Follows place (x ∷ xs) (marks_of is)) → Cut place x xs is f.0
  cut place x xs pre is at joined f =
      let front : Front place x (marks_of is) = f.0 in
      let size = front.lines + (3 + length front.body) in
      let these = front_marks front.label front.lines x.name x.arity front.entry front.body in
      let these_long : length these ≡ size = front_length front.label front.lines x.name x.arity front.entry front.body in
      let whole : marks_of is ≡ these ++ front.rest = front.joined ∙ front_joined front.label front.lines x.name x.arity front.entry front.body front.rest in
      let taken : marks_of (take size is) ≡ these = sym (take-map mark_of size is) ∙ ap (take size) whole ∙ take_at these front.rest size these_long in
      let dropped : marks_of (drop size is) ≡ front.rest = sym (drop-map mark_of size is) ∙ ap (drop size) whole ∙ drop_at these front.rest size these_long in
      let long : length (take size is) ≡ size = sym (length-map (take size is) mark_of) ∙ ap length taken ∙ these_long in
      let split : take size is ++ drop size is ≡ is = take-append-drop size is in
      let is_long : length is ≡ length (take size is) + length (drop size is) = ap length (sym split) ∙ length-append (take size is) (drop size is) in
      let code_long : length code ≡ length pre + length is = ap length (sym joined) ∙ length-append pre is in
      let end : end_before code xs ≡ place + size = end_at code (place + size) xs (drop size is) (subst (λ (ms : List Mark). Follows (place + size) xs ms) (sym dropped) f.1) (omega arith) in
      let first : x.first ≡ place = front.first in
      let amount : end_before code xs - x.first ≡ size = omega arith in
      let behind : drop x.first code ≡ is = ap (λ (n : ℕ). drop n code) first ∙ ap (drop place) (sym joined) ∙ drop_at pre is place at in
      record { size = size; size_is = refl; instrs = ap (λ (n : ℕ). take n (drop x.first code)) amount ∙ ap (take size) behind; joined = split; taken = taken; dropped = dropped; long = long }

  piece_is : (place : ℕ) (x : Extent) (xs : List Extent) (is : List Instruction) (front : Front place x (marks_of is)) → Cut place x xs is front → IsFunction (piece_of code x (end_before code xs))
  piece_is place x xs is front c =
      let first : x.first ≡ place = front.first in
      let info : x.info ≡ place + suc front.lines = front.info in
      let short : front.lines + (3 + length front.body) ≤ size_limit = front.size in
      let size_is : c.size ≡ front.lines + (3 + length front.body) = c.size_is in
      let long = ap length c.instrs ∙ c.long in
      record {
        label = front.label;
        lines = front.lines;
        entry_label = front.entry;
        body = front.body;
        marks = ap marks_of c.instrs ∙ c.taken;
        entry = omega arith;
        body_is = front.body_is;
        size = omega arith;
      }

  pub pieces_are : (xs : List Extent) (place : ℕ) (pre is : List Instruction) → length pre ≡ place → pre ++ is ≡ code → Follows place xs (marks_of is) → ArePieces place (pieces_of code xs) is
  pieces_are [] place pre is at joined f = record { are = f; each = tt }
  pieces_are (x ∷ xs) place pre is at joined f =
      let c = cut place x xs pre is at joined f in
      let size_is : c.size ≡ f.0.lines + (3 + length f.0.body) = c.size_is in
      let long : length (take c.size is) ≡ c.size = c.long in
      let before : length (pre ++ take c.size is) ≡ length pre + length (take c.size is) = length-append pre (take c.size is) in
      let place_is : place + (f.0.lines + (3 + length f.0.body)) ≡ place + c.size = omega arith in
      let next : Follows (place + c.size) xs (marks_of (drop c.size is)) = subst (λ (n : ℕ). Follows n xs (marks_of (drop c.size is))) place_is (subst (λ (ms : List Mark). Follows (place + (f.0.lines + (3 + length f.0.body))) xs ms) (sym c.dropped) f.1) in
      let later = pieces_are xs (place + c.size) (pre ++ take c.size is) (drop c.size is) (omega arith) (append_assoc pre (take c.size is) (drop c.size is) ∙ ap (λ (t : List Instruction). pre ++ t) c.joined ∙ joined) next in
      let piece_long : c.size ≡ length (piece_of code x (end_before code xs)).instrs = sym (ap length c.instrs ∙ c.long) in
      record {
        are = (f.0.first, (drop c.size is, sym c.joined ∙ ap (λ (t : List Instruction). t ++ drop c.size is) (sym c.instrs), subst (λ (n : ℕ). AreFrom (place + n) (pieces_of code xs) (drop c.size is)) piece_long later.are));
        each = (piece_is place x xs is f.0 c, later.each);
      }

-- ---- from functions to where they stand

-- where a function stands
abbrev pub extent_in : Piece → Extent
extent_in f = record { first = f.first; info = f.first + (f.entry - 1); name = f.name; arity = f.arity }

pub functions_follow : (functions : List Piece) (place : ℕ) (is : List Instruction) → AreFrom place functions is → AllByRecursion IsFunction functions → Follows place (map extent_in functions) (marks_of is)
functions_follow [] place is are each = are
functions_follow (f ∷ functions) place is are each =
    let fn : IsFunction f = each.0 in
    let rest = are.1.0 in
    let long : length f.instrs ≡ fn.lines + (3 + length fn.body) = omega (arith, size_is f fn) in
    let entry : f.entry ≡ 2 + fn.lines = fn.entry in
    let short : length f.instrs ≤ size_limit = fn.size in
    let first : f.first ≡ place = are.0 in
    let later = functions_follow functions (place + length f.instrs) rest are.1.2 each.1 in
    let joined : marks_of is ≡ front_marks fn.label fn.lines f.name f.arity fn.entry_label fn.body ++ marks_of rest = ap marks_of are.1.1 ∙ map-append mark_of f.instrs rest ∙ ap (λ (t : List Mark). t ++ marks_of rest) fn.marks in
    let front : Front place (extent_in f) (marks_of is) = record {
      label = fn.label;
      lines = fn.lines;
      entry = fn.entry_label;
      body = fn.body;
      rest = marks_of rest;
      joined = joined ∙ sym (front_joined fn.label fn.lines f.name f.arity fn.entry_label fn.body (marks_of rest));
      first = first;
      info = omega arith;
      body_is = fn.body_is;
      size = omega arith;
    } in
    (front, subst (λ (n : ℕ). Follows (place + n) (map extent_in functions) (marks_of rest)) long later)

-- what is cut out for one of them is that one
same_piece : (code : List Instruction) (f : Piece) (end : ℕ) → take (end - f.first) (drop f.first code) ≡ f.instrs → suc (f.first + (f.entry - 1)) - f.first ≡ f.entry → piece_of code (extent_in f) end ≡ f
same_piece code f end instrs entry =
    ap (λ (l : List Instruction). record { first = f.first; instrs = l; entry = suc (f.first + (f.entry - 1)) - f.first; name = f.name; arity = f.arity }) instrs
    ∙ ap (λ (n : ℕ). record { first = f.first; instrs = f.instrs; entry = n; name = f.name; arity = f.arity }) entry

-- what is cut out for functions that stand there are these
pub same_pieces : (code : List Instruction) (functions : List Piece) (place : ℕ) (pre is : List Instruction) → length pre ≡ place → pre ++ is ≡ code → AreFrom place functions is → AllByRecursion IsFunction functions → pieces_of code (map extent_in functions) ≡ functions
same_pieces code [] place pre is at joined are each = refl
same_pieces code (f ∷ functions) place pre is at joined are each =
    let fn : IsFunction f = each.0 in
    let rest = are.1.0 in
    let xs = map extent_in functions in
    let entry : f.entry ≡ 2 + fn.lines = fn.entry in
    let first : f.first ≡ place = are.0 in
    let is_long : length is ≡ length f.instrs + length rest = ap length are.1.1 ∙ length-append f.instrs rest in
    let code_long : length code ≡ length pre + length is = ap length (sym joined) ∙ length-append pre is in
    let end : end_before code xs ≡ place + length f.instrs = end_at code (place + length f.instrs) xs rest (functions_follow functions (place + length f.instrs) rest are.1.2 each.1) (omega arith) in
    let amount : end_before code xs - f.first ≡ length f.instrs = omega arith in
    let behind : drop f.first code ≡ f.instrs ++ rest = ap (λ (n : ℕ). drop n code) first ∙ ap (drop place) (sym joined) ∙ drop_at pre is place at ∙ are.1.1 in
    let instrs : take (end_before code xs - f.first) (drop f.first code) ≡ f.instrs = ap (λ (n : ℕ). take n (drop f.first code)) amount ∙ ap (take (length f.instrs)) behind ∙ take_at f.instrs rest (length f.instrs) refl in
    let entry_is : suc (f.first + (f.entry - 1)) - f.first ≡ f.entry = omega arith in
    let before : length (pre ++ f.instrs) ≡ length pre + length f.instrs = length-append pre f.instrs in
    let later = same_pieces code functions (place + length f.instrs) (pre ++ f.instrs) rest (omega arith) (append_assoc pre f.instrs rest ∙ ap (λ (t : List Instruction). pre ++ t) (sym are.1.1) ∙ joined) are.1.2 each.1 in
    ap (λ (p : Piece). p ∷ pieces_of code xs) (same_piece code f (end_before code xs) instrs entry_is) ∙ ap (λ (ps : List Piece). f ∷ ps) later
