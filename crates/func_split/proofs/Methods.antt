-- What split code keeps splits it.
use Rattle.std.proofs.Common.{◌≡◌, ◌↔◌, ℕ, suc, ◌+◌, ◌-◌, ◌<◌, List, length, take, drop, get_or, Option, Some, Ok, refl, sym, ap, subst, ◌∙◌, arith}
use Rattle.std.specs.BTreeMap.{BTreeMap, get}
use Rattle.std.specs.Ordering.{nat_cmp}
use Rattle.std.specs.List.{slice_get}
use Rattle.std.proofs.lemmas.List.{take_rest}
use Rattle.std.proofs.lemmas.Option.{slice_get_read}
use Rattle.op_table.specs.Instruction.{Instruction}
use Rattle.func_split.specs.declared.splitting.Extent.{Extent}
use Rattle.func_split.specs.Marks.{marks_of, IsLabelAt}
use Rattle.func_split.specs.Fronts.{ArePieces}
use Rattle.func_split.specs.Functions.{Piece, IsEntry, IsSplit, IsSplitCode, SplitValue}
use Rattle.func_split.specs.Reading.{pieces_of, piece_of, end_before, split_of, IsSplitOf}
use Rattle.func_split.proofs.Standing.{IsPlaced, placed, piece_at, stands_at}
use Rattle.func_split.proofs.Known.{labels_inside}
use Rattle.func_split.proofs.Answering.{reads_split}
use Rattle.func_split.proofs.Entering.{IsEntered, entered_is, is_entered}

abbrev pub IsAccepted : Type 0
IsAccepted = (labels count : ℕ) (code : List Instruction) (s : SplitValue) → (split_of labels count code ≡ Ok s) ↔ IsSplitCode labels count code s

pub splits : IsAccepted → (labels : ℕ) (code : List Instruction) (found : List Extent) (places : BTreeMap ℕ ℕ) → IsSplitOf labels code found places → IsSplit labels code (pieces_of code found)
splits exact labels code found places is =
    let s : SplitValue = record { instrs = code; labels = labels; functions = pieces_of code found } in
    let pieces : ArePieces labels (marks_of code) found places = record { sound = is.sound; extents_are = is.extents_are; places_are = is.places_are } in
    let read = reads_split labels (length found) code found places (record { some = is.some; pieces = pieces }) refl in
    ((exact labels (length found) code s).0 read).split

pub entry_answers : IsAccepted → (labels : ℕ) (code : List Instruction) (found : List Extent) (places : BTreeMap ℕ ℕ) → IsSplitOf labels code found places
    → (label : ℕ) (r : Option ℕ) → ((arity : ℕ) → (r ≡ Some arity) ↔ IsEntered (marks_of code) places label arity) → (arity : ℕ) → (r ≡ Some arity) ↔ IsEntry (pieces_of code found) label arity
entry_answers exact labels code found places is label r answers arity =
    let split = splits exact labels code found places is in
    let fs = pieces_of code found in (
      (λ e. entered_is labels code fs places split is.places_are label arity ((answers arity).0 e)),
      (λ entry. (answers arity).1 (is_entered labels code fs places split is.places_are label arity entry)),
    )

-- a function that is cut out of the code
abbrev pub cut : List Instruction → Extent → ℕ → Piece
cut code e end = record { first = e.first; instrs = take (end - e.first) (drop e.first code); entry = e.info + 1 - e.first; name = e.name; arity = e.arity }

pub record IsCut (all : List Piece) (places : BTreeMap ℕ ℕ) (i : ℕ) (code : List Instruction) (e : Extent) (end : ℕ) : Type 0 where
  pub placed : IsPlaced code e end
  pub piece : Some (cut code e end) ≡ slice_get all i
  pub labels : (label place : ℕ) → place < length (cut code e end).instrs → (get nat_cmp places label ≡ Some (e.first + place)) ↔ IsLabelAt (marks_of (cut code e end).instrs) place label

cut_is : IsAccepted → (labels : ℕ) (code : List Instruction) (found : List Extent) (places : BTreeMap ℕ ℕ) → IsSplitOf labels code found places → (i : ℕ) (e : Extent) (end : ℕ) → slice_get found i ≡ Some e → end ≡ end_before code (drop (suc i) found) → IsCut (pieces_of code found) places i code e end
cut_is exact labels code found places is i e end at end_is =
    let split = splits exact labels code found places is in
    let fs = pieces_of code found in
    let given = end_before code (drop (suc i) found) in
    let f = piece_of code e given in
    let there = piece_at code found i e at in
    let stands = stands_at fs 0 code split.pieces i f there in
    let inside = labels_inside labels code fs places split is.places_are f stands in
    let entry : e.info + 1 - e.first ≡ suc e.info - e.first = omega arith in
    let piece : cut code e given ≡ f = ap (λ (n : ℕ). let g : Piece = record { first = e.first; instrs = f.instrs; entry = n; name = e.name; arity = e.arity } in g) entry in
    let whole : IsCut fs places i code e given = record { placed = placed labels code found split i e at; piece = ap (λ (g : Piece). Some g) piece ∙ sym there; labels = inside } in
    subst (λ (n : ℕ). IsCut fs places i code e n) (sym end_is) whole

extent_at : (found items : List Extent) (i : ℕ) (e : Extent) → items ≡ found → i < length items → e ≡ get_or items i e → slice_get found i ≡ Some e
extent_at found items i e same below is = ap (λ (t : List Extent). slice_get t i) (sym same) ∙ slice_get_read items (length items) i e refl below is

end_at : (code : List Instruction) (found items : List Extent) (i end : ℕ) → items ≡ found → end ≡ end_before code (take (length items - (i + 1)) (drop (i + 1) items)) → end ≡ end_before code (drop (suc i) found)
end_at code found items i end same is =
    let next : i + 1 ≡ suc i = omega arith in
    is ∙ ap (end_before code) (take_rest items (i + 1) ∙ ap (λ (n : ℕ). drop n items) next ∙ ap (λ (t : List Extent). drop (suc i) t) same)

pub cut_read : IsAccepted → (labels : ℕ) (code : List Instruction) (found : List Extent) (places : BTreeMap ℕ ℕ) → IsSplitOf labels code found places → (items later : List Extent) (i : ℕ) (e : Extent) (end : ℕ)
    → items ≡ found → i < length items → e ≡ get_or items i e → later ≡ found → end ≡ end_before code (take (length later - (i + 1)) (drop (i + 1) later)) → IsCut (pieces_of code found) places i code e end
cut_read exact labels code found places is items later i e end items_are below at later_is ends =
    cut_is exact labels code found places is i e end (extent_at found items i e items_are below at) (end_at code found later i end later_is ends)
