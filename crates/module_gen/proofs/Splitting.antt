-- Generated code splits into its functions.
use Rattle.std.proofs.Common.{◌≡◌, ℕ, zero, suc, ◌+◌, ◌*◌, ◌-◌, ◌<◌, ◌≤◌, List, [], ◌∷◌, ◌++◌, length, All, Some, refl, sym, ap, subst, ◌∙◌, inl, inr, arith, append-nil, append_assoc, length-append}
use Rattle.std.proofs.lemmas.Bool.{cases_lt, lt-ltb}
use Rattle.std.proofs.lemmas.List.{map-append, length-map}
use Rattle.std.proofs.lemmas.List.Elements.{All-nil, All-push, recursion_from_All}
use Rattle.std.proofs.lemmas.Option.{none-some}
use Rattle.op_table.specs.Instruction.{Instruction}
use Rattle.func_split.specs.declared.mark.Mark.{Mark}
use Rattle.func_split.specs.declared.mark.Mark.TheVariants as marks
use Rattle.func_split.specs.Marks.{IsLabelAt, marks_of, mark_of}
use Rattle.func_split.specs.Functions.{AreFrom, IsFunction, IsSplit, IsSplitCode, Piece}
use Rattle.func_split.proofs.Standing.{slice_get-behind, slice_get-front}
use Rattle.module_gen.proofs.Rows.{◌&◌}
use Rattle.module_gen.specs.Code.{instr, function_of, functions_of, instrs_of, piece_of, pieces_of, split_of}

-- ---- the marks of one function

-- the marks behind the entry label
abbrev body_marks : ℕ → List Mark
body_marks i =
    marks.Other ∷ marks.Other
    ∷ marks.Label (Some (4 * i + 3))
    ∷ marks.Other ∷ marks.Other ∷ marks.Other ∷ marks.Other ∷ marks.Other
    ∷ marks.Label (Some (4 * i + 4))
    ∷ marks.Other ∷ marks.Other ∷ marks.Other ∷ marks.Other
    ∷ []

abbrev function_marks : ℕ → List Mark
function_marks i = marks.Label (Some (4 * i + 1)) ∷ marks.Func (Some (i + 2, 1)) ∷ marks.Label (Some (4 * i + 2)) ∷ body_marks i

marks_are : (n i : ℕ) → i < 2000 → marks_of (function_of n i) ≡ function_marks i
marks_are n i small =
    rw (
      lt-ltb (4 * i + 1) 4294967296 (omega arith),
      lt-ltb (4 * i + 2) 4294967296 (omega arith),
      lt-ltb (4 * i + 3) 4294967296 (omega arith),
      lt-ltb (4 * i + 4) 4294967296 (omega arith),
    ) refl

piece_is : (n i : ℕ) → i < 2000 → IsFunction (piece_of n i)
piece_is n i small =
    record {
      label = 4 * i + 1;
      lines = 0;
      entry_label = 4 * i + 2;
      body = body_marks i;
      marks = marks_are n i small;
      entry = refl;
      body_is = tt & tt & tt & tt & tt & tt & tt & tt & tt & tt & tt & tt & tt & tt;
      size = omega arith;
    }

-- ---- the functions, one behind another

pub length_functions : (n k : ℕ) → length (functions_of n k) ≡ 16 * k
length_functions n zero = refl
length_functions n (suc k) = omega (arith, length-append (functions_of n k) (function_of n k), length_functions n k)

length_pieces : (n k : ℕ) → length (pieces_of n k) ≡ k
length_pieces n zero = refl
length_pieces n (suc k) = omega (arith, length-append (pieces_of n k) (piece_of n k ∷ []), length_pieces n k)

pieces_from : (n k : ℕ) (fs : List Piece) (rest : List Instruction) → AreFrom (16 * k) fs rest → AreFrom 0 (pieces_of n k ++ fs) (functions_of n k ++ rest)
pieces_from n zero fs rest are = are
pieces_from n (suc k) fs rest are =
    let place : 16 * suc k ≡ 16 * k + 16 = omega arith in
    let last : AreFrom (16 * k) (piece_of n k ∷ fs) (function_of n k ++ rest) = (refl, (rest, refl, subst (λ at. AreFrom at fs rest) place are)) in
    let before = pieces_from n k (piece_of n k ∷ fs) (function_of n k ++ rest) last in
    let pieces : (pieces_of n k ++ piece_of n k ∷ []) ++ fs ≡ pieces_of n k ++ piece_of n k ∷ fs = append_assoc (pieces_of n k) (piece_of n k ∷ []) fs in
    let code : (functions_of n k ++ function_of n k) ++ rest ≡ functions_of n k ++ (function_of n k ++ rest) = append_assoc (functions_of n k) (function_of n k) rest in
    subst (λ ps. AreFrom 0 ps ((functions_of n k ++ function_of n k) ++ rest)) (sym pieces)
    (subst (λ is. AreFrom 0 (pieces_of n k ++ piece_of n k ∷ fs) is) (sym code) before)

-- ---- labels

-- where the labels of a function stand in it
abbrev offset : ℕ → ℕ
offset zero = 0
offset (suc zero) = 2
offset (suc (suc zero)) = 5
offset (suc (suc (suc k))) = 11

-- a label of the first k functions: the function that it is in, and which of its labels it is
record IsIn (k place number : ℕ) : Type 0 where
  function : ℕ
  label : ℕ
  below : function < k
  four : label < 4
  number_is : number ≡ 4 * function + label + 1
  place_is : place ≡ 16 * function + offset label

one_label : (i c given place number : ℕ) → c < 4 → given ≡ 4 * i + c + 1 → place ≡ 16 * i + offset c → Some (marks.Label (Some given)) ≡ Some (marks.Label (Some number)) → IsIn (suc i) place number
one_label i c given place number four given_is at is =
    let same : given ≡ number = cc in
    record { function = i; label = c; below = omega arith; four = four; number_is = omega arith; place_is = at }

label_in : (i k number : ℕ) → IsLabelAt (function_marks i) k number → IsIn (suc i) (16 * i + k) number
label_in i zero number is = one_label i 0 (4 * i + 1) (16 * i + 0) number (omega arith) (omega arith) (omega arith) is
label_in i (suc zero) number is = absurd cc
label_in i (suc (suc zero)) number is = one_label i 1 (4 * i + 2) (16 * i + 2) number (omega arith) (omega arith) (omega arith) is
label_in i (suc (suc (suc zero))) number is = absurd cc
label_in i (suc (suc (suc (suc zero)))) number is = absurd cc
label_in i (suc (suc (suc (suc (suc zero))))) number is = one_label i 2 (4 * i + 3) (16 * i + 5) number (omega arith) (omega arith) (omega arith) is
label_in i (suc (suc (suc (suc (suc (suc zero)))))) number is = absurd cc
label_in i (suc (suc (suc (suc (suc (suc (suc zero))))))) number is = absurd cc
label_in i (suc (suc (suc (suc (suc (suc (suc (suc zero)))))))) number is = absurd cc
label_in i (suc (suc (suc (suc (suc (suc (suc (suc (suc zero))))))))) number is = absurd cc
label_in i (suc (suc (suc (suc (suc (suc (suc (suc (suc (suc zero)))))))))) number is = absurd cc
label_in i (suc (suc (suc (suc (suc (suc (suc (suc (suc (suc (suc zero))))))))))) number is = one_label i 3 (4 * i + 4) (16 * i + 11) number (omega arith) (omega arith) (omega arith) is
label_in i (suc (suc (suc (suc (suc (suc (suc (suc (suc (suc (suc (suc zero)))))))))))) number is = absurd cc
label_in i (suc (suc (suc (suc (suc (suc (suc (suc (suc (suc (suc (suc (suc zero))))))))))))) number is = absurd cc
label_in i (suc (suc (suc (suc (suc (suc (suc (suc (suc (suc (suc (suc (suc (suc zero)))))))))))))) number is = absurd cc
label_in i (suc (suc (suc (suc (suc (suc (suc (suc (suc (suc (suc (suc (suc (suc (suc zero))))))))))))))) number is = absurd cc
label_in i (suc (suc (suc (suc (suc (suc (suc (suc (suc (suc (suc (suc (suc (suc (suc (suc k)))))))))))))))) number is = absurd cc

higher : (k place number : ℕ) → IsIn k place number → IsIn (suc k) place number
higher k place number is =
    record { function = is.function; label = is.label; below = omega (arith, is.below); four = is.four; number_is = is.number_is; place_is = is.place_is }

length_marks : (n k : ℕ) → length (marks_of (functions_of n k)) ≡ 16 * k
length_marks n k = length-map (functions_of n k) mark_of ∙ length_functions n k

-- a label stands in the functions, or in what is behind them
labels_in : (n k : ℕ) → k ≤ 2000 → (place number : ℕ) → IsLabelAt (marks_of (functions_of n k)) place number → IsIn k place number
labels_in n zero small place number is = absurd (none-some _ is)
labels_in n (suc k) small place number is =
    let joined : marks_of (functions_of n k ++ function_of n k) ≡ marks_of (functions_of n k) ++ function_marks k =
    map-append mark_of (functions_of n k) (function_of n k) ∙ ap (λ (ms : List Mark). marks_of (functions_of n k) ++ ms) (marks_are n k (omega arith)) in
    let here : IsLabelAt (marks_of (functions_of n k) ++ function_marks k) place number = subst (λ ms. IsLabelAt ms place number) joined is in
    let long = length_marks n k in
    elim (cases_lt place (16 * k)) [
      | inl before ↦ higher k place number (labels_in n k (omega arith) place number (sym (slice_get-front (marks_of (functions_of n k)) (function_marks k) place (omega arith)) ∙ here))
      | inr behind ↦ (
          let at : place ≡ length (marks_of (functions_of n k)) + (place - 16 * k) = omega arith in
          let found = label_in k (place - 16 * k) number (sym (slice_get-behind (marks_of (functions_of n k)) (function_marks k) (place - 16 * k) place at) ∙ here) in
          let same : 16 * k + (place - 16 * k) ≡ place = omega arith in
          subst (λ p. IsIn (suc k) p number) same found)
    ]

-- no label stands in the last instruction
no_label : (k number : ℕ) → IsLabelAt (marks.Close ∷ []) k number → ⊥
no_label zero number is = cc
no_label (suc k) number is = none-some _ is

all_labels : (n : ℕ) → n ≤ 2000 → (place number : ℕ) → IsLabelAt (marks_of (instrs_of n)) place number → IsIn n place number
all_labels n small place number is =
    let here : IsLabelAt (marks_of (functions_of n n) ++ marks.Close ∷ []) place number = subst (λ ms. IsLabelAt ms place number) (map-append mark_of (functions_of n n) (instr 3 [] ∷ [])) is in
    let long = length_marks n n in
    elim (cases_lt place (16 * n)) [
      | inl before ↦ labels_in n n small place number (sym (slice_get-front (marks_of (functions_of n n)) (marks.Close ∷ []) place (omega arith)) ∙ here)
      | inr behind ↦ (
          let at : place ≡ length (marks_of (functions_of n n)) + (place - 16 * n) = omega arith in
          absurd (no_label (place - 16 * n) number (sym (slice_get-behind (marks_of (functions_of n n)) (marks.Close ∷ []) (place - 16 * n) place at) ∙ here)))
    ]

in_range : (n place number : ℕ) → IsIn n place number → (0 < number) × (number < 4 * n + 1)
in_range n place number is = (omega (arith, is.number_is), omega (arith, is.number_is, is.below, is.four))

same_place : (n place other number : ℕ) → IsIn n place number → IsIn n other number → place ≡ other
same_place n place other number a b =
    let functions : a.function ≡ b.function = omega (arith, a.number_is, b.number_is, a.four, b.four) in
    let labels : a.label ≡ b.label = omega (arith, a.number_is, b.number_is, a.four, b.four) in
    a.place_is ∙ ap (λ i. 16 * i + offset a.label) functions ∙ ap (λ c. 16 * b.function + offset c) labels ∙ sym b.place_is

-- ---- the split

each_is : (n k : ℕ) → k ≤ 2000 → All IsFunction (pieces_of n k)
each_is n zero small = All-nil IsFunction
each_is n (suc k) small = All-push IsFunction (pieces_of n k) (piece_of n k) (each_is n k (omega arith)) (piece_is n k (omega arith))

is_split : (n : ℕ) → n ≤ 2000 → IsSplit (4 * n + 1) (instrs_of n) (pieces_of n n)
is_split n small =
    record {
      pieces = subst (λ ps. AreFrom 0 ps (instrs_of n)) (append-nil (pieces_of n n)) (pieces_from n n [] (instr 3 [] ∷ []) refl);
      each = recursion_from_All IsFunction (pieces_of n n) (each_is n n small);
      range = λ place number is. in_range n place number (all_labels n small place number is);
      once = λ place other number is also. same_place n place other number (all_labels n small place number is) (all_labels n small other number also);
    }

pub code_splits : (n : ℕ) → n ≤ 2000 → IsSplitCode (4 * n + 1) n (instrs_of n) (split_of n)
code_splits n small = record { instrs_are = refl; labels_are = refl; split = is_split n small; count_is = length_pieces n n }
