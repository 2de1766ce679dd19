-- Generated code meets its type, is proper, and is not long.
use Rattle.std.proofs.Common.{◌≡◌, ℕ, zero, suc, ◌+◌, ◌*◌, ◌<◌, ◌≤◌, Bool, true, false, ◌==◌, ℤ, pos, List, [], ◌∷◌, length, map, All, Some, refl, sym, subst, arith, length-append}
use Rattle.std.specs.Prelude.{if◌then◌else◌}
use Rattle.std.specs.List.{AllByRecursion, flat_map}
use Rattle.std.proofs.lemmas.List.{length-map}
use Rattle.std.proofs.lemmas.List.Concat.{length-flat_map}
use Rattle.std.proofs.lemmas.List.Elements.{All-append, All-from_recursion, All-map, All-nil}
use Rattle.std.proofs.lemmas.List.Sums.{sum_by-le}
use Rattle.compact_term.specs.declared.operand.Plain.{Plain}
use Rattle.compact_term.specs.declared.operand.Plain.TheVariants.{A, F, U, X, Y}
use Rattle.compact_term.specs.declared.operand.Operand.TheVariants.{One}
use Rattle.compact_term.specs.Canonical.{canonical, canonical_number, canonical_plain}
use Rattle.compact_term.specs.Operand.{IsProper, MeetsType, PlainIsProper, PlainMeetsType}
use Rattle.compact_term.proofs.Bytes.{bytes_none}
use Rattle.op_table.specs.Instruction.{Instruction}
use Rattle.op_table.specs.Table.{arity_of, table}
use Rattle.code_chunk.specs.Canonical.{canonical_code, canonical_header, canonical_instr}
use Rattle.code_chunk.specs.Code.{CodeMeetsType, InstrMeetsType, IsProperCode, IsProperInstr}
use Rattle.module_gen.specs.Code.{callee, code_of, function_of, functions_of, instr, instrs_of}
use Rattle.module_gen.proofs.Rows.{◌&◌}
use Rattle.module_gen.proofs.Splitting.{length_functions}

-- the next function is not far behind
chosen_le : (here : Bool) (i : ℕ) → (if here then 0 else suc i) ≤ suc i
chosen_le true i = omega arith
chosen_le false i = omega arith

callee_le : (n i : ℕ) → callee n i ≤ suc i
callee_le n i = chosen_le (suc i == n) i

pub flat_le : {A : Type 0} (f : A → List ℕ) (most : ℕ) (xs : List A) → All (λ x. length (f x) ≤ most) xs → length (flat_map f xs) ≤ length xs * most
flat_le f most xs all = subst (λ n. n ≤ length xs * most) (sym (length-flat_map f xs)) (sum_by-le (λ x. length (f x)) most xs all)

module _ (short : (tag : ℕ) (z : ℤ) → length (canonical_number tag z) ≤ 18) where
  -- an operand that is a small number
  abbrev IsSmall : Plain → Type 0
  IsSmall p = PlainMeetsType p × PlainIsProper p × (length (canonical_plain p) ≤ 18)

  small_u : (m : ℕ) → m < 4294967296 → IsSmall (U m)
  small_u m below = (omega arith, tt, short 0 (pos m))

  small_a : (m : ℕ) → m < 4294967296 → IsSmall (A m)
  small_a m below = (omega arith, tt, short 2 (pos m))

  small_x : (m : ℕ) → m < 4294967296 → IsSmall (X m)
  small_x m below = (omega arith, tt, short 3 (pos m))

  small_y : (m : ℕ) → m < 4294967296 → IsSmall (Y m)
  small_y m below = (omega arith, tt, short 4 (pos m))

  small_f : (m : ℕ) → m < 4294967296 → IsSmall (F m)
  small_f m below = (omega arith, tt, short 5 (pos m))

  -- an instruction with up to three of them
  abbrev IsFine : Instruction → Type 0
  IsFine i = InstrMeetsType i × IsProperInstr i × (length (canonical_instr i) ≤ 55)

  fine : (op : ℕ) (operands : List Plain) → arity_of op ≡ Some (length (map One operands)) → length operands ≤ 3 → AllByRecursion IsSmall operands → IsFine (instr op operands)
  fine op operands arity few small =
      let all = All-from_recursion IsSmall operands small in
      let long = flat_le canonical 18 (map One operands) (All-map (λ o. length (canonical o) ≤ 18) One operands (λ k d lt. (all k d lt).2)) in
      let count = length-map operands One in (
        record { arity = arity; operands = All-map MeetsType One operands (λ k d lt. (all k d lt).0) },
        All-map IsProper One operands (λ k d lt. (all k d lt).1),
        omega arith,
      )

  function_fine : (n i : ℕ) → i < 2000 → AllByRecursion IsFine (function_of n i)
  unfolding table
  function_fine n i small =
      let next = callee_le n i in
      fine 1 (U (4 * i + 1) ∷ []) refl (omega arith) (small_u (4 * i + 1) (omega arith) & tt)
      & fine 2 (A 1 ∷ A (i + 2) ∷ U 1 ∷ []) refl (omega arith) (small_a 1 (omega arith) & small_a (i + 2) (omega arith) & small_u 1 (omega arith) & tt)
      & fine 1 (U (4 * i + 2) ∷ []) refl (omega arith) (small_u (4 * i + 2) (omega arith) & tt)
      & fine 12 (U 1 ∷ U 1 ∷ []) refl (omega arith) (small_u 1 (omega arith) & small_u 1 (omega arith) & tt)
      & fine 64 (X 0 ∷ Y 0 ∷ []) refl (omega arith) (small_x 0 (omega arith) & small_y 0 (omega arith) & tt)
      & fine 1 (U (4 * i + 3) ∷ []) refl (omega arith) (small_u (4 * i + 3) (omega arith) & tt)
      & fine 56 (F (4 * i + 4) ∷ Y 0 ∷ []) refl (omega arith) (small_f (4 * i + 4) (omega arith) & small_y 0 (omega arith) & tt)
      & fine 163 (Y 0 ∷ Y 0 ∷ []) refl (omega arith) (small_y 0 (omega arith) & small_y 0 (omega arith) & tt)
      & fine 64 (Y 0 ∷ X 0 ∷ []) refl (omega arith) (small_y 0 (omega arith) & small_x 0 (omega arith) & tt)
      & fine 4 (U 1 ∷ F (4 * callee n i + 2) ∷ []) refl (omega arith) (small_u 1 (omega arith) & small_f (4 * callee n i + 2) (omega arith) & tt)
      & fine 61 (F (4 * i + 3) ∷ []) refl (omega arith) (small_f (4 * i + 3) (omega arith) & tt)
      & fine 1 (U (4 * i + 4) ∷ []) refl (omega arith) (small_u (4 * i + 4) (omega arith) & tt)
      & fine 16 (U 2 ∷ U 0 ∷ []) refl (omega arith) (small_u 2 (omega arith) & small_u 0 (omega arith) & tt)
      & fine 69 (Y 0 ∷ A 0 ∷ X 0 ∷ []) refl (omega arith) (small_y 0 (omega arith) & small_a 0 (omega arith) & small_x 0 (omega arith) & tt)
      & fine 18 (U 1 ∷ []) refl (omega arith) (small_u 1 (omega arith) & tt)
      & fine 19 [] refl (omega arith) tt
      & tt

  functions_fine : (n k : ℕ) → k ≤ 2000 → All IsFine (functions_of n k)
  functions_fine n zero small = All-nil IsFine
  functions_fine n (suc k) small =
      All-append IsFine (functions_of n k) (function_of n k) (functions_fine n k (omega arith)) (All-from_recursion IsFine (function_of n k) (function_fine n k (omega arith)))

  instrs_fine : (n : ℕ) → n ≤ 2000 → All IsFine (instrs_of n)
  unfolding table
  instrs_fine n small = All-append IsFine (functions_of n n) (instr 3 [] ∷ []) (functions_fine n n small) (All-from_recursion IsFine (instr 3 [] ∷ []) (fine 3 [] refl (omega arith) tt & tt))

  pub code_meets : (n : ℕ) → n ≤ 2000 → CodeMeetsType (code_of n)
  code_meets n small =
      record {
        extra = bytes_none;
        max_op = omega arith;
        labels = omega arith;
        functions = omega arith;
        instrs = λ k d lt. (instrs_fine n small k d lt).0;
      }

  pub code_proper : (n : ℕ) → n ≤ 2000 → IsProperCode (code_of n)
  code_proper n small = record { size = omega arith; instrs = λ k d lt. (instrs_fine n small k d lt).1 }

  pub code_short : (n : ℕ) → n ≤ 2000 → length (canonical_code (code_of n)) ≤ 1800000
  code_short n small =
      let long = flat_le canonical_instr 55 (instrs_of n) (λ k d lt. (instrs_fine n small k d lt).2) in
      let count = length-append (functions_of n n) (instr 3 [] ∷ []) in
      omega (arith, length_functions n n, length-append (canonical_header (code_of n)) (flat_map canonical_instr (instrs_of n)))
