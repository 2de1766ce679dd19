-- Instructions are read back from their lines.
use Rattle.std.proofs.Common.{◌≡◌, ℕ, ◌<◌, ◌==◌, Bool, true, cond, List, [], ◌∷◌, ◌++◌, length, map, All, Option, Some, None, Result, Ok, Err, refl, sym, ap, subst, ◌∙◌, inl, inr, append-nil, append_assoc, eqb-true, eq-eqb}
use Rattle.std.specs.Prelude.{codes}
use Rattle.std.specs.List.{flat_map, join_with_byte, list_all}
use Rattle.std.specs.Option.{option_map}
use Rattle.std.proofs.lemmas.List.Elements.{All-head, All-tail, All-weaker}
use Rattle.std.proofs.lemmas.List.Folds.{flat_map-map}
use Rattle.bk_codec.proofs.Steps.{chosen, ok_is}
use Rattle.bk_parse.specs.Inverse.{Inverts}
use Rattle.bk_parse.specs.Parts.{Lacks, all_of, parts_at}
use Rattle.bk_parse.proofs.Options.{map_some}
use Rattle.bk_parse.proofs.Passing.{lacks_from}
use Rattle.bk_parse.proofs.Splitting.{all_found, all_only, first_part, joined_parts, one_part}
use Rattle.compact_term.specs.declared.operand.Operand.{Operand}
use Rattle.op_table.specs.Table.{Row, is_name_byte, row_name, row_named, row_with}
use Rattle.op_table.specs.Instruction.{Instruction}
use Rattle.operand_text.specs.Listed.{IsListed}
use Rattle.operand_text.specs.Operand.{operand_text}
use Rattle.operand_text.specs.Reading.{operand_of}
use Rattle.operand_text.specs.Words.{is_word_byte}
use Rattle.listing_out.specs.Lines.{instruction_line}
use Rattle.listing_out.specs.Listable.{InstrIsListed}
use Rattle.listing_in.specs.declared.refusal.ListingWhy.{ListingWhy}
use Rattle.listing_in.specs.declared.refusal.ListingWhy.TheVariants as whys
use Rattle.listing_in.specs.Instruction.{instruction_in, instruction_named, instruction_of, instruction_with}
use Rattle.listing_in.proofs.LineTexts.{instruction_text}

-- ---- parts behind a separator each

-- the first part, and one for each text behind a separator
pub parts_behind : {A : Type 0} (text : A → List ℕ) (c : ℕ) (front : List ℕ) (xs : List A) → Lacks c front → All (λ x. Lacks c (text x)) xs
    → parts_at c (front ++ flat_map (λ x. (c ∷ []) ++ text x) xs) ≡ front ∷ map text xs
parts_behind text c front [] lack all = ap (parts_at c) (append-nil front) ∙ one_part c front lack
parts_behind text c front (x ∷ xs) lack all =
    first_part c front (text x ++ flat_map (λ y. (c ∷ []) ++ text y) xs) lack
    ∙ ap (λ (parts : List (List ℕ)). front ∷ parts) (parts_behind text c (text x) xs (All-head (λ y. Lacks c (text y)) x xs all) (All-tail (λ y. Lacks c (text y)) x xs all))

joined_behind : (c : ℕ) (front : List ℕ) (texts : List (List ℕ)) → join_with_byte c (front ∷ texts) ≡ front ++ flat_map (λ t. (c ∷ []) ++ t) texts
joined_behind c front [] = sym (append-nil front)
joined_behind c front (text ∷ texts) = ap (λ (t : List ℕ). front ++ (c ∷ t)) (joined_behind c text texts)

-- ---- instructions

abbrev answer : Instruction → Result Instruction ListingWhy
answer i = Ok i

-- what a line says of its instruction
pub record IsRead (name : List ℕ) (texts : List (List ℕ)) (i : Instruction) : Type 0 where
  pub row : Row
  pub named : row_named name ≡ Some row
  pub read : all_of operand_of texts ≡ Some i.operands
  pub count : length i.operands ≡ row.arity
  pub op : row.op ≡ i.op

with_found : (row : Row) (o : Option (List Operand)) (i : Instruction) → instruction_with row o ≡ answer i → (o ≡ Some i.operands) × (length i.operands ≡ row.arity) × (row.op ≡ i.op)
with_found row None i e = absurd cc
with_found row (Some operands) i e =
    elim (chosen (length operands == row.arity) (answer (record { op = row.op; operands = operands })) (Err whys.Operands) (answer i) e) [
      | inl h ↦
          let same : record { op = row.op; operands = operands } ≡ i = ok_is {E = ListingWhy} (record { op = row.op; operands = operands }) i h.1 in
          subst (λ (x : Instruction). (Some operands ≡ Some x.operands) × (length x.operands ≡ row.arity) × (row.op ≡ x.op)) same (refl, eqb-true (length operands) row.arity h.0, refl)
      | inr h ↦ absurd (let bad = h.1 in cc)
    ]

named_found : (name : List ℕ) (texts : List (List ℕ)) (o : Option Row) (i : Instruction) → row_named name ≡ o → instruction_named o texts ≡ answer i → IsRead name texts i
named_found name texts None i is e = absurd cc
named_found name texts (Some row) i is e =
    let facts = with_found row (all_of operand_of texts) i e in
    record { row = row; named = is; read = facts.0; count = facts.1; op = facts.2 }

-- the laws below: names and rows, and operands
module _ (names_find : (op : ℕ) (r : Row) → row_with op ≡ Some r → row_named r.name ≡ Some r)
    (rows_own : (op : ℕ) (r : Row) → row_with op ≡ Some r → r.op ≡ op)
    (rows_number : (name : List ℕ) (r : Row) → row_named name ≡ Some r → row_with r.op ≡ Some r)
    (rows_name : (name : List ℕ) (r : Row) → row_named name ≡ Some r → r.name ≡ name)
    (names_are : (op : ℕ) (r : Row) → row_with op ≡ Some r → (0 < length r.name) × (list_all is_name_byte r.name ≡ true))
    (operands : Inverts operand_of IsListed operand_text)
    (operand_word : (o : Operand) → IsListed o → list_all is_word_byte (operand_text o) ≡ true) where
  -- ---- what is read

  parts_found : (text : List ℕ) (parts : List (List ℕ)) (i : Instruction) → join_with_byte 32 parts ≡ text → instruction_in parts ≡ answer i → InstrIsListed i × (text ≡ instruction_text i)
  parts_found text [] i joined e = absurd cc
  parts_found text (name ∷ texts) i joined e =
      let is = named_found name texts (row_named name) i refl e in
      let numbered : row_with i.op ≡ Some is.row = ap row_with (sym is.op) ∙ rows_number name is.row is.named in
      let read = all_found operands texts i.operands is.read in
      let arity : option_map (λ (r : Row). r.arity) (row_with i.op) ≡ Some (length i.operands) = ap (option_map (λ (r : Row). r.arity)) numbered ∙ ap (λ (n : ℕ). Some n) (sym is.count) in
      let front : name ≡ row_name (row_with i.op) = sym (rows_name name is.row is.named) ∙ ap row_name (sym numbered) in
      let back : flat_map (λ t. (32 ∷ []) ++ t) texts ≡ flat_map (λ o. codes " " ++ operand_text o) i.operands =
      ap (flat_map (λ t. (32 ∷ []) ++ t)) (sym read.1) ∙ flat_map-map (λ t. (32 ∷ []) ++ t) operand_text i.operands in
      let line : text ≡ instruction_text i = sym joined ∙ joined_behind 32 name texts ∙ ap (λ (n : List ℕ). n ++ flat_map (λ t. (32 ∷ []) ++ t) texts) front ∙ ap (λ (t : List ℕ). row_name (row_with i.op) ++ t) back in
      (record { arity = arity; operands = read.0 }, line)

  pub instruction_found : (text : List ℕ) (i : Instruction) → instruction_of text ≡ Ok i → InstrIsListed i × (codes "  " ++ text ≡ instruction_line i)
  instruction_found text i e =
      let is = parts_found text (parts_at 32 text) i (joined_parts 32 text) e in
      (is.0, ap (λ (t : List ℕ). codes "  " ++ t) is.1 ∙ sym (append_assoc (codes "  ") (row_name (row_with i.op)) (flat_map (λ o. codes " " ++ operand_text o) i.operands)))

  -- ---- what is written

  operand_parts : (os : List Operand) → All IsListed os → All (λ o. Lacks 32 (operand_text o)) os
  operand_parts os all = All-weaker IsListed (λ o. Lacks 32 (operand_text o)) (λ o is. lacks_from is_word_byte 32 (operand_text o) refl (operand_word o is)) os all

  pub instruction_only : (i : Instruction) → InstrIsListed i → instruction_of (instruction_text i) ≡ Ok i
  instruction_only i is =
      let row = map_some (λ (r : Row). r.arity) (row_with i.op) (length i.operands) is.arity in
      let lack : Lacks 32 row.0.name = lacks_from is_name_byte 32 row.0.name refl (names_are i.op row.0 row.1).1 in
      let parts : parts_at 32 (instruction_text i) ≡ row.0.name ∷ map operand_text i.operands =
      ap (λ (o : Option Row). parts_at 32 (row_name o ++ flat_map (λ o. codes " " ++ operand_text o) i.operands)) row.1
      ∙ parts_behind operand_text 32 row.0.name i.operands lack (operand_parts i.operands is.operands) in
      ap instruction_in parts
      ∙ ap (λ (o : Option Row). instruction_named o (map operand_text i.operands)) (names_find i.op row.0 row.1)
      ∙ ap (instruction_with row.0) (all_only operands i.operands is.operands)
      ∙ ap (λ (b : Bool). cond b (answer (record { op = row.0.op; operands = i.operands })) (Err whys.Operands)) (eq-eqb (length i.operands) row.0.arity (sym row.2))
      ∙ ap (λ (op : ℕ). answer (record { op = op; operands = i.operands })) (rows_own i.op row.0 row.1)
