-- What is put while it is read.
use Rattle.std.proofs.Common.{false, ◌≡◌, ℕ, suc, ◌+◌, ◌-◌, ◌<◌, ◌≤◌, Bool, List, [], ◌∷◌, ◌++◌, length, map, Result, Option, Some, Ok, Err, refl, sym, ap, ◌∙◌, append_assoc, arith, inl, inr}
use Rattle.std.proofs.lemmas.List.{append-nil}
use Rattle.std.proofs.lemmas.List.Folds.{flat_map-map}
use Rattle.std.specs.Prelude.{codes, slice_get}
use Rattle.std.specs.List.{flat_map}
use Rattle.std.specs.Option.{option_map}
use Rattle.bk_codec.specs.Reading.{◌>>=◌, giving, made_of, many_at, Fails}
use Rattle.bk_codec.proofs.Steps.{made_ok, made_err}
use Rattle.compact_term.specs.declared.operand.Operand.{Operand}
use Rattle.op_table.specs.declared.row.OpRow.{OpRow}
use Rattle.op_table.specs.Instruction.{Instruction}
use Rattle.op_table.specs.Table.{Row, arity_of, roles_in, row_name, row_of, row_with}
use Rattle.code_chunk.specs.declared.code.CodeVal.{CodeVal}
use Rattle.code_chunk.specs.declared.refusal.CodeRefusal.{CodeRefusal}
use Rattle.code_chunk.specs.declared.refusal.CodeRefusal.TheVariants.{NoMemory}
use Rattle.code_chunk.specs.Reading.{before, code_at, code_of, header_at, instr_with, instrs_at, operand_in}
use Rattle.listing_out.specs.declared.names.Names.{Names}
use Rattle.listing_out.specs.Comments.{any_behind, commented_instruction, is_import, is_import_place, items_from, items_text, operand_items}
use Rattle.listing_out.specs.Lines.{code_line, text_of}
use Rattle.listing_out.specs.Reading.{behind, code_behind, instrs_behind, line_of, operand_put, operands_behind}
use Rattle.listing_out.proofs.Items.{text_joined}

-- a part is put behind what was put before
pub put_behind : (start front part old new : List ℕ) → old ≡ start ++ front → new ≡ old ++ part → new ≡ start ++ (front ++ part)
put_behind start front part old new before put = put ∙ ap (λ (t : List ℕ). t ++ part) before ∙ append_assoc start front part

-- a refusal stays where something else is made of what is read
pub refused_too : {A B C E : Type 0} (memory : E) (f : A → B) (g : A → C) (read : Result (A × List ℕ) E) (e : E) → Fails memory e (made_of f read) → Fails memory e (made_of g read)
refused_too memory f g read e (inl none) = inl none
refused_too memory f g read e (inr refused) = inr (ap (made_of g) (made_err f read e refused))

-- ---- operands

next_behind : (names : Names) (op place : ℕ) (any some : Bool) (out comment new noted : List ℕ) (o : Operand)
    → new ≡ out ++ operand_put o → noted ≡ comment ++ items_text any (operand_items names (is_import_place op place) o)
    → some ≡ any_behind any (operand_items names (is_import_place op place) o) → (read : Result (List Operand × List ℕ) CodeRefusal)
    → operands_behind names op (place + 1) some new noted read ≡ operands_behind names op place any out comment (made_of (λ os. o ∷ os) read)
next_behind names op place any some out comment new noted o put items is (Err e) = refl
next_behind names op place any some out comment new noted o put items is (Ok x) =
    let here : List (List ℕ) = operand_items names (is_import_place op place) o in
    let others : List (List ℕ) = items_from names op (place + 1) x.0 in
    let line : new ++ flat_map operand_put x.0 ≡ out ++ (operand_put o ++ flat_map operand_put x.0) =
    ap (λ (t : List ℕ). t ++ flat_map operand_put x.0) put ∙ append_assoc out (operand_put o) (flat_map operand_put x.0) in
    let notes : noted ++ items_text some others ≡ comment ++ items_text any (here ++ others) =
    ap (λ (t : List ℕ). t ++ items_text some others) items
    ∙ append_assoc comment (items_text any here) (items_text some others)
    ∙ ap (λ (b : Bool). comment ++ (items_text any here ++ items_text b others)) is
    ∙ ap (λ (t : List ℕ). comment ++ t) (sym (text_joined any here others)) in
    rw (line, notes) refl

pub one_more : (names : Names) (op place : ℕ) (any some : Bool) (out comment new noted : List ℕ) (o : Operand) (one : List ℕ → Result (Operand × List ℕ) CodeRefusal) (n : ℕ) (bytes rest : List ℕ)
    (whole : Result ((List ℕ × List ℕ) × List ℕ) CodeRefusal)
    → place < n → one bytes ≡ Ok (o, rest) → new ≡ out ++ operand_put o → noted ≡ comment ++ items_text any (operand_items names (is_import_place op place) o)
    → some ≡ any_behind any (operand_items names (is_import_place op place) o)
    → operands_behind names op place any out comment (many_at one (n - place) bytes) ≡ whole
    → operands_behind names op (place + 1) some new noted (many_at one (n - (place + 1)) rest) ≡ whole
one_more names op place any some out comment new noted o one n bytes rest whole below read put items is so_far =
    let count : n - place ≡ suc (n - (place + 1)) = omega arith in
    let step : many_at one (n - place) bytes ≡ made_of (λ os. o ∷ os) (many_at one (n - (place + 1)) rest) = rw (count, read) refl in
    next_behind names op place any some out comment new noted o put items is (many_at one (n - (place + 1)) rest) ∙ ap (operands_behind names op place any out comment) (sym step) ∙ so_far

pub one_refused : (names : Names) (op place : ℕ) (any : Bool) (out comment : List ℕ) (one : List ℕ → Result (Operand × List ℕ) CodeRefusal) (n : ℕ) (bytes : List ℕ) (e : CodeRefusal)
    (whole : Result ((List ℕ × List ℕ) × List ℕ) CodeRefusal)
    → place < n → Fails NoMemory e (one bytes) → operands_behind names op place any out comment (many_at one (n - place) bytes) ≡ whole → Fails NoMemory e whole
one_refused names op place any out comment one n bytes e whole below (inl none) so_far = inl none
one_refused names op place any out comment one n bytes e whole below (inr read) so_far =
    let count : n - place ≡ suc (n - (place + 1)) = omega arith in
    let step : many_at one (n - place) bytes ≡ Err e = rw (count, read) refl in
    inr (sym so_far ∙ ap (operands_behind names op place any out comment) step)

pub all_read : (names : Names) (op place : ℕ) (any : Bool) (out comment : List ℕ) (one : List ℕ → Result (Operand × List ℕ) CodeRefusal) (n : ℕ) (bytes : List ℕ)
    (whole : Result ((List ℕ × List ℕ) × List ℕ) CodeRefusal)
    → n ≤ place → operands_behind names op place any out comment (many_at one (n - place) bytes) ≡ whole → whole ≡ giving (out, comment) bytes
all_read names op place any out comment one n bytes whole end so_far =
    let count : n - place ≡ 0 = omega arith in
    let step : many_at one (n - place) bytes ≡ giving [] bytes = rw count refl in
    sym so_far ∙ ap (operands_behind names op place any out comment) step
    ∙ ap (λ (t : List ℕ). giving (t, comment ++ []) bytes) (append-nil out) ∙ ap (λ (t : List ℕ). giving (out, t) bytes) (append-nil comment)

-- whether an import is expected, by the row
pub place_is : (row : OpRow) (place at : ℕ) (b : Bool) → row_with row.op ≡ Some (row_of row) → at ≡ place → b ≡ is_import (slice_get row.roles.now at) → b ≡ is_import_place row.op place
place_is row place at b found same is =
    is ∙ ap (λ (n : ℕ). is_import (slice_get row.roles.now n)) same ∙ sym (ap (λ (r : Option Row). is_import (slice_get (roles_in r) place)) found)

-- ---- instructions

-- the instruction of a row is that of its operands
pub row_instr : (size : ℕ) (row : OpRow) (bytes : List ℕ) → row_with row.op ≡ Some (row_of row)
    → instr_with size row.op (arity_of row.op) bytes ≡ made_of (λ operands. record { op = row.op; operands = operands }) (many_at (operand_in size) row.arity bytes)
row_instr size row bytes found = ap (λ (r : Option Row). instr_with size row.op (option_map (λ r. r.arity) r) bytes) found

-- a line whose operands and comment were put
pub line_read : (names : Names) (size : ℕ) (row : OpRow) (bytes rest start front out comment line : List ℕ) → row_with row.op ≡ Some (row_of row)
    → front ≡ start ++ (codes "  " ++ row.name.now)
    → operands_behind names row.op 0 false front [] (many_at (operand_in size) row.arity bytes) ≡ giving (out, comment) rest
    → line ≡ (out ++ comment) ++ codes "\n"
    → made_of (λ i. start ++ line_of names i) (instr_with size row.op (arity_of row.op) bytes) ≡ giving line rest
line_read names size row bytes rest start front out comment line found first read whole =
    let made = made_ok (λ (os : List Operand). (front ++ flat_map operand_put os, items_text false (items_from names row.op 0 os))) (many_at (operand_in size) row.arity bytes) (out, comment) rest read in
    let name : row_name (row_with row.op) ≡ row.name.now = ap row_name found in
    let head = codes "  " ++ row.name.now in
    let texts = flat_map operand_put made.0 in
    let notes = items_text false (items_from names row.op 0 made.0) in
    let operands : out ≡ front ++ texts = sym (ap (λ (p : List ℕ × List ℕ). p.0) made.2) in
    let noted : comment ≡ notes = sym (ap (λ (p : List ℕ × List ℕ). p.1) made.2) in
    let one = put_behind start head texts front out first operands in
    let two = put_behind start (head ++ texts) notes out (out ++ comment) one (ap (λ (t : List ℕ). out ++ t) noted) in
    let three : line ≡ start ++ (((head ++ texts) ++ notes) ++ codes "\n") = put_behind start ((head ++ texts) ++ notes) (codes "\n") (out ++ comment) line two whole in
    ap (made_of (λ i. start ++ line_of names i)) (row_instr size row bytes found ∙ ap (made_of (λ (os : List Operand). record { op = row.op; operands = os })) made.1)
    ∙ ap (λ (n : List ℕ). giving (start ++ ((((codes "  " ++ n) ++ texts) ++ notes) ++ codes "\n")) rest) name
    ∙ ap (λ (t : List ℕ). giving t rest) (sym three)

pub line_refused : (names : Names) (size : ℕ) (row : OpRow) (bytes start front : List ℕ) (e : CodeRefusal) → row_with row.op ≡ Some (row_of row)
    → Fails NoMemory e (operands_behind names row.op 0 false front [] (many_at (operand_in size) row.arity bytes))
    → Fails NoMemory e (made_of (λ i. start ++ line_of names i) (instr_with size row.op (arity_of row.op) bytes))
line_refused names size row bytes start front e found (inl none) = inl none
line_refused names size row bytes start front e found (inr refused) =
    let read = made_err (λ (os : List Operand). (front ++ flat_map operand_put os, items_text false (items_from names row.op 0 os))) (many_at (operand_in size) row.arity bytes) e refused in
    inr (ap (made_of (λ i. start ++ line_of names i)) (row_instr size row bytes found ∙ ap (made_of (λ (os : List Operand). record { op = row.op; operands = os })) read))

-- ---- the instructions of code

-- what is read of one thing stands behind what was put, and before what is read of the others
pub behind_next : {A E : Type 0} (text : A → List ℕ) (out : List ℕ) (x : A) (read : Result (List A) E) → behind text (out ++ text x) read ≡ behind text out (read >>= λ xs. Ok (x ∷ xs))
behind_next text out x (Ok xs) = ap (λ (t : List ℕ). Ok t) (append_assoc out (text x) (flat_map text xs))
behind_next text out x (Err e) = refl

abbrev Next : Type 0
Next = (size op : ℕ) (bytes rest : List ℕ) (i : Instruction) → instr_with size op (arity_of op) bytes ≡ Ok (i, rest) → instrs_at size (length (op ∷ bytes)) (op ∷ bytes) ≡ before i (instrs_at size (length rest) rest)

abbrev Refused : Type 0
Refused = (size op : ℕ) (bytes : List ℕ) (e : CodeRefusal) → instr_with size op (arity_of op) bytes ≡ Err e → instrs_at size (length (op ∷ bytes)) (op ∷ bytes) ≡ Err e

pub instr_read : Next → (names : Names) (size op : ℕ) (bytes behind_op rest out new : List ℕ) → bytes ≡ op ∷ behind_op
    → made_of (λ i. out ++ line_of names i) (instr_with size op (arity_of op) behind_op) ≡ giving new rest
    → instrs_behind names new size rest ≡ instrs_behind names out size bytes
instr_read law names size op bytes behind_op rest out new front read =
    let made = made_ok (λ i. out ++ line_of names i) (instr_with size op (arity_of op) behind_op) new rest read in
    ap (λ (t : List ℕ). instrs_behind names t size rest) (sym made.2)
    ∙ behind_next (line_of names) out made.0 (instrs_at size (length rest) rest)
    ∙ ap (behind (line_of names) out) (sym (law size op behind_op rest made.0 made.1))
    ∙ ap (instrs_behind names out size) (sym front)

pub instr_refused : Refused → (names : Names) (size op : ℕ) (bytes behind_op out : List ℕ) (e : CodeRefusal) → bytes ≡ op ∷ behind_op
    → Fails NoMemory e (made_of (λ i. out ++ line_of names i) (instr_with size op (arity_of op) behind_op))
    → Fails NoMemory e (instrs_behind names out size bytes)
instr_refused law names size op bytes behind_op out e front (inl none) = inl none
instr_refused law names size op bytes behind_op out e front (inr refused) =
    inr (ap (instrs_behind names out size) front
    ∙ ap (behind (line_of names) out) (law size op behind_op e (made_err (λ i. out ++ line_of names i) (instr_with size op (arity_of op) behind_op) e refused)))

pub instrs_put : (names : Names) (size : ℕ) (bytes out : List ℕ) → bytes ≡ [] → instrs_behind names out size bytes ≡ Ok out
unfolding instrs_at
instrs_put names size bytes out none = ap (instrs_behind names out size) none ∙ ap (λ (t : List ℕ). Ok t) (append-nil out)

-- ---- code

code_lines : (names : Names) (header out line : List ℕ) (read : Result (List Instruction) CodeRefusal) → line ≡ out ++ (code_line (code_of header []) ++ codes "\n")
    → behind (line_of names) line read ≡ ((read >>= λ is. Ok (code_of header is)) >>= λ c. Ok (out ++ text_of (code_line c ∷ map (commented_instruction names) c.instrs)))
code_lines names header out line (Err e) put = refl
code_lines names header out line (Ok is) put =
    let head = code_line (code_of header []) ++ codes "\n" in
    let lines : text_of (map (commented_instruction names) is) ≡ flat_map (line_of names) is = flat_map-map (λ (line : List ℕ). line ++ codes "\n") (commented_instruction names) is in
    ap (λ (t : List ℕ). Ok (t ++ flat_map (line_of names) is)) put
    ∙ ap (λ (t : List ℕ). Ok t) (append_assoc out head (flat_map (line_of names) is))
    ∙ ap (λ (t : List ℕ). Ok (out ++ (head ++ t))) (sym lines)

-- the code of a payload whose sub-header was read and put
pub code_read : (names : Names) (payload rest out line : List ℕ) (head : CodeVal) → made_of (λ header. code_of header []) (header_at payload) ≡ giving head rest
    → line ≡ out ++ (code_line head ++ codes "\n") → instrs_behind names line (length payload) rest ≡ code_behind names out payload
unfolding code_at
code_read names payload rest out line head read put =
    let made = made_ok (λ header. code_of header []) (header_at payload) head rest read in
    code_lines names made.0 out line (instrs_at (length payload) (length rest) rest) (put ∙ ap (λ (c : CodeVal). out ++ (code_line c ++ codes "\n")) (sym made.2))
    ∙ ap (λ (r : Result (List ℕ × List ℕ) CodeRefusal). (r >>= λ header. instrs_at (length payload) (length header.1) header.1 >>= λ is. Ok (code_of header.0 is)) >>= λ c. Ok (out ++ text_of (code_line c ∷ map (commented_instruction names) c.instrs))) (sym made.1)

pub code_refused : (names : Names) (payload out : List ℕ) (e : CodeRefusal) → Fails NoMemory e (made_of (λ header. code_of header []) (header_at payload)) → Fails NoMemory e (code_behind names out payload)
unfolding code_at
code_refused names payload out e (inl none) = inl none
code_refused names payload out e (inr refused) =
    let read = made_err (λ header. code_of header []) (header_at payload) e refused in
    inr (ap (λ (r : Result (List ℕ × List ℕ) CodeRefusal). (r >>= λ header. instrs_at (length payload) (length header.1) header.1 >>= λ is. Ok (code_of header.0 is)) >>= λ c. Ok (out ++ text_of (code_line c ∷ map (commented_instruction names) c.instrs))) read)
