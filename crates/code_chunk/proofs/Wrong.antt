-- What a refusal says of a payload.
use Rattle.std.proofs.Common.{◌≡◌, ℕ, suc, ◌+◌, ◌-◌, ◌<◌, ◌≤◌, Bool, false, true, ltb, cond, Option, Some, None, List, [], ◌∷◌, length, take, drop, Result, Ok, Err, refl, sym, ap, subst, ◌∙◌, arith, inl, inr, length-append}
use Rattle.std.proofs.lemmas.Bool.{cases_lt, cases_eq, lt-ltb, le-ltb, ltb-false, eq-eqb, ne_eqb}
use Rattle.std.proofs.lemmas.List.{take_at, drop_at, drop-drop, take-append-drop, length-drop, length-take}
use Rattle.byteorder.specs.Endian.{big_number}
use Rattle.byteorder.specs.Numbers.{big_from-take}
use Rattle.bk_codec.specs.Reading.{◌>>=◌, giving, bytes_at, number_at, many_at, whole_of}
use Rattle.bk_codec.specs.Spelling.{IsBytes, SpellsMany}
use Rattle.bk_codec.proofs.Steps.{bind_ok, bind_err, err_is, ok_is, guard_ok}
use Rattle.bk_codec.proofs.Agreement.{IsBytes-drop, IsBytes-back, IsBytes-tail}
use Rattle.bk_codec.proofs.Stops.{StopsAt, many_stops, all_stops, longest, made_err}
use Rattle.compact_term.specs.declared.operand.Operand.{Operand}
use Rattle.compact_term.specs.declared.refusal.OperandRefusal.{OperandRefusal}
use Rattle.compact_term.specs.Spelling.{Spells}
use Rattle.compact_term.specs.Reading.{operand_at}
use Rattle.compact_term.proofs.Memory.{operand_never}
use Rattle.op_table.specs.Table.{arity_of}
use Rattle.op_table.specs.Instruction.{Instruction}
use Rattle.code_chunk.specs.declared.code.CodeVal.{CodeVal}
use Rattle.code_chunk.specs.declared.refusal.CodeRefusal.{CodeRefusal}
use Rattle.code_chunk.specs.declared.refusal.CodeRefusal.TheVariants as refusals
use Rattle.code_chunk.specs.Spelling.{SpellsInstr}
use Rattle.code_chunk.specs.Reading.{located, operand_in, instr_with, instrs_at, sized_at, of_format, header_at, code_of, code_at}
use Rattle.code_chunk.specs.Stop.{IsStop, HasHeader, instrs_from, IsWrong}
use Rattle.code_chunk.proofs.Front.{instr_at, whole_is}
use Rattle.code_chunk.proofs.Headers.{of_format_ok}
use Rattle.code_chunk.proofs.Instrs.{operand_in_agrees, instr_agrees}

-- ---- the sub-header

-- a number that was read
number_ok : (n : ℕ) (bytes : List ℕ) (x : ℕ) (rest : List ℕ) → number_at refusals.Header n bytes ≡ Ok (x, rest) → (n ≤ length bytes) × (big_number n bytes ≡ x) × (drop n bytes ≡ rest)
number_ok n bytes x rest e =
    let g = guard_ok (ltb (length bytes) n) refusals.Header (giving (big_number n bytes) (drop n bytes)) (x, rest) e in
    let same = ok_is {E = CodeRefusal} (big_number n bytes, drop n bytes) (x, rest) g.1 in
    (ltb-false _ _ g.0, ap (λ (q : ℕ × List ℕ). q.0) same, ap (λ (q : ℕ × List ℕ). q.1) same)

sized_ok : (size : ℕ) (bytes header rest : List ℕ) → sized_at size bytes ≡ Ok (header, rest) → (16 ≤ size) × (size ≤ length bytes) × (take size bytes ≡ header) × (drop size bytes ≡ rest)
sized_ok size bytes header rest e =
    let g = guard_ok (ltb size 16) refusals.Header (bytes_at refusals.Header size bytes) (header, rest) e in
    let long = guard_ok (ltb (length bytes) size) refusals.Header (giving (take size bytes) (drop size bytes)) (header, rest) g.1 in
    let same = ok_is {E = CodeRefusal} (take size bytes, drop size bytes) (header, rest) long.1 in
    (ltb-false _ _ g.0, ltb-false _ _ long.0, ap (λ (q : List ℕ × List ℕ). q.0) same, ap (λ (q : List ℕ × List ℕ). q.1) same)

has_header : (bytes header : List ℕ) (size : ℕ) → 4 ≤ length bytes → big_number 4 bytes ≡ size → 16 ≤ size → size ≤ length (drop 4 bytes) → take size (drop 4 bytes) ≡ header → big_number 4 header ≡ 0 → HasHeader bytes
has_header bytes header size stated number least whole is format =
    record {
      stated = stated;
      least = omega arith;
      whole = omega (arith, length-drop 4 bytes);
      format = sym (big_from-take 0 4 size (drop 4 bytes) (omega arith)) ∙ ap (big_number 4) is ∙ format;
    }

pub header_ok : (bytes header rest : List ℕ) → header_at bytes ≡ Ok (header, rest) → HasHeader bytes × (rest ≡ drop (instrs_from bytes) bytes)
unfolding header_at
header_ok bytes header rest e =
    let size = bind_ok (number_at refusals.Header 4 bytes) (λ (size : ℕ × List ℕ). sized_at size.0 size.1 >>= λ h. of_format h.0 h.1) (header, rest) e in
    let h = bind_ok (sized_at size.0.0 size.0.1) (λ (h : List ℕ × List ℕ). of_format h.0 h.1) (header, rest) size.2 in
    let number = number_ok 4 bytes size.0.0 size.0.1 size.1 in
    let format = of_format_ok h.0.0 h.0.1 header rest h.2 in
    let sized = sized_ok size.0.0 (drop 4 bytes) h.0.0 h.0.1 (subst (λ (r : List ℕ). sized_at size.0.0 r ≡ Ok h.0) (sym number.2) h.1) in (
      has_header bytes h.0.0 size.0.0 number.0 number.1 sized.0 sized.1 sized.2 format.0,
      sym format.2 ∙ sym sized.3 ∙ drop-drop size.0.0 4 bytes ∙ ap (λ (n : ℕ). drop (4 + n) bytes) (sym number.1),
    )

-- where a sub-header stands, it is read
pub header_found : (bytes : List ℕ) → HasHeader bytes → header_at bytes ≡ Ok (take (big_number 4 bytes) (drop 4 bytes), drop (instrs_from bytes) bytes)
unfolding header_at
header_found bytes has =
    let stated = has.stated in
    let least = has.least in
    let whole = has.whole in
    let size = big_number 4 bytes in
    let enough : size ≤ length (drop 4 bytes) = omega (arith, length-drop 4 bytes) in
    let format : big_number 4 (take size (drop 4 bytes)) ≡ 0 = big_from-take 0 4 size (drop 4 bytes) (omega arith) ∙ has.format in
    rw (le-ltb _ _ has.stated, le-ltb _ _ has.least, le-ltb _ _ enough, eq-eqb _ _ format) (ap (λ (rest : List ℕ). Ok (take size (drop 4 bytes), rest)) (drop-drop size 4 bytes))

header_read : (bytes : List ℕ) → HasHeader bytes → (e : CodeRefusal) → header_at bytes ≡ Err e → ⊥
header_read bytes has e refused = let read = header_found bytes has in cc

guard_err : {A : Type 0} (b : Bool) (d e : CodeRefusal) (y : A) → cond b (Err d) (Ok y) ≡ Err e → e ≡ d
guard_err {A} true d e y h = sym (err_is {A = A} d e h)
guard_err false d e y h = absurd cc

sized_only : (size : ℕ) (bytes : List ℕ) (e : CodeRefusal) → sized_at size bytes ≡ Err e → e ≡ refusals.Header
sized_only size bytes e h =
    elim (cases_lt size 16) [
      | inl lt ↦ sym (err_is {A = List ℕ × List ℕ} refusals.Header e (rw (lt-ltb _ _ lt) at h))
      | inr le ↦ guard_err (ltb (length bytes) size) refusals.Header e (take size bytes, drop size bytes) (rw (le-ltb _ _ le) at h)
    ]

of_format_only : (header bytes : List ℕ) (e : CodeRefusal) → of_format header bytes ≡ Err e → e ≡ refusals.Header
of_format_only header bytes e h =
    elim (cases_eq (big_number 4 header) 0) [
      | inl zero_is ↦ let read = rw (eq-eqb _ _ zero_is) at h in absurd cc
      | inr other ↦ sym (err_is {A = List ℕ × List ℕ} refusals.Header e (rw (ne_eqb _ _ other) at h))
    ]

pub header_only : (bytes : List ℕ) (e : CodeRefusal) → header_at bytes ≡ Err e → e ≡ refusals.Header
unfolding header_at
header_only bytes e refused =
    elim (bind_err (number_at refusals.Header 4 bytes) (λ (size : ℕ × List ℕ). sized_at size.0 size.1 >>= λ h. of_format h.0 h.1) e refused) [
      | inl number ↦ guard_err (ltb (length bytes) 4) refusals.Header e (big_number 4 bytes, drop 4 bytes) number
      | inr size ↦ elim (bind_err (sized_at size.0.0 size.0.1) (λ (h : List ℕ × List ℕ). of_format h.0 h.1) e size.2) [
        | inl sized ↦ sized_only size.0.0 size.0.1 e sized
        | inr h ↦ of_format_only h.0.0 h.0.1 e h.2
      ]
    ]

-- ---- the instructions

stop_is : (size : ℕ) (bytes : List ℕ) (e : CodeRefusal) → (s : StopsAt (instr_at size) SpellsInstr bytes e) → IsStop (length s.text) bytes
stop_is size bytes e s =
    let lengths : length bytes ≡ length s.text + length s.rest = ap length s.joined ∙ length-append s.text s.rest in
    let front : take (length s.text) bytes ≡ s.text = ap (take (length s.text)) s.joined ∙ take_at s.text s.rest (length s.text) refl in
    record {
      within = omega arith;
      whole = (s.front, subst (SpellsMany SpellsInstr s.front) (sym front) s.spelt);
      longest = λ n le are.
          let long : length (take n bytes) ≡ n = omega (arith, length-take n bytes) in
          let shorter : length (take n bytes) ≤ length s.text =
          longest (instr_at size) SpellsInstr (instr_agrees size) s.front are.0 s.text s.rest (take n bytes) (drop n bytes) e s.spelt s.refused are.1 (sym s.joined ∙ sym (take-append-drop n bytes)) in
          omega arith;
    }

located_err : {X : Type 0} (at : ℕ) (r : Result X OperandRefusal) (e : CodeRefusal) → located at r ≡ Err e → (why : OperandRefusal) × (r ≡ Err why) × (refusals.Operand at why ≡ e)
located_err at (Ok x) e h = absurd cc
located_err {X} at (Err why) e h = (why, refl, err_is {A = X} (refusals.Operand at why) e h)

wrong_with : (payload : List ℕ) (stop op : ℕ) (after : List ℕ) (e : CodeRefusal) (has : Option ℕ) → HasHeader payload → IsStop stop (drop (instrs_from payload) payload)
    → op ∷ after ≡ drop (instrs_from payload + stop) payload → IsBytes after → arity_of op ≡ has → instr_with (length payload) op has after ≡ Err e → IsWrong e payload
wrong_with payload stop op after e None header is_stop left fits is refused =
    let lengths : length (op ∷ after) ≡ length (drop (instrs_from payload + stop) payload) = ap length left in
    let place : length payload - suc (length after) ≡ instrs_from payload + stop = omega (arith, length-drop (instrs_from payload + stop) payload) in
    subst (λ (d : CodeRefusal). IsWrong d payload) (err_is {A = Instruction × List ℕ} (refusals.Opcode (length payload - suc (length after)) op) e refused)
    (record { header = header; stop = stop; is_stop = is_stop; after = after; left = ap (λ (n : ℕ). drop n payload) place ∙ sym left; none = is; place = place })
wrong_with payload stop op after e (Some arity) header is_stop left fits is refused =
    let many = many_stops (operand_in (length payload)) Spells (operand_in_agrees (length payload)) arity after e fits
    (made_err (λ (operands : List Operand). let i : Instruction = record { op = op; operands = operands } in i) (many_at (operand_in (length payload)) arity after) e refused) in
    let s = many.0 in
    let why = located_err (length payload - length s.rest) (operand_at s.rest) e s.refused in
    let lengths : length (op ∷ after) ≡ length (drop (instrs_from payload + stop) payload) = ap length left in
    let inside : length after ≡ length s.text + length s.rest = ap length s.joined ∙ length-append s.text s.rest in
    let place : length payload - length s.rest ≡ instrs_from payload + stop + 1 + length s.text = omega (arith, length-drop (instrs_from payload + stop) payload) in
    subst (λ (d : CodeRefusal). IsWrong d payload) why.2 (
      record {
        header = header;
        stop = stop;
        is_stop = is_stop;
        op = op;
        arity = arity;
        has = is;
        operands = s.front;
        fewer = many.1;
        text = s.text;
        spelt = s.spelt;
        after = s.rest;
        left = sym left ∙ ap (λ (t : List ℕ). op ∷ t) s.joined;
        refused = why.1;
        place = place;
      },
      λ memory. operand_never s.rest (why.1 ∙ ap (λ (d : OperandRefusal). Err d) memory),
    )

wrong_from : (payload : List ℕ) (stop : ℕ) (left : List ℕ) (e : CodeRefusal) → HasHeader payload → IsStop stop (drop (instrs_from payload) payload)
    → left ≡ drop (instrs_from payload + stop) payload → 0 < length left → IsBytes left → instr_at (length payload) left ≡ Err e → IsWrong e payload
unfolding instr_at
wrong_from payload stop [] e header is_stop is some fits refused = absurd (omega arith)
wrong_from payload stop (op ∷ after) e header is_stop is some fits refused =
    wrong_with payload stop op after e (arity_of op) header is_stop is (IsBytes-tail op after fits) refl refused

-- ---- the payload

wrong_instrs : (payload rest : List ℕ) (e : CodeRefusal) → HasHeader payload → rest ≡ drop (instrs_from payload) payload → IsBytes rest → whole_of (instr_at (length payload)) rest ≡ Err e → IsWrong e payload
wrong_instrs payload rest e header is fits refused =
    let stops = all_stops (instr_at (length payload)) SpellsInstr (instr_agrees (length payload)) (length rest) rest e fits refused in
    let s = stops.0 in
    let left : s.rest ≡ drop (instrs_from payload + length s.text) payload =
    sym (drop_at s.text s.rest (length s.text) refl) ∙ ap (drop (length s.text)) (sym s.joined ∙ is) ∙ drop-drop (length s.text) (instrs_from payload) payload in
    wrong_from payload (length s.text) s.rest e header (subst (IsStop (length s.text)) is (stop_is (length payload) rest e s)) left stops.1
    (IsBytes-back s.text s.rest (subst IsBytes s.joined fits)) s.refused

pub code_wrong : (payload : List ℕ) (e : CodeRefusal) → IsBytes payload → code_at payload ≡ Err e → IsWrong e payload
unfolding code_at
code_wrong payload e fits refused =
    elim (bind_err (header_at payload) (λ (header : List ℕ × List ℕ). instrs_at (length payload) (length header.1) header.1 >>= λ instrs. Ok (code_of header.0 instrs)) e refused) [
      | inl no_header ↦ subst (λ (d : CodeRefusal). IsWrong d payload) (sym (header_only payload e no_header)) (λ has. header_read payload has e no_header)
      | inr header ↦
          let ok = header_ok payload header.0.0 header.0.1 header.1 in
          elim (bind_err (instrs_at (length payload) (length header.0.1) header.0.1) (λ (instrs : List Instruction). let c : Result CodeVal CodeRefusal = Ok (code_of header.0.0 instrs) in c) e header.2) [
            | inl instrs ↦ wrong_instrs payload header.0.1 e ok.0 ok.1 (subst IsBytes (sym ok.1) (IsBytes-drop (instrs_from payload) payload fits)) (sym (whole_is (length payload) header.0.1) ∙ instrs)
            | inr none ↦ let never = none.2 in absurd cc
          ]
    ]
