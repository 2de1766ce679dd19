-- Code is read where a payload spells it, and nowhere else.
use Rattle.std.proofs.Common.{◌≡◌, ℕ, ◌+◌, ◌≤◌, List, ◌++◌, length, take, drop, Ok, refl, sym, ap, subst, ◌∙◌, append_assoc, arith, length-append}
use Rattle.std.proofs.lemmas.List.{drop_at, drop-drop, take-append-drop, length-drop}
use Rattle.byteorder.specs.Endian.{big_number}
use Rattle.byteorder.specs.Numbers.{big_from-lt, big_number-reads_back, length-bytes_high_first}
use Rattle.bk_codec.specs.Reading.{◌>>=◌}
use Rattle.bk_codec.specs.Spelling.{IsBytes, Then, SpellsMany, SpellsWord}
use Rattle.bk_codec.proofs.Numbers.{big_bytes-big_number}
use Rattle.bk_codec.proofs.Steps.{bind_ok, bind_at_ok, ok_is}
use Rattle.bk_codec.proofs.Agreement.{IsBytes-drop, IsBytes-front, IsBytes-back}
use Rattle.op_table.specs.Instruction.{Instruction}
use Rattle.code_chunk.specs.declared.code.CodeVal.{CodeVal}
use Rattle.code_chunk.specs.declared.refusal.CodeRefusal.{CodeRefusal}
use Rattle.code_chunk.specs.Spelling.{SpellsInstr, SpellsCode}
use Rattle.code_chunk.specs.Code.{CodeMeetsType, IsProperCode}
use Rattle.code_chunk.specs.Reading.{instrs_at, header_at, code_of, code_at}
use Rattle.code_chunk.proofs.Front.{whole_is}
use Rattle.code_chunk.proofs.Instrs.{instrs_agree, instrs_meet_type, instrs_proper}
use Rattle.code_chunk.proofs.Headers.{IsHeader, header_takes, header_again}

-- ---- words

-- the first word of bytes, and what follows it
word_then : (x : ℕ) (Q : List ℕ → Type 0) (bytes after rest : List ℕ) → 4 ≤ length bytes → IsBytes bytes → x ≡ big_number 4 bytes → after ≡ drop 4 bytes → Q (after ++ rest) → Then (SpellsWord x) Q (bytes ++ rest)
word_then x Q bytes after rest long fits is left behind =
    let word : SpellsWord (big_number 4 bytes) (take 4 bytes) = record { fits = big_from-lt 0 4 bytes fits; is = sym (big_bytes-big_number 4 bytes long fits) } in
    let whole : bytes ≡ take 4 bytes ++ after = sym (take-append-drop 4 bytes) ∙ ap (λ (t : List ℕ). take 4 bytes ++ t) (sym left) in
    record {
      front = take 4 bytes;
      back = after ++ rest;
      front_is = subst (λ (n : ℕ). SpellsWord n (take 4 bytes)) (sym is) word;
      back_is = behind;
      joined = ap (λ (t : List ℕ). t ++ rest) whole ∙ append_assoc (take 4 bytes) after rest;
    }

pub word_length : (x : ℕ) (word : List ℕ) → SpellsWord x word → length word ≡ 4
word_length x word is = ap length is.is ∙ length-bytes_high_first 4 x

word_value : (x : ℕ) (word rest : List ℕ) → SpellsWord x word → big_number 4 (word ++ rest) ≡ x
word_value x word rest is = ap (λ (t : List ℕ). big_number 4 (t ++ rest)) is.is ∙ big_number-reads_back 4 x rest is.fits

word_rest : (x : ℕ) (word rest : List ℕ) → SpellsWord x word → drop 4 (word ++ rest) ≡ rest
word_rest x word rest is = drop_at word rest 4 (word_length x word is)

-- ---- what is read is spelled

spell_code : (header text rest : List ℕ) (instrs : List Instruction) → IsBytes header → IsHeader header text → SpellsMany SpellsInstr instrs rest → SpellsCode (code_of header instrs) (text ++ rest)
spell_code header text rest instrs fits is spelt =
    let least = is.least in
    let c = code_of header instrs in
    let Q5 = Then (λ extra. extra ≡ c.extra) (SpellsMany SpellsInstr instrs) in
    let Q4 = Then (SpellsWord c.functions) Q5 in
    let Q3 = Then (SpellsWord c.labels) Q4 in
    let Q2 = Then (SpellsWord c.max_op) Q3 in
    let extra : Q5 (drop 16 header ++ rest) = record { front = drop 16 header; back = rest; front_is = refl; back_is = spelt; joined = refl } in
    let functions : Q4 (drop 12 header ++ rest) = word_then c.functions Q5 (drop 12 header) (drop 16 header) rest (omega (arith, length-drop 12 header)) (IsBytes-drop 12 header fits) refl (sym (drop-drop 4 12 header)) extra in
    let labels : Q3 (drop 8 header ++ rest) = word_then c.labels Q4 (drop 8 header) (drop 12 header) rest (omega (arith, length-drop 8 header)) (IsBytes-drop 8 header fits) refl (sym (drop-drop 4 8 header)) functions in
    let max_op : Q2 (drop 4 header ++ rest) = word_then c.max_op Q3 (drop 4 header) (drop 8 header) rest (omega (arith, length-drop 4 header)) (IsBytes-drop 4 header fits) refl (sym (drop-drop 4 4 header)) labels in
    let format : Then (SpellsWord 0) Q2 (header ++ rest) = word_then 0 Q2 header (drop 4 header) rest (omega arith) fits (sym is.format) refl max_op in
    let size : length header ≡ 16 + length (drop 16 header) = omega (arith, length-drop 16 header) in
    record {
      front = is.parts.front;
      back = header ++ rest;
      front_is = subst (λ (n : ℕ). SpellsWord n is.parts.front) size is.parts.front_is;
      back_is = format;
      joined = ap (λ (t : List ℕ). t ++ rest) is.parts.joined ∙ append_assoc is.parts.front is.parts.back rest ∙ ap (λ (t : List ℕ). is.parts.front ++ (t ++ rest)) is.parts.back_is;
    }

pub code_takes : (bytes : List ℕ) (c : CodeVal) → IsBytes bytes → code_at bytes ≡ Ok c → SpellsCode c bytes
unfolding code_at
code_takes bytes c fits e =
    let header = bind_ok (header_at bytes) (λ (header : List ℕ × List ℕ). instrs_at (length bytes) (length header.1) header.1 >>= λ instrs. Ok (code_of header.0 instrs)) c e in
    let instrs = bind_ok (instrs_at (length bytes) (length header.0.1) header.0.1) (λ (instrs : List Instruction). Ok (code_of header.0.0 instrs)) c header.2 in
    let took = header_takes bytes header.0.0 header.0.1 fits header.1 in
    let spelt = (instrs_agree (length bytes)).takes header.0.1 instrs.0 took.fits (sym (whole_is (length bytes) header.0.1) ∙ instrs.1) in
    let text : IsBytes took.text = IsBytes-front took.text header.0.1 (subst IsBytes took.joined fits) in
    let back : IsBytes took.is.parts.back = IsBytes-back took.is.parts.front took.is.parts.back (subst IsBytes took.is.parts.joined text) in
    let whole = spell_code header.0.0 took.text header.0.1 instrs.0 (subst IsBytes took.is.parts.back_is back) took.is spelt in
    subst (λ (d : CodeVal). SpellsCode d bytes) (ok_is {E = CodeRefusal} (code_of header.0.0 instrs.0) c instrs.2) (subst (SpellsCode (code_of header.0.0 instrs.0)) (sym took.joined) whole)

-- ---- what is spelled is read

-- the bytes of a sub-header with these words
pub record Spelt (c : CodeVal) (bytes : List ℕ) : Type 0 where
  pub word : List ℕ
  pub header : List ℕ
  pub code : List ℕ
  pub is_header : IsHeader header (word ++ header)
  pub same : code_of header c.instrs ≡ c
  pub instrs : SpellsMany SpellsInstr c.instrs code
  pub joined : bytes ≡ (word ++ header) ++ code

code_same : (header : List ℕ) (c : CodeVal) → drop 16 header ≡ c.extra → big_number 4 (drop 4 header) ≡ c.max_op → big_number 4 (drop 8 header) ≡ c.labels → big_number 4 (drop 12 header) ≡ c.functions
    → code_of header c.instrs ≡ c
code_same header c extra max_op labels functions =
    let made = λ (e : List ℕ) (m l f : ℕ). let d : CodeVal = record { extra = e; max_op = m; labels = l; functions = f; instrs = c.instrs } in d in
    ap (λ (e : List ℕ). made e (big_number 4 (drop 4 header)) (big_number 4 (drop 8 header)) (big_number 4 (drop 12 header))) extra
    ∙ ap (λ (m : ℕ). made c.extra m (big_number 4 (drop 8 header)) (big_number 4 (drop 12 header))) max_op
    ∙ ap (λ (l : ℕ). made c.extra c.max_op l (big_number 4 (drop 12 header))) labels
    ∙ ap (λ (f : ℕ). made c.extra c.max_op c.labels f) functions

regrouped : (a b c d extra code : List ℕ) → a ++ (b ++ (c ++ (d ++ (extra ++ code)))) ≡ (a ++ (b ++ (c ++ (d ++ extra)))) ++ code
regrouped a b c d extra code = sym (simp append_assoc)

spelt_code : (c : CodeVal) (bytes : List ℕ) → SpellsCode c bytes → Spelt c bytes
spelt_code c bytes is =
    let format = is.back_is in
    let max_op = format.back_is in
    let labels = max_op.back_is in
    let functions = labels.back_is in
    let extra = functions.back_is in
    let behind12 = functions.front ++ c.extra in
    let behind8 = labels.front ++ behind12 in
    let behind4 = max_op.front ++ behind8 in
    let header = format.front ++ behind4 in
    let drop4 : drop 4 header ≡ behind4 = word_rest 0 format.front behind4 format.front_is in
    let drop8 : drop 8 header ≡ behind8 = sym (drop-drop 4 4 header) ∙ ap (drop 4) drop4 ∙ word_rest c.max_op max_op.front behind8 max_op.front_is in
    let drop12 : drop 12 header ≡ behind12 = sym (drop-drop 4 8 header) ∙ ap (drop 4) drop8 ∙ word_rest c.labels labels.front behind12 labels.front_is in
    let drop16 : drop 16 header ≡ c.extra = sym (drop-drop 4 12 header) ∙ ap (drop 4) drop12 ∙ word_rest c.functions functions.front c.extra functions.front_is in
    let max_op_is : big_number 4 (drop 4 header) ≡ c.max_op = ap (big_number 4) drop4 ∙ word_value c.max_op max_op.front behind8 max_op.front_is in
    let labels_is : big_number 4 (drop 8 header) ≡ c.labels = ap (big_number 4) drop8 ∙ word_value c.labels labels.front behind12 labels.front_is in
    let functions_is : big_number 4 (drop 12 header) ≡ c.functions = ap (big_number 4) drop12 ∙ word_value c.functions functions.front c.extra functions.front_is in
    let size : length header ≡ 16 + length c.extra =
    omega (
      arith,
      length-append format.front behind4,
      length-append max_op.front behind8,
      length-append labels.front behind12,
      length-append functions.front c.extra,
      word_length 0 format.front format.front_is,
      word_length c.max_op max_op.front max_op.front_is,
      word_length c.labels labels.front labels.front_is,
      word_length c.functions functions.front functions.front_is,
    ) in
    let left : is.back ≡ header ++ extra.back =
    format.joined ∙ ap (λ (t : List ℕ). format.front ++ t)
    (max_op.joined ∙ ap (λ (t : List ℕ). max_op.front ++ t)
    (labels.joined ∙ ap (λ (t : List ℕ). labels.front ++ t)
    (functions.joined ∙ ap (λ (t : List ℕ). functions.front ++ t)
    (extra.joined ∙ ap (λ (t : List ℕ). t ++ extra.back) extra.front_is))))
    ∙ regrouped format.front max_op.front labels.front functions.front c.extra extra.back in
    record {
      word = is.front;
      header = header;
      code = extra.back;
      is_header = record {
        parts = record { front = is.front; back = header; front_is = subst (λ (n : ℕ). SpellsWord n is.front) (sym size) is.front_is; back_is = refl; joined = refl };
        least = omega arith;
        format = word_value 0 format.front behind4 format.front_is;
      };
      same = code_same header c drop16 max_op_is labels_is functions_is;
      instrs = extra.back_is;
      joined = is.joined ∙ ap (λ (t : List ℕ). is.front ++ t) left ∙ sym (append_assoc is.front header extra.back);
    }

pub code_again : (c : CodeVal) (bytes : List ℕ) → SpellsCode c bytes → code_at bytes ≡ Ok c
unfolding code_at
code_again c bytes is =
    let s = spelt_code c bytes is in
    let header : header_at bytes ≡ Ok (s.header, s.code) = ap header_at s.joined ∙ header_again s.header (s.word ++ s.header) s.code s.is_header in
    let instrs : instrs_at (length bytes) (length s.code) s.code ≡ Ok c.instrs = whole_is (length bytes) s.code ∙ (instrs_agree (length bytes)).again c.instrs s.code s.instrs in
    bind_at_ok (header_at bytes) (λ (h : List ℕ × List ℕ). instrs_at (length bytes) (length h.1) h.1 >>= λ is. Ok (code_of h.0 is)) (s.header, s.code) header
    ∙ bind_at_ok (instrs_at (length bytes) (length s.code) s.code) (λ (is : List Instruction). Ok (code_of s.header is)) c.instrs instrs
    ∙ ap (λ (d : CodeVal). Ok d) s.same

-- ---- what is spelled by bytes meets its type, and is proper

behind_fits : (P Q : List ℕ → Type 0) (text : List ℕ) (parts : Then P Q text) → IsBytes text → IsBytes parts.back
behind_fits P Q text parts fits = IsBytes-back parts.front parts.back (subst IsBytes parts.joined fits)

-- the bytes of the extra bytes and the instructions, which stand behind five words
behind_words : {P Q R S T U : List ℕ → Type 0} (bytes : List ℕ) → IsBytes bytes → (is : Then P (Then Q (Then R (Then S (Then T U)))) bytes) → IsBytes is.back_is.back_is.back_is.back_is.back
behind_words bytes fits is =
    let format = is.back_is in
    let max_op = format.back_is in
    let labels = max_op.back_is in
    let functions = labels.back_is in
    behind_fits _ _ labels.back functions (behind_fits _ _ max_op.back labels (behind_fits _ _ format.back max_op (behind_fits _ _ is.back format (behind_fits _ _ bytes is fits))))

pub code_meets_type : (c : CodeVal) (bytes : List ℕ) → IsBytes bytes → SpellsCode c bytes → CodeMeetsType c
code_meets_type c bytes fits is =
    let max_op = is.back_is.back_is in
    let labels = max_op.back_is in
    let functions = labels.back_is in
    let extra = functions.back_is in
    let behind : IsBytes functions.back = behind_words bytes fits is in
    record {
      extra = subst IsBytes extra.front_is (IsBytes-front extra.front extra.back (subst IsBytes extra.joined behind));
      max_op = max_op.front_is.fits;
      labels = labels.front_is.fits;
      functions = functions.front_is.fits;
      instrs = instrs_meet_type c.instrs extra.back (behind_fits _ _ functions.back extra behind) extra.back_is;
    }

pub code_proper : (c : CodeVal) (bytes : List ℕ) → IsBytes bytes → SpellsCode c bytes → IsProperCode c
code_proper c bytes fits is =
    let functions = is.back_is.back_is.back_is.back_is in
    let extra = functions.back_is in
    record { size = is.front_is.fits; instrs = instrs_proper c.instrs extra.back (behind_fits _ _ functions.back extra (behind_words bytes fits is)) extra.back_is }
