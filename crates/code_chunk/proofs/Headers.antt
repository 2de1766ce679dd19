-- The sub-header is read where it is spelled, and nowhere else.
use Rattle.std.proofs.Common.{◌≡◌, ℕ, ◌≤◌, ltb, List, ◌++◌, length, Ok, refl, sym, ap, subst, ◌∙◌, append_assoc, arith, inl, inr}
use Rattle.std.proofs.lemmas.Bool.{cases_eq, le-ltb, ltb-false, eq-eqb, ne_eqb}
use Rattle.byteorder.specs.Endian.{big_number}
use Rattle.bk_codec.specs.Reading.{◌>>=◌, bytes_at, number_at}
use Rattle.bk_codec.specs.Spelling.{IsBytes, Then, SpellsWord}
use Rattle.bk_codec.proofs.Steps.{bind_ok, ok_is, guard_ok}
use Rattle.bk_codec.proofs.Agreement.{Takes, Takes-then, Takes-weaker, bytes_agree, number_agrees}
use Rattle.code_chunk.specs.declared.refusal.CodeRefusal.{CodeRefusal}
use Rattle.code_chunk.specs.declared.refusal.CodeRefusal.TheVariants.{Header}
use Rattle.code_chunk.specs.Reading.{sized_at, of_format, header_at}

-- a sub-header behind its size
pub record IsHeader (header text : List ℕ) : Type 0 where
  pub parts : Then (SpellsWord (length header)) (λ back. back ≡ header) text
  pub least : 16 ≤ length header
  pub format : big_number 4 header ≡ 0

sized_takes : (size : ℕ) (bytes header rest : List ℕ) → IsBytes bytes → sized_at size bytes ≡ Ok (header, rest)
    → (16 ≤ size) × Takes (λ text. (text ≡ header) × (length header ≡ size)) bytes rest
sized_takes size bytes header rest fits e =
    let g = guard_ok (ltb size 16) Header (bytes_at Header size bytes) (header, rest) e in
    (ltb-false _ _ g.0, (bytes_agree Header size).takes bytes header rest fits g.1)

pub of_format_ok : (header bytes h rest : List ℕ) → of_format header bytes ≡ Ok (h, rest) → (big_number 4 header ≡ 0) × (header ≡ h) × (bytes ≡ rest)
of_format_ok header bytes h rest e =
    elim (cases_eq (big_number 4 header) 0) [
      | inl zero_is ↦
          let same = ok_is {E = CodeRefusal} (header, bytes) (h, rest) (rw (eq-eqb _ _ zero_is) at e) in
          (zero_is, ap (λ (q : List ℕ × List ℕ). q.0) same, ap (λ (q : List ℕ × List ℕ). q.1) same)
      | inr other ↦ let none = rw (ne_eqb _ _ other) at e in absurd cc
    ]

is_header : (size : ℕ) (header text : List ℕ) → 16 ≤ size → big_number 4 header ≡ 0 → Then (SpellsWord size) (λ back. (back ≡ header) × (length header ≡ size)) text → IsHeader header text
is_header size header text least format parts =
    let len = parts.back_is.1 in
    record {
      parts = record { front = parts.front; back = parts.back; front_is = subst (λ (n : ℕ). SpellsWord n parts.front) (sym len) parts.front_is; back_is = parts.back_is.0; joined = parts.joined };
      least = omega arith;
      format = format;
    }

pub header_takes : (bytes header rest : List ℕ) → IsBytes bytes → header_at bytes ≡ Ok (header, rest) → Takes (IsHeader header) bytes rest
unfolding header_at
header_takes bytes header rest fits e =
    let size = bind_ok (number_at Header 4 bytes) (λ (size : ℕ × List ℕ). sized_at size.0 size.1 >>= λ h. of_format h.0 h.1) (header, rest) e in
    let h = bind_ok (sized_at size.0.0 size.0.1) (λ (h : List ℕ × List ℕ). of_format h.0 h.1) (header, rest) size.2 in
    let format = of_format_ok h.0.0 h.0.1 header rest h.2 in
    let word = (number_agrees Header 4).takes bytes size.0.0 size.0.1 fits size.1 in
    let back = sized_takes size.0.0 size.0.1 h.0.0 h.0.1 word.fits h.1 in
    let whole : Takes (IsHeader h.0.0) bytes h.0.1 = Takes-weaker (λ text parts. is_header size.0.0 h.0.0 text back.0 format.0 parts) (Takes-then word back.1) in
    subst (λ (left : List ℕ). Takes (IsHeader header) bytes left) format.2 (subst (λ (k : List ℕ). Takes (IsHeader k) bytes h.0.1) format.1 whole)

pub header_again : (header text rest : List ℕ) → IsHeader header text → header_at (text ++ rest) ≡ Ok (header, rest)
unfolding header_at
header_again header text rest is =
    let whole : text ++ rest ≡ is.parts.front ++ (header ++ rest) =
    ap (λ (t : List ℕ). t ++ rest) is.parts.joined ∙ append_assoc is.parts.front is.parts.back rest ∙ ap (λ (t : List ℕ). is.parts.front ++ (t ++ rest)) is.parts.back_is in
    let word : number_at Header 4 (is.parts.front ++ (header ++ rest)) ≡ Ok (length header, header ++ rest) = (number_agrees Header 4).again (length header) is.parts.front (header ++ rest) is.parts.front_is in
    let back : bytes_at Header (length header) (header ++ rest) ≡ Ok (header, rest) = (bytes_agree Header (length header)).again header header rest (refl, refl) in
    rw (whole, word, le-ltb _ _ is.least, back, eq-eqb _ _ is.format) refl
