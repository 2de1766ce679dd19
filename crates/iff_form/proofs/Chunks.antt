-- A chunk that is read is spelled there, and a chunk that is spelled is read, whatever follows.
use Rattle.std.proofs.Common.{◌≡◌, ℕ, ◌+◌, ◌≤◌, List, ◌++◌, length, Result, Ok, refl, ap, subst, ◌∙◌, append_assoc, arith}
use Rattle.byteorder.specs.Endian.{big_bytes}
use Rattle.bk_codec.specs.Reading.{◌>>=◌, giving, bytes_at, number_at}
use Rattle.bk_codec.specs.Spelling.{IsBytes}
use Rattle.bk_codec.proofs.Steps.{bind_ok, bind_at_ok, ok_is}
use Rattle.bk_codec.proofs.Agreement.{Agrees, Takes, bytes_agree, number_agrees}
use Rattle.bk_codec.proofs.Lengths.{bytes_at-length, number_at-length}
use Rattle.iff_form.specs.declared.refusal.FormRefusal.{FormRefusal}
use Rattle.iff_form.specs.Chunk.{PlainChunk, SpellsChunk, padding_of}
use Rattle.iff_form.specs.Reading.{chunk_at}

-- the parts of the reading that are left behind the id, the size and the payload
abbrev pub chunk_of : List ℕ → List ℕ → PlainChunk
chunk_of id payload = record { id = record { 0 = id }; payload = payload }

abbrev pub behind_payload : FormRefusal → List ℕ → ℕ → List ℕ × List ℕ → Result (PlainChunk × List ℕ) FormRefusal
behind_payload cut id size p = bytes_at cut (padding_of size) p.1 >>= λ q. giving (chunk_of id p.0) q.1

abbrev pub behind_size : FormRefusal → List ℕ → ℕ × List ℕ → Result (PlainChunk × List ℕ) FormRefusal
behind_size cut id s = bytes_at cut s.0 s.1 >>= λ p. behind_payload cut id s.0 p

abbrev pub behind_id : FormRefusal → List ℕ × List ℕ → Result (PlainChunk × List ℕ) FormRefusal
behind_id cut i = number_at cut 4 i.1 >>= λ s. behind_size cut i.0 s

-- the steps of a chunk that was read
record ChunkSteps (cut : FormRefusal) (bytes : List ℕ) (c : PlainChunk) (rest : List ℕ) : Type 0 where
  id : List ℕ × List ℕ
  id_is : bytes_at cut 4 bytes ≡ Ok id
  size : ℕ × List ℕ
  size_is : number_at cut 4 id.1 ≡ Ok size
  payload : List ℕ × List ℕ
  payload_is : bytes_at cut size.0 size.1 ≡ Ok payload
  padding : List ℕ × List ℕ
  padding_is : bytes_at cut (padding_of size.0) payload.1 ≡ Ok padding
  made : giving {E = FormRefusal} (chunk_of id.0 payload.0) padding.1 ≡ giving c rest

steps_of : (cut : FormRefusal) (bytes : List ℕ) (c : PlainChunk) (rest : List ℕ) → chunk_at cut bytes ≡ Ok (c, rest) → ChunkSteps cut bytes c rest
unfolding chunk_at
steps_of cut bytes c rest e =
    let id = bind_ok (bytes_at cut 4 bytes) (behind_id cut) (c, rest) e in
    let size = bind_ok (number_at cut 4 id.0.1) (behind_size cut id.0.0) (c, rest) id.2 in
    let payload = bind_ok (bytes_at cut size.0.0 size.0.1) (behind_payload cut id.0.0 size.0.0) (c, rest) size.2 in
    let padding = bind_ok (bytes_at cut (padding_of size.0.0) payload.0.1) (λ q. giving (chunk_of id.0.0 payload.0.0) q.1) (c, rest) payload.2 in
    record {
      id = id.0;
      id_is = id.1;
      size = size.0;
      size_is = size.1;
      payload = payload.0;
      payload_is = payload.1;
      padding = padding.0;
      padding_is = padding.1;
      made = padding.2;
    }

-- a chunk takes its header at least
pub chunk_shorter : (cut : FormRefusal) (bytes : List ℕ) (c : PlainChunk) (rest : List ℕ) → chunk_at cut bytes ≡ Ok (c, rest) → length rest + 8 ≤ length bytes
chunk_shorter cut bytes c rest e =
    let s = steps_of cut bytes c rest e in
    let left : s.padding.1 ≡ rest = ap (λ (p : PlainChunk × List ℕ). p.1) (ok_is {E = FormRefusal} (chunk_of s.id.0 s.payload.0, s.padding.1) (c, rest) s.made) in
    omega (
      arith,
      ap length left,
      bytes_at-length cut 4 bytes s.id.0 s.id.1 s.id_is,
      number_at-length cut 4 s.id.1 s.size.0 s.size.1 s.size_is,
      bytes_at-length cut s.size.0 s.size.1 s.payload.0 s.payload.1 s.payload_is,
      bytes_at-length cut (padding_of s.size.0) s.payload.1 s.padding.0 s.padding.1 s.padding_is,
    )

regroup : (text a w p q rest : List ℕ) → text ≡ a ++ (w ++ (p ++ q)) → text ++ rest ≡ a ++ (w ++ (p ++ (q ++ rest)))
regroup text a w p q rest e = rw e (simp append_assoc)

-- four texts one behind the other
whole_text : (bytes a a' r w w' s p p' t q q' rest : List ℕ) → bytes ≡ a ++ r → a ≡ a' → r ≡ w ++ s → w ≡ w' → s ≡ p ++ t → p ≡ p' → t ≡ q ++ rest → q ≡ q'
    → bytes ≡ (a' ++ (w' ++ (p' ++ q'))) ++ rest
whole_text bytes a a' r w w' s p p' t q q' rest one a_is two w_is three p_is four q_is =
    one ∙ rw (two, three, four, a_is, w_is, p_is, q_is) (simp append_assoc)

chunk_takes : (cut : FormRefusal) (bytes : List ℕ) (c : PlainChunk) (rest : List ℕ) → IsBytes bytes → chunk_at cut bytes ≡ Ok (c, rest) → Takes (SpellsChunk c) bytes rest
chunk_takes cut bytes c rest fits e =
    let s = steps_of cut bytes c rest e in
    let id = (bytes_agree cut 4).takes bytes s.id.0 s.id.1 fits s.id_is in
    let size = (number_agrees cut 4).takes s.id.1 s.size.0 s.size.1 id.fits s.size_is in
    let payload = (bytes_agree cut s.size.0).takes s.size.1 s.payload.0 s.payload.1 size.fits s.payload_is in
    let padding = (bytes_agree cut (padding_of s.size.0)).takes s.payload.1 s.padding.0 s.padding.1 payload.fits s.padding_is in
    let text : List ℕ = s.id.0 ++ (big_bytes 4 s.size.0 ++ (s.payload.0 ++ s.padding.0)) in
    let len : length s.payload.0 ≡ s.size.0 = payload.is.1 in
    let spelled : SpellsChunk (chunk_of s.id.0 s.payload.0) text = record {
      padding = s.padding.0;
      id = id.is.1;
      size = omega (arith, size.is.fits);
      padded = rw len padding.is.1;
      joined = rw len refl;
    } in
    let whole : Takes (SpellsChunk (chunk_of s.id.0 s.payload.0)) bytes s.padding.1 =
    record { text = text; is = spelled; joined = whole_text bytes id.text s.id.0 s.id.1 size.text (big_bytes 4 s.size.0) s.size.1 payload.text s.payload.0 s.payload.1 padding.text s.padding.0 s.padding.1 id.joined id.is.0 size.joined size.is.is payload.joined payload.is.0 padding.joined padding.is.0; fits = padding.fits } in
    subst (λ (p : PlainChunk × List ℕ). Takes (SpellsChunk p.0) bytes p.1) (ok_is {E = FormRefusal} (chunk_of s.id.0 s.payload.0, s.padding.1) (c, rest) s.made) whole

chunk_again : (cut : FormRefusal) (c : PlainChunk) (text rest : List ℕ) → SpellsChunk c text → chunk_at cut (text ++ rest) ≡ Ok (c, rest)
unfolding chunk_at
chunk_again cut c text rest is =
    let size : ℕ = length c.payload in
    let behind_three : List ℕ = is.padding ++ rest in
    let behind_two : List ℕ = c.payload ++ behind_three in
    let behind_one : List ℕ = big_bytes 4 size ++ behind_two in
    let whole : text ++ rest ≡ c.id.0 ++ behind_one = regroup text c.id.0 (big_bytes 4 size) c.payload is.padding rest is.joined in
    let first : bytes_at cut 4 (c.id.0 ++ behind_one) ≡ Ok (c.id.0, behind_one) = (bytes_agree cut 4).again c.id.0 c.id.0 behind_one (refl, is.id) in
    let second : number_at cut 4 behind_one ≡ Ok (size, behind_two) = (number_agrees cut 4).again size (big_bytes 4 size) behind_two (record { fits = is.size; is = refl }) in
    let third : bytes_at cut size behind_two ≡ Ok (c.payload, behind_three) = (bytes_agree cut size).again c.payload c.payload behind_three (refl, refl) in
    let fourth : bytes_at cut (padding_of size) behind_three ≡ Ok (is.padding, rest) = (bytes_agree cut (padding_of size)).again is.padding is.padding rest (refl, is.padded) in
    ap (chunk_at cut) whole
    ∙ bind_at_ok (bytes_at cut 4 (c.id.0 ++ behind_one)) (behind_id cut) (c.id.0, behind_one) first
    ∙ bind_at_ok (number_at cut 4 behind_one) (behind_size cut c.id.0) (size, behind_two) second
    ∙ bind_at_ok (bytes_at cut size behind_two) (behind_payload cut c.id.0 size) (c.payload, behind_three) third
    ∙ bind_at_ok (bytes_at cut (padding_of size) behind_three) (λ q. giving (chunk_of c.id.0 c.payload) q.1) (is.padding, rest) fourth

pub chunk_agrees : (cut : FormRefusal) → Agrees (chunk_at cut) SpellsChunk
chunk_agrees cut = record { takes = chunk_takes cut; again = chunk_again cut }
