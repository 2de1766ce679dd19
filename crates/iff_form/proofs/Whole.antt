-- A whole form: what is read is one, and each one is read.
use Rattle.std.proofs.Common.{◌≡◌, ◌⊎◌, ℕ, ◌+◌, ◌-◌, ◌^◌, ◌<◌, ◌≤◌, Bool, true, false, cond, not, ◌&&◌, List, [], ◌∷◌, ◌++◌, length, take, drop, Result, Ok, Err, refl, sym, ap, subst, ◌∙◌, append_assoc, arith, inl, inr}
use Rattle.std.proofs.lemmas.Bool.Decides.{Decides-and, Decides-eqb, Decides-like, Decides-ltb}
use Rattle.std.proofs.lemmas.Slice.Eq.{bytes_eq-Decides}
use Rattle.std.proofs.lemmas.List.{length-drop, drop-drop, take-append-drop}
use Rattle.std.specs.Bool.{Decides}
use Rattle.std.specs.Prelude.{codes, nat_eq, nat_le, ◌==◌}
use Rattle.std.specs.List.{starts_with, IsDistinct}
use Rattle.std.specs.Str.{bytes_eq}
use Rattle.byteorder.specs.Endian.{big_bytes}
use Rattle.byteorder.specs.Numbers.{big_from-lt, big_number-reads_back}
use Rattle.bk_codec.specs.Reading.{GivesAll}
use Rattle.bk_codec.specs.Spelling.{IsBytes, SpellsMany}
use Rattle.bk_codec.proofs.Steps.{guard_ok, ok_is, bind_at_ok}
use Rattle.bk_codec.proofs.Numbers.{big_bytes-big_number}
use Rattle.bk_codec.proofs.Agreement.{IsBytes-drop}
use Rattle.iff_form.specs.declared.refusal.FormRefusal.{FormRefusal}
use Rattle.iff_form.specs.declared.refusal.FormRefusal.TheVariants.{Gzip, NotBeam, Size, NoMemory}
use Rattle.iff_form.specs.Chunk.{PlainChunk, SpellsChunk}
use Rattle.iff_form.specs.Form.{AreDistinct, IsForm, form_size, head_of}
use Rattle.iff_form.specs.Refusal.{IsMarked}
use Rattle.iff_form.specs.Reading.{is_marked, stated_size, size_of, form_of, chunks_from}
use Rattle.iff_form.proofs.Walk.{walk_takes, walk_again, length-chunks}

-- the test of the marks decides whether they stand
pub marks : (bytes : List ℕ) → Decides (is_marked bytes) (IsMarked bytes)
marks bytes =
    Decides-like (is_marked bytes) (λ p. record { long = p.0.0; first = p.0.1; second = p.1 }) (λ m. ((m.long, m.first), m.second))
    (Decides-and (nat_le 12 (length bytes) && bytes_eq (take 4 bytes) (codes "FOR1")) (bytes_eq (take 4 (drop 8 bytes)) (codes "BEAM"))
    (Decides-and (nat_le 12 (length bytes)) (bytes_eq (take 4 bytes) (codes "FOR1")) (Decides-ltb 11 (length bytes)) (bytes_eq-Decides (take 4 bytes) (codes "FOR1")))
    (bytes_eq-Decides (take 4 (drop 8 bytes)) (codes "BEAM")))

pub not_false : (b : Bool) → not b ≡ false → b ≡ true
not_false true e = refl
not_false false e = absurd cc

-- the tests before the chunks were passed
pub record Headed (bytes : List ℕ) (size : ℕ) : Type 0 where
  pub other : starts_with nat_eq bytes (31 ∷ 139 ∷ []) ≡ false
  pub marked : is_marked bytes ≡ true
  pub sized : (stated_size bytes == length bytes - 8) ≡ true
  pub is : stated_size bytes ≡ size

pub headed : (bytes : List ℕ) (size : ℕ) → size_of bytes ≡ Ok size → Headed bytes size
unfolding size_of
headed bytes size e =
    let found : ℕ = length bytes - 8 in
    let stated : ℕ = stated_size bytes in
    let sized : Result ℕ FormRefusal = cond (not (stated == found)) (Err (Size stated found)) (Ok stated) in
    let marked : Result ℕ FormRefusal = cond (not (is_marked bytes)) (Err NotBeam) sized in
    let first = guard_ok (starts_with nat_eq bytes (31 ∷ 139 ∷ [])) Gzip marked size e in
    let second = guard_ok (not (is_marked bytes)) NotBeam sized size first.1 in
    let third = guard_ok (not (stated == found)) (Size stated found) (Ok stated) size second.1 in
    record { other = first.0; marked = not_false (is_marked bytes) second.0; sized = not_false (stated == found) third.0; is = ok_is {E = FormRefusal} stated size third.1 }

-- twelve bytes, in three parts, and what is behind them
split_head : (bytes : List ℕ) → bytes ≡ (take 4 bytes ++ (take 4 (drop 4 bytes) ++ take 4 (drop 8 bytes))) ++ drop 12 bytes
split_head bytes =
    let one : take 4 bytes ++ drop 4 bytes ≡ bytes = take-append-drop 4 bytes in
    let two : take 4 (drop 4 bytes) ++ drop 8 bytes ≡ drop 4 bytes = subst (λ (r : List ℕ). take 4 (drop 4 bytes) ++ r ≡ drop 4 bytes) (drop-drop 4 4 bytes) (take-append-drop 4 (drop 4 bytes)) in
    let three : take 4 (drop 8 bytes) ++ drop 12 bytes ≡ drop 8 bytes = subst (λ (r : List ℕ). take 4 (drop 8 bytes) ++ r ≡ drop 8 bytes) (drop-drop 4 8 bytes) (take-append-drop 4 (drop 8 bytes)) in
    sym one ∙ ap (λ (r : List ℕ). take 4 bytes ++ r) (sym two ∙ ap (λ (r : List ℕ). take 4 (drop 4 bytes) ++ r) (sym three)) ∙ simp append_assoc

head_is : (a b c body : List ℕ) (size : ℕ) → a ≡ codes "FOR1" → b ≡ big_bytes 4 size → c ≡ codes "BEAM" → (a ++ (b ++ c)) ++ body ≡ head_of size ++ body
head_is a b c body size a_is b_is c_is = ap (λ (h : List ℕ). h ++ body) (ap (λ (x : List ℕ). x ++ (b ++ c)) a_is ∙ ap (λ (x : List ℕ). codes "FOR1" ++ (x ++ c)) b_is ∙ ap (λ (x : List ℕ). codes "FOR1" ++ (big_bytes 4 size ++ x)) c_is)

pub IsDistinct-none : AreDistinct []
unfolding IsDistinct
IsDistinct-none = tt

-- a form, and what its size word is
pub record Read (chunks : List PlainChunk) (bytes : List ℕ) (size : ℕ) : Type 0 where
  pub form : IsForm chunks bytes
  pub size_is : size ≡ form_size chunks

pub form_takes : (bytes : List ℕ) (size : ℕ) (chunks : List PlainChunk) → IsBytes bytes → size_of bytes ≡ Ok size
    → chunks_from (length bytes) (length bytes) [] (drop 12 bytes) ≡ Ok chunks → Read chunks bytes size
form_takes bytes size chunks fits e walk =
    let h = headed bytes size e in
    let marked : IsMarked bytes = (marks bytes).0 h.marked in
    let body : List ℕ = drop 12 bytes in
    let stated : ℕ = stated_size bytes in
    let long : 12 ≤ length bytes = marked.long in
    let found : stated ≡ length bytes - 8 = (Decides-eqb stated (length bytes - 8)).0 h.sized in
    let body_len : length body ≡ length bytes - 12 = length-drop 12 bytes in
    let word : stated ≡ 4 + length body = omega (arith, found, body_len, long) in
    let walked = walk_takes (length bytes) (length bytes) [] body chunks (omega (arith, body_len)) (IsBytes-drop 12 bytes fits) IsDistinct-none walk in
    let spelled : SpellsMany SpellsChunk chunks body = subst (λ (cs : List PlainChunk). SpellsMany SpellsChunk cs body) (sym walked.is) walked.spelled in
    let size_bytes : big_bytes 4 stated ≡ take 4 (drop 4 bytes) = big_bytes-big_number 4 (drop 4 bytes) (omega (arith, long, length-drop 4 bytes)) (IsBytes-drop 4 bytes fits) in
    let below : stated < 256 ^ 4 = big_from-lt 0 4 (drop 4 bytes) (IsBytes-drop 4 bytes fits) in
    record {
      form = record {
        body = body;
        spelled = spelled;
        distinct = walked.distinct;
        fits = omega (arith, word, below);
        joined = split_head bytes ∙ head_is (take 4 bytes) (take 4 (drop 4 bytes)) (take 4 (drop 8 bytes)) body (4 + length body) marked.first (sym size_bytes ∙ ap (big_bytes 4) word) marked.second;
      };
      size_is = sym h.is ∙ word ∙ ap (λ (n : ℕ). 4 + n) (length-chunks chunks body spelled);
    }

form_of_parts : (chunks : List PlainChunk) (body : List ℕ) → 4 + length body < 2 ^ 32 → SpellsMany SpellsChunk chunks body → AreDistinct chunks → form_of (head_of (4 + length body) ++ body) ≡ Ok chunks
unfolding form_of size_of
form_of_parts chunks body fits spelled distinct =
    let size : ℕ = 4 + length body in
    let bytes : List ℕ = head_of size ++ body in
    let stated : stated_size bytes ≡ size = big_number-reads_back 4 size (codes "BEAM" ++ body) (omega (arith, fits)) in
    let sized : (stated_size bytes == length bytes - 8) ≡ true = (Decides-eqb (stated_size bytes) (length bytes - 8)).1 (omega (arith, stated)) in
    let marked : is_marked bytes ≡ true = (marks bytes).1 (record { long = omega arith; first = refl; second = refl }) in
    let walked : chunks_from (length bytes) (length bytes) [] body ≡ Ok chunks = walk_again (length bytes) (length bytes) [] chunks body (omega arith) spelled distinct in
    let head : size_of bytes ≡ Ok (stated_size bytes) =
    ap (λ (m : Bool). cond (not m) (Err NotBeam) (cond (not (stated_size bytes == length bytes - 8)) (Err (Size (stated_size bytes) (length bytes - 8))) (Ok (stated_size bytes)))) marked
    ∙ ap (λ (m : Bool). cond (not m) (Err (Size (stated_size bytes) (length bytes - 8))) (Ok (stated_size bytes))) sized in
    bind_at_ok (size_of bytes) (λ _. chunks_from (length bytes) (length bytes) [] body) (stated_size bytes) head ∙ walked

pub form_again : (chunks : List PlainChunk) (bytes : List ℕ) → IsForm chunks bytes → form_of bytes ≡ Ok chunks
form_again chunks bytes is = ap form_of is.joined ∙ form_of_parts chunks is.body is.fits is.spelled is.distinct

not_both : (r : Result (List PlainChunk) FormRefusal) (chunks : List PlainChunk) (e : FormRefusal) → r ≡ Ok chunks → r ≡ Err e → ⊥
not_both (Ok cs) chunks e p q = cc
not_both (Err d) chunks e p q = cc

-- what the reading gives for a form, want of memory aside
pub only_form : (bytes : List ℕ) (result : Result (List PlainChunk) FormRefusal) → GivesAll NoMemory (λ cs. cs) result (form_of bytes) → (chunks : List PlainChunk) → IsForm chunks bytes
    → (result ≡ Ok chunks) ⊎ (result ≡ Err NoMemory)
only_form bytes (Ok cs) gives chunks is = inl (sym (sym (form_again chunks bytes is) ∙ gives))
only_form bytes (Err e) (inl none) chunks is = inr (ap (λ (x : FormRefusal). Err x) none)
only_form bytes (Err e) (inr read) chunks is = absurd (not_both (form_of bytes) chunks e (form_again chunks bytes is) read)
