-- Integers, names, bytes and bits are read where they are spelled.
use Rattle.std.proofs.Common.{◌≡◌, ℕ, Bool, true, false, cond, ◌||◌, ◌==◌, List, [], ◌∷◌, ◌++◌, length, map, Result, Ok, Err, refl, sym, ap, subst, ◌∙◌, inl, inr}
use Rattle.std.proofs.lemmas.Bool.{eqb-true}
use Rattle.std.specs.Str.{IsUtf8, is_utf8, encode_utf8_all}
use Rattle.std.proofs.lemmas.Str.{IsUtf8-from_is_utf8, is_utf8-from_IsUtf8}
use Rattle.bk_codec.specs.Reading.{◌>>=◌, giving, made_of, byte_at, bytes_at, number_at, utf8_or}
use Rattle.bk_codec.specs.Spelling.{IsBytes, Then, SpellsNumber, SpellsBytes}
use Rattle.bk_codec.proofs.Steps.{bind_ok, chosen, ok_is}
use Rattle.bk_codec.proofs.Agreement.{Agrees, Takes, Takes-weaker, byte_agrees, bytes_agree, number_agrees}
use Rattle.ext_term.specs.declared.term.Term.{Term}
use Rattle.ext_term.specs.declared.term.Term.TheVariants as terms
use Rattle.ext_term.specs.declared.refusal.TermRefusal.{TermRefusal}
use Rattle.ext_term.specs.declared.refusal.TermRefusal.TheVariants.{Cut, AtomText, BitTail}
use Rattle.ext_term.specs.Integer.{big_of}
use Rattle.ext_term.specs.Spelling.{SpellsBig, SpellsAtom, latin_100, latin_115, utf8_118, utf8_119, byte_term}
use Rattle.ext_term.specs.Reading.{sized_at, big_at, latin_at, utf8_at, atom_at, is_atom_tag, string_at, has_bits, bits_at}
use Rattle.bk_codec.proofs.Agreeing.{Two, Made, agrees_as, agrees_two, agrees_made, agrees_test, agrees_bytes}

-- ---- tests of tags

pub last_of_four : (a b c d : Bool) → (a || b || c || d) ≡ true → a ≡ false → b ≡ false → c ≡ false → d ≡ true
last_of_four false false false d e x y z = e
last_of_four true b c d e x y z = absurd cc
last_of_four false true c d e x y z = absurd cc
last_of_four false false true d e x y z = absurd cc

pub last_of_five : (a b c d f : Bool) → (a || b || c || d || f) ≡ true → a ≡ false → b ≡ false → c ≡ false → d ≡ false → f ≡ true
last_of_five false false false false f e x y z w = e
last_of_five true b c d f e x y z w = absurd cc
last_of_five false true c d f e x y z w = absurd cc
last_of_five false false true d f e x y z w = absurd cc
last_of_five false false false true f e x y z w = absurd cc

-- ---- integers

-- a sign and a magnitude that make the term
abbrev pub IsBig : ℕ → Term → List ℕ → Type 0
IsBig k t text = (sign : ℕ) × (mag : List ℕ) × (big_of sign mag ≡ t) × SpellsBig k sign mag text

abbrev SignAndMagnitude : ℕ → Term → List ℕ → Type 0
SignAndMagnitude n = Two (λ sign text. text ≡ sign ∷ []) (λ sign. Made (big_of sign) (λ mag text. (text ≡ mag) × (length mag ≡ n)))

sign_and_magnitude : (n : ℕ) → Agrees (λ bytes. byte_at Cut bytes >>= λ sign. made_of (big_of sign.0) (bytes_at Cut n sign.1)) (SignAndMagnitude n)
sign_and_magnitude n =
    agrees_two (byte_at Cut) (λ sign text. text ≡ sign ∷ []) (λ bytes sign rest. made_of (big_of sign) (bytes_at Cut n rest)) (λ sign. Made (big_of sign) (λ mag text. (text ≡ mag) × (length mag ≡ n)))
    (byte_agrees Cut) (λ bytes sign. agrees_made (big_of sign) (bytes_at Cut n) (λ mag text. (text ≡ mag) × (length mag ≡ n)) (bytes_agree Cut n))

big_to : (k : ℕ) (t : Term) (text : List ℕ) → Two (SpellsNumber k) SignAndMagnitude t text → IsBig k t text
big_to k t text is =
    let inner = is.1.back_is in
    let made = inner.1.back_is in (
      inner.0,
      made.0,
      made.1,
      record {
        front = is.1.front;
        back = is.1.back;
        front_is = subst (λ (n : ℕ). SpellsNumber k n is.1.front) (sym made.2.1) is.1.front_is;
        back_is = inner.1.joined ∙ ap (λ (u : List ℕ). u ++ inner.1.back) inner.1.front_is ∙ ap (λ (u : List ℕ). inner.0 ∷ u) made.2.0;
        joined = is.1.joined;
      },
    )

big_from : (k : ℕ) (t : Term) (text : List ℕ) → IsBig k t text → Two (SpellsNumber k) SignAndMagnitude t text
big_from k t text (sign, mag, made, is) = (
  length mag,
  record {
    front = is.front;
    back = is.back;
    front_is = is.front_is;
    back_is = (sign, record { front = sign ∷ []; back = mag; front_is = refl; back_is = (mag, made, (refl, refl)); joined = is.back_is });
    joined = is.joined;
  },
)

pub big_agrees : (k : ℕ) → Agrees (big_at k) (IsBig k)
big_agrees k =
    agrees_as
    (agrees_two (number_at Cut k) (SpellsNumber k) (λ bytes n rest. byte_at Cut rest >>= λ sign. made_of (big_of sign.0) (bytes_at Cut n sign.1)) SignAndMagnitude (number_agrees Cut k) (λ bytes n. sign_and_magnitude n))
    (big_to k) (big_from k)

-- ---- names

pub latin_agrees : (k : ℕ) → Agrees (latin_at k) (Made encode_utf8_all (SpellsBytes k))
latin_agrees k = agrees_made encode_utf8_all (sized_at k) (SpellsBytes k) (agrees_bytes Cut k)

-- a name in UTF-8, with the number of its bytes in k bytes
abbrev pub IsUtf8In : ℕ → List ℕ → List ℕ → Type 0
IsUtf8In k s text = IsUtf8 s × SpellsBytes k s text

utf8_ok : (b : Bool) (offset : ℕ) (s after : List ℕ) (x : List ℕ × List ℕ) → (cond b (Ok s) (Err (AtomText offset)) >>= λ text. giving text after) ≡ Ok x → (b ≡ true) × ((s, after) ≡ x)
utf8_ok true offset s after x e = (refl, ok_is {E = TermRefusal} (s, after) x e)
utf8_ok false offset s after x e = absurd cc

utf8_take : (offset k : ℕ) (bytes s rest : List ℕ) → IsBytes bytes → utf8_at offset k bytes ≡ Ok (s, rest) → Takes (IsUtf8In k s) bytes rest
utf8_take offset k bytes s rest fits e =
    let b = bind_ok (sized_at k bytes) (λ s. utf8_or (AtomText offset) s.0 >>= λ text. giving text s.1) (s, rest) e in
    let t = utf8_ok (is_utf8 b.0.0) offset b.0.0 b.0.1 (s, rest) b.2 in
    let utf8 : IsUtf8 b.0.0 = IsUtf8-from_is_utf8 b.0.0 t.0 in
    let took : Takes (IsUtf8In k b.0.0) bytes b.0.1 = Takes-weaker (λ text is. (utf8, is)) ((agrees_bytes Cut k).takes bytes b.0.0 b.0.1 fits b.1) in
    subst (λ (q : List ℕ × List ℕ). Takes (IsUtf8In k q.0) bytes q.1) t.1 took

utf8_again : (offset k : ℕ) (s text rest : List ℕ) → IsUtf8In k s text → utf8_at offset k (text ++ rest) ≡ Ok (s, rest)
utf8_again offset k s text rest is =
    let read : sized_at k (text ++ rest) ≡ Ok (s, rest) = (agrees_bytes Cut k).again s text rest is.1 in
    let utf8 : is_utf8 s ≡ true = is_utf8-from_IsUtf8 s is.0 in
    rw (read, utf8) refl

pub utf8_agrees : (offset k : ℕ) → Agrees (utf8_at offset k) (IsUtf8In k)
utf8_agrees offset k = record { takes = utf8_take offset k; again = utf8_again offset k }

-- what is behind the tag of an atom
abbrev pub AtomBehind : ℕ → List ℕ → List ℕ → Type 0
AtomBehind tag name text = SpellsAtom name (tag ∷ text)

-- the tag is one of these
retag : (tag known : ℕ) (name : List ℕ) (bytes rest : List ℕ) → (tag == known) ≡ true → Takes (AtomBehind known name) bytes rest → Takes (AtomBehind tag name) bytes rest
retag tag known name bytes rest e took = subst (λ (n : ℕ). Takes (AtomBehind n name) bytes rest) (sym (eqb-true tag known e)) took

latin_take : (k known : ℕ) → ((s bytes : List ℕ) → SpellsBytes k s bytes → SpellsAtom (encode_utf8_all s) (known ∷ bytes))
    → (bytes name rest : List ℕ) → IsBytes bytes → latin_at k bytes ≡ Ok (name, rest) → Takes (AtomBehind known name) bytes rest
latin_take k known form bytes name rest fits e =
    Takes-weaker (λ text is. subst (λ (n : List ℕ). SpellsAtom n (known ∷ text)) is.1 (form is.0 text is.2)) ((latin_agrees k).takes bytes name rest fits e)

atom_take : (offset tag : ℕ) → is_atom_tag tag ≡ true → (bytes name rest : List ℕ) → IsBytes bytes → atom_at offset tag bytes ≡ Ok (name, rest) → Takes (AtomBehind tag name) bytes rest
unfolding atom_at
atom_take offset tag one bytes name rest fits e =
    elim (chosen (tag == 100) (latin_at 2 bytes) _ _ e) [
      | inl a ↦ retag tag 100 name bytes rest a.0 (latin_take 2 100 latin_100 bytes name rest fits a.1)
      | inr a ↦
          elim (chosen (tag == 115) (latin_at 1 bytes) _ _ a.1) [
            | inl b ↦ retag tag 115 name bytes rest b.0 (latin_take 1 115 latin_115 bytes name rest fits b.1)
            | inr b ↦
                elim (chosen (tag == 118) (utf8_at offset 2 bytes) _ _ b.1) [
                  | inl c ↦ retag tag 118 name bytes rest c.0 (Takes-weaker (λ text is. utf8_118 name text is.0 is.1) ((utf8_agrees offset 2).takes bytes name rest fits c.1))
                  | inr c ↦
                      let last = last_of_four (tag == 100) (tag == 115) (tag == 118) (tag == 119) one a.0 b.0 c.0 in
                      retag tag 119 name bytes rest last (Takes-weaker (λ text is. utf8_119 name text is.0 is.1) ((utf8_agrees offset 1).takes bytes name rest fits c.1))
                ]
          ]
    ]

atom_again : (offset tag : ℕ) (name text rest : List ℕ) → AtomBehind tag name text → (is_atom_tag tag ≡ true) × (atom_at offset tag (text ++ rest) ≡ Ok (name, rest))
unfolding atom_at
atom_again offset tag name text rest (latin_100 s bytes is) = (refl, (latin_agrees 2).again (encode_utf8_all s) bytes rest (s, refl, is))
atom_again offset tag name text rest (latin_115 s bytes is) = (refl, (latin_agrees 1).again (encode_utf8_all s) bytes rest (s, refl, is))
atom_again offset tag name text rest (utf8_118 s bytes utf8 is) = (refl, (utf8_agrees offset 2).again s bytes rest (utf8, is))
atom_again offset tag name text rest (utf8_119 s bytes utf8 is) = (refl, (utf8_agrees offset 1).again s bytes rest (utf8, is))

-- an atom behind its tag, or a refusal behind each other one
pub atom_agrees : (offset tag : ℕ) (e : TermRefusal) → Agrees (λ bytes. cond (is_atom_tag tag) (atom_at offset tag bytes) (Err e)) (AtomBehind tag)
atom_agrees offset tag e = record {
  takes = λ bytes name rest fits read.
      elim (chosen (is_atom_tag tag) (atom_at offset tag bytes) _ _ read) [
        | inl a ↦ atom_take offset tag a.0 bytes name rest fits a.1
        | inr a ↦ absurd cc
      ];
  again = λ name text rest is. let a = atom_again offset tag name text rest is in rw a.0 a.1;
}

-- ---- bit strings

-- a count, the bits of the last byte, and the bytes
abbrev pub IsBits : Term → List ℕ → Type 0
IsBits t text = (s : List ℕ) × (last : ℕ) × (has_bits s last ≡ true) × (terms.Bits s last ≡ t) × Then (SpellsNumber 4 (length s)) (λ u. u ≡ last ∷ s) text

-- a number and a list of bytes behind one byte
abbrev last_and_bytes : ℕ → List ℕ → Result ((List ℕ × ℕ) × List ℕ) TermRefusal
last_and_bytes n bytes = byte_at Cut bytes >>= λ last. made_of (λ s. (s, last.0)) (bytes_at Cut n last.1)

abbrev LastAndBytes : ℕ → (List ℕ × ℕ) → List ℕ → Type 0
LastAndBytes n = Two (λ last text. text ≡ last ∷ []) (λ last. Made (λ s. (s, last)) (λ s text. (text ≡ s) × (length s ≡ n)))

last_and_bytes_agree : (n : ℕ) → Agrees (last_and_bytes n) (LastAndBytes n)
last_and_bytes_agree n =
    agrees_two (byte_at Cut) (λ last text. text ≡ last ∷ []) (λ bytes last rest. made_of (λ s. (s, last)) (bytes_at Cut n rest)) (λ last. Made (λ s. (s, last)) (λ s text. (text ≡ s) × (length s ≡ n)))
    (byte_agrees Cut) (λ bytes last. agrees_made (λ s. (s, last)) (bytes_at Cut n) (λ s text. (text ≡ s) × (length s ≡ n)) (bytes_agree Cut n))

abbrev bits_of : List ℕ × ℕ → Term
bits_of x = terms.Bits x.0 x.1

-- the same reading in other steps
abbrev bits_by : ℕ → List ℕ → Result (Term × List ℕ) TermRefusal
bits_by offset bytes =
    made_of bits_of
    ((number_at Cut 4 bytes >>= λ n. last_and_bytes n.0 n.1) >>= λ x. cond (has_bits x.0.0 x.0.1) (giving x.0 x.1) (Err (BitTail offset)))

bits_tail : (offset : ℕ) (read : Result (List ℕ × List ℕ) TermRefusal) (last : ℕ)
    → (read >>= λ s. cond (has_bits s.0 last) (giving (terms.Bits s.0 last) s.1) (Err (BitTail offset)))
    ≡ made_of bits_of (made_of (λ s. (s, last)) read >>= λ x. cond (has_bits x.0.0 x.0.1) (giving x.0 x.1) (Err (BitTail offset)))
bits_tail offset (Err e) last = refl
bits_tail offset (Ok s) last = elim (chosen (has_bits s.0 last) true false _ refl) [
  | inl a ↦ rw a.0 refl
  | inr a ↦ rw a.0 refl
]

bits_last : (offset : ℕ) (read : Result (ℕ × List ℕ) TermRefusal) (n : ℕ)
    → (read >>= λ last. bytes_at Cut n last.1 >>= λ s. cond (has_bits s.0 last.0) (giving (terms.Bits s.0 last.0) s.1) (Err (BitTail offset)))
    ≡ made_of bits_of ((read >>= λ last. made_of (λ s. (s, last.0)) (bytes_at Cut n last.1)) >>= λ x. cond (has_bits x.0.0 x.0.1) (giving x.0 x.1) (Err (BitTail offset)))
bits_last offset (Err e) n = refl
bits_last offset (Ok last) n = bits_tail offset (bytes_at Cut n last.1) last.0

bits_steps : (offset : ℕ) (read : Result (ℕ × List ℕ) TermRefusal)
    → (read >>= λ n. byte_at Cut n.1 >>= λ last. bytes_at Cut n.0 last.1 >>= λ s. cond (has_bits s.0 last.0) (giving (terms.Bits s.0 last.0) s.1) (Err (BitTail offset)))
    ≡ made_of bits_of ((read >>= λ n. last_and_bytes n.0 n.1) >>= λ x. cond (has_bits x.0.0 x.0.1) (giving x.0 x.1) (Err (BitTail offset)))
bits_steps offset (Err e) = refl
bits_steps offset (Ok n) = bits_last offset (byte_at Cut n.1) n.0

bits_is : (offset : ℕ) (bytes : List ℕ) → bits_at offset bytes ≡ bits_by offset bytes
unfolding bits_at
bits_is offset bytes = bits_steps offset (number_at Cut 4 bytes)

abbrev BitsBy : Term → List ℕ → Type 0
BitsBy = Made bits_of (λ x text. (has_bits x.0 x.1 ≡ true) × Two (SpellsNumber 4) LastAndBytes x text)

bits_by_agree : (offset : ℕ) → Agrees (bits_by offset) BitsBy
bits_by_agree offset =
    agrees_made bits_of
    (λ bytes. (number_at Cut 4 bytes >>= λ n. last_and_bytes n.0 n.1) >>= λ x. cond (has_bits x.0.0 x.0.1) (giving x.0 x.1) (Err (BitTail offset)))
    (λ x text. (has_bits x.0 x.1 ≡ true) × Two (SpellsNumber 4) LastAndBytes x text)
    (agrees_test (λ x. has_bits x.0 x.1) (BitTail offset) (λ bytes. number_at Cut 4 bytes >>= λ n. last_and_bytes n.0 n.1) (Two (SpellsNumber 4) LastAndBytes)
    (agrees_two (number_at Cut 4) (SpellsNumber 4) (λ bytes n rest. last_and_bytes n rest) LastAndBytes (number_agrees Cut 4) (λ bytes n. last_and_bytes_agree n)))

bits_to : (t : Term) (text : List ℕ) → BitsBy t text → IsBits t text
bits_to t text (x, made, (has, is)) =
    let inner = is.1.back_is in
    let pair = inner.1.back_is in
    let same : x ≡ (pair.0, inner.0) = sym pair.1 in (
      pair.0,
      inner.0,
      subst (λ (y : List ℕ × ℕ). has_bits y.0 y.1 ≡ true) same has,
      subst (λ (y : List ℕ × ℕ). terms.Bits y.0 y.1 ≡ t) same made,
      record {
        front = is.1.front;
        back = is.1.back;
        front_is = subst (λ (n : ℕ). SpellsNumber 4 n is.1.front) (sym pair.2.1) is.1.front_is;
        back_is = inner.1.joined ∙ ap (λ (u : List ℕ). u ++ inner.1.back) inner.1.front_is ∙ ap (λ (u : List ℕ). inner.0 ∷ u) pair.2.0;
        joined = is.1.joined;
      },
    )

bits_from : (t : Term) (text : List ℕ) → IsBits t text → BitsBy t text
bits_from t text (s, last, has, made, is) = (
  (s, last),
  made,
  (
    has,
    (
      length s,
      record {
        front = is.front;
        back = is.back;
        front_is = is.front_is;
        back_is = (last, record { front = last ∷ []; back = s; front_is = refl; back_is = (s, refl, (refl, refl)); joined = is.back_is });
        joined = is.joined;
      },
    ),
  ),
)

pub bits_agree : (offset : ℕ) → Agrees (bits_at offset) IsBits
bits_agree offset =
    let by = agrees_as (bits_by_agree offset) bits_to bits_from in
    record {
      takes = λ bytes t rest fits e. by.takes bytes t rest fits (sym (bits_is offset bytes) ∙ e);
      again = λ t text rest is. bits_is offset (text ++ rest) ∙ by.again t text rest is;
    }

-- ---- lists of bytes

pub string_agrees : Agrees string_at (Made (λ s. terms.List (map byte_term s) terms.Nil) (SpellsBytes 2))
string_agrees = agrees_made (λ s. terms.List (map byte_term s) terms.Nil) (sized_at 2) (SpellsBytes 2) (agrees_bytes Cut 2)
