-- A term is read where it is spelled, and no spelling begins another.
use Rattle.std.proofs.Common.{◌≡◌, ◌≤◌, ◌-◌, ℕ, zero, suc, Bool, true, false, cond, ◌&&◌, ◌==◌, leb, List, [], ◌∷◌, ◌++◌, length, drop, map, Result, Ok, Err, IfOk, ◌⊎◌, refl, sym, ap, subst, ◌∙◌, inl, inr}
use Rattle.std.proofs.lemmas.Bool.{eqb-true, leb-true, le-leb}
use Rattle.std.specs.Str.{encode_utf8_all}
use Rattle.std.proofs.lemmas.List.{append-nil, append_cancel_right}
use Rattle.byteorder.specs.Endian.{twos_complement}
use Rattle.bk_codec.specs.Reading.{◌>>=◌, giving, made_of, byte_at, number_at, alone, GivesAll}
use Rattle.bk_codec.specs.Spelling.{IsBytes, SpellsNumber, SpellsBytes, SpellsCountedIn}
use Rattle.bk_codec.proofs.Steps.{bind_ok, made_ok, chosen, ok_is}
use Rattle.bk_codec.proofs.Agreement.{Agrees, Takes, Takes-weaker, byte_agrees, number_agrees, one_form}
use Rattle.ext_term.specs.declared.term.Term.{Term}
use Rattle.ext_term.specs.declared.term.Term.TheVariants as terms
use Rattle.ext_term.specs.declared.refusal.TermRefusal.{TermRefusal}
use Rattle.ext_term.specs.declared.refusal.TermRefusal.TheVariants.{Cut, Tag, Depth, Rest, NoMemory}
use Rattle.ext_term.specs.Integer.{int_of, big_of}
use Rattle.ext_term.specs.Spelling.{SpellsBig, latin_100, latin_115, utf8_118, utf8_119, SpellsPair, byte_term, SpellsTagged, small_97, signed_98, big_110, big_111, atom, tuple_104, tuple_105, nil_106, string_107, list_108, binary_109, bits_77, export_113, map_116, SpellsTerm, SpellsTermFile}
use Rattle.ext_term.specs.Reading.{sized_at, big_at, integer_at, is_atom_tag, atom_at, string_at, has_bits, flat_at, tuple_at, list_at, export_at, nested_at, is_integer_tag, is_flat_tag, is_nested_tag, tagged_at, term_at, file_at, term_of}
use Rattle.bk_codec.proofs.Agreeing.{Two, Made, agrees_as, agrees_two, agrees_made, agrees_bytes}
use Rattle.ext_term.proofs.Flat.{last_of_four, last_of_five, IsBig, big_agrees, latin_agrees, utf8_agrees, AtomBehind, atom_agrees, IsBits, bits_agree, string_agrees}
use Rattle.ext_term.proofs.Nested.{atom_parts, IsExport, export_agrees, tuple_agrees, map_agrees, IsList, list_agrees}

three_tests : (a b c : Bool) → (a && b && c) ≡ true → (a ≡ true) × (b ≡ true) × (c ≡ true)
three_tests true true true e = (refl, refl, refl)
three_tests false b c e = absurd cc
three_tests true false c e = absurd cc
three_tests true true false e = absurd cc

has_bits_is : (s : List ℕ) (last : ℕ) → has_bits s last ≡ true → (1 ≤ length s) × (1 ≤ last) × (last ≤ 8)
has_bits_is s last e =
    let t = three_tests (leb 1 (length s)) (leb 1 last) (leb last 8) e in
    (leb-true 1 (length s) t.0, leb-true 1 last t.1, leb-true last 8 t.2)

is_has_bits : (s : List ℕ) (last : ℕ) → 1 ≤ length s → 1 ≤ last → last ≤ 8 → has_bits s last ≡ true
is_has_bits s last some few most =
    let a : leb 1 (length s) ≡ true = le-leb 1 (length s) some in
    let b : leb 1 last ≡ true = le-leb 1 last few in
    let c : leb last 8 ≡ true = le-leb last 8 most in
    rw (a, b, c) refl

module _ (end levels : ℕ) (inner : List ℕ → Result (Term × List ℕ) TermRefusal) (Inner : Term → List ℕ → Type 0) (agrees : Agrees inner Inner) where
  -- what is behind a tag
  abbrev Behind : ℕ → Term → List ℕ → Type 0
  Behind tag t text = SpellsTagged levels Inner t (tag ∷ text)

  retag : (tag known : ℕ) (t : Term) (bytes rest : List ℕ) → (tag == known) ≡ true → Takes (Behind known t) bytes rest → Takes (Behind tag t) bytes rest
  retag tag known t bytes rest e took = subst (λ (n : ℕ). Takes (Behind n t) bytes rest) (sym (eqb-true tag known e)) took

  -- a term that was made of what was read behind a tag
  made_take : {A : Type 0} (known : ℕ) (make : A → Term) (R : A → List ℕ → Type 0) → ((x : A) (text : List ℕ) → R x text → SpellsTagged levels Inner (make x) (known ∷ text))
      → (t : Term) (bytes rest : List ℕ) → Takes (Made make R t) bytes rest → Takes (Behind known t) bytes rest
  made_take known make R form t bytes rest took =
      Takes-weaker (λ text is. subst (λ (u : Term). SpellsTagged levels Inner u (known ∷ text)) is.1 (form is.0 text is.2)) took

  -- ---- integers

  small_agrees : Agrees (λ bytes. made_of byte_term (number_at Cut 1 bytes)) (Made byte_term (SpellsNumber 1))
  small_agrees = agrees_made byte_term (number_at Cut 1) (SpellsNumber 1) (number_agrees Cut 1)

  signed_agrees : Agrees (λ bytes. made_of (λ n. int_of (twos_complement 4 n)) (number_at Cut 4 bytes)) (Made (λ n. int_of (twos_complement 4 n)) (SpellsNumber 4))
  signed_agrees = agrees_made (λ n. int_of (twos_complement 4 n)) (number_at Cut 4) (SpellsNumber 4) (number_agrees Cut 4)

  big_take : (known k : ℕ) → ((sign : ℕ) (mag bytes : List ℕ) → SpellsBig k sign mag bytes → SpellsTagged levels Inner (big_of sign mag) (known ∷ bytes))
      → (t : Term) (bytes rest : List ℕ) → Takes (IsBig k t) bytes rest → Takes (Behind known t) bytes rest
  big_take known k form t bytes rest took =
      Takes-weaker (λ text is. subst (λ (u : Term). SpellsTagged levels Inner u (known ∷ text)) is.2 (form is.0 is.1 text is.3)) took

  integer_take : (tag : ℕ) → is_integer_tag tag ≡ true → (bytes : List ℕ) (t : Term) (rest : List ℕ) → IsBytes bytes → integer_at tag bytes ≡ Ok (t, rest) → Takes (Behind tag t) bytes rest
  unfolding integer_at
  integer_take tag one bytes t rest fits e =
      elim (chosen (tag == 97) (made_of byte_term (number_at Cut 1 bytes)) _ _ e) [
        | inl a ↦ retag tag 97 t bytes rest a.0 (made_take 97 byte_term (SpellsNumber 1) small_97 t bytes rest (small_agrees.takes bytes t rest fits a.1))
        | inr a ↦
            elim (chosen (tag == 98) (made_of (λ n. int_of (twos_complement 4 n)) (number_at Cut 4 bytes)) _ _ a.1) [
              | inl b ↦ retag tag 98 t bytes rest b.0 (made_take 98 (λ n. int_of (twos_complement 4 n)) (SpellsNumber 4) signed_98 t bytes rest (signed_agrees.takes bytes t rest fits b.1))
              | inr b ↦
                  elim (chosen (tag == 110) (big_at 1 bytes) _ _ b.1) [
                    | inl c ↦ retag tag 110 t bytes rest c.0 (big_take 110 1 big_110 t bytes rest ((big_agrees 1).takes bytes t rest fits c.1))
                    | inr c ↦
                        let last = last_of_four (tag == 97) (tag == 98) (tag == 110) (tag == 111) one a.0 b.0 c.0 in
                        retag tag 111 t bytes rest last (big_take 111 4 big_111 t bytes rest ((big_agrees 4).takes bytes t rest fits c.1))
                  ]
            ]
      ]

  -- ---- the empty list, bytes and bits

  nil_take : (bytes : List ℕ) (t : Term) (rest : List ℕ) → IsBytes bytes → giving {E = TermRefusal} terms.Nil bytes ≡ Ok (t, rest) → Takes (Behind 106 t) bytes rest
  nil_take bytes t rest fits e =
      subst (λ (q : Term × List ℕ). Takes (Behind 106 q.0) bytes q.1) (ok_is {E = TermRefusal} (terms.Nil, bytes) (t, rest) e)
      (record { text = []; is = nil_106; joined = refl; fits = fits })

  binary_agrees : Agrees (λ bytes. made_of terms.Binary (sized_at 4 bytes)) (Made terms.Binary (SpellsBytes 4))
  binary_agrees = agrees_made terms.Binary (sized_at 4) (SpellsBytes 4) (agrees_bytes Cut 4)

  bits_form : (t : Term) (text : List ℕ) → IsBits t text → SpellsTagged levels Inner t (77 ∷ text)
  bits_form t text (s, last, has, made, is) =
      let h = has_bits_is s last has in
      subst (λ (u : Term). SpellsTagged levels Inner u (77 ∷ text)) made (bits_77 s text last h.0 h.1 h.2 is)

  flat_take : (offset tag : ℕ) → is_flat_tag tag ≡ true → (bytes : List ℕ) (t : Term) (rest : List ℕ) → IsBytes bytes → flat_at offset tag bytes ≡ Ok (t, rest) → Takes (Behind tag t) bytes rest
  unfolding flat_at
  flat_take offset tag one bytes t rest fits e =
      elim (chosen (tag == 106) (giving terms.Nil bytes) _ _ e) [
        | inl a ↦ retag tag 106 t bytes rest a.0 (nil_take bytes t rest fits a.1)
        | inr a ↦
            elim (chosen (tag == 107) (string_at bytes) _ _ a.1) [
              | inl b ↦ retag tag 107 t bytes rest b.0 (made_take 107 (λ s. terms.List (map byte_term s) terms.Nil) (SpellsBytes 2) string_107 t bytes rest (string_agrees.takes bytes t rest fits b.1))
              | inr b ↦
                  elim (chosen (tag == 109) (made_of terms.Binary (sized_at 4 bytes)) _ _ b.1) [
                    | inl c ↦ retag tag 109 t bytes rest c.0 (made_take 109 terms.Binary (SpellsBytes 4) binary_109 t bytes rest (binary_agrees.takes bytes t rest fits c.1))
                    | inr c ↦
                        let last = last_of_four (tag == 106) (tag == 107) (tag == 109) (tag == 77) one a.0 b.0 c.0 in
                        retag tag 77 t bytes rest last (Takes-weaker (λ text is. bits_form t text is) ((bits_agree offset).takes bytes t rest fits c.1))
                  ]
            ]
      ]

  -- ---- terms with terms in them

  list_form : (t : Term) (text : List ℕ) → IsList inner Inner agrees t text → SpellsTagged levels Inner t (108 ∷ text)
  list_form t text (items, tail, made, is) = subst (λ (u : Term). SpellsTagged levels Inner u (108 ∷ text)) made (list_108 items tail text is)

  export_form : (t : Term) (text : List ℕ) → IsExport levels t text → SpellsTagged levels Inner t (113 ∷ text)
  export_form t text (m, f, arity, deep, made, is) = subst (λ (u : Term). SpellsTagged levels Inner u (113 ∷ text)) made (export_113 m f text arity deep is)

  nested_take : (tag : ℕ) → is_nested_tag tag ≡ true → (bytes : List ℕ) (t : Term) (rest : List ℕ) → IsBytes bytes → nested_at end levels inner tag bytes ≡ Ok (t, rest) → Takes (Behind tag t) bytes rest
  unfolding nested_at
  nested_take tag one bytes t rest fits e =
      elim (chosen (tag == 104) (tuple_at inner 1 bytes) _ _ e) [
        | inl a ↦ retag tag 104 t bytes rest a.0 (made_take 104 terms.Tuple (SpellsCountedIn 1 Inner) tuple_104 t bytes rest ((tuple_agrees inner Inner agrees 1).takes bytes t rest fits a.1))
        | inr a ↦
            elim (chosen (tag == 105) (tuple_at inner 4 bytes) _ _ a.1) [
              | inl b ↦ retag tag 105 t bytes rest b.0 (made_take 105 terms.Tuple (SpellsCountedIn 4 Inner) tuple_105 t bytes rest ((tuple_agrees inner Inner agrees 4).takes bytes t rest fits b.1))
              | inr b ↦
                  elim (chosen (tag == 108) (list_at inner bytes) _ _ b.1) [
                    | inl c ↦ retag tag 108 t bytes rest c.0 (Takes-weaker (λ text is. list_form t text is) ((list_agrees inner Inner agrees).takes bytes t rest fits c.1))
                    | inr c ↦
                        elim (chosen (tag == 113) (export_at end levels bytes) _ _ c.1) [
                          | inl d ↦ retag tag 113 t bytes rest d.0 (Takes-weaker (λ text is. export_form t text is) ((export_agrees end levels).takes bytes t rest fits d.1))
                          | inr d ↦
                              let last = last_of_five (tag == 104) (tag == 105) (tag == 108) (tag == 113) (tag == 116) one a.0 b.0 c.0 d.0 in
                              retag tag 116 t bytes rest last (made_take 116 terms.Map (SpellsCountedIn 4 (SpellsPair Inner)) map_116 t bytes rest ((map_agrees inner Inner agrees).takes bytes t rest fits d.1))
                        ]
                  ]
            ]
      ]

  -- ---- all tags

  tagged_take : (offset tag : ℕ) (bytes : List ℕ) (t : Term) (rest : List ℕ) → IsBytes bytes → tagged_at end levels inner offset tag bytes ≡ Ok (t, rest) → Takes (Behind tag t) bytes rest
  unfolding tagged_at
  tagged_take offset tag bytes t rest fits e =
      elim (chosen (is_integer_tag tag) (integer_at tag bytes) _ _ e) [
        | inl a ↦ integer_take tag a.0 bytes t rest fits a.1
        | inr a ↦
            elim (chosen (is_atom_tag tag) (made_of terms.Atom (atom_at offset tag bytes)) _ _ a.1) [
              | inl b ↦
                  let m = made_ok terms.Atom (atom_at offset tag bytes) t rest b.1 in
                  let read : cond (is_atom_tag tag) (atom_at offset tag bytes) (Err Cut) ≡ Ok (m.0, rest) = rw b.0 m.1 in
                  subst (λ (u : Term). Takes (Behind tag u) bytes rest) m.2
                  (Takes-weaker (λ text is. atom m.0 (tag ∷ text) is) ((atom_agrees offset tag Cut).takes bytes m.0 rest fits read))
              | inr b ↦
                  elim (chosen (is_flat_tag tag) (flat_at offset tag bytes) _ _ b.1) [
                    | inl c ↦ flat_take offset tag c.0 bytes t rest fits c.1
                    | inr c ↦
                        elim (chosen (is_nested_tag tag) (nested_at end levels inner tag bytes) _ _ c.1) [
                          | inl d ↦ nested_take tag d.0 bytes t rest fits d.1
                          | inr d ↦ absurd cc
                        ]
                  ]
            ]
      ]

  -- no tag of an atom is one of an integer
  atom_tag : (offset tag : ℕ) (name text rest : List ℕ) → AtomBehind tag name text → tagged_at end levels inner offset tag (text ++ rest) ≡ Ok (terms.Atom name, rest)
  unfolding tagged_at atom_at
  atom_tag offset tag name text rest (latin_100 s bytes is) = ap (made_of terms.Atom) ((latin_agrees 2).again (encode_utf8_all s) bytes rest (s, refl, is))
  atom_tag offset tag name text rest (latin_115 s bytes is) = ap (made_of terms.Atom) ((latin_agrees 1).again (encode_utf8_all s) bytes rest (s, refl, is))
  atom_tag offset tag name text rest (utf8_118 s bytes utf8 is) = ap (made_of terms.Atom) ((utf8_agrees offset 2).again s bytes rest (utf8, is))
  atom_tag offset tag name text rest (utf8_119 s bytes utf8 is) = ap (made_of terms.Atom) ((utf8_agrees offset 1).again s bytes rest (utf8, is))

  tagged_again : (offset tag : ℕ) (t : Term) (text rest : List ℕ) → Behind tag t text → tagged_at end levels inner offset tag (text ++ rest) ≡ Ok (t, rest)
  unfolding tagged_at integer_at flat_at nested_at
  tagged_again offset tag t text rest (small_97 n bytes is) = small_agrees.again (byte_term n) bytes rest (n, refl, is)
  tagged_again offset tag t text rest (signed_98 n bytes is) = signed_agrees.again (int_of (twos_complement 4 n)) bytes rest (n, refl, is)
  tagged_again offset tag t text rest (big_110 sign mag bytes is) = (big_agrees 1).again (big_of sign mag) bytes rest (sign, mag, refl, is)
  tagged_again offset tag t text rest (big_111 sign mag bytes is) = (big_agrees 4).again (big_of sign mag) bytes rest (sign, mag, refl, is)
  tagged_again offset tag t text rest (atom name bytes is) = atom_tag offset tag name text rest is
  tagged_again offset tag t text rest (tuple_104 items bytes is) = (tuple_agrees inner Inner agrees 1).again (terms.Tuple items) bytes rest (items, refl, is)
  tagged_again offset tag t text rest (tuple_105 items bytes is) = (tuple_agrees inner Inner agrees 4).again (terms.Tuple items) bytes rest (items, refl, is)
  tagged_again offset tag t text rest nil_106 = refl
  tagged_again offset tag t text rest (string_107 s bytes is) = string_agrees.again (terms.List (map byte_term s) terms.Nil) bytes rest (s, refl, is)
  tagged_again offset tag t text rest (list_108 items tail bytes is) = (list_agrees inner Inner agrees).again (terms.List items tail) bytes rest (items, tail, refl, is)
  tagged_again offset tag t text rest (binary_109 s bytes is) = binary_agrees.again (terms.Binary s) bytes rest (s, refl, is)
  tagged_again offset tag t text rest (bits_77 s bytes last some few most is) = (bits_agree offset).again (terms.Bits s last) bytes rest (s, last, is_has_bits s last some few most, refl, is)
  tagged_again offset tag t text rest (export_113 m f bytes arity deep is) = (export_agrees end levels).again (terms.Export m f arity) bytes rest (m, f, arity, deep, refl, is)
  tagged_again offset tag t text rest (map_116 pairs bytes is) = (map_agrees inner Inner agrees).again (terms.Map pairs) bytes rest (pairs, refl, is)

  pub tagged_agrees : (offset tag : ℕ) → Agrees (tagged_at end levels inner offset tag) (Behind tag)
  tagged_agrees offset tag = record { takes = tagged_take offset tag; again = tagged_again offset tag }

  -- a spelling begins with a tag
  tag_parts : (t : Term) (text : List ℕ) → SpellsTagged levels Inner t text → (tag : ℕ) × (behind : List ℕ) × (text ≡ tag ∷ behind) × Behind tag t behind
  tag_parts t text (small_97 n bytes is) = (97, bytes, refl, small_97 n bytes is)
  tag_parts t text (signed_98 n bytes is) = (98, bytes, refl, signed_98 n bytes is)
  tag_parts t text (big_110 sign mag bytes is) = (110, bytes, refl, big_110 sign mag bytes is)
  tag_parts t text (big_111 sign mag bytes is) = (111, bytes, refl, big_111 sign mag bytes is)
  tag_parts t text (atom name bytes is) =
      let a = atom_parts name bytes is in
      (a.0, a.1, a.2, atom name (a.0 ∷ a.1) a.3)
  tag_parts t text (tuple_104 items bytes is) = (104, bytes, refl, tuple_104 items bytes is)
  tag_parts t text (tuple_105 items bytes is) = (105, bytes, refl, tuple_105 items bytes is)
  tag_parts t text nil_106 = (106, [], refl, nil_106)
  tag_parts t text (string_107 s bytes is) = (107, bytes, refl, string_107 s bytes is)
  tag_parts t text (list_108 items tail bytes is) = (108, bytes, refl, list_108 items tail bytes is)
  tag_parts t text (binary_109 s bytes is) = (109, bytes, refl, binary_109 s bytes is)
  tag_parts t text (bits_77 s bytes last some few most is) = (77, bytes, refl, bits_77 s bytes last some few most is)
  tag_parts t text (export_113 m f bytes arity deep is) = (113, bytes, refl, export_113 m f bytes arity deep is)
  tag_parts t text (map_116 pairs bytes is) = (116, bytes, refl, map_116 pairs bytes is)

  tag_to : (t : Term) (text : List ℕ) → Two (λ tag u. u ≡ tag ∷ []) Behind t text → SpellsTagged levels Inner t text
  tag_to t text (tag, is) =
      let joined : tag ∷ is.back ≡ text = sym (is.joined ∙ ap (λ (u : List ℕ). u ++ is.back) is.front_is) in
      subst (SpellsTagged levels Inner t) joined is.back_is

  tag_from : (t : Term) (text : List ℕ) → SpellsTagged levels Inner t text → Two (λ tag u. u ≡ tag ∷ []) Behind t text
  tag_from t text is =
      let p = tag_parts t text is in
      (p.0, record { front = p.0 ∷ []; back = p.1; front_is = refl; back_is = p.3; joined = p.2 })

  pub one_agrees : Agrees (λ bytes. byte_at Cut bytes >>= λ tag. tagged_at end levels inner (end - length bytes) tag.0 tag.1) (SpellsTagged levels Inner)
  one_agrees =
      agrees_as
      (agrees_two (byte_at Cut) (λ tag u. u ≡ tag ∷ []) (λ bytes tag rest. tagged_at end levels inner (end - length bytes) tag rest) Behind
      (byte_agrees Cut) (λ bytes tag. tagged_agrees (end - length bytes) tag))
      tag_to tag_from

-- ---- terms, by how many may stand in one another

none_take : (end : ℕ) (bytes : List ℕ) (t : Term) (rest : List ℕ) → ◌>>=◌ {B = Term × List ℕ} (byte_at Cut bytes) (λ tag. Err (Depth (end - length bytes))) ≡ Ok (t, rest) → ⊥
none_take end [] t rest e = absurd cc
none_take end (b ∷ bytes) t rest e = absurd cc

pub term_agrees : (end levels : ℕ) → Agrees (term_at end levels) (SpellsTerm levels)
unfolding term_at SpellsTerm
term_agrees end zero = record {
  takes = λ bytes t rest fits e. absurd (none_take end bytes t rest e);
  again = λ t text rest is. absurd is;
}
term_agrees end (suc levels) = one_agrees end levels (term_at end levels) (SpellsTerm levels) (term_agrees end levels)

-- ---- whole files

version_ok : (b : Bool) (e : TermRefusal) (r : Result (Term × List ℕ) TermRefusal) (x : Term × List ℕ) → cond b r (Err e) ≡ Ok x → (b ≡ true) × (r ≡ Ok x)
version_ok true e r x h = (refl, h)
version_ok false e r x h = absurd cc

taken_and_refused : (r : Result Term TermRefusal) (t : Term) (e : TermRefusal) → r ≡ Ok t → r ≡ Err e → ⊥
taken_and_refused (Ok u) t e a b = absurd cc
taken_and_refused (Err d) t e a b = absurd cc

pub alone_ok : (e : TermRefusal) (x t : Term) (rest : List ℕ) → alone e x rest ≡ Ok t → (rest ≡ []) × (x ≡ t)
alone_ok e x t [] h = (refl, ok_is {E = TermRefusal} x t h)
alone_ok e x t (b ∷ rest) h = absurd cc

pub file_takes : (bytes : List ℕ) (t : Term) → IsBytes bytes → term_of bytes ≡ Ok t → SpellsTermFile t bytes
unfolding file_at
file_takes bytes t fits e =
    let end = length bytes in
    let v = bind_ok (byte_at Cut bytes) (λ version. cond (version.0 == 131) (term_at end 256 version.1) (Err (Tag version.0 0)) >>= λ t. alone (Rest (end - length t.1)) t.0 t.1) t e in
    let b = bind_ok (cond (v.0.0 == 131) (term_at end 256 v.0.1) (Err (Tag v.0.0 0))) (λ t. alone (Rest (end - length t.1)) t.0 t.1) t v.2 in
    let c = version_ok (v.0.0 == 131) (Tag v.0.0 0) (term_at end 256 v.0.1) b.0 b.1 in
    let a = alone_ok (Rest (end - length b.0.1)) b.0.0 t b.0.1 b.2 in
    let version : v.0.0 ≡ 131 = eqb-true v.0.0 131 c.0 in
    let front = (byte_agrees Cut).takes bytes v.0.0 v.0.1 fits v.1 in
    let back = (term_agrees end 256).takes v.0.1 b.0.0 b.0.1 front.fits c.1 in
    let whole : back.text ≡ v.0.1 = sym (append-nil back.text) ∙ ap (λ (u : List ℕ). back.text ++ u) (sym a.0) ∙ sym back.joined in
    record {
      front = 131 ∷ [];
      back = v.0.1;
      front_is = refl;
      back_is = subst (λ (u : List ℕ). SpellsTerm 256 t u) whole (subst (λ (u : Term). SpellsTerm 256 u back.text) a.1 back.is);
      joined = front.joined ∙ ap (λ (u : List ℕ). u ++ v.0.1) front.is ∙ ap (λ (n : ℕ). n ∷ v.0.1) version;
    }

pub file_again : (t : Term) (bytes : List ℕ) → SpellsTermFile t bytes → term_of bytes ≡ Ok t
unfolding file_at
file_again t bytes is =
    let whole : bytes ≡ 131 ∷ is.back = is.joined ∙ ap (λ (u : List ℕ). u ++ is.back) is.front_is in
    let read : term_at (length (131 ∷ is.back)) 256 is.back ≡ Ok (t, []) =
    ap (term_at (length (131 ∷ is.back)) 256) (sym (append-nil is.back)) ∙ (term_agrees (length (131 ∷ is.back)) 256).again t is.back [] is.back_is in
    ap term_of whole ∙ ap (λ r. r >>= λ t. alone (Rest (length (131 ∷ is.back) - length t.1)) t.0 t.1) read

-- ---- what a reader answered

pub found : (bytes : List ℕ) (answer : Result Term TermRefusal) → IsBytes bytes → GivesAll NoMemory (λ t. t) answer (term_of bytes) → IfOk answer (λ t. SpellsTermFile t bytes)
found bytes (Ok t) fits gives = file_takes bytes t fits gives
found bytes (Err e) fits gives = tt

pub only : (bytes : List ℕ) (answer : Result Term TermRefusal) → GivesAll NoMemory (λ t. t) answer (term_of bytes)
    → (t : Term) → SpellsTermFile t bytes → (answer ≡ Ok t) ⊎ (answer ≡ Err NoMemory)
only bytes (Ok u) gives t is = inl (sym gives ∙ file_again t bytes is)
only bytes (Err e) (inl memory) t is = inr (ap Err memory)
only bytes (Err e) (inr refused) t is = absurd (taken_and_refused (term_of bytes) t e (file_again t bytes is) refused)

-- no spelling begins another, and each is that of one term
pub one_spelling : (levels : ℕ) (t u : Term) (a b x y : List ℕ) → SpellsTerm levels t a → SpellsTerm levels u b → a ++ x ≡ b ++ y → (a ≡ b) × (t ≡ u)
one_spelling levels t u a b x y is_t is_u same =
    let f = one_form (term_agrees 0 levels) t u a b x y is_t is_u same in
    (append_cancel_right a b y (ap (λ (z : List ℕ). a ++ z) (sym f.1) ∙ same), f.0)

pub one_file : (t u : Term) (a b x y : List ℕ) → SpellsTermFile t a → SpellsTermFile u b → a ++ x ≡ b ++ y → (a ≡ b) × (t ≡ u)
one_file t u a b x y is_t is_u same =
    let a_is : a ≡ 131 ∷ is_t.back = is_t.joined ∙ ap (λ (z : List ℕ). z ++ is_t.back) is_t.front_is in
    let b_is : b ≡ 131 ∷ is_u.back = is_u.joined ∙ ap (λ (z : List ℕ). z ++ is_u.back) is_u.front_is in
    let heads : 131 ∷ (is_t.back ++ x) ≡ 131 ∷ (is_u.back ++ y) = sym (ap (λ (z : List ℕ). z ++ x) a_is) ∙ same ∙ ap (λ (z : List ℕ). z ++ y) b_is in
    let tails : is_t.back ++ x ≡ is_u.back ++ y = ap (drop 1) heads in
    let one = one_spelling 256 t u is_t.back is_u.back x y is_t.back_is is_u.back_is tails in
    (a_is ∙ ap (λ (z : List ℕ). 131 ∷ z) one.0 ∙ sym b_is, one.1)
