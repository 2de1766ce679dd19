-- More bytes behind do not change what is read of a term: the offsets are counted from the front.
use Rattle.std.proofs.Common.{◌≡◌, ◌≢◌, ◌⊎◌, ℕ, zero, suc, ◌+◌, ◌-◌, ◌≤◌, cond, ◌==◌, List, [], ◌∷◌, ◌++◌, length, map, Result, Ok, Err, refl, sym, ap, ◌∙◌, inl, inr, arith}
use Rattle.std.proofs.lemmas.List.{length-append}
use Rattle.std.specs.Str.{encode_utf8_all}
use Rattle.byteorder.specs.Endian.{twos_complement}
use Rattle.bk_codec.specs.Reading.{◌>>=◌, giving, byte_at, utf8_or, alone}
use Rattle.bk_codec.specs.Exact.{RefusalsStand, FrontsAreCut}
use Rattle.bk_codec.proofs.Steps.{bind_ok, bind_err}
use Rattle.bk_codec.proofs.Steady.{Steady, steady_none, steady_giving, steady_byte, steady_bytes, steady_number, steady_if, steady_made, steady_then, steady_step, steady_many, fronts_are_cut_whole}
use Rattle.ext_term.specs.declared.term.Term.{Term}
use Rattle.ext_term.specs.declared.term.Term.TheVariants as terms
use Rattle.ext_term.specs.declared.refusal.TermRefusal.{TermRefusal}
use Rattle.ext_term.specs.declared.refusal.TermRefusal.TheVariants.{Cut, Tag, Depth, AtomText, BitTail, Rest, NoMemory}
use Rattle.ext_term.specs.Integer.{int_of, big_of}
use Rattle.ext_term.specs.Spelling.{byte_term, SpellsTermFile}
use Rattle.ext_term.specs.Reading.{sized_at, big_at, integer_at, latin_at, utf8_at, atom_at, has_bits, bits_at, flat_at, tag_at, is_atom_tag, name_at, arity_at, export_at, tuple_at, list_at, pair_at, map_at, nested_at, is_integer_tag, is_flat_tag, is_nested_tag, tagged_at, term_at, file_at, term_of}
use Rattle.ext_term.proofs.Terms.{alone_ok, file_again}

module _ (more : List ℕ) where
  -- bytes are as far from the front as they were
  same_offset : (end : ℕ) (bytes : List ℕ) → end + length more - length (bytes ++ more) ≡ end - length bytes
  same_offset end bytes = omega (arith, length-append bytes more)

  -- a first step, and then one that knows at which offset the first began
  steady_from : {A B : Type 0} (end : ℕ) {p q : List ℕ → Result (A × List ℕ) TermRefusal} (r s : ℕ → A → List ℕ → Result (B × List ℕ) TermRefusal)
      → Steady Cut more p q → ((offset : ℕ) (x : A) → Steady Cut more (r offset x) (s offset x))
      → Steady Cut more (λ bytes. p bytes >>= λ x. r (end - length bytes) x.0 x.1) (λ bytes. q bytes >>= λ x. s (end + length more - length bytes) x.0 x.1)
  steady_from {A} {B} end {p} {q} r s first second = record {
    goes_on = λ bytes. let two = at bytes in rw (same_offset end bytes) (two.goes_on bytes);
    stands = λ bytes. let two = at bytes in rw (same_offset end bytes) (two.stands bytes);
  } where
    at : (bytes : List ℕ) → Steady Cut more (λ b. p b >>= λ x. r (end - length bytes) x.0 x.1) (λ b. q b >>= λ x. s (end - length bytes) x.0 x.1)
    at bytes = steady_then Cut more first (λ x. second (end - length bytes) x)

  -- ---- behind a tag

  sized_steady : (k : ℕ) → Steady Cut more (sized_at k) (sized_at k)
  sized_steady k = steady_then Cut more (steady_number Cut more k) (λ n. steady_bytes Cut more n)

  big_steady : (k : ℕ) → Steady Cut more (big_at k) (big_at k)
  big_steady k = steady_then Cut more (steady_number Cut more k) (λ n. steady_then Cut more (steady_byte Cut more) (λ sign. steady_made Cut more (big_of sign) (steady_bytes Cut more n)))

  integer_steady : (tag : ℕ) → Steady Cut more (integer_at tag) (integer_at tag)
  unfolding integer_at
  integer_steady tag =
      steady_if Cut more (tag == 97) (steady_made Cut more byte_term (steady_number Cut more 1))
      (steady_if Cut more (tag == 98) (steady_made Cut more (λ n. int_of (twos_complement 4 n)) (steady_number Cut more 4))
      (steady_if Cut more (tag == 110) (big_steady 1) (big_steady 4)))

  latin_steady : (k : ℕ) → Steady Cut more (latin_at k) (latin_at k)
  latin_steady k = steady_made Cut more encode_utf8_all (sized_steady k)

  utf8_steady : (offset k : ℕ) → Steady Cut more (utf8_at offset k) (utf8_at offset k)
  utf8_steady offset k = steady_then Cut more (sized_steady k) (λ s. steady_step Cut more (utf8_or (AtomText offset) s) (λ text. steady_giving Cut more text))

  atom_steady : (offset tag : ℕ) → Steady Cut more (atom_at offset tag) (atom_at offset tag)
  unfolding atom_at
  atom_steady offset tag =
      steady_if Cut more (tag == 100) (latin_steady 2)
      (steady_if Cut more (tag == 115) (latin_steady 1)
      (steady_if Cut more (tag == 118) (utf8_steady offset 2) (utf8_steady offset 1)))

  bits_steady : (offset : ℕ) → Steady Cut more (bits_at offset) (bits_at offset)
  unfolding bits_at
  bits_steady offset =
      steady_then Cut more (steady_number Cut more 4) (λ n. steady_then Cut more (steady_byte Cut more) (λ last. steady_then Cut more (steady_bytes Cut more n) (λ s.
      steady_if Cut more (has_bits s last) (steady_giving Cut more (terms.Bits s last)) (steady_none Cut more (BitTail offset)))))

  flat_steady : (offset tag : ℕ) → Steady Cut more (flat_at offset tag) (flat_at offset tag)
  unfolding flat_at
  flat_steady offset tag =
      steady_if Cut more (tag == 106) (steady_giving Cut more terms.Nil)
      (steady_if Cut more (tag == 107) (steady_made Cut more (λ s. terms.List (map byte_term s) terms.Nil) (sized_steady 2))
      (steady_if Cut more (tag == 109) (steady_made Cut more terms.Binary (sized_steady 4)) (bits_steady offset)))

  -- ---- external functions

  tag_steady : (end levels : ℕ) → Steady Cut more (tag_at end levels) (tag_at (end + length more) levels)
  unfolding tag_at
  tag_steady end levels =
      let opened : ℕ → ℕ → List ℕ → Result (ℕ × List ℕ) TermRefusal = λ offset tag rest. cond (levels == 0) (Err (Depth offset)) (giving tag rest) in
      steady_from end opened opened (steady_byte Cut more) (λ offset tag. steady_if Cut more (levels == 0) (steady_none Cut more (Depth offset)) (steady_giving Cut more tag))

  name_steady : (end levels : ℕ) → Steady Cut more (name_at end levels) (name_at (end + length more) levels)
  unfolding name_at
  name_steady end levels =
      let behind : ℕ → ℕ → List ℕ → Result (List ℕ × List ℕ) TermRefusal = λ offset tag rest. cond (is_atom_tag tag) (atom_at offset tag rest) (Err (Tag tag offset)) in
      steady_from end behind behind (tag_steady end levels) (λ offset tag. steady_if Cut more (is_atom_tag tag) (atom_steady offset tag) (steady_none Cut more (Tag tag offset)))

  arity_steady : (end levels : ℕ) → Steady Cut more (arity_at end levels) (arity_at (end + length more) levels)
  unfolding arity_at
  arity_steady end levels =
      let behind : ℕ → ℕ → List ℕ → Result (ℕ × List ℕ) TermRefusal = λ offset tag rest. cond (tag == 97) (byte_at Cut rest) (Err (Tag tag offset)) in
      steady_from end behind behind (tag_steady end levels) (λ offset tag. steady_if Cut more (tag == 97) (steady_byte Cut more) (steady_none Cut more (Tag tag offset)))

  export_steady : (end levels : ℕ) → Steady Cut more (export_at end levels) (export_at (end + length more) levels)
  unfolding export_at
  export_steady end levels =
      steady_then Cut more (name_steady end levels) (λ m. steady_then Cut more (name_steady end levels) (λ f. steady_made Cut more (λ a. terms.Export m f a) (arity_steady end levels)))

  -- ---- terms with terms in them

  module _ (inner other : List ℕ → Result (Term × List ℕ) TermRefusal) (steady : Steady Cut more inner other) where
    tuple_steady : (k : ℕ) → Steady Cut more (tuple_at inner k) (tuple_at other k)
    tuple_steady k = steady_then Cut more (steady_number Cut more k) (λ n. steady_made Cut more terms.Tuple (steady_many Cut more steady n))

    list_steady : Steady Cut more (list_at inner) (list_at other)
    list_steady = steady_then Cut more (steady_number Cut more 4) (λ n. steady_then Cut more (steady_many Cut more steady n) (λ items. steady_made Cut more (λ tail. terms.List items tail) steady))

    pair_steady : Steady Cut more (pair_at inner) (pair_at other)
    pair_steady = steady_then Cut more steady (λ key. steady_made Cut more (λ value. (key, value)) steady)

    map_steady : Steady Cut more (map_at inner) (map_at other)
    map_steady = steady_then Cut more (steady_number Cut more 4) (λ n. steady_made Cut more terms.Map (steady_many Cut more pair_steady n))

    nested_steady : (end levels tag : ℕ) → Steady Cut more (nested_at end levels inner tag) (nested_at (end + length more) levels other tag)
    unfolding nested_at
    nested_steady end levels tag =
        steady_if Cut more (tag == 104) (tuple_steady 1)
        (steady_if Cut more (tag == 105) (tuple_steady 4)
        (steady_if Cut more (tag == 108) list_steady
        (steady_if Cut more (tag == 113) (export_steady end levels) map_steady)))

    tagged_steady : (end levels offset tag : ℕ) → Steady Cut more (tagged_at end levels inner offset tag) (tagged_at (end + length more) levels other offset tag)
    unfolding tagged_at
    tagged_steady end levels offset tag =
        steady_if Cut more (is_integer_tag tag) (integer_steady tag)
        (steady_if Cut more (is_atom_tag tag) (steady_made Cut more terms.Atom (atom_steady offset tag))
        (steady_if Cut more (is_flat_tag tag) (flat_steady offset tag)
        (steady_if Cut more (is_nested_tag tag) (nested_steady end levels tag) (steady_none Cut more (Tag tag offset)))))

  -- ---- terms, by how many may stand in one another

  term_steady : (end levels : ℕ) → Steady Cut more (term_at end levels) (term_at (end + length more) levels)
  unfolding term_at
  term_steady end zero =
      let deep : ℕ → ℕ → List ℕ → Result (Term × List ℕ) TermRefusal = λ offset tag rest. Err (Depth offset) in
      steady_from end deep deep (steady_byte Cut more) (λ offset tag. steady_none Cut more (Depth offset))
  term_steady end (suc levels) =
      let inner = term_at end levels in
      let other = term_at (end + length more) levels in
      steady_from end (tagged_at end levels inner) (tagged_at (end + length more) levels other) (steady_byte Cut more)
      (λ offset tag. tagged_steady inner other (term_steady end levels) end levels offset tag)

-- ---- whole files

-- the version and the term, with the bytes behind them
abbrev front_at : ℕ → List ℕ → Result (Term × List ℕ) TermRefusal
front_at end bytes = byte_at Cut bytes >>= λ version. cond (version.0 == 131) (term_at end 256 version.1) (Err (Tag version.0 0))

front_steady : (more : List ℕ) (end : ℕ) → Steady Cut more (front_at end) (front_at (end + length more))
front_steady more end = steady_then Cut more (steady_byte Cut more) (λ version. steady_if Cut more (version == 131) (term_steady more end 256) (steady_none Cut more (Tag version 0)))

abbrev file_by : ℕ → List ℕ → Result Term TermRefusal
file_by end bytes = front_at end bytes >>= λ t. alone (Rest (end - length t.1)) t.0 t.1

file_is : (end : ℕ) (bytes : List ℕ) → file_at end bytes ≡ file_by end bytes
unfolding file_at
file_is end [] = refl
file_is end (b ∷ bytes) = refl

-- bytes behind the term are refused at their first one, whatever stands behind them
rest_stands : (more : List ℕ) (end : ℕ) (t : Term) (rest : List ℕ) (e : TermRefusal) → alone (Rest (end - length rest)) t rest ≡ Err e
    → alone (Rest (end + length more - length (rest ++ more))) t (rest ++ more) ≡ Err e
rest_stands more end t [] e refused = absurd cc
rest_stands more end t (b ∷ rest) e refused = ap (λ (n : ℕ). Err (Rest n)) (same_offset more end (b ∷ rest)) ∙ refused

pub file_refusals_stand : RefusalsStand Cut term_of
file_refusals_stand bytes more e refused other =
    let end = length bytes in
    let longer : length (bytes ++ more) ≡ end + length more = length-append bytes more in
    let steady = front_steady more end in
    let after : file_by (end + length more) (bytes ++ more) ≡ Err e =
    elim (bind_err (front_at end bytes) (λ (t : Term × List ℕ). alone (Rest (end - length t.1)) t.0 t.1) e (sym (file_is end bytes) ∙ refused)) [
      | inl one ↦ let read : front_at (end + length more) (bytes ++ more) ≡ Err e = steady.stands bytes e one other in rw read refl
      | inr two ↦
          let read : front_at (end + length more) (bytes ++ more) ≡ Ok (two.0.0, two.0.1 ++ more) = steady.goes_on bytes two.0.0 two.0.1 two.1 in
          rw read (rest_stands more end two.0.0 two.0.1 e two.2)
    ] in
    ap (λ (n : ℕ). file_at n (bytes ++ more)) longer ∙ file_is (end + length more) (bytes ++ more) ∙ after

cut_or_other : (e : TermRefusal) → (e ≡ Cut) ⊎ (e ≢ Cut)
cut_or_other Cut = inl refl
cut_or_other (Tag tag at) = inr (λ same. cc)
cut_or_other (Depth at) = inr (λ same. cc)
cut_or_other (AtomText at) = inr (λ same. cc)
cut_or_other (BitTail at) = inr (λ same. cc)
cut_or_other (Rest at) = inr (λ same. cc)
cut_or_other NoMemory = inr (λ same. cc)

-- where bytes are a term, and with others behind them too, there are no others
nothing_behind : (front back : List ℕ) (x y : Term) → term_of front ≡ Ok y → term_of (front ++ back) ≡ Ok x → length back ≡ 0
nothing_behind front back x y first second =
    let end = length front in
    let b = bind_ok (front_at end front) (λ (t : Term × List ℕ). alone (Rest (end - length t.1)) t.0 t.1) y (sym (file_is end front) ∙ first) in
    let on : front_at (end + length back) (front ++ back) ≡ Ok (b.0.0, b.0.1 ++ back) = (front_steady back end).goes_on front b.0.0 b.0.1 b.1 in
    let longer : length (front ++ back) ≡ end + length back = length-append front back in
    let whole : file_by (end + length back) (front ++ back) ≡ Ok x = sym (file_is (end + length back) (front ++ back)) ∙ ap (λ (n : ℕ). file_at n (front ++ back)) (sym longer) ∙ second in
    let none = alone_ok (Rest (end + length back - length (b.0.1 ++ back))) b.0.0 x (b.0.1 ++ back) (rw on at whole) in
    omega (arith, ap length none.0, length-append b.0.1 back)

pub file_fronts_are_cut : FrontsAreCut Cut term_of SpellsTermFile
file_fronts_are_cut = fronts_are_cut_whole Cut term_of SpellsTermFile cut_or_other file_refusals_stand nothing_behind file_again

some_behind : (e : TermRefusal) (t : Term) (more : List ℕ) → 1 ≤ length more → alone e t more ≡ Err e
some_behind e t [] some = absurd (omega arith)
some_behind e t (b ∷ more) some = refl

-- bytes behind a whole file are refused where it ends
pub rest_behind : (t : Term) (bytes more : List ℕ) → SpellsTermFile t bytes → 1 ≤ length more → term_of (bytes ++ more) ≡ Err (Rest (length bytes))
rest_behind t bytes more is some =
    let end = length bytes in
    let b = bind_ok (front_at end bytes) (λ (t : Term × List ℕ). alone (Rest (end - length t.1)) t.0 t.1) t (sym (file_is end bytes) ∙ file_again t bytes is) in
    let none = (alone_ok (Rest (end - length b.0.1)) b.0.0 t b.0.1 b.2).0 in
    let on : front_at (end + length more) (bytes ++ more) ≡ Ok (b.0.0, b.0.1 ++ more) = (front_steady more end).goes_on bytes b.0.0 b.0.1 b.1 in
    let read : front_at (end + length more) (bytes ++ more) ≡ Ok (b.0.0, more) = on ∙ ap (λ (u : List ℕ). Ok (b.0.0, u ++ more)) none in
    let at : end + length more - length more ≡ end = omega arith in
    ap (λ (n : ℕ). file_at n (bytes ++ more)) (length-append bytes more) ∙ file_is (end + length more) (bytes ++ more)
    ∙ rw read (some_behind (Rest (end + length more - length more)) b.0.0 more some ∙ ap (λ (n : ℕ). Err (Rest n)) at)
