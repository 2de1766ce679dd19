-- A term that bytes spell meets its type.
use Rattle.std.proofs.Common.{◌≡◌, ℕ, zero, suc, ◌-◌, ◌^◌, ◌<◌, ◌≤◌, pos, negsuc, ◌-ℤ◌, Bool, true, false, List, [], ◌∷◌, length, map, All, IsUtf8, refl, sym, ap, subst, ◌∙◌, arith, inl, inr}
use Rattle.std.specs.Str.{encode_utf8_all}
use Rattle.std.specs.Char.{encode_utf8}
use Rattle.std.proofs.Math.Nat.{pow-le-pow_right}
use Rattle.std.proofs.Math.Utf8.{low_scalar}
use Rattle.std.proofs.lemmas.Bool.{cases_lt, lt-ltb, le-ltb}
use Rattle.std.proofs.lemmas.Int.{ints}
use Rattle.std.proofs.lemmas.List.Elements.{All-cons}
use Rattle.std.proofs.lemmas.Str.{IsUtf8-nil, IsUtf8-append, IsUtf8-encode}
use Rattle.byteorder.specs.Endian.{twos_complement, little_number}
use Rattle.byteorder.specs.Numbers.{little_from-lt}
use Rattle.bk_codec.specs.Spelling.{IsBytes, Then, SpellsMany, SpellsBytes}
use Rattle.bk_codec.proofs.Agreement.{IsBytes-front, IsBytes-back, IsBytes-tail}
use Rattle.ext_term.specs.Integer.{int_of, is_minus, big_of}
use Rattle.ext_term.specs.Spelling.{SpellsBig, SpellsAtom, latin_100, latin_115, utf8_118, utf8_119, SpellsPair, byte_term, SpellsTagged, small_97, signed_98, big_110, big_111, atom, tuple_104, tuple_105, nil_106, string_107, list_108, binary_109, bits_77, export_113, map_116, SpellsTerm, SpellsTermFile}
use Rattle.ext_term.specs.declared.term.Term.{Term, roll-Term, every_made-Term}
use Rattle.ext_term.specs.declared.term.Term.TheOpen.{Term-F}
use Rattle.ext_term.specs.declared.term.Term.TheVariants as terms
use Rattle.ext_term.specs.Writing.{LayerMeetsType, MeetsType}
use Rattle.ext_term.proofs.Meeting.{Met, InsideMeetsType}

-- ---- a term by its layer

-- a list of values with facts, seen as the values alone
pub record Facts {A B : Type 0} (view : B → A) (xs : List A) : Type 0 where
  pub each : List B
  pub are : map view each ≡ xs

with_facts : {A B : Type 0} (view : B → A) (M : A → Type 0) (with : (x : A) → M x → B) → ((x : A) (m : M x) → view (with x m) ≡ x)
    → (xs : List A) → All M xs → Facts view xs
with_facts view M with same [] meets = record { each = []; are = refl }
with_facts view M with same (x ∷ xs) meets =
    let first = meets 0 x (omega arith) in
    let others = with_facts view M with same xs (λ k d lt. meets (suc k) d (omega arith)) in
    record { each = with x first ∷ others.each; are = ap (λ (y : _). y ∷ map view others.each) (same x first) ∙ ap (λ (ys : List _). x ∷ ys) others.are }

abbrev items_with : (items : List Term) → All MeetsType items → Facts (λ (met : Met). met.0) items
items_with = with_facts (λ met. met.0) MeetsType (λ t meets. (t, meets)) (λ t meets. refl)

abbrev BothMeet : Term × Term → Type 0
BothMeet pair = MeetsType pair.0 × MeetsType pair.1

abbrev pairs_with : (pairs : List (Term × Term)) → All BothMeet pairs → Facts (λ (pair : Met × Met). (pair.0.0, pair.1.0)) pairs
pairs_with = with_facts (λ pair. (pair.0.0, pair.1.0)) BothMeet (λ pair meets. ((pair.0, meets.0), (pair.1, meets.1))) (λ pair meets. refl)

by_layer : (f : Term-F Term) → LayerMeetsType f → InsideMeetsType f → MeetsType (roll-Term f)
by_layer (Term-F.Int neg mag) here held = every_made-Term LayerMeetsType (Term-F.Int neg mag) (Term-F.Int neg mag) refl here
by_layer (Term-F.Wide neg mag) here held = every_made-Term LayerMeetsType (Term-F.Wide neg mag) (Term-F.Wide neg mag) refl here
by_layer (Term-F.Atom name) here held = every_made-Term LayerMeetsType (Term-F.Atom name) (Term-F.Atom name) refl here
by_layer (Term-F.Tuple items) here held =
    let facts = items_with items held in
    every_made-Term LayerMeetsType (Term-F.Tuple items) (Term-F.Tuple facts.each) (ap (λ (us : List Term). Term-F.Tuple us) facts.are) here
by_layer Term-F.Nil here held = every_made-Term LayerMeetsType Term-F.Nil Term-F.Nil refl here
by_layer (Term-F.List items tail) here held =
    let facts = items_with items held.0 in
    every_made-Term LayerMeetsType (Term-F.List items tail) (Term-F.List facts.each (tail, held.1)) (ap (λ (us : List Term). Term-F.List us tail) facts.are) here
by_layer (Term-F.Binary s) here held = every_made-Term LayerMeetsType (Term-F.Binary s) (Term-F.Binary s) refl here
by_layer (Term-F.Bits s last) here held = every_made-Term LayerMeetsType (Term-F.Bits s last) (Term-F.Bits s last) refl here
by_layer (Term-F.Map pairs) here held =
    let facts = pairs_with pairs held in
    every_made-Term LayerMeetsType (Term-F.Map pairs) (Term-F.Map facts.each) (ap (λ (us : List (Term × Term)). Term-F.Map us) facts.are) here
by_layer (Term-F.Export m f arity) here held = every_made-Term LayerMeetsType (Term-F.Export m f arity) (Term-F.Export m f arity) refl here

made : (t : Term) (f : Term-F Term) → roll-Term f ≡ t → LayerMeetsType f → InsideMeetsType f → MeetsType t
made t f is here held = subst MeetsType is (by_layer f here held)

int_meets : (neg : Bool) (mag : ℕ) → mag < 2 ^ 128 → MeetsType (terms.Int neg mag)
int_meets neg mag below = made _ (Term-F.Int neg mag) (terms.rolls-Int neg mag) below tt

-- ---- integers

signed_meets : (n : ℕ) → n < 256 ^ 4 → MeetsType (int_of (twos_complement 4 n))
signed_meets n fits =
    elim (cases_lt n (2 ^ 31)) [
      | inl low ↦ rw (lt-ltb n (2 ^ 31) low) (int_meets false n (omega arith))
      | inr high ↦
          let value : pos n -ℤ pos (2 ^ 32) ≡ negsuc (2 ^ 32 - n - 1) = omega (arith, ints) in
          rw (le-ltb n (2 ^ 31) high) (subst MeetsType (sym (ap int_of value)) (int_meets true (suc (2 ^ 32 - n - 1)) (omega arith)))
    ]

big_meets : (sign : ℕ) (mag : List ℕ) → IsBytes mag → MeetsType (big_of sign mag)
unfolding big_of
big_meets sign mag bytes =
    elim (cases_lt 16 (length mag)) [
      | inl long ↦ rw (lt-ltb 16 (length mag) long) (made _ (Term-F.Wide (is_minus sign) mag) (terms.rolls-Wide (is_minus sign) mag) bytes tt)
      | inr few ↦
          let most : 256 ^ length mag ≤ 256 ^ 16 = pow-le-pow_right (omega arith) few in
          rw (le-ltb 16 (length mag) few) (int_meets _ (little_number (length mag) mag) (omega (arith, little_from-lt 0 (length mag) mag bytes)))
    ]

-- ---- parts of bytes

second_bytes : {P Q : List ℕ → Type 0} (bytes : List ℕ) (is : Then P Q bytes) → IsBytes bytes → IsBytes is.back
second_bytes bytes is fits = IsBytes-back is.front is.back (subst IsBytes is.joined fits)

first_bytes : {P Q : List ℕ → Type 0} (bytes : List ℕ) (is : Then P Q bytes) → IsBytes bytes → IsBytes is.front
first_bytes bytes is fits = IsBytes-front is.front is.back (subst IsBytes is.joined fits)

sized_bytes : (k : ℕ) (s bytes : List ℕ) → SpellsBytes k s bytes → IsBytes bytes → IsBytes s
sized_bytes k s bytes is fits = subst IsBytes is.back_is (second_bytes bytes is fits)

big_bytes_fit : (k sign : ℕ) (mag bytes : List ℕ) → SpellsBig k sign mag bytes → IsBytes bytes → IsBytes mag
big_bytes_fit k sign mag bytes is fits = IsBytes-tail sign mag (subst IsBytes is.back_is (second_bytes bytes is fits))

-- bytes as characters are a text
latin_utf8 : (s : List ℕ) → IsBytes s → IsUtf8 (encode_utf8_all s)
latin_utf8 [] fits = IsUtf8-nil
latin_utf8 (b ∷ s) fits =
    let below : b < 256 = fits 0 in
    IsUtf8-append (encode_utf8 b) (encode_utf8_all s) (IsUtf8-encode b (low_scalar b (omega arith))) (latin_utf8 s (IsBytes-tail b s fits))

name_utf8 : (name text : List ℕ) → SpellsAtom name text → IsBytes text → IsUtf8 name
name_utf8 name text (latin_100 s bytes is) fits = latin_utf8 s (sized_bytes 2 s bytes is (IsBytes-tail 100 bytes fits))
name_utf8 name text (latin_115 s bytes is) fits = latin_utf8 s (sized_bytes 1 s bytes is (IsBytes-tail 115 bytes fits))
name_utf8 name text (utf8_118 s bytes utf8 is) fits = utf8
name_utf8 name text (utf8_119 s bytes utf8 is) fits = utf8

byte_terms_meet : (s : List ℕ) → IsBytes s → All MeetsType (map byte_term s)
byte_terms_meet [] fits = λ k d lt. absurd (omega arith)
byte_terms_meet (b ∷ s) fits =
    let below : b < 256 = fits 0 in
    All-cons MeetsType (byte_term b) (map byte_term s) (int_meets false b (omega arith)) (byte_terms_meet s (IsBytes-tail b s fits))

-- values one after another, each of which meets its type where bytes spell it
each_meets : {A : Type 0} (R : A → List ℕ → Type 0) (M : A → Type 0) → ((x : A) (text : List ℕ) → IsBytes text → R x text → M x)
    → (xs : List A) (text : List ℕ) → IsBytes text → SpellsMany R xs text → All M xs
each_meets R M one [] text fits is = λ k d lt. absurd (omega arith)
each_meets R M one (x ∷ xs) text fits is =
    All-cons M x xs (one x is.front (first_bytes text is fits) is.front_is) (each_meets R M one xs is.back (second_bytes text is fits) is.back_is)

-- ---- a term, where those in it are known to be so

module _ (n : ℕ) (one : (t : Term) (text : List ℕ) → IsBytes text → SpellsTerm n t text → MeetsType t) where
  items_meet : (items : List Term) (text : List ℕ) → IsBytes text → SpellsMany (SpellsTerm n) items text → All MeetsType items
  items_meet = each_meets (SpellsTerm n) MeetsType one

  pair_meets : (pair : Term × Term) (text : List ℕ) → IsBytes text → SpellsPair (SpellsTerm n) pair text → BothMeet pair
  pair_meets pair text fits is = (one pair.0 is.front (first_bytes text is fits) is.front_is, one pair.1 is.back (second_bytes text is fits) is.back_is)

  tuple_meets : (items : List Term) → All MeetsType items → MeetsType (terms.Tuple items)
  tuple_meets items each = made _ (Term-F.Tuple items) (terms.rolls-Tuple items) tt each

  tagged_meets : (t : Term) (text : List ℕ) → IsBytes text → SpellsTagged n (SpellsTerm n) t text → MeetsType t
  tagged_meets t text fits (small_97 k bytes is) = int_meets false k (omega (arith, is.fits))
  tagged_meets t text fits (signed_98 k bytes is) = signed_meets k is.fits
  tagged_meets t text fits (big_110 sign mag bytes is) = big_meets sign mag (big_bytes_fit 1 sign mag bytes is (IsBytes-tail 110 bytes fits))
  tagged_meets t text fits (big_111 sign mag bytes is) = big_meets sign mag (big_bytes_fit 4 sign mag bytes is (IsBytes-tail 111 bytes fits))
  tagged_meets t text fits (atom name bytes is) = made _ (Term-F.Atom name) (terms.rolls-Atom name) (name_utf8 name bytes is fits) tt
  tagged_meets t text fits (tuple_104 items bytes is) = tuple_meets items (items_meet items is.back (second_bytes bytes is (IsBytes-tail 104 bytes fits)) is.back_is)
  tagged_meets t text fits (tuple_105 items bytes is) = tuple_meets items (items_meet items is.back (second_bytes bytes is (IsBytes-tail 105 bytes fits)) is.back_is)
  tagged_meets t text fits nil_106 = made _ Term-F.Nil terms.rolls-Nil tt tt
  tagged_meets t text fits (string_107 s bytes is) =
      made _ (Term-F.List (map byte_term s) terms.Nil) (terms.rolls-List (map byte_term s) terms.Nil) tt
      (byte_terms_meet s (sized_bytes 2 s bytes is (IsBytes-tail 107 bytes fits)), made _ Term-F.Nil terms.rolls-Nil tt tt)
  tagged_meets t text fits (list_108 items tail bytes is) =
      let behind = second_bytes bytes is (IsBytes-tail 108 bytes fits) in
      made _ (Term-F.List items tail) (terms.rolls-List items tail) tt
      (items_meet items is.back_is.front (first_bytes is.back is.back_is behind) is.back_is.front_is, one tail is.back_is.back (second_bytes is.back is.back_is behind) is.back_is.back_is)
  tagged_meets t text fits (binary_109 s bytes is) = made _ (Term-F.Binary s) (terms.rolls-Binary s) (sized_bytes 4 s bytes is (IsBytes-tail 109 bytes fits)) tt
  tagged_meets t text fits (bits_77 s bytes last some low high is) =
      let behind = subst IsBytes is.back_is (second_bytes bytes is (IsBytes-tail 77 bytes fits)) in
      made _ (Term-F.Bits s last) (terms.rolls-Bits s last) (IsBytes-tail last s behind, behind 0) tt
  tagged_meets t text fits (export_113 m f bytes arity deep is) =
      let behind = IsBytes-tail 113 bytes fits in
      let last = second_bytes bytes is behind in
      let number = subst IsBytes is.back_is.back_is (second_bytes is.back is.back_is last) in
      made _ (Term-F.Export m f arity) (terms.rolls-Export m f arity)
      (name_utf8 m is.front is.front_is (first_bytes bytes is behind), name_utf8 f is.back_is.front is.back_is.front_is (first_bytes is.back is.back_is last), number 1) tt
  tagged_meets t text fits (map_116 pairs bytes is) =
      made _ (Term-F.Map pairs) (terms.rolls-Map pairs) tt
      (each_meets (SpellsPair (SpellsTerm n)) BothMeet pair_meets pairs is.back (second_bytes bytes is (IsBytes-tail 116 bytes fits)) is.back_is)

-- ---- terms, by how many stand in one another

term_meets : (levels : ℕ) (t : Term) (text : List ℕ) → IsBytes text → SpellsTerm levels t text → MeetsType t
unfolding SpellsTerm
term_meets zero t text fits is = absurd is
term_meets (suc n) t text fits is = tagged_meets n (term_meets n) t text fits is

pub file_meets : (t : Term) (bytes : List ℕ) → IsBytes bytes → SpellsTermFile t bytes → MeetsType t
file_meets t bytes fits is = term_meets 256 t is.back (second_bytes bytes is fits) is.back_is
