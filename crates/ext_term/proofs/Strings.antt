-- Which terms are written as a byte, and which lists as bytes.
use Rattle.std.proofs.Common.{◌≡◌, ℕ, suc, ◌<◌, ltb, leb, Bool, true, false, not, ◌&&◌, List, [], ◌∷◌, ◌++◌, length, map, is_some, All, arith, refl, sym, ap, subst, ◌∙◌, inl, inr}
use Rattle.std.specs.List.{flat_map, list_all}
use Rattle.std.proofs.lemmas.List.Sums.{list_all-from_AllPass, AllPass-from_list_all}
use Rattle.std.proofs.lemmas.Bool.{cases_Bool, false≢true, ltb-true, leb-true, lt-ltb, le-leb}
use Rattle.ext_term.specs.Spelling.{byte_term}
use Rattle.ext_term.specs.declared.term.Term.{Term, out-Term, roll-Term, roll-out-Term}
use Rattle.ext_term.specs.declared.term.Term.TheOpen.{Term-F}
use Rattle.ext_term.specs.declared.term.Term.TheVariants as terms
use Rattle.ext_term.specs.Writing.{Written, term_written, integer_written, has_32_bits, byte_list, is_string, IsByteTerm, IsString}
use Rattle.ext_term.proofs.Written.{layer, layer_written, is_string_here}

-- ---- the empty list

integer_is : (neg : Bool) (mag : ℕ) → (integer_written neg mag).is_nil ≡ false
unfolding integer_written
integer_is neg mag =
    elim (cases_Bool (not neg && ltb mag 256)) [
      | inl small ↦ rw small refl
      | inr large ↦ elim (cases_Bool (has_32_bits neg mag)) [
        | inl word ↦ rw (large, word) refl
        | inr big ↦ rw (large, big) refl
      ]
    ]

nil_layer : (f : Term-F Term) → (layer f).is_nil ≡ true → roll-Term f ≡ terms.Nil
nil_layer (Term-F.Int neg mag) is = absurd (false≢true (sym (integer_is neg mag) ∙ is))
nil_layer (Term-F.Wide neg mag) is = absurd (false≢true is)
nil_layer (Term-F.Atom name) is = absurd (false≢true is)
nil_layer (Term-F.Tuple items) is = absurd (false≢true is)
nil_layer Term-F.Nil is = terms.rolls-Nil
nil_layer (Term-F.List items tail) is = absurd (false≢true is)
nil_layer (Term-F.Binary s) is = absurd (false≢true is)
nil_layer (Term-F.Bits s last) is = absurd (false≢true is)
nil_layer (Term-F.Map pairs) is = absurd (false≢true is)
nil_layer (Term-F.Export m f arity) is = absurd (false≢true is)

pub nil_is : (t : Term) → (term_written t).is_nil ≡ true → t ≡ terms.Nil
nil_is t is =
    let f = out-Term t in
    let same : roll-Term f ≡ t = roll-out-Term t in
    sym same ∙ nil_layer f (ap (λ (w : Written). w.is_nil) (sym (layer_written (roll-Term f) f refl)) ∙ ap (λ (u : Term). (term_written u).is_nil) same ∙ is)

-- ---- integers of one byte

pub small_parts : (neg : Bool) (mag : ℕ) → (not neg && ltb mag 256) ≡ true → (neg ≡ false) × (mag < 256)
small_parts true mag small = absurd (false≢true small)
small_parts false mag small = (refl, ltb-true mag 256 small)

integer_byte : (neg : Bool) (mag : ℕ) → is_some (integer_written neg mag).byte ≡ true → (neg ≡ false) × (mag < 256)
unfolding integer_written
integer_byte neg mag is =
    elim (cases_Bool (not neg && ltb mag 256)) [
      | inl small ↦ small_parts neg mag small
      | inr large ↦ elim (cases_Bool (has_32_bits neg mag)) [
        | inl word ↦ absurd (false≢true (rw (large, word) at is))
        | inr big ↦ absurd (false≢true (rw (large, big) at is))
      ]
    ]

byte_layer : (f : Term-F Term) → is_some (layer f).byte ≡ true → IsByteTerm (roll-Term f)
byte_layer (Term-F.Int neg mag) is =
    let p = integer_byte neg mag is in
    (mag, p.1, terms.rolls-Int neg mag ∙ ap (λ (n : Bool). terms.Int n mag) p.0)
byte_layer (Term-F.Wide neg mag) is = absurd (false≢true is)
byte_layer (Term-F.Atom name) is = absurd (false≢true is)
byte_layer (Term-F.Tuple items) is = absurd (false≢true is)
byte_layer Term-F.Nil is = absurd (false≢true is)
byte_layer (Term-F.List items tail) is = absurd (false≢true is)
byte_layer (Term-F.Binary s) is = absurd (false≢true is)
byte_layer (Term-F.Bits s last) is = absurd (false≢true is)
byte_layer (Term-F.Map pairs) is = absurd (false≢true is)
byte_layer (Term-F.Export m f arity) is = absurd (false≢true is)

byte_is : (t : Term) → is_some (term_written t).byte ≡ true → IsByteTerm t
byte_is t is =
    let f = out-Term t in
    let same : roll-Term f ≡ t = roll-out-Term t in
    subst IsByteTerm same (byte_layer f (ap (λ (w : Written). is_some w.byte) (sym (layer_written (roll-Term f) f refl)) ∙ ap (λ (u : Term). is_some (term_written u).byte) same ∙ is))

byte_of_term : (b : ℕ) → b < 256 → byte_list (term_written (byte_term b)).byte ≡ b ∷ []
unfolding integer_written
byte_of_term b below = ap (λ (w : Written). byte_list w.byte) (layer_written _ (Term-F.Int false b) (terms.rolls-Int false b)) ∙ rw (lt-ltb b 256 below) refl

-- ---- lists that are written as bytes

byte_written : (t : Term) → IsByteTerm t → is_some (term_written t).byte ≡ true
unfolding integer_written
byte_written t is =
    ap (λ (u : Term). is_some (term_written u).byte) is.2
    ∙ ap (λ (w : Written). is_some w.byte) (layer_written _ (Term-F.Int false is.0) (terms.rolls-Int false is.0))
    ∙ rw (lt-ltb is.0 256 is.1) refl

nil_written : (term_written terms.Nil).is_nil ≡ true
nil_written = ap (λ (w : Written). w.is_nil) (layer_written _ Term-F.Nil terms.rolls-Nil)

pub string_is : (items : List Term) (tail : Term) → IsString items tail → is_string (map term_written items) (term_written tail) ≡ true
string_is items tail is =
    let nil : (term_written tail).is_nil ≡ true = ap (λ (t : Term). (term_written t).is_nil) is.3 ∙ nil_written in
    let bytes : list_all (λ t. is_some (term_written t).byte) items ≡ true = list_all-from_AllPass (λ t. is_some (term_written t).byte) items (λ k d lt. byte_written _ (is.2 k d lt)) in
    is_string_here items tail ∙ rw (nil, le-leb _ _ is.0, lt-ltb _ _ is.1, bytes) refl

pub record ByteTerms (items : List Term) : Type 0 where
  pub bytes : List ℕ
  pub are : items ≡ map byte_term bytes
  pub written : flat_map (λ t. byte_list (term_written t).byte) items ≡ bytes

pub both_true : (a b : Bool) → (a && b) ≡ true → (a ≡ true) × (b ≡ true)
both_true true b is = (refl, is)
both_true false b is = absurd (false≢true is)

pub string_back : (items : List Term) (tail : Term) → is_string (map term_written items) (term_written tail) ≡ true → IsString items tail
string_back items tail string =
    let nil = (term_written tail).is_nil in
    let some = leb 1 (length items) in
    let few = ltb (length items) 65536 in
    let byte : Term → Bool = λ t. is_some (term_written t).byte in
    let a = both_true (nil && some && few) (list_all byte items) (rw (is_string_here items tail) at string) in
    let b = both_true (nil && some) few a.0 in
    let c = both_true nil some b.0 in
    (leb-true 1 (length items) c.1, ltb-true (length items) 65536 b.1, (λ k d lt. byte_is _ (AllPass-from_list_all byte items a.1 k d lt)), nil_is tail c.0)

pub bytes_are : (items : List Term) → All IsByteTerm items → ByteTerms items
bytes_are [] each = record { bytes = []; are = refl; written = refl }
bytes_are (t ∷ items) each =
    let first = each 0 t (omega arith) in
    let others = bytes_are items (λ k d lt. each (suc k) d (omega arith)) in
    let one : byte_list (term_written t).byte ≡ first.0 ∷ [] = ap (λ (u : Term). byte_list (term_written u).byte) first.2 ∙ byte_of_term first.0 first.1 in
    record {
      bytes = first.0 ∷ others.bytes;
      are = ap (λ (u : Term). u ∷ items) first.2 ∙ ap (λ (us : List Term). byte_term first.0 ∷ us) others.are;
      written = ap (λ (s : List ℕ). s ++ flat_map (λ u. byte_list (term_written u).byte) items) one ∙ ap (λ (s : List ℕ). first.0 ∷ s) others.written;
    }
