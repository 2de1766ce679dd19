-- What is written of a term is one of its spellings.
use Rattle.std.proofs.Common.{◌≡◌, ℕ, zero, suc, ◌-◌, ◌^◌, ◌<◌, ◌≤◌, ◌⊎◌, ltb, pos, negsuc, ◌-ℤ◌, Bool, true, false, not, ◌&&◌, ◌==◌, List, [], ◌∷◌, ◌++◌, length, map, get_or, All, IsUtf8, refl, sym, ap, subst, ◌∙◌, arith, inl, inr}
use Rattle.std.specs.List.{flat_map}
use Rattle.std.proofs.lemmas.Bool.{cases_Bool, cases_lt, cases_eq, false≢true, ltb-true, lt-ltb, le-ltb, leb-true, ne_eqb}
use Rattle.std.proofs.lemmas.Int.{ints}
use Rattle.std.proofs.lemmas.List.{length-map}
use Rattle.byteorder.specs.Endian.{big_bytes, twos_complement, little_number}
use Rattle.bk_codec.specs.Spelling.{Then, SpellsMany, SpellsNumber}
use Rattle.ext_term.specs.Integer.{int_of, is_minus, big_of}
use Rattle.ext_term.specs.Spelling.{SpellsAtom, SpellsPair, SpellsTagged, SpellsTerm, byte_term}
use Rattle.ext_term.specs.declared.term.Term.{Term, out-Term, roll-Term, roll-out-Term}
use Rattle.ext_term.specs.declared.term.Term.TheOpen.{Term-F}
use Rattle.ext_term.specs.declared.term.Term.TheVariants as terms
use Rattle.ext_term.specs.Writing.{term_written, spelling, integer_written, big_bytes_of, has_32_bits, bits_32, significant, sign_byte, atom_bytes, tuple_head, pair_bytes, byte_list, is_string, string_bytes, FitsName, IsString, FitsBy, IsWritable, LayerMeetsType, MeetsType}
use Rattle.ext_term.proofs.Meeting.{InsideMeetsType, meets_here, meets_inside}
use Rattle.ext_term.proofs.Magnitude.{significant_few, significant_number}
use Rattle.ext_term.proofs.Strings.{small_parts, bytes_are, string_is, string_back}
use Rattle.ext_term.proofs.Written.{int_spelling, wide_spelling, atom_spelling, tuple_spelling, nil_spelling, general_spelling, string_spelling, binary_spelling, bits_spelling, map_spelling, export_spelling, string_bytes_here}

-- ---- fields

-- a number of one byte
pub byte_number : (x : ℕ) → x < 256 → SpellsNumber 1 x (x ∷ [])
byte_number x below = record { fits = below; is = ap (λ (b : ℕ). b ∷ []) (omega arith) }

pub joined : {P Q : List ℕ → Type 0} (front back : List ℕ) → P front → Q back → Then P Q (front ++ back)
joined front back p q = record { front = front; back = back; front_is = p; back_is = q; joined = refl }

number : (k x : ℕ) → x < 256 ^ k → SpellsNumber k x (big_bytes k x)
number k x fits = record { fits = fits; is = refl }

-- values one after another, each as it is written
many : {A : Type 0} (R : A → List ℕ → Type 0) (f : A → List ℕ) (xs : List A) → All (λ x. R x (f x)) xs → SpellsMany R xs (flat_map f xs)
many R f [] each = refl
many R f (x ∷ xs) each = joined (f x) (flat_map f xs) (each 0 x (omega arith)) (many R f xs (λ k d lt. each (suc k) d (omega arith)))

-- ---- integers

sign_is : (neg : Bool) → is_minus (sign_byte neg) ≡ neg
sign_is true = refl
sign_is false = refl

big_good : (n : ℕ) (Inner : Term → List ℕ → Type 0) (neg : Bool) (mag : List ℕ) → length mag < 2 ^ 32 → SpellsTagged n Inner (big_of (sign_byte neg) mag) (big_bytes_of neg mag)
big_good n Inner neg mag fits =
    elim (cases_lt (length mag) 256) [
      | inl few ↦ rw (lt-ltb _ _ few) (SpellsTagged.big_110 (sign_byte neg) mag (length mag ∷ sign_byte neg ∷ mag) (joined (length mag ∷ []) (sign_byte neg ∷ mag) (byte_number (length mag) few) refl))
      | inr many ↦ rw (le-ltb _ _ many) (SpellsTagged.big_111 (sign_byte neg) mag (big_bytes 4 (length mag) ++ (sign_byte neg ∷ mag)) (joined (big_bytes 4 (length mag)) (sign_byte neg ∷ mag) (number 4 (length mag) fits) refl))
    ]

wide_is : (neg : Bool) (mag : List ℕ) → 17 ≤ length mag → big_of (sign_byte neg) mag ≡ terms.Wide neg mag
unfolding big_of
wide_is neg mag long = rw (lt-ltb 16 (length mag) long) (ap (λ (s : Bool). terms.Wide s mag) (sign_is neg))

-- only zero has no sign
signed : (neg : Bool) (mag : ℕ) → (mag ≡ 0 → neg ≡ false) → (neg && not (mag == 0)) ≡ neg
signed false mag sign = refl
signed true mag sign =
    elim (cases_eq mag 0) [
      | inl none ↦ absurd (false≢true (sym (sign none)))
      | inr some ↦ rw (ne_eqb mag 0 some) refl
    ]

big_is : (neg : Bool) (mag : ℕ) → mag < 2 ^ 128 → (mag ≡ 0 → neg ≡ false) → big_of (sign_byte neg) (significant 16 mag) ≡ terms.Int neg mag
unfolding big_of
big_is neg mag fits sign =
    let few = significant_few 16 mag in
    let value : little_number (length (significant 16 mag)) (significant 16 mag) ≡ mag = significant_number 16 mag fits in
    rw (le-ltb 16 (length (significant 16 mag)) few, value, sign_is neg) (ap (λ (s : Bool). terms.Int s mag) (signed neg mag sign))

some_magnitude : (mag : ℕ) → (mag ≡ 0 → true ≡ false) → 1 ≤ mag
some_magnitude zero sign = absurd (false≢true (sym (sign refl)))
some_magnitude (suc mag) sign = omega arith

word_is : (neg : Bool) (mag : ℕ) → (mag ≡ 0 → neg ≡ false) → has_32_bits neg mag ≡ true → (bits_32 neg mag < 256 ^ 4) × (int_of (twos_complement 4 (bits_32 neg mag)) ≡ terms.Int neg mag)
word_is false mag sign word =
    let low : mag < 2 ^ 31 = ltb-true mag (2 ^ 31) word in
    (omega arith, rw (lt-ltb mag (2 ^ 31) low) refl)
word_is true mag sign word =
    let low : mag ≤ 2 ^ 31 = leb-true mag (2 ^ 31) word in
    let some : 1 ≤ mag = some_magnitude mag sign in
    let high : 2 ^ 31 ≤ 2 ^ 32 - mag = omega arith in
    let value : pos (2 ^ 32 - mag) -ℤ pos (2 ^ 32) ≡ negsuc (mag - 1) = omega (arith, ints) in
    let back : suc (mag - 1) ≡ mag = omega arith in
    (omega arith, rw (le-ltb (2 ^ 32 - mag) (2 ^ 31) high) (ap int_of value ∙ ap (λ (m : ℕ). terms.Int true m) back))

int_good : (n : ℕ) (Inner : Term → List ℕ → Type 0) (neg : Bool) (mag : ℕ) → mag < 2 ^ 128 → (mag ≡ 0 → neg ≡ false) → SpellsTagged n Inner (terms.Int neg mag) (integer_written neg mag).bytes
unfolding integer_written
int_good n Inner neg mag fits sign =
    elim (cases_Bool (not neg && ltb mag 256)) [
      | inl small ↦ rw small (let p = small_parts neg mag small in subst (λ (s : Bool). SpellsTagged n Inner (terms.Int s mag) (97 ∷ mag ∷ [])) (sym p.0) (SpellsTagged.small_97 mag (mag ∷ []) (byte_number mag p.1)))
      | inr large ↦ elim (cases_Bool (has_32_bits neg mag)) [
        | inl word ↦ rw (large, word) (let w = word_is neg mag sign word in subst (λ (t : Term). SpellsTagged n Inner t (98 ∷ big_bytes 4 (bits_32 neg mag))) w.1 (SpellsTagged.signed_98 (bits_32 neg mag) (big_bytes 4 (bits_32 neg mag)) (number 4 (bits_32 neg mag) w.0)))
        | inr big ↦ rw (large, big) (let few = significant_few 16 mag in subst (λ (t : Term). SpellsTagged n Inner t (big_bytes_of neg (significant 16 mag))) (big_is neg mag fits sign) (big_good n Inner neg (significant 16 mag) (omega arith)))
      ]
    ]

-- ---- atoms

pub atom_good : (name : List ℕ) → IsUtf8 name → FitsName name → SpellsAtom name (atom_bytes name)
unfolding atom_bytes
atom_good name utf8 fits =
    elim (cases_lt (length name) 256) [
      | inl few ↦ rw (lt-ltb _ _ few) (SpellsAtom.utf8_119 name (length name ∷ name) utf8 (joined (length name ∷ []) name (byte_number (length name) few) refl))
      | inr many ↦ rw (le-ltb _ _ many) (SpellsAtom.utf8_118 name (big_bytes 2 (length name) ++ name) utf8 (joined (big_bytes 2 (length name)) name (number 2 (length name) fits) refl))
    ]

-- ---- tuples, lists and maps, whose terms `Inner` spells as they are written

tuple_good : (n : ℕ) (Inner : Term → List ℕ → Type 0) (items : List Term) → length items < 2 ^ 32 → All (λ t. Inner t (spelling t)) items
    → SpellsTagged n Inner (terms.Tuple items) (tuple_head (length items) ++ flat_map spelling items)
tuple_good n Inner items fits each =
    elim (cases_lt (length items) 256) [
      | inl few ↦ rw (lt-ltb _ _ few) (SpellsTagged.tuple_104 items (length items ∷ flat_map spelling items) (joined (length items ∷ []) (flat_map spelling items) (byte_number (length items) few) (many Inner spelling items each)))
      | inr much ↦ rw (le-ltb _ _ much) (SpellsTagged.tuple_105 items (big_bytes 4 (length items) ++ flat_map spelling items) (joined (big_bytes 4 (length items)) (flat_map spelling items) (number 4 (length items) fits) (many Inner spelling items each)))
    ]

general_good : (n : ℕ) (Inner : Term → List ℕ → Type 0) (items : List Term) (tail : Term) → length items < 2 ^ 32 → All (λ t. Inner t (spelling t)) items → Inner tail (spelling tail)
    → SpellsTagged n Inner (terms.List items tail) (108 ∷ (big_bytes 4 (length items) ++ (flat_map spelling items ++ spelling tail)))
general_good n Inner items tail fits each last =
    SpellsTagged.list_108 items tail (big_bytes 4 (length items) ++ (flat_map spelling items ++ spelling tail))
    (joined (big_bytes 4 (length items)) (flat_map spelling items ++ spelling tail) (number 4 (length items) fits) (joined (flat_map spelling items) (spelling tail) (many Inner spelling items each) last))

string_good : (n : ℕ) (Inner : Term → List ℕ → Type 0) (items : List Term) (tail : Term) → is_string (map term_written items) (term_written tail) ≡ true
    → SpellsTagged n Inner (terms.List items tail) (string_bytes (map term_written items))
string_good n Inner items tail string =
    let is = string_back items tail string in
    let bytes = bytes_are items is.2 in
    let size : length items ≡ length bytes.bytes = ap length bytes.are ∙ length-map bytes.bytes byte_term in
    let below : length items < 65536 = is.1 in
    let list : terms.List items tail ≡ terms.List (map byte_term bytes.bytes) terms.Nil =
    ap (λ (us : List Term). terms.List us tail) bytes.are ∙ ap (λ (t : Term). terms.List (map byte_term bytes.bytes) t) is.3 in
    let text : string_bytes (map term_written items) ≡ 107 ∷ (big_bytes 2 (length bytes.bytes) ++ bytes.bytes) =
    string_bytes_here items ∙ ap (λ (k : ℕ). 107 ∷ (big_bytes 2 k ++ flat_map (λ t. byte_list (term_written t).byte) items)) size ∙ ap (λ (s : List ℕ). 107 ∷ (big_bytes 2 (length bytes.bytes) ++ s)) bytes.written in
    rw (list, text) (SpellsTagged.string_107 bytes.bytes (big_bytes 2 (length bytes.bytes) ++ bytes.bytes) (joined (big_bytes 2 (length bytes.bytes)) bytes.bytes (number 2 (length bytes.bytes) (omega arith)) refl))

map_good : (n : ℕ) (Inner : Term → List ℕ → Type 0) (pairs : List (Term × Term)) → length pairs < 2 ^ 32 → All (λ pair. Inner pair.0 (spelling pair.0) × Inner pair.1 (spelling pair.1)) pairs
    → SpellsTagged n Inner (terms.Map pairs) (116 ∷ (big_bytes 4 (length pairs) ++ flat_map pair_bytes pairs))
map_good n Inner pairs fits each =
    SpellsTagged.map_116 pairs (big_bytes 4 (length pairs) ++ flat_map pair_bytes pairs)
    (joined (big_bytes 4 (length pairs)) (flat_map pair_bytes pairs) (number 4 (length pairs) fits)
    (many (SpellsPair Inner) pair_bytes pairs (λ k d lt. (let p = each k d lt in joined (spelling (get_or pairs k d).0) (spelling (get_or pairs k d).1) p.0 p.1))))

-- ---- terms

-- the term is spelled as it is written
abbrev Good : ℕ → (Term → List ℕ → Type 0) → Term → Type 0
Good n Inner t = SpellsTagged n Inner t (spelling t)

list_good : (n : ℕ) (Inner : Term → List ℕ → Type 0) (items : List Term) (tail : Term)
    → IsString items tail ⊎ ((length items < 2 ^ 32) × All (λ t. Inner t (spelling t)) items × Inner tail (spelling tail)) → Good n Inner (terms.List items tail)
list_good n Inner items tail fits =
    elim (cases_Bool (is_string (map term_written items) (term_written tail))) [
      | inl string ↦ rw (string_spelling items tail string) (string_good n Inner items tail string)
      | inr general ↦ rw (general_spelling items tail general) (elim fits [
        | inl string ↦ absurd (false≢true (sym general ∙ string_is items tail string))
        | inr parts ↦ general_good n Inner items tail parts.0 parts.1 parts.2
      ])
    ]

-- a term inside fits where it meets its type
layer_good : (n : ℕ) (Inner : Term → List ℕ → Type 0) (Fits : Term → Type 0) → ((t : Term) → MeetsType t → Fits t → Inner t (spelling t))
    → (f : Term-F Term) → LayerMeetsType f → InsideMeetsType f → FitsBy n Fits f → Good n Inner (roll-Term f)
layer_good n Inner Fits inner (Term-F.Int neg mag) here held fits = rw (terms.rolls-Int neg mag, int_spelling neg mag) (int_good n Inner neg mag here fits)
layer_good n Inner Fits inner (Term-F.Wide neg mag) here held fits =
    rw (terms.rolls-Wide neg mag, wide_spelling neg mag) (subst (λ (t : Term). SpellsTagged n Inner t (big_bytes_of neg mag)) (wide_is neg mag fits.0) (big_good n Inner neg mag fits.1))
layer_good n Inner Fits inner (Term-F.Atom name) here held fits = rw (terms.rolls-Atom name, atom_spelling name) (SpellsTagged.atom name (atom_bytes name) (atom_good name here fits))
layer_good n Inner Fits inner (Term-F.Tuple items) here held fits =
    rw (terms.rolls-Tuple items, tuple_spelling items) (tuple_good n Inner items fits.0 (λ k d lt. inner _ (held k d lt) (fits.1 k d lt)))
layer_good n Inner Fits inner Term-F.Nil here held fits = rw (terms.rolls-Nil, nil_spelling) SpellsTagged.nil_106
layer_good n Inner Fits inner (Term-F.List items tail) here held fits =
    rw (terms.rolls-List items tail) (list_good n Inner items tail (elim fits [
      | inl string ↦ inl string
      | inr parts ↦ inr (parts.0, (λ k d lt. inner _ (held.0 k d lt) (parts.1 k d lt)), inner tail held.1 parts.2)
    ]))
layer_good n Inner Fits inner (Term-F.Binary s) here held fits =
    rw (terms.rolls-Binary s, binary_spelling s) (SpellsTagged.binary_109 s (big_bytes 4 (length s) ++ s) (joined (big_bytes 4 (length s)) s (number 4 (length s) fits) refl))
layer_good n Inner Fits inner (Term-F.Bits s last) here held fits =
    rw (terms.rolls-Bits s last, bits_spelling s last)
    (SpellsTagged.bits_77 s (big_bytes 4 (length s) ++ (last ∷ s)) last fits.0 fits.2 fits.3 (joined (big_bytes 4 (length s)) (last ∷ s) (number 4 (length s) fits.1) refl))
layer_good n Inner Fits inner (Term-F.Map pairs) here held fits =
    rw (terms.rolls-Map pairs, map_spelling pairs)
    (map_good n Inner pairs fits.0 (λ k d lt. (inner _ (held k d lt).0 (fits.1 k d lt).0, inner _ (held k d lt).1 (fits.1 k d lt).1)))
layer_good n Inner Fits inner (Term-F.Export m f arity) here held fits =
    rw (terms.rolls-Export m f arity, export_spelling m f arity)
    (SpellsTagged.export_113 m f (atom_bytes m ++ (atom_bytes f ++ (97 ∷ arity ∷ []))) arity fits.2
    (joined (atom_bytes m) (atom_bytes f ++ (97 ∷ arity ∷ [])) (atom_good m here.0 fits.0) (joined (atom_bytes f) (97 ∷ arity ∷ []) (atom_good f here.1 fits.1) refl)))

pub term_good : (levels : ℕ) (t : Term) → MeetsType t → IsWritable levels t → SpellsTerm levels t (spelling t)
unfolding IsWritable SpellsTerm
term_good zero t meets is = absurd is
term_good (suc n) t meets is =
    subst (Good n (SpellsTerm n)) (roll-out-Term t) (layer_good n (SpellsTerm n) (IsWritable n) (term_good n) (out-Term t) (meets_here t meets) (meets_inside t meets) is)
