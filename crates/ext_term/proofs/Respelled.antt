-- A term whose written form is a spelling of it can be written.
use Rattle.std.proofs.Common.{◌≡◌, ℕ, zero, suc, ◌^◌, ◌<◌, ◌≤◌, ℤ, pos, negsuc, Bool, true, false, not, ◌&&◌, ◌==◌, List, [], ◌∷◌, ◌++◌, length, get_or, drop, map, All, IsUtf8, refl, sym, ap, subst, ◌∙◌, append_assoc, arith, inl, inr}
use Rattle.std.specs.Prelude.{◌↔◌}
use Rattle.std.specs.List.{flat_map}
use Rattle.std.proofs.lemmas.Bool.{cases_Bool, cases_lt, lt-ltb, le-ltb}
use Rattle.std.proofs.lemmas.List.{append_cancel_left}
use Rattle.std.proofs.lemmas.List.Elements.{All-cons}
use Rattle.byteorder.specs.Endian.{big_bytes, twos_complement}
use Rattle.bk_codec.specs.Spelling.{Then, SpellsMany, SpellsNumber, SpellsCountedIn}
use Rattle.bk_codec.proofs.Agreement.{one_form}
use Rattle.ext_term.specs.Integer.{int_of, is_minus, big_of}
use Rattle.ext_term.specs.Spelling.{SpellsAtom, latin_100, latin_115, utf8_118, utf8_119, SpellsPair, byte_term, SpellsTagged, small_97, signed_98, big_110, big_111, atom, tuple_104, tuple_105, nil_106, string_107, list_108, binary_109, bits_77, export_113, map_116, SpellsTerm, SpellsTermFile}
use Rattle.ext_term.specs.declared.term.Term.{Term}
use Rattle.ext_term.specs.declared.term.Term.TheVariants as terms
use Rattle.ext_term.specs.Writing.{term_written, spelling, file_spelling, atom_bytes, pair_bytes, is_string, FitsName, IsWritable, LayerMeetsType, MeetsType}
use Rattle.ext_term.proofs.Meeting.{InsideMeetsType, meets_here, meets_inside}
use Rattle.ext_term.proofs.Nested.{name_agrees}
use Rattle.ext_term.proofs.Terms.{term_agrees}
use Rattle.ext_term.proofs.Strings.{string_back}
use Rattle.ext_term.proofs.Writable.{writable_int, writable_wide, writable_atom, writable_tuple, writable_nil, writable_list, writable_string, writable_binary, writable_bits, writable_map, writable_export}
use Rattle.ext_term.proofs.Written.{atom_spelling, tuple_spelling, general_spelling, map_spelling, export_spelling}
use Rattle.ext_term.proofs.Spelled.{byte_number, joined, atom_good, term_good}

-- ---- fronts of bytes that are the same

first_is : (a b : ℕ) (s t : List ℕ) → a ∷ s ≡ b ∷ t → a ≡ b
first_is a b s t same = ap (λ (u : List ℕ). get_or u 0 0) same

others_are : (a b : ℕ) (s t : List ℕ) → a ∷ s ≡ b ∷ t → s ≡ t
others_are a b s t same = ap (drop 1) same

-- a front of two, and what goes on behind them
split : (bytes front back x z : List ℕ) → bytes ≡ front ++ back → bytes ++ x ≡ z → front ++ (back ++ x) ≡ z
split bytes front back x z parts same = sym (append_assoc front back x) ∙ sym (ap (λ (u : List ℕ). u ++ x) parts) ∙ same

-- what stands behind the same number in as many bytes
behind_number : (k n : ℕ) (bytes front back x z : List ℕ) → bytes ≡ front ++ back → SpellsNumber k n front → bytes ++ x ≡ big_bytes k n ++ z → back ++ x ≡ z
behind_number k n bytes front back x z parts is same =
    append_cancel_left front (back ++ x) z (split bytes front back x (big_bytes k n ++ z) parts same ∙ ap (λ (u : List ℕ). u ++ z) (sym is.is))

-- ---- values one after another

-- what a value is where its spelling begins what is written of it, and that the bytes behind are the same
abbrev Back : {A : Type 0} → (A → List ℕ → Type 0) → (A → List ℕ) → (A → Type 0) → (A → Type 0) → Type 0
Back {A} R f M P = (a : A) (text x y : List ℕ) → M a → R a text → text ++ x ≡ f a ++ y → P a × (x ≡ y)

each_back : {A : Type 0} (R : A → List ℕ → Type 0) (f : A → List ℕ) (M P : A → Type 0) → Back R f M P
    → (xs : List A) (text x y : List ℕ) → All M xs → SpellsMany R xs text → text ++ x ≡ flat_map f xs ++ y → All P xs × (x ≡ y)
each_back R f M P one [] text x y meets is same = ((λ k d lt. absurd (omega arith)), sym (ap (λ (u : List ℕ). u ++ x) is) ∙ same)
each_back R f M P one (a ∷ xs) text x y meets is same =
    let whole = split text is.front is.back x _ is.joined same ∙ append_assoc (f a) (flat_map f xs) y in
    let first = one a is.front (is.back ++ x) (flat_map f xs ++ y) (meets 0 a (omega arith)) is.front_is whole in
    let others = each_back R f M P one xs is.back x y (λ k d lt. meets (suc k) d (omega arith)) is.back_is first.1 in
    (All-cons P a xs first.0 others.0, others.1)

-- ---- integers and atoms

int_back : (n : ℕ) (z : ℤ) → IsWritable (suc n) (int_of z)
int_back n (pos k) = writable_int n false k (λ none. refl)
int_back n (negsuc k) = writable_int n true (suc k) (λ none. absurd (omega arith))

unsigned : (neg : Bool) (mag : ℕ) → mag ≡ 0 → (neg && not (mag == 0)) ≡ false
unsigned true mag none = rw none refl
unsigned false mag none = refl

big_back : (n sign : ℕ) (mag : List ℕ) → length mag < 2 ^ 32 → IsWritable (suc n) (big_of sign mag)
unfolding big_of
big_back n sign mag short =
    elim (cases_lt 16 (length mag)) [
      | inl long ↦ rw (lt-ltb 16 (length mag) long) (writable_wide n (is_minus sign) mag long short)
      | inr few ↦ rw (le-ltb 16 (length mag) few) (writable_int n _ _ (λ none. unsigned (is_minus sign) _ none))
    ]

name_fits : (name text x y : List ℕ) → SpellsAtom name text → text ++ x ≡ atom_bytes name ++ y → FitsName name
unfolding atom_bytes
name_fits name text x y is same = elim (cases_lt (length name) 256) [
  | inl few ↦ omega arith
  | inr many ↦ long name text x y is many (rw (le-ltb _ _ many) at same)
] where
  long : (name text x y : List ℕ) → SpellsAtom name text → 256 ≤ length name → text ++ x ≡ 118 ∷ ((big_bytes 2 (length name) ++ name) ++ y) → FitsName name
  long name text x y (latin_100 s bytes is) many same = absurd (omega (arith, first_is 100 118 _ _ same))
  long name text x y (latin_115 s bytes is) many same = absurd (omega (arith, first_is 115 118 _ _ same))
  long name text x y (utf8_118 s bytes utf8 is) many same = omega (arith, is.front_is.fits)
  long name text x y (utf8_119 s bytes utf8 is) many same = absurd (omega (arith, is.front_is.fits))

atom_back : Back SpellsAtom atom_bytes IsUtf8 FitsName
atom_back name text x y utf8 is same =
    let fits = name_fits name text x y is same in
    (fits, (one_form (name_agrees 0 1) name name text (atom_bytes name) x y (omega arith, is) (omega arith, atom_good name utf8 fits) same).1)

-- ---- a term, where those in it are known to be so

module _ (n : ℕ) (one : Back (SpellsTerm n) spelling MeetsType (IsWritable n)) where
  -- behind a tag, and in front of y
  abbrev BehindTag : ℕ → Term → List ℕ → List ℕ → List ℕ → Type 0
  BehindTag tag t bytes x y = tag ∷ (bytes ++ x) ≡ spelling t ++ y

  inside_tuple : (items : List Term) → MeetsType (terms.Tuple items) → All MeetsType items
  inside_tuple items meets = subst InsideMeetsType (terms.outs-Tuple items) (meets_inside _ meets)

  items_back : (items : List Term) (text x y : List ℕ) → All MeetsType items → SpellsMany (SpellsTerm n) items text → text ++ x ≡ flat_map spelling items ++ y → All (IsWritable n) items × (x ≡ y)
  items_back = each_back (SpellsTerm n) spelling MeetsType (IsWritable n) one

  short_tuple : (items : List Term) (bytes x y : List ℕ) → MeetsType (terms.Tuple items) → SpellsCountedIn 1 (SpellsTerm n) items bytes → BehindTag 104 (terms.Tuple items) bytes x y → IsWritable (suc n) (terms.Tuple items)
  short_tuple items bytes x y meets is same =
      let few : length items < 256 = is.front_is.fits in
      let written = rw (tuple_spelling items, lt-ltb _ _ few) at same in
      let count = others_are 104 104 _ _ written ∙ ap (λ (u : List ℕ). u ++ (flat_map spelling items ++ y)) (byte_number (length items) few).is in
      let rest = behind_number 1 (length items) bytes is.front is.back x (flat_map spelling items ++ y) is.joined is.front_is count in
      writable_tuple n items (omega arith) (items_back items is.back x y (inside_tuple items meets) is.back_is rest).0

  long_tuple : (items : List Term) (bytes x y : List ℕ) → MeetsType (terms.Tuple items) → SpellsCountedIn 4 (SpellsTerm n) items bytes → BehindTag 105 (terms.Tuple items) bytes x y → IsWritable (suc n) (terms.Tuple items)
  long_tuple items bytes x y meets is same = elim (cases_lt (length items) 256) [
    | inl few ↦ absurd (let written = rw (tuple_spelling items, lt-ltb _ _ few) at same in omega (arith, first_is 105 104 _ _ written))
    | inr many ↦
        let written = rw (tuple_spelling items, le-ltb _ _ many) at same in
        let count = others_are 105 105 _ _ written ∙ append_assoc (big_bytes 4 (length items)) (flat_map spelling items) y in
        let rest = behind_number 4 (length items) bytes is.front is.back x (flat_map spelling items ++ y) is.joined is.front_is count in
        writable_tuple n items (omega (arith, is.front_is.fits)) (items_back items is.back x y (inside_tuple items meets) is.back_is rest).0
  ]

  list_back : (items : List Term) (tail : Term) (bytes x y : List ℕ) → MeetsType (terms.List items tail)
      → Then (SpellsNumber 4 (length items)) (Then (SpellsMany (SpellsTerm n) items) (SpellsTerm n tail)) bytes → BehindTag 108 (terms.List items tail) bytes x y → IsWritable (suc n) (terms.List items tail)
  list_back items tail bytes x y meets is same = elim (cases_Bool (is_string (map term_written items) (term_written tail))) [
    | inl string ↦ writable_string n items tail (string_back items tail string)
    | inr general ↦
        let held : All MeetsType items × MeetsType tail = subst InsideMeetsType (terms.outs-List items tail) (meets_inside _ meets) in
        let written = rw (general_spelling items tail general) at same in
        let count = others_are 108 108 _ _ written ∙ append_assoc (big_bytes 4 (length items)) (flat_map spelling items ++ spelling tail) y in
        let rest = behind_number 4 (length items) bytes is.front is.back x ((flat_map spelling items ++ spelling tail) ++ y) is.joined is.front_is count in
        let whole = split is.back is.back_is.front is.back_is.back x _ is.back_is.joined rest ∙ append_assoc (flat_map spelling items) (spelling tail) y in
        let each = items_back items is.back_is.front (is.back_is.back ++ x) (spelling tail ++ y) held.0 is.back_is.front_is whole in
        writable_list n items tail (omega (arith, is.front_is.fits)) each.0 (one tail is.back_is.back x y held.1 is.back_is.back_is each.1).0
  ]

  -- no list that isn't written as bytes begins as one that is
  bytes_back : (items : List Term) (tail : Term) (bytes x y : List ℕ) → BehindTag 107 (terms.List items tail) bytes x y → IsWritable (suc n) (terms.List items tail)
  bytes_back items tail bytes x y same = elim (cases_Bool (is_string (map term_written items) (term_written tail))) [
    | inl string ↦ writable_string n items tail (string_back items tail string)
    | inr general ↦ absurd (let written = rw (general_spelling items tail general) at same in omega (arith, first_is 107 108 _ _ written))
  ]

  pair_back : Back (SpellsPair (SpellsTerm n)) pair_bytes (λ pair. MeetsType pair.0 × MeetsType pair.1) (λ pair. IsWritable n pair.0 × IsWritable n pair.1)
  pair_back pair text x y meets is same =
      let whole = split text is.front is.back x _ is.joined same ∙ append_assoc (spelling pair.0) (spelling pair.1) y in
      let key = one pair.0 is.front (is.back ++ x) (spelling pair.1 ++ y) meets.0 is.front_is whole in
      let value = one pair.1 is.back x y meets.1 is.back_is key.1 in
      ((key.0, value.0), value.1)

  map_back : (pairs : List (Term × Term)) (bytes x y : List ℕ) → MeetsType (terms.Map pairs) → SpellsCountedIn 4 (SpellsPair (SpellsTerm n)) pairs bytes → BehindTag 116 (terms.Map pairs) bytes x y → IsWritable (suc n) (terms.Map pairs)
  map_back pairs bytes x y meets is same =
      let held : All (λ (pair : Term × Term). MeetsType pair.0 × MeetsType pair.1) pairs = subst InsideMeetsType (terms.outs-Map pairs) (meets_inside _ meets) in
      let written = rw (map_spelling pairs) at same in
      let count = others_are 116 116 _ _ written ∙ append_assoc (big_bytes 4 (length pairs)) (flat_map pair_bytes pairs) y in
      let rest = behind_number 4 (length pairs) bytes is.front is.back x (flat_map pair_bytes pairs ++ y) is.joined is.front_is count in
      let each = each_back (SpellsPair (SpellsTerm n)) pair_bytes (λ pair. MeetsType pair.0 × MeetsType pair.1) (λ pair. IsWritable n pair.0 × IsWritable n pair.1) pair_back pairs is.back x y held is.back_is rest in
      writable_map n pairs (omega (arith, is.front_is.fits)) each.0

  export_back : (m f bytes : List ℕ) (arity : ℕ) (x y : List ℕ) → MeetsType (terms.Export m f arity) → 1 ≤ n → Then (SpellsAtom m) (Then (SpellsAtom f) (λ text. text ≡ 97 ∷ arity ∷ [])) bytes
      → BehindTag 113 (terms.Export m f arity) bytes x y → IsWritable (suc n) (terms.Export m f arity)
  export_back m f bytes arity x y meets deep is same =
      let here : IsUtf8 m × IsUtf8 f × (arity < 256) = subst LayerMeetsType (terms.outs-Export m f arity) (meets_here _ meets) in
      let written = rw (export_spelling m f arity) at same in
      let names = split bytes is.front is.back x _ is.joined (others_are 113 113 _ _ written) ∙ append_assoc (atom_bytes m) (atom_bytes f ++ (97 ∷ arity ∷ [])) y in
      let owner = atom_back m is.front (is.back ++ x) _ here.0 is.front_is names in
      let last = split is.back is.back_is.front is.back_is.back x _ is.back_is.joined owner.1 ∙ append_assoc (atom_bytes f) (97 ∷ arity ∷ []) y in
      let name = atom_back f is.back_is.front (is.back_is.back ++ x) _ here.1 is.back_is.front_is last in
      writable_export n m f arity owner.0 name.0 deep

  layer_back : (t : Term) (text x y : List ℕ) → MeetsType t → SpellsTagged n (SpellsTerm n) t text → text ++ x ≡ spelling t ++ y → IsWritable (suc n) t
  layer_back t text x y meets (small_97 k bytes is) same = writable_int n false k (λ none. refl)
  layer_back t text x y meets (signed_98 k bytes is) same = int_back n (twos_complement 4 k)
  layer_back t text x y meets (big_110 sign mag bytes is) same = big_back n sign mag (omega (arith, is.front_is.fits))
  layer_back t text x y meets (big_111 sign mag bytes is) same = big_back n sign mag (omega (arith, is.front_is.fits))
  layer_back t text x y meets (atom name bytes is) same = writable_atom n name (name_fits name bytes x y is (rw (atom_spelling name) at same))
  layer_back t text x y meets (tuple_104 items bytes is) same = short_tuple items bytes x y meets is same
  layer_back t text x y meets (tuple_105 items bytes is) same = long_tuple items bytes x y meets is same
  layer_back t text x y meets nil_106 same = writable_nil n
  layer_back t text x y meets (string_107 s bytes is) same = bytes_back (map byte_term s) terms.Nil bytes x y same
  layer_back t text x y meets (list_108 items tail bytes is) same = list_back items tail bytes x y meets is same
  layer_back t text x y meets (binary_109 s bytes is) same = writable_binary n s (omega (arith, is.front_is.fits))
  layer_back t text x y meets (bits_77 s bytes last some low high is) same = writable_bits n s last some (omega (arith, is.front_is.fits)) low high
  layer_back t text x y meets (export_113 m f bytes arity deep is) same = export_back m f bytes arity x y meets deep is same
  layer_back t text x y meets (map_116 pairs bytes is) same = map_back pairs bytes x y meets is same

-- ---- terms, by how many stand in one another

term_back : (levels : ℕ) → Back (SpellsTerm levels) spelling MeetsType (IsWritable levels)
unfolding SpellsTerm
term_back zero t text x y meets is same = absurd is
term_back (suc n) t text x y meets is same =
    let writable = layer_back n (term_back n) t text x y meets is same in
    (writable, (one_form (term_agrees 0 (suc n)) t t text (spelling t) x y is (term_good (suc n) t meets writable) same).1)

writable_back : (t : Term) → MeetsType t → SpellsTermFile t (file_spelling t) → IsWritable 256 t
writable_back t meets is =
    let version : 131 ∷ is.back ≡ 131 ∷ spelling t = sym (is.joined ∙ ap (λ (u : List ℕ). u ++ is.back) is.front_is) in
    (term_back 256 t is.back [] [] meets is.back_is (ap (λ (u : List ℕ). u ++ []) (others_are 131 131 is.back (spelling t) version))).0

pub writable_spelled : (t : Term) → MeetsType t → IsWritable 256 t ↔ SpellsTermFile t (file_spelling t)
writable_spelled t meets = (λ is. joined (131 ∷ []) (spelling t) refl (term_good 256 t meets is), writable_back t meets)
