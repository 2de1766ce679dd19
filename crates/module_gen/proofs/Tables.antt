-- The other payloads of a generated module: what they spell, that they are bytes, and how long they are.
use Rattle.std.proofs.Common.{◌≡◌, ℕ, zero, suc, ◌+◌, ◌^◌, ◌<◌, ◌≤◌, true, false, ◌&&◌, nat_lt, List, [], ◌∷◌, ◌++◌, length, map, get_or, Option, Some, None, is_some, All, IsAscii, refl, sym, ap, subst, ◌∙◌, append-nil, inl, inr, arith, length-append}
use Rattle.std.specs.Prelude.{codes, decimal, IsUtf8}
use Rattle.std.specs.List.{flat_map, list_all}
use Rattle.std.proofs.lemmas.Bool.{and_parts, cases_lt, le-ltb, lt-ltb, ltb-true}
use Rattle.std.proofs.lemmas.Fmt.{IsAscii-decimal, length-decimal-le}
use Rattle.std.proofs.lemmas.List.Elements.{All-from_recursion, All-head, All-nil, All-push, All-tail}
use Rattle.std.proofs.lemmas.Str.{IsUtf8-from_ascii}
use Rattle.std.proofs.lemmas.Str.Ascii.{IsAscii-cons, IsAscii-nil}
use Rattle.byteorder.specs.Endian.{big_bytes}
use Rattle.bk_codec.specs.Spelling.{IsBytes}
use Rattle.compact_term.proofs.Bytes.{big_bytes_are, bytes_cons, bytes_joined, bytes_none}
use Rattle.ext_term.specs.declared.term.Term.{Term}
use Rattle.ext_term.specs.declared.term.Term.TheOpen.{Term-F}
use Rattle.ext_term.specs.declared.term.Term.TheVariants as terms
use Rattle.ext_term.specs.Writing.{Written, atom_bytes, file_spelling, integer_written, is_string, spelling, string_bytes, term_written, written}
use Rattle.ext_term.proofs.Written.{atom_spelling, general_spelling, int_spelling, layer, layer_written, nil_spelling, string_spelling, tuple_spelling}
use Rattle.index_tables.specs.Atoms.{FitsAtoms, IsAtom}
use Rattle.index_tables.specs.Canonical.{canonical_atom, canonical_atoms, canonical_exports, canonical_imports, canonical_words}
use Rattle.index_tables.specs.Entries.{FitsWords, NamesAtoms, export_atoms, export_words}
use Rattle.index_tables.specs.declared.entry.Export.{Export}
use Rattle.module_gen.specs.Generated.{atoms_of, export_of, exports_of, function_name, versions}
use Rattle.module_gen.proofs.Rows.{◌&◌}
use Rattle.module_gen.proofs.Coding.{flat_le}

flat_bytes : {A : Type 0} (f : A → List ℕ) (xs : List A) → All (λ x. IsBytes (f x)) xs → IsBytes (flat_map f xs)
flat_bytes f [] all = bytes_none
flat_bytes f (x ∷ xs) all =
    bytes_joined (f x) (flat_map f xs) (All-head (λ y. IsBytes (f y)) x xs all) (flat_bytes f xs (All-tail (λ y. IsBytes (f y)) x xs all))

pub given_bytes : (bytes : List ℕ) → list_all (λ b. nat_lt b 256) bytes ≡ true → IsBytes bytes
given_bytes [] all = bytes_none
given_bytes (b ∷ bytes) all =
    let parts = and_parts _ _ all in
    bytes_cons b bytes (ltb-true b 256 parts.0) (given_bytes bytes parts.1)

-- ---- atoms

-- up to five characters of ASCII
abbrev IsName : List ℕ → Type 0
IsName name = IsAscii name × (length name ≤ 5)

module_name : IsName (codes "gen")
module_name = (IsAscii-cons 103 (101 ∷ 110 ∷ []) (omega arith) (IsAscii-cons 101 (110 ∷ []) (omega arith) (IsAscii-cons 110 [] (omega arith) IsAscii-nil)), omega arith)

name_is : (k : ℕ) → k ≤ 2000 → IsName (function_name k)
name_is k small =
    let long = length-decimal-le 4 k (omega arith) (omega arith) (omega arith) in
    (IsAscii-cons 102 (decimal k) (omega arith) (IsAscii-decimal k (omega arith)), omega arith)

names_are : (k : ℕ) → k ≤ 2000 → All IsName (atoms_of k)
names_are zero small = All-from_recursion IsName (codes "gen" ∷ []) (module_name, tt)
names_are (suc k) small = All-push IsName (atoms_of k) (function_name (suc k)) (names_are k (omega arith)) (name_is (suc k) small)

pub length_atoms : (k : ℕ) → length (atoms_of k) ≡ k + 1
length_atoms zero = refl
length_atoms (suc k) = omega (arith, length-append (atoms_of k) (function_name (suc k) ∷ []), length_atoms k)

pub atoms_utf8 : (n : ℕ) → n ≤ 2000 → All IsUtf8 (atoms_of n)
atoms_utf8 n small k d lt = IsUtf8-from_ascii _ (names_are n small k d lt).0

pub atoms_fit : (n : ℕ) → n ≤ 2000 → FitsAtoms (atoms_of n)
atoms_fit n small = (omega (arith, length_atoms n), λ k d lt. omega (arith, (names_are n small k d lt).1))

atom_bytes_are : (name : List ℕ) → IsName name → IsBytes (canonical_atom name)
atom_bytes_are name is = bytes_cons (length name) name (omega (arith, is.1)) (λ i. omega (arith, is.0 i))

pub atoms_are_bytes : (n : ℕ) → n ≤ 2000 → IsBytes (canonical_atoms (atoms_of n))
atoms_are_bytes n small =
    bytes_joined (big_bytes 4 (length (atoms_of n))) (flat_map canonical_atom (atoms_of n)) (big_bytes_are 4 (length (atoms_of n)))
    (flat_bytes canonical_atom (atoms_of n) (λ k d lt. atom_bytes_are _ (names_are n small k d lt)))

pub atoms_short : (n : ℕ) → n ≤ 2000 → length (canonical_atoms (atoms_of n)) ≤ 20000
atoms_short n small =
    let long = flat_le canonical_atom 6 (atoms_of n) (λ k d lt. omega (arith, (names_are n small k d lt).1)) in
    omega (arith, length_atoms n)

-- ---- exports

pub length_exports : (k : ℕ) → length (exports_of k) ≡ k
length_exports zero = refl
length_exports (suc k) = omega (arith, length-append (exports_of k) (export_of k ∷ []), length_exports k)

-- the export of a function, of which there are n
abbrev IsOne : ℕ → Export → Type 0
IsOne n x = All (λ w. w < 2 ^ 32) (export_words x) × (1 ≤ x.name) × (x.name ≤ n + 1)

one_export : (n k : ℕ) → n ≤ 2000 → k < n → IsOne n (export_of k)
one_export n k small below =
    (All-from_recursion (λ w. w < 2 ^ 32) (export_words (export_of k)) (omega arith & omega arith & omega arith & tt), omega arith, omega arith)

exports_are : (n k : ℕ) → n ≤ 2000 → k ≤ n → All (IsOne n) (exports_of k)
exports_are n zero small below = All-nil (IsOne n)
exports_are n (suc k) small below = All-push (IsOne n) (exports_of k) (export_of k) (exports_are n k small (omega arith)) (one_export n k small (omega arith))

pub exports_fit : (n : ℕ) → n ≤ 2000 → FitsWords export_words (exports_of n)
exports_fit n small = (omega (arith, length_exports n), λ k d lt. (exports_are n n small (omega arith) k d lt).0)

named : (n : ℕ) (x : Export) → IsOne n x → All (IsAtom (atoms_of n)) (export_atoms x)
named n x is = All-from_recursion (IsAtom (atoms_of n)) (export_atoms x) ((is.1, omega (arith, is.2, length_atoms n)), tt)

pub exports_name : (n : ℕ) → n ≤ 2000 → NamesAtoms export_atoms (atoms_of n) (exports_of n)
exports_name n small k d lt = named n _ (exports_are n n small (omega arith) k d lt)

words_are_bytes : (words : List ℕ) → IsBytes (canonical_words words)
words_are_bytes words = flat_bytes (big_bytes 4) words (λ k d lt. big_bytes_are 4 _)

pub exports_are_bytes : (xs : List Export) → IsBytes (canonical_exports xs)
exports_are_bytes xs =
    bytes_joined (big_bytes 4 (length xs)) (flat_map (λ x. canonical_words (export_words x)) xs) (big_bytes_are 4 (length xs))
    (flat_bytes (λ x. canonical_words (export_words x)) xs (λ k d lt. words_are_bytes (export_words (get_or xs k d))))

pub exports_short : (n : ℕ) → n ≤ 2000 → length (canonical_exports (exports_of n)) ≤ 30000
exports_short n small =
    let long = flat_le (λ x. canonical_words (export_words x)) 12 (exports_of n) (λ k d lt. omega arith) in
    omega (arith, length_exports n)

-- ---- imports, of which there are none

pub imports_are_bytes : IsBytes (canonical_imports [])
imports_are_bytes = big_bytes_are 4 0

-- ---- attributes

abbrev numbers : ℕ → List Term
numbers n = terms.Int false n ∷ []

abbrev pair : ℕ → List Term
pair n = terms.Atom (codes "vsn") ∷ terms.List (numbers n) terms.Nil ∷ []

nil_written : term_written terms.Nil ≡ layer Term-F.Nil
nil_written = layer_written _ Term-F.Nil terms.rolls-Nil

int_written : (n : ℕ) → term_written (terms.Int false n) ≡ integer_written false n
int_written n = layer_written _ (Term-F.Int false n) (terms.rolls-Int false n)

small_written : (n : ℕ) → n < 256 → integer_written false n ≡ record { bytes = 97 ∷ n ∷ []; byte = Some n; is_nil = false }
unfolding integer_written
small_written n small = rw (lt-ltb n 256 small) refl

large_written : (n : ℕ) → 256 ≤ n → n ≤ 2000 → integer_written false n ≡ written (98 ∷ big_bytes 4 n)
unfolding integer_written
large_written n large small = rw (le-ltb n 256 large, lt-ltb n 2147483648 (omega arith)) refl

-- a list of one item without a byte is no string
no_string : (t : Term) (w : Written) → term_written t ≡ w → w.byte ≡ None → is_string (map term_written (t ∷ [])) (term_written terms.Nil) ≡ false
no_string t w is none =
    ap (λ (v : Written). is_string (v ∷ []) (term_written terms.Nil)) is
    ∙ ap (λ (v : Written). is_string (w ∷ []) v) nil_written
    ∙ ap (λ (o : Option ℕ). is_some o && true) none

small_numbers : (n : ℕ) → n < 256 → spelling (terms.List (numbers n) terms.Nil) ≡ 107 ∷ 0 ∷ 1 ∷ n ∷ []
small_numbers n small =
    let byte : term_written (terms.Int false n) ≡ record { bytes = 97 ∷ n ∷ []; byte = Some n; is_nil = false } = int_written n ∙ small_written n small in
    let string : is_string (map term_written (numbers n)) (term_written terms.Nil) ≡ true =
    ap (λ (v : Written). is_string (v ∷ []) (term_written terms.Nil)) byte ∙ ap (λ (v : Written). is_string (record { bytes = 97 ∷ n ∷ []; byte = Some n; is_nil = false } ∷ []) v) nil_written in
    string_spelling (numbers n) terms.Nil string ∙ ap (λ (v : Written). string_bytes (v ∷ [])) byte

large_numbers : (n : ℕ) → 256 ≤ n → n ≤ 2000 → spelling (terms.List (numbers n) terms.Nil) ≡ 108 ∷ 0 ∷ 0 ∷ 0 ∷ 1 ∷ 98 ∷ (big_bytes 4 n ++ 106 ∷ [])
large_numbers n large small =
    let word = large_written n large small in
    general_spelling (numbers n) terms.Nil (no_string (terms.Int false n) _ (int_written n ∙ word) refl)
    ∙ ap (λ (s : List ℕ). 108 ∷ 0 ∷ 0 ∷ 0 ∷ 1 ∷ ((s ++ []) ++ spelling terms.Nil)) (int_spelling false n ∙ ap (λ (v : Written). v.bytes) word)
    ∙ ap (λ (s : List ℕ). 108 ∷ 0 ∷ 0 ∷ 0 ∷ 1 ∷ 98 ∷ (big_bytes 4 n ++ s)) nil_spelling

-- the list of the numbers
abbrev list_of : ℕ → List ℕ
list_of n = spelling (terms.List (numbers n) terms.Nil)

list_is : (n : ℕ) → n ≤ 2000 → IsBytes (list_of n) × (length (list_of n) ≤ 11)
list_is n small =
    elim (cases_lt n 256) [
      | inl below ↦ rw (small_numbers n below) (bytes_joined (107 ∷ 0 ∷ 1 ∷ []) (n ∷ []) (given_bytes (107 ∷ 0 ∷ 1 ∷ []) refl) (bytes_cons n [] below bytes_none), omega arith)
      | inr above ↦ rw (large_numbers n above small) (
        bytes_joined (108 ∷ 0 ∷ 0 ∷ 0 ∷ 1 ∷ 98 ∷ []) (big_bytes 4 n ++ 106 ∷ []) (given_bytes (108 ∷ 0 ∷ 0 ∷ 0 ∷ 1 ∷ 98 ∷ []) refl)
            (bytes_joined (big_bytes 4 n) (106 ∷ []) (big_bytes_are 4 n) (given_bytes (106 ∷ []) refl)),
        omega arith,
      )
    ]

pair_spelling : (n : ℕ) → spelling (terms.Tuple (pair n)) ≡ 104 ∷ 2 ∷ 119 ∷ 3 ∷ 118 ∷ 115 ∷ 110 ∷ list_of n
unfolding atom_bytes
pair_spelling n =
    tuple_spelling (pair n)
    ∙ ap (λ (s : List ℕ). 104 ∷ 2 ∷ (s ++ (list_of n ++ []))) (atom_spelling (codes "vsn"))
    ∙ ap (λ (s : List ℕ). 104 ∷ 2 ∷ 119 ∷ 3 ∷ 118 ∷ 115 ∷ 110 ∷ s) (append-nil (list_of n))

-- the bytes before the list of the numbers
abbrev pub list_head : List ℕ
list_head = 131 ∷ 108 ∷ 0 ∷ 0 ∷ 0 ∷ 1 ∷ 104 ∷ 2 ∷ 119 ∷ 3 ∷ 118 ∷ 115 ∷ 110 ∷ []

versions_spelling : (n : ℕ) → file_spelling (versions n) ≡ list_head ++ (list_of n ++ 106 ∷ [])
versions_spelling n =
    let general = no_string (terms.Tuple (pair n)) _ (layer_written _ (Term-F.Tuple (pair n)) (terms.rolls-Tuple (pair n))) refl in
    ap (λ (s : List ℕ). 131 ∷ s) (general_spelling (terms.Tuple (pair n) ∷ []) terms.Nil general)
    ∙ ap (λ (s : List ℕ). 131 ∷ 108 ∷ 0 ∷ 0 ∷ 0 ∷ 1 ∷ (s ++ spelling terms.Nil)) (append-nil (spelling (terms.Tuple (pair n))) ∙ pair_spelling n)
    ∙ ap (λ (s : List ℕ). list_head ++ (list_of n ++ s)) nil_spelling

pub small_versions : (n : ℕ) → n < 256 → file_spelling (versions n) ≡ list_head ++ 107 ∷ 0 ∷ 1 ∷ n ∷ 106 ∷ []
small_versions n small = versions_spelling n ∙ ap (λ (s : List ℕ). list_head ++ (s ++ 106 ∷ [])) (small_numbers n small)

pub versions_are_bytes : (n : ℕ) → n ≤ 2000 → IsBytes (file_spelling (versions n))
versions_are_bytes n small =
    subst IsBytes (sym (versions_spelling n))
    (bytes_joined list_head (list_of n ++ 106 ∷ []) (given_bytes list_head refl) (bytes_joined (list_of n) (106 ∷ []) (list_is n small).0 (given_bytes (106 ∷ []) refl)))

pub versions_short : (n : ℕ) → n ≤ 2000 → length (file_spelling (versions n)) ≤ 25
versions_short n small =
    omega (arith, ap (λ (s : List ℕ). length s) (versions_spelling n), length-append list_head (list_of n ++ 106 ∷ []), length-append (list_of n) (106 ∷ []), (list_is n small).1)
