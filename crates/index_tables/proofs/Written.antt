-- What is written of a table spells it, and nothing else does.
use Rattle.std.proofs.Common.{◌≡◌, ℕ, ◌^◌, ◌<◌, List, [], ◌∷◌, ◌++◌, length, All, Ok, refl, ap, ◌∙◌}
use Rattle.std.specs.List.{flat_map}
use Rattle.std.specs.Str.{IsUtf8}
use Rattle.std.proofs.lemmas.List.Elements.{All-head, All-tail}
use Rattle.byteorder.specs.Endian.{big_bytes}
use Rattle.bk_codec.specs.Spelling.{SpellsCounted, SpellsMany, SpellsWord}
use Rattle.bk_codec.proofs.Ended.{ended_again}
use Rattle.index_tables.specs.declared.refusal.TableRefusal.TheVariants.{Rest}
use Rattle.index_tables.specs.Atoms.{FitsAtoms, IsAtom, SpellsAtom, SpellsAtoms}
use Rattle.index_tables.specs.Canonical.{canonical_atom, canonical_atoms, canonical_table, canonical_words, counted}
use Rattle.index_tables.specs.Entries.{FitsWords, NamesAtoms, SpellsEntry, SpellsTable}
use Rattle.index_tables.specs.Reading.{all_atoms, all_entries}
use Rattle.index_tables.specs.Shape.{IsShape, Shape}
use Rattle.index_tables.proofs.AtomSpelling.{atoms_agree}
use Rattle.index_tables.proofs.EntrySpelling.{entries_agree}

-- ---- values one after another

many_written : {A : Type 0} (R : A → List ℕ → Type 0) (f : A → List ℕ) (P : A → Type 0) → ((x : A) → P x → R x (f x))
    → (xs : List A) → All P xs → SpellsMany R xs (flat_map f xs)
many_written R f P one [] all = refl
many_written R f P one (x ∷ xs) all =
    record { front = f x; back = flat_map f xs; front_is = one x (All-head P x xs all); back_is = many_written R f P one xs (All-tail P x xs all); joined = refl }

many_one : {A : Type 0} (R : A → List ℕ → Type 0) (f : A → List ℕ) → ((x : A) (text : List ℕ) → R x text → text ≡ f x)
    → (xs : List A) (bytes : List ℕ) → SpellsMany R xs bytes → bytes ≡ flat_map f xs
many_one R f one [] bytes is = is
many_one R f one (x ∷ xs) bytes is =
    is.joined ∙ ap (λ (t : List ℕ). t ++ is.back) (one x is.front is.front_is) ∙ ap (λ (t : List ℕ). f x ++ t) (many_one R f one xs is.back is.back_is)

counted_written : {A : Type 0} (R : A → List ℕ → Type 0) (f : A → List ℕ) (P : A → Type 0) → ((x : A) → P x → R x (f x))
    → (xs : List A) → length xs < 2 ^ 32 → All P xs → SpellsCounted R xs (counted f xs)
counted_written R f P one xs fits all =
    record { front = big_bytes 4 (length xs); back = flat_map f xs; front_is = record { fits = fits; is = refl }; back_is = many_written R f P one xs all; joined = refl }

counted_one : {A : Type 0} (R : A → List ℕ → Type 0) (f : A → List ℕ) → ((x : A) (text : List ℕ) → R x text → text ≡ f x)
    → (xs : List A) (bytes : List ℕ) → SpellsCounted R xs bytes → bytes ≡ counted f xs
counted_one R f one xs bytes is =
    is.joined ∙ ap (λ (t : List ℕ). t ++ is.back) is.front_is.is ∙ ap (λ (t : List ℕ). big_bytes 4 (length xs) ++ t) (many_one R f one xs is.back is.back_is)

-- ---- atoms

pub atoms_spelled : (names : List (List ℕ)) → All IsUtf8 names → FitsAtoms names → SpellsAtoms names (canonical_atoms names)
atoms_spelled names utf8 fits =
    counted_written SpellsAtom canonical_atom (λ name. IsUtf8 name × (length name < 256)) (λ name is. (is.0, is.1, refl)) names fits.0 (λ i d lt. (utf8 i d lt, fits.1 i d lt))

pub atoms_one : (names : List (List ℕ)) (bytes : List ℕ) → SpellsAtoms names bytes → bytes ≡ canonical_atoms names
atoms_one = counted_one SpellsAtom canonical_atom (λ name text is. is.2)

pub atoms_back : (names : List (List ℕ)) → All IsUtf8 names → FitsAtoms names → all_atoms (canonical_atoms names) ≡ Ok names
atoms_back names utf8 fits = ended_again atoms_agree Rest (canonical_atoms names) names (atoms_spelled names utf8 fits)

-- ---- entries

words_spelled : (words : List ℕ) → All (λ n. n < 2 ^ 32) words → SpellsMany SpellsWord words (canonical_words words)
words_spelled = many_written SpellsWord (big_bytes 4) (λ n. n < 2 ^ 32) (λ n below. record { fits = below; is = refl })

words_one : (words bytes : List ℕ) → SpellsMany SpellsWord words bytes → bytes ≡ canonical_words words
words_one = many_one SpellsWord (big_bytes 4) (λ n text is. is.is)

module _ {A : Type 0} (shape : Shape A) (is_shape : IsShape shape) where
  pub table_spelled : (names : List (List ℕ)) (xs : List A) → FitsWords shape.words xs → NamesAtoms shape.atoms names xs
      → SpellsTable shape.words shape.atoms names xs (canonical_table shape.words xs)
  table_spelled names xs fits named =
      counted_written (SpellsEntry shape.words shape.atoms names) (λ x. canonical_words (shape.words x)) (λ x. All (λ n. n < 2 ^ 32) (shape.words x) × All (IsAtom names) (shape.atoms x))
      (λ x is. (words_spelled (shape.words x) is.0, is.1)) xs fits.0 (λ i d lt. (fits.1 i d lt, named i d lt))

  pub table_one : (names : List (List ℕ)) (xs : List A) (bytes : List ℕ) → SpellsTable shape.words shape.atoms names xs bytes → bytes ≡ canonical_table shape.words xs
  table_one names = counted_one (SpellsEntry shape.words shape.atoms names) (λ x. canonical_words (shape.words x)) (λ x text is. words_one (shape.words x) text is.0)

  pub table_back : (names : List (List ℕ)) (xs : List A) → FitsWords shape.words xs → NamesAtoms shape.atoms names xs
      → all_entries shape names (canonical_table shape.words xs) ≡ Ok xs
  table_back names xs fits named = ended_again (entries_agree shape is_shape names) Rest (canonical_table shape.words xs) xs (table_spelled names xs fits named)
