-- Entries are read where they are spelled.
use Rattle.std.proofs.Common.{◌≡◌, ℕ, ◌^◌, ◌<◌, Bool, true, false, leb, cond, List, [], ◌∷◌, ◌++◌, length, All, Ok, Err, refl, sym, ap, subst, ◌∙◌, inl, inr}
use Rattle.std.specs.List.{list_all}
use Rattle.std.proofs.lemmas.Bool.{and_parts, leb-true, le-leb, false≢true, false_from_ne_true}
use Rattle.std.proofs.lemmas.List.Elements.{All-nil, All-cons, All-head, All-tail}
use Rattle.bk_codec.specs.Reading.{giving, made_of, many_at}
use Rattle.bk_codec.specs.Spelling.{IsBytes, SpellsMany, SpellsWord}
use Rattle.bk_codec.proofs.Steps.{bind_ok, bind_err, made_ok, made_err, ok_is, err_is}
use Rattle.bk_codec.proofs.Agreement.{Agrees, Takes, Takes-weaker, number_agrees, many_agree}
use Rattle.bk_codec.proofs.Counted.{counted_agrees, many-all, counted-fits, counted-all}
use Rattle.index_tables.specs.declared.refusal.TableRefusal.{TableRefusal}
use Rattle.index_tables.specs.declared.refusal.TableRefusal.TheVariants.{Cut, AtomIndex, Rest}
use Rattle.index_tables.specs.Atoms.{IsAtom}
use Rattle.index_tables.specs.Entries.{NamesAtoms, FitsWords, SpellsEntry, SpellsTable}
use Rattle.index_tables.specs.Reading.{word_at, record_at, is_atom, entry_at, entries_at}
use Rattle.index_tables.specs.Shape.{Shape, IsShape}
use Rattle.index_tables.specs.Refusal.{NoEntry, HasUnknownAtom, RefusesTable}
use Rattle.bk_codec.specs.Refusal.{IsDecided}
use Rattle.bk_codec.proofs.Refused.{RefusesByNumber, words_err, words_cut, decided}

-- ---- atom numbers

IsAtom-from_is_atom : (names : List (List ℕ)) (n : ℕ) → is_atom names n ≡ true → IsAtom names n
IsAtom-from_is_atom names n e =
    let parts = and_parts (leb 1 n) (leb n (length names)) e in
    (leb-true 1 n parts.0, leb-true n (length names) parts.1)

is_atom-from_IsAtom : (names : List (List ℕ)) (n : ℕ) → IsAtom names n → is_atom names n ≡ true
is_atom-from_IsAtom names n is = rw (le-leb 1 n is.0, le-leb n (length names) is.1) refl

all_atoms_known : (names : List (List ℕ)) (ns : List ℕ) → list_all (is_atom names) ns ≡ true → All (IsAtom names) ns
all_atoms_known names [] e = All-nil (IsAtom names)
all_atoms_known names (n ∷ ns) e =
    let parts = and_parts (is_atom names n) (list_all (is_atom names) ns) e in
    All-cons (IsAtom names) n ns (IsAtom-from_is_atom names n parts.0) (all_atoms_known names ns parts.1)

known_again : (names : List (List ℕ)) (ns : List ℕ) → All (IsAtom names) ns → list_all (is_atom names) ns ≡ true
known_again names [] all = refl
known_again names (n ∷ ns) all =
    let first = is_atom-from_IsAtom names n (All-head (IsAtom names) n ns all) in
    let others = known_again names ns (All-tail (IsAtom names) n ns all) in
    rw (first, others) refl

-- ---- entries

known_ok : {A : Type 0} (b : Bool) (i : ℕ) (x : A) (rest : List ℕ) (y : A × List ℕ) → cond b (giving x rest) (Err (AtomIndex i)) ≡ Ok y → (b ≡ true) × ((x, rest) ≡ y)
known_ok true i x rest y e = (refl, ok_is {E = TableRefusal} (x, rest) y e)
known_ok false i x rest y e = absurd cc

unknown_err : {A : Type 0} (b : Bool) (i : ℕ) (x : A) (rest : List ℕ) (e : TableRefusal) → cond b (giving x rest) (Err (AtomIndex i)) ≡ Err e → (b ≡ false) × (AtomIndex i ≡ e)
unknown_err true i x rest e h = absurd cc
unknown_err {A} false i x rest e h = (refl, err_is {A = A × List ℕ} (AtomIndex i) e h)

module _ {A : Type 0} (shape : Shape A) (is_shape : IsShape shape) where
  record_takes : (bytes : List ℕ) (x : A) (rest : List ℕ) → IsBytes bytes → record_at shape.of_words shape.width bytes ≡ Ok (x, rest) → Takes (SpellsMany SpellsWord (shape.words x)) bytes rest
  record_takes bytes x rest fits e =
      let m = made_ok shape.of_words (many_at word_at shape.width bytes) x rest e in
      let took = (many_agree (number_agrees Cut 4)).takes shape.width bytes m.0 rest fits m.1 in
      let words : m.0 ≡ shape.words x = sym (is_shape.made m.0 took.0) ∙ ap shape.words m.2 in
      subst (λ (ws : List ℕ). Takes (SpellsMany SpellsWord ws) bytes rest) words took.1

  record_again : (x : A) (text rest : List ℕ) → SpellsMany SpellsWord (shape.words x) text → record_at shape.of_words shape.width (text ++ rest) ≡ Ok (x, rest)
  record_again x text rest is =
      let words : many_at word_at (length (shape.words x)) (text ++ rest) ≡ Ok (shape.words x, rest) = (many_agree (number_agrees Cut 4)).again (shape.words x) text rest is in
      let counted : many_at word_at shape.width (text ++ rest) ≡ Ok (shape.words x, rest) = subst (λ (n : ℕ). many_at word_at n (text ++ rest) ≡ Ok (shape.words x, rest)) (is_shape.counted x) words in
      ap (made_of shape.of_words) counted ∙ ap (λ (y : A). giving y rest) (is_shape.back x)

  entry_takes : (names : List (List ℕ)) (i : ℕ) (bytes : List ℕ) (x : A) (rest : List ℕ) → IsBytes bytes → entry_at shape names i bytes ≡ Ok (x, rest)
      → Takes (SpellsEntry shape.words shape.atoms names x) bytes rest
  entry_takes names i bytes x rest fits e =
      let a = bind_ok (record_at shape.of_words shape.width bytes) (λ y. cond (list_all (is_atom names) (shape.atoms y.0)) (giving y.0 y.1) (Err (AtomIndex i))) (x, rest) e in
      let b = known_ok (list_all (is_atom names) (shape.atoms a.0.0)) i a.0.0 a.0.1 (x, rest) a.2 in
      let took = record_takes bytes a.0.0 a.0.1 fits a.1 in
      let known = all_atoms_known names (shape.atoms a.0.0) b.0 in
      subst (λ (y : A × List ℕ). Takes (SpellsEntry shape.words shape.atoms names y.0) bytes y.1) b.1 (Takes-weaker (λ text is. (is, known)) took)

  entry_again : (names : List (List ℕ)) (i : ℕ) (x : A) (text rest : List ℕ) → SpellsEntry shape.words shape.atoms names x text → entry_at shape names i (text ++ rest) ≡ Ok (x, rest)
  entry_again names i x text rest is =
      let words = record_again x text rest is.0 in
      let known = known_again names (shape.atoms x) is.1 in
      rw (words, known) refl

  pub entry_agrees : (names : List (List ℕ)) (i : ℕ) → Agrees (entry_at shape names i) (SpellsEntry shape.words shape.atoms names)
  entry_agrees names i = record { takes = entry_takes names i; again = entry_again names i }

  pub entries_agree : (names : List (List ℕ)) → Agrees (entries_at shape names) (SpellsTable shape.words shape.atoms names)
  entries_agree names = counted_agrees Cut (entry_at shape names) (SpellsEntry shape.words shape.atoms names) (entry_agrees names) 0

  pub SpellsTable-names : (names : List (List ℕ)) (xs : List A) (bytes : List ℕ) → SpellsTable shape.words shape.atoms names xs bytes → NamesAtoms shape.atoms names xs
  SpellsTable-names names xs bytes is =
      counted-all (SpellsEntry shape.words shape.atoms names) (λ x. All (IsAtom names) (shape.atoms x)) (λ x text entry. entry.1) xs bytes is

  pub SpellsTable-fits : (names : List (List ℕ)) (xs : List A) (bytes : List ℕ) → SpellsTable shape.words shape.atoms names xs bytes → FitsWords shape.words xs
  SpellsTable-fits names xs bytes is = (
    counted-fits (SpellsEntry shape.words shape.atoms names) xs bytes is,
    counted-all (SpellsEntry shape.words shape.atoms names) (λ x. All (λ n. n < 2 ^ 32) (shape.words x))
        (λ x text entry. many-all SpellsWord (λ n. n < 2 ^ 32) (λ n word spelled. spelled.fits) (shape.words x) text entry.0) xs bytes is,
  )

  -- ---- refusals

  entry_why : (names : List (List ℕ)) (i : ℕ) (bytes : List ℕ) (e : TableRefusal) → IsBytes bytes → entry_at shape names i bytes ≡ Err e
      → NoEntry shape.width shape.words shape.atoms names i bytes e
  entry_why names i bytes e fits h =
      elim (bind_err (record_at shape.of_words shape.width bytes) (λ y. cond (list_all (is_atom names) (shape.atoms y.0)) (giving y.0 y.1) (Err (AtomIndex i))) e h) [
        | inl short ↦ (
            let words = words_err Cut e shape.width bytes (made_err shape.of_words (many_at word_at shape.width bytes) e short) in
            subst (λ (d : TableRefusal). NoEntry shape.width shape.words shape.atoms names i bytes d) (sym words.0) words.1)
        | inr later ↦ (
            let g = unknown_err (list_all (is_atom names) (shape.atoms later.0.0)) i later.0.0 later.0.1 e later.2 in
            let took = record_takes bytes later.0.0 later.0.1 fits later.1 in
            let unknown : All (IsAtom names) (shape.atoms later.0.0) → ⊥ = λ all. false≢true (sym g.0 ∙ known_again names (shape.atoms later.0.0) all) in
            let has : HasUnknownAtom shape.words shape.atoms names bytes =
            record { entry = later.0.0; text = took.text; rest = later.0.1; joined = took.joined; words_are = took.is; unknown = unknown } in
            subst (λ (d : TableRefusal). NoEntry shape.width shape.words shape.atoms names i bytes d) g.1 (refl, has))
      ]

  entry_refuses : (names : List (List ℕ)) (i : ℕ) (bytes : List ℕ) (e : TableRefusal) → NoEntry shape.width shape.words shape.atoms names i bytes e → entry_at shape names i bytes ≡ Err e
  entry_refuses names i bytes Cut is = rw (words_cut Cut shape.width bytes is) refl
  entry_refuses names i bytes (AtomIndex k) is =
      let read : record_at shape.of_words shape.width bytes ≡ Ok (is.1.entry, is.1.rest) =
      ap (record_at shape.of_words shape.width) is.1.joined ∙ record_again is.1.entry is.1.text is.1.rest is.1.words_are in
      let unknown : list_all (is_atom names) (shape.atoms is.1.entry) ≡ false =
      false_from_ne_true (list_all (is_atom names) (shape.atoms is.1.entry)) (λ e. is.1.unknown (all_atoms_known names (shape.atoms is.1.entry) e)) in
      rw (read, unknown, is.0) refl
  entry_refuses names i bytes e is = absurd is

  pub entry_refused : (names : List (List ℕ)) → RefusesByNumber (entry_at shape names) (NoEntry shape.width shape.words shape.atoms names)
  entry_refused names = record { why = entry_why names; refuses = entry_refuses names }

  pub entries_decided : (names : List (List ℕ)) → IsDecided (SpellsTable shape.words shape.atoms names) (RefusesTable shape.width shape.words shape.atoms names)
  entries_decided names =
      decided (entry_at shape names) (SpellsEntry shape.words shape.atoms names) (NoEntry shape.width shape.words shape.atoms names) (entry_agrees names) (entry_refused names) Cut Rest 0
