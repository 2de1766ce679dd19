-- Atoms are read where they are spelled.
use Rattle.std.proofs.Common.{◌≡◌, ℕ, ◌<◌, Bool, true, false, cond, ltb, List, [], ◌∷◌, ◌++◌, length, get_or, take, drop, Ok, Err, refl, sym, ap, subst, ◌∙◌, arith, inl, inr}
use Rattle.std.proofs.lemmas.Bool.{ltb-true, ltb-false, lt-ltb, le-ltb, false≢true, false_from_ne_true}
use Rattle.std.specs.Str.{IsUtf8, is_utf8}
use Rattle.std.proofs.lemmas.Str.{IsUtf8-from_is_utf8, is_utf8-from_IsUtf8}
use Rattle.bk_codec.specs.Reading.{◌>>=◌, giving, byte_at, bytes_at, utf8_or}
use Rattle.bk_codec.specs.Spelling.{IsBytes}
use Rattle.bk_codec.proofs.Steps.{bind_ok, bind_err, guard_ok, guard_err, ok_is, err_is}
use Rattle.bk_codec.proofs.Agreement.{Agrees, Takes, Takes-then, Takes-weaker, byte_agrees, bytes_agree}
use Rattle.bk_codec.proofs.Counted.{counted_agrees, counted-fits, counted-all}
use Rattle.bk_codec.proofs.Refused.{RefusesByNumber}
use Rattle.index_tables.specs.declared.refusal.TableRefusal.{TableRefusal}
use Rattle.index_tables.specs.declared.refusal.TableRefusal.TheVariants.{Cut, AtomUtf8}
use Rattle.index_tables.specs.Atoms.{SpellsAtom, SpellsAtoms, FitsAtoms}
use Rattle.index_tables.specs.Reading.{atom_at, atoms_at}
use Rattle.index_tables.specs.Refusal.{NoAtom}

-- bytes that are the text of atom n, with what is behind them
text_ok : (b : Bool) (n : ℕ) (name after : List ℕ) (x : List ℕ × List ℕ) → (cond b (Ok name) (Err (AtomUtf8 n)) >>= λ text. giving text after) ≡ Ok x → (b ≡ true) × ((name, after) ≡ x)
text_ok true n name after x e = (refl, ok_is {E = TableRefusal} (name, after) x e)
text_ok false n name after x e = absurd cc

-- the length, and the name behind it
atom_spelled : (name : List ℕ) (len : ℕ) (bytes behind rest : List ℕ) → IsBytes bytes → IsUtf8 name
    → Takes (λ text. text ≡ len ∷ []) bytes behind → Takes (λ text. (text ≡ name) × (length name ≡ len)) behind rest → Takes (SpellsAtom name) bytes rest
atom_spelled name len bytes behind rest fits utf8 first second =
    let start : get_or bytes 0 0 ≡ len = ap (λ (t : List ℕ). get_or t 0 0) first.joined ∙ ap (λ (t : List ℕ). get_or (t ++ behind) 0 0) first.is in
    let below : length name < 256 = omega (arith, start, second.is.1, fits 0) in
    Takes-weaker (λ text is. (
      utf8,
      below,
      is.joined ∙ ap (λ (t : List ℕ). t ++ is.back) is.front_is ∙ ap (λ (t : List ℕ). len ∷ t) is.back_is.0 ∙ ap (λ (l : ℕ). l ∷ name) (sym is.back_is.1),
    )) (Takes-then first second)

atom_takes : (n : ℕ) (bytes x rest : List ℕ) → IsBytes bytes → atom_at n bytes ≡ Ok (x, rest) → Takes (SpellsAtom x) bytes rest
unfolding atom_at
atom_takes n bytes x rest fits e =
    let a = bind_ok (byte_at Cut bytes) (λ len. bytes_at Cut len.0 len.1 >>= λ name. utf8_or (AtomUtf8 n) name.0 >>= λ text. giving text name.1) (x, rest) e in
    let b = bind_ok (bytes_at Cut a.0.0 a.0.1) (λ name. utf8_or (AtomUtf8 n) name.0 >>= λ text. giving text name.1) (x, rest) a.2 in
    let text = text_ok (is_utf8 b.0.0) n b.0.0 b.0.1 (x, rest) b.2 in
    let first = (byte_agrees Cut).takes bytes a.0.0 a.0.1 fits a.1 in
    let second = (bytes_agree Cut a.0.0).takes a.0.1 b.0.0 b.0.1 first.fits b.1 in
    let took = atom_spelled b.0.0 a.0.0 bytes a.0.1 b.0.1 fits (IsUtf8-from_is_utf8 b.0.0 text.0) first second in
    subst (λ (q : List ℕ × List ℕ). Takes (SpellsAtom q.0) bytes q.1) text.1 took

atom_again : (n : ℕ) (x text rest : List ℕ) → SpellsAtom x text → atom_at n (text ++ rest) ≡ Ok (x, rest)
unfolding atom_at
atom_again n x text rest is =
    let utf8 : is_utf8 x ≡ true = is_utf8-from_IsUtf8 x is.0 in
    let bytes : bytes_at Cut (length x) (x ++ rest) ≡ Ok (x, rest) = (bytes_agree Cut (length x)).again x x rest (refl, refl) in
    rw (is.2, bytes, utf8) refl

pub atom_agrees : (n : ℕ) → Agrees (atom_at n) SpellsAtom
atom_agrees n = record { takes = atom_takes n; again = atom_again n }

pub atoms_agree : Agrees atoms_at SpellsAtoms
atoms_agree = counted_agrees Cut atom_at SpellsAtom atom_agrees 1

pub SpellsAtoms-fits : (names : List (List ℕ)) (bytes : List ℕ) → SpellsAtoms names bytes → FitsAtoms names
SpellsAtoms-fits names bytes is = (
  counted-fits SpellsAtom names bytes is,
  counted-all SpellsAtom (λ name. length name < 256) (λ name text atom. atom.1) names bytes is,
)

-- ---- refusals

text_err : (b : Bool) (n : ℕ) (name after : List ℕ) (e : TableRefusal) → (cond b (Ok name) (Err (AtomUtf8 n)) >>= λ text. giving text after) ≡ Err e → (b ≡ false) × (AtomUtf8 n ≡ e)
text_err true n name after e h = absurd cc
text_err false n name after e h = (refl, err_is {A = List ℕ × List ℕ} (AtomUtf8 n) e h)

atom_why : (n : ℕ) (bytes : List ℕ) (e : TableRefusal) → IsBytes bytes → atom_at n bytes ≡ Err e → NoAtom n bytes e
unfolding atom_at
atom_why n [] e fits h = subst (λ (d : TableRefusal). NoAtom n [] d) (err_is {A = List ℕ × List ℕ} Cut e h) tt
atom_why n (len ∷ bytes) e fits h =
    elim (bind_err (bytes_at Cut len bytes) (λ name. utf8_or (AtomUtf8 n) name.0 >>= λ text. giving text name.1) e h) [
      | inl short ↦ (
          let g = guard_err (ltb (length bytes) len) Cut (take len bytes, drop len bytes) e short in
          subst (λ (d : TableRefusal). NoAtom n (len ∷ bytes) d) g.1 (ltb-true (length bytes) len g.0))
      | inr later ↦ (
          let g = guard_ok (ltb (length bytes) len) Cut (giving (take len bytes) (drop len bytes)) later.0 later.1 in
          let name : take len bytes ≡ later.0.0 = ap (λ (q : List ℕ × List ℕ). q.0) (ok_is {E = TableRefusal} (take len bytes, drop len bytes) later.0 g.1) in
          let text = text_err (is_utf8 later.0.0) n later.0.0 later.0.1 e later.2 in
          let not_utf8 : IsUtf8 (take len bytes) → ⊥ = λ utf8. false≢true (sym text.0 ∙ ap is_utf8 (sym name) ∙ is_utf8-from_IsUtf8 (take len bytes) utf8) in
          subst (λ (d : TableRefusal). NoAtom n (len ∷ bytes) d) text.1 (refl, ltb-false (length bytes) len g.0, not_utf8))
    ]

atom_refuses : (n : ℕ) (bytes : List ℕ) (e : TableRefusal) → NoAtom n bytes e → atom_at n bytes ≡ Err e
unfolding atom_at
atom_refuses n [] Cut is = refl
atom_refuses n (len ∷ bytes) Cut is = rw (lt-ltb (length bytes) len is) refl
atom_refuses n (len ∷ bytes) (AtomUtf8 k) is =
    let utf8 : is_utf8 (take len bytes) ≡ false = false_from_ne_true (is_utf8 (take len bytes)) (λ e. is.2 (IsUtf8-from_is_utf8 (take len bytes) e)) in
    rw (le-ltb (length bytes) len is.1, utf8, is.0) refl
atom_refuses n [] e is = absurd is
atom_refuses n (len ∷ bytes) e is = absurd is

pub atom_refused : RefusesByNumber atom_at NoAtom
atom_refused = record { why = atom_why; refuses = atom_refuses }
