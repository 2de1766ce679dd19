-- Terms are read where they are spelled.
use Rattle.std.proofs.Common.{◌≡◌, ◌≤◌, ◌-◌, ℕ, zero, suc, false, cond, ◌==◌, List, [], ◌∷◌, ◌++◌, length, Result, Ok, Err, refl, sym, ap, subst, ◌∙◌, arith, inl, inr}
use Rattle.std.proofs.lemmas.Bool.{eqb-true, ne_eqb}
use Rattle.bk_codec.specs.Reading.{◌>>=◌, giving, made_of, byte_at, number_at, many_at}
use Rattle.bk_codec.specs.Spelling.{IsBytes, Then, SpellsMany, SpellsNumber, SpellsCountedIn}
use Rattle.bk_codec.proofs.Steps.{bind_ok, chosen, ok_is}
use Rattle.bk_codec.proofs.Agreement.{Agrees, Takes, Takes-weaker, byte_agrees, number_agrees}
use Rattle.ext_term.specs.declared.term.Term.{Term}
use Rattle.ext_term.specs.declared.term.Term.TheVariants as terms
use Rattle.ext_term.specs.declared.refusal.TermRefusal.{TermRefusal}
use Rattle.ext_term.specs.declared.refusal.TermRefusal.TheVariants.{Cut, Tag, Depth}
use Rattle.ext_term.specs.Spelling.{SpellsAtom, latin_100, latin_115, utf8_118, utf8_119, SpellsPair}
use Rattle.ext_term.specs.Reading.{tag_at, is_atom_tag, atom_at, name_at, arity_at, export_at, tuple_at, list_at, pair_at, map_at}
use Rattle.bk_codec.proofs.Agreeing.{Two, Made, agrees_as, agrees_two, agrees_made, agrees_many}
use Rattle.ext_term.proofs.Flat.{AtomBehind, atom_agrees}

-- ---- external functions

-- a tag, where terms may stand there
abbrev IsOpenTag : ℕ → ℕ → List ℕ → Type 0
IsOpenTag levels tag text = (1 ≤ levels) × (text ≡ tag ∷ [])

open_tag : (levels : ℕ) (e : TermRefusal) (tag : ℕ × List ℕ) (y : ℕ × List ℕ) → cond (levels == 0) (Err e) (giving tag.0 tag.1) ≡ Ok y → (1 ≤ levels) × (tag ≡ y)
open_tag zero e tag y h = absurd cc
open_tag (suc n) e tag y h =
    let more : (suc n == 0) ≡ false = ne_eqb (suc n) 0 (λ z. omega (arith, z)) in
    (omega arith, ok_is {E = TermRefusal} (tag.0, tag.1) y (rw more at h))

tag_take : (end levels : ℕ) (bytes : List ℕ) (tag : ℕ) (rest : List ℕ) → IsBytes bytes → tag_at end levels bytes ≡ Ok (tag, rest) → Takes (IsOpenTag levels tag) bytes rest
unfolding tag_at
tag_take end levels bytes tag rest fits e =
    let b = bind_ok (byte_at Cut bytes) (λ tag. cond (levels == 0) (Err (Depth (end - length bytes))) (giving tag.0 tag.1)) (tag, rest) e in
    let o = open_tag levels (Depth (end - length bytes)) b.0 (tag, rest) b.2 in
    let took : Takes (IsOpenTag levels b.0.0) bytes b.0.1 = Takes-weaker (λ text is. (o.0, is)) ((byte_agrees Cut).takes bytes b.0.0 b.0.1 fits b.1) in
    subst (λ (q : ℕ × List ℕ). Takes (IsOpenTag levels q.0) bytes q.1) o.1 took

tag_again : (end levels tag : ℕ) (text rest : List ℕ) → IsOpenTag levels tag text → tag_at end levels (text ++ rest) ≡ Ok (tag, rest)
unfolding tag_at
tag_again end levels tag text rest is =
    let more : (levels == 0) ≡ false = ne_eqb levels 0 (λ z. omega (arith, z, is.0)) in
    rw (is.1, more) refl

tag_agrees : (end levels : ℕ) → Agrees (tag_at end levels) (IsOpenTag levels)
tag_agrees end levels = record { takes = tag_take end levels; again = tag_again end levels }

-- the tag of an atom, and what is behind it
pub atom_parts : (name text : List ℕ) → SpellsAtom name text → (tag : ℕ) × (behind : List ℕ) × (text ≡ tag ∷ behind) × AtomBehind tag name behind
atom_parts name text (latin_100 s bytes is) = (100, bytes, refl, latin_100 s bytes is)
atom_parts name text (latin_115 s bytes is) = (115, bytes, refl, latin_115 s bytes is)
atom_parts name text (utf8_118 s bytes utf8 is) = (118, bytes, refl, utf8_118 s bytes utf8 is)
atom_parts name text (utf8_119 s bytes utf8 is) = (119, bytes, refl, utf8_119 s bytes utf8 is)

name_to : (levels : ℕ) (name text : List ℕ) → Two (IsOpenTag levels) AtomBehind name text → (1 ≤ levels) × SpellsAtom name text
name_to levels name text (tag, is) =
    let joined : tag ∷ is.back ≡ text = sym (is.joined ∙ ap (λ (u : List ℕ). u ++ is.back) is.front_is.1) in
    (is.front_is.0, subst (SpellsAtom name) joined is.back_is)

name_from : (levels : ℕ) (name text : List ℕ) → (1 ≤ levels) × SpellsAtom name text → Two (IsOpenTag levels) AtomBehind name text
name_from levels name text (deep, is) =
    let a = atom_parts name text is in
    (a.0, record { front = a.0 ∷ []; back = a.1; front_is = (deep, refl); back_is = a.3; joined = a.2 })

pub name_agrees : (end levels : ℕ) → Agrees (name_at end levels) (λ name text. (1 ≤ levels) × SpellsAtom name text)
unfolding name_at
name_agrees end levels =
    agrees_as
    (agrees_two (tag_at end levels) (IsOpenTag levels) (λ bytes tag rest. cond (is_atom_tag tag) (atom_at (end - length bytes) tag rest) (Err (Tag tag (end - length bytes)))) AtomBehind
    (tag_agrees end levels) (λ bytes tag. atom_agrees (end - length bytes) tag (Tag tag (end - length bytes))))
    (name_to levels) (name_from levels)

-- an arity behind its tag
abbrev ArityBehind : ℕ → ℕ → List ℕ → Type 0
ArityBehind tag arity text = (tag ≡ 97) × (text ≡ arity ∷ [])

arity_behind : (tag : ℕ) (e : TermRefusal) → Agrees (λ bytes. cond (tag == 97) (byte_at Cut bytes) (Err e)) (ArityBehind tag)
arity_behind tag e = record {
  takes = λ bytes n rest fits read.
      elim (chosen (tag == 97) (byte_at Cut bytes) _ _ read) [
        | inl a ↦ Takes-weaker (λ text is. (eqb-true tag 97 a.0, is)) ((byte_agrees Cut).takes bytes n rest fits a.1)
        | inr a ↦ absurd cc
      ];
  again = λ n text rest is. rw (is.0, is.1) refl;
}

abbrev IsArity : ℕ → ℕ → List ℕ → Type 0
IsArity levels arity text = (1 ≤ levels) × (text ≡ 97 ∷ arity ∷ [])

arity_to : (levels arity : ℕ) (text : List ℕ) → Two (IsOpenTag levels) ArityBehind arity text → IsArity levels arity text
arity_to levels arity text (tag, is) = (
  is.front_is.0,
  is.joined ∙ ap (λ (u : List ℕ). u ++ is.back) is.front_is.1 ∙ ap (λ (u : List ℕ). tag ∷ u) is.back_is.1 ∙ ap (λ (n : ℕ). n ∷ arity ∷ []) is.back_is.0,
)

arity_from : (levels arity : ℕ) (text : List ℕ) → IsArity levels arity text → Two (IsOpenTag levels) ArityBehind arity text
arity_from levels arity text (deep, is) =
    (97, record { front = 97 ∷ []; back = arity ∷ []; front_is = (deep, refl); back_is = (refl, refl); joined = is })

arity_agrees : (end levels : ℕ) → Agrees (arity_at end levels) (IsArity levels)
unfolding arity_at
arity_agrees end levels =
    agrees_as
    (agrees_two (tag_at end levels) (IsOpenTag levels) (λ bytes tag rest. cond (tag == 97) (byte_at Cut rest) (Err (Tag tag (end - length bytes)))) ArityBehind
    (tag_agrees end levels) (λ bytes tag. arity_behind tag (Tag tag (end - length bytes))))
    (arity_to levels) (arity_from levels)

-- an external function behind its tag
abbrev pub IsExport : ℕ → Term → List ℕ → Type 0
IsExport levels t text =
    (m : List ℕ) × (f : List ℕ) × (arity : ℕ) × (1 ≤ levels) × (terms.Export m f arity ≡ t) × Then (SpellsAtom m) (Then (SpellsAtom f) (λ u. u ≡ 97 ∷ arity ∷ [])) text

abbrev NameSpelled : ℕ → List ℕ → List ℕ → Type 0
NameSpelled levels name text = (1 ≤ levels) × SpellsAtom name text

abbrev Rest : ℕ → List ℕ → List ℕ → Term → List ℕ → Type 0
Rest levels m f = Made (λ a. terms.Export m f a) (IsArity levels)

rest_agrees : (end levels : ℕ) (m f : List ℕ) → Agrees (λ bytes. made_of (λ a. terms.Export m f a) (arity_at end levels bytes)) (Rest levels m f)
rest_agrees end levels m f = agrees_made (λ a. terms.Export m f a) (arity_at end levels) (IsArity levels) (arity_agrees end levels)

abbrev Function : ℕ → List ℕ → Term → List ℕ → Type 0
Function levels m = Two (NameSpelled levels) (Rest levels m)

function_agrees : (end levels : ℕ) (m : List ℕ) → Agrees (λ bytes. name_at end levels bytes >>= λ f. made_of (λ a. terms.Export m f.0 a) (arity_at end levels f.1)) (Function levels m)
function_agrees end levels m =
    agrees_two (name_at end levels) (NameSpelled levels) (λ bytes f rest. made_of (λ a. terms.Export m f a) (arity_at end levels rest)) (Rest levels m) (name_agrees end levels) (λ bytes f. rest_agrees end levels m f)

export_to : (levels : ℕ) (t : Term) (text : List ℕ) → Two (NameSpelled levels) (Function levels) t text → IsExport levels t text
export_to levels t text (m, is) =
    let f = is.back_is in
    let a = f.1.back_is in (
      m,
      f.0,
      a.0,
      is.front_is.0,
      a.1,
      record {
        front = is.front;
        back = is.back;
        front_is = is.front_is.1;
        back_is = record { front = f.1.front; back = f.1.back; front_is = f.1.front_is.1; back_is = a.2.1; joined = f.1.joined };
        joined = is.joined;
      },
    )

export_from : (levels : ℕ) (t : Term) (text : List ℕ) → IsExport levels t text → Two (NameSpelled levels) (Function levels) t text
export_from levels t text (m, f, arity, deep, made, is) = (
  m,
  record {
    front = is.front;
    back = is.back;
    front_is = (deep, is.front_is);
    back_is = (f, record { front = is.back_is.front; back = is.back_is.back; front_is = (deep, is.back_is.front_is); back_is = (arity, made, (deep, is.back_is.back_is)); joined = is.back_is.joined });
    joined = is.joined;
  },
)

pub export_agrees : (end levels : ℕ) → Agrees (export_at end levels) (IsExport levels)
unfolding export_at
export_agrees end levels =
    agrees_as
    (agrees_two (name_at end levels) (NameSpelled levels) (λ bytes m rest. name_at end levels rest >>= λ f. made_of (λ a. terms.Export m f.0 a) (arity_at end levels f.1)) (Function levels) (name_agrees end levels) (λ bytes m. function_agrees end levels m))
    (export_to levels) (export_from levels)

-- ---- terms with terms in them

module _ (inner : List ℕ → Result (Term × List ℕ) TermRefusal) (Inner : Term → List ℕ → Type 0) (agrees : Agrees inner Inner) where
  -- what follows a count
  abbrev Counted : {A : Type 0} → (A → List ℕ → Type 0) → ℕ → List A → List ℕ → Type 0
  Counted R n xs text = (length xs ≡ n) × SpellsMany R xs text

  counted_to : {A : Type 0} (make : List A → Term) (R : A → List ℕ → Type 0) (k : ℕ) (t : Term) (text : List ℕ)
      → Two (SpellsNumber k) (λ n. Made make (Counted R n)) t text → Made make (SpellsCountedIn k R) t text
  counted_to make R k t text (n, is) =
      let xs = is.back_is in (
        xs.0,
        xs.1,
        record {
          front = is.front;
          back = is.back;
          front_is = subst (λ (m : ℕ). SpellsNumber k m is.front) (sym xs.2.0) is.front_is;
          back_is = xs.2.1;
          joined = is.joined;
        },
      )

  counted_from : {A : Type 0} (make : List A → Term) (R : A → List ℕ → Type 0) (k : ℕ) (t : Term) (text : List ℕ)
      → Made make (SpellsCountedIn k R) t text → Two (SpellsNumber k) (λ n. Made make (Counted R n)) t text
  counted_from make R k t text (xs, made, is) =
      (length xs, record { front = is.front; back = is.back; front_is = is.front_is; back_is = (xs, made, (refl, is.back_is)); joined = is.joined })

  pub tuple_agrees : (k : ℕ) → Agrees (tuple_at inner k) (Made terms.Tuple (SpellsCountedIn k Inner))
  tuple_agrees k =
      agrees_as
      (agrees_two (number_at Cut k) (SpellsNumber k) (λ bytes n rest. made_of terms.Tuple (many_at inner n rest)) (λ n. Made terms.Tuple (Counted Inner n))
      (number_agrees Cut k) (λ bytes n. agrees_made terms.Tuple (many_at inner n) (Counted Inner n) (agrees_many agrees n)))
      (counted_to terms.Tuple Inner k) (counted_from terms.Tuple Inner k)

  -- a key and its value
  pair_to : (p : Term × Term) (text : List ℕ) → Two Inner (λ key. Made (λ value. (key, value)) Inner) p text → SpellsPair Inner p text
  pair_to p text (key, is) =
      subst (λ (q : Term × Term). SpellsPair Inner q text) is.back_is.1
      (record { front = is.front; back = is.back; front_is = is.front_is; back_is = is.back_is.2; joined = is.joined })

  pair_from : (p : Term × Term) (text : List ℕ) → SpellsPair Inner p text → Two Inner (λ key. Made (λ value. (key, value)) Inner) p text
  pair_from p text is =
      (p.0, record { front = is.front; back = is.back; front_is = is.front_is; back_is = (p.1, refl, is.back_is); joined = is.joined })

  pair_agrees : Agrees (pair_at inner) (SpellsPair Inner)
  pair_agrees =
      agrees_as
      (agrees_two inner Inner (λ bytes key rest. made_of (λ value. (key, value)) (inner rest)) (λ key. Made (λ value. (key, value)) Inner)
      agrees (λ bytes key. agrees_made (λ value. (key, value)) inner Inner agrees))
      pair_to pair_from

  pub map_agrees : Agrees (map_at inner) (Made terms.Map (SpellsCountedIn 4 (SpellsPair Inner)))
  map_agrees =
      agrees_as
      (agrees_two (number_at Cut 4) (SpellsNumber 4) (λ bytes n rest. made_of terms.Map (many_at (pair_at inner) n rest)) (λ n. Made terms.Map (Counted (SpellsPair Inner) n))
      (number_agrees Cut 4) (λ bytes n. agrees_made terms.Map (many_at (pair_at inner) n) (Counted (SpellsPair Inner) n) (agrees_many pair_agrees n)))
      (counted_to terms.Map (SpellsPair Inner) 4) (counted_from terms.Map (SpellsPair Inner) 4)

  -- items and a tail
  abbrev pub IsList : Term → List ℕ → Type 0
  IsList t text = (items : List Term) × (tail : Term) × (terms.List items tail ≡ t) × Then (SpellsNumber 4 (length items)) (Then (SpellsMany Inner items) (Inner tail)) text

  abbrev ItemsAndTail : ℕ → Term → List ℕ → Type 0
  ItemsAndTail n = Two (Counted Inner n) (λ items. Made (λ tail. terms.List items tail) Inner)

  items_and_tail : (n : ℕ) → Agrees (λ bytes. many_at inner n bytes >>= λ items. made_of (λ tail. terms.List items.0 tail) (inner items.1)) (ItemsAndTail n)
  items_and_tail n =
      agrees_two (many_at inner n) (Counted Inner n) (λ bytes items rest. made_of (λ tail. terms.List items tail) (inner rest)) (λ items. Made (λ tail. terms.List items tail) Inner)
      (agrees_many agrees n) (λ bytes items. agrees_made (λ tail. terms.List items tail) inner Inner agrees)

  list_to : (t : Term) (text : List ℕ) → Two (SpellsNumber 4) ItemsAndTail t text → IsList t text
  list_to t text (n, is) =
      let items = is.back_is in
      let tail = items.1.back_is in (
        items.0,
        tail.0,
        tail.1,
        record {
          front = is.front;
          back = is.back;
          front_is = subst (λ (m : ℕ). SpellsNumber 4 m is.front) (sym items.1.front_is.0) is.front_is;
          back_is = record { front = items.1.front; back = items.1.back; front_is = items.1.front_is.1; back_is = tail.2; joined = items.1.joined };
          joined = is.joined;
        },
      )

  list_from : (t : Term) (text : List ℕ) → IsList t text → Two (SpellsNumber 4) ItemsAndTail t text
  list_from t text (items, tail, made, is) = (
    length items,
    record {
      front = is.front;
      back = is.back;
      front_is = is.front_is;
      back_is = (items, record { front = is.back_is.front; back = is.back_is.back; front_is = (refl, is.back_is.front_is); back_is = (tail, made, is.back_is.back_is); joined = is.back_is.joined });
      joined = is.joined;
    },
  )

  pub list_agrees : Agrees (list_at inner) IsList
  list_agrees =
      agrees_as
      (agrees_two (number_at Cut 4) (SpellsNumber 4) (λ bytes n rest. many_at inner n rest >>= λ items. made_of (λ tail. terms.List items.0 tail) (inner items.1)) ItemsAndTail
      (number_agrees Cut 4) (λ bytes n. items_and_tail n))
      list_to list_from
