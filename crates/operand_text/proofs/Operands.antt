-- Operands are read back.
use Rattle.std.proofs.Common.{◌≡◌, ℕ, true, eqb, cond, List, [], ◌∷◌, ◌++◌, All, Option, Some, option_map, option_and_then, codes, refl, sym, ap, ◌∙◌, inl, inr}
use Rattle.std.proofs.lemmas.Bool.{eqb-true}
use Rattle.std.specs.List.{join_by}
use Rattle.bk_codec.proofs.Steps.{chosen}
use Rattle.bk_parse.specs.Inverse.{Inverts}
use Rattle.bk_parse.proofs.Options.{map_some, then_some}
use Rattle.compact_term.specs.Operand.{PairMeetsType}
use Rattle.compact_term.specs.declared.operand.Reg.TheVariants as regs
use Rattle.compact_term.specs.declared.operand.Plain.{Plain}
use Rattle.compact_term.specs.declared.operand.Plain.TheVariants as plains
use Rattle.compact_term.specs.declared.operand.Operand.{Operand}
use Rattle.compact_term.specs.declared.operand.Operand.TheVariants as operands
use Rattle.operand_text.specs.Listed.{PlainIsListed, IsListed}
use Rattle.operand_text.specs.Operand.{plain_text, pair_text, operand_text}
use Rattle.operand_text.specs.Reading.{plain_of, pair_of, closed_by, members_of, operand_of}
use Rattle.operand_text.proofs.Plains.{plain_inverts}
use Rattle.operand_text.proofs.Lists.{pair_inverts, closed_found, closed_back, members_invert}
use Rattle.operand_text.proofs.Words.{plain_lacks, plain_some, pair_lacks, pair_some}

lists : Inverts (members_of plain_of) (All PlainIsListed) (join_by plain_text (codes ","))
lists = members_invert plain_inverts plain_lacks plain_some

pairs : Inverts (members_of pair_of) (All PairMeetsType) (join_by pair_text (codes ","))
pairs = members_invert pair_inverts (λ p fits. pair_lacks p) (λ p fits. pair_some p)

-- what is read between a mark and the last byte
enclosed : {A B : Type 0} {read : List ℕ → Option A} {Is : A → Type 0} {text : A → List ℕ} → Inverts read Is text → (make : A → B) (made_text : B → List ℕ) (IsMade : B → Type 0) (first last : ℕ)
    → ((x : A) → Is x → IsMade (make x)) → ((x : A) → made_text (make x) ≡ first ∷ text x ++ last ∷ [])
    → (mark : ℕ) (t : List ℕ) (y : B) → eqb mark first ≡ true → option_map make (option_and_then read (closed_by last t)) ≡ Some y → IsMade y × (made_text y ≡ mark ∷ t)
enclosed {read = read} inverse make made_text IsMade first last is_made text_is mark t y test e =
    let x = map_some make (option_and_then read (closed_by last t)) y e in
    let inner = then_some read (closed_by last t) x.0 x.1 in
    let facts = inverse.found inner.0 x.0 inner.2 in
    let same : first ≡ mark = sym (eqb-true mark first test) in
    rw (← x.2) (
      is_made x.0 facts.0,
      text_is x.0 ∙ ap (λ (rest : List ℕ). first ∷ rest ++ last ∷ []) facts.1 ∙ ap (λ (rest : List ℕ). first ∷ rest) (closed_found last t inner.0 inner.1) ∙ ap (λ (b : ℕ). b ∷ t) same,
    )

abbrev from_braces : ℕ → List ℕ → Option Operand
from_braces mark t = cond (eqb mark 123) (option_map operands.Alloc (option_and_then (members_of pair_of) (closed_by 125 t))) (option_map operands.One (plain_of (mark ∷ t)))

operand_found : (t : List ℕ) (o : Operand) → operand_of t ≡ Some o → IsListed o × (operand_text o ≡ t)
operand_found [] o e = absurd cc
operand_found (mark ∷ t) o e =
    elim (chosen (eqb mark 91) (option_map operands.List (option_and_then (members_of plain_of) (closed_by 93 t))) (from_braces mark t) (Some o) e) [
      | inl here ↦ enclosed lists operands.List operand_text IsListed 91 93 (λ xs h. h) (λ xs. refl) mark t o here.0 here.1
      | inr other ↦
          elim (chosen (eqb mark 123) (option_map operands.Alloc (option_and_then (members_of pair_of) (closed_by 125 t))) (option_map operands.One (plain_of (mark ∷ t))) (Some o) other.1) [
            | inl here ↦ enclosed pairs operands.Alloc operand_text IsListed 123 125 (λ xs h. h) (λ xs. refl) mark t o here.0 here.1
            | inr plain ↦
                let p = map_some operands.One (plain_of (mark ∷ t)) o plain.1 in
                rw (← p.2) (plain_inverts.found (mark ∷ t) p.0 p.1)
          ]
    ]

-- the mark of an operand that holds no others begins no list
one_is : (p : Plain) → operand_of (plain_text p) ≡ option_map operands.One (plain_of (plain_text p))
one_is (plains.U n) = refl
one_is (plains.I z) = refl
one_is (plains.Wide bytes) = refl
one_is (plains.A n) = refl
one_is (plains.X n) = refl
one_is (plains.Y n) = refl
one_is (plains.F n) = refl
one_is (plains.H n) = refl
one_is (plains.Fr n) = refl
one_is (plains.Lit n) = refl
one_is (plains.Typed (regs.X m) n) = refl
one_is (plains.Typed (regs.Y m) n) = refl

operand_back : (o : Operand) → IsListed o → operand_of (operand_text o) ≡ Some o
operand_back (operands.One p) h = one_is p ∙ ap (option_map operands.One) (plain_inverts.only p h)
operand_back (operands.List ps) h =
    ap (λ (inner : Option (List ℕ)). option_map operands.List (option_and_then (members_of plain_of) inner)) (closed_back 93 (join_by plain_text (codes ",") ps))
    ∙ ap (option_map operands.List) (lists.only ps h)
operand_back (operands.Alloc ps) h =
    ap (λ (inner : Option (List ℕ)). option_map operands.Alloc (option_and_then (members_of pair_of) inner)) (closed_back 125 (join_by pair_text (codes ",") ps))
    ∙ ap (option_map operands.Alloc) (pairs.only ps h)

pub operand_inverts : Inverts operand_of IsListed operand_text
operand_inverts = record { found = operand_found; only = operand_back }
