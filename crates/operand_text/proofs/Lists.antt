-- Lists of members are read back.
use Rattle.std.proofs.Common.{◌≡◌, ℕ, ◌^◌, ◌<◌, Bool, true, false, eqb, cond, List, [], ◌∷◌, ◌++◌, length, All, Option, Some, None, option_map, option_and_then, codes, decimal, refl, sym, ap, ◌∙◌, arith, append_assoc, inl, inr}
use Rattle.std.proofs.lemmas.Bool.{eqb-true, eq-eqb, ne_eqb, cond-true, cond-false}
use Rattle.std.proofs.lemmas.List.{length-append}
use Rattle.std.proofs.lemmas.List.Elements.{All-nil, All-head}
use Rattle.std.proofs.lemmas.Option.{same_Some}
use Rattle.std.specs.List.{flat_map, join_by, join_with_byte}
use Rattle.bk_codec.proofs.Steps.{chosen}
use Rattle.bk_parse.specs.Inverse.{Inverts}
use Rattle.bk_parse.specs.Parts.{Lacks, all_of, parts_at}
use Rattle.bk_parse.specs.Numbers.{number_of}
use Rattle.bk_parse.proofs.Options.{map_some, then_some}
use Rattle.bk_parse.proofs.Numerals.{number_inverts}
use Rattle.bk_parse.proofs.Splitting.{one_part, first_part, joined_parts, joined_found, joined_only}
use Rattle.compact_term.specs.Operand.{PairMeetsType}
use Rattle.operand_text.specs.Operand.{pair_text}
use Rattle.operand_text.specs.Reading.{pair_in, pair_of, closed_by, members_of}
use Rattle.operand_text.proofs.Plains.{decimal_lacks}

-- ---- pairs

long : Inverts (number_of (2 ^ 64)) (λ n. n < 2 ^ 64) decimal
long = number_inverts (2 ^ 64) (omega arith)

pair_parts : (parts : List (List ℕ)) (p : ℕ × ℕ) → pair_in parts ≡ Some p → PairMeetsType p × (pair_text p ≡ join_with_byte 58 parts)
pair_parts [] p e = absurd cc
pair_parts (kind ∷ []) p e = absurd cc
pair_parts (kind ∷ amount ∷ []) p e =
    let k = then_some (λ k. option_map (λ n. (k, n)) (number_of (2 ^ 64) amount)) (number_of (2 ^ 64) kind) p e in
    let n = map_some (λ n. (k.0, n)) (number_of (2 ^ 64) amount) p k.2 in
    let first = long.found kind k.0 k.1 in
    let second = long.found amount n.0 n.1 in
    rw (← n.2) (
      (first.0, second.0),
      append_assoc (decimal k.0) (codes ":") (decimal n.0) ∙ ap (λ (t : List ℕ). t ++ (58 ∷ decimal n.0)) first.1 ∙ ap (λ (t : List ℕ). kind ++ (58 ∷ t)) second.1,
    )
pair_parts (kind ∷ amount ∷ more ∷ parts) p e = absurd cc

pair_found : (t : List ℕ) (p : ℕ × ℕ) → pair_of t ≡ Some p → PairMeetsType p × (pair_text p ≡ t)
pair_found t p e =
    let facts = pair_parts (parts_at 58 t) p e in
    (facts.0, facts.1 ∙ joined_parts 58 t)

pair_back : (p : ℕ × ℕ) → PairMeetsType p → pair_of (pair_text p) ≡ Some p
pair_back p h =
    ap (λ (t : List ℕ). pair_in (parts_at 58 t)) (append_assoc (decimal p.0) (codes ":") (decimal p.1))
    ∙ ap pair_in (first_part 58 (decimal p.0) (decimal p.1) (decimal_lacks 58 p.0 refl) ∙ ap (λ (ps : List (List ℕ)). decimal p.0 ∷ ps) (one_part 58 (decimal p.1) (decimal_lacks 58 p.1 refl)))
    ∙ ap (option_and_then (λ k. option_map (λ n. (k, n)) (number_of (2 ^ 64) (decimal p.1)))) (long.only p.0 h.0)
    ∙ ap (option_map (λ n. (p.0, n))) (long.only p.1 h.1)

pub pair_inverts : Inverts pair_of PairMeetsType pair_text
pair_inverts = record { found = pair_found; only = pair_back }

-- ---- brackets

pub closed_found : (last : ℕ) (t inner : List ℕ) → closed_by last t ≡ Some inner → inner ++ last ∷ [] ≡ t
closed_found last [] inner e = absurd cc
closed_found last (b ∷ []) inner e =
    elim (chosen (eqb b last) (Some []) None (Some inner) e) [
      | inl here ↦ ap (λ (front : List ℕ). front ++ last ∷ []) (sym (same_Some [] inner here.1)) ∙ ap (λ (x : ℕ). x ∷ []) (sym (eqb-true b last here.0))
      | inr none ↦ absurd (let h = none.1 in cc)
    ]
closed_found last (b ∷ c ∷ t) inner e =
    let behind = map_some (λ inner. b ∷ inner) (closed_by last (c ∷ t)) inner e in
    ap (λ (front : List ℕ). front ++ last ∷ []) (sym behind.2) ∙ ap (λ (rest : List ℕ). b ∷ rest) (closed_found last (c ∷ t) behind.0 behind.1)

-- what the last byte decides
closed_is : (last : ℕ) (inner : List ℕ) (b : ℕ) → closed_by last (inner ++ b ∷ []) ≡ cond (eqb b last) (Some inner) None
closed_is last [] b = refl
closed_is last (c ∷ []) b = in_front (eqb b last)
  where
    in_front : (test : Bool) → option_map (λ rest. c ∷ rest) (cond test (Some []) None) ≡ cond test (Some (c ∷ [])) None
    in_front true = refl
    in_front false = refl
closed_is last (c ∷ d ∷ inner) b = ap (option_map (λ rest. c ∷ rest)) (closed_is last (d ∷ inner) b) ∙ in_front (eqb b last)
  where
    in_front : (test : Bool) → option_map (λ rest. c ∷ rest) (cond test (Some (d ∷ inner)) None) ≡ cond test (Some (c ∷ d ∷ inner)) None
    in_front true = refl
    in_front false = refl

pub closed_at : (last : ℕ) (t inner : List ℕ) (b : ℕ) → t ≡ inner ++ b ∷ [] → b ≡ last → closed_by last t ≡ Some inner
closed_at last t inner b is same = ap (closed_by last) is ∙ closed_is last inner b ∙ cond-true (eqb b last) (Some inner) None (eq-eqb b last same)

pub not_closed : (last : ℕ) (t inner : List ℕ) (b : ℕ) → t ≡ inner ++ b ∷ [] → (b ≡ last → ⊥) → closed_by last t ≡ None
not_closed last t inner b is other = ap (closed_by last) is ∙ closed_is last inner b ∙ cond-false (eqb b last) (Some inner) None (ne_eqb b last other)

pub closed_back : (last : ℕ) (inner : List ℕ) → closed_by last (inner ++ last ∷ []) ≡ Some inner
closed_back last inner = closed_at last (inner ++ last ∷ []) inner last refl refl

-- ---- members

members_some : {A : Type 0} (read : List ℕ → Option A) (t : List ℕ) → 0 < length t → members_of read t ≡ all_of read (parts_at 44 t)
members_some read [] some = absurd (omega arith)
members_some read (b ∷ t) some = refl

module _ {A : Type 0} {read : List ℕ → Option A} {Is : A → Type 0} {text : A → List ℕ} (inverse : Inverts read Is text) (lacks : (x : A) → Is x → Lacks 44 (text x)) (some : (x : A) → Is x → 0 < length (text x)) where
  members_found : (t : List ℕ) (xs : List A) → members_of read t ≡ Some xs → All Is xs × (join_by text (codes ",") xs ≡ t)
  members_found [] xs e = rw (← same_Some [] xs e) (All-nil Is, refl)
  members_found (b ∷ t) xs e = joined_found inverse 44 (b ∷ t) xs e

  members_back : (xs : List A) → All Is xs → members_of read (join_by text (codes ",") xs) ≡ Some xs
  members_back [] h = refl
  members_back (x ∷ xs) h =
      let first = some x (All-head Is x xs h) in
      members_some read (join_by text (codes ",") (x ∷ xs)) (omega (arith, length-append (text x) (flat_map (λ y. codes "," ++ text y) xs)))
      ∙ joined_only inverse 44 lacks x xs h

  pub members_invert : Inverts (members_of read) (All Is) (join_by text (codes ","))
  members_invert = record { found = members_found; only = members_back }
