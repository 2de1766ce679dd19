-- The items of a comment grow by those of an operand at a time.
use Rattle.std.proofs.Common.{◌≡◌, ℕ, zero, suc, ◌+◌, ◌<◌, Bool, true, List, [], ◌∷◌, ◌++◌, length, get_or, take, refl, sym, ap, ◌∙◌, append_assoc, arith}
use Rattle.std.proofs.lemmas.Grind.{flat_map-append}
use Rattle.std.proofs.lemmas.List.{append-nil, take_more}
use Rattle.std.specs.List.{flat_map}
use Rattle.compact_term.specs.declared.operand.Operand.{Operand}
use Rattle.listing_out.specs.declared.names.Names.{Names}
use Rattle.listing_out.specs.Comments.{any_behind, is_import_place, items_from, items_text, lead, operand_items}

any_stays : (items : List (List ℕ)) → any_behind true items ≡ true
any_stays [] = refl
any_stays (item ∷ items) = refl

-- some items, and then others
pub text_joined : (any : Bool) (items others : List (List ℕ)) → items_text any (items ++ others) ≡ items_text any items ++ items_text (any_behind any items) others
text_joined any [] others = refl
text_joined any (item ∷ items) others =
    ap (λ (t : List ℕ). lead any ++ (item ++ t)) (text_joined true items others ∙ ap (λ (b : Bool). items_text true items ++ items_text b others) (any_stays items))
    ∙ ap (λ (t : List ℕ). lead any ++ t) (sym (append_assoc item (items_text true items) (items_text true others)))
    ∙ sym (append_assoc (lead any) (item ++ items_text true items) (items_text true others))

any_joined : (any : Bool) (items others : List (List ℕ)) → any_behind any (items ++ others) ≡ any_behind (any_behind any items) others
any_joined any [] others = refl
any_joined any (item ∷ items) others = sym (any_stays others)

-- what was put up to now, and whether it is anything
pub record ItemsPut (any : Bool) (items : List (List ℕ)) (start out : List ℕ) (some : Bool) : Type 0 where
  pub text : out ≡ start ++ items_text any items
  pub any_is : some ≡ any_behind any items

pub items_more : (any : Bool) (items others all : List (List ℕ)) (start old new : List ℕ) (before now : Bool) → ItemsPut any items start old before → all ≡ items ++ others → new ≡ old ++ items_text before others
    → now ≡ any_behind before others → ItemsPut any all start new now
items_more any items others all start old new before now put whole text some = record {
  text =
      text ∙ ap (λ (t : List ℕ). t ++ items_text before others) put.text ∙ append_assoc start (items_text any items) (items_text before others)
      ∙ ap (λ (b : Bool). start ++ (items_text any items ++ items_text b others)) put.any_is
      ∙ ap (λ (t : List ℕ). start ++ t) (sym (text_joined any items others) ∙ ap (items_text any) (sym whole));
  any_is = some ∙ ap (λ (b : Bool). any_behind b others) put.any_is ∙ sym (any_joined any items others) ∙ ap (any_behind any) (sym whole);
}

-- the items of one more member
pub members_more : {A : Type 0} (f : A → List (List ℕ)) (xs : List A) (i : ℕ) (x : A) → i < length xs → x ≡ get_or xs i x → flat_map f (take (i + 1) xs) ≡ flat_map f (take i xs) ++ f x
members_more f xs i x below is =
    ap (flat_map f) (take_more xs i x below) ∙ flat_map-append f (take i xs) (get_or xs i x ∷ [])
    ∙ ap (λ (items : List (List ℕ)). flat_map f (take i xs) ++ items) (append-nil (f (get_or xs i x)) ∙ ap f (sym is))

-- the items of one more operand, whose place counts from that of the first
pub operands_more : (names : Names) (op place : ℕ) (os : List Operand) (i : ℕ) (d : Operand) → i < length os
    → items_from names op place (take (i + 1) os) ≡ items_from names op place (take i os) ++ operand_items names (is_import_place op (place + i)) (get_or os i d)
operands_more names op place [] i d below = absurd (omega (arith, below))
operands_more names op place (o ∷ os) zero d below =
    let here : place ≡ place + 0 = omega arith in
    append-nil (operand_items names (is_import_place op place) o) ∙ ap (λ (p : ℕ). operand_items names (is_import_place op p) o) here
operands_more names op place (o ∷ os) (suc i) d below =
    let next : suc i + 1 ≡ suc (i + 1) = omega arith in
    let there : place + 1 + i ≡ place + suc i = omega arith in
    let first : List (List ℕ) = operand_items names (is_import_place op place) o in
    ap (λ (n : ℕ). items_from names op place (take n (o ∷ os))) next
    ∙ ap (λ (t : List (List ℕ)). first ++ t) (operands_more names op (place + 1) os i d (omega (arith, below)))
    ∙ sym (append_assoc first (items_from names op (place + 1) (take i os)) (operand_items names (is_import_place op (place + 1 + i)) (get_or os i d)))
    ∙ ap (λ (p : ℕ). first ++ items_from names op (place + 1) (take i os) ++ operand_items names (is_import_place op p) (get_or os i d)) there
