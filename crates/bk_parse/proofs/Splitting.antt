-- Parts of texts, and texts joined by a separator.
use Rattle.std.proofs.Common.{◌≡◌, ◌≢◌, ℕ, ◌+◌, ◌<◌, false, eqb, List, [], ◌∷◌, ◌++◌, length, take, drop, get_or, ◌-◌, map, All, Option, Some, option_map, subst, refl, sym, ap, ap₂, ◌∙◌, arith, append-nil, ne_eqb, eq-eqb}
use Rattle.std.proofs.lemmas.Bool.{false_from_ne_true}
use Rattle.std.proofs.lemmas.List.{drop_more, take-append-drop, get_or-take, length-take, take_rest}
use Rattle.memchr.specs.Find.{NoneBefore, Nowhere, Passes, is_byte}
use Rattle.std.proofs.lemmas.List.Elements.{All-from_get_or, All-nil, All-cons, All-head, All-tail, All-weaker, All-map}
use Rattle.std.proofs.lemmas.List.Splits.{slice_split_none, slice_split_at, join_with_byte-slice_split}
use Rattle.std.proofs.lemmas.Option.{same_Some}
use Rattle.std.specs.List.{join_by, join_with_byte}
use Rattle.bk_parse.specs.Inverse.{Inverts}
use Rattle.bk_parse.specs.Parts.{parts_at, all_of, Lacks}
use Rattle.bk_parse.proofs.Options.{map_some, then_some}

-- ---- parts

never : (c : ℕ) (text : List ℕ) → Lacks c text → All (λ b. eqb b c ≡ false) text
never c text lacks = All-weaker (λ b. b ≢ c) (λ b. eqb b c ≡ false) (λ b. ne_eqb b c) text lacks

-- a text without the separator is one part
pub one_part : (c : ℕ) (text : List ℕ) → Lacks c text → parts_at c text ≡ text ∷ []
one_part c text lacks = slice_split_none (λ b. eqb b c) text (never c text lacks)

-- the first part ends at the first separator
pub first_part : (c : ℕ) (text others : List ℕ) → Lacks c text → parts_at c (text ++ c ∷ others) ≡ text ∷ parts_at c others
first_part c text others lacks = slice_split_at (λ b. eqb b c) text c others (never c text lacks) (eq-eqb c c refl)

-- the same, where a search found it
pub found_first : (c : ℕ) (text : List ℕ) (place : ℕ) → NoneBefore (Passes (is_byte c) text) 0 (length text) place → Passes (is_byte c) text place
    → parts_at c text ≡ take place text ∷ parts_at c (take (length text - (place + 1)) (drop (place + 1) text))
found_first c text place none is =
    let high = none.high in
    let others : List ℕ = drop (place + 1) text in
    let split : text ≡ take place text ++ get_or text place 0 ∷ others = sym (take-append-drop place text) ∙ ap (λ (t : List ℕ). take place text ++ t) (drop_more text place 0 high) in
    let lacks : All (λ b. eqb b c ≡ false) (take place text) =
    All-from_get_or (λ b. eqb b c ≡ false) (take place text) 0 (λ i below.
    let before : i < place = omega (arith, length-take place text) in
    subst (λ (b : ℕ). eqb b c ≡ false) (sym (get_or-take place text i 0 before)) (false_from_ne_true (eqb (get_or text i 0) c) (none.before i (omega arith) before))) in
    ap (parts_at c) split
    ∙ slice_split_at (λ b. eqb b c) (take place text) (get_or text place 0) others lacks is
    ∙ ap (λ (t : List ℕ). take place text ∷ parts_at c t) (sym (take_rest text (place + 1)))

pub found_none : (c : ℕ) (text : List ℕ) → Nowhere (Passes (is_byte c) text) 0 (length text) → parts_at c text ≡ text ∷ []
found_none c text none =
    slice_split_none (λ b. eqb b c) text (All-from_get_or (λ b. eqb b c ≡ false) text 0 (λ i below. false_from_ne_true (eqb (get_or text i 0) c) (none i (omega arith) below)))

pub parts_of_joined : (c : ℕ) (texts : List (List ℕ)) → 0 < length texts → All (Lacks c) texts → parts_at c (join_with_byte c texts) ≡ texts
parts_of_joined c [] some lack = absurd (omega arith)
parts_of_joined c (text ∷ []) some lack = one_part c text (All-head (Lacks c) text [] lack)
parts_of_joined c (text ∷ next ∷ texts) some lack =
    first_part c text (join_with_byte c (next ∷ texts)) (All-head (Lacks c) text (next ∷ texts) lack)
    ∙ ap (λ (parts : List (List ℕ)). text ∷ parts) (parts_of_joined c (next ∷ texts) (omega arith) (All-tail (Lacks c) text (next ∷ texts) lack))

pub joined_parts : (c : ℕ) (text : List ℕ) → join_with_byte c (parts_at c text) ≡ text
joined_parts c text = join_with_byte-slice_split c text

-- ---- texts of values, joined

pub joined_texts : {A : Type 0} (text : A → List ℕ) (c : ℕ) (xs : List A) → join_by text (c ∷ []) xs ≡ join_with_byte c (map text xs)
joined_texts text c [] = refl
joined_texts text c (x ∷ []) = append-nil (text x)
joined_texts text c (x ∷ y ∷ xs) = ap (λ (t : List ℕ). text x ++ (c ∷ t)) (joined_texts text c (y ∷ xs))

-- ---- each text read

module _ {A : Type 0} {read : List ℕ → Option A} {Is : A → Type 0} {text : A → List ℕ} (inverse : Inverts read Is text) where
  pub all_found : (texts : List (List ℕ)) (xs : List A) → all_of read texts ≡ Some xs → All Is xs × (map text xs ≡ texts)
  all_found [] xs e = rw (← same_Some [] xs e) (All-nil Is, refl)
  all_found (t ∷ texts) xs e =
      let first = then_some (λ x. option_map (λ xs. x ∷ xs) (all_of read texts)) (read t) xs e in
      let others = map_some (λ xs. first.0 ∷ xs) (all_of read texts) xs first.2 in
      let one = inverse.found t first.0 first.1 in
      let more = all_found texts others.0 others.1 in
      rw (← others.2) (All-cons Is first.0 others.0 one.0 more.0, ap₂ (λ (x : List ℕ) (ys : List (List ℕ)). x ∷ ys) one.1 more.1)

  pub all_only : (xs : List A) → All Is xs → all_of read (map text xs) ≡ Some xs
  all_only [] h = refl
  all_only (x ∷ xs) h = rw (inverse.only x (All-head Is x xs h), all_only xs (All-tail Is x xs h)) refl

  -- the texts of the values, joined by a separator that none of them holds
  pub joined_found : (c : ℕ) (t : List ℕ) (xs : List A) → all_of read (parts_at c t) ≡ Some xs → All Is xs × (join_by text (c ∷ []) xs ≡ t)
  joined_found c t xs e =
      let each = all_found (parts_at c t) xs e in
      (each.0, joined_texts text c xs ∙ ap (join_with_byte c) each.1 ∙ joined_parts c t)

  pub joined_only : (c : ℕ) → ((x : A) → Is x → Lacks c (text x)) → (x : A) (xs : List A) → All Is (x ∷ xs) → all_of read (parts_at c (join_by text (c ∷ []) (x ∷ xs))) ≡ Some (x ∷ xs)
  joined_only c lacks x xs h =
      let lack : All (Lacks c) (map text (x ∷ xs)) = All-map (Lacks c) text (x ∷ xs) (All-weaker Is (λ y. Lacks c (text y)) lacks (x ∷ xs) h) in
      ap (λ (t : List ℕ). all_of read (parts_at c t)) (joined_texts text c (x ∷ xs))
      ∙ ap (all_of read) (parts_of_joined c (map text (x ∷ xs)) (omega arith) lack)
      ∙ all_only (x ∷ xs) h
