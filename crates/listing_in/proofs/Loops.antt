-- What the loops over parts and lines keep.
use Rattle.std.proofs.Common.{◌≡◌, ℕ, ◌+◌, ◌≤◌, ◌==◌, List, [], ◌∷◌, ◌++◌, length, Option, Some, None, refl, sym, ap, arith, append_assoc}
use Rattle.std.specs.Option.{option_map}
use Rattle.std.proofs.lemmas.List.Sums.{count_by-le-length}
use Rattle.std.proofs.lemmas.List.Splits.{length-slice_split}
use Rattle.bk_parse.specs.Parts.{all_of, parts_at}

-- values that were read, and then those that are read
abbrev pub with_front : {A : Type 0} → List A → Option (List A) → Option (List A)
with_front front read = option_map (λ xs. front ++ xs) read

pub front_none : {A : Type 0} (read : Option (List A)) → with_front [] read ≡ read
front_none None = refl
front_none (Some xs) = refl

pub front_more : {A : Type 0} (read : List ℕ → Option A) (front : List A) (x : A) (text : List ℕ) (texts : List (List ℕ)) → read text ≡ Some x
    → with_front front (all_of read (text ∷ texts)) ≡ with_front (front ++ x ∷ []) (all_of read texts)
front_more read front x text texts is = rw is (moved (all_of read texts)) where
  moved : (others : Option (List _)) → with_front front (option_map (λ xs. x ∷ xs) others) ≡ with_front (front ++ x ∷ []) others
  moved None = refl
  moved (Some xs) = ap (λ (ys : List _). Some ys) (sym (append_assoc front (x ∷ []) xs))

-- there is at most one part more than bytes
pub parts_few : (c : ℕ) (text : List ℕ) → length (parts_at c text) ≤ length text + 1
parts_few c text = omega (arith, length-slice_split (λ b. b == c) text, count_by-le-length (λ b. b == c) text)
