-- The least of some ids, in byte order.
use Rattle.std.proofs.Common.{◌≡◌, ◌⊎◌, ℕ, Bool, true, false, cond, List, [], ◌∷◌, length, get_or, drop, suc, ◌+◌, ◌<◌, add-one, refl, sym, ap, subst, ◌∙◌, inl, inr}
use Rattle.std.specs.Prelude.{Option, None, Some, ◌↔◌}
use Rattle.std.specs.Ordering.{is_eq, is_gt, is_le, is_lt, nat_cmp, ordering_reverse}
use Rattle.std.specs.declared.cmp.Ordering.{Ordering}
use Rattle.std.specs.declared.cmp.Ordering.TheVariants.{Less, Equal, Greater}
use Rattle.std.specs.List.{filter}
use Rattle.std.proofs.Math.Seq.{drop-cons}
use Rattle.std.specs.Cmp.Lexicographic.{slice_cmp}
use Rattle.std.proofs.lemmas.Cmp.{nat_list_cmp_total, tied_itself, upto}
use Rattle.std.proofs.lemmas.Map.Text.{is_eq-slice_cmp}
use Rattle.std.proofs.lemmas.Slice.Eq.{bytes_eq-Decides}
use Rattle.iff_form.specs.declared.id.Id.{Id}
use Rattle.iff_form.specs.declared.chunk.Chunk.{Chunk}
use Rattle.iff_form.specs.Chunk.{PlainChunk, plain, plains}
use Rattle.beam_module.specs.Comparison.{IsLeast, ids_of, is_at_most, least_from, lesser}

-- ---- the order

not_above : (o : Ordering) → is_le o ≡ true → is_gt o ≡ false
not_above Less h = refl
not_above Equal h = refl
not_above Greater h = absurd cc

at_most_from : (o : Ordering) → is_gt o ≡ false → is_le o ≡ true
at_most_from Less h = refl
at_most_from Equal h = refl
at_most_from Greater h = absurd cc

reversed : (o p : Ordering) → o ≡ ordering_reverse p → is_le o ≡ false → is_le p ≡ true
reversed o Less h above = refl
reversed o Equal h above = refl
reversed o Greater h above = absurd (let e : is_le o ≡ true = ap is_le h in cc)

tied : (o p : Ordering) → o ≡ ordering_reverse p → is_le o ≡ true → is_le p ≡ true → is_eq o ≡ true
tied o Less h one other = absurd (let e : is_le o ≡ false = ap is_le h in cc)
tied o Equal h one other = ap is_eq h
tied o Greater h one other = absurd cc

abbrev order : Id → Id → Ordering
order x y = slice_cmp nat_cmp x.0 y.0

abbrev id_of : List ℕ → Id
id_of bytes = record { 0 = bytes }

at_most_itself : (x : Id) → is_at_most x x ≡ true
at_most_itself x = ap is_le (tied_itself nat_list_cmp_total x.0)

at_most_through : (x y z : Id) → is_at_most x y ≡ true → is_at_most y z ≡ true → is_at_most x z ≡ true
at_most_through x y z p q =
    at_most_from (order x z) (upto nat_list_cmp_total x.0 y.0 z.0 (not_above (order x y) p) (not_above (order y z) q))

at_most_other : (x y : Id) → is_at_most x y ≡ false → is_at_most y x ≡ true
at_most_other x y above = reversed (order x y) (order y x) (nat_list_cmp_total.antisymm x.0 y.0) above

pub at_most_same : (x y : Id) → is_at_most x y ≡ true → is_at_most y x ≡ true → x ≡ y
at_most_same x y p q =
    let same : is_eq (order x y) ≡ true = tied (order x y) (order y x) (nat_list_cmp_total.antisymm x.0 y.0) p q in
    ap id_of ((bytes_eq-Decides x.0 y.0).0 (sym (is_eq-slice_cmp x.0 y.0) ∙ same))

min_of : (o p : Ordering) (x y : Id) → o ≡ ordering_reverse p → cond (is_lt p) y x ≡ cond (is_le o) x y
min_of o Less x y h = rw h refl
min_of o Equal x y h = rw h refl
min_of o Greater x y h = rw h refl

-- the lesser of two, as `min` says
pub min_is_lesser : (x y : Id) → cond (is_lt (order y x)) y x ≡ lesser x (Some y)
min_is_lesser x y = min_of (order x y) (order y x) x y (nat_list_cmp_total.antisymm x.0 y.0)

-- ---- the least of some ids

-- one of the ids
abbrev pub Among : List Id → Id → Type 0
Among [] id = ⊥
Among (x ∷ ids) id = (id ≡ x) ⊎ Among ids id

-- the least id of this kind, or that there is none
abbrev pub IsLeastOf : (Id → Type 0) → Option Id → Type 0
IsLeastOf P None = (id : Id) → P id → ⊥
IsLeastOf P (Some id) = IsLeast P id

pub least_alike : (P Q : Id → Type 0) (found : Option Id) → ((id : Id) → P id ↔ Q id) → IsLeastOf P found → IsLeastOf Q found
least_alike P Q None same none = λ id q. none id ((same id).1 q)
least_alike P Q (Some id) same least = record { is = (same id).0 least.is; least = λ other q. least.least other ((same other).1 q) }

-- of an id and one that was found before
lesser_of_two : (P : Id → Type 0) (x y : Id) (b : Bool) → is_at_most x y ≡ b → IsLeast P y → IsLeast (λ id. P id ⊎ (id ≡ x)) (cond b x y)
lesser_of_two P x y true le least = record {
  is = inr refl;
  least = λ other h. elim h [
    | inl p ↦ at_most_through x y other le (least.least other p)
    | inr e ↦ subst (λ (z : Id). is_at_most x z ≡ true) (sym e) (at_most_itself x)
  ];
}
lesser_of_two P x y false above least = record {
  is = inl least.is;
  least = λ other h. elim h [
    | inl p ↦ least.least other p
    | inr e ↦ subst (λ (z : Id). is_at_most y z ≡ true) (sym e) (at_most_other x y above)
  ];
}

one_more : (P : Id → Type 0) (x : Id) (found : Option Id) → IsLeastOf P found → IsLeast (λ id. P id ⊎ (id ≡ x)) (lesser x found)
one_more P x None none = record {
  is = inr refl;
  least = λ other h. elim h [
    | inl p ↦ absurd (none other p)
    | inr e ↦ subst (λ (z : Id). is_at_most x z ≡ true) (sym e) (at_most_itself x)
  ];
}
one_more P x (Some y) least = lesser_of_two P x y (is_at_most x y) refl least

regroup : (A B C : Type 0) → ((A ⊎ B) ⊎ C) ↔ (A ⊎ (B ⊎ C))
regroup A B C = (
  λ h. elim h [ inl x ↦ elim x [ inl a ↦ inl a | inr b ↦ inr (inl b) ] | inr c ↦ inr (inr c) ],
  λ h. elim h [ inl a ↦ inl (inl a) | inr x ↦ elim x [ inl b ↦ inl (inr b) | inr c ↦ inr c ] ],
)

pub least_is : (P : Id → Type 0) (found : Option Id) (ids : List Id) → IsLeastOf P found → IsLeastOf (λ id. P id ⊎ Among ids id) (least_from found ids)
least_is P found [] least = least_alike P (λ id. P id ⊎ ⊥) found (λ id. (λ p. inl p, λ h. elim h [ inl p ↦ p | inr x ↦ absurd x ])) least
least_is P found (x ∷ ids) least =
    let next : Option Id = Some (lesser x found) in
    least_alike (λ id. (P id ⊎ (id ≡ x)) ⊎ Among ids id) (λ id. P id ⊎ Among (x ∷ ids) id) (least_from next ids) (λ id. regroup (P id) (id ≡ x) (Among ids id))
    (least_is (λ id. P id ⊎ (id ≡ x)) next ids (one_more P x found least))

-- ---- the loop over chunks

one_step : (test : PlainChunk → Bool) (c : PlainChunk) (chunks : List PlainChunk) (least : Option Id) (b : Bool) → test c ≡ b
    → least_from least (ids_of (filter test (c ∷ chunks))) ≡ least_from (cond b (Some (lesser c.id least)) least) (ids_of (filter test chunks))
one_step test c chunks least true e = rw e refl
one_step test c chunks least false e = rw e refl

-- with the next chunk looked at, the least of the chunks that are left is what it was
next_least : (test : PlainChunk → Bool) (cs : List Chunk) (i : ℕ) (d : Chunk) (least next whole : Option Id) → i < length cs
    → next ≡ cond (test (plain (get_or cs i d))) (Some (lesser (get_or cs i d).id least)) least
    → least_from least (ids_of (filter test (plains (drop i cs)))) ≡ whole → least_from next (ids_of (filter test (plains (drop (i + 1) cs)))) ≡ whole
next_least test cs i d least next whole below next_is was =
    let x : Chunk = get_or cs i d in
    ap (λ (n : ℕ). least_from next (ids_of (filter test (plains (drop n cs))))) (add-one i)
    ∙ ap (λ (o : Option Id). least_from o (ids_of (filter test (plains (drop (suc i) cs))))) next_is
    ∙ sym (one_step test (plain x) (plains (drop (suc i) cs)) least (test (plain x)) refl)
    ∙ ap (λ (ys : List Chunk). least_from least (ids_of (filter test (plains ys)))) (sym (drop-cons cs i d below))
    ∙ was

-- the next chunk passes the test
pub next_taken : (test : PlainChunk → Bool) (cs : List Chunk) (i : ℕ) (d : Chunk) (least next whole : Option Id) (taken : Bool) (id : Id) → i < length cs
    → taken ≡ test (plain (get_or cs i d)) → taken ≡ true → next ≡ Some id → id ≡ lesser (get_or cs i d).id least
    → least_from least (ids_of (filter test (plains (drop i cs)))) ≡ whole → least_from next (ids_of (filter test (plains (drop (i + 1) cs)))) ≡ whole
next_taken test cs i d least next whole taken id below tested yes_is next_is id_is was =
    let passed : test (plain (get_or cs i d)) ≡ true = sym tested ∙ yes_is in
    next_least test cs i d least next whole below (rw passed (next_is ∙ ap (λ (j : Id). Some j) id_is)) was

-- it does not
pub next_left : (test : PlainChunk → Bool) (cs : List Chunk) (i : ℕ) (d : Chunk) (least next whole : Option Id) (taken : Bool) → i < length cs
    → taken ≡ test (plain (get_or cs i d)) → taken ≡ false → next ≡ least
    → least_from least (ids_of (filter test (plains (drop i cs)))) ≡ whole → least_from next (ids_of (filter test (plains (drop (i + 1) cs)))) ≡ whole
next_left test cs i d least next whole taken below tested no_is next_is was =
    let failed : test (plain (get_or cs i d)) ≡ false = sym tested ∙ no_is in
    next_least test cs i d least next whole below (rw failed next_is) was
