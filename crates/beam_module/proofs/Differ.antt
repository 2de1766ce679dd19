-- The comparison by filters and least members tells what differs, and nothing else does.
use Rattle.std.proofs.Common.{◌≡◌, ◌≢◌, ◌⊎◌, ℕ, Bool, true, false, cond, not, ◌&&◌, List, [], ◌∷◌, refl, sym, ap, subst, ◌∙◌, inl, inr}
use Rattle.std.specs.Prelude.{Option, None, Some, bytes_eq}
use Rattle.std.specs.List.{AllByRecursion, filter}
use Rattle.std.specs.Option.{is_some, is_none}
use Rattle.std.proofs.lemmas.Bool.Decides.{not_from_Decides}
use Rattle.std.proofs.lemmas.Map.Keys.{IsDistinct-head, IsDistinct-tail}
use Rattle.std.proofs.lemmas.Option.{same_Some}
use Rattle.std.proofs.lemmas.Slice.Eq.{bytes_eq-Decides}
use Rattle.bk_codec.proofs.Steps.{chosen}
use Rattle.iff_form.specs.declared.id.Id.{Id}
use Rattle.iff_form.specs.Chunk.{PlainChunk, is_same_id}
use Rattle.iff_form.specs.Form.{AreDistinct, payload_of}
use Rattle.beam_module.specs.declared.comparison.Compared.{Compared}
use Rattle.beam_module.specs.declared.comparison.Compared.TheVariants as answers
use Rattle.beam_module.specs.Comparison.{Compares, IsChanged, IsInOne, IsLeast, by_ids, by_payloads, comparison, ids_changed, ids_of, ids_without, is_changed, is_compared, is_lacked, is_other, least_from}
use Rattle.beam_module.proofs.Least.{Among, IsLeastOf, at_most_same, least_alike, least_is}

-- ---- tests

abbrev chunk : Id → List ℕ → PlainChunk
chunk id payload = record { id = id; payload = payload }

abbrev id_of : List ℕ → Id
id_of bytes = record { 0 = bytes }

both_true : (p q : Bool) → (p && q) ≡ true → (p ≡ true) × (q ≡ true)
both_true true q h = (refl, h)
both_true false q h = absurd cc

of_both : (p q : Bool) → p ≡ true → q ≡ true → (p && q) ≡ true
of_both p q h k = rw (h, k) refl

false_from : (b : Bool) → (b ≡ true → ⊥) → b ≡ false
false_from true none = absurd (none refl)
false_from false none = refl

same_id_from : (id other : Id) → bytes_eq id.0 other.0 ≡ true → id ≡ other
same_id_from id other h = ap id_of ((bytes_eq-Decides id.0 other.0).0 h)

tests_itself : (id other : Id) → id ≡ other → bytes_eq id.0 other.0 ≡ true
tests_itself id other e = (bytes_eq-Decides id.0 other.0).1 (ap (λ (i : Id). i.0) e)

-- ---- the ids of the chunks that pass a test

-- the payload at the id passes the test
abbrev Passes : (PlainChunk → Bool) → List PlainChunk → Id → Type 0
Passes test chunks id = (payload : List ℕ) × (payload_of id chunks ≡ Some payload) × (test (chunk id payload) ≡ true)

apart_from_found : (c : PlainChunk) (chunks : List PlainChunk) (id : Id) (payload : List ℕ) → AllByRecursion (λ d. is_same_id c d ≡ false) chunks → payload_of id chunks ≡ Some payload → bytes_eq c.id.0 id.0 ≡ false
apart_from_found c [] id payload apart found = absurd cc
apart_from_found c (d ∷ chunks) id payload apart found =
    elim (chosen (bytes_eq d.id.0 id.0) (Some d.payload) (payload_of id chunks) (Some payload) found) [
      | inl here ↦ ap (λ (i : Id). bytes_eq c.id.0 i.0) (sym (same_id_from d.id id here.0)) ∙ apart.0
      | inr later ↦ apart_from_found c chunks id payload apart.1 later.1
    ]

found_later : (c : PlainChunk) (chunks : List PlainChunk) (id : Id) (payload : List ℕ) → AllByRecursion (λ d. is_same_id c d ≡ false) chunks → payload_of id chunks ≡ Some payload
    → payload_of id (c ∷ chunks) ≡ Some payload
found_later c chunks id payload apart found = rw (apart_from_found c chunks id payload apart found) found

abbrev kept : Bool → PlainChunk → List PlainChunk → List PlainChunk
kept b c chunks = cond b (c ∷ chunks) chunks

-- an id of a chunk or of the others, as the test says
kept_is : (b : Bool) (c : PlainChunk) (others : List PlainChunk) (id : Id) → Among (ids_of (kept b c others)) id → ((b ≡ true) × (id ≡ c.id)) ⊎ Among (ids_of others) id
kept_is true c others id (inl e) = inl (refl, e)
kept_is true c others id (inr h) = inr h
kept_is false c others id h = inr h

kept_here : (b : Bool) (c : PlainChunk) (others : List PlainChunk) (id : Id) → b ≡ true → id ≡ c.id → Among (ids_of (kept b c others)) id
kept_here true c others id h e = inl e
kept_here false c others id h e = absurd cc

kept_later : (b : Bool) (c : PlainChunk) (others : List PlainChunk) (id : Id) → Among (ids_of others) id → Among (ids_of (kept b c others)) id
kept_later true c others id h = inr h
kept_later false c others id h = h

passes_from : (test : PlainChunk → Bool) (chunks : List PlainChunk) (id : Id) → AreDistinct chunks → Among (ids_of (filter test chunks)) id → Passes test chunks id
passes_from test [] id distinct h = absurd h
passes_from test (c ∷ chunks) id distinct h =
    elim (kept_is (test c) c (filter test chunks) id h) [
      | inl here ↦ (
        c.payload,
        rw (tests_itself c.id id (sym here.1)) refl,
        subst (λ (i : Id). test (chunk i c.payload) ≡ true) (sym here.1) here.0,
      )
      | inr later ↦
          let rest = passes_from test chunks id (IsDistinct-tail is_same_id c chunks distinct) later in
          (rest.0, found_later c chunks id rest.0 (IsDistinct-head is_same_id c chunks distinct) rest.1, rest.2)
    ]

among_from : (test : PlainChunk → Bool) (chunks : List PlainChunk) (id : Id) → Passes test chunks id → Among (ids_of (filter test chunks)) id
among_from test [] id h = absurd (let e = h.1 in cc)
among_from test (c ∷ chunks) id h =
    elim (chosen (bytes_eq c.id.0 id.0) (Some c.payload) (payload_of id chunks) (Some h.0) h.1) [
      | inl here ↦
          let same : c.id ≡ id = same_id_from c.id id here.0 in
          let passed : test c ≡ true =
          ap (λ (i : Id). test (chunk i c.payload)) same ∙ ap (λ (p : List ℕ). test (chunk id p)) (same_Some c.payload h.0 here.1) ∙ h.2 in
          kept_here (test c) c (filter test chunks) id passed (sym same)
      | inr later ↦ kept_later (test c) c (filter test chunks) id (among_from test chunks id (h.0, later.1, h.2))
    ]

-- ---- ids in one alone

not_none : (o : Option (List ℕ)) → is_none o ≡ true → is_some o ≡ true → ⊥
not_none None h k = cc
not_none (Some x) h k = cc

nothing : IsLeastOf (λ _. ⊥) None
nothing id h = h

in_first : (a b : List PlainChunk) (id : Id) → Passes (is_lacked b) a id → IsInOne a b id
in_first a b id h =
    let tests = both_true (is_compared id) (is_none (payload_of id b)) h.2 in
    (tests.0, λ same. not_none (payload_of id b) tests.1 (sym same ∙ ap is_some h.1))

in_second : (a b : List PlainChunk) (id : Id) → Passes (is_lacked a) b id → IsInOne a b id
in_second a b id h =
    let one = in_first b a id h in
    (one.0, λ same. one.1 (sym same))

lacked_by : (a b : List PlainChunk) (id : Id) (payload : List ℕ) → is_compared id ≡ true → payload_of id a ≡ Some payload → payload_of id b ≡ None → Passes (is_lacked b) a id
lacked_by a b id payload compared found lacked = (payload, found, of_both (is_compared id) (is_none (payload_of id b)) compared (ap is_none lacked))

in_either : (a b : List PlainChunk) (id : Id) (p q : Option (List ℕ)) → payload_of id a ≡ p → payload_of id b ≡ q → IsInOne a b id → Passes (is_lacked b) a id ⊎ Passes (is_lacked a) b id
in_either a b id None None p_is q_is h = absurd (h.1 (ap is_some p_is ∙ sym (ap is_some q_is)))
in_either a b id (Some p) None p_is q_is h = inl (lacked_by a b id p h.0 p_is q_is)
in_either a b id None (Some q) p_is q_is h = inr (lacked_by b a id q h.0 q_is p_is)
in_either a b id (Some p) (Some q) p_is q_is h = absurd (h.1 (ap is_some p_is ∙ sym (ap is_some q_is)))

abbrev InLists : List PlainChunk → List PlainChunk → Id → Type 0
InLists a b id = (⊥ ⊎ Among (ids_without a b) id) ⊎ Among (ids_without b a) id

in_lists : (a b : List PlainChunk) (id : Id) → Passes (is_lacked b) a id ⊎ Passes (is_lacked a) b id → InLists a b id
in_lists a b id (inl h) = inl (inr (among_from (is_lacked b) a id h))
in_lists a b id (inr h) = inr (among_from (is_lacked a) b id h)

from_lists : (a b : List PlainChunk) (id : Id) → AreDistinct a → AreDistinct b → InLists a b id → IsInOne a b id
from_lists a b id distinct others (inl (inl h)) = absurd h
from_lists a b id distinct others (inl (inr h)) = in_first a b id (passes_from (is_lacked b) a id distinct h)
from_lists a b id distinct others (inr h) = in_second a b id (passes_from (is_lacked a) b id others h)

abbrev lacked : List PlainChunk → List PlainChunk → Option Id
lacked a b = least_from (least_from None (ids_without a b)) (ids_without b a)

lacked_is : (a b : List PlainChunk) → AreDistinct a → AreDistinct b → IsLeastOf (IsInOne a b) (lacked a b)
lacked_is a b distinct others =
    least_alike (InLists a b) (IsInOne a b) (lacked a b)
    (λ id. (from_lists a b id distinct others, λ h. in_lists a b id (in_either a b id (payload_of id a) (payload_of id b) refl refl h)))
    (least_is (λ id. ⊥ ⊎ Among (ids_without a b) id) (least_from None (ids_without a b)) (ids_without b a) (least_is (λ _. ⊥) None (ids_without a b) nothing))

-- ---- payloads that differ

none_or_some : false ≡ true → ⊥
none_or_some h = cc

differs : (payload : List ℕ) (other : Option (List ℕ)) → is_other payload other ≡ true → Some payload ≢ other
differs payload None h e = cc
differs payload (Some q) h e =
    let same : bytes_eq payload q ≡ true = (bytes_eq-Decides payload q).1 (same_Some payload q e) in
    absurd (let t : not true ≡ true = ap not (sym same) ∙ h in cc)

changed_from : (a b : List PlainChunk) (id : Id) → Passes (is_changed b) a id → IsChanged a b id
changed_from a b id h =
    let tests = both_true (is_compared id) (is_other h.0 (payload_of id b)) h.2 in
    (tests.0, λ same. differs h.0 (payload_of id b) tests.1 (sym h.1 ∙ same))

is_other_from : (payload : List ℕ) (other : Option (List ℕ)) → Some payload ≢ other → is_other payload other ≡ true
is_other_from payload None h = refl
is_other_from payload (Some q) h =
    ap not (false_from (bytes_eq payload q) (λ same. h (ap (λ (p : List ℕ). Some p) ((bytes_eq-Decides payload q).0 same))))

passes_changed : (a b : List PlainChunk) (id : Id) (p q : Option (List ℕ)) → ((other : Id) → IsInOne a b other → ⊥) → payload_of id a ≡ p → payload_of id b ≡ q → IsChanged a b id → Passes (is_changed b) a id
passes_changed a b id None None none p_is q_is h = absurd (h.1 (p_is ∙ sym q_is))
passes_changed a b id None (Some q) none p_is q_is h = absurd (none id (h.0, λ same. none_or_some (sym (ap is_some p_is) ∙ same ∙ ap is_some q_is)))
passes_changed a b id (Some p) q none p_is q_is h = (
  p,
  p_is,
  of_both (is_compared id) (is_other p (payload_of id b)) h.0 (is_other_from p (payload_of id b) (λ same. h.1 (p_is ∙ same))),
)

abbrev changed : List PlainChunk → List PlainChunk → Option Id
changed a b = least_from None (ids_changed a b)

changed_is : (a b : List PlainChunk) → AreDistinct a → ((other : Id) → IsInOne a b other → ⊥) → IsLeastOf (IsChanged a b) (changed a b)
changed_is a b distinct none =
    least_alike (λ id. ⊥ ⊎ Among (ids_changed a b) id) (IsChanged a b) (changed a b)
    (λ id. (
      λ h. elim h [ inl x ↦ absurd x | inr x ↦ changed_from a b id (passes_from (is_changed b) a id distinct x) ],
      λ h. inr (among_from (is_changed b) a id (passes_changed a b id (payload_of id a) (payload_of id b) none refl refl h)),
    ))
    (least_is (λ _. ⊥) None (ids_changed a b) nothing)

-- ---- the comparison

by_payloads_tells : (a b : List PlainChunk) (a_name b_name : List ℕ) (found : Option Id) → a_name ≡ b_name → ((other : Id) → IsInOne a b other → ⊥) → IsLeastOf (IsChanged a b) found
    → Compares a a_name b b_name (by_payloads found)
by_payloads_tells a b a_name b_name None names none least = (names, least)
by_payloads_tells a b a_name b_name (Some id) names none least = (names, none, least)

by_ids_tells : (a b : List PlainChunk) (a_name b_name : List ℕ) (found : Option Id) → AreDistinct a → a_name ≡ b_name → IsLeastOf (IsInOne a b) found
    → Compares a a_name b b_name (by_ids found (by_payloads (changed a b)))
by_ids_tells a b a_name b_name None distinct names none = by_payloads_tells a b a_name b_name (changed a b) names none (changed_is a b distinct none)
by_ids_tells a b a_name b_name (Some id) distinct names least = (names, least)

by_names_tells : (a b : List PlainChunk) (a_name b_name : List ℕ) (same : Bool) → bytes_eq a_name b_name ≡ same → AreDistinct a → AreDistinct b
    → Compares a a_name b b_name (cond same (by_ids (lacked a b) (by_payloads (changed a b))) answers.Modules)
by_names_tells a b a_name b_name true h distinct others =
    by_ids_tells a b a_name b_name (lacked a b) distinct ((bytes_eq-Decides a_name b_name).0 h) (lacked_is a b distinct others)
by_names_tells a b a_name b_name false h distinct others = not_from_Decides (bytes_eq a_name b_name) (bytes_eq-Decides a_name b_name) h

pub comparison_tells : (a b : List PlainChunk) (a_name b_name : List ℕ) → AreDistinct a → AreDistinct b → Compares a a_name b b_name (comparison a a_name b b_name)
comparison_tells a b a_name b_name distinct others = by_names_tells a b a_name b_name (bytes_eq a_name b_name) refl distinct others

-- ---- one answer

one_least : (P : Id → Type 0) (id other : Id) → IsLeast P id → IsLeast P other → id ≡ other
one_least P id other p q = at_most_same id other (p.least other q.is) (q.least id p.is)

changed_in_one : (a b : List PlainChunk) (id : Id) → IsInOne a b id → IsChanged a b id
changed_in_one a b id h = (h.0, λ same. h.1 (ap is_some same))

pub one_answer : (a b : List PlainChunk) (a_name b_name : List ℕ) (x y : Compared) → Compares a a_name b b_name x → Compares a a_name b b_name y → x ≡ y
one_answer a b a_name b_name answers.Modules answers.Modules p q = refl
one_answer a b a_name b_name answers.Modules (answers.Ids other) p q = absurd (p q.0)
one_answer a b a_name b_name answers.Modules (answers.Chunk other) p q = absurd (p q.0)
one_answer a b a_name b_name answers.Modules answers.Same p q = absurd (p q.0)
one_answer a b a_name b_name (answers.Ids id) answers.Modules p q = absurd (q p.0)
one_answer a b a_name b_name (answers.Ids id) (answers.Ids other) p q = ap (λ (i : Id). answers.Ids i) (one_least (IsInOne a b) id other p.1 q.1)
one_answer a b a_name b_name (answers.Ids id) (answers.Chunk other) p q = absurd (q.1 id p.1.is)
one_answer a b a_name b_name (answers.Ids id) answers.Same p q = absurd (q.1 id (changed_in_one a b id p.1.is))
one_answer a b a_name b_name (answers.Chunk id) answers.Modules p q = absurd (q p.0)
one_answer a b a_name b_name (answers.Chunk id) (answers.Ids other) p q = absurd (p.1 other q.1.is)
one_answer a b a_name b_name (answers.Chunk id) (answers.Chunk other) p q = ap (λ (i : Id). answers.Chunk i) (one_least (IsChanged a b) id other p.2 q.2)
one_answer a b a_name b_name (answers.Chunk id) answers.Same p q = absurd (q.1 id p.2.is)
one_answer a b a_name b_name answers.Same answers.Modules p q = absurd (q p.0)
one_answer a b a_name b_name answers.Same (answers.Ids other) p q = absurd (p.1 other (changed_in_one a b other q.1.is))
one_answer a b a_name b_name answers.Same (answers.Chunk other) p q = absurd (p.1 other q.2.is)
one_answer a b a_name b_name answers.Same answers.Same p q = refl
