-- A map has at each id what the chunks have there, and goes on to have it where one more is put.
use Rattle.std.proofs.Common.{◌≡◌, ℕ, Bool, true, false, cond, ◌||◌, List, [], ◌∷◌, ◌++◌, length, get_or, take, drop, suc, ◌+◌, ◌<◌, subst, refl, sym, ap, ◌∙◌}
use Rattle.std.specs.Prelude.{Option, Some, option_map, bytes_eq}
use Rattle.std.specs.Borrow.{Bor}
use Rattle.std.specs.BTreeMap.{BTreeMap, get}
use Rattle.std.specs.List.{list_any}
use Rattle.std.specs.Ordering.{is_eq, nat_cmp}
use Rattle.std.specs.Cmp.Lexicographic.{slice_cmp}
use Rattle.std.proofs.Math.Seq.{drop-cons}
use Rattle.std.proofs.lemmas.List.{map-append, map_push, take-append-drop, take_more}
use Rattle.std.proofs.lemmas.Map.Text.{is_eq-slice_cmp}
use Rattle.std.proofs.lemmas.Slice.Eq.{bytes_eq-Decides}
use Rattle.iff_form.specs.declared.id.Id.{Id}
use Rattle.iff_form.specs.declared.chunk.Chunk.{Chunk}
use Rattle.iff_form.specs.Chunk.{PlainChunk, is_same_id, plain, plains}
use Rattle.iff_form.specs.Form.{AreDistinct, payload_of}
use Rattle.iff_form.proofs.Walk.{not_before}
use Rattle.beam_module.specs.Comparison.{HasPayloads}

abbrev ById : Type 0
ById = BTreeMap (List ℕ) (Bor (List ℕ))

pub has_none : (m : ById) → m.entries ≡ [] → HasPayloads m []
has_none m empty id = rw empty refl

-- ---- one chunk more

neither : (p q : Bool) → (p || q) ≡ false → (p ≡ false) × (q ≡ false)
neither true q h = absurd cc
neither false q h = (refl, h)

push_at : (b d : Bool) (x y rest more : Option (List ℕ)) → (b ≡ true → d ≡ false) → more ≡ cond d y rest → cond b x more ≡ cond d y (cond b x rest)
push_at true d x y rest more apart e = rw (apart refl) refl
push_at false d x y rest more apart e = e

payload_of-push : (id : Id) (chunks : List PlainChunk) (c : PlainChunk) → list_any (is_same_id c) chunks ≡ false
    → payload_of id (chunks ++ c ∷ []) ≡ cond (bytes_eq c.id.0 id.0) (Some c.payload) (payload_of id chunks)
payload_of-push id [] c new = refl
payload_of-push id (x ∷ chunks) c new =
    let others = neither (is_same_id c x) (list_any (is_same_id c) chunks) new in
    push_at (bytes_eq x.id.0 id.0) (bytes_eq c.id.0 id.0) (Some x.payload) (Some c.payload) (payload_of id chunks) (payload_of id (chunks ++ c ∷ []))
    (λ same. ap (λ (i : List ℕ). bytes_eq c.id.0 i) (sym ((bytes_eq-Decides x.id.0 id.0).0 same)) ∙ others.0)
    (payload_of-push id chunks c others.1)

now_of : (b : Bool) (s : Bor (List ℕ)) (o : Option (Bor (List ℕ))) → option_map (λ t. t.now) (cond b (Some s) o) ≡ cond b (Some s.now) (option_map (λ t. t.now) o)
now_of true s o = refl
now_of false s o = refl

pub has_push : (m n : ById) (chunks : List PlainChunk) (c : PlainChunk) (s : Bor (List ℕ)) → HasPayloads m chunks → list_any (is_same_id c) chunks ≡ false → s.now ≡ c.payload
    → ((q : List ℕ) → get (slice_cmp nat_cmp) n q ≡ cond (is_eq (slice_cmp nat_cmp c.id.0 q)) (Some s) (get (slice_cmp nat_cmp) m q)) → HasPayloads n (chunks ++ c ∷ [])
has_push m n chunks c s has new same updates id =
    let before : Option (Bor (List ℕ)) = get (slice_cmp nat_cmp) m id.0 in
    ap (λ (o : Option (Bor (List ℕ))). option_map (λ t. t.now) o) (updates id.0)
    ∙ now_of (is_eq (slice_cmp nat_cmp c.id.0 id.0)) s before
    ∙ ap (λ (b : Bool). cond b (Some s.now) (option_map (λ t. t.now) before)) (is_eq-slice_cmp c.id.0 id.0)
    ∙ ap (λ (p : List ℕ). cond (bytes_eq c.id.0 id.0) (Some p) (option_map (λ t. t.now) before)) same
    ∙ ap (λ (o : Option (List ℕ)). cond (bytes_eq c.id.0 id.0) (Some c.payload) o) (has id)
    ∙ sym (payload_of-push id chunks c new)

-- ---- the step of the loop

next_new : (cs : List Chunk) (i : ℕ) (d : Chunk) → i < length cs → AreDistinct (plains cs) → list_any (is_same_id (plain (get_or cs i d))) (plains (take i cs)) ≡ false
next_new cs i d below distinct =
    let x : Chunk = get_or cs i d in
    let split : cs ≡ take i cs ++ x ∷ drop (suc i) cs = sym (take-append-drop i cs) ∙ ap (λ (ys : List Chunk). take i cs ++ ys) (drop-cons cs i d below) in
    let whole : plains cs ≡ plains (take i cs) ++ plain x ∷ plains (drop (suc i) cs) = ap plains split ∙ map-append plain (take i cs) (x ∷ drop (suc i) cs) in
    not_before (plains (take i cs)) (plain x) (plains (drop (suc i) cs)) (subst AreDistinct whole distinct)

pub next_has : (m n : ById) (cs : List Chunk) (i : ℕ) (d : Chunk) → i < length cs → AreDistinct (plains cs) → HasPayloads m (plains (take i cs))
    → ((q : List ℕ) → get (slice_cmp nat_cmp) n q ≡ cond (is_eq (slice_cmp nat_cmp (get_or cs i d).id.0 q)) (Some (get_or cs i d).payload) (get (slice_cmp nat_cmp) m q))
    → HasPayloads n (plains (take (i + 1) cs))
next_has m n cs i d below distinct has updates =
    let x : Chunk = get_or cs i d in
    let more : plains (take (i + 1) cs) ≡ plains (take i cs) ++ plain x ∷ [] = ap plains (take_more cs i d below) ∙ map_push plain (take i cs) x in
    subst (HasPayloads n) (sym more) (has_push m n (plains (take i cs)) (plain x) x.payload has (next_new cs i d below distinct) refl updates)
