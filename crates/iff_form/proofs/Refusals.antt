-- A reading is refused exactly for its reason.
use Rattle.std.proofs.Common.{◌≡◌, ◌⊎◌, ℕ, zero, suc, ◌+◌, ◌-◌, ◌≤◌, Bool, true, false, cond, not, List, [], ◌∷◌, ◌++◌, length, take, drop, Result, Ok, Err, refl, sym, ap, subst, ◌∙◌, append_assoc, arith, inl, inr, length-append}
use Rattle.std.specs.Prelude.{◌==◌, nat_eq, Any, IfErr, codes}
use Rattle.byteorder.specs.Endian.{big_number}
use Rattle.byteorder.specs.Numbers.{big_number-reads_back}
use Rattle.std.specs.List.{list_any, starts_with}
use Rattle.std.specs.Bool.{Decides}
use Rattle.std.proofs.lemmas.Bool.Decides.{Decides-eqb, Decides-like, not_from_Decides}
use Rattle.std.proofs.lemmas.List.{append-nil, drop_at, take_at, length-drop}
use Rattle.std.proofs.lemmas.List.Folds.{Any-from_list_any, list_any-from_Any}
use Rattle.std.proofs.lemmas.Map.Keys.{IsDistinct-push}
use Rattle.std.proofs.lemmas.Slice.Eq.{bytes_eq-Decides}
use Rattle.bk_codec.specs.Reading.{GivesAll, giving, bytes_at, number_at}
use Rattle.bk_codec.specs.Spelling.{IsBytes, SpellsMany}
use Rattle.bk_codec.specs.Exact.{IsExact}
use Rattle.bk_codec.proofs.Exact.{exact_from}
use Rattle.bk_codec.proofs.Steps.{bind_ok, bind_err, bind_at_ok, bind_at_err, chosen, err_is, ok_is}
use Rattle.bk_codec.proofs.Agreement.{Takes, IsBytes-drop}
use Rattle.bk_codec.proofs.Lengths.{bytes_at-refused, number_at-refused}
use Rattle.iff_form.specs.declared.id.Id.{Id}
use Rattle.iff_form.specs.declared.refusal.FormRefusal.{FormRefusal}
use Rattle.iff_form.specs.declared.refusal.FormRefusal.TheVariants.{Gzip, NotBeam, Size, ChunkCut, Twice, NoMemory}
use Rattle.iff_form.specs.Chunk.{PlainChunk, SpellsChunk, padding_of, is_same_id}
use Rattle.iff_form.specs.Form.{AreDistinct, IsForm}
use Rattle.iff_form.specs.Reading.{chunk_at, chunks_from, is_marked, stated_size, size_of, form_of}
use Rattle.iff_form.specs.Refusal.{Refuses, IsGzip, IsHeaded, GoesTo, IsCut, IsTwice}
use Rattle.iff_form.proofs.Chunks.{behind_id, behind_size, behind_payload, chunk_of, chunk_agrees, chunk_shorter}
use Rattle.iff_form.proofs.Whole.{IsDistinct-none, form_again, form_takes, headed, marks, not_false}
use Rattle.iff_form.proofs.Walk.{behind_chunk, none_left, same_id, step, walk_through}
use Rattle.iff_form.proofs.Loop.{first_of, is_twice}

abbrev passed : {A : Type 0} → A → Result A FormRefusal
passed x = Ok x

abbrev id_of : List ℕ → Id
id_of bytes = record { 0 = bytes }

-- a value is no refusal
no_refusal : {A : Type 0} (x : A) (e : FormRefusal) → passed x ≡ Err e → ⊥
no_refusal x e h = cc

either : {A : Type 0} (r : Result A FormRefusal) → ((x : A) × (r ≡ Ok x)) ⊎ ((e : FormRefusal) × (r ≡ Err e))
either (Ok x) = inl (x, refl)
either (Err e) = inr (e, refl)

-- ---- a chunk that is refused

pub chunk_refused : (cut : FormRefusal) (bytes : List ℕ) (e : FormRefusal) → chunk_at cut bytes ≡ Err e → e ≡ cut
unfolding chunk_at
chunk_refused cut bytes e h =
    elim (bind_err (bytes_at cut 4 bytes) (behind_id cut) e h) [
      | inl id ↦ bytes_at-refused cut 4 bytes e id
      | inr i ↦ elim (bind_err (number_at cut 4 i.0.1) (behind_size cut i.0.0) e i.2) [
        | inl size ↦ number_at-refused cut 4 i.0.1 e size
        | inr s ↦ elim (bind_err (bytes_at cut s.0.0 s.0.1) (behind_payload cut i.0.0 s.0.0) e s.2) [
          | inl payload ↦ bytes_at-refused cut s.0.0 s.0.1 e payload
          | inr p ↦ elim (bind_err (bytes_at cut (padding_of s.0.0) p.0.1) (λ q. giving (chunk_of i.0.0 p.0.0) q.1) e p.2) [
            | inl padding ↦ bytes_at-refused cut (padding_of s.0.0) p.0.1 e padding
            | inr q ↦ absurd (no_refusal (chunk_of i.0.0 p.0.0, q.0.1) e q.2)
          ]
        ]
      ]
    ]

-- where no chunk begins the bytes, the reading says so
cut_at : (cut : FormRefusal) (rest : List ℕ) → IsBytes rest → IsCut rest → chunk_at cut rest ≡ Err cut
cut_at cut rest fits is =
    elim (either (chunk_at cut rest)) [
      | inl x ↦
          let took = (chunk_agrees cut).takes rest x.0.0 x.0.1 fits x.1 in
          absurd (is.none x.0.0 took.text x.0.1 took.is took.joined)
      | inr e ↦ e.1 ∙ ap (λ (d : FormRefusal). Err d) (chunk_refused cut rest e.0 e.1)
    ]

-- ---- the walk that is refused

abbrev StopsAt : FormRefusal → ℕ → List PlainChunk → List ℕ → Type 0
StopsAt (ChunkCut at) here chunks rest = (at ≡ here) × IsCut rest
StopsAt (Twice id at) here chunks rest = (at ≡ here) × IsTwice chunks id rest
StopsAt e here chunks rest = ⊥

record Stopped (total : ℕ) (before : List PlainChunk) (bytes : List ℕ) (e : FormRefusal) : Type 0 where
  more : List PlainChunk
  text : List ℕ
  rest : List ℕ
  spelled : SpellsMany SpellsChunk more text
  distinct : AreDistinct (before ++ more)
  joined : bytes ≡ text ++ rest
  why : StopsAt e (total - length rest) (before ++ more) rest

same_ids : (c d : PlainChunk) → is_same_id c d ≡ true → d.id ≡ c.id
same_ids c d h = ap id_of (sym ((bytes_eq-Decides c.id.0 d.id.0).0 h))

some_before : (c : PlainChunk) (chunks : List PlainChunk) → list_any (is_same_id c) chunks ≡ true → Any (λ d. d.id ≡ c.id) chunks
some_before c chunks h =
    let some = Any-from_list_any (is_same_id c) chunks h in
    (some.0, some.1, some.2, some.3, same_ids c some.1 some.4)

is_old : (c : PlainChunk) (chunks : List PlainChunk) → Any (λ d. d.id ≡ c.id) chunks → list_any (is_same_id c) chunks ≡ true
is_old c chunks some =
    list_any-from_Any (is_same_id c) chunks (some.0, some.1, some.2, some.3, (bytes_eq-Decides c.id.0 some.1.id.0).1 (ap (λ (i : Id). i.0) (sym some.4)))

-- the next chunk is cut
stops_cut : (total : ℕ) (before : List PlainChunk) (b : ℕ) (bytes : List ℕ) (e : FormRefusal) → AreDistinct before
    → chunk_at (ChunkCut (total - suc (length bytes))) (b ∷ bytes) ≡ Err e → Stopped total before (b ∷ bytes) (ChunkCut (total - suc (length bytes)))
stops_cut total before b bytes e distinct cut = record {
  more = [];
  text = [];
  rest = b ∷ bytes;
  spelled = refl;
  distinct = subst AreDistinct (sym (append-nil before)) distinct;
  joined = refl;
  why = (
    refl,
    record {
      some = omega arith;
      none = λ c text more is joined. no_refusal (c, more) e (sym (ap (chunk_at (ChunkCut (total - suc (length bytes)))) joined ∙ (chunk_agrees (ChunkCut (total - suc (length bytes)))).again c text more is) ∙ cut);
    },
  );
}

-- the next chunk has an id that stood before
stops_twice : (total : ℕ) (before : List PlainChunk) (b : ℕ) (bytes : List ℕ) (c : PlainChunk) (rest : List ℕ) → AreDistinct before → Takes (SpellsChunk c) (b ∷ bytes) rest
    → list_any (is_same_id c) before ≡ true → Stopped total before (b ∷ bytes) (Twice c.id (total - suc (length bytes)))
stops_twice total before b bytes c rest distinct took old = record {
  more = [];
  text = [];
  rest = b ∷ bytes;
  spelled = refl;
  distinct = subst AreDistinct (sym (append-nil before)) distinct;
  joined = refl;
  why = (
    refl,
    record {
      payload = c.payload;
      text = took.text;
      more = rest;
      spelled = took.is;
      joined = took.joined;
      before = subst (λ (cs : List PlainChunk). Any (λ d. d.id ≡ c.id) cs) (sym (append-nil before)) (some_before c before old);
    },
  );
}

-- a chunk that was read, before the place where the walk stops
stops_later : (total : ℕ) (before : List PlainChunk) (bytes : List ℕ) (c : PlainChunk) (rest : List ℕ) (e : FormRefusal) → Takes (SpellsChunk c) bytes rest
    → Stopped total (before ++ c ∷ []) rest e → Stopped total before bytes e
stops_later total before bytes c rest e took later =
    let regrouped : (before ++ c ∷ []) ++ later.more ≡ before ++ c ∷ later.more = append_assoc before (c ∷ []) later.more in
    record {
      more = c ∷ later.more;
      text = took.text ++ later.text;
      rest = later.rest;
      spelled = record { front = took.text; back = later.text; front_is = took.is; back_is = later.spelled; joined = refl };
      distinct = subst AreDistinct regrouped later.distinct;
      joined = took.joined ∙ ap (λ (t : List ℕ). took.text ++ t) later.joined ∙ sym (append_assoc took.text later.text later.rest);
      why = subst (λ (cs : List PlainChunk). StopsAt e (total - length later.rest) cs later.rest) regrouped later.why;
    }

walk_refused : (total n : ℕ) (before : List PlainChunk) (bytes : List ℕ) (e : FormRefusal) → length bytes ≤ n → IsBytes bytes → AreDistinct before
    → chunks_from total n before bytes ≡ Err e → Stopped total before bytes e
walk_refused total n before [] e le fits distinct h = absurd (no_refusal before e (sym (none_left total n before) ∙ h))
walk_refused total zero before (b ∷ bytes) e le fits distinct h = absurd (omega arith)
walk_refused total (suc n) before (b ∷ bytes) e le fits distinct h =
    let at : ℕ = total - suc (length bytes) in
    elim (bind_err (chunk_at (ChunkCut at) (b ∷ bytes)) (behind_chunk total n before at) e (sym (step total n before b bytes) ∙ h)) [
      | inl cut ↦ subst (Stopped total before (b ∷ bytes)) (sym (chunk_refused (ChunkCut at) (b ∷ bytes) e cut)) (stops_cut total before b bytes e distinct cut)
      | inr x ↦
          let c : PlainChunk = x.0.0 in
          let rest : List ℕ = x.0.1 in
          let took = (chunk_agrees (ChunkCut at)).takes (b ∷ bytes) c rest fits x.1 in
          let less : length rest + 8 ≤ length (b ∷ bytes) = chunk_shorter (ChunkCut at) (b ∷ bytes) c rest x.1 in
          elim (chosen (list_any (is_same_id c) before) (Err (Twice c.id at)) (chunks_from total n (before ++ c ∷ []) rest) (Err e) x.2) [
            | inl old ↦ subst (Stopped total before (b ∷ bytes)) (err_is (Twice c.id at) e old.1) (stops_twice total before b bytes c rest distinct took old.0)
            | inr new ↦ stops_later total before (b ∷ bytes) c rest e took (walk_refused total n (before ++ c ∷ []) rest e (omega arith) took.fits (IsDistinct-push same_id before c distinct new.0) new.1)
          ]
    ]

-- ---- the head

gzips : (bytes : List ℕ) → Decides (starts_with nat_eq bytes (31 ∷ 139 ∷ [])) (IsGzip bytes)
gzips bytes = Decides-like (starts_with nat_eq bytes (31 ∷ 139 ∷ [])) sym sym (bytes_eq-Decides (31 ∷ 139 ∷ []) (take 2 bytes))

not_true : (b : Bool) → not b ≡ true → b ≡ false
not_true true e = sym e
not_true false e = refl

head_refuses : (bytes : List ℕ) (e : FormRefusal) → size_of bytes ≡ Err e → Refuses e bytes
unfolding size_of
head_refuses bytes e h =
    let found : ℕ = length bytes - 8 in
    let stated : ℕ = stated_size bytes in
    let sized : Result ℕ FormRefusal = cond (not (stated == found)) (Err (Size stated found)) (Ok stated) in
    let marked : Result ℕ FormRefusal = cond (not (is_marked bytes)) (Err NotBeam) sized in
    elim (chosen (starts_with nat_eq bytes (31 ∷ 139 ∷ [])) (Err Gzip) marked (Err e) h) [
      | inl gzip ↦ subst (λ (x : FormRefusal). Refuses x bytes) (err_is Gzip e gzip.1) ((gzips bytes).0 gzip.0)
      | inr other ↦
          let not_gzip : ¬ IsGzip bytes = not_from_Decides _ (gzips bytes) other.0 in
          elim (chosen (not (is_marked bytes)) (Err NotBeam) sized (Err e) other.1) [
            | inl unmarked ↦ subst (λ (x : FormRefusal). Refuses x bytes) (err_is NotBeam e unmarked.1) (not_gzip, not_from_Decides _ (marks bytes) (not_true _ unmarked.0))
            | inr has ↦
                elim (chosen (not (stated == found)) (Err (Size stated found)) (Ok stated) (Err e) has.1) [
                  | inl apart ↦ subst (λ (x : FormRefusal). Refuses x bytes) (err_is (Size stated found) e apart.1)
                      (not_gzip, (marks bytes).0 (not_false _ has.0), refl, refl, not_from_Decides _ (Decides-eqb stated found) (not_true _ apart.0))
                  | inr same ↦ absurd (no_refusal stated e same.1)
                ]
          ]
    ]

head_of_size : (bytes : List ℕ) (size : ℕ) → size_of bytes ≡ Ok size → IsHeaded bytes
head_of_size bytes size h =
    let head = headed bytes size h in
    record {
      other = not_from_Decides (starts_with nat_eq bytes (31 ∷ 139 ∷ [])) (gzips bytes) head.other;
      marked = (marks bytes).0 head.marked;
      sized = (Decides-eqb (stated_size bytes) (length bytes - 8)).0 head.sized;
    }

-- what the three tests of the head make of it
size_at : (bytes : List ℕ) (gzip marked sized : Bool) → starts_with nat_eq bytes (31 ∷ 139 ∷ []) ≡ gzip → is_marked bytes ≡ marked → (stated_size bytes == length bytes - 8) ≡ sized
    → size_of bytes ≡ cond gzip (Err Gzip) (cond (not marked) (Err NotBeam) (cond (not sized) (Err (Size (stated_size bytes) (length bytes - 8))) (Ok (stated_size bytes))))
unfolding size_of
size_at bytes gzip marked sized g m s = rw (g, m, s) refl

-- ---- the laws

stopped_refuses : (bytes : List ℕ) (e : FormRefusal) → IsHeaded bytes → Stopped (length bytes) [] (drop 12 bytes) e → Refuses e bytes
stopped_refuses bytes (ChunkCut at) head is = (
  is.more,
  is.rest,
  record {
    headed = head;
    text = is.text;
    spelled = is.spelled;
    distinct = is.distinct;
    joined = is.joined;
    here = omega (arith, is.why.0, head.marked.long, length-drop 12 bytes, ap length is.joined, length-append is.text is.rest);
  },
  is.why.1,
)
stopped_refuses bytes (Twice id at) head is = (
  is.more,
  is.rest,
  record {
    headed = head;
    text = is.text;
    spelled = is.spelled;
    distinct = is.distinct;
    joined = is.joined;
    here = omega (arith, is.why.0, head.marked.long, length-drop 12 bytes, ap length is.joined, length-append is.text is.rest);
  },
  is.why.1,
)
stopped_refuses bytes Gzip head is = absurd is.why
stopped_refuses bytes NotBeam head is = absurd is.why
stopped_refuses bytes (Size stated found) head is = absurd is.why
stopped_refuses bytes NoMemory head is = absurd is.why

pub refuses_from : (bytes : List ℕ) (e : FormRefusal) → IsBytes bytes → form_of bytes ≡ Err e → Refuses e bytes
unfolding form_of
refuses_from bytes e fits h =
    elim (bind_err (size_of bytes) (λ _. chunks_from (length bytes) (length bytes) [] (drop 12 bytes)) e h) [
      | inl head ↦ head_refuses bytes e head
      | inr size ↦ stopped_refuses bytes e (head_of_size bytes size.0 size.1)
          (walk_refused (length bytes) (length bytes) [] (drop 12 bytes) e (omega (arith, length-drop 12 bytes)) (IsBytes-drop 12 bytes fits) IsDistinct-none size.2)
    ]

false_from : {P : Type 0} (r : Bool) → Decides r P → ¬ P → r ≡ false
false_from true d n = absurd (n (d.0 refl))
false_from false d n = refl

refused_head : (bytes : List ℕ) (e : FormRefusal) → size_of bytes ≡ Err e → form_of bytes ≡ Err e
unfolding form_of
refused_head bytes e h = bind_at_err (size_of bytes) (λ _. chunks_from (length bytes) (length bytes) [] (drop 12 bytes)) e h

-- the walk up to where it stops
goes_to : (bytes : List ℕ) (chunks : List PlainChunk) (at : ℕ) (rest : List ℕ) → GoesTo bytes chunks at rest → form_of bytes ≡ chunks_from (length bytes) (length rest) chunks rest
unfolding form_of
goes_to bytes chunks at rest is =
    let total : ℕ = length bytes in
    let head : size_of bytes ≡ Ok (stated_size bytes) =
    size_at bytes false true true (false_from _ (gzips bytes) is.headed.other) ((marks bytes).1 is.headed.marked) ((Decides-eqb (stated_size bytes) (total - 8)).1 is.headed.sized) in
    let sizes : length is.text + length rest ≤ total = omega (arith, length-drop 12 bytes, ap length is.joined, length-append is.text rest) in
    bind_at_ok (size_of bytes) (λ _. chunks_from total total [] (drop 12 bytes)) (stated_size bytes) head
    ∙ ap (chunks_from total total []) is.joined
    ∙ walk_through total total [] chunks is.text rest sizes is.spelled is.distinct

place_of : (bytes : List ℕ) (chunks : List PlainChunk) (at : ℕ) (rest : List ℕ) → GoesTo bytes chunks at rest → at + length rest ≡ length bytes
place_of bytes chunks at rest is =
    omega (arith, is.here, is.headed.marked.long, length-drop 12 bytes, ap length is.joined, length-append is.text rest)

rest_is_bytes : (bytes : List ℕ) (chunks : List PlainChunk) (at : ℕ) (rest : List ℕ) → IsBytes bytes → GoesTo bytes chunks at rest → IsBytes rest
rest_is_bytes bytes chunks at rest fits is =
    subst IsBytes (ap (drop (length is.text)) is.joined ∙ drop_at is.text rest (length is.text) refl) (IsBytes-drop (length is.text) (drop 12 bytes) (IsBytes-drop 12 bytes fits))

pub refused_by : (bytes : List ℕ) (e : FormRefusal) → IsBytes bytes → Refuses e bytes → form_of bytes ≡ Err e
refused_by bytes Gzip fits is = refused_head bytes Gzip (size_at bytes true (is_marked bytes) (stated_size bytes == length bytes - 8) ((gzips bytes).1 is) refl refl)
refused_by bytes NotBeam fits is =
    refused_head bytes NotBeam (size_at bytes false false (stated_size bytes == length bytes - 8) (false_from _ (gzips bytes) is.0) (false_from _ (marks bytes) is.1) refl)
refused_by bytes (Size stated found) fits is =
    let apart : (stated_size bytes == length bytes - 8) ≡ false = false_from _ (Decides-eqb (stated_size bytes) (length bytes - 8)) (λ same. is.4 (is.2 ∙ same ∙ sym is.3)) in
    refused_head bytes (Size stated found) (size_at bytes false true false (false_from _ (gzips bytes) is.0) ((marks bytes).1 is.1) apart
    ∙ ap (λ (n : ℕ). Err (Size n (length bytes - 8))) (sym is.2) ∙ ap (λ (n : ℕ). Err (Size stated n)) (sym is.3))
refused_by bytes (ChunkCut at) fits is =
    let chunks : List PlainChunk = is.0 in
    let rest : List ℕ = is.1 in
    let size : length rest ≡ suc (length rest - 1) = omega (arith, is.3.some) in
    goes_to bytes chunks at rest is.2
    ∙ first_of (length bytes) (length rest - 1) chunks rest at (Err (ChunkCut at)) size (place_of bytes chunks at rest is.2) (cut_at (ChunkCut at) rest (rest_is_bytes bytes chunks at rest fits is.2) is.3)
refused_by bytes (Twice id at) fits is =
    let chunks : List PlainChunk = is.0 in
    let rest : List ℕ = is.1 in
    let c : PlainChunk = record { id = id; payload = is.3.payload } in
    let read : chunk_at (ChunkCut at) rest ≡ giving c is.3.more = ap (chunk_at (ChunkCut at)) is.3.joined ∙ (chunk_agrees (ChunkCut at)).again c is.3.text is.3.more is.3.spelled in
    goes_to bytes chunks at rest is.2
    ∙ is_twice (length bytes) chunks rest is.3.more c at (place_of bytes chunks at rest is.2) read (is_old c chunks is.3.before)
refused_by bytes NoMemory fits is = absurd is

-- what a refused call says of the bytes
pub refused_call : (bytes : List ℕ) (result : Result (List PlainChunk) FormRefusal) → IsBytes bytes → GivesAll NoMemory (λ cs. cs) result (form_of bytes)
    → IfErr result (λ e. (e ≡ NoMemory) ⊎ Refuses e bytes)
refused_call bytes (Ok cs) fits gives = tt
refused_call bytes (Err e) fits (inl none) = inl none
refused_call bytes (Err e) fits (inr read) = inr (refuses_from bytes e fits read)

accepts : (bytes : List ℕ) (chunks : List PlainChunk) → IsBytes bytes → form_of bytes ≡ Ok chunks → IsForm chunks bytes
unfolding form_of
accepts bytes chunks fits h =
    let size = bind_ok (size_of bytes) (λ _. chunks_from (length bytes) (length bytes) [] (drop 12 bytes)) chunks h in
    (form_takes bytes size.0 chunks fits size.1 size.2).form

pub form_is_exact : IsExact form_of IsForm
form_is_exact = exact_from accepts (λ bytes chunks. form_again chunks bytes)

-- ---- one form

-- the size word of a form, also where more follows it
size_word : (chunks : List PlainChunk) (a x : List ℕ) (is : IsForm chunks a) → big_number 4 (drop 4 (a ++ x)) ≡ 4 + length is.body
size_word chunks a x is =
    let size : ℕ = 4 + length is.body in
    ap (λ (t : List ℕ). big_number 4 (drop 4 (t ++ x))) is.joined
    ∙ big_number-reads_back 4 size ((codes "BEAM" ++ is.body) ++ x) (omega (arith, is.fits))

pub same_form : (a b x y : List ℕ) (chunks others : List PlainChunk) → IsForm chunks a → IsForm others b → a ++ x ≡ b ++ y → (a ≡ b) × (chunks ≡ others)
same_form a b x y chunks others p q e =
    let words : 4 + length p.body ≡ 4 + length q.body = sym (size_word chunks a x p) ∙ ap (λ (t : List ℕ). big_number 4 (drop 4 t)) e ∙ size_word others b y q in
    let first : length a ≡ 12 + length p.body = omega (arith, ap length p.joined) in
    let second : length b ≡ 12 + length q.body = omega (arith, ap length q.joined) in
    let sizes : length a ≡ length b = omega (arith, words, first, second) in
    let same : a ≡ b = sym (take_at a x (length a) refl) ∙ ap (take (length a)) e ∙ take_at b y (length a) (sym sizes) in
    (same, ok_is {E = FormRefusal} chunks others (sym (form_again chunks a p) ∙ ap form_of same ∙ form_again others b q))
