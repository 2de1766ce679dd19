-- The chunks of a form, one after another.
use Rattle.std.proofs.Common.{◌≡◌, ℕ, zero, suc, ◌+◌, ◌-◌, ◌<◌, ◌≤◌, Bool, false, cond, List, [], ◌∷◌, ◌++◌, length, Result, Ok, Err, refl, sym, ap, subst, ◌∙◌, append_assoc, arith, length-append}
use Rattle.std.proofs.lemmas.List.{append-nil}
use Rattle.std.proofs.lemmas.Cmp.{on_equiv, nat_list_eq_equiv}
use Rattle.std.proofs.lemmas.Map.Keys.{IsDistinct-head, IsDistinct-tail, IsDistinct-push}
use Rattle.std.proofs.lemmas.List.Sums.{sum_by-cons}
use Rattle.std.specs.Cmp.{IsEquivalence}
use Rattle.std.specs.List.{AllByRecursion, list_any, sum_by}
use Rattle.byteorder.specs.Endian.{big_bytes}
use Rattle.bk_codec.specs.Reading.{◌>>=◌}
use Rattle.bk_codec.specs.Spelling.{IsBytes, SpellsMany}
use Rattle.bk_codec.proofs.Steps.{bind_ok, bind_same, bind_at_ok, ok_is, guard_ok}
use Rattle.iff_form.specs.declared.refusal.FormRefusal.{FormRefusal}
use Rattle.iff_form.specs.declared.refusal.FormRefusal.TheVariants.{ChunkCut, Twice}
use Rattle.iff_form.specs.Chunk.{PlainChunk, SpellsChunk, chunk_size, is_same_id}
use Rattle.iff_form.specs.Form.{AreDistinct}
use Rattle.iff_form.specs.Reading.{chunk_at, chunks_from}
use Rattle.iff_form.proofs.Chunks.{chunk_agrees, chunk_shorter}

-- ---- ids that differ

pub same_id : IsEquivalence is_same_id
same_id = on_equiv (λ c. c.id.0) nat_list_eq_equiv

at_middle : (P : PlainChunk → Type 0) (xs : List PlainChunk) (c : PlainChunk) (more : List PlainChunk) → AllByRecursion P (xs ++ c ∷ more) → P c
at_middle P [] c more h = h.0
at_middle P (x ∷ xs) c more h = at_middle P xs c more h.1

-- where all ids differ, none before a chunk is that chunk's
pub not_before : (before : List PlainChunk) (c : PlainChunk) (more : List PlainChunk) → AreDistinct (before ++ c ∷ more) → list_any (is_same_id c) before ≡ false
not_before [] c more distinct = refl
not_before (x ∷ xs) c more distinct =
    let apart : is_same_id x c ≡ false = at_middle (λ y. is_same_id x y ≡ false) xs c more (IsDistinct-head is_same_id x (xs ++ c ∷ more) distinct) in
    let others : list_any (is_same_id c) xs ≡ false = not_before xs c more (IsDistinct-tail is_same_id x (xs ++ c ∷ more) distinct) in
    rw (same_id.symm c x, apart) others

-- ---- how many bytes a chunk takes

pub length-chunk : (c : PlainChunk) (text : List ℕ) → SpellsChunk c text → length text ≡ chunk_size c
length-chunk c text is =
    omega (arith, ap length is.joined, is.id, is.padded, length-append c.id.0 (big_bytes 4 (length c.payload) ++ (c.payload ++ is.padding)), length-append c.payload is.padding)

pub length-chunks : (chunks : List PlainChunk) (bytes : List ℕ) → SpellsMany SpellsChunk chunks bytes → length bytes ≡ sum_by chunk_size chunks
length-chunks [] bytes is = ap length is
length-chunks (c ∷ chunks) bytes is =
    omega (arith, ap length is.joined, length-append is.front is.back, length-chunk c is.front is.front_is, length-chunks chunks is.back is.back_is, sum_by-cons chunk_size c chunks)

-- ---- the walk

abbrev pub behind_chunk : ℕ → ℕ → List PlainChunk → ℕ → PlainChunk × List ℕ → Result (List PlainChunk) FormRefusal
behind_chunk total n before at x = cond (list_any (is_same_id x.0) before) (Err (Twice x.0.id at)) (chunks_from total n (before ++ x.0 ∷ []) x.1)

-- one chunk, and then the others
pub step : (total n : ℕ) (before : List PlainChunk) (b : ℕ) (bytes : List ℕ)
    → chunks_from total (suc n) before (b ∷ bytes) ≡ chunk_at (ChunkCut (total - suc (length bytes))) (b ∷ bytes) >>= behind_chunk total n before (total - suc (length bytes))
unfolding chunks_from
step total n before b bytes = refl

pub none_left : (total n : ℕ) (before : List PlainChunk) → chunks_from total n before [] ≡ Ok before
unfolding chunks_from
none_left total n before = refl

-- how many chunks there may be doesn't matter, where it is at least the number of the bytes
pub chunks_from-bound : (total n m : ℕ) (before : List PlainChunk) (bytes : List ℕ) → length bytes ≤ n → length bytes ≤ m → chunks_from total n before bytes ≡ chunks_from total m before bytes
chunks_from-bound total n m before [] le le' = none_left total n before ∙ sym (none_left total m before)
chunks_from-bound total zero m before (b ∷ bytes) le le' = absurd (omega arith)
chunks_from-bound total (suc n) zero before (b ∷ bytes) le le' = absurd (omega arith)
chunks_from-bound total (suc n) (suc m) before (b ∷ bytes) le le' =
    let at : ℕ = total - suc (length bytes) in
    let same = bind_same (chunk_at (ChunkCut at) (b ∷ bytes)) (behind_chunk total n before at) (behind_chunk total m before at) (λ x read.
    let less : length x.1 + 8 ≤ length (b ∷ bytes) = chunk_shorter (ChunkCut at) (b ∷ bytes) x.0 x.1 read in
    ap (λ (r : Result (List PlainChunk) FormRefusal). cond (list_any (is_same_id x.0) before) (Err (Twice x.0.id at)) r) (chunks_from-bound total n m (before ++ x.0 ∷ []) x.1 (omega arith) (omega arith))) in
    step total n before b bytes ∙ same ∙ sym (step total m before b bytes)

-- what the walk gave: more chunks behind those before
pub record Walked (before : List PlainChunk) (bytes : List ℕ) (chunks : List PlainChunk) : Type 0 where
  pub more : List PlainChunk
  pub is : chunks ≡ before ++ more
  pub spelled : SpellsMany SpellsChunk more bytes
  pub distinct : AreDistinct chunks

pub walk_takes : (total n : ℕ) (before : List PlainChunk) (bytes : List ℕ) (chunks : List PlainChunk) → length bytes ≤ n → IsBytes bytes → AreDistinct before
    → chunks_from total n before bytes ≡ Ok chunks → Walked before bytes chunks
walk_takes total n before [] chunks le fits distinct e =
    let is : before ≡ chunks = ok_is {E = FormRefusal} before chunks (sym (none_left total n before) ∙ e) in
    record { more = []; is = sym is ∙ sym (append-nil before); spelled = refl; distinct = subst AreDistinct is distinct }
walk_takes total zero before (b ∷ bytes) chunks le fits distinct e = absurd (omega arith)
walk_takes total (suc n) before (b ∷ bytes) chunks le fits distinct e =
    let at : ℕ = total - suc (length bytes) in
    let first = bind_ok (chunk_at (ChunkCut at) (b ∷ bytes)) (behind_chunk total n before at) chunks (sym (step total n before b bytes) ∙ e) in
    let c : PlainChunk = first.0.0 in
    let new = guard_ok (list_any (is_same_id c) before) (Twice c.id at) (chunks_from total n (before ++ c ∷ []) first.0.1) chunks first.2 in
    let less : length first.0.1 + 8 ≤ length (b ∷ bytes) = chunk_shorter (ChunkCut at) (b ∷ bytes) c first.0.1 first.1 in
    let took = (chunk_agrees (ChunkCut at)).takes (b ∷ bytes) c first.0.1 fits first.1 in
    let others = walk_takes total n (before ++ c ∷ []) first.0.1 chunks (omega arith) took.fits (IsDistinct-push same_id before c distinct new.0) new.1 in
    record {
      more = c ∷ others.more;
      is = others.is ∙ append_assoc before (c ∷ []) others.more;
      spelled = record { front = took.text; back = first.0.1; front_is = took.is; back_is = others.spelled; joined = took.joined };
      distinct = others.distinct;
    }

-- a chunk at the front, of an id that is new
walk_one : (total n : ℕ) (before : List PlainChunk) (bytes rest : List ℕ) (c : PlainChunk) → 0 < length bytes → ((cut : FormRefusal) → chunk_at cut bytes ≡ Ok (c, rest))
    → list_any (is_same_id c) before ≡ false → chunks_from total (suc n) before bytes ≡ chunks_from total n (before ++ c ∷ []) rest
walk_one total n before [] rest c some read new = absurd (omega arith)
walk_one total n before (b ∷ bytes) rest c some read new =
    let at : ℕ = total - suc (length bytes) in
    step total n before b bytes
    ∙ bind_at_ok (chunk_at (ChunkCut at) (b ∷ bytes)) (behind_chunk total n before at) (c, rest) (read (ChunkCut at))
    ∙ ap (λ (t : Bool). cond t (Err (Twice c.id at)) (chunks_from total n (before ++ c ∷ []) rest)) new

-- chunks at the front, of ids that are new and differ
pub walk_through : (total n : ℕ) (before more : List PlainChunk) (text rest : List ℕ) → length text + length rest ≤ n → SpellsMany SpellsChunk more text → AreDistinct (before ++ more)
    → chunks_from total n before (text ++ rest) ≡ chunks_from total (length rest) (before ++ more) rest
walk_through total n before [] text rest le is distinct =
    ap (λ (t : List ℕ). chunks_from total n before (t ++ rest)) is
    ∙ chunks_from-bound total n (length rest) before rest (omega (arith, le)) (omega arith)
    ∙ ap (λ (cs : List PlainChunk). chunks_from total (length rest) cs rest) (sym (append-nil before))
walk_through total zero before (c ∷ more) text rest le is distinct =
    absurd (omega (arith, ap length is.joined, length-append is.front is.back, length-chunk c is.front is.front_is))
walk_through total (suc n) before (c ∷ more) text rest le is distinct =
    let sizes : length text ≡ chunk_size c + length is.back = omega (arith, ap length is.joined, length-append is.front is.back, length-chunk c is.front is.front_is) in
    let whole : text ++ rest ≡ is.front ++ (is.back ++ rest) = ap (λ (t : List ℕ). t ++ rest) is.joined ∙ append_assoc is.front is.back rest in
    let read : (cut : FormRefusal) → chunk_at cut (text ++ rest) ≡ Ok (c, is.back ++ rest) = λ cut. ap (chunk_at cut) whole ∙ (chunk_agrees cut).again c is.front (is.back ++ rest) is.front_is in
    let regrouped : (before ++ c ∷ []) ++ more ≡ before ++ c ∷ more = append_assoc before (c ∷ []) more in
    walk_one total n before (text ++ rest) (is.back ++ rest) c (omega (arith, length-append text rest)) read (not_before before c more distinct)
    ∙ walk_through total n (before ++ c ∷ []) more is.back rest (omega arith) is.back_is (subst AreDistinct (sym regrouped) distinct)
    ∙ ap (λ (cs : List PlainChunk). chunks_from total (length rest) cs rest) regrouped

pub walk_again : (total n : ℕ) (before more : List PlainChunk) (bytes : List ℕ) → length bytes ≤ n → SpellsMany SpellsChunk more bytes → AreDistinct (before ++ more)
    → chunks_from total n before bytes ≡ Ok (before ++ more)
walk_again total n before more bytes le is distinct =
    ap (chunks_from total n before) (sym (append-nil bytes)) ∙ walk_through total n before more bytes [] (omega (arith, le)) is distinct ∙ none_left total 0 (before ++ more)
