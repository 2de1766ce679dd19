-- The loop over the chunks of a form.
use Rattle.std.proofs.Common.{◌≡◌, ℕ, suc, ◌+◌, ◌-◌, ◌<◌, ◌≤◌, Bool, true, false, cond, ◌||◌, List, [], ◌∷◌, ◌++◌, length, drop, Result, Ok, Err, refl, sym, ap, subst, ◌∙◌, arith, inl, inr, add-zero}
use Rattle.std.specs.Prelude.{map, Option, None, Some, IsNone, OnSome, IsTrue, ◌↔◌}
use Rattle.std.specs.List.{list_any, sum_by}
use Rattle.std.specs.Ordering.{is_eq, nat_cmp}
use Rattle.std.specs.Cmp.Lexicographic.{slice_cmp}
use Rattle.std.specs.Str.{bytes_eq}
use Rattle.std.proofs.lemmas.Bool.{false≢true}
use Rattle.std.proofs.lemmas.List.{map_push, length-drop}
use Rattle.std.proofs.lemmas.List.Folds.{list_any-append}
use Rattle.std.proofs.lemmas.Map.Text.{is_eq-slice_cmp}
use Rattle.std.proofs.lemmas.Cmp.{nat_list_eq_equiv}
use Rattle.std.proofs.lemmas.List.Sums.{sum_by-cons, sum_by-append}
use Rattle.bk_base.specs.Place.{Place, moved}
use Rattle.bk_codec.specs.Reading.{◌>>=◌, giving, Fails}
use Rattle.iff_form.specs.declared.chunk.Chunk.{Chunk}
use Rattle.iff_form.specs.declared.refusal.FormRefusal.{FormRefusal}
use Rattle.iff_form.specs.declared.refusal.FormRefusal.TheVariants.{ChunkCut, Twice, NoMemory}
use Rattle.iff_form.specs.Chunk.{PlainChunk, plain, plains, chunk_size, is_same_id}
use Rattle.iff_form.specs.Form.{offsets_from}
use Rattle.iff_form.specs.Reading.{chunk_at, chunks_from}
use Rattle.iff_form.proofs.Chunks.{chunk_shorter}
use Rattle.iff_form.proofs.Walk.{chunks_from-bound, behind_chunk, none_left, step}

-- what the loop keeps: the walk from here gives what the whole walk gives, and where the chunks lie
pub record Walks (total : ℕ) (body rest : List ℕ) (offset : ℕ) (chunks : List Chunk) (keys : List (List ℕ)) : Type 0 where
  pub walk : chunks_from total (length rest) (plains chunks) rest ≡ chunks_from total total [] body
  pub place : offset + length rest ≡ total
  pub next : offset ≡ 12 + sum_by chunk_size (plains chunks)
  pub offsets : map (λ c. c.at) chunks ≡ offsets_from 12 (plains chunks)
  pub seen : (q : List ℕ) → list_any (λ k. is_eq (slice_cmp nat_cmp q k)) keys ≡ list_any (λ c. bytes_eq q c.id.0) (plains chunks)

-- where the next chunk stands
offsets_from-push : (at : ℕ) (chunks : List PlainChunk) (c : PlainChunk) → offsets_from at (chunks ++ c ∷ []) ≡ offsets_from at chunks ++ (at + sum_by chunk_size chunks) ∷ []
offsets_from-push at [] c = ap (λ (n : ℕ). n ∷ []) (sym (add-zero at))
offsets_from-push at (x ∷ chunks) c =
    let sum : at + chunk_size x + sum_by chunk_size chunks ≡ at + sum_by chunk_size (x ∷ chunks) = omega (arith, sum_by-cons chunk_size x chunks) in
    ap (λ (ns : List ℕ). at ∷ ns) (offsets_from-push (at + chunk_size x) chunks c ∙ ap (λ (n : ℕ). offsets_from (at + chunk_size x) chunks ++ n ∷ []) sum)

-- the walk from a place where some bytes are left
pub first_of : (total m : ℕ) (before : List PlainChunk) (rest : List ℕ) (offset : ℕ) (read : Result (PlainChunk × List ℕ) FormRefusal) → length rest ≡ suc m → offset + length rest ≡ total
    → chunk_at (ChunkCut offset) rest ≡ read → chunks_from total (length rest) before rest ≡ read >>= behind_chunk total m before offset
first_of total m before [] offset read some place e = absurd (omega arith)
first_of total m before (b ∷ rest) offset read some place e =
    let here : total - suc (length rest) ≡ offset = omega (arith, place) in
    let size : length rest ≡ m = omega (arith, some) in
    let one = chunk_at (ChunkCut offset) (b ∷ rest) in
    step total (length rest) before b rest
    ∙ ap (λ (at : ℕ). chunk_at (ChunkCut at) (b ∷ rest) >>= behind_chunk total (length rest) before at) here
    ∙ ap (λ (k : ℕ). chunk_at (ChunkCut offset) (b ∷ rest) >>= behind_chunk total k before offset) size
    ∙ ap (λ (r : Result (PlainChunk × List ℕ) FormRefusal). r >>= behind_chunk total m before offset) e

-- one chunk more, of a new id
pub one_more : (total : ℕ) (before : List PlainChunk) (rest after : List ℕ) (c : PlainChunk) (offset : ℕ) → offset + length rest ≡ total
    → chunk_at (ChunkCut offset) rest ≡ giving c after → list_any (is_same_id c) before ≡ false
    → chunks_from total (length after) (before ++ c ∷ []) after ≡ chunks_from total (length rest) before rest
one_more total before rest after c offset place read new =
    let less : length after + 8 ≤ length rest = chunk_shorter (ChunkCut offset) rest c after read in
    let some : length rest ≡ suc (length rest - 1) = omega (arith, less) in
    chunks_from-bound total (length after) (length rest - 1) (before ++ c ∷ []) after (omega arith) (omega (arith, less))
    ∙ sym (first_of total (length rest - 1) before rest offset (giving c after) some place read
    ∙ ap (λ (t : Bool). cond t (Err (Twice c.id offset)) (chunks_from total (length rest - 1) (before ++ c ∷ []) after)) new)

-- the next chunk is cut
pub is_cut : (total : ℕ) (before : List PlainChunk) (rest : List ℕ) (offset : ℕ) (e : FormRefusal) → 0 < length rest → offset + length rest ≡ total
    → Fails NoMemory e (chunk_at (ChunkCut offset) rest) → Fails NoMemory e (chunks_from total (length rest) before rest)
is_cut total before rest offset e some place (inl none) = inl none
is_cut total before rest offset e some place (inr read) =
    let size : length rest ≡ suc (length rest - 1) = omega (arith, some) in
    inr (first_of total (length rest - 1) before rest offset (Err e) size place read)

-- the next chunk has an id that stood before
pub is_twice : (total : ℕ) (before : List PlainChunk) (rest after : List ℕ) (c : PlainChunk) (offset : ℕ) → offset + length rest ≡ total
    → chunk_at (ChunkCut offset) rest ≡ giving c after → list_any (is_same_id c) before ≡ true
    → chunks_from total (length rest) before rest ≡ Err (Twice c.id offset)
is_twice total before rest after c offset place read old =
    let less : length after + 8 ≤ length rest = chunk_shorter (ChunkCut offset) rest c after read in
    let some : length rest ≡ suc (length rest - 1) = omega (arith, less) in
    first_of total (length rest - 1) before rest offset (giving c after) some place read
    ∙ ap (λ (t : Bool). cond t (Err (Twice c.id offset)) (chunks_from total (length rest - 1) (before ++ c ∷ []) after)) old

-- ---- the steps of the loop

-- before the first chunk
pub walks_none : (bytes : List ℕ) → 12 ≤ length bytes → Walks (length bytes) (drop 12 bytes) (drop 12 bytes) 12 [] []
walks_none bytes long = record {
  walk = chunks_from-bound (length bytes) (length (drop 12 bytes)) (length bytes) [] (drop 12 bytes) (omega arith) (omega (arith, length-drop 12 bytes));
  place = omega (arith, long, length-drop 12 bytes);
  next = refl;
  offsets = refl;
  seen = λ q. refl;
}

or_last : (b l : Bool) → cond b true l ≡ (l || (b || false))
or_last true true = refl
or_last true false = refl
or_last false true = refl
or_last false false = refl

-- one key more
seen_more : (old new : List (List ℕ)) (chunks : List PlainChunk) (c : PlainChunk)
    → ((q : List ℕ) → list_any (λ k. is_eq (slice_cmp nat_cmp q k)) old ≡ list_any (λ d. bytes_eq q d.id.0) chunks)
    → ((q : List ℕ) → list_any (λ k. is_eq (slice_cmp nat_cmp q k)) new ≡ cond (is_eq (slice_cmp nat_cmp c.id.0 q)) true (list_any (λ k. is_eq (slice_cmp nat_cmp q k)) old))
    → (q : List ℕ) → list_any (λ k. is_eq (slice_cmp nat_cmp q k)) new ≡ list_any (λ d. bytes_eq q d.id.0) (chunks ++ c ∷ [])
seen_more old new chunks c seen updates q =
    let test : is_eq (slice_cmp nat_cmp c.id.0 q) ≡ bytes_eq q c.id.0 = is_eq-slice_cmp c.id.0 q ∙ nat_list_eq_equiv.symm c.id.0 q in
    updates q
    ∙ ap (λ (t : Bool). cond t true (list_any (λ k. is_eq (slice_cmp nat_cmp q k)) old)) test
    ∙ ap (cond (bytes_eq q c.id.0) true) (seen q)
    ∙ or_last (bytes_eq q c.id.0) (list_any (λ d. bytes_eq q d.id.0) chunks)
    ∙ sym (list_any-append (λ d. bytes_eq q d.id.0) chunks (c ∷ []))

pub walks_more : (total : ℕ) (body rest after : List ℕ) (offset next : ℕ) (chunks : List Chunk) (c : Chunk) (old new : List (List ℕ)) → Walks total body rest offset chunks old
    → chunk_at (ChunkCut offset) rest ≡ giving (plain c) after → c.at ≡ offset → next ≡ offset + chunk_size (plain c) → next + length after ≡ offset + length rest
    → list_any (λ k. is_eq (slice_cmp nat_cmp c.id.0 k)) old ≡ false
    → ((q : List ℕ) → list_any (λ k. is_eq (slice_cmp nat_cmp q k)) new ≡ cond (is_eq (slice_cmp nat_cmp c.id.0 q)) true (list_any (λ k. is_eq (slice_cmp nat_cmp q k)) old))
    → Walks total body after next (chunks ++ c ∷ []) new
walks_more total body rest after offset next chunks c old new before read at_is next_is place_is fresh updates =
    let pushed : plains (chunks ++ c ∷ []) ≡ plains chunks ++ plain c ∷ [] = map_push plain chunks c in
    let apart : list_any (is_same_id (plain c)) (plains chunks) ≡ false = sym (before.seen c.id.0) ∙ fresh in
    record {
      walk = ap (λ (cs : List PlainChunk). chunks_from total (length after) cs after) pushed
          ∙ one_more total (plains chunks) rest after (plain c) offset before.place read apart ∙ before.walk;
      place = omega (arith, before.place, place_is);
      next = omega (arith, before.next, next_is, ap (sum_by chunk_size) pushed, sum_by-append chunk_size (plains chunks) (plain c ∷ []));
      offsets = map_push (λ d. d.at) chunks c ∙ ap (λ (ns : List ℕ). ns ++ c.at ∷ []) before.offsets
          ∙ ap (λ (n : ℕ). offsets_from 12 (plains chunks) ++ n ∷ []) (at_is ∙ before.next) ∙ sym (offsets_from-push 12 (plains chunks) (plain c))
          ∙ ap (offsets_from 12) (sym pushed);
      seen = λ q. seen_more old new (plains chunks) (plain c) before.seen updates q ∙ ap (list_any (λ d. bytes_eq q d.id.0)) (sym pushed);
    }

-- a read of as many bytes as there are
was_read : {X P : Type 0} (r : Option X) (len n : ℕ) → (IsNone r ↔ (len < n)) → n ≤ len → OnSome r P → P
was_read None len n none long p = absurd (omega (arith, none.0 refl))
was_read (Some x) len n none long p = p

-- the loop begins behind the head
pub walks_first : {X : Type 0} (bytes : List ℕ) (start place : Place) (chunks : List Chunk) (keys : List (List ℕ)) (r : Option X) → 12 ≤ length bytes
    → start.rest ≡ bytes → start.offset ≡ 0 → (IsNone r ↔ (length start.rest < 12)) → OnSome r (place ≡ moved 12 start) → chunks ≡ [] → keys ≡ []
    → Walks (length bytes) (drop 12 bytes) place.rest place.offset chunks keys
walks_first bytes start place chunks keys r long rest_is offset_is none moves chunks_is keys_is =
    let at : place ≡ moved 12 start = was_read r (length start.rest) 12 none (omega (arith, long, ap length rest_is)) moves in
    let rest : place.rest ≡ drop 12 bytes = ap (λ (p : Place). p.rest) at ∙ ap (drop 12) rest_is in
    let offset : place.offset ≡ 12 = ap (λ (p : Place). p.offset) at ∙ ap (λ (n : ℕ). n + 12) offset_is in
    rw (rest, offset, chunks_is, keys_is) (walks_none bytes long)

-- some bytes are left
pub some_left : (r : Bool) (rest : List ℕ) → (IsTrue r ↔ (rest ≡ [])) → r ≡ false → 0 < length rest
some_left r [] empty e = absurd (false≢true (sym e ∙ empty.1 refl))
some_left r (b ∷ rest) empty e = omega arith

-- no byte is left
pub none_left_over : (r : Bool) (rest : List ℕ) → (IsTrue r ↔ (rest ≡ [])) → r ≡ true → rest ≡ []
none_left_over r rest empty e = empty.0 e

pub cut_there : (total : ℕ) (body rest : List ℕ) (offset : ℕ) (chunks : List Chunk) (keys : List (List ℕ)) (e : FormRefusal) → Walks total body rest offset chunks keys → 0 < length rest
    → Fails NoMemory e (chunk_at (ChunkCut offset) rest) → Fails NoMemory e (chunks_from total total [] body)
cut_there total body rest offset chunks keys e before some fails =
    subst (Fails NoMemory e) before.walk (is_cut total (plains chunks) rest offset e some before.place fails)

pub twice_there : (total : ℕ) (body rest after : List ℕ) (offset : ℕ) (chunks : List Chunk) (keys : List (List ℕ)) (c : Chunk) → Walks total body rest offset chunks keys
    → chunk_at (ChunkCut offset) rest ≡ giving (plain c) after → c.at ≡ offset → list_any (λ k. is_eq (slice_cmp nat_cmp c.id.0 k)) keys ≡ true
    → Fails NoMemory (Twice c.id c.at) (chunks_from total total [] body)
twice_there total body rest after offset chunks keys c before read at_is old =
    inr (sym before.walk ∙ is_twice total (plains chunks) rest after (plain c) offset before.place read (sym (before.seen c.id.0) ∙ old)
    ∙ ap (λ (n : ℕ). Err (Twice c.id n)) (sym at_is))

pub all_there : (total : ℕ) (body rest : List ℕ) (offset : ℕ) (chunks : List Chunk) (keys : List (List ℕ)) → Walks total body rest offset chunks keys → rest ≡ []
    → chunks_from total total [] body ≡ Ok (plains chunks)
all_there total body rest offset chunks keys before none =
    sym before.walk ∙ ap (λ (r : List ℕ). chunks_from total (length r) (plains chunks) r) none ∙ none_left total 0 (plains chunks)
