-- A reading is refused exactly where the bytes stop being the spelling of counted values.
use Rattle.std.proofs.Common.{◌≡◌, ◌⊎◌, ℕ, zero, suc, ◌+◌, ◌*◌, ◌<◌, ◌≤◌, false, ltb, List, [], ◌∷◌, ◌++◌, length, drop, Result, Ok, Err, refl, sym, ap, subst, ◌∙◌, append_assoc, arith, inl, inr, length-drop}
use Rattle.std.specs.Prelude.{IfErr}
use Rattle.std.proofs.lemmas.Bool.{cases_lt, ltb-true, ltb-false, lt-ltb, le-ltb}
use Rattle.byteorder.specs.Endian.{big_number}
use Rattle.bk_codec.specs.Reading.{◌>>=◌, giving, made_of, number_at, many_at, numbered_at, counted_at, alone, ended, GivesAll}
use Rattle.bk_codec.specs.Spelling.{IsBytes, SpellsMany, SpellsCounted}
use Rattle.bk_codec.specs.Refusal.{StopsAt, RefusesCounted, IsDecided}
use Rattle.bk_codec.proofs.Steps.{bind_err, made_err, guard_ok, guard_err, err_is, ok_is}
use Rattle.bk_codec.proofs.Agreement.{number_agrees}
use Rattle.bk_codec.proofs.Counted.{AgreesByNumber, counted_agrees}
use Rattle.bk_codec.proofs.Ended.{ended_takes, ended_again}

-- ---- words

-- a word is cut where fewer than four bytes are there
pub word_err : {E : Type 0} (cut e : E) (bytes : List ℕ) → number_at cut 4 bytes ≡ Err e → (e ≡ cut) × (length bytes < 4)
word_err cut e bytes h = let g = guard_err (ltb (length bytes) 4) cut (big_number 4 bytes, drop 4 bytes) e h in (sym g.1, ltb-true (length bytes) 4 g.0)

pub word_cut : {E : Type 0} (cut : E) (bytes : List ℕ) → length bytes < 4 → number_at cut 4 bytes ≡ Err cut
word_cut cut bytes lt = rw (lt-ltb (length bytes) 4 lt) refl

word_ok : {E : Type 0} (cut : E) (bytes : List ℕ) (x : ℕ × List ℕ) → number_at cut 4 bytes ≡ Ok x → length x.1 + 4 ≡ length bytes
word_ok {E} cut bytes x h =
    let g = guard_ok (ltb (length bytes) 4) cut (giving (big_number 4 bytes) (drop 4 bytes)) x h in
    let long : 4 ≤ length bytes = ltb-false _ _ g.0 in
    let rest : length (drop 4 bytes) ≡ length x.1 = ap (λ (q : ℕ × List ℕ). length q.1) (ok_is {E = E} (big_number 4 bytes, drop 4 bytes) x g.1) in
    omega (arith, rest, length-drop 4 bytes)

-- n words are cut where fewer than 4 n bytes are there
pub words_err : {E : Type 0} (cut e : E) (n : ℕ) (bytes : List ℕ) → many_at (number_at cut 4) n bytes ≡ Err e → (e ≡ cut) × (length bytes < 4 * n)
words_err cut e zero bytes h = absurd cc
words_err cut e (suc n) bytes h =
    elim (bind_err (number_at cut 4 bytes) (λ x. made_of (λ xs. x.0 ∷ xs) (many_at (number_at cut 4) n x.1)) e h) [
      | inl short ↦ (
          let first = word_err cut e bytes short in
          let less : length bytes < 4 * suc n = omega (arith, first.1) in
          (first.0, less))
      | inr later ↦ (
          let others = words_err cut e n later.0.1 (made_err (λ xs. later.0.0 ∷ xs) (many_at (number_at cut 4) n later.0.1) e later.2) in
          let less : length bytes < 4 * suc n = omega (arith, word_ok cut bytes later.0 later.1, others.1) in
          (others.0, less))
    ]

pub words_cut : {E : Type 0} (cut : E) (n : ℕ) (bytes : List ℕ) → length bytes < 4 * n → many_at (number_at cut 4) n bytes ≡ Err cut
words_cut cut zero bytes lt = absurd (omega arith)
words_cut cut (suc n) bytes lt =
    elim (cases_lt (length bytes) 4) [
      | inl short ↦ rw (word_cut cut bytes short) refl
      | inr long ↦ (
          let there : ltb (length bytes) 4 ≡ false = le-ltb _ _ long in
          let others : many_at (number_at cut 4) n (drop 4 bytes) ≡ Err cut = words_cut cut n (drop 4 bytes) (omega (arith, length-drop 4 bytes)) in
          rw (there, others) refl)
    ]

-- ---- counted values

-- a value is refused for a reason exactly where its reading answers that
pub record RefusesByNumber {E A : Type 0} (one : ℕ → List ℕ → Result (A × List ℕ) E) (bad : ℕ → List ℕ → E → Type 0) : Type 0 where
  pub why : (i : ℕ) (bytes : List ℕ) (e : E) → IsBytes bytes → one i bytes ≡ Err e → bad i bytes e
  pub refuses : (i : ℕ) (bytes : List ℕ) (e : E) → bad i bytes e → one i bytes ≡ Err e

-- behind fewer than n values stand bytes that are no next value
record Stops {A E : Type 0} (R : A → List ℕ → Type 0) (bad : ℕ → List ℕ → E → Type 0) (i n : ℕ) (bytes : List ℕ) (e : E) : Type 0 where
  before : List A
  front : List ℕ
  rest : List ℕ
  joined : bytes ≡ front ++ rest
  before_are : SpellsMany R before front
  fewer : length before < n
  why : bad (i + length before) rest e

module _ {E A : Type 0} (one : ℕ → List ℕ → Result (A × List ℕ) E) (R : A → List ℕ → Type 0) (bad : ℕ → List ℕ → E → Type 0)
    (agrees : AgreesByNumber one R) (refused : RefusesByNumber one bad) where
  numbered_err : (i n : ℕ) (bytes : List ℕ) (e : E) → IsBytes bytes → numbered_at one i n bytes ≡ Err e → Stops R bad i n bytes e
  numbered_err i zero bytes e fits h = absurd cc
  numbered_err i (suc n) bytes e fits h =
      elim (bind_err (one i bytes) (λ x. made_of (λ xs. x.0 ∷ xs) (numbered_at one (suc i) n x.1)) e h) [
        | inl first ↦ (
            let number : i ≡ i + 0 = omega arith in
            record {
              before = [];
              front = [];
              rest = bytes;
              joined = refl;
              before_are = refl;
              fewer = omega arith;
              why = subst (λ (k : ℕ). bad k bytes e) number (refused.why i bytes e fits first);
            })
        | inr later ↦ (
            let took = (agrees i).takes bytes later.0.0 later.0.1 fits later.1 in
            let stops = numbered_err (suc i) n later.0.1 e took.fits (made_err (λ xs. later.0.0 ∷ xs) (numbered_at one (suc i) n later.0.1) e later.2) in
            let number : suc i + length stops.before ≡ i + suc (length stops.before) = omega arith in
            let less : suc (length stops.before) < suc n = omega (arith, stops.fewer) in
            record {
              before = later.0.0 ∷ stops.before;
              front = took.text ++ stops.front;
              rest = stops.rest;
              joined = took.joined ∙ ap (λ (t : List ℕ). took.text ++ t) stops.joined ∙ sym (append_assoc took.text stops.front stops.rest);
              before_are = record { front = took.text; back = stops.front; front_is = took.is; back_is = stops.before_are; joined = refl };
              fewer = less;
              why = subst (λ (k : ℕ). bad k stops.rest e) number stops.why;
            })
      ]

  numbered_stops : (i n : ℕ) (before : List A) (front rest : List ℕ) (e : E) → SpellsMany R before front → length before < n → bad (i + length before) rest e
      → numbered_at one i n (front ++ rest) ≡ Err e
  numbered_stops i zero before front rest e are fewer why = absurd (omega arith)
  numbered_stops i (suc n) [] front rest e are fewer why =
      let number : i + 0 ≡ i = omega arith in
      let first : one i rest ≡ Err e = refused.refuses i rest e (subst (λ (k : ℕ). bad k rest e) number why) in
      rw (are, first) refl
  numbered_stops i (suc n) (x ∷ before) front rest e are fewer why =
      let number : i + suc (length before) ≡ suc i + length before = omega arith in
      let less : length before < n = omega arith in
      let whole : front ++ rest ≡ are.front ++ (are.back ++ rest) = ap (λ (t : List ℕ). t ++ rest) are.joined ∙ append_assoc are.front are.back rest in
      let first : one i (are.front ++ (are.back ++ rest)) ≡ Ok (x, are.back ++ rest) = (agrees i).again x are.front (are.back ++ rest) are.front_is in
      let others : numbered_at one (suc i) n (are.back ++ rest) ≡ Err e =
      numbered_stops (suc i) n before are.back rest e are.back_is less (subst (λ (k : ℕ). bad k rest e) number why) in
      rw (whole, first, others) refl

  counted_err : (cut : E) (i : ℕ) (bytes : List ℕ) (e : E) → IsBytes bytes → counted_at cut one i bytes ≡ Err e → ((e ≡ cut) × (length bytes < 4)) ⊎ StopsAt R bad i bytes e
  counted_err cut i bytes e fits h =
      elim (bind_err (number_at cut 4 bytes) (λ n. numbered_at one i n.0 n.1) e h) [
        | inl short ↦ inl (word_err cut e bytes short)
        | inr later ↦ inr (
            let count = (number_agrees cut 4).takes bytes later.0.0 later.0.1 fits later.1 in
            let stops = numbered_err i later.0.0 later.0.1 e count.fits later.2 in
            record {
              count = later.0.0;
              before = stops.before;
              word = count.text;
              front = stops.front;
              rest = stops.rest;
              joined = count.joined ∙ ap (λ (t : List ℕ). count.text ++ t) stops.joined;
              count_is = count.is;
              before_are = stops.before_are;
              fewer = stops.fewer;
              why = stops.why;
            })
      ]

  counted_stops : (cut : E) (i : ℕ) (bytes : List ℕ) (e : E) → StopsAt R bad i bytes e → counted_at cut one i bytes ≡ Err e
  counted_stops cut i bytes e stops =
      let count : number_at cut 4 (stops.word ++ (stops.front ++ stops.rest)) ≡ Ok (stops.count, stops.front ++ stops.rest) =
      (number_agrees cut 4).again stops.count stops.word (stops.front ++ stops.rest) stops.count_is in
      ap (counted_at cut one i) stops.joined
      ∙ ap (λ (r : Result (ℕ × List ℕ) E). r >>= λ n. numbered_at one i n.0 n.1) count
      ∙ numbered_stops i stops.count stops.before stops.front stops.rest e stops.before_are stops.fewer stops.why

  -- ---- all of the bytes

  alone_err : (rest : E) (x : List A) (bytes : List ℕ) (e : E) → alone rest x bytes ≡ Err e → (e ≡ rest) × (0 < length bytes)
  alone_err rest x [] e h = absurd cc
  alone_err rest x (b ∷ bytes) e h = let same : e ≡ rest = cc in (same, omega arith)

  alone_more : (rest : E) (x : List A) (bytes : List ℕ) → 0 < length bytes → alone rest x bytes ≡ Err rest
  alone_more rest x [] more = absurd (omega arith)
  alone_more rest x (b ∷ bytes) more = refl

  pub refused_why : (cut rest : E) (i : ℕ) (bytes : List ℕ) (e : E) → IsBytes bytes → ended rest (counted_at cut one i bytes) ≡ Err e → RefusesCounted R bad cut rest i bytes e
  refused_why cut rest i bytes e fits h =
      elim (bind_err (counted_at cut one i bytes) (λ x. alone rest x.0 x.1) e h) [
        | inl inside ↦ elim (counted_err cut i bytes e fits inside) [ inl short ↦ inl short | inr stops ↦ inr (inl stops) ]
        | inr behind ↦ (
            let more = alone_err rest behind.0.0 behind.0.1 e behind.2 in
            let took = (counted_agrees cut one R agrees i).takes bytes behind.0.0 behind.0.1 fits behind.1 in
            inr (inr (more.0, record { values = behind.0.0; text = took.text; rest = behind.0.1; joined = took.joined; values_are = took.is; more = more.1 })))
      ]

  pub why_refused : (cut rest : E) (i : ℕ) (bytes : List ℕ) (e : E) → RefusesCounted R bad cut rest i bytes e → ended rest (counted_at cut one i bytes) ≡ Err e
  why_refused cut rest i bytes e (inl short) = rw (word_cut cut bytes short.1) (ap (λ (d : E). Err d) (sym short.0))
  why_refused cut rest i bytes e (inr (inl stops)) = rw (counted_stops cut i bytes e stops) refl
  why_refused cut rest i bytes e (inr (inr after)) =
      let read : counted_at cut one i bytes ≡ Ok (after.1.values, after.1.rest) =
      ap (counted_at cut one i) after.1.joined ∙ (counted_agrees cut one R agrees i).again after.1.values after.1.text after.1.rest after.1.values_are in
      rw read (alone_more rest after.1.values after.1.rest after.1.more ∙ ap (λ (d : E). Err d) (sym after.0))

  -- the refusal that a call answers has its reason, want of memory aside
  pub refusal : (memory cut rest : E) (i : ℕ) (bytes : List ℕ) (answer : Result (List A) E) → IsBytes bytes
      → GivesAll memory (λ x. x) answer (ended rest (counted_at cut one i bytes)) → IfErr answer (λ e. (e ≡ memory) ⊎ RefusesCounted R bad cut rest i bytes e)
  refusal memory cut rest i bytes (Ok x) fits gives = tt
  refusal memory cut rest i bytes (Err e) fits (inl none) = inl none
  refusal memory cut rest i bytes (Err e) fits (inr read) = inr (refused_why cut rest i bytes e fits read)

  -- ---- every list of bytes is decided

  each_of : (cut rest : E) (i : ℕ) (bytes : List ℕ) (r : Result (List A) E) → IsBytes bytes → ended rest (counted_at cut one i bytes) ≡ r
      → ((xs : List A) × SpellsCounted R xs bytes) ⊎ ((e : E) × RefusesCounted R bad cut rest i bytes e)
  each_of cut rest i bytes (Ok xs) fits read = inl (xs, ended_takes (counted_agrees cut one R agrees i) rest bytes xs fits read)
  each_of cut rest i bytes (Err e) fits read = inr (e, refused_why cut rest i bytes e fits read)

  not_both : (cut rest : E) (i : ℕ) (bytes : List ℕ) (xs : List A) (e : E) → SpellsCounted R xs bytes → RefusesCounted R bad cut rest i bytes e → ⊥
  not_both cut rest i bytes xs e spelled refuses =
      let read : ended rest (counted_at cut one i bytes) ≡ Ok xs = ended_again (counted_agrees cut one R agrees i) rest bytes xs spelled in
      let none : ended rest (counted_at cut one i bytes) ≡ Err e = why_refused cut rest i bytes e refuses in
      cc

  pub decided : (cut rest : E) (i : ℕ) → IsDecided (SpellsCounted R) (RefusesCounted R bad cut rest i)
  decided cut rest i = record {
    each = λ bytes fits. each_of cut rest i bytes (ended rest (counted_at cut one i bytes)) fits refl;
    one_value = λ bytes x y first second.
        let agreed = counted_agrees cut one R agrees i in
        ok_is {E = E} x y (sym (ended_again agreed rest bytes x first) ∙ ended_again agreed rest bytes y second);
    one_reason = λ bytes d e first second. err_is {A = List A} d e (sym (why_refused cut rest i bytes d first) ∙ why_refused cut rest i bytes e second);
    not_both = not_both cut rest i;
  }
