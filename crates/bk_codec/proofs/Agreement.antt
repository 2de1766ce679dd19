-- When a reading and a spelling agree, and what follows.
use Rattle.std.proofs.Common.{◌≡◌, ℕ, zero, suc, ◌+◌, ◌^◌, ◌<◌, ◌≤◌, false, ltb, List, [], ◌∷◌, ◌++◌, length, take, drop, Result, Ok, refl, sym, ap, subst, ◌∙◌, append_assoc, arith, inl, inr, length-append}
use Rattle.std.proofs.lemmas.Bool.{cases_lt, ltb-false, le-ltb}
use Rattle.std.proofs.lemmas.List.{take_at, drop_at, take-append-drop, length-take, get_or-drop, get_or-append-add, get_or_past}
use Rattle.std.proofs.Math.ListN.{get_or-append}
use Rattle.byteorder.specs.Endian.{big_number, big_bytes}
use Rattle.byteorder.specs.Numbers.{big_from-lt, big_number-reads_back, length-bytes_high_first}
use Rattle.bk_codec.specs.Reading.{giving, made_of, byte_at, bytes_at, number_at, many_at}
use Rattle.bk_codec.specs.Spelling.{IsBytes, Then, SpellsMany, SpellsNumber}
use Rattle.bk_codec.proofs.Numbers.{big_bytes-big_number}
use Rattle.bk_codec.proofs.Steps.{bind_ok, made_ok, ok_is, guard_ok}

-- ---- parts of bytes

pub IsBytes-drop : (n : ℕ) (bytes : List ℕ) → IsBytes bytes → IsBytes (drop n bytes)
IsBytes-drop n bytes fits i = rw get_or-drop (fits (n + i))

pub IsBytes-tail : (b : ℕ) (bytes : List ℕ) → IsBytes (b ∷ bytes) → IsBytes bytes
IsBytes-tail b bytes fits i = fits (suc i)

pub IsBytes-front : (front back : List ℕ) → IsBytes (front ++ back) → IsBytes front
IsBytes-front front back fits i =
    elim (cases_lt i (length front)) [
      | inl lt ↦ rw (← get_or-append front back 0 i lt) (fits i)
      | inr le ↦ rw (get_or_past front i 0 le) (omega arith)
    ]

pub IsBytes-back : (front back : List ℕ) → IsBytes (front ++ back) → IsBytes back
IsBytes-back front back fits i = rw (← get_or-append-add front back i 0) (fits (length front + i))

-- ---- what was read from the front

-- the bytes begin with a text of this kind, and the rest is behind it
pub record Takes (P : List ℕ → Type 0) (bytes rest : List ℕ) : Type 0 where
  pub text : List ℕ
  pub is : P text
  pub joined : bytes ≡ text ++ rest
  pub fits : IsBytes rest

pub Takes-then : {P Q : List ℕ → Type 0} {a b c : List ℕ} → Takes P a b → Takes Q b c → Takes (Then P Q) a c
Takes-then p q = record {
  text = p.text ++ q.text;
  is = record { front = p.text; back = q.text; front_is = p.is; back_is = q.is; joined = refl };
  joined = p.joined ∙ ap (λ (t : List ℕ). p.text ++ t) q.joined ∙ sym (append_assoc p.text q.text _);
  fits = q.fits;
}

pub Takes-weaker : {P Q : List ℕ → Type 0} {a b : List ℕ} → ((text : List ℕ) → P text → Q text) → Takes P a b → Takes Q a b
Takes-weaker f p = record { text = p.text; is = f p.text p.is; joined = p.joined; fits = p.fits }

-- ---- agreement

-- what is read is spelled there, and what is spelled is read, whatever follows
pub record Agrees {E A : Type 0} (p : List ℕ → Result (A × List ℕ) E) (R : A → List ℕ → Type 0) : Type 0 where
  pub takes : (bytes : List ℕ) (x : A) (rest : List ℕ) → IsBytes bytes → p bytes ≡ Ok (x, rest) → Takes (R x) bytes rest
  pub again : (x : A) (text rest : List ℕ) → R x text → p (text ++ rest) ≡ Ok (x, rest)

-- no spelling begins another, and each spells one value
pub one_form : {E A : Type 0} {p : List ℕ → Result (A × List ℕ) E} {R : A → List ℕ → Type 0} → Agrees p R
    → (x y : A) (a b u v : List ℕ) → R x a → R y b → a ++ u ≡ b ++ v → (x ≡ y) × (u ≡ v)
one_form {E} {A} {p} {R} agrees x y a b u v xa yb e =
    let first : p (a ++ u) ≡ Ok (x, u) = agrees.again x a u xa in
    let second : p (b ++ v) ≡ Ok (y, v) = agrees.again y b v yb in
    let same : (x, u) ≡ (y, v) = ok_is {E = E} (x, u) (y, v) (sym first ∙ ap p e ∙ second) in
    (ap (λ (q : A × List ℕ). q.0) same, ap (λ (q : A × List ℕ). q.1) same)

-- ---- many

many_takes : {E A : Type 0} (p : List ℕ → Result (A × List ℕ) E) (R : A → List ℕ → Type 0) → Agrees p R
    → (n : ℕ) (bytes : List ℕ) (xs : List A) (rest : List ℕ) → IsBytes bytes → many_at p n bytes ≡ Ok (xs, rest)
    → (length xs ≡ n) × Takes (SpellsMany R xs) bytes rest
many_takes p R agrees zero bytes xs rest fits e =
    let is = ok_is ([], bytes) (xs, rest) e in
    subst (λ (q : List _ × List ℕ). (length q.0 ≡ 0) × Takes (SpellsMany R q.0) bytes q.1) is (refl, record { text = []; is = refl; joined = refl; fits = fits })
many_takes p R agrees (suc n) bytes xs rest fits e =
    let b = bind_ok (p bytes) (λ x. made_of (λ ys. x.0 ∷ ys) (many_at p n x.1)) (xs, rest) e in
    let m = made_ok (λ ys. b.0.0 ∷ ys) (many_at p n b.0.1) xs rest b.2 in
    let first = agrees.takes bytes b.0.0 b.0.1 fits b.1 in
    let others = many_takes p R agrees n b.0.1 m.0 rest first.fits m.1 in
    subst (λ (ys : List _). (length ys ≡ suc n) × Takes (SpellsMany R ys) bytes rest) m.2 (ap suc others.0, Takes-then first others.1)

many_again : {E A : Type 0} (p : List ℕ → Result (A × List ℕ) E) (R : A → List ℕ → Type 0) → Agrees p R
    → (xs : List A) (text rest : List ℕ) → SpellsMany R xs text → many_at p (length xs) (text ++ rest) ≡ Ok (xs, rest)
many_again p R agrees [] text rest is = rw is refl
many_again p R agrees (x ∷ xs) text rest is =
    let whole : text ++ rest ≡ is.front ++ (is.back ++ rest) = ap (λ (t : List ℕ). t ++ rest) is.joined ∙ append_assoc is.front is.back rest in
    let first : p (is.front ++ (is.back ++ rest)) ≡ Ok (x, is.back ++ rest) = agrees.again x is.front (is.back ++ rest) is.front_is in
    let others : many_at p (length xs) (is.back ++ rest) ≡ Ok (xs, rest) = many_again p R agrees xs is.back rest is.back_is in
    rw (whole, first, others) refl

pub many_at-length : {E A : Type 0} (p : List ℕ → Result (A × List ℕ) E) (n : ℕ) (bytes : List ℕ) (xs : List A) (rest : List ℕ) → many_at p n bytes ≡ Ok (xs, rest) → length xs ≡ n
many_at-length {E} p zero bytes xs rest e = sym (ap (λ (q : List _ × List ℕ). length q.0) (ok_is {E = E} ([], bytes) (xs, rest) e))
many_at-length p (suc n) bytes xs rest e =
    let b = bind_ok (p bytes) (λ x. made_of (λ ys. x.0 ∷ ys) (many_at p n x.1)) (xs, rest) e in
    let m = made_ok (λ ys. b.0.0 ∷ ys) (many_at p n b.0.1) xs rest b.2 in
    let others : length m.0 ≡ n = many_at-length p n b.0.1 m.0 rest m.1 in
    sym (ap length m.2) ∙ ap suc others

-- as many values as a count says
pub record AgreesOnMany {E A : Type 0} (p : List ℕ → Result (A × List ℕ) E) (R : A → List ℕ → Type 0) : Type 0 where
  pub takes : (n : ℕ) (bytes : List ℕ) (xs : List A) (rest : List ℕ) → IsBytes bytes → many_at p n bytes ≡ Ok (xs, rest) → (length xs ≡ n) × Takes (SpellsMany R xs) bytes rest
  pub again : (xs : List A) (text rest : List ℕ) → SpellsMany R xs text → many_at p (length xs) (text ++ rest) ≡ Ok (xs, rest)

pub many_agree : {E A : Type 0} {p : List ℕ → Result (A × List ℕ) E} {R : A → List ℕ → Type 0} → Agrees p R → AgreesOnMany p R
many_agree {E} {A} {p} {R} agrees = record { takes = many_takes p R agrees; again = many_again p R agrees }

-- ---- fields

byte_takes : {E : Type 0} (cut : E) (bytes : List ℕ) (b : ℕ) (rest : List ℕ) → IsBytes bytes → byte_at cut bytes ≡ Ok (b, rest) → Takes (λ text. text ≡ b ∷ []) bytes rest
byte_takes cut [] b rest fits e = absurd cc
byte_takes cut (c ∷ bytes) b rest fits e =
    let is = ok_is (c, bytes) (b, rest) e in
    subst (λ (q : ℕ × List ℕ). Takes (λ text. text ≡ q.0 ∷ []) (c ∷ bytes) q.1) is (record { text = c ∷ []; is = refl; joined = refl; fits = IsBytes-tail c bytes fits })

pub byte_agrees : {E : Type 0} (cut : E) → Agrees (byte_at cut) (λ b text. text ≡ b ∷ [])
byte_agrees cut = record {
  takes = byte_takes cut;
  again = λ x text rest is. rw is refl;
}

-- n bytes as they are
bytes_take : {E : Type 0} (cut : E) (n : ℕ) (bytes s rest : List ℕ) → IsBytes bytes → bytes_at cut n bytes ≡ Ok (s, rest) → Takes (λ text. (text ≡ s) × (length s ≡ n)) bytes rest
bytes_take {E} cut n bytes s rest fits e =
    let g = guard_ok (ltb (length bytes) n) cut (giving (take n bytes) (drop n bytes)) (s, rest) e in
    let long : n ≤ length bytes = ltb-false _ _ g.0 in
    let whole : Takes (λ text. (text ≡ take n bytes) × (length (take n bytes) ≡ n)) bytes (drop n bytes) =
    record { text = take n bytes; is = (refl, omega (arith, length-take n bytes)); joined = sym (take-append-drop n bytes); fits = IsBytes-drop n bytes fits } in
    subst (λ (q : List ℕ × List ℕ). Takes (λ text. (text ≡ q.0) × (length q.0 ≡ n)) bytes q.1) (ok_is {E = E} _ _ g.1) whole

bytes_again : {E : Type 0} (cut : E) (s rest : List ℕ) → bytes_at cut (length s) (s ++ rest) ≡ Ok (s, rest)
bytes_again cut s rest =
    let long : ltb (length (s ++ rest)) (length s) ≡ false = le-ltb _ _ (omega (arith, length-append s rest)) in
    rw (long, take_at s rest (length s) refl, drop_at s rest (length s) refl) refl

pub bytes_agree : {E : Type 0} (cut : E) (n : ℕ) → Agrees (bytes_at cut n) (λ s text. (text ≡ s) × (length s ≡ n))
bytes_agree {E} cut n = record {
  takes = bytes_take cut n;
  again = λ s text rest is. subst (λ (m : ℕ). bytes_at cut m (text ++ rest) ≡ Ok (s, rest)) is.1 (rw is.0 (bytes_again cut s rest));
}

-- a number in n bytes
number_takes : {E : Type 0} (cut : E) (n : ℕ) (bytes : List ℕ) (x : ℕ) (rest : List ℕ) → IsBytes bytes → number_at cut n bytes ≡ Ok (x, rest) → Takes (SpellsNumber n x) bytes rest
number_takes {E} cut n bytes x rest fits e =
    let g = guard_ok (ltb (length bytes) n) cut (giving (big_number n bytes) (drop n bytes)) (x, rest) e in
    let long : n ≤ length bytes = ltb-false _ _ g.0 in
    let number : SpellsNumber n (big_number n bytes) (take n bytes) = record { fits = big_from-lt 0 n bytes fits; is = sym (big_bytes-big_number n bytes long fits) } in
    let whole : Takes (SpellsNumber n (big_number n bytes)) bytes (drop n bytes) =
    record { text = take n bytes; is = number; joined = sym (take-append-drop n bytes); fits = IsBytes-drop n bytes fits } in
    subst (λ (q : ℕ × List ℕ). Takes (SpellsNumber n q.0) bytes q.1) (ok_is {E = E} _ _ g.1) whole

number_again : {E : Type 0} (cut : E) (n x : ℕ) (rest : List ℕ) → x < 256 ^ n → number_at cut n (big_bytes n x ++ rest) ≡ Ok (x, rest)
number_again cut n x rest fits =
    let len : length (big_bytes n x) ≡ n = length-bytes_high_first n x in
    let long : ltb (length (big_bytes n x ++ rest)) n ≡ false = le-ltb _ _ (omega (arith, length-append (big_bytes n x) rest)) in
    let value : big_number n (big_bytes n x ++ rest) ≡ x = big_number-reads_back n x rest fits in
    rw (long, value, drop_at (big_bytes n x) rest n len) refl

pub number_agrees : {E : Type 0} (cut : E) (n : ℕ) → Agrees (number_at cut n) (SpellsNumber n)
number_agrees cut n = record {
  takes = number_takes cut n;
  again = λ x text rest is. rw is.is (number_again cut n x rest is.fits);
}
