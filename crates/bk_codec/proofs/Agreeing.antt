-- Readings that are put together agree with what their parts spell.
use Rattle.std.proofs.Common.{◌≡◌, ℕ, Bool, true, false, cond, List, ◌++◌, length, Result, Ok, Err, refl, sym, ap, subst, ◌∙◌, append_assoc}
use Rattle.bk_codec.specs.Reading.{◌>>=◌, giving, made_of, number_at, bytes_at, many_at}
use Rattle.bk_codec.specs.Spelling.{IsBytes, Then, SpellsMany, SpellsNumber, SpellsBytes}
use Rattle.bk_codec.proofs.Steps.{bind_ok, made_ok, ok_is}
use Rattle.bk_codec.proofs.Agreement.{Agrees, Takes, Takes-then, Takes-weaker, many_agree, number_agrees, bytes_agree}

-- the same spelling in other words
pub agrees_as : {E A : Type 0} {p : List ℕ → Result (A × List ℕ) E} {R S : A → List ℕ → Type 0}
    → Agrees p R → ((x : A) (text : List ℕ) → R x text → S x text) → ((x : A) (text : List ℕ) → S x text → R x text) → Agrees p S
agrees_as agrees to from = record {
  takes = λ bytes x rest fits e. Takes-weaker (to x) (agrees.takes bytes x rest fits e);
  again = λ x text rest is. agrees.again x text rest (from x text is);
}

-- a first step, and a second one at what it gives
abbrev pub Two : {A B : Type 0} → (A → List ℕ → Type 0) → (A → B → List ℕ → Type 0) → B → List ℕ → Type 0
Two {A} P Q y text = (x : A) × Then (P x) (Q x y) text

module _ {E A B : Type 0} (p : List ℕ → Result (A × List ℕ) E) (P : A → List ℕ → Type 0) (q : List ℕ → A → List ℕ → Result (B × List ℕ) E) (Q : A → B → List ℕ → Type 0)
    (first : Agrees p P) (second : (bytes : List ℕ) (x : A) → Agrees (q bytes x) (Q x)) where
  two_take : (bytes : List ℕ) (y : B) (rest : List ℕ) → IsBytes bytes → (p bytes >>= λ x. q bytes x.0 x.1) ≡ Ok (y, rest) → Takes (Two P Q y) bytes rest
  two_take bytes y rest fits e =
      let b = bind_ok (p bytes) (λ x. q bytes x.0 x.1) (y, rest) e in
      let front = first.takes bytes b.0.0 b.0.1 fits b.1 in
      let back = (second bytes b.0.0).takes b.0.1 y rest front.fits b.2 in
      Takes-weaker (λ text is. (b.0.0, is)) (Takes-then front back)

  two_again : (y : B) (text rest : List ℕ) → Two P Q y text → (p (text ++ rest) >>= λ x. q (text ++ rest) x.0 x.1) ≡ Ok (y, rest)
  two_again y text rest is =
      let whole : text ++ rest ≡ is.1.front ++ (is.1.back ++ rest) = ap (λ (t : List ℕ). t ++ rest) is.1.joined ∙ append_assoc is.1.front is.1.back rest in
      let front : p (text ++ rest) ≡ Ok (is.0, is.1.back ++ rest) = ap p whole ∙ first.again is.0 is.1.front (is.1.back ++ rest) is.1.front_is in
      let back : q (text ++ rest) is.0 (is.1.back ++ rest) ≡ Ok (y, rest) = (second (text ++ rest) is.0).again y is.1.back rest is.1.back_is in
      rw front back

  pub agrees_two : Agrees (λ bytes. p bytes >>= λ x. q bytes x.0 x.1) (Two P Q)
  agrees_two = record { takes = two_take; again = two_again }

-- a value that is made of what was read
abbrev pub Made : {A B : Type 0} → (A → B) → (A → List ℕ → Type 0) → B → List ℕ → Type 0
Made {A} f P y text = (x : A) × (f x ≡ y) × P x text

module _ {E A B : Type 0} (f : A → B) (p : List ℕ → Result (A × List ℕ) E) (P : A → List ℕ → Type 0) (agrees : Agrees p P) where
  made_take : (bytes : List ℕ) (y : B) (rest : List ℕ) → IsBytes bytes → made_of f (p bytes) ≡ Ok (y, rest) → Takes (Made f P y) bytes rest
  made_take bytes y rest fits e =
      let m = made_ok f (p bytes) y rest e in
      Takes-weaker (λ text is. (m.0, m.2, is)) (agrees.takes bytes m.0 rest fits m.1)

  made_again : (y : B) (text rest : List ℕ) → Made f P y text → made_of f (p (text ++ rest)) ≡ Ok (y, rest)
  made_again y text rest is =
      let read : p (text ++ rest) ≡ Ok (is.0, rest) = agrees.again is.0 text rest is.2 in
      rw (read, is.1) refl

  pub agrees_made : Agrees (λ bytes. made_of f (p bytes)) (Made f P)
  agrees_made = record { takes = made_take; again = made_again }

-- a test of what was read
module _ {E A : Type 0} (test : A → Bool) (d : E) (p : List ℕ → Result (A × List ℕ) E) (P : A → List ℕ → Type 0) (agrees : Agrees p P) where
  abbrev tested : A × List ℕ → Result (A × List ℕ) E
  tested x = cond (test x.0) (giving x.0 x.1) (Err d)

  tested_ok : (b : Bool) (x : A) (after : List ℕ) (y : A × List ℕ) → cond b (giving {E = E} x after) (Err d) ≡ Ok y → (b ≡ true) × ((x, after) ≡ y)
  tested_ok true x after y e = (refl, ok_is {E = E} (x, after) y e)
  tested_ok false x after y e = absurd cc

  test_take : (bytes : List ℕ) (y : A) (rest : List ℕ) → IsBytes bytes → (p bytes >>= λ x. cond (test x.0) (giving x.0 x.1) (Err d)) ≡ Ok (y, rest) → Takes (λ text. (test y ≡ true) × P y text) bytes rest
  test_take bytes y rest fits e =
      let b = bind_ok (p bytes) tested (y, rest) e in
      let t = tested_ok (test b.0.0) b.0.0 b.0.1 (y, rest) b.2 in
      let took : Takes (λ text. (test b.0.0 ≡ true) × P b.0.0 text) bytes b.0.1 = Takes-weaker (λ text is. (t.0, is)) (agrees.takes bytes b.0.0 b.0.1 fits b.1) in
      subst (λ (q : A × List ℕ). Takes (λ text. (test q.0 ≡ true) × P q.0 text) bytes q.1) t.1 took

  test_again : (y : A) (text rest : List ℕ) → (test y ≡ true) × P y text → (p (text ++ rest) >>= λ x. cond (test x.0) (giving x.0 x.1) (Err d)) ≡ Ok (y, rest)
  test_again y text rest is =
      let read : p (text ++ rest) ≡ Ok (y, rest) = agrees.again y text rest is.1 in
      rw (read, is.0) refl

  pub agrees_test : Agrees (λ bytes. p bytes >>= λ x. cond (test x.0) (giving x.0 x.1) (Err d)) (λ y text. (test y ≡ true) × P y text)
  agrees_test = record { takes = test_take; again = test_again }

-- as many values as a number says
pub agrees_many : {E A : Type 0} {p : List ℕ → Result (A × List ℕ) E} {R : A → List ℕ → Type 0} → Agrees p R → (n : ℕ) → Agrees (many_at p n) (λ xs text. (length xs ≡ n) × SpellsMany R xs text)
agrees_many {p = p} {R = R} agrees n = record {
  takes = λ bytes xs rest fits e. let m = (many_agree agrees).takes n bytes xs rest fits e in Takes-weaker (λ text is. (m.0, is)) m.1;
  again = λ xs text rest is. subst (λ (k : ℕ). many_at p k (text ++ rest) ≡ Ok (xs, rest)) is.0 ((many_agree agrees).again xs text rest is.1);
}

-- bytes, as many as a number of k bytes says
pub agrees_bytes : {E : Type 0} (cut : E) (k : ℕ) → Agrees (λ bytes. number_at cut k bytes >>= λ n. bytes_at cut n.0 n.1) (SpellsBytes k)
agrees_bytes cut k =
    agrees_as (agrees_two (number_at cut k) (SpellsNumber k) (λ bytes n. bytes_at cut n) (λ n s text. (text ≡ s) × (length s ≡ n)) (number_agrees cut k) (λ bytes n. bytes_agree cut n))
    (λ s text is. record {
      front = is.1.front;
      back = is.1.back;
      front_is = subst (λ (n : ℕ). SpellsNumber k n is.1.front) (sym is.1.back_is.1) is.1.front_is;
      back_is = is.1.back_is.0;
      joined = is.1.joined;
    })
    (λ s text is. (length s, record { front = is.front; back = is.back; front_is = is.front_is; back_is = (is.back_is, refl); joined = is.joined }))
