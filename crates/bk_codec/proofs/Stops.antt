-- Where a reading of values one after another stops short.
use Rattle.std.proofs.Common.{◌≡◌, ℕ, zero, suc, ◌+◌, ◌<◌, ◌≤◌, List, [], ◌∷◌, ◌++◌, length, Result, Ok, Err, refl, sym, ap, ◌∙◌, append_assoc, arith, inl, inr, length-append}
use Rattle.bk_codec.specs.Reading.{◌>>=◌, made_of, many_at, all_at}
use Rattle.bk_codec.specs.Spelling.{IsBytes, SpellsMany}
use Rattle.bk_codec.proofs.Steps.{bind_err}
use Rattle.bk_codec.proofs.Agreement.{Agrees, Takes, one_form}

-- the bytes begin with values that are spelled there, and what is left is refused
pub record StopsAt {E A : Type 0} (p : List ℕ → Result (A × List ℕ) E) (R : A → List ℕ → Type 0) (bytes : List ℕ) (e : E) : Type 0 where
  pub front : List A
  pub text : List ℕ
  pub rest : List ℕ
  pub spelt : SpellsMany R front text
  pub joined : bytes ≡ text ++ rest
  pub refused : p rest ≡ Err e

abbrev stops_here : {E A : Type 0} (p : List ℕ → Result (A × List ℕ) E) (R : A → List ℕ → Type 0) (bytes : List ℕ) (e : E) → p bytes ≡ Err e → StopsAt p R bytes e
stops_here p R bytes e refused = record { front = []; text = []; rest = bytes; spelt = refl; joined = refl; refused = refused }

abbrev stops_later : {E A : Type 0} {p : List ℕ → Result (A × List ℕ) E} {R : A → List ℕ → Type 0} (x : A) (bytes after : List ℕ) (e : E) → Takes (R x) bytes after → StopsAt p R after e → StopsAt p R bytes e
stops_later x bytes after e took s = record {
  front = x ∷ s.front;
  text = took.text ++ s.text;
  rest = s.rest;
  spelt = record { front = took.text; back = s.text; front_is = took.is; back_is = s.spelt; joined = refl };
  joined = took.joined ∙ ap (λ (t : List ℕ). took.text ++ t) s.joined ∙ sym (append_assoc took.text s.text s.rest);
  refused = s.refused;
}

pub made_err : {E A B : Type 0} (f : A → B) (r : Result (A × List ℕ) E) (e : E) → made_of f r ≡ Err e → r ≡ Err e
made_err f (Ok x) e h = absurd cc
made_err f (Err d) e h = let same : d ≡ e = cc in ap (λ (z : _). Err z) same

-- as many values as a count says
pub many_stops : {E A : Type 0} (p : List ℕ → Result (A × List ℕ) E) (R : A → List ℕ → Type 0) → Agrees p R
    → (n : ℕ) (bytes : List ℕ) (e : E) → IsBytes bytes → many_at p n bytes ≡ Err e → (s : StopsAt p R bytes e) × (length s.front < n)
many_stops p R agrees zero bytes e fits h = absurd cc
many_stops {E} {A} p R agrees (suc n) bytes e fits h =
    elim (bind_err (p bytes) (λ (x : A × List ℕ). made_of (λ xs. x.0 ∷ xs) (many_at p n x.1)) e h) [
      | inl refused ↦ (stops_here p R bytes e refused, omega arith)
      | inr b ↦
          let took = agrees.takes bytes b.0.0 b.0.1 fits b.1 in
          let others = many_stops p R agrees n b.0.1 e took.fits (made_err (λ xs. b.0.0 ∷ xs) (many_at p n b.0.1) e b.2) in
          let fewer = others.1 in
          (stops_later b.0.0 bytes b.0.1 e took others.0, omega arith)
    ]

-- values up to the end of the bytes
pub all_stops : {E A : Type 0} (p : List ℕ → Result (A × List ℕ) E) (R : A → List ℕ → Type 0) → Agrees p R
    → (n : ℕ) (bytes : List ℕ) (e : E) → IsBytes bytes → all_at p n bytes ≡ Err e → (s : StopsAt p R bytes e) × (0 < length s.rest)
all_stops p R agrees n [] e fits h = absurd cc
all_stops p R agrees zero (b ∷ bytes) e fits h = absurd cc
all_stops {E} {A} p R agrees (suc n) (b ∷ bytes) e fits h =
    elim (bind_err (p (b ∷ bytes)) (λ (x : A × List ℕ). all_at p n x.1 >>= λ xs. Ok (x.0 ∷ xs)) e h) [
      | inl refused ↦ (stops_here p R (b ∷ bytes) e refused, omega arith)
      | inr first ↦
          let took = agrees.takes (b ∷ bytes) first.0.0 first.0.1 fits first.1 in
          elim (bind_err (all_at p n first.0.1) (λ (xs : List A). Ok (first.0.0 ∷ xs)) e first.2) [
            | inl refused ↦
                let others = all_stops p R agrees n first.0.1 e took.fits refused in
                (stops_later first.0.0 (b ∷ bytes) first.0.1 e took others.0, others.1)
            | inr none ↦ absurd (let never = none.2 in cc)
          ]
    ]

-- no more of the bytes are values one after another
pub longest : {E A : Type 0} (p : List ℕ → Result (A × List ℕ) E) (R : A → List ℕ → Type 0) → Agrees p R → (front others : List A) (text rest other more : List ℕ) (e : E)
    → SpellsMany R front text → p rest ≡ Err e → SpellsMany R others other → text ++ rest ≡ other ++ more → length other ≤ length text
longest p R agrees front [] text rest other more e is refused others same = let none : length other ≡ 0 = ap length others in omega arith
longest p R agrees [] (y ∷ ys) text rest other more e is refused others same =
    let left : rest ≡ others.front ++ (others.back ++ more) =
    ap (λ (t : List ℕ). t ++ rest) (sym is) ∙ same ∙ ap (λ (t : List ℕ). t ++ more) others.joined ∙ append_assoc others.front others.back more in
    let read : p rest ≡ Ok (y, others.back ++ more) = ap p left ∙ agrees.again y others.front (others.back ++ more) others.front_is in
    absurd cc
longest p R agrees (x ∷ xs) (y ∷ ys) text rest other more e is refused others same =
    let whole : is.front ++ (is.back ++ rest) ≡ others.front ++ (others.back ++ more) =
    sym (ap (λ (t : List ℕ). t ++ rest) is.joined ∙ append_assoc is.front is.back rest) ∙ same ∙ ap (λ (t : List ℕ). t ++ more) others.joined ∙ append_assoc others.front others.back more in
    let tails : is.back ++ rest ≡ others.back ++ more = (one_form agrees x y is.front others.front (is.back ++ rest) (others.back ++ more) is.front_is others.front_is whole).1 in
    let shorter : length others.back ≤ length is.back = longest p R agrees xs ys is.back rest others.back more e is.back_is refused others.back_is tails in
    let tail_lengths : length (is.back ++ rest) ≡ length (others.back ++ more) = ap length tails in
    let lengths : length (is.front ++ (is.back ++ rest)) ≡ length (others.front ++ (others.back ++ more)) = ap length whole in
    let text_length : length text ≡ length is.front + length is.back = ap length is.joined ∙ length-append is.front is.back in
    let other_length : length other ≡ length others.front + length others.back = ap length others.joined ∙ length-append others.front others.back in
    omega (arith, length-append is.front (is.back ++ rest), length-append others.front (others.back ++ more))
