-- Values whose lines grow by one where a line is read: each value is read from its lines, and where a line is refused no value goes on so.
use Rattle.std.proofs.Common.{◌≡◌, List, [], ◌∷◌, ◌++◌, Result, Ok, Err, refl, sym, ap, subst, ◌∙◌, append_assoc, append-nil}
use Rattle.bk_codec.specs.Reading.{◌>>=◌}
use Rattle.bk_codec.proofs.Steps.{bind_ok, bind_at_ok, ok_is}

-- the lines one after another, whose refusals have no numbers
abbrev pub through : {S L E : Type 0} → (S → L → Result S E) → S → List L → Result S E
through next s [] = Ok s
through next s (line ∷ lines) = next s line >>= λ t. through next t lines

-- some lines, and then others
pub through_more : {S L E : Type 0} (next : S → L → Result S E) (front back : List L) (s t : S) → through next s front ≡ Ok t → through next s (front ++ back) ≡ through next t back
through_more {E = E} next [] back s t e = ap (λ (u : _). through next u back) (ok_is {E = E} s t e)
through_more next (line ∷ front) back s t e =
    let first = bind_ok (next s line) (λ u. through next u front) t e in
    bind_at_ok (next s line) (λ u. through next u (front ++ back)) first.0 first.1 ∙ through_more next front back first.0 t first.2

-- nothing is read at the start, a line that is read adds itself, and the lines of each value are read
pub record Grows {V S L E : Type 0} (lines : V → List L) (Is : V → Type 0) (value : S → V) (start : S) (next : S → L → Result S E) : Type 0 where
  pub begins : Is (value start)
  pub blank : lines (value start) ≡ []
  pub step : (s : S) (line : L) (t : S) → Is (value s) → next s line ≡ Ok t → Is (value t) × (lines (value t) ≡ lines (value s) ++ line ∷ [])
  pub whole : (v : V) → Is v → (s : S) × (through next start (lines v) ≡ Ok s) × (value s ≡ v)

module _ {V S L E : Type 0} (lines : V → List L) (Is : V → Type 0) (value : S → V) (start : S) (next : S → L → Result S E) (grows : Grows lines Is value start next) where
  -- what is read on from a state has its lines, and then those that were read
  goes_on : (s t : S) (ls : List L) → Is (value s) → through next s ls ≡ Ok t → Is (value t) × (lines (value t) ≡ lines (value s) ++ ls)
  goes_on s t [] is e =
      let same = ok_is {E = E} s t e in
      (subst (λ (u : S). Is (value u)) same is, ap (λ (u : S). lines (value u)) (sym same) ∙ sym (append-nil (lines (value s))))
  goes_on s t (line ∷ ls) is e =
      let first = bind_ok (next s line) (λ u. through next u ls) t e in
      let one = grows.step s line first.0 is first.1 in
      let others = goes_on first.0 t ls one.0 first.2 in
      (others.0, others.1 ∙ ap (λ (xs : List L). xs ++ ls) one.1 ∙ append_assoc (lines (value s)) (line ∷ []) ls)

  -- what is read has just these lines
  pub read_found : (ls : List L) (s : S) → through next start ls ≡ Ok s → Is (value s) × (lines (value s) ≡ ls)
  read_found ls s e =
      let on = goes_on start s ls grows.begins e in
      (on.0, on.1 ∙ ap (λ (xs : List L). xs ++ ls) grows.blank)

  -- the lines of a value are read
  pub read_only : (v : V) (ls : List L) → Is v → lines v ≡ ls → (s : S) × (through next start ls ≡ Ok s) × (value s ≡ v)
  read_only v ls is same =
      let all = grows.whole v is in
      (all.0, ap (through next start) (sym same) ∙ all.1, all.2)

  -- two values with the same lines are one
  pub lines_unique : (v w : V) → Is v → Is w → lines v ≡ lines w → v ≡ w
  lines_unique v w one other same =
      let first = read_only v (lines w) one same in
      let second = read_only w (lines w) other refl in
      sym first.2 ∙ ap value (ok_is {E = E} first.0 second.0 (sym first.1 ∙ second.1)) ∙ second.2

  -- where a line is refused, these are the first lines of no value
  pub stops_there : (front : List L) (line : L) (s : S) (e : E) → through next start front ≡ Ok s → next s line ≡ Err e
      → (v : V) (others : List L) → Is v → lines v ≡ (front ++ line ∷ []) ++ others → ⊥
  stops_there front line s e before refused v others is same =
      let all = read_only v (front ++ line ∷ others) is (same ∙ append_assoc front (line ∷ []) others) in
      let rest : (next s line >>= λ u. through next u others) ≡ Ok all.0 = sym (through_more next front (line ∷ others) start s before) ∙ all.1 in
      let first = bind_ok (next s line) (λ u. through next u others) all.0 rest in
      cc
