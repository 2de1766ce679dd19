-- Literals are passed over, and then read and shown one at a time.
use Rattle.std.proofs.Common.{◌≡◌, ℕ, suc, ◌+◌, ◌-◌, ◌<◌, List, [], ◌∷◌, ◌++◌, Result, Ok, Err, refl, sym, ap, subst, ◌∙◌, append_assoc, arith, inl, inr}
use Rattle.bk_codec.specs.Reading.{◌>>=◌, giving, made_of, many_at, alone, ended, Fails}
use Rattle.bk_codec.proofs.Steps.{made_ok, made_err}
use Rattle.bk_text.specs.Lines.{numbered_lines}
use Rattle.side_tables.specs.declared.refusal.SideRefusal.{SideRefusal}
use Rattle.side_tables.specs.declared.refusal.SideRefusal.TheVariants.{Rest, NoMemory}
use Rattle.side_tables.specs.Literal.{PlainLiteral}
use Rattle.side_tables.specs.LiteralReading.{literal_of, sized_at, literal_at}
use Rattle.side_tables.specs.LiteralText.{literal_line}

abbrev Literals : Type 0
Literals = Result (List PlainLiteral × List ℕ) SideRefusal

-- ---- passing over

-- that literals take all of the bytes, or the refusal
abbrev pub passing : Literals → Result (Unit {0}) SideRefusal
passing read = ended Rest read >>= λ _. Ok tt

-- what is left is passed as all of it is
abbrev pub StillPasses : Literals → Literals → Type 0
StillPasses left whole = passing left ≡ passing whole

same_end : (ls ms : List PlainLiteral) (rest : List ℕ) → (alone Rest ls rest >>= λ _. Ok (tt {0})) ≡ (alone Rest ms rest >>= λ _. Ok (tt {0}))
same_end ls ms [] = refl
same_end ls ms (b ∷ rest) = refl

passed_front : (l : PlainLiteral) (read : Literals) → passing (made_of (λ ls. l ∷ ls) read) ≡ passing read
passed_front l (Ok q) = same_end (l ∷ q.0) q.0 q.1
passed_front l (Err e) = refl

-- one literal more was passed
pub passes_on : (n i : ℕ) (s rest after : List ℕ) (whole : Literals) → i < n → sized_at rest ≡ Ok (s, after)
    → StillPasses (many_at literal_at (n - i) rest) whole → StillPasses (many_at literal_at (n - (i + 1)) after) whole
passes_on n i s rest after whole lt read before =
    let count : n - i ≡ suc (n - (i + 1)) = omega arith in
    let step : many_at literal_at (n - i) rest ≡ made_of (λ ls. literal_of s ∷ ls) (many_at literal_at (n - (i + 1)) after) = rw (count, read) refl in
    sym (passed_front (literal_of s) (many_at literal_at (n - (i + 1)) after)) ∙ ap passing (sym step) ∙ before

-- ---- showing

-- the text with the lines of literals behind it, whose numbers go up from the first
abbrev pub text_with : List ℕ → ℕ → Literals → Result (List ℕ × List ℕ) SideRefusal
text_with text first read = made_of (λ ls. text ++ numbered_lines first literal_line ls) read

-- behind the new text stand the lines that are left, and that is all of them behind the old one
abbrev pub StillPuts : List ℕ → ℕ → ℕ → List ℕ → List ℕ → ℕ → List ℕ → Type 0
StillPuts new first left rest old count bytes = text_with new first (many_at literal_at left rest) ≡ text_with old 0 (many_at literal_at count bytes)

line_first : (text : List ℕ) (first : ℕ) (l : PlainLiteral) (read : Literals)
    → text_with text first (made_of (λ ls. l ∷ ls) read) ≡ text_with (text ++ literal_line first l) (first + 1) read
line_first text first l (Ok q) =
    ap (λ (t : List ℕ). giving {E = SideRefusal} t q.1) (sym (append_assoc text (literal_line first l) (numbered_lines (first + 1) literal_line q.0)))
line_first text first l (Err e) = refl

-- one line more was put
puts_one : (text : List ℕ) (n i : ℕ) (l : PlainLiteral) (rest after old bytes : List ℕ) → i < n → literal_at rest ≡ Ok (l, after)
    → StillPuts text i (n - i) rest old n bytes → StillPuts (text ++ literal_line i l) (i + 1) (n - (i + 1)) after old n bytes
puts_one text n i l rest after old bytes lt read before =
    let count : n - i ≡ suc (n - (i + 1)) = omega arith in
    let step : many_at literal_at (n - i) rest ≡ made_of (λ ls. l ∷ ls) (many_at literal_at (n - (i + 1)) after) = rw (count, read) refl in
    sym (line_first text i l (many_at literal_at (n - (i + 1)) after)) ∙ ap (text_with text i) (sym step) ∙ before

pub puts_on : (text new : List ℕ) (n i : ℕ) (rest after old bytes : List ℕ) → i < n → made_of (λ l. text ++ literal_line i l) (literal_at rest) ≡ giving new after
    → StillPuts text i (n - i) rest old n bytes → StillPuts new (i + 1) (n - (i + 1)) after old n bytes
puts_on text new n i rest after old bytes lt put before =
    let l = made_ok (λ (l : PlainLiteral). text ++ literal_line i l) (literal_at rest) new after put in
    subst (λ (t : List ℕ). StillPuts t (i + 1) (n - (i + 1)) after old n bytes) l.2 (puts_one text n i l.0 rest after old bytes lt l.1 before)

-- the next literal is refused
pub puts_none : (text : List ℕ) (n i : ℕ) (rest old bytes : List ℕ) (e : SideRefusal) → i < n → Fails NoMemory e (made_of (λ l. text ++ literal_line i l) (literal_at rest))
    → StillPuts text i (n - i) rest old n bytes → Fails NoMemory e (text_with old 0 (many_at literal_at n bytes))
puts_none text n i rest old bytes e lt (inl none) before = inl none
puts_none text n i rest old bytes e lt (inr put) before =
    let read : literal_at rest ≡ Err e = made_err (λ (l : PlainLiteral). text ++ literal_line i l) (literal_at rest) e put in
    let count : n - i ≡ suc (n - (i + 1)) = omega arith in
    let step : many_at literal_at (n - i) rest ≡ Err e = rw (count, read) refl in
    inr (sym before ∙ ap (text_with text i) step)
