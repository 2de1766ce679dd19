-- A table of literals is read where it is spelled.
use Rattle.std.proofs.Common.{◌≡◌, ◌≢◌, ◌⊎◌, ℕ, Bool, false, cond, eqb, List, [], ◌∷◌, ◌++◌, length, Result, Ok, Err, refl, sym, ap, subst, ◌∙◌, append_assoc, arith, inl, inr}
use Rattle.std.specs.Prelude.{IfOk, Option, Some, None}
use Rattle.std.specs.Result.{result_ok}
use Rattle.std.proofs.lemmas.Bool.{eqb-true, ne_eqb}
use Rattle.bk_codec.specs.Reading.{◌>>=◌, made_of, bytes_at, many_at, ended, GivesAll}
use Rattle.bk_codec.specs.Spelling.{IsBytes, Then, SpellsMany, SpellsNumber, SpellsWord, SpellsCounted, SpellsBytes}
use Rattle.bk_codec.specs.Exact.{IsExact}
use Rattle.bk_codec.proofs.Exact.{exact_from}
use Rattle.bk_codec.proofs.Steps.{bind_ok, made_ok, ok_is, chosen}
use Rattle.bk_codec.proofs.Agreement.{Agrees, Takes, Takes-then, Takes-weaker, one_form, bytes_agree, many_agree, IsBytes-front, IsBytes-back}
use Rattle.bk_codec.proofs.Ended.{ended_takes, ended_again}
use Rattle.ext_term.specs.declared.term.Term.{Term}
use Rattle.ext_term.specs.declared.refusal.TermRefusal.{TermRefusal}
use Rattle.ext_term.specs.Reading.{term_of}
use Rattle.ext_term.proofs.Terms.{file_takes, file_again}
use Rattle.side_tables.specs.declared.literals.Literals.{Literals}
use Rattle.side_tables.specs.declared.literals.Literals.TheVariants.{Plain, Packed}
use Rattle.side_tables.specs.declared.refusal.SideRefusal.{SideRefusal}
use Rattle.side_tables.specs.declared.refusal.SideRefusal.TheVariants.{Cut, Rest, NoMemory}
use Rattle.side_tables.specs.Literal.{PlainLiteral}
use Rattle.side_tables.specs.LiteralSpelling.{IsTermOf, SpellsLiteral, SpellsLiterals}
use Rattle.side_tables.specs.Words.{word_at}
use Rattle.side_tables.specs.LiteralReading.{term_in, literal_of, sized_at, literal_at, literals_at, literals_of}
use Rattle.side_tables.proofs.LineTables.{words_agree, word_again}

-- ---- terms

some_ok : (r : Result Term TermRefusal) (t : Term) → result_ok r ≡ Some t → r ≡ Ok t
some_ok (Ok u) t e = let same : u ≡ t = cc in ap (λ (v : Term). Ok v) same
some_ok (Err d) t e = absurd cc

-- bytes have one term, or none
same_term : (bytes : List ℕ) (a b : Option Term) → IsTermOf bytes a → IsTermOf bytes b → a ≡ b
same_term bytes (Some t) b first second = sym ((second t).1 ((first t).0 refl))
same_term bytes None (Some t) first second = (first t).1 ((second t).0 refl)
same_term bytes None None first second = refl

-- the one that is read
term_read : (bytes : List ℕ) → IsBytes bytes → IsTermOf bytes (term_in bytes)
term_read bytes fits t = (λ e. file_takes bytes t fits (some_ok (term_of bytes) t e), λ is. ap result_ok (file_again t bytes is))

-- ---- a literal

-- the bytes of a literal that is read there
pub record SpellsRead (l : PlainLiteral) (text : List ℕ) : Type 0 where
  pub spelled : SpellsBytes 4 l.bytes text
  pub term_is : l.term ≡ term_in l.bytes

literal_takes : (bytes : List ℕ) (l : PlainLiteral) (rest : List ℕ) → IsBytes bytes → literal_at bytes ≡ Ok (l, rest) → Takes (SpellsRead l) bytes rest
literal_takes bytes l rest fits e =
    let s = made_ok literal_of (sized_at bytes) l rest e in
    let size = bind_ok (word_at bytes) (λ (size : ℕ × List ℕ). bytes_at Cut size.0 size.1) (s.0, rest) s.1 in
    let first = words_agree.takes bytes size.0.0 size.0.1 fits size.1 in
    let second = (bytes_agree Cut size.0.0).takes size.0.1 s.0 rest first.fits size.2 in
    let many : length s.0 ≡ size.0.0 = second.is.1 in
    let took : Takes (SpellsBytes 4 s.0) bytes rest =
    Takes-then (Takes-weaker (λ text is. subst (λ (n : ℕ). SpellsNumber 4 n text) (sym many) is) first) (Takes-weaker (λ text is. is.0) second) in
    subst (λ (m : PlainLiteral). Takes (SpellsRead m) bytes rest) s.2 (Takes-weaker (λ text is. record { spelled = is; term_is = refl }) took)

literal_again : (l : PlainLiteral) (text rest : List ℕ) → SpellsRead l text → literal_at (text ++ rest) ≡ Ok (l, rest)
literal_again l text rest is =
    let size : word_at (text ++ rest) ≡ Ok (length l.bytes, is.spelled.back ++ rest) = word_again (length l.bytes) text rest is.spelled in
    let bytes : bytes_at Cut (length l.bytes) (is.spelled.back ++ rest) ≡ Ok (l.bytes, rest) = (bytes_agree Cut (length l.bytes)).again l.bytes is.spelled.back rest (is.spelled.back_is, refl) in
    let whole : literal_of l.bytes ≡ l = ap (λ (t : Option Term). record { bytes = l.bytes; term = t }) (sym is.term_is) in
    ap (λ (r : Result (ℕ × List ℕ) SideRefusal). made_of literal_of (r >>= λ n. bytes_at Cut n.0 n.1)) size
    ∙ ap (made_of literal_of) bytes
    ∙ ap (λ (m : PlainLiteral). Ok (m, rest)) whole

literal_agrees : Agrees literal_at SpellsRead
literal_agrees = record { takes = literal_takes; again = literal_again }

-- its bytes are bytes
inside : (l : PlainLiteral) (text : List ℕ) → IsBytes text → SpellsBytes 4 l.bytes text → IsBytes l.bytes
inside l text fits is = subst IsBytes is.back_is (IsBytes-back is.front is.back (subst IsBytes is.joined fits))

read_spelled : (l : PlainLiteral) (text : List ℕ) → IsBytes text → SpellsRead l text → SpellsLiteral l text
read_spelled l text fits is =
    record { spelled = is.spelled; term_is = subst (IsTermOf l.bytes) (sym is.term_is) (term_read l.bytes (inside l text fits is.spelled)) }

spelled_read : (l : PlainLiteral) (text : List ℕ) → IsBytes text → SpellsLiteral l text → SpellsRead l text
spelled_read l text fits is =
    record { spelled = is.spelled; term_is = same_term l.bytes l.term (term_in l.bytes) is.term_is (term_read l.bytes (inside l text fits is.spelled)) }

-- ---- literals

SpellsMany-bytes : {A : Type 0} {P Q : A → List ℕ → Type 0} → ((x : A) (text : List ℕ) → IsBytes text → P x text → Q x text)
    → (xs : List A) (text : List ℕ) → IsBytes text → SpellsMany P xs text → SpellsMany Q xs text
SpellsMany-bytes f [] text fits is = is
SpellsMany-bytes f (x ∷ xs) text fits is =
    let both : IsBytes (is.front ++ is.back) = subst IsBytes is.joined fits in
    record {
      front = is.front;
      back = is.back;
      front_is = f x is.front (IsBytes-front is.front is.back both) is.front_is;
      back_is = SpellsMany-bytes f xs is.back (IsBytes-back is.front is.back both) is.back_is;
      joined = is.joined;
    }

literals_take : (bytes : List ℕ) (ls : List PlainLiteral) (rest : List ℕ) → IsBytes bytes → literals_at bytes ≡ Ok (ls, rest) → Takes (SpellsCounted SpellsRead ls) bytes rest
unfolding literals_at
literals_take bytes ls rest fits e =
    let count = bind_ok (word_at bytes) (λ (count : ℕ × List ℕ). many_at literal_at count.0 count.1) (ls, rest) e in
    let first = words_agree.takes bytes count.0.0 count.0.1 fits count.1 in
    let second = (many_agree literal_agrees).takes count.0.0 count.0.1 ls rest first.fits count.2 in
    Takes-then (subst (λ (n : ℕ). Takes (SpellsWord n) bytes count.0.1) (sym second.0) first) second.1

literals_again : (ls : List PlainLiteral) (text rest : List ℕ) → SpellsCounted SpellsRead ls text → literals_at (text ++ rest) ≡ Ok (ls, rest)
unfolding literals_at
literals_again ls text rest is =
    ap (λ (r : Result (ℕ × List ℕ) SideRefusal). r >>= λ n. many_at literal_at n.0 n.1) (word_again (length ls) text rest is)
    ∙ (many_agree literal_agrees).again ls is.back rest is.back_is

pub literals_agree : Agrees literals_at (SpellsCounted SpellsRead)
literals_agree = record { takes = literals_take; again = literals_again }

-- ---- the table

-- what stands behind the first word
abbrev behind : ℕ × List ℕ → Result Literals SideRefusal
behind first = cond (eqb first.0 0) (ended Rest (literals_at first.1) >>= λ ls. Ok (Plain ls)) (Ok Packed)

plain_take : (bytes after : List ℕ) (first : ℕ) (l : Literals) → Takes (SpellsWord first) bytes after → first ≡ 0 → (ended Rest (literals_at after) >>= λ ls. Ok (Plain ls)) ≡ Ok l → IsBytes bytes
    → SpellsLiterals l bytes
plain_take bytes after first l took none e fits =
    let ls = bind_ok (ended Rest (literals_at after)) (λ (ls : List PlainLiteral). Ok (Plain ls)) l e in
    let is : SpellsCounted SpellsRead ls.0 after = ended_takes literals_agree Rest after ls.0 took.fits ls.1 in
    let many : SpellsMany SpellsLiteral ls.0 is.back =
    SpellsMany-bytes read_spelled ls.0 is.back (IsBytes-back is.front is.back (subst IsBytes is.joined took.fits)) is.back_is in
    let counted : SpellsCounted SpellsLiteral ls.0 after = record { front = is.front; back = is.back; front_is = is.front_is; back_is = many; joined = is.joined } in
    subst (λ (m : Literals). SpellsLiterals m bytes) (ok_is {E = SideRefusal} (Plain ls.0) l ls.2)
    (record { front = took.text; back = after; front_is = subst (λ (n : ℕ). SpellsWord n took.text) none took.is; back_is = counted; joined = took.joined })

packed_take : (bytes after : List ℕ) (first : ℕ) (l : Literals) → Takes (SpellsWord first) bytes after → first ≢ 0 → Packed ≡ l → SpellsLiterals l bytes
packed_take bytes after first l took other is =
    subst (λ (m : Literals). SpellsLiterals m bytes) is
    (record { first = first; other = other; spelled = record { front = took.text; back = after; front_is = took.is; back_is = tt; joined = took.joined } })

table_takes : (bytes : List ℕ) (l : Literals) → IsBytes bytes → literals_of bytes ≡ Ok l → SpellsLiterals l bytes
unfolding literals_of
table_takes bytes l fits e =
    let first = bind_ok (word_at bytes) behind l e in
    let took = words_agree.takes bytes first.0.0 first.0.1 fits first.1 in
    elim (chosen (eqb first.0.0 0) (ended Rest (literals_at first.0.1) >>= λ ls. Ok (Plain ls)) (Ok Packed) (Ok l) first.2) [
      | inl none ↦ plain_take bytes first.0.1 first.0.0 l took (eqb-true first.0.0 0 none.0) none.1 fits
      | inr other ↦ packed_take bytes first.0.1 first.0.0 l took (λ is. let same : eqb 0 0 ≡ false = subst (λ (n : ℕ). eqb n 0 ≡ false) is other.0 in cc) (ok_is {E = SideRefusal} Packed l other.1)
    ]

-- the word in front
pub word_first : {Q : List ℕ → Type 0} (x : ℕ) (bytes : List ℕ) (is : Then (SpellsWord x) Q bytes) → word_at bytes ≡ Ok (x, is.back)
word_first x bytes is = ap word_at is.joined ∙ words_agree.again x is.front is.back is.front_is

table_again : (bytes : List ℕ) (l : Literals) → IsBytes bytes → SpellsLiterals l bytes → literals_of bytes ≡ Ok l
unfolding literals_of
table_again bytes (Plain ls) fits is =
    let after : IsBytes is.back = IsBytes-back is.front is.back (subst IsBytes is.joined fits) in
    let counted = is.back_is in
    let many : SpellsMany SpellsRead ls counted.back =
    SpellsMany-bytes spelled_read ls counted.back (IsBytes-back counted.front counted.back (subst IsBytes counted.joined after)) counted.back_is in
    let read : ended Rest (literals_at is.back) ≡ Ok ls =
    ended_again literals_agree Rest is.back ls (record { front = counted.front; back = counted.back; front_is = counted.front_is; back_is = many; joined = counted.joined }) in
    ap (λ (r : Result (ℕ × List ℕ) SideRefusal). r >>= behind) (word_first 0 bytes is)
    ∙ ap (λ (r : Result (List PlainLiteral) SideRefusal). r >>= λ ms. Ok (Plain ms)) read
table_again bytes Packed fits is =
    ap (λ (r : Result (ℕ × List ℕ) SideRefusal). r >>= behind) (word_first is.first bytes is.spelled)
    ∙ ap (λ (b : Bool). cond b (ended Rest (literals_at is.spelled.back) >>= λ ls. Ok (Plain ls)) (Ok Packed)) (ne_eqb is.first 0 is.other)

-- ---- the reading says the same

abbrev IsBytesOf : Literals → List ℕ → Type 0
IsBytesOf l bytes = IsBytes bytes × SpellsLiterals l bytes

pub literals_exact : IsExact literals_of SpellsLiterals
literals_exact =
    let exact : IsExact literals_of IsBytesOf = exact_from (λ bytes l fits e. (fits, table_takes bytes l fits e)) (λ bytes l is. table_again bytes l is.0 is.1) in
    record {
      accepted = λ bytes l fits. (λ e. ((exact.accepted bytes l fits).0 e).1, λ is. (exact.accepted bytes l fits).1 (fits, is));
      refused = λ bytes fits. (λ e l is. (exact.refused bytes fits).0 e l (fits, is), λ none. (exact.refused bytes fits).1 (λ l is. none l is.1));
    }

-- ---- what a call answers

pub found : (bytes : List ℕ) (answer : Result Literals SideRefusal) → IsBytes bytes → GivesAll NoMemory (λ l. l) answer (literals_of bytes) → IfOk answer (λ l. SpellsLiterals l bytes)
found bytes (Ok l) fits gives = table_takes bytes l fits gives
found bytes (Err e) fits gives = tt

pub only : (bytes : List ℕ) (answer : Result Literals SideRefusal) → IsBytes bytes → GivesAll NoMemory (λ l. l) answer (literals_of bytes)
    → (l : Literals) → SpellsLiterals l bytes → (answer ≡ Ok l) ⊎ (answer ≡ Err NoMemory)
only bytes (Ok m) fits gives l is = inl (ap (λ (n : Literals). Ok n) (ok_is {E = SideRefusal} m l (sym gives ∙ table_again bytes l fits is)))
only bytes (Err e) fits (inl none) l is = inr (ap (λ (d : SideRefusal). Err d) none)
only bytes (Err e) fits (inr refused) l is = let both : literals_of bytes ≡ Ok l = table_again bytes l fits is in absurd cc

-- ---- one value

same_bytes : (l m : PlainLiteral) → l.bytes ≡ m.bytes → IsTermOf l.bytes l.term → IsTermOf m.bytes m.term → l ≡ m
same_bytes l m same first second =
    let term : l.term ≡ m.term = same_term l.bytes l.term m.term first (subst (λ (s : List ℕ). IsTermOf s m.term) (sym same) second) in
    ap (λ (s : List ℕ). record { bytes = s; term = l.term }) same ∙ ap (λ (t : Option Term). record { bytes = m.bytes; term = t }) term

joined_before : {P Q : List ℕ → Type 0} {text : List ℕ} (rest : List ℕ) (t : Then P Q text) → text ++ rest ≡ t.front ++ (t.back ++ rest)
joined_before rest t = ap (λ (u : List ℕ). u ++ rest) t.joined ∙ append_assoc t.front t.back rest

-- literals that begin the same bytes are the same, and so are the bytes behind them
same_literal : (l m : PlainLiteral) (a b u v : List ℕ) → SpellsLiteral l a → SpellsLiteral m b → a ++ u ≡ b ++ v → (l ≡ m) × (u ≡ v)
same_literal l m a b u v first second e =
    let whole : first.spelled.front ++ (first.spelled.back ++ u) ≡ second.spelled.front ++ (second.spelled.back ++ v) =
    sym (joined_before u first.spelled) ∙ e ∙ joined_before v second.spelled in
    let size = one_form words_agree (length l.bytes) (length m.bytes) first.spelled.front second.spelled.front (first.spelled.back ++ u) (second.spelled.back ++ v)
    first.spelled.front_is second.spelled.front_is whole in
    let behind = one_form (bytes_agree Cut (length l.bytes)) l.bytes m.bytes first.spelled.back second.spelled.back u v
    (first.spelled.back_is, refl) (second.spelled.back_is, sym size.0) size.1 in
    (same_bytes l m behind.0 first.term_is second.term_is, behind.1)

same_many : (ls ms : List PlainLiteral) (a b : List ℕ) → length ls ≡ length ms → SpellsMany SpellsLiteral ls a → SpellsMany SpellsLiteral ms b → a ≡ b → ls ≡ ms
same_many [] [] a b many first second e = refl
same_many [] (m ∷ ms) a b many first second e = absurd cc
same_many (l ∷ ls) [] a b many first second e = absurd cc
same_many (l ∷ ls) (m ∷ ms) a b many first second e =
    let head = same_literal l m first.front second.front first.back second.back first.front_is second.front_is (sym first.joined ∙ e ∙ second.joined) in
    let tail : ls ≡ ms = same_many ls ms first.back second.back (omega arith) first.back_is second.back_is head.1 in
    ap (λ (k : PlainLiteral). k ∷ ls) head.0 ∙ ap (λ (ks : List PlainLiteral). m ∷ ks) tail

-- a word that begins bytes
same_word : {P Q : List ℕ → Type 0} (x y : ℕ) (a b : List ℕ) (first : Then (SpellsWord x) P a) (second : Then (SpellsWord y) Q b) → a ≡ b → (x ≡ y) × (first.back ≡ second.back)
same_word x y a b first second e =
    one_form words_agree x y first.front second.front first.back second.back first.front_is second.front_is (sym first.joined ∙ e ∙ second.joined)

pub one_value : (bytes : List ℕ) (l m : Literals) → SpellsLiterals l bytes → SpellsLiterals m bytes → l ≡ m
one_value bytes (Plain ls) (Plain ms) first second =
    let words = same_word 0 0 bytes bytes first second refl in
    let counts = same_word (length ls) (length ms) first.back second.back first.back_is second.back_is words.1 in
    let same : ls ≡ ms = same_many ls ms first.back_is.back second.back_is.back counts.0 first.back_is.back_is second.back_is.back_is counts.1 in
    ap (λ (ks : List PlainLiteral). Plain ks) same
one_value bytes (Plain ls) Packed first second = absurd (second.other (sym (same_word 0 second.first bytes bytes first second.spelled refl).0))
one_value bytes Packed (Plain ms) first second = absurd (first.other (same_word first.first 0 bytes bytes first.spelled second refl).0)
one_value bytes Packed Packed first second = refl
