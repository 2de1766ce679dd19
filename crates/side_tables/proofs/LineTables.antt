-- A table is read where it is spelled.
use Rattle.std.proofs.Common.{◌≡◌, ℕ, Bool, true, false, cond, eqb, ℤ, List, ◌++◌, length, Result, Ok, Err, refl, sym, ap, subst, ◌∙◌, append_assoc}
use Rattle.std.proofs.lemmas.Bool.{eqb-true}
use Rattle.bk_codec.specs.Reading.{◌>>=◌, giving, bytes_at, number_at, many_at}
use Rattle.bk_codec.specs.Spelling.{IsBytes, Then, SpellsMany, SpellsNumber, SpellsWord}
use Rattle.bk_codec.proofs.Steps.{bind_ok, ok_is}
use Rattle.bk_codec.proofs.Agreement.{Agrees, Takes, Takes-then, Takes-weaker, number_agrees, bytes_agree, many_agree}
use Rattle.bk_codec.proofs.Ended.{ended_again}
use Rattle.side_tables.specs.declared.lines.Lines.{Lines}
use Rattle.side_tables.specs.declared.line_reading.Header.{Header}
use Rattle.side_tables.specs.declared.refusal.SideRefusal.{SideRefusal}
use Rattle.side_tables.specs.declared.refusal.SideRefusal.TheVariants.{Version, Cut, Rest}
use Rattle.side_tables.specs.Words.{word_at}
use Rattle.side_tables.specs.LineSpelling.{SpellsPlaces, SpellsFileName, SpellsHeader, header_of, SpellsLines}
use Rattle.side_tables.specs.LineReading.{version_at, header_at, places_at, file_at, lines_at}
use Rattle.side_tables.proofs.LinePlaces.{places_take, places_again}

-- ---- file names

file_takes : (bytes name rest : List ℕ) → IsBytes bytes → file_at bytes ≡ Ok (name, rest) → Takes (SpellsFileName name) bytes rest
file_takes bytes name rest fits e =
    let len = bind_ok (number_at Cut 2 bytes) (λ (len : ℕ × List ℕ). bytes_at Cut len.0 len.1) (name, rest) e in
    let first = (number_agrees Cut 2).takes bytes len.0.0 len.0.1 fits len.1 in
    let second = (bytes_agree Cut len.0.0).takes len.0.1 name rest first.fits len.2 in
    let size : length name ≡ len.0.0 = second.is.1 in
    Takes-then (Takes-weaker (λ text is. subst (λ (n : ℕ). SpellsNumber 2 n text) (sym size) is) first) (Takes-weaker (λ text is. is.0) second)

file_again : (name text rest : List ℕ) → SpellsFileName name text → file_at (text ++ rest) ≡ Ok (name, rest)
file_again name text rest is =
    let whole : text ++ rest ≡ is.front ++ (is.back ++ rest) = ap (λ (t : List ℕ). t ++ rest) is.joined ∙ append_assoc is.front is.back rest in
    let len : number_at Cut 2 (is.front ++ (is.back ++ rest)) ≡ Ok (length name, is.back ++ rest) = (number_agrees Cut 2).again (length name) is.front (is.back ++ rest) is.front_is in
    let bytes : bytes_at Cut (length name) (is.back ++ rest) ≡ Ok (name, rest) = (bytes_agree Cut (length name)).again name is.back rest (is.back_is, refl) in
    ap file_at whole ∙ ap (λ (r : Result (ℕ × List ℕ) SideRefusal). r >>= λ n. bytes_at Cut n.0 n.1) len ∙ bytes

file_agrees : Agrees file_at SpellsFileName
file_agrees = record { takes = file_takes; again = file_again }

-- ---- words

pub words_agree : Agrees word_at SpellsWord
words_agree = number_agrees Cut 4

version_ok : (b : Bool) (n : ℕ) (rest : List ℕ) (x : ℕ × List ℕ) → cond b (giving n rest) (Err Version) ≡ Ok x → (b ≡ true) × ((n, rest) ≡ x)
version_ok true n rest x e = (refl, ok_is {E = SideRefusal} (n, rest) x e)
version_ok false n rest x e = absurd cc

version_takes : (bytes : List ℕ) (x : ℕ × List ℕ) → IsBytes bytes → version_at bytes ≡ Ok x → Takes (SpellsWord 0) bytes x.1
version_takes bytes x fits e =
    let v = bind_ok (word_at bytes) (λ (v : ℕ × List ℕ). cond (eqb v.0 0) (giving v.0 v.1) (Err Version)) x e in
    let g = version_ok (eqb v.0.0 0) v.0.0 v.0.1 x v.2 in
    let is : v.0.0 ≡ 0 = eqb-true v.0.0 0 g.0 in
    let took = words_agree.takes bytes v.0.0 v.0.1 fits v.1 in
    subst (λ (y : ℕ × List ℕ). Takes (SpellsWord 0) bytes y.1) g.1 (subst (λ (n : ℕ). Takes (SpellsWord n) bytes v.0.1) is took)

abbrev pub words_of : ℕ → ℕ → ℕ → ℕ → Header
words_of flags instructions lines files = record { flags = flags; instructions = instructions; lines = lines; files = files }

-- the words one after another
words_take : (flags instructions lines files : ℕ) (a b c d e f : List ℕ) → Takes (SpellsWord 0) a b → Takes (SpellsWord flags) b c → Takes (SpellsWord instructions) c d → Takes (SpellsWord lines) d e → Takes (SpellsWord files) e f
    → Takes (SpellsHeader (words_of flags instructions lines files)) a f
words_take flags instructions lines files a b c d e f version second third fourth fifth = Takes-then version (Takes-then second (Takes-then third (Takes-then fourth fifth)))

header_takes : (bytes : List ℕ) (h : Header) (rest : List ℕ) → IsBytes bytes → header_at bytes ≡ Ok (h, rest) → Takes (SpellsHeader h) bytes rest
unfolding header_at
header_takes bytes h rest fits e =
    let v = bind_ok (version_at bytes) (λ (v : ℕ × List ℕ). word_at v.1 >>= λ f. word_at f.1 >>= λ i. word_at i.1 >>= λ l. word_at l.1 >>= λ n. giving (words_of f.0 i.0 l.0 n.0) n.1) (h, rest) e in
    let f = bind_ok (word_at v.0.1) (λ (f : ℕ × List ℕ). word_at f.1 >>= λ i. word_at i.1 >>= λ l. word_at l.1 >>= λ n. giving (words_of f.0 i.0 l.0 n.0) n.1) (h, rest) v.2 in
    let i = bind_ok (word_at f.0.1) (λ (i : ℕ × List ℕ). word_at i.1 >>= λ l. word_at l.1 >>= λ n. giving (words_of f.0.0 i.0 l.0 n.0) n.1) (h, rest) f.2 in
    let l = bind_ok (word_at i.0.1) (λ (l : ℕ × List ℕ). word_at l.1 >>= λ n. giving (words_of f.0.0 i.0.0 l.0 n.0) n.1) (h, rest) i.2 in
    let n = bind_ok (word_at l.0.1) (λ (n : ℕ × List ℕ). giving (words_of f.0.0 i.0.0 l.0.0 n.0) n.1) (h, rest) l.2 in
    let version = version_takes bytes v.0 fits v.1 in
    let flags = words_agree.takes v.0.1 f.0.0 f.0.1 version.fits f.1 in
    let instructions = words_agree.takes f.0.1 i.0.0 i.0.1 flags.fits i.1 in
    let lines = words_agree.takes i.0.1 l.0.0 l.0.1 instructions.fits l.1 in
    let files = words_agree.takes l.0.1 n.0.0 n.0.1 lines.fits n.1 in
    let is : (words_of f.0.0 i.0.0 l.0.0 n.0.0, n.0.1) ≡ (h, rest) = ok_is {E = SideRefusal} (words_of f.0.0 i.0.0 l.0.0 n.0.0, n.0.1) (h, rest) n.2 in
    subst (λ (q : Header × List ℕ). Takes (SpellsHeader q.0) bytes q.1) {x = (words_of f.0.0 i.0.0 l.0.0 n.0.0, n.0.1)} {y = (h, rest)} is
    (words_take f.0.0 i.0.0 l.0.0 n.0.0 bytes v.0.1 f.0.1 i.0.1 l.0.1 n.0.1 version flags instructions lines files)

-- a word that is spelled in front of others
pub word_again : {Q : List ℕ → Type 0} (x : ℕ) (text rest : List ℕ) (t : Then (SpellsWord x) Q text) → word_at (text ++ rest) ≡ Ok (x, t.back ++ rest)
word_again x text rest t =
    ap word_at (ap (λ (u : List ℕ). u ++ rest) t.joined ∙ append_assoc t.front t.back rest) ∙ words_agree.again x t.front (t.back ++ rest) t.front_is

header_again : (h : Header) (text rest : List ℕ) → SpellsHeader h text → header_at (text ++ rest) ≡ Ok (h, rest)
unfolding header_at
header_again h text rest is =
    let last = is.back_is.back_is.back_is in
    rw (
      word_again 0 text rest is,
      word_again h.flags is.back rest is.back_is,
      word_again h.instructions is.back_is.back rest is.back_is.back_is,
      word_again h.lines is.back_is.back_is.back rest last,
      words_agree.again h.files last.back rest last.back_is,
    ) refl

pub header_agrees : Agrees header_at SpellsHeader
header_agrees = record { takes = header_takes; again = header_again }

-- ---- the table

abbrev pub table_of : Header → List (ℕ × ℤ) → List (List ℕ) → Lines
table_of h places names = record { flags = h.flags; instructions = h.instructions; lines = places; files = names }

-- with the counts that the words state
counted : (h : Header) (places : List (ℕ × ℤ)) (names : List (List ℕ)) (bytes behind after rest : List ℕ) → Takes (SpellsHeader h) bytes behind
    → (length places ≡ h.lines) × Takes (SpellsPlaces h.files 0 places) behind after → (length names ≡ h.files) × Takes (SpellsMany SpellsFileName names) after rest
    → Takes (SpellsLines (table_of h places names)) bytes rest
counted h places names bytes behind after rest header ps ns =
    let words : Takes (SpellsHeader (words_of h.flags h.instructions (length places) (length names))) bytes behind =
    subst (λ (n : ℕ). Takes (SpellsHeader (words_of h.flags h.instructions (length places) n)) bytes behind) (sym ns.0)
    (subst (λ (n : ℕ). Takes (SpellsHeader (words_of h.flags h.instructions n h.files)) bytes behind) (sym ps.0) header) in
    let spelled : Takes (SpellsPlaces (length names) 0 places) behind after = subst (λ (n : ℕ). Takes (SpellsPlaces n 0 places) behind after) (sym ns.0) ps.1 in
    Takes-then words (Takes-then spelled ns.1)

lines_take : (bytes : List ℕ) (l : Lines) (rest : List ℕ) → IsBytes bytes → lines_at bytes ≡ Ok (l, rest) → Takes (SpellsLines l) bytes rest
unfolding lines_at
lines_take bytes l rest fits e =
    let h = bind_ok (header_at bytes) (λ (h : Header × List ℕ). places_at h.0.files h.0.lines 0 0 h.1 >>= λ ps. many_at file_at h.0.files ps.1 >>= λ ns. giving (table_of h.0 ps.0 ns.0) ns.1) (l, rest) e in
    let ps = bind_ok (places_at h.0.0.files h.0.0.lines 0 0 h.0.1) (λ (ps : List (ℕ × ℤ) × List ℕ). many_at file_at h.0.0.files ps.1 >>= λ ns. giving (table_of h.0.0 ps.0 ns.0) ns.1) (l, rest) h.2 in
    let ns = bind_ok (many_at file_at h.0.0.files ps.0.1) (λ (ns : List (List ℕ) × List ℕ). giving (table_of h.0.0 ps.0.0 ns.0) ns.1) (l, rest) ps.2 in
    let header = header_takes bytes h.0.0 h.0.1 fits h.1 in
    let places = places_take h.0.0.files h.0.0.lines 0 0 h.0.1 ps.0.0 ps.0.1 header.fits ps.1 in
    let names = (many_agree file_agrees).takes h.0.0.files ps.0.1 ns.0.0 ns.0.1 places.1.fits ns.1 in
    subst (λ (q : Lines × List ℕ). Takes (SpellsLines q.0) bytes q.1) {x = (table_of h.0.0 ps.0.0 ns.0.0, ns.0.1)} {y = (l, rest)} (ok_is {E = SideRefusal} (table_of h.0.0 ps.0.0 ns.0.0, ns.0.1) (l, rest) ns.2)
    (counted h.0.0 ps.0.0 ns.0.0 bytes h.0.1 ps.0.1 ns.0.1 header places names)

lines_again : (l : Lines) (text rest : List ℕ) → SpellsLines l text → lines_at (text ++ rest) ≡ Ok (l, rest)
unfolding lines_at
lines_again l text rest is =
    let tail = is.back_is in
    let whole : text ++ rest ≡ is.front ++ (is.back ++ rest) = ap (λ (t : List ℕ). t ++ rest) is.joined ∙ append_assoc is.front is.back rest in
    let header : header_at (is.front ++ (is.back ++ rest)) ≡ Ok (header_of l, is.back ++ rest) = header_again (header_of l) is.front (is.back ++ rest) is.front_is in
    let behind : is.back ++ rest ≡ tail.front ++ (tail.back ++ rest) = ap (λ (t : List ℕ). t ++ rest) tail.joined ∙ append_assoc tail.front tail.back rest in
    let places : places_at (length l.files) (length l.lines) 0 0 (tail.front ++ (tail.back ++ rest)) ≡ Ok (l.lines, tail.back ++ rest) =
    places_again (length l.files) 0 0 l.lines tail.front (tail.back ++ rest) tail.front_is in
    let names : many_at file_at (length l.files) (tail.back ++ rest) ≡ Ok (l.files, rest) = (many_agree file_agrees).again l.files tail.back rest tail.back_is in
    rw (whole, header, behind, places, names) refl

pub lines_agree : Agrees lines_at SpellsLines
lines_agree = record { takes = lines_take; again = lines_again }

pub one_value : (bytes : List ℕ) (l m : Lines) → SpellsLines l bytes → SpellsLines m bytes → l ≡ m
one_value bytes l m first second = ok_is {E = SideRefusal} l m (sym (ended_again lines_agree Rest bytes l first) ∙ ended_again lines_agree Rest bytes m second)
