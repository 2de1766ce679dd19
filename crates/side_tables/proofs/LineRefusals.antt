-- Why a payload is refused as a table of lines.
use Rattle.std.proofs.Common.{◌≡◌, ◌≢◌, ◌⊎◌, ℕ, zero, suc, ◌+◌, ◌<◌, Bool, true, false, cond, leb, eqb, ltb, pos, ℤ, List, [], ◌∷◌, ◌++◌, length, Result, Ok, Err, refl, sym, ap, subst, ◌∙◌, zero-add, arith, inl, inr}
use Rattle.std.specs.Prelude.{◌↔◌}
use Rattle.std.proofs.lemmas.Bool.{leb-false, lt-leb, ne_eqb}
use Rattle.bk_codec.specs.Reading.{◌>>=◌, giving, made_of, number_at, bytes_at, many_at, alone}
use Rattle.bk_codec.specs.Spelling.{IsBytes, SpellsWord}
use Rattle.bk_codec.specs.Exact.{Begins}
use Rattle.bk_codec.proofs.Steps.{bind_err, made_err, err_is, guard_err}
use Rattle.bk_codec.proofs.Agreement.{Takes}
use Rattle.bk_codec.proofs.Refused.{word_err}
use Rattle.compact_term.specs.declared.operand.Plain.TheVariants.{I, A}
use Rattle.compact_term.specs.declared.operand.Operand.{Operand}
use Rattle.compact_term.specs.declared.operand.Operand.TheVariants.{One}
use Rattle.compact_term.specs.declared.refusal.OperandRefusal.{OperandRefusal}
use Rattle.compact_term.specs.declared.refusal.OperandRefusal.TheVariants as operand_refusals
use Rattle.compact_term.specs.Spelling.{Spells}
use Rattle.compact_term.specs.Reading.{operand_at}
use Rattle.compact_term.proofs.Operands.{operand_agrees}
use Rattle.side_tables.specs.declared.line_item.Item.{Item}
use Rattle.side_tables.specs.declared.line_item.Item.TheVariants as items
use Rattle.side_tables.specs.declared.line_reading.Header.{Header}
use Rattle.side_tables.specs.declared.lines.Lines.{Lines}
use Rattle.side_tables.specs.declared.refusal.SideRefusal.{SideRefusal}
use Rattle.side_tables.specs.declared.refusal.SideRefusal.TheVariants.{Version, ItemTag, FileIndex, Cut, Rest}
use Rattle.side_tables.specs.Words.{word_at, BeginsNonzero}
use Rattle.side_tables.specs.LineSpelling.{SpellsHeader}
use Rattle.side_tables.specs.LineReading.{why_no_item, operand_in, item_of, item_at, places_at, version_at, header_at, file_at, lines_at, lines_of}
use Rattle.side_tables.specs.LineRefusal.{LinesStopAt, IsNoItem, BeginsNoItem, other_operand, refused_operand, BeginsFarSwitch, LinesGoOn}
use Rattle.side_tables.proofs.LineItems.{refused_ok, refused_err}
use Rattle.side_tables.proofs.LineTables.{words_agree, words_of, header_agrees, table_of, lines_agree}
use Rattle.side_tables.proofs.LineStops.{Stops, places_stop, places_refused}

-- ---- what begins no item

begins_with : (o : Operand) (bytes rest : List ℕ) → Takes (Spells o) bytes rest → Begins (Spells o) bytes rest
begins_with o bytes rest took = record { text = took.text; is = took.is; joined = took.joined }

read_again : (o : Operand) (bytes rest : List ℕ) → Begins (Spells o) bytes rest → operand_at bytes ≡ Ok (o, rest)
read_again o bytes rest begin = ap operand_at begin.joined ∙ operand_agrees.again o begin.text rest begin.is

-- why item `item` is refused
data ItemErr (files item : ℕ) (bytes : List ℕ) (e : SideRefusal) : Type 0 where
  cut_item : e ≡ Cut → ItemErr files item bytes e
  wrong_item : e ≡ ItemTag item → BeginsNoItem bytes → ItemErr files item bytes e
  far_item : e ≡ FileIndex item → BeginsFarSwitch files bytes → ItemErr files item bytes e

operand_err : (files item : ℕ) (bytes : List ℕ) (d : OperandRefusal) (e : SideRefusal) → operand_at bytes ≡ Err d → why_no_item item d ≡ e → ItemErr files item bytes e
operand_err files item bytes operand_refusals.Cut e read is = cut_item (sym is)
operand_err files item bytes d e read is = wrong_item (sym is) (refused_operand d (λ same. cc) read)

far_switch : (b : Bool) (item n : ℕ) (e : SideRefusal) → cond b (Ok (items.File n)) (Err (FileIndex item)) ≡ Err e → (b ≡ false) × (FileIndex item ≡ e)
far_switch true item n e h = absurd cc
far_switch false item n e h = (refl, err_is {A = Item} (FileIndex item) e h)

operand_wrong : (files item : ℕ) (o : Operand) (bytes rest : List ℕ) (e : SideRefusal) → Begins (Spells o) bytes rest → item_of files item o ≡ Err e → ItemErr files item bytes e
operand_wrong files item (One (I (pos n))) bytes rest e begin h = absurd cc
operand_wrong files item (One (A n)) bytes rest e begin h =
    let far = far_switch (leb n files) item n e h in
    far_item (sym far.1) (record { file = n; rest = rest; above = leb-false n files far.0; begins = begin })
operand_wrong files item o bytes rest e begin h = wrong_item (sym (err_is {A = Item} (ItemTag item) e h)) (other_operand o rest tt begin)

item_err : (files item : ℕ) (bytes : List ℕ) (e : SideRefusal) → IsBytes bytes → item_at files item bytes ≡ Err e → ItemErr files item bytes e
unfolding item_at
item_err files item bytes e fits h =
    elim (bind_err (operand_in item bytes) (λ (o : Operand × List ℕ). item_of files item o.0 >>= λ x. giving x o.1) e h) [
      | inl one ↦ let why = refused_err item (operand_at bytes) e one in operand_err files item bytes why.0 e why.1 why.2
      | inr o ↦
          let took = operand_agrees.takes bytes o.0.0 o.0.1 fits (refused_ok item (operand_at bytes) o.0 o.1) in
          elim (bind_err (item_of files item o.0.0) (λ (x : Item). giving {E = SideRefusal} x o.0.1) e o.2) [
            | inl wrong ↦ operand_wrong files item o.0.0 bytes o.0.1 e (begins_with o.0.0 bytes o.0.1 took) wrong
            | inr none ↦ absurd (let never = none.2 in cc)
          ]
    ]

tag_of : (item : ℕ) (d : OperandRefusal) → d ≢ operand_refusals.Cut → why_no_item item d ≡ ItemTag item
tag_of item operand_refusals.Cut other = absurd (other refl)
tag_of item d other = refl

no_item_of : (files item : ℕ) (o : Operand) → IsNoItem o → item_of files item o ≡ Err (ItemTag item)
no_item_of files item (One (I (pos n))) none = absurd none
no_item_of files item (One (A n)) none = absurd none
no_item_of files item o none = refl

item_wrong : (files item : ℕ) (bytes : List ℕ) → BeginsNoItem bytes → item_at files item bytes ≡ Err (ItemTag item)
unfolding item_at
item_wrong files item bytes (other_operand o rest none begin) = rw (read_again o bytes rest begin, no_item_of files item o none) refl
item_wrong files item bytes (refused_operand d other read) = rw read (ap (λ (e : SideRefusal). Err e) (tag_of item d other))

item_far : (files item : ℕ) (bytes : List ℕ) → BeginsFarSwitch files bytes → item_at files item bytes ≡ Err (FileIndex item)
unfolding item_at
item_far files item bytes far = rw (read_again (One (A far.file)) bytes far.rest far.begins, lt-leb far.file files far.above) refl

-- ---- the words and the file names

word_then : {X : Type 0} (bytes : List ℕ) (k : ℕ × List ℕ → Result X SideRefusal) (e : SideRefusal) → ((x : ℕ × List ℕ) → k x ≡ Err e → e ≡ Cut) → (word_at bytes >>= k) ≡ Err e → e ≡ Cut
word_then bytes k e others h =
    elim (bind_err (word_at bytes) k e h) [
      | inl one ↦ (word_err Cut e bytes one).0
      | inr x ↦ others x.0 x.2
    ]

other_words : (bytes : List ℕ) (e : SideRefusal) → (word_at bytes >>= λ f. word_at f.1 >>= λ i. word_at i.1 >>= λ l. word_at l.1 >>= λ n. giving (words_of f.0 i.0 l.0 n.0) n.1) ≡ Err e → e ≡ Cut
other_words bytes e h =
    word_then bytes (λ f. word_at f.1 >>= λ i. word_at i.1 >>= λ l. word_at l.1 >>= λ n. giving (words_of f.0 i.0 l.0 n.0) n.1) e (λ f first.
    word_then f.1 (λ i. word_at i.1 >>= λ l. word_at l.1 >>= λ n. giving (words_of f.0 i.0 l.0 n.0) n.1) e (λ i second.
    word_then i.1 (λ l. word_at l.1 >>= λ n. giving (words_of f.0 i.0 l.0 n.0) n.1) e (λ l third.
    word_then l.1 (λ n. giving (words_of f.0 i.0 l.0 n.0) n.1) e (λ n fourth. absurd cc) third) second) first) h

other_version : (b : Bool) (n : ℕ) (rest : List ℕ) (e : SideRefusal) → cond b (giving n rest) (Err Version) ≡ Err e → (b ≡ false) × (Version ≡ e)
other_version true n rest e h = absurd cc
other_version false n rest e h = (refl, err_is {A = ℕ × List ℕ} Version e h)

begins_nonzero : (bytes rest : List ℕ) (first : ℕ) → Takes (SpellsWord first) bytes rest → eqb first 0 ≡ false → BeginsNonzero bytes
begins_nonzero bytes rest first took other = record {
  first = first;
  other = λ none. let same : eqb 0 0 ≡ false = subst (λ (n : ℕ). eqb n 0 ≡ false) none other in cc;
  spelled = record { front = took.text; back = rest; front_is = took.is; back_is = tt; joined = took.joined };
}

header_err : (bytes : List ℕ) (e : SideRefusal) → IsBytes bytes → header_at bytes ≡ Err e → (e ≡ Cut) ⊎ ((e ≡ Version) × BeginsNonzero bytes)
unfolding header_at
header_err bytes e fits h =
    elim (bind_err (version_at bytes) (λ (v : ℕ × List ℕ). word_at v.1 >>= λ f. word_at f.1 >>= λ i. word_at i.1 >>= λ l. word_at l.1 >>= λ n. giving (words_of f.0 i.0 l.0 n.0) n.1) e h) [
      | inl one ↦
          elim (bind_err (word_at bytes) (λ (v : ℕ × List ℕ). cond (eqb v.0 0) (giving v.0 v.1) (Err Version)) e one) [
            | inl short ↦ inl (word_err Cut e bytes short).0
            | inr v ↦
                let other = other_version (eqb v.0.0 0) v.0.0 v.0.1 e v.2 in
                inr (sym other.1, begins_nonzero bytes v.0.1 v.0.0 (words_agree.takes bytes v.0.0 v.0.1 fits v.1) other.0)
          ]
      | inr v ↦ inl (other_words v.0.1 e v.2)
    ]

name_err : (bytes : List ℕ) (e : SideRefusal) → file_at bytes ≡ Err e → e ≡ Cut
name_err bytes e h =
    elim (bind_err (number_at Cut 2 bytes) (λ (len : ℕ × List ℕ). bytes_at Cut len.0 len.1) e h) [
      | inl short ↦ sym (guard_err (ltb (length bytes) 2) Cut _ e short).1
      | inr len ↦ sym (guard_err (ltb (length len.0.1) len.0.0) Cut _ e len.2).1
    ]

names_err : (n : ℕ) (bytes : List ℕ) (e : SideRefusal) → many_at file_at n bytes ≡ Err e → e ≡ Cut
names_err zero bytes e h = absurd cc
names_err (suc n) bytes e h =
    elim (bind_err (file_at bytes) (λ (x : List ℕ × List ℕ). made_of (λ xs. x.0 ∷ xs) (many_at file_at n x.1)) e h) [
      | inl one ↦ name_err bytes e one
      | inr x ↦ names_err n x.0.1 e (made_err (λ xs. x.0.0 ∷ xs) (many_at file_at n x.0.1) e x.2)
    ]

-- ---- the table

-- why a payload is refused
data LineErr (bytes : List ℕ) (e : SideRefusal) : Type 0 where
  wrong_version : e ≡ Version → BeginsNonzero bytes → LineErr bytes e
  cut_table : e ≡ Cut → LineErr bytes e
  wrong_at : (item : ℕ) → e ≡ ItemTag item → LinesStopAt (λ files. BeginsNoItem) item bytes → LineErr bytes e
  far_at : (item : ℕ) → e ≡ FileIndex item → LinesStopAt BeginsFarSwitch item bytes → LineErr bytes e
  more_behind : e ≡ Rest → LinesGoOn bytes → LineErr bytes e

stop_at : (wrong : ℕ → List ℕ → Type 0) (h : Header) (bytes behind : List ℕ) (e : SideRefusal) → Takes (SpellsHeader h) bytes behind → (s : Stops h.files h.lines 0 behind e) → wrong h.files s.rest
    → LinesStopAt wrong (0 + length s.before) bytes
stop_at wrong h bytes behind e took s why = record {
  header = h;
  before = s.before;
  words = took.text;
  front = s.took.text;
  rest = s.rest;
  joined = took.joined ∙ ap (λ (t : List ℕ). took.text ++ t) s.took.joined;
  words_are = took.is;
  before_are = s.took.is;
  number = sym (zero-add (length s.before));
  fewer = s.fewer;
  why = why;
}

places_err : (h : Header) (bytes behind : List ℕ) (e : SideRefusal) → Takes (SpellsHeader h) bytes behind → Stops h.files h.lines 0 behind e → LineErr bytes e
places_err h bytes behind e took s =
    elim (item_err h.files (0 + length s.before) s.rest e s.took.fits s.refused) [
      | cut_item is ↦ cut_table is
      | wrong_item is why ↦ wrong_at (0 + length s.before) is (stop_at (λ files. BeginsNoItem) h bytes behind e took s why)
      | far_item is why ↦ far_at (0 + length s.before) is (stop_at BeginsFarSwitch h bytes behind e took s why)
    ]

alone_err : (l : Lines) (rest : List ℕ) (e : SideRefusal) → alone Rest l rest ≡ Err e → (e ≡ Rest) × (0 < length rest)
alone_err l [] e h = absurd cc
alone_err l (b ∷ rest) e h = (sym (err_is {A = Lines} Rest e h), omega arith)

inside_err : (bytes : List ℕ) (e : SideRefusal) → IsBytes bytes → lines_at bytes ≡ Err e → LineErr bytes e
unfolding lines_at
inside_err bytes e fits refused =
    elim (bind_err (header_at bytes) (λ (h : Header × List ℕ). places_at h.0.files h.0.lines 0 0 h.1 >>= λ ps. many_at file_at h.0.files ps.1 >>= λ ns. giving (table_of h.0 ps.0 ns.0) ns.1) e refused) [
      | inl one ↦ elim (header_err bytes e fits one) [
        | inl cut ↦ cut_table cut
        | inr version ↦ wrong_version version.0 version.1
      ]
      | inr h ↦
          let took = header_agrees.takes bytes h.0.0 h.0.1 fits h.1 in
          elim (bind_err (places_at h.0.0.files h.0.0.lines 0 0 h.0.1) (λ (ps : List (ℕ × ℤ) × List ℕ). many_at file_at h.0.0.files ps.1 >>= λ ns. giving (table_of h.0.0 ps.0 ns.0) ns.1) e h.2) [
            | inl stop ↦ places_err h.0.0 bytes h.0.1 e took (places_stop h.0.0.files h.0.0.lines 0 0 h.0.1 e took.fits stop)
            | inr ps ↦
                elim (bind_err (many_at file_at h.0.0.files ps.0.1) (λ (ns : List (List ℕ) × List ℕ). giving {E = SideRefusal} (table_of h.0.0 ps.0.0 ns.0) ns.1) e ps.2) [
                  | inl names ↦ cut_table (names_err h.0.0.files ps.0.1 e names)
                  | inr none ↦ absurd (let never = none.2 in cc)
                ]
          ]
    ]

lines_err : (bytes : List ℕ) (e : SideRefusal) → IsBytes bytes → lines_of bytes ≡ Err e → LineErr bytes e
lines_err bytes e fits h =
    elim (bind_err (lines_at bytes) (λ (l : Lines × List ℕ). alone Rest l.0 l.1) e h) [
      | inl inside ↦ inside_err bytes e fits inside
      | inr l ↦
          let more = alone_err l.0.0 l.0.1 e l.2 in
          let took = lines_agree.takes bytes l.0.0 l.0.1 fits l.1 in
          more_behind more.0 (record { lines = l.0.0; rest = l.0.1; begins = record { text = took.text; is = took.is; joined = took.joined }; more = more.1 })
    ]

-- ---- each refusal for its reason

version_refused : (bytes : List ℕ) → BeginsNonzero bytes → lines_of bytes ≡ Err Version
unfolding lines_at header_at
version_refused bytes is =
    let word : word_at bytes ≡ Ok (is.first, is.spelled.back) = ap word_at is.spelled.joined ∙ words_agree.again is.first is.spelled.front is.spelled.back is.spelled.front_is in
    rw (word, ne_eqb is.first 0 is.other) refl

stop_refused : (wrong : ℕ → List ℕ → Type 0) (item : ℕ) (bytes : List ℕ) (e : SideRefusal) (s : LinesStopAt wrong item bytes) → item_at s.header.files item s.rest ≡ Err e → lines_of bytes ≡ Err e
unfolding lines_at
stop_refused wrong item bytes e s refused =
    let header : header_at (s.words ++ (s.front ++ s.rest)) ≡ Ok (s.header, s.front ++ s.rest) = header_agrees.again s.header s.words (s.front ++ s.rest) s.words_are in
    let number : item ≡ 0 + length s.before = sym s.number ∙ sym (zero-add (length s.before)) in
    let places : places_at s.header.files s.header.lines 0 0 (s.front ++ s.rest) ≡ Err e =
    places_refused s.header.files s.header.lines 0 0 s.before s.front s.rest e s.before_are s.fewer (subst (λ (i : ℕ). item_at s.header.files i s.rest ≡ Err e) number refused) in
    rw (s.joined, header, places) refl

behind_refused : (l : Lines) (rest : List ℕ) → 0 < length rest → alone Rest l rest ≡ Err Rest
behind_refused l [] more = absurd (omega arith)
behind_refused l (b ∷ rest) more = refl

more_refused : (bytes : List ℕ) → LinesGoOn bytes → lines_of bytes ≡ Err Rest
more_refused bytes is =
    let read : lines_at bytes ≡ Ok (is.lines, is.rest) = ap lines_at is.begins.joined ∙ lines_agree.again is.lines is.begins.text is.rest is.begins.is in
    rw read (behind_refused is.lines is.rest is.more)

version_why : (bytes : List ℕ) → LineErr bytes Version → BeginsNonzero bytes
version_why bytes (wrong_version same is) = is
version_why bytes (cut_table same) = absurd cc
version_why bytes (wrong_at item same is) = absurd cc
version_why bytes (far_at item same is) = absurd cc
version_why bytes (more_behind same is) = absurd cc

tag_why : (bytes : List ℕ) (item : ℕ) → LineErr bytes (ItemTag item) → LinesStopAt (λ files. BeginsNoItem) item bytes
tag_why bytes item (wrong_version same is) = absurd cc
tag_why bytes item (cut_table same) = absurd cc
tag_why bytes item (wrong_at i same is) = let number : i ≡ item = cc in subst (λ (n : ℕ). LinesStopAt (λ files. BeginsNoItem) n bytes) number is
tag_why bytes item (far_at i same is) = absurd cc
tag_why bytes item (more_behind same is) = absurd cc

file_why : (bytes : List ℕ) (item : ℕ) → LineErr bytes (FileIndex item) → LinesStopAt BeginsFarSwitch item bytes
file_why bytes item (wrong_version same is) = absurd cc
file_why bytes item (cut_table same) = absurd cc
file_why bytes item (wrong_at i same is) = absurd cc
file_why bytes item (far_at i same is) = let number : i ≡ item = cc in subst (λ (n : ℕ). LinesStopAt BeginsFarSwitch n bytes) number is
file_why bytes item (more_behind same is) = absurd cc

more_why : (bytes : List ℕ) → LineErr bytes Rest → LinesGoOn bytes
more_why bytes (wrong_version same is) = absurd cc
more_why bytes (cut_table same) = absurd cc
more_why bytes (wrong_at item same is) = absurd cc
more_why bytes (far_at item same is) = absurd cc
more_why bytes (more_behind same is) = is

pub version_exact : (bytes : List ℕ) → IsBytes bytes → (lines_of bytes ≡ Err Version) ↔ BeginsNonzero bytes
version_exact bytes fits = (λ e. version_why bytes (lines_err bytes Version fits e), version_refused bytes)

pub tag_exact : (bytes : List ℕ) (item : ℕ) → IsBytes bytes → (lines_of bytes ≡ Err (ItemTag item)) ↔ LinesStopAt (λ files. BeginsNoItem) item bytes
tag_exact bytes item fits = (
  λ e. tag_why bytes item (lines_err bytes (ItemTag item) fits e),
  λ s. stop_refused (λ files. BeginsNoItem) item bytes (ItemTag item) s (item_wrong s.header.files item s.rest s.why),
)

pub file_exact : (bytes : List ℕ) (item : ℕ) → IsBytes bytes → (lines_of bytes ≡ Err (FileIndex item)) ↔ LinesStopAt BeginsFarSwitch item bytes
file_exact bytes item fits = (
  λ e. file_why bytes item (lines_err bytes (FileIndex item) fits e),
  λ s. stop_refused BeginsFarSwitch item bytes (FileIndex item) s (item_far s.header.files item s.rest s.why),
)

pub rest_exact : (bytes : List ℕ) → IsBytes bytes → (lines_of bytes ≡ Err Rest) ↔ LinesGoOn bytes
rest_exact bytes fits = (λ e. more_why bytes (lines_err bytes Rest fits e), more_refused bytes)
