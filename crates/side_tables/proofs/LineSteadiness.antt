-- More bytes behind do not change what is read of lines.
use Rattle.std.proofs.Common.{◌≡◌, ℕ, zero, suc, ◌+◌, ◌≤◌, eqb, List, [], ◌∷◌, ◌++◌, length, Result, Ok, Err, refl, sym, ap, ◌∙◌, arith}
use Rattle.std.proofs.lemmas.List.{append-nil, length-append}
use Rattle.bk_codec.specs.Reading.{made_of}
use Rattle.bk_codec.specs.Exact.{RefusalsStand, FrontsAreCut}
use Rattle.bk_codec.proofs.Steps.{err_is}
use Rattle.bk_codec.proofs.Steady.{Steady, steady_none, steady_giving, steady_bytes, steady_number, steady_if, steady_made, steady_then, steady_step, steady_many, fronts_are_cut}
use Rattle.compact_term.specs.Reading.{operand_at}
use Rattle.compact_term.proofs.Steadiness.{operand_steady}
use Rattle.side_tables.specs.declared.line_item.Item.{Item}
use Rattle.side_tables.specs.declared.line_item.Item.TheVariants as items
use Rattle.side_tables.specs.declared.lines.Lines.{Lines}
use Rattle.side_tables.specs.declared.refusal.SideRefusal.{SideRefusal}
use Rattle.side_tables.specs.declared.refusal.SideRefusal.TheVariants.{Version, Cut}
use Rattle.side_tables.specs.Words.{word_at}
use Rattle.side_tables.specs.LineSpelling.{SpellsLines}
use Rattle.side_tables.specs.LineReading.{why_no_item, operand_in, item_of, item_at, Placed, placed, place_by, place_at, places_at, header_at, file_at, lines_at, lines_of}
use Rattle.side_tables.proofs.LineItems.{refused_ok, refused_err}
use Rattle.side_tables.proofs.LineTables.{lines_agree}
use Rattle.side_tables.proofs.Ends.{cut_or_other, ended_stands, ended_cut}

module _ (more : List ℕ) where
  -- ---- items

  operand_on : (item : ℕ) → Steady Cut more (operand_in item) (operand_in item)
  operand_on item = record {
    goes_on = λ bytes o rest h. rw ((operand_steady more).goes_on bytes o rest (refused_ok item (operand_at bytes) (o, rest) h)) refl;
    stands = λ bytes e h other.
        let why = refused_err item (operand_at bytes) e h in
        let read : operand_at (bytes ++ more) ≡ Err why.0 =
        (operand_steady more).stands bytes why.0 why.1 (λ same. other (sym why.2 ∙ ap (why_no_item item) same)) in
        rw read (ap (λ (d : SideRefusal). Err d) why.2);
  }

  item_steady : (files item : ℕ) → Steady Cut more (item_at files item) (item_at files item)
  unfolding item_at
  item_steady files item = steady_then Cut more (operand_on item) (λ o. steady_step Cut more (item_of files item o) (λ x. steady_giving Cut more x))

  -- ---- places

  -- where no item may follow, more of them may
  steady_cut : {A : Type 0} (q : List ℕ → Result (A × List ℕ) SideRefusal) → Steady Cut more (λ bytes. Err Cut) q
  steady_cut {A} q = record { goes_on = λ bytes x rest h. absurd cc; stands = λ bytes e h other. absurd (other (sym (err_is {A = A × List ℕ} Cut e h))) }

  place_by_steady : (p q : ℕ → ℕ → List ℕ → Result (Placed × List ℕ) SideRefusal) → ((file item : ℕ) → Steady Cut more (p file item) (q file item))
      → (file next : ℕ) (x : Item) → Steady Cut more (place_by p file next x) (place_by q file next x)
  place_by_steady p q others file next (items.Line line) = steady_giving Cut more (placed next (file, line))
  place_by_steady p q others file next (items.File n) = others n next

  place_steady : (files few many : ℕ) → few ≤ many → (file item : ℕ) → Steady Cut more (place_at files few file item) (place_at files many file item)
  place_steady files zero many le file item = steady_cut (place_at files many file item)
  place_steady files (suc few) zero le file item = absurd (omega arith)
  place_steady files (suc few) (suc many) le file item =
      steady_then Cut more {p = item_at files item} {q = item_at files item} {r = place_by (place_at files few) file (item + 1)} {s = place_by (place_at files many) file (item + 1)}
      (item_steady files item) (place_by_steady (place_at files few) (place_at files many) (place_steady files few many (omega arith)) file (item + 1))

  -- there are no more items than bytes, with more bytes behind them too
  whole_place_steady : (files file item : ℕ) → Steady Cut more (λ bytes. place_at files (length bytes) file item bytes) (λ bytes. place_at files (length bytes) file item bytes)
  whole_place_steady files file item = record {
    goes_on = λ bytes. (place_steady files (length bytes) (length (bytes ++ more)) (omega (arith, length-append bytes more)) file item).goes_on bytes;
    stands = λ bytes. (place_steady files (length bytes) (length (bytes ++ more)) (omega (arith, length-append bytes more)) file item).stands bytes;
  }

  places_steady : (files count file item : ℕ) → Steady Cut more (places_at files count file item) (places_at files count file item)
  places_steady files zero file item = steady_giving Cut more []
  places_steady files (suc count) file item =
      steady_then Cut more {p = λ bytes. place_at files (length bytes) file item bytes} {q = λ bytes. place_at files (length bytes) file item bytes}
      {r = λ p left. made_of (λ ps. p.place ∷ ps) (places_at files count p.place.0 p.next left)} {s = λ p left. made_of (λ ps. p.place ∷ ps) (places_at files count p.place.0 p.next left)}
      (whole_place_steady files file item) (λ p. steady_made Cut more (λ ps. p.place ∷ ps) (places_steady files count p.place.0 p.next))

  -- ---- the table

  word_steady : Steady Cut more word_at word_at
  word_steady = steady_number Cut more 4

  header_steady : Steady Cut more header_at header_at
  unfolding header_at
  header_steady =
      steady_then Cut more (steady_then Cut more word_steady (λ version. steady_if Cut more (eqb version 0) (steady_giving Cut more version) (steady_none Cut more Version))) (λ version.
      steady_then Cut more word_steady (λ flags. steady_then Cut more word_steady (λ instructions. steady_then Cut more word_steady (λ lines. steady_then Cut more word_steady (λ files.
      steady_giving Cut more (record { flags = flags; instructions = instructions; lines = lines; files = files }))))))

  file_steady : Steady Cut more file_at file_at
  file_steady = steady_then Cut more (steady_number Cut more 2) (λ len. steady_bytes Cut more len)

  pub lines_steady : Steady Cut more lines_at lines_at
  unfolding lines_at
  lines_steady =
      steady_then Cut more header_steady (λ h. steady_then Cut more (places_steady h.files h.lines 0 0) (λ places. steady_then Cut more (steady_many Cut more file_steady h.files) (λ names.
      steady_giving Cut more (record { flags = h.flags; instructions = h.instructions; lines = places; files = names }))))

-- ---- what follows

pub line_refusals_stand : RefusalsStand Cut lines_of
line_refusals_stand = ended_stands lines_at lines_steady

lines_whole : (l : Lines) (text : List ℕ) → SpellsLines l text → lines_at text ≡ Ok (l, [])
lines_whole l text is = ap lines_at (sym (append-nil text)) ∙ lines_agree.again l text [] is

pub line_fronts_are_cut : FrontsAreCut Cut lines_of SpellsLines
line_fronts_are_cut l front back is some = ended_cut (lines_at front) (fronts_are_cut Cut lines_at SpellsLines cut_or_other lines_steady lines_whole l front back is some)
