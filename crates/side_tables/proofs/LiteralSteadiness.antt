-- More bytes behind do not change what is read of literals.
use Rattle.std.proofs.Common.{◌≡◌, ◌≢◌, ℕ, Bool, true, false, cond, eqb, List, [], ◌∷◌, ◌++◌, map, Result, Ok, Err, refl, sym, ap, subst, ◌∙◌, inl, inr}
use Rattle.std.proofs.lemmas.List.{append-nil, length-map}
use Rattle.bk_codec.specs.Reading.{◌>>=◌, ended}
use Rattle.bk_codec.specs.Spelling.{SpellsMany, SpellsWord, SpellsCounted}
use Rattle.bk_codec.specs.Exact.{RefusalsStand, FrontsAreCut}
use Rattle.bk_codec.proofs.Steps.{bind_err, ok_is}
use Rattle.bk_codec.proofs.Steady.{Steady, steady_bytes, steady_number, steady_made, steady_then, steady_many, fronts_are_cut}
use Rattle.side_tables.specs.declared.literals.Literals.{Literals}
use Rattle.side_tables.specs.declared.literals.Literals.TheVariants.{Plain, Packed}
use Rattle.side_tables.specs.declared.refusal.SideRefusal.{SideRefusal}
use Rattle.side_tables.specs.declared.refusal.SideRefusal.TheVariants.{Cut, Rest}
use Rattle.side_tables.specs.Words.{word_at}
use Rattle.side_tables.specs.Literal.{PlainLiteral}
use Rattle.side_tables.specs.LiteralReading.{literal_of, literal_at, literals_at, literals_of}
use Rattle.side_tables.specs.LiteralSpelling.{SpellsLiteral, SpellsPlain}
use Rattle.side_tables.proofs.LiteralTables.{SpellsRead, literals_agree, word_first}
use Rattle.side_tables.proofs.Ends.{cut_or_other, ended_stands}

module _ (more : List ℕ) where
  word_steady : Steady Cut more word_at word_at
  word_steady = steady_number Cut more 4

  literal_steady : Steady Cut more literal_at literal_at
  literal_steady = steady_made Cut more literal_of (steady_then Cut more word_steady (λ size. steady_bytes Cut more size))

  pub literals_steady : Steady Cut more literals_at literals_at
  unfolding literals_at
  literals_steady = steady_then Cut more word_steady (λ count. steady_many Cut more literal_steady count)

-- ---- what follows

-- what stands behind the first word
abbrev behind : ℕ × List ℕ → Result Literals SideRefusal
behind first = cond (eqb first.0 0) (ended Rest (literals_at first.1) >>= λ ls. Ok (Plain ls)) (Ok Packed)

plain_stands : (r s : Result (List PlainLiteral) SideRefusal) (e : SideRefusal) → ((d : SideRefusal) → r ≡ Err d → d ≢ Cut → s ≡ Err d) → (r >>= λ ls. Ok (Plain ls)) ≡ Err e → e ≢ Cut
    → (s >>= λ ls. Ok (Plain ls)) ≡ Err e
plain_stands r s e stands h other =
    elim (bind_err r (λ (ls : List PlainLiteral). Ok (Plain ls)) e h) [
      | inl one ↦ let read : s ≡ Err e = stands e one other in rw read refl
      | inr two ↦ absurd (let none = two.2 in cc)
    ]

behind_stands : (b : Bool) (bytes more : List ℕ) (e : SideRefusal) → cond b (ended Rest (literals_at bytes) >>= λ ls. Ok (Plain ls)) (Ok Packed) ≡ Err e → e ≢ Cut
    → cond b (ended Rest (literals_at (bytes ++ more)) >>= λ ls. Ok (Plain ls)) (Ok Packed) ≡ Err e
behind_stands true bytes more e h other =
    plain_stands (ended Rest (literals_at bytes)) (ended Rest (literals_at (bytes ++ more))) e (λ d read differs. ended_stands literals_at literals_steady bytes more d read differs) h other
behind_stands false bytes more e h other = absurd cc

pub literal_refusals_stand : RefusalsStand Cut literals_of
unfolding literals_of
literal_refusals_stand bytes more e h other =
    elim (bind_err (word_at bytes) behind e h) [
      | inl one ↦ let read : word_at (bytes ++ more) ≡ Err e = (word_steady more).stands bytes e one other in rw read refl
      | inr two ↦
          let read : word_at (bytes ++ more) ≡ Ok (two.0.0, two.0.1 ++ more) = (word_steady more).goes_on bytes two.0.0 two.0.1 two.1 in
          rw read (behind_stands (eqb two.0.0 0) two.0.1 more e two.2 other)
    ]

-- ---- fronts of plain tables

-- a word and literals, whatever the word is
abbrev plain_at : List ℕ → Result (List PlainLiteral × List ℕ) SideRefusal
plain_at bytes = word_at bytes >>= λ first. literals_at first.1

plain_steady : (more : List ℕ) → Steady Cut more plain_at plain_at
plain_steady more = steady_then Cut more (word_steady more) (λ first. literals_steady more)

-- the literals as they are read: with the terms that are read
abbrev as_read : List PlainLiteral → List PlainLiteral
as_read ls = map (λ l. literal_of l.bytes) ls

many_read : (ls : List PlainLiteral) (text : List ℕ) → SpellsMany SpellsLiteral ls text → SpellsMany SpellsRead (as_read ls) text
many_read [] text is = is
many_read (l ∷ ls) text is = record {
  front = is.front;
  back = is.back;
  front_is = record { spelled = is.front_is.spelled; term_is = refl };
  back_is = many_read ls is.back is.back_is;
  joined = is.joined;
}

plain_whole : (ls : List PlainLiteral) (text : List ℕ) → SpellsPlain ls text → plain_at text ≡ Ok (as_read ls, [])
plain_whole ls text is =
    let counted = is.back_is in
    let read : SpellsCounted SpellsRead (as_read ls) is.back = record {
      front = counted.front;
      back = counted.back;
      front_is = subst (λ (n : ℕ). SpellsWord n counted.front) (sym (length-map ls (λ (l : PlainLiteral). literal_of l.bytes))) counted.front_is;
      back_is = many_read ls counted.back counted.back_is;
      joined = counted.joined;
    } in
    ap (λ (r : Result (ℕ × List ℕ) SideRefusal). r >>= λ first. literals_at first.1) (word_first 0 text is)
    ∙ ap literals_at (sym (append-nil is.back))
    ∙ literals_agree.again (as_read ls) is.back [] read

behind_none : (first : ℕ) (bytes : List ℕ) → first ≡ 0 → literals_at bytes ≡ Err Cut → behind (first, bytes) ≡ Err Cut
behind_none first bytes none cut = rw (none, cut) refl

pub literal_fronts_are_cut : FrontsAreCut Cut literals_of SpellsPlain
unfolding literals_of
literal_fronts_are_cut ls front back is some =
    let cut : plain_at front ≡ Err Cut =
    fronts_are_cut Cut plain_at (λ ms text. plain_at text ≡ Ok (ms, [])) cut_or_other plain_steady (λ ms text read. read) (as_read ls) front back (plain_whole ls (front ++ back) is) some in
    elim (bind_err (word_at front) (λ (first : ℕ × List ℕ). literals_at first.1) Cut cut) [
      | inl one ↦ rw one refl
      | inr two ↦
          let on : word_at (front ++ back) ≡ Ok (two.0.0, two.0.1 ++ back) = (word_steady back).goes_on front two.0.0 two.0.1 two.1 in
          let none : two.0.0 ≡ 0 = ap (λ (x : ℕ × List ℕ). x.0) (ok_is {E = SideRefusal} (two.0.0, two.0.1 ++ back) (0, is.back) (sym on ∙ word_first 0 (front ++ back) is)) in
          rw two.1 (behind_none two.0.0 two.0.1 none two.2)
    ]
