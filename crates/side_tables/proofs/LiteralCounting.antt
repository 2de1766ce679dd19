-- Literals are passed over, and then as many are there as were said.
use Rattle.std.proofs.Common.{◌≡◌, ℕ, eqb, true, List, [], ◌∷◌, length, Result, Ok, Err, refl, sym, ap}
use Rattle.std.specs.Prelude.{Option, Some, IsOk}
use Rattle.bk_codec.specs.Reading.{◌>>=◌, many_at, alone, ended}
use Rattle.bk_codec.proofs.Agreement.{many_at-length}
use Rattle.side_tables.specs.declared.literals.Literals.TheVariants.{Plain}
use Rattle.side_tables.specs.declared.refusal.SideRefusal.{SideRefusal}
use Rattle.side_tables.specs.declared.refusal.SideRefusal.TheVariants.{Rest}
use Rattle.side_tables.specs.Literal.{PlainLiteral}
use Rattle.side_tables.specs.LiteralCount.{literal_count, literals_counted}
use Rattle.side_tables.specs.LiteralReading.{literal_at, literals_at, literals_of}
use Rattle.side_tables.specs.Words.{word_at}

abbrev count_in : Result (List PlainLiteral) SideRefusal → Result (Option ℕ) SideRefusal
count_in read = (read >>= λ ls. Ok (Plain ls)) >>= λ l. Ok (literal_count l)

alone_count : (n : ℕ) (ls : List PlainLiteral) (rest : List ℕ) → length ls ≡ n → IsOk (alone Rest ls rest) → count_in (alone Rest ls rest) ≡ Ok (Some n)
alone_count n ls [] many ok = ap (λ (m : ℕ). Ok (Some m)) many
alone_count n ls (b ∷ rest) many ok = absurd cc

read_count : (n : ℕ) (bytes : List ℕ) (read : Result (List PlainLiteral × List ℕ) SideRefusal) → many_at literal_at n bytes ≡ read → IsOk (ended Rest read) → count_in (ended Rest read) ≡ Ok (Some n)
read_count n bytes (Ok q) is ok = alone_count n q.0 q.1 (many_at-length literal_at n bytes q.0 q.1 is) ok
read_count n bytes (Err e) is ok = absurd cc

-- behind the word 0 and a count, so many literals take all of the bytes
pub counted_is : (bytes behind after : List ℕ) (first n : ℕ) → word_at bytes ≡ Ok (first, behind) → eqb first 0 ≡ true → word_at behind ≡ Ok (n, after)
    → IsOk (ended Rest (many_at literal_at n after)) → Ok (Some n) ≡ literals_counted bytes
unfolding literals_of literals_at
counted_is bytes behind after first n word none count ok =
    rw (word, none, count) (sym (read_count n after (many_at literal_at n after) refl ok))
