-- How many bytes a reading takes.
use Rattle.std.proofs.Common.{◌≡◌, ℕ, ◌+◌, ◌≤◌, ltb, List, length, take, drop, Ok, Err, sym, ap, arith}
use Rattle.std.proofs.lemmas.Bool.{ltb-false}
use Rattle.std.proofs.lemmas.List.{length-drop}
use Rattle.byteorder.specs.Endian.{big_number}
use Rattle.bk_codec.specs.Reading.{giving, bytes_at, number_at}
use Rattle.bk_codec.proofs.Steps.{ok_is, guard_err, guard_ok}

pub bytes_at-length : {E : Type 0} (cut : E) (n : ℕ) (bytes s rest : List ℕ) → bytes_at cut n bytes ≡ Ok (s, rest) → length bytes ≡ length rest + n
bytes_at-length {E} cut n bytes s rest e =
    let g = guard_ok (ltb (length bytes) n) cut (giving (take n bytes) (drop n bytes)) (s, rest) e in
    let long : n ≤ length bytes = ltb-false _ _ g.0 in
    let is : drop n bytes ≡ rest = ap (λ (p : List ℕ × List ℕ). p.1) (ok_is {E = E} (take n bytes, drop n bytes) (s, rest) g.1) in
    omega (arith, ap length is, length-drop n bytes)

pub number_at-length : {E : Type 0} (cut : E) (n : ℕ) (bytes : List ℕ) (x : ℕ) (rest : List ℕ) → number_at cut n bytes ≡ Ok (x, rest) → length bytes ≡ length rest + n
number_at-length {E} cut n bytes x rest e =
    let g = guard_ok (ltb (length bytes) n) cut (giving (big_number n bytes) (drop n bytes)) (x, rest) e in
    let long : n ≤ length bytes = ltb-false _ _ g.0 in
    let is : drop n bytes ≡ rest = ap (λ (p : ℕ × List ℕ). p.1) (ok_is {E = E} (big_number n bytes, drop n bytes) (x, rest) g.1) in
    omega (arith, ap length is, length-drop n bytes)

-- ---- the one refusal of a field

pub bytes_at-refused : {E : Type 0} (cut : E) (n : ℕ) (bytes : List ℕ) (e : E) → bytes_at cut n bytes ≡ Err e → e ≡ cut
bytes_at-refused cut n bytes e h = sym (guard_err (ltb (length bytes) n) cut (take n bytes, drop n bytes) e h).1

pub number_at-refused : {E : Type 0} (cut : E) (n : ℕ) (bytes : List ℕ) (e : E) → number_at cut n bytes ≡ Err e → e ≡ cut
number_at-refused cut n bytes e h = sym (guard_err (ltb (length bytes) n) cut (big_number n bytes, drop n bytes) e h).1
