-- Numbers are read where they are spelled, and nowhere else.
use Rattle.std.proofs.Common.{◌≡◌, ℕ, ◌+◌, ◌-◌, ◌*◌, ◌/◌, ◌%◌, ◌^◌, ◌<◌, ◌≤◌, ltb, eqb, cond, ℤ, pos, negsuc, List, [], ◌∷◌, ◌++◌, length, Result, Ok, Err, refl, sym, ap, subst, ◌∙◌, append_assoc, arith, inl, inr}
use Rattle.std.proofs.lemmas.Bool.{cases_lt, cases_eq, ltb-false, lt-ltb, le-ltb, eq-eqb, ne_eqb}
use Rattle.std.proofs.lemmas.Int.{ints}
use Rattle.std.proofs.Math.Nat.{pow-le-pow_right}
use Rattle.byteorder.specs.Endian.{twos_complement}
use Rattle.byteorder.specs.Numbers.{length-bytes_high_first}
use Rattle.bk_codec.specs.Reading.{◌>>=◌, giving, made_of, byte_at, bytes_at, number_at}
use Rattle.bk_codec.specs.Spelling.{IsBytes, Then, SpellsNumber}
use Rattle.bk_codec.proofs.Steps.{bind_ok, made_ok, ok_is, guard_ok}
use Rattle.bk_codec.proofs.Agreement.{Agrees, Takes, Takes-then, Takes-weaker, byte_agrees, bytes_agree, number_agrees, IsBytes-tail}
use Rattle.compact_term.specs.declared.refusal.OperandRefusal.{OperandRefusal}
use Rattle.compact_term.specs.declared.refusal.OperandRefusal.TheVariants.{Cut, Inner, Wide}
use Rattle.compact_term.specs.declared.operand.Plain.{Plain}
use Rattle.compact_term.specs.declared.operand.Plain.TheVariants as plains
use Rattle.compact_term.specs.Spelling.{InFourBits, InTwosComplement, IsShort, IsLong, InManyBytes, IsNumber, IsBelow, IsU, SpellsPlain}
use Rattle.compact_term.specs.Reading.{short_at, natural, length_at, whole_at, below_at, integer_at, u_at}

-- ---- a byte in front

pub Takes-cons : {P : List ℕ → Type 0} {bytes rest : List ℕ} (b : ℕ) → Takes (λ text. P (b ∷ text)) bytes rest → Takes P (b ∷ bytes) rest
Takes-cons b t = record { text = b ∷ t.text; is = t.is; joined = ap (λ (l : List ℕ). b ∷ l) t.joined; fits = t.fits }

-- a byte that was read is one
byte_fits : (bytes text : List ℕ) (b : ℕ) (rest : List ℕ) → IsBytes bytes → text ≡ b ∷ [] → bytes ≡ text ++ rest → b < 256
byte_fits bytes text b rest fits is joined =
    let whole : bytes ≡ b ∷ rest = joined ∙ ap (λ (t : List ℕ). t ++ rest) is in
    (subst IsBytes whole fits) 0

-- what stands behind a first byte
abbrev pub Behind : (List ℕ → Type 0) → ℕ → List ℕ → Type 0
Behind P first text = P (first ∷ text)

-- ---- the forms of up to eight bytes

four_takes : (first : ℕ) (bytes : List ℕ) (z : ℤ) (rest : List ℕ) → first < 256 → first / 8 % 2 ≡ 0 → IsBytes bytes → giving {E = OperandRefusal} (pos (first / 16)) bytes ≡ Ok (z, rest)
    → Takes (Behind (IsShort (first % 8) z) first) bytes rest
four_takes first bytes z rest byte clear fits e =
    let spelt : first ≡ 16 * (first / 16) + first % 8 = omega arith in
    let four : InFourBits (first % 8) (pos (first / 16)) (first ∷ []) = record { value = first / 16; fits = omega arith; is = refl; spelt = ap (λ (b : ℕ). b ∷ []) spelt } in
    subst (λ (q : ℤ × List ℕ). Takes (Behind (IsShort (first % 8) q.0) first) bytes q.1) (ok_is {E = OperandRefusal} (pos (first / 16), bytes) (z, rest) e)
    (record { text = []; is = inl four; joined = refl; fits = fits })

eleven_takes : (first : ℕ) (bytes : List ℕ) (z : ℤ) (rest : List ℕ) → first < 256 → (first / 8 % 2 ≡ 0 → ⊥) → first / 16 % 2 ≡ 0 → IsBytes bytes
    → made_of (λ low. pos (256 * (first / 32) + low)) (byte_at Cut bytes) ≡ Ok (z, rest) → Takes (Behind (IsShort (first % 8) z) first) bytes rest
eleven_takes first bytes z rest byte set clear fits e =
    let m = made_ok (λ (low : ℕ). pos (256 * (first / 32) + low)) (byte_at Cut bytes) z rest e in
    let low = (byte_agrees Cut).takes bytes m.0 rest fits m.1 in
    let spelt : first ≡ 32 * (first / 32) + 8 + first % 8 = omega arith in
    let eleven : (text : List ℕ) → text ≡ m.0 ∷ [] → bytes ≡ text ++ rest → IsShort (first % 8) z (first ∷ text) = λ text is joined.
    let below : m.0 < 256 = byte_fits bytes text m.0 rest fits is joined in
    inr (inl (record { high = first / 32; low = m.0; high_fits = omega arith; low_fits = below; is = sym m.2; spelt = ap (λ (t : List ℕ). first ∷ t) is ∙ ap (λ (b : ℕ). b ∷ m.0 ∷ []) spelt })) in
    record { text = low.text; is = eleven low.text low.is low.joined; joined = low.joined; fits = low.fits }

few_takes : (first : ℕ) (bytes : List ℕ) (z : ℤ) (rest : List ℕ) → first < 248 → (first / 8 % 2 ≡ 0 → ⊥) → (first / 16 % 2 ≡ 0 → ⊥) → IsBytes bytes
    → made_of (twos_complement (first / 32 + 2)) (number_at Cut (first / 32 + 2) bytes) ≡ Ok (z, rest) → Takes (Behind (IsShort (first % 8) z) first) bytes rest
few_takes first bytes z rest below set also fits e =
    let m = made_ok (twos_complement (first / 32 + 2)) (number_at Cut (first / 32 + 2) bytes) z rest e in
    let spelt : first ≡ 32 * (first / 32) + 24 + first % 8 = omega arith in
    Takes-weaker
    (λ text is. inr (inr (record { more = first / 32; number = text; fits = omega arith; is = record { value = m.0; is = sym m.2; spelt = is }; spelt = ap (λ (b : ℕ). b ∷ text) spelt })))
    ((number_agrees Cut (first / 32 + 2)).takes bytes m.0 rest fits m.1)

pub short_takes : (first : ℕ) (bytes : List ℕ) (z : ℤ) (rest : List ℕ) → first < 248 → IsBytes bytes → short_at first bytes ≡ Ok (z, rest) → Takes (Behind (IsShort (first % 8) z) first) bytes rest
unfolding short_at
short_takes first bytes z rest below fits e =
    let byte : first < 256 = omega arith in
    elim (cases_eq (first / 8 % 2) 0) [
      | inl clear ↦ four_takes first bytes z rest byte clear fits (rw (eq-eqb _ _ clear) at e)
      | inr set ↦ elim (cases_eq (first / 16 % 2) 0) [
        | inl clear ↦ eleven_takes first bytes z rest byte set clear fits (rw (ne_eqb _ _ set, eq-eqb _ _ clear) at e)
        | inr also ↦ few_takes first bytes z rest below set also fits (rw (ne_eqb _ _ set, ne_eqb _ _ also) at e)
      ]
    ]

short_some : (tag : ℕ) (z : ℤ) → IsShort tag z [] → ⊥
short_some tag z (inl four) = cc
short_some tag z (inr (inl eleven)) = cc
short_some tag z (inr (inr few)) = cc

-- a first byte says its tag
pub record Short_again (first tag : ℕ) (z : ℤ) (text rest : List ℕ) : Type 0 where
  pub read : short_at first (text ++ rest) ≡ Ok (z, rest)
  pub tagged : first % 8 ≡ tag
  pub below : first < 248

pub short_again : (first tag : ℕ) (z : ℤ) (text rest : List ℕ) → tag < 8 → IsShort tag z (first ∷ text) → Short_again first tag z text rest
unfolding short_at
short_again first tag z text rest small (inl four) =
    let head : first ≡ 16 * four.value + tag = cc in
    let tail : text ≡ [] = cc in
    let value = four.fits in
    let clear : first / 8 % 2 ≡ 0 = omega arith in
    let same : first / 16 ≡ four.value = omega arith in
    record { read = rw (eq-eqb _ _ clear, same, tail, four.is) refl; tagged = omega arith; below = omega arith }
short_again first tag z text rest small (inr (inl eleven)) =
    let head : first ≡ 32 * eleven.high + 8 + tag = cc in
    let tail : text ≡ eleven.low ∷ [] = cc in
    let high = eleven.high_fits in
    let set : first / 8 % 2 ≡ 0 → ⊥ = omega arith in
    let clear : first / 16 % 2 ≡ 0 = omega arith in
    let same : first / 32 ≡ eleven.high = omega arith in
    record { read = rw (ne_eqb _ _ set, eq-eqb _ _ clear, same, tail, eleven.is) refl; tagged = omega arith; below = omega arith }
short_again first tag z text rest small (inr (inr few)) =
    let head : first ≡ 32 * few.more + 24 + tag = cc in
    let tail : text ≡ few.number = cc in
    let fits = few.fits in
    let set : first / 8 % 2 ≡ 0 → ⊥ = omega arith in
    let also : first / 16 % 2 ≡ 0 → ⊥ = omega arith in
    let same : first / 32 ≡ few.more = omega arith in
    let number : number_at Cut (few.more + 2) (few.number ++ rest) ≡ Ok (few.is.value, rest) = (number_agrees Cut (few.more + 2)).again few.is.value few.number rest few.is.spelt in
    record { read = rw (ne_eqb _ _ set, ne_eqb _ _ also, same, tail, number, few.is.is) refl; tagged = omega arith; below = omega arith }

-- ---- bounds

pub natural_ok : (limit tag : ℕ) (z : ℤ) (n : ℕ) → natural limit tag z ≡ Ok n → (z ≡ pos n) × (n < limit)
natural_ok limit tag (pos m) n e =
    elim (cases_lt m limit) [
      | inl lt ↦ let is : m ≡ n = ok_is {E = OperandRefusal} m n (rw (lt-ltb _ _ lt) at e) in (ap pos is, omega arith)
      | inr le ↦ let none = rw (le-ltb _ _ le) at e in absurd cc
    ]
natural_ok limit tag (negsuc m) n e = absurd cc

pub natural_below : (limit tag n : ℕ) → n < limit → natural limit tag (pos n) ≡ Ok n
natural_below limit tag n lt = rw (lt-ltb _ _ lt) refl

-- a test that comes before a refusal of everything else
pub guard_other : {A : Type 0} (a b : ℕ) (d : OperandRefusal) (r : Result A OperandRefusal) (y : A) → cond (eqb a b) r (Err d) ≡ Ok y → (a ≡ b) × (r ≡ Ok y)
guard_other a b d r y e =
    elim (cases_eq a b) [
      | inl same ↦ (same, rw (eq-eqb _ _ same) at e)
      | inr other ↦ let none = rw (ne_eqb _ _ other) at e in absurd cc
    ]

-- ---- the form that states its length

pub record IsCount (n : ℕ) (text : List ℕ) : Type 0 where
  pub more : ℕ
  pub is : n ≡ more + 9
  pub counts : IsShort 0 (pos more) text

length_takes : (bytes : List ℕ) (n : ℕ) (rest : List ℕ) → IsBytes bytes → length_at bytes ≡ Ok (n, rest) → Takes (IsCount n) bytes rest
unfolding length_at
length_takes [] n rest fits e = absurd cc
length_takes (first ∷ bytes) n rest fits e =
    elim (cases_eq (first % 8) 0) [
      | inr other ↦ let none = rw (ne_eqb _ _ other) at e in absurd cc
      | inl tag ↦ elim (cases_lt first 248) [
        | inr wide ↦ let none = rw (eq-eqb _ _ tag, le-ltb _ _ wide) at e in absurd cc
        | inl below ↦
            let step = rw (eq-eqb _ _ tag, lt-ltb _ _ below) at e in
            let z = bind_ok (short_at first bytes) (λ (z : ℤ × List ℕ). natural (2 ^ 64) 0 z.0 >>= λ more. giving (more + 9) z.1) (n, rest) step in
            let more = bind_ok (natural (2 ^ 64) 0 z.0.0) (λ (more : ℕ). giving (more + 9) z.0.1) (n, rest) z.2 in
            let is = ok_is {E = OperandRefusal} (more.0 + 9, z.0.1) (n, rest) more.2 in
            let value : z.0.0 ≡ pos more.0 = (natural_ok (2 ^ 64) 0 z.0.0 more.0 more.1).0 in
            let took = short_takes first bytes z.0.0 z.0.1 below (IsBytes-tail first bytes fits) z.1 in
            subst (λ (q : ℕ × List ℕ). Takes (IsCount q.0) (first ∷ bytes) q.1) is
            (Takes-cons first (Takes-weaker (λ text short. record { more = more.0; is = refl; counts = subst (λ (t : ℕ). IsShort t (pos more.0) (first ∷ text)) tag (subst (λ (y : ℤ). IsShort (first % 8) y (first ∷ text)) value short) }) took))
      ]
    ]

twos_complement-le : (n x m : ℕ) → pos m ≡ twos_complement n x → m ≤ x
twos_complement-le n x m e =
    elim (cases_lt x (2 ^ (8 * n - 1))) [
      | inl lt ↦ let is = rw (lt-ltb _ _ lt) at e in omega (arith, ints)
      | inr le ↦ let is = rw (le-ltb _ _ le) at e in omega (arith, ints)
    ]

-- a number without sign of up to eight bytes
short_bound : (tag m : ℕ) (text : List ℕ) → IsShort tag (pos m) text → m < 2 ^ 64
short_bound tag m text (inl four) = let is : m ≡ four.value = cc in let fits = four.fits in omega arith
short_bound tag m text (inr (inl eleven)) =
    let is : m ≡ 256 * eleven.high + eleven.low = cc in
    let high = eleven.high_fits in
    let low = eleven.low_fits in
    omega arith
short_bound tag m text (inr (inr few)) =
    let le = twos_complement-le (few.more + 2) few.is.value m few.is.is in
    let fits : few.is.value < 256 ^ (few.more + 2) = few.is.spelt.fits in
    let few_bytes = few.fits in
    let few_enough : few.more + 2 ≤ 8 = omega arith in
    let power : 256 ^ (few.more + 2) ≤ 256 ^ 8 = pow-le-pow_right {n = 256} (omega arith) few_enough in
    omega arith

length_again : (n : ℕ) (text rest : List ℕ) → IsCount n text → length_at (text ++ rest) ≡ Ok (n, rest)
unfolding length_at
length_again n [] rest count = absurd (short_some 0 (pos count.more) count.counts)
length_again n (first ∷ text) rest count =
    let short = short_again first 0 (pos count.more) text rest (omega arith) count.counts in
    rw (eq-eqb _ _ short.tagged, lt-ltb _ _ short.below, short.read, natural_below (2 ^ 64) 0 count.more (short_bound 0 count.more (first ∷ text) count.counts), count.is) refl

-- the form that states its length, in its parts
long_is : (first n : ℕ) (front back text : List ℕ) → 248 ≤ first → first < 256 → IsCount n front → length back ≡ n → text ≡ front ++ back → IsLong (first % 8) back (first ∷ text)
long_is first n front back text high byte count size joined =
    let head : first ≡ 248 + first % 8 = omega arith in
    let is = count.is in
    record { more = count.more; count = front; counts = count.counts; whole = omega arith; spelt = ap (λ (t : List ℕ). first ∷ t) joined ∙ ap (λ (b : ℕ). b ∷ (front ++ back)) head }

pub record Long_again (first tag : ℕ) (number text rest : List ℕ) : Type 0 where
  pub read : length_at (text ++ rest) ≡ Ok (length number, number ++ rest)
  pub tagged : first % 8 ≡ tag
  pub high : 248 ≤ first

long_again : (first tag : ℕ) (number text rest : List ℕ) → tag < 8 → IsLong tag number (first ∷ text) → Long_again first tag number text rest
long_again first tag number text rest small long =
    let head : first ≡ 248 + tag = cc in
    let tail : text ≡ long.count ++ number = cc in
    let grouped : text ++ rest ≡ long.count ++ (number ++ rest) = ap (λ (t : List ℕ). t ++ rest) tail ∙ append_assoc long.count number rest in
    let read : length_at (long.count ++ (number ++ rest)) ≡ Ok (length number, number ++ rest) = length_again (length number) long.count (number ++ rest) (record { more = long.more; is = long.whole; counts = long.counts }) in
    record { read = ap length_at grouped ∙ read; tagged = omega arith; high = omega arith }

pub number_length : (n x : ℕ) (text : List ℕ) → SpellsNumber n x text → length text ≡ n
number_length n x text is = ap length is.is ∙ length-bytes_high_first n x

many_is : (first n x : ℕ) (z : ℤ) (text : List ℕ) → 248 ≤ first → first < 256 → n ≤ 16 → z ≡ twos_complement n x → Then (IsCount n) (SpellsNumber n x) text → InManyBytes (first % 8) z (first ∷ text)
many_is first n x z text high byte few is parts =
    let size : length parts.back ≡ n = number_length n x parts.back parts.back_is in
    let number : InTwosComplement n z parts.back = record { value = x; is = is; spelt = parts.back_is } in
    record {
      number = parts.back;
      few = omega arith;
      is = subst (λ (m : ℕ). InTwosComplement m z parts.back) (sym size) number;
      spelt = long_is first n parts.front parts.back text high byte parts.front_is size parts.joined;
    }

-- ---- numbers of up to 16 bytes

whole_takes : (first : ℕ) (bytes : List ℕ) (z : ℤ) (rest : List ℕ) → first < 256 → IsBytes bytes → whole_at first bytes ≡ Ok (z, rest) → Takes (Behind (IsNumber (first % 8) z) first) bytes rest
unfolding whole_at
whole_takes first bytes z rest byte fits e =
    elim (cases_lt first 248) [
      | inl below ↦ Takes-weaker (λ text short. inl short) (short_takes first bytes z rest below fits (rw (lt-ltb _ _ below) at e))
      | inr high ↦
          let step = rw (le-ltb _ _ high) at e in
          let n = bind_ok (length_at bytes) (λ (n : ℕ × List ℕ). cond (ltb 16 n.0) (Err (Wide (first % 8))) (made_of (twos_complement n.0) (number_at Cut n.0 n.1))) (z, rest) step in
          let g = guard_ok (ltb 16 n.0.0) (Wide (first % 8)) (made_of (twos_complement n.0.0) (number_at Cut n.0.0 n.0.1)) (z, rest) n.2 in
          let few : n.0.0 ≤ 16 = ltb-false _ _ g.0 in
          let m = made_ok (twos_complement n.0.0) (number_at Cut n.0.0 n.0.1) z rest g.1 in
          let count = length_takes bytes n.0.0 n.0.1 fits n.1 in
          let number = (number_agrees Cut n.0.0).takes n.0.1 m.0 rest count.fits m.1 in
          Takes-weaker (λ text parts. inr (many_is first n.0.0 m.0 z text high byte few (sym m.2) parts)) (Takes-then count number)
    ]

pub record Whole_again (first tag : ℕ) (z : ℤ) (text rest : List ℕ) : Type 0 where
  pub read : whole_at first (text ++ rest) ≡ Ok (z, rest)
  pub tagged : first % 8 ≡ tag

whole_again : (first tag : ℕ) (z : ℤ) (text rest : List ℕ) → tag < 8 → IsNumber tag z (first ∷ text) → Whole_again first tag z text rest
unfolding whole_at
whole_again first tag z text rest small (inl short) =
    let again = short_again first tag z text rest small short in
    record { read = rw (lt-ltb _ _ again.below, again.read) refl; tagged = again.tagged }
whole_again first tag z text rest small (inr many) =
    let again = long_again first tag many.number text rest small many.spelt in
    let number : number_at Cut (length many.number) (many.number ++ rest) ≡ Ok (many.is.value, rest) = (number_agrees Cut (length many.number)).again many.is.value many.number rest many.is.spelt in
    record { read = rw (le-ltb _ _ again.high, again.read, le-ltb _ _ many.few, number, many.is.is) refl; tagged = again.tagged }

-- ---- numbers below a limit

pub below_takes : (limit first : ℕ) (bytes : List ℕ) (n : ℕ) (rest : List ℕ) → first < 256 → IsBytes bytes → below_at limit first bytes ≡ Ok (n, rest) → Takes (Behind (IsBelow limit (first % 8) n) first) bytes rest
unfolding below_at
below_takes limit first bytes n rest byte fits e =
    let z = bind_ok (whole_at first bytes) (λ (z : ℤ × List ℕ). natural limit (first % 8) z.0 >>= λ n. giving n z.1) (n, rest) e in
    let m = bind_ok (natural limit (first % 8) z.0.0) (λ (n : ℕ). giving n z.0.1) (n, rest) z.2 in
    let is = ok_is {E = OperandRefusal} (m.0, z.0.1) (n, rest) m.2 in
    let natural = natural_ok limit (first % 8) z.0.0 m.0 m.1 in
    let took = whole_takes first bytes z.0.0 z.0.1 byte fits z.1 in
    subst (λ (q : ℕ × List ℕ). Takes (Behind (IsBelow limit (first % 8) q.0) first) bytes q.1) is
    (Takes-weaker (λ text number. (subst (λ (y : ℤ). IsNumber (first % 8) y (first ∷ text)) natural.0 number, natural.1)) took)

pub record Below_again (limit first tag n : ℕ) (text rest : List ℕ) : Type 0 where
  pub read : below_at limit first (text ++ rest) ≡ Ok (n, rest)
  pub tagged : first % 8 ≡ tag

pub below_again : (limit first tag n : ℕ) (text rest : List ℕ) → tag < 8 → IsBelow limit tag n (first ∷ text) → Below_again limit first tag n text rest
unfolding below_at
below_again limit first tag n text rest small is =
    let again = whole_again first tag (pos n) text rest small is.0 in
    record { read = rw (again.read, natural_below limit (first % 8) n is.1) refl; tagged = again.tagged }

pub number_some : (tag : ℕ) (z : ℤ) → IsNumber tag z [] → ⊥
number_some tag z (inl short) = short_some tag z short
number_some tag z (inr many) = let long = many.spelt.spelt in cc

-- ---- u

u_takes : (bytes : List ℕ) (n : ℕ) (rest : List ℕ) → IsBytes bytes → u_at bytes ≡ Ok (n, rest) → Takes (IsU n) bytes rest
unfolding u_at
u_takes [] n rest fits e = absurd cc
u_takes (first ∷ bytes) n rest fits e =
    let g = guard_other (first % 8) 0 Inner (below_at (2 ^ 64) first bytes) (n, rest) e in
    let took = below_takes (2 ^ 64) first bytes n rest (fits 0) (IsBytes-tail first bytes fits) g.1 in
    Takes-cons first (Takes-weaker (λ text is. subst (λ (t : ℕ). IsBelow (2 ^ 64) t n (first ∷ text)) g.0 is) took)

u_again : (n : ℕ) (text rest : List ℕ) → IsU n text → u_at (text ++ rest) ≡ Ok (n, rest)
unfolding u_at
u_again n [] rest is = absurd (number_some 0 (pos n) is.0)
u_again n (first ∷ text) rest is =
    let again = below_again (2 ^ 64) first 0 n text rest (omega arith) is in
    rw (eq-eqb _ _ again.tagged, again.read) refl

pub u_agrees : Agrees u_at IsU
u_agrees = record { takes = u_takes; again = u_again }

-- ---- integers

wide_is : (first n : ℕ) (w text : List ℕ) → 248 ≤ first → first < 256 → first % 8 ≡ 1 → 16 < n → Then (IsCount n) (λ back. (back ≡ w) × (length w ≡ n)) text → SpellsPlain (plains.Wide w) (first ∷ text)
wide_is first n w text high byte tag many parts =
    let size = parts.back_is.1 in
    let back : parts.back ≡ w = parts.back_is.0 in
    let joined : text ≡ parts.front ++ w = parts.joined ∙ ap (λ (b : List ℕ). parts.front ++ b) back in
    (omega arith, subst (λ (t : ℕ). IsLong t w (first ∷ text)) tag (long_is first n parts.front w text high byte parts.front_is size joined))

pub integer_takes : (first : ℕ) (bytes : List ℕ) (p : Plain) (rest : List ℕ) → first < 256 → first % 8 ≡ 1 → IsBytes bytes → integer_at first bytes ≡ Ok (p, rest) → Takes (Behind (SpellsPlain p) first) bytes rest
unfolding integer_at
integer_takes first bytes p rest byte tag fits e =
    elim (cases_lt first 248) [
      | inl below ↦
          let m = made_ok plains.I (short_at first bytes) p rest (rw (lt-ltb _ _ below) at e) in
          let took = short_takes first bytes m.0 rest below fits m.1 in
          subst (λ (q : Plain). Takes (Behind (SpellsPlain q) first) bytes rest) m.2
          (Takes-weaker (λ text short. inl (subst (λ (t : ℕ). IsShort t m.0 (first ∷ text)) tag short)) took)
      | inr high ↦
          let n = bind_ok (length_at bytes) (λ (n : ℕ × List ℕ). cond (ltb 16 n.0) (made_of plains.Wide (bytes_at Cut n.0 n.1)) (made_of (λ x. plains.I (twos_complement n.0 x)) (number_at Cut n.0 n.1))) (p, rest) (rw (le-ltb _ _ high) at e) in
          let count = length_takes bytes n.0.0 n.0.1 fits n.1 in
          elim (cases_lt 16 n.0.0) [
            | inl many ↦
                let m = made_ok plains.Wide (bytes_at Cut n.0.0 n.0.1) p rest (rw (lt-ltb _ _ many) at n.2) in
                let number = (bytes_agree Cut n.0.0).takes n.0.1 m.0 rest count.fits m.1 in
                subst (λ (q : Plain). Takes (Behind (SpellsPlain q) first) bytes rest) m.2
                (Takes-weaker (λ text parts. wide_is first n.0.0 m.0 text high byte tag many parts) (Takes-then count number))
            | inr few ↦
                let m = made_ok (λ (x : ℕ). plains.I (twos_complement n.0.0 x)) (number_at Cut n.0.0 n.0.1) p rest (rw (le-ltb _ _ few) at n.2) in
                let number = (number_agrees Cut n.0.0).takes n.0.1 m.0 rest count.fits m.1 in
                subst (λ (q : Plain). Takes (Behind (SpellsPlain q) first) bytes rest) m.2
                (Takes-weaker (λ text parts. inr (subst (λ (t : ℕ). InManyBytes t (twos_complement n.0.0 m.0) (first ∷ text)) tag (many_is first n.0.0 m.0 (twos_complement n.0.0 m.0) text high byte few refl parts))) (Takes-then count number))
          ]
    ]

pub record Integer_again (first : ℕ) (p : Plain) (text rest : List ℕ) : Type 0 where
  pub read : integer_at first (text ++ rest) ≡ Ok (p, rest)
  pub tagged : first % 8 ≡ 1

pub integer_again : (first : ℕ) (z : ℤ) (text rest : List ℕ) → IsNumber 1 z (first ∷ text) → Integer_again first (plains.I z) text rest
unfolding integer_at
integer_again first z text rest (inl short) =
    let again = short_again first 1 z text rest (omega arith) short in
    record { read = rw (lt-ltb _ _ again.below, again.read) refl; tagged = again.tagged }
integer_again first z text rest (inr many) =
    let again = long_again first 1 many.number text rest (omega arith) many.spelt in
    let number : number_at Cut (length many.number) (many.number ++ rest) ≡ Ok (many.is.value, rest) = (number_agrees Cut (length many.number)).again many.is.value many.number rest many.is.spelt in
    record { read = rw (le-ltb _ _ again.high, again.read, le-ltb _ _ many.few, number, many.is.is) refl; tagged = again.tagged }

pub wide_again : (first : ℕ) (w text rest : List ℕ) → 17 ≤ length w → IsLong 1 w (first ∷ text) → Integer_again first (plains.Wide w) text rest
unfolding integer_at
wide_again first w text rest many long =
    let again = long_again first 1 w text rest (omega arith) long in
    let number : bytes_at Cut (length w) (w ++ rest) ≡ Ok (w, rest) = (bytes_agree Cut (length w)).again w w rest (refl, refl) in
    record { read = rw (le-ltb _ _ again.high, again.read, lt-ltb _ _ many, number) refl; tagged = again.tagged }
