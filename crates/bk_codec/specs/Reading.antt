-- How bytes are read from the front: the value that stands there with the bytes after it, or a refusal.
use Rattle.std.specs.Prelude.{◌≡◌, ◌⊎◌, ℕ, zero, suc, List, [], ◌∷◌, length, take, drop, nat_lt, if◌then◌else◌, Result, Ok, Err}
use Rattle.std.specs.Str.{is_utf8}
use Rattle.byteorder.specs.Endian.{big_number}

-- one step, and then the next at what the first gave
infixl 10 ◌>>=◌
abbrev pub ◌>>=◌ : {E A B : Type 0} → Result A E → (A → Result B E) → Result B E
(Ok x) >>= f = f x
(Err e) >>= f = Err e

-- a value, and the bytes after it
abbrev pub giving : {E A : Type 0} → A → List ℕ → Result (A × List ℕ) E
giving x rest = Ok (x, rest)

-- what was read, with its value made into another
abbrev pub made_of : {E A B : Type 0} → (A → B) → Result (A × List ℕ) E → Result (B × List ℕ) E
made_of f read = read >>= λ x. giving (f x.0) x.1

-- what was read, or the refusal as one of another kind
abbrev pub refused_as : {A D E : Type 0} → (D → E) → Result A D → Result A E
refused_as why (Ok x) = Ok x
refused_as why (Err e) = Err (why e)

-- one byte; `cut` where there is none
abbrev pub byte_at : {E : Type 0} → E → List ℕ → Result (ℕ × List ℕ) E
byte_at cut [] = Err cut
byte_at cut (b ∷ rest) = giving b rest

-- n bytes; `cut` where there are fewer
abbrev pub bytes_at : {E : Type 0} → E → ℕ → List ℕ → Result (List ℕ × List ℕ) E
bytes_at cut n bytes = if nat_lt (length bytes) n then Err cut else giving (take n bytes) (drop n bytes)

-- the number in n bytes, the highest first; `cut` where there are fewer
abbrev pub number_at : {E : Type 0} → E → ℕ → List ℕ → Result (ℕ × List ℕ) E
number_at cut n bytes = if nat_lt (length bytes) n then Err cut else giving (big_number n bytes) (drop n bytes)

-- the bytes of a text; `bad` where they are not UTF-8
abbrev pub utf8_or : {E : Type 0} → E → List ℕ → Result (List ℕ) E
utf8_or bad bytes = if is_utf8 bytes then Ok bytes else Err bad

-- as many values as a count says
abbrev pub many_at : {E A : Type 0} → (List ℕ → Result (A × List ℕ) E) → ℕ → List ℕ → Result (List A × List ℕ) E
many_at one zero bytes = giving [] bytes
many_at one (suc n) bytes = one bytes >>= λ x. made_of (λ xs. x.0 ∷ xs) (many_at one n x.1)

-- as many values as a count says, each read by its number, and the numbers go up from i
abbrev pub numbered_at : {E A : Type 0} → (ℕ → List ℕ → Result (A × List ℕ) E) → ℕ → ℕ → List ℕ → Result (List A × List ℕ) E
numbered_at one i zero bytes = giving [] bytes
numbered_at one i (suc n) bytes = one i bytes >>= λ x. made_of (λ xs. x.0 ∷ xs) (numbered_at one (suc i) n x.1)

-- a word with a count, and then as many values, whose numbers go up from i
abbrev pub counted_at : {E A : Type 0} → E → (ℕ → List ℕ → Result (A × List ℕ) E) → ℕ → List ℕ → Result (List A × List ℕ) E
counted_at cut one i bytes = number_at cut 4 bytes >>= λ n. numbered_at one i n.0 n.1

-- a value with no byte behind it; `rest` where bytes are left
abbrev pub alone : {E A : Type 0} → E → A → List ℕ → Result A E
alone rest x [] = Ok x
alone rest x (b ∷ bytes) = Err rest

-- a value that takes all of the bytes
abbrev pub ended : {E A : Type 0} → E → Result (A × List ℕ) E → Result A E
ended rest read = read >>= λ x. alone rest x.0 x.1

-- values up to the end of the bytes, of which there are at most n
abbrev pub all_at : {E A : Type 0} → (List ℕ → Result (A × List ℕ) E) → ℕ → List ℕ → Result (List A) E
all_at one n [] = Ok []
all_at one zero (b ∷ bytes) = Ok []
all_at one (suc n) (b ∷ bytes) = one (b ∷ bytes) >>= λ x. (all_at one n x.1 >>= λ xs. Ok (x.0 ∷ xs))

-- the values that the whole of the bytes holds
abbrev pub whole_of : {E A : Type 0} → (List ℕ → Result (A × List ℕ) E) → List ℕ → Result (List A) E
whole_of one bytes = all_at one (length bytes) bytes

-- a call answered this refusal: want of memory, or what the reading gives
abbrev pub Fails : {E X : Type 0} → E → E → Result X E → Type 0
Fails memory e read = (e ≡ memory) ⊎ (read ≡ Err e)

-- a call that leaves `rest` answered what the reading gives, want of memory aside
abbrev pub Gives : {E A B : Type 0} → E → (A → B) → List ℕ → Result A E → Result (B × List ℕ) E → Type 0
Gives memory view rest (Ok x) read = read ≡ giving (view x) rest
Gives memory view rest (Err e) read = Fails memory e read

-- the same of a call that reads the whole of its bytes
abbrev pub GivesAll : {E A B : Type 0} → E → (A → B) → Result A E → Result B E → Type 0
GivesAll memory view (Ok x) read = read ≡ Ok (view x)
GivesAll memory view (Err e) read = Fails memory e read

-- a call that takes no memory and leaves `rest` answered just what the reading gives
abbrev pub Reads : {E A B : Type 0} → (A → B) → List ℕ → Result A E → Result (B × List ℕ) E → Type 0
Reads view rest (Ok x) read = read ≡ giving (view x) rest
Reads view rest (Err e) read = read ≡ Err e
