-- What begins an operand is read where it is spelled, and nowhere else.
use Rattle.std.proofs.Common.{◌≡◌, ℕ, ◌%◌, ◌^◌, ◌<◌, pos, List, [], ◌∷◌, ◌++◌, Ok, refl, sym, ap, subst, ◌∙◌, append_assoc, arith, inl, inr}
use Rattle.std.proofs.lemmas.Bool.{cases_eq, eq-eqb, ne_eqb}
use Rattle.std.proofs.lemmas.List.{append-nil}
use Rattle.bk_codec.specs.Reading.{◌>>=◌, giving, made_of}
use Rattle.bk_codec.specs.Spelling.{IsBytes, Then}
use Rattle.bk_codec.proofs.Steps.{bind_ok, made_ok, ok_is}
use Rattle.bk_codec.proofs.Agreement.{Agrees, Takes, Takes-then, Takes-weaker, IsBytes-tail}
use Rattle.compact_term.specs.declared.refusal.OperandRefusal.{OperandRefusal}
use Rattle.compact_term.specs.declared.refusal.OperandRefusal.TheVariants.{Inner, Extended}
use Rattle.compact_term.specs.declared.operand.Reg.{Reg}
use Rattle.compact_term.specs.declared.operand.Reg.TheVariants as regs
use Rattle.compact_term.specs.declared.operand.Plain.{Plain}
use Rattle.compact_term.specs.declared.operand.Plain.TheVariants as plains
use Rattle.compact_term.specs.declared.reader.Head.{Head}
use Rattle.compact_term.specs.declared.reader.Head.TheVariants as heads
use Rattle.compact_term.specs.Spelling.{IsBelow, IsU, IsZ, SpellsReg, SpellsPlain}
use Rattle.compact_term.specs.Reading.{below_at, integer_at, u_at, reg_at, extended_by, tagged, head_at}
use Rattle.compact_term.proofs.Numbers.{Behind, Takes-cons, guard_other, below_takes, below_again, number_some, u_agrees, integer_takes, integer_again, wide_again}

-- ---- registers

-- a number under a tag, made into a value that is spelled so
tagged_takes : {A : Type 0} (f : ℕ → A) (R : A → List ℕ → Type 0) (limit tag first : ℕ) (bytes : List ℕ) (x : A) (rest : List ℕ)
    → ((n : ℕ) (text : List ℕ) → IsBelow limit tag n text → R (f n) text) → first < 256 → first % 8 ≡ tag → IsBytes bytes
    → made_of f (below_at limit first bytes) ≡ Ok (x, rest) → Takes (Behind (R x) first) bytes rest
tagged_takes {A} f R limit tag first bytes x rest spells byte is_tag fits e =
    let m = made_ok f (below_at limit first bytes) x rest e in
    let took = below_takes limit first bytes m.0 rest byte fits m.1 in
    subst (λ (y : A). Takes (Behind (R y) first) bytes rest) m.2
    (Takes-weaker (λ text is. spells m.0 (first ∷ text) (subst (λ (t : ℕ). IsBelow limit t m.0 (first ∷ text)) is_tag is)) took)

reg_takes : (bytes : List ℕ) (r : Reg) (rest : List ℕ) → IsBytes bytes → reg_at bytes ≡ Ok (r, rest) → Takes (SpellsReg r) bytes rest
unfolding reg_at
reg_takes [] r rest fits e = absurd cc
reg_takes (first ∷ bytes) r rest fits e =
    let tail = IsBytes-tail first bytes fits in
    elim (cases_eq (first % 8) 3) [
      | inl x ↦ Takes-cons first (tagged_takes regs.X SpellsReg (2 ^ 32) 3 first bytes r rest (λ n text is. is) (fits 0) x tail (rw (eq-eqb _ _ x) at e))
      | inr other ↦
          let g = guard_other (first % 8) 4 Inner (made_of regs.Y (below_at (2 ^ 32) first bytes)) (r, rest) (rw (ne_eqb _ _ other) at e) in
          Takes-cons first (tagged_takes regs.Y SpellsReg (2 ^ 32) 4 first bytes r rest (λ n text is. is) (fits 0) g.0 tail g.1)
    ]

reg_again : (r : Reg) (text rest : List ℕ) → SpellsReg r text → reg_at (text ++ rest) ≡ Ok (r, rest)
unfolding reg_at
reg_again (regs.X n) [] rest is = absurd (number_some 3 (pos n) is.0)
reg_again (regs.Y n) [] rest is = absurd (number_some 4 (pos n) is.0)
reg_again (regs.X n) (first ∷ text) rest is = let again = below_again (2 ^ 32) first 3 n text rest (omega arith) is in rw (again.tagged, again.read) refl
reg_again (regs.Y n) (first ∷ text) rest is = let again = below_again (2 ^ 32) first 4 n text rest (omega arith) is in rw (again.tagged, again.read) refl

pub reg_agrees : Agrees reg_at SpellsReg
reg_agrees = record { takes = reg_takes; again = reg_again }

-- ---- behind the number of tag z

abbrev pub SpellsHead : Head → List ℕ → Type 0
SpellsHead (heads.Plain p) text = SpellsPlain p text
SpellsHead heads.List text = IsZ 1 text
SpellsHead heads.Alloc text = IsZ 3 text

-- what stands behind a number of tag z completes the head
abbrev Completes : ℕ → Head → List ℕ → Type 0
Completes z head text = (front : List ℕ) → IsZ z front → SpellsHead head (front ++ text)

-- nothing stands behind the number of what begins a list
begins_takes : (z : ℕ) (bytes : List ℕ) (which head : Head) (rest : List ℕ) → ((front : List ℕ) → IsZ z front → SpellsHead which front) → IsBytes bytes
    → giving {E = OperandRefusal} which bytes ≡ Ok (head, rest) → Takes (Completes z head) bytes rest
begins_takes z bytes which head rest spells fits e =
    subst (λ (q : Head × List ℕ). Takes (Completes z q.0) bytes q.1) (ok_is {E = OperandRefusal} (which, bytes) (head, rest) e)
    (record { text = []; is = λ front is. subst (SpellsHead which) (sym (append-nil front)) (spells front is); joined = refl; fits = fits })

-- a u stands behind the number
number_behind : (z k : ℕ) (bytes : List ℕ) (f : ℕ → Plain) (head : Head) (rest : List ℕ) → z ≡ k → ((n : ℕ) (text : List ℕ) → Then (IsZ k) (IsU n) text → SpellsPlain (f n) text) → IsBytes bytes
    → made_of (λ n. heads.Plain (f n)) (u_at bytes) ≡ Ok (head, rest) → Takes (Completes z head) bytes rest
number_behind z k bytes f head rest same spells fits e =
    let m = made_ok (λ (n : ℕ). heads.Plain (f n)) (u_at bytes) head rest e in
    subst (λ (h : Head). Takes (Completes z h) bytes rest) m.2
    (Takes-weaker (λ text is front is_z. spells m.0 (front ++ text) (record { front = front; back = text; front_is = subst (λ (n : ℕ). IsZ n front) same is_z; back_is = is; joined = refl }))
    (u_agrees.takes bytes m.0 rest fits m.1))

typed_takes : (z : ℕ) (bytes : List ℕ) (head : Head) (rest : List ℕ) → z ≡ 5 → IsBytes bytes
    → (reg_at bytes >>= λ r. made_of (λ n. heads.Plain (plains.Typed r.0 n)) (u_at r.1)) ≡ Ok (head, rest) → Takes (Completes z head) bytes rest
typed_takes z bytes head rest same fits e =
    let r = bind_ok (reg_at bytes) (λ (r : Reg × List ℕ). made_of (λ n. heads.Plain (plains.Typed r.0 n)) (u_at r.1)) (head, rest) e in
    let m = made_ok (λ (n : ℕ). heads.Plain (plains.Typed r.0.0 n)) (u_at r.0.1) head rest r.2 in
    let reg = reg_agrees.takes bytes r.0.0 r.0.1 fits r.1 in
    subst (λ (h : Head). Takes (Completes z h) bytes rest) m.2
    (Takes-weaker (λ text is front is_z. record { front = front; back = text; front_is = subst (λ (n : ℕ). IsZ n front) same is_z; back_is = is; joined = refl })
    (Takes-then reg (u_agrees.takes r.0.1 m.0 rest reg.fits m.1)))

extended_takes : (z : ℕ) (bytes : List ℕ) (head : Head) (rest : List ℕ) → IsBytes bytes → extended_by z bytes ≡ Ok (head, rest) → Takes (Completes z head) bytes rest
unfolding extended_by
extended_takes z bytes head rest fits e =
    elim (cases_eq z 1) [
      | inl one ↦ begins_takes z bytes heads.List head rest (λ front is. subst (λ (n : ℕ). IsZ n front) one is) fits (rw (eq-eqb _ _ one) at e)
      | inr not_one ↦ elim (cases_eq z 2) [
        | inl two ↦ number_behind z 2 bytes plains.Fr head rest two (λ n text is. is) fits (rw (ne_eqb _ _ not_one, eq-eqb _ _ two) at e)
        | inr not_two ↦ elim (cases_eq z 3) [
          | inl three ↦ begins_takes z bytes heads.Alloc head rest (λ front is. subst (λ (n : ℕ). IsZ n front) three is) fits (rw (ne_eqb _ _ not_one, ne_eqb _ _ not_two, eq-eqb _ _ three) at e)
          | inr not_three ↦ elim (cases_eq z 4) [
            | inl four ↦ number_behind z 4 bytes plains.Lit head rest four (λ n text is. is) fits (rw (ne_eqb _ _ not_one, ne_eqb _ _ not_two, ne_eqb _ _ not_three, eq-eqb _ _ four) at e)
            | inr not_four ↦
                let g = guard_other z 5 (Extended z) (reg_at bytes >>= λ r. made_of (λ n. heads.Plain (plains.Typed r.0 n)) (u_at r.1)) (head, rest) (rw (ne_eqb _ _ not_one, ne_eqb _ _ not_two, ne_eqb _ _ not_three, ne_eqb _ _ not_four) at e) in
                typed_takes z bytes head rest g.0 fits g.1
          ]
        ]
      ]
    ]

-- ---- heads

z_takes : (first : ℕ) (bytes : List ℕ) (head : Head) (rest : List ℕ) → first < 256 → first % 8 ≡ 7 → IsBytes bytes
    → (below_at (2 ^ 64) first bytes >>= λ z. extended_by z.0 z.1) ≡ Ok (head, rest) → Takes (Behind (SpellsHead head) first) bytes rest
z_takes first bytes head rest byte tag fits e =
    let z = bind_ok (below_at (2 ^ 64) first bytes) (λ (z : ℕ × List ℕ). extended_by z.0 z.1) (head, rest) e in
    let number = below_takes (2 ^ 64) first bytes z.0.0 z.0.1 byte fits z.1 in
    let more = extended_takes z.0.0 z.0.1 head rest number.fits z.2 in
    Takes-weaker
    (λ text parts. subst (λ (t : List ℕ). SpellsHead head (first ∷ t)) (sym parts.joined)
    (parts.back_is (first ∷ parts.front) (subst (λ (t : ℕ). IsBelow (2 ^ 64) t z.0.0 (first ∷ parts.front)) tag parts.front_is)))
    (Takes-then number more)

head_takes : (bytes : List ℕ) (head : Head) (rest : List ℕ) → IsBytes bytes → head_at bytes ≡ Ok (head, rest) → Takes (SpellsHead head) bytes rest
unfolding head_at tagged
head_takes [] head rest fits e = absurd cc
head_takes (first ∷ bytes) head rest fits e =
    let tail = IsBytes-tail first bytes fits in
    elim (cases_eq (first % 8) 0) [
      | inl u ↦ Takes-cons first (tagged_takes (λ n. heads.Plain (plains.U n)) SpellsHead (2 ^ 64) 0 first bytes head rest (λ n text is. is) (fits 0) u tail (rw (eq-eqb _ _ u) at e))
      | inr not_u ↦ elim (cases_eq (first % 8) 1) [
        | inl i ↦
            let m = made_ok heads.Plain (integer_at first bytes) head rest (rw (ne_eqb _ _ not_u, eq-eqb _ _ i) at e) in
            Takes-cons first (subst (λ (h : Head). Takes (Behind (SpellsHead h) first) bytes rest) m.2 (integer_takes first bytes m.0 rest (fits 0) i tail m.1))
        | inr not_i ↦ elim (cases_eq (first % 8) 2) [
          | inl a ↦ Takes-cons first (tagged_takes (λ n. heads.Plain (plains.A n)) SpellsHead (2 ^ 32) 2 first bytes head rest (λ n text is. is) (fits 0) a tail (rw (ne_eqb _ _ not_u, ne_eqb _ _ not_i, eq-eqb _ _ a) at e))
          | inr not_a ↦ elim (cases_eq (first % 8) 3) [
            | inl x ↦ Takes-cons first (tagged_takes (λ n. heads.Plain (plains.X n)) SpellsHead (2 ^ 32) 3 first bytes head rest (λ n text is. is) (fits 0) x tail (rw (ne_eqb _ _ not_u, ne_eqb _ _ not_i, ne_eqb _ _ not_a, eq-eqb _ _ x) at e))
            | inr not_x ↦ elim (cases_eq (first % 8) 4) [
              | inl y ↦ Takes-cons first (tagged_takes (λ n. heads.Plain (plains.Y n)) SpellsHead (2 ^ 32) 4 first bytes head rest (λ n text is. is) (fits 0) y tail (rw (ne_eqb _ _ not_u, ne_eqb _ _ not_i, ne_eqb _ _ not_a, ne_eqb _ _ not_x, eq-eqb _ _ y) at e))
              | inr not_y ↦ elim (cases_eq (first % 8) 5) [
                | inl f ↦ Takes-cons first (tagged_takes (λ n. heads.Plain (plains.F n)) SpellsHead (2 ^ 32) 5 first bytes head rest (λ n text is. is) (fits 0) f tail (rw (ne_eqb _ _ not_u, ne_eqb _ _ not_i, ne_eqb _ _ not_a, ne_eqb _ _ not_x, ne_eqb _ _ not_y, eq-eqb _ _ f) at e))
                | inr not_f ↦ elim (cases_eq (first % 8) 6) [
                  | inl h ↦ Takes-cons first (tagged_takes (λ n. heads.Plain (plains.H n)) SpellsHead (2 ^ 32) 6 first bytes head rest (λ n text is. is) (fits 0) h tail (rw (ne_eqb _ _ not_u, ne_eqb _ _ not_i, ne_eqb _ _ not_a, ne_eqb _ _ not_x, ne_eqb _ _ not_y, ne_eqb _ _ not_f, eq-eqb _ _ h) at e))
                  | inr not_h ↦
                      let tag : first % 8 ≡ 7 = omega arith in
                      Takes-cons first (z_takes first bytes head rest (fits 0) tag tail (rw (ne_eqb _ _ not_u, ne_eqb _ _ not_i, ne_eqb _ _ not_a, ne_eqb _ _ not_x, ne_eqb _ _ not_y, ne_eqb _ _ not_f, ne_eqb _ _ not_h) at e))
                ]
              ]
            ]
          ]
        ]
      ]
    ]

-- a number of tag z, and what follows it
z_again : (k : ℕ) (front back rest : List ℕ) → IsZ k front → head_at ((front ++ back) ++ rest) ≡ extended_by k (back ++ rest)
unfolding head_at tagged
z_again k [] back rest is = absurd (number_some 7 (pos k) is.0)
z_again k (first ∷ front) back rest is =
    let again = below_again (2 ^ 64) first 7 k front (back ++ rest) (omega arith) is in
    rw (again.tagged, append_assoc front back rest, again.read) refl

behind_z : (k : ℕ) (P : List ℕ → Type 0) (head : Head) (text rest : List ℕ) → Then (IsZ k) P text
    → ((back : List ℕ) → P back → extended_by k (back ++ rest) ≡ Ok (head, rest)) → head_at (text ++ rest) ≡ Ok (head, rest)
behind_z k P head text rest parts read =
    ap (λ (t : List ℕ). head_at (t ++ rest)) parts.joined ∙ z_again k parts.front parts.back rest parts.front_is ∙ read parts.back parts.back_is

below_head : (limit tag n : ℕ) (head : Head) (text rest : List ℕ) → tag < 8 → IsBelow limit tag n text
    → ((first : ℕ) (bytes : List ℕ) → below_at limit first bytes ≡ Ok (n, rest) → first % 8 ≡ tag → head_at (first ∷ bytes) ≡ Ok (head, rest)) → head_at (text ++ rest) ≡ Ok (head, rest)
below_head limit tag n head [] rest small is read = absurd (number_some tag (pos n) is.0)
below_head limit tag n head (first ∷ text) rest small is read =
    let again = below_again limit first tag n text rest small is in
    read first (text ++ rest) again.read again.tagged

head_again : (head : Head) (text rest : List ℕ) → SpellsHead head text → head_at (text ++ rest) ≡ Ok (head, rest)
unfolding head_at tagged extended_by
head_again (heads.Plain (plains.U n)) text rest is = below_head (2 ^ 64) 0 n (heads.Plain (plains.U n)) text rest (omega arith) is (λ first bytes read tag. rw (tag, read) refl)
head_again (heads.Plain (plains.A n)) text rest is = below_head (2 ^ 32) 2 n (heads.Plain (plains.A n)) text rest (omega arith) is (λ first bytes read tag. rw (tag, read) refl)
head_again (heads.Plain (plains.X n)) text rest is = below_head (2 ^ 32) 3 n (heads.Plain (plains.X n)) text rest (omega arith) is (λ first bytes read tag. rw (tag, read) refl)
head_again (heads.Plain (plains.Y n)) text rest is = below_head (2 ^ 32) 4 n (heads.Plain (plains.Y n)) text rest (omega arith) is (λ first bytes read tag. rw (tag, read) refl)
head_again (heads.Plain (plains.F n)) text rest is = below_head (2 ^ 32) 5 n (heads.Plain (plains.F n)) text rest (omega arith) is (λ first bytes read tag. rw (tag, read) refl)
head_again (heads.Plain (plains.H n)) text rest is = below_head (2 ^ 32) 6 n (heads.Plain (plains.H n)) text rest (omega arith) is (λ first bytes read tag. rw (tag, read) refl)
head_again (heads.Plain (plains.I z)) [] rest is = absurd (number_some 1 z is)
head_again (heads.Plain (plains.I z)) (first ∷ text) rest is = let again = integer_again first z text rest is in rw (again.tagged, again.read) refl
head_again (heads.Plain (plains.Wide w)) [] rest is = let long = is.1.spelt in absurd cc
head_again (heads.Plain (plains.Wide w)) (first ∷ text) rest is = let again = wide_again first w text rest is.0 is.1 in rw (again.tagged, again.read) refl
head_again (heads.Plain (plains.Fr n)) text rest is = behind_z 2 (IsU n) (heads.Plain (plains.Fr n)) text rest is (λ back u. rw (u_agrees.again n back rest u) refl)
head_again (heads.Plain (plains.Lit n)) text rest is = behind_z 4 (IsU n) (heads.Plain (plains.Lit n)) text rest is (λ back u. rw (u_agrees.again n back rest u) refl)
head_again (heads.Plain (plains.Typed r n)) text rest is =
    behind_z 5 (Then (SpellsReg r) (IsU n)) (heads.Plain (plains.Typed r n)) text rest is
    (λ back parts.
    let grouped : back ++ rest ≡ parts.front ++ (parts.back ++ rest) = ap (λ (t : List ℕ). t ++ rest) parts.joined ∙ append_assoc parts.front parts.back rest in
    rw (grouped, reg_agrees.again r parts.front (parts.back ++ rest) parts.front_is, u_agrees.again n parts.back rest parts.back_is) refl)
head_again heads.List text rest is =
    below_head (2 ^ 64) 7 1 heads.List text rest (omega arith) is (λ first bytes read tag. rw (tag, read) refl)
head_again heads.Alloc text rest is =
    below_head (2 ^ 64) 7 3 heads.Alloc text rest (omega arith) is (λ first bytes read tag. rw (tag, read) refl)

pub head_agrees : Agrees head_at SpellsHead
head_agrees = record { takes = head_takes; again = head_again }
