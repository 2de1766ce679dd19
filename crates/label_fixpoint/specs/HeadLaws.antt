-- Where blocks begin they rise, and each place is in its block.
use Rattle.std.proofs.Common.{◌≡◌, ◌∙◌, ◌⊎◌, ℕ, zero, suc, ◌+◌, ◌-◌, ◌<◌, ◌≤◌, Bool, true, false, if◌then◌else◌, List, [], ◌∷◌, ◌++◌, length, get_or, refl, sym, ap, subst, inl, inr, arith, length-append}
use Rattle.std.proofs.lemmas.Bool.{cases_lt}
use Rattle.std.proofs.lemmas.List.{append-nil, get_or_append_left, get_or_push, length_push}
use Rattle.label_fixpoint.specs.Heads.{heads_by, number_at, numbers_by, block_at, head_at}

past : {X : Type 0} (xs : List X) (i : ℕ) (d : X) → length xs ≤ i → get_or xs i d ≡ d
past [] i d far = refl
past (x ∷ xs) zero d far = absurd (omega (arith, far))
past (x ∷ xs) (suc i) d far = past xs i d (omega (arith, far))

module _ (begins : ℕ → Bool) where
  abbrev heads : ℕ → List ℕ
  heads = heads_by begins

  abbrev number : ℕ → ℕ
  number = number_at begins

  begun : (p : ℕ) → begins p ≡ true → heads (suc p) ≡ heads p ++ p ∷ []
  begun p is = ap (λ (b : Bool). heads p ++ (if b then p ∷ [] else [])) is

  begun_or_not : (p : ℕ) → (heads (suc p) ≡ heads p ++ p ∷ []) ⊎ (heads (suc p) ≡ heads p)
  begun_or_not p = go (begins p) where
    go : (b : Bool) → (heads p ++ (if b then p ∷ [] else []) ≡ heads p ++ p ∷ []) ⊎ (heads p ++ (if b then p ∷ [] else []) ≡ heads p)
    go true = inl refl
    go false = inr (append-nil (heads p))

  count_begun : (p : ℕ) → heads (suc p) ≡ heads p ++ p ∷ [] → number (suc p) ≡ number p + 1
  count_begun p is = ap (λ (hs : List ℕ). length hs) is ∙ length_push (heads p) p

  count_not : (p : ℕ) → heads (suc p) ≡ heads p → number (suc p) ≡ number p
  count_not p is = ap (λ (hs : List ℕ). length hs) is

  number_grows : (p q : ℕ) → p ≤ q → number p ≤ number q
  number_grows p zero low = let zero_is : p ≡ 0 = omega (arith, low) in let same : number p ≡ number 0 = ap number zero_is in omega (arith, same)
  number_grows p (suc q) low =
      elim (cases_lt q p) [
        | inl over ↦ let all : p ≡ suc q = omega (arith, low, over) in let same : number p ≡ number (suc q) = ap number all in omega (arith, same)
        | inr under ↦
            let before = number_grows p q under in
            elim (begun_or_not q) [ inl is ↦ let more = count_begun q is in omega (arith, before, more) | inr is ↦ let same = count_not q is in omega (arith, before, same) ]
      ]

  pub number_most : (n : ℕ) → number n ≤ n
  number_most zero = omega arith
  number_most (suc n) =
      let before = number_most n in
      elim (begun_or_not n) [ inl is ↦ let more = count_begun n is in omega (arith, before, more) | inr is ↦ let same = count_not n is in omega (arith, before, same) ]

  -- ---- where they begin

  head_kept : (p q b d : ℕ) → p ≤ q → b < number p → get_or (heads q) b d ≡ get_or (heads p) b d
  head_kept p zero b d low inside = let same : 0 ≡ p = omega (arith, low) in ap (λ (n : ℕ). get_or (heads n) b d) same
  head_kept p (suc q) b d low inside =
      elim (cases_lt q p) [
        | inl over ↦ let same : suc q ≡ p = omega (arith, low, over) in ap (λ (n : ℕ). get_or (heads n) b d) same
        | inr under ↦
            let before = head_kept p q b d under inside in
            let grows = number_grows p q under in
            elim (begun_or_not q) [
              | inl is ↦ ap (λ (hs : List ℕ). get_or hs b d) is ∙ (get_or_append_left (heads q) (q ∷ []) d b (omega (arith, grows, inside)) ∙ before)
              | inr is ↦ ap (λ (hs : List ℕ). get_or hs b d) is ∙ before
            ]
      ]

  head_low : (n b d : ℕ) → b < number n → get_or (heads n) b d < n
  head_low zero b d inside = absurd (omega (arith, inside))
  head_low (suc n) b d inside =
      elim (begun_or_not n) [
        | inl is ↦
            let count = count_begun n is in
            elim (cases_lt b (number n)) [
              | inl before ↦
                  let same : get_or (heads (suc n)) b d ≡ get_or (heads n) b d = ap (λ (hs : List ℕ). get_or hs b d) is ∙ get_or_append_left (heads n) (n ∷ []) d b before in
                  let low = head_low n b d before in
                  omega (arith, same, low)
              | inr last ↦
                  let at : number n ≡ b = omega (arith, last, inside, count) in
                  let same : get_or (heads (suc n)) b d ≡ n = ap (λ (hs : List ℕ). get_or hs b d) is ∙ get_or_push (heads n) n d b at in
                  omega (arith, same)
            ]
        | inr is ↦
            let count = count_not n is in
            let same : get_or (heads (suc n)) b d ≡ get_or (heads n) b d = ap (λ (hs : List ℕ). get_or hs b d) is in
            let low = head_low n b d (omega (arith, inside, count)) in
            omega (arith, same, low)
      ]

  head_high : (p n b d : ℕ) → number p ≤ b → b < number n → p ≤ get_or (heads n) b d
  head_high p zero b d far inside = absurd (omega (arith, inside))
  head_high p (suc n) b d far inside =
      elim (begun_or_not n) [
        | inl is ↦
            let count = count_begun n is in
            elim (cases_lt b (number n)) [
              | inl before ↦
                  let same : get_or (heads (suc n)) b d ≡ get_or (heads n) b d = ap (λ (hs : List ℕ). get_or hs b d) is ∙ get_or_append_left (heads n) (n ∷ []) d b before in
                  let high = head_high p n b d far before in
                  omega (arith, same, high)
              | inr last ↦
                  let at : number n ≡ b = omega (arith, last, inside, count) in
                  let same : get_or (heads (suc n)) b d ≡ n = ap (λ (hs : List ℕ). get_or hs b d) is ∙ get_or_push (heads n) n d b at in
                  elim (cases_lt n p) [
                    | inl over ↦ let grows = number_grows (suc n) p (omega (arith, over)) in absurd (omega (arith, grows, far, inside))
                    | inr under ↦ omega (arith, same, under)
                  ]
            ]
        | inr is ↦
            let count = count_not n is in
            let same : get_or (heads (suc n)) b d ≡ get_or (heads n) b d = ap (λ (hs : List ℕ). get_or hs b d) is in
            let high = head_high p n b d far (omega (arith, inside, count)) in
            omega (arith, same, high)
      ]

  head_found : (p n d : ℕ) → begins p ≡ true → p < n → get_or (heads n) (number p) d ≡ p
  head_found p n d is inside =
      let count = count_begun p (begun p is) in
      head_kept (suc p) n (number p) d (omega (arith, inside)) (omega (arith, count))
      ∙ (ap (λ (hs : List ℕ). get_or hs (number p) d) (begun p is) ∙ get_or_push (heads p) p d (number p) refl)

  head_next : (n b d : ℕ) → b + 1 < number n → get_or (heads n) b d < get_or (heads n) (b + 1) d
  head_next zero b d inside = absurd (omega (arith, inside))
  head_next (suc n) b d inside =
      elim (begun_or_not n) [
        | inl is ↦
            let count = count_begun n is in
            let first : get_or (heads (suc n)) b d ≡ get_or (heads n) b d = ap (λ (hs : List ℕ). get_or hs b d) is ∙ get_or_append_left (heads n) (n ∷ []) d b (omega (arith, inside, count)) in
            elim (cases_lt (b + 1) (number n)) [
              | inl before ↦
                  let same : get_or (heads (suc n)) (b + 1) d ≡ get_or (heads n) (b + 1) d = ap (λ (hs : List ℕ). get_or hs (b + 1) d) is ∙ get_or_append_left (heads n) (n ∷ []) d (b + 1) before in
                  let next = head_next n b d before in
                  omega (arith, first, same, next)
              | inr last ↦
                  let at : number n ≡ b + 1 = omega (arith, last, inside, count) in
                  let same : get_or (heads (suc n)) (b + 1) d ≡ n = ap (λ (hs : List ℕ). get_or hs (b + 1) d) is ∙ get_or_push (heads n) n d (b + 1) at in
                  let low = head_low n b d (omega (arith, at)) in
                  omega (arith, first, same, low)
            ]
        | inr is ↦
            let count = count_not n is in
            let first : get_or (heads (suc n)) b d ≡ get_or (heads n) b d = ap (λ (hs : List ℕ). get_or hs b d) is in
            let second : get_or (heads (suc n)) (b + 1) d ≡ get_or (heads n) (b + 1) d = ap (λ (hs : List ℕ). get_or hs (b + 1) d) is in
            let next = head_next n b d (omega (arith, inside, count)) in
            omega (arith, first, second, next)
      ]

  -- ---- the places of a flow

  module _ (n : ℕ) where
    pub head_rises : (b : ℕ) → b < number n → head_at begins n b < head_at begins n (b + 1)
    head_rises b inside =
        elim (cases_lt (b + 1) (number n)) [
          | inl before ↦ head_next n b n before
          | inr last ↦ let end : get_or (heads n) (b + 1) n ≡ n = past (heads n) (b + 1) n last in let low = head_low n b n inside in omega (arith, end, low)
        ]

    pub head_end : head_at begins n (number n) ≡ n
    head_end = past (heads n) (number n) n (omega arith)

    -- a block that begins at a place
    pub number_inside : (p : ℕ) → begins p ≡ true → p < n → number p < number n
    number_inside p is inside = let count = count_begun p (begun p is) in let grows = number_grows (suc p) n (omega (arith, inside)) in omega (arith, count, grows)

    pub head_of_number : (p : ℕ) → begins p ≡ true → p < n → head_at begins n (number p) ≡ p
    head_of_number p is inside = head_found p n n is inside

    pub block_begun : (p : ℕ) → begins p ≡ true → p < n → head_at begins n (block_at begins p) ≡ p
    block_begun p is inside =
        let count = count_begun p (begun p is) in
        let same : block_at begins p ≡ number p = omega (arith, count) in
        ap (head_at begins n) same ∙ head_of_number p is inside

    module _ (first : begins 0 ≡ true) (p : ℕ) (inside : p < n) where
      some : 0 < number (suc p)
      some = let one = count_begun 0 (begun 0 first) in let grows = number_grows 1 (suc p) (omega arith) in omega (arith, one, grows)

      pub block_within : block_at begins p < number n
      block_within = let any = some in let grows = number_grows (suc p) n (omega (arith, inside)) in omega (arith, any, grows)

      pub block_from : head_at begins n (block_at begins p) ≤ p
      block_from =
          let any = some in
          let b = block_at begins p in
          let own : number (suc p) - 1 < number (suc p) = omega (arith, any) in
          let same : get_or (heads n) (number (suc p) - 1) n ≡ get_or (heads (suc p)) (number (suc p) - 1) n = head_kept (suc p) n (number (suc p) - 1) n (omega (arith, inside)) own in
          let low = head_low (suc p) (number (suc p) - 1) n own in
          omega (arith, same, low)

      pub block_to : p < head_at begins n (block_at begins p + 1)
      block_to =
          let any = some in
          let next : block_at begins p + 1 ≡ number (suc p) = omega (arith, any) in
          let at : head_at begins n (block_at begins p + 1) ≡ head_at begins n (number (suc p)) = ap (head_at begins n) next in
          elim (cases_lt (number (suc p)) (number n)) [
            | inl before ↦ let high = head_high (suc p) n (number (suc p)) n (omega arith) before in omega (arith, at, high)
            | inr last ↦ let end : head_at begins n (number (suc p)) ≡ n = past (heads n) (number (suc p)) n last in omega (arith, at, end, inside)
          ]

-- ---- numbers of blocks by places

module _ (begins : ℕ → Bool) where
  numbers_long : (n : ℕ) → length (numbers_by begins n) ≡ n
  numbers_long zero = refl
  numbers_long (suc n) = let before = numbers_long n in let more = length_push (numbers_by begins n) (number_at begins n) in omega (arith, before, more)

  pub number_in : (n p d : ℕ) → p < n → get_or (numbers_by begins n) p d ≡ number_at begins p
  number_in zero p d inside = absurd (omega (arith, inside))
  number_in (suc n) p d inside =
      let long = numbers_long n in
      elim (cases_lt p n) [
        | inl before ↦ get_or_append_left (numbers_by begins n) (number_at begins n ∷ []) d p (omega (arith, long, before)) ∙ number_in n p d before
        | inr last ↦
            let same : n ≡ p = omega (arith, inside, last) in
            get_or_push (numbers_by begins n) (number_at begins n) d p (long ∙ same) ∙ ap (number_at begins) same
      ]
