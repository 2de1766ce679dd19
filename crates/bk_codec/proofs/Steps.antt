-- What a reading that succeeded says of its steps.
use Rattle.std.proofs.Common.{◌≡◌, ◌⊎◌, ℕ, Bool, true, false, cond, List, Result, Ok, Err, refl, ap, inl, inr}
use Rattle.bk_codec.specs.Reading.{◌>>=◌, made_of, refused_as}

-- an answer, with its type
abbrev passed : {E A : Type 0} → A → Result A E
passed x = Ok x

abbrev refused : {E A : Type 0} → E → Result A E
refused e = Err e

-- two answers that are equal hold equal values
pub ok_is : {E A : Type 0} (x y : A) → passed {E = E} x ≡ passed y → x ≡ y
ok_is x y e = cc

pub err_is : {E A : Type 0} (x y : E) → refused {A = A} x ≡ refused y → x ≡ y
err_is x y e = cc

-- the value of a first step
pub bind_ok : {E A B : Type 0} (r : Result A E) (f : A → Result B E) (y : B) → (r >>= f) ≡ Ok y → (x : A) × (r ≡ Ok x) × (f x ≡ Ok y)
bind_ok (Ok x) f y e = (x, refl, e)
bind_ok (Err d) f y e = absurd cc

-- where a reading in two steps was refused: in the first, or in the second
pub bind_err : {E A B : Type 0} (r : Result A E) (f : A → Result B E) (d : E) → (r >>= f) ≡ Err d → (r ≡ Err d) ⊎ ((x : A) × (r ≡ Ok x) × (f x ≡ Err d))
bind_err (Ok x) f d e = inr (x, refl, e)
bind_err (Err b) f d e = let same : b ≡ d = cc in inl (ap (λ (z : _). Err z) same)

-- a first step that is known
pub bind_at_ok : {E A B : Type 0} (r : Result A E) (f : A → Result B E) (x : A) → r ≡ Ok x → (r >>= f) ≡ f x
bind_at_ok (Ok w) f x e = let same : w ≡ x = cc in ap f same
bind_at_ok (Err d) f x e = absurd cc

pub bind_at_err : {E A B : Type 0} (r : Result A E) (f : A → Result B E) (d : E) → r ≡ Err d → (r >>= f) ≡ Err d
bind_at_err (Ok w) f d e = absurd cc
bind_at_err (Err b) f d e = let same : b ≡ d = cc in ap (λ (z : _). Err z) same

-- what a value was made of
pub made_ok : {E A B : Type 0} (f : A → B) (r : Result (A × List ℕ) E) (y : B) (rest : List ℕ) → made_of f r ≡ Ok (y, rest) → (x : A) × (r ≡ Ok (x, rest)) × (f x ≡ y)
made_ok f (Ok x) y rest e =
    let value : f x.0 ≡ y = ap (λ (p : _ × List ℕ). p.0) (ok_is (f x.0, x.1) (y, rest) e) in
    let left : x.1 ≡ rest = ap (λ (p : _ × List ℕ). p.1) (ok_is (f x.0, x.1) (y, rest) e) in
    (x.0, ap (λ (r : List ℕ). Ok (x.0, r)) left, value)
made_ok f (Err d) y rest e = absurd cc

pub made_err : {E A B : Type 0} (f : A → B) (r : Result (A × List ℕ) E) (e : E) → made_of f r ≡ Err e → r ≡ Err e
made_err f (Ok x) e h = absurd cc
made_err f (Err d) e h = let same : d ≡ e = cc in ap (λ (z : _). Err z) same

-- which way a test went
pub chosen : {A : Type 0} (b : Bool) (x y z : A) → cond b x y ≡ z → ((b ≡ true) × (x ≡ z)) ⊎ ((b ≡ false) × (y ≡ z))
chosen true x y z e = inl (refl, e)
chosen false x y z e = inr (refl, e)

-- a test before a value that was passed
pub guard_ok : {E A : Type 0} (b : Bool) (d : E) (r : Result A E) (y : A) → cond b (Err d) r ≡ Ok y → (b ≡ false) × (r ≡ Ok y)
guard_ok true d r y e = absurd cc
guard_ok false d r y e = (refl, e)

-- a test before a value that was refused
pub guard_err : {E A : Type 0} (b : Bool) (d : E) (x : A) (e : E) → cond b (Err d) (Ok x) ≡ Err e → (b ≡ true) × (d ≡ e)
guard_err true d x e h = let same : d ≡ e = cc in (refl, same)
guard_err false d x e h = absurd cc

-- two second steps that agree on what the first gives
pub bind_same : {E A B : Type 0} (r : Result A E) (f g : A → Result B E) → ((x : A) → r ≡ Ok x → f x ≡ g x) → (r >>= f) ≡ (r >>= g)
bind_same (Ok x) f g same = same x refl
bind_same (Err d) f g same = refl

-- what was read, where its refusal would be one of another kind
pub refused_as_ok : {A D E : Type 0} (why : D → E) (r : Result A D) (x : A) → refused_as why r ≡ Ok x → r ≡ Ok x
refused_as_ok {A} {D} {E} why (Ok y) x h = let same : y ≡ x = ok_is {E = E} y x h in ap (λ (z : A). Ok z) same
refused_as_ok why (Err d) x h = absurd cc
