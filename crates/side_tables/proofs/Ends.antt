-- Readings of the whole of bytes, with more bytes behind them.
use Rattle.std.proofs.Common.{◌≡◌, ◌≢◌, ◌⊎◌, ℕ, List, [], ◌∷◌, ◌++◌, Result, Ok, Err, refl, inl, inr}
use Rattle.bk_codec.specs.Reading.{alone, ended}
use Rattle.bk_codec.specs.Exact.{RefusalsStand}
use Rattle.bk_codec.proofs.Steps.{bind_err}
use Rattle.bk_codec.proofs.Steady.{Steady}
use Rattle.side_tables.specs.declared.refusal.SideRefusal.{SideRefusal}
use Rattle.side_tables.specs.declared.refusal.SideRefusal.TheVariants.{Version, ItemTag, FileIndex, Cut, Rest, NoMemory}

pub cut_or_other : (e : SideRefusal) → (e ≡ Cut) ⊎ (e ≢ Cut)
cut_or_other Version = inr (λ same. cc)
cut_or_other (ItemTag item) = inr (λ same. cc)
cut_or_other (FileIndex item) = inr (λ same. cc)
cut_or_other Cut = inl refl
cut_or_other Rest = inr (λ same. cc)
cut_or_other NoMemory = inr (λ same. cc)

alone_stands : {A : Type 0} (x : A) (bytes more : List ℕ) (e : SideRefusal) → alone Rest x bytes ≡ Err e → alone Rest x (bytes ++ more) ≡ Err e
alone_stands x [] more e h = absurd cc
alone_stands x (b ∷ bytes) more e h = h

-- what is refused behind a value is refused with more bytes there too
pub ended_stands : {A : Type 0} (p : List ℕ → Result (A × List ℕ) SideRefusal) → ((more : List ℕ) → Steady Cut more p p) → RefusalsStand Cut (λ bytes. ended Rest (p bytes))
ended_stands {A} p steady bytes more e h other =
    elim (bind_err (p bytes) (λ (x : A × List ℕ). alone Rest x.0 x.1) e h) [
      | inl one ↦ let read : p (bytes ++ more) ≡ Err e = (steady more).stands bytes e one other in rw read refl
      | inr two ↦
          let read : p (bytes ++ more) ≡ Ok (two.0.0, two.0.1 ++ more) = (steady more).goes_on bytes two.0.0 two.0.1 two.1 in
          rw read (alone_stands two.0.0 two.0.1 more e two.2)
    ]

pub ended_cut : {A : Type 0} (r : Result (A × List ℕ) SideRefusal) → r ≡ Err Cut → ended Rest r ≡ Err Cut
ended_cut r h = rw h refl
