-- What a call says that gives what the reading of a text gives.
use Rattle.std.proofs.Common.{◌≡◌, ◌⊎◌, ℕ, List, Result, Ok, Err, sym, ap, ◌∙◌, inl, inr}
use Rattle.std.specs.Prelude.{◌↔◌, ◌≤◌, ◌^◌, length, IfOk, IfErr}
use Rattle.bk_codec.specs.Reading.{GivesAll}
use Rattle.beam_module.specs.Canonical.{IsWritable}
use Rattle.beam_module.specs.File.{FileChunk}
use Rattle.listing_out.specs.Listable.{IsListable}
use Rattle.listing_out.specs.Listing.{IsListing}
use Rattle.listing_in.specs.declared.refusal.ListingRefusal.{ListingRefusal}
use Rattle.listing_in.specs.declared.refusal.ListingRefusal.TheVariants as refusals
use Rattle.listing_in.specs.Reading.{listing_value}
use Rattle.listing_in.specs.Wrong.{IsRefused}

abbrev Answer : Type 0
Answer = Result (List FileChunk) ListingRefusal

-- what the reading gives is what the text is a listing of, and it refuses where no listing goes on
module _ (accepted : (text : List ℕ) (v : List FileChunk) → (listing_value text ≡ Ok v) ↔ (IsListable v × IsListing v text))
    (refused : (text : List ℕ) (e : ListingRefusal) → listing_value text ≡ Err e → IsRefused e text) where
  pub answer_found : (text : List ℕ) (r : Answer) → GivesAll refusals.NoMemory (λ v. v) r (listing_value text) → IfOk r (λ v. IsListable v × IsListing v text)
  answer_found text (Ok v) read = (accepted text v).0 read
  answer_found text (Err e) read = tt

  pub answer_only : (text : List ℕ) (r : Answer) → GivesAll refusals.NoMemory (λ v. v) r (listing_value text) → (v : List FileChunk) → IsListable v → IsListing v text → (r ≡ Ok v) ⊎ (r ≡ Err refusals.NoMemory)
  answer_only text (Ok w) read v is listing = inl (sym read ∙ (accepted text v).1 (is, listing))
  answer_only text (Err e) (inl memory) v is listing = inr (ap (λ (d : ListingRefusal). Err d) memory)
  answer_only text (Err e) (inr stops) v is listing = let only = (accepted text v).1 (is, listing) in absurd cc

  pub answer_wrong : (text : List ℕ) (r : Answer) → GivesAll refusals.NoMemory (λ v. v) r (listing_value text) → IfErr r (λ e. (e ≡ refusals.NoMemory) ⊎ IsRefused e text)
  answer_wrong text (Ok v) read = tt
  answer_wrong text (Err e) (inl memory) = inl memory
  answer_wrong text (Err e) (inr stops) = inr (refused text e stops)

  -- of a text of at most 16 MiB, what is read can be written
  pub answer_writable : ((v : List FileChunk) (text : List ℕ) → IsListable v → IsListing v text → length text ≤ 2 ^ 24 → IsWritable v)
      → (text : List ℕ) (r : Answer) → GivesAll refusals.NoMemory (λ v. v) r (listing_value text) → length text ≤ 2 ^ 24 → IfOk r IsWritable
  answer_writable bounds text (Ok v) read short = let is = (accepted text v).0 read in bounds v text is.0 is.1 short
  answer_writable bounds text (Err e) read short = tt
