-- How a text is read from line to line, and which refusal comes first.
use Rattle.std.specs.Prelude.{ℕ, suc, List, [], ◌∷◌, Option, Some, None, Result, Ok, Err}
use Rattle.bk_codec.specs.Reading.{◌>>=◌, refused_as}
use Rattle.beam_module.specs.File.{FileChunk}
use Rattle.listing_out.specs.Listing.{bare, raw_lines}
use Rattle.listing_in.specs.declared.refusal.ListingRefusal.{ListingRefusal}
use Rattle.listing_in.specs.declared.refusal.ListingRefusal.TheVariants as refusals
use Rattle.listing_in.specs.declared.refusal.ListingWhy.TheVariants as whys
use Rattle.listing_in.specs.declared.stop.LineStop.{LineStop}
use Rattle.listing_in.specs.declared.stop.LineStop.TheVariants as stops
use Rattle.listing_in.specs.State.{State, Start, value_of}
use Rattle.listing_in.specs.Step.{next_line}

-- the lines one after another, the first of them with this number, which its refusal shows
abbrev pub after_lines : {S L E F : Type 0} → (S → L → Result S E) → (ℕ → E → F) → ℕ → S → List L → Result S F
after_lines next numbered n s [] = Ok s
after_lines next numbered n s (line ∷ lines) = refused_as (numbered n) (next s line) >>= λ t. after_lines next numbered (suc n) t lines

-- what is wrong with the line of this number
abbrev pub numbered : ℕ → LineStop → ListingRefusal
numbered n (stops.Wrong why) = refusals.Line n why
numbered n (stops.Twice id) = refusals.Twice n id
numbered n stops.NoMemory = refusals.NoMemory

-- a line of which a comment leaves nothing changes nothing
abbrev pub next_kept : State → List ℕ → Result State LineStop
next_kept s [] = Ok s
next_kept s (b ∷ line) = next_line s (b ∷ line)

abbrev pub next_raw : State → List ℕ → Result State LineStop
next_raw s line = next_kept s (bare line)

-- the file that was listed; without any line the head is missing
abbrev pub whole_of : Option (List FileChunk) → Result (List FileChunk) ListingRefusal
whole_of None = Err (refusals.Line 1 whys.Head)
whole_of (Some v) = Ok v

abbrev pub listing_value : List ℕ → Result (List FileChunk) ListingRefusal
listing_value text = after_lines next_raw numbered 1 Start (raw_lines text) >>= λ s. whole_of (value_of s)
