-- A text is read exactly where it is the listing of a file, and is refused at the first line where it stops being one.
use Rattle.std.proofs.Common.{◌≡◌, ℕ, ◌+◌, List, [], ◌∷◌, ◌++◌, length, Option, Some, None, Result, Ok, Err, refl, sym, ap, subst, ◌∙◌, inl, inr, arith, append-nil}
use Rattle.std.proofs.lemmas.Option.{same_Some}
use Rattle.bk_codec.proofs.Steps.{bind_at_ok, bind_err, bind_ok, err_is, ok_is}
use Rattle.beam_module.specs.File.{FileChunk}
use Rattle.listing_out.specs.Lines.{lines}
use Rattle.listing_out.specs.Listable.{IsListable}
use Rattle.listing_out.specs.Listing.{IsListing, bare, kept, raw_lines}
use Rattle.listing_in.specs.declared.refusal.ListingRefusal.{ListingRefusal}
use Rattle.listing_in.specs.declared.refusal.ListingRefusal.TheVariants as refusals
use Rattle.listing_in.specs.declared.refusal.ListingWhy.TheVariants as whys
use Rattle.listing_in.specs.declared.stop.LineStop.{LineStop}
use Rattle.listing_in.specs.declared.stop.LineStop.TheVariants as stops
use Rattle.listing_in.specs.Reading.{after_lines, listing_value, next_raw, numbered, whole_of}
use Rattle.listing_in.specs.State.{State, Start, lines_of, value_of}
use Rattle.listing_in.specs.Step.{next_line}
use Rattle.listing_in.specs.Wrong.{Begins, IsRefused, IsWrongAt, StopsAt}
use Rattle.listing_in.proofs.FileLines.{none_listable}
use Rattle.listing_in.proofs.Growth.{lines_unique, read_found, read_only, stops_there, through}
use Rattle.listing_in.proofs.KeptLines.{kept_append, refused_kept, through_kept}
use Rattle.listing_in.proofs.LineStep.{IsRead}
use Rattle.listing_in.proofs.LineTexts.{LineTexts}
use Rattle.listing_in.proofs.NextLine.{never_for_memory}
use Rattle.listing_in.proofs.Numbered.{StopsIn, stops_in, unnumbered, with_numbers}
use Rattle.listing_in.proofs.WholeFile.{listings_grow}

abbrev lines_read : List ℕ → Result State ListingRefusal
lines_read text = after_lines next_raw numbered 1 Start (raw_lines text)

whole_found : (o : Option (List FileChunk)) (v : List FileChunk) → whole_of o ≡ Ok v → o ≡ Some v
whole_found None v e = absurd cc
whole_found (Some w) v e = ap (λ (u : List FileChunk). Some u) (ok_is {E = ListingRefusal} w v e)

whole_missing : (o : Option (List FileChunk)) (e : ListingRefusal) → whole_of o ≡ Err e → (o ≡ None) × (refusals.Line 1 whys.Head ≡ e)
whole_missing None e h = (refl, err_is {A = List FileChunk} (refusals.Line 1 whys.Head) e h)
whole_missing (Some v) e h = absurd cc

-- what was read begins a listing
read_begins : (o : Option (List FileChunk)) (front : List (List ℕ)) → IsRead o → lines_of o ≡ front → Begins front
read_begins None front is same = subst Begins same ([], lines [], none_listable, refl)
read_begins (Some v) front is same = (v, [], is, same ∙ sym (append-nil front))

-- a refusal shows the number of its line, unless it is want of memory
shown_at : (text : List ℕ) (n : ℕ) (why : LineStop) (e : ListingRefusal) → numbered n why ≡ e → (why ≡ stops.NoMemory → ⊥) → StopsAt n text → IsRefused e text
shown_at text n (stops.Wrong w) e shown never at = subst (λ (f : ListingRefusal). IsRefused f text) shown at
shown_at text n (stops.Twice id) e shown never at = subst (λ (f : ListingRefusal). IsRefused f text) shown at
shown_at text n stops.NoMemory e shown never at = absurd (never refl)

module _ (texts : LineTexts) where
  -- what all lines of a text were read to
  state_found : (text : List ℕ) (s : State) → lines_read text ≡ Ok s → IsRead (value_of s) × (lines_of (value_of s) ≡ kept (raw_lines text))
  state_found text s e =
      read_found lines_of IsRead value_of Start next_line (listings_grow texts) (kept (raw_lines text)) s
      (sym (through_kept Start (raw_lines text)) ∙ unnumbered next_raw numbered 1 Start s (raw_lines text) e)

  pub value_found : (text : List ℕ) (v : List FileChunk) → listing_value text ≡ Ok v → IsListable v × IsListing v text
  value_found text v e =
      let read = bind_ok (lines_read text) (λ s. whole_of (value_of s)) v e in
      let found = state_found text read.0 read.1 in
      let value = whole_found (value_of read.0) v read.2 in
      (subst IsRead value found.0, sym found.1 ∙ ap lines_of value)

  pub value_only : (text : List ℕ) (v : List FileChunk) → IsListable v → IsListing v text → listing_value text ≡ Ok v
  value_only text v is listing =
      let read = read_only lines_of IsRead value_of Start next_line (listings_grow texts) (Some v) (kept (raw_lines text)) is (sym listing) in
      bind_at_ok (lines_read text) (λ s. whole_of (value_of s)) read.0 (with_numbers next_raw numbered 1 Start read.0 (raw_lines text) (through_kept Start (raw_lines text) ∙ read.1))
      ∙ ap whole_of read.2

  -- ---- refusals

  wrong_at : (text : List ℕ) (e : ListingRefusal) (s : StopsIn next_raw numbered 1 Start (raw_lines text) e) → IsWrongAt (1 + length s.before) text
  wrong_at text e s =
      let grows = listings_grow texts in
      let front : through next_line Start (kept s.before) ≡ Ok s.state = sym (through_kept Start s.before) ∙ s.read in
      let found = read_found lines_of IsRead value_of Start next_line grows (kept s.before) s.state front in
      let refused = refused_kept s.state s.line s.why s.refused in
      let with_line : kept (s.before ++ s.line ∷ []) ≡ kept s.before ++ bare s.line ∷ [] = kept_append s.before (s.line ∷ []) ∙ ap (λ (ls : List (List ℕ)). kept s.before ++ ls) refused.1 in
      record {
        before = s.before;
        line = s.line;
        after = s.after;
        whole = s.parts;
        place = omega arith;
        front = read_begins (value_of s.state) (kept s.before) found.0 found.1;
        stops = λ begins. stops_there lines_of IsRead value_of Start next_line grows (kept s.before) (bare s.line) s.state s.why front refused.0
            (Some begins.0) begins.1 begins.2 (begins.3 ∙ ap (λ (ls : List (List ℕ)). ls ++ begins.1) with_line);
      }

  pub value_refused : (text : List ℕ) (e : ListingRefusal) → listing_value text ≡ Err e → IsRefused e text
  value_refused text e h =
      elim (bind_err (lines_read text) (λ s. whole_of (value_of s)) e h) [
        | inl refused ↦
            let s = stops_in next_raw numbered 1 Start (raw_lines text) e refused in
            let never : s.why ≡ stops.NoMemory → ⊥ = λ want. never_for_memory s.state (bare s.line) ((refused_kept s.state s.line s.why s.refused).0 ∙ ap (λ (w : LineStop). Err w) want) in
            shown_at text (1 + length s.before) s.why e s.shown never (inr (wrong_at text e s))
        | inr read ↦
            let missing = whole_missing (value_of read.0) e read.2 in
            let none : kept (raw_lines text) ≡ [] = sym (state_found text read.0 read.1).1 ∙ ap lines_of missing.0 in
            subst (λ (f : ListingRefusal). IsRefused f text) missing.1 (inl (refl, none))
      ]

  -- ---- one file

  pub one_listed_file : (v w : List FileChunk) → IsListable v → IsListable w → lines v ≡ lines w → v ≡ w
  one_listed_file v w one other same = same_Some v w (lines_unique lines_of IsRead value_of Start next_line (listings_grow texts) (Some v) (Some w) one other same)
