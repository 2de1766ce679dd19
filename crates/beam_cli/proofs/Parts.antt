-- A message is written in parts: what one part leaves undone, the message leaves undone.
use Rattle.std.proofs.Common.{◌≡◌, ℕ, ◌≤◌, List, [], ◌++◌, Option, sym, ap, ◌∙◌, inl, inr, append_assoc, arith}
use Rattle.std.specs.Prelude.{codes}
use Rattle.bk_port.specs.Causes.{Rose}
use Rattle.bk_port.specs.Known.{after_known}
use Rattle.bk_port.specs.Writing.{WritesPart}
use Rattle.bk_port.proofs.KnownBytes.{after_known-append}
use Rattle.beam_cli.specs.Message.{line_about}
use Rattle.beam_cli.specs.Outcome.{IsSaid}

module _ {S : Type 0} (written : S → Option (List ℕ)) (faults : S → ℕ) where
  -- a first part was written in part alone
  pub said_part : (old new : S) (first rest : List ℕ) → WritesPart (written old) (written new) first → Rose (faults old) (faults new) → IsSaid written faults old new (first ++ rest)
  said_part old new first rest part rose = inr (
    record {
      part = part.part;
      rest = part.rest ++ rest;
      whole = ap (λ (t : List ℕ). t ++ rest) part.whole ∙ append_assoc part.part part.rest rest;
      written = part.written;
    },
    rose,
  )

  -- a first part was written, and then a second one was said
  pub said_then : (old between new : S) (first rest : List ℕ) → written between ≡ after_known (written old) first → faults old ≤ faults between
      → IsSaid written faults between new rest → IsSaid written faults old new (first ++ rest)
  said_then old between new first rest is later (inl whole) =
      inl (whole ∙ ap (λ (o : Option (List ℕ)). after_known o rest) is ∙ after_known-append (written old) first rest)
  said_then old between new first rest is later (inr some) = inr (
    record {
      part = first ++ some.0.part;
      rest = some.0.rest;
      whole = ap (λ (t : List ℕ). first ++ t) some.0.whole ∙ sym (append_assoc first some.0.part some.0.rest);
      written = some.0.written ∙ ap (λ (o : Option (List ℕ)). after_known o some.0.part) is ∙ after_known-append (written old) first some.0.part;
    },
    omega (arith, some.1, later),
  )

-- a message about a file is its lead and the rest of it
pub line_parts : (name text : List ℕ) → (codes "beamkit: " ++ (name ++ (codes ": " ++ []))) ++ (text ++ codes "\n") ≡ line_about name text
line_parts name text =
    append_assoc (codes "beamkit: ") (name ++ (codes ": " ++ [])) (text ++ codes "\n")
    ∙ ap (λ (t : List ℕ). codes "beamkit: " ++ t)
    (append_assoc name (codes ": ") (text ++ codes "\n")
    ∙ ap (λ (t : List ℕ). name ++ t) (sym (append_assoc (codes ": ") text (codes "\n")))
    ∙ sym (append_assoc name (codes ": " ++ text) (codes "\n")))
