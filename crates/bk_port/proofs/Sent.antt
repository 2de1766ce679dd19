use Rattle.std.specs.Prelude.{◌≡◌, List, ℕ, ◌++◌, Option}
use Rattle.std.proofs.Common.{ap, sym, ◌∙◌, append_assoc}
use Rattle.bk_port.specs.Known.{after_known}
use Rattle.bk_port.specs.Writing.{WritesPart}
use Rattle.bk_port.proofs.KnownBytes.{after_known-append}

-- a front part of the bytes was written, and the rest is still to be
pub record Sent (old new : Option (List ℕ)) (bytes rest : List ℕ) : Type 0 where
  pub part : List ℕ
  pub whole : bytes ≡ part ++ rest
  pub written : new ≡ after_known old part

-- one more piece was written
pub sent_more : (old new newer : Option (List ℕ)) (bytes rest piece next : List ℕ) → Sent old new bytes rest → newer ≡ after_known new piece → rest ≡ piece ++ next → Sent old newer bytes next
sent_more old new newer bytes rest piece next sent more is_next = record {
  part = sent.part ++ piece;
  whole = sent.whole ∙ ap (λ l. sent.part ++ l) is_next ∙ sym (append_assoc sent.part piece next);
  written = more ∙ ap (λ o. after_known o piece) sent.written ∙ after_known-append old sent.part piece;
}

-- a part of one more piece was written
pub sent_some : (old new newer : Option (List ℕ)) (bytes rest piece next : List ℕ) → Sent old new bytes rest → WritesPart new newer piece → rest ≡ piece ++ next → WritesPart old newer bytes
sent_some old new newer bytes rest piece next sent some is_next = record {
  part = sent.part ++ some.part;
  rest = some.rest ++ next;
  whole = sent.whole ∙ ap (λ l. sent.part ++ l) (is_next ∙ ap (λ l. l ++ next) some.whole ∙ append_assoc some.part some.rest next) ∙ sym (append_assoc sent.part some.part (some.rest ++ next));
  written = some.written ∙ ap (λ o. after_known o some.part) sent.written ∙ after_known-append old sent.part some.part;
}
