-- What is written for `asm` and `disasm`, where the file holds a listing or is a file of a value.
use Rattle.std.proofs.Common.{◌≡◌, ℕ, false, List, [], ◌∷◌, codes, Option, Some, Ok, refl, sym, ap, subst, ◌∙◌, inl, inr}
use Rattle.std.specs.Prelude.{IfSome, length, nat_lt}
use Rattle.std.proofs.lemmas.Bool.{cases_Bool}
use Rattle.bk_codec.specs.Spelling.{IsBytes}
use Rattle.bk_port.specs.Known.{after_known}
use Rattle.bk_port.specs.declared.reading.TheConstants.{MOST_BYTES}
use Rattle.beam_module.specs.Canonical.{canonical_file}
use Rattle.beam_module.specs.File.{FileChunk, IsFile}
use Rattle.listing_out.specs.Comments.{commented_listing}
use Rattle.listing_out.specs.Listable.{IsListable}
use Rattle.listing_out.specs.Listing.{IsListing}
use Rattle.beam_cli.specs.declared.command.Command.{Command}
use Rattle.beam_cli.specs.declared.command.Command.TheVariants.{Asm, Disasm}
use Rattle.beam_cli.specs.declared.status.Status.{Status}
use Rattle.beam_cli.specs.declared.status.Status.TheVariants as statuses
use Rattle.beam_cli.specs.Answer.{Answer, answer, asm_output, disasm_output, made, output_of, stopped}
use Rattle.beam_cli.specs.Made.{plain}
use Rattle.beam_cli.specs.Message.{too_large_line, usage_line}
use Rattle.beam_cli.specs.Outcome.{IsOutput, IsStatus}
use Rattle.beam_cli.specs.RoundTrip.{Assembles, Lists}
use Rattle.beam_cli.specs.Words.{command_by, is_name}

-- the answer refuses no file for its grammar, and where it is an output, this text is it
record Prints (text : List ℕ) (a : Option Answer) : Type 0 where
  given : Answer
  is : a ≡ Some given
  accepted : given.status ≡ statuses.Grammar → ⊥
  output : given.status ≡ statuses.Done → given.output ≡ text

asm_by : command_by (codes "asm") ≡ Some Asm
unfolding command_by
asm_by = refl

disasm_by : command_by (codes "disasm") ≡ Some Disasm
unfolding command_by
disasm_by = refl

-- a command on one file prints the text that is its output of it; the word may name no file, and the file may be too large
answer_prints : (holds : List ℕ → Option (List ℕ)) (word name bytes text : List ℕ) (command : Command) → command_by word ≡ Some command → holds name ≡ Some bytes
    → output_of command (record { name = name; bytes = bytes } ∷ []) ≡ plain text → Prints text (answer holds (word ∷ name ∷ []))
answer_prints holds word name bytes text command by held is =
    elim (cases_Bool (is_name name)) [
      | inl named ↦ elim (cases_Bool (nat_lt MOST_BYTES (length bytes))) [
        | inl large ↦ record { given = stopped (too_large_line name) statuses.TooLarge; is = rw (by, named, held, large) refl; accepted = λ same. absurd cc; output = λ same. absurd cc }
        | inr small ↦ record { given = made (record { text = text; found = false }); is = rw (by, named, held, small, is) refl; accepted = λ same. absurd cc; output = λ done. refl }
      ]
      | inr none ↦ record { given = stopped usage_line statuses.Usage; is = rw (by, none) refl; accepted = λ same. absurd cc; output = λ same. absurd cc }
    ]

module _ (text : List ℕ) (a : Option Answer) (status : Status) (prints : Prints text a) (says : IsStatus status a) where
  not_refused : status ≡ statuses.Grammar → ⊥
  not_refused refused =
      let at : IfSome a (λ (b : Answer). b.status ≡ statuses.Grammar) = subst (λ (s : Status). IsStatus s a) refused says in
      prints.accepted (subst (λ (o : Option Answer). IfSome o (λ (b : Answer). b.status ≡ statuses.Grammar)) prints.is at)

  written : (old new : Option (List ℕ)) → IsOutput status old new a → status ≡ statuses.Done → new ≡ after_known old text
  written old new out done =
      let at : IfSome a (λ (b : Answer). b.status ≡ statuses.Done) = subst (λ (s : Status). IsStatus s a) done says in
      let put : IfSome a (λ (b : Answer). new ≡ after_known old b.output) = subst (λ (s : Status). IsOutput s old new a) done out in
      subst (λ (o : Option Answer). IfSome o (λ (b : Answer). new ≡ after_known old b.output)) prints.is put
      ∙ ap (after_known old) (prints.output (subst (λ (o : Option Answer). IfSome o (λ (b : Answer). b.status ≡ statuses.Done)) prints.is at))

pub assembles : ((text : List ℕ) (v : List FileChunk) → IsListable v → IsListing v text → asm_output text ≡ Ok (canonical_file v))
    → (holds : List ℕ → Option (List ℕ)) (words : List (List ℕ)) (status : Status) (old new : Option (List ℕ)) → IsStatus status (answer holds words) → IsOutput status old new (answer holds words)
    → Assembles holds words status old new
assembles law holds words status old new says out name text v words_are held able listing =
    let read = law text v able listing in
    let prints = answer_prints holds (codes "asm") name text (canonical_file v) Asm asm_by held (rw read refl) in
    let here : Prints (canonical_file v) (answer holds words) = subst (λ (w : List (List ℕ)). Prints (canonical_file v) (answer holds w)) (sym words_are) prints in
    (not_refused (canonical_file v) (answer holds words) status here says, written (canonical_file v) (answer holds words) status here says old new out)

pub lists : ((bytes : List ℕ) (v : List FileChunk) → IsBytes bytes → IsFile v bytes → (disasm_output bytes ≡ Ok (commented_listing v)) × IsListable v × IsListing v (commented_listing v))
    → (holds : List ℕ → Option (List ℕ)) (words : List (List ℕ)) (status : Status) (old new : Option (List ℕ)) → IsStatus status (answer holds words) → IsOutput status old new (answer holds words)
    → Lists holds words status old new
lists law holds words status old new says out name bytes v words_are held fits is =
    let l = law bytes v fits is in
    let text : List ℕ = commented_listing v in
    let prints = answer_prints holds (codes "disasm") name bytes text Disasm disasm_by held (rw l.0 refl) in
    let here : Prints text (answer holds words) = subst (λ (w : List (List ℕ)). Prints text (answer holds w)) (sym words_are) prints in
    (l.1, not_refused text (answer holds words) status here says, λ done. record { text = text; listing = l.2; written = written text (answer holds words) status here says old new out done })
