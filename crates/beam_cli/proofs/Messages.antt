-- A stop has the message that its status asks for.
use Rattle.std.proofs.Common.{◌≡◌, ℕ, List, Option, Some, None, sym, ap, subst}
use Rattle.std.specs.Prelude.{Any, IfSome}
use Rattle.beam_cli.specs.declared.refusal.Refusal.{Refusal}
use Rattle.beam_cli.specs.declared.status.Status.{Status}
use Rattle.beam_cli.specs.declared.status.Status.TheVariants as statuses
use Rattle.beam_cli.specs.declared.stop.Stop.{Stop}
use Rattle.beam_cli.specs.declared.stop.Stop.TheVariants.{Grammar, ReadFault, TooLarge, NoMemory}
use Rattle.beam_cli.specs.Answer.{Answer, stopped}
use Rattle.beam_cli.specs.Message.{line_about, read_fault_line, refusal_text, too_large_line}
use Rattle.beam_cli.specs.Outcome.{IsMessage, SaysReason}
use Rattle.beam_cli.specs.Reasons.{IsReason}
use Rattle.beam_cli.specs.Stopping.{HasReason, message_of, status_of}

-- the answer's message, where the answer is told
said_answer : (answer : Option Answer) (Said : List ℕ → Type 0) (message : List ℕ) (status : Status) → IfSome answer (λ a. a ≡ stopped message status) → Said message → IfSome answer (λ a. Said a.message)
said_answer None Said message status reason said = tt
said_answer (Some a) Said message status reason said = subst Said (sym (ap (λ (b : Answer). b.message) reason)) said

said_faulty : (Said Faulty : List ℕ → Type 0) (name : List ℕ) (names : List (List ℕ)) → Any (λ n. (n ≡ name) × Faulty n) names → Said (read_fault_line name) → Any (λ n. Faulty n × Said (read_fault_line n)) names
said_faulty Said Faulty name names some said =
    (some.0, some.1, some.2, some.3, (some.4.1, subst (λ (n : List ℕ). Said (read_fault_line n)) (sym some.4.0) said))

said_about : (Said : List ℕ → Type 0) (name : List ℕ) (e : Refusal) (names : List (List ℕ)) → Any (λ n. n ≡ name) names → IsReason e → Said (line_about name (refusal_text e))
    → SaysReason Said names
said_about Said name e names some reason said =
    (some.0, some.1, some.2, some.3, (e, reason, subst (λ (n : List ℕ). Said (line_about n (refusal_text e))) (sym some.4) said))

said_large : (Said : List ℕ → Type 0) (name : List ℕ) (names : List (List ℕ)) → Any (λ n. n ≡ name) names → Said (too_large_line name) → Any (λ n. Said (too_large_line n)) names
said_large Said name names some said =
    (some.0, some.1, some.2, some.3, subst (λ (n : List ℕ). Said (too_large_line n)) (sym some.4) said)

pub message_at : (stop : Stop) (answer : Option Answer) (Said Faulty : List ℕ → Type 0) (names : List (List ℕ)) → HasReason answer Faulty names stop → Said (message_of stop)
    → IsMessage (status_of stop) answer Said Faulty names
message_at (Grammar name e) answer Said Faulty names reason said =
    (said_about Said name.now e names reason.0 reason.1 said, said_answer answer Said (message_of (Grammar name e)) statuses.Grammar reason.2 said)
message_at (ReadFault name) answer Said Faulty names reason said = said_faulty Said Faulty name.now names reason said
message_at (TooLarge name) answer Said Faulty names reason said =
    (said_large Said name.now names reason.0 said, said_answer answer Said (message_of (TooLarge name)) statuses.TooLarge reason.1 said)
message_at NoMemory answer Said Faulty names reason said = said
