-- What a call of the program leaves, by its status.
use Rattle.std.specs.Prelude.{◌≡◌, ℕ, ◌+◌, List, [], ◌∷◌, Option, IfSome, Any, ⊤, ◌⊎◌}
use Rattle.bk_port.specs.Causes.{Rose}
use Rattle.bk_port.specs.Known.{after_known}
use Rattle.bk_port.specs.Reading.{IsLeftAfter}
use Rattle.bk_port.specs.declared.reading.TheConstants.{MOST_BYTES}
use Rattle.bk_port.specs.Writing.{WritesPart}
use Rattle.beam_cli.specs.declared.status.Status.{Status}
use Rattle.beam_cli.specs.declared.refusal.Refusal.{Refusal}
use Rattle.beam_cli.specs.declared.status.Status.TheVariants.{Done, Refused, Usage, Grammar, ReadFault, WriteFault, TooLarge, NoMemory}
use Rattle.beam_cli.specs.Answer.{Answer}
use Rattle.beam_cli.specs.Reasons.{IsReason}
use Rattle.beam_cli.specs.Message.{line_about, refusal_text, usage_line, read_fault_line, write_fault_line, too_large_line, no_memory_line}

-- there is an output: the answer is no refusal
abbrev pub HasOutput : Answer → Type 0
HasOutput a = (a.status ≡ Done) ⊎ (a.status ≡ Refused)

-- the status is the answer's; an output that couldn't be written was there to be written, and read faults and want of memory are no part of an answer
abbrev pub IsStatus : Status → Option Answer → Type 0
IsStatus ReadFault answer = ⊤
IsStatus WriteFault answer = IfSome answer HasOutput
IsStatus NoMemory answer = ⊤
IsStatus status answer = IfSome answer (λ a. a.status ≡ status)

-- the whole output was written, or a front part of it where a write failed, or nothing
abbrev pub IsOutput : Status → Option (List ℕ) → Option (List ℕ) → Option Answer → Type 0
IsOutput Done old new answer = IfSome answer (λ a. new ≡ after_known old a.output)
IsOutput Refused old new answer = IfSome answer (λ a. new ≡ after_known old a.output)
IsOutput WriteFault old new answer = IfSome answer (λ a. WritesPart old new a.output)
IsOutput status old new answer = new ≡ old

-- the status is the answer's, or memory ran out, unless something failed
abbrev pub IsAnswered : Status → Option Answer → Type 0 → Type 0
IsAnswered status answer Failed = IfSome answer (λ a. (Failed → ⊥) → (status ≡ a.status) ⊎ (status ≡ NoMemory))

-- the faults of a file with one of the names rose
abbrev pub SomeRose : (List ℕ → ℕ) → (List ℕ → ℕ) → List (List ℕ) → Type 0
SomeRose before now names = Any (λ name. Rose (before name) (now name)) names

-- what is left of the host is as before, or what one of the names holds without some of its first bytes
abbrev pub SomeLeft : (List ℕ → Option (List ℕ)) → Option (List ℕ) → Option (List ℕ) → List (List ℕ) → Type 0
SomeLeft holds old new [] = new ≡ old
SomeLeft holds old new (name ∷ names) = IsLeftAfter (MOST_BYTES + 1) (holds name) old new ⊎ SomeLeft holds old new names

-- between two states of a sink the whole message was written, or a front part of it where the faults rose
abbrev pub IsSaid : {S : Type 0} → (S → Option (List ℕ)) → (S → ℕ) → S → S → List ℕ → Type 0
IsSaid written faults old new message =
    (written new ≡ after_known (written old) message) ⊎ (WritesPart (written old) (written new) message × Rose (faults old) (faults new))

-- a message that says why the file of one of the names is refused, which is never want of memory
abbrev pub SaysReason : (List ℕ → Type 0) → List (List ℕ) → Type 0
SaysReason Said names = Any (λ name. (e : Refusal) × IsReason e × Said (line_about name (refusal_text e))) names

-- one message for each status from 2 on, which says its cause, and none before
abbrev pub IsMessage : Status → Option Answer → (List ℕ → Type 0) → (List ℕ → Type 0) → List (List ℕ) → Type 0
IsMessage Done answer Said Faulty names = Said []
IsMessage Refused answer Said Faulty names = Said []
IsMessage ReadFault answer Said Faulty names = Any (λ name. Faulty name × Said (read_fault_line name)) names
IsMessage WriteFault answer Said Faulty names = Said write_fault_line
IsMessage NoMemory answer Said Faulty names = Said no_memory_line
IsMessage TooLarge answer Said Faulty names = Any (λ name. Said (too_large_line name)) names × IfSome answer (λ a. Said a.message)
IsMessage Grammar answer Said Faulty names = SaysReason Said names × IfSome answer (λ a. Said a.message)
IsMessage Usage answer Said Faulty names = Said usage_line × IfSome answer (λ a. Said a.message)
