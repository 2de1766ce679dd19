-- Why a command stopped before its output: the status, the message and the cause.
use Rattle.std.specs.Prelude.{◌≡◌, ◌<◌, ℕ, List, length, Option, IfSome, Any, ⊤}
use Rattle.beam_cli.specs.declared.status.Status.{Status}
use Rattle.beam_cli.specs.declared.status.Status.TheVariants as statuses
use Rattle.beam_cli.specs.declared.stop.Stop.{Stop}
use Rattle.beam_cli.specs.declared.stop.Stop.TheVariants.{Grammar, ReadFault, TooLarge, NoMemory}
use Rattle.bk_port.specs.declared.reading.TheConstants.{MOST_BYTES}
use Rattle.beam_cli.specs.Answer.{Answer, stopped}
use Rattle.beam_cli.specs.Files.{IsFirst, IsFirstTooLarge}
use Rattle.beam_cli.specs.Reasons.{IsReason}
use Rattle.beam_cli.specs.Message.{line_about, read_fault_line, too_large_line, no_memory_line, refusal_text}

abbrev pub status_of : Stop → Status
status_of (Grammar name e) = statuses.Grammar
status_of (ReadFault name) = statuses.ReadFault
status_of (TooLarge name) = statuses.TooLarge
status_of NoMemory = statuses.NoMemory

abbrev pub message_of : Stop → List ℕ
message_of (Grammar name e) = line_about name.now (refusal_text e)
message_of (ReadFault name) = read_fault_line name.now
message_of (TooLarge name) = too_large_line name.now
message_of NoMemory = no_memory_line

-- a named file stopped it, and the answer says so, where it is told; a read fault comes only of a file
-- whose faults rose
abbrev pub HasReason : Option Answer → (List ℕ → Type 0) → List (List ℕ) → Stop → Type 0
HasReason answer Faulty names (Grammar name e) = Any (λ n. n ≡ name.now) names × IsReason e × IfSome answer (λ a. a ≡ stopped (message_of (Grammar name e)) statuses.Grammar)
HasReason answer Faulty names (ReadFault name) = Any (λ n. (n ≡ name.now) × Faulty n) names
HasReason answer Faulty names (TooLarge name) = Any (λ n. n ≡ name.now) names × IfSome answer (λ a. a ≡ stopped (message_of (TooLarge name)) statuses.TooLarge)
HasReason answer Faulty names NoMemory = ⊤

-- a file was too large
abbrev pub IsTooLarge : Stop → Type 0
IsTooLarge (TooLarge name) = ⊤
IsTooLarge stop = ⊥

-- a file could not be read
abbrev pub IsReadFault : Stop → Type 0
IsReadFault (ReadFault name) = ⊤
IsReadFault stop = ⊥

-- why a file with this name, which may hold these bytes, could not be loaded
abbrev pub HasLoadReason : Option (List ℕ) → Type 0 → List ℕ → Stop → Type 0
HasLoadReason held Faulty name (Grammar other e) = ⊥
HasLoadReason held Faulty name (ReadFault other) = (other.now ≡ name) × Faulty
HasLoadReason held Faulty name (TooLarge other) = (other.now ≡ name) × IfSome held (λ all. MOST_BYTES < length all)
HasLoadReason held Faulty name NoMemory = ⊤

-- why the files with these names could not be loaded: the first that could not was faulty, or is too large
abbrev pub HasLoadReasons : (List ℕ → Option (List ℕ)) → (List ℕ → Type 0) → List (List ℕ) → Stop → Type 0
HasLoadReasons holds Faulty names (Grammar other e) = ⊥
HasLoadReasons holds Faulty names (ReadFault other) = IsFirst holds (λ n. (n ≡ other.now) × Faulty n) names
HasLoadReasons holds Faulty names (TooLarge other) = IsFirstTooLarge holds names other.now
HasLoadReasons holds Faulty names NoMemory = ⊤
