-- How many steps the judgement of a module takes: bounds over its functions.
use Rattle.std.specs.Prelude.{ℕ, zero, suc, ◌+◌, ◌*◌, Option, Some, None, List, [], ◌∷◌, length, slice_get}
use Rattle.func_split.specs.Functions.{Piece}
use Rattle.beam_module.specs.Module.{ModuleValue}
use Rattle.code_faults.specs.declared.fault.Fault.{Fault}
use Rattle.code_faults.specs.Faults.{function_faults}
use Rattle.flow_rules.specs.Ranks.{height}
use Rattle.flow_rules.specs.Reports.{body_in}
use Rattle.flow_rules.specs.Starts.{block_count}

-- the sum of the first so many
abbrev pub summed : (ℕ → ℕ) → ℕ → ℕ
summed f zero = 0
summed f (suc n) = summed f n + f n

-- where there are no faults
abbrev pub if_sound : List Fault → ℕ → ℕ
if_sound [] n = n
if_sound (fault ∷ faults) n = 0

-- of a function without faults of opcodes and operands: how many blocks it has, times 4 and three times its X registers and twice the slots of its widest frame
abbrev pub most_of : ModuleValue → ℕ → Option Piece → ℕ
most_of m number None = 0
most_of m number (Some f) = if_sound (function_faults m number f) (block_count f * height (body_in m f).bounds)

-- of a function without faults of opcodes and operands: one
abbrev pub least_of : ModuleValue → ℕ → Option Piece → ℕ
least_of m number None = 0
least_of m number (Some f) = if_sound (function_faults m number f) 1

-- of all functions together
abbrev pub most_steps : ModuleValue → ℕ
most_steps m = summed (λ number. most_of m number (slice_get m.code.functions number)) (length m.code.functions)

abbrev pub least_steps : ModuleValue → ℕ
least_steps m = summed (λ number. least_of m number (slice_get m.code.functions number)) (length m.code.functions)
