-- What it says of a file that `validate` accepts it.
use Rattle.std.specs.Prelude.{◌≡◌, ℕ, List, [], ◌∷◌, codes, Option, Some}
use Rattle.bk_codec.specs.Spelling.{IsBytes}
use Rattle.beam_module.specs.Module.{IsModule, ModuleValue}
use Rattle.flow_rules.specs.Runs.{NeverStuck}
use Rattle.beam_cli.specs.declared.status.Status.{Status}
use Rattle.beam_cli.specs.declared.status.Status.TheVariants.{Done}

-- the bytes are a module, no run of which is ever stuck
pub record IsSafe (bytes : List ℕ) : Type 0 where
  pub module_is : ModuleValue
  pub opened : IsModule module_is bytes
  pub never_stuck : (m : ModuleValue) → IsModule m bytes → NeverStuck m

-- a file that `validate` finds nothing wrong with is safe
abbrev pub Accepts : (List ℕ → Option (List ℕ)) → List (List ℕ) → Status → Type 0
Accepts holds words status = (name bytes : List ℕ) → words ≡ codes "validate" ∷ name ∷ [] → holds name ≡ Some bytes → IsBytes bytes → status ≡ Done → IsSafe bytes
