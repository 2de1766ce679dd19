-- The rows that have roles have few of them, and whatever fits into the numbers of their plans.
use Rattle.std.proofs.Common.{◌≡◌, ℕ, ◌<◌, Bool, true, false, ltb, ◌&&◌, length, Some, refl}
use Rattle.std.specs.List.{list_all}
use Rattle.std.proofs.lemmas.Bool.{and_parts, ltb-true}
use Rattle.op_table.specs.Table.{Row, table, row_with}
use Rattle.op_table.specs.Layouts.{layout_of}
use Rattle.op_table.specs.Planned.{layout_fits}
use Rattle.op_table.specs.Planning.{called}
use Rattle.op_table.proofs.Collected.{passes, layout_passes}

all_fit : list_all (passes (λ rs l. ltb (length rs) 256 && layout_fits rs l)) table ≡ true
unfolding table
all_fit = refl

parts : (op : ℕ) (r : Row) → row_with op ≡ Some r → (ends : Bool) → (ltb (length r.roles) 256 ≡ true) × (layout_fits r.roles (layout_of (called r.form ends)) ≡ true)
parts op r found ends = and_parts _ _ (layout_passes (λ rs l. ltb (length rs) 256 && layout_fits rs l) all_fit op r found ends)

pub few_roles : (op : ℕ) (r : Row) → row_with op ≡ Some r → length r.roles < 256
few_roles op r found = ltb-true _ _ (parts op r found false).0

pub fitting : (op : ℕ) (r : Row) → row_with op ≡ Some r → (ends : Bool) → layout_fits r.roles (layout_of (called r.form ends)) ≡ true
fitting op r found ends = (parts op r found ends).1
