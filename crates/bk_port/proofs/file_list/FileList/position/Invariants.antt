use Rattle.std.proofs.Common.{◌≡◌, drop}
use Rattle.bk_port.specs.Listed.{bytes_held, is_listed}
use Rattle.bk_port.proofs.file_list.FileList.position.Given as goal

abbrev pub invariant-loop-place : goal.invariant-loop-place
invariant-loop-place l = record {
  bytes : bytes_held l.self l.name ≡ bytes_held (drop l.place l.self) l.name;
  listed : is_listed l.self l.name ≡ is_listed (drop l.place l.self) l.name;
}
