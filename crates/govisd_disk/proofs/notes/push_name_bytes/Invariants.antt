use Rattle.std.proofs.Common.{◌≡◌, ◌++◌, flat_map, take}
use Rattle.std.specs.Prelude.{string_bytes}
use Rattle.govisd_disk.specs.Notes.{name_byte}
use Rattle.govisd_disk.proofs.notes.push_name_bytes.Given as goal

abbrev pub invariant-loop-byte : goal.invariant-loop-byte
invariant-loop-byte l = string_bytes l.text ≡ string_bytes l.initial.text ++ flat_map name_byte (take l.byte-index l.name)
