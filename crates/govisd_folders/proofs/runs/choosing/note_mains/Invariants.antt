use Rattle.std.proofs.Common.{◌≡◌, ◌++◌, drop, map}
use Rattle.std.specs.Prelude.{string_bytes}
use Rattle.std.specs.List.{flat_map}
use Rattle.govisd_folders.specs.runs.Choices.{main_line}
use Rattle.govisd_folders.proofs.runs.choosing.note_mains.Given as goal

abbrev pub invariant-loop-main : goal.invariant-loop-main
invariant-loop-main l = string_bytes l.fn.said ++ flat_map main_line (map (λ m. m.now) l.mains) ≡ string_bytes l.said ++ flat_map main_line (map (λ m. m.now) (drop l.main-index l.mains))
