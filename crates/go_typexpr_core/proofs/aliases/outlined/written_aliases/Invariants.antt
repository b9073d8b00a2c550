use Rattle.std.proofs.Common.{◌≡◌, map, take}
use Rattle.go_typexpr_core.specs.entry.Entries.{package_meanings}
use Rattle.go_typexpr_core.specs.entry.Meanings.{raw}
use Rattle.go_typexpr_core.specs.entry.Outlines.{outline_shown}
use Rattle.go_typexpr_core.specs.aliases.Outlined.{aliases_with}
use Rattle.go_typexpr_core.specs.aliases.Shown.{alias_shown}
use Rattle.go_typexpr_core.proofs.aliases.outlined.written_aliases.Given as goal

abbrev pub invariant-loop-file : goal.invariant-loop-file
invariant-loop-file g l = map alias_shown l.aliases.items ≡ aliases_with (package_meanings (raw (g.P.ImportedNames.shows l.fn.imported)) l.fn.path l.fn.blocks) l.fn.path (map outline_shown (take l.file l.outlines))
