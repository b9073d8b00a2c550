-- What the imports of a file have.
--
-- docs/RULES.md, "Occurrences", "Imports". The Go specification, "Import declarations".
use Rattle.std.specs.Prelude.{ℕ, List, [], ◌∷◌}
use Rattle.go_tree_nodes.specs.Trees.{ImportSpecTree}
use Rattle.go_tree_core.specs.declared.occurrence.Role.TheVariants as roles
use Rattle.go_block_core.specs.declared.imports.Imported.{Imported}
use Rattle.go_block_core.specs.declared.imports.Imported.TheVariants as given
use Rattle.go_denote_core.specs.declared.things.Outcome.{Outcome}
use Rattle.go_denote_core.specs.declared.things.Outcome.TheVariants as outcomes
use Rattle.go_handle_core.specs.Declarations.{Declaration, Package}
use Rattle.go_body_core.specs.Notes.{TheUse}

-- the package of the path that an import comes to, or the rule that it breaks
abbrev pub import_outcome : Imported → Outcome Declaration (List ℕ)
import_outcome (given.«Package» e) = outcomes.Declared (Package e.path)
import_outcome (given.Refused rule) = outcomes.Refused rule

-- an import stands at its string
abbrev pub import_use : ImportSpecTree → Imported → TheUse
import_use s i = record { offset = s.path.span.start; role = roles.Import; outcome = import_outcome i }

-- imports, each with what it comes to
abbrev pub imports_uses : List ImportSpecTree → List Imported → List TheUse
imports_uses [] is = []
imports_uses (s ∷ ss) [] = []
imports_uses (s ∷ ss) (i ∷ is) = import_use s i ∷ imports_uses ss is
