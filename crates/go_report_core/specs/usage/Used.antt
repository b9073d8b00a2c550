-- Which imports of a file are used.
--
-- docs/RULES.md, "Imports that are not used". The Go specification, "Import declarations", "Qualified identifiers".
use Rattle.std.specs.Prelude.{ℕ, Bool, true, false, ◌&&◌, not, nat_eq, List, [], ◌∷◌, ◌++◌, map, Option, Some, None, slice_get, if◌then◌else◌}
use Rattle.std.specs.List.{list_any, flat_map}
use Rattle.std.specs.Str.{bytes_eq}
use Rattle.go_path_core.specs.text_core.Text.{is_blank}
use Rattle.go_path_core.specs.text_core.declared.rule.Rule.TheVariants.{I7}
use Rattle.go_tree_nodes.specs.declared.files.ImportName.{ImportName}
use Rattle.go_tree_nodes.specs.declared.files.ImportName.TheVariants as written
use Rattle.go_tree_nodes.specs.Trees.{FileTree, ImportSpecTree}
use Rattle.go_tree_core.specs.declared.occurrence.Role.{Role}
use Rattle.go_tree_core.specs.declared.occurrence.Role.TheVariants as roles
use Rattle.go_tree_core.specs.declared.occurrence.Occ.{Occ}
use Rattle.go_tree_core.specs.Occurrences.{file_occs}
use Rattle.go_term_core.specs.decl_core.declared.keys.DeclRef.{DeclRef}
use Rattle.go_term_core.specs.declared.term.MemberPlace.{MemberPlace}
use Rattle.go_term_core.specs.declared.term.MemberPlace.TheVariants as member
use Rattle.go_block_core.specs.declared.binding.Binding.{Binding}
use Rattle.go_block_core.specs.declared.binding.Target.{Target}
use Rattle.go_block_core.specs.declared.binding.Target.TheVariants as targets
use Rattle.go_block_core.specs.Blocks.{BlocksModel, file_binding}
use Rattle.go_block_core.specs.Naming.{file_specs}
use Rattle.go_summary_core.specs.handle_core.Declarations.{Declaration, Universe, OfError, Package, InFile}
use Rattle.go_expr_core.specs.denote_core.declared.things.Outcome.{Outcome}
use Rattle.go_expr_core.specs.denote_core.declared.things.Outcome.TheVariants as outcomes
use Rattle.go_expr_core.specs.declared.things.Use.{Use}
use Rattle.go_summary_core.specs.declared_core.Written.{same_decl_place}

abbrev pub TheOutcome : Type 0
TheOutcome = Outcome Declaration (List ℕ)

-- what an occurrence has
abbrev pub FileUse : Type 0
FileUse = Use Declaration (List ℕ)

-- a name that is looked up: of a type, an operand, what is called, or what stands left of a dot
abbrev pub is_name_role : Role → Bool
is_name_role roles.Import = false
is_name_role roles.«Type» = true
is_name_role roles.«Value» = true
is_name_role roles.Callee = true
is_name_role roles.Qualifier = true
is_name_role (roles.Selector usage) = false
is_name_role roles.Key = false
is_name_role roles.Call = false

abbrev pub is_qualifier : Role → Bool
is_qualifier roles.Qualifier = true
is_qualifier roles.Import = false
is_qualifier roles.«Type» = false
is_qualifier roles.«Value» = false
is_qualifier roles.Callee = false
is_qualifier (roles.Selector usage) = false
is_qualifier roles.Key = false
is_qualifier roles.Call = false

abbrev pub is_import : Role → Bool
is_import roles.Import = true
is_import roles.Qualifier = false
is_import roles.«Type» = false
is_import roles.«Value» = false
is_import roles.Callee = false
is_import (roles.Selector usage) = false
is_import roles.Key = false
is_import roles.Call = false

-- the declaration is a package
abbrev pub is_package_decl : Declaration → Bool
is_package_decl (Package path) = true
is_package_decl (Universe name) = false
is_package_decl OfError = false
is_package_decl (InFile path place) = false

abbrev pub is_package_outcome : TheOutcome → Bool
is_package_outcome (outcomes.Declared d) = is_package_decl d
is_package_outcome (outcomes.Selected d path) = false
is_package_outcome (outcomes.Refused rule) = false

-- what an occurrence has is a declaration
abbrev pub is_declared : TheOutcome → Bool
is_declared (outcomes.Declared d) = true
is_declared (outcomes.Selected d path) = true
is_declared (outcomes.Refused rule) = false

-- the binding is one of a dot import, of this declaration of the package of a path
abbrev pub is_exported : Target → List ℕ → DeclRef → Bool
is_exported (targets.«Package» p) path d = false
is_exported (targets.Refused rule) path d = false
is_exported (targets.Exported k) path d = same_decl_place k.decl d && bytes_eq k.path path

abbrev pub is_target_place : Target → List ℕ → MemberPlace → Bool
is_target_place t path (member.Declared d) = is_exported t path d
is_target_place t path (member.Local l) = false

abbrev pub is_target_decl : Target → Declaration → Bool
is_target_decl t (InFile path place) = is_target_place t path place
is_target_decl t (Package path) = false
is_target_decl t (Universe name) = false
is_target_decl t OfError = false

-- what an occurrence has is the declaration that a dot import binds
abbrev pub is_target_outcome : Target → TheOutcome → Bool
is_target_outcome t (outcomes.Declared d) = is_target_decl t d
is_target_outcome t (outcomes.Selected d path) = false
is_target_outcome t (outcomes.Refused rule) = false

-- the occurrence behind another has a declaration
abbrev pub has_next : Option FileUse → Bool
has_next None = false
has_next (Some u) = is_declared u.outcome

-- whether a name uses the import that binds it so: by the package left of a dot, where the selector behind it has a declaration, or by a declaration
-- that a dot import binds
abbrev pub uses_binding : Target → Role → TheOutcome → Option FileUse → Bool
uses_binding t r o next = if is_package_outcome o then is_qualifier r && has_next next else is_target_outcome t o

abbrev pub used_if : Option Binding → Role → TheOutcome → Option FileUse → List ℕ
used_if None r o next = []
used_if (Some b) r o next = if uses_binding b.target r o next then b.at ∷ [] else []

-- the place of the import that an occurrence of the file of a number uses, if it uses one
abbrev pub used_by : BlocksModel → ℕ → Occ → FileUse → Option FileUse → List ℕ
used_by b file o u next = if is_name_role o.role then used_if (file_binding b file o.spelling) o.role u.outcome next else []

-- the places of the imports that occurrences use, where each has what stands at its place
abbrev pub used_places : BlocksModel → ℕ → List Occ → List FileUse → List ℕ
used_places b file [] us = []
used_places b file (o ∷ os) [] = []
used_places b file (o ∷ os) (u ∷ us) = used_by b file o u (slice_get us 0) ++ used_places b file os us

-- an import with the name `_` need not be used
abbrev pub is_blank_name : ImportName → Bool
is_blank_name written.Own = false
is_blank_name (written.Named id) = is_blank id.name
is_blank_name (written.Dot dot) = false

abbrev pub blank_place : ImportSpecTree → List ℕ
blank_place s = if is_blank_name s.name then s.path.span.start ∷ [] else []

abbrev pub blank_places : FileTree → List ℕ
blank_places f = flat_map blank_place (file_specs f)

-- an import that breaks no other rule breaks I7
abbrev pub unused_outcome : TheOutcome → TheOutcome
unused_outcome (outcomes.Declared d) = outcomes.Refused I7
unused_outcome (outcomes.Selected d path) = outcomes.Refused I7
unused_outcome (outcomes.Refused rule) = outcomes.Refused rule

abbrev pub refused_use : FileUse → FileUse
refused_use u = record { offset = u.offset; role = u.role; outcome = unused_outcome u.outcome }

-- what an occurrence has, where the imports at these places are used or need not be
abbrev pub judged_import : List ℕ → FileUse → FileUse
judged_import places u = if is_import u.role && not (list_any (λ place. nat_eq place u.offset) places) then refused_use u else u

-- what the occurrences of the file of a number and a tree have, by what they have where each import may stand unused
abbrev pub without_unused : BlocksModel → ℕ → FileTree → List FileUse → List FileUse
without_unused b file f us = map (judged_import (blank_places f ++ used_places b file (file_occs f) us)) us
