-- What is asked of a name in turn.
use Rattle.std.specs.Prelude.{ℕ, Bool, ◌&&◌, not, List, Option, Some, None, map, string_bytes}
use Rattle.std.specs.Borrow.{Bor}
use Rattle.std.specs.declared.string.String.{String}
use Rattle.std.specs.Global.{Global}
use Rattle.go_tree_nodes.specs.text_core.Text.{is_blank}
use Rattle.go_tree_nodes.specs.declared.usage.Usage.{Usage}
use Rattle.go_term_core.specs.decl_core.declared.keys.DeclKey.{DeclKey}
use Rattle.go_inline_core.specs.block_core.declared.binding.Target.{Target}
use Rattle.go_inline_core.specs.block_core.declared.binding.Target.TheVariants as targets
use Rattle.go_inline_core.specs.scope_core.Scopes.{Denoted, Universe, Package, File, Local}
use Rattle.go_summary_core.specs.declared_core.Packages.{PackageFacesModel, shown_by}
use Rattle.go_candidate_core.specs.fitting.Fitting.{fits_shown}

-- the declaration that a dot import binds
abbrev pub key_of_target : Target → Option DeclKey
key_of_target (targets.«Package» path) = None
key_of_target (targets.Refused rule) = None
key_of_target (targets.Exported k) = Some k

abbrev pub key_at : Option Denoted → Option DeclKey
key_at None = None
key_at (Some (Universe p)) = None
key_at (Some (Package d)) = None
key_at (Some (File b)) = key_of_target b.target
key_at (Some (Local id)) = None

-- what a package itself shows may stand so
abbrev pub fits_name : PackageFacesModel → Usage → List ℕ → Bool
fits_name p u name = not (is_blank name) && fits_shown u (shown_by p name)
