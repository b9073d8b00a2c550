-- Laws of types inside functions.
use Rattle.std.specs.Prelude.{◌≡◌, ℕ, List, Contains, Some}
use Rattle.go_tree_nodes.specs.Trees.{TypeTree, FuncTree, FileTree}
use Rattle.go_term_core.specs.decl_core.declared.keys.DeclKey.{DeclKey}
use Rattle.go_term_core.specs.decl_core.declared.places.DeclKind.{DeclKind}
use Rattle.go_term_core.specs.decl_core.TopDecls.{top_decls}
use Rattle.go_term_core.specs.declared.settling.kind.Kind.{Kind}
use Rattle.go_typexpr_core.specs.written.Written.{InFile, Meaning, member_place}
use Rattle.go_names_core.specs.local_core.Tables.{IsFuncPlaced}
use Rattle.go_inline_core.specs.Types.{inline_at}
use Rattle.go_tree_nodes.specs.Starts.{type_start}
use Rattle.go_inline_core.specs.Trees.{func_types, file_types, outline_types}
use Rattle.go_inline_core.specs.Inline.{inline_of, inlines, member_offset}
use Rattle.go_tree_nodes.specs.Spelling.{IsPlaced}

-- each of these types is found at its first byte with what it is
abbrev pub AreFound : List TypeTree → Type 0
AreFound ts = (kind : DeclKey → Kind) (f : InFile) (mean : Meaning) (t : TypeTree) → Contains ts t → inline_at (inlines kind f mean ts) (type_start t) ≡ Some (inline_of kind f mean t)

-- no two types of a function, or of the specifications of a file, begin at one offset, so that each is found; an outline lists the types of its
-- file; and the fault of a member stands at the member's identifier
pub record TypesAreFound : Type 0 where
  pub in_function : (f : FuncTree) → IsFuncPlaced f → AreFound (func_types f)
  pub in_file : (f : FileTree) → IsPlaced f → AreFound (file_types f)
  pub in_outline : (f : FileTree) → outline_types (top_decls f) ≡ file_types f
  pub offsets : (f : InFile) (kind : DeclKind) (offset : ℕ) → member_offset f.places (member_place f kind offset) ≡ offset
