-- Laws of the declarations of a package, as far as they are written.
use Rattle.std.specs.Prelude.{◌≡◌, ◌<◌, ℕ, true, List, Some, length, map, slice_get, All, Contains}
use Rattle.std.specs.List.{flat_map, enumerate_from}
use Rattle.go_tree_nodes.specs.declared.types.TypeName.{TypeName}
use Rattle.go_term_core.specs.decl_core.declared.keys.DeclKey.{DeclKey}
use Rattle.go_term_core.specs.decl_core.declared.keys.DeclRef.{DeclRef}
use Rattle.go_tree_nodes.specs.Trees.{TypeSpecTree}
use Rattle.go_term_core.specs.decl_core.TopDecls.{TopDeclTree, TypeForm, kind_of_form}
use Rattle.go_block_core.specs.Blocks.{BlocksModel}
use Rattle.go_term_core.specs.Terms.{term_keys}
use Rattle.go_handle_core.specs.table_core.Entries.{Entry, find_entry}
use Rattle.go_typexpr_core.specs.entry.Entries.{file_at, type_key}
use Rattle.go_typexpr_core.specs.entry.Laws.{IsDeclaredInFile}
use Rattle.go_typexpr_core.specs.entry.Meanings.{Shows, file_meaning}
use Rattle.go_typexpr_core.specs.entry.Outlines.{FileOutline, IsOutline}
use Rattle.go_declared_core.specs.Names.{names_faced}
use Rattle.go_declared_core.specs.Written.{WrittenOf, package_written, position_of, same_decl_place, written_of}
use Rattle.go_block_core.specs.Declarations.{decl_ref}

-- places

-- a declaration of a file stands in the list, as what it is there
pub record Stands (ws : List WrittenOf) (d : DeclRef) (w : WrittenOf) : Type 0 where
  pub place : ℕ
  pub there : slice_get ws place ≡ Some w
  pub found : position_of ws d ≡ Some place

-- something of the list is a declaration of a file
pub record IsOfFile (shows : Shows) (path : List ℕ) (b : BlocksModel) (es : List Entry) (os : List FileOutline) (w : WrittenOf) : Type 0 where
  pub file : ℕ
  pub outline : FileOutline
  pub decl : TopDeclTree
  pub there : IsDeclaredInFile os file outline decl
  pub is : w ≡ written_of (file_meaning shows path b file) (file_at path file outline) es decl

-- the declarations of the files of a package, in order, each with its file
pub record FileDecl : Type 0 where
  pub file : ℕ
  pub outline : FileOutline
  pub decl : TopDeclTree

abbrev pub file_decl : ℕ → FileOutline → TopDeclTree → FileDecl
file_decl n o d = record { file = n; outline = o; decl = d }

abbrev pub package_decls : List FileOutline → List FileDecl
package_decls os = flat_map (λ p. map (file_decl p.0 p.1) p.1.decls) (enumerate_from 0 os)

abbrev pub written_there : Shows → List ℕ → BlocksModel → List Entry → FileDecl → WrittenOf
written_there shows path b es d = written_of (file_meaning shows path b d.file) (file_at path d.file d.outline) es d.decl

-- each declaration of a file stands in the list at its position, what stands at a place is a declaration of a file with that position, and
-- each position is one of a declaration that stands there: so the list has as many as the files declare
pub record PositionsAreExact : Type 0 where
  pub listed : (shows : Shows) (path : List ℕ) (b : BlocksModel) (es : List Entry) (os : List FileOutline)
      → package_written shows path b es os ≡ map (written_there shows path b es) (package_decls os)
  pub declared : (shows : Shows) (path : List ℕ) (b : BlocksModel) (es : List Entry) (os : List FileOutline) (n : ℕ) (o : FileOutline) (d : TopDeclTree)
      → All IsOutline os → IsDeclaredInFile os n o d
      → Stands (package_written shows path b es os) (decl_ref n d.number (kind_of_form d.form)) (written_of (file_meaning shows path b n) (file_at path n o) es d)
  pub place : (shows : Shows) (path : List ℕ) (b : BlocksModel) (es : List Entry) (os : List FileOutline) (k : ℕ) (w : WrittenOf)
      → All IsOutline os → slice_get (package_written shows path b es os) k ≡ Some w
      → (position_of (package_written shows path b es os) w.decl ≡ Some k) × IsOfFile shows path b es os w
  pub position : (ws : List WrittenOf) (d : DeclRef) (k : ℕ)
      → position_of ws d ≡ Some k → (k < length ws) × ((w : WrittenOf) × (slice_get ws k ≡ Some w) × (same_decl_place w.decl d ≡ true))

-- what is looked at

-- names of types mean the same by two packages' shows and two packages' blocks, those that the declarations of the files write
abbrev pub MeanAlikeInFaces : (shows other : Shows) (path : List ℕ) (b c : BlocksModel) → List FileOutline → Type 0
MeanAlikeInFaces shows other path b c os =
    (n : ℕ) (o : FileOutline) (x : TypeName) → slice_get os n ≡ Some o → Contains (names_faced o) x → file_meaning shows path b n x ≡ file_meaning other path c n x

-- two tables have the same of the types that the files declare, and of those that these names mean
pub record LookAlike (shows : Shows) (path : List ℕ) (b : BlocksModel) (es fs : List Entry) (os : List FileOutline) : Type 0 where
  pub own : (n : ℕ) (o : FileOutline) (d : TopDeclTree) (t : TypeSpecTree) → IsDeclaredInFile os n o d → d.form ≡ TypeForm t
      → find_entry es (type_key (file_at path n o) d.number) ≡ find_entry fs (type_key (file_at path n o) d.number)
  pub named : (n : ℕ) (o : FileOutline) (x : TypeName) (k : DeclKey) → slice_get os n ≡ Some o → Contains (names_faced o) x
      → Contains (term_keys (file_meaning shows path b n x)) k → find_entry es k ≡ find_entry fs k

-- the faces depend on nothing else of blocks, of what other packages show and of the table
abbrev pub WrittenAreLocal : Type 0
WrittenAreLocal =
    (shows other : Shows) (path : List ℕ) (b c : BlocksModel) (es fs : List Entry) (os : List FileOutline)
    → MeanAlikeInFaces shows other path b c os → LookAlike shows path b es fs os → package_written shows path b es os ≡ package_written other path c fs os
