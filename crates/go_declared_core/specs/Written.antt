-- The declarations of a package outside functions, as far as they are written.
--
-- docs/RULES.md, "Faces of declarations". The Go specification, "Type declarations", "Alias declarations", "Function declarations",
-- "Method declarations", "Variable declarations", "Constant declarations".
use Rattle.std.specs.Prelude.{◌≡◌, ℕ, suc, Bool, true, List, [], ◌∷◌, ◌&&◌, ◌||◌, Option, Some, None, nat_eq, nat_lt, map, slice_get, ⊤, if◌then◌else◌}
use Rattle.std.specs.List.{flat_map, enumerate_from}
use Rattle.std.specs.Option.{option_map}
use Rattle.go_tree_nodes.specs.declared.decls.ValueKind.{ValueKind}
use Rattle.go_tree_nodes.specs.declared.decls.ValueKind.TheVariants as value_kinds
use Rattle.go_collections_core.specs.text_core.declared.span.Span.{Span}
use Rattle.go_tree_nodes.specs.Trees.{TypeTree}
use Rattle.go_term_core.specs.decl_core.declared.keys.DeclRef.{DeclRef}
use Rattle.go_term_core.specs.decl_core.TopDecls.{TopDeclTree, FormTree, ValueForm, TypeForm, FuncForm, kind_of_form}
use Rattle.go_block_core.specs.Blocks.{BlocksModel}
use Rattle.go_term_core.specs.settling.Settled.{settled, settled_sign}
use Rattle.go_term_core.specs.Terms.{Term, Defined}
use Rattle.go_handle_core.specs.table_core.Entries.{Entry, find_entry}
use Rattle.go_typexpr_core.specs.written.Written.{InFile, Meaning, term_of, signature_of}
use Rattle.go_typexpr_core.specs.entry.Outlines.{FileOutline}
use Rattle.go_typexpr_core.specs.entry.Entries.{Meanings, file_at, package_meanings, type_key}
use Rattle.go_typexpr_core.specs.entry.Marks.{alias_mark}
use Rattle.go_typexpr_core.specs.entry.Meanings.{Shows}
use Rattle.go_handle_core.specs.deciding.Rules.{typed}
use Rattle.go_declared_core.specs.declared.face.Face.TheVariants as faces
use Rattle.go_declared_core.specs.Faces.{TheFace, variable_face}
use Rattle.go_block_core.specs.Declarations.{decl_ref}
use Rattle.go_handle_core.specs.table_core.Entries.{kinds_in}

-- a declaration with what it is as it is written, if that is written
pub record WrittenOf : Type 0 where
  pub decl : DeclRef
  pub face : Option TheFace

-- places in a list of declarations

-- a declaration of one file and number
abbrev pub same_decl_place : DeclRef → DeclRef → Bool
same_decl_place a b = nat_eq a.file b.file && nat_eq a.number b.number

-- the place of a declaration in the list, from 0: none where it does not stand there
abbrev pub position_of : List WrittenOf → DeclRef → Option ℕ
position_of [] d = None
position_of (w ∷ ws) d = if same_decl_place w.decl d then Some 0 else option_map suc (position_of ws d)

-- what stands at a place, and past the end nothing
abbrev pub face_found : Option WrittenOf → Option TheFace
face_found None = None
face_found (Some w) = w.face

abbrev pub written_at : List WrittenOf → ℕ → Option TheFace
written_at ws n = face_found (slice_get ws n)

-- declarations of a package rise by file, then by number there
abbrev pub IsDeclBefore : DeclRef → DeclRef → Type 0
IsDeclBefore a b = (nat_lt a.file b.file || (nat_eq a.file b.file && nat_lt a.number b.number)) ≡ true

abbrev pub DeclsRise : List DeclRef → Type 0
DeclsRise [] = ⊤
DeclsRise (d ∷ []) = ⊤
DeclsRise (d ∷ e ∷ ds) = IsDeclBefore d e × DeclsRise (e ∷ ds)

abbrev pub decls_of : List WrittenOf → List DeclRef
decls_of ws = map (λ w. w.decl) ws

-- what is written

-- a type that is written in a file, settled: none where it is no type
abbrev pub type_written : Meaning → InFile → List Entry → TypeTree → Option Term
type_written mean f es t = typed (find_entry es) (settled (kinds_in es) (term_of mean f t))

-- a constant follows from its initialiser, and so does a variable whose type is not written
abbrev pub value_as_written : Meaning → InFile → List Entry → ValueKind → Option TypeTree → Option TheFace
value_as_written mean f es value_kinds.Var (Some t) = Some (variable_face (type_written mean f es t))
value_as_written mean f es value_kinds.Var None = None
value_as_written mean f es value_kinds.Const t = None

-- a type that is declared in a file under a number: its key's, where that is a type
abbrev pub type_face : InFile → List Entry → ℕ → TheFace
type_face f es n = faces.«Type» (typed (find_entry es) (Defined (type_key f n)))

-- a type declaration: an alias is the type that its name means, settled, and what is no alias is its key's type
abbrev pub declared_face : Option Span → Meaning → InFile → List Entry → ℕ → TypeTree → TheFace
declared_face None mean f es n t = type_face f es n
declared_face (Some mark) mean f es n t = faces.«Type» (type_written mean f es t)

-- what a declaration is as it is written: a function and a method have the settled signature
abbrev pub form_as_written : Meaning → InFile → List Entry → ℕ → FormTree → Option TheFace
form_as_written mean f es n (ValueForm k v i) = value_as_written mean f es k v.type_expr
form_as_written mean f es n (TypeForm t) = Some (declared_face (alias_mark t) mean f es n t.type_expr)
form_as_written mean f es n (FuncForm g) = Some (faces.Func (settled_sign (kinds_in es) (signature_of mean f g.signature)))

abbrev pub written_of : Meaning → InFile → List Entry → TopDeclTree → WrittenOf
written_of mean f es d = record { decl = decl_ref f.file d.number (kind_of_form d.form); face = form_as_written mean f es d.number d.form }

-- the declarations of a file, in order of number
abbrev pub file_written : Meaning → InFile → List Entry → List TopDeclTree → List WrittenOf
file_written mean f es ds = map (written_of mean f es) ds

-- the declarations of the files of a package, in order of file and number
abbrev pub written_with : Meanings → List ℕ → List Entry → List FileOutline → List WrittenOf
written_with means path es os = flat_map (λ p. file_written (means p.0) (file_at path p.0 p.1) es p.1.decls) (enumerate_from 0 os)

-- the declarations of the package of a path outside functions, in order of file and number, as far as they are written: with these
-- blocks, where other packages show this, over a table of types
abbrev pub package_written : Shows → List ℕ → BlocksModel → List Entry → List FileOutline → List WrittenOf
package_written shows path b es os = written_with (package_meanings shows path b) path es os
