-- The faces of aliases, worked out by hand.
use Rattle.std.specs.Prelude.{◌≡◌, ℕ, ◌+◌, List, [], ◌∷◌, Some, None, codes, if◌then◌else◌}
use Rattle.std.specs.Str.{bytes_eq}
use Rattle.go_tree_nodes.specs.declared.decls.ValueKind.TheVariants as value_kinds
use Rattle.go_tree_nodes.specs.declared.names.Ident.{Ident}
use Rattle.go_tree_nodes.specs.declared.types.TypeName.TheVariants as type_names
use Rattle.go_tree_nodes.specs.Trees.{One, NamedType, TypeTree, Types, Value, Single, TopTree}
use Rattle.go_tree_nodes.specs.Samples.{type_at, at, int_at, called, alias_of}
use Rattle.go_term_core.specs.decl_core.declared.places.DeclKind.TheVariants as kinds
use Rattle.go_term_core.specs.decl_core.Sample.{top}
use Rattle.go_block_core.specs.Blocks.{BlocksModel, blocks_model}
use Rattle.go_block_core.specs.Declarations.{decl_ref}
use Rattle.go_block_core.specs.declared.binding.Target.TheVariants as targets
use Rattle.go_term_core.specs.declared.term.Basic.TheVariants as basics
use Rattle.go_term_core.specs.Terms.{Predeclared, Defined}
use Rattle.go_typexpr_core.specs.entry.Meanings.{Shown}
use Rattle.go_typexpr_core.specs.entry.Outlines.{FileOutline, outline_of}
use Rattle.go_typexpr_core.specs.entry.Sample.{sample_file, type_top}
use Rattle.go_declared_core.specs.declared.face.Face.TheVariants as faces
use Rattle.go_declared_core.specs.Faces.{TheFace}
use Rattle.go_declared_core.specs.Here.{names_here}
use Rattle.go_declared_core.specs.Packages.{PackageFacesModel, package_faces}
use Rattle.go_declared_core.specs.Sample.{entry, face_sample_key, sample_table, sample_variable_face}
use Rattle.go_declared_core.specs.Written.{WrittenOf, package_written}

-- a declaration of one alias
abbrev pub alias_top : ℕ → Ident → ℕ → TypeTree → ℕ → TopTree
alias_top keyword name mark t semicolon = top (Types (record { keyword = at keyword; specs = Single (alias_of name mark t) })) semicolon

-- a name of the package that is imported as q
abbrev pub type_of_q : List ℕ → ℕ → TypeTree
type_of_q name n = NamedType (type_names.Qualified (called (codes "q") n) (at (n + 1)) (called name (n + 2)))

-- type T int; type A = T; type C = A; type B = M; type D = q.E; type F = q.G; var v C
abbrev pub alias_sample_tops : List TopTree
alias_sample_tops =
    type_top 3 (called (codes "T") 4) (int_at 5) 6
    ∷ (alias_top 7 (called (codes "A") 8) 9 (type_at (codes "T") 10) 11
    ∷ (alias_top 12 (called (codes "C") 13) 14 (type_at (codes "A") 15) 16
    ∷ (alias_top 17 (called (codes "B") 18) 19 (type_at (codes "M") 20) 21
    ∷ (alias_top 22 (called (codes "D") 23) 24 (type_of_q (codes "E") 25) 28
    ∷ (alias_top 29 (called (codes "F") 30) 31 (type_of_q (codes "G") 32) 35
    ∷ (top (Value (record { kind = value_kinds.Var; keyword = at 36; specs = Single (record { names = One (called (codes "v") 37); type_expr = Some (type_at (codes "C") 38); values = None }) })) 39
    ∷ []))))))

abbrev pub alias_sample_files : List FileOutline
alias_sample_files = outline_of (sample_file alias_sample_tops) ∷ []

-- the file imports a package q of the path r
abbrev pub alias_sample_blocks : BlocksModel
alias_sample_blocks = blocks_model
    ((codes "T", decl_ref 0 0 kinds.«Type») ∷ ((codes "A", decl_ref 0 1 kinds.«Type») ∷ ((codes "C", decl_ref 0 2 kinds.«Type») ∷ ((codes "B", decl_ref 0 3 kinds.«Type») ∷ ((codes "D", decl_ref 0 4 kinds.«Type») ∷ ((codes "F", decl_ref 0 5 kinds.«Type») ∷ ((codes "v", decl_ref 0 6 kinds.Var) ∷ [])))))))
    (((codes "q", record { at = 2; target = targets.«Package» (codes "r") }) ∷ []) ∷ []) []

-- that package declares an alias E of int, and no G
abbrev pub alias_sample_shown : Shown
alias_sample_shown = λ path name. if bytes_eq name (codes "E") then Some (decl_ref 0 0 kinds.«Type») else None

abbrev pub alias_sample_faces : List PackageFacesModel
alias_sample_faces = package_faces (codes "r") ((codes "E", Some (decl_ref 0 0 kinds.«Type»)) ∷ []) (record { decl = decl_ref 0 0 kinds.«Type»; face = faces.«Type» (Some (Predeclared basics.Int)) } ∷ []) ∷ []

abbrev pub alias_sample_list : List WrittenOf
alias_sample_list = package_written (names_here alias_sample_shown alias_sample_faces (codes "p") alias_sample_blocks alias_sample_files) (codes "p") alias_sample_blocks sample_table alias_sample_files

abbrev pub number_alone : TheFace
number_alone = faces.«Type» (Some (Defined face_sample_key))

-- an alias has the face of its target, also that of an alias and that of another package's alias; an alias of what is refused has no type
abbrev pub AliasFacesAreRight : Type 0
AliasFacesAreRight =
    alias_sample_list
    ≡ entry 0 0 kinds.«Type» (Some number_alone)
    ∷ (entry 0 1 kinds.«Type» (Some number_alone)
    ∷ (entry 0 2 kinds.«Type» (Some number_alone)
    ∷ (entry 0 3 kinds.«Type» (Some (faces.«Type» None))
    ∷ (entry 0 4 kinds.«Type» (Some (faces.«Type» (Some (Predeclared basics.Int))))
    ∷ (entry 0 5 kinds.«Type» (Some (faces.«Type» None))
    ∷ (entry 0 6 kinds.Var (sample_variable_face (Defined face_sample_key))
    ∷ []))))))
