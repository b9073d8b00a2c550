-- The aliases that the files of a package declare, and what its names mean with their targets.
use Rattle.std.specs.Prelude.{ℕ, List, [], ◌∷◌, Option, Some, None}
use Rattle.std.specs.List.{flat_map, enumerate_from}
use Rattle.go_path_core.specs.text_core.declared.span.Span.{Span}
use Rattle.go_tree_nodes.specs.Trees.{TypeSpecTree}
use Rattle.go_term_core.specs.decl_core.declared.keys.DeclKey.{DeclKey}
use Rattle.go_term_core.specs.decl_core.declared.keys.DeclRef.{DeclRef}
use Rattle.go_term_core.specs.decl_core.declared.places.DeclKind.TheVariants as kinds
use Rattle.go_term_core.specs.Terms.{Term}
use Rattle.go_scope_core.specs.block_core.Blocks.{BlocksModel}
use Rattle.go_scope_core.specs.block_core.Declarations.{decl_ref}
use Rattle.go_term_core.specs.decl_core.TopDecls.{TopDeclTree, FormTree, ValueForm, TypeForm, FuncForm}
use Rattle.go_typexpr_core.specs.written.Written.{InFile, Meaning, term_of}
use Rattle.go_typexpr_core.specs.entry.Entries.{Meanings, file_at, package_meanings}
use Rattle.go_typexpr_core.specs.entry.Marks.{alias_mark}
use Rattle.go_typexpr_core.specs.entry.Meanings.{Shown, Shows, declared_alone}
use Rattle.go_typexpr_core.specs.entry.Outlines.{FileOutline}
use Rattle.go_typexpr_core.specs.aliases.Aliases.{alias_ends, target_by}

abbrev pub alias_if : Option Span → DeclRef × Term → List (DeclRef × Term)
alias_if None a = []
alias_if (Some mark) a = a ∷ []

-- a type declaration as an alias: with the type that the name behind its `=` means
abbrev pub alias_spec : Meaning → InFile → TopDeclTree → TypeSpecTree → DeclRef × Term
alias_spec mean f d t = (decl_ref f.file d.number kinds.«Type», term_of mean f t.type_expr)

-- the alias that a declaration declares
abbrev pub alias_of : Meaning → InFile → TopDeclTree → FormTree → List (DeclRef × Term)
alias_of mean f d (ValueForm k v i) = []
alias_of mean f d (TypeForm t) = alias_if (alias_mark t) (alias_spec mean f d t)
alias_of mean f d (FuncForm g) = []

-- the aliases of a file, in order of number
abbrev pub file_aliases : Meaning → InFile → List TopDeclTree → List (DeclRef × Term)
file_aliases mean f ds = flat_map (λ d. alias_of mean f d d.form) ds

-- the aliases of the files of a package, in order of file and number
abbrev pub aliases_with : Meanings → List ℕ → List FileOutline → List (DeclRef × Term)
aliases_with means path os = flat_map (λ p. file_aliases (means p.0) (file_at path p.0 p.1) p.1.decls) (enumerate_from 0 os)

-- the aliases that the package of a path declares, where each name means the declaration that it denotes
abbrev pub written_aliases : Shown → List ℕ → BlocksModel → List FileOutline → List (DeclRef × Term)
written_aliases shown path b os = aliases_with (package_meanings (declared_alone shown) path b) path os

-- what names of types mean in the package: own aliases their targets, and declarations of other packages what they mean there
abbrev pub names_in : Shown → (DeclKey → Term) → List ℕ → BlocksModel → List FileOutline → Shows
names_in shown far path b os = record { shown = shown; target = target_by path (alias_ends (written_aliases shown path b os) path) far }
