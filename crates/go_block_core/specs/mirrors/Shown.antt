-- What the code's references show.
use Rattle.std.specs.Prelude.{ℕ, Bool, List, [], ◌∷◌, Option, Some, None}
use denote.Ref.{Bor}
use Rattle.go_tree_nodes.specs.declared.files.ImportSpec.{ImportSpec}
use Rattle.go_tree_nodes.specs.Shapes.{shape_import_spec}
use Rattle.go_tree_nodes.specs.Trees.{ImportSpecTree}
use Rattle.go_decl_core.specs.declared.places.DeclKind.{DeclKind}
use Rattle.go_decl_core.specs.declared.tops.TopDecl.{TopDecl}
use Rattle.go_block_core.specs.declared.binding.BoundName.{BoundName}
use Rattle.go_block_core.specs.declared.decls.NamedPlace.{NamedPlace}
use Rattle.go_block_core.specs.Bindings.{Bound}
use Rattle.go_block_core.specs.Declarations.{PackageDeclaration, decl_ref}

-- the import that a reference shows
abbrev pub spec_shown : Bor ImportSpec → ImportSpecTree
spec_shown spec = shape_import_spec spec.now

-- a name with its binding
abbrev pub bound_shown : BoundName → Bound
bound_shown b = record { name = b.name.now; binding = b.binding }

-- a declaration with its name and place
abbrev pub declaration_shown : NamedPlace → PackageDeclaration
declaration_shown d = record { name = d.name.now; at = d.at; decl = d.decl; is_procedure = d.is_procedure }

-- what is declared, if anything is
abbrev pub declared_shown : Option NamedPlace → List PackageDeclaration
declared_shown None = []
declared_shown (Some d) = declaration_shown d ∷ []

-- a declaration of the file of a number, of this kind
abbrev pub named_place : ℕ → TopDecl → DeclKind → Bool → PackageDeclaration
named_place file top kind procedure = record { name = top.ident.now.name; at = top.ident.now.span.start; decl = decl_ref file top.number kind; is_procedure = procedure }

-- the text that a reference shows, if there is one
abbrev pub text_shown : Option (Bor (List ℕ)) → Option (List ℕ)
text_shown None = None
text_shown (Some text) = Some text.now
