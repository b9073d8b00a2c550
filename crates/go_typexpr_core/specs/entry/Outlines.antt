-- What is known of a file of a package: its declarations outside functions, and the identifiers that it declares outside function bodies.
use Rattle.std.specs.Prelude.{◌≡◌, List, map}
use Rattle.go_tree_nodes.specs.Trees.{FileTree}
use Rattle.go_term_core.specs.decl_core.declared.places.Place.{Place}
use Rattle.go_term_core.specs.decl_core.declared.tops.Outline.{Outline}
use Rattle.go_term_core.specs.decl_core.Outer.{places_of}
use Rattle.go_term_core.specs.decl_core.Shown.{decl_shown}
use Rattle.go_term_core.specs.decl_core.TopDecls.{TopDeclTree, top_decls}

pub record FileOutline : Type 0 where
  pub places : List Place
  pub decls : List TopDeclTree

abbrev pub outline_shown : Outline → FileOutline
outline_shown o = record { places = o.places; decls = map decl_shown o.decls.items }

-- the outline of a file
abbrev pub outline_of : FileTree → FileOutline
outline_of f = record { places = places_of f; decls = top_decls f }

-- the outline of some file
abbrev pub IsOutline : FileOutline → Type 0
IsOutline o = (f : FileTree) × (o ≡ outline_of f)
