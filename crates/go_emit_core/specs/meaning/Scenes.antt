-- What the occurrences of a package come to in code.
--
-- docs/RULES.md, "Stack code". The Go specification, "Declarations and scope", "Qualified identifiers", "Method sets", "Selectors".
use Rattle.std.specs.Prelude.{ℕ, suc, ◌&&◌, nat_eq, List, [], ◌∷◌, ◌++◌, map, Option, Some, None, if◌then◌else◌}
use Rattle.std.specs.List.{flat_map}
use Rattle.std.specs.Map.{lookup}
use Rattle.std.specs.Str.{bytes_eq}
use Rattle.go_tree_nodes.specs.Trees.{FileTree}
use Rattle.go_term_core.specs.decl_core.declared.keys.DeclRef.{DeclRef}
use Rattle.go_term_core.specs.decl_core.TopDecls.{TopDeclTree, kind_of_form, top_decls}
use Rattle.go_term_core.specs.declared.term.MemberPlace.{MemberPlace}
use Rattle.go_term_core.specs.declared.term.MemberPlace.TheVariants as places
use Rattle.go_term_core.specs.declared.term.LocalPlace.{LocalPlace}
use Rattle.go_table_core.specs.Entries.{Entry, Member}
use Rattle.go_expr_core.specs.denote_core.declared.things.Outcome.{Outcome}
use Rattle.go_expr_core.specs.denote_core.declared.things.Outcome.TheVariants as outcomes
use Rattle.go_declared_core.specs.handle_core.Declarations.{Declaration, Universe, OfError, Package, InFile}
use Rattle.go_declared_core.specs.Faces.{TheFace}
use Rattle.go_declared_core.specs.Packages.{PackageFacesModel, face_in}
use Rattle.go_code_core.specs.declared.fragments.names.Meaning.{Meaning}
use Rattle.go_code_core.specs.declared.fragments.names.Meaning.TheVariants as meanings
use Rattle.go_emit_core.specs.meaning.Words.{sign_gives}
use Rattle.go_emit_core.specs.meaning.Meanings.{some_face_meaning, universe_meaning}
use Rattle.go_emit_core.specs.lookup.Places.{Spotted, spotted_meaning, decl_spot}
use Rattle.go_emit_core.specs.lookup.Looking.{meaning_or_other}
use Rattle.go_declared_core.specs.block_core.Declarations.{decl_ref}

-- a package over what some packages tell: its path; what its declarations outside functions come to; what the methods come to of the types of these
-- packages; these types; and what these packages show
pub record CodeScene : Type 0 where
  pub path : List ℕ
  pub own : Spotted
  pub methods : Spotted
  pub types : List Entry
  pub others : List PackageFacesModel

-- the declarations of a package outside functions

abbrev pub decl_at : ℕ → TopDeclTree → DeclRef
decl_at file d = decl_ref file d.number (kind_of_form d.form)

-- those of the files from the one of a number on, in order of file and number
abbrev pub package_decl_refs : ℕ → List FileTree → List DeclRef
package_decl_refs n [] = []
package_decl_refs n (t ∷ ts) = map (decl_at n) (top_decls t) ++ package_decl_refs (suc n) ts

-- each with what it comes to, where the n-th is known to be the n-th
abbrev pub own_spotted : List Entry → List ℕ → List DeclRef → List (Option TheFace) → Spotted
own_spotted es path [] known = []
own_spotted es path (d ∷ ds) [] = []
own_spotted es path (d ∷ ds) (f ∷ known) = (decl_spot path d, some_face_meaning es f) ∷ own_spotted es path ds known

-- the methods of types

abbrev pub method_at : List Entry → List ℕ → Member → MemberPlace → Spotted
method_at es path m (places.Declared d) = (decl_spot path d, meanings.Method (sign_gives es m.sign)) ∷ []
method_at es path m (places.Local l) = []

abbrev pub method_spotted : List Entry → List ℕ → List Member → Spotted
method_spotted es path ms = flat_map (λ m. method_at es path m m.place) ms

-- those of the types of a list, over the types of a table
abbrev pub methods_spotted : List Entry → List Entry → Spotted
methods_spotted es declared = flat_map (λ e. method_spotted es e.key.path e.methods) declared

-- the package of a path with these declarations, where this is known of each, over these types and what these packages show
abbrev pub scene_by : List ℕ → List DeclRef → List (Option TheFace) → List Entry → List PackageFacesModel → CodeScene
scene_by path decls known types others = record { path = path; own = own_spotted types path decls known; methods = methods_spotted types types; types = types; others = others }

-- what occurrences come to

abbrev pub own_or : Option Meaning → Meaning → Meaning
own_or None m = m
own_or (Some own) m = own

-- a declaration of a package outside functions: of this package, or of one that tells what it shows
abbrev pub decl_meaning : CodeScene → List ℕ → DeclRef → Meaning
decl_meaning s path d = own_or (spotted_meaning s.own (decl_spot path d)) (some_face_meaning s.types (face_in s.others path d))

-- a local: one of the same file, by the offset at which it is declared
abbrev pub local_place_meaning : CodeScene → ℕ → List (ℕ × Meaning) → List ℕ → LocalPlace → Meaning
local_place_meaning s file locals path l = if bytes_eq path s.path && nat_eq l.file file then meaning_or_other (lookup (nat_eq l.offset) locals) else meanings.Other

abbrev pub place_meaning : CodeScene → ℕ → List (ℕ × Meaning) → List ℕ → MemberPlace → Meaning
place_meaning s file locals path (places.Declared d) = decl_meaning s path d
place_meaning s file locals path (places.Local l) = local_place_meaning s file locals path l

-- a name that denotes a declaration, in the file of a number with these locals
abbrev pub declared_meaning : CodeScene → ℕ → List (ℕ × Meaning) → Declaration → Meaning
declared_meaning s file locals (Universe name) = universe_meaning name
declared_meaning s file locals OfError = meanings.Other
declared_meaning s file locals (Package path) = meanings.Other
declared_meaning s file locals (InFile path place) = place_meaning s file locals path place

abbrev pub method_place_meaning : CodeScene → List ℕ → MemberPlace → Meaning
method_place_meaning s path (places.Declared d) = meaning_or_other (spotted_meaning s.methods (decl_spot path d))
method_place_meaning s path (places.Local l) = meanings.Other

abbrev pub method_meaning : CodeScene → Declaration → Meaning
method_meaning s (InFile path place) = method_place_meaning s path place
method_meaning s (Universe name) = meanings.Other
method_meaning s OfError = meanings.Other
method_meaning s (Package path) = meanings.Other

-- a member that is selected: a method to which no embedded field leads
abbrev pub selected_meaning : CodeScene → Declaration → List ℕ → Meaning
selected_meaning s d [] = method_meaning s d
selected_meaning s d (n ∷ path) = meanings.Other

abbrev pub outcome_meaning : CodeScene → ℕ → List (ℕ × Meaning) → Outcome Declaration (List ℕ) → Meaning
outcome_meaning s file locals (outcomes.Declared d) = declared_meaning s file locals d
outcome_meaning s file locals (outcomes.Selected d path) = selected_meaning s d path
outcome_meaning s file locals (outcomes.Refused rule) = meanings.Other
