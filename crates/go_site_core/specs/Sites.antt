-- How declarations of a workspace are written.
--
-- docs/RULES.md, "Output", "Stack code".
use Rattle.std.specs.Prelude.{ℕ, List, [], ◌++◌, map, codes, decimal, Option, Some, None, option_map, Result, Ok, Err, slice_get}
use Rattle.std.specs.declared.vec.Vec.{Vec}
use Rattle.go_universe_core.specs.Universe.{spelling_of}
use Rattle.go_tree_nodes.specs.Trees.{FileTree}
use Rattle.go_term_core.specs.decl_core.Outer.{places_of}
use Rattle.go_term_core.specs.declared.term.MemberPlace.{MemberPlace}
use Rattle.go_term_core.specs.declared.term.MemberPlace.TheVariants as places
use Rattle.go_graph_core.specs.Sources.{SourceModel}
use Rattle.go_graph_core.specs.Workspaces.{PackageModel, files_at}
use Rattle.go_handle_core.specs.Declarations.{Declaration, Universe, OfError, Package, InFile}

-- what a list in memory has
abbrev pub held_items : {X S : Type 0} → Vec X S → List X
held_items v = v.items

-- the offsets of the identifiers that a file declares outside function bodies, by their numbers there; none where it has no tree
abbrev pub offsets_in : {E : Type 0} → Result FileTree E → List ℕ
offsets_in (Ok f) = map (λ p. p.at) (places_of f)
offsets_in (Err fault) = []

-- the number of the file of an identifier, among those of its package in order of name
abbrev pub file_number : MemberPlace → ℕ
file_number (places.Declared d) = d.file
file_number (places.Local l) = l.file

-- the offset of an identifier of a file that declares identifiers at these offsets outside function bodies: by its number among them, or as it is
abbrev pub offset_among : List ℕ → MemberPlace → Option ℕ
offset_among offsets (places.Declared d) = slice_get offsets d.number
offset_among offsets (places.Local l) = Some l.offset

-- a name with an offset, if there is one
abbrev pub with_offset : List ℕ → Option ℕ → Option (List ℕ × ℕ)
with_offset name offset = option_map (λ o. (name, o)) offset

-- the file of an identifier of a package with these files
abbrev pub file_in : MemberPlace → Option (List SourceModel) → Option SourceModel
file_in place None = None
file_in place (Some files) = slice_get files (file_number place)

-- the name of the file of an identifier, and its offset there
abbrev pub located_at : MemberPlace → Option SourceModel → Option (List ℕ × ℕ)
located_at place None = None
located_at place (Some s) = with_offset s.name (offset_among (offsets_in s.content) place)

-- the same of an identifier of a package with these files
abbrev pub located_in : MemberPlace → Option (List SourceModel) → Option (List ℕ × ℕ)
located_in place None = None
located_in place (Some files) = located_at place (slice_get files (file_number place))

-- the same of an identifier of the package of a path of a workspace: none where there is no such package, file or number
abbrev pub place_of_site : List PackageModel → List ℕ → MemberPlace → Option (List ℕ × ℕ)
place_of_site ps path place = located_in place (files_at ps path)

-- PATH/FILE:OFFSET, and nothing where there is no place
abbrev pub located_text : List ℕ → Option (List ℕ × ℕ) → List ℕ
located_text path None = []
located_text path (Some at) = path ++ (codes "/" ++ (at.0 ++ (codes ":" ++ decimal at.1)))

-- the name of the file of a declaration of a workspace with these packages, and its offset there: none of what is not declared in a file, and none
-- where there is no such package, file or number
abbrev pub site_place : List PackageModel → Declaration → Option (List ℕ × ℕ)
site_place ps (Universe predeclared) = None
site_place ps OfError = None
site_place ps (Package path) = None
site_place ps (InFile path place) = place_of_site ps path place

-- a declaration, which stands here where it is one of a file
abbrev pub text_at : Declaration → Option (List ℕ × ℕ) → List ℕ
text_at (Universe predeclared) at = codes "universe." ++ spelling_of predeclared
text_at OfError at = codes "universe.error.Error"
text_at (Package path) at = codes "package " ++ path
text_at (InFile path place) at = located_text path at

-- a declaration of a workspace with these packages
abbrev pub site_text : List PackageModel → Declaration → List ℕ
site_text ps d = text_at d (site_place ps d)
