-- The names that could stand in place of an identifier: by the context of its occurrence and by what names mean where it stands.
--
-- docs/RULES.md, "Occurrences", "Names, selectors and calls in expressions". The Go specification, "Declarations and scope", "Selectors", "Qualified
-- identifiers".
use Rattle.std.specs.Prelude.{◌≡◌, ◌↔◌, ℕ, Bool, true, false, List, Contains, Vec, map, string_bytes}
use Rattle.std.specs.List.Sorted.{IsStrictlySortedBy}
use Rattle.std.specs.declared.alloc.Global.{Global}
use Rattle.std.specs.declared.string.String.{String}
use Rattle.go_graph_core.specs.Workspaces.{by_bytes}
use Rattle.go_tree_nodes.specs.declared.names.Ident.{Ident}
use Rattle.go_tree_nodes.specs.Trees.{TopTree, FileTree}
use Rattle.go_term_core.specs.Terms.{Term}
use Rattle.go_candidate_core.specs.handle_core.Declarations.{Declaration}
use Rattle.go_names_core.specs.local_core.Binding.{NameLook}
use Rattle.go_cursor_core.specs.denote_core.declared.things.Dot.TheVariants as dots
use Rattle.go_stmt_core.specs.expr_core.Uses.{Context, NameAt, SelectorBehind, KeyAmong, Identifier, rule}
use Rattle.go_package_core.specs.env_core.declared.meaning.Meaning.{Meaning}
use Rattle.go_package_core.specs.body_core.FunctionStands.{FileStand, looks_where}
use Rattle.go_package_core.specs.package_part.Parts.{IsPart, PartModel, package_seen, seen_by}
use Rattle.go_candidate_core.specs.context.Laws.{is_declared}
use Rattle.go_cursor_core.specs.Used.{Used}
use Rattle.go_cursor_core.specs.Contexts.{context_of_spot}
use Rattle.go_cursor_core.specs.Opened.{FileUsed}
use Rattle.go_complete_core.specs.spelling.Places.{placed_spot, tops_places}
use Rattle.go_complete_core.specs.spelling.Laws.{checked_stand}

abbrev pub TheContext : Type 0
TheContext = Context Term Declaration

-- the context of an identifier with its spot, where names mean this
abbrev pub context_at : FileStand → NameLook Meaning → Used → TheContext
context_at st names u = context_of_spot (looks_where st names) u.spot

-- an identifier with its spot is one of those of the declarations of a file, and names mean this where it stands
pub record IsPlaceOf (st : FileStand) (ds : List TopTree) (u : FileUsed) (names : NameLook Meaning) : Type 0 where
  pub there : Contains (tops_places st ds) (placed_spot names (Identifier (context_at st names u.used) u.used.ident))

-- in a context, in place of an identifier, exactly these names have a declaration: in byte order, each once
pub record AreNamesFor (st : FileStand) (names : NameLook Meaning) (c : TheContext) (x : Ident) (found : List (List ℕ)) : Type 0 where
  pub rising : IsStrictlySortedBy by_bytes found
  pub each : (m : List ℕ) → Contains found m ↔ (is_declared (rule (looks_where st names) c x.span.start m) ≡ true)

-- where the file of a number and a tree of a part is checked
abbrev pub stand_of : (p : PartModel) → IsPart p.input p.content → ℕ → FileTree → FileStand
stand_of p made n f = checked_stand (package_seen p.input p.content.blocks (seen_by p.input)) (seen_by p.input).types made.checked n f

-- exactly these names have a declaration in place of an identifier of this file
pub record AreNamesAt (p : PartModel) (n : ℕ) (f : FileTree) (u : FileUsed) (found : List (List ℕ)) : Type 0 where
  pub made : IsPart p.input p.content
  pub names : NameLook Meaning
  pub place : IsPlaceOf (stand_of p made n f) f.decls u names
  pub are : AreNamesFor (stand_of p made n f) names (context_at (stand_of p made n f) names u.used) u.used.ident found

-- what a name has there depends on a type: behind a value, or behind what denotes nothing that has members, and for the key of an element
abbrev pub is_of_types : {T D : Type 0} → Context T D → Bool
is_of_types (NameAt p) = false
is_of_types (SelectorBehind u (dots.«Package» d)) = false
is_of_types (SelectorBehind u dots.Refused) = false
is_of_types (SelectorBehind u dots.Untyped) = true
is_of_types (SelectorBehind u (dots.«Value» o)) = true
is_of_types (KeyAmong k) = true

-- names for an identifier whose context depends on no type
pub record AreFoundAt (p : PartModel) (n : ℕ) (f : FileTree) (u : FileUsed) (found : List (List ℕ)) : Type 0 where
  pub made : IsPart p.input p.content
  pub names : NameLook Meaning
  pub place : IsPlaceOf (stand_of p made n f) f.decls u names
  pub of_names : is_of_types (context_at (stand_of p made n f) names u.used) ≡ false
  pub are : AreNamesFor (stand_of p made n f) names (context_at (stand_of p made n f) names u.used) u.used.ident found

-- names that are answered
abbrev pub texts_of : Vec (String Global) Global → List (List ℕ)
texts_of names = map string_bytes names.items
