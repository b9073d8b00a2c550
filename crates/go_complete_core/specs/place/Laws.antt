-- The identifiers of a file that are found by the tree alone stand among those that are checked.
--
-- docs/RULES.md, "Bodies of functions". The Go specification, "Blocks", "Declarations and scope".
use Rattle.std.specs.Prelude.{◌≡◌, Bool, true, false, List, [], map, Option, Some, None, All, Contains}
use Rattle.go_tree_nodes.specs.declared.names.Ident.{Ident}
use Rattle.go_tree_nodes.specs.Trees.{Func, FuncTree, TopTree, FileTree}
use Rattle.go_names_core.specs.local_core.mirrors.Walk.{Names, look_in, names_of}
use Rattle.go_package_core.specs.env_core.declared.meaning.Meaning.{Meaning}
use Rattle.go_package_core.specs.env_core.declared.meaning.Meaning.TheVariants as meanings
use Rattle.go_package_core.specs.body_core.FunctionStands.{FileStand, outer_meanings}
use Rattle.go_cursor_core.specs.Opened.{FileUsed, file_names}
use Rattle.go_cursor_core.specs.Walks.{PieceAt, func_pieces}
use Rattle.go_complete_core.specs.spelling.Places.{place_rules}
use Rattle.go_complete_core.specs.place.Completions.{IsPlaceOf}

abbrev pub is_local : Meaning → Bool
is_local (meanings.Outside o) = false
is_local (meanings.Local at value) = true

-- on the way through a function of these declarations these locals are open in front of a piece, and mean this
pub record IsOpenInFunc (st : FileStand) (ds : List TopTree) (g : FuncTree) (locals : List Ident) (meant : Names Meaning) : Type 0 where
  pub piece : PieceAt Meaning
  pub among : Contains (func_pieces (place_rules st) (outer_meanings st) g) piece
  pub names : meant ≡ piece.names
  pub opened : locals ≡ piece.locals
  pub top : TopTree
  pub declared : Contains ds top
  pub is : top.decl ≡ Func g

-- outside functions none are
abbrev pub IsOpenIn : FileStand → List TopTree → Option FuncTree → List Ident → Names Meaning → Type 0
IsOpenIn st ds None locals meant = (meant ≡ []) × (locals ≡ [])
IsOpenIn st ds (Some g) locals meant = IsOpenInFunc st ds g locals meant

-- it stands in the file, and what is open there are its open locals, in their order; other names mean what they mean outside functions
pub record IsPlacedIn (st : FileStand) (f : FileTree) (u : FileUsed) : Type 0 where
  pub meant : Names Meaning
  pub place : IsPlaceOf st f.decls u (look_in (outer_meanings st) meant)
  pub same : names_of meant ≡ map (λ x. x.name) u.open_names
  pub local : All (λ e. is_local e.1 ≡ true) meant
  pub walked : IsOpenIn st f.decls u.func u.open_names meant

abbrev pub SpotsArePlaces : Type 0
SpotsArePlaces = (st : FileStand) (f : FileTree) (u : FileUsed) → Contains (file_names f) u → IsPlacedIn st f u
