-- The identifiers of the declarations of a file in their contexts, and its calls, each with what names mean where it stands, in order of their places.
--
-- docs/RULES.md, "Occurrences", "Bodies of functions", "Declarations outside functions". The Go specification, "Declarations and scope".
use Rattle.std.specs.Prelude.{◌≡◌, ℕ, List, map}
use Rattle.std.specs.List.{flat_map}
use Rattle.go_tree_nodes.specs.declared.names.Ident.{Ident}
use Rattle.go_tree_nodes.specs.Trees.{DeclTree, Value, Types, Func, FuncTree, TopTree, of_specs}
use Rattle.go_names_core.specs.local_core.Binding.{NameLook}
use Rattle.go_names_core.specs.local_core.Law.{Rules}
use Rattle.go_names_core.specs.local_core.Steps.{Piece}
use Rattle.go_names_core.specs.local_core.Tables.{walked}
use Rattle.go_stmt_core.specs.expr_core.Uses.{use_of, type_spots}
use Rattle.go_stmt_core.specs.piece.Pieces.{piece_values}
use Rattle.go_package_core.specs.env_core.declared.meaning.Meaning.{Meaning}
use Rattle.go_package_core.specs.body_core.Notes.{TheUse}
use Rattle.go_package_core.specs.body_core.Rules.{local_at}
use Rattle.go_package_core.specs.body_core.FunctionStands.{FileStand, looks_where, outer_meanings, outer_look, outer_looks}
use Rattle.go_complete_core.specs.spelling.PieceSpots.{spec_spots, piece_spots}
use Rattle.go_complete_core.specs.spelling.Functions.{TheSpot}
use Rattle.go_complete_core.specs.spelling.Spellings.{RespellsTops, InInitialiser, InOuterTypes, InBody}

-- an identifier in its context, or a call with what it has, and what names mean there
pub record PlacedSpot : Type 0 where
  pub names : NameLook Meaning
  pub spot : TheSpot

abbrev pub placed_spot : NameLook Meaning → TheSpot → PlacedSpot
placed_spot names spot = record { names = names; spot = spot }

-- what it has: an identifier what the rule of its context gives for its own spelling
abbrev pub placed_use : FileStand → PlacedSpot → TheUse
placed_use st s = use_of (looks_where st s.names) s.spot

-- those of a piece of a function, in front of which names mean this
abbrev pub piece_places : FileStand → NameLook Meaning → Piece → List PlacedSpot
piece_places st names p = map (placed_spot names) (piece_spots (looks_where st names) p)

-- the rules by which they are noted on the way through a function
abbrev pub place_rules : FileStand → Rules Meaning PlacedSpot
place_rules st = record { notes = λ names firsts p. piece_places st names p; means = λ names firsts p. local_at p (piece_values (looks_where st names) firsts p) }

abbrev pub func_places : FileStand → FuncTree → List PlacedSpot
func_places st f = (walked (place_rules st) (outer_meanings st) f).notes

-- those of declarations: outside functions names mean what they mean at the top of the file
abbrev pub decl_places : FileStand → DeclTree → List PlacedSpot
decl_places st (Value v) = map (placed_spot (outer_look st)) (of_specs (spec_spots (outer_looks st)) v.specs)
decl_places st (Types t) = map (placed_spot (outer_look st)) (of_specs (λ s. type_spots (outer_looks st) s.type_expr) t.specs)
decl_places st (Func f) = func_places st f

abbrev pub tops_places : FileStand → List TopTree → List PlacedSpot
tops_places st ds = flat_map (λ d. decl_places st d.decl) ds

-- What names mean where the identifier stands that is spelled anew. Outside functions they mean what they mean at the top of the file. A file in one of
-- whose bodies it stands is checked by what it was checked by, and names mean there what they meant.
abbrev pub MeanThere : {x : Ident} {name : List ℕ} {ds es : List TopTree} → FileStand → FileStand → RespellsTops x name ds es → NameLook Meaning → NameLook Meaning → Type 0
MeanThere st other (InInitialiser r s) names others = others ≡ outer_look other
MeanThere st other (InOuterTypes r) names others = others ≡ outer_look other
MeanThere st other (InBody r s) names others = (other ≡ st) × (others ≡ names)
