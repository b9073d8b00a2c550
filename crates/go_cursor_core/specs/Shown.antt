-- What contracts see of the identifiers that the program finds.
use Rattle.std.specs.Prelude.{List, map, Option}
use Rattle.std.specs.Option.{option_map}
use Rattle.std.specs.Borrow.{Bor}
use Rattle.go_tree_nodes.specs.declared.names.Ident.{Ident}
use Rattle.go_tree_nodes.specs.Shapes.{shape, items_of}
use Rattle.go_tree_nodes.specs.TypeShapes.{shape_type}
use Rattle.go_cursor_core.specs.declared.spot.LiteralOf.{LiteralOf}
use Rattle.go_cursor_core.specs.declared.spot.LiteralOf.TheVariants as literals
use Rattle.go_cursor_core.specs.declared.spot.Spot.{Spot}
use Rattle.go_cursor_core.specs.declared.spot.Spot.TheVariants as spots
use Rattle.go_cursor_core.specs.declared.spot.UsedName.{UsedName}
use Rattle.go_cursor_core.specs.Used.{LiteralType, OfName, OfWritten, SpotTree, NameSpot, BehindSpot, BehindNameSpot, KeySpot, Used, used}

abbrev pub literal_shown : LiteralOf → LiteralType
literal_shown (literals.Named n) = OfName n.now
literal_shown (literals.Written t) = OfWritten (shape_type t.now)

abbrev pub spot_shown : Spot → SpotTree
spot_shown (spots.Name p) = NameSpot p
spot_shown (spots.Behind u p e) = BehindSpot u p (shape e.now)
spot_shown (spots.BehindName x) = BehindNameSpot x.now
spot_shown (spots.Key l es n) = KeySpot (literal_shown l) (items_of es.now.items) n

abbrev pub used_shown : UsedName → Used
used_shown u = used u.ident.now (spot_shown u.spot)

abbrev pub found_shown : Option UsedName → Option Used
found_shown found = option_map used_shown found

-- the identifiers behind references
abbrev pub idents_shown : List (Bor Ident) → List Ident
idents_shown xs = map (λ x. x.now) xs
