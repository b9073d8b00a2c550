-- What contracts see of an identifier that is found in a file.
use Rattle.std.specs.Option.{option_map}
use Rattle.go_tree_nodes.specs.Shapes.{func_of}
use Rattle.go_cursor_core.specs.declared.spot.FoundSpot.{FoundSpot}
use Rattle.go_cursor_core.specs.Shown.{spot_shown, idents_shown}
use Rattle.go_cursor_core.specs.Used.{used}
use Rattle.go_cursor_core.specs.Opened.{FileUsed, file_name}

abbrev pub spot_seen : FoundSpot → FileUsed
spot_seen f = file_name (used f.ident.now (spot_shown f.spot)) (idents_shown f.«open».items) (option_map (λ g. func_of g.now) f.func)
