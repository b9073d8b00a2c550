-- What holds of the identifiers that are used and of their spots.
--
-- docs/RULES.md, "Occurrences", "Expressions: roles, order, faults of parts". The Go specification, "Declarations and scope".
use Rattle.std.specs.Prelude.{◌≡◌, ℕ, ◌&&◌, nat_eq, map, filter, find}
use Rattle.std.specs.Option.{option_map}
use Rattle.go_tree_nodes.specs.declared.usage.Usage.TheVariants as usages
use Rattle.go_tree_nodes.specs.Trees.{FileTree}
use Rattle.go_tree_nodes.specs.Rules.{Wf_file}
use Rattle.go_tree_core.specs.declared.occurrence.Role.{Role}
use Rattle.go_tree_core.specs.declared.occurrence.Role.TheVariants as roles
use Rattle.go_tree_core.specs.declared.occurrence.Occ.{Occ}
use Rattle.go_tree_core.specs.Occurrences.{is_identifier, occurrence, file_occs}
use Rattle.go_expr_core.specs.local_core.Steps.{Piece}
use Rattle.go_expr_core.specs.Looks.{Looks}
use Rattle.go_expr_core.specs.Places.{place_role}
use Rattle.go_cursor_core.specs.Used.{SpotTree, NameSpot, BehindSpot, BehindNameSpot, KeySpot, Used, first_used, piece_used}
use Rattle.go_cursor_core.specs.Opened.{file_names, first_name}
use Rattle.go_cursor_core.specs.Contexts.{context_of_spot, in_its_context, identifiers_among, context_among}
use Rattle.go_cursor_core.specs.PieceSpots.{piece_spots}

-- by any look-ups the spot of an identifier of a piece decides its context
pub record SpotsDecide (T S D P : Type 0) : Type 0 where
  -- of each identifier, in order of their places
  pub each : (looks : Looks T S D P) (p : Piece) → identifiers_among (piece_spots looks p) ≡ map (in_its_context looks) (piece_used p)
  -- and so of the one that begins at an offset
  pub found : (looks : Looks T S D P) (start : ℕ) (p : Piece) → context_among start (piece_spots looks p) ≡ option_map (λ u. context_of_spot looks u.spot) (first_used start (piece_used p))

-- what occurs where an identifier stands

abbrev pub role_of_spot : SpotTree → Role
role_of_spot (NameSpot p) = place_role p
role_of_spot (BehindSpot u p e) = roles.Selector u
role_of_spot (BehindNameSpot x) = roles.Selector usages.«Type»
role_of_spot (KeySpot l items n) = roles.Key

abbrev pub occurrence_of : Used → Occ
occurrence_of u = occurrence (role_of_spot u.spot) u.ident

-- the identifiers of a file that are used, each with its spot, are those among its occurrences: so one is found at an offset exactly where an occurrence
-- that is an identifier begins there, and it is this
pub record NamesAreOccurrences : Type 0 where
  pub each : (f : FileTree) → Wf_file f → map (λ n. occurrence_of n.used) (file_names f) ≡ filter (λ o. is_identifier o.role) (file_occs f)
  pub found : (f : FileTree) → Wf_file f → (start : ℕ) → option_map (λ n. occurrence_of n.used) (first_name start (file_names f)) ≡ find (λ o. is_identifier o.role && nat_eq o.span.start start) (file_occs f)
