-- An identifier of a file that is spelled anew, among all that the declarations of the file have.
use Rattle.std.proofs.Common.{ℕ, List}
use Rattle.std.specs.Prelude.{Option}
use Rattle.std.specs.List.{flat_map}
use Rattle.go_tree_nodes.specs.text_core.declared.span.Span.{Span}
use Rattle.go_tree_nodes.specs.declared.names.Ident.{Ident}
use Rattle.go_tree_nodes.specs.Trees.{ValueSpecTree, Specs, FuncTree, Lines, TopTree, of_specs}
use Rattle.go_term_core.specs.Terms.{Term, Sign}
use Rattle.go_candidate_core.specs.handle_core.Declarations.{Declaration}
use Rattle.go_package_core.specs.env_core.Looks.{TheLooks}
use Rattle.go_package_core.specs.body_core.Notes.{TheUse}
use Rattle.go_stmt_core.specs.piece.Specifications.{spec_uses}
use Rattle.go_package_core.specs.body_core.FunctionStands.{FileStand, outer_looks}
use Rattle.go_package_core.specs.body_core.FunctionFunctions.{checked_func}
use Rattle.go_package_core.specs.body_core.FileFiles.{decl_uses, tops_uses}
use Rattle.go_complete_core.specs.spelling.Contexts.{ContextStays}
use Rattle.go_complete_core.specs.spelling.PieceSpots.{spec_spots}
use Rattle.go_complete_core.specs.spelling.Trees.{with_body}
use Rattle.go_complete_core.proofs.SpellingSplits.{behind, before}
use Rattle.go_complete_core.specs.spelling.Files.{WritesInGroup, AtFirst, AtLater, WritesInSpecs, InTheOnly, InTheGroup, WritesInTops, InTop, InLaterTops, WritesBody, InFunc, BehindTop}
use Rattle.go_complete_core.specs.spelling.Functions.{TheSpot, func_spots}
use Rattle.go_complete_core.specs.spelling.Spots.{decl_spots, tops_spots}
use Rattle.go_complete_core.proofs.SpellingLengths.{spec_long, decl_long}

module _ (st other : FileStand) (looks : TheLooks) (x : Ident) (name : List ℕ) where
  abbrev Stays : List TheSpot → List TheUse → Type 0
  Stays ps us = ContextStays Term Sign Declaration (List ℕ) looks x name ps us

  module _ (v w : ValueSpecTree) (here : Stays (spec_spots (outer_looks st) v) (spec_uses (outer_looks other) w)) where
    abbrev group_spots : List (ValueSpecTree × Option Span) → List TheSpot
    group_spots ls = flat_map (λ l. spec_spots (outer_looks st) l.0) ls

    abbrev group_uses : List (ValueSpecTree × Option Span) → List TheUse
    group_uses ls = flat_map (λ l. spec_uses (outer_looks other) l.0) ls

    in_group : (vs ws : List (ValueSpecTree × Option Span)) → WritesInGroup v w vs ws → Stays (group_spots vs) (group_uses ws)
    in_group vs ws (AtFirst {more = more}) = behind looks x name (spec_spots (outer_looks st) v) (group_spots more) (spec_uses (outer_looks other) w) (group_uses more) here
    in_group vs ws (AtLater {u = u} {more = more} {rest = rest} s) =
        before looks x name (spec_spots (outer_looks st) u.0) (group_spots more) (spec_uses (outer_looks other) u.0) (group_uses rest) (spec_long st other u.0) (in_group more rest s)

    pub in_specs : (vs ws : Specs ValueSpecTree) → WritesInSpecs v w vs ws → Stays (of_specs (spec_spots (outer_looks st)) vs) (of_specs (spec_uses (outer_looks other)) ws)
    in_specs vs ws InTheOnly = here
    in_specs vs ws (InTheGroup {vs = olds} {ws = news} s) = in_group olds news s

    pub in_tops : (ds es : List TopTree) → WritesInTops v w ds es → Stays (tops_spots st ds) (tops_uses other es)
    in_tops ds es (InTop {vs = vs} {ws = ws} {more = more} s) =
        behind looks x name (of_specs (spec_spots (outer_looks st)) vs) (tops_spots st more) (of_specs (spec_uses (outer_looks other)) ws) (tops_uses other more) (in_specs vs ws s)
    in_tops ds es (InLaterTops {d = d} {more = more} {rest = rest} s) =
        before looks x name (decl_spots st d.decl) (tops_spots st more) (decl_uses other d.decl) (tops_uses other rest) (decl_long st other d.decl) (in_tops more rest s)

  module _ (f : FuncTree) (body : Lines) (here : Stays (func_spots st f) (checked_func other (with_body f body)).uses) where
    pub in_bodies : (ds es : List TopTree) → WritesBody f body ds es → Stays (tops_spots st ds) (tops_uses other es)
    in_bodies ds es (InFunc {more = more}) = behind looks x name (func_spots st f) (tops_spots st more) (checked_func other (with_body f body)).uses (tops_uses other more) here
    in_bodies ds es (BehindTop {d = d} {more = more} {rest = rest} s) =
        before looks x name (decl_spots st d.decl) (tops_spots st more) (decl_uses other d.decl) (tops_uses other rest) (decl_long st other d.decl) (in_bodies more rest s)
