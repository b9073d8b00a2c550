-- What a text has where a type is written, in a file that its package could have beside its own.
--
-- docs/RULES.md, "Names, selectors and calls in expressions". The Go specification, "Types", "Declarations and scope", "Qualified identifiers".
use Rattle.std.specs.Prelude.{◌++◌, ℕ, List, [], ◌∷◌, length, Option}
use Rattle.go_path_core.specs.text_core.declared.rule.Rule.{Rule}
use Rattle.go_tree_nodes.specs.declared.usage.Usage.TheVariants as usages
use Rattle.go_term_core.specs.Terms.{Term}
use Rattle.go_summary_core.specs.table_core.Entries.{Entry}
use Rattle.go_typexpr_core.specs.entry.Outlines.{FileOutline}
use Rattle.go_typexpr_core.specs.entry.Showing.{shown_in}
use Rattle.go_expr_core.specs.denote_core.declared.things.Dot.TheVariants as dots
use Rattle.go_expr_core.specs.denote_core.declared.things.Stand.TheVariants as stands
use Rattle.go_expr_core.specs.denote_core.Answers.{name_answer}
use Rattle.go_expr_core.specs.denote_core.Selectors.{selector_answer}
use Rattle.go_expr_core.specs.Looks.{look_of_place}
use Rattle.go_summary_core.specs.handle_core.Declarations.{Package}
use Rattle.go_package_core.specs.body_core.FunctionStands.{FileStand, outer_looks}
use Rattle.go_package_core.specs.prepare.Packages.{stand_in}
use Rattle.go_summary_core.specs.Views.{exports_told, types_told}
use Rattle.go_package_core.specs.package_part.Inputs.{path_in}
use Rattle.go_package_core.specs.package_part.Parts.{PartModel, SeenOf, package_seen, seen_by, seen_with}
use Rattle.go_type_doc_core.specs.members.Members.{TheLook}
use Rattle.go_type_doc_core.specs.Names.{BreaksRule, NamesType, TheAnswer}

-- the types that the package of a part sees: those of the packages that it reaches, and its own
abbrev pub types_seen : PartModel → List Entry
types_seen p = types_told p.input.reached ++ p.content.summary.types.entries

-- a file that imports and declares nothing
abbrev pub no_outline : FileOutline
no_outline = record { places = []; decls = [] }

-- its top, behind the files of the package of a part, where this is seen of other packages
abbrev pub fresh_stand : PartModel → SeenOf → List Entry → FileStand
fresh_stand p seen types = stand_in (package_seen p.input p.content.blocks seen) types p.content.declared (length p.input.source.1) no_outline

abbrev pub fresh_look : PartModel → SeenOf → List Entry → TheLook
fresh_look p seen types = look_of_place (outer_looks (fresh_stand p seen types)) 0

-- what a text has where a type is written there
abbrev pub own_answer : PartModel → List ℕ → TheAnswer
own_answer p name = name_answer (fresh_look p (seen_by p.input) (types_seen p)) stands.«Type» name

-- what the package of the first part sees of that of the second, which it would import
abbrev pub seen_of : PartModel → PartModel → SeenOf
seen_of q p = seen_with (types_seen p) (shown_in (exports_told q.input.reached)) (p.content.summary.faces ∷ [])

-- what a text has where a type is written there behind the name of the second package and a dot
abbrev pub other_answer : PartModel → PartModel → List ℕ → TheAnswer
other_answer q p name = selector_answer (fresh_look q (seen_of q p) (types_seen p)) usages.«Type» (dots.«Package» (Package (path_in p.input))) name

abbrev pub IsOwnType : PartModel → List ℕ → Option Term → Type 0
IsOwnType p name t = NamesType (own_answer p name) t

abbrev pub IsOwnRefusal : PartModel → List ℕ → Rule → Type 0
IsOwnRefusal p name rule = BreaksRule (own_answer p name) rule

abbrev pub IsOtherType : PartModel → PartModel → List ℕ → Option Term → Type 0
IsOtherType q p name t = NamesType (other_answer q p name) t

abbrev pub IsOtherRefusal : PartModel → PartModel → List ℕ → Rule → Type 0
IsOtherRefusal q p name rule = BreaksRule (other_answer q p name) rule
