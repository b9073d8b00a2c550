-- What other packages show counts of those alone that imports come to.
--
-- The Go specification, "Import declarations", "Qualified identifiers".
use Rattle.std.specs.Prelude.{◌≡◌, ℕ, List, Option}
use Rattle.go_names_core.specs.local_core.mirrors.Walk.{Names, look_in}
use Rattle.go_graph_core.specs.Packages.{trees_of}
use Rattle.go_names_core.specs.block_core.Blocks.{AreBlocks, BlocksModel}
use Rattle.go_names_core.specs.block_core.Naming.{package_named}
use Rattle.go_type_core.specs.table_core.Entries.{Entry}
use Rattle.go_typexpr_core.specs.entry.Outlines.{FileOutline}
use Rattle.go_candidate_core.specs.declared_core.Faces.{TheFace}
use Rattle.go_stmt_core.specs.expr_core.Uses.{rule}
use Rattle.go_package_core.specs.env_core.declared.meaning.Meaning.{Meaning}
use Rattle.go_package_core.specs.env_core.Looks.{TheLooks}
use Rattle.go_package_core.specs.body_core.FunctionStands.{FileStand, looks_where, outer_meanings}
use Rattle.go_package_core.specs.prepare.Packages.{stand_in}
use Rattle.go_package_core.specs.package_part.Inputs.{InputModel, IsInput}
use Rattle.go_package_core.specs.package_part.Parts.{SeenOf, package_seen, seen_by}
use Rattle.go_cursor_core.specs.Used.{SpotTree}
use Rattle.go_cursor_core.specs.Contexts.{context_of_spot}
use Rattle.go_complete_core.specs.views.Imported.{seen_by_imports}

-- the look-ups in a file where these locals are open
abbrev pub looks_with : FileStand → Names Meaning → TheLooks
looks_with st locals = looks_where st (look_in (outer_meanings st) locals)

-- where a file of a package stands that is made from an input and has these blocks, where this is known of other packages, these are the types, and this
-- is known of its own declarations
abbrev pub stand_seeing : InputModel → BlocksModel → SeenOf → List Entry → List (Option TheFace) → ℕ → FileOutline → FileStand
stand_seeing i b seen types known n o = stand_in (package_seen i b seen) types known n o

-- the imports of the package bind in its files what these blocks say
abbrev pub BindsItsImports : InputModel → BlocksModel → Type 0
BindsItsImports i b = AreBlocks (trees_of i.source.1) (package_named (trees_of i.source.1) i.imports) b

-- be it known what all packages show that are reached, or what those do that imports come to: an identifier stands in the same context, and its
-- context's rule says the same of each name
pub record ImportsDecide : Type 0 where
  pub contexts : (i : InputModel) (b : BlocksModel) (types : List Entry) (known : List (Option TheFace)) (n : ℕ) (o : FileOutline) (locals : Names Meaning) (s : SpotTree) → IsInput i → BindsItsImports i b
      → context_of_spot (looks_with (stand_seeing i b (seen_by_imports i) types known n o) locals) s ≡ context_of_spot (looks_with (stand_seeing i b (seen_by i) types known n o) locals) s
  pub rules : (i : InputModel) (b : BlocksModel) (types : List Entry) (known : List (Option TheFace)) (n : ℕ) (o : FileOutline) (locals : Names Meaning) (s : SpotTree) (offset : ℕ) (name : List ℕ) → IsInput i → BindsItsImports i b
      → rule (looks_with (stand_seeing i b (seen_by_imports i) types known n o) locals) (context_of_spot (looks_with (stand_seeing i b (seen_by_imports i) types known n o) locals) s) offset name
      ≡ rule (looks_with (stand_seeing i b (seen_by i) types known n o) locals) (context_of_spot (looks_with (stand_seeing i b (seen_by_imports i) types known n o) locals) s) offset name
