-- What may be wrong with the package clause of a file.
use Rattle.std.specs.Prelude.{◌≡◌, ◌⊎◌, Bool, not, List, Option, Some, None, get_or}
use Rattle.std.specs.List.{position}
use Rattle.go_collections_core.specs.text_core.declared.rule.Rule.{Rule}
use Rattle.go_tree_nodes.specs.declared.names.Ident.{Ident}
use Rattle.go_graph_core.specs.declared.assembly.ClauseFlaw.{ClauseFlaw}
use Rattle.go_graph_core.specs.declared.assembly.ClauseFlaw.TheVariants.{Missing, Named, NotNamed}
use Rattle.go_graph_core.specs.declared.assembly.KFault.{KFault}
use Rattle.go_graph_core.specs.Sources.{SourceModel, clause_of}
use Rattle.go_graph_core.specs.Packages.{IsAssembled, IsK2, IsK3, IsK4}
use Rattle.go_graph_core.specs.mirrors.Clauses.{has_none, clause_has_name, place_in}

-- whether a clause has the flaw
abbrev pub has_flaw : ClauseFlaw → Option Ident → Bool
has_flaw Missing = λ o. has_none o
has_flaw (Named name) = λ o. clause_has_name name.now o
has_flaw (NotNamed name) = λ o. not (clause_has_name name.now o)

-- whether a file's clause has the flaw
abbrev pub is_flawed : ClauseFlaw → SourceModel → Bool
is_flawed flaw s = has_flaw flaw (clause_of s)

-- the first file with the flaw, and where its clause has the name; or none has it
abbrev pub IsFirstFault : List SourceModel → ClauseFlaw → Rule → Option KFault → Type 0
IsFirstFault files flaw rule None = position (is_flawed flaw) files ≡ None
IsFirstFault files flaw rule (Some fault) =
    (fault.rule ≡ rule)
    × (position (is_flawed flaw) files ≡ Some fault.file)
    × ((s : SourceModel) × (s ≡ get_or files fault.file s) × (fault.offset ≡ place_in (clause_of s)))

-- files are assembled, or have this fault
abbrev pub IsFlaw : List SourceModel → Option KFault → Type 0
IsFlaw files None = IsAssembled files
IsFlaw files (Some fault) = IsK4 files fault ⊎ (IsK3 files fault ⊎ IsK2 files fault)
