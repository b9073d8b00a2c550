-- The faults of a file that are asked of its package as a whole.
--
-- docs/RULES.md, "Package and file blocks", "Types", "Constants and variables of a package".
use Rattle.std.specs.Prelude.{ℕ, Bool, List, [], ◌∷◌, ◌++◌, nat_eq, if◌then◌else◌}
use Rattle.go_path_core.specs.text_core.declared.rule.Rule.{Rule}
use Rattle.go_path_core.specs.text_core.declared.rule.Rule.TheVariants.{Y7}
use Rattle.go_term_core.specs.decl_core.TopDecls.{TopDeclTree}
use Rattle.go_block_core.specs.Blocks.{BlocksModel}
use Rattle.go_block_core.specs.Faults.{rule_of}
use Rattle.go_block_core.specs.declared.fault.BlockFault.{BlockFault}
use Rattle.go_expr_core.specs.local_core.declared.Fault.{Fault}
use Rattle.go_report_core.specs.declared.type_faults.places.PackageFault.{PackageFault}

abbrev pub fault : ℕ → Rule → Fault
fault offset rule = record { offset = offset; rule = rule }

-- the faults of blocks that are in a file
abbrev pub block_faults_in : ℕ → List BlockFault → List Fault
block_faults_in file [] = []
block_faults_in file (f ∷ fs) = if nat_eq f.file file then fault f.offset (rule_of f.rule) ∷ block_faults_in file fs else block_faults_in file fs

-- the faults of types that are in a file
abbrev pub type_faults_in : ℕ → List PackageFault → List Fault
type_faults_in file [] = []
type_faults_in file (f ∷ fs) = if nat_eq f.file file then fault f.offset f.rule ∷ type_faults_in file fs else type_faults_in file fs

-- the fault of a declaration, if it is defined through itself: at its identifier
abbrev pub looped_if : Bool → TopDeclTree → List Fault
looped_if is_looped d = if is_looped then fault d.ident.span.start Y7 ∷ [] else []

-- the faults of those declarations that are defined through themselves, which the flag at the same place says
abbrev pub looped_decl_faults : List TopDeclTree → List Bool → List Fault
looped_decl_faults [] flags = []
looped_decl_faults (d ∷ ds) [] = []
looped_decl_faults (d ∷ ds) (flag ∷ flags) = looped_if flag d ++ looped_decl_faults ds flags

-- all of a file: of blocks, of types, and of these declarations with these flags
abbrev pub outer_faults : ℕ → BlocksModel → List PackageFault → List TopDeclTree → List Bool → List Fault
outer_faults file b types ds flags = (block_faults_in file b.faults ++ type_faults_in file types) ++ looped_decl_faults ds flags
