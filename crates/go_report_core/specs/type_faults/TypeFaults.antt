-- The faults of the types that a package declares.
--
-- docs/RULES.md, "Types", "Members and selectors". The Go specification, "Type declarations", "Alias declarations", "Struct types",
-- "Interface types", "Method declarations".
use Rattle.std.specs.Prelude.{ℕ, Bool, false, List, [], ◌∷◌, ◌++◌, Option, Some, None, slice_get, if◌then◌else◌}
use Rattle.std.specs.List.{flat_map, enumerate_from}
use Rattle.go_path_core.specs.text_core.declared.rule.Rule.TheVariants.{B6, Y1}
use Rattle.go_tree_nodes.specs.declared.files.Receiver.{Receiver}
use Rattle.go_tree_nodes.specs.declared.types.TypeName.{TypeName}
use Rattle.go_tree_nodes.specs.Starts.{type_name_start}
use Rattle.go_tree_nodes.specs.Trees.{FuncTree}
use Rattle.go_term_core.specs.decl_core.declared.keys.DeclRef.{DeclRef}
use Rattle.go_term_core.specs.decl_core.TopDecls.{TopDeclTree, FormTree, ValueForm, TypeForm, FuncForm}
use Rattle.go_term_core.specs.declared.term.MemberPlace.TheVariants as places
use Rattle.go_term_core.specs.Terms.{Term, NoType, Predeclared, ErrorType, Defined, PointerTo, StructOf, InterfaceOf, is_no_type}
use Rattle.go_summary_core.specs.table_core.Entries.{Entry, find_entry, term_in}
use Rattle.go_select_core.specs.type_core.declared.build.TypeFault.{TypeFault}
use Rattle.go_select_core.specs.embed_core.Faults.{term_faults, declared_faults, hidden_faults, can_be_base}
use Rattle.go_summary_core.specs.typexpr_core.WrittenWritten.{Meaning}
use Rattle.go_summary_core.specs.typexpr_core.EntryEntries.{Meanings}
use Rattle.go_summary_core.specs.typexpr_core.EntryOutlines.{FileOutline}
use Rattle.go_report_core.specs.declared.type_faults.places.PackageFault.{PackageFault}
use Rattle.go_report_core.specs.type_faults.Places.{fault_in, located, all_located}
use Rattle.go_summary_core.specs.table_core.Entries.{kinds_in}

-- the type whose fields the methods of a defined type may meet: its underlying type, or, where it is no type, the type as it is written
abbrev pub met_type : Term → Term → Term
met_type NoType written = written
met_type (Predeclared b) written = Predeclared b
met_type ErrorType written = ErrorType
met_type (Defined k) written = Defined k
met_type (PointerTo t) written = PointerTo t
met_type (StructOf path fs) written = StructOf path fs
met_type (InterfaceOf path ms) written = InterfaceOf path ms

abbrev pub met_in : List Entry → Entry → Term
met_in es e = met_type (term_in (find_entry es e.key)) e.term

-- what is amiss in a type declaration and in the methods of its type, as they are written
abbrev pub entry_faults : List Entry → List ℕ → List FileOutline → Entry → List PackageFault
entry_faults es path os e =
    (all_located os (term_faults (kinds_in es) e.term) ++ all_located os (declared_faults (kinds_in es) path (met_in es e) [] e.methods))
    ++ all_located os (hidden_faults path (met_in es e) e.methods)

abbrev pub entries_faults : List Entry → List ℕ → List FileOutline → List Entry → List PackageFault
entries_faults es path os written = flat_map (entry_faults es path os) written

-- types that reach themselves, by their numbers among the entries
abbrev pub type_loop_fault : List FileOutline → TypeFault → Option Entry → List PackageFault
type_loop_fault os f None = []
type_loop_fault os f (Some e) = located os (places.Declared e.key.decl) f.rule

abbrev pub loops_faults : List FileOutline → List Entry → List TypeFault → List PackageFault
loops_faults os es fs = flat_map (λ f. type_loop_fault os f (slice_get es f.entry)) fs

-- aliases that reach themselves, by their declarations
abbrev pub alias_faults : List FileOutline → List DeclRef → List PackageFault
alias_faults os ds = flat_map (λ d. located os (places.Declared d) Y1) ds

-- receivers

-- whether the type that a receiver's base means may be one: a type that may. One that is none may not
abbrev pub is_base : List Entry → List ℕ → Term → Bool
is_base es path t = if is_no_type t then false else can_be_base (kinds_in es) path t

-- the fault of a receiver's base by the type that it means, at an offset
abbrev pub type_base_fault : List Entry → List ℕ → ℕ → ℕ → Term → List PackageFault
type_base_fault es path file offset t = if is_base es path t then [] else fault_in file offset B6 ∷ []

-- the fault of a base by its name, by what the name denotes and by what that means, which is the target of an alias: a name that is refused
-- denotes no type, has its own fault where it stands, and breaks no rule here
abbrev pub base_fault : List Entry → Meaning → Meaning → List ℕ → ℕ → TypeName → List PackageFault
base_fault es raw mean path file base = if is_no_type (raw base) then [] else type_base_fault es path file (type_name_start base) (mean base)

abbrev pub received_fault : List Entry → Meaning → Meaning → List ℕ → ℕ → Option Receiver → List PackageFault
received_fault es raw mean path file None = []
received_fault es raw mean path file (Some r) = base_fault es raw mean path file r.base

abbrev pub form_fault : List Entry → Meaning → Meaning → List ℕ → ℕ → FormTree → List PackageFault
form_fault es raw mean path file (ValueForm k v i) = []
form_fault es raw mean path file (TypeForm t) = []
form_fault es raw mean path file (FuncForm g) = received_fault es raw mean path file g.receiver

abbrev pub file_receivers : List Entry → Meaning → Meaning → List ℕ → ℕ → List TopDeclTree → List PackageFault
file_receivers es raw mean path file ds = flat_map (λ d. form_fault es raw mean path file d.form) ds

abbrev pub receivers_faults : List Entry → Meanings → Meanings → List ℕ → List FileOutline → List PackageFault
receivers_faults es raws means path os = flat_map (λ p. file_receivers es (raws p.0) (means p.0) path p.0 p.1.decls) (enumerate_from 0 os)

-- all of them: the types as they are written, among the types of a table, which of them reach themselves, and which aliases do. What names
-- denote, where each means its declaration, and what they mean
abbrev pub faults_of_types : List Entry → Meanings → Meanings → List ℕ → List FileOutline → List Entry → List DeclRef → List TypeFault → List PackageFault
faults_of_types es raws means path os written looped loops =
    ((loops_faults os written loops ++ alias_faults os looped) ++ entries_faults es path os written) ++ receivers_faults es raws means path os
