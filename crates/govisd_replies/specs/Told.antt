-- What is found, as it goes out.
use Rattle.std.specs.Prelude.{◌≡◌, ℕ, List, map, Option, Some, None, option_map, Result, Ok, Err, Vec, string_bytes}
use Rattle.std.specs.Global.{Global}
use Rattle.std.specs.List.{AllZip}
use Rattle.std.specs.declared.string.String.{String}
use Rattle.go_text_core.specs.declared.rule.Rule.TheVariants.{M0}
use Rattle.go_wire_core.specs.declared.reply.FaultPlace.{FaultPlace}
use Rattle.go_wire_core.specs.declared.reply.PackageEntry.{PackageEntry}
use Rattle.go_wire_core.specs.declared.reply.RunEnd.{RunEnd}
use Rattle.go_wire_core.specs.declared.reply.RunEnd.TheVariants.{Ended, Panicked, Spent}
use Rattle.go_wire_core.specs.declared.reply.Symbol.{Symbol}
use Rattle.go_wire_core.specs.declared.reply.SymbolKind.{SymbolKind}
use Rattle.go_wire_core.specs.declared.reply.SymbolKind.TheVariants.{Const, Var, «Type» as TypeKind, Func, Field, Method}
use Rattle.go_wire_core.specs.declared.reply.WireReply.{WireReply}
use Rattle.go_wire_core.specs.declared.reply.WireReply.TheVariants.{Built, Listed, Described, Completed, Defined, Ran, Refused}
use Rattle.go_graph_core.specs.Packages.{IsPackageName, trees_of}
use Rattle.go_session_core.specs.query_core.Entries.{AreDeps, AreImports, EntryOf}
use Rattle.go_decl_core.specs.declared.places.DeclKind.{DeclKind}
use Rattle.go_decl_core.specs.declared.places.DeclKind.TheVariants as decl
use Rattle.go_machine_core.specs.declared.runs.outcome.Run.{Run}
use Rattle.go_machine_core.specs.declared.runs.outcome.Run.TheVariants as runs
use Rattle.go_session_core.specs.declared.queries.faults.Fault.{Fault}
use Rattle.go_session_core.specs.query_core.declared.listing.Listing.{Listing}
use Rattle.go_session_core.specs.query_core.declared.documenting.PackageDoc.{PackageDoc}
use Rattle.go_doc_core.specs.declared.symbol.symbols.Symbol.{Symbol as FoundSymbol}
use Rattle.go_session_core.specs.type_doc_core.declared.members.listing.MemberKind.{MemberKind}
use Rattle.go_session_core.specs.type_doc_core.declared.members.listing.MemberKind.TheVariants as member
use Rattle.go_session_core.specs.type_doc_core.declared.telling.Member.{Member}
use Rattle.go_session_core.specs.type_doc_core.declared.telling.TypeDoc.{TypeDoc}

-- a fault, with where it stands
abbrev pub place_of : Fault → FaultPlace
place_of f = record { path = f.path; file = f.file; offset = f.offset; rule = f.rule }

-- the reply has the number of batches and the same faults, in order, unless memory is wanting
abbrev pub TellsBuild : ℕ → List Fault → WireReply → Type 0
TellsBuild number found (Built batch faults) = (batch ≡ number) × (faults.items ≡ map place_of found)
TellsBuild number found reply = reply ≡ Refused M0

-- ---- what is listed of a package

pub record IsEntryFor (e : EntryOf) (w : PackageEntry) : Type 0 where
  pub path_is : w.path ≡ e.of_part.input.source.0
  pub name_is : IsPackageName (trees_of e.of_part.input.source.1) w.name
  pub files_are : w.files.items ≡ map (λ f. f.name) e.of_part.input.source.1
  pub imports_are : AreImports e w.imports.items
  pub deps_are : AreDeps e w.deps.items

-- the reply has the number of batches and the same packages, in order
abbrev pub TellsListing : ℕ × Listing → WireReply → Type 0
TellsListing a (Listed batch own importable) = (batch ≡ a.0) × IsEntryFor a.1.own own × AllZip IsEntryFor a.1.importable.items importable.items
TellsListing a reply = ⊥

-- ---- what is told of a name

pub record SymbolLists : Type 0 where
  pub doc : List ℕ
  pub kind : SymbolKind
  pub name : List ℕ
  pub through : Option (List (List ℕ))

abbrev pub symbol_told : Symbol → SymbolLists
symbol_told s = record { doc = s.doc; kind = s.kind; name = s.name; through = option_map (λ v. v.items) s.through }

abbrev pub kind_told : DeclKind → SymbolKind
kind_told decl.Const = Const
kind_told decl.Var = Var
kind_told decl.«Type» = TypeKind
kind_told decl.Func = Func
kind_told decl.Method = Method
kind_told decl.Field = Field
kind_told decl.Param = Var

-- of a name of a package
abbrev pub symbol_shown : FoundSymbol → SymbolLists
symbol_shown s = record { doc = s.doc.now; kind = kind_told s.kind; name = s.name.now; through = None }

-- the reply has the number of batches, the package, and the same names, in order
abbrev pub TellsDoc : ℕ × PackageDoc → WireReply → Type 0
TellsDoc a (Described batch name path symbols) = (batch ≡ a.0) × (name ≡ a.1.name.now) × (path ≡ a.1.path.now) × (map symbol_told symbols.items ≡ map symbol_shown a.1.symbols.items)
TellsDoc a reply = ⊥

-- ---- what is told of a member of a type

abbrev pub member_kind_told : MemberKind → SymbolKind
member_kind_told member.Field = Field
member_kind_told member.Method = Method

abbrev pub member_told : Member → SymbolLists
member_told m = record { doc = m.doc.now; kind = member_kind_told m.kind; name = m.name; through = Some m.through.items }

-- the reply has the number of batches, the package, and the same members, in order
abbrev pub TellsTypeDoc : ℕ × TypeDoc → WireReply → Type 0
TellsTypeDoc a (Described batch name path symbols) = (batch ≡ a.0) × (name ≡ a.1.name.now) × (path ≡ a.1.path.now) × (map symbol_told symbols.items ≡ map member_told a.1.members.items)
TellsTypeDoc a reply = ⊥

-- ---- names

-- the reply has the number of batches and the same names, in order
abbrev pub AreNamesTold : ℕ → List (String Global) → WireReply → Type 0
AreNamesTold number found (Completed batch names) = (batch ≡ number) × (names.items ≡ map (λ s. string_bytes s) found)
AreNamesTold number found reply = ⊥

abbrev pub TellsNames : ℕ × Vec (String Global) Global → WireReply → Type 0
TellsNames a reply = AreNamesTold a.0 a.1.items reply

-- the reply has the number of batches and the declaration as it is printed
abbrev pub TellsDeclaration : ℕ × String Global → WireReply → Type 0
TellsDeclaration a (Defined batch declaration) = (batch ≡ a.0) × (declaration ≡ string_bytes a.1)
TellsDeclaration a reply = ⊥

-- ---- runs

abbrev pub end_told : Run → RunEnd
end_told (runs.Ended output) = Ended
end_told (runs.Panicked value output) = Panicked
end_told (runs.Spent output) = Spent

abbrev pub output_told : Run → List ℕ
output_told (runs.Ended output) = string_bytes output
output_told (runs.Panicked value output) = string_bytes output
output_told (runs.Spent output) = string_bytes output

-- the reply has the number of batches, how the run ended, and what it printed
abbrev pub TellsOutcome : ℕ × Run → WireReply → Type 0
TellsOutcome a (Ran batch end output) = (batch ≡ a.0) × (end ≡ end_told a.1) × (output ≡ output_told a.1)
TellsOutcome a reply = ⊥

-- a reply, or that memory is wanting
abbrev pub or_memory : {E : Type 0} → Result WireReply E → WireReply
or_memory (Ok reply) = reply
or_memory (Err e) = Refused M0
