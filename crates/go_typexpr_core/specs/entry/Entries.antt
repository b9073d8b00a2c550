-- The types that a package declares, as they are written.
use Rattle.std.specs.Prelude.{ℕ, Bool, true, false, not, ◌||◌, List, [], ◌∷◌, Option, Some, None, is_some, map}
use Rattle.std.specs.List.{filter, flat_map, enumerate_from}
use Rattle.go_path_core.specs.text_core.declared.span.Span.{Span}
use Rattle.go_tree_nodes.specs.declared.files.Receiver.{Receiver}
use Rattle.go_tree_nodes.specs.Trees.{FuncTree, TypeSpecTree}
use Rattle.go_term_core.specs.decl_core.declared.places.DeclKind.TheVariants as kinds
use Rattle.go_term_core.specs.decl_core.declared.keys.DeclKey.{DeclKey}
use Rattle.go_term_core.specs.decl_core.TopDecls.{TopDeclTree, FormTree, ValueForm, TypeForm, FuncForm}
use Rattle.go_scope_core.specs.block_core.Blocks.{BlocksModel}
use Rattle.go_term_core.specs.declared.term.MemberPlace.{MemberPlace}
use Rattle.go_term_core.specs.declared.term.MemberPlace.TheVariants as places
use Rattle.go_term_core.specs.Terms.{Term, Defined}
use Rattle.go_type_core.specs.table_core.Entries.{Entry, Member, same_key}
use Rattle.go_typexpr_core.specs.written.Written.{InFile, Meaning, term_of, signature_of}
use Rattle.go_typexpr_core.specs.entry.Marks.{alias_mark}
use Rattle.go_typexpr_core.specs.entry.Meanings.{Shown, Shows, declared_alone, file_meaning}
use Rattle.go_typexpr_core.specs.entry.Outlines.{FileOutline}
use Rattle.go_scope_core.specs.block_core.Declarations.{decl_ref}

-- keys and places

-- the key of a type that is declared in a file under a number
abbrev pub type_key : InFile → ℕ → DeclKey
type_key f number = record { path = f.path; decl = decl_ref f.file number kinds.«Type» }

abbrev pub method_place : InFile → ℕ → MemberPlace
method_place f number = places.Declared (decl_ref f.file number kinds.Method)

-- the file of a number of the package of a path
abbrev pub file_at : List ℕ → ℕ → FileOutline → InFile
file_at path n o = record { path = path; file = n; places = o.places }

-- methods

-- a method that is declared, with what the base of its receiver means
pub record Received : Type 0 where
  pub base : Term
  pub member : Member

-- a method as it is written: its name, its place, whether its receiver has a star, its signature
abbrev pub method_of : Meaning → InFile → TopDeclTree → FuncTree → Receiver → Member
method_of mean f d g r = record { name = d.ident.name; place = method_place f d.number; pointer = is_some r.star; sign = signature_of mean f g.signature }

abbrev pub received_of : Meaning → InFile → TopDeclTree → FuncTree → Receiver → Received
received_of mean f d g r = record { base = mean r.base; member = method_of mean f d g r }

-- a function is a method where it has a receiver
abbrev pub func_methods : Meaning → InFile → TopDeclTree → FuncTree → Option Receiver → List Received
func_methods mean f d g None = []
func_methods mean f d g (Some r) = received_of mean f d g r ∷ []

abbrev pub decl_methods : Meaning → InFile → TopDeclTree → FormTree → List Received
decl_methods mean f d (ValueForm k v i) = []
decl_methods mean f d (TypeForm t) = []
decl_methods mean f d (FuncForm g) = func_methods mean f d g g.receiver

-- the methods of a file, in order of number
abbrev pub file_methods : Meaning → InFile → List TopDeclTree → List Received
file_methods mean f ds = flat_map (λ d. decl_methods mean f d d.form) ds

-- what names of types mean in each file of a package, by the file's number
abbrev pub Meanings : Type 0
Meanings = ℕ → Meaning

-- the methods of the files of a package, in order of file and number
abbrev pub package_methods : Meanings → List ℕ → List FileOutline → List Received
package_methods means path os = flat_map (λ p. file_methods (means p.0) (file_at path p.0 p.1) p.1.decls) (enumerate_from 0 os)

-- whether a type is the defined type of a key
abbrev pub is_type_of : DeclKey → Term → Bool
is_type_of k (Defined j) = same_key j k
is_type_of k _ = false

-- the methods whose receivers' bases mean the type of a key
abbrev pub methods_received : DeclKey → List Received → List Member
methods_received k rs = map (λ r. r.member) (filter (λ r. is_type_of k r.base) rs)

-- entries

-- a type declaration: its key, its name, the type that is written, and its methods among these
abbrev pub spec_entry : Meaning → InFile → List Received → TopDeclTree → TypeSpecTree → Entry
spec_entry mean f rs d t = record { key = type_key f d.number; name = d.ident.name; term = term_of mean f t.type_expr; methods = methods_received (type_key f d.number) rs }

-- whether a type declaration counts: an alias where aliases count also
abbrev pub is_listed : Bool → Option Span → Bool
is_listed also mark = also || not (is_some mark)

abbrev pub listed_entry : Bool → Entry → List Entry
listed_entry true e = e ∷ []
listed_entry false e = []

-- what a declaration declares, where types count alone or aliases also
abbrev pub entry_by : Bool → Meaning → InFile → List Received → TopDeclTree → FormTree → List Entry
entry_by also mean f rs d (ValueForm k v i) = []
entry_by also mean f rs d (TypeForm t) = listed_entry (is_listed also (alias_mark t)) (spec_entry mean f rs d t)
entry_by also mean f rs d (FuncForm g) = []

abbrev pub file_entries_by : Bool → Meaning → InFile → List Received → List TopDeclTree → List Entry
file_entries_by also mean f rs ds = flat_map (λ d. entry_by also mean f rs d d.form) ds

abbrev pub entries_by : Bool → Meanings → List ℕ → List Received → List FileOutline → List Entry
entries_by also means path rs os = flat_map (λ p. file_entries_by also (means p.0) (file_at path p.0 p.1) rs p.1.decls) (enumerate_from 0 os)

-- a type that is declared; an alias declares none
abbrev pub entry_of : Meaning → InFile → List Received → TopDeclTree → FormTree → List Entry
entry_of mean f rs d form = entry_by false mean f rs d form

-- the types of a file, in order of number
abbrev pub file_entries : Meaning → InFile → List Received → List TopDeclTree → List Entry
file_entries mean f rs ds = file_entries_by false mean f rs ds

-- the types of the files of a package, in order of file and number, with their methods among these
abbrev pub entries_with : Meanings → List ℕ → List Received → List FileOutline → List Entry
entries_with means path rs os = entries_by false means path rs os

-- what names of types mean at the top of the files of the package of a path with these blocks
abbrev pub package_meanings : Shows → List ℕ → BlocksModel → Meanings
package_meanings shows path b = λ file. file_meaning shows path b file

-- the types that the package of a path declares, in order of file and number: each with the methods of all files whose receivers' bases
-- mean it, in order of file and number
abbrev pub declared_entries : Shows → List ℕ → BlocksModel → List FileOutline → List Entry
declared_entries shows path b os =
    let means : Meanings = package_meanings shows path b in
    entries_with means path (package_methods means path os) os

-- all types and aliases that the package of a path declares, in order of file and number, without methods, where each name means the declaration
-- that it denotes
abbrev pub all_entries : Shown → List ℕ → BlocksModel → List FileOutline → List Entry
all_entries shown path b os = entries_by true (package_meanings (declared_alone shown) path b) path [] os
