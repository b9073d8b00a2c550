-- Laws of the types that a package declares.
use Rattle.std.specs.Prelude.{◌≡◌, ◌↔◌, ◌&&◌, ◌||◌, ℕ, List, Some, None, nat_eq, nat_lt, slice_get, map, true, All, AllPairs, Contains}
use Rattle.go_tree_nodes.specs.declared.files.Receiver.{Receiver}
use Rattle.go_tree_nodes.specs.declared.types.TypeName.{TypeName}
use Rattle.go_tree_nodes.specs.Trees.{FuncTree, TypeSpecTree}
use Rattle.go_term_core.specs.decl_core.declared.keys.DeclKey.{DeclKey}
use Rattle.go_term_core.specs.decl_core.TopDecls.{TopDeclTree, TypeForm, FuncForm}
use Rattle.go_scope_core.specs.block_core.Blocks.{BlocksModel}
use Rattle.go_term_core.specs.declared.term.MemberPlace.{MemberPlace}
use Rattle.go_term_core.specs.declared.term.MemberPlace.TheVariants as places
use Rattle.go_term_core.specs.Terms.{Term, Defined}
use Rattle.go_type_core.specs.table_core.Entries.{Entry, Member}
use Rattle.go_type_core.specs.table_core.Tables.{AreOf, KeysRise}
use Rattle.go_typexpr_core.specs.entry.Marks.{alias_mark}
use Rattle.go_typexpr_core.specs.entry.Meanings.{Shows, file_meaning}
use Rattle.go_typexpr_core.specs.entry.Outlines.{FileOutline, IsOutline}
use Rattle.go_typexpr_core.specs.entry.Entries.{declared_entries, type_key, method_of, file_at}
use Rattle.go_typexpr_core.specs.entry.Names.{names_written}

-- a declaration of the file of a number
abbrev pub IsDeclaredInFile : List FileOutline → ℕ → FileOutline → TopDeclTree → Type 0
IsDeclaredInFile os n o d = (slice_get os n ≡ Some o) × Contains o.decls d

-- keys

-- the key of a type that is declared in a file of the package, and is no alias
pub record IsTypeKey (path : List ℕ) (os : List FileOutline) (k : DeclKey) : Type 0 where
  pub file : ℕ
  pub outline : FileOutline
  pub decl : TopDeclTree
  pub there : IsDeclaredInFile os file outline decl
  pub spec : TypeSpecTree
  pub form : decl.form ≡ TypeForm spec
  pub defined : alias_mark spec ≡ None
  pub key : k ≡ type_key (file_at path file outline) decl.number

-- the keys of the entries are those of the package's type declarations, in order of file and number, and no two are the same
pub record KeysDiffer : Type 0 where
  pub own : (shows : Shows) (path : List ℕ) (b : BlocksModel) (os : List FileOutline) → AreOf path (declared_entries shows path b os)
  pub rising : (shows : Shows) (path : List ℕ) (b : BlocksModel) (os : List FileOutline) → All IsOutline os → KeysRise (declared_entries shows path b os)
  pub differ : (shows : Shows) (path : List ℕ) (b : BlocksModel) (os : List FileOutline) → All IsOutline os → AllPairs (λ (e f : Entry). e.key ≡ f.key → ⊥) (declared_entries shows path b os)
  pub keys : (shows : Shows) (path : List ℕ) (b : BlocksModel) (os : List FileOutline) (k : DeclKey) → Contains (map (λ e. e.key) (declared_entries shows path b os)) k ↔ IsTypeKey path os k

-- methods

-- a method that is declared in a file of the package, whose receiver's base means a type there
pub record IsDeclaredMethod (shows : Shows) (path : List ℕ) (b : BlocksModel) (os : List FileOutline) (base : Term) (m : Member) : Type 0 where
  pub file : ℕ
  pub outline : FileOutline
  pub decl : TopDeclTree
  pub there : IsDeclaredInFile os file outline decl
  pub func : FuncTree
  pub form : decl.form ≡ FuncForm func
  pub receiver : Receiver
  pub received : func.receiver ≡ Some receiver
  pub means : file_meaning shows path b file receiver.base ≡ base
  pub written : m ≡ method_of (file_meaning shows path b file) (file_at path file outline) decl func receiver

-- a place outside bodies stands before another by file, then by number there
abbrev pub IsPlaceBefore : MemberPlace → MemberPlace → Type 0
IsPlaceBefore (places.Declared a) (places.Declared b) = (nat_lt a.file b.file || (nat_eq a.file b.file && nat_lt a.number b.number)) ≡ true
IsPlaceBefore _ _ = ⊥

-- a method stands in an entry exactly where its receiver's base means the entry's key; the methods of an entry stand in order of file and
-- number, each once
pub record MethodsAreOfTheType : Type 0 where
  pub methods : (shows : Shows) (path : List ℕ) (b : BlocksModel) (os : List FileOutline) (e : Entry) (m : Member) → Contains (declared_entries shows path b os) e → Contains e.methods m ↔ IsDeclaredMethod shows path b os (Defined e.key) m
  pub order : (shows : Shows) (path : List ℕ) (b : BlocksModel) (os : List FileOutline) → All IsOutline os → All (λ (e : Entry). AllPairs (λ (m n : Member). IsPlaceBefore m.place n.place) e.methods) (declared_entries shows path b os)

-- what is looked at

-- names of types mean the same by two packages' shows and two packages' blocks, those that the types and the methods of the files write
abbrev pub MeanAlike : (shows other : Shows) (path : List ℕ) (b c : BlocksModel) → List FileOutline → Type 0
MeanAlike shows other path b c os =
    (n : ℕ) (o : FileOutline) (x : TypeName) → slice_get os n ≡ Some o → Contains (names_written o) x → file_meaning shows path b n x ≡ file_meaning other path c n x

-- the entries depend on nothing else of blocks and of what other packages show
abbrev pub EntriesAreLocal : Type 0
EntriesAreLocal =
    (shows other : Shows) (path : List ℕ) (b c : BlocksModel) (os : List FileOutline)
    → MeanAlike shows other path b c os → declared_entries shows path b os ≡ declared_entries other path c os
