-- The types of a package of two files, worked out by hand.
use Rattle.std.specs.Prelude.{◌≡◌, ℕ, Bool, true, false, List, [], ◌∷◌, Some, None, codes}
use Rattle.go_tree_nodes.specs.declared.names.Ident.{Ident}
use Rattle.go_tree_nodes.specs.declared.types.TypeName.TheVariants as type_names
use Rattle.go_tree_nodes.specs.Trees.{One, TypeTree, Struct, NoFields, NamedFields, EmbeddedField, NoLines, Types, Func, Single, TopTree, FileTree}
use Rattle.go_tree_nodes.specs.Samples.{at, int_at, called, type_spec_of}
use Rattle.go_term_core.specs.decl_core.declared.keys.DeclKey.{DeclKey}
use Rattle.go_term_core.specs.decl_core.declared.places.DeclKind.{DeclKind}
use Rattle.go_term_core.specs.decl_core.declared.places.DeclKind.TheVariants as kinds
use Rattle.go_term_core.specs.decl_core.Sample.{one_param, top}
use Rattle.go_scope_core.specs.block_core.declared.binding.Target.TheVariants as targets
use Rattle.go_scope_core.specs.block_core.Blocks.{BlocksModel, blocks_model}
use Rattle.go_term_core.specs.declared.term.Basic.TheVariants as basics
use Rattle.go_term_core.specs.declared.term.MemberPlace.{MemberPlace}
use Rattle.go_term_core.specs.declared.term.MemberPlace.TheVariants as places
use Rattle.go_term_core.specs.Terms.{Predeclared, Defined, StructOf, NoField, AField, Sign, SignOf, NoTerm, ATerm}
use Rattle.go_type_core.specs.table_core.Entries.{Entry, Member}
use Rattle.go_typexpr_core.specs.entry.Entries.{declared_entries}
use Rattle.go_typexpr_core.specs.entry.Meanings.{Shows, declared_alone}
use Rattle.go_typexpr_core.specs.entry.Outlines.{outline_of}
use Rattle.go_scope_core.specs.block_core.Declarations.{decl_ref}

abbrev pub sample_file : List TopTree → FileTree
sample_file decls = record { clause = at 0; name = called (codes "p") 1; semicolon = at 2; imports = []; decls = decls }

-- a declaration of one type
abbrev pub type_top : ℕ → Ident → TypeTree → ℕ → TopTree
type_top keyword name t semicolon = top (Types (record { keyword = at keyword; specs = Single (type_spec_of name t) })) semicolon

-- type T struct { U; a int }
abbrev pub entry_sample_struct : TopTree
entry_sample_struct = type_top 3 (called (codes "T") 4) (Struct (at 5) (at 6) (EmbeddedField None (type_names.Plain (called (codes "U") 7)) None (Some (at 8)) (NamedFields (One (called (codes "a") 9)) (int_at 10) None None NoFields)) (at 11)) 12

-- func (u U) g(x int) {}
abbrev pub plain_method : TopTree
plain_method = top (Func (record { func = at 13; receiver = Some (record { open_paren = at 14; name = Some (called (codes "u") 15); star = None; base = type_names.Plain (called (codes "U") 16); comma = None; close_paren = at 17 }); name = called (codes "g") 18; signature = one_param (codes "x") 19; open_brace = at 23; body = NoLines; close_brace = at 24 })) 25

-- func (t *T) m(q int) {}
abbrev pub pointer_method : TopTree
pointer_method = top (Func (record { func = at 3; receiver = Some (record { open_paren = at 4; name = Some (called (codes "t") 5); star = Some (at 6); base = type_names.Plain (called (codes "T") 7); comma = None; close_paren = at 8 }); name = called (codes "m") 9; signature = one_param (codes "q") 10; open_brace = at 14; body = NoLines; close_brace = at 15 })) 16

-- type U int
abbrev pub number_type : TopTree
number_type = type_top 17 (called (codes "U") 18) (int_at 19) 20

-- func (q.T) k(x int) {}
abbrev pub far_method : TopTree
far_method = top (Func (record { func = at 21; receiver = Some (record { open_paren = at 22; name = None; star = None; base = type_names.Qualified (called (codes "q") 23) (at 24) (called (codes "T") 25); comma = None; close_paren = at 26 }); name = called (codes "k") 27; signature = one_param (codes "x") 28; open_brace = at 32; body = NoLines; close_brace = at 33 })) 34

-- the second file imports a package q of the path r, which shows a type T
abbrev pub entry_sample_blocks : BlocksModel
entry_sample_blocks = blocks_model ((codes "T", decl_ref 0 0 kinds.«Type») ∷ ((codes "U", decl_ref 1 3 kinds.«Type») ∷ [])) ([] ∷ (((codes "q", record { at = 2; target = targets.«Package» (codes "r") }) ∷ []) ∷ [])) []

-- the key of that type differs from the first type's by its path alone
abbrev pub entry_sample_shows : Shows
entry_sample_shows = declared_alone (λ path name. Some (decl_ref 0 0 kinds.«Type»))

abbrev pub entry_sample_key : ℕ → ℕ → DeclKey
entry_sample_key file number = record { path = codes "p"; decl = decl_ref file number kinds.«Type» }

abbrev pub entry_sample_place : ℕ → ℕ → DeclKind → MemberPlace
entry_sample_place file number kind = places.Declared (decl_ref file number kind)

abbrev pub int_sign : Sign
int_sign = SignOf (ATerm (Predeclared basics.Int) NoTerm) NoTerm

abbrev pub entry_sample_method : List ℕ → MemberPlace → Bool → Member
entry_sample_method name at_place pointer = record { name = name; place = at_place; pointer = pointer; sign = int_sign }

abbrev pub first_entry : Entry
first_entry = record { key = entry_sample_key 0 0; name = codes "T"; term = StructOf (codes "p") (AField (codes "U") (entry_sample_place 0 1 kinds.Field) true (Defined (entry_sample_key 1 3)) [] (AField (codes "a") (entry_sample_place 0 2 kinds.Field) false (Predeclared basics.Int) [] NoField)); methods = entry_sample_method (codes "m") (entry_sample_place 1 1 kinds.Method) true ∷ [] }

abbrev pub second_entry : Entry
second_entry = record { key = entry_sample_key 1 3; name = codes "U"; term = Predeclared basics.Int; methods = entry_sample_method (codes "g") (entry_sample_place 0 4 kinds.Method) false ∷ [] }

-- a method stands with its type whichever file it is in; a method of another package's type stands nowhere
abbrev pub EntrySampleIsRight : Type 0
EntrySampleIsRight =
    declared_entries entry_sample_shows (codes "p") entry_sample_blocks (outline_of (sample_file (entry_sample_struct ∷ (plain_method ∷ []))) ∷ (outline_of (sample_file (pointer_method ∷ (number_type ∷ (far_method ∷ [])))) ∷ []))
    ≡ first_entry ∷ (second_entry ∷ [])
