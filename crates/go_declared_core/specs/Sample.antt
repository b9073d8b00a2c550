-- The declarations of a package of two files as they are written, worked out by hand.
use Rattle.std.specs.Prelude.{◌≡◌, ℕ, true, List, [], ◌∷◌, Option, Some, None, codes}
use Rattle.go_tree_nodes.specs.declared.decls.ValueKind.TheVariants as value_kinds
use Rattle.go_tree_nodes.specs.declared.types.TypeName.TheVariants as type_names
use Rattle.go_tree_nodes.specs.Trees.{One, Then, Pointer, Integer, Param, NoParams, Signed, NoResult, NoLines, Func, Value, Single, TopTree}
use Rattle.go_tree_nodes.specs.Samples.{type_at, at, int_at, called}
use Rattle.go_term_core.specs.decl_core.declared.keys.DeclKey.{DeclKey}
use Rattle.go_term_core.specs.decl_core.declared.places.DeclKind.{DeclKind}
use Rattle.go_term_core.specs.decl_core.declared.places.DeclKind.TheVariants as kinds
use Rattle.go_term_core.specs.decl_core.Sample.{one_param, top}
use Rattle.go_block_core.specs.Blocks.{BlocksModel, blocks_model}
use Rattle.go_term_core.specs.declared.term.Basic.TheVariants as basics
use Rattle.go_term_core.specs.Terms.{Term, Predeclared, Defined, PointerTo, SignOf, NoTerm, ATerm}
use Rattle.go_handle_core.specs.table_core.Entries.{Entry}
use Rattle.go_typexpr_core.specs.entry.Meanings.{Shows, declared_alone}
use Rattle.go_typexpr_core.specs.entry.Outlines.{outline_of}
use Rattle.go_typexpr_core.specs.entry.Sample.{sample_file, type_top}
use Rattle.go_operand_core.specs.declared.types.ValueType.TheVariants as value_types
use Rattle.go_declared_core.specs.declared.face.Face.TheVariants as faces
use Rattle.go_declared_core.specs.Faces.{TheFace}
use Rattle.go_declared_core.specs.Written.{WrittenOf, package_written, position_of}
use Rattle.go_block_core.specs.Declarations.{decl_ref}

-- type T int
abbrev pub face_number_type : TopTree
face_number_type = type_top 3 (called (codes "T") 4) (int_at 5) 6

-- func f(x *T) {}
abbrev pub face_sample_function : TopTree
face_sample_function = top (Func (record { func = at 7; receiver = None; name = called (codes "f") 8; signature = Signed (at 9) (Param (Some (One (called (codes "x") 10))) (Pointer (at 11) (type_at (codes "T") 12)) None NoParams) (at 13) NoResult; open_brace = at 14; body = NoLines; close_brace = at 15 })) 16

-- var v, w *T
abbrev pub typed_variables : TopTree
typed_variables = top (Value (record { kind = value_kinds.Var; keyword = at 17; specs = Single (record { names = Then (called (codes "v") 18) (at 19) (One (called (codes "w") 20)); type_expr = Some (Pointer (at 21) (type_at (codes "T") 22)); values = None }) })) 23

-- const c int = 1
abbrev pub typed_constant : TopTree
typed_constant = top (Value (record { kind = value_kinds.Const; keyword = at 24; specs = Single (record { names = One (called (codes "c") 25); type_expr = Some (int_at 26); values = Some (at 27, One (Integer 1 (at 28))) }) })) 29

-- var u = 1
abbrev pub plain_variable : TopTree
plain_variable = top (Value (record { kind = value_kinds.Var; keyword = at 3; specs = Single (record { names = One (called (codes "u") 4); type_expr = None; values = Some (at 5, One (Integer 1 (at 6))) }) })) 7

-- var z M
abbrev pub typeless_variable : TopTree
typeless_variable = top (Value (record { kind = value_kinds.Var; keyword = at 8; specs = Single (record { names = One (called (codes "z") 9); type_expr = Some (type_at (codes "M") 10); values = None }) })) 11

-- func (t T) m(q int) {}
abbrev pub face_sample_method : TopTree
face_sample_method = top (Func (record { func = at 12; receiver = Some (record { open_paren = at 13; name = Some (called (codes "t") 14); star = None; base = type_names.Plain (called (codes "T") 15); comma = None; close_paren = at 16 }); name = called (codes "m") 17; signature = one_param (codes "q") 18; open_brace = at 22; body = NoLines; close_brace = at 23 })) 24

-- type N M
abbrev pub missing_type : TopTree
missing_type = type_top 25 (called (codes "N") 26) (type_at (codes "M") 27) 28

abbrev pub face_sample_blocks : BlocksModel
face_sample_blocks = blocks_model ((codes "T", decl_ref 0 0 kinds.«Type») ∷ ((codes "N", decl_ref 1 5 kinds.«Type») ∷ [])) ([] ∷ ([] ∷ [])) []

abbrev pub face_sample_shows : Shows
face_sample_shows = declared_alone (λ path name. None)

abbrev pub face_sample_key : DeclKey
face_sample_key = record { path = codes "p"; decl = decl_ref 0 0 kinds.«Type» }

-- no other type is in the table
abbrev pub sample_table : List Entry
sample_table = record { key = face_sample_key; name = codes "T"; term = Predeclared basics.Int; methods = [] } ∷ []

abbrev pub entry : ℕ → ℕ → DeclKind → Option TheFace → WrittenOf
entry file number kind face = record { decl = decl_ref file number kind; face = face }

-- a variable of this type
abbrev pub sample_variable_face : Term → Option TheFace
sample_variable_face t = Some (faces.«Value» (Some (record { value_type = value_types.Typed t; constant = None; addressable = true })))

abbrev pub pointer : Term
pointer = PointerTo (Defined face_sample_key)

abbrev pub sample_list : List WrittenOf
sample_list = package_written face_sample_shows (codes "p") face_sample_blocks sample_table
    (outline_of (sample_file (face_number_type ∷ (face_sample_function ∷ (typed_variables ∷ (typed_constant ∷ []))))) ∷ (outline_of (sample_file (plain_variable ∷ (typeless_variable ∷ (face_sample_method ∷ (missing_type ∷ []))))) ∷ []))

-- the parameters and the receiver have numbers of their own, and stand nowhere in the list
pub record FaceSampleIsRight : Type 0 where
  pub listed :
      sample_list
      ≡ entry 0 0 kinds.«Type» (Some (faces.«Type» (Some (Defined face_sample_key))))
      ∷ (entry 0 1 kinds.Func (Some (faces.Func (SignOf (ATerm pointer NoTerm) NoTerm)))
      ∷ (entry 0 3 kinds.Var (sample_variable_face pointer)
      ∷ (entry 0 4 kinds.Var (sample_variable_face pointer)
      ∷ (entry 0 5 kinds.Const None
      ∷ (entry 1 0 kinds.Var None
      ∷ (entry 1 1 kinds.Var (Some (faces.«Value» None))
      ∷ (entry 1 3 kinds.Method (Some (faces.Func (SignOf (ATerm (Predeclared basics.Int) NoTerm) NoTerm)))
      ∷ (entry 1 5 kinds.«Type» (Some (faces.«Type» None))
      ∷ []))))))))
  pub last : position_of sample_list (decl_ref 1 5 kinds.«Type») ≡ Some 8
  pub second : position_of sample_list (decl_ref 0 1 kinds.Func) ≡ Some 1
  pub parameter : position_of sample_list (decl_ref 0 2 kinds.Param) ≡ None
