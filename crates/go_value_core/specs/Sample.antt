-- Constants and variables of a package of one file, worked out by hand:
--   const a = b + b; const b = 2; const c = d; const d = c; const e = c; var v = a; var w, x = b, T{c}; var y string
use Rattle.std.specs.Prelude.{◌≡◌, ℕ, pos, Bool, true, false, List, [], ◌∷◌, Option, Some, None, map, codes}
use Rattle.go_tree_nodes.specs.token_core.declared.kind.Operator.TheVariants as operators
use Rattle.go_tree_nodes.specs.declared.decls.ValueKind.{ValueKind}
use Rattle.go_tree_nodes.specs.declared.decls.ValueKind.TheVariants as value_kinds
use Rattle.go_tree_nodes.specs.declared.types.TypeName.TheVariants as type_names
use Rattle.go_tree_nodes.specs.Trees.{Separated, One, Then, TypeTree, NamedType, ExprTree, Integer, Binary, Literal, NoItems, Item, ValueSpecTree}
use Rattle.go_tree_nodes.specs.Samples.{at, called, name_at}
use Rattle.go_term_core.specs.decl_core.declared.places.DeclKind.TheVariants as kinds
use Rattle.go_term_core.specs.decl_core.declared.keys.DeclRef.{DeclRef}
use Rattle.go_term_core.specs.decl_core.TopDecls.{FormTree, ValueForm, top_decl}
use Rattle.go_names_core.specs.block_core.Blocks.{blocks_model}
use Rattle.go_constant_core.specs.declared.values.Constant.TheVariants as constants
use Rattle.go_term_core.specs.declared.term.Basic.TheVariants as basics
use Rattle.go_term_core.specs.Terms.{Term, Predeclared}
use Rattle.go_stmt_core.specs.operand_core.declared.types.ValueType.TheVariants as value_types
use Rattle.go_stmt_core.specs.operand_core.declared.types.Operand.{Operand}
use Rattle.go_env_core.specs.declared_core.declared.face.Face.TheVariants as faces
use Rattle.go_env_core.specs.declared_core.Faces.{TheFace, variable_face}
use Rattle.go_env_core.specs.declared_core.Written.{WrittenOf}
use Rattle.go_env_core.specs.Scenes.{SceneModel}
use Rattle.go_value_core.specs.Package.{PlacedOf, placed, package_needs, declared_face, IsThroughItself}
use Rattle.go_names_core.specs.block_core.Declarations.{decl_ref}

-- one name and its expression
abbrev pub one_value_spec : List ℕ → ExprTree → ValueSpecTree
one_value_spec name e = record { names = One (called name 1); type_expr = None; values = Some (at 2, One e) }

-- w, x = b, T{c}
abbrev pub both_values : ValueSpecTree
both_values = record {
  names = Then (called (codes "w") 1) (at 2) (One (called (codes "x") 3));
  type_expr = None;
  values = Some (at 4, Then (name_at (codes "b") 5) (at 6) (One (Literal (type_names.Plain (called (codes "T") 7)) (at 8) (Item None (name_at (codes "c") 9) None NoItems) (at 10))));
}

-- y string
abbrev pub typed_spec : ValueSpecTree
typed_spec = record { names = One (called (codes "y") 1); type_expr = Some (NamedType (type_names.Plain (called (codes "string") 2))); values = None }

abbrev pub constant_placed : List ℕ → ExprTree → ℕ → PlacedOf
constant_placed name e n = placed 0 [] (top_decl (called name 1) n (ValueForm value_kinds.Const (one_value_spec name e) 0))

abbrev pub value_sample : List PlacedOf
value_sample =
    constant_placed (codes "a") (Binary (name_at (codes "b") 3) operators.Plus (at 4) (name_at (codes "b") 5)) 0
    ∷ (constant_placed (codes "b") (Integer 2 (at 3)) 1
    ∷ (constant_placed (codes "c") (name_at (codes "d") 3) 2
    ∷ (constant_placed (codes "d") (name_at (codes "c") 3) 3
    ∷ (constant_placed (codes "e") (name_at (codes "c") 3) 4
    ∷ (placed 0 [] (top_decl (called (codes "v") 1) 5 (ValueForm value_kinds.Var (one_value_spec (codes "v") (name_at (codes "a") 3)) 0))
    ∷ (placed 0 [] (top_decl (called (codes "w") 1) 6 (ValueForm value_kinds.Var both_values 0))
    ∷ (placed 0 [] (top_decl (called (codes "x") 1) 7 (ValueForm value_kinds.Var both_values 1))
    ∷ (placed 0 [] (top_decl (called (codes "y") 1) 8 (ValueForm value_kinds.Var typed_spec 0)) ∷ []))))))))

abbrev pub const_at : ℕ → DeclRef
const_at n = decl_ref 0 n kinds.Const

abbrev pub var_at : ℕ → DeclRef
var_at n = decl_ref 0 n kinds.Var

abbrev pub unwritten : DeclRef → WrittenOf
unwritten d = record { decl = d; face = None }

-- y is a variable of type string, as it is written
abbrev pub y_face : TheFace
y_face = variable_face (Some (Predeclared basics.Text))

abbrev pub value_sample_scene : SceneModel
value_sample_scene = record {
  path = codes "p";
  blocks = blocks_model
      ((codes "a", const_at 0) ∷ ((codes "b", const_at 1) ∷ ((codes "c", const_at 2) ∷ ((codes "d", const_at 3) ∷ ((codes "e", const_at 4) ∷ ((codes "v", var_at 5) ∷ ((codes "w", var_at 6) ∷ ((codes "x", var_at 7) ∷ ((codes "y", var_at 8) ∷ [])))))))))
      ([] ∷ []) [];
  types = [];
  others = [];
  written =
      unwritten (const_at 0) ∷ (unwritten (const_at 1) ∷ (unwritten (const_at 2) ∷ (unwritten (const_at 3) ∷ (unwritten (const_at 4) ∷ (unwritten (var_at 5) ∷ (unwritten (var_at 6) ∷ (unwritten (var_at 7)
      ∷ (record { decl = var_at 8; face = Some y_face } ∷ []))))))));
}

abbrev pub number : ℕ → Operand Term
number n = record { value_type = value_types.UntypedInt; constant = Some (constants.Int (pos n)); addressable = false }

abbrev pub is_two : TheFace
is_two = faces.«Value» (Some (number 2))

abbrev pub is_four : TheFace
is_four = faces.«Value» (Some (number 4))

-- nothing is known
abbrev pub known_of_none : ℕ → Option TheFace
known_of_none n = None

-- this is known of all
abbrev pub known_of_all : TheFace → ℕ → Option TheFace
known_of_all face n = Some face

pub record ValueSampleIsRight : Type 0 where
  -- a needs b twice, c and d need one another, e needs c; of `w, x = b, T{c}` w needs b, and x nothing; y needs nothing
  pub needs : package_needs value_sample_scene value_sample ≡ (1 ∷ (1 ∷ [])) ∷ ([] ∷ ((3 ∷ []) ∷ ((2 ∷ []) ∷ ((2 ∷ []) ∷ ((0 ∷ []) ∷ ((1 ∷ []) ∷ ([] ∷ ([] ∷ []))))))))
  -- b is 2
  pub b_is : declared_face value_sample_scene value_sample known_of_none 1 ≡ is_two
  -- where b is 2, a is 4, and w a variable of type int
  pub a_is : declared_face value_sample_scene value_sample (known_of_all is_two) 0 ≡ is_four
  pub w_is : declared_face value_sample_scene value_sample (known_of_all is_two) 6 ≡ variable_face (Some (Predeclared basics.Int))
  -- where a is 4, v is a variable of type int
  pub v_is : declared_face value_sample_scene value_sample (known_of_all is_four) 5 ≡ variable_face (Some (Predeclared basics.Int))
  -- where nothing is known of c, e has no type; x has none, since T is nothing
  pub e_is : declared_face value_sample_scene value_sample known_of_none 4 ≡ faces.«Value» None
  pub x_is : declared_face value_sample_scene value_sample (known_of_all is_two) 7 ≡ faces.«Value» None
  -- y is as it is written
  pub y_is : declared_face value_sample_scene value_sample known_of_none 8 ≡ y_face
  -- c and d are defined through themselves
  pub c_through : IsThroughItself value_sample_scene value_sample 2
  pub d_through : IsThroughItself value_sample_scene value_sample 3
