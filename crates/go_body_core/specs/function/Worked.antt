-- A function that hides a type by a parameter, with what each of its identifiers has and what its locals mean, worked out by hand. The n-th token of
-- the function stands at n.
--
-- docs/RULES.md, "Types inside functions", "Bodies of functions". The Go specification, "Declarations and scope".
use Rattle.std.specs.Prelude.{◌≡◌, ℕ, false, List, [], ◌∷◌, map, Some, None, codes}
use Rattle.std.specs.List.{flat_map}
use Rattle.go_text_core.specs.declared.rule.Rule.TheVariants.{N6}
use Rattle.go_universe_core.specs.declared.Predeclared.TheVariants as predeclared
use Rattle.go_tree_nodes.specs.declared.names.Ident.{Ident}
use Rattle.go_tree_nodes.specs.declared.decls.ValueKind.TheVariants as kinds
use Rattle.go_tree_nodes.specs.Trees as tree
use Rattle.go_tree_nodes.specs.Trees.{One, TypeTree, Struct, NoFields, NamedFields, Signed, OneResult, NoParams, Param, Named, ValueSpecTree, Single, Lines, Return, NoLines, Line, FuncTree}
use Rattle.go_tree_nodes.specs.Samples.{at, called, type_at}
use Rattle.go_tree_core.specs.declared.occurrence.Role.{Role}
use Rattle.go_tree_core.specs.declared.occurrence.Role.TheVariants as roles
use Rattle.go_decl_core.specs.declared.places.DeclKind.TheVariants as decl_kind
use Rattle.go_decl_core.specs.declared.keys.DeclRef.{DeclRef}
use Rattle.go_decl_core.specs.declared.keys.DeclKey.{DeclKey}
use Rattle.go_block_core.specs.Blocks.{BlocksModel, blocks_model}
use Rattle.go_term_core.specs.declared.term.Basic.TheVariants as basics
use Rattle.go_term_core.specs.declared.term.MemberPlace.{MemberPlace}
use Rattle.go_term_core.specs.declared.term.MemberPlace.TheVariants as places
use Rattle.go_term_core.specs.Terms.{NoType, Predeclared, Defined, StructOf, NoField, AField}
use Rattle.go_typexpr_core.specs.entry.Meanings.{declared_alone, file_meaning}
use Rattle.go_denote_core.specs.declared.things.Outcome.{Outcome}
use Rattle.go_denote_core.specs.declared.things.Outcome.TheVariants as outcomes
use Rattle.go_handle_core.specs.Declarations.{Declaration, Universe, InFile}
use Rattle.go_declared_core.specs.declared.face.Face.TheVariants as faces
use Rattle.go_stmt_core.specs.piece.Values.{variable}
use Rattle.go_env_core.specs.declared.meaning.Meaning.{Meaning}
use Rattle.go_env_core.specs.declared.meaning.Meaning.TheVariants as meanings
use Rattle.go_body_core.specs.Notes.{TheUse}
use Rattle.go_body_core.specs.Rules.{local_meant}
use Rattle.go_body_core.specs.function.Stands.{FileStand}
use Rattle.go_body_core.specs.function.Functions.{walked_func, checked_func, func_by}

-- the package p declares, in its only file, `type T int`
abbrev type_decl : DeclRef
type_decl = record { file = 0; number = 0; kind = decl_kind.«Type» }

abbrev sample_type_key : DeclKey
sample_type_key = record { path = codes "p"; decl = type_decl }

abbrev blocks : BlocksModel
blocks = blocks_model ((codes "T", type_decl) ∷ []) ([] ∷ []) []

abbrev sample_stand : FileStand
sample_stand = record {
  scene = record {
    path = codes "p";
    blocks = blocks;
    types = record { key = sample_type_key; name = codes "T"; term = Predeclared basics.Int; methods = [] } ∷ [];
    others = [];
    written = record { decl = type_decl; face = Some (faces.«Type» (Some (Defined sample_type_key))) } ∷ [];
  };
  known = Some (faces.«Type» (Some (Defined sample_type_key))) ∷ [];
  file = record { path = codes "p"; file = 0; places = [] };
  top = file_meaning (declared_alone (λ path name. None)) (codes "p") blocks 0;
}

abbrev variable_of : Ident → TypeTree → ValueSpecTree
variable_of x t = record { names = One x; type_expr = Some t; values = None }

-- func f(T T) T {
--   var a T
--   var b struct { x T; y int }
--   return T
-- }
abbrev pub func_sample_function : FuncTree
func_sample_function = record {
  func = at 0;
  receiver = None;
  name = called (codes "f") 1;
  signature = Signed (at 2) (Param (Some (One (called (codes "T") 3))) (type_at (codes "T") 4) None NoParams) (at 5) (OneResult (type_at (codes "T") 6));
  open_brace = at 7;
  body =
      Line (tree.Declare (record { kind = kinds.Var; keyword = at 8; specs = Single (variable_of (called (codes "a") 9) (type_at (codes "T") 10)) })) (Some (at 11))
      (Line (tree.Declare (record {
        kind = kinds.Var;
        keyword = at 12;
        specs = Single (variable_of (called (codes "b") 13)
            (Struct (at 14) (at 15) (NamedFields (One (called (codes "x") 16)) (type_at (codes "T") 17) None (Some (at 18)) (NamedFields (One (called (codes "y") 19)) (type_at (codes "int") 20) None None NoFields)) (at 21)));
      })) (Some (at 22))
      (Line (Return (at 23) (Some (One (Named (called (codes "T") 24))))) (Some (at 25)) NoLines));
  close_brace = at 26;
}

abbrev sample_local : ℕ → MemberPlace
sample_local n = places.Local (record { file = 0; offset = n })

abbrev func_sample_use : ℕ → Role → Outcome Declaration (List ℕ) → TheUse
func_sample_use n role outcome = record { offset = n; role = role; outcome = outcome }

-- in the header T is the type, and in the body it is the parameter
abbrev pub func_sample_uses : List TheUse
func_sample_uses =
    func_sample_use 4 roles.«Type» (outcomes.Declared (InFile (codes "p") (places.Declared type_decl)))
    ∷ func_sample_use 6 roles.«Type» (outcomes.Declared (InFile (codes "p") (places.Declared type_decl)))
    ∷ func_sample_use 10 roles.«Type» (outcomes.Refused N6)
    ∷ func_sample_use 17 roles.«Type» (outcomes.Refused N6)
    ∷ func_sample_use 20 roles.«Type» (outcomes.Declared (Universe predeclared.Int))
    ∷ func_sample_use 24 roles.«Value» (outcomes.Declared (InFile (codes "p") (sample_local 3)))
    ∷ []

-- a field of a type that is hidden has no type, and neither has a variable of it
abbrev pub locals : List Meaning
locals =
    meanings.Local 3 (variable (Some (Defined sample_type_key)))
    ∷ meanings.Local 9 (variable None)
    ∷ meanings.Local 13 (variable (Some (StructOf (codes "p") (AField (codes "x") (sample_local 16) false NoType [] (AField (codes "y") (sample_local 19) false (Predeclared basics.Int) [] NoField)))))
    ∷ []

-- each identifier has what is written here, the function breaks no rule beside, and each local means what is written here: on the way through it, and
-- by the regions of its declarations
pub record WorkedFunctionTypes : Type 0 where
  pub uses_walked : (checked_func sample_stand func_sample_function).uses ≡ func_sample_uses
  pub faults_walked : (checked_func sample_stand func_sample_function).faults ≡ []
  pub locals_are : map (λ d. d.means) (walked_func sample_stand func_sample_function).declares ≡ locals
  pub locals_walked : (checked_func sample_stand func_sample_function).locals ≡ flat_map local_meant locals
  pub uses_given : (func_by sample_stand func_sample_function (walked_func sample_stand func_sample_function).declares).uses ≡ func_sample_uses
  pub faults_given : (func_by sample_stand func_sample_function (walked_func sample_stand func_sample_function).declares).faults ≡ []
