-- A function with what each name in it denotes, worked out by hand. The n-th token of the function stands at n.
use Rattle.std.specs.Prelude.{◌≡◌, ℕ, List, [], ◌∷◌, Option, Some, None, codes}
use Rattle.go_scope_core.specs.text_core.declared.rule.Rule.TheVariants.{B4, I1}
use Rattle.go_tree_nodes.specs.token_core.declared.kind.Operator.TheVariants as operator
use Rattle.go_universe_core.specs.declared.Predeclared.TheVariants as predeclared
use Rattle.go_tree_nodes.specs.declared.names.Ident.{Ident}
use Rattle.go_tree_nodes.specs.declared.types.TypeName.TheVariants as type_name
use Rattle.go_tree_nodes.specs.declared.decls.ValueKind.TheVariants as kinds
use Rattle.go_tree_nodes.specs.Trees as tree
use Rattle.go_tree_nodes.specs.Trees.{Separated, One, Then, NamedType, Signed, NoResult, NoParams, Param, ExprTree, Binary, Select, Call, Literal, NoItems, Item, ValueSpecTree, Group, Assign, Define, Lines, Simple, Return, If, Branch, NoElse, ElseIf, NoLines, Line, FuncTree}
use Rattle.go_tree_nodes.specs.Samples.{at, called, name_at}
use Rattle.go_decl_core.specs.declared.places.DeclKind.TheVariants as decl_kind
use Rattle.go_decl_core.specs.declared.keys.DeclRef.{DeclRef}
use Rattle.go_scope_core.specs.block_core.declared.binding.Target.TheVariants as target
use Rattle.go_scope_core.specs.block_core.Blocks.{BlocksModel, blocks_model}
use Rattle.go_local_core.specs.declared.Fault.{Fault}
use Rattle.go_local_core.specs.Tables.{walked, out_by_intervals}
use Rattle.go_names_core.specs.declared.meaning.Outside.TheVariants as outside
use Rattle.go_names_core.specs.Scope.{beyond_in}
use Rattle.go_names_core.specs.Uses.{NameMeaning, LocalAt, Beyond, NameUse, name_use_rules, denoted_outside}

-- the package declares f, g, len and the type T, and its file imports p
abbrev pub decl : ℕ → decl_kind.the_data → DeclRef
decl n kind = record { file = 0; number = n; kind = kind }

abbrev pub names_sample_blocks : BlocksModel
names_sample_blocks = blocks_model ((codes "T", decl 0 decl_kind.«Type») ∷ (codes "f", decl 1 decl_kind.Func) ∷ (codes "g", decl 9 decl_kind.Func) ∷ (codes "len", decl 10 decl_kind.Func) ∷ []) (((codes "p", record { at = 91; target = target.Refused I1 }) ∷ []) ∷ []) []

abbrev pub constant_spec : Ident → ℕ → ExprTree → ValueSpecTree
constant_spec x p v = record { names = One x; type_expr = None; values = Some (at p, One v) }

-- func f(a, b T) {
--   const ( c = a; d = p.X )
--   if a, e := b, c; a == e { return d } else if g(a, len) { _ = e }
--   b, h := h, b
--   b, _ := T{h: h}, int
-- }
abbrev pub names_sample_function : FuncTree
names_sample_function = record {
  func = at 0;
  receiver = None;
  name = called (codes "f") 1;
  signature = Signed (at 2) (Param (Some (Then (called (codes "a") 3) (at 4) (One (called (codes "b") 5)))) (NamedType (type_name.Plain (called (codes "T") 6))) None NoParams) (at 7) NoResult;
  open_brace = at 8;
  body =
      Line (tree.Declare (record { kind = kinds.Const; keyword = at 9; specs = Group (at 10) ((constant_spec (called (codes "c") 11) 12 (name_at (codes "a") 13), Some (at 14)) ∷ (constant_spec (called (codes "d") 15) 16 (Select (name_at (codes "p") 17) (at 18) (called (codes "X") 19)), None) ∷ []) (at 20) })) (Some (at 21))
      (Line (If (Branch (at 22) (record { init = Some (Some (Define (Then (called (codes "a") 23) (at 24) (One (called (codes "e") 25))) (at 26) (Then (name_at (codes "b") 27) (at 28) (One (name_at (codes "c") 29)))), at 30); condition = Binary (name_at (codes "a") 31) operator.Equal (at 32) (name_at (codes "e") 33) })
      (at 34) (Line (Return (at 35) (Some (One (name_at (codes "d") 36)))) None NoLines) (at 37)
      (ElseIf (at 38) (Branch (at 39) (record { init = None; condition = Call (name_at (codes "g") 40) (at 41) (Item None (name_at (codes "a") 42) (Some (at 43)) (Item None (name_at (codes "len") 44) None NoItems)) (at 45) })
      (at 46) (Line (Simple (Assign (One (name_at (codes "_") 47)) (at 48) (One (name_at (codes "e") 49)))) None NoLines) (at 50) NoElse)))) (Some (at 51))
      (Line (Simple (Define (Then (called (codes "b") 52) (at 53) (One (called (codes "h") 54))) (at 55) (Then (name_at (codes "h") 56) (at 57) (One (name_at (codes "b") 58))))) (Some (at 59))
      (Line (Simple (Define (Then (called (codes "b") 60) (at 61) (One (called (codes "_") 62))) (at 63) (Then (Literal (type_name.Plain (called (codes "T") 64)) (at 65) (Item (Some (record { name = called (codes "h") 66; colon = at 67 })) (name_at (codes "h") 68) None NoItems) (at 69)) (at 70) (One (name_at (codes "int") 71))))) None NoLines)));
  close_brace = at 72;
}

abbrev pub names_sample_use : ℕ → NameMeaning → NameUse
names_sample_use n d = record { offset = n; denoted = Some d }

abbrev pub names_sample_uses : List NameUse
names_sample_uses =
    names_sample_use 6 (Beyond (outside.Package (decl 0 decl_kind.«Type»)))
    ∷ names_sample_use 13 (LocalAt 3)
    ∷ names_sample_use 17 (Beyond (outside.File 91))
    ∷ names_sample_use 27 (LocalAt 5)
    ∷ names_sample_use 29 (LocalAt 11)
    ∷ names_sample_use 31 (LocalAt 23)
    ∷ names_sample_use 33 (LocalAt 25)
    ∷ names_sample_use 36 (LocalAt 15)
    ∷ names_sample_use 40 (Beyond (outside.Package (decl 9 decl_kind.Func)))
    ∷ names_sample_use 42 (LocalAt 23)
    ∷ names_sample_use 44 (Beyond (outside.Package (decl 10 decl_kind.Func)))
    ∷ names_sample_use 49 (LocalAt 25)
    ∷ record { offset = 56; denoted = None }
    ∷ names_sample_use 58 (LocalAt 5)
    ∷ names_sample_use 64 (Beyond (outside.Package (decl 0 decl_kind.«Type»)))
    ∷ names_sample_use 68 (LocalAt 54)
    ∷ names_sample_use 71 (Beyond (outside.Universe predeclared.Int))
    ∷ []

-- no name before the last `:=` is new
abbrev pub names_sample_faults : List Fault
names_sample_faults = record { offset = 60; rule = B4 } ∷ []

-- what a name denotes outside the function
abbrev pub sample_beyond : List ℕ → Option NameMeaning
sample_beyond = beyond_in denoted_outside names_sample_blocks 0

-- each name that is used has the declaration that is written here, and the faults are these: on the way through the function, and by the
-- intervals of its declarations
pub record WorkedNames : Type 0 where
  pub uses_walked : (walked name_use_rules sample_beyond names_sample_function).notes ≡ names_sample_uses
  pub uses_given : (out_by_intervals name_use_rules sample_beyond names_sample_function (walked name_use_rules sample_beyond names_sample_function).declares).notes ≡ names_sample_uses
  pub faults_walked : (walked name_use_rules sample_beyond names_sample_function).faults ≡ names_sample_faults
  pub faults_given : (out_by_intervals name_use_rules sample_beyond names_sample_function (walked name_use_rules sample_beyond names_sample_function).declares).faults ≡ names_sample_faults
