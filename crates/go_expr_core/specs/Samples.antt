-- Small expressions worked out by hand, at a place with these declarations: the types E struct{*M}, M struct{} with a method m of a
-- pointer receiver, A struct{A int}, and T of the package p with an exported field A and a non-exported one b; the functions f(), g() M,
-- h() E, two() (int, int), k(int, int) int; a variable x of type int; the predeclared int and nil. Declarations are numbers.
use Rattle.std.specs.Prelude.{◌≡◌, ℕ, ◌+◌, Bool, true, false, List, [], ◌∷◌, Option, Some, None, codes, if◌then◌else◌}
use Rattle.std.specs.Str.{bytes_eq}
use Rattle.go_denote_core.specs.text_core.declared.rule.Rule.{Rule}
use Rattle.go_denote_core.specs.text_core.declared.rule.Rule.TheVariants.{N1, N6, S1, S5, C1, C2, X1, F2, F3, F4, F5, F6, F7, Y3, Y4, Y7}
use Rattle.go_tree_nodes.specs.token_core.declared.kind.Operator.TheVariants as operators
use Rattle.go_term_core.specs.declared.term.Basic.TheVariants as basics
use Rattle.go_tree_nodes.specs.declared.exprs.Key.{Key}
use Rattle.go_tree_nodes.specs.declared.types.TypeName.TheVariants as type_names
use Rattle.go_tree_nodes.specs.declared.usage.Usage.TheVariants as usages
use Rattle.go_tree_nodes.specs.Trees.{One, NamedType, Struct, NoFields, NamedFields, ExprTree, ItemTrees, Integer, Paren, Unary, Binary, Select, Call, Literal, StructLiteral, NoItems, Item}
use Rattle.go_tree_nodes.specs.Samples.{at, called, name_at}
use Rattle.go_tree_core.specs.declared.occurrence.Role.{Role}
use Rattle.go_tree_core.specs.declared.occurrence.Role.TheVariants as roles
use Rattle.go_denote_core.specs.operand_core.declared.types.TypeForm.{TypeForm}
use Rattle.go_denote_core.specs.operand_core.declared.types.TypeForm.TheVariants as forms
use Rattle.go_denote_core.specs.operand_core.declared.types.ValueType.TheVariants as value_types
use Rattle.go_denote_core.specs.declared.things.Stand.TheVariants as stands
use Rattle.go_denote_core.specs.declared.things.Outcome.TheVariants as outcomes
use Rattle.go_denote_core.specs.declared.things.Denoted.TheVariants as denotes
use Rattle.go_denote_core.specs.declared.things.Found.{Found}
use Rattle.go_denote_core.specs.declared.things.Found.TheVariants as founds
use Rattle.go_denote_core.specs.declared.things.Exported.{Exported}
use Rattle.go_denote_core.specs.declared.things.Exported.TheVariants as exporteds
use Rattle.go_denote_core.specs.declared.things.Selection.{Selection}
use Rattle.go_denote_core.specs.declared.things.Selection.TheVariants as selections
use Rattle.go_denote_core.specs.composite.Look.{FieldOf}
use Rattle.go_expr_core.specs.declared.things.Use.{Use}
use Rattle.go_local_core.specs.declared.Fault.{Fault}
use Rattle.go_expr_core.specs.Looks.{Looks}
use Rattle.go_expr_core.specs.Denoting.{denoted}
use Rattle.go_expr_core.specs.Uses.{made_use, uses}
use Rattle.go_expr_core.specs.Faults.{faults}

pub data Sig : Type 0 where
  SigF : Sig
  SigG : Sig
  SigH : Sig
  SigTwo : Sig
  SigK : Sig

-- int, string, bool, any, defined types, pointers
pub data Ty : Type 0 where
  IntT : Ty
  StringT : Ty
  BoolT : Ty
  AnyT : Ty
  TypeT : Ty
  TypeM : Ty
  TypeE : Ty
  TypeA : Ty
  Ptr : Ty → Ty

abbrev pub same : Ty → Ty → Bool
same IntT IntT = true
same StringT StringT = true
same BoolT BoolT = true
same AnyT AnyT = true
same TypeT TypeT = true
same TypeM TypeM = true
same TypeE TypeE = true
same TypeA TypeA = true
same (Ptr s) (Ptr t) = same s t
same _ _ = false

abbrev pub form : Ty → TypeForm Ty
form IntT = forms.Basic basics.Int
form StringT = forms.Basic basics.Text
form BoolT = forms.Basic basics.Bool
form AnyT = forms.Interface
form (Ptr t) = forms.Pointer t
form TypeT = forms.Struct
form TypeM = forms.Struct
form TypeE = forms.Struct
form TypeA = forms.Struct

abbrev pub goes : Ty → Ty → Bool
goes s AnyT = true
goes s t = same s t

abbrev pub pick : {X : Type 0} → List ℕ → List ℕ → X → X → X
pick name spelled found more = if bytes_eq name spelled then found else more

abbrev pub sample_find : List ℕ → ℕ → Found Ty Sig ℕ
sample_find name offset =
    pick name (codes "int") (founds.«Type» 1 (Some IntT))
    (pick name (codes "nil") (founds.«Value» 4 (Some (record { value_type = value_types.Nil; constant = None; addressable = false })))
    (pick name (codes "p") (founds.«Package» 7)
    (pick name (codes "A") (founds.«Type» 104 (Some TypeA))
    (pick name (codes "E") (founds.«Type» 103 (Some TypeE))
    (pick name (codes "f") (founds.Func 110 SigF)
    (pick name (codes "g") (founds.Func 111 SigG)
    (pick name (codes "h") (founds.Func 112 SigH)
    (pick name (codes "two") (founds.Func 113 SigTwo)
    (pick name (codes "k") (founds.Func 114 SigK)
    (pick name (codes "x") (founds.«Value» 115 (Some (record { value_type = value_types.Typed IntT; constant = None; addressable = true })))
    founds.Missing))))))))))

abbrev pub sample_exported : ℕ → List ℕ → Exported Ty Sig ℕ
sample_exported d name = pick name (codes "T") (exporteds.«Type» 701 (Some TypeT)) exporteds.Absent

abbrev pub select : Ty → List ℕ → Selection Ty Sig ℕ ℕ
select TypeM name = pick name (codes "m") (selections.Method 120 0 SigF true false) (selections.Missing S1)
select TypeE name = pick name (codes "m") (selections.Method 120 1 SigF true true) (pick name (codes "F") (selections.«Field» 122 1 (Some IntT) true) (selections.Missing S1))
select _ name = selections.Missing S1

abbrev pub params : Sig → List (Option Ty)
params SigK = Some IntT ∷ (Some IntT ∷ [])
params _ = []

abbrev pub sample_results : Sig → List (Option Ty)
sample_results SigG = Some TypeM ∷ []
sample_results SigH = Some TypeE ∷ []
sample_results SigTwo = Some IntT ∷ (Some IntT ∷ [])
sample_results SigK = Some IntT ∷ []
sample_results SigF = []

abbrev pub fields : Ty → List (FieldOf Ty ℕ)
fields TypeT =
    record { name = codes "A"; known = record { decl = 705; field_type = Some IntT; is_visible = true } }
    ∷ (record { name = codes "b"; known = record { decl = 706; field_type = Some IntT; is_visible = false } } ∷ [])
fields TypeA = record { name = codes "A"; known = record { decl = 121; field_type = Some IntT; is_visible = true } } ∷ []
fields _ = []

-- each struct type that is written out is that of A
abbrev pub looks : Looks Ty Sig ℕ ℕ
looks = record {
  find = sample_find;
  exported = sample_exported;
  select = select;
  params = params;
  results = sample_results;
  types = record { form = form; pointer_to = Ptr; int = IntT; string = StringT; bool = BoolT; any = AnyT; identical = same; assignable = goes; convertible = same };
  literals = record { fields = fields };
  written = record { type_of = λ meaning t. Some TypeA; faults_of = λ meaning t. [] };
}

abbrev pub integer_expr_at : ℕ → ℕ → ExprTree
integer_expr_at k n = Integer k (at n)

abbrev pub call : ExprTree → ℕ → ItemTrees → ExprTree
call e n items = Call e (at n) items (at (n + 9))

abbrev pub one_item : ExprTree → ItemTrees
one_item e = Item None e None NoItems

abbrev pub sample_literal_key : List ℕ → ℕ → Option Key
sample_literal_key x n = Some (record { name = called x n; colon = at (n + 1) })

abbrev pub declared_at : ℕ → Role → ℕ → Use ℕ ℕ
declared_at n r d = made_use n r (outcomes.Declared d)

abbrev pub refused_at : ℕ → Role → Rule → Use ℕ ℕ
refused_at n r rule = made_use n r (outcomes.Refused rule)

abbrev pub sample_fault : ℕ → Rule → Fault
sample_fault n r = record { offset = n; rule = r }

-- p.T{..}, at 0
abbrev pub imported : ItemTrees → ExprTree
imported items = Literal (type_names.Qualified (called (codes "p") 0) (at 1) (called (codes "T") 2)) (at 3) items (at 90)

abbrev pub imported_uses : List (Use ℕ ℕ) → List (Use ℕ ℕ)
imported_uses more = declared_at 0 roles.Qualifier 7 ∷ (declared_at 2 (roles.Selector usages.«Type») 701 ∷ more)

pub record SampleExpressions : Type 0 where
  -- g().m(), where m needs a pointer: S5 at m, C1 at its call
  pub no_pointer : uses looks stands.«Value» (call (Select (call (name_at (codes "g") 0) 1 NoItems) (at 3) (called (codes "m") 4)) 5 NoItems)
      ≡ declared_at 0 roles.Callee 111 ∷ (declared_at 1 roles.Call 111 ∷ (refused_at 4 (roles.Selector usages.Callee) S5 ∷ (refused_at 5 roles.Call C1 ∷ [])))
  -- h().m(), with a pointer on the way
  pub pointer_on_the_way : uses looks stands.«Value» (call (Select (call (name_at (codes "h") 0) 1 NoItems) (at 3) (called (codes "m") 4)) 5 NoItems)
      ≡ declared_at 0 roles.Callee 112 ∷ (declared_at 1 roles.Call 112 ∷ (made_use 4 (roles.Selector usages.Callee) (outcomes.Selected 120 1) ∷ (declared_at 5 roles.Call 120 ∷ [])))
  -- p.T{A: 1} has no fault
  pub by_key : uses looks stands.«Value» (imported (Item (sample_literal_key (codes "A") 4) (integer_expr_at 1 6) None NoItems)) ≡ imported_uses (declared_at 4 roles.Key 705 ∷ [])
  pub by_key_faults : faults looks stands.«Value» (imported (Item (sample_literal_key (codes "A") 4) (integer_expr_at 1 6) None NoItems)) ≡ []
  -- p.T{1, 2} and p.T{1}
  pub in_order : faults looks stands.«Value» (imported (Item None (integer_expr_at 1 4) None (one_item (integer_expr_at 2 6)))) ≡ sample_fault 0 F7 ∷ []
  pub too_few : faults looks stands.«Value» (imported (one_item (integer_expr_at 1 4))) ≡ sample_fault 0 F6 ∷ []
  -- p.T{b: 1}
  pub hidden_key : uses looks stands.«Value» (imported (Item (sample_literal_key (codes "b") 4) (integer_expr_at 1 6) None NoItems)) ≡ imported_uses (refused_at 4 roles.Key F2 ∷ [])
  -- p.T{A: 1, A: 2}: F4 at both keys
  pub repeated_keys : uses looks stands.«Value» (imported (Item (sample_literal_key (codes "A") 4) (integer_expr_at 1 6) None (Item (sample_literal_key (codes "A") 8) (integer_expr_at 2 10) None NoItems)))
      ≡ imported_uses (refused_at 4 roles.Key F4 ∷ (refused_at 8 roles.Key F4 ∷ []))
  -- E{F: 1}, a promoted field
  pub promoted_key : uses looks stands.«Value» (Literal (type_names.Plain (called (codes "E") 0)) (at 1) (Item (sample_literal_key (codes "F") 2) (integer_expr_at 1 4) None NoItems) (at 6))
      ≡ declared_at 0 roles.«Type» 103 ∷ (refused_at 2 roles.Key F3 ∷ [])
  -- A{A: 1, 2}: F5 at the key, and at A
  pub mixed_uses : uses looks stands.«Value» (Literal (type_names.Plain (called (codes "A") 0)) (at 1) (Item (sample_literal_key (codes "A") 2) (integer_expr_at 1 4) None (one_item (integer_expr_at 2 6))) (at 8))
      ≡ declared_at 0 roles.«Type» 104 ∷ (refused_at 2 roles.Key F5 ∷ [])
  pub mixed_faults : faults looks stands.«Value» (Literal (type_names.Plain (called (codes "A") 0)) (at 1) (Item (sample_literal_key (codes "A") 2) (integer_expr_at 1 4) None (one_item (integer_expr_at 2 6))) (at 8)) ≡ sample_fault 0 F5 ∷ []
  -- A{A: nil}: Y4 at the key
  pub misfit : faults looks stands.«Value» (Literal (type_names.Plain (called (codes "A") 0)) (at 1) (Item (sample_literal_key (codes "A") 2) (name_at (codes "nil") 4) None NoItems) (at 8)) ≡ sample_fault 2 Y4 ∷ []
  -- struct { n int }{A: 1}: the names of the type are occurrences
  pub written_type : uses looks stands.«Value» (StructLiteral (Struct (at 0) (at 1) (NamedFields (One (called (codes "n") 2)) (NamedType (type_names.Plain (called (codes "int") 3))) None None NoFields) (at 4)) (at 5) (Item (sample_literal_key (codes "A") 6) (integer_expr_at 1 8) None NoItems) (at 9))
      ≡ declared_at 3 roles.«Type» 1 ∷ (declared_at 6 roles.Key 121 ∷ [])
  -- f alone, and f()()
  pub no_call : uses looks stands.«Value» (name_at (codes "f") 3) ≡ refused_at 3 roles.«Value» X1 ∷ []
  pub called_twice : uses looks stands.«Value» (call (call (name_at (codes "f") 0) 1 NoItems) 3 NoItems)
      ≡ declared_at 0 roles.Callee 110 ∷ (declared_at 1 roles.Call 110 ∷ (refused_at 3 roles.Call C1 ∷ []))
  -- k(two()): two results stand for two arguments
  pub spread : uses looks stands.«Value» (call (name_at (codes "k") 0) 1 (one_item (call (name_at (codes "two") 2) 5 NoItems)))
      ≡ declared_at 0 roles.Callee 114 ∷ (declared_at 1 roles.Call 114 ∷ (declared_at 2 roles.Callee 113 ∷ (declared_at 5 roles.Call 113 ∷ [])))
  pub spread_faults : faults looks stands.«Value» (call (name_at (codes "k") 0) 1 (one_item (call (name_at (codes "two") 2) 5 NoItems))) ≡ []
  -- k(two(), 1): two() is no single value
  pub member : faults looks stands.«Value» (call (name_at (codes "k") 0) 1 (Item None (call (name_at (codes "two") 2) 5 NoItems) None (one_item (integer_expr_at 1 9)))) ≡ sample_fault 2 Y3 ∷ []
  -- k(nope()) and k(nope): a refused call alone does not count, a refused name does
  pub refused_call : uses looks stands.«Value» (call (name_at (codes "k") 0) 1 (one_item (call (name_at (codes "nope") 2) 6 NoItems)))
      ≡ declared_at 0 roles.Callee 114 ∷ (declared_at 1 roles.Call 114 ∷ (refused_at 2 roles.Callee N1 ∷ (refused_at 6 roles.Call C1 ∷ [])))
  pub refused_name : uses looks stands.«Value» (call (name_at (codes "k") 0) 1 (one_item (name_at (codes "nope") 2)))
      ≡ declared_at 0 roles.Callee 114 ∷ (refused_at 1 roles.Call C2 ∷ (refused_at 2 roles.«Value» N1 ∷ []))
  -- two() + 1, at two()
  pub no_single_value : faults looks stands.«Value» (Binary (call (name_at (codes "two") 0) 3 NoItems) operators.Plus (at 6) (integer_expr_at 1 8)) ≡ sample_fault 0 Y3 ∷ []
  -- 9223372036854775807 + 1, int(9223372036854775807) + 1, x / 0
  pub untyped_range : faults looks stands.«Value» (Binary (integer_expr_at 9223372036854775807 0) operators.Plus (at 20) (integer_expr_at 1 22)) ≡ sample_fault 0 X1 ∷ []
  pub typed_range : faults looks stands.«Value» (Binary (call (name_at (codes "int") 0) 3 (one_item (integer_expr_at 9223372036854775807 4))) operators.Plus (at 25) (integer_expr_at 1 27)) ≡ sample_fault 0 Y7 ∷ []
  pub divided : faults looks stands.«Value» (Binary (name_at (codes "x") 0) operators.Slash (at 2) (integer_expr_at 0 4)) ≡ sample_fault 0 Y7 ∷ []
  -- x & x & x: X1 of each of the two operators, at one place
  pub bits_of_bits : faults looks stands.«Value» (Binary (Binary (name_at (codes "x") 0) operators.And (at 2) (name_at (codes "x") 4)) operators.And (at 6) (name_at (codes "x") 8)) ≡ sample_fault 0 X1 ∷ (sample_fault 0 X1 ∷ [])
  -- (*int)(nil) is a pointer
  pub to_pointer : denoted looks stands.«Value» (call (Paren (at 0) (Unary operators.Star (at 1) (name_at (codes "int") 2)) (at 5)) 6 (one_item (name_at (codes "nil") 7)))
      ≡ denotes.«Value» (record { value_type = value_types.Typed (Ptr IntT); constant = None; addressable = false })
  -- (*x)(1): x is no type, and the call calls none
  pub no_type : uses looks stands.«Value» (call (Paren (at 0) (Unary operators.Star (at 1) (name_at (codes "x") 2)) (at 3)) 4 (one_item (integer_expr_at 1 5))) ≡ refused_at 2 roles.«Type» N6 ∷ (refused_at 4 roles.Call C1 ∷ [])
  -- &x, and &1 at the operator
  pub address : denoted looks stands.«Value» (Unary operators.And (at 0) (name_at (codes "x") 1)) ≡ denotes.«Value» (record { value_type = value_types.Typed (Ptr IntT); constant = None; addressable = false })
  pub no_address : faults looks stands.«Value» (Unary operators.And (at 0) (integer_expr_at 1 1)) ≡ sample_fault 0 Y3 ∷ []
