-- Pieces worked out by hand, at a place with the declarations of the samples of expressions (x is a variable of type int, f() has no result,
-- g() one, two() two of type int, nope is not declared), a variable s of type string, a constant c of value 1, and the predeclared string,
-- true and len.
use Rattle.std.specs.Prelude.{◌≡◌, ℕ, ◌+◌, Bool, true, false, List, [], ◌∷◌, Option, Some, None, codes, pos}
use Rattle.go_constant_core.specs.text_core.declared.rule.Rule.TheVariants.{N1, N8, B5, X1, Y3, Y4, Y7, Y8}
use Rattle.go_tree_nodes.specs.token_core.declared.kind.Operator.{Operator}
use Rattle.go_tree_nodes.specs.token_core.declared.kind.Operator.TheVariants as operators
use Rattle.go_tree_nodes.specs.declared.names.Ident.{Ident}
use Rattle.go_tree_nodes.specs.declared.types.TypeName.{TypeName}
use Rattle.go_tree_nodes.specs.declared.types.TypeName.TheVariants as type_names
use Rattle.go_tree_nodes.specs.declared.decls.ValueKind.{ValueKind}
use Rattle.go_tree_nodes.specs.declared.decls.ValueKind.TheVariants as kinds
use Rattle.go_tree_nodes.specs.Trees.{Separated, One, Then, TypeTree, NamedType, Pointer, ParenType, Struct, Interface, NoFields, ExprTree, Paren, Binary, NoItems, SignatureTree, ResultTree, Signed, OneResult, Results, NoParams, Param, Alone, Step, Assign, Update, Define}
use Rattle.go_tree_nodes.specs.Samples.{type_at, at, called, name_at}
use Rattle.go_tree_core.specs.declared.occurrence.Role.TheVariants as roles
use Rattle.go_expr_core.specs.local_core.Steps.{Piece, Header, Spec, Act, Condition, Given}
use Rattle.go_constant_core.specs.declared.values.Constant.TheVariants as constant
use Rattle.go_expr_core.specs.operand_core.declared.types.ValueType.TheVariants as value_types
use Rattle.go_expr_core.specs.operand_core.declared.types.Operand.{Operand}
use Rattle.go_expr_core.specs.denote_core.declared.things.Builtin.TheVariants as builtins
use Rattle.go_expr_core.specs.denote_core.declared.things.Found.{Found}
use Rattle.go_expr_core.specs.denote_core.declared.things.Found.TheVariants as founds
use Rattle.go_expr_core.specs.local_core.declared.Fault.{Fault}
use Rattle.go_expr_core.specs.Looks.{Looks}
use Rattle.go_expr_core.specs.Locality.{seeing}
use Rattle.go_expr_core.specs.Samples as samples
use Rattle.go_expr_core.specs.Samples.{Ty, Sig, IntT, StringT, TypeA, Ptr, pick, integer_expr_at, call, one_item, declared_at, refused_at, sample_fault}
use Rattle.go_stmt_core.specs.piece.Pieces.{piece_uses, piece_faults, piece_values}
use Rattle.go_stmt_core.specs.piece.Headers.{returned_types, returned_names}
use Rattle.go_expr_core.specs.operand_core.Variables.{operand}

-- the place

-- a variable of a type
abbrev pub some_variable : Ty → Option (Operand Ty)
some_variable t = Some (operand (value_types.Typed t) None true)

abbrev pub piece_sample_find : List ℕ → ℕ → Found Ty Sig ℕ
piece_sample_find name offset =
    pick name (codes "s") (founds.«Value» 130 (some_variable StringT))
    (pick name (codes "c") (founds.«Value» 131 (Some (operand value_types.UntypedInt (Some (constant.Int (pos 1))) false)))
    (pick name (codes "true") (founds.«Value» 132 (Some (operand value_types.UntypedBool (Some (constant.Bool true)) false)))
    (pick name (codes "string") (founds.«Type» 2 (Some StringT))
    (pick name (codes "len") (founds.Builtin 3 builtins.Len)
    (samples.sample_find name offset)))))

-- a type is what its name denotes, with its stars; each struct type that is written is that of A, and repeats a field
abbrev pub piece_sample_type : (TypeName → Option Ty) → TypeTree → Option Ty
piece_sample_type named (NamedType n) = named n
piece_sample_type named (Pointer star t) = pointer (piece_sample_type named t)
  where
    pointer : Option Ty → Option Ty
    pointer None = None
    pointer (Some t) = Some (Ptr t)
piece_sample_type named (ParenType first t last) = piece_sample_type named t
piece_sample_type named (Struct k first ls last) = Some TypeA
piece_sample_type named (Interface k first _ last) = None

abbrev pub faults_of : (TypeName → Option Ty) → TypeTree → List Fault
faults_of named (Struct k first ls last) = sample_fault first.start B5 ∷ []
faults_of named t = []

abbrev pub looks_here : Looks Ty Sig ℕ ℕ
looks_here = seeing piece_sample_find (record { type_of = piece_sample_type; faults_of = faults_of }) samples.looks

-- texts

abbrev pub x_expr : ℕ → ExprTree
x_expr n = name_at (codes "x") n

abbrev pub s : ℕ → ExprTree
s n = name_at (codes "s") n

abbrev pub blank_at : ℕ → ExprTree
blank_at n = name_at (codes "_") n

abbrev pub nil_at : ℕ → ExprTree
nil_at n = name_at (codes "nil") n

abbrev pub nope : ℕ → ExprTree
nope n = name_at (codes "nope") n

-- a call without arguments
abbrev pub calls : List ℕ → ℕ → ExprTree
calls f n = call (name_at f n) (n + 4) NoItems

abbrev pub two : ℕ → ExprTree
two n = calls (codes "two") n

abbrev pub pair : {A : Type 0} → A → A → Separated A
pair a b = Then a (at 1) (One b)

-- assignments at 0, with the right side from 20 on
abbrev pub assign : Separated ExprTree → Separated ExprTree → Piece
assign ts es = Act (Assign ts (at 15) es)

abbrev pub update_piece : ExprTree → Operator → ExprTree → Piece
update_piece e op v = Act (Update e op (at 15) v)

abbrev pub define : Separated Ident → Separated ExprTree → Piece
define xs es = Act (Define xs (at 15) es)

abbrev pub y : ℕ → Ident
y n = called (codes "y") n

-- faults of a piece in a function without results
abbrev pub sample_breaks : Piece → List Fault
sample_breaks p = piece_faults looks_here [] false [] p

-- of a short declaration, by which of its names are first
abbrev pub short_breaks : List Bool → Piece → List Fault
short_breaks firsts p = piece_faults looks_here [] false firsts p

abbrev pub stand_for : List Bool → Piece → List (Option (Operand Ty))
stand_for firsts p = piece_values looks_here firsts p

pub record WorkedAssignments : Type 0 where
  -- x = 1, x = s: the rule lies at the statement
  pub fitting : sample_breaks (assign (One (x_expr 3)) (One (integer_expr_at 1 20))) ≡ []
  pub misfit : sample_breaks (assign (One (x_expr 3)) (One (s 20))) ≡ sample_fault 3 Y4 ∷ []
  -- x, s = 1, 1 has the rule once; x, s = 1, s
  pub second_misfit : sample_breaks (assign (pair (x_expr 3) (s 5)) (pair (integer_expr_at 1 20) (integer_expr_at 1 22))) ≡ sample_fault 3 Y4 ∷ []
  pub both_fit : sample_breaks (assign (pair (x_expr 3) (s 5)) (pair (integer_expr_at 1 20) (s 22))) ≡ []
  -- c = 1
  pub constant_left : sample_breaks (assign (One (name_at (codes "c") 3)) (One (integer_expr_at 1 20))) ≡ sample_fault 3 Y4 ∷ []
  -- _ = x and (_) = x: `_` is no occurrence
  pub blank_left : piece_uses looks_here (assign (One (blank_at 3)) (One (x_expr 20))) ≡ declared_at 20 roles.«Value» 115 ∷ []
  pub blank_inside : piece_uses looks_here (assign (One (Paren (at 3) (blank_at 4) (at 5))) (One (x_expr 20))) ≡ declared_at 20 roles.«Value» 115 ∷ []
  pub blank_nil : sample_breaks (assign (One (Paren (at 3) (blank_at 4) (at 5))) (One (nil_at 20))) ≡ sample_fault 3 Y4 ∷ []
  -- x = _
  pub blank_right : piece_uses looks_here (assign (One (x_expr 3)) (One (blank_at 20))) ≡ declared_at 3 roles.«Value» 115 ∷ (refused_at 20 roles.«Value» N8 ∷ [])
  -- x, x = two(), x, s = two(), x = two(), x = f()
  pub spread : sample_breaks (assign (pair (x_expr 3) (x_expr 5)) (One (two 20))) ≡ []
  pub spread_misfit : sample_breaks (assign (pair (x_expr 3) (s 5)) (One (two 20))) ≡ sample_fault 3 Y4 ∷ []
  pub too_many : sample_breaks (assign (One (x_expr 3)) (One (two 20))) ≡ sample_fault 3 Y4 ∷ []
  pub no_value : sample_breaks (assign (One (x_expr 3)) (One (calls (codes "f") 20))) ≡ sample_fault 3 Y4 ∷ []
  -- x, x = (nope()), x, x = nope
  pub unknown_count : sample_breaks (assign (pair (x_expr 3) (x_expr 5)) (One (Paren (at 20) (calls (codes "nope") 21) (at 30)))) ≡ []
  pub known_count : sample_breaks (assign (pair (x_expr 3) (x_expr 5)) (One (nope 20))) ≡ sample_fault 3 Y4 ∷ []
  -- x, x = two(), 1: Y3 at the member, and no more
  pub member : sample_breaks (assign (pair (x_expr 3) (x_expr 5)) (pair (two 20) (integer_expr_at 1 30))) ≡ sample_fault 20 Y3 ∷ []
  -- two() = 1: Y4; two(), x = 1, 1: Y3 at the member
  pub call_left : sample_breaks (assign (One (two 3)) (One (integer_expr_at 1 20))) ≡ sample_fault 3 Y4 ∷ []
  pub calls_left : sample_breaks (assign (pair (two 3) (x_expr 9)) (pair (integer_expr_at 1 20) (integer_expr_at 1 22))) ≡ sample_fault 3 Y3 ∷ []
  -- x += 1, s += 1, x &= 1 at the statement; x += two() at the operand; _ += 1
  pub sum : sample_breaks (update_piece (x_expr 3) operators.PlusAssign (integer_expr_at 1 20)) ≡ []
  pub sum_misfit : sample_breaks (update_piece (s 3) operators.PlusAssign (integer_expr_at 1 20)) ≡ sample_fault 3 Y3 ∷ []
  pub bits : sample_breaks (update_piece (x_expr 3) operators.AndAssign (integer_expr_at 1 20)) ≡ sample_fault 3 X1 ∷ []
  pub several : sample_breaks (update_piece (x_expr 3) operators.PlusAssign (two 20)) ≡ sample_fault 20 Y3 ∷ []
  pub blank_sum : piece_uses looks_here (update_piece (blank_at 3) operators.PlusAssign (integer_expr_at 1 20)) ≡ refused_at 3 roles.«Value» N8 ∷ []
  pub blank_sum_faults : sample_breaks (update_piece (blank_at 3) operators.PlusAssign (integer_expr_at 1 20)) ≡ []
  -- x /= 0
  pub division : sample_breaks (update_piece (x_expr 3) operators.SlashAssign (integer_expr_at 0 20)) ≡ sample_fault 3 Y7 ∷ []
  -- x++, s++, two()++
  pub step : sample_breaks (Act (Step (x_expr 3) operators.Increment (at 9))) ≡ []
  pub step_text : sample_breaks (Act (Step (s 3) operators.Increment (at 9))) ≡ sample_fault 3 Y3 ∷ []
  pub step_call : sample_breaks (Act (Step (two 3) operators.Increment (at 9))) ≡ sample_fault 3 Y3 ∷ []

pub record WorkedStatementPieces : Type 0 where
  -- f(), (two()), x, int(x), (int)(x), len(s), nope, nope()
  pub call : sample_breaks (Act (Alone (calls (codes "f") 3))) ≡ []
  pub results_unused : sample_breaks (Act (Alone (Paren (at 3) (two 4) (at 20)))) ≡ []
  pub no_call : sample_breaks (Act (Alone (x_expr 3))) ≡ sample_fault 3 Y8 ∷ []
  pub conversion : sample_breaks (Act (Alone (samples.call (name_at (codes "int") 3) 7 (one_item (x_expr 8))))) ≡ sample_fault 3 Y8 ∷ []
  pub inside : sample_breaks (Act (Alone (Paren (at 2) (samples.call (Paren (at 3) (name_at (codes "int") 4) (at 7)) 8 (one_item (x_expr 9))) (at 20)))) ≡ sample_fault 2 Y8 ∷ []
  pub length : sample_breaks (Act (Alone (samples.call (name_at (codes "len") 3) 7 (one_item (s 8))))) ≡ sample_fault 3 Y8 ∷ []
  pub refused : sample_breaks (Act (Alone (nope 3))) ≡ []
  pub refused_call : sample_breaks (Act (Alone (calls (codes "nope") 3))) ≡ []
  -- if x == 1, if x, if true, if two(), if nope
  pub compared : sample_breaks (Condition (Binary (x_expr 3) operators.Equal (at 5) (integer_expr_at 1 8))) ≡ []
  pub integer : sample_breaks (Condition (x_expr 3)) ≡ sample_fault 3 Y3 ∷ []
  pub truth : sample_breaks (Condition (name_at (codes "true") 3)) ≡ []
  pub several : sample_breaks (Condition (Paren (at 3) (two 4) (at 20))) ≡ sample_fault 3 Y3 ∷ []
  pub no_condition : sample_breaks (Condition (nope 3)) ≡ []
  -- return, with a result and without, with a name of it and without; return x and return s; return two()
  pub nothing : sample_breaks (Given (at 3) None) ≡ []
  pub missing : piece_faults looks_here (Some IntT ∷ []) false [] (Given (at 3) None) ≡ sample_fault 3 Y4 ∷ []
  pub named : piece_faults looks_here (Some IntT ∷ []) true [] (Given (at 3) None) ≡ []
  pub returned : piece_faults looks_here (Some IntT ∷ []) true [] (Given (at 3) (Some (One (x_expr 10)))) ≡ []
  pub other_type : piece_faults looks_here (Some IntT ∷ []) true [] (Given (at 3) (Some (One (s 10)))) ≡ sample_fault 3 Y4 ∷ []
  pub unwanted : sample_breaks (Given (at 3) (Some (One (x_expr 10)))) ≡ sample_fault 3 Y4 ∷ []
  pub both_returned : piece_faults looks_here (Some IntT ∷ (Some IntT ∷ [])) false [] (Given (at 3) (Some (One (two 10)))) ≡ []
  pub no_result : sample_breaks (Given (at 3) (Some (One (calls (codes "f") 10)))) ≡ sample_fault 3 Y4 ∷ []
  pub returned_uses : piece_uses looks_here (Given (at 3) (Some (pair (x_expr 10) (nope 12)))) ≡ declared_at 10 roles.«Value» 115 ∷ (refused_at 12 roles.«Value» N1 ∷ [])

pub record WorkedShorts : Type 0 where
  -- y := s, y := nil
  pub new : stand_for (true ∷ []) (define (One (y 3)) (One (s 20))) ≡ some_variable StringT ∷ []
  pub new_faults : short_breaks (true ∷ []) (define (One (y 3)) (One (s 20))) ≡ []
  pub new_nil : stand_for (true ∷ []) (define (One (y 3)) (One (nil_at 20))) ≡ None ∷ []
  pub new_nil_faults : short_breaks (true ∷ []) (define (One (y 3)) (One (nil_at 20))) ≡ sample_fault 3 Y4 ∷ []
  -- y, x := s, 1 and y, x := 1, s, where x is in the block: it keeps its type
  pub old : stand_for (true ∷ (false ∷ [])) (define (pair (y 3) (called (codes "x") 5)) (pair (s 20) (integer_expr_at 1 22))) ≡ some_variable StringT ∷ (some_variable IntT ∷ [])
  pub old_faults : short_breaks (true ∷ (false ∷ [])) (define (pair (y 3) (called (codes "x") 5)) (pair (s 20) (integer_expr_at 1 22))) ≡ []
  pub old_misfit : stand_for (true ∷ (false ∷ [])) (define (pair (y 3) (called (codes "x") 5)) (pair (integer_expr_at 1 20) (s 22))) ≡ some_variable IntT ∷ (some_variable IntT ∷ [])
  pub old_misfit_faults : short_breaks (true ∷ (false ∷ [])) (define (pair (y 3) (called (codes "x") 5)) (pair (integer_expr_at 1 20) (s 22))) ≡ sample_fault 3 Y4 ∷ []
  -- y, c := s, 1, where c is a constant of the block
  pub old_constant : short_breaks (true ∷ (false ∷ [])) (define (pair (y 3) (called (codes "c") 5)) (pair (s 20) (integer_expr_at 1 22))) ≡ sample_fault 3 Y4 ∷ []
  -- y, y := 1, s: the second is judged as a new one; x, x := 1, s, where x is in the block
  pub repeated : stand_for (true ∷ (false ∷ [])) (define (pair (y 3) (y 5)) (pair (integer_expr_at 1 20) (s 22))) ≡ some_variable IntT ∷ (some_variable StringT ∷ [])
  pub repeated_faults : short_breaks (true ∷ (false ∷ [])) (define (pair (y 3) (y 5)) (pair (integer_expr_at 1 20) (s 22))) ≡ []
  pub old_repeated : short_breaks (false ∷ (false ∷ [])) (define (pair (called (codes "x") 3) (called (codes "x") 5)) (pair (integer_expr_at 1 20) (s 22))) ≡ []
  -- _, y := nil, 1; y, _ := two()
  pub blank_new : short_breaks (false ∷ (true ∷ [])) (define (pair (called (codes "_") 3) (y 5)) (pair (nil_at 20) (integer_expr_at 1 22))) ≡ sample_fault 3 Y4 ∷ []
  pub spread : stand_for (true ∷ (false ∷ [])) (define (pair (y 3) (called (codes "_") 5)) (One (two 20))) ≡ some_variable IntT ∷ (None ∷ [])
  -- y, x := 1: no type for the new one
  pub too_few : stand_for (true ∷ (false ∷ [])) (define (pair (y 3) (called (codes "x") 5)) (One (integer_expr_at 1 20))) ≡ None ∷ (some_variable IntT ∷ [])
  pub too_few_faults : short_breaks (true ∷ (false ∷ [])) (define (pair (y 3) (called (codes "x") 5)) (One (integer_expr_at 1 20))) ≡ sample_fault 3 Y4 ∷ []

-- specifications: of y, or of y and z, with a type at 10 and values from 20 on

abbrev pub spec_piece : ValueKind → Separated Ident → Option TypeTree → Option (Separated ExprTree) → Piece
spec_piece kind xs t None = Spec kind (record { names = xs; type_expr = t; values = None })
spec_piece kind xs t (Some es) = Spec kind (record { names = xs; type_expr = t; values = Some (at 15, es) })

abbrev pub var : Option TypeTree → Option (Separated ExprTree) → Piece
var t es = spec_piece kinds.Var (One (y 3)) t es

abbrev pub vars : Option TypeTree → Option (Separated ExprTree) → Piece
vars t es = spec_piece kinds.Var (pair (y 3) (called (codes "z") 5)) t es

abbrev pub const : Option TypeTree → Separated ExprTree → Piece
const t es = spec_piece kinds.Const (One (y 3)) t (Some es)

abbrev pub consts : Option TypeTree → Separated ExprTree → Piece
consts t es = spec_piece kinds.Const (pair (y 3) (called (codes "z") 5)) t (Some es)

abbrev pub structure : TypeTree
structure = Struct (at 10) (at 11) NoFields (at 12)

-- an untyped constant of value 1, and a string of a value that is not known
abbrev pub one_untyped : Option (Operand Ty)
one_untyped = Some (operand value_types.UntypedInt (Some (constant.Int (pos 1))) false)

abbrev pub unknown_constant : Ty → Option (Operand Ty)
unknown_constant t = Some (operand (value_types.Typed t) (Some constant.Unknown) false)

pub record WorkedSpecifications : Type 0 where
  -- var y int, var y int = s, var y, z int = x, s
  pub plain : stand_for [] (var (Some (type_at (codes "int") 10)) None) ≡ some_variable IntT ∷ []
  pub plain_faults : sample_breaks (var (Some (type_at (codes "int") 10)) None) ≡ []
  pub plain_uses : piece_uses looks_here (var (Some (type_at (codes "int") 10)) (Some (One (x_expr 20)))) ≡ declared_at 10 roles.«Type» 1 ∷ (declared_at 20 roles.«Value» 115 ∷ [])
  pub misfit : sample_breaks (var (Some (type_at (codes "int") 10)) (Some (One (s 20)))) ≡ sample_fault 3 Y4 ∷ []
  pub misfit_values : stand_for [] (var (Some (type_at (codes "int") 10)) (Some (One (s 20)))) ≡ some_variable IntT ∷ []
  pub second_misfit : sample_breaks (vars (Some (type_at (codes "int") 10)) (Some (pair (x_expr 20) (s 22)))) ≡ sample_fault 3 Y4 ∷ []
  -- var y = s, var y = nil, var y = nope, var y, z = two(), var y = two(), var y, z = x
  pub by_value : stand_for [] (var None (Some (One (s 20)))) ≡ some_variable StringT ∷ []
  pub by_nil : sample_breaks (var None (Some (One (nil_at 20)))) ≡ sample_fault 3 Y4 ∷ []
  pub by_refused : sample_breaks (var None (Some (One (nope 20)))) ≡ []
  pub by_refused_values : stand_for [] (var None (Some (One (nope 20)))) ≡ None ∷ []
  pub by_call : stand_for [] (vars None (Some (One (two 20)))) ≡ some_variable IntT ∷ (some_variable IntT ∷ [])
  pub too_many : sample_breaks (var None (Some (One (two 20)))) ≡ sample_fault 3 Y4 ∷ []
  pub too_few : stand_for [] (vars None (Some (One (x_expr 20)))) ≡ None ∷ (None ∷ [])
  -- var y nope = x: what is no type takes each value
  pub no_type : sample_breaks (var (Some (type_at (codes "nope") 10)) (Some (One (x_expr 20)))) ≡ []
  pub no_type_values : stand_for [] (var (Some (type_at (codes "nope") 10)) (Some (One (x_expr 20)))) ≡ None ∷ []
  -- var y struct{..} = two() + 1: the faults of the type, of the expression, its own
  pub all_faults : sample_breaks (var (Some structure) (Some (pair (two 20) (x_expr 30)))) ≡ sample_fault 11 B5 ∷ (sample_fault 20 Y3 ∷ (sample_fault 3 Y4 ∷ []))
  -- const y = 1, const y = x: the rule lies at the expression
  pub constant : stand_for [] (const None (One (integer_expr_at 1 20))) ≡ one_untyped ∷ []
  pub constant_faults : sample_breaks (const None (One (integer_expr_at 1 20))) ≡ []
  pub not_constant : sample_breaks (const None (One (x_expr 20))) ≡ sample_fault 20 Y7 ∷ []
  pub not_constant_values : stand_for [] (const None (One (x_expr 20))) ≡ None ∷ []
  -- const y string = 1: the rule lies at the name
  pub constant_misfit : sample_breaks (const (Some (type_at (codes "string") 10)) (One (integer_expr_at 1 20))) ≡ sample_fault 3 Y4 ∷ []
  pub constant_misfit_values : stand_for [] (const (Some (type_at (codes "string") 10)) (One (integer_expr_at 1 20))) ≡ unknown_constant StringT ∷ []
  -- const y string = nope, const y A = 1
  pub constant_refused : sample_breaks (const (Some (type_at (codes "string") 10)) (One (nope 20))) ≡ []
  pub constant_refused_values : stand_for [] (const (Some (type_at (codes "string") 10)) (One (nope 20))) ≡ unknown_constant StringT ∷ []
  pub no_constant_type : sample_breaks (const (Some (type_at (codes "A") 10)) (One (integer_expr_at 1 20))) ≡ sample_fault 20 Y7 ∷ []
  -- const y, z = 1, x: at the second expression
  pub second_constant : sample_breaks (consts None (pair (integer_expr_at 1 20) (x_expr 22))) ≡ sample_fault 22 Y7 ∷ []
  pub second_values : stand_for [] (consts None (pair (integer_expr_at 1 20) (x_expr 22))) ≡ one_untyped ∷ (None ∷ [])
  -- const y, z = 1, const y, z = f(), const y, z = nope(), const y, z = two()
  pub one_for_two : sample_breaks (consts None (One (integer_expr_at 1 20))) ≡ sample_fault 3 Y4 ∷ []
  pub one_for_two_values : stand_for [] (consts None (One (integer_expr_at 1 20))) ≡ None ∷ (None ∷ [])
  pub call_for_two : sample_breaks (consts None (One (calls (codes "f") 20))) ≡ sample_fault 20 Y7 ∷ []
  pub refused_for_two : sample_breaks (consts None (One (calls (codes "nope") 20))) ≡ []
  pub several : sample_breaks (consts None (One (two 20))) ≡ sample_fault 20 Y7 ∷ (sample_fault 20 Y7 ∷ [])

-- func (r *A) m(a, b int, _ struct{..}) (n string)
abbrev pub results_with_names : ResultTree
results_with_names = Results (at 50) (Param (Some (One (called (codes "n") 51))) (type_at (codes "string") 53) None NoParams) (at 60)

abbrev pub signature : SignatureTree
signature = Signed (at 20)
    (Param (Some (pair (called (codes "a") 21) (called (codes "b") 24))) (type_at (codes "int") 26) (Some (at 30)) (Param (Some (One (called (codes "_") 32))) structure None NoParams)) (at 40) results_with_names

abbrev pub piece_sample_method : Piece
piece_sample_method = Header (Some (record { open_paren = at 0; name = Some (called (codes "r") 1); star = Some (at 3); base = type_names.Plain (called (codes "A") 4); comma = None; close_paren = at 5 })) signature

pub record WorkedHeaders : Type 0 where
  pub uses : piece_uses looks_here piece_sample_method ≡ declared_at 4 roles.«Type» 104 ∷ (declared_at 26 roles.«Type» 1 ∷ (declared_at 53 roles.«Type» 2 ∷ []))
  pub faults : sample_breaks piece_sample_method ≡ sample_fault 11 B5 ∷ []
  pub values : stand_for [] piece_sample_method ≡ some_variable (Ptr TypeA) ∷ (some_variable IntT ∷ (some_variable IntT ∷ (some_variable TypeA ∷ (some_variable StringT ∷ []))))
  pub results : returned_types looks_here signature ≡ Some StringT ∷ []
  pub names : returned_names signature ≡ true
  -- func(int) string, and func() with a result of no type
  pub unnamed : stand_for [] (Header None (Signed (at 0) (Param None (type_at (codes "int") 1) None NoParams) (at 5) (OneResult (type_at (codes "string") 6)))) ≡ []
  pub unnamed_results : returned_types looks_here (Signed (at 0) NoParams (at 5) (Results (at 6) (Param None (type_at (codes "int") 7) (Some (at 9)) (Param None (type_at (codes "nope") 11) None NoParams)) (at 15))) ≡ Some IntT ∷ (None ∷ [])
  pub no_names : returned_names (Signed (at 0) NoParams (at 5) (Results (at 6) (Param None (type_at (codes "int") 7) None NoParams) (at 15))) ≡ false

pub record WorkedPieces : Type 0 where
  pub assignments : WorkedAssignments
  pub statements : WorkedStatementPieces
  pub shorts : WorkedShorts
  pub specifications : WorkedSpecifications
  pub headers : WorkedHeaders
