-- What is so of a function of which code is made and that has no faults: each name is a variable that is declared before it or a constant, each operator
-- stands between values that it takes, each call is of a function that takes such arguments and gives such a result, and each `return` gives what the
-- function gives.
--
-- The Go specification, "Declarations and scope", "Operators", "Calls", "Assignment statements", "Return statements", "Terminating statements".
use Rattle.std.specs.Prelude.{◌≡◌, ◌⊎◌, ℕ, Bool, true, List, [], ◌∷◌, ◌++◌, map, Option, Some, None, slice_get, if◌then◌else◌}
use Rattle.go_constant_core.specs.text_core.declared.span.Span.{Span}
use Rattle.go_tree_nodes.specs.token_core.declared.kind.Operator.{Operator}
use Rattle.go_tree_nodes.specs.token_core.declared.kind.Operator.TheVariants as operators
use Rattle.go_tree_nodes.specs.declared.names.Ident.{Ident}
use Rattle.go_tree_nodes.specs.declared.decls.ValueKind.{ValueKind}
use Rattle.go_tree_nodes.specs.declared.decls.ValueKind.TheVariants as value_kinds
use Rattle.go_tree_nodes.specs.declared.files.Receiver.{Receiver}
use Rattle.go_tree_nodes.specs.Trees.{TypeTree, Separated, One, Then, ParamTrees, NoParams, Param, ResultTree, NoResult, OneResult, Results, SignatureTree, Signed, ExprTree, ItemTrees, Integer, Text, Named, Paren, Unary, Binary, Select, Call, Literal, StructLiteral, NoItems, Item, ValueSpecTree, Specs, Single, Group, SimpleTree, Alone, Step, Assign, Update, Define, StmtTree, Empty, Declare, Simple, Return, Break, Continue, Block, If, For, BranchTree, Branch, ElseTree, NoElse, ElseBlock, ElseIf, Lines, NoLines, Line}
use Rattle.go_object_core.specs.declared.instructions.letters.Word.{Word}
use Rattle.go_object_core.specs.declared.instructions.letters.Word.TheVariants as words
use Rattle.go_code_core.specs.declared.fragments.names.Gives.{Gives}
use Rattle.go_code_core.specs.declared.fragments.names.Gives.TheVariants as gives
use Rattle.go_code_core.specs.declared.fragments.names.Meaning.{Meaning}
use Rattle.go_code_core.specs.declared.fragments.names.Meaning.TheVariants as meanings
use Rattle.go_code_core.specs.fragments.Constants.{folded}
use Rattle.go_code_core.specs.fragments.Fragment.{expr_gives, means_method, over, type_name_word, type_word}
use Rattle.go_code_core.specs.fragments.Names.{CodeLooks, Frame, callee_meaning}
use Rattle.go_code_core.specs.fragments.Slots.{define_slots, value_spec_slots}
use Rattle.go_code_core.specs.Code.{frame_in, head_init, head_post, head_test, letter, letters}
use Rattle.go_meaning_laws.specs.source_meaning.Meaning.{SourceOf, Goal, ToVariable, ToNothing, Elsewhere, callee_at, declared_goal, goal_of, some_type_word}

abbrev pub IsGiven : {A : Type 0} → Option A → Type 0
IsGiven None = ⊥
IsGiven (Some a) = Unit {0}

-- the signature of a function, by what its types are over

-- a parameter for each name of an entry; one where it has none
abbrev pub names_over : Option Word → Separated Ident → List (Option Word)
names_over w (One x) = w ∷ []
names_over w (Then x comma more) = w ∷ names_over w more

abbrev pub entry_over : Option Word → Option (Separated Ident) → List (Option Word)
entry_over w None = w ∷ []
entry_over w (Some xs) = names_over w xs

abbrev pub params_over : CodeLooks → ParamTrees → List (Option Word)
params_over looks NoParams = []
params_over looks (Param xs t comma rest) = entry_over (type_word looks t) xs ++ params_over looks rest

abbrev pub signature_over : CodeLooks → SignatureTree → List (Option Word)
signature_over looks (Signed first params last results) = params_over looks params

abbrev pub receiver_over : CodeLooks → Option Receiver → List (Option Word)
receiver_over looks None = []
receiver_over looks (Some r) = type_name_word looks r.base ∷ []

-- of what a function takes, a receiver first
abbrev pub taken_by : SourceOf → List (Option Word)
taken_by s = receiver_over s.looks s.tree.receiver ++ signature_over s.looks s.tree.signature

abbrev pub listed_gives : CodeLooks → ParamTrees → Gives
listed_gives looks NoParams = gives.Nothing
listed_gives looks (Param xs t comma rest) = over (type_word looks t)

abbrev pub result_gives : CodeLooks → ResultTree → Gives
result_gives looks NoResult = gives.Nothing
result_gives looks (OneResult t) = over (type_word looks t)
result_gives looks (Results first results last) = listed_gives looks results

abbrev pub signature_gives : CodeLooks → SignatureTree → Gives
signature_gives looks (Signed first _ last results) = result_gives looks results

-- what a call of a function gives
abbrev pub given_by : SourceOf → Gives
given_by s = signature_gives s.looks s.tree.signature

-- the function of a number takes words over these, a receiver first, and gives this
pub record IsDeclared (program : List SourceOf) (number : ℕ) (g : Gives) (ws : List Word) : Type 0 where
  pub source : SourceOf
  pub is_source : slice_get program number ≡ Some source
  pub given : given_by source ≡ g
  pub takes : taken_by source ≡ map Some ws

-- variables

-- what each variable of a function is over, by the offset at which it is declared
abbrev pub Typing : Type 0
Typing = ℕ → Option Word

-- what is declared at an offset is among what is declared so far
abbrev pub IsAmong : List (Option ℕ) → ℕ → Type 0
IsAmong [] at = ⊥
IsAmong (d ∷ ds) at = (d ≡ Some at) ⊎ IsAmong ds at

-- parameters are over this
abbrev pub AreTypedAs : Typing → List (Option ℕ) → List (Option Word) → Type 0
AreTypedAs typing [] [] = Unit {0}
AreTypedAs typing [] (w ∷ ws) = ⊥
AreTypedAs typing (d ∷ ds) [] = ⊥
AreTypedAs typing (None ∷ ds) (w ∷ ws) = AreTypedAs typing ds ws
AreTypedAs typing (Some at ∷ ds) (w ∷ ws) = (typing at ≡ w) × AreTypedAs typing ds ws

-- what is declared behind a simple statement, behind some specifications, and behind a statement

abbrev pub simple_after : CodeLooks → List (Option ℕ) → SimpleTree → List (Option ℕ)
simple_after looks ds (Define xs s es) = define_slots looks xs ++ ds
simple_after looks ds (Alone e) = ds
simple_after looks ds (Step e op s) = ds
simple_after looks ds (Assign ts s es) = ds
simple_after looks ds (Update t op s e) = ds

abbrev pub some_simple_after : CodeLooks → List (Option ℕ) → Option SimpleTree → List (Option ℕ)
some_simple_after looks ds None = ds
some_simple_after looks ds (Some s) = simple_after looks ds s

abbrev pub init_after : CodeLooks → List (Option ℕ) → Option (Option SimpleTree × Span) → List (Option ℕ)
init_after looks ds None = ds
init_after looks ds (Some init) = some_simple_after looks ds init.0

abbrev pub lines_after : ValueKind → List (Option ℕ) → List (ValueSpecTree × Option Span) → List (Option ℕ)
lines_after kind ds [] = ds
lines_after kind ds (l ∷ ls) = lines_after kind (value_spec_slots kind l.0 ++ ds) ls

abbrev pub specs_after : ValueKind → List (Option ℕ) → Specs ValueSpecTree → List (Option ℕ)
specs_after kind ds (Single v) = value_spec_slots kind v ++ ds
specs_after kind ds (Group first ls last) = lines_after kind ds ls

abbrev pub stmt_after : CodeLooks → List (Option ℕ) → StmtTree → List (Option ℕ)
stmt_after looks ds Empty = ds
stmt_after looks ds (Declare v) = specs_after v.kind ds v.specs
stmt_after looks ds (Simple s) = simple_after looks ds s
stmt_after looks ds (Return s es) = ds
stmt_after looks ds (Break s) = ds
stmt_after looks ds (Continue s) = ds
stmt_after looks ds (Block first ls last) = ds
stmt_after looks ds (If b) = ds
stmt_after looks ds (For k head first ls last) = ds

-- operators

-- an operator takes what its operand gives
abbrev pub UnaryFits : Operator → Gives → Type 0
UnaryFits operators.Plus g = g ≡ gives.One words.Int
UnaryFits operators.Minus g = g ≡ gives.One words.Int
UnaryFits operators.Not g = g ≡ gives.One words.Bool
UnaryFits _ g = Unit {0}

abbrev pub BothGive : Word → Gives → Gives → Type 0
BothGive w a b = (a ≡ gives.One w) × (b ≡ gives.One w)

-- an operator takes what its operands give
abbrev pub BinaryFits : Operator → Gives → Gives → Type 0
BinaryFits operators.Equal a b = a ≡ b
BinaryFits operators.NotEqual a b = a ≡ b
BinaryFits operators.LogicalAnd a b = BothGive words.Bool a b
BinaryFits operators.LogicalOr a b = BothGive words.Bool a b
BinaryFits operators.Plus a b = BothGive words.Int a b
BinaryFits operators.Minus a b = BothGive words.Int a b
BinaryFits operators.Star a b = BothGive words.Int a b
BinaryFits operators.Slash a b = BothGive words.Int a b
BinaryFits operators.Percent a b = BothGive words.Int a b
BinaryFits operators.Less a b = BothGive words.Int a b
BinaryFits operators.LessEqual a b = BothGive words.Int a b
BinaryFits operators.Greater a b = BothGive words.Int a b
BinaryFits operators.GreaterEqual a b = BothGive words.Int a b
BinaryFits _ a b = Unit {0}

-- what the receiver of a method that is called is over
abbrev pub receiver_letters : Frame → ExprTree → List Word
receiver_letters f (Select e dot x) = if means_method (f.looks.meaning x.span.start) then letter (expr_gives f e) else []
receiver_letters f (Paren first e last) = receiver_letters f e
receiver_letters f (Integer n s) = []
receiver_letters f (Text t) = []
receiver_letters f (Named x) = []
receiver_letters f (Unary op s e) = []
receiver_letters f (Binary a op s b) = []
receiver_letters f (Call e first items last) = []
receiver_letters f (Literal n first items last) = []
receiver_letters f (StructLiteral t first items last) = []

-- a function that is part of a program, where its variables are over this
module _ (program : List SourceOf) (s : SourceOf) (typing : Typing) where
  abbrev pub the_frame : Frame
  the_frame = frame_in s.looks s.tree

  -- a name alone: a variable that is declared before it; it is no method
  abbrev pub NameFits : List (Option ℕ) → Meaning → Type 0
  NameFits ds (meanings.Variable at w) = IsAmong ds at × (typing at ≡ Some w)
  NameFits ds (meanings.Method g) = ⊥
  NameFits ds (meanings.Constant v) = Unit {0}
  NameFits ds (meanings.Function g) = Unit {0}
  NameFits ds (meanings.«Type» w) = Unit {0}
  NameFits ds meanings.Println = Unit {0}
  NameFits ds meanings.Panic = Unit {0}
  NameFits ds meanings.Other = Unit {0}

  -- a reference is a function that takes words over these and gives this
  abbrev pub ReferenceFits : ℕ → Gives → List Word → Type 0
  ReferenceFits first g ws = (number : ℕ) × (callee_at s.callees (s.looks.reference first) ≡ Some number) × IsDeclared program number g ws

  -- a call takes what its arguments give; a conversion one argument that is over the same
  abbrev pub CalleeFits : Meaning → ℕ → List Word → List Word → Type 0
  CalleeFits (meanings.Function g) first receiver ws = ReferenceFits first g ws
  CalleeFits (meanings.Method g) first receiver ws = ReferenceFits first g (receiver ++ ws)
  CalleeFits (meanings.«Type» w) first receiver ws = ws ≡ w ∷ []
  CalleeFits (meanings.Variable at w) first receiver ws = Unit {0}
  CalleeFits (meanings.Constant v) first receiver ws = Unit {0}
  CalleeFits meanings.Println first receiver ws = Unit {0}
  CalleeFits meanings.Panic first receiver ws = Unit {0}
  CalleeFits meanings.Other first receiver ws = Unit {0}

  abbrev mutual
    -- where these are declared so far
    pub ExprFits : List (Option ℕ) → ExprTree → Type 0
    ExprFits ds (Integer n span) = IsGiven (folded s.looks (Integer n span))
    ExprFits ds (Text t) = Unit {0}
    ExprFits ds (Named x) = NameFits ds (s.looks.meaning x.span.start)
    ExprFits ds (Paren first e last) = ExprFits ds e
    ExprFits ds (Unary op span e) = UnaryFits op (expr_gives the_frame e) × ExprFits ds e
    ExprFits ds (Binary a op span b) = BinaryFits op (expr_gives the_frame a) (expr_gives the_frame b) × ExprFits ds a × ExprFits ds b
    ExprFits ds (Select e dot x) = means_method (s.looks.meaning x.span.start) ≡ true → ExprFits ds e
    ExprFits ds (Call e first items last) = CalleeFits (callee_meaning s.looks e) first.start (receiver_letters the_frame e) (letters the_frame items) × ExprFits ds e × ItemsFit ds items
    ExprFits ds (Literal n first items last) = Unit {0}
    ExprFits ds (StructLiteral t first items last) = Unit {0}

    pub ItemsFit : List (Option ℕ) → ItemTrees → Type 0
    ItemsFit ds NoItems = Unit {0}
    ItemsFit ds (Item key e comma rest) = ExprFits ds e × ItemsFit ds rest

  -- one expression that gives this
  abbrev pub OneFits : List (Option ℕ) → Separated ExprTree → Type 0
  OneFits ds (One e) = ExprFits ds e
  OneFits ds (Then e comma more) = Unit {0}

  abbrev pub one_gives : Separated ExprTree → Gives
  one_gives (One e) = expr_gives the_frame e
  one_gives (Then e comma more) = gives.Other

  -- a variable takes what is assigned to it; nothing is asked of what is assigned to `_`
  abbrev pub GoalFits : Goal → Gives → Type 0
  GoalFits (ToVariable at) g = (w : Word) × (typing at ≡ Some w) × (g ≡ gives.One w)
  GoalFits ToNothing g = Unit {0}
  GoalFits Elsewhere g = Unit {0}

  abbrev pub TargetsFit : Separated ExprTree → Gives → Type 0
  TargetsFit (One e) g = GoalFits (goal_of s.looks e) g
  TargetsFit (Then e comma more) g = Unit {0}

  abbrev pub DeclaredFit : Separated Ident → Gives → Type 0
  DeclaredFit (One x) g = GoalFits (declared_goal x) g
  DeclaredFit (Then x comma more) g = Unit {0}

  -- a variable over `int` that is declared before
  abbrev pub UpdatedFits : List (Option ℕ) → Goal → Type 0
  UpdatedFits ds (ToVariable at) = IsAmong ds at × (typing at ≡ Some words.Int)
  UpdatedFits ds ToNothing = Unit {0}
  UpdatedFits ds Elsewhere = Unit {0}

  abbrev pub SimpleFits : List (Option ℕ) → SimpleTree → Type 0
  SimpleFits ds (Alone e) = ExprFits ds e
  SimpleFits ds (Step e op span) = UpdatedFits ds (goal_of s.looks e)
  SimpleFits ds (Assign ts span es) = TargetsFit ts (one_gives es) × OneFits ds es
  SimpleFits ds (Update t op span e) = UpdatedFits ds (goal_of s.looks t) × (expr_gives the_frame e ≡ gives.One words.Int) × ExprFits ds e
  SimpleFits ds (Define xs span es) = DeclaredFit xs (one_gives es) × OneFits ds es

  abbrev pub SomeSimpleFits : List (Option ℕ) → Option SimpleTree → Type 0
  SomeSimpleFits ds None = Unit {0}
  SomeSimpleFits ds (Some t) = SimpleFits ds t

  -- what the variable of a specification is given
  abbrev pub initial_gives : Option TypeTree → Option (Span × Separated ExprTree) → Gives
  initial_gives t None = over (some_type_word s.looks t)
  initial_gives t (Some v) = one_gives v.1

  -- without a value it has a type
  abbrev pub InitialFits : List (Option ℕ) → Option TypeTree → Option (Span × Separated ExprTree) → Type 0
  InitialFits ds t None = IsGiven (some_type_word s.looks t)
  InitialFits ds t (Some v) = OneFits ds v.1

  abbrev pub SpecFits : List (Option ℕ) → ValueKind → ValueSpecTree → Type 0
  SpecFits ds value_kinds.Const v = Unit {0}
  SpecFits ds value_kinds.Var v = DeclaredFit v.names (initial_gives v.type_expr v.values) × InitialFits ds v.type_expr v.values

  abbrev pub SpecLinesFit : List (Option ℕ) → ValueKind → List (ValueSpecTree × Option Span) → Type 0
  SpecLinesFit ds kind [] = Unit {0}
  SpecLinesFit ds kind (l ∷ ls) = SpecFits ds kind l.0 × SpecLinesFit (value_spec_slots kind l.0 ++ ds) kind ls

  abbrev pub SpecsFit : List (Option ℕ) → ValueKind → Specs ValueSpecTree → Type 0
  SpecsFit ds kind (Single v) = SpecFits ds kind v
  SpecsFit ds kind (Group first ls last) = SpecLinesFit ds kind ls

  -- a condition is over `bool`
  abbrev pub TestFits : List (Option ℕ) → Option ExprTree → Type 0
  TestFits ds None = Unit {0}
  TestFits ds (Some e) = (expr_gives the_frame e ≡ gives.One words.Bool) × ExprFits ds e

  -- `return` gives what the function gives
  abbrev pub ReturnFits : List (Option ℕ) → Option (Separated ExprTree) → Type 0
  ReturnFits ds None = given_by s ≡ gives.Nothing
  ReturnFits ds (Some es) = (given_by s ≡ one_gives es) × OneFits ds es

  abbrev pub InitFits : List (Option ℕ) → Option (Option SimpleTree × Span) → Type 0
  InitFits ds None = Unit {0}
  InitFits ds (Some init) = SomeSimpleFits ds init.0

  abbrev mutual
    pub StmtFits : List (Option ℕ) → StmtTree → Type 0
    StmtFits ds Empty = Unit {0}
    StmtFits ds (Declare v) = SpecsFit ds v.kind v.specs
    StmtFits ds (Simple t) = SimpleFits ds t
    StmtFits ds (Return span es) = ReturnFits ds es
    StmtFits ds (Break span) = Unit {0}
    StmtFits ds (Continue span) = Unit {0}
    StmtFits ds (Block first ls last) = LinesFit ds ls
    StmtFits ds (If b) = BranchFits ds b
    StmtFits ds (For k head first ls last) =
        SomeSimpleFits ds (head_init head) × TestFits (some_simple_after s.looks ds (head_init head)) (head_test head)
        × SomeSimpleFits (some_simple_after s.looks ds (head_init head)) (head_post head) × LinesFit (some_simple_after s.looks ds (head_init head)) ls

    pub BranchFits : List (Option ℕ) → BranchTree → Type 0
    BranchFits ds (Branch k head first ls last other) =
        InitFits ds head.init × TestFits (init_after s.looks ds head.init) (Some head.condition) × LinesFit (init_after s.looks ds head.init) ls × ElseFits (init_after s.looks ds head.init) other

    pub ElseFits : List (Option ℕ) → ElseTree → Type 0
    ElseFits ds NoElse = Unit {0}
    ElseFits ds (ElseBlock k first ls last) = LinesFit ds ls
    ElseFits ds (ElseIf k b) = BranchFits ds b

    pub LinesFit : List (Option ℕ) → Lines → Type 0
    LinesFit ds NoLines = Unit {0}
    LinesFit ds (Line t semicolon rest) = StmtFits ds t × LinesFit (stmt_after s.looks ds t) rest
