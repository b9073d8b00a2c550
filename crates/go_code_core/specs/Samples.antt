-- Functions with the number of their slots and their code, worked out by hand from the rules of stack code.
--
-- Offsets count from the start of each function's text. All other places are one `s`, whatever it is: code asks where identifiers stand, and the
-- opening parentheses of calls, and no more.
use Rattle.std.specs.Prelude.{◌≡◌, ℕ, ◌+◌, nat_eq, true, false, List, [], ◌∷◌, length, pos, Option, Some, None, if◌then◌else◌, codes}
use Rattle.go_constant_core.specs.text_core.declared.span.Span.{Span}
use Rattle.go_tree_nodes.specs.token_core.declared.kind.Operator.TheVariants as operators
use Rattle.go_tree_nodes.specs.declared.names.Ident.{Ident}
use Rattle.go_tree_nodes.specs.declared.decls.ValueKind.TheVariants as value_kinds
use Rattle.go_tree_nodes.specs.declared.files.Receiver.{Receiver}
use Rattle.go_tree_nodes.specs.declared.types.TypeName.TheVariants as type_names
use Rattle.go_tree_nodes.specs.Trees.{One, Then, TypeTree, NamedType, ParamTrees, NoParams, Param, ResultTree, OneResult, NoResult, Results, Signed, ExprTree, Integer, Named, Paren, Binary, Select, Call, ItemTrees, NoItems, Item, Single, SimpleTree, Alone, Step, Assign, Update, Define, Forever, Clauses, StmtTree, Declare, Simple, Return, Break, Continue, Block, If, For, Branch, NoElse, ElseBlock, Lines, NoLines, Line, FuncTree}
use Rattle.go_object_core.specs.declared.instructions.letters.Word.TheVariants as words
use Rattle.go_object_core.specs.declared.instructions.instruction.Distance.TheVariants as distances
use Rattle.go_object_core.specs.declared.instructions.instruction.Instruction.{Instruction}
use Rattle.go_object_core.specs.declared.instructions.instruction.Instruction.TheVariants as instructions
use Rattle.go_object_core.specs.declared.instructions.instruction.Instruction.TheVariants.{Push, Load, Store, Add, Sub, Eq, Lt, JumpFalse, Println, Outside}
use Rattle.go_code_core.specs.declared.fragments.names.Gives.TheVariants as gives
use Rattle.go_code_core.specs.declared.fragments.names.Meaning.{Meaning}
use Rattle.go_code_core.specs.declared.fragments.names.Meaning.TheVariants as meanings
use Rattle.go_code_core.specs.fragments.Names.{CodeLooks}
use Rattle.go_code_core.specs.fragments.Slots.{slots_of}
use Rattle.go_code_core.specs.Code.{code_of}

-- the function has so many slots, and this code
pub record IsCoded (looks : CodeLooks) (func : FuncTree) (slots : ℕ) (code : List Instruction) : Type 0 where
  pub slots_are : length (slots_of looks func) ≡ slots
  pub code_is : code_of looks func ≡ code

-- names

abbrev pub a : List ℕ
a = codes "a"

abbrev pub b : List ℕ
b = codes "b"

abbrev pub c : List ℕ
c = codes "c"

abbrev pub i : List ℕ
i = codes "i"

abbrev pub m : List ℕ
m = codes "m"

abbrev pub n : List ℕ
n = codes "n"

abbrev pub t : List ℕ
t = codes "t"

abbrev pub x_text : List ℕ
x_text = codes "x"

abbrev pub blank_text : List ℕ
blank_text = codes "_"

-- an identifier by the offset of its first byte
abbrev pub ident_at : List ℕ → ℕ → Ident
ident_at name at = record { name = name; span = record { start = at; end = at + length name } }

abbrev pub paren : ℕ → Span
paren at = record { start = at; end = at + 1 }

-- what they come to

abbrev pub meaning_listed : List (ℕ × Meaning) → ℕ → Meaning
meaning_listed [] at = meanings.Other
meaning_listed (m ∷ ms) at = if nat_eq m.0 at then m.1 else meaning_listed ms at

abbrev pub reference_at : List (ℕ × ℕ) → ℕ → ℕ
reference_at [] at = 0
reference_at (c ∷ cs) at = if nat_eq c.0 at then c.1 else reference_at cs at

-- identifiers, each with what it comes to, and calls by their opening parentheses, each with the number of its reference. Each name to the
-- left of `:=` is new
abbrev pub looks_by : List (ℕ × Meaning) → List (ℕ × ℕ) → CodeLooks
looks_by names calls = record { meaning = meaning_listed names; reference = reference_at calls; is_new = λ at. true }

abbrev pub int_type : Meaning
int_type = meanings.«Type» words.Int

abbrev pub bool_type : Meaning
bool_type = meanings.«Type» words.Bool

-- a variable by the offset at which it is declared
abbrev pub int_var : ℕ → Meaning
int_var at = meanings.Variable at words.Int

abbrev pub bool_var : ℕ → Meaning
bool_var at = meanings.Variable at words.Bool

-- trees

abbrev pub name : List ℕ → ℕ → ExprTree
name text at = Named (ident_at text at)

abbrev pub type_written : List ℕ → ℕ → TypeTree
type_written text at = NamedType (type_names.Plain (ident_at text at))

abbrev pub int_written : ℕ → TypeTree
int_written at = type_written (codes "int") at

abbrev pub bool_written : ℕ → TypeTree
bool_written at = type_written (codes "bool") at

-- a parameter or several of one type, and an argument
abbrev pub param : Span → List ℕ → ℕ → TypeTree → ParamTrees → ParamTrees
param s text at type rest = Param (Some (One (ident_at text at))) type (Some s) rest

abbrev pub two_params : Span → List ℕ → ℕ → List ℕ → ℕ → TypeTree → ParamTrees → ParamTrees
two_params s first at second at' type rest = Param (Some (Then (ident_at first at) s (One (ident_at second at')))) type (Some s) rest

abbrev pub argument : Span → ExprTree → ItemTrees → ItemTrees
argument s e rest = Item None e (Some s) rest

abbrev pub line : Span → StmtTree → Lines → Lines
line s stmt rest = Line stmt (Some s) rest

abbrev pub returns : Span → ExprTree → StmtTree
returns s e = Return s (Some (One e))

abbrev pub assigned : Span → ExprTree → ExprTree → StmtTree
assigned s target value = Simple (Assign (One target) s (One value))

abbrev pub defined : Span → Ident → ExprTree → SimpleTree
defined s x value = Define (One x) s (One value)

abbrev pub sample_method : Span → Option Receiver → List ℕ → ParamTrees → ResultTree → Lines → FuncTree
sample_method s receiver text params results body = record { func = s; receiver = receiver; name = record { name = text; span = s }; signature = Signed s params s results; open_brace = s; body = body; close_brace = s }

abbrev pub sample_func : Span → List ℕ → ParamTrees → ResultTree → Lines → FuncTree
sample_func s text params results body = sample_method s None text params results body

abbrev pub receiver : Span → Option Ident → Option Span → Ident → Option Receiver
receiver s x star base = Some (record { open_paren = s; name = x; star = star; base = type_names.Plain base; comma = None; close_paren = s })

-- func add(a, b int) int { return a + b }
abbrev pub add_looks : CodeLooks
add_looks = looks_by ((14, int_type) ∷ (19, int_type) ∷ (32, int_var 9) ∷ (36, int_var 12) ∷ []) []

abbrev pub add : Span → FuncTree
add s =
    sample_func s (codes "add") (two_params s a 9 b 12 (int_written 14) NoParams) (OneResult (int_written 19))
    (line s (returns s (Binary (name a 32) operators.Plus s (name b 36))) NoLines)

abbrev pub OperandsInOrder : Type 0
OperandsInOrder = (s : Span) → IsCoded add_looks (add s) 2 (Load 0 ∷ Load 1 ∷ Add ∷ instructions.Return true ∷ instructions.Return false ∷ [])

-- func between(a, b, c int) bool { return a < b && b < c }
abbrev pub between_looks : CodeLooks
between_looks = looks_by ((21, int_type) ∷ (26, bool_type) ∷ (40, int_var 13) ∷ (44, int_var 16) ∷ (49, int_var 16) ∷ (53, int_var 19) ∷ []) []

abbrev pub between : Span → FuncTree
between s =
    sample_func s (codes "between") (Param (Some (Then (ident_at a 13) s (Then (ident_at b 16) s (One (ident_at c 19))))) (int_written 21) None NoParams) (OneResult (bool_written 26))
    (line s (returns s (Binary (Binary (name a 40) operators.Less s (name b 44)) operators.LogicalAnd s (Binary (name b 49) operators.Less s (name c 53)))) NoLines)

abbrev pub between_code : List Instruction
between_code =
    Load 0 ∷ Load 1 ∷ Lt ∷ JumpFalse 4
    ∷ Load 1 ∷ Load 2 ∷ Lt ∷ instructions.Jump (distances.Forward 1)
    ∷ Push (pos 0)
    ∷ instructions.Return true ∷ instructions.Return false ∷ []

-- func beyond(a, b, c int) bool { return b < a || c < b }
abbrev pub beyond_looks : CodeLooks
beyond_looks = looks_by ((20, int_type) ∷ (25, bool_type) ∷ (39, int_var 15) ∷ (43, int_var 12) ∷ (48, int_var 18) ∷ (52, int_var 15) ∷ []) []

abbrev pub beyond_function : Span → FuncTree
beyond_function s =
    sample_func s (codes "beyond") (Param (Some (Then (ident_at a 12) s (Then (ident_at b 15) s (One (ident_at c 18))))) (int_written 20) None NoParams) (OneResult (bool_written 25))
    (line s (returns s (Binary (Binary (name b 39) operators.Less s (name a 43)) operators.LogicalOr s (Binary (name c 48) operators.Less s (name b 52)))) NoLines)

abbrev pub beyond_code : List Instruction
beyond_code =
    Load 1 ∷ Load 0 ∷ Lt ∷ JumpFalse 2
    ∷ Push (pos 1) ∷ instructions.Jump (distances.Forward 3)
    ∷ Load 2 ∷ Load 1 ∷ Lt
    ∷ instructions.Return true ∷ instructions.Return false ∷ []

-- the right operand is passed over where the left one decides
pub record ShortCuts (s : Span) : Type 0 where
  pub of_and : IsCoded between_looks (between s) 3 between_code
  pub of_or : IsCoded beyond_looks (beyond_function s) 3 beyond_code

abbrev pub OperandsHaveShortCuts : Type 0
OperandsHaveShortCuts = (s : Span) → ShortCuts s

-- func larger(a, b int) int { var m int; if a < b { m = b } else { m = a }; return m }
abbrev pub larger_looks : CodeLooks
larger_looks =
    looks_by
    ((17, int_type) ∷ (22, int_type) ∷ (34, int_type) ∷ (42, int_var 12) ∷ (46, int_var 15) ∷ (50, int_var 32) ∷ (54, int_var 15) ∷ (65, int_var 32) ∷ (69, int_var 12) ∷ (81, int_var 32) ∷ []) []

abbrev pub larger : Span → FuncTree
larger s =
    sample_func s (codes "larger") (two_params s a 12 b 15 (int_written 17) NoParams) (OneResult (int_written 22))
    (line s (Declare (record { kind = value_kinds.Var; keyword = s; specs = Single (record { names = One (ident_at m 32); type_expr = Some (int_written 34); values = None }) }))
    (line s (If (Branch s (record { init = None; condition = Binary (name a 42) operators.Less s (name b 46) })
    s (line s (assigned s (name m 50) (name b 54)) NoLines) s
    (ElseBlock s s (line s (assigned s (name m 65) (name a 69)) NoLines) s)))
    (line s (returns s (name m 81)) NoLines)))

abbrev pub larger_code : List Instruction
larger_code =
    Push (pos 0) ∷ Store 2
    ∷ Load 0 ∷ Load 1 ∷ Lt ∷ JumpFalse 3
    ∷ Load 1 ∷ Store 2 ∷ instructions.Jump (distances.Forward 2)
    ∷ Load 0 ∷ Store 2
    ∷ Load 2 ∷ instructions.Return true ∷ instructions.Return false ∷ []

-- `else` is passed over
abbrev pub ChoicesAreCoded : Type 0
ChoicesAreCoded = (s : Span) → IsCoded larger_looks (larger s) 3 larger_code

-- func sum(n int) int { t := 0; for i := 0; i < n; i++ { if i == 3 { continue }; t += i }; return t }
abbrev pub sum_looks : CodeLooks
sum_looks =
    looks_by
    ((11, int_type) ∷ (16, int_type) ∷ (42, int_var 34) ∷ (46, int_var 9) ∷ (49, int_var 34) ∷ (58, int_var 34) ∷ (79, int_var 22) ∷ (84, int_var 34) ∷ (96, int_var 22) ∷ []) []

abbrev pub sum : Span → FuncTree
sum s =
    sample_func s (codes "sum") (param s n 9 (int_written 11) NoParams) (OneResult (int_written 16))
    (line s (Simple (defined s (ident_at t 22) (Integer 0 s)))
    (line s (For s (Clauses (Some (defined s (ident_at i 34) (Integer 0 s))) s (Some (Binary (name i 42) operators.Less s (name n 46))) s (Some (Step (name i 49) operators.Increment s)))
    s
    (line s (If (Branch s (record { init = None; condition = Binary (name i 58) operators.Equal s (Integer 3 s) }) s (line s (Continue s) NoLines) s NoElse))
    (line s (Simple (Update (name t 79) operators.PlusAssign s (name i 84))) NoLines))
    s)
    (line s (returns s (name t 96)) NoLines)))

-- `continue` leads to `i++`, the loop's test behind the body, and the jump at its end back to the test
abbrev pub sum_code : List Instruction
sum_code =
    Push (pos 0) ∷ Store 1
    ∷ Push (pos 0) ∷ Store 2
    ∷ Load 2 ∷ Load 0 ∷ Lt ∷ JumpFalse 14
    ∷ Load 2 ∷ Push (pos 3) ∷ Eq ∷ JumpFalse 1
    ∷ instructions.Jump (distances.Forward 4)
    ∷ Load 1 ∷ Load 2 ∷ Add ∷ Store 1
    ∷ Load 2 ∷ Push (pos 1) ∷ Add ∷ Store 2
    ∷ instructions.Jump (distances.Back 18)
    ∷ Load 1 ∷ instructions.Return true ∷ instructions.Return false ∷ []

-- func rest(n int) int { for { if n < 2 { break }; n -= 2 }; return n }
abbrev pub rest_looks : CodeLooks
rest_looks = looks_by ((12, int_type) ∷ (17, int_type) ∷ (32, int_var 10) ∷ (49, int_var 10) ∷ (66, int_var 10) ∷ []) []

abbrev pub rest : Span → FuncTree
rest s =
    sample_func s (codes "rest") (param s n 10 (int_written 12) NoParams) (OneResult (int_written 17))
    (line s (For s Forever
    s
    (line s (If (Branch s (record { init = None; condition = Binary (name n 32) operators.Less s (Integer 2 s) }) s (line s (Break s) NoLines) s NoElse))
    (line s (Simple (Update (name n 49) operators.MinusAssign s (Integer 2 s))) NoLines))
    s)
    (line s (returns s (name n 66)) NoLines))

-- `break` leads behind the jump back
abbrev pub rest_code : List Instruction
rest_code =
    Load 0 ∷ Push (pos 2) ∷ Lt ∷ JumpFalse 1
    ∷ instructions.Jump (distances.Forward 5)
    ∷ Load 0 ∷ Push (pos 2) ∷ Sub ∷ Store 0
    ∷ instructions.Jump (distances.Back 10)
    ∷ Load 0 ∷ instructions.Return true ∷ instructions.Return false ∷ []

pub record Loops (s : Span) : Type 0 where
  pub with_continue : IsCoded sum_looks (sum s) 3 sum_code
  pub with_break : IsCoded rest_looks (rest s) 1 rest_code

abbrev pub LoopsAreCoded : Type 0
LoopsAreCoded = (s : Span) → Loops s

-- func show(a int) { add(a, 2); println(add(1, a), a < 2) }, where the calls of add have the references 0 and 1
abbrev pub show_looks : CodeLooks
show_looks =
    looks_by
    ((12, int_type) ∷ (19, meanings.Function (gives.One words.Int)) ∷ (23, int_var 10) ∷ (30, meanings.Println) ∷ (38, meanings.Function (gives.One words.Int)) ∷ (45, int_var 10) ∷ (49, int_var 10) ∷ [])
    ((22, 0) ∷ (41, 1) ∷ [])

abbrev pub show : Span → FuncTree
show s =
    sample_func s (codes "show") (param s a 10 (int_written 12) NoParams) NoResult
    (line s (Simple (Alone (Call (name (codes "add") 19) (paren 22) (argument s (name a 23) (argument s (Integer 2 s) NoItems)) s)))
    (line s (Simple (Alone (Call (name (codes "println") 30) (paren 37)
    (argument s (Call (name (codes "add") 38) (paren 41) (argument s (Integer 1 s) (argument s (name a 45) NoItems)) s)
    (argument s (Binary (name a 49) operators.Less s (Integer 2 s)) NoItems)) s))) NoLines))

abbrev pub show_code : List Instruction
show_code =
    Load 0 ∷ Push (pos 2) ∷ instructions.Call 0 2 ∷ instructions.Drop
    ∷ Push (pos 1) ∷ Load 0 ∷ instructions.Call 1 2
    ∷ Load 0 ∷ Push (pos 2) ∷ Lt
    ∷ Println (words.Int ∷ words.Bool ∷ [])
    ∷ instructions.Return false ∷ []

-- func sizes(a small, b large) int { return a.size() + b.size() }, where both types are over int: the method of small is reference 0, that of
-- large reference 1
abbrev pub sizes_looks : CodeLooks
sizes_looks =
    looks_by
    ((13, int_type) ∷ (22, int_type) ∷ (29, int_type) ∷ (42, int_var 11) ∷ (44, meanings.Method (gives.One words.Int)) ∷ (53, int_var 20) ∷ (55, meanings.Method (gives.One words.Int)) ∷ [])
    ((48, 0) ∷ (59, 1) ∷ [])

abbrev pub sizes : Span → FuncTree
sizes s =
    sample_func s (codes "sizes") (param s a 11 (type_written (codes "small") 13) (param s b 20 (type_written (codes "large") 22) NoParams)) (OneResult (int_written 29))
    (line s (returns s (Binary (Call (Select (name a 42) s (ident_at (codes "size") 44)) (paren 48) NoItems s) operators.Plus s
    (Call (Select (name b 53) s (ident_at (codes "size") 55)) (paren 59) NoItems s))) NoLines)

abbrev pub sizes_code : List Instruction
sizes_code = Load 0 ∷ instructions.Call 0 1 ∷ Load 1 ∷ instructions.Call 1 1 ∷ Add ∷ instructions.Return true ∷ instructions.Return false ∷ []

-- a call has its own reference, also where another one calls a method of the same spelling; a receiver is counted
pub record CallsOf (s : Span) : Type 0 where
  pub of_functions : IsCoded show_looks (show s) 1 show_code
  pub of_methods : IsCoded sizes_looks (sizes s) 2 sizes_code

abbrev pub CallsAreCoded : Type 0
CallsAreCoded = (s : Span) → CallsOf s

-- func (c count) twice(bool) int { return c.plus(1).plus(2) }, where count is over int
abbrev pub twice_looks : CodeLooks
twice_looks =
    looks_by
    ((8, int_type) ∷ (21, bool_type) ∷ (27, int_type) ∷ (40, int_var 6) ∷ (42, meanings.Method (gives.One words.Int)) ∷ (50, meanings.Method (gives.One words.Int)) ∷ [])
    ((46, 0) ∷ (54, 1) ∷ [])

abbrev pub twice : Span → FuncTree
twice s =
    sample_method s (receiver s (Some (ident_at c 6)) None (ident_at (codes "count") 8)) (codes "twice") (Param None (bool_written 21) None NoParams) (OneResult (int_written 27))
    (line s (returns s (Call (Select (Call (Select (name c 40) s (ident_at (codes "plus") 42)) (paren 46) (argument s (Integer 1 s) NoItems) s) s (ident_at (codes "plus") 50)) (paren 54) (argument s (Integer 2 s) NoItems) s)) NoLines)

abbrev pub twice_code : List Instruction
twice_code = Load 0 ∷ Push (pos 1) ∷ instructions.Call 0 2 ∷ Push (pos 2) ∷ instructions.Call 1 2 ∷ instructions.Return true ∷ instructions.Return false ∷ []

-- func (count) last(_ int, b bool, _ bool) int { x := 1; _ = b; return x }
abbrev pub last_looks : CodeLooks
last_looks = looks_by ((6, int_type) ∷ (20, int_type) ∷ (27, bool_type) ∷ (35, bool_type) ∷ (41, int_type) ∷ (59, bool_var 25) ∷ (69, int_var 47) ∷ []) []

abbrev pub last : Span → FuncTree
last s =
    sample_method s (receiver s None None (ident_at (codes "count") 6)) (codes "last") (param s blank_text 18 (int_written 20) (param s b 25 (bool_written 27) (param s blank_text 33 (bool_written 35) NoParams))) (OneResult (int_written 41))
    (line s (Simple (defined s (ident_at x_text 47) (Integer 1 s)))
    (line s (assigned s (name blank_text 55) (name b 59))
    (line s (returns s (name x_text 69)) NoLines)))

abbrev pub last_code : List Instruction
last_code = Push (pos 1) ∷ Store 4 ∷ Load 2 ∷ instructions.Drop ∷ Load 4 ∷ instructions.Return true ∷ instructions.Return false ∷ []

-- func third(int, bool) int { x := 1; return x }
abbrev pub third_looks : CodeLooks
third_looks = looks_by ((11, int_type) ∷ (16, bool_type) ∷ (22, int_type) ∷ (43, int_var 28) ∷ []) []

abbrev pub third : Span → FuncTree
third s =
    sample_func s (codes "third") (Param None (int_written 11) (Some s) (Param None (bool_written 16) None NoParams)) (OneResult (int_written 22))
    (line s (Simple (defined s (ident_at x_text 28) (Integer 1 s)))
    (line s (returns s (name x_text 43)) NoLines))

abbrev pub third_code : List Instruction
third_code = Push (pos 1) ∷ Store 2 ∷ Load 2 ∷ instructions.Return true ∷ instructions.Return false ∷ []

-- a receiver and a parameter have a slot each, those without a name and `_` too
pub record Unnamed (s : Span) : Type 0 where
  pub with_name : IsCoded twice_looks (twice s) 2 twice_code
  pub receiver_and_blank : IsCoded last_looks (last s) 5 last_code
  pub parameters : IsCoded third_looks (third s) 3 third_code

abbrev pub UnnamedHaveSlots : Type 0
UnnamedHaveSlots = (s : Span) → Unnamed s

-- func inner(x int) int { { x := x + 1; println(x) }; if x := 3; x < 4 { return x }; return x }
abbrev pub inner_looks : CodeLooks
inner_looks =
    looks_by
    ((13, int_type) ∷ (18, int_type) ∷ (31, int_var 11) ∷ (38, meanings.Println) ∷ (46, int_var 26) ∷ (63, int_var 55) ∷ (78, int_var 55) ∷ (90, int_var 11) ∷ []) []

abbrev pub inner : Span → FuncTree
inner s =
    sample_func s (codes "inner") (param s x_text 11 (int_written 13) NoParams) (OneResult (int_written 18))
    (line s (Block s (line s (Simple (defined s (ident_at x_text 26) (Binary (name x_text 31) operators.Plus s (Integer 1 s))))
    (line s (Simple (Alone (Call (name (codes "println") 38) (paren 45) (argument s (name x_text 46) NoItems) s))) NoLines)) s)
    (line s (If (Branch s (record { init = Some (Some (defined s (ident_at x_text 55) (Integer 3 s)), s); condition = Binary (name x_text 63) operators.Less s (Integer 4 s) }) s (line s (returns s (name x_text 78)) NoLines) s NoElse))
    (line s (returns s (name x_text 90)) NoLines)))

abbrev pub inner_code : List Instruction
inner_code =
    Load 0 ∷ Push (pos 1) ∷ Add ∷ Store 1
    ∷ Load 1 ∷ Println (words.Int ∷ [])
    ∷ Push (pos 3) ∷ Store 2
    ∷ Load 2 ∷ Push (pos 4) ∷ Lt ∷ JumpFalse 2
    ∷ Load 2 ∷ instructions.Return true
    ∷ Load 0 ∷ instructions.Return true ∷ instructions.Return false ∷ []

-- variables of one spelling in blocks inside one another have a slot each
abbrev pub InnerBlocksHaveSlots : Type 0
InnerBlocksHaveSlots = (s : Span) → IsCoded inner_looks (inner s) 3 inner_code

-- func day() int { return 24 * (60 * 60) }
abbrev pub day_looks : CodeLooks
day_looks = looks_by ((11, int_type) ∷ []) []

abbrev pub day : Span → FuncTree
day s =
    sample_func s (codes "day") NoParams (OneResult (int_written 11))
    (line s (returns s (Binary (Integer 24 s) operators.Star s (Paren s (Binary (Integer 60 s) operators.Star s (Integer 60 s)) s))) NoLines)

abbrev pub ConstantsArePushed : Type 0
ConstantsArePushed = (s : Span) → IsCoded day_looks (day s) 0 (Push (pos 86400) ∷ instructions.Return true ∷ instructions.Return false ∷ [])

-- func (c *count) reset() {}
abbrev pub reset_looks : CodeLooks
reset_looks = looks_by ((9, int_type) ∷ []) []

abbrev pub reset : Span → FuncTree
reset s = sample_method s (receiver s (Some (ident_at c 6)) (Some s) (ident_at (codes "count") 9)) (codes "reset") NoParams NoResult NoLines

-- func root() (n int) { return 1 }
abbrev pub root_looks : CodeLooks
root_looks = looks_by ((15, int_type) ∷ []) []

abbrev pub root : Span → FuncTree
root s = sample_func s (codes "root") NoParams (Results s (param s n 13 (int_written 15) NoParams) s) (line s (returns s (Integer 1 s)) NoLines)

-- func label(s string) {}
abbrev pub label_looks : CodeLooks
label_looks = looks_by [] []

abbrev pub label : Span → FuncTree
label s = sample_func s (codes "label") (param s (codes "s") 11 (type_written (codes "string") 13) NoParams) NoResult NoLines

-- a receiver that is a pointer, a result with a name, a parameter over something else
pub record Outsiders (s : Span) : Type 0 where
  pub pointer : IsCoded reset_looks (reset s) 1 (Outside ∷ [])
  pub named : IsCoded root_looks (root s) 0 (Outside ∷ [])
  pub string : IsCoded label_looks (label s) 1 (Outside ∷ [])

abbrev pub OutsidersAreNotCoded : Type 0
OutsidersAreNotCoded = (s : Span) → Outsiders s
