-- The slots of a function: its receiver, its parameters, and its local variables but `_`, in order.
--
-- The Go specification, "Blocks", "Function declarations", "Method declarations", "Variable declarations", "Short variable declarations".
use Rattle.std.specs.Prelude.{ℕ, List, [], ◌∷◌, ◌++◌, Option, Some, None, if◌then◌else◌}
use Rattle.go_constant_core.specs.text_core.Text.{is_blank}
use Rattle.go_constant_core.specs.text_core.declared.span.Span.{Span}
use Rattle.go_tree_nodes.specs.declared.names.Ident.{Ident}
use Rattle.go_tree_nodes.specs.declared.decls.ValueKind.{ValueKind}
use Rattle.go_tree_nodes.specs.declared.decls.ValueKind.TheVariants as value_kinds
use Rattle.go_tree_nodes.specs.declared.files.Receiver.{Receiver}
use Rattle.go_tree_nodes.specs.Trees.{Separated, One, Then, ParamTrees, NoParams, Param, SignatureTree, Signed, ValueSpecTree, Specs, Single, Group, SimpleTree, Alone, Step, Assign, Update, Define, ForTree, Forever, While, Clauses, StmtTree, Empty, Declare, Simple, Return, Break, Continue, Block, If, For, BranchTree, Branch, ElseTree, NoElse, ElseBlock, ElseIf, Lines, NoLines, Line, FuncTree}
use Rattle.go_code_core.specs.fragments.Names.{CodeLooks}

-- a parameter: by the offset of its identifier, where it has one other than `_`
abbrev pub param_slot : Ident → Option ℕ
param_slot x = if is_blank x.name then None else Some x.span.start

abbrev pub param_names_slots : Separated Ident → List (Option ℕ)
param_names_slots (One x) = param_slot x ∷ []
param_names_slots (Then x comma more) = param_slot x ∷ param_names_slots more

-- the parameters of an entry: one without a name has a slot too
abbrev pub entry_slots : Option (Separated Ident) → List (Option ℕ)
entry_slots None = None ∷ []
entry_slots (Some xs) = param_names_slots xs

abbrev pub param_slots : ParamTrees → List (Option ℕ)
param_slots NoParams = []
param_slots (Param xs t comma rest) = entry_slots xs ++ param_slots rest

abbrev pub signature_slots : SignatureTree → List (Option ℕ)
signature_slots (Signed first params last results) = param_slots params

abbrev pub some_name_slot : Option Ident → Option ℕ
some_name_slot None = None
some_name_slot (Some x) = param_slot x

abbrev pub receiver_slots : Option Receiver → List (Option ℕ)
receiver_slots None = []
receiver_slots (Some r) = some_name_slot r.name ∷ []

-- a local variable: the blank identifier has no slot
abbrev pub local_slot : Ident → List (Option ℕ)
local_slot x = if is_blank x.name then [] else Some x.span.start ∷ []

abbrev pub local_slots : Separated Ident → List (Option ℕ)
local_slots (One x) = local_slot x
local_slots (Then x comma more) = local_slot x ++ local_slots more

-- constants have none
abbrev pub value_spec_slots : ValueKind → ValueSpecTree → List (Option ℕ)
value_spec_slots value_kinds.Const v = []
value_spec_slots value_kinds.Var v = local_slots v.names

abbrev pub value_lines_slots : ValueKind → List (ValueSpecTree × Option Span) → List (Option ℕ)
value_lines_slots kind [] = []
value_lines_slots kind (l ∷ ls) = value_spec_slots kind l.0 ++ value_lines_slots kind ls

abbrev pub value_specs_slots : ValueKind → Specs ValueSpecTree → List (Option ℕ)
value_specs_slots kind (Single v) = value_spec_slots kind v
value_specs_slots kind (Group first ls last) = value_lines_slots kind ls

-- one name to the left of `:=` is new; of several those that are not of the same block already
abbrev pub new_slot : CodeLooks → Ident → List (Option ℕ)
new_slot looks x = if looks.is_new x.span.start then local_slot x else []

abbrev pub new_slots : CodeLooks → Separated Ident → List (Option ℕ)
new_slots looks (One x) = new_slot looks x
new_slots looks (Then x comma more) = new_slot looks x ++ new_slots looks more

abbrev pub define_slots : CodeLooks → Separated Ident → List (Option ℕ)
define_slots looks (One x) = local_slot x
define_slots looks (Then x comma more) = new_slots looks (Then x comma more)

abbrev pub simple_slots : CodeLooks → SimpleTree → List (Option ℕ)
simple_slots looks (Define xs s es) = define_slots looks xs
simple_slots looks (Alone e) = []
simple_slots looks (Step e op s) = []
simple_slots looks (Assign ts s es) = []
simple_slots looks (Update t op s e) = []

abbrev pub some_simple_slots : CodeLooks → Option SimpleTree → List (Option ℕ)
some_simple_slots looks None = []
some_simple_slots looks (Some s) = simple_slots looks s

abbrev pub init_slots : CodeLooks → Option (Option SimpleTree × Span) → List (Option ℕ)
init_slots looks None = []
init_slots looks (Some init) = some_simple_slots looks init.0

abbrev pub head_slots : CodeLooks → ForTree → List (Option ℕ)
head_slots looks Forever = []
head_slots looks (While e) = []
head_slots looks (Clauses init a test b post) = some_simple_slots looks init ++ some_simple_slots looks post

abbrev mutual
  pub stmt_slots : CodeLooks → StmtTree → List (Option ℕ)
  stmt_slots looks Empty = []
  stmt_slots looks (Declare v) = value_specs_slots v.kind v.specs
  stmt_slots looks (Simple s) = simple_slots looks s
  stmt_slots looks (Return s es) = []
  stmt_slots looks (Break s) = []
  stmt_slots looks (Continue s) = []
  stmt_slots looks (Block first ls last) = lines_slots looks ls
  stmt_slots looks (If b) = branch_slots looks b
  stmt_slots looks (For k head first ls last) = head_slots looks head ++ lines_slots looks ls

  pub branch_slots : CodeLooks → BranchTree → List (Option ℕ)
  branch_slots looks (Branch k head first ls last other) = init_slots looks head.init ++ (lines_slots looks ls ++ else_slots looks other)

  pub else_slots : CodeLooks → ElseTree → List (Option ℕ)
  else_slots looks NoElse = []
  else_slots looks (ElseBlock k first ls last) = lines_slots looks ls
  else_slots looks (ElseIf k b) = branch_slots looks b

  pub lines_slots : CodeLooks → Lines → List (Option ℕ)
  lines_slots looks NoLines = []
  lines_slots looks (Line s semicolon rest) = stmt_slots looks s ++ lines_slots looks rest

-- all of a function
abbrev pub slots_of : CodeLooks → FuncTree → List (Option ℕ)
slots_of looks f = receiver_slots f.receiver ++ (signature_slots f.signature ++ lines_slots looks f.body)
