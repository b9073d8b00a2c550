-- What stands left of `=` and of `:=`.
--
-- docs/RULES.md, "Assignments, declarations, returns, statements". The Go specification, "Assignment statements", "Short variable
-- declarations", "Blank identifier".
use Rattle.std.specs.Prelude.{ℕ, Bool, true, false, not, List, [], ◌∷◌, ◌++◌, if◌then◌else◌}
use Rattle.go_constant_core.specs.text_core.Text.{is_blank}
use Rattle.go_tree_nodes.specs.declared.names.Ident.{Ident}
use Rattle.go_tree_nodes.specs.Trees.{Separated, One, Then, ExprTree}
use Rattle.go_expr_core.specs.scope_stack.Blocks.{is_listed, list_name}
use Rattle.go_expr_core.specs.local_core.WalksEnds.{is_blank_target}
use Rattle.go_expr_core.specs.denote_core.declared.things.Stand.TheVariants as stands
use Rattle.go_stmt_core.specs.declared.statement.targets.Target.{Target}
use Rattle.go_stmt_core.specs.declared.statement.targets.Target.TheVariants as kinds
use Rattle.go_stmt_core.specs.statement.Targets.{target_of}
use Rattle.go_expr_core.specs.declared.things.Use.{Use}
use Rattle.go_expr_core.specs.local_core.declared.Fault.{Fault}
use Rattle.go_expr_core.specs.Looks.{Looks}
use Rattle.go_expr_core.specs.Denoting.{ident_answer, denoted}
use Rattle.go_expr_core.specs.Uses.{uses}
use Rattle.go_expr_core.specs.Faults.{member_faults}

-- left of `=`: `_`, in parentheses too, is no occurrence; anything else is an operand

abbrev pub target : {T S D P : Type 0} → Looks T S D P → Bool → ExprTree → Target T
target looks several e = if is_blank_target e then kinds.Blank else target_of (denoted looks stands.«Value» e) (not several)

abbrev pub target_uses : {T S D P : Type 0} → Looks T S D P → ExprTree → List (Use D P)
target_uses looks e = if is_blank_target e then [] else uses looks stands.«Value» e

abbrev pub target_faults : {T S D P : Type 0} → Looks T S D P → Bool → ExprTree → List Fault
target_faults looks several e = if is_blank_target e then [] else member_faults looks several e

-- in a list of several, or alone

abbrev pub targets : {T S D P : Type 0} → Looks T S D P → Bool → Separated ExprTree → List (Target T)
targets looks several (One e) = target looks several e ∷ []
targets looks several (Then e comma more) = target looks several e ∷ targets looks several more

abbrev pub targets_uses : {T S D P : Type 0} → Looks T S D P → Separated ExprTree → List (Use D P)
targets_uses looks (One e) = target_uses looks e
targets_uses looks (Then e comma more) = target_uses looks e ++ targets_uses looks more

abbrev pub targets_faults : {T S D P : Type 0} → Looks T S D P → Bool → Separated ExprTree → List Fault
targets_faults looks several (One e) = target_faults looks several e
targets_faults looks several (Then e comma more) = target_faults looks several e ++ targets_faults looks several more

-- left of `:=`: a name that is the first of its block is declared, one that stands to its left already is judged as such, and another
-- is assigned to: it stands for what the block has

abbrev pub old_target : {T S D P : Type 0} → Looks T S D P → Ident → Target T
old_target looks x = target_of (ident_answer looks stands.«Value» x).denoted true

-- by whether it is the first of its block, and by the names to its left
abbrev pub short_target : {T S D P : Type 0} → Looks T S D P → Bool → List (List ℕ) → Ident → Target T
short_target looks first before x =
    if is_blank x.name then kinds.Blank else (if first then kinds.New else (if is_listed before x.name then kinds.New else old_target looks x))

-- whether the first of some names is the first of its block, and the flags of the others; names without a flag are none
abbrev pub flag_of : List Bool → Bool
flag_of [] = false
flag_of (b ∷ bs) = b

abbrev pub flags_behind : List Bool → List Bool
flags_behind [] = []
flags_behind (b ∷ bs) = bs

abbrev pub short_targets : {T S D P : Type 0} → Looks T S D P → List Bool → List (List ℕ) → List Ident → List (Target T)
short_targets looks firsts before [] = []
short_targets looks firsts before (x ∷ xs) = short_target looks (flag_of firsts) before x ∷ short_targets looks (flags_behind firsts) (list_name before x.name) xs
