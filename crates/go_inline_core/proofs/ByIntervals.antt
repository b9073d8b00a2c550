-- What is noted of a function by intervals are the types that it writes, each under the names as its declarations bind them.
use Rattle.std.proofs.Common.{◌≡◌, ℕ, List, [], ◌∷◌, ◌++◌, Option, Some, None, refl, ap, sym, ◌∙◌, append_assoc, append-nil}
use Rattle.std.specs.List.{flat_map}
use Rattle.std.proofs.lemmas.List.{map-append}
use Rattle.go_tree_nodes.specs.text_core.declared.span.Span.{Span}
use Rattle.go_tree_nodes.specs.declared.decls.ValueKind.{ValueKind}
use Rattle.go_tree_nodes.specs.Trees as tree
use Rattle.go_tree_nodes.specs.Trees.{TypeTree, ExprTree, ValueSpecTree, Specs, Single, Group, SimpleTree, Alone, Step, Assign, Update, Define, IfTree, ForTree, Forever, While, Clauses, StmtTree, BranchTree, ElseTree, Lines, Empty, Simple, Return, Break, Continue, Block, If, For, Branch, NoElse, ElseBlock, ElseIf, NoLines, Line, FuncTree}
use Rattle.go_tree_nodes.specs.WrittenTypes.{expr_types, spec_types, specs_types, simple_types, some_expr_types}
use Rattle.go_term_core.specs.decl_core.declared.keys.DeclKey.{DeclKey}
use Rattle.go_term_core.specs.declared.settling.kind.Kind.{Kind}
use Rattle.go_typexpr_core.specs.written.Written.{InFile, Meaning}
use Rattle.go_names_core.specs.local_core.Steps.{Steps, Done, Check, Declare, Inner}
use Rattle.go_names_core.specs.local_core.Binding.{Local, bound}
use Rattle.go_names_core.specs.local_core.Law.{law_out}
use Rattle.go_names_core.specs.local_core.Outline.{group_steps, specs_steps, simple_steps, some_simple_steps, init_steps, some_condition_steps, if_steps, for_steps, stmt_steps, branch_steps, else_steps, lines_steps, func_steps}
use Rattle.go_inline_core.specs.declared.scoped.Scoped.{Scoped}
use Rattle.go_inline_core.specs.Types.{InlineOf}
use Rattle.go_inline_core.specs.Trees.{some_simple_types, init_types, if_types, for_types, stmt_types, branch_types, else_types, lines_types, func_types}
use Rattle.go_names_core.specs.local_core.Pieces.{piece_types}
use Rattle.go_inline_core.specs.Inline.{inline_with}
use Rattle.go_inline_core.specs.Functions.{meaning_in, inlines_in, inline_note_rules}

-- the types of the pieces of steps
abbrev pub steps_types : Steps → List TypeTree
steps_types Done = []
steps_types (Check p rest) = piece_types p ++ steps_types rest
steps_types (Declare m from p xs rest) = piece_types p ++ steps_types rest
steps_types (Inner o c steps rest) = steps_types steps ++ steps_types rest

-- one list behind another, with further ones behind
through : (a b c d : List TypeTree) → b ≡ c ++ d → a ++ b ≡ (a ++ c) ++ d
through a b c d e = ap (λ l. a ++ l) e ∙ sym (append_assoc a c d)

group_all : (k : ValueKind) (vs : List (ValueSpecTree × Option Span)) (rest : Steps) → steps_types (group_steps k vs rest) ≡ flat_map (λ v. spec_types v.0) vs ++ steps_types rest
group_all k [] rest = refl
group_all k (v ∷ vs) rest = through (spec_types v.0) (steps_types (group_steps k vs rest)) (flat_map (λ v. spec_types v.0) vs) (steps_types rest) (group_all k vs rest)

specs_all : (k : ValueKind) (s : Specs ValueSpecTree) (rest : Steps) → steps_types (specs_steps k s rest) ≡ specs_types s ++ steps_types rest
specs_all k (Single v) rest = refl
specs_all k (Group first vs last) rest = group_all k vs rest

simple_all : (s : SimpleTree) (rest : Steps) → steps_types (simple_steps s rest) ≡ simple_types s ++ steps_types rest
simple_all (Alone t) rest = refl
simple_all (Step t op s) rest = refl
simple_all (Assign ts s es) rest = refl
simple_all (Update t op s e) rest = refl
simple_all (Define xs s es) rest = refl

some_simple_all : (s : Option SimpleTree) (rest : Steps) → steps_types (some_simple_steps s rest) ≡ some_simple_types s ++ steps_types rest
some_simple_all None rest = refl
some_simple_all (Some s) rest = simple_all s rest

init_all : (i : Option (Option SimpleTree × Span)) (rest : Steps) → steps_types (init_steps i rest) ≡ init_types i ++ steps_types rest
init_all None rest = refl
init_all (Some i) rest = some_simple_all i.0 rest

some_condition_all : (t : Option ExprTree) (rest : Steps) → steps_types (some_condition_steps t rest) ≡ some_expr_types t ++ steps_types rest
some_condition_all None rest = refl
some_condition_all (Some t) rest = refl

if_all : (h : IfTree) (rest : Steps) → steps_types (if_steps h rest) ≡ if_types h ++ steps_types rest
if_all h rest = init_all h.init _ ∙ sym (append_assoc (init_types h.init) (expr_types h.condition) (steps_types rest))

for_all : (h : ForTree) (rest : Steps) → steps_types (for_steps h rest) ≡ for_types h ++ steps_types rest
for_all Forever rest = refl
for_all (While t) rest = refl
for_all (Clauses init a test b post) rest =
    some_simple_all init (some_condition_steps test (some_simple_steps post rest))
    ∙ through (some_simple_types init) (steps_types (some_condition_steps test (some_simple_steps post rest))) (some_expr_types test ++ some_simple_types post) (steps_types rest)
    (some_condition_all test (some_simple_steps post rest)
    ∙ through (some_expr_types test) (steps_types (some_simple_steps post rest)) (some_simple_types post) (steps_types rest) (some_simple_all post rest))

mutual
  stmt_all : (s : StmtTree) (rest : Steps) → steps_types (stmt_steps s rest) ≡ stmt_types s ++ steps_types rest
  stmt_all Empty rest = refl
  stmt_all (tree.Declare v) rest = specs_all v.kind v.specs rest
  stmt_all (Simple s) rest = simple_all s rest
  stmt_all (Return s es) rest = refl
  stmt_all (Break s) rest = refl
  stmt_all (Continue s) rest = refl
  stmt_all (Block first ls last) rest = ap (λ l. l ++ steps_types rest) (lines_all ls Done ∙ append-nil (lines_types ls))
  stmt_all (If b) rest = branch_all b rest
  stmt_all (For k head first ls last) rest =
      ap (λ l. l ++ steps_types rest) (for_all head (Inner first.start last.start (lines_steps ls Done) Done) ∙ ap (λ l. for_types head ++ l) (append-nil (steps_types (lines_steps ls Done)) ∙ (lines_all ls Done ∙ append-nil (lines_types ls))))

  branch_all : (b : BranchTree) (rest : Steps) → steps_types (branch_steps b rest) ≡ branch_types b ++ steps_types rest
  branch_all (Branch k head first ls last otherwise) rest =
      ap (λ l. l ++ steps_types rest)
      (if_all head (Inner first.start last.start (lines_steps ls Done) (else_steps otherwise Done))
      ∙ ap (λ l. if_types head ++ l) (ap (λ l. l ++ steps_types (else_steps otherwise Done)) (lines_all ls Done ∙ append-nil (lines_types ls)) ∙ ap (λ l. lines_types ls ++ l) (else_all otherwise Done ∙ append-nil (else_types otherwise))))

  else_all : (e : ElseTree) (rest : Steps) → steps_types (else_steps e rest) ≡ else_types e ++ steps_types rest
  else_all NoElse rest = refl
  else_all (ElseBlock k first ls last) rest = ap (λ l. l ++ steps_types rest) (lines_all ls Done ∙ append-nil (lines_types ls))
  else_all (ElseIf k b) rest = branch_all b rest

  lines_all : (ls : Lines) (rest : Steps) → steps_types (lines_steps ls rest) ≡ lines_types ls ++ steps_types rest
  lines_all NoLines rest = refl
  lines_all (Line s semicolon more) rest = stmt_all s (lines_steps more rest) ∙ through (stmt_types s) (steps_types (lines_steps more rest)) (lines_types more) (steps_types rest) (lines_all more rest)

pub func_all : (f : FuncTree) → steps_types (func_steps f) ≡ func_types f
func_all f = ap (λ l. piece_types (Rattle.go_names_core.specs.local_core.Steps.Header f.receiver f.signature) ++ l) (lines_all f.body Done ∙ append-nil (lines_types f.body))

module _ (kind : DeclKey → Kind) (f : InFile) (top : Meaning) (beyond : List ℕ → Option Scoped) (all : List (Local Scoped)) where
  abbrev noted : List TypeTree → List (ℕ × InlineOf)
  noted ts = inlines_in kind f top (bound beyond all) ts

  noted_both : (a b : List TypeTree) → noted (a ++ b) ≡ noted a ++ noted b
  noted_both a b = map-append (inline_with kind f (meaning_in (bound beyond all) top)) a b

  -- what the rules note of steps, by intervals
  pub steps_noted : (opens closes : ℕ) (steps : Steps) → (law_out (inline_note_rules kind f top) beyond all opens closes steps).notes ≡ inlines_in kind f top (bound beyond all) (steps_types steps)
  steps_noted opens closes Done = refl
  steps_noted opens closes (Check p rest) = ap (λ l. noted (piece_types p) ++ l) (steps_noted opens closes rest) ∙ sym (noted_both (piece_types p) (steps_types rest))
  steps_noted opens closes (Declare m from p xs rest) = ap (λ l. noted (piece_types p) ++ l) (steps_noted opens closes rest) ∙ sym (noted_both (piece_types p) (steps_types rest))
  steps_noted opens closes (Inner o c steps rest) =
      ap (λ l. l ++ (law_out (inline_note_rules kind f top) beyond all opens closes rest).notes) (steps_noted o c steps)
      ∙ (ap (λ l. noted (steps_types steps) ++ l) (steps_noted opens closes rest) ∙ sym (noted_both (steps_types steps) (steps_types rest)))
