-- The names that the steps of a function declare, and the blocks in them, are those that its tree writes.
use Rattle.std.proofs.Common.{◌≡◌, ℕ, suc, Bool, true, false, cond, not, List, [], ◌∷◌, ◌++◌, map, filter, Option, Some, None, refl, sym, ap, ◌∙◌}
use Rattle.std.specs.Prelude.{if◌then◌else◌}
use Rattle.std.proofs.lemmas.List.{append_assoc, append-nil, map-append}
use Rattle.std.proofs.lemmas.List.Elements.{filter-append}
use Rattle.go_denote_core.specs.text_core.declared.span.Span.{Span}
use Rattle.go_denote_core.specs.text_core.Text.{is_blank}
use Rattle.go_tree_nodes.specs.declared.decls.ValueKind.{ValueKind}
use Rattle.go_tree_nodes.specs.declared.files.Receiver.{Receiver}
use Rattle.go_tree_nodes.specs.declared.names.Ident.{Ident}
use Rattle.go_tree_nodes.specs.Spelling.{spell_branch, spell_else, spell_if, spell_lines, mark}
use Rattle.go_tree_nodes.specs.token_core.declared.kind.Operator.TheVariants as operator
use Rattle.go_tree_nodes.specs.Terminals.{Terminal}
use Rattle.go_tree_nodes.specs.Trees as tree
use Rattle.go_tree_nodes.specs.Trees.{Separated, One, Then, SignatureTree, ResultTree, ParamTrees, Signed, NoResult, OneResult, Results, NoParams, Param, ExprTree, ValueSpecTree, Specs, Single, Group, SimpleTree, Alone, Step, Assign, Update, Define, IfTree, ForTree, Forever, While, Clauses, StmtTree, BranchTree, ElseTree, Lines, Empty, Simple, Return, Break, Continue, Block, If, For, Branch, NoElse, ElseBlock, ElseIf, NoLines, Line, FuncTree}
use Rattle.go_tree_core.specs.Names.{nothing, one_name, take_each, take_some, take_group, take_specs, take_values, take_value_spec, take_simple, take_init, take_if, take_for, take_stmt, take_branch, take_else, take_lines, take_receiver}
use Rattle.go_local_core.specs.Binding.{Local}
use Rattle.go_local_core.specs.Law.{Rules, declared_from, law_out}
use Rattle.go_local_core.specs.Outline.{end_from, idents, some_idents, param_idents, result_idents, signature_idents, some_ident, receiver_idents, spec_steps, group_steps, specs_steps, simple_steps, some_simple_steps, init_steps, some_condition_steps, if_steps, for_steps, stmt_steps, branch_steps, else_steps, lines_steps, func_steps}
use Rattle.go_local_core.specs.Steps.{Piece, Newness, Steps, Done, Check, Declare, Inner}
use Rattle.go_spec_laws.specs.front.LocalLaws.{parameter_names, named_results, named_values, declarations_alone, written_names, is_no_blank, name_written_at, name_declared_at, NamesAreWritten, BlockPlace, block_between, branch_end, else_end, stmt_blocks, branch_blocks, else_blocks, lines_blocks}

-- ---- what steps declare, and which blocks stand in them

abbrev pub step_names : Steps → List Ident
step_names Done = []
step_names (Check p rest) = step_names rest
step_names (Declare m from p xs rest) = xs ++ step_names rest
step_names (Inner o c inside rest) = step_names inside ++ step_names rest

abbrev pub step_blocks : Steps → List BlockPlace
step_blocks Done = []
step_blocks (Check p rest) = step_blocks rest
step_blocks (Declare m from p xs rest) = step_blocks rest
step_blocks (Inner o c inside rest) = block_between o c ∷ (step_blocks inside ++ step_blocks rest)

-- steps before others add these names and blocks to them
record Adds (steps rest : Steps) (xs : List Ident) (bs : List BlockPlace) : Type 0 where
  names : step_names steps ≡ xs ++ step_names rest
  blocks : step_blocks steps ≡ bs ++ step_blocks rest

adds_none : (rest : Steps) → Adds rest rest [] []
adds_none rest = record { names = refl; blocks = refl }

adds_check : (p : Piece) (rest : Steps) → Adds (Check p rest) rest [] []
adds_check p rest = record { names = refl; blocks = refl }

adds_names : (m : Newness) (from : ℕ) (p : Piece) (xs ys : List Ident) (rest : Steps) → ys ≡ xs → Adds (Declare m from p xs rest) rest ys []
adds_names m from p xs ys rest e = record { names = ap (λ l. l ++ step_names rest) (sym e); blocks = refl }

adds_both : {steps middle rest : Steps} {xs ys : List Ident} {bs cs : List BlockPlace} → Adds steps middle xs bs → Adds middle rest ys cs → Adds steps rest (xs ++ ys) (bs ++ cs)
adds_both {steps = steps} {middle = middle} {rest = rest} {xs = xs} {ys = ys} {bs = bs} {cs = cs} h k = record {
  names = h.names ∙ (ap (λ l. xs ++ l) k.names ∙ sym (append_assoc xs ys (step_names rest)));
  blocks = h.blocks ∙ (ap (λ l. bs ++ l) k.blocks ∙ sym (append_assoc bs cs (step_blocks rest)));
}

adds_block : (o c c' : ℕ) {inside : Steps} (rest : Steps) {xs : List Ident} {bs : List BlockPlace} → c ≡ c' → Adds inside Done xs bs → Adds (Inner o c inside rest) rest xs (block_between o c' ∷ bs)
adds_block o c c' {inside = inside} rest {xs = xs} {bs = bs} e h = record {
  names = ap (λ l. l ++ step_names rest) (h.names ∙ append-nil xs);
  blocks = ap (λ l. block_between o c ∷ (l ++ step_blocks rest)) (h.blocks ∙ append-nil bs) ∙ ap (λ d. block_between o d ∷ (bs ++ step_blocks rest)) e;
}

-- ---- lists of names

same_idents : (xs : Separated Ident) → take_each one_name xs ≡ idents xs
same_idents (One x) = refl
same_idents (Then x comma more) = ap (λ l. x ∷ l) (same_idents more)

each_nothing : {B : Type 0} (xs : Separated B) → take_each {A = Ident} nothing xs ≡ []
each_nothing (One x) = refl
each_nothing (Then x comma more) = each_nothing more

some_nothing : {B : Type 0} (x : Option B) → take_some {A = Ident} nothing x ≡ []
some_nothing None = refl
some_nothing (Some x) = refl

returned_nothing : (es : Option (Separated ExprTree)) → take_some (take_each {A = Ident} nothing) es ≡ []
returned_nothing None = refl
returned_nothing (Some es) = each_nothing es

values_nothing : (v : Option (Span × Separated ExprTree)) → take_values declarations_alone v ≡ []
values_nothing None = refl
values_nothing (Some v) = each_nothing v.1

-- behind some names there is nothing
nothing_behind : (xs ys : List Ident) → ys ≡ [] → xs ++ ys ≡ xs
nothing_behind xs ys e = ap (λ l. xs ++ l) e ∙ append-nil xs

spec_names : (v : ValueSpecTree) → take_value_spec declarations_alone v ≡ idents v.names
spec_names v =
    nothing_behind (take_each one_name v.names) (take_some nothing v.type_expr ++ take_values declarations_alone v.values) (ap (λ l. l ++ take_values declarations_alone v.values) (some_nothing v.type_expr) ∙ values_nothing v.values)
    ∙ same_idents v.names

-- ---- the ends of branches

ends_behind : (ts us : List Terminal) (n : ℕ) → end_from n (ts ++ us) ≡ end_from (end_from n ts) us
ends_behind [] us n = refl
ends_behind (t ∷ ts) us n = ends_behind ts us t.span.end

mutual
  branch_ends : (b : BranchTree) (n : ℕ) → end_from n (spell_branch b) ≡ branch_end b
  branch_ends (Branch k head first ls last otherwise) n =
      ends_behind (spell_if head) (mark operator.OpenBrace first ∷ (spell_lines ls ++ (mark operator.CloseBrace last ∷ spell_else otherwise))) k.end
      ∙ (ends_behind (spell_lines ls) (mark operator.CloseBrace last ∷ spell_else otherwise) first.end ∙ else_ends otherwise last.end)

  else_ends : (e : ElseTree) (n : ℕ) → end_from n (spell_else e) ≡ else_end n e
  else_ends NoElse n = refl
  else_ends (ElseBlock k first ls last) n = ends_behind (spell_lines ls) (mark operator.CloseBrace last ∷ []) first.end
  else_ends (ElseIf k b) n = branch_ends b k.end

-- ---- parts of statements

spec_adds : (k : ValueKind) (v : ValueSpecTree) (rest : Steps) → Adds (spec_steps k v rest) rest (take_value_spec declarations_alone v) []
spec_adds k v rest = adds_names _ _ _ (idents v.names) (take_value_spec declarations_alone v) rest (spec_names v)

group_adds : (k : ValueKind) (vs : List (ValueSpecTree × Option Span)) (rest : Steps) → Adds (group_steps k vs rest) rest (take_group (take_value_spec declarations_alone) vs) []
group_adds k [] rest = adds_none rest
group_adds k (v ∷ vs) rest = adds_both (spec_adds k v.0 (group_steps k vs rest)) (group_adds k vs rest)

specs_adds : (k : ValueKind) (s : Specs ValueSpecTree) (rest : Steps) → Adds (specs_steps k s rest) rest (take_specs (take_value_spec declarations_alone) s) []
specs_adds k (Single v) rest = spec_adds k v rest
specs_adds k (Group first vs last) rest = group_adds k vs rest

-- a check adds nothing, and nothing is what is taken
adds_checked : (p : Piece) (rest : Steps) (ys : List Ident) → ys ≡ [] → Adds (Check p rest) rest ys []
adds_checked p rest ys e = record { names = ap (λ l. l ++ step_names rest) (sym e); blocks = refl }

simple_adds : (s : SimpleTree) (rest : Steps) → Adds (simple_steps s rest) rest (take_simple declarations_alone s) []
simple_adds (Alone t) rest = adds_check _ rest
simple_adds (Step t op s) rest = adds_check _ rest
simple_adds (Assign ts s es) rest = adds_checked _ rest (take_each nothing ts ++ take_each nothing es) (ap (λ l. l ++ take_each nothing es) (each_nothing ts) ∙ each_nothing es)
simple_adds (Update t op s e) rest = adds_check _ rest
simple_adds (Define xs s es) rest =
    adds_names _ _ _ (idents xs) (take_each one_name xs ++ take_each nothing es) rest (nothing_behind (take_each one_name xs) (take_each nothing es) (each_nothing es) ∙ same_idents xs)

some_simple_adds : (s : Option SimpleTree) (rest : Steps) → Adds (some_simple_steps s rest) rest (take_some (take_simple declarations_alone) s) []
some_simple_adds None rest = adds_none rest
some_simple_adds (Some s) rest = simple_adds s rest

init_adds : (i : Option (Option SimpleTree × Span)) (rest : Steps) → Adds (init_steps i rest) rest (take_init declarations_alone i) []
init_adds None rest = adds_none rest
init_adds (Some i) rest = some_simple_adds i.0 rest

some_condition_adds : (t : Option ExprTree) (rest : Steps) → Adds (some_condition_steps t rest) rest (take_some nothing t) []
some_condition_adds None rest = adds_none rest
some_condition_adds (Some t) rest = adds_check _ rest

if_adds : (h : IfTree) (rest : Steps) → Adds (if_steps h rest) rest (take_if declarations_alone h) []
if_adds h rest = adds_both (init_adds h.init _) (adds_check _ rest)

for_adds : (h : ForTree) (rest : Steps) → Adds (for_steps h rest) rest (take_for declarations_alone h) []
for_adds Forever rest = adds_none rest
for_adds (While t) rest = adds_check _ rest
for_adds (Clauses init a test b post) rest = adds_both (some_simple_adds init _) (adds_both (some_condition_adds test _) (some_simple_adds post rest))

-- ---- statements

mutual
  stmt_adds : (s : StmtTree) (rest : Steps) → Adds (stmt_steps s rest) rest (take_stmt declarations_alone s) (stmt_blocks s)
  stmt_adds Empty rest = adds_none rest
  stmt_adds (tree.Declare v) rest = specs_adds v.kind v.specs rest
  stmt_adds (Simple s) rest = simple_adds s rest
  stmt_adds (Return s es) rest = adds_checked _ rest (take_some (take_each nothing) es) (returned_nothing es)
  stmt_adds (Break s) rest = adds_none rest
  stmt_adds (Continue s) rest = adds_none rest
  stmt_adds (Block first ls last) rest = adds_block first.start last.start last.start rest refl (lines_adds ls Done)
  stmt_adds (If b) rest = branch_adds b rest
  stmt_adds (For k head first ls last) rest =
      adds_block k.start last.end last.end rest refl (adds_both (for_adds head _) (adds_block first.start last.start last.start Done refl (lines_adds ls Done)))

  branch_adds : (b : BranchTree) (rest : Steps) → Adds (branch_steps b rest) rest (take_branch declarations_alone b) (branch_blocks b)
  branch_adds (Branch k head first ls last otherwise) rest =
      adds_block k.start _ (branch_end (Branch k head first ls last otherwise)) rest (branch_ends (Branch k head first ls last otherwise) 0)
      (adds_both (if_adds head _) (adds_both (adds_block first.start last.start last.start (else_steps otherwise Done) refl (lines_adds ls Done)) (else_adds otherwise Done)))

  else_adds : (e : ElseTree) (rest : Steps) → Adds (else_steps e rest) rest (take_else declarations_alone e) (else_blocks e)
  else_adds NoElse rest = adds_none rest
  else_adds (ElseBlock k first ls last) rest = adds_block first.start last.start last.start rest refl (lines_adds ls Done)
  else_adds (ElseIf k b) rest = branch_adds b rest

  lines_adds : (ls : Lines) (rest : Steps) → Adds (lines_steps ls rest) rest (take_lines declarations_alone ls) (lines_blocks ls)
  lines_adds NoLines rest = adds_none rest
  lines_adds (Line s semicolon more) rest = adds_both (stmt_adds s (lines_steps more rest)) (lines_adds more rest)

-- ---- functions

same_some : (xs : Option (Separated Ident)) → take_some (take_each one_name) xs ≡ some_idents xs
same_some None = refl
same_some (Some xs) = same_idents xs

same_params : (ps : ParamTrees) → parameter_names ps ≡ param_idents ps
same_params NoParams = refl
same_params (Param xs t comma rest) = ap (λ l. l ++ parameter_names rest) (same_some xs) ∙ ap (λ l. some_idents xs ++ l) (same_params rest)

same_results : (r : ResultTree) → named_results r ≡ result_idents r
same_results NoResult = refl
same_results (OneResult t) = refl
same_results (Results first params last) = same_params params

same_signature : (s : SignatureTree) → named_values s ≡ signature_idents s
same_signature (Signed first params last result) = ap (λ l. l ++ named_results result) (same_params params) ∙ ap (λ l. param_idents params ++ l) (same_results result)

same_receiver : (r : Option Receiver) → take_receiver declarations_alone r ≡ receiver_idents r
same_receiver None = refl
same_receiver (Some r) = by r.name
  where
    by : (x : Option Ident) → take_some one_name x ≡ some_ident x
    by None = refl
    by (Some x) = refl

pub func_names : (f : FuncTree) → step_names (func_steps f) ≡ written_names f
func_names f =
    let body : step_names (lines_steps f.body Done) ≡ take_lines declarations_alone f.body = (lines_adds f.body Done).names ∙ append-nil (take_lines declarations_alone f.body) in
    append_assoc (receiver_idents f.receiver) (signature_idents f.signature) (step_names (lines_steps f.body Done))
    ∙ (ap (λ l. l ++ (signature_idents f.signature ++ step_names (lines_steps f.body Done))) (sym (same_receiver f.receiver))
    ∙ ap (λ l. take_receiver declarations_alone f.receiver ++ l) (ap (λ l. l ++ step_names (lines_steps f.body Done)) (sym (same_signature f.signature)) ∙ ap (λ l. named_values f.signature ++ l) body))

pub body_blocks : (f : FuncTree) → step_blocks (func_steps f) ≡ lines_blocks f.body
body_blocks f = (lines_adds f.body Done).blocks ∙ append-nil (lines_blocks f.body)

-- ---- declarations

module _ (X N : Type 0) (rules : Rules X N) (beyond : List ℕ → Option X) (all : List (Local X)) where
  names_declared : (o c from : ℕ) (means : ℕ → X) (n : ℕ) (xs : List Ident) → map name_declared_at (declared_from o c from means n xs) ≡ map name_written_at (filter is_no_blank xs)
  names_declared o c from means n [] = refl
  names_declared o c from means n (x ∷ xs) = by (is_blank x.name) (names_declared o c from means (suc n) xs)
    where
      by : (b : Bool) → map name_declared_at (declared_from o c from means (suc n) xs) ≡ map name_written_at (filter is_no_blank xs)
          → map name_declared_at ((if b then [] else record { name = x.name; at = x.span.start; from = from; opens = o; closes = c; means = means n } ∷ []) ++ declared_from o c from means (suc n) xs)
          ≡ map name_written_at (cond (not b) (x ∷ filter is_no_blank xs) (filter is_no_blank xs))
      by true h = h
      by false h = ap (λ l. name_written_at x ∷ l) h

  -- of names one behind the other
  joined : (ds es : List (Local X)) (xs ys : List Ident) → map name_declared_at ds ≡ map name_written_at (filter is_no_blank xs) → map name_declared_at es ≡ map name_written_at (filter is_no_blank ys)
      → map name_declared_at (ds ++ es) ≡ map name_written_at (filter is_no_blank (xs ++ ys))
  joined ds es xs ys h k =
      map-append name_declared_at ds es
      ∙ (ap (λ l. l ++ map name_declared_at es) h
      ∙ (ap (λ l. map name_written_at (filter is_no_blank xs) ++ l) k
      ∙ sym (ap (map name_written_at) (filter-append is_no_blank xs ys) ∙ map-append name_written_at (filter is_no_blank xs) (filter is_no_blank ys))))

  pub steps_declare : (steps : Steps) (o c : ℕ) → map name_declared_at (law_out rules beyond all o c steps).declares ≡ map name_written_at (filter is_no_blank (step_names steps))
  steps_declare Done o c = refl
  steps_declare (Check p rest) o c = steps_declare rest o c
  steps_declare (Declare m from p xs rest) o c = joined _ _ xs (step_names rest) (names_declared o c from _ 0 xs) (steps_declare rest o c)
  steps_declare (Inner o' c' inside rest) o c = joined _ _ (step_names inside) (step_names rest) (steps_declare inside o' c') (steps_declare rest o c)

pub names_are_written : (X N : Type 0) → NamesAreWritten X N
names_are_written X N rules beyond f all h =
    ap (map name_declared_at) h ∙ (steps_declare X N rules beyond all (func_steps f) f.func.start f.close_brace.start ∙ ap (λ xs. map name_written_at (filter is_no_blank xs)) (func_names f))
