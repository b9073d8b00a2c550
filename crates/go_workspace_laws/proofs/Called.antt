-- Each call of some code is one that stands in the tree of which the code is made.
use Rattle.std.proofs.Common.{◌≡◌, ◌<◌, ◌+◌, ℕ, suc, Bool, true, false, ◌&&◌, List, [], ◌∷◌, ◌++◌, length, refl, sym, ap, subst, ◌∙◌, arith}
use Rattle.std.specs.Prelude.{Option, Some, None, if◌then◌else◌, pos, Contains}
use Rattle.std.proofs.lemmas.Bool.{true≢false, and_parts, and_from}
use Rattle.std.proofs.lemmas.List.Elements.{Contains-append_left, Contains-append_right}
use Rattle.go_path_core.specs.text_core.declared.span.Span.{Span}
use Rattle.go_tree_nodes.specs.token_core.declared.kind.Operator.{Operator}
use Rattle.go_tree_nodes.specs.token_core.declared.kind.Operator.TheVariants as operators
use Rattle.go_tree_nodes.specs.declared.names.Ident.{Ident}
use Rattle.go_tree_nodes.specs.declared.decls.ValueKind.{ValueKind}
use Rattle.go_tree_nodes.specs.declared.decls.ValueKind.TheVariants as value_kinds
use Rattle.go_tree_nodes.specs.declared.exprs.Key.{Key}
use Rattle.go_tree_nodes.specs.Trees.{TypeTree, Separated, One, Then, ExprTree, ItemTrees, Integer, Text, Named, Paren, Unary, Binary, Select, Call, Literal, StructLiteral, NoItems, Item, ValueSpecTree, Specs, Single, Group, SimpleTree, Alone, Step, Assign, Update, Define, ForTree, Forever, While, Clauses, StmtTree, Empty, Declare, Simple, Return, Break, Continue, Block, If, For, BranchTree, Branch, NoElse, ElseBlock, ElseIf, Lines, NoLines, Line, FuncTree}
use Rattle.go_tree_nodes.specs.Counts.{item_count}
use Rattle.go_tree_core.specs.declared.occurrence.Context.{Context}
use Rattle.go_tree_core.specs.declared.occurrence.Context.TheVariants as contexts
use Rattle.go_tree_core.specs.declared.occurrence.Occ.{Occ}
use Rattle.go_tree_core.specs.declared.occurrence.Role.TheVariants as roles
use Rattle.go_tree_core.specs.Names.{take_branch, take_each, take_for, take_group, take_init, take_lines, take_simple, take_some, take_specs, take_stmt, take_value_spec, take_values}
use Rattle.go_tree_core.specs.Occurrences.{call_at, inside_context, occurrence, under, whole_usage, key_occs, expr_occs, items_occs, exprs_occs, some_expr_occs, some_exprs_occs, some_type_occs, values_occs, value_spec_occs, group_occs, specs_occs, simple_occs, some_simple_occs, init_occs, for_occs, stmt_occs, branch_occs, lines_occs}
use Rattle.go_object_core.specs.declared.instructions.letters.Word.{Word}
use Rattle.go_object_core.specs.declared.instructions.instruction.Distance.TheVariants as distances
use Rattle.go_object_core.specs.declared.instructions.instruction.Instruction.{Instruction}
use Rattle.go_object_core.specs.declared.instructions.instruction.Instruction.TheVariants as instructions
use Rattle.go_code_core.specs.declared.fragments.names.ConstantWord.{ConstantWord}
use Rattle.go_code_core.specs.declared.fragments.names.Gives.{Gives}
use Rattle.go_code_core.specs.declared.fragments.names.Gives.TheVariants as gives
use Rattle.go_code_core.specs.declared.fragments.names.Meaning.{Meaning}
use Rattle.go_code_core.specs.declared.fragments.names.Meaning.TheVariants as meanings
use Rattle.go_code_core.specs.declared.fragments.targets.Target.{Target}
use Rattle.go_code_core.specs.declared.fragments.targets.Target.TheVariants as targets
use Rattle.go_code_core.specs.fragments.Constants.{folded}
use Rattle.go_code_core.specs.fragments.Fragment.{expr_gives, means_method}
use Rattle.go_code_core.specs.fragments.Inside.{in_fragment}
use Rattle.go_code_core.specs.fragments.Names.{Frame, CodeLooks, slot_of, callee_meaning, slot_assigned, declared_slot}
use Rattle.go_code_core.specs.fragments.Operators.{some_instruction, binary_instruction, step_operator, unary_instruction, update_operator}
use Rattle.go_code_core.specs.Code.{Exits, before, binary_code, body_code, branch_code, call_end, constant_or, push, declared_code, dropped, expr_code, frame_in, head_init, head_post, head_test, in_loop, init_code, initial_code, items_code, jump, letters, lines_code, load, loop_code, name_code, no_exits, one_code, panic_end, receiver_code, returned_code, simple_code, some_simple_code, stmt_code, store, stored, test_code, updated, value_lines_code, value_spec_code, value_specs_code}
use Rattle.go_code_core.proofs.Each.{Each, each_append, each_there}
use Rattle.go_workspace_laws.specs.Calls.{CallSite, HasWords, expr_sites, items_sites, site, sites}
use Rattle.go_workspace_laws.specs.CodeLaws.{CallsAreOfTheBody, IsOfCall}

-- what stands in a piece of a tree: its occurrences, and its calls
record Held : Type 0 where
  occs : List Occ
  sites : List CallSite

abbrev held : List Occ → List CallSite → Held
held os cs = record { occs = os; sites = cs }

abbrev none : Held
none = held [] []

abbrev join : Held → Held → Held
join h k = held (h.occs ++ k.occs) (h.sites ++ k.sites)

abbrev expr_held : Context → ExprTree → Held
expr_held p e = held (expr_occs p e) (expr_sites e)

abbrev key_held : Option Key → Held
key_held key = held (key_occs key) []

abbrev items_held : ItemTrees → Held
items_held items = held (items_occs items) (items_sites items)

abbrev exprs_held : Context → Separated ExprTree → Held
exprs_held p es = held (exprs_occs p es) (take_each sites.of_expr es)

abbrev some_expr_held : Option ExprTree → Held
some_expr_held e = held (some_expr_occs e) (take_some sites.of_expr e)

abbrev some_exprs_held : Option (Separated ExprTree) → Held
some_exprs_held es = held (some_exprs_occs es) (take_some (take_each sites.of_expr) es)

abbrev names_held : Separated Ident → Held
names_held xs = held [] (take_each sites.of_name xs)

abbrev some_type_held : Option TypeTree → Held
some_type_held t = held (some_type_occs t) (take_some sites.of_type t)

abbrev values_held : Option (Span × Separated ExprTree) → Held
values_held v = held (values_occs v) (take_values sites v)

abbrev value_spec_held : ValueSpecTree → Held
value_spec_held v = held (value_spec_occs v) (take_value_spec sites v)

abbrev group_held : List (ValueSpecTree × Option Span) → Held
group_held ls = held (group_occs value_spec_occs ls) (take_group (take_value_spec sites) ls)

abbrev specs_held : Specs ValueSpecTree → Held
specs_held s = held (specs_occs value_spec_occs s) (take_specs (take_value_spec sites) s)

abbrev simple_held : SimpleTree → Held
simple_held s = held (simple_occs s) (take_simple sites s)

abbrev some_simple_held : Option SimpleTree → Held
some_simple_held s = held (some_simple_occs s) (take_some (take_simple sites) s)

abbrev init_held : Option (Option SimpleTree × Span) → Held
init_held i = held (init_occs i) (take_init sites i)

abbrev for_held : ForTree → Held
for_held h = held (for_occs h) (take_for sites h)

abbrev stmt_held : StmtTree → Held
stmt_held s = held (stmt_occs s) (take_stmt sites s)

abbrev branch_held : BranchTree → Held
branch_held b = held (branch_occs b) (take_branch sites b)

abbrev lines_held : Lines → Held
lines_held ls = held (lines_occs ls) (take_lines sites ls)

abbrev body_held : FuncTree → Held
body_held f = lines_held f.body

-- an instruction that calls calls what stands there
abbrev Called : CodeLooks → Held → Instruction → Type 0
Called looks h i = (reference words : ℕ) → i ≡ instructions.Call reference words → IsOfCall looks h.occs h.sites reference words

abbrev AllCalled : CodeLooks → Held → List Instruction → Type 0
AllCalled looks h code = Each (Called looks h) code

-- what stands in one piece stands in another
record Within (h k : Held) : Type 0 where
  occs : (o : Occ) → Contains h.occs o → Contains k.occs o
  sites : (c : CallSite) → Contains h.sites c → Contains k.sites c

wider : (looks : CodeLooks) (h k : Held) (code : List Instruction) → Within h k → AllCalled looks h code → AllCalled looks k code
wider looks h k [] w all = tt
wider looks h k (i ∷ code) w all =
    ((λ r n e. (let c = all.0 r n e in (c.0, w.occs (call_at c.0.first) c.1, w.sites c.0 c.2, c.3))), wider looks h k code w all.1)

to_left : (looks : CodeLooks) (os ps : Held) (code : List Instruction) → AllCalled looks os code → AllCalled looks (join os ps) code
to_left looks os ps code h = wider looks os (join os ps) code (record { occs = λ o c. Contains-append_left os.occs ps.occs o c; sites = λ o c. Contains-append_left os.sites ps.sites o c }) h

to_right : (looks : CodeLooks) (os ps : Held) (code : List Instruction) → AllCalled looks ps code → AllCalled looks (join os ps) code
to_right looks os ps code h = wider looks ps (join os ps) code (record { occs = λ o c. Contains-append_right os.occs ps.occs o c; sites = λ o c. Contains-append_right os.sites ps.sites o c }) h

both : (looks : CodeLooks) (os : Held) (a b : List Instruction) → AllCalled looks os a → AllCalled looks os b → AllCalled looks os (a ++ b)
both looks os a b h k = each_append (Called looks os) a b h k

-- code one behind another, of what stands one behind another
in_turn : (looks : CodeLooks) (os ps : Held) (a b : List Instruction) → AllCalled looks os a → AllCalled looks ps b → AllCalled looks (join os ps) (a ++ b)
in_turn looks os ps a b h k = both looks (join os ps) a b (to_left looks os ps a h) (to_right looks os ps b k)

-- code that calls nothing

abbrev calls_none : Instruction → Bool
calls_none (instructions.Call r n) = false
calls_none _ = true

abbrev call_nothing : List Instruction → Bool
call_nothing [] = true
call_nothing (i ∷ code) = calls_none i && call_nothing code

plain : (looks : CodeLooks) (os : Held) (i : Instruction) → calls_none i ≡ true → Called looks os i
plain looks os i h r n e = absurd (true≢false (sym h ∙ ap calls_none e))

quiet : (looks : CodeLooks) (os : Held) (code : List Instruction) → call_nothing code ≡ true → AllCalled looks os code
quiet looks os [] h = tt
quiet looks os (i ∷ code) h = (let p = and_parts (calls_none i) (call_nothing code) h in (plain looks os i p.0, quiet looks os code p.1))

-- code, and behind it what calls nothing
kept : (looks : CodeLooks) (os : Held) (a b : List Instruction) → AllCalled looks os a → call_nothing b ≡ true → AllCalled looks os (a ++ b)
kept looks os a b h k = both looks os a b h (quiet looks os b k)

nothing_more : (code : List Instruction) (slot : ℕ) → call_nothing code ≡ true → call_nothing (code ++ instructions.Store slot ∷ []) ≡ true
nothing_more [] slot h = refl
nothing_more (i ∷ code) slot h = (let p = and_parts (calls_none i) (call_nothing code) h in and_from (calls_none i) (call_nothing (code ++ instructions.Store slot ∷ [])) p.0 (nothing_more code slot p.1))

-- operators

unary_quiet : (op : Operator) → call_nothing (some_instruction (unary_instruction op)) ≡ true
unary_quiet operators.Minus = refl
unary_quiet _ = refl

step_quiet : (op : Operator) → call_nothing (some_instruction (step_operator op)) ≡ true
step_quiet operators.Increment = refl
step_quiet _ = refl

update_quiet : (op : Operator) → call_nothing (some_instruction (update_operator op)) ≡ true
update_quiet operators.PlusAssign = refl
update_quiet _ = refl

binary_quiet : (op : Operator) → call_nothing (some_instruction (binary_instruction op)) ≡ true
binary_quiet operators.Plus = refl
binary_quiet _ = refl

binary_called : (looks : CodeLooks) (os ps : Held) (op : Operator) (a b : List Instruction) → AllCalled looks os a → AllCalled looks ps b → AllCalled looks (join os ps) (binary_code op a b)
binary_called looks os ps operators.LogicalAnd a b h k =
    let rest : List Instruction = instructions.Jump (distances.Forward 1) ∷ (instructions.Push (pos 0) ∷ []) in
    in_turn looks os ps a (instructions.JumpFalse (length b + 1) ∷ (b ++ rest)) h (plain looks ps (instructions.JumpFalse (length b + 1)) refl, both looks ps b rest k (quiet looks ps rest refl))
binary_called looks os ps operators.LogicalOr a b h k =
    let first : List Instruction = instructions.JumpFalse 2 ∷ (instructions.Push (pos 1) ∷ (instructions.Jump (distances.Forward (length b)) ∷ [])) in
    in_turn looks os ps a (first ++ b) h (both looks ps first b (quiet looks ps first refl) k)
binary_called looks os ps op a b h k = in_turn looks os ps a (b ++ some_instruction (binary_instruction op)) h (both looks ps b (some_instruction (binary_instruction op)) k (quiet looks ps (some_instruction (binary_instruction op)) (binary_quiet op)))

-- expressions

constant_called : (looks : CodeLooks) (os : Held) (v : Option ConstantWord) (code : List Instruction) → AllCalled looks os code → AllCalled looks os (constant_or v code)
constant_called looks os (Some v) code h = quiet looks os (push v) refl
constant_called looks os None code h = h

load_quiet : (o : Option ℕ) → call_nothing (load o) ≡ true
load_quiet None = refl
load_quiet (Some s) = refl

name_quiet : (slots : List (Option ℕ)) (m : Meaning) → call_nothing (name_code slots m) ≡ true
name_quiet slots (meanings.Variable at w) = load_quiet (slot_of slots at)
name_quiet slots _ = refl

panic_quiet : (ws : List Word) → call_nothing (panic_end ws) ≡ true
panic_quiet [] = refl
panic_quiet (w ∷ ws) = refl

end_called : (f : Frame) (m : Meaning) (e : ExprTree) → callee_meaning f.looks e ≡ m → (first : Span) (os : Held) (items : ItemTrees) → Contains os.occs (call_at first) → Contains os.sites (site e first items)
    → AllCalled f.looks os (call_end f m (f.looks.reference first.start) items)
end_called f (meanings.Function g) e is first os items at there = (one, tt)
  where
    one : Called f.looks os (instructions.Call (f.looks.reference first.start) (item_count items))
    one r n same =
        let place : f.looks.reference first.start ≡ r = cc in
        let words : item_count items ≡ n = cc in
        (site e first items, at, there, record { place = sym place; handed = subst (λ x. HasWords x (item_count items) n) (sym is) (sym words) })
end_called f (meanings.Method g) e is first os items at there = (one, tt)
  where
    one : Called f.looks os (instructions.Call (f.looks.reference first.start) (suc (item_count items)))
    one r n same =
        let place : f.looks.reference first.start ≡ r = cc in
        let words : suc (item_count items) ≡ n = cc in
        (site e first items, at, there, record { place = sym place; handed = subst (λ x. HasWords x (item_count items) n) (sym is) (sym words) })
end_called f meanings.Panic e is first os items at there = quiet f.looks os (call_end f meanings.Panic (f.looks.reference first.start) items) (panic_quiet (letters f items))
end_called f m e is first os items at there = quiet f.looks os (call_end f m (f.looks.reference first.start) items) refl

chosen : (looks : CodeLooks) (os : Held) (b : Bool) (x : List Instruction) → AllCalled looks os x → AllCalled looks os (if b then x else [])
chosen looks os true x h = h
chosen looks os false x h = tt

first_there : {A : Type 0} (o : A) (os : List A) → Contains (o ∷ os) o
first_there o os = (0, (let lt : 0 < suc (length os) = omega arith in lt), refl)

mutual
  expr_called : (f : Frame) (p : Context) (e : ExprTree) → AllCalled f.looks (expr_held p e) (expr_code f e)
  expr_called f p (Integer n s) = constant_called f.looks none (folded f.looks (Integer n s)) [] tt
  expr_called f p (Text t) = tt
  expr_called f p (Named x) = quiet f.looks (expr_held p (Named x)) (name_code f.slots (f.looks.meaning x.span.start)) (name_quiet f.slots (f.looks.meaning x.span.start))
  expr_called f p (Paren first e last) = expr_called f (inside_context p) e
  expr_called f p (Unary op s e) =
      let os : Held = expr_held (under op p) e in
      constant_called f.looks os (folded f.looks (Unary op s e)) _ (both f.looks os (expr_code f e) (some_instruction (unary_instruction op)) (expr_called f (under op p) e) (quiet f.looks os (some_instruction (unary_instruction op)) (unary_quiet op)))
  expr_called f p (Binary a op s b) =
      constant_called f.looks (expr_held p (Binary a op s b)) (folded f.looks (Binary a op s b)) _
      (binary_called f.looks (expr_held contexts.«Value» a) (expr_held contexts.«Value» b) op (expr_code f a) (expr_code f b) (expr_called f contexts.«Value» a) (expr_called f contexts.«Value» b))
  expr_called f p (Select e dot x) = quiet f.looks (expr_held p (Select e dot x)) (name_code f.slots (f.looks.meaning x.span.start)) (name_quiet f.slots (f.looks.meaning x.span.start))
  expr_called f p (Call e first items last) =
      let os : Held = expr_held contexts.Callee e in
      let here : CallSite = site e first items in
      let rest : Held = held (call_at first ∷ items_occs items) (here ∷ items_sites items) in
      constant_called f.looks (join os rest) (folded f.looks (Call e first items last)) _
      (in_turn f.looks os rest (receiver_code f e) _ (receiver_called f contexts.Callee e)
      (both f.looks rest (items_code f items) _ (to_right f.looks (held (call_at first ∷ []) (here ∷ [])) (items_held items) (items_code f items) (items_called f items))
      (end_called f (callee_meaning f.looks e) e refl first rest items (first_there (call_at first) (items_occs items)) (first_there here (items_sites items)))))
  expr_called f p (Literal n first items last) = tt
  expr_called f p (StructLiteral t first items last) = tt

  receiver_called : (f : Frame) (p : Context) (e : ExprTree) → AllCalled f.looks (expr_held p e) (receiver_code f e)
  receiver_called f p (Select e dot x) =
      let here : Held = expr_held contexts.BeforeDot e in
      let code : List Instruction = expr_code f e in
      let behind : List Occ = occurrence (roles.Selector (whole_usage p)) x ∷ [] in
      let within : Within here (expr_held p (Select e dot x)) = record { occs = λ o c. Contains-append_left here.occs behind o c; sites = λ d c. c } in
      chosen f.looks (expr_held p (Select e dot x)) (means_method (f.looks.meaning x.span.start)) code (wider f.looks here (expr_held p (Select e dot x)) code within (expr_called f contexts.BeforeDot e))
  receiver_called f p (Paren first e last) = receiver_called f (inside_context p) e
  receiver_called f p (Integer n s) = tt
  receiver_called f p (Text t) = tt
  receiver_called f p (Named x) = tt
  receiver_called f p (Unary op s e) = tt
  receiver_called f p (Binary a op s b) = tt
  receiver_called f p (Call e first items last) = tt
  receiver_called f p (Literal n first items last) = tt
  receiver_called f p (StructLiteral t first items last) = tt

  items_called : (f : Frame) (items : ItemTrees) → AllCalled f.looks (items_held items) (items_code f items)
  items_called f NoItems = tt
  items_called f (Item key e comma rest) =
      let here : Held = expr_held contexts.«Value» e in
      let code : List Instruction = expr_code f e ++ items_code f rest in
      to_right f.looks (key_held key) (join here (items_held rest)) code (in_turn f.looks here (items_held rest) (expr_code f e) (items_code f rest) (expr_called f contexts.«Value» e) (items_called f rest))

-- simple statements

store_quiet : (t : Target) → call_nothing (store t) ≡ true
store_quiet (targets.Slot s) = refl
store_quiet targets.Blank = refl
store_quiet targets.Other = refl

stored_quiet : (f : Frame) (es : Separated ExprTree) → call_nothing (stored f es) ≡ true
stored_quiet f (One e) = store_quiet (slot_assigned f e)
stored_quiet f (Then e comma more) = refl

declared_quiet : (f : Frame) (xs : Separated Ident) → call_nothing (declared_code f xs) ≡ true
declared_quiet f (One x) = store_quiet (declared_slot f x)
declared_quiet f (Then x comma more) = refl

dropped_quiet : (g : Gives) → call_nothing (dropped g) ≡ true
dropped_quiet (gives.One w) = refl
dropped_quiet gives.Nothing = refl
dropped_quiet gives.Other = refl

updated_called : (looks : CodeLooks) (os : Held) (t : Target) (value : List Instruction) (op : Option Instruction) → AllCalled looks os value → call_nothing (some_instruction op) ≡ true → AllCalled looks os (updated t value op)
updated_called looks os (targets.Slot s) value op h k = (plain looks os (instructions.Load s) refl, kept looks os value (some_instruction op ++ instructions.Store s ∷ []) h (nothing_more (some_instruction op) s k))
updated_called looks os targets.Blank value op h k = tt
updated_called looks os targets.Other value op h k = tt

one_called : (f : Frame) (p : Context) (es : Separated ExprTree) → AllCalled f.looks (exprs_held p es) (one_code f es)
one_called f p (One e) = expr_called f p e
one_called f p (Then e comma more) = tt

simple_called : (f : Frame) (s : SimpleTree) → AllCalled f.looks (simple_held s) (simple_code f s)
simple_called f (Alone e) = kept f.looks (expr_held contexts.«Value» e) (expr_code f e) (dropped (expr_gives f e)) (expr_called f contexts.«Value» e) (dropped_quiet (expr_gives f e))
simple_called f (Step e op s) =
    let os : Held = expr_held contexts.«Value» e in
    let one : List Instruction = instructions.Push (pos 1) ∷ [] in
    updated_called f.looks os (slot_assigned f e) one (step_operator op) (quiet f.looks os one refl) (step_quiet op)
simple_called f (Assign ts s es) =
    let here : Held = exprs_held contexts.«Value» es in
    let code : List Instruction = one_code f es ++ stored f ts in
    to_right f.looks (exprs_held contexts.Target ts) here code (kept f.looks here (one_code f es) (stored f ts) (one_called f contexts.«Value» es) (stored_quiet f ts))
simple_called f (Update t op s e) =
    let here : Held = expr_held contexts.«Value» e in
    let before_it : Held = expr_held contexts.«Value» t in
    updated_called f.looks (join before_it here) (slot_assigned f t) (expr_code f e) (update_operator op) (to_right f.looks before_it here (expr_code f e) (expr_called f contexts.«Value» e)) (update_quiet op)
simple_called f (Define xs s es) =
    let here : Held = exprs_held contexts.«Value» es in
    let code : List Instruction = one_code f es ++ declared_code f xs in
    to_right f.looks (names_held xs) here code (kept f.looks here (one_code f es) (declared_code f xs) (one_called f contexts.«Value» es) (declared_quiet f xs))

some_simple_called : (f : Frame) (s : Option SimpleTree) → AllCalled f.looks (some_simple_held s) (some_simple_code f s)
some_simple_called f None = tt
some_simple_called f (Some s) = simple_called f s

initial_called : (f : Frame) (v : Option (Span × Separated ExprTree)) → AllCalled f.looks (values_held v) (initial_code f v)
initial_called f None = quiet f.looks none (instructions.Push (pos 0) ∷ []) refl
initial_called f (Some v) = one_called f contexts.«Value» v.1

spec_called : (f : Frame) (kind : ValueKind) (v : ValueSpecTree) → AllCalled f.looks (value_spec_held v) (value_spec_code f kind v)
spec_called f value_kinds.Const v = tt
spec_called f value_kinds.Var v =
    let here : Held = values_held v.values in
    let code : List Instruction = initial_code f v.values ++ declared_code f v.names in
    to_right f.looks (names_held v.names) (join (some_type_held v.type_expr) here) code
    (to_right f.looks (some_type_held v.type_expr) here code (kept f.looks here (initial_code f v.values) (declared_code f v.names) (initial_called f v.values) (declared_quiet f v.names)))

spec_lines_called : (f : Frame) (kind : ValueKind) (ls : List (ValueSpecTree × Option Span)) → AllCalled f.looks (group_held ls) (value_lines_code f kind ls)
spec_lines_called f kind [] = tt
spec_lines_called f kind (l ∷ ls) = in_turn f.looks (value_spec_held l.0) (group_held ls) (value_spec_code f kind l.0) (value_lines_code f kind ls) (spec_called f kind l.0) (spec_lines_called f kind ls)

specs_called : (f : Frame) (kind : ValueKind) (s : Specs ValueSpecTree) → AllCalled f.looks (specs_held s) (value_specs_code f kind s)
specs_called f kind (Single v) = spec_called f kind v
specs_called f kind (Group first ls last) = spec_lines_called f kind ls

-- heads of statements

init_called : (f : Frame) (i : Option (Option SimpleTree × Span)) → AllCalled f.looks (init_held i) (init_code f i)
init_called f None = tt
init_called f (Some i) = some_simple_called f i.0

test_called : (f : Frame) (t : Option ExprTree) (n : ℕ) → AllCalled f.looks (some_expr_held t) (test_code f t n)
test_called f None n = tt
test_called f (Some e) n = kept f.looks (expr_held contexts.«Value» e) (expr_code f e) (instructions.JumpFalse n ∷ []) (expr_called f contexts.«Value» e) refl

head_init_called : (f : Frame) (h : ForTree) → AllCalled f.looks (for_held h) (some_simple_code f (head_init h))
head_init_called f Forever = tt
head_init_called f (While e) = tt
head_init_called f (Clauses init a test b post) = to_left f.looks (some_simple_held init) (join (some_expr_held test) (some_simple_held post)) _ (some_simple_called f init)

head_test_called : (f : Frame) (h : ForTree) (n : ℕ) → AllCalled f.looks (for_held h) (test_code f (head_test h) n)
head_test_called f Forever n = tt
head_test_called f (While e) n = test_called f (Some e) n
head_test_called f (Clauses init a test b post) n =
    let code : List Instruction = test_code f test n in
    to_right f.looks (some_simple_held init) (join (some_expr_held test) (some_simple_held post)) code (to_left f.looks (some_expr_held test) (some_simple_held post) code (test_called f test n))

head_post_called : (f : Frame) (h : ForTree) → AllCalled f.looks (for_held h) (some_simple_code f (head_post h))
head_post_called f Forever = tt
head_post_called f (While e) = tt
head_post_called f (Clauses init a test b post) =
    let code : List Instruction = some_simple_code f post in
    to_right f.looks (some_simple_held init) (join (some_expr_held test) (some_simple_held post)) code (to_right f.looks (some_expr_held test) (some_simple_held post) code (some_simple_called f post))

-- statements

returned_called : (f : Frame) (es : Option (Separated ExprTree)) → AllCalled f.looks (some_exprs_held es) (returned_code f es)
returned_called f None = quiet f.looks none (instructions.Return false ∷ []) refl
returned_called f (Some es) = kept f.looks (exprs_held contexts.«Value» es) (one_code f es) (instructions.Return true ∷ []) (one_called f contexts.«Value» es) refl

loop_called : (f : Frame) (os : Held) (t : Option ExprTree) (b p : List Instruction) → ((n : ℕ) → AllCalled f.looks os (test_code f t n)) → AllCalled f.looks os b → AllCalled f.looks os p → AllCalled f.looks os (loop_code f t b p)
loop_called f os t b p h k l =
    let n : ℕ = suc (length (b ++ p)) in
    let code : List Instruction = test_code f t n ++ (b ++ p) in
    kept f.looks os code (instructions.Jump (distances.Back (suc (length code))) ∷ []) (both f.looks os (test_code f t n) (b ++ p) (h n) (both f.looks os b p k l)) refl

-- the head of a choice, and what stands behind it
choice_called : (f : Frame) (i : Option (Option SimpleTree × Span)) (e : ExprTree) (n : ℕ) (os : Held) (code : List Instruction) → AllCalled f.looks os code
    → AllCalled f.looks (join (join (init_held i) (expr_held contexts.«Value» e)) os) (init_code f i ++ (test_code f (Some e) n ++ code))
choice_called f i e n os code h =
    let first : Held = init_held i in
    let second : Held = expr_held contexts.«Value» e in
    let all : Held = join (join first second) os in
    let init : List Instruction = init_code f i in
    let test : List Instruction = test_code f (Some e) n in
    both f.looks all init (test ++ code) (to_left f.looks (join first second) os init (to_left f.looks first second init (init_called f i)))
    (both f.looks all test code (to_left f.looks (join first second) os test (to_right f.looks first second test (test_called f (Some e) n))) (to_right f.looks (join first second) os code h))

else_called : (looks : CodeLooks) (os ps : Held) (then_part outside : List Instruction) (n : ℕ) → AllCalled looks os then_part → AllCalled looks ps outside → AllCalled looks (join os ps) ((then_part ++ jump n) ++ outside)
else_called looks os ps then_part outside n h k = in_turn looks os ps (then_part ++ jump n) outside (kept looks os then_part (jump n) h refl) k

mutual
  stmt_called : (f : Frame) (x : Exits) (s : StmtTree) → AllCalled f.looks (stmt_held s) (stmt_code f x s)
  stmt_called f x Empty = tt
  stmt_called f x (Declare v) = specs_called f v.kind v.specs
  stmt_called f x (Simple s) = simple_called f s
  stmt_called f x (Return s es) = returned_called f es
  stmt_called f x (Break s) = quiet f.looks none (jump x.ends) refl
  stmt_called f x (Continue s) = quiet f.looks none (jump x.goes_on) refl
  stmt_called f x (Block first ls last) = lines_called f x ls
  stmt_called f x (If b) = branch_called f x b
  stmt_called f x (For k head first ls last) =
      let os : Held = for_held head in
      let ps : Held = lines_held ls in
      let post : List Instruction = some_simple_code f (head_post head) in
      let body : List Instruction = lines_code f (in_loop post) ls in
      both f.looks (join os ps) (some_simple_code f (head_init head)) _ (to_left f.looks os ps _ (head_init_called f head))
      (loop_called f (join os ps) (head_test head) body post (λ n. to_left f.looks os ps (test_code f (head_test head) n) (head_test_called f head n)) (to_right f.looks os ps body (lines_called f (in_loop post) ls)) (to_left f.looks os ps post (head_post_called f head)))

  branch_called : (f : Frame) (x : Exits) (b : BranchTree) → AllCalled f.looks (branch_held b) (branch_code f x b)
  branch_called f x (Branch k head first ls last NoElse) =
      let here : Held = lines_held ls in
      let inside_it : List Instruction = lines_code f x ls in
      choice_called f head.init head.condition (length inside_it) (join here none) inside_it (to_left f.looks here none inside_it (lines_called f x ls))
  branch_called f x (Branch k head first ls last (ElseBlock k' first' others last')) =
      let outside : List Instruction = lines_code f x others in
      let y : Exits = before (suc (length outside)) x in
      let then_part : List Instruction = lines_code f y ls in
      choice_called f head.init head.condition (length (then_part ++ jump (length outside))) (join (lines_held ls) (lines_held others)) ((then_part ++ jump (length outside)) ++ outside)
      (else_called f.looks (lines_held ls) (lines_held others) then_part outside (length outside) (lines_called f y ls) (lines_called f x others))
  branch_called f x (Branch k head first ls last (ElseIf k' b)) =
      let outside : List Instruction = branch_code f x b in
      let y : Exits = before (suc (length outside)) x in
      let then_part : List Instruction = lines_code f y ls in
      choice_called f head.init head.condition (length (then_part ++ jump (length outside))) (join (lines_held ls) (branch_held b)) ((then_part ++ jump (length outside)) ++ outside)
      (else_called f.looks (lines_held ls) (branch_held b) then_part outside (length outside) (lines_called f y ls) (branch_called f x b))

  lines_called : (f : Frame) (x : Exits) (ls : Lines) → AllCalled f.looks (lines_held ls) (lines_code f x ls)
  lines_called f x NoLines = tt
  lines_called f x (Line s semicolon rest) =
      let y : Exits = before (length (lines_code f x rest)) x in
      in_turn f.looks (stmt_held s) (lines_held rest) (stmt_code f y s) (lines_code f x rest) (stmt_called f y s) (lines_called f x rest)

-- functions

body_called : (f : Frame) (func : FuncTree) → AllCalled f.looks (body_held func) (body_code f func)
body_called f func = kept f.looks (body_held func) (lines_code f no_exits func.body) (instructions.Return false ∷ []) (lines_called f no_exits func.body) refl

framed_called : (f : Frame) (func : FuncTree) (b : Bool) → AllCalled f.looks (body_held func) (if b then body_code f func else instructions.Outside ∷ [])
framed_called f func true = body_called f func
framed_called f func false = quiet f.looks (body_held func) (instructions.Outside ∷ []) refl

pub calls_are_of_the_body : CallsAreOfTheBody
calls_are_of_the_body looks func front rest reference arguments is =
    let f : Frame = frame_in looks func in
    let all : AllCalled looks (body_held func) (front ++ instructions.Call reference arguments ∷ rest) = subst (AllCalled looks (body_held func)) is (framed_called f func (in_fragment f func)) in
    each_there (Called looks (body_held func)) front rest (instructions.Call reference arguments) all reference arguments refl
