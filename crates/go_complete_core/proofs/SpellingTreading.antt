-- The steps of a function in which one identifier is spelled anew.
use Rattle.std.proofs.Common.{◌≡◌, ℕ, List, [], ◌∷◌, ◌++◌, refl, sym, ap, subst}
use Rattle.std.specs.Prelude.{Option, Some, None}
use Rattle.go_tree_nodes.specs.text_core.declared.span.Span.{Span}
use Rattle.go_tree_nodes.specs.declared.names.Ident.{Ident}
use Rattle.go_tree_nodes.specs.declared.decls.ValueKind.{ValueKind}
use Rattle.go_tree_nodes.specs.declared.files.Receiver.{Receiver}
use Rattle.go_tree_nodes.specs.Trees as tree
use Rattle.go_tree_nodes.specs.Trees.{Separated, SignatureTree, ResultTree, ParamTrees, Signed, ExprTree, ValueSpecTree, Specs, Single, Group, SimpleTree, Alone, Step, Assign, Update, Define, IfTree, ForTree, Forever, While, Clauses, StmtTree, BranchTree, ElseTree, Lines, Empty, Simple, Return, Break, Continue, Block, If, For, Branch, NoElse, ElseBlock, ElseIf, NoLines, Line, FuncTree}
use Rattle.go_names_core.specs.local_core.Steps.{Header, Condition, EachFirst, Steps, Done, Check, Declare}
use Rattle.go_names_core.specs.local_core.Outline.{some_idents, param_idents, result_idents, signature_idents, receiver_idents, header_idents, spec_steps, group_steps, specs_steps, simple_steps, some_simple_steps, init_steps, some_condition_steps, if_steps, for_steps, stmt_steps, branch_steps, else_steps, lines_steps, func_steps}
use Rattle.go_stmt_core.specs.expr_core.Respelling.{RespellsSignature, InParams, InResult, RespellsResult, InOneResult, InResults, RespellsParams, InParam, InLaterParams}
use Rattle.go_complete_core.specs.spelling.Trees.{InValues, RespellsSpec, InSomeValues, InSpecType, RespellsGroup, InFirstSpec, InLaterSpecs, RespellsSpecs, InSingle, InGroup, RespellsSimple, InAlone, InStep, InTargets, InAssigned, InUpdated, InUpdate, InDefined, InReceiver, InSignature, InSpec, InAct, InCondition, InGiven, RespellsSteps, AtCheck, AtDeclare, BehindCheck, BehindDeclare, InBlock, BehindBlock, RespellsInit, InInit, RespellsIf, InIfInit, InIfCondition, RespellsFor, InWhile, InForInit, InTest, InPost, RespellsStmt, InDeclare, InSimple, InReturn, InBraces, InIf, InForHead, InForBody, RespellsBranch, InHead, InThen, InElse, RespellsElse, InElseBlock, InElseIf, RespellsLines, InFirstLine, InLaterLines, RespellsFunc, InFuncReceiver, InFuncSignature, InFuncBody, with_base}

module _ (x : Ident) (name : List ℕ) where
  abbrev Steps_respelled : Steps → Steps → Type 0
  Steps_respelled s t = RespellsSteps x name s t

  -- behind what is as it was

  group_behind : (k : ValueKind) (vs : List (ValueSpecTree × Option Span)) (s t : Steps) → Steps_respelled s t → Steps_respelled (group_steps k vs s) (group_steps k vs t)
  group_behind k [] s t r = r
  group_behind k (v ∷ vs) s t r = BehindDeclare (group_behind k vs s t r)

  specs_behind : (k : ValueKind) (vs : Specs ValueSpecTree) (s t : Steps) → Steps_respelled s t → Steps_respelled (specs_steps k vs s) (specs_steps k vs t)
  specs_behind k (Single v) s t r = BehindDeclare r
  specs_behind k (Group first vs last) s t r = group_behind k vs s t r

  simple_behind : (a : SimpleTree) (s t : Steps) → Steps_respelled s t → Steps_respelled (simple_steps a s) (simple_steps a t)
  simple_behind (Alone e) s t r = BehindCheck r
  simple_behind (Step e op span) s t r = BehindCheck r
  simple_behind (Assign ts span es) s t r = BehindCheck r
  simple_behind (Update e op span v) s t r = BehindCheck r
  simple_behind (Define xs span es) s t r = BehindDeclare r

  some_simple_behind : (a : Option SimpleTree) (s t : Steps) → Steps_respelled s t → Steps_respelled (some_simple_steps a s) (some_simple_steps a t)
  some_simple_behind None s t r = r
  some_simple_behind (Some a) s t r = simple_behind a s t r

  init_behind : (i : Option (Option SimpleTree × Span)) (s t : Steps) → Steps_respelled s t → Steps_respelled (init_steps i s) (init_steps i t)
  init_behind None s t r = r
  init_behind (Some i) s t r = some_simple_behind i.0 s t r

  some_condition_behind : (e : Option ExprTree) (s t : Steps) → Steps_respelled s t → Steps_respelled (some_condition_steps e s) (some_condition_steps e t)
  some_condition_behind None s t r = r
  some_condition_behind (Some e) s t r = BehindCheck r

  if_behind : (h : IfTree) (s t : Steps) → Steps_respelled s t → Steps_respelled (if_steps h s) (if_steps h t)
  if_behind h s t r = init_behind h.init _ _ (BehindCheck r)

  for_behind : (h : ForTree) (s t : Steps) → Steps_respelled s t → Steps_respelled (for_steps h s) (for_steps h t)
  for_behind Forever s t r = r
  for_behind (While e) s t r = BehindCheck r
  for_behind (Clauses i a test b post) s t r = some_simple_behind i _ _ (some_condition_behind test _ _ (some_simple_behind post s t r))

  stmt_behind : (a : StmtTree) (s t : Steps) → Steps_respelled s t → Steps_respelled (stmt_steps a s) (stmt_steps a t)
  stmt_behind Empty s t r = r
  stmt_behind (tree.Declare v) s t r = specs_behind v.kind v.specs s t r
  stmt_behind (Simple a) s t r = simple_behind a s t r
  stmt_behind (Return span es) s t r = BehindCheck r
  stmt_behind (Break span) s t r = r
  stmt_behind (Continue span) s t r = r
  stmt_behind (Block first ls last) s t r = BehindBlock r
  stmt_behind (If (Branch k h first ls last e)) s t r = BehindBlock r
  stmt_behind (For k h first ls last) s t r = BehindBlock r

  -- in what is spelled anew

  spec_at : (k : ValueKind) (v w : ValueSpecTree) → RespellsSpec x name v w → (rest : Steps) → Steps_respelled (spec_steps k v rest) (spec_steps k w rest)
  spec_at k v w (InSomeValues (InValues r)) rest = AtDeclare (InSpec (InSomeValues (InValues r)))
  spec_at k v w (InSpecType r) rest = AtDeclare (InSpec (InSpecType r))

  group_at : (k : ValueKind) (vs ws : List (ValueSpecTree × Option Span)) → RespellsGroup x name vs ws → (rest : Steps) → Steps_respelled (group_steps k vs rest) (group_steps k ws rest)
  group_at k vs ws (InFirstSpec {v = v} {w = w} {more = more} r) rest = spec_at k v w r (group_steps k more rest)
  group_at k vs ws (InLaterSpecs {more = more} {rest = others} r) rest = BehindDeclare (group_at k more others r rest)

  specs_at : (k : ValueKind) (vs ws : Specs ValueSpecTree) → RespellsSpecs x name vs ws → (rest : Steps) → Steps_respelled (specs_steps k vs rest) (specs_steps k ws rest)
  specs_at k vs ws (InSingle {v = v} {w = w} r) rest = spec_at k v w r rest
  specs_at k vs ws (InGroup {vs = olds} {ws = news} r) rest = group_at k olds news r rest

  simple_at : (a b : SimpleTree) → RespellsSimple x name a b → (rest : Steps) → Steps_respelled (simple_steps a rest) (simple_steps b rest)
  simple_at a b (InAlone r) rest = AtCheck (InAct (InAlone r))
  simple_at a b (InStep r) rest = AtCheck (InAct (InStep r))
  simple_at a b (InTargets r) rest = AtCheck (InAct (InTargets r))
  simple_at a b (InAssigned r) rest = AtCheck (InAct (InAssigned r))
  simple_at a b (InUpdated r) rest = AtCheck (InAct (InUpdated r))
  simple_at a b (InUpdate r) rest = AtCheck (InAct (InUpdate r))
  simple_at a b (InDefined r) rest = AtDeclare (InAct (InDefined r))

  some_simple_at : (a b : Option SimpleTree) → RespellsInit x name a b → (rest : Steps) → Steps_respelled (some_simple_steps a rest) (some_simple_steps b rest)
  some_simple_at a b (InInit {s = s} {t = t} r) rest = simple_at s t r rest

  if_at : (h i : IfTree) → RespellsIf x name h i → (rest : Steps) → Steps_respelled (if_steps h rest) (if_steps i rest)
  if_at h i (InIfInit {s = s} {t = t} {e = e} r) rest = some_simple_at s t r (Check (Condition e) rest)
  if_at h i (InIfCondition {i = j} r) rest = init_behind j _ _ (AtCheck (InCondition r))

  for_at : (h i : ForTree) → RespellsFor x name h i → (rest : Steps) → Steps_respelled (for_steps h rest) (for_steps i rest)
  for_at h i (InWhile r) rest = AtCheck (InCondition r)
  for_at h i (InForInit {i = j} {j = k} {post = post} {test = test} r) rest = some_simple_at j k r (some_condition_steps test (some_simple_steps post rest))
  for_at h i (InTest {i = j} r) rest = some_simple_behind j _ _ (AtCheck (InCondition r))
  for_at h i (InPost {i = j} {post = post} {other = other} {test = test} r) rest = some_simple_behind j _ _ (some_condition_behind test _ _ (some_simple_at post other r rest))

  mutual
    stmt_at : (a b : StmtTree) → RespellsStmt x name a b → (rest : Steps) → Steps_respelled (stmt_steps a rest) (stmt_steps b rest)
    stmt_at a b (InDeclare {k = k} {vs = vs} {ws = ws} r) rest = specs_at k vs ws r rest
    stmt_at a b (InSimple {s = s} {t = t} r) rest = simple_at s t r rest
    stmt_at a b (InReturn r) rest = AtCheck (InGiven r)
    stmt_at a b (InBraces {ls = ls} {ms = ms} r) rest = InBlock (lines_at ls ms r Done)
    stmt_at a b (InIf {a = c} {b = d} r) rest = branch_at c d r rest
    stmt_at a b (InForHead {h = h} {i = i} r) rest = InBlock (for_at h i r _)
    stmt_at a b (InForBody {h = h} {ls = ls} {ms = ms} r) rest = InBlock (for_behind h _ _ (InBlock (lines_at ls ms r Done)))

    branch_at : (a b : BranchTree) → RespellsBranch x name a b → (rest : Steps) → Steps_respelled (branch_steps a rest) (branch_steps b rest)
    branch_at a b (InHead {h = h} {i = i} r) rest = InBlock (if_at h i r _)
    branch_at a b (InThen {h = h} {ls = ls} {ms = ms} r) rest = InBlock (if_behind h _ _ (InBlock (lines_at ls ms r Done)))
    branch_at a b (InElse {h = h} {e = e} {f = f} r) rest = InBlock (if_behind h _ _ (BehindBlock (else_at e f r Done)))

    else_at : (a b : ElseTree) → RespellsElse x name a b → (rest : Steps) → Steps_respelled (else_steps a rest) (else_steps b rest)
    else_at a b (InElseBlock {ls = ls} {ms = ms} r) rest = InBlock (lines_at ls ms r Done)
    else_at a b (InElseIf {a = c} {b = d} r) rest = branch_at c d r rest

    lines_at : (ls ms : Lines) → RespellsLines x name ls ms → (rest : Steps) → Steps_respelled (lines_steps ls rest) (lines_steps ms rest)
    lines_at ls ms (InFirstLine {s = s} {t = t} {more = more} r) rest = stmt_at s t r (lines_steps more rest)
    lines_at ls ms (InLaterLines {s = s} {more = more} {rest = others} r) rest = stmt_behind s _ _ (lines_at more others r rest)

  -- the names that a header declares keep their spelling

  param_names : (ps qs : ParamTrees) → RespellsParams x name ps qs → param_idents ps ≡ param_idents qs
  param_names ps qs (InParam r) = refl
  param_names ps qs (InLaterParams {xs = xs} {rest = rest} {more = more} r) = ap (λ l. some_idents xs ++ l) (param_names rest more r)

  result_names : (a b : ResultTree) → RespellsResult x name a b → result_idents a ≡ result_idents b
  result_names a b (InOneResult r) = refl
  result_names a b (InResults {ps = ps} {qs = qs} r) = param_names ps qs r

  signature_names : (a b : SignatureTree) → RespellsSignature x name a b → signature_idents a ≡ signature_idents b
  signature_names a b (InParams {ps = ps} {qs = qs} {r = res} r) = ap (λ l. l ++ result_idents res) (param_names ps qs r)
  signature_names a b (InResult {ps = ps} {r = res} {q = q} r) = ap (λ l. param_idents ps ++ l) (result_names res q r)

  pub func_respelled : (f g : FuncTree) → RespellsFunc x name f g → Steps_respelled (func_steps f) (func_steps g)
  func_respelled f g (InFuncReceiver {f = h} {r = r} {n = n} is s) =
      let With : Option Receiver → Type 0 = λ q.
      RespellsSteps x name (Declare EachFirst h.open_brace.start (Header q h.signature) (header_idents q h.signature) (lines_steps h.body Done))
      (Declare EachFirst h.open_brace.start (Header (Some (with_base r n)) h.signature) (header_idents (Some r) h.signature) (lines_steps h.body Done)) in
      subst With (sym is) (AtDeclare (InReceiver s))
  func_respelled f g (InFuncSignature {f = h} {g = k} r) =
      let With : List Ident → Type 0 = λ xs.
      RespellsSteps x name (Declare EachFirst h.open_brace.start (Header h.receiver h.signature) (receiver_idents h.receiver ++ xs) (lines_steps h.body Done))
      (Declare EachFirst h.open_brace.start (Header h.receiver k) (receiver_idents h.receiver ++ signature_idents k) (lines_steps h.body Done)) in
      subst With (sym (signature_names h.signature k r)) (AtDeclare (InSignature r))
  func_respelled f g (InFuncBody {f = h} {ls = ls} r) = BehindDeclare (lines_at h.body ls r Done)
