-- The statements of a function fit, and so does the function.
use Rattle.std.proofs.Common.{◌≡◌, inl, inr, ℕ, true, ◌&&◌, List, [], ◌∷◌, ◌++◌, Option, Some, None, Contains, subst}
use Rattle.std.proofs.lemmas.Bool.{and_parts}
use Rattle.std.specs.List.{flat_map}
use Rattle.go_constant_core.specs.text_core.declared.span.Span.{Span}
use Rattle.go_tree_nodes.specs.declared.decls.ValueKind.{ValueKind}
use Rattle.go_tree_nodes.specs.Rules.{IsPost, Wf_decl, Wf_else, Wf_branch, Wf_for, Wf_group, Wf_lines, Wf_specs, Wf_stmt, Wf_tops, Wf_value_spec}
use Rattle.go_tree_nodes.specs.Trees as tree
use Rattle.go_tree_nodes.specs.Trees.{DeclTree, Value, Types, Func, TopTree, FileTree, FuncTree, ExprTree, ValueSpecTree, Specs, Single, Group, SimpleTree, Alone, Step, Assign, Update, Define, ForTree, Forever, While, Clauses, StmtTree, BranchTree, ElseTree, Lines, Empty, Simple, Return, Break, Continue, Block, If, For, Branch, NoElse, ElseBlock, ElseIf, NoLines, Line}
use Rattle.go_names_core.specs.local_core.Binding.{Local}
use Rattle.go_names_core.specs.local_core.Outline.{branch_steps, else_steps, for_steps, group_steps, init_steps, lines_steps, simple_steps, some_condition_steps, some_simple_steps, specs_steps, stmt_steps}
use Rattle.go_names_core.specs.local_core.Steps.{Piece, Act, Condition, Steps, Done, Check, Inner}
use Rattle.go_body_core.specs.env_core.declared.meaning.Meaning.{Meaning as NameMeaning}
use Rattle.go_emit_core.specs.package_core.PackagePartInputs.{InputModel}
use Rattle.go_emit_core.specs.package_core.PackagePartParts.{ContentOf, FileOf}
use Rattle.go_body_core.specs.file.Stands.{decl_funcs, file_funcs}
use Rattle.go_code_core.specs.fragments.Inside.{branch_inside, else_inside, head_inside, init_inside, lines_inside, receiver_inside, signature_inside, simple_inside, some_simple_inside, stmt_inside, test_inside, value_lines_inside, value_spec_inside, value_specs_inside}
use Rattle.go_code_core.specs.fragments.Fragment.{expr_gives, is_one}
use Rattle.go_code_core.specs.fragments.Names.{CodeLooks, Frame}
use Rattle.go_code_core.specs.fragments.Slots.{value_spec_slots}
use Rattle.go_code_core.specs.Code.{frame_in, head_init, head_post, head_test}
use Rattle.go_meaning_laws.specs.source_meaning.Meaning.{SourceOf, params_of}
use Rattle.go_meaning_laws.specs.fitting_sources.Fitting.{BranchFits, ElseFits, InitFits, LinesFit, SimpleFits, SomeSimpleFits, SpecLinesFit, SpecsFit, StmtFits, TestFits, Typing, init_after, lines_after, simple_after, some_simple_after, specs_after, stmt_after}
use Rattle.go_emit_core.specs.Emitted.{body_first, told_to}
use Rattle.go_workspace_laws.specs.ConstantLaws.{code_names_of}
use Rattle.go_workspace_laws.specs.Standing.{pieces_of}
use Rattle.go_workspace_laws.proofs.ConstantLists.{HasItem, has}
use Rattle.go_program_laws.proofs.CheckedSourcesClear.{functions_end_well}
use Rattle.go_program_laws.specs.types.Fits.{FunctionsFit, IsServed}
use Rattle.go_program_laws.specs.types.Functions.{IsFunction, source_with, typing_in}
use Rattle.go_program_laws.specs.types.Scope.{AreDeclaredBefore, EachPiece}
use Rattle.go_program_laws.specs.types.Written.{ShowTheirTypes}
use Rattle.go_program_laws.proofs.TypesDeclared.{pieces_declared}
use Rattle.go_program_laws.proofs.TypesParams.{params_are_typed}
use Rattle.go_program_laws.proofs.TypesReady.{AreGiven}
use Rattle.go_program_laws.proofs.TypesSimple.{return_fits, simple_fits, spec_fits, test_fits}

-- a function of a file of the grammar is of the grammar

decl_well : (d : DeclTree) (g : FuncTree) → Wf_decl d → HasItem (decl_funcs d) g → Wf_lines g.body
decl_well (Value v) g well h = absurd h
decl_well (Types t) g well h = absurd h
decl_well (Func f) g well (inl e) = subst (λ (x : FuncTree). Wf_lines x.body) e well.1
decl_well (Func f) g well (inr h) = absurd h

tops_well : (ds : List TopTree) (g : FuncTree) → Wf_tops ds → HasItem (flat_map (λ (d : TopTree). decl_funcs d.decl) ds) g → Wf_lines g.body
tops_well [] g well h = absurd h
tops_well (d ∷ ds) g well h = by (decl_funcs d.decl) h (decl_well d.decl g well.0) (tops_well ds g well.1)
  where
    by : (gs : List FuncTree) → HasItem (gs ++ flat_map (λ (e : TopTree). decl_funcs e.decl) ds) g → (HasItem gs g → Wf_lines g.body) → (HasItem (flat_map (λ (e : TopTree). decl_funcs e.decl) ds) g → Wf_lines g.body) → Wf_lines g.body
    by [] h own rest = rest h
    by (x ∷ gs) (inl e) own rest = own (inl e)
    by (x ∷ gs) (inr h) own rest = by gs h (λ k. own (inr k)) rest

module _ (laws : AreGiven) (program : List SourceOf) (callees : List (Option ℕ)) (i : InputModel) (c : ContentOf) (n : ℕ) (t : FileTree) (f : FileOf) (g : FuncTree) (all : List (Local NameMeaning)) (h : IsFunction i c n t f g all)
    (shows : ShowTheirTypes i c) (served : IsServed program callees i c n t f g all) (header : signature_inside (code_names_of i c n f g) g.signature ≡ true) where
  abbrev code : CodeLooks
  code = code_names_of i c n f g

  abbrev s : SourceOf
  s = source_with code callees g

  abbrev typing : Typing
  typing = typing_in i c f

  abbrev frame : Frame
  frame = frame_in code g

  -- a piece of the function, where these are declared so far
  abbrev Ready : List (Option ℕ) → Piece → Type 0
  Ready ds p = Contains (pieces_of g) p × AreDeclaredBefore code ds p

  abbrev AreReady : List (Option ℕ) → Steps → Type 0
  AreReady ds steps = EachPiece Ready code ds steps

  -- specifications

  group_fits : (ds : List (Option ℕ)) (kind : ValueKind) (vs : List (ValueSpecTree × Option Span)) (rest : Steps) → AreReady ds (group_steps kind vs rest) → Wf_group (Wf_value_spec kind) vs → value_lines_inside frame kind vs ≡ true
      → SpecLinesFit program s typing ds kind vs × AreReady (lines_after kind ds vs) rest
  group_fits ds kind [] rest ready well inside = (tt, ready)
  group_fits ds kind (v ∷ vs) rest ready well inside =
      let both = and_parts (value_spec_inside frame kind v.0) (value_lines_inside frame kind vs) inside in
      let more = group_fits (value_spec_slots kind v.0 ++ ds) kind vs rest ready.1 well.2 both.1 in
      ((spec_fits laws program callees i c n t f g all h shows served ds kind v.0 ready.0.0 ready.0.1 well.0.0 both.0, more.0), more.1)

  specs_fit : (ds : List (Option ℕ)) (kind : ValueKind) (vs : Specs ValueSpecTree) (rest : Steps) → AreReady ds (specs_steps kind vs rest) → Wf_specs (Wf_value_spec kind) vs → value_specs_inside frame kind vs ≡ true
      → SpecsFit program s typing ds kind vs × AreReady (specs_after kind ds vs) rest
  specs_fit ds kind (Single v) rest ready well inside = (spec_fits laws program callees i c n t f g all h shows served ds kind v ready.0.0 ready.0.1 well.0 inside, ready.1)
  specs_fit ds kind (Group first vs last) rest ready well inside = group_fits ds kind vs rest ready well inside

  -- statements without a block

  simple_ready : (ds : List (Option ℕ)) (x : SimpleTree) (rest : Steps) → AreReady ds (simple_steps x rest) → Ready ds (Act x) × AreReady (simple_after code ds x) rest
  simple_ready ds (Alone e) rest ready = ready
  simple_ready ds (Step e op span) rest ready = ready
  simple_ready ds (Assign ts span es) rest ready = ready
  simple_ready ds (Update e op span v) rest ready = ready
  simple_ready ds (Define xs span es) rest ready = ready

  simple_all : (ds : List (Option ℕ)) (x : SimpleTree) (rest : Steps) → AreReady ds (simple_steps x rest) → simple_inside frame x ≡ true → SimpleFits program s typing ds x × AreReady (simple_after code ds x) rest
  simple_all ds x rest ready inside = (let r = simple_ready ds x rest ready in (simple_fits laws program callees i c n t f g all h shows served ds x r.0.0 r.0.1 inside, r.1))

  some_simple_all : (ds : List (Option ℕ)) (x : Option SimpleTree) (rest : Steps) → AreReady ds (some_simple_steps x rest) → some_simple_inside frame x ≡ true → SomeSimpleFits program s typing ds x × AreReady (some_simple_after code ds x) rest
  some_simple_all ds None rest ready inside = (tt, ready)
  some_simple_all ds (Some x) rest ready inside = simple_all ds x rest ready inside

  init_all : (ds : List (Option ℕ)) (x : Option (Option SimpleTree × Span)) (rest : Steps) → AreReady ds (init_steps x rest) → init_inside frame x ≡ true → InitFits program s typing ds x × AreReady (init_after code ds x) rest
  init_all ds None rest ready inside = (tt, ready)
  init_all ds (Some x) rest ready inside = some_simple_all ds x.0 rest ready inside

  condition_all : (ds : List (Option ℕ)) (e : ExprTree) (rest : Steps) → AreReady ds (Check (Condition e) rest) → is_one (expr_gives frame e) ≡ true → TestFits program s typing ds (Some e) × AreReady ds rest
  condition_all ds e rest ready inside = (test_fits laws program callees i c n t f g all h shows served ds e ready.0.0 ready.0.1 inside, ready.1)

  some_condition_all : (ds : List (Option ℕ)) (e : Option ExprTree) (rest : Steps) → AreReady ds (some_condition_steps e rest) → test_inside frame e ≡ true → TestFits program s typing ds e × AreReady ds rest
  some_condition_all ds None rest ready inside = (tt, ready)
  some_condition_all ds (Some e) rest ready inside = condition_all ds e rest ready inside

  -- what is done behind a turn declares nothing
  post_all : (ds : List (Option ℕ)) (x : Option SimpleTree) (rest : Steps) → IsPost x → AreReady ds (some_simple_steps x rest) → some_simple_inside frame x ≡ true → SomeSimpleFits program s typing ds x × AreReady ds rest
  post_all ds None rest post ready inside = (tt, ready)
  post_all ds (Some (Alone e)) rest post ready inside = simple_all ds (Alone e) rest ready inside
  post_all ds (Some (Step e op span)) rest post ready inside = simple_all ds (Step e op span) rest ready inside
  post_all ds (Some (Assign ts span es)) rest post ready inside = simple_all ds (Assign ts span es) rest ready inside
  post_all ds (Some (Update e op span v)) rest post ready inside = simple_all ds (Update e op span v) rest ready inside
  post_all ds (Some (Define xs span es)) rest post ready inside = absurd post

  for_all : (ds : List (Option ℕ)) (head : ForTree) (rest : Steps) → AreReady ds (for_steps head rest) → Wf_for head → head_inside frame head ≡ true
      → SomeSimpleFits program s typing ds (head_init head) × TestFits program s typing (some_simple_after code ds (head_init head)) (head_test head)
      × SomeSimpleFits program s typing (some_simple_after code ds (head_init head)) (head_post head) × AreReady (some_simple_after code ds (head_init head)) rest
  for_all ds Forever rest ready well inside = (tt, tt, tt, ready)
  for_all ds (While e) rest ready well inside = (let r = condition_all ds e rest ready inside in (tt, r.0, tt, r.1))
  for_all ds (Clauses init a test b post) rest ready well inside =
      let last = and_parts (some_simple_inside frame init && test_inside frame test) (some_simple_inside frame post) inside in
      let both = and_parts (some_simple_inside frame init) (test_inside frame test) last.0 in
      let one = some_simple_all ds init (some_condition_steps test (some_simple_steps post rest)) ready both.0 in
      let two = some_condition_all (some_simple_after code ds init) test (some_simple_steps post rest) one.1 both.1 in
      let three = post_all (some_simple_after code ds init) post rest well.3 two.1 last.1 in
      (one.0, two.0, three.0, three.1)

  mutual
    stmt_fits : (ds : List (Option ℕ)) (x : StmtTree) (rest : Steps) → AreReady ds (stmt_steps x rest) → Wf_stmt x → stmt_inside frame x ≡ true → StmtFits program s typing ds x × AreReady (stmt_after code ds x) rest
    stmt_fits ds Empty rest ready well inside = (tt, ready)
    stmt_fits ds (tree.Declare v) rest ready well inside = specs_fit ds v.kind v.specs rest ready well inside
    stmt_fits ds (Simple x) rest ready well inside = simple_all ds x rest ready inside
    stmt_fits ds (Return place es) rest ready well inside = (return_fits laws program callees i c n t f g all h shows served ds place es ready.0.0 ready.0.1 header inside, ready.1)
    stmt_fits ds (Break span) rest ready well inside = (tt, ready)
    stmt_fits ds (Continue span) rest ready well inside = (tt, ready)
    stmt_fits ds (Block first ls last) rest ready well inside = (lines_fit ds ls Done ready.0 well inside, ready.1)
    stmt_fits ds (If b) rest ready well inside = branch_fits ds b rest ready well inside
    stmt_fits ds (For k head first ls last) rest ready well inside =
        let both = and_parts (head_inside frame head) (lines_inside frame ls) inside in
        let r = for_all ds head (Inner first.start last.start (lines_steps ls Done) Done) ready.0 well.0 both.0 in
        ((r.0, r.1, r.2, lines_fit (some_simple_after code ds (head_init head)) ls Done r.3.0 well.1 both.1), ready.1)

    branch_fits : (ds : List (Option ℕ)) (b : BranchTree) (rest : Steps) → AreReady ds (branch_steps b rest) → Wf_branch b → branch_inside frame b ≡ true → BranchFits program s typing ds b × AreReady ds rest
    branch_fits ds (Branch k head first ls last other) rest ready well inside =
        let whole = and_parts (init_inside frame head.init && is_one (expr_gives frame head.condition)) (lines_inside frame ls && else_inside frame other) inside in
        let front = and_parts (init_inside frame head.init) (is_one (expr_gives frame head.condition)) whole.0 in
        let back = and_parts (lines_inside frame ls) (else_inside frame other) whole.1 in
        let body : Steps = Inner first.start last.start (lines_steps ls Done) (else_steps other Done) in
        let one = init_all ds head.init (Check (Condition head.condition) body) ready.0 front.0 in
        let two = condition_all (init_after code ds head.init) head.condition body one.1 front.1 in
        ((one.0, two.0, lines_fit (init_after code ds head.init) ls Done two.1.0 well.1 back.0, else_fits (init_after code ds head.init) other two.1.1 well.2 back.1), ready.1)

    else_fits : (ds : List (Option ℕ)) (x : ElseTree) → AreReady ds (else_steps x Done) → Wf_else x → else_inside frame x ≡ true → ElseFits program s typing ds x
    else_fits ds NoElse ready well inside = tt
    else_fits ds (ElseBlock k first ls last) ready well inside = lines_fit ds ls Done ready.0 well inside
    else_fits ds (ElseIf k b) ready well inside = (branch_fits ds b Done ready well inside).0

    lines_fit : (ds : List (Option ℕ)) (ls : Lines) (rest : Steps) → AreReady ds (lines_steps ls rest) → Wf_lines ls → lines_inside frame ls ≡ true → LinesFit program s typing ds ls
    lines_fit ds NoLines rest ready well inside = tt
    lines_fit ds (Line x semicolon more) rest ready well inside =
        let both = and_parts (stmt_inside frame x) (lines_inside frame more) inside in
        let one = stmt_fits ds x (lines_steps more rest) ready well.0 both.0 in
        (one.0, lines_fit (stmt_after code ds x) more rest one.1 well.2 both.1)

  pub body_fits : lines_inside frame g.body ≡ true → LinesFit program s typing (params_of g) g.body
  body_fits inside =
      lines_fit (params_of g) g.body Done (pieces_declared laws i c n t f g all h header) (tops_well t.decls g h.grammar.1 (has (file_funcs t) g h.func)) inside

pub functions_fit : AreGiven → FunctionsFit
functions_fit laws program callees i c n t f g all h shows served inside =
    let code : CodeLooks = code_names_of i c n f g in
    let frame : Frame = frame_in code g in
    let last = and_parts (receiver_inside code g.receiver && signature_inside code g.signature) (lines_inside frame g.body) inside in
    let header = (and_parts (receiver_inside code g.receiver) (signature_inside code g.signature) last.0).1 in
    let ends = functions_end_well laws.fine laws.between (told_to i c) i c h.input h.part h.clean n t f h.tree h.file h.grammar h.placed g h.func (body_first f.answers.uses g) in
    record {
      typing = typing_in i c f;
      params = params_are_typed laws i c n t f g all h shows inside;
      body = body_fits laws program callees i c n t f g all h shows served header last.1;
      no_break = ends.no_break;
      no_continue = ends.no_continue;
      ends = ends.ends;
    }
