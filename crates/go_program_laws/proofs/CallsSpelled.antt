-- What an expression of a piece of a function writes is among what the function writes.
use Rattle.std.proofs.Common.{◌≡◌, ◌⊎◌, inl, inr, Bool, true, false, List, [], ◌∷◌, ◌++◌, Option, Some, None, sym, ap, subst, if◌then◌else◌}
use Rattle.go_constant_core.specs.text_core.declared.span.Span.{Span}
use Rattle.go_tree_nodes.specs.token_core.declared.kind.Keyword.TheVariants as keyword
use Rattle.go_tree_nodes.specs.token_core.declared.kind.Operator.TheVariants as operator
use Rattle.go_tree_nodes.specs.declared.decls.ValueKind.{ValueKind}
use Rattle.go_tree_nodes.specs.Spelling.{mark, spell, spell_branch, spell_else, spell_exprs, spell_for, spell_func, spell_ident, spell_idents, spell_if, spell_init, spell_items, spell_key, spell_lines, spell_receiver, spell_signature, spell_simple, spell_some, spell_some_expr, spell_some_exprs, spell_some_simple, spell_some_type, spell_specs, spell_specs_of, spell_stmt, spell_type, spell_type_name, spell_value_spec, spell_values, word}
use Rattle.go_tree_nodes.specs.Terminals.{Terminal}
use Rattle.go_tree_nodes.specs.Trees as tree
use Rattle.go_tree_nodes.specs.Trees.{Separated, One, Then, ExprTree, ItemTrees, Integer, Text, Named, Paren, Unary, Binary, Select, Call, Literal, StructLiteral, NoItems, Item, ValueSpecTree, Specs, Single, Group, SimpleTree, Alone, Step, Assign, Update, Define, IfTree, ForTree, Forever, While, Clauses, StmtTree, BranchTree, ElseTree, Lines, Empty, Simple, Return, Break, Continue, Block, If, For, Branch, NoElse, ElseBlock, ElseIf, NoLines, Line, FuncTree}
use Rattle.go_names_core.specs.local_core.Outline.{branch_steps, else_steps, for_steps, group_steps, if_steps, init_steps, lines_steps, simple_steps, some_condition_steps, some_simple_steps, spec_steps, specs_steps, stmt_steps}
use Rattle.go_names_core.specs.local_core.Steps.{Piece, Header, Spec, Act, Condition, Given, Steps, Done, Check, Inner, spell_piece}
use Rattle.go_names_core.specs.local_core.WalksEnds.{is_blank_target}
use Rattle.go_report_core.specs.denote_core.declared.things.Stand.{Stand}
use Rattle.go_report_core.specs.denote_core.declared.things.Stand.TheVariants as stands
use Rattle.go_report_core.specs.expr_core.Places.{inside, left_place, under_place}
use Rattle.go_workspace_laws.specs.folding.Parts.{item_parts, parts}
use Rattle.go_snap_core.specs.value_core.Initial.{exprs}
use Rattle.go_workspace_laws.specs.Standing.{piece_exprs, pieces_in, pieces_of, some_listed, target_listed, targets_listed, values_listed}
use Rattle.go_workspace_laws.proofs.ConstantLists.{HasItem, has_either, has_left, has_right}

-- expressions

module _ (q : Stand) (x : ExprTree) (t : Terminal) (k : HasItem (spell x) t) where
  here : (p : Stand) (e : ExprTree) → ◌≡◌ {A = Stand × ExprTree} (p, e) (q, x) → HasItem (spell e) t
  here p e s = subst (λ y. HasItem (spell y) t) (sym (ap (λ (pair : Stand × ExprTree). pair.1) s)) k

  mutual
    pub part_spelled : (p : Stand) (e : ExprTree) → HasItem (parts p e) (q, x) → HasItem (spell e) t
    part_spelled p (Integer n span) (inl s) = here p (Integer n span) s
    part_spelled p (Integer n span) (inr h) = absurd h
    part_spelled p (Text l) (inl s) = here p (Text l) s
    part_spelled p (Text l) (inr h) = absurd h
    part_spelled p (Named y) (inl s) = here p (Named y) s
    part_spelled p (Named y) (inr h) = absurd h
    part_spelled p (Paren first e last) (inl s) = here p (Paren first e last) s
    part_spelled p (Paren first e last) (inr h) = inr (has_left (spell e) (mark operator.CloseParen last ∷ []) t (part_spelled (inside p) e h))
    part_spelled p (Unary op span e) (inl s) = here p (Unary op span e) s
    part_spelled p (Unary op span e) (inr h) = inr (part_spelled (under_place op p) e h)
    part_spelled p (Binary a op span b) (inl s) = here p (Binary a op span b) s
    part_spelled p (Binary a op span b) (inr h) = elim (has_either (parts stands.«Value» a) (parts stands.«Value» b) (q, x) h) [
      | inl l ↦ has_left (spell a) (mark op span ∷ spell b) t (part_spelled stands.«Value» a l)
      | inr r ↦ has_right (spell a) (mark op span ∷ spell b) t (inr (part_spelled stands.«Value» b r))
    ]
    part_spelled p (Select e dot y) (inl s) = here p (Select e dot y) s
    part_spelled p (Select e dot y) (inr h) = has_left (spell e) (mark operator.Dot dot ∷ (spell_ident y ∷ [])) t (part_spelled (left_place p e) e h)
    part_spelled p (Call e first items last) (inl s) = here p (Call e first items last) s
    part_spelled p (Call e first items last) (inr h) = elim (has_either (parts stands.Callee e) (item_parts items) (q, x) h) [
      | inl l ↦ has_left (spell e) (mark operator.OpenParen first ∷ (spell_items items ++ mark operator.CloseParen last ∷ [])) t (part_spelled stands.Callee e l)
      | inr r ↦ has_right (spell e) (mark operator.OpenParen first ∷ (spell_items items ++ mark operator.CloseParen last ∷ [])) t (inr (has_left (spell_items items) (mark operator.CloseParen last ∷ []) t (items_spelled items r)))
    ]
    part_spelled p (Literal n first items last) (inl s) = here p (Literal n first items last) s
    part_spelled p (Literal n first items last) (inr h) =
        has_right (spell_type_name n) (mark operator.OpenBrace first ∷ (spell_items items ++ mark operator.CloseBrace last ∷ [])) t (inr (has_left (spell_items items) (mark operator.CloseBrace last ∷ []) t (items_spelled items h)))
    part_spelled p (StructLiteral y first items last) (inl s) = here p (StructLiteral y first items last) s
    part_spelled p (StructLiteral y first items last) (inr h) =
        has_right (spell_type y) (mark operator.OpenBrace first ∷ (spell_items items ++ mark operator.CloseBrace last ∷ [])) t (inr (has_left (spell_items items) (mark operator.CloseBrace last ∷ []) t (items_spelled items h)))

    items_spelled : (items : ItemTrees) → HasItem (item_parts items) (q, x) → HasItem (spell_items items) t
    items_spelled NoItems h = absurd h
    items_spelled (Item key e comma rest) h = has_right (spell_key key) (spell e ++ (spell_some operator.Comma comma ++ spell_items rest)) t (elim (has_either (parts stands.«Value» e) (item_parts rest) (q, x) h) [
      | inl l ↦ has_left (spell e) (spell_some operator.Comma comma ++ spell_items rest) t (part_spelled stands.«Value» e l)
      | inr r ↦ has_right (spell e) (spell_some operator.Comma comma ++ spell_items rest) t (has_right (spell_some operator.Comma comma) (spell_items rest) t (items_spelled rest r))
    ])

-- pieces

module _ (e : ExprTree) (t : Terminal) (k : HasItem (spell e) t) where
  listed : (es : Separated ExprTree) → HasItem (exprs es) e → HasItem (spell_exprs es) t
  listed (One x) (inl s) = subst (λ y. HasItem (spell y) t) (sym s) k
  listed (One x) (inr h) = absurd h
  listed (Then x comma more) (inl s) = has_left (spell x) (mark operator.Comma comma ∷ spell_exprs more) t (subst (λ y. HasItem (spell y) t) (sym s) k)
  listed (Then x comma more) (inr h) = has_right (spell x) (mark operator.Comma comma ∷ spell_exprs more) t (inr (listed more h))

  target : (b : Bool) (x : ExprTree) → HasItem (if b then [] else x ∷ []) e → HasItem (spell x) t
  target true x h = absurd h
  target false x (inl s) = subst (λ y. HasItem (spell y) t) (sym s) k
  target false x (inr h) = absurd h

  targets : (ts : Separated ExprTree) → HasItem (targets_listed ts) e → HasItem (spell_exprs ts) t
  targets (One x) h = target (is_blank_target x) x h
  targets (Then x comma more) h = elim (has_either (target_listed x) (targets_listed more) e h) [
    | inl l ↦ has_left (spell x) (mark operator.Comma comma ∷ spell_exprs more) t (target (is_blank_target x) x l)
    | inr r ↦ has_right (spell x) (mark operator.Comma comma ∷ spell_exprs more) t (inr (targets more r))
  ]

  values_have : (v : Option (Span × Separated ExprTree)) → HasItem (values_listed v) e → HasItem (spell_values v) t
  values_have None h = absurd h
  values_have (Some v) h = inr (listed v.1 h)

  some_have : (es : Option (Separated ExprTree)) → HasItem (some_listed es) e → HasItem (spell_some_exprs es) t
  some_have None h = absurd h
  some_have (Some es) h = listed es h

  act_has : (s : SimpleTree) → HasItem (piece_exprs (Act s)) e → HasItem (spell_simple s) t
  act_has (Alone x) (inl s) = subst (λ y. HasItem (spell y) t) (sym s) k
  act_has (Alone x) (inr h) = absurd h
  act_has (Step x op span) (inl s) = has_left (spell x) (mark op span ∷ []) t (subst (λ y. HasItem (spell y) t) (sym s) k)
  act_has (Step x op span) (inr h) = absurd h
  act_has (Assign ts span es) h = elim (has_either (targets_listed ts) (exprs es) e h) [
    | inl l ↦ has_left (spell_exprs ts) (mark operator.Assign span ∷ spell_exprs es) t (targets ts l)
    | inr r ↦ has_right (spell_exprs ts) (mark operator.Assign span ∷ spell_exprs es) t (inr (listed es r))
  ]
  act_has (Update x op span v) (inl s) = has_left (spell x) (mark op span ∷ spell v) t (subst (λ y. HasItem (spell y) t) (sym s) k)
  act_has (Update x op span v) (inr (inl s)) = has_right (spell x) (mark op span ∷ spell v) t (inr (subst (λ y. HasItem (spell y) t) (sym s) k))
  act_has (Update x op span v) (inr (inr h)) = absurd h
  act_has (Define xs span es) h = has_right (spell_idents xs) (mark operator.Define span ∷ spell_exprs es) t (inr (listed es h))

  pub piece_has : (p : Piece) → HasItem (piece_exprs p) e → HasItem (spell_piece p) t
  piece_has (Header r s) h = absurd h
  piece_has (Spec kind v) h = has_right (spell_idents v.names) (spell_some_type v.type_expr ++ spell_values v.values) t (has_right (spell_some_type v.type_expr) (spell_values v.values) t (values_have v.values h))
  piece_has (Act s) h = act_has s h
  piece_has (Condition x) (inl s) = subst (λ y. HasItem (spell y) t) (sym s) k
  piece_has (Condition x) (inr h) = absurd h
  piece_has (Given place es) h = some_have es h

-- functions

module _ (p : Piece) (t : Terminal) (k : HasItem (spell_piece p) t) where
  -- among these terminals, or it is a piece of the rest
  abbrev Or : List Terminal → Steps → Type 0
  Or ts rest = HasItem ts t ⊎ HasItem (pieces_in rest) p

  same : (q : Piece) → q ≡ p → HasItem (spell_piece q) t
  same q s = subst (λ y. HasItem (spell_piece y) t) (sym s) k

  -- a beginning, or what is behind it
  wider : (ts us : List Terminal) (rest : Steps) → Or ts rest → Or (ts ++ us) rest
  wider ts us rest (inl h) = inl (has_left ts us t h)
  wider ts us rest (inr h) = inr h

  behind : (ts us : List Terminal) (rest : Steps) → Or us rest → Or (ts ++ us) rest
  behind ts us rest (inl h) = inl (has_right ts us t h)
  behind ts us rest (inr h) = inr h

  next : (u : Terminal) (us : List Terminal) (rest : Steps) → Or us rest → Or (u ∷ us) rest
  next u us rest (inl h) = inl (inr h)
  next u us rest (inr h) = inr h

  spec_has : (kind : ValueKind) (v : ValueSpecTree) (rest : Steps) → HasItem (pieces_in (spec_steps kind v rest)) p → Or (spell_value_spec v) rest
  spec_has kind v rest (inl s) = inl (same (Spec kind v) s)
  spec_has kind v rest (inr h) = inr h

  group_has : (kind : ValueKind) (vs : List (ValueSpecTree × Option Span)) (rest : Steps) → HasItem (pieces_in (group_steps kind vs rest)) p → Or (spell_specs_of spell_value_spec vs) rest
  group_has kind [] rest h = inr h
  group_has kind (v ∷ vs) rest h = elim (spec_has kind v.0 (group_steps kind vs rest) h) [
    | inl a ↦ inl (has_left (spell_value_spec v.0) (spell_some operator.Semicolon v.1 ++ spell_specs_of spell_value_spec vs) t a)
    | inr b ↦ behind (spell_value_spec v.0) (spell_some operator.Semicolon v.1 ++ spell_specs_of spell_value_spec vs) rest (behind (spell_some operator.Semicolon v.1) (spell_specs_of spell_value_spec vs) rest (group_has kind vs rest b))
  ]

  specs_has : (kind : ValueKind) (s : Specs ValueSpecTree) (rest : Steps) → HasItem (pieces_in (specs_steps kind s rest)) p → Or (spell_specs spell_value_spec s) rest
  specs_has kind (Single v) rest h = spec_has kind v rest h
  specs_has kind (Group first vs last) rest h =
      next (mark operator.OpenParen first) (spell_specs_of spell_value_spec vs ++ mark operator.CloseParen last ∷ []) rest (wider (spell_specs_of spell_value_spec vs) (mark operator.CloseParen last ∷ []) rest (group_has kind vs rest h))

  simple_has : (s : SimpleTree) (rest : Steps) → HasItem (pieces_in (simple_steps s rest)) p → Or (spell_simple s) rest
  simple_has (Alone x) rest (inl s) = inl (same (Act (Alone x)) s)
  simple_has (Alone x) rest (inr h) = inr h
  simple_has (Step x op span) rest (inl s) = inl (same (Act (Step x op span)) s)
  simple_has (Step x op span) rest (inr h) = inr h
  simple_has (Assign ts span es) rest (inl s) = inl (same (Act (Assign ts span es)) s)
  simple_has (Assign ts span es) rest (inr h) = inr h
  simple_has (Update x op span v) rest (inl s) = inl (same (Act (Update x op span v)) s)
  simple_has (Update x op span v) rest (inr h) = inr h
  simple_has (Define xs span es) rest (inl s) = inl (same (Act (Define xs span es)) s)
  simple_has (Define xs span es) rest (inr h) = inr h

  some_simple_has : (s : Option SimpleTree) (rest : Steps) → HasItem (pieces_in (some_simple_steps s rest)) p → Or (spell_some_simple s) rest
  some_simple_has None rest h = inr h
  some_simple_has (Some s) rest h = simple_has s rest h

  condition_has : (x : ExprTree) (rest : Steps) → (Condition x ≡ p) ⊎ HasItem (pieces_in rest) p → Or (spell x) rest
  condition_has x rest (inl s) = inl (same (Condition x) s)
  condition_has x rest (inr h) = inr h

  some_condition_has : (x : Option ExprTree) (rest : Steps) → HasItem (pieces_in (some_condition_steps x rest)) p → Or (spell_some_expr x) rest
  some_condition_has None rest h = inr h
  some_condition_has (Some x) rest h = condition_has x rest h

  init_has : (i : Option (Option SimpleTree × Span)) (rest : Steps) → HasItem (pieces_in (init_steps i rest)) p → Or (spell_init i) rest
  init_has None rest h = inr h
  init_has (Some i) rest h = wider (spell_some_simple i.0) (mark operator.Semicolon i.1 ∷ []) rest (some_simple_has i.0 rest h)

  if_has : (i : IfTree) (rest : Steps) → HasItem (pieces_in (if_steps i rest)) p → Or (spell_if i) rest
  if_has i rest h = elim (init_has i.init (Check (Condition i.condition) rest) h) [
    | inl a ↦ inl (has_left (spell_init i.init) (spell i.condition) t a)
    | inr b ↦ behind (spell_init i.init) (spell i.condition) rest (condition_has i.condition rest b)
  ]

  clauses_have : (init : Option SimpleTree) (a : Span) (test : Option ExprTree) (b : Span) (post : Option SimpleTree) (rest : Steps) → HasItem (pieces_in (for_steps (Clauses init a test b post) rest)) p → Or (spell_for (Clauses init a test b post)) rest
  clauses_have init a test b post rest h =
      let last = mark operator.Semicolon b ∷ spell_some_simple post in
      let more = mark operator.Semicolon a ∷ (spell_some_expr test ++ last) in
      elim (some_simple_has init (some_condition_steps test (some_simple_steps post rest)) h) [
        | inl l ↦ inl (has_left (spell_some_simple init) more t l)
        | inr r ↦ behind (spell_some_simple init) more rest (next (mark operator.Semicolon a) (spell_some_expr test ++ last) rest (elim (some_condition_has test (some_simple_steps post rest) r) [
          | inl l ↦ inl (has_left (spell_some_expr test) last t l)
          | inr r ↦ behind (spell_some_expr test) last rest (next (mark operator.Semicolon b) (spell_some_simple post) rest (some_simple_has post rest r))
        ]))
      ]

  for_has : (head : ForTree) (rest : Steps) → HasItem (pieces_in (for_steps head rest)) p → Or (spell_for head) rest
  for_has Forever rest h = inr h
  for_has (While x) rest h = condition_has x rest h
  for_has (Clauses init a test b post) rest h = clauses_have init a test b post rest h

  -- a block between braces, before further terminals
  block_has : (first last : Span) (ls : Lines) (us : List Terminal) → HasItem (spell_lines ls) t → HasItem (mark operator.OpenBrace first ∷ (spell_lines ls ++ (mark operator.CloseBrace last ∷ us))) t
  block_has first last ls us h = inr (has_left (spell_lines ls) (mark operator.CloseBrace last ∷ us) t h)

  closed : (ts : List Terminal) → Or ts Done → HasItem ts t
  closed ts (inl h) = h
  closed ts (inr h) = absurd h

  -- the statements of a loop, and of a choice, are among these
  abbrev AreIn : Lines → Type 0
  AreIn ls = HasItem (pieces_in (lines_steps ls Done)) p → HasItem (spell_lines ls) t

  for_inside : (head : ForTree) (first : Span) (ls : Lines) (last : Span) → AreIn ls → HasItem (pieces_in (for_steps head (Inner first.start last.start (lines_steps ls Done) Done))) p
      → HasItem (spell_for head ++ (mark operator.OpenBrace first ∷ (spell_lines ls ++ mark operator.CloseBrace last ∷ []))) t
  for_inside head first ls last body h = elim (for_has head (Inner first.start last.start (lines_steps ls Done) Done) h) [
    | inl a ↦ has_left (spell_for head) (mark operator.OpenBrace first ∷ (spell_lines ls ++ mark operator.CloseBrace last ∷ [])) t a
    | inr b ↦ has_right (spell_for head) (mark operator.OpenBrace first ∷ (spell_lines ls ++ mark operator.CloseBrace last ∷ [])) t (elim (has_either (pieces_in (lines_steps ls Done)) [] p b) [
      | inl c ↦ block_has first last ls [] (body c)
      | inr c ↦ absurd c
    ])
  ]

  branch_inside : (head : IfTree) (first : Span) (ls : Lines) (last : Span) (other : ElseTree) → AreIn ls → (HasItem (pieces_in (else_steps other Done)) p → HasItem (spell_else other) t)
      → HasItem (pieces_in (if_steps head (Inner first.start last.start (lines_steps ls Done) (else_steps other Done)))) p
      → HasItem (spell_if head ++ (mark operator.OpenBrace first ∷ (spell_lines ls ++ (mark operator.CloseBrace last ∷ spell_else other)))) t
  branch_inside head first ls last other body more h =
      let rest = mark operator.OpenBrace first ∷ (spell_lines ls ++ (mark operator.CloseBrace last ∷ spell_else other)) in
      elim (if_has head (Inner first.start last.start (lines_steps ls Done) (else_steps other Done)) h) [
        | inl a ↦ has_left (spell_if head) rest t a
        | inr b ↦ has_right (spell_if head) rest t (elim (has_either (pieces_in (lines_steps ls Done)) (pieces_in (else_steps other Done)) p b) [
          | inl c ↦ block_has first last ls (spell_else other) (body c)
          | inr c ↦ inr (has_right (spell_lines ls) (mark operator.CloseBrace last ∷ spell_else other) t (inr (more c)))
        ])
      ]

  mutual
    stmt_has : (s : StmtTree) (rest : Steps) → HasItem (pieces_in (stmt_steps s rest)) p → Or (spell_stmt s) rest
    stmt_has Empty rest h = inr h
    stmt_has (tree.Declare v) rest h = next _ (spell_specs spell_value_spec v.specs) rest (specs_has v.kind v.specs rest h)
    stmt_has (Simple s) rest h = simple_has s rest h
    stmt_has (Return s es) rest (inl e) = inl (inr (same (Given s es) e))
    stmt_has (Return s es) rest (inr h) = inr h
    stmt_has (Break s) rest h = inr h
    stmt_has (Continue s) rest h = inr h
    stmt_has (Block first ls last) rest h = elim (has_either (pieces_in (lines_steps ls Done)) (pieces_in rest) p h) [
      | inl a ↦ inl (block_has first last ls [] (closed (spell_lines ls) (lines_have ls Done a)))
      | inr b ↦ inr b
    ]
    stmt_has (If b) rest h = branch_has b rest h
    stmt_has (For k head first ls last) rest h = elim (has_either (pieces_in (for_steps head (Inner first.start last.start (lines_steps ls Done) Done))) (pieces_in rest) p h) [
      | inl a ↦ inl (inr (for_inside head first ls last (λ c. closed (spell_lines ls) (lines_have ls Done c)) a))
      | inr b ↦ inr b
    ]

    branch_has : (b : BranchTree) (rest : Steps) → HasItem (pieces_in (branch_steps b rest)) p → Or (spell_branch b) rest
    branch_has (Branch k head first ls last other) rest h = elim (has_either (pieces_in (if_steps head (Inner first.start last.start (lines_steps ls Done) (else_steps other Done)))) (pieces_in rest) p h) [
      | inl a ↦ inl (inr (branch_inside head first ls last other (λ c. closed (spell_lines ls) (lines_have ls Done c)) (λ c. closed (spell_else other) (else_has other Done c)) a))
      | inr b ↦ inr b
    ]

    else_has : (other : ElseTree) (rest : Steps) → HasItem (pieces_in (else_steps other rest)) p → Or (spell_else other) rest
    else_has NoElse rest h = inr h
    else_has (ElseBlock k first ls last) rest h = elim (has_either (pieces_in (lines_steps ls Done)) (pieces_in rest) p h) [
      | inl a ↦ inl (inr (block_has first last ls [] (closed (spell_lines ls) (lines_have ls Done a))))
      | inr b ↦ inr b
    ]
    else_has (ElseIf k b) rest h = next (word keyword.Else k) (spell_branch b) rest (branch_has b rest h)

    lines_have : (ls : Lines) (rest : Steps) → HasItem (pieces_in (lines_steps ls rest)) p → Or (spell_lines ls) rest
    lines_have NoLines rest h = inr h
    lines_have (Line s semicolon more) rest h = elim (stmt_has s (lines_steps more rest) h) [
      | inl a ↦ inl (has_left (spell_stmt s) (spell_some operator.Semicolon semicolon ++ spell_lines more) t a)
      | inr b ↦ behind (spell_stmt s) (spell_some operator.Semicolon semicolon ++ spell_lines more) rest (behind (spell_some operator.Semicolon semicolon) (spell_lines more) rest (lines_have more rest b))
    ]

  -- the body, where it is no header
  pub body_has : (g : FuncTree) → HasItem (pieces_in (lines_steps g.body Done)) p → HasItem (spell_lines g.body) t
  body_has g h = closed (spell_lines g.body) (lines_have g.body Done h)

  header_has : (g : FuncTree) → Header g.receiver g.signature ≡ p → HasItem (spell_func g) t
  header_has g s = elim (has_either (spell_receiver g.receiver) (spell_signature g.signature) t (same (Header g.receiver g.signature) s)) [
    | inl a ↦ inr (has_left (spell_receiver g.receiver) _ t a)
    | inr b ↦ inr (has_right (spell_receiver g.receiver) _ t (inr (has_left (spell_signature g.signature) _ t b)))
  ]

  pub func_has : (g : FuncTree) → HasItem (pieces_of g) p → HasItem (spell_func g) t
  func_has g (inl s) = header_has g s
  func_has g (inr h) = inr (has_right (spell_receiver g.receiver) _ t (inr (has_right (spell_signature g.signature) _ t (block_has g.open_brace g.close_brace g.body [] (body_has g h)))))
