-- What stands behind a simple statement or a specification, and how an expression begins.
use Rattle.std.proofs.Common.{◌≡◌, ℕ, Bool, true, false, List, [], ◌∷◌, ◌++◌, None, refl, sym, subst, append_assoc}
use Rattle.go_tree_nodes.specs.text_core.declared.span.Span.{Span}
use Rattle.go_tree_nodes.specs.token_core.declared.kind.Keyword.TheVariants as keyword
use Rattle.go_tree_nodes.specs.token_core.declared.kind.Operator.{Operator}
use Rattle.go_tree_nodes.specs.token_core.declared.kind.Operator.TheVariants as operator
use Rattle.go_tree_nodes.specs.declared.names.Ident.{Ident}
use Rattle.go_tree_nodes.specs.declared.names.TextLiteral.{TextLiteral}
use Rattle.go_tree_nodes.specs.Terminals.{Number, Terminal, terminal}
use Rattle.go_tree_nodes.specs.Trees.{Separated, One, Then, ExprTree, SimpleTree, Alone, Step, Assign, Update, Define}
use Rattle.go_tree_nodes.specs.Spelling.{mark, word, spell_ident, spell_text, spell, spell_exprs, spell_simple}
use Rattle.go_tree_nodes.specs.Rules.{is_unary, is_step, is_update, Wf, Wf_exprs, Wf_simple}
use Rattle.go_parse_reader.specs.types.mirrors.Marks.{mark_at, keyword_at, mark_that}
use Rattle.go_parse_reader.specs.types.mirrors.TypeReading.{begins_type}
use Rattle.go_parse_reader.proofs.TypesMarks.{mark_not}
use Rattle.go_parse_reader.proofs.ExprsBehind.{not_same, not_unary, Stops, stops_mark, stops_step, stops_update, stops_block}
use Rattle.go_parse_reader.proofs.ExprsFronts.{first_of}
use Rattle.go_parse_reader.proofs.ExprsExprLists.{StopsList, exprs_first_of}
use Rattle.go_parse_core.specs.stmts.mirrors.StmtReading.{value_word}

-- nothing of this goes on with a type, an expression, a list of them or a simple statement, and no `else` does with an `if`
pub record Ends (header : Bool) (ts : List Terminal) : Type 0 where
  pub stops : StopsList header ts
  pub dot : mark_at operator.Dot ts ≡ None
  pub no_type : begins_type ts ≡ false
  pub define : mark_at operator.Define ts ≡ None
  pub assign : mark_at operator.Assign ts ≡ None
  pub step : mark_that is_step ts ≡ None
  pub update : mark_that is_update ts ≡ None
  pub otherwise : keyword_at keyword.Else ts ≡ None

pub ends_semicolon : (header : Bool) (s : Span) (ts : List Terminal) → Ends header (mark operator.Semicolon s ∷ ts)
ends_semicolon header s ts =
    record { stops = (stops_mark header operator.Semicolon s ts refl refl refl refl, refl); dot = refl; no_type = refl; define = refl; assign = refl; step = refl; update = refl; otherwise = refl }

pub ends_brace : (z : Span) (ts : List Terminal) → Ends false (mark operator.CloseBrace z ∷ ts)
ends_brace z ts =
    record { stops = (stops_mark false operator.CloseBrace z ts refl refl refl refl, refl); dot = refl; no_type = refl; define = refl; assign = refl; step = refl; update = refl; otherwise = refl }

pub ends_paren : (z : Span) (ts : List Terminal) → Ends false (mark operator.CloseParen z ∷ ts)
ends_paren z ts =
    record { stops = (stops_mark false operator.CloseParen z ts refl refl refl refl, refl); dot = refl; no_type = refl; define = refl; assign = refl; step = refl; update = refl; otherwise = refl }

-- in a header, a block begins behind
pub ends_block : (a : Span) (ts : List Terminal) → Ends true (mark operator.OpenBrace a ∷ ts)
ends_block a ts =
    record { stops = (stops_block a ts, refl); dot = refl; no_type = refl; define = refl; assign = refl; step = refl; update = refl; otherwise = refl }

-- inside a simple statement

pub stops_define : (header : Bool) (s : Span) (ts : List Terminal) → StopsList header (mark operator.Define s ∷ ts)
stops_define header s ts = (stops_mark header operator.Define s ts refl refl refl refl, refl)

pub stops_assign : (header : Bool) (s : Span) (ts : List Terminal) → StopsList header (mark operator.Assign s ∷ ts)
stops_assign header s ts = (stops_mark header operator.Assign s ts refl refl refl refl, refl)

-- what is known of the operator behind the expression of a statement
pub record IsBehind (header : Bool) (o : Operator) (s : Span) (ts : List Terminal) : Type 0 where
  pub stops : StopsList header (mark o s ∷ ts)
  pub define : mark_at operator.Define (mark o s ∷ ts) ≡ None
  pub assign : mark_at operator.Assign (mark o s ∷ ts) ≡ None
  pub no_block : mark_at operator.OpenBrace (mark o s ∷ ts) ≡ None

is_behind : (header : Bool) (test : Operator → Bool) (o : Operator) (s : Span) (ts : List Terminal) → test o ≡ true → Stops header 1 (mark o s ∷ ts) → ((want : Operator) → test want ≡ false → mark_at want (mark o s ∷ ts) ≡ None) → test operator.Comma ≡ false → test operator.Define ≡ false → test operator.Assign ≡ false → test operator.OpenBrace ≡ false → IsBehind header o s ts
is_behind header test o s ts is stops not comma define assign brace =
    record { stops = (stops, not operator.Comma comma); define = not operator.Define define; assign = not operator.Assign assign; no_block = not operator.OpenBrace brace }

pub step_behind : (header : Bool) (o : Operator) (s : Span) (ts : List Terminal) → is_step o ≡ true → IsBehind header o s ts
step_behind header o s ts is =
    is_behind header is_step o s ts is (stops_step header o s ts is) (λ want other. mark_not want o s ts (not_same is_step o want (λ e. cc (e, is, other)))) refl refl refl refl

pub update_behind : (header : Bool) (o : Operator) (s : Span) (ts : List Terminal) → is_update o ≡ true → IsBehind header o s ts
update_behind header o s ts is =
    is_behind header is_update o s ts is (stops_update header o s ts is) (λ want other. mark_not want o s ts (not_same is_update o want (λ e. cc (e, is, other)))) refl refl refl refl

pub update_no_step : (o : Operator) → is_update o ≡ true → is_step o ≡ false
update_no_step operator.StarAssign is = refl
update_no_step operator.SlashAssign is = refl
update_no_step operator.PercentAssign is = refl
update_no_step operator.ShiftLeftAssign is = refl
update_no_step operator.ShiftRightAssign is = refl
update_no_step operator.AndAssign is = refl
update_no_step operator.AndNotAssign is = refl
update_no_step operator.PlusAssign is = refl
update_no_step operator.MinusAssign is = refl
update_no_step operator.OrAssign is = refl
update_no_step operator.CaretAssign is = refl
update_no_step _ is = cc

-- an expression begins neither with a semicolon or a brace nor with a keyword of a statement
pub record Begins (ts : List Terminal) : Type 0 where
  pub no_semicolon : mark_at operator.Semicolon ts ≡ None
  pub no_block : mark_at operator.OpenBrace ts ≡ None
  pub no_brace : mark_at operator.CloseBrace ts ≡ None
  pub no_value : value_word ts ≡ None
  pub no_return : keyword_at keyword.Return ts ≡ None
  pub no_break : keyword_at keyword.Break ts ≡ None
  pub no_continue : keyword_at keyword.Continue ts ≡ None
  pub no_if : keyword_at keyword.If ts ≡ None
  pub no_for : keyword_at keyword.For ts ≡ None

number_begins : (n : ℕ) (s : Span) (ts : List Terminal) → Begins (terminal (Number n) s ∷ ts)
number_begins n s ts = record { no_semicolon = refl; no_block = refl; no_brace = refl; no_value = refl; no_return = refl; no_break = refl; no_continue = refl; no_if = refl; no_for = refl }

text_begins : (t : TextLiteral) (ts : List Terminal) → Begins (spell_text t ∷ ts)
text_begins t ts = record { no_semicolon = refl; no_block = refl; no_brace = refl; no_value = refl; no_return = refl; no_break = refl; no_continue = refl; no_if = refl; no_for = refl }

name_begins : (x : Ident) (ts : List Terminal) → Begins (spell_ident x ∷ ts)
name_begins x ts = record { no_semicolon = refl; no_block = refl; no_brace = refl; no_value = refl; no_return = refl; no_break = refl; no_continue = refl; no_if = refl; no_for = refl }

struct_begins : (s : Span) (ts : List Terminal) → Begins (word keyword.Struct s ∷ ts)
struct_begins s ts = record { no_semicolon = refl; no_block = refl; no_brace = refl; no_value = refl; no_return = refl; no_break = refl; no_continue = refl; no_if = refl; no_for = refl }

paren_begins : (s : Span) (ts : List Terminal) → Begins (mark operator.OpenParen s ∷ ts)
paren_begins s ts = record { no_semicolon = refl; no_block = refl; no_brace = refl; no_value = refl; no_return = refl; no_break = refl; no_continue = refl; no_if = refl; no_for = refl }

unary_begins : (o : Operator) (s : Span) (ts : List Terminal) → is_unary o ≡ true → Begins (mark o s ∷ ts)
unary_begins o s ts is =
    let not = λ (want : Operator) (other : is_unary want ≡ false). mark_not want o s ts (not_unary o want is other) in
    record { no_semicolon = not operator.Semicolon refl; no_block = not operator.OpenBrace refl; no_brace = not operator.CloseBrace refl; no_value = refl; no_return = refl; no_break = refl; no_continue = refl; no_if = refl; no_for = refl }

pub expr_begins : (header : Bool) (t : ExprTree) (ts : List Terminal) → Wf header t → Begins (spell t ++ ts)
expr_begins header t ts wf = first_of Begins number_begins text_begins name_begins paren_begins unary_begins struct_begins header t ts wf

pub exprs_begin : (header : Bool) (es : Separated ExprTree) (ts : List Terminal) → Wf_exprs header es → Begins (spell_exprs es ++ ts)
exprs_begin header es ts wf = exprs_first_of Begins number_begins text_begins name_begins paren_begins unary_begins struct_begins header es ts wf

pub simple_begins : (header : Bool) (c : SimpleTree) (ts : List Terminal) → Wf_simple header c → Begins (spell_simple c ++ ts)
simple_begins header (Alone t) ts wf = expr_begins header t ts wf
simple_begins header (Step t o s) ts wf = subst Begins (sym (append_assoc (spell t) (mark o s ∷ []) ts)) (expr_begins header t _ wf.1)
simple_begins header (Assign es s more) ts wf = subst Begins (sym (append_assoc (spell_exprs es) (mark operator.Assign s ∷ spell_exprs more) ts)) (exprs_begin header es _ wf.0)
simple_begins header (Update t o s e) ts wf = subst Begins (sym (append_assoc (spell t) (mark o s ∷ spell e) ts)) (expr_begins header t _ wf.1)
simple_begins header (Define (One x) s es) ts wf = name_begins x _
simple_begins header (Define (Then x comma more) s es) ts wf = name_begins x _
