-- What is noted of a piece stands where its occurrences stand.
use Rattle.std.proofs.Common.{◌≡◌, ℕ, Bool, true, false, List, [], ◌∷◌, ◌++◌, map, refl, sym, ap, ◌∙◌, append_assoc, append-nil}
use Rattle.std.specs.Prelude.{Option, Some, None, if◌then◌else◌}
use Rattle.std.proofs.lemmas.List.{map-append}
use Rattle.go_constant_core.specs.text_core.declared.span.Span.{Span}
use Rattle.go_tree_nodes.specs.token_core.declared.kind.Operator.{Operator}
use Rattle.go_tree_nodes.specs.token_core.declared.kind.Operator.TheVariants as operators
use Rattle.go_tree_nodes.specs.declared.names.Ident.{Ident}
use Rattle.go_tree_nodes.specs.declared.types.TypeName.{TypeName}
use Rattle.go_tree_nodes.specs.declared.decls.ValueKind.{ValueKind}
use Rattle.go_tree_nodes.specs.declared.files.Receiver.{Receiver}
use Rattle.go_tree_nodes.specs.Trees as tree
use Rattle.go_tree_nodes.specs.Trees.{Separated, One, Then, TypeTree, SignatureTree, Interface, NoMethods, Method, ExprTree, Integer, Text, Named, Paren, Unary, Binary, Select, Call, Literal, StructLiteral, ValueSpecTree, Specs, Single, Group, SimpleTree, Alone, Step, Assign, Update, Define, IfTree, ForTree, Forever, While, Clauses, StmtTree, BranchTree, ElseTree, Lines, Empty, Simple, Return, Break, Continue, Block, If, For, Branch, NoElse, ElseBlock, ElseIf, NoLines, Line, FuncTree}
use Rattle.go_tree_nodes.specs.Rules.{Wf, Wf_exprs, Wf_values, Wf_simple}
use Rattle.go_tree_nodes.specs.Spelling.{spell_value_spec, spell_simple, spell_branch}
use Rattle.go_tree_core.specs.declared.occurrence.Context.TheVariants as contexts
use Rattle.go_tree_core.specs.declared.occurrence.Occ.{Occ}
use Rattle.go_tree_core.specs.Occurrences.{under, expr_occs, exprs_occs, type_occs, signature_occs, receiver_occs, some_type_occs, values_occs, value_spec_occs, group_occs, specs_occs, simple_occs, some_simple_occs, some_expr_occs, init_occs, if_occs, for_occs, stmt_occs, branch_occs, else_occs, lines_occs, func_occs}
use Rattle.go_expr_core.specs.local_core.WalksEnds.{is_blank_target}
use Rattle.go_expr_core.specs.local_core.Steps.{Piece, Header, Spec, Act, Condition, Given, Newness, EachFirst, OneNew, Steps, Done, Check, Declare, Inner}
use Rattle.go_expr_core.specs.local_core.Outline.{idents, end_of, spec_steps, group_steps, specs_steps, simple_steps, some_simple_steps, init_steps, some_condition_steps, if_steps, for_steps, stmt_steps, branch_steps, else_steps, lines_steps, func_steps}
use Rattle.go_expr_core.specs.denote_core.declared.things.Stand.TheVariants as stands
use Rattle.go_expr_core.specs.declared.things.Use.{Use}
use Rattle.go_expr_core.specs.Looks.{Looks}
use Rattle.go_expr_core.specs.Uses.{uses, type_name_uses, use_of, signature_spots}
use Rattle.go_expr_core.specs.TypeUses.{type_uses, signature_uses}
use Rattle.go_expr_core.specs.Lists.{exprs_uses}
use Rattle.go_expr_core.specs.Laws.{use_place, occurrence_place}
use Rattle.go_expr_core.proofs.Occurring.{uses_occur}
use Rattle.go_stmt_core.specs.piece.Types.{some_type_uses}
use Rattle.go_stmt_core.specs.piece.Targets.{target_uses, targets_uses}
use Rattle.go_stmt_core.specs.piece.Specifications.{values_uses}
use Rattle.go_stmt_core.specs.piece.Headers.{receiver_uses}
use Rattle.go_stmt_core.specs.piece.Statements.{simple_uses}
use Rattle.go_stmt_core.specs.piece.Pieces.{piece_uses}
use Rattle.go_stmt_core.specs.piece.Laws.{piece_occs, IsWellFormedPiece, steps_occs, PiecesHaveOccurrences}

-- pieces

-- the place behind a unary operator is the same left of `=` and elsewhere
under_target : (op : Operator) → under op contexts.Target ≡ under op contexts.«Value»
under_target operators.Star = refl
under_target _ = refl

target_occs : (e : ExprTree) → expr_occs contexts.Target e ≡ (if is_blank_target e then [] else expr_occs contexts.«Value» e)
target_occs (Integer n span) = refl
target_occs (Text t) = refl
target_occs (Named x) = refl
target_occs (Paren first e last) = target_occs e
target_occs (Unary op span e) = ap (λ p. expr_occs p e) (under_target op)
target_occs (Binary a op span b) = refl
target_occs (Select e dot x) = refl
target_occs (Call e first items last) = refl
target_occs (Literal n first items last) = refl
target_occs (StructLiteral t first items last) = refl

module _ {T S D P : Type 0} (looks : Looks T S D P) where
  -- these uses stand where these occurrences stand
  record Occur (us : List (Use D P)) (os : List Occ) : Type 0 where
    is : map use_place us ≡ map occurrence_place os

  none : Occur [] []
  none = record { is = refl }

  both : (us vs : List (Use D P)) (os ps : List Occ) → Occur us os → Occur vs ps → Occur (us ++ vs) (os ++ ps)
  both us vs os ps first second = record {
    is = map-append use_place us vs ∙ (ap (λ l. l ++ map use_place vs) first.is ∙ (ap (λ l. map occurrence_place os ++ l) second.is ∙ sym (map-append occurrence_place os ps)));
  }

  value_occurs : (header : Bool) (e : ExprTree) → Wf header e → Occur (uses looks stands.«Value» e) (expr_occs contexts.«Value» e)
  value_occurs header e wf = record { is = (uses_occur T S D P).expressions looks stands.«Value» header e wf }

  list_occurs : (header : Bool) (es : Separated ExprTree) → Wf_exprs header es → Occur (exprs_uses looks es) (exprs_occs contexts.«Value» es)
  list_occurs header (One e) wf = value_occurs header e wf
  list_occurs header (Then e comma more) wf = both (uses looks stands.«Value» e) (exprs_uses looks more) (expr_occs contexts.«Value» e) (exprs_occs contexts.«Value» more) (value_occurs header e wf.0) (list_occurs header more wf.1)

  type_occurs : (t : TypeTree) → Occur (type_uses looks t) (type_occs t)
  type_occurs t = record { is = (uses_occur T S D P).types looks t }

  -- a signature is that of the method of an interface type
  signature_occurs : (s : SignatureTree) (x : Ident) → Occur (signature_uses looks s) (signature_occs s)
  signature_occurs s x = record {
    is = ap (λ l. map use_place (map (use_of looks) l)) (sym (append-nil (signature_spots looks s)))
        ∙ ((uses_occur T S D P).types looks (Interface x.span x.span (Method x s None NoMethods) x.span) ∙ ap (map occurrence_place) (append-nil (signature_occs s)));
  }

  name_occurs : (r : Receiver) → Occur (receiver_uses looks (Some r)) (receiver_occs (Some r))
  name_occurs r = by r.base
    where
      by : (n : TypeName) → Occur (type_name_uses looks n) (type_occs (tree.NamedType n))
      by n = type_occurs (tree.NamedType n)

  receiver_occurs : (r : Option Receiver) → Occur (receiver_uses looks r) (receiver_occs r)
  receiver_occurs None = none
  receiver_occurs (Some r) = name_occurs r

  target_occurs : (header : Bool) (e : ExprTree) → Wf header e → Occur (target_uses looks e) (expr_occs contexts.Target e)
  target_occurs header e wf = record { is = (by (is_blank_target e)).is ∙ ap (map occurrence_place) (sym (target_occs e)) }
    where
      by : (b : Bool) → Occur (if b then [] else uses looks stands.«Value» e) (if b then [] else expr_occs contexts.«Value» e)
      by true = none
      by false = value_occurs header e wf

  targets_occur : (header : Bool) (es : Separated ExprTree) → Wf_exprs header es → Occur (targets_uses looks es) (exprs_occs contexts.Target es)
  targets_occur header (One e) wf = target_occurs header e wf
  targets_occur header (Then e comma more) wf = both (target_uses looks e) (targets_uses looks more) (expr_occs contexts.Target e) (exprs_occs contexts.Target more) (target_occurs header e wf.0) (targets_occur header more wf.1)

  some_type_occurs : (t : Option TypeTree) → Occur (some_type_uses looks t) (some_type_occs t)
  some_type_occurs None = none
  some_type_occurs (Some t) = type_occurs t

  values_occur : (v : Option (Span × Separated ExprTree)) → Wf_values v → Occur (values_uses looks v) (values_occs v)
  values_occur None wf = none
  values_occur (Some v) wf = list_occurs false v.1 wf

  simple_occurs : (header : Bool) (s : SimpleTree) → Wf_simple header s → Occur (simple_uses looks s) (simple_occs s)
  simple_occurs header (Alone e) wf = value_occurs header e wf
  simple_occurs header (Step e op span) wf = value_occurs header e wf.1
  simple_occurs header (Assign ts span es) wf = both (targets_uses looks ts) (exprs_uses looks es) (exprs_occs contexts.Target ts) (exprs_occs contexts.«Value» es) (targets_occur header ts wf.0) (list_occurs header es wf.1)
  simple_occurs header (Update e op span v) wf =
      both (uses looks stands.«Value» e) (uses looks stands.«Value» v) (expr_occs contexts.«Value» e) (expr_occs contexts.«Value» v) (value_occurs header e wf.1) (value_occurs header v wf.2)
  simple_occurs header (Define xs span es) wf = list_occurs header es wf

  piece_occurs : (header : Bool) (p : Piece) → IsWellFormedPiece header p → Occur (piece_uses looks p) (piece_occs p)
  piece_occurs header (Header r s) wf = both (receiver_uses looks r) (signature_uses looks s) (receiver_occs r) (signature_occs s) (receiver_occurs r) (signature_occurs s (record { name = []; span = record { start = 0; end = 0 } }))
  piece_occurs header (Spec kind v) wf =
      both (some_type_uses looks v.type_expr) (values_uses looks v.values) (some_type_occs v.type_expr) (values_occs v.values) (some_type_occurs v.type_expr) (values_occur v.values wf)
  piece_occurs header (Act s) wf = simple_occurs header s wf
  piece_occurs header (Condition e) wf = value_occurs header e wf
  piece_occurs header (Given place None) wf = none
  piece_occurs header (Given place (Some es)) wf = list_occurs false es wf

  placed : (header : Bool) (p : Piece) → IsWellFormedPiece header p → map use_place (piece_uses looks p) ≡ map occurrence_place (piece_occs p)
  placed header p wf = (piece_occurs header p wf).is

-- functions

-- these occurrences are those of these steps, before further ones
record Goes (os : List Occ) (f : Steps → Steps) : Type 0 where
  goes : (us : List Occ) (rest : Steps) → us ≡ steps_occs rest → os ++ us ≡ steps_occs (f rest)

nothing : Goes [] (λ rest. rest)
nothing = record { goes = λ us rest h. h }

check : (p : Piece) → Goes (piece_occs p) (λ rest. Check p rest)
check p = record { goes = λ us rest h. ap (λ l. piece_occs p ++ l) h }

declare : (m : Newness) (from : ℕ) (p : Piece) (xs : List Ident) → Goes (piece_occs p) (λ rest. Declare m from p xs rest)
declare m from p xs = record { goes = λ us rest h. ap (λ l. piece_occs p ++ l) h }

one_then : {os ps : List Occ} {f g : Steps → Steps} → Goes os f → Goes ps g → Goes (os ++ ps) (λ rest. f (g rest))
one_then {os} {ps} {f} {g} first second = record { goes = λ us rest h. append_assoc os ps us ∙ first.goes (ps ++ us) (g rest) (second.goes us rest h) }

inner : {os : List Occ} {f : Steps → Steps} (o c : ℕ) → Goes os f → Goes os (λ rest. Inner o c (f Done) rest)
inner {os} {f} o c inside_it = record { goes = λ us rest h. ap (λ l. os ++ l) h ∙ ap (λ l. l ++ steps_occs rest) (sym (append-nil os) ∙ inside_it.goes [] Done refl) }

simple_goes : (s : SimpleTree) → Goes (simple_occs s) (λ rest. simple_steps s rest)
simple_goes (Alone e) = check (Act (Alone e))
simple_goes (Step e op span) = check (Act (Step e op span))
simple_goes (Assign ts span es) = check (Act (Assign ts span es))
simple_goes (Update e op span v) = check (Act (Update e op span v))
simple_goes (Define xs span es) = declare OneNew (end_of (spell_simple (Define xs span es))) (Act (Define xs span es)) (idents xs)

spec_goes : (k : ValueKind) (v : ValueSpecTree) → Goes (value_spec_occs v) (λ rest. spec_steps k v rest)
spec_goes k v = declare EachFirst (end_of (spell_value_spec v)) (Spec k v) (idents v.names)

group_goes : (k : ValueKind) (vs : List (ValueSpecTree × Option Span)) → Goes (group_occs value_spec_occs vs) (λ rest. group_steps k vs rest)
group_goes k [] = nothing
group_goes k (v ∷ vs) = one_then (spec_goes k v.0) (group_goes k vs)

specs_goes : (k : ValueKind) (s : Specs ValueSpecTree) → Goes (specs_occs value_spec_occs s) (λ rest. specs_steps k s rest)
specs_goes k (Single v) = spec_goes k v
specs_goes k (Group first vs last) = group_goes k vs

some_simple_goes : (s : Option SimpleTree) → Goes (some_simple_occs s) (λ rest. some_simple_steps s rest)
some_simple_goes None = nothing
some_simple_goes (Some s) = simple_goes s

init_goes : (i : Option (Option SimpleTree × Span)) → Goes (init_occs i) (λ rest. init_steps i rest)
init_goes None = nothing
init_goes (Some i) = some_simple_goes i.0

some_condition_goes : (e : Option ExprTree) → Goes (some_expr_occs e) (λ rest. some_condition_steps e rest)
some_condition_goes None = nothing
some_condition_goes (Some e) = check (Condition e)

if_goes : (h : IfTree) → Goes (if_occs h) (λ rest. if_steps h rest)
if_goes h = one_then (init_goes h.init) (check (Condition h.condition))

for_goes : (h : ForTree) → Goes (for_occs h) (λ rest. for_steps h rest)
for_goes Forever = nothing
for_goes (While e) = check (Condition e)
for_goes (Clauses init a test b post) = one_then (some_simple_goes init) (one_then (some_condition_goes test) (some_simple_goes post))

mutual
  stmt_goes : (s : StmtTree) → Goes (stmt_occs s) (λ rest. stmt_steps s rest)
  stmt_goes Empty = nothing
  stmt_goes (tree.Declare v) = specs_goes v.kind v.specs
  stmt_goes (Simple s) = simple_goes s
  stmt_goes (Return s es) = check (Given s es)
  stmt_goes (Break s) = nothing
  stmt_goes (Continue s) = nothing
  stmt_goes (Block first ls last) = inner first.start last.start (lines_go ls)
  stmt_goes (If b) = branch_goes b
  stmt_goes (For k head first ls last) = inner k.start last.end (one_then (for_goes head) (inner first.start last.start (lines_go ls)))

  branch_goes : (b : BranchTree) → Goes (branch_occs b) (λ rest. branch_steps b rest)
  branch_goes (Branch k head first ls last otherwise) = inner k.start (end_of (spell_branch (Branch k head first ls last otherwise))) (one_then (if_goes head) (one_then (inner first.start last.start (lines_go ls)) (else_goes otherwise)))

  else_goes : (e : ElseTree) → Goes (else_occs e) (λ rest. else_steps e rest)
  else_goes NoElse = nothing
  else_goes (ElseBlock k first ls last) = inner first.start last.start (lines_go ls)
  else_goes (ElseIf k b) = branch_goes b

  lines_go : (ls : Lines) → Goes (lines_occs ls) (λ rest. lines_steps ls rest)
  lines_go NoLines = nothing
  lines_go (Line s semicolon more) = one_then (stmt_goes s) (lines_go more)

function_goes : (f : FuncTree) → func_occs f ≡ steps_occs (func_steps f)
function_goes f =
    sym (append_assoc (receiver_occs f.receiver) (signature_occs f.signature) (lines_occs f.body))
    ∙ ap (λ l. (receiver_occs f.receiver ++ signature_occs f.signature) ++ l) (sym (append-nil (lines_occs f.body)) ∙ (lines_go f.body).goes [] Done refl)

pub pieces_occur : (T S D P : Type 0) → PiecesHaveOccurrences T S D P
pieces_occur T S D P = record { pieces = λ looks header p wf. placed looks header p wf; functions = function_goes }
