-- Lists of expressions, specifications, statements and functions with another spelling of one identifier: as Respells for expressions, a constructor
-- for each place where the identifier may stand, and all else is the same. Names that are declared keep their spelling.
--
-- docs/RULES.md, "Occurrences".
use Rattle.std.specs.Prelude.{◌≡◌, ℕ, false, List, ◌∷◌, Option, Some}
use Rattle.go_tree_nodes.specs.token_core.declared.kind.Operator.{Operator}
use Rattle.go_tree_nodes.specs.text_core.declared.span.Span.{Span}
use Rattle.go_tree_nodes.specs.declared.names.Ident.{Ident}
use Rattle.go_tree_nodes.specs.declared.decls.ValueKind.{ValueKind}
use Rattle.go_tree_nodes.specs.declared.files.Receiver.{Receiver}
use Rattle.go_tree_nodes.specs.declared.types.TypeName.{TypeName}
use Rattle.go_tree_nodes.specs.Trees as tree
use Rattle.go_tree_nodes.specs.Trees.{Separated, One, Then, TypeTree, SignatureTree, ExprTree, ValueSpecTree, Specs, Single, Group, SimpleTree, Alone, Step, Assign, Update, Define, IfTree, ForTree, While, Clauses, StmtTree, BranchTree, ElseTree, Lines, Simple, Return, Block, If, For, Branch, ElseBlock, ElseIf, Line, FuncTree}
use Rattle.go_names_core.specs.local_core.WalksEnds.{is_blank_target}
use Rattle.go_names_core.specs.local_core.Steps.{Piece, Header, Spec, Act, Condition, Given, Newness, Steps, Check, Declare, Inner}
use Rattle.go_stmt_core.specs.expr_core.Respelling.{Respells, RespellsName, RespellsType, RespellsSignature}

pub data RespellsExprs (x : Ident) (name : List ℕ) : Separated ExprTree → Separated ExprTree → Type 0 where
  InOnly : {e f : ExprTree} → Respells x name e f → RespellsExprs x name (One e) (One f)
  InFirst : {e f : ExprTree} {comma : Span} {more : Separated ExprTree} → Respells x name e f → RespellsExprs x name (Then e comma more) (Then f comma more)
  InLater : {e : ExprTree} {comma : Span} {more rest : Separated ExprTree} → RespellsExprs x name more rest → RespellsExprs x name (Then e comma more) (Then e comma rest)

-- a specification of these names, of this type, with these values
abbrev pub value_spec_with : Separated Ident → Option TypeTree → Option (Span × Separated ExprTree) → ValueSpecTree
value_spec_with xs t vs = record { names = xs; type_expr = t; values = vs }

-- a specification, in its values
pub data RespellsValues (x : Ident) (name : List ℕ) : ValueSpecTree → ValueSpecTree → Type 0 where
  InValues : {xs : Separated Ident} {t : Option TypeTree} {s : Span} {es fs : Separated ExprTree} → RespellsExprs x name es fs → RespellsValues x name (value_spec_with xs t (Some (s, es))) (value_spec_with xs t (Some (s, fs)))

-- or in its type
pub data RespellsSpec (x : Ident) (name : List ℕ) : ValueSpecTree → ValueSpecTree → Type 0 where
  InSomeValues : {v w : ValueSpecTree} → RespellsValues x name v w → RespellsSpec x name v w
  InSpecType : {xs : Separated Ident} {t u : TypeTree} {vs : Option (Span × Separated ExprTree)} → RespellsType x name t u → RespellsSpec x name (value_spec_with xs (Some t) vs) (value_spec_with xs (Some u) vs)

-- of several in parentheses
pub data RespellsGroup (x : Ident) (name : List ℕ) : List (ValueSpecTree × Option Span) → List (ValueSpecTree × Option Span) → Type 0 where
  InFirstSpec : {v w : ValueSpecTree} {s : Option Span} {more : List (ValueSpecTree × Option Span)} → RespellsSpec x name v w → RespellsGroup x name ((v, s) ∷ more) ((w, s) ∷ more)
  InLaterSpecs : {v : ValueSpecTree × Option Span} {more rest : List (ValueSpecTree × Option Span)} → RespellsGroup x name more rest → RespellsGroup x name (v ∷ more) (v ∷ rest)

-- a receiver of another type
abbrev pub with_base : Receiver → TypeName → Receiver
with_base r n = record { open_paren = r.open_paren; name = r.name; star = r.star; base = n; comma = r.comma; close_paren = r.close_paren }

-- statements that may stand in a header

-- left of `=`, where `_` is no occurrence
pub data RespellsTarget (x : Ident) (name : List ℕ) : ExprTree → ExprTree → Type 0 where
  InTarget : {e f : ExprTree} → is_blank_target e ≡ false → is_blank_target f ≡ false → Respells x name e f → RespellsTarget x name e f

pub data RespellsTargets (x : Ident) (name : List ℕ) : Separated ExprTree → Separated ExprTree → Type 0 where
  InOnlyTarget : {e f : ExprTree} → RespellsTarget x name e f → RespellsTargets x name (One e) (One f)
  InFirstTarget : {e f : ExprTree} {comma : Span} {more : Separated ExprTree} → RespellsTarget x name e f → RespellsTargets x name (Then e comma more) (Then f comma more)
  InLaterTarget : {e : ExprTree} {comma : Span} {more rest : Separated ExprTree} → RespellsTargets x name more rest → RespellsTargets x name (Then e comma more) (Then e comma rest)

pub data RespellsSimple (x : Ident) (name : List ℕ) : SimpleTree → SimpleTree → Type 0 where
  InAlone : {e f : ExprTree} → Respells x name e f → RespellsSimple x name (Alone e) (Alone f)
  InStep : {e f : ExprTree} {op : Operator} {s : Span} → Respells x name e f → RespellsSimple x name (Step e op s) (Step f op s)
  InTargets : {ts us es : Separated ExprTree} {s : Span} → RespellsTargets x name ts us → RespellsSimple x name (Assign ts s es) (Assign us s es)
  InAssigned : {ts es fs : Separated ExprTree} {s : Span} → RespellsExprs x name es fs → RespellsSimple x name (Assign ts s es) (Assign ts s fs)
  InUpdated : {e f v : ExprTree} {op : Operator} {s : Span} → Respells x name e f → RespellsSimple x name (Update e op s v) (Update f op s v)
  InUpdate : {e v w : ExprTree} {op : Operator} {s : Span} → Respells x name v w → RespellsSimple x name (Update e op s v) (Update e op s w)
  InDefined : {xs : Separated Ident} {es fs : Separated ExprTree} {s : Span} → RespellsExprs x name es fs → RespellsSimple x name (Define xs s es) (Define xs s fs)

-- a piece of a function
pub data RespellsPiece (x : Ident) (name : List ℕ) : Piece → Piece → Type 0 where
  InReceiver : {r : Receiver} {n : TypeName} {g : SignatureTree} → RespellsName x name r.base n → RespellsPiece x name (Header (Some r) g) (Header (Some (with_base r n)) g)
  InSignature : {r : Option Receiver} {a b : SignatureTree} → RespellsSignature x name a b → RespellsPiece x name (Header r a) (Header r b)
  InSpec : {k : ValueKind} {v w : ValueSpecTree} → RespellsSpec x name v w → RespellsPiece x name (Spec k v) (Spec k w)
  InAct : {s t : SimpleTree} → RespellsSimple x name s t → RespellsPiece x name (Act s) (Act t)
  InCondition : {e f : ExprTree} → Respells x name e f → RespellsPiece x name (Condition e) (Condition f)
  InGiven : {s : Span} {es fs : Separated ExprTree} → RespellsExprs x name es fs → RespellsPiece x name (Given s (Some es)) (Given s (Some fs))

-- The steps of a function, in one of their pieces. Where a region begins and ends says nothing of what stands in it: it may end elsewhere.
pub data RespellsSteps (x : Ident) (name : List ℕ) : Steps → Steps → Type 0 where
  AtCheck : {p q : Piece} {rest : Steps} → RespellsPiece x name p q → RespellsSteps x name (Check p rest) (Check q rest)
  AtDeclare : {m : Newness} {a b : ℕ} {p q : Piece} {xs : List Ident} {rest : Steps} → RespellsPiece x name p q → RespellsSteps x name (Declare m a p xs rest) (Declare m b q xs rest)
  BehindCheck : {p : Piece} {rest more : Steps} → RespellsSteps x name rest more → RespellsSteps x name (Check p rest) (Check p more)
  BehindDeclare : {m : Newness} {a : ℕ} {p : Piece} {xs : List Ident} {rest more : Steps} → RespellsSteps x name rest more → RespellsSteps x name (Declare m a p xs rest) (Declare m a p xs more)
  InBlock : {o c d : ℕ} {inner other rest : Steps} → RespellsSteps x name inner other → RespellsSteps x name (Inner o c inner rest) (Inner o d other rest)
  BehindBlock : {o c : ℕ} {inner rest more : Steps} → RespellsSteps x name rest more → RespellsSteps x name (Inner o c inner rest) (Inner o c inner more)

-- statements and functions

pub data RespellsSpecs (x : Ident) (name : List ℕ) : Specs ValueSpecTree → Specs ValueSpecTree → Type 0 where
  InSingle : {v w : ValueSpecTree} → RespellsSpec x name v w → RespellsSpecs x name (Single v) (Single w)
  InGroup : {first last : Span} {vs ws : List (ValueSpecTree × Option Span)} → RespellsGroup x name vs ws → RespellsSpecs x name (Group first vs last) (Group first ws last)

pub data RespellsInit (x : Ident) (name : List ℕ) : Option SimpleTree → Option SimpleTree → Type 0 where
  InInit : {s t : SimpleTree} → RespellsSimple x name s t → RespellsInit x name (Some s) (Some t)

pub data RespellsIf (x : Ident) (name : List ℕ) : IfTree → IfTree → Type 0 where
  InIfInit : {s t : Option SimpleTree} {a : Span} {e : ExprTree} → RespellsInit x name s t
      → RespellsIf x name (record { init = Some (s, a); condition = e }) (record { init = Some (t, a); condition = e })
  InIfCondition : {i : Option (Option SimpleTree × Span)} {e f : ExprTree} → Respells x name e f → RespellsIf x name (record { init = i; condition = e }) (record { init = i; condition = f })

pub data RespellsFor (x : Ident) (name : List ℕ) : ForTree → ForTree → Type 0 where
  InWhile : {e f : ExprTree} → Respells x name e f → RespellsFor x name (While e) (While f)
  InForInit : {i j post : Option SimpleTree} {a b : Span} {test : Option ExprTree} → RespellsInit x name i j → RespellsFor x name (Clauses i a test b post) (Clauses j a test b post)
  InTest : {i post : Option SimpleTree} {a b : Span} {e f : ExprTree} → Respells x name e f → RespellsFor x name (Clauses i a (Some e) b post) (Clauses i a (Some f) b post)
  InPost : {i post other : Option SimpleTree} {a b : Span} {test : Option ExprTree} → RespellsInit x name post other → RespellsFor x name (Clauses i a test b post) (Clauses i a test b other)

mutual
  pub data RespellsStmt (x : Ident) (name : List ℕ) : StmtTree → StmtTree → Type 0 where
    InDeclare : {k : ValueKind} {place : Span} {vs ws : Specs ValueSpecTree} → RespellsSpecs x name vs ws
        → RespellsStmt x name (tree.Declare (record { kind = k; keyword = place; specs = vs })) (tree.Declare (record { kind = k; keyword = place; specs = ws }))
    InSimple : {s t : SimpleTree} → RespellsSimple x name s t → RespellsStmt x name (Simple s) (Simple t)
    InReturn : {s : Span} {es fs : Separated ExprTree} → RespellsExprs x name es fs → RespellsStmt x name (Return s (Some es)) (Return s (Some fs))
    InBraces : {first last : Span} {ls ms : Lines} → RespellsLines x name ls ms → RespellsStmt x name (Block first ls last) (Block first ms last)
    InIf : {a b : BranchTree} → RespellsBranch x name a b → RespellsStmt x name (If a) (If b)
    InForHead : {k first last : Span} {h i : ForTree} {ls : Lines} → RespellsFor x name h i → RespellsStmt x name (For k h first ls last) (For k i first ls last)
    InForBody : {k first last : Span} {h : ForTree} {ls ms : Lines} → RespellsLines x name ls ms → RespellsStmt x name (For k h first ls last) (For k h first ms last)

  pub data RespellsBranch (x : Ident) (name : List ℕ) : BranchTree → BranchTree → Type 0 where
    InHead : {k first last : Span} {h i : IfTree} {ls : Lines} {e : ElseTree} → RespellsIf x name h i → RespellsBranch x name (Branch k h first ls last e) (Branch k i first ls last e)
    InThen : {k first last : Span} {h : IfTree} {ls ms : Lines} {e : ElseTree} → RespellsLines x name ls ms → RespellsBranch x name (Branch k h first ls last e) (Branch k h first ms last e)
    InElse : {k first last : Span} {h : IfTree} {ls : Lines} {e f : ElseTree} → RespellsElse x name e f → RespellsBranch x name (Branch k h first ls last e) (Branch k h first ls last f)

  pub data RespellsElse (x : Ident) (name : List ℕ) : ElseTree → ElseTree → Type 0 where
    InElseBlock : {k first last : Span} {ls ms : Lines} → RespellsLines x name ls ms → RespellsElse x name (ElseBlock k first ls last) (ElseBlock k first ms last)
    InElseIf : {k : Span} {a b : BranchTree} → RespellsBranch x name a b → RespellsElse x name (ElseIf k a) (ElseIf k b)

  pub data RespellsLines (x : Ident) (name : List ℕ) : Lines → Lines → Type 0 where
    InFirstLine : {s t : StmtTree} {semicolon : Option Span} {more : Lines} → RespellsStmt x name s t → RespellsLines x name (Line s semicolon more) (Line t semicolon more)
    InLaterLines : {s : StmtTree} {semicolon : Option Span} {more rest : Lines} → RespellsLines x name more rest → RespellsLines x name (Line s semicolon more) (Line s semicolon rest)

abbrev pub with_receiver : FuncTree → Receiver → FuncTree
with_receiver f r = record { func = f.func; receiver = Some r; name = f.name; signature = f.signature; open_brace = f.open_brace; body = f.body; close_brace = f.close_brace }

abbrev pub with_signature : FuncTree → SignatureTree → FuncTree
with_signature f g = record { func = f.func; receiver = f.receiver; name = f.name; signature = g; open_brace = f.open_brace; body = f.body; close_brace = f.close_brace }

abbrev pub with_body : FuncTree → Lines → FuncTree
with_body f ls = record { func = f.func; receiver = f.receiver; name = f.name; signature = f.signature; open_brace = f.open_brace; body = ls; close_brace = f.close_brace }

pub data RespellsFunc (x : Ident) (name : List ℕ) : FuncTree → FuncTree → Type 0 where
  InFuncReceiver : {f : FuncTree} {r : Receiver} {n : TypeName} → f.receiver ≡ Some r → RespellsName x name r.base n → RespellsFunc x name f (with_receiver f (with_base r n))
  InFuncSignature : {f : FuncTree} {g : SignatureTree} → RespellsSignature x name f.signature g → RespellsFunc x name f (with_signature f g)
  InFuncBody : {f : FuncTree} {ls : Lines} → RespellsLines x name f.body ls → RespellsFunc x name f (with_body f ls)
