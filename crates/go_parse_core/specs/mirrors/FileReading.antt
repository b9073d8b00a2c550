-- Reading imports, functions and files.
use Rattle.std.specs.Prelude.{ℕ, zero, suc, Bool, true, false, ◌||◌, List, [], ◌∷◌, length, Option, Some, None, Result, Ok, Err, is_some}
use Rattle.go_tree_nodes.specs.text_core.declared.span.Span.{Span}
use Rattle.go_tree_nodes.specs.token_core.declared.kind.Keyword.TheVariants as keyword
use Rattle.go_tree_nodes.specs.token_core.declared.kind.Operator.TheVariants as operator
use Rattle.go_tree_nodes.specs.declared.names.Ident.{Ident}
use Rattle.go_tree_nodes.specs.declared.names.TextLiteral.{TextLiteral}
use Rattle.go_tree_nodes.specs.declared.types.TypeName.{TypeName}
use Rattle.go_tree_nodes.specs.declared.decls.ValueKind.{ValueKind}
use Rattle.go_tree_nodes.specs.declared.files.ImportName.{ImportName}
use Rattle.go_tree_nodes.specs.declared.files.ImportName.TheVariants as import_name
use Rattle.go_tree_nodes.specs.declared.files.Receiver.{Receiver}
use Rattle.go_tree_nodes.specs.Terminals.{Terminal}
use Rattle.go_tree_nodes.specs.Trees.{SignatureTree, FuncTree, DeclTree, Value, Types, Func, TopTree, ImportSpecTree, ImportTree, FileTree}
use Rattle.go_parse_reader.specs.types.mirrors.Marks.{Stuck, Grammar, ◌>>=◌, Reading, MarkAhead, need, mark_at, keyword_at, name_at, text_at, some_mark}
use Rattle.go_parse_reader.specs.types.mirrors.TypeReading.{type_name_at, type_at, signature_at}
use Rattle.go_parse_core.specs.stmts.mirrors.StmtReading.{specs_at, value_at, value_word, types_at, Braced, braced, block_at}

-- imports

abbrev pub import_spec : ImportName → TextLiteral → ImportSpecTree
import_spec name path = record { name = name; path = path }

abbrev pub named_import : List Terminal → Option (Ident × List Terminal) → ImportName × List Terminal
named_import ts None = (import_name.Own, ts)
named_import ts (Some x) = (import_name.Named x.0, x.1)

abbrev pub dotted_import : List Terminal → MarkAhead → ImportName × List Terminal
dotted_import ts None = named_import ts (name_at ts)
dotted_import ts (Some dot) = (import_name.Dot dot.0, dot.1)

abbrev pub path_by : ImportName × List Terminal → Reading ImportSpecTree
path_by name = need (text_at name.1) >>= λ path. Ok (import_spec name.0 path.0, path.1)

abbrev pub import_spec_at : List Terminal → Reading ImportSpecTree
import_spec_at ts = path_by (dotted_import ts (mark_at operator.Dot ts))

-- the import declarations in front, at most turns of them

abbrev pub imports_by : (List Terminal → Reading (List ImportTree)) → List Terminal → MarkAhead → Reading (List ImportTree)
imports_by more ts None = Ok ([], ts)
imports_by more ts (Some k) = do
  specs ← specs_at import_spec_at k.1
  s ← need (mark_at operator.Semicolon specs.1)
  rest ← more s.1
  Ok (record { keyword = k.0; specs = specs.0; semicolon = s.0 } ∷ rest.0, rest.1)

unfoldable pub imports_go : ℕ → List Terminal → Reading (List ImportTree)
imports_go zero ts = Err Grammar
imports_go (suc turns) ts = imports_by (imports_go turns) ts (keyword_at keyword.Import ts)

-- functions

-- what stands behind the name of a receiver: a star, or another name
abbrev pub is_receiver_name : List Terminal → Bool
is_receiver_name ts = is_some (mark_at operator.Star ts) || is_some (name_at ts)

abbrev pub named_receiver : List Terminal → Ident → List Terminal → Bool → Option Ident × List Terminal
named_receiver ts x rest true = (Some x, rest)
named_receiver ts x rest false = (None, ts)

abbrev pub receiver_name : List Terminal → Option (Ident × List Terminal) → Option Ident × List Terminal
receiver_name ts None = (None, ts)
receiver_name ts (Some x) = named_receiver ts x.0 x.1 (is_receiver_name x.1)

abbrev pub receiver : Span → Option Ident → Option Span → TypeName → Option Span → Span → Receiver
receiver first name star base comma last = record { open_paren = first; name = name; star = star; base = base; comma = comma; close_paren = last }

abbrev pub receiver_from : Span → Option Ident → Option Span × List Terminal → Reading Receiver
receiver_from first name star = do
  base ← type_name_at star.1
  comma ← Ok (some_mark operator.Comma base.1)
  close ← need (mark_at operator.CloseParen comma.1)
  Ok (receiver first name star.0 base.0 comma.0 close.0, close.1)

abbrev pub receiver_at : Span → List Terminal → Reading Receiver
receiver_at first ts = let name = receiver_name ts (name_at ts) in receiver_from first name.0 (some_mark operator.Star name.1)

abbrev pub receiver_by : List Terminal → MarkAhead → Reading (Option Receiver)
receiver_by ts None = Ok (None, ts)
receiver_by ts (Some first) = receiver_at first.0 first.1 >>= λ r. Ok (Some r.0, r.1)

abbrev pub func_tree : Span → Option Receiver → Ident → SignatureTree → Braced → FuncTree
func_tree func r name signature body = record { func = func; receiver = r; name = name; signature = signature; open_brace = body.0; body = body.1; close_brace = body.2 }

-- the function behind `func`: its types and its body are at most b high
unfoldable pub func_at : ℕ → Span → List Terminal → Reading FuncTree
func_at b func ts = do
  r ← receiver_by ts (mark_at operator.OpenParen ts)
  x ← need (name_at r.1)
  signature ← signature_at (type_at b) x.1
  body ← braced (block_at b) signature.1
  Ok (func_tree func r.0 x.0 signature.0 body.0, body.1)

-- declarations

abbrev pub by_func : ℕ → MarkAhead → Reading DeclTree
by_func b None = Err Grammar
by_func b (Some k) = func_at b k.0 k.1 >>= λ x. Ok (Func x.0, x.1)

abbrev pub by_types : ℕ → List Terminal → MarkAhead → Reading DeclTree
by_types b ts None = by_func b (keyword_at keyword.Func ts)
by_types b ts (Some k) = types_at b k.0 k.1 >>= λ x. Ok (Types x.0, x.1)

abbrev pub by_values : ℕ → List Terminal → Option (ValueKind × Span × List Terminal) → Reading DeclTree
by_values b ts None = by_types b ts (keyword_at keyword.«Type» ts)
by_values b ts (Some v) = value_at b v.0 v.1 v.2 >>= λ x. Ok (Value x.0, x.1)

-- the declaration in front, whose parts are at most b high
unfoldable pub decl_at : ℕ → List Terminal → Reading DeclTree
decl_at b ts = by_values b ts (value_word ts)

unfoldable pub top_at : ℕ → List Terminal → Reading TopTree
top_at b ts = do
  d ← decl_at b ts
  s ← need (mark_at operator.Semicolon d.1)
  Ok (record { decl = d.0; semicolon = s.0 }, s.1)

-- the declarations that all the terminals make, at most turns of them
unfoldable pub tops_go : ℕ → ℕ → List Terminal → Result (List TopTree) Stuck
tops_go b turns [] = Ok []
tops_go b zero (t ∷ ts) = Err Grammar
tops_go b (suc turns) (t ∷ ts) = top_at b (t ∷ ts) >>= λ d. (tops_go b turns d.1 >>= λ ds. Ok (d.0 ∷ ds))

-- the file that all the terminals make, whose declarations are at most one higher than b
unfoldable pub file_at : ℕ → List Terminal → Result FileTree Stuck
file_at b ts = do
  p ← need (keyword_at keyword.Package ts)
  x ← need (name_at p.1)
  s ← need (mark_at operator.Semicolon x.1)
  is ← imports_go (suc (length s.1)) s.1
  ds ← tops_go b (length is.1) is.1
  Ok (record { clause = p.0; name = x.0; semicolon = s.0; imports = is.0; decls = ds })
