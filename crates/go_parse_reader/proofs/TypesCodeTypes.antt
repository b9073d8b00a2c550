-- What reading types gives, in the words of the program.
use Rattle.std.proofs.Common.{◌≡◌, ℕ, zero, suc, ◌-◌, ◌<◌, List, [], ◌∷◌, ◌++◌, map, length, Option, Ok, Err, refl, ap, ◌∙◌, arith, length-append}
use Rattle.std.proofs.lemmas.List.{map-append}
use Rattle.go_tree_nodes.specs.text_core.declared.span.Span.{Span}
use Rattle.go_tree_nodes.specs.token_core.declared.kind.Operator.TheVariants as operator
use Rattle.go_tree_nodes.specs.declared.names.Ident.{Ident}
use Rattle.go_tree_nodes.specs.declared.types.FieldLine.{FieldLine}
use Rattle.go_tree_nodes.specs.declared.types.MethodLine.{MethodLine, MethodLine'}
use Rattle.go_tree_nodes.specs.declared.names.TextLiteral.{TextLiteral}
use Rattle.go_tree_nodes.specs.declared.types.Fields.{Fields}
use Rattle.go_tree_nodes.specs.declared.types.Fields.TheVariants as declared_fields
use Rattle.go_tree_nodes.specs.Terminals.{Terminal}
use Rattle.go_tree_nodes.specs.Trees.{TypeTree, Struct, Interface, SignatureTree, Signed, ResultTree, Results, ParamTrees, FieldTrees, MethodTrees, Method}
use Rattle.go_tree_nodes.specs.TypeShapes.{fields_before, fields_of, method_before, methods_of}
use Rattle.go_parse_reader.specs.declared.types.stop.Stop.{Stop}
use Rattle.go_parse_reader.specs.types.mirrors.Giving.{Fails}
use Rattle.go_parse_reader.specs.types.mirrors.EntryShapes.{list_all, with_mark, then_mark, listed_at, line_tree, line_of, method_of}
use Rattle.go_parse_reader.specs.types.mirrors.Marks.{TooHigh, ◌>>=◌, Reading, need, mark_at, text_at, mark_or_end}
use Rattle.go_parse_reader.specs.types.mirrors.TypeReading.{EntryTree, LineTree, tag_by, tagged, with_line, entry_at, line_at, method_at, as_fields, as_methods, params_at, results_by, result_at, signature_at, struct_by, struct_at, interface_by, interface_at, named_at, type_by, type_at, named_type_at}
use Rattle.go_parse_reader.proofs.TypesMarks.{need_ok}
use Rattle.go_parse_reader.proofs.TypesCodeSteps.{fails_along}
use Rattle.go_parse_reader.proofs.TypesParams.{spell_entry, entry_some, entry_sound}
use Rattle.go_parse_reader.proofs.TypesTypeLines.{spell_line, line_some, line_sound, spell_method, method_some, method_sound}
use Rattle.go_parse_reader.proofs.TypesTypes.{type_sound}

-- the budget's step
pub type_zero : (b : ℕ) (ts : List Terminal) → b ≡ 0 → type_at b ts ≡ Err TooHigh
unfolding type_at
type_zero b ts e = ap (λ n. type_at n ts) e

pub type_more : (n : ℕ) (ts : List Terminal) → 0 < n → type_at n ts ≡ type_by (type_at (n - 1)) ts
unfolding type_at
type_more zero ts some = absurd (omega arith)
type_more (suc b) ts some = let less : b ≡ suc b - 1 = omega arith in ap (λ m. type_by (type_at m) ts) less

-- and that of a name
pub named_type_zero : (b : ℕ) (ts : List Terminal) → b ≡ 0 → named_type_at b ts ≡ Err TooHigh
named_type_zero b ts e = ap (λ n. named_type_at n ts) e

pub named_type_more : (n : ℕ) (ts : List Terminal) → 0 < n → named_type_at n ts ≡ named_at ts
named_type_more zero ts some = absurd (omega arith)
named_type_more (suc b) ts some = refl

-- each item takes terminals
pub entry_less : (b : ℕ) (ts after : List Terminal) (x : EntryTree) → entry_at (type_at b) ts ≡ Ok (x, after) → length after < length ts
entry_less b ts after x e =
    omega (arith, ap length (entry_sound b (type_at b) (type_sound b) ts (x, after) e).spelled_as, length-append (spell_entry x) after, entry_some x)

pub line_less : (b : ℕ) (ts after : List Terminal) (x : LineTree) → line_at (type_at b) ts ≡ Ok (x, after) → length after < length ts
line_less b ts after x e =
    omega (arith, ap length (line_sound b (type_at b) (type_sound b) ts (x, after) e).spelled_as, length-append (spell_line x) after, line_some x)

pub method_less : (b : ℕ) (ts after : List Terminal) (x : Ident × SignatureTree) → method_at (type_at b) ts ≡ Ok (x, after) → length after < length ts
method_less b ts after x e =
    omega (arith, ap length (method_sound b (type_at b) (type_sound b) ts (x, after) e).spelled_as, length-append (spell_method x) after, method_some x)

-- a line, by its tag and the mark behind it
pub line_marked : (line : Option TextLiteral → LineTree) (ts : List Terminal) → then_mark operator.Semicolon operator.CloseBrace (tagged line ts) ≡ (then_mark operator.Semicolon operator.CloseBrace (Ok (tag_by ts (text_at ts))) >>= λ y. Ok ((line y.0.0, y.0.1), y.1))
line_marked line ts = by (mark_or_end operator.Semicolon operator.CloseBrace (tag_by ts (text_at ts)).1)
  where
    tag : Option TextLiteral
    tag = (tag_by ts (text_at ts)).0

    by : (r : Reading (Option Span)) → with_mark (line tag) r ≡ (with_mark tag r >>= λ y. Ok ((line y.0.0, y.0.1), y.1))
    by (Ok s) = refl
    by (Err e) = refl

pub line_fails : (line : Option TextLiteral → LineTree) (ts : List Terminal) (e : Stop) → Fails e (then_mark operator.Semicolon operator.CloseBrace (Ok (tag_by ts (text_at ts)))) → Fails e (then_mark operator.Semicolon operator.CloseBrace (tagged line ts))
line_fails line ts e failed =
    let read : Reading (Option TextLiteral) = Ok (tag_by ts (text_at ts)) in
    fails_along (then_mark operator.Semicolon operator.CloseBrace read) (then_mark operator.Semicolon operator.CloseBrace (tagged line ts)) e
    (λ f g. line_marked line ts ∙ ap (λ r. r >>= λ y. Ok ((line y.0.0, y.0.1), y.1)) g) failed

-- the lines that were read, as fields
line_is : (f : Fields) (tag : Option TextLiteral) (s : Option Span) (rest : FieldTrees) → with_line (line_tree f tag) s rest ≡ fields_before f tag s rest
line_is (declared_fields.Named xs t) tag s rest = refl
line_is (declared_fields.Embedded star n) tag s rest = refl

pub lines_are : (ls : List FieldLine) → as_fields (map line_of ls) ≡ fields_of ls
lines_are [] = refl
lines_are (l ∷ ls) =
    line_is l.fields l.tag l.semicolon (as_fields (map line_of ls)) ∙ ap (fields_before l.fields l.tag l.semicolon) (lines_are ls)

-- and the methods
method_is : (m : MethodLine) (rest : MethodTrees) → Method (method_of m).0.0 (method_of m).0.1 (method_of m).1 rest ≡ method_before m rest
method_is (MethodLine' x signature s) rest = refl

pub methods_are : (ms : List MethodLine) → as_methods (map method_of ms) ≡ methods_of ms
methods_are [] = refl
methods_are (m ∷ ms) = method_is m (as_methods (map method_of ms)) ∙ ap (method_before m) (methods_are ms)

-- one more, seen through a function
pub pushed : {A B : Type 0} (f : A → B) (xs new : List A) (x : A) → new ≡ xs ++ (x ∷ []) → map f new ≡ map f xs ++ (f x ∷ [])
pushed f xs new x is = ap (map f) is ∙ map-append f xs (x ∷ [])

-- a struct type, an interface type, results and a signature, from their parts

pub struct_is : (inner : List Terminal → Reading TypeTree) (k first last : Span) (ts inside behind after : List Terminal) (ls : List FieldLine) → need (mark_at operator.OpenBrace ts) ≡ Ok (first, inside) → list_all (line_at inner) operator.Semicolon operator.CloseBrace inside ≡ Ok (map line_of ls, behind) → need (mark_at operator.CloseBrace behind) ≡ Ok (last, after) → struct_at inner k ts ≡ Ok (Struct k first (fields_of ls) last, after)
struct_is inner k first last ts inside behind after ls opened found closed =
    let all = list_all (line_at inner) operator.Semicolon operator.CloseBrace in
    ap (λ r. r >>= λ (first : Span × List Terminal). (all first.1 >>= λ ls. struct_by k first.0 (as_fields ls.0) (mark_at operator.CloseBrace ls.1))) opened
    ∙ ap (λ r. r >>= λ ls. struct_by k first (as_fields ls.0) (mark_at operator.CloseBrace ls.1)) found
    ∙ ap (struct_by k first (as_fields (map line_of ls))) (need_ok (mark_at operator.CloseBrace behind) (last, after) closed)
    ∙ ap (λ fs. Ok (Struct k first fs last, after)) (lines_are ls)

pub interface_is : (inner : List Terminal → Reading TypeTree) (k first last : Span) (ts inside behind after : List Terminal) (ms : List MethodLine) → need (mark_at operator.OpenBrace ts) ≡ Ok (first, inside) → list_all (method_at inner) operator.Semicolon operator.CloseBrace inside ≡ Ok (map method_of ms, behind) → need (mark_at operator.CloseBrace behind) ≡ Ok (last, after) → interface_at inner k ts ≡ Ok (Interface k first (methods_of ms) last, after)
interface_is inner k first last ts inside behind after ms opened found closed =
    let all = list_all (method_at inner) operator.Semicolon operator.CloseBrace in
    ap (λ r. r >>= λ (first : Span × List Terminal). (all first.1 >>= λ ms. interface_by k first.0 (as_methods ms.0) (mark_at operator.CloseBrace ms.1))) opened
    ∙ ap (λ r. r >>= λ ms. interface_by k first (as_methods ms.0) (mark_at operator.CloseBrace ms.1)) found
    ∙ ap (interface_by k first (as_methods (map method_of ms))) (need_ok (mark_at operator.CloseBrace behind) (last, after) closed)
    ∙ ap (λ ms. Ok (Interface k first ms last, after)) (methods_are ms)

pub listed_is : (inner : List Terminal → Reading TypeTree) (first last : Span) (ts behind after : List Terminal) (ps : ParamTrees) → params_at inner ts ≡ Ok (ps, behind) → need (mark_at operator.CloseParen behind) ≡ Ok (last, after) → listed_at inner first ts ≡ Ok (Results first ps last, after)
listed_is inner first last ts behind after ps found closed =
    ap (λ r. r >>= λ p. results_by first p.0 (mark_at operator.CloseParen p.1)) found
    ∙ ap (results_by first ps) (need_ok (mark_at operator.CloseParen behind) (last, after) closed)

pub signature_is : (inner : List Terminal → Reading TypeTree) (first last : Span) (ts inside behind after rest : List Terminal) (ps : ParamTrees) (r : ResultTree) → need (mark_at operator.OpenParen ts) ≡ Ok (first, inside) → params_at inner inside ≡ Ok (ps, behind) → need (mark_at operator.CloseParen behind) ≡ Ok (last, after) → result_at inner after ≡ Ok (r, rest) → signature_at inner ts ≡ Ok (Signed first ps last r, rest)
signature_is inner first last ts inside behind after rest ps r opened found closed outcome =
    ap (λ o. o >>= λ (first : Span × List Terminal). (params_at inner first.1 >>= λ p. (need (mark_at operator.CloseParen p.1) >>= λ z. (result_at inner z.1 >>= λ r. Ok (Signed first.0 p.0 z.0 r.0, r.1))))) opened
    ∙ ap (λ o. o >>= λ (p : ParamTrees × List Terminal). (need (mark_at operator.CloseParen p.1) >>= λ z. (result_at inner z.1 >>= λ r. Ok (Signed first p.0 z.0 r.0, r.1)))) found
    ∙ ap (λ o. o >>= λ (z : Span × List Terminal). (result_at inner z.1 >>= λ r. Ok (Signed first ps z.0 r.0, r.1))) closed
    ∙ ap (λ o. o >>= λ (r : ResultTree × List Terminal). Ok (Signed first ps last r.0, r.1)) outcome
