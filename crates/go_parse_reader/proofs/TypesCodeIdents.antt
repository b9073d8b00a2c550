-- What reading names with commas between them gives from the middle on.
use Rattle.std.proofs.Common.{◌≡◌, ℕ, zero, suc, ◌-◌, ◌<◌, List, [], ◌∷◌, ◌++◌, length, Some, None, Ok, Err, refl, sym, ap, ◌∙◌, arith}
use Rattle.go_tree_nodes.specs.text_core.declared.span.Span.{Span}
use Rattle.go_tree_nodes.specs.token_core.declared.kind.Operator.TheVariants as operator
use Rattle.go_tree_nodes.specs.declared.names.Ident.{Ident}
use Rattle.go_tree_nodes.specs.declared.names.NextIdent.{NextIdent}
use Rattle.go_tree_nodes.specs.Terminals.{Terminal}
use Rattle.go_tree_nodes.specs.Trees.{Separated, One, Then}
use Rattle.go_tree_nodes.specs.TypeShapes.{idents_from}
use Rattle.go_parse_reader.specs.declared.types.stop.Stop.{Stop}
use Rattle.go_parse_reader.specs.types.mirrors.Giving.{Fails}
use Rattle.go_parse_reader.specs.types.mirrors.Marks.{Stuck, ◌>>=◌, Reading, need, mark_at, name_at, idents_more, idents_go}
use Rattle.go_parse_reader.proofs.TypesMarks.{need_ok, mark_shorter, name_shorter}
use Rattle.go_parse_reader.proofs.TypesCodeSeparated.{with_front, front_along, front_append, front_err}
use Rattle.go_parse_reader.proofs.TypesCodeSteps.{fails_along}

abbrev pub Names : Type 0
Names = Reading (Separated Ident)

-- a comma, and the name behind it
abbrev pub part : NextIdent → Span × Ident
part n = (n.comma, n.ident)

front_one : (x : Ident) (ns : List NextIdent) (ts : List Terminal) → with_front part x ns (λ t. Ok (One t, ts)) ≡ Ok (idents_from x ns, ts)
front_one x [] ts = refl
front_one x (n ∷ ns) ts = ap (λ r. r >>= λ y. Ok (Then x n.comma y.0, y.1)) (front_one n.ident ns ts)

-- what reads on behind a name
abbrev pub on_from : ℕ → List Terminal → Ident → Names
on_from turns rest x = idents_more (idents_go turns) x rest (mark_at operator.Comma rest)

-- reading gives these names, and then what reading the rest gives
pub record IdentsSoFar (ts : List Terminal) (first : Ident) (more : List NextIdent) (rest : List Terminal) : Type 0 where
  pub turns : ℕ
  pub enough : length rest < turns
  pub same : idents_go (suc (length ts)) ts ≡ with_front part first more (on_from turns rest)

go_is : (k : ℕ) (ts rest : List Terminal) (x : Ident) → 0 < k → need (name_at ts) ≡ Ok (x, rest) → idents_go k ts ≡ on_from (k - 1) rest x
unfolding idents_go
go_is zero ts rest x some e = absurd (omega arith)
go_is (suc k) ts rest x some e =
    let less : k ≡ suc k - 1 = omega arith in
    ap (λ r. r >>= λ x. idents_more (idents_go k) x.0 x.1 (mark_at operator.Comma x.1)) e ∙ ap (λ m. on_from m rest x) less

go_err : (k : ℕ) (ts : List Terminal) (f : Stuck) → 0 < k → need (name_at ts) ≡ Err f → idents_go k ts ≡ Err f
unfolding idents_go
go_err zero ts f some e = absurd (omega arith)
go_err (suc k) ts f some e = ap (λ r. r >>= λ x. idents_more (idents_go k) x.0 x.1 (mark_at operator.Comma x.1)) e

pub need_name_shorter : (ts rest : List Terminal) (x : Ident) → need (name_at ts) ≡ Ok (x, rest) → length rest < length ts
need_name_shorter ts rest x e = name_shorter ts (x, rest) (need_ok (name_at ts) (x, rest) e)

pub idents_start : (ts rest : List Terminal) (first : Ident) (more : List NextIdent) → more ≡ [] → need (name_at ts) ≡ Ok (first, rest) → IdentsSoFar ts first more rest
idents_start ts rest first more none e =
    let less = need_name_shorter ts rest first e in
    let step = go_is (suc (length ts)) ts rest first (omega arith) e in
    record { turns = suc (length ts) - 1; enough = omega arith; same = step ∙ ap (λ ns. with_front part first ns (on_from (suc (length ts) - 1) rest)) (sym none) }

pub idents_start_fails : (ts : List Terminal) (e : Stop) → Fails e (need (name_at ts)) → Fails e (idents_go (suc (length ts)) ts)
idents_start_fails ts e failed = fails_along (need (name_at ts)) (idents_go (suc (length ts)) ts) e (λ f g. go_err (suc (length ts)) ts f (omega arith) g) failed

pub idents_turn_shorter : (ts rest : List Terminal) (m : Span × List Terminal) (x : Ident) → Some m ≡ mark_at operator.Comma ts → need (name_at m.1) ≡ Ok (x, rest) → length rest < length ts
idents_turn_shorter ts rest m x at e = omega (arith, mark_shorter operator.Comma ts m (sym at), need_name_shorter m.1 rest x e)

pub idents_push : (ts rest after : List Terminal) (first : Ident) (more new : List NextIdent) (m : Span × List Terminal) (n : NextIdent) → IdentsSoFar ts first more rest → Some m ≡ mark_at operator.Comma rest → need (name_at m.1) ≡ Ok (n.ident, after) → n.comma ≡ m.0 → new ≡ more ++ (n ∷ []) → IdentsSoFar ts first new after
idents_push ts rest after first more new m n so at e comma is =
    let less = idents_turn_shorter rest after m n.ident at e in
    let k = so.turns in
    let some : 0 < k = omega (arith, so.enough) in
    let on : (t : Ident) → on_from k rest t ≡ (on_from (k - 1) after n.ident >>= λ y. Ok (Then t n.comma y.0, y.1)) =
    λ t. ap (idents_more (idents_go k) t rest) (sym at) ∙ ap (λ r. r >>= λ y. Ok (Then t m.0 y.0, y.1)) (go_is k m.1 after n.ident some e) ∙ ap (λ c. on_from (k - 1) after n.ident >>= λ y. Ok (Then t c y.0, y.1)) (sym comma) in
    record { turns = k - 1; enough = omega (arith, so.enough); same = so.same ∙ front_along part first more (on_from k rest) (λ t. on_from (k - 1) after n.ident >>= λ y. Ok (Then t n.comma y.0, y.1)) on ∙ sym (front_append part first more n (on_from (k - 1) after)) ∙ ap (λ ns. with_front part first ns (on_from (k - 1) after)) (sym is) }

pub idents_fails : (ts rest : List Terminal) (first : Ident) (more : List NextIdent) (m : Span × List Terminal) (e : Stop) → IdentsSoFar ts first more rest → Some m ≡ mark_at operator.Comma rest → Fails e (need (name_at m.1)) → Fails e (idents_go (suc (length ts)) ts)
idents_fails ts rest first more m e so at failed =
    fails_along (need (name_at m.1)) (idents_go (suc (length ts)) ts) e (λ f g. so.same ∙ front_along part first more (on_from so.turns rest) (λ t. Err f) (on f g) ∙ front_err part first more f) failed
  where
    on : (f : Stuck) → need (name_at m.1) ≡ Err f → (t : Ident) → on_from so.turns rest t ≡ Err f
    on f g t =
        let some : 0 < so.turns = omega (arith, so.enough) in
        ap (idents_more (idents_go so.turns) t rest) (sym at) ∙ ap (λ r. r >>= λ y. Ok (Then t m.0 y.0, y.1)) (go_err so.turns m.1 f some g)

pub idents_end : (ts rest : List Terminal) (first : Ident) (more : List NextIdent) → IdentsSoFar ts first more rest → None ≡ mark_at operator.Comma rest → idents_go (suc (length ts)) ts ≡ Ok (idents_from first more, rest)
idents_end ts rest first more so at =
    so.same ∙ front_along part first more (on_from so.turns rest) (λ t. Ok (One t, rest)) (λ t. ap (idents_more (idents_go so.turns) t rest) (sym at)) ∙ front_one first more rest
