-- What reading imports gives from the middle of their list on.
use Rattle.std.specs.Prelude.{map}
use Rattle.std.proofs.Common.{◌≡◌, ℕ, zero, suc, ◌-◌, ◌<◌, ◌≤◌, List, [], ◌∷◌, ◌++◌, length, Some, None, Ok, Err, refl, sym, ap, ◌∙◌, arith, length-append}
use Rattle.go_tree_nodes.specs.text_core.declared.span.Span.{Span}
use Rattle.go_tree_nodes.specs.token_core.declared.kind.Keyword.TheVariants as keyword
use Rattle.go_tree_nodes.specs.token_core.declared.kind.Operator.TheVariants as operator
use Rattle.go_tree_nodes.specs.declared.files.ImportDecl.{ImportDecl}
use Rattle.go_tree_nodes.specs.Shapes.{import_of}
use Rattle.go_tree_nodes.specs.Spelling.{spell_import, spell_specs}
use Rattle.go_tree_nodes.specs.Terminals.{Terminal}
use Rattle.go_tree_nodes.specs.Trees.{Specs, ImportSpecTree, ImportTree}
use Rattle.go_parse_reader.specs.declared.types.stop.Stop.{Stop}
use Rattle.go_parse_reader.specs.types.mirrors.Giving.{Fails}
use Rattle.go_parse_reader.specs.types.mirrors.Marks.{◌>>=◌, Reading, need, mark_at, keyword_at}
use Rattle.go_parse_reader.proofs.TypesCodeSteps.{fails_along}
use Rattle.go_parse_reader.proofs.TypesMarks.{mark_shorter, need_ok, word_shorter}
use Rattle.go_parse_core.specs.stmts.mirrors.StmtReading.{specs_at}
use Rattle.go_parse_core.proofs.StmtsSpecs.{specs_sound}
use Rattle.go_parse_core.specs.mirrors.FileReading.{import_spec_at, imports_by, imports_go}
use Rattle.go_parse_core.proofs.FileSound.{import_spec_sound}

-- an import that is read takes no more than there is
pub import_spec_shorter : (ts : List Terminal) (x : ImportSpecTree × List Terminal) → import_spec_at ts ≡ Ok x → length x.1 ≤ length ts
import_spec_shorter ts x e = omega (arith, ap length (import_spec_sound ts x e).spelled_as, length-append (spell_import x.0) x.1)

specs_shorter : (ts : List Terminal) (x : Specs ImportSpecTree × List Terminal) → specs_at import_spec_at ts ≡ Ok x → length x.1 ≤ length ts
specs_shorter ts x e =
    let r = specs_sound ImportSpecTree import_spec_at spell_import (λ i. 0) (λ i. Unit {0}) 0 import_spec_sound ts x e in
    omega (arith, ap length r.spelled_as, length-append (spell_specs spell_import x.0) x.1)

pub turn_shorter : (rest : List Terminal) (k : Span × List Terminal) (xs : Specs ImportSpecTree × List Terminal) (s : Span × List Terminal) → Some k ≡ keyword_at keyword.Import rest → specs_at import_spec_at k.1 ≡ Ok xs → need (mark_at operator.Semicolon xs.1) ≡ Ok s → length s.1 < length rest
turn_shorter rest k xs s at e d =
    omega (arith, word_shorter keyword.Import rest k (sym at), specs_shorter k.1 xs e, mark_shorter operator.Semicolon xs.1 s (need_ok _ s d))

abbrev pub Imports : Type 0
Imports = Reading (List ImportTree)

abbrev pub with_imports : List ImportTree → Imports → Imports
with_imports done r = r >>= λ x. Ok (done ++ x.0, x.1)

abbrev pub import_tree : Span → Specs ImportSpecTree → Span → ImportTree
import_tree k xs s = record { keyword = k; specs = xs; semicolon = s }

-- reading gives these imports, and then what reading the rest gives
pub record ImportsSoFar (ts : List Terminal) (done : List ImportDecl) (rest : List Terminal) : Type 0 where
  pub turns : ℕ
  pub enough : length rest < turns
  pub same : imports_go (suc (length ts)) ts ≡ with_imports (map import_of done) (imports_go turns rest)

pub imports_none : (ts : List Terminal) → ImportsSoFar ts [] ts
imports_none ts = record { turns = suc (length ts); enough = omega arith; same = whole (imports_go (suc (length ts)) ts) }
  where
    whole : (r : Imports) → r ≡ with_imports [] r
    whole (Ok x) = refl
    whole (Err e) = refl

map_push : (ds : List ImportDecl) (d : ImportDecl) (more : List ImportTree) → map import_of (ds ++ (d ∷ [])) ++ more ≡ map import_of ds ++ (import_of d ∷ more)
map_push [] d more = refl
map_push (e ∷ ds) d more = ap (λ l. import_of e ∷ l) (map_push ds d more)

map_end : (xs : List ImportTree) → xs ++ [] ≡ xs
map_end [] = refl
map_end (x ∷ xs) = ap (λ l. x ∷ l) (map_end xs)

-- what comes behind `import`
abbrev behind_semicolon : ℕ → Span → Specs ImportSpecTree → Span × List Terminal → Imports
behind_semicolon n k xs s = imports_go n s.1 >>= λ rest. Ok (import_tree k xs s.0 ∷ rest.0, rest.1)

abbrev behind_specs : ℕ → Span → Specs ImportSpecTree × List Terminal → Imports
behind_specs n k xs = need (mark_at operator.Semicolon xs.1) >>= behind_semicolon n k xs.0

turn_is : (n : ℕ) (rest : List Terminal) (k : Span × List Terminal) → 0 < n → Some k ≡ keyword_at keyword.Import rest → imports_go n rest ≡ (specs_at import_spec_at k.1 >>= behind_specs (n - 1) k.0)
unfolding imports_go
turn_is zero rest k some at = absurd (omega arith)
turn_is (suc n) rest k some at =
    let less : n ≡ suc n - 1 = omega arith in
    ap (imports_by (imports_go n) rest) (sym at) ∙ ap (λ m. specs_at import_spec_at k.1 >>= behind_specs m k.0) less

turn_end : (n : ℕ) (rest : List Terminal) → 0 < n → None ≡ keyword_at keyword.Import rest → imports_go n rest ≡ Ok ([], rest)
unfolding imports_go
turn_end zero rest some at = absurd (omega arith)
turn_end (suc n) rest some at = ap (imports_by (imports_go n) rest) (sym at)

pub imports_more : (ts : List Terminal) (done new : List ImportDecl) (rest : List Terminal) (k : Span × List Terminal) (xs : Specs ImportSpecTree × List Terminal) (s : Span × List Terminal) (d : ImportDecl) → ImportsSoFar ts done rest → Some k ≡ keyword_at keyword.Import rest → specs_at import_spec_at k.1 ≡ Ok xs → need (mark_at operator.Semicolon xs.1) ≡ Ok s → import_of d ≡ import_tree k.0 xs.0 s.0 → new ≡ done ++ (d ∷ []) → ImportsSoFar ts new s.1
imports_more ts done new rest k xs s d so at e f made is =
    let less = turn_shorter rest k xs s at e f in
    let n = so.turns in
    let some : 0 < n = omega (arith, so.enough) in
    let step : imports_go n rest ≡ with_imports (import_of d ∷ []) (imports_go (n - 1) s.1) =
    turn_is n rest k some at ∙ ap (λ r. r >>= behind_specs (n - 1) k.0) e ∙ ap (λ r. r >>= behind_semicolon (n - 1) k.0 xs.0) f ∙ ap (λ t. imports_go (n - 1) s.1 >>= λ rest. Ok (t ∷ rest.0, rest.1)) (sym made) in
    record { turns = n - 1; enough = omega (arith, so.enough); same = so.same ∙ ap (with_imports (map import_of done)) step ∙ fuse (imports_go (n - 1) s.1) }
  where
    fuse : (r : Imports) → with_imports (map import_of done) (with_imports (import_of d ∷ []) r) ≡ with_imports (map import_of new) r
    fuse (Err e) = refl
    fuse (Ok x) = ap (λ l. Ok (l, x.1)) (sym (map_push done d x.0) ∙ ap (λ n. map import_of n ++ x.0) (sym is))

pub specs_fails : (ts : List Terminal) (done : List ImportDecl) (rest : List Terminal) (k : Span × List Terminal) (e : Stop) → ImportsSoFar ts done rest → Some k ≡ keyword_at keyword.Import rest → Fails e (specs_at import_spec_at k.1) → Fails e (imports_go (suc (length ts)) ts)
specs_fails ts done rest k e so at failed =
    let n = so.turns in
    let some : 0 < n = omega (arith, so.enough) in
    fails_along (specs_at import_spec_at k.1) (imports_go (suc (length ts)) ts) e (λ f g. so.same ∙ ap (with_imports (map import_of done)) (turn_is n rest k some at ∙ ap (λ r. r >>= behind_specs (n - 1) k.0) g)) failed

pub semicolon_fails : (ts : List Terminal) (done : List ImportDecl) (rest : List Terminal) (k : Span × List Terminal) (xs : Specs ImportSpecTree × List Terminal) (e : Stop) → ImportsSoFar ts done rest → Some k ≡ keyword_at keyword.Import rest → specs_at import_spec_at k.1 ≡ Ok xs → Fails e (need (mark_at operator.Semicolon xs.1)) → Fails e (imports_go (suc (length ts)) ts)
semicolon_fails ts done rest k xs e so at read failed =
    let n = so.turns in
    let some : 0 < n = omega (arith, so.enough) in
    fails_along (need (mark_at operator.Semicolon xs.1)) (imports_go (suc (length ts)) ts) e (λ f g. so.same ∙ ap (with_imports (map import_of done)) (turn_is n rest k some at ∙ ap (λ r. r >>= behind_specs (n - 1) k.0) read ∙ ap (λ r. r >>= behind_semicolon (n - 1) k.0 xs.0) g)) failed

pub imports_end : (ts : List Terminal) (done : List ImportDecl) (rest : List Terminal) → ImportsSoFar ts done rest → None ≡ keyword_at keyword.Import rest → imports_go (suc (length ts)) ts ≡ Ok (map import_of done, rest)
imports_end ts done rest so at =
    so.same ∙ ap (with_imports (map import_of done)) (turn_end so.turns rest (omega (arith, so.enough)) at) ∙ ap (λ l. Ok (l, rest)) (map_end (map import_of done))
