-- What reading declarations gives from the middle of a file on.
use Rattle.std.specs.Prelude.{◌==◌, map}
use Rattle.std.proofs.Common.{◌≡◌, ℕ, zero, suc, ◌-◌, ◌<◌, ◌≤◌, true, false, List, [], ◌∷◌, ◌++◌, length, Result, Ok, Err, refl, sym, ap, ◌∙◌, arith}
use Rattle.std.proofs.lemmas.Bool.Decides.{nat_tests}
use Rattle.go_tree_nodes.specs.declared.files.TopDecl.{TopDecl}
use Rattle.go_tree_nodes.specs.Terminals.{Terminal}
use Rattle.go_tree_nodes.specs.Trees.{TopTree}
use Rattle.go_tree_nodes.specs.Shapes.{top_of}
use Rattle.go_parse_reader.specs.declared.types.stop.Stop.{Stop}
use Rattle.go_parse_reader.specs.types.mirrors.Giving.{Fails}
use Rattle.go_parse_reader.specs.types.mirrors.Marks.{Stuck, ◌>>=◌}
use Rattle.go_parse_reader.proofs.TypesCodeSteps.{fails_along}
use Rattle.go_parse_core.specs.mirrors.FileReading.{top_at, tops_go}
use Rattle.go_parse_core.proofs.FileFound.{tops_turn}
use Rattle.go_parse_core.proofs.FileSound.{top_shorter}

abbrev pub Tops : Type 0
Tops = Result (List TopTree) Stuck

abbrev pub with_tops : List TopTree → Tops → Tops
with_tops done r = r >>= λ ds. Ok (done ++ ds)

-- reading gives these declarations, and then what reading the rest gives
pub record TopsSoFar (b : ℕ) (ts : List Terminal) (done : List TopDecl) (rest : List Terminal) : Type 0 where
  pub turns : ℕ
  pub enough : length rest ≤ turns
  pub same : tops_go b (length ts) ts ≡ with_tops (map top_of done) (tops_go b turns rest)

pub tops_none : (b : ℕ) (ts : List Terminal) → TopsSoFar b ts [] ts
tops_none b ts = record { turns = length ts; enough = omega arith; same = whole (tops_go b (length ts) ts) }
  where
    whole : (r : Tops) → r ≡ with_tops [] r
    whole (Ok x) = refl
    whole (Err e) = refl

map_push : (ds : List TopDecl) (d : TopDecl) (more : List TopTree) → map top_of (ds ++ (d ∷ [])) ++ more ≡ map top_of ds ++ (top_of d ∷ more)
map_push [] d more = refl
map_push (e ∷ ds) d more = ap (λ l. top_of e ∷ l) (map_push ds d more)

map_end : (xs : List TopTree) → xs ++ [] ≡ xs
map_end [] = refl
map_end (x ∷ xs) = ap (λ l. x ∷ l) (map_end xs)

some_left : (rest : List Terminal) → false ≡ (length rest == 0) → 0 < length rest
some_left [] more = cc
some_left (t ∷ ts) more = omega arith

turn_is : (b k : ℕ) (rest : List Terminal) → 0 < k → false ≡ (length rest == 0) → tops_go b k rest ≡ (top_at b rest >>= λ d. (tops_go b (k - 1) d.1 >>= λ ds. Ok (d.0 ∷ ds)))
turn_is b zero rest some more = absurd (omega arith)
turn_is b (suc k) rest some more =
    let less : k ≡ suc k - 1 = omega arith in
    tops_turn b k rest (some_left rest more) ∙ ap (λ m. top_at b rest >>= λ d. (tops_go b m d.1 >>= λ ds. Ok (d.0 ∷ ds))) less

turn_end : (b k : ℕ) (rest : List Terminal) → true ≡ (length rest == 0) → tops_go b k rest ≡ Ok []
unfolding tops_go
turn_end b k [] none = refl
turn_end b k (t ∷ ts) none = grind (arith, nat_tests)

pub tops_more : (b : ℕ) (ts : List Terminal) (done new : List TopDecl) (rest after : List Terminal) (d : TopDecl) → TopsSoFar b ts done rest → false ≡ (length rest == 0) → top_at b rest ≡ Ok (top_of d, after) → new ≡ done ++ (d ∷ []) → TopsSoFar b ts new after
tops_more b ts done new rest after d so more e is =
    let less = top_shorter b rest (top_of d, after) e in
    let k = so.turns in
    let some : 0 < k = omega (arith, so.enough) in
    let step : tops_go b k rest ≡ with_tops (top_of d ∷ []) (tops_go b (k - 1) after) =
    turn_is b k rest some more ∙ ap (λ r. r >>= λ d. (tops_go b (k - 1) d.1 >>= λ ds. Ok (d.0 ∷ ds))) e in
    record { turns = k - 1; enough = omega (arith, so.enough); same = so.same ∙ ap (with_tops (map top_of done)) step ∙ fuse (tops_go b (k - 1) after) }
  where
    fuse : (r : Tops) → with_tops (map top_of done) (with_tops (top_of d ∷ []) r) ≡ with_tops (map top_of new) r
    fuse (Err e) = refl
    fuse (Ok ds) = ap (λ l. Ok l) (sym (map_push done d ds) ∙ ap (λ n. map top_of n ++ ds) (sym is))

pub tops_fails : (b : ℕ) (ts : List Terminal) (done : List TopDecl) (rest : List Terminal) (e : Stop) → TopsSoFar b ts done rest → false ≡ (length rest == 0) → Fails e (top_at b rest) → Fails e (tops_go b (length ts) ts)
tops_fails b ts done rest e so more failed =
    let left = some_left rest more in
    let some : 0 < so.turns = omega (arith, so.enough) in
    fails_along (top_at b rest) (tops_go b (length ts) ts) e (λ f g. so.same ∙ ap (with_tops (map top_of done)) (turn_is b so.turns rest some more ∙ ap (λ r. r >>= λ d. (tops_go b (so.turns - 1) d.1 >>= λ ds. Ok (d.0 ∷ ds))) g)) failed

pub tops_end : (b : ℕ) (ts : List Terminal) (done : List TopDecl) (rest : List Terminal) → TopsSoFar b ts done rest → true ≡ (length rest == 0) → tops_go b (length ts) ts ≡ Ok (map top_of done)
tops_end b ts done rest so none =
    so.same ∙ ap (with_tops (map top_of done)) (turn_end b so.turns rest none) ∙ ap (λ l. Ok l) (map_end (map top_of done))
