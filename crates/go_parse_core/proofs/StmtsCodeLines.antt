-- A turn of a loop over the lines of a list: an item, and the semicolon behind it where one stands.
use Rattle.std.proofs.Common.{◌≡◌, ◌<◌, ◌≤◌, true, false, List, [], ◌∷◌, ◌++◌, length, Option, Some, None, Ok, Err, refl, sym, ap, ◌∙◌, subst}
use Rattle.std.specs.Prelude.{is_some}
use Rattle.go_tree_nodes.specs.text_core.declared.span.Span.{Span}
use Rattle.go_tree_nodes.specs.token_core.declared.kind.Operator.{Operator}
use Rattle.go_tree_nodes.specs.token_core.declared.kind.Operator.TheVariants as operator
use Rattle.go_tree_nodes.specs.Terminals.{Terminal}
use Rattle.go_parse_reader.specs.declared.types.stop.Stop.{Stop}
use Rattle.go_parse_reader.specs.types.mirrors.EntryShapes.{list_all}
use Rattle.go_parse_reader.specs.types.mirrors.Giving.{Fails}
use Rattle.go_parse_reader.specs.types.mirrors.Marks.{Stuck, Grammar, Reading, MarkAhead, need, mark_at, some_mark}
use Rattle.go_parse_reader.proofs.TypesMarks.{some_mark_none, some_mark_some, need_ok}
use Rattle.go_parse_reader.proofs.TypesCodeLists.{ListSoFar, list_more, list_turn_shorter, list_missing, list_last}
use Rattle.go_parse_reader.proofs.TypesCodeSteps.{fails_along}

-- a mark stands in front, or none does

pub record Marked (want : Operator) (ts : List Terminal) (o : Option Span) (rest : List Terminal) : Type 0 where
  pub place : Span × List Terminal
  pub here : Some place ≡ mark_at want ts
  pub found : o ≡ Some place.0
  pub behind : rest ≡ place.1

none_marked : (o : Option Span) → o ≡ None → is_some o ≡ true → ⊥
none_marked None e some = cc
none_marked (Some s) e some = cc

some_unmarked : (o : Option Span) (s : Span) → o ≡ Some s → is_some o ≡ false → ⊥
some_unmarked None s e none = cc
some_unmarked (Some t) s e none = cc

pub marked : (want : Operator) (ts : List Terminal) (o : Option Span) (rest : List Terminal) → (o, rest) ≡ some_mark want ts → is_some o ≡ true → Marked want ts o rest
marked want ts o rest e some = by (mark_at want ts) refl
  where
    by : (p : MarkAhead) → mark_at want ts ≡ p → Marked want ts o rest
    by None at =
        let same : (o, rest) ≡ (None, ts) = e ∙ some_mark_none want ts at in
        absurd (none_marked o (ap (λ (x : Option Span × List Terminal). x.0) same) some)
    by (Some m) at =
        let same : (o, rest) ≡ (Some m.0, m.1) = e ∙ some_mark_some want ts m at in
        record { place = m; here = sym at; found = ap (λ (x : Option Span × List Terminal). x.0) same; behind = ap (λ (x : Option Span × List Terminal). x.1) same }

pub record Unmarked (want : Operator) (ts : List Terminal) (o : Option Span) (rest : List Terminal) : Type 0 where
  pub free : None ≡ mark_at want ts
  pub found : o ≡ None
  pub behind : rest ≡ ts

pub unmarked : (want : Operator) (ts : List Terminal) (o : Option Span) (rest : List Terminal) → (o, rest) ≡ some_mark want ts → is_some o ≡ false → Unmarked want ts o rest
unmarked want ts o rest e none = by (mark_at want ts) refl
  where
    by : (p : MarkAhead) → mark_at want ts ≡ p → Unmarked want ts o rest
    by None at =
        let same : (o, rest) ≡ (None, ts) = e ∙ some_mark_none want ts at in
        record { free = sym at; found = ap (λ (x : Option Span × List Terminal). x.0) same; behind = ap (λ (x : Option Span × List Terminal). x.1) same }
    by (Some m) at =
        let same : (o, rest) ≡ (Some m.0, m.1) = e ∙ some_mark_some want ts m at in
        absurd (some_unmarked o m.0 (ap (λ (x : Option Span × List Terminal). x.0) same) none)

-- the closing mark that has to stand in front does not

pub missing : (m : MarkAhead) (f : Stuck) → need m ≡ Err f → (None ≡ m) × (f ≡ Grammar)
missing None f e = (refl, cc)
missing (Some x) f e = cc

-- lists of specifications

pub turn_more : (A : Type 0) (item : List Terminal → Reading A) (close : Operator) (ts : List Terminal) (done new : List (A × Option Span)) (rest after behind : List Terminal) (x : A) (o : Option Span) → ListSoFar A item operator.Semicolon close ts done rest → None ≡ mark_at close rest → item rest ≡ Ok (x, after) → length after ≤ length rest → (o, behind) ≡ some_mark operator.Semicolon after → is_some o ≡ true → new ≡ done ++ ((x, o) ∷ []) → ListSoFar A item operator.Semicolon close ts new behind
turn_more A item close ts done new rest after behind x o so free e less e2 some is =
    let m = marked operator.Semicolon after o behind e2 some in
    subst (λ (r : List Terminal). ListSoFar A item operator.Semicolon close ts new r) (sym m.behind) (list_more A item operator.Semicolon close ts done new rest after x m.place so free e less m.here (is ∙ ap (λ o. done ++ ((x, o) ∷ [])) m.found))

pub turn_shorter : (rest after behind : List Terminal) (o : Option Span) → length after ≤ length rest → (o, behind) ≡ some_mark operator.Semicolon after → is_some o ≡ true → length behind < length rest
turn_shorter rest after behind o less e some =
    let m = marked operator.Semicolon after o behind e some in
    subst (λ (r : List Terminal). length r < length rest) (sym m.behind) (list_turn_shorter operator.Semicolon rest after m.place less m.here)

pub turn_last : (A : Type 0) (item : List Terminal → Reading A) (close : Operator) (ts : List Terminal) (done new : List (A × Option Span)) (rest after behind : List Terminal) (x : A) (o : Option Span) (y : Span × List Terminal) → ListSoFar A item operator.Semicolon close ts done rest → None ≡ mark_at close rest → item rest ≡ Ok (x, after) → (o, behind) ≡ some_mark operator.Semicolon after → is_some o ≡ false → need (mark_at close behind) ≡ Ok y → new ≡ done ++ ((x, o) ∷ []) → list_all item operator.Semicolon close ts ≡ Ok (new, behind)
turn_last A item close ts done new rest after behind x o y so free e e2 none closed is =
    let m = unmarked operator.Semicolon after o behind e2 none in
    let here : mark_at close after ≡ Some y = ap (mark_at close) (sym m.behind) ∙ need_ok (mark_at close behind) y closed in
    list_last A item operator.Semicolon close ts done new rest after x y so free e m.free here (is ∙ ap (λ o. done ++ ((x, o) ∷ [])) m.found) ∙ ap (λ r. Ok (new, r)) (sym m.behind)

pub turn_missing : (A : Type 0) (item : List Terminal → Reading A) (close : Operator) (ts : List Terminal) (done : List (A × Option Span)) (rest after behind : List Terminal) (x : A) (o : Option Span) (s : Stop) → ListSoFar A item operator.Semicolon close ts done rest → None ≡ mark_at close rest → item rest ≡ Ok (x, after) → (o, behind) ≡ some_mark operator.Semicolon after → is_some o ≡ false → Fails s (need (mark_at close behind)) → Fails s (list_all item operator.Semicolon close ts)
turn_missing A item close ts done rest after behind x o s so free e e2 none failed =
    let m = unmarked operator.Semicolon after o behind e2 none in
    fails_along (need (mark_at close behind)) (list_all item operator.Semicolon close ts) s (λ f g.
    let why = missing (mark_at close behind) f g in
    list_missing A item operator.Semicolon close ts done rest after x so free e m.free (why.0 ∙ ap (mark_at close) m.behind) ∙ ap (λ f. Err f) (sym why.1)) failed
