-- The expression of a list in which an identifier is spelled anew, and what the names of its specification make of it.
use Rattle.std.proofs.Common.{◌≡◌, ◌⊎◌, ℕ, zero, suc, Bool, true, false, inl, inr, List, [], ◌∷◌, ◌==◌, length, slice_get, refl, sym, ap, subst, ◌∙◌, if◌then◌else◌}
use Rattle.std.specs.Prelude.{Option, Some, None}
use Rattle.std.proofs.lemmas.Bool.{cases_lt}
use Rattle.go_tree_nodes.specs.text_core.declared.span.Span.{Span}
use Rattle.go_tree_nodes.specs.declared.names.Ident.{Ident}
use Rattle.go_tree_nodes.specs.declared.decls.ValueKind.{ValueKind}
use Rattle.go_tree_nodes.specs.Trees.{Separated, TypeTree, ExprTree, ValueSpecTree}
use Rattle.go_cursor_core.specs.denote_core.declared.things.Stand.TheVariants as stands
use Rattle.go_cursor_core.specs.denote_core.declared.things.Denoted.{Denoted}
use Rattle.go_cursor_core.specs.denote_core.declared.things.Denoted.TheVariants as denotes
use Rattle.go_cursor_core.specs.denote_core.Arguments.{argument_of, arguments_of}
use Rattle.go_stmt_core.specs.expr_core.Looks.{Looks, look_of_place}
use Rattle.go_stmt_core.specs.expr_core.Places.{start}
use Rattle.go_stmt_core.specs.expr_core.Denoting.{denoted}
use Rattle.go_stmt_core.specs.expr_core.Lists.{exprs_uses}
use Rattle.go_stmt_core.specs.expr_core.Uses.{use_of, uses, spots}
use Rattle.go_stmt_core.specs.expr_core.Respelling.{Respells}
use Rattle.go_stmt_core.specs.expr_core.Independence.{map_len}
use Rattle.go_snap_core.specs.value_core.Initial.{spec_name_count, some_written_type, initial, exprs, expr_in, expr_of}
use Rattle.go_snap_core.specs.value_core.mirrors.Own.{one_of, is_one, given_by, own_argument, value_from}
use Rattle.go_snap_core.specs.value_core.Owning.{initial_is, initial_past}
use Rattle.go_complete_core.specs.spelling.Contexts.{ContextStays}
use Rattle.go_complete_core.specs.spelling.PieceSpots.{exprs_spots}
use Rattle.go_complete_core.specs.spelling.Trees.{RespellsExprs, InOnly, InFirst, InLater, value_spec_with}
use Rattle.go_complete_core.proofs.SpellingSplits.{behind, before}
use Rattle.go_complete_core.proofs.SpellingChanges.{expr_len}

-- both are the same, or they are these two
abbrev pub OneOf : ExprTree → ExprTree → Option ExprTree → Option ExprTree → Type 0
OneOf e f o p = (o ≡ p) ⊎ ((o ≡ Some e) × (p ≡ Some f))

pub record InList (T S D P : Type 0) (x : Ident) (name : List ℕ) (es fs : Separated ExprTree) : Type 0 where
  pub old : ExprTree
  pub new : ExprTree
  pub respells : Respells x name old new
  pub long : length (exprs es) ≡ length (exprs fs)
  pub alone : is_one es ≡ is_one fs
  pub each : (i : ℕ) → OneOf old new (slice_get (exprs es) i) (slice_get (exprs fs) i)
  pub own : (n i : ℕ) → OneOf old new (expr_in n i es) (expr_in n i fs)
  pub stays : (looks other : Looks T S D P) → ContextStays T S D P other x name (spots looks stands.«Value» old) (uses other stands.«Value» new)
      → ContextStays T S D P other x name (exprs_spots looks es) (exprs_uses other fs)

chosen : (e f : ExprTree) (o p : Option ExprTree) (b : Bool) → OneOf e f o p → OneOf e f (if b then o else None) (if b then p else None)
chosen e f o p true h = h
chosen e f o p false h = inl refl

module _ {T S D P : Type 0} (x : Ident) (name : List ℕ) where
  pub in_list : (es fs : Separated ExprTree) → RespellsExprs x name es fs → InList T S D P x name es fs
  in_list es fs (InOnly {e = e} {f = f} r) = record {
    old = e;
    new = f;
    respells = r;
    long = refl;
    alone = refl;
    each = each;
    own = λ n i. inr (refl, refl);
    stays = λ looks other c. c;
  }
    where
      each : (i : ℕ) → OneOf e f (slice_get (e ∷ []) i) (slice_get (f ∷ []) i)
      each zero = inr (refl, refl)
      each (suc i) = inl refl
  in_list es fs (InFirst {e = e} {f = f} {comma = comma} {more = more} r) = record {
    old = e;
    new = f;
    respells = r;
    long = refl;
    alone = refl;
    each = each;
    own = λ n i. chosen e f (slice_get (e ∷ exprs more) i) (slice_get (f ∷ exprs more) i) (n == length (e ∷ exprs more)) (each i);
    stays = λ looks other c. behind other x name (spots looks stands.«Value» e) (exprs_spots looks more) (uses other stands.«Value» f) (exprs_uses other more) c;
  }
    where
      each : (i : ℕ) → OneOf e f (slice_get (e ∷ exprs more) i) (slice_get (f ∷ exprs more) i)
      each zero = inr (refl, refl)
      each (suc i) = inl refl
  in_list es fs (InLater {e = e} {comma = comma} {more = more} {rest = rest} r) =
      let l = in_list more rest r in
      let each : (i : ℕ) → OneOf l.old l.new (slice_get (e ∷ exprs more) i) (slice_get (e ∷ exprs rest) i) = later e (exprs more) (exprs rest) l.old l.new l.each in
      record {
        old = l.old;
        new = l.new;
        respells = l.respells;
        long = ap suc l.long;
        alone = refl;
        each = each;
        own = λ n i.
            subst (λ k. OneOf l.old l.new (if n == suc (length (exprs more)) then slice_get (e ∷ exprs more) i else None) (if n == k then slice_get (e ∷ exprs rest) i else None)) (ap suc l.long)
            (chosen l.old l.new (slice_get (e ∷ exprs more) i) (slice_get (e ∷ exprs rest) i) (n == suc (length (exprs more))) (each i));
        stays = λ looks other c.
            before other x name (spots looks stands.«Value» e) (exprs_spots looks more) (uses other stands.«Value» e) (exprs_uses other rest)
            (expr_len looks other stands.«Value» e ∙ sym (map_len (use_of other) (spots other stands.«Value» e))) (l.stays looks other c);
      }
    where
      later : (e : ExprTree) (more rest : List ExprTree) (old new : ExprTree) → ((i : ℕ) → OneOf old new (slice_get more i) (slice_get rest i))
          → (i : ℕ) → OneOf old new (slice_get (e ∷ more) i) (slice_get (e ∷ rest) i)
      later e more rest old new h zero = inl refl
      later e more rest old new h (suc i) = h i

-- what the names of a specification stand for

module _ {T S D P : Type 0} (looks : Looks T S D P) where
  any_place : (o p : ℕ) (d : Denoted T S D) → arguments_of (look_of_place looks o) (d ∷ []) ≡ arguments_of (look_of_place looks p) (d ∷ [])
  any_place o p denotes.Refused = refl
  any_place o p denotes.Typeless = refl
  any_place o p (denotes.«Package» d) = refl
  any_place o p (denotes.«Type» d t) = refl
  any_place o p (denotes.«Value» operand) = refl
  any_place o p (denotes.Several s) = refl
  any_place o p denotes.Nothing = refl
  any_place o p (denotes.Func d s) = refl
  any_place o p (denotes.Builtin d b) = refl

  given_same : (n i : ℕ) (alone : Bool) (e f : ExprTree) → denoted looks stands.«Value» e ≡ denoted looks stands.«Value» f → given_by looks n i alone (Some e) ≡ given_by looks n i alone (Some f)
  given_same n i true e f h = ap (one_of n i) (ap (λ d. arguments_of (look_of_place looks (start e)) (d ∷ [])) h ∙ any_place (start e) (start f) (denoted looks stands.«Value» f))
  given_same n i false e f h = ap argument_of h

  module _ (xs : Separated Ident) (t : Option TypeTree) (s : Span) (es fs : Separated ExprTree) (alone : is_one es ≡ is_one fs) where
    abbrev v : ValueSpecTree
    v = value_spec_with xs t (Some (s, es))

    abbrev w : ValueSpecTree
    w = value_spec_with xs t (Some (s, fs))

    -- one expression, or two that denote the same
    pub own_same : (i : ℕ) → expr_of v i ≡ expr_of w i → own_argument looks v i ≡ own_argument looks w i
    own_same i h = ap (λ b. given_by looks (spec_name_count v) i b (expr_of v i)) alone ∙ ap (given_by looks (spec_name_count v) i (is_one fs)) h

    pub own_alike : (i : ℕ) (e f : ExprTree) → expr_of v i ≡ Some e → expr_of w i ≡ Some f → denoted looks stands.«Value» e ≡ denoted looks stands.«Value» f → own_argument looks v i ≡ own_argument looks w i
    own_alike i e f he hf same =
        ap (λ b. given_by looks (spec_name_count v) i b (expr_of v i)) alone
        ∙ (ap (given_by looks (spec_name_count v) i (is_one fs)) he ∙ (given_same (spec_name_count v) i (is_one fs) e f same ∙ ap (given_by looks (spec_name_count v) i (is_one fs)) (sym hf)))

    pub initial_same : (kind : ValueKind) (i : ℕ) → own_argument looks v i ≡ own_argument looks w i → initial looks kind v i ≡ initial looks kind w i
    initial_same kind i h = elim (cases_lt i (spec_name_count v)) [
      | inl lt ↦ initial_is looks kind v i lt ∙ (ap (value_from looks.types kind (some_written_type looks t)) h ∙ sym (initial_is looks kind w i lt))
      | inr past ↦ initial_past looks kind v i past ∙ sym (initial_past looks kind w i past)
    ]
