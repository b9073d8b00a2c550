-- The declarations of a package as a list.
use Rattle.std.proofs.Common.{◌≡◌, ℕ, suc, ◌+◌, ◌<◌, ◌≤◌, List, [], ◌∷◌, ◌++◌, map, length, get_or, take, refl, sym, ap, ◌∙◌, arith, append-nil}
use Rattle.std.specs.Prelude.{Vec, slice_index_or}
use Rattle.std.specs.declared.alloc.Global.{Global}
use Rattle.go_digraph_core.specs.needs.Needs.{rows_of}
use Rattle.std.specs.List.{flat_map, enumerate_from}
use Rattle.std.proofs.lemmas.List.{take_all, length-map}
use Rattle.go_term_core.specs.decl_core.declared.tops.Outline.{Outline}
use Rattle.go_term_core.specs.decl_core.Shown.{decl_shown}
use Rattle.go_typexpr_core.specs.entry.Outlines.{outline_shown}
use Rattle.go_typexpr_core.proofs.EntryNumbered.{flat_more}
use Rattle.go_stmt_core.specs.inline_core.Types.{InlineOf}
use Rattle.go_value_core.specs.Package.{PlacedOf, placed, placed_in, placed_decls}

pub rows_more : (xs : List (Vec ℕ Global)) (v : Vec ℕ Global) → rows_of (xs ++ v ∷ []) ≡ rows_of xs ++ v.items ∷ []
rows_more [] v = refl
rows_more (x ∷ xs) v = ap (λ l. x.items ∷ l) (rows_more xs v)

pub files_step : (types : List (List (ℕ × InlineOf))) (t : List (ℕ × InlineOf)) (os : List Outline) (i : ℕ) (o : Outline) (old new : List PlacedOf) → i < length os → o ≡ get_or os i o → t ≡ slice_index_or types i []
    → old ≡ placed_decls types (map outline_shown (take i os)) → new ≡ old ++ placed_in i t (outline_shown o) → new ≡ placed_decls types (map outline_shown (take (i + 1) os))
files_step types t os i o old new lt is of_t was e =
    e
    ∙ (ap (λ l. l ++ placed_in i t (outline_shown o)) was
    ∙ (ap (λ x. placed_decls types (map outline_shown (take i os)) ++ placed_in i x (outline_shown o)) of_t
    ∙ sym (flat_more outline_shown (λ p. placed_in p.0 (slice_index_or types p.0 []) p.1) os i o lt is)))
