-- The first identifier of declarations that begins at an offset, as it is found.
use Rattle.std.proofs.Common.{◌≡◌, ℕ, ◌+◌, ◌<◌, true, false, List, ◌∷◌, ◌++◌, length, get_or, drop, map, Option, Some, None, sym, ap, ◌∙◌}
use Rattle.std.specs.Prelude.{is_some}
use Rattle.std.specs.Option.{option_map, option_or}
use Rattle.std.proofs.lemmas.List.{drop_more}
use Rattle.std.proofs.lemmas.List.Folds.{find-append}
use Rattle.go_tree_nodes.specs.declared.files.TopDecl.{TopDecl}
use Rattle.go_tree_nodes.specs.Trees.{FuncTree}
use Rattle.go_tree_nodes.specs.Shapes.{decl_of, top_of}
use Rattle.go_cursor_core.specs.declared.spot.FoundSpot.{FoundSpot}
use Rattle.go_cursor_core.specs.Used.{Used, begins_at, first_used}
use Rattle.go_cursor_core.specs.Opened.{OpenUsed, first_open, FileUsed, outside, in_func, decl_names, tops_names, first_name}
use Rattle.go_cursor_core.specs.Spots.{spot_seen}
use Rattle.go_cursor_core.proofs.Finding.{find_mapped}

pub first_outside : (start : ℕ) (us : List Used) → first_name start (map outside us) ≡ option_map outside (first_used start us)
first_outside start us = find_mapped (λ n. begins_at start n.used) outside us

pub first_in_func : (start : ℕ) (f : FuncTree) (os : List OpenUsed) → first_name start (map (in_func f) os) ≡ option_map (in_func f) (first_open start os)
first_in_func start f os = find_mapped (λ n. begins_at start n.used) (in_func f) os

parts : (start : ℕ) (all xs ys : List FileUsed) → all ≡ xs ++ ys → first_name start all ≡ option_or (first_name start xs) (first_name start ys)
parts start all xs ys same = ap (first_name start) same ∙ find-append (λ n. begins_at start n.used) xs ys

in_front : (start : ℕ) (r : Option FoundSpot) (all xs ys : List FileUsed) → all ≡ xs ++ ys → option_map spot_seen r ≡ first_name start xs → is_some r ≡ true → option_map spot_seen r ≡ first_name start all
in_front start None all xs ys same h is = absurd (cc)
in_front start (Some u) all xs ys same h is = ap (λ o. option_or o (first_name start ys)) h ∙ sym (parts start all xs ys same)

not_in_front : (start : ℕ) (r : Option FoundSpot) (all xs ys : List FileUsed) → all ≡ xs ++ ys → option_map spot_seen r ≡ first_name start xs → is_some r ≡ false → first_name start all ≡ first_name start ys
not_in_front start None all xs ys same h is = parts start all xs ys same ∙ ap (λ o. option_or o (first_name start ys)) (sym h)
not_in_front start (Some u) all xs ys same h is = absurd (cc)

at_top : (ds : List TopDecl) (i : ℕ) (d : TopDecl) → i < length ds → d ≡ get_or ds i d → tops_names (map top_of (drop i ds)) ≡ decl_names (decl_of d.decl) ++ tops_names (map top_of (drop (i + 1) ds))
at_top ds i d h is = ap (λ l. tops_names (map top_of l)) (drop_more ds i d h ∙ ap (λ y. y ∷ drop (i + 1) ds) (sym is))

pub top_hit : (start : ℕ) (items ds : List TopDecl) (i : ℕ) (d : TopDecl) (r : Option FoundSpot) → items ≡ ds → i < length items → d ≡ get_or items i d
    → first_name start (tops_names (map top_of (drop i items))) ≡ first_name start (tops_names (map top_of items)) → option_map spot_seen r ≡ first_name start (decl_names (decl_of d.decl)) → is_some r ≡ true
    → option_map spot_seen r ≡ first_name start (tops_names (map top_of ds))
top_hit start items ds i d r same h is before now there = in_front start r _ _ (tops_names (map top_of (drop (i + 1) items))) (at_top items i d h is) now there ∙ (before ∙ ap (λ l. first_name start (tops_names (map top_of l))) same)

pub top_passed : (start : ℕ) (items : List TopDecl) (i : ℕ) (d : TopDecl) (r : Option FoundSpot) → i < length items → d ≡ get_or items i d
    → first_name start (tops_names (map top_of (drop i items))) ≡ first_name start (tops_names (map top_of items)) → option_map spot_seen r ≡ first_name start (decl_names (decl_of d.decl)) → is_some r ≡ false
    → first_name start (tops_names (map top_of (drop (i + 1) items))) ≡ first_name start (tops_names (map top_of items))
top_passed start items i d r h is before now gone = sym (not_in_front start r _ _ (tops_names (map top_of (drop (i + 1) items))) (at_top items i d h is) now gone) ∙ before
