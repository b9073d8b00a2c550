-- Declarations among those of a list, by file and number.
use Rattle.std.proofs.Common.{◌≡◌, inl, inr, ℕ, Bool, true, false, ◌||◌, List, [], ◌∷◌, ◌++◌, length, get_or, Option, refl, sym, ap, ◌∙◌, arith}
use Rattle.std.specs.Prelude.{is_ok}
use Rattle.std.specs.Cmp.{IsStrictWeakOrder}
use Rattle.std.specs.List.Sorted.{IsSortedBy, IsPermutation, IsBinarySearchResult, IsSearchInRange}
use Rattle.std.specs.Ordering.{is_lt}
use Rattle.std.specs.declared.result.Result.{Result}
use Rattle.std.specs.declared.result.Result.TheVariants.{Ok, Err}
use Rattle.std.specs.declared.cmp.Ordering.TheVariants.{Less, Equal, Greater}
use Rattle.std.proofs.lemmas.Bool.{true≢false, cases_lt}
use Rattle.std.proofs.lemmas.List.Sorted.{searchable_from_sorted, ranks_by, Contains-permutation, IsPermutation-sym}
use Rattle.go_term_core.specs.decl_core.declared.keys.DeclRef.{DeclRef}
use Rattle.go_report_core.proofs.Settled.{or_true}
use Rattle.go_summary_core.specs.declared_core.Faces.{TheFace}
use Rattle.go_summary_core.specs.declared_core.Written.{same_decl_place}
use Rattle.go_term_core.specs.decl_core.Order.{place_cmp}
use Rattle.go_term_core.proofs.Members.{In, contained_in, in_at, in_contained}
use Rattle.go_summary_core.specs.declared_core.Placed.{place_total, same_equal, equal_same}
use Rattle.go_report_core.specs.answer.Shown.{is_decl_listed, shown_among, shown_if}

pub order_weak : IsStrictWeakOrder (λ (d e : DeclRef). is_lt (place_cmp d e))
order_weak = ranks_by place_total (λ (d : DeclRef). d)

-- one of the list has the file and the number
abbrev pub IsAmong : List DeclRef → DeclRef → Type 0
IsAmong es d = (e : DeclRef) × In es e × (same_decl_place e d ≡ true)

pub among_listed : (es : List DeclRef) (e d : DeclRef) → In es e → same_decl_place e d ≡ true → is_decl_listed es d ≡ true
among_listed [] e d h same = absurd h
among_listed (x ∷ es) e d (inl is) same = ap (λ b. b || is_decl_listed es d) (ap (λ y. same_decl_place y d) is ∙ same)
among_listed (x ∷ es) e d (inr h) same = ap (λ b. same_decl_place x d || b) (among_listed es e d h same) ∙ or_true (same_decl_place x d)

pub listed_among : (es : List DeclRef) (d : DeclRef) → is_decl_listed es d ≡ true → IsAmong es d
listed_among [] d h = absurd (true≢false (sym h))
listed_among (x ∷ es) d h = by (same_decl_place x d) refl h (listed_among es d)
  where
    by : (b : Bool) → same_decl_place x d ≡ b → (b || is_decl_listed es d) ≡ true → (is_decl_listed es d ≡ true → IsAmong es d) → IsAmong (x ∷ es) d
    by true same h rest = (x, inl refl, same)
    by false same h rest = let r = rest h in (r.0, inr r.1, r.2)

-- what a search finds

pub searched : (es : List DeclRef) (d : DeclRef) (r : Result ℕ ℕ) → IsSortedBy (λ (a b : DeclRef). is_lt (place_cmp a b)) es → IsSearchInRange r (length es) → IsBinarySearchResult (λ (e : DeclRef). place_cmp e d) es r
    → is_ok r ≡ is_decl_listed es d
searched es d (Ok n) sorted lt equal = sym (among_listed es (get_or es n d) d (in_at es n d lt) (equal_same (get_or es n d) d (equal d)))
searched es d (Err k) sorted le parted = by (is_decl_listed es d) refl
  where
    by : (b : Bool) → is_decl_listed es d ≡ b → false ≡ is_decl_listed es d
    by false e = sym e
    by true e =
        let found = listed_among es d e in
        let at = contained_in es found.0 found.1 in
        let here : place_cmp (get_or es at.0 found.0) d ≡ Equal = ap (λ x. place_cmp x d) at.2 ∙ same_equal found.0 d found.2 in
        let split = parted (searchable_from_sorted place_total (λ (x : DeclRef). x) es d sorted) in
        elim (cases_lt at.0 k) [
          | inl before ↦ (let no : Less ≡ Equal = sym (split.0 at.0 found.0 (omega arith) before) ∙ here in cc)
          | inr behind ↦ (let no : Greater ≡ Equal = sym (split.1 at.0 found.0 behind at.1) ∙ here in cc)
        ]

-- the order of a list does not count

listed_there : (es fs : List DeclRef) (d : DeclRef) → IsPermutation es fs → is_decl_listed es d ≡ true → is_decl_listed fs d ≡ true
listed_there es fs d moves h =
    let found = listed_among es d h in
    among_listed fs found.0 d (in_contained fs found.0 (Contains-permutation es fs found.0 moves (contained_in es found.0 found.1))) found.2

pub moved_listed : (es fs : List DeclRef) (d : DeclRef) → IsPermutation es fs → is_decl_listed fs d ≡ is_decl_listed es d
moved_listed es fs d moves = by (is_decl_listed es d) (is_decl_listed fs d) refl refl
  where
    by : (a b : Bool) → is_decl_listed es d ≡ a → is_decl_listed fs d ≡ b → is_decl_listed fs d ≡ is_decl_listed es d
    by true b e f = listed_there es fs d moves e ∙ sym e
    by false true e f = absurd (true≢false (sym (sym e ∙ listed_there fs es d (IsPermutation-sym es fs moves) f)))
    by false false e f = f ∙ sym e

pub moved_shown : (es fs ds : List DeclRef) (known : List (Option TheFace)) → IsPermutation es fs → shown_among fs ds known ≡ shown_among es ds known
moved_shown es fs [] known moves = refl
moved_shown es fs (d ∷ ds) [] moves = refl
moved_shown es fs (d ∷ ds) (face ∷ known) moves =
    ap (λ b. shown_if b d face ++ shown_among fs ds known) (moved_listed es fs d moves) ∙ ap (λ l. shown_if (is_decl_listed es d) d face ++ l) (moved_shown es fs ds known moves)
