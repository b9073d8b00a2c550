-- Sets of paths.
use Rattle.std.proofs.Common.{◌≡◌, ℕ, Bool, true, false, ◌||◌, List, [], ◌∷◌, cond, refl, sym, ap, ◌∙◌}
use Rattle.std.specs.BTreeSet.{BTreeSet, Updates}
use Rattle.std.specs.Borrow.{Bor}
use Rattle.std.specs.Cmp.Lexicographic.{slice_cmp}
use Rattle.std.specs.List.{list_any}
use Rattle.std.specs.Ordering.{is_eq, nat_cmp}
use Rattle.std.specs.Str.{bytes_eq}
use Rattle.std.proofs.lemmas.Map.Text.{is_eq-slice_cmp}
use Rattle.go_complete_core.specs.views.Imported.{has_path}

-- paths behind references, in the order of their bytes
pub any_path : (path : List ℕ) (ps : List (Bor (List ℕ))) → list_any (λ p. is_eq (slice_cmp nat_cmp path p.now)) ps ≡ has_path ps path
any_path path [] = refl
any_path path (p ∷ ps) = ap (λ b. b || list_any (λ q. is_eq (slice_cmp nat_cmp path q.now)) ps) (is_eq-slice_cmp path p.now) ∙ ap (λ b. bytes_eq path p.now || b) (any_path path ps)

-- a set of them with one more
pub path_put : (old new : BTreeSet (Bor (List ℕ))) (p : Bor (List ℕ)) → Updates (λ x y. slice_cmp nat_cmp x.now y.now) old new p true → (path : List ℕ) → has_path new.keys path ≡ has_path old.keys path || bytes_eq p.now path
path_put old new p put path =
    sym (any_path path new.keys)
    ∙ (put.0 (record { ref_ptr = (0, 0); now = path })
    ∙ (ap (λ b. cond b true (list_any (λ q. is_eq (slice_cmp nat_cmp path q.now)) old.keys)) (is_eq-slice_cmp p.now path)
    ∙ (ap (cond (bytes_eq p.now path) true) (any_path path old.keys) ∙ by (bytes_eq p.now path) (has_path old.keys path))))
  where
    by : (a b : Bool) → cond a true b ≡ b || a
    by true true = refl
    by true false = refl
    by false true = refl
    by false false = refl
