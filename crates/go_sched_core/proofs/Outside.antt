-- What submissions leave as it is: the files of the paths outside their modules.
use Rattle.std.proofs.Common.{◌≡◌, ℕ, Bool, true, false, ◌||◌, cond, List, [], ◌∷◌, ◌++◌, refl, sym, ap, ◌∙◌}
use Rattle.std.specs.List.{list_any}
use Rattle.std.specs.Str.{bytes_eq}
use Rattle.std.proofs.lemmas.List.Folds.{list_any-append}
use Rattle.std.proofs.lemmas.Slice.Eq.{bytes_eq-Decides}
use Rattle.go_graph_core.specs.Workspaces.{PackageModel, IsWorkspace, files_at, is_path_inside, replaced}
use Rattle.go_import_core.specs.head.Outside.{AreSameOutside, is_inside_any}
use Rattle.go_import_core.proofs.HeadReplacing.{replaced_outside, same_outside}
use Rattle.go_submit_core.specs.Modules.{is_among, with_module, with_trees}
use Rattle.go_submit_core.specs.Submitted.{submitted}
use Rattle.go_submit_core.specs.declared.submission.Submission.{Submission}

-- whether a path is inside the module of one of these trees
abbrev is_inside_trees : List Submission → List ℕ → Bool
is_inside_trees ss path = list_any (λ s. is_path_inside s.tree.own path) ss

neither : (a b : Bool) → (a || b) ≡ false → (a ≡ false) × (b ≡ false)
neither false b e = (refl, e)
neither true b e = absurd cc

-- the files of a path outside the modules of submissions stay
submitted_outside : (ps : List PackageModel) (ss : List Submission) (path : List ℕ) → is_inside_trees ss path ≡ false → files_at (submitted ps ss) path ≡ files_at ps path
submitted_outside ps [] path none = refl
submitted_outside ps (s ∷ ss) path none =
    let two = neither (is_path_inside s.tree.own path) (is_inside_trees ss path) none in
    submitted_outside (replaced s.tree.own ps s.tree.packages) ss path two.1
    ∙ replaced_outside s.tree.own ps s.tree.packages path two.0

-- a module that is among others has no path that none of them has
outside_one : (m : List ℕ) (ms : List (List ℕ)) (path : List ℕ) → is_among m ms ≡ true → is_inside_any ms path ≡ false → is_path_inside m path ≡ false
outside_one m [] path among none = absurd cc
outside_one m (t ∷ ms) path among none =
    let two = neither (is_path_inside t path) (is_inside_any ms path) none in
    step (bytes_eq t m) refl two.0 (λ behind. outside_one m ms path behind two.1)
  where
    step : (b : Bool) → bytes_eq t m ≡ b → is_path_inside t path ≡ false → (is_among m ms ≡ true → is_path_inside m path ≡ false) → is_path_inside m path ≡ false
    step true e one rest = ap (λ n. is_path_inside n path) (sym ((bytes_eq-Decides t m).0 e)) ∙ one
    step false e one rest = rest (ap (λ b. b || is_among m ms) (sym e) ∙ among)

outside_more : (ms : List (List ℕ)) (m path : List ℕ) → is_inside_any (with_module ms m) path ≡ false → (is_inside_any ms path ≡ false) × (is_path_inside m path ≡ false)
outside_more ms m path none = step (is_among m ms) refl none
  where
    step : (b : Bool) → is_among m ms ≡ b → is_inside_any (cond b ms (ms ++ m ∷ [])) path ≡ false → (is_inside_any ms path ≡ false) × (is_path_inside m path ≡ false)
    step true e none = (none, outside_one m ms path e none)
    step false e none =
        let two = neither (is_inside_any ms path) (is_inside_any (m ∷ []) path) (sym (list_any-append (λ t. is_path_inside t path) ms (m ∷ [])) ∙ none) in
        (two.0, (neither (is_path_inside m path) false two.1).0)

-- a path outside the modules of submissions, each once
outside_trees : (ms : List (List ℕ)) (ss : List Submission) (path : List ℕ) → is_inside_any (with_trees ms ss) path ≡ false → (is_inside_any ms path ≡ false) × (is_inside_trees ss path ≡ false)
outside_trees ms [] path none = (none, refl)
outside_trees ms (s ∷ ss) path none =
    let rest = outside_trees (with_module ms s.tree.own) ss path none in
    let one = outside_more ms s.tree.own path rest.0 in
    (one.0, ap (λ b. b || is_inside_trees ss path) one.1 ∙ rest.1)

-- packages with what was submitted are as they were outside its modules
pub same_but_trees : (ps earlier qs : List PackageModel) (ss : List Submission) (modules : List (List ℕ)) → IsWorkspace earlier → IsWorkspace qs → earlier ≡ ps → qs ≡ submitted ps ss → modules ≡ with_trees [] ss → AreSameOutside modules earlier qs
same_but_trees ps earlier qs ss modules one other was is are =
    same_outside modules earlier qs one other
    (λ path none.
    ap (λ l. files_at l path) is
    ∙ submitted_outside ps ss path (outside_trees [] ss path (ap (λ ms. is_inside_any ms path) (sym are) ∙ none)).1
    ∙ ap (λ l. files_at l path) (sym was))
