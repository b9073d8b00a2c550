-- Modules that are there already.
use Rattle.std.proofs.Common.{◌≡◌, ℕ, Bool, true, false, List, [], ◌∷◌, ◌++◌, ap, ◌∙◌, refl}
use Rattle.std.specs.Prelude.{if◌then◌else◌, ◌&&◌}
use Rattle.std.specs.List.{list_all}
use Rattle.go_submit_core.specs.declared.submission.Submission.{Submission}
use Rattle.go_submit_core.specs.Modules.{is_among, with_module, with_trees}

both_true : (a b : Bool) → (a && b) ≡ true → (a ≡ true) × (b ≡ true)
both_true true true e = (refl, refl)
both_true true false e = absurd (cc)
both_true false b e = absurd (cc)

-- where the module of each submission is there already, the modules stay
pub none_new : (ms : List (List ℕ)) (ss : List Submission) → list_all (λ s. is_among s.tree.own ms) ss ≡ true → with_trees ms ss ≡ ms
none_new ms [] all = refl
none_new ms (s ∷ ss) all =
    let both = both_true (is_among s.tree.own ms) (list_all (λ (t : Submission). is_among t.tree.own ms) ss) all in
    let here : with_module ms s.tree.own ≡ ms = ap (λ (t : Bool). if t then ms else ms ++ s.tree.own ∷ []) both.0 in
    ap (λ (l : List (List ℕ)). with_trees l ss) here ∙ none_new ms ss both.1
