-- The last tree of each module.
use Rattle.std.proofs.Common.{◌≡◌, ℕ, suc, true, false, cond, List, [], ◌∷◌, Option, Some, None, refl, sym, ap, ◌∙◌, inl, inr, arith}
use Rattle.std.specs.List.{fold}
use Rattle.std.specs.Str.{bytes_eq}
use Rattle.std.proofs.lemmas.List.Sums.{fold-append}
use Rattle.std.proofs.lemmas.Slice.Eq.{bytes_eq-Decides}
use Rattle.go_path_core.specs.text_core.Each.{true_or_false}
use Rattle.go_path_core.specs.Path.{elements}
use Rattle.go_path_core.proofs.Paths.{begins_is}
use Rattle.go_graph_core.specs.Workspaces.{PackageModel, IsWorkspace, Replaces, files_at, is_path_inside, replaced}
use Rattle.go_graph_core.proofs.Keeping.{replaces}
use Rattle.go_submit_core.specs.declared.submission.Submission.{Submission}
use Rattle.go_submit_core.specs.declared.published.PublishedBatch.{PublishedBatch}
use Rattle.go_submit_core.specs.Trees.{TreeModel}
use Rattle.go_submit_core.specs.Submitted.{submitted}
use Rattle.go_submit_core.specs.Laws.{AreWorkspaces, LastTrees, LiesInNoOther, PublishedModules, PublishedPaths, last_files, submissions_of, tree_files}

files_put : (own : List ℕ) (old from : List PackageModel) (path : List ℕ) → IsWorkspace from → files_at (replaced own old from) path ≡ cond (is_path_inside own path) (files_at from path) (files_at old path)
files_put own old from path well =
    let is : Replaces own old from (replaced own old from) = replaces own old from (replaced own old from) well.order refl in
    elim (true_or_false (is_path_inside own path)) [
      | inl y ↦ is.here path ((begins_is (elements own) (elements path)).0 y) ∙ ap (λ b. cond b (files_at from path) (files_at old path)) (sym y)
      | inr n ↦ is.others path (λ pre. let y : is_path_inside own path ≡ true = (begins_is (elements own) (elements path)).1 pre in cc) ∙ ap (λ b. cond b (files_at from path) (files_at old path)) (sym n)
    ]

rest_of : (s : Submission) (ss : List Submission) → AreWorkspaces (s ∷ ss) → AreWorkspaces ss
rest_of s ss all = λ k d lt. all (suc k) d (omega (arith, lt))

pub last_trees : LastTrees
last_trees ps [] path all = refl
last_trees ps (s ∷ ss) path all =
    last_trees (replaced s.tree.own ps s.tree.packages) ss path (rest_of s ss all)
    ∙ ap (λ found. last_files found ss path) (files_put s.tree.own ps s.tree.packages path (all 0 s (omega arith)))

-- all batches, one after another, are one list of submissions
all_submitted : (ps : List PackageModel) (bs : List PublishedBatch) → fold (λ w (b : PublishedBatch). submitted w b.submissions) ps bs ≡ submitted ps (submissions_of bs)
all_submitted ps [] = refl
all_submitted ps (b ∷ bs) =
    all_submitted (submitted ps b.submissions) bs
    ∙ sym (fold-append (λ w (s : Submission). replaced s.tree.own w s.tree.packages) ps b.submissions (submissions_of bs))

pub published_paths : PublishedPaths
published_paths bs path all = ap (λ ps. files_at ps path) (all_submitted [] bs) ∙ last_trees [] (submissions_of bs) path all

no_other : (own path : List ℕ) (s : Submission) (ss : List Submission) → LiesInNoOther own path (s ∷ ss) → LiesInNoOther own path ss
no_other own path s ss none = λ k d lt. none (suc k) d (omega (arith, lt))

-- the last tree of a module is the last one in whose module a path inside it lies
last_inside : (own path : List ℕ) (found : Option TreeModel) (ss : List Submission) → is_path_inside own path ≡ true → LiesInNoOther own path ss → last_files (tree_files found path) ss path ≡ tree_files (fold (λ f (s : Submission). cond (bytes_eq s.tree.own own) (Some s.tree) f) found ss) path
last_inside own path found [] inside none = refl
last_inside own path found (s ∷ ss) inside none =
    elim (true_or_false (is_path_inside s.tree.own path)) [
      | inl y ↦
          let same : bytes_eq s.tree.own own ≡ true = (bytes_eq-Decides s.tree.own own).1 (none 0 s (omega arith) y) in
          ap (λ b. last_files (cond b (files_at s.tree.packages path) (tree_files found path)) ss path) y
          ∙ last_inside own path (Some s.tree) ss inside (no_other own path s ss none)
          ∙ ap (λ b. tree_files (fold (λ f (t : Submission). cond (bytes_eq t.tree.own own) (Some t.tree) f) (cond b (Some s.tree) found) ss) path) (sym same)
      | inr n ↦
          let other : bytes_eq s.tree.own own ≡ false = elim (true_or_false (bytes_eq s.tree.own own)) [
            | inl t ↦ absurd (let e : true ≡ false = sym inside ∙ ap (λ m. is_path_inside m path) (sym ((bytes_eq-Decides s.tree.own own).0 t)) ∙ n in cc)
            | inr f ↦ f
          ] in
          ap (λ b. last_files (cond b (files_at s.tree.packages path) (tree_files found path)) ss path) n
          ∙ last_inside own path found ss inside (no_other own path s ss none)
          ∙ ap (λ b. tree_files (fold (λ f (t : Submission). cond (bytes_eq t.tree.own own) (Some t.tree) f) (cond b (Some s.tree) found) ss) path) (sym other)
    ]

pub published_modules : PublishedModules
published_modules bs all own path inside none = published_paths bs path all ∙ last_inside own path None (submissions_of bs) inside none
