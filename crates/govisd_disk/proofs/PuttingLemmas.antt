-- Folders that are put one after another.
use Rattle.std.proofs.Common.{◌≡◌, ◌∙◌, ℕ, List, [], ◌∷◌, ◌++◌, inl, inr, Some, None, Result, Ok, Err, OnOk, refl, sym, subst}
use Rattle.go_path_core.specs.text_core.declared.rule.Rule.TheVariants.{E1}
use Rattle.go_path_core.specs.Path.{IsPath}
use Rattle.go_folder_core.specs.Folders.{joined_path}
use Rattle.go_graph_core.specs.Workspaces.{PackageModel, Puts}
use Rattle.govisd_disk.specs.Notes.{refusal_line}
use Rattle.govisd_disk.specs.Puts.{ArePut, FolderModel, IsPathOf, IsPut, StateModel}

-- one more folder
pub put_more : (own : List ℕ) (fs : List FolderModel) (f : FolderModel) (old mid new : StateModel) → ArePut own fs old mid → IsPut own f mid new → ArePut own (fs ++ f ∷ []) old new
put_more own [] f old mid new h is = (new, subst (λ s. IsPut own f s new) h is, refl)
put_more own (g ∷ fs) f old mid new h is = (h.0, h.1, put_more own fs f h.0 mid new h.2 is)

module _ (own folder : List ℕ) (files : List (List ℕ × List ℕ)) (ps : List PackageModel) where
  -- the files of a folder whose path is one are put
  pub is_put : (new : List PackageModel) (notes text path : List ℕ) → text ≡ joined_path own folder → IsPathOf text (Some path) → Puts ps path files new → IsPut own (folder, files) (ps, notes) (new, notes)
  is_put new notes text path same h puts = inl (subst IsPath same h.1, subst (λ p. Puts ps p files new) (h.0 ∙ same) puts, refl)

  -- those of another folder are not
  pub not_put : {X E : Type 0} (notes notes' text : List ℕ) → text ≡ joined_path own folder → IsPathOf text None → (r : Result X E) → OnOk r (notes' ≡ notes ++ refusal_line folder E1) → OnOk r (IsPut own (folder, files) (ps, notes) (ps, notes'))
  not_put notes notes' text same h (Ok x) said = inr (λ p. h (subst IsPath (sym same) p), refl, said)
  not_put notes notes' text same h (Err e) said = tt
