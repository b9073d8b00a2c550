-- A name that its block has already is not declared.
use Rattle.std.proofs.Common.{◌≡◌, ℕ, ◌⊎◌, inl, inr, Bool, true, false, not, ◌&&◌, List, [], ◌∷◌, ◌++◌, length, is_some, if◌then◌else◌, refl, sym, ap, ◌∙◌}
use Rattle.go_scope_core.specs.text_core.Text.{is_blank}
use Rattle.go_scope_core.specs.text_core.declared.rule.Rule.{Rule}
use Rattle.go_scope_core.specs.text_core.declared.rule.Rule.TheVariants.{B1, M0}
use Rattle.go_tree_nodes.specs.declared.names.Ident.{Ident}
use Rattle.go_local_core.specs.scope_stack.declared.DeclId.{DeclId}
use Rattle.go_local_core.specs.scope_stack.Blocks.{in_block, innermost, with_innermost, is_taken, is_new, block_after}
use Rattle.go_scope_core.specs.Models.{ScopesModel}
use Rattle.go_scope_core.specs.Scopes.{with_open}
use Rattle.go_names_core.specs.Scenes.{name_scene, local_declared}
use Rattle.go_names_core.specs.mirrors.States.{Blocks}

innermost_kept : (bs : Blocks) → with_innermost bs (innermost bs) ≡ bs
innermost_kept [] = refl
innermost_kept (b ∷ []) = refl
innermost_kept (b ∷ c ∷ bs) = ap (λ l. b ∷ l) (innermost_kept (c ∷ bs))

taken_is_old : (bs : Blocks) (name : List ℕ) → is_taken bs name ≡ true → is_new (innermost bs) name ≡ false
taken_is_old bs name h = by (is_blank name) (is_some (in_block (innermost bs) name)) h
  where
    by : (b s : Bool) → (not b && s) ≡ true → (not b && not s) ≡ false
    by true s h = refl
    by false true h = refl
    by false false h = absurd (cc)

pub taken_declared : {X : Type 0} {P Q : Type 0} (s s' : ScopesModel) (ls ls' : List X) (n : List ℕ) (x : Ident) (m : X) (rule : Rule) → rule ≡ B1 → s' ≡ s → ls' ≡ ls ++ m ∷ [] → n ≡ x.name → ((rule ≡ M0) × P) ⊎ (Q × (is_taken s.open_blocks n ≡ true)) → name_scene s' ls' ≡ local_declared (name_scene s ls) x m
taken_declared s s' ls ls' n x m rule is_second same more name (inl w) = (let clash : B1 ≡ M0 = sym is_second ∙ w.0 in cc)
taken_declared s s' ls ls' n x m rule is_second same more name (inr w) =
    let new : List ℕ × DeclId = (x.name, record { 0 = length ls }) in
    let kept : with_innermost s.open_blocks (block_after (innermost s.open_blocks) (new ∷ [])) ≡ s.open_blocks =
    ap (λ b. with_innermost s.open_blocks (if b then innermost s.open_blocks ++ new ∷ [] else innermost s.open_blocks)) (taken_is_old s.open_blocks x.name (ap (is_taken s.open_blocks) (sym name) ∙ w.1)) ∙ innermost_kept s.open_blocks in
    ap (λ t. name_scene t ls') same ∙ (ap (name_scene s) more ∙ ap (λ o. name_scene (with_open s o) (ls ++ m ∷ [])) (sym kept))
