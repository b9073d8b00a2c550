-- What a name shows behind the name of a package and a dot.
use Rattle.std.proofs.Common.{◌≡◌, ◌⊎◌, ℕ, List, inl, inr, Option, Some, None, sym, ap, subst}
use Rattle.go_path_core.specs.text_core.declared.rule.Rule.{Rule}
use Rattle.go_path_core.specs.text_core.declared.rule.Rule.TheVariants.{M0, N2, N3, N6}
use Rattle.go_tree_nodes.specs.declared.usage.Usage.TheVariants as usages
use Rattle.go_term_core.specs.decl_core.declared.keys.DeclRef.{DeclRef}
use Rattle.go_term_core.specs.Terms.{Term}
use Rattle.go_term_core.specs.declared.term.MemberPlace.TheVariants as places
use Rattle.go_expr_core.specs.denote_core.declared.things.Outcome.TheVariants as outcomes
use Rattle.go_expr_core.specs.denote_core.Selectors.{exported_answer}
use Rattle.go_summary_core.specs.handle_core.Declarations.{InFile}
use Rattle.go_summary_core.specs.declared_core.declared.face.Face.TheVariants as faces
use Rattle.go_summary_core.specs.declared_core.declared.shown.ShownFace.{ShownFace}
use Rattle.go_summary_core.specs.declared_core.declared.shown.ShownFace.TheVariants as shows
use Rattle.go_summary_core.specs.declared_core.Faces.{TheFace}
use Rattle.go_package_core.specs.env_core.Found.{exported_shown}
use Rattle.go_type_doc_core.specs.Names.{TheAnswer}
use Rattle.go_type_doc_core.specs.mirrors.Named.{IsNoTypeFace, IsNoneShown, IsTypeShown, ShowsNone, ShowsType, face_answer}

-- a declaration of which this is known
module _ (face : Option TheFace) where
  pub some_shown : (f : TheFace) → face ≡ Some f → (t : Option Term) → f ≡ faces.«Type» t → ShowsType face t
  some_shown f is t h = subst (λ (o : Option TheFace). ShowsType o t) (sym is) (λ d. ap (λ (g : TheFace). (face_answer d (Some g)).denoted) h)

  some_none : (f : TheFace) (rule : Rule) → (rule ≡ N6) × IsNoTypeFace f → ShowsNone (Some f) rule
  some_none (faces.«Type» t) rule h = absurd h.1
  some_none (faces.Func g) rule h = λ d. ap outcomes.Refused (sym h.0)
  some_none (faces.«Value» o) rule h = λ d. ap outcomes.Refused (sym h.0)

  pub none_shown : (f : TheFace) → face ≡ Some f → (rule : Rule) → (rule ≡ M0) ⊎ ((rule ≡ N6) × IsNoTypeFace f) → (rule ≡ M0) ⊎ ShowsNone face rule
  none_shown f is rule (inl memory) = inl memory
  none_shown f is rule (inr h) = inr (subst (λ (o : Option TheFace). ShowsNone o rule) (sym is) (some_none f rule h))

  pub nothing_shown : face ≡ None → ShowsNone face N6
  nothing_shown is = λ d. ap (λ (o : Option TheFace). (face_answer d o).outcome) is

-- a name
module _ (shown : ShownFace) where
  abbrev shown_as : List ℕ → ShownFace → TheAnswer
  shown_as path s = exported_answer usages.«Type» (exported_shown path s)

  pub absent_none : shown ≡ shows.Absent → IsNoneShown shown N3
  absent_none is = λ path. ap (λ (s : ShownFace). (shown_as path s).outcome) is

  pub hidden_none : shown ≡ shows.Hidden → IsNoneShown shown N2
  hidden_none is = λ path. ap (λ (s : ShownFace). (shown_as path s).outcome) is

  module _ (d : DeclRef) (face : Option TheFace) (is : shown ≡ shows.Shown d face) where
    pub declared_shown : (t : Option Term) → ShowsType face t → IsTypeShown shown t
    declared_shown t h = subst (λ (s : ShownFace). IsTypeShown s t) (sym is) (λ path. (InFile path (places.Declared d), h (InFile path (places.Declared d))))

    pub declared_none : (rule : Rule) → (rule ≡ M0) ⊎ ShowsNone face rule → (rule ≡ M0) ⊎ IsNoneShown shown rule
    declared_none rule (inl memory) = inl memory
    declared_none rule (inr h) = inr (subst (λ (s : ShownFace). IsNoneShown s rule) (sym is) (λ path. h (InFile path (places.Declared d))))
