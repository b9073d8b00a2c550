-- What the name of a type has behind the name of its package: by what that package tells, wherever it is asked for.
use Rattle.std.proofs.Common.{◌≡◌, ℕ, inl, Bool, true, false, List, [], ◌∷◌, Option, Some, None, refl, sym, ap, ◌∙◌, if◌then◌else◌, arith}
use Rattle.std.specs.Prelude.{All}
use Rattle.std.proofs.lemmas.List.Elements.{All-cons, All-nil}
use Rattle.std.proofs.lemmas.List.Kept.{AllPairs-cons}
use Rattle.std.proofs.lemmas.Option.{same_Some}
use Rattle.go_path_core.specs.text_core.Text.{is_blank}
use Rattle.go_path_core.specs.text_core.declared.rule.Rule.TheVariants.{S8}
use Rattle.go_tree_nodes.specs.declared.usage.Usage.TheVariants as usages
use Rattle.go_tree_nodes.specs.Trees.{FileTree}
use Rattle.go_block_core.specs.Tables.{in_block}
use Rattle.go_term_core.specs.decl_core.declared.keys.DeclRef.{DeclRef}
use Rattle.go_term_core.specs.declared.term.MemberPlace.TheVariants as places
use Rattle.go_term_core.specs.Terms.{Term, Sign}
use Rattle.go_typexpr_core.proofs.EntryAmong.{Among, among_to}
use Rattle.go_expr_core.specs.denote_core.declared.things.Denoted.{Denoted}
use Rattle.go_expr_core.specs.denote_core.declared.things.Denoted.TheVariants as denotes
use Rattle.go_expr_core.specs.denote_core.Answers.{refused}
use Rattle.go_expr_core.specs.denote_core.Selectors.{exported_answer}
use Rattle.go_summary_core.specs.declared_core.declared.face.Face.TheVariants as faces
use Rattle.go_summary_core.specs.declared_core.declared.shown.ShownFace.{ShownFace}
use Rattle.go_summary_core.specs.declared_core.declared.shown.ShownFace.TheVariants as shows
use Rattle.go_summary_core.specs.declared_core.Faces.{TheFace}
use Rattle.go_summary_core.specs.declared_core.Packages.{PackageFacesModel, exported_in, face_by, shown_by, shown_name}
use Rattle.go_summary_core.specs.handle_core.Declarations.{Declaration, InFile}
use Rattle.go_summary_core.specs.Summaries.{IsOfOne, SummaryModel, path_of}
use Rattle.go_summary_core.specs.Views.{PathsAreApart, faces_told}
use Rattle.go_summary_core.proofs.Telling.{views_tell}
use Rattle.go_package_core.specs.env_core.Found.{TheExported, exported_face, exported_shown}
use Rattle.go_package_core.specs.package_part.Inputs.{path_in}
use Rattle.go_package_core.specs.package_part.Parts.{PartModel}
use Rattle.go_snap_core.proofs.WholeWorkspaceLists.{none_is_some}
use Rattle.go_snap_core.proofs.WholeWorkspaceTold.{AreWell}
use Rattle.go_type_doc_core.specs.Names.{NamesType, TheAnswer}
use Rattle.go_type_doc_core.specs.Naming.{other_answer}
use Rattle.go_documentation_laws.specs.Types.{type_behind}

-- a name is no `_`
abbrev judged : Bool → TheAnswer → TheAnswer
judged blank a = if blank then refused S8 else a

abbrev where_type : TheExported → TheAnswer
where_type x = exported_answer usages.«Type» x

-- by the path of the package, and what it shows under the name
abbrev pub shown_type : List ℕ → List ℕ → ShownFace → TheAnswer
shown_type path name x = judged (is_blank name) (where_type (exported_shown path x))

-- by what a package tells
abbrev pub told_type : SummaryModel → List ℕ → TheAnswer
told_type s name = shown_type (path_of s) name (shown_by s.faces name)

-- so it is where documentation asks
pub other_is : (q p : PartModel) (name : List ℕ) → IsOfOne p.content.summary → path_of p.content.summary ≡ path_in p.input → other_answer q p name ≡ told_type p.content.summary name
other_is q p name one path =
    let s : SummaryModel = p.content.summary in
    let none : List SummaryModel = [] in
    let apart : PathsAreApart (s ∷ []) = AllPairs-cons (λ a b. path_of a ≡ path_of b → ⊥) s none (All-nil (λ b. path_of s ≡ path_of b → ⊥)) (λ i j d lt below. absurd (omega (arith, below))) in
    let own : All IsOfOne (s ∷ []) = All-cons IsOfOne s none one (All-nil IsOfOne) in
    let tells = views_tell (s ∷ []) s apart own (among_to (s ∷ []) s (inl refl)) in
    ap (λ (x : List ℕ). shown_type x name (exported_in (faces_told (s ∷ [])) x name)) (sym path) ∙ ap (shown_type (path_of s) name) (tells.faces name)

-- and so it is in a file of a package to which this is told
pub behind_is : (q : PartModel) (file : ℕ) (tree : FileTree) (path name : List ℕ) (s : SummaryModel) → AreWell q.input.reached → Among q.input.reached s → path_of s ≡ path → type_behind q file tree path name ≡ told_type s name
behind_is q file tree path name s well among is =
    let tells = views_tell q.input.reached s well.apart well.own (among_to q.input.reached s among) in
    ap (λ (x : List ℕ). shown_type x name (exported_in (faces_told q.input.reached) x name)) (sym is) ∙ ap (shown_type (path_of s) name) (tells.faces name)

-- the type that is named

abbrev TheDenoted : Type 0
TheDenoted = Denoted Term Sign Declaration

abbrev typed : TheDenoted → Option (Option Term)
typed (denotes.«Type» d t) = Some t
typed _ = None

pub one_type : (a : TheAnswer) (t u : Option Term) → NamesType a t → NamesType a u → t ≡ u
one_type a t u x y = same_Some t u (sym (ap typed x.1) ∙ ap typed y.1)

-- what is shown is a declaration of the type that is named
module _ (path name : List ℕ) (t : Option Term) where
  from_face : (place : Declaration) (f : Option TheFace) → typed (where_type (exported_face place f)).denoted ≡ Some t → f ≡ Some (faces.«Type» t)
  from_face place None h = absurd (none_is_some h)
  from_face place (Some (faces.«Type» u)) h = ap (λ (o : Option Term). Some (faces.«Type» o)) (same_Some u t h)
  from_face place (Some (faces.Func g)) h = absurd (none_is_some h)
  from_face place (Some (faces.«Value» o)) h = absurd (none_is_some h)

  abbrev IsTypeShown : ShownFace → Type 0
  IsTypeShown x = (d : DeclRef) × (x ≡ shows.Shown d (Some (faces.«Type» t)))

  from_shown : (x : ShownFace) → typed (where_type (exported_shown path x)).denoted ≡ Some t → IsTypeShown x
  from_shown shows.Absent h = absurd (none_is_some h)
  from_shown shows.Hidden h = absurd (none_is_some h)
  from_shown (shows.Shown d f) h = (d, ap (shows.Shown d) (from_face (InFile path (places.Declared d)) f h))

  from_name : (blank : Bool) (x : ShownFace) → typed (judged blank (where_type (exported_shown path x))).denoted ≡ Some t → IsTypeShown x
  from_name true x h = absurd (none_is_some h)
  from_name false x h = from_shown x h

  pub type_shown : (x : ShownFace) → NamesType (shown_type path name x) t → (d : DeclRef) × (x ≡ shows.Shown d (Some (faces.«Type» t)))
  type_shown x h = from_name (is_blank name) x (ap typed h.1)

-- a declaration of the package is this type
abbrev pub HasFace : PackageFacesModel → Term → Type 0
HasFace shown t = (d : DeclRef) × (face_by shown d ≡ Some (faces.«Type» (Some t)))

module _ (shown : PackageFacesModel) (path name : List ℕ) (t : Term) where
  of_face : (d : DeclRef) (place : Declaration) (f : Option TheFace) → face_by shown d ≡ f → typed (where_type (exported_face place f)).denoted ≡ Some (Some t) → HasFace shown t
  of_face d place None is h = absurd (none_is_some h)
  of_face d place (Some (faces.«Type» u)) is h = (d, is ∙ ap (λ (o : Option Term). Some (faces.«Type» o)) (same_Some u (Some t) h))
  of_face d place (Some (faces.Func g)) is h = absurd (none_is_some h)
  of_face d place (Some (faces.«Value» o)) is h = absurd (none_is_some h)

  of_block : (o : Option (Option DeclRef)) → typed (where_type (exported_shown path (shown_name shown o))).denoted ≡ Some (Some t) → HasFace shown t
  of_block None h = absurd (none_is_some h)
  of_block (Some None) h = absurd (none_is_some h)
  of_block (Some (Some d)) h = of_face d (InFile path (places.Declared d)) (face_by shown d) refl h

  of_name : (blank : Bool) → typed (judged blank (where_type (exported_shown path (shown_by shown name)))).denoted ≡ Some (Some t) → HasFace shown t
  of_name true h = absurd (none_is_some h)
  of_name false h = of_block (in_block shown.names name) h

  pub has_face : NamesType (shown_type path name (shown_by shown name)) (Some t) → HasFace shown t
  has_face h = of_name (is_blank name) (ap typed h.1)
