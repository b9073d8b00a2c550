-- What an input gives another gives too, where what is told to both is enough alike.
use Rattle.std.proofs.Common.{◌≡◌, ℕ, ◌⊎◌, inl, inr, List, [], ◌∷◌, All, refl, sym, ap, subst, ◌∙◌}
use Rattle.std.specs.Prelude.{Contains}
use Rattle.go_graph_core.specs.Packages.{trees_of}
use Rattle.go_graph_core.specs.Workspaces.{PackageModel}
use Rattle.go_term_core.specs.decl_core.declared.keys.DeclKey.{DeclKey}
use Rattle.go_term_core.specs.decl_core.declared.keys.DeclRef.{DeclRef}
use Rattle.go_names_core.specs.block_core.declared.binding.Target.{Target}
use Rattle.go_names_core.specs.block_core.declared.binding.Target.TheVariants as targets
use Rattle.go_names_core.specs.block_core.Exports.{ExportsModel}
use Rattle.go_body_core.specs.table_core.Entries.{find_entry}
use Rattle.go_body_core.specs.table_core.Tables.{PackageTypesModel}
use Rattle.go_body_core.specs.typexpr_core.EntryAmong.{among_from, among_map, among_to}
use Rattle.go_body_core.specs.typexpr_core.EntryShowing.{shown_in}
use Rattle.go_emit_core.specs.declared_core.Packages.{PackageFacesModel, exported_in, face_by, face_in, shown_by}
use Rattle.go_report_core.specs.summary_core.Summaries.{SummaryModel, path_of}
use Rattle.go_report_core.specs.summary_core.Telling.{nothing_else, views_tell}
use Rattle.go_report_core.specs.summary_core.Laws.{TellsNothing, TellsWhatItDoes}
use Rattle.go_report_core.specs.summary_core.Views.{exports_told, faces_told, types_told}
use Rattle.go_emit_core.specs.package_core.PackagePartInputs.{InputModel, IsInput, input_with, path_in}
use Rattle.go_emit_core.specs.package_core.PackagePartParts.{ContentOf, IsMade, IsPart, package_seen, seen_by}
use Rattle.go_snap_core.specs.whole_workspace.Known.{BindsInside, IsImportedPath, IsTargetIn}
use Rattle.go_snap_core.specs.whole_workspace.LocalLaws.{ImportsBindTheirs}
use Rattle.go_locality_laws.specs.Alike.{HasEnough, LeadsInside, ShownAlike, StandsOver, TellsEnough, paths_in}
use Rattle.go_locality_laws.specs.ImportLaws.{ImportsDecideChecks, ImportsDecideParts, StandsOnImports}

target_wider : (Inside Wider : List ℕ → Type 0) → ((path : List ℕ) → Inside path → Wider path) → (t : Target) → IsTargetIn Inside t → IsTargetIn Wider t
target_wider Inside Wider f (targets.«Package» path) h = f path h
target_wider Inside Wider f (targets.Refused rule) h = h
target_wider Inside Wider f (targets.Exported k) h = f k.path h

module _ (one other : InputModel) (well : IsInput one) (again : IsInput other) (leads : LeadsInside one) (over : StandsOver one other) where
  -- of its own path nothing is told to either

  abbrev here : List SummaryModel
  here = one.reached

  abbrev there : List SummaryModel
  there = other.reached

  nothing : TellsNothing here (path_in one)
  nothing = nothing_else here (path_in one) well.own well.reached.others

  nothing_there : TellsNothing there (path_in one)
  nothing_there = nothing_else there (path_in one) again.own (subst (λ (q : PackageModel). All (λ (s : SummaryModel). q.0 ≡ path_of s → ⊥) there) (sym over.source) again.reached.others)

  -- what is told to both of a package that is reached

  record Both (path : List ℕ) : Type 0 where
    pub first : SummaryModel
    pub told : Contains here first
    pub is : path_of first ≡ path
    pub has : HasEnough one.imports first there

  abbrev IsKnown : List ℕ → Type 0
  IsKnown path = (path_in one ≡ path) ⊎ Both path

  known : (path : List ℕ) → Contains (paths_in one) path → IsKnown path
  known path h = elim (among_from (paths_in one) path h) [
    | inl e ↦ inl e
    | inr a ↦ inr (let s = among_map path_of here path a in let told = among_to here s.0 s.1 in record { first = s.0; told = told; is = s.2; has = over.told s.0 told })
  ]

  module _ (path : List ℕ) (b : Both path) where
    abbrev second : SummaryModel
    second = b.has.summary

    second_is : path_of second ≡ path
    second_is = sym b.has.enough.path ∙ b.is

    tells : TellsWhatItDoes here b.first
    tells = views_tell here b.first well.reached.apart well.own b.told

    tells_there : TellsWhatItDoes there second
    tells_there = views_tell there second again.reached.apart again.own b.has.there

    enough : TellsEnough one.imports b.first second
    enough = b.has.enough

    both_types : (k : DeclKey) → k.path ≡ path → find_entry (types_told here) k ≡ find_entry (types_told there) k
    both_types k e = tells.types k (e ∙ sym b.is) ∙ (ap (λ (t : PackageTypesModel). find_entry t.entries k) enough.types ∙ sym (tells_there.types k (e ∙ sym second_is)))

    imported : IsImportedPath one.imports path → IsImportedPath one.imports (path_of b.first)
    imported h = subst (IsImportedPath one.imports) (sym b.is) h

    both_shows : (name : List ℕ) → IsImportedPath one.imports path → shown_in (exports_told here) path name ≡ shown_in (exports_told there) path name
    both_shows name h =
        subst (λ (x : List ℕ). shown_in (exports_told here) x name ≡ shown_in (b.first.exports ∷ []) x name) b.is (tells.names name)
        ∙ (ap (λ (e : ExportsModel). shown_in (e ∷ []) path name) (enough.exports (imported h))
        ∙ sym (subst (λ (x : List ℕ). shown_in (exports_told there) x name ≡ shown_in (second.exports ∷ []) x name) second_is (tells_there.names name)))

    both_faces : (name : List ℕ) → IsImportedPath one.imports path → exported_in (faces_told here) path name ≡ exported_in (faces_told there) path name
    both_faces name h =
        subst (λ (x : List ℕ). exported_in (faces_told here) x name ≡ shown_by b.first.faces name) b.is (tells.faces name)
        ∙ (ap (λ (f : PackageFacesModel). shown_by f name) (enough.faces (imported h))
        ∙ sym (subst (λ (x : List ℕ). exported_in (faces_told there) x name ≡ shown_by second.faces name) second_is (tells_there.faces name)))

    both_declared : (d : DeclRef) → IsImportedPath one.imports path → face_in (faces_told here) path d ≡ face_in (faces_told there) path d
    both_declared d h =
        subst (λ (x : List ℕ). face_in (faces_told here) x d ≡ face_by b.first.faces d) b.is (tells.declared d)
        ∙ (ap (λ (f : PackageFacesModel). face_by f d) (enough.faces (imported h))
        ∙ sym (subst (λ (x : List ℕ). face_in (faces_told there) x d ≡ face_by second.faces d) second_is (tells_there.declared d)))

  types_same : (k : DeclKey) → IsKnown k.path → find_entry (types_told here) k ≡ find_entry (types_told there) k
  types_same k (inl e) = nothing.types k (sym e) ∙ sym (nothing_there.types k (sym e))
  types_same k (inr b) = both_types k.path b k refl

  shows_same : (path name : List ℕ) → IsImportedPath one.imports path → IsKnown path → shown_in (exports_told here) path name ≡ shown_in (exports_told there) path name
  shows_same path name h (inl e) = subst (λ (x : List ℕ). shown_in (exports_told here) x name ≡ shown_in (exports_told there) x name) e (nothing.names name ∙ sym (nothing_there.names name))
  shows_same path name h (inr b) = both_shows path b name h

  faces_same : (path name : List ℕ) → IsImportedPath one.imports path → IsKnown path → exported_in (faces_told here) path name ≡ exported_in (faces_told there) path name
  faces_same path name h (inl e) = subst (λ (x : List ℕ). exported_in (faces_told here) x name ≡ exported_in (faces_told there) x name) e (nothing.faces name ∙ sym (nothing_there.faces name))
  faces_same path name h (inr b) = both_faces path b name h

  declared_same : (path : List ℕ) (d : DeclRef) → IsImportedPath one.imports path → IsKnown path → face_in (faces_told here) path d ≡ face_in (faces_told there) path d
  declared_same path d h (inl e) = subst (λ (x : List ℕ). face_in (faces_told here) x d ≡ face_in (faces_told there) x d) e (nothing.declared d ∙ sym (nothing_there.declared d))
  declared_same path d h (inr b) = both_declared path b d h

  alike : ShownAlike (Contains (paths_in one)) (IsImportedPath one.imports) (seen_by one) (seen_by other)
  alike = record {
    types = λ k h. types_same k (known k.path h);
    shows = λ path name h. shows_same path name h (known path (leads.imports path h));
    faces = λ path name h. faces_same path name h (known path (leads.imports path h));
    declared = λ path d h. declared_same path d h (known path (leads.imports path h));
  }

  module _ (decide : ImportsDecideChecks) (bind : ImportsBindTheirs) (c : ContentOf) (made : IsPart one c) where
    binds : BindsInside (IsImportedPath one.imports) c.blocks
    binds = bind (trees_of one.source.1) one.imports c.blocks made.blocks

    stands : StandsOnImports (paths_in one) (package_seen one c.blocks (seen_by one)) (seen_by one)
    stands = record {
      among = record {
        placed = leads.placed;
        own = among_to (paths_in one) (path_in one) (inl refl);
        binds = λ file name x is. target_wider (IsImportedPath one.imports) (Contains (paths_in one)) leads.imports x.target (binds file name x is);
        mentions = leads.mentions;
      };
      binds = binds;
    }

    -- over what is told to the other
    made_over : IsMade one (seen_by other) c
    made_over = record {
      blocks = made.blocks;
      checked = made.checked;
      is_checked = decide.same (paths_in one) (package_seen one c.blocks (seen_by one)) (seen_by one) (seen_by other) made.checked stands alike made.is_checked;
      declared = made.declared;
      files = made.files;
      summary = made.summary;
    }

    same_input : input_with one.source one.imports other.reached ≡ other
    same_input = λ j. input_with (over.source j) (over.imports j) other.reached

    pub part_over : IsPart other c
    part_over = subst (λ (i : InputModel). IsPart i c) same_input (record {
      blocks = made_over.blocks;
      checked = made_over.checked;
      is_checked = made_over.is_checked;
      declared = made_over.declared;
      files = made_over.files;
      summary = made_over.summary;
    })

pub imports_decide_parts : ImportsDecideChecks → ImportsBindTheirs → ImportsDecideParts
imports_decide_parts decide bind = λ one other c well again leads over made. part_over one other well again leads over decide bind c made
