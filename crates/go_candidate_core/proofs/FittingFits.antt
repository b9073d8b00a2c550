-- What fits, by what is asked in turn.
use Rattle.std.proofs.Common.{◌≡◌, ◌⊎◌, inl, inr, ℕ, zero, suc, ◌+◌, ◌<◌, ◌≤◌, Bool, true, false, not, ◌&&◌, ◌||◌, cond, List, [], ◌∷◌, ◌++◌, length, map, drop, get_or, Bor, Option, Some, None, refl, sym, ap, subst, ◌∙◌, append-nil, append_assoc, arith}
use Rattle.std.specs.Prelude.{All, Contains, ◌↔◌, filter, is_some, IsSome, slice_get, if◌then◌else◌}
use Rattle.std.specs.List.Sorted.{IsStrictlySortedBy}
use Rattle.std.specs.Str.{bytes_eq}
use Rattle.std.proofs.lemmas.List.{drop_more, drop_all, map-append}
use Rattle.std.proofs.lemmas.List.Elements.{All-contains}
use Rattle.std.proofs.lemmas.Option.{get_or_from_slice_get, slice_get_within}
use Rattle.std.proofs.lemmas.Slice.Eq.{bytes_eq-Decides}
use Rattle.go_tree_nodes.specs.text_core.Text.{is_blank}
use Rattle.go_graph_core.specs.Workspaces.{by_bytes}
use Rattle.go_tree_nodes.specs.declared.usage.Usage.{Usage}
use Rattle.go_term_core.specs.decl_core.declared.keys.DeclKey.{DeclKey}
use Rattle.go_inline_core.specs.block_core.declared.binding.Target.{Target}
use Rattle.go_inline_core.specs.block_core.declared.binding.Target.TheVariants as targets
use Rattle.go_cursor_core.specs.scope_stack.Blocks.{found_in, names_in}
use Rattle.go_inline_core.specs.scope_core.Models.{ScopesModel}
use Rattle.go_inline_core.specs.scope_core.Scopes.{Denoted, Universe, Package, File, Local, scope_blocks}
use Rattle.go_expr_core.specs.denote_core.declared.things.Stand.{Stand}
use Rattle.go_summary_core.specs.declared_core.declared.shown.ShownFace.{ShownFace}
use Rattle.go_summary_core.specs.declared_core.declared.shown.ShownFace.TheVariants as shows
use Rattle.go_summary_core.specs.declared_core.Packages.{PackageFacesModel, exported_in, face_in, package_in, shown_by, shown_in_some}
use Rattle.go_summary_core.specs.Summaries.{SummaryModel}
use Rattle.go_summary_core.specs.Views.{faces_told}
use Rattle.go_candidate_core.specs.context.Alone as alone
use Rattle.go_candidate_core.specs.context.Alone.{fits, fits_some, stands_alone, thing_found}
use Rattle.go_candidate_core.proofs.ContextListed.{filter_had, filter_has}
use Rattle.go_candidate_core.specs.fitting.Fitting.{ShowsItsExports, fits_alone, fits_behind, fits_shown, thing_at, thing_of_face, thing_of_target}
use Rattle.go_candidate_core.specs.fitting.mirrors.Steps.{fits_name, key_at, key_of_target}

-- packages by their paths

same_path : (path : List ℕ) (s : SummaryModel) (ss : List SummaryModel) → s.faces.path ≡ path → package_in (faces_told (s ∷ ss)) path ≡ Some s.faces
same_path path s ss e = ap (λ b. if b then Some s.faces else package_in (faces_told ss) path) ((bytes_eq-Decides path s.faces.path).1 (sym e))

other_path : (path : List ℕ) (s : SummaryModel) (ss : List SummaryModel) → (s.faces.path ≡ path → ⊥) → package_in (faces_told (s ∷ ss)) path ≡ package_in (faces_told ss) path
other_path path s ss n = by (bytes_eq path s.faces.path) refl
  where
    by : (b : Bool) → bytes_eq path s.faces.path ≡ b → (if b then Some s.faces else package_in (faces_told ss) path) ≡ package_in (faces_told ss) path
    by true e = absurd (n (sym ((bytes_eq-Decides path s.faces.path).0 e)))
    by false e = refl

next : (ss : List SummaryModel) (i : ℕ) (s : SummaryModel) → slice_get ss i ≡ Some s → drop i ss ≡ s ∷ drop (i + 1) ss
next ss i s h = drop_more ss i s (slice_get_within ss i s h) ∙ ap (λ t. t ∷ drop (i + 1) ss) (get_or_from_slice_get ss i s s h)

pub path_passed : (path : List ℕ) (ss : List SummaryModel) (i : ℕ) (s : SummaryModel) → slice_get ss i ≡ Some s → (s.faces.path ≡ path → ⊥) → package_in (faces_told (drop i ss)) path ≡ package_in (faces_told ss) path
    → package_in (faces_told (drop (i + 1) ss)) path ≡ package_in (faces_told ss) path
path_passed path ss i s h n before = sym (other_path path s (drop (i + 1) ss) n) ∙ (sym (ap (λ l. package_in (faces_told l) path) (next ss i s h)) ∙ before)

pub path_met : (path : List ℕ) (ss : List SummaryModel) (i : ℕ) (s : SummaryModel) → slice_get ss i ≡ Some s → s.faces.path ≡ path → package_in (faces_told (drop i ss)) path ≡ package_in (faces_told ss) path
    → Contains ss s × (package_in (faces_told ss) path ≡ Some s.faces)
path_met path ss i s h e before =
    ((i, slice_get_within ss i s h, get_or_from_slice_get ss i s s h), sym before ∙ (ap (λ l. package_in (faces_told l) path) (next ss i s h) ∙ same_path path s (drop (i + 1) ss) e))

pub path_missed : (path : List ℕ) (ss : List SummaryModel) (i : ℕ) → length ss ≤ i → package_in (faces_told (drop i ss)) path ≡ package_in (faces_told ss) path → package_in (faces_told ss) path ≡ None
path_missed path ss i le before = sym before ∙ ap (λ l. package_in (faces_told l) path) (drop_all i ss le)

-- names alone

pub no_key : (others : List PackageFacesModel) (d : Option Denoted) → key_at d ≡ None → thing_at others d ≡ thing_found d
no_key others None h = refl
no_key others (Some (Universe p)) h = refl
no_key others (Some (Package d)) h = refl
no_key others (Some (Local id)) h = refl
no_key others (Some (File b)) h = by b.target h
  where
    by : (t : Target) → key_of_target t ≡ None → thing_of_target others t ≡ alone.thing_of_target t
    by (targets.«Package» path) k = refl
    by (targets.Refused rule) k = refl
    by (targets.Exported key) k = absurd (cc)

pub with_key : (others : List PackageFacesModel) (d : Option Denoted) (k : DeclKey) → key_at d ≡ Some k → thing_at others d ≡ Some (thing_of_face (face_in others k.path k.decl))
with_key others None k h = absurd (cc)
with_key others (Some (Universe p)) k h = absurd (cc)
with_key others (Some (Package d)) k h = absurd (cc)
with_key others (Some (Local id)) k h = absurd (cc)
with_key others (Some (File b)) k h = by b.target h
  where
    by : (t : Target) → key_of_target t ≡ Some k → thing_of_target others t ≡ Some (thing_of_face (face_in others k.path k.decl))
    by (targets.«Package» path) e = absurd (cc)
    by (targets.Refused rule) e = absurd (cc)
    by (targets.Exported key) e = (let same : key ≡ k = cc in ap (λ (j : DeclKey). Some (thing_of_face (face_in others j.path j.decl))) same)

pub blank_alone : (s : ScopesModel) (others : List PackageFacesModel) (p : Stand) (name : List ℕ) → is_blank name ≡ true → false ≡ fits_alone s others p name
blank_alone s others p name h = sym (ap (λ b. not b && fits_some p (thing_at others (found_in (scope_blocks s) name))) h)

pub without_key : (s : ScopesModel) (others : List PackageFacesModel) (p : Stand) (name : List ℕ) → is_blank name ≡ false → key_at (found_in (scope_blocks s) name) ≡ None → stands_alone s p name ≡ fits_alone s others p name
without_key s others p name h k =
    sym (ap (λ b. not b && fits_some p (thing_at others (found_in (scope_blocks s) name))) h ∙ ap (fits_some p) (no_key others (found_in (scope_blocks s) name) k))

pub by_key : (s : ScopesModel) (others : List PackageFacesModel) (p : Stand) (name : List ℕ) (key : DeclKey) → is_blank name ≡ false → key_at (found_in (scope_blocks s) name) ≡ Some key
    → fits p (thing_of_face (face_in others key.path key.decl)) ≡ fits_alone s others p name
by_key s others p name key h k =
    sym (ap (λ b. not b && fits_some p (thing_at others (found_in (scope_blocks s) name))) h ∙ ap (fits_some p) (with_key others (found_in (scope_blocks s) name) key k))

-- what may stand alone is in scope
fits_found : (s : ScopesModel) (others : List PackageFacesModel) (p : Stand) (name : List ℕ) → fits_alone s others p name ≡ true → is_some (found_in (scope_blocks s) name) ≡ true
fits_found s others p name h = by (is_blank name) (found_in (scope_blocks s) name) h
  where
    by : (b : Bool) (d : Option Denoted) → (not b && fits_some p (thing_at others d)) ≡ true → is_some d ≡ true
    by true d k = absurd (cc)
    by false None k = absurd (cc)
    by false (Some d) k = refl

pub each_alone : (s : ScopesModel) (others : List PackageFacesModel) (p : Stand) (all found : List (List ℕ)) → ((name : List ℕ) → Contains found name ↔ Contains (filter (fits_alone s others p) all) name) → ((name : List ℕ) → Contains all name ↔ IsSome (found_in (scope_blocks s) name))
    → (name : List ℕ) → Contains found name ↔ (fits_alone s others p name ≡ true)
each_alone s others p all found same scope name =
    (λ h. (filter_had (fits_alone s others p) all name ((same name).0 h)).1, λ h. (same name).1 (filter_has (fits_alone s others p) all name ((scope name).1 (fits_found s others p name h)) h))

-- behind a package

pub blank_name : (q : PackageFacesModel) (u : Usage) (name : List ℕ) → is_blank name ≡ true → false ≡ fits_name q u name
blank_name q u name h = sym (ap (λ b. not b && fits_shown u (shown_by q name)) h)

pub shown_name_fits : (q : PackageFacesModel) (u : Usage) (name : List ℕ) (shown : ShownFace) → is_blank name ≡ false → shown ≡ shown_by q name → fits_shown u shown ≡ fits_name q u name
shown_name_fits q u name shown h e = ap (fits_shown u) e ∙ sym (ap (λ b. not b && fits_shown u (shown_by q name)) h)

-- what fits is exported
fits_exported : (s : SummaryModel) (u : Usage) (name : List ℕ) → ShowsItsExports s → fits_name s.faces u name ≡ true → Contains (names_in s.exports.names) name
fits_exported s u name shows_it h = by (is_blank name) (shown_by s.faces name) refl h
  where
    by : (b : Bool) (f : ShownFace) → shown_by s.faces name ≡ f → (not b && fits_shown u f) ≡ true → Contains (names_in s.exports.names) name
    by true f e k = absurd (cc)
    by false shows.Absent e k = absurd (cc)
    by false shows.Hidden e k = absurd (cc)
    by false (shows.Shown d face) e k = shows_it name d face e

pub each_behind : (ss : List SummaryModel) (path : List ℕ) (u : Usage) (s : SummaryModel) (found : List (List ℕ)) → All ShowsItsExports ss → Contains ss s × (package_in (faces_told ss) path ≡ Some s.faces)
    → ((name : List ℕ) → Contains found name ↔ Contains (filter (fits_name s.faces u) (names_in s.exports.names)) name) → (name : List ℕ) → Contains found name ↔ (fits_behind (faces_told ss) path u name ≡ true)
each_behind ss path u s found shown there same name =
    let is : fits_behind (faces_told ss) path u name ≡ fits_name s.faces u name = ap (λ q. not (is_blank name) && fits_shown u (shown_in_some q name)) there.1 in
    let exports : ShowsItsExports s = All-contains ShowsItsExports ss s shown there.0 in (
      λ h. is ∙ (filter_had (fits_name s.faces u) (names_in s.exports.names) name ((same name).0 h)).1,
      λ h. (let fits : fits_name s.faces u name ≡ true = sym is ∙ h in (same name).1 (filter_has (fits_name s.faces u) (names_in s.exports.names) name (fits_exported s u name exports fits) fits)),
    )

pub none_behind : (ss : List SummaryModel) (path : List ℕ) (u : Usage) (found : List (List ℕ)) → found ≡ [] → package_in (faces_told ss) path ≡ None → (name : List ℕ) → Contains found name ↔ (fits_behind (faces_told ss) path u name ≡ true)
none_behind ss path u found none missing name =
    let is : fits_behind (faces_told ss) path u name ≡ (not (is_blank name) && false) = ap (λ q. not (is_blank name) && fits_shown u (shown_in_some q name)) missing in
    (λ h. absurd (empty (subst (λ (l : List (List ℕ)). Contains l name) none h)), λ h. absurd (never (is_blank name) (sym is ∙ h)))
  where
    empty : Contains [] name → ⊥
    empty h = let below : h.0 < 0 = h.1 in omega arith

    never : (b : Bool) → (not b && false) ≡ true → ⊥
    never true h = cc
    never false h = cc

-- what is answered

pub none_sorted : IsStrictlySortedBy by_bytes []
unfolding IsStrictlySortedBy
none_sorted = tt

pub each_answered : (found sorted kept want : List (List ℕ)) → found ≡ sorted → ((name : List ℕ) → Contains sorted name ↔ Contains kept name) → kept ≡ want → (name : List ℕ) → Contains found name ↔ Contains want name
each_answered found sorted kept want a same b name = (
  λ h. subst (λ (l : List (List ℕ)). Contains l name) b ((same name).0 (subst (λ (l : List (List ℕ)). Contains l name) a h)),
  λ h. subst (λ (l : List (List ℕ)). Contains l name) (sym a) ((same name).1 (subst (λ (l : List (List ℕ)). Contains l name) (sym b) h)),
)
