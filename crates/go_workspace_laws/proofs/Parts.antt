-- The part of a package of a workspace mentions, and has declared, what is of its package and of those that it reaches alone.
use Rattle.std.proofs.Common.{◌≡◌, ℕ, zero, suc, ◌⊎◌, inl, inr, List, [], ◌∷◌, map, refl, sym, ap, subst, ◌∙◌}
use Rattle.std.specs.Prelude.{Option, Some, None, Contains, not, ◌&&◌, nat_eq, slice_get, slice_index_or}
use Rattle.std.specs.List.{list_any}
use Rattle.go_tree_nodes.specs.Trees.{FileTree}
use Rattle.go_term_core.specs.decl_core.declared.keys.DeclKey.{DeclKey}
use Rattle.go_term_core.specs.decl_core.declared.keys.DeclRef.{DeclRef}
use Rattle.go_graph_core.specs.Lists.{AllNumbered}
use Rattle.go_graph_core.specs.Plans.{PlanModel, IsPlan}
use Rattle.go_graph_core.specs.Workspaces.{PackageModel, IsWorkspace}
use Rattle.go_graph_core.specs.Packages.{trees_of}
use Rattle.go_names_core.specs.block_core.declared.imports.Imported.{Imported}
use Rattle.go_names_core.specs.block_core.declared.imports.Imported.TheVariants as given
use Rattle.go_names_core.specs.block_core.Blocks.{BlocksModel}
use Rattle.go_names_core.specs.block_core.Exports.{ExportsModel}
use Rattle.go_body_core.specs.table_core.Entries.{Entry, find_entry}
use Rattle.go_body_core.specs.typexpr_core.EntryAmong.{Among, among_from, among_map, among_to}
use Rattle.go_snap_core.specs.whole_workspace.LocalLaws.{CheckIsLocal, ImportsBindTheirs}
use Rattle.go_emit_core.specs.declared_core.Faces.{TheFace}
use Rattle.go_emit_core.specs.declared_core.Packages.{face_in}
use Rattle.govisd_resolve.specs.handle_core.Declarations.{Declaration}
use Rattle.go_report_core.specs.denote_core.declared.things.Outcome.{Outcome}
use Rattle.go_report_core.specs.denote_core.declared.things.Outcome.TheVariants as outcomes
use Rattle.go_body_core.specs.Notes.{TheUse}
use Rattle.go_snap_core.proofs.NearClosing.{either}
use Rattle.go_emit_core.specs.package_core.PreparePackages.{trees_in}
use Rattle.go_emit_core.specs.package_core.Checked.{AnswersOf}
use Rattle.go_report_core.specs.summary_core.Summaries.{SummaryModel, path_of}
use Rattle.go_report_core.specs.summary_core.Telling.{nothing_else, views_tell}
use Rattle.go_report_core.specs.summary_core.Views.{faces_told, types_told}
use Rattle.go_report_core.specs.usage.Used.{is_import, judged_import, refused_use, unused_outcome}
use Rattle.go_emit_core.specs.package_core.PackagePartInputs.{InputModel, path_in}
use Rattle.go_emit_core.specs.package_core.PackagePartParts.{FileOf, IsFileMadeIn, PartModel, package_seen, seen_by}
use Rattle.go_snap_core.specs.whole_workspace.Inputs.{ComesTo, ReachesPackage, Shown}
use Rattle.go_snap_core.specs.whole_workspace.mirrors.Steps.{AreRight}
use Rattle.go_snap_core.proofs.WholeWorkspaceTold.{AreWell, NoneIsOf}
use Rattle.go_snap_core.proofs.WholeWorkspaceOrder.{along, reaches_next, reaches_on}
use Rattle.go_snap_core.proofs.WholeWorkspaceTheirs.{Leads, imports_lead, passes}
use Rattle.go_snap_core.proofs.WholeWorkspaceParts.{all_inside, none_reached, path_told, reach_paths, stand_over, told_by, told_to, well_reached}
use Rattle.go_workspace_laws.proofs.Tables.{IsEntryIn, find_in}
use Rattle.go_workspace_laws.proofs.Answers.{IsOutcomeIn}
use Rattle.go_workspace_laws.proofs.Uses.{IsUseIn}
use Rattle.go_workspace_laws.proofs.Functions.{IsImportIn, IsLocalIn}
use Rattle.go_workspace_laws.proofs.Meanings.{IsFaceIn}
use Rattle.go_workspace_laws.proofs.Packages.{AreAnswersIn, AreKnownIn, files_in, known_inside, shown_inside, types_in}
use Rattle.go_workspace_laws.proofs.Wider.{IsToldIn, told_wider}
use Rattle.go_body_core.specs.stmt_core.StatementLocality.{Each}

all_each : {X : Type 0} (Is : X → Type 0) (xs : List X) → ((x : X) → Among xs x → Is x) → Each Is xs
all_each Is [] h = tt
all_each Is (x ∷ xs) h = (h x (inl refl), all_each Is xs (λ y a. h y (inr a)))

-- of lists the one at a place, or none
each_at : {X : Type 0} (Are : List X → Type 0) (xs : List (List X)) → Are [] → ((x : List X) → Among xs x → Are x) → (n : ℕ) → Are (slice_index_or xs n [])
each_at Are [] none h n = none
each_at Are (x ∷ xs) none h zero = h x (inl refl)
each_at Are (x ∷ xs) none h (suc n) = each_at Are xs none (λ y a. h y (inr a)) n

-- what stands in a file is of these packages
abbrev pub IsFileIn : (List ℕ → Type 0) → FileOf → Type 0
IsFileIn Inside f = Each (IsUseIn Inside) f.answers.uses × Each (IsLocalIn Inside) f.answers.locals

-- files

module _ (Inside : List ℕ → Type 0) where
  unused_in : (o : Outcome Declaration (List ℕ)) → IsOutcomeIn Inside (unused_outcome o)
  unused_in (outcomes.Declared d) = tt
  unused_in (outcomes.Selected d path) = tt
  unused_in (outcomes.Refused rule) = tt

  judged_in : (places : List ℕ) (us : List TheUse) → Each (IsUseIn Inside) us → Each (IsUseIn Inside) (map (judged_import places) us)
  judged_in places [] h = tt
  judged_in places (u ∷ us) h = (
    either (IsUseIn Inside) (is_import u.role && not (list_any (λ place. nat_eq place u.offset) places)) (refused_use u) u (unused_in u.outcome) h.0,
    judged_in places us h.1,
  )

  answers_at : (xs : List AnswersOf) (n : ℕ) (a : AnswersOf) → Each (AreAnswersIn Inside) xs → slice_get xs n ≡ Some a → AreAnswersIn Inside a
  answers_at [] n a h is = absurd (let no : None ≡ Some a = is in cc)
  answers_at (x ∷ xs) zero a h is = subst (AreAnswersIn Inside) (let s : Some x ≡ Some a = is in let t : x ≡ a = cc in t) h.0
  answers_at (x ∷ xs) (suc n) a h is = answers_at xs n a h.1 is

  file_in : (b : BlocksModel) (all : List AnswersOf) (n : ℕ) (t : FileTree) (f : FileOf) → Each (AreAnswersIn Inside) all → IsFileMadeIn b all n t f → IsFileIn Inside f
  file_in b all n t f h made =
      let a = answers_at all n made.checked h made.there in (
        subst (Each (IsUseIn Inside)) (sym made.made_of.uses) (judged_in _ made.checked.uses a.0),
        subst (Each (IsLocalIn Inside)) (sym made.made_of.locals) a.1,
      )

  files_made_in : (b : BlocksModel) (all : List AnswersOf) (n : ℕ) (ts : List FileTree) (fs : List FileOf) → Each (AreAnswersIn Inside) all → AllNumbered (IsFileMadeIn b all) n ts fs → Each (IsFileIn Inside) fs
  files_made_in b all n [] [] h made = tt
  files_made_in b all n [] (f ∷ fs) h made = absurd made
  files_made_in b all n (t ∷ ts) [] h made = absurd made
  files_made_in b all n (t ∷ ts) (f ∷ fs) h made = (file_in b all n t f h made.0, files_made_in b all (suc n) ts fs h made.1)

  -- a list has what the package of the path tells, which mentions these packages alone, or nothing of that path
  pub record IsToldOf (ss : List SummaryModel) (path : List ℕ) : Type 0 where
    pub summary : SummaryModel
    pub there : Contains ss summary
    pub is : path_of summary ≡ path
    pub inside : IsToldIn Inside summary

  module _ (ss : List SummaryModel) (well : AreWell ss) (of : (path : List ℕ) → Inside path → IsToldOf ss path ⊎ NoneIsOf ss path) where
    types_by : (k : DeclKey) (e : Entry) → IsToldOf ss k.path ⊎ NoneIsOf ss k.path → find_entry (types_told ss) k ≡ Some e → IsEntryIn Inside e
    types_by k e (inl t) is = find_in Inside t.summary.types.entries k e t.inside.types (sym ((views_tell ss t.summary well.apart well.own t.there).types k (sym t.is)) ∙ is)
    types_by k e (inr n) is = absurd (let no : None ≡ Some e = sym ((nothing_else ss k.path well.own n).types k refl) ∙ is in cc)

    faces_by : (path : List ℕ) (d : DeclRef) (f : TheFace) → IsToldOf ss path ⊎ NoneIsOf ss path → face_in (faces_told ss) path d ≡ Some f → IsFaceIn Inside f
    faces_by path d f (inl t) is =
        let here : face_in (faces_told ss) (path_of t.summary) d ≡ Some f = subst (λ (x : List ℕ). face_in (faces_told ss) x d ≡ Some f) (sym t.is) is in
        t.inside.faces d f (sym ((views_tell ss t.summary well.apart well.own t.there).declared d) ∙ here)
    faces_by path d f (inr n) is = absurd (let no : None ≡ Some f = sym ((nothing_else ss path well.own n).declared d) ∙ is in cc)

    pub types_told_in : (k : DeclKey) (e : Entry) → Inside k.path → find_entry (types_told ss) k ≡ Some e → IsEntryIn Inside e
    types_told_in k e h is = types_by k e (of k.path h) is

    pub faces_told_in : (path : List ℕ) (d : DeclRef) (f : TheFace) → Inside path → face_in (faces_told ss) path d ≡ Some f → IsFaceIn Inside f
    faces_told_in path d f h is = faces_by path d f (of path h) is

-- what a part has and tells is of its package and of those that it reaches
pub record IsPartIn (part : PartModel) : Type 0 where
  pub told : IsToldIn (Contains (reach_paths part.input)) part.content.summary
  pub declared : AreKnownIn (Contains (reach_paths part.input)) part.content.declared
  pub files : Each (IsFileIn (Contains (reach_paths part.input))) part.content.files

module _ (ps : List PackageModel) (parts : List (Option PartModel)) (well : IsWorkspace ps) (right : AreRight ps parts) (local : CheckIsLocal) (bind : ImportsBindTheirs) (plan : PlanModel) (planned : IsPlan ps plan) where
  -- what is reached is told by packages whose parts mention what is reached alone

  module _ (n : ℕ) (part : PartModel) (there : slice_get parts n ≡ Some (Some part)) (below : (m : ℕ) → ReachesPackage ps n m → (q : PartModel) → slice_get parts m ≡ Some (Some q) → IsPartIn q) where
    abbrev i : InputModel
    i = part.input

    abbrev pub Inside : List ℕ → Type 0
    Inside path = Contains (reach_paths i) path

    in_paths : (s : SummaryModel) → Among i.reached s → Inside (path_of s)
    in_paths s h = among_to (reach_paths i) (path_of s) (inr (map_among_path i.reached s h))
      where
        map_among_path : (ss : List SummaryModel) (s : SummaryModel) → Among ss s → Among (map path_of ss) (path_of s)
        map_among_path [] s a = absurd a
        map_among_path (x ∷ ss) s (inl e) = inl (ap path_of e)
        map_among_path (x ∷ ss) s (inr a) = inr (map_among_path ss s a)

    pub reached_in : (s : SummaryModel) → Among i.reached s → IsToldIn Inside s
    reached_in s h =
        let r = right n part there in
        let by = told_by ps parts well right n i r.input s h in
        let q = by.tells.of_part in
        subst (IsToldIn Inside) (sym by.tells.is)
        (told_wider (Contains (reach_paths q.input)) Inside (λ path c. widen path (among_from (reach_paths q.input) path c)) q.content.summary (below by.number by.reached q by.tells.there).told)
      where
        widen : (path : List ℕ) → Among (reach_paths (told_by ps parts well right n i (right n part there).input s h).tells.of_part.input) path → Inside path
        widen path (inl e) =
            let by = told_by ps parts well right n i (right n part there).input s h in
            subst Inside (path_told ps parts well right by.number s by.tells ∙ e) (in_paths s h)
        widen path (inr a) =
            let by = told_by ps parts well right n i (right n part there).input s h in
            let q = by.tells.of_part in
            let r = right by.number q by.tells.there in
            let t = among_map path_of q.input.reached path a in
            let deeper = told_by ps parts well right by.number q.input r.input t.0 t.1 in
            subst Inside t.2 (in_paths t.0 (told_to ps parts well right n i (right n part there).input deeper.number t.0 (reaches_on ps n by.number deeper.number by.reached deeper.reached) deeper.tells))

    -- its imports come to what it reaches

    imports_inside : (path : List ℕ) → Leads (ComesTo ps parts) n path → Inside path
    imports_inside path l =
        let p = passes (Shown parts) ps l.at l.come.outcome l.shown l.come.judged l.come.given in
        let reached = subst (λ k. ReachesPackage ps k p.to) l.from (reaches_next ps l.at p.to p.judged) in
        let s = p.shows.summary in
        let at : path_of s ≡ path = sym (ap (λ (e : ExportsModel). e.path) p.shows.is) ∙ sym l.is in
        subst Inside at (in_paths s (told_to ps parts well right n i (right n part there).input p.to s reached p.shows.told))

    import_in : (of_file : List Imported) → Among i.imports of_file → (e : Imported) → Among of_file e → IsImportIn Inside e
    import_in of_file a (given.«Package» e) b =
        imports_inside e.path
        (imports_lead (ComesTo ps parts) n (trees_of i.source.1) i.imports e.path (right n part there).input.imports
        (record { of_file = of_file; file = among_to i.imports of_file a; shown = e; there = among_to of_file (given.«Package» e) b; is = refl }))
    import_in of_file a (given.Refused rule) b = tt

    imported : (m : ℕ) → Each (IsImportIn Inside) (slice_index_or i.imports m [])
    imported m = each_at (Each (IsImportIn Inside)) i.imports tt (λ of_file a. all_each (IsImportIn Inside) of_file (λ e b. import_in of_file a e b)) m

    part_in : IsPartIn part
    part_in =
        let r = right n part there in
        let inside = λ (m : ℕ) (q : PartModel) (reached : ReachesPackage ps n m) (at : slice_get parts m ≡ Some (Some q)). all_inside ps parts well right local bind plan planned m q at in
        let none = none_reached ps parts well right n i r.input bind plan planned r.numbered inside in
        let told = well_reached ps parts well right n i r.input in
        let stand = stand_over ps parts well right n i r.input bind plan planned r.numbered inside part.content.blocks (seen_by i) i.reached r.made.blocks told none (λ s h. h) in
        let p = package_seen i part.content.blocks (seen_by i) in
        let c = r.made.checked in
        let of = λ (path : List ℕ) (h : Inside path). where_told none path (among_from (reach_paths i) path h) in
        let types = types_told_in Inside i.reached told of in
        let shown = faces_told_in Inside i.reached told of in
        record {
          told = subst (IsToldIn Inside) (sym r.made.summary) (record {
            types = types_in Inside p (types_told i.reached) c stand.placed stand.own stand.binds types shown imported r.made.is_checked;
            faces = shown_inside Inside p (types_told i.reached) c stand.placed stand.own stand.binds types shown imported r.made.is_checked;
          });
          declared = subst (AreKnownIn Inside) (sym r.made.declared) (known_inside Inside p (types_told i.reached) c stand.placed stand.own stand.binds types shown imported r.made.is_checked);
          files = files_made_in Inside part.content.blocks c.files 0 (trees_in i.source) part.content.files (files_in Inside p (types_told i.reached) c stand.placed stand.own stand.binds types shown imported r.made.is_checked) r.made.files;
        }
      where
        where_told : NoneIsOf i.reached (path_in i) → (path : List ℕ) → Among (reach_paths i) path → IsToldOf Inside i.reached path ⊎ NoneIsOf i.reached path
        where_told none path (inl e) = inr (subst (NoneIsOf i.reached) e none)
        where_told none path (inr a) = (let t = among_map path_of i.reached path a in inl (record { summary = t.0; there = among_to i.reached t.0 t.1; is = t.2; inside = reached_in t.0 t.1 }))

  pub all_in : (n : ℕ) (part : PartModel) → slice_get parts n ≡ Some (Some part) → IsPartIn part
  all_in n part there =
      let r = right n part there in
      along ps plan planned (λ k. (q : PartModel) → slice_get parts k ≡ Some (Some q) → IsPartIn q) (λ k assembled below q at. part_in k q at below)
      n (part.input.source.0, part.input.source.1, r.numbered, r.assembled) part there
