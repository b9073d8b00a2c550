-- The names that complete an identifier are those that have a declaration once they stand in its place.
use Rattle.std.proofs.Common.{◌≡◌, ◌+◌, ℕ, true, List, Option, Some, None, Ok, refl, sym, ap, subst, ◌∙◌, arith}
use Rattle.std.specs.Prelude.{◌↔◌, Contains, slice_get}
use Rattle.std.proofs.lemmas.Bool.{true≢false}
use Rattle.go_tree_nodes.specs.Trees.{FileTree}
use Rattle.go_tree_core.specs.declared.occurrence.Occ.{Occ}
use Rattle.go_graph_core.specs.declared.imports.ImportAt.{ImportAt}
use Rattle.go_graph_core.specs.declared.imports.ImportOutcome.{ImportOutcome}
use Rattle.go_graph_core.specs.Imports.{IsOutcome}
use Rattle.go_graph_core.specs.Packages.{IsAssembled}
use Rattle.go_graph_core.specs.Sources.{SourceModel}
use Rattle.go_graph_core.specs.Workspaces.{IsReadWorkspace, IsWorkspace, PackageModel}
use Rattle.go_graph_core.proofs.OneTarget.{same_number}
use Rattle.go_graph_core.proofs.PlanLaws.{has_plan}
use Rattle.go_graph_core.proofs.Zips.{numbered_at}
use Rattle.go_import_core.specs.head.Laws.{OutcomesStay}
use Rattle.go_cursor_core.specs.Opened.{FileUsed}
use Rattle.go_workspace_laws.specs.report_core.UsageUsed.{FileUse}
use Rattle.go_package_core.specs.package_part.Inputs.{InputModel, IsInput}
use Rattle.go_package_core.specs.package_part.Laws.{OnePart}
use Rattle.go_package_core.specs.package_part.Parts.{ContentOf, FileOf, IsPart, PartModel}
use Rattle.go_snap_core.specs.Snapshots.{IsAnswerAt, IsPartAt, IsSnapshot, SnapshotModel, snapshot_with}
use Rattle.go_snap_core.specs.whole_workspace.Inputs.{AreParts, IsInputOf, IsPartOf, ReachesPackage}
use Rattle.go_snap_core.proofs.MakeSearching.{one_key}
use Rattle.go_snap_core.proofs.WholeWorkspaceLists.{one_at}
use Rattle.go_snap_core.proofs.WholeWorkspaceOrder.{reaches_others}
use Rattle.go_snap_core.proofs.WholeWorkspacePartsWhole.{all_right}
use Rattle.go_submit_core.specs.Published.{IsOneWorker}
use Rattle.go_query_core.specs.candidate_core.ContextLaws.{is_declared}
use Rattle.go_query_core.specs.complete_core.PlaceCompletions.{AreNamesAt}
use Rattle.go_workspace_laws.specs.existence.Laws.{WorkspacesHaveSnapshots}
use Rattle.go_workspace_laws.proofs.Given.{is_input}
use Rattle.go_answer_laws.specs.completions.Laws.{BlankNeverFits, IdentifiersCanBeRespelled, NamesFit}
use Rattle.go_answer_laws.specs.completions.Respelled.{HaveOtherTree, is_declared_at, put_in_place, use_declared, uses_of, with_files}
use Rattle.go_completion_laws.specs.Completing.{BlanksNeverComplete, CompletionsAreExact, PutsName}
use Rattle.go_completion_laws.proofs.Agreed.{same_imports, same_reached}
use Rattle.go_completion_laws.proofs.Parted.{parts_agree, reaches_stay}
use Rattle.go_completion_laws.proofs.Puts.{assembled, changed, heads, here, may, new_files, new_order, new_package, new_source, old_order, others, same_specs, source_here, well}

-- what has a declaration, in a part

record IsDeclared (d : ContentOf) (k n : ℕ) : Type 0 where
  file : FileOf
  made : slice_get d.files k ≡ Some file
  use_of : FileUse
  answer : slice_get file.answers.uses n ≡ Some use_of
  declared : is_declared use_of.outcome ≡ true

of_use : (d : ContentOf) (k n : ℕ) (file : FileOf) → slice_get d.files k ≡ Some file → (x : Option FileUse) → slice_get file.answers.uses n ≡ x → use_declared x ≡ true → IsDeclared d k n
of_use d k n file made None at is = absurd (true≢false (sym is))
of_use d k n file made (Some u) at is = record { file = file; made = made; use_of = u; answer = at; declared = is }

of_file : (d : ContentOf) (k n : ℕ) (x : Option FileOf) → slice_get d.files k ≡ x → use_declared (slice_get (uses_of x) n) ≡ true → IsDeclared d k n
of_file d k n None at is = absurd (true≢false (sym is))
of_file d k n (Some file) at is = of_use d k n file at (slice_get file.answers.uses n) refl is

is_there : (d : ContentOf) (k n : ℕ) → is_declared_at d k n ≡ true → IsDeclared d k n
is_there d k n is = of_file d k n (slice_get d.files k) refl is

there_is : (d : ContentOf) (k n : ℕ) → IsDeclared d k n → is_declared_at d k n ≡ true
there_is d k n h = ap (λ x. use_declared (slice_get (uses_of x) n)) h.made ∙ (ap use_declared h.answer ∙ h.declared)

-- the part of an assembled package

record HasItsPart (ps : List PackageModel) (parts : List (Option PartModel)) (t : ℕ) (p : PackageModel) : Type 0 where
  part : PartModel
  there : slice_get parts t ≡ Some (Some part)
  input : IsInputOf ps parts t p part.input
  made : IsPart part.input part.content

its_part : (ps : List PackageModel) (parts : List (Option PartModel)) (t : ℕ) (p : PackageModel) (x : Option PartModel) → IsAssembled p.1 → slice_get parts t ≡ Some x → IsPartOf ps parts t p x → HasItsPart ps parts t p
its_part ps parts t p None joined at h = absurd (h joined)
its_part ps parts t p (Some part) joined at h = record { part = part; there = at; input = h.1; made = h.2 }

has_part : (ps : List PackageModel) (parts : List (Option PartModel)) → AreParts ps parts → (t : ℕ) (p : PackageModel) → slice_get ps t ≡ Some p → IsAssembled p.1 → HasItsPart ps parts t p
has_part ps parts all t p at joined =
    let b = numbered_at (λ k q x. IsPartOf ps parts k q x) 0 ps parts t p all at in
    let e : 0 + t ≡ t = omega arith in
    its_part ps parts t p b.0 joined b.1 (subst (λ k. IsPartOf ps parts k p b.0) e b.2)

module _ (respelled : IdentifiersCanBeRespelled) (fit : NamesFit) (one_part : OnePart) (stay : OutcomesStay) (ps : List PackageModel) (parts : List (Option PartModel)) (as_read : IsReadWorkspace ps) (all : AreParts ps parts)
    (path name : List ℕ) (n : ℕ) (o : Occ) (m : List ℕ) (more : List PackageModel) (h : PutsName ps path name n o m more) where
  abbrev t : ℕ
  t = h.at.number

  abbrev files : List SourceModel
  files = new_files respelled ps as_read path name n o m more h

  abbrev next : PackageModel
  next = new_package respelled ps as_read path name n o m more h

  -- the part that there was
  old : HasItsPart ps parts t (path, h.at.files)
  old = has_part ps parts all t (path, h.at.files) h.at.numbered h.at.assembled

  abbrev i : InputModel
  i = old.part.input

  input : IsInput i
  input = is_input ps parts as_read.well (all_right ps parts all) t old.part old.there

  module _ (new_parts : List (Option PartModel)) (again : AreParts more new_parts) where
    new : HasItsPart more new_parts t next
    new = has_part more new_parts again t next (here respelled ps as_read path name n o m more h) (assembled respelled ps as_read path name n o m more h)

    alike : (l : ℕ) → ReachesPackage ps t l → slice_get ps l ≡ slice_get more l
    alike l r = others respelled ps as_read path name n o m more h l (λ e. (let plan = has_plan ps as_read.well in reaches_others ps plan.0 plan.1 t (subst (λ k. ReachesPackage ps t k) e r)))

    agree : (l : ℕ) → ReachesPackage ps t l → slice_get parts l ≡ slice_get new_parts l
    agree = parts_agree one_part stay ps more parts new_parts t as_read.well (well respelled ps as_read path name n o m more h) (heads respelled ps as_read path name n o m more h) all again alike

    -- what it is made from has other files, and all else is as it was
    same_input : new.part.input ≡ with_files i files
    same_input =
        let also = well respelled ps as_read path name n o m more h in
        let same = heads respelled ps as_read path name n o m more h in
        let alike_at : (x : ImportAt) (r : ImportOutcome) → x.«package» ≡ t → IsOutcome ps x r → IsOutcome more x r = λ x r e y. (stay ps more as_read.well also same x r).0 y in
        let to : (l : ℕ) → ReachesPackage ps t l → ReachesPackage more t l = λ l r. reaches_stay stay ps more as_read.well also same t l r in
        let back : (l : ℕ) → ReachesPackage more t l → ReachesPackage ps t l = λ l r. reaches_stay stay more ps also as_read.well (sym same) t l r in
        let imports : i.imports ≡ new.part.input.imports = same_imports ps more parts new_parts also t alike_at to back agree (path, h.at.files) next (same_specs respelled ps as_read path name n o m more h) i new.part.input old.input new.input in
        let reached : i.reached ≡ new.part.input.reached = same_reached ps more parts new_parts also t alike_at to back agree (path, h.at.files) next i new.part.input old.input new.input in
        let source : new.part.input.source ≡ (i.source.0, files) = new.input.source ∙ (λ k. ((sym (ap (λ (p : PackageModel). p.0) old.input.source)) k, files)) in
        λ k. record { source = source k; imports = (sym imports) k; reached = (sym reached) k }

    made : IsPart (with_files i files) new.part.content
    made = subst (λ j. IsPart j new.part.content) same_input new.made

    other : HaveOtherTree h.at.file h.at.tree (put_in_place m o h.at.tree) i.source.1 files
    other = subst (λ (p : PackageModel). HaveOtherTree h.at.file h.at.tree (put_in_place m o h.at.tree) p.1 files) (sym old.input.source) (changed respelled ps as_read path name n o m more h)

    fits : (u : FileUsed) (names : List (List ℕ)) → u.used.ident.span.start ≡ o.span.start → AreNamesAt old.part h.at.file h.at.tree u names → Contains names m ↔ (is_declared_at new.part.content h.at.file n ≡ true)
    fits u names begins are = fit i files old.part.content new.part.content m h.at.file h.at.tree n o u names input (may respelled ps as_read path name n o m more h) other made begins are

    -- where the part has a declaration, the snapshot has it
    in_new : slice_get new.part.input.source.1 h.at.file ≡ Some (new_source respelled ps as_read path name n o m more h)
    in_new = subst (λ (p : PackageModel). slice_get p.1 h.at.file ≡ Some (new_source respelled ps as_read path name n o m more h)) (sym new.input.source) (source_here respelled ps as_read path name n o m more h)

    answered : (d : IsDeclared new.part.content h.at.file n) → IsAnswerAt more new_parts path name n d.use_of
    answered d = record {
      of_part = new.part;
      in_workspace = record { number = t; files = files; numbered = here respelled ps as_read path name n o m more h; there = new.there };
      number = h.at.file;
      source = new_source respelled ps as_read path name n o m more h;
      in_package = in_new;
      named = refl;
      file = d.file;
      made = d.made;
      answer = d.answer;
    }

    -- and what the snapshot has is the part's
    declared : (u : FileUse) → IsAnswerAt more new_parts path name n u → is_declared u.outcome ≡ true → IsDeclared new.part.content h.at.file n
    declared u a is =
        let number : a.in_workspace.number ≡ t = (same_number more path a.in_workspace.number t a.in_workspace.files files (well respelled ps as_read path name n o m more h) a.in_workspace.numbered (here respelled ps as_read path name n o m more h)).0 in
        let part : a.of_part ≡ new.part =
        (let both : Some a.of_part ≡ Some new.part = one_at new_parts t (Some a.of_part) (Some new.part) (subst (λ k. slice_get new_parts k ≡ Some (Some a.of_part)) number a.in_workspace.there) new.there in cc) in
        let there : slice_get new.part.input.source.1 a.number ≡ Some a.source = subst (λ (p : PartModel). slice_get p.input.source.1 a.number ≡ Some a.source) part a.in_package in
        let among : slice_get files a.number ≡ Some a.source = subst (λ (p : PackageModel). slice_get p.1 a.number ≡ Some a.source) new.input.source there in
        let place : a.number ≡ h.at.file =
        one_key (λ (s : SourceModel). s.name) files a.number h.at.file a.source (new_source respelled ps as_read path name n o m more h) (new_order respelled ps as_read path name n o m more h) among (source_here respelled ps as_read path name n o m more h) a.named in
        record {
          file = a.file;
          made = subst (λ k. slice_get new.part.content.files k ≡ Some a.file) place (subst (λ (p : PartModel). slice_get p.content.files a.number ≡ Some a.file) part a.made);
          use_of = u;
          answer = a.answer;
          declared = is;
        }

  -- the file in which the identifier is used is that of the occurrence
  asked : (p : PartModel) (k : ℕ) (s : SourceModel) (f : FileTree) (u : FileUsed) (names : List (List ℕ)) → IsPartAt ps parts path p → slice_get p.input.source.1 k ≡ Some s → s.name ≡ name → s.content ≡ Ok f → AreNamesAt p k f u names → AreNamesAt old.part h.at.file h.at.tree u names
  asked p k s f u names there in_package named content are =
      let number : there.number ≡ t = (same_number ps path there.number t there.files h.at.files as_read.well there.numbered h.at.numbered).0 in
      let part : p ≡ old.part = (let both : Some p ≡ Some old.part = one_at parts t (Some p) (Some old.part) (subst (λ k. slice_get parts k ≡ Some (Some p)) number there.there) old.there in cc) in
      let among : slice_get h.at.files k ≡ Some s = subst (λ (q : PackageModel). slice_get q.1 k ≡ Some s) old.input.source (subst (λ (q : PartModel). slice_get q.input.source.1 k ≡ Some s) part in_package) in
      let place : k ≡ h.at.file = one_key (λ (x : SourceModel). x.name) h.at.files k h.at.file s h.at.source (old_order respelled ps as_read path name n o m more h) among h.at.in_package (named ∙ sym h.at.named) in
      let same : s ≡ h.at.source = one_at h.at.files h.at.file s h.at.source (subst (λ l. slice_get h.at.files l ≡ Some s) place among) h.at.in_package in
      let tree : f ≡ h.at.tree = (let both : Ok f ≡ Ok h.at.tree = sym content ∙ (ap (λ (x : SourceModel). x.content) same ∙ h.at.content) in cc) in
      subst (λ g. AreNamesAt old.part h.at.file g u names) tree (subst (λ l. AreNamesAt old.part l f u names) place (subst (λ q. AreNamesAt q k f u names) part are))

  -- what has a declaration, in parts of the packages with the name put
  abbrev Declares : List (Option PartModel) → Type 0
  Declares new_parts = (v : FileUse) × IsAnswerAt more new_parts path name n v × (is_declared v.outcome ≡ true)

  pub exact : (p : PartModel) (k : ℕ) (s : SourceModel) (f : FileTree) (u : FileUsed) (names : List (List ℕ)) → IsPartAt ps parts path p → slice_get p.input.source.1 k ≡ Some s → s.name ≡ name → s.content ≡ Ok f → AreNamesAt p k f u names → u.used.ident.span.start ≡ o.span.start
      → (new_parts : List (Option PartModel)) → AreParts more new_parts → Contains names m ↔ Declares new_parts
  exact p k s f u names there in_package named content are begins new_parts again =
      let both = fits new_parts again u names begins (asked p k s f u names there in_package named content are) in (
        (λ among. (let d = is_there (new new_parts again).part.content h.at.file n (both.0 among) in (d.use_of, answered new_parts again d, d.declared))),
        (λ has. both.1 (there_is (new new_parts again).part.content h.at.file n (declared new_parts again has.0 has.1 has.2))),
      )

-- of snapshots

whole : (ps : List PackageModel) (s : SnapshotModel) → IsOneWorker ps s → IsSnapshot ps s.parts s.faults
whole ps s is = subst (λ (qs : List PackageModel). IsSnapshot qs s.parts s.faults) is.sources is.whole

given : WorkspacesHaveSnapshots → (ps : List PackageModel) → IsWorkspace ps → (s : SnapshotModel) × IsOneWorker ps s
given have ps is = (let s = have ps is in (snapshot_with ps s.0 s.1, record { sources = refl; whole = s.2 }))

pub completions : IdentifiersCanBeRespelled → NamesFit → OnePart → OutcomesStay → WorkspacesHaveSnapshots → CompletionsAreExact
completions respelled fit one_part stay have ps s as_read is path name offset names c n o m more h begins =
    let there : IsPartAt ps s.parts path c.0.of_part = subst (λ (qs : List PackageModel). IsPartAt qs s.parts path c.0.of_part) is.sources c.1.in_workspace in
    let both : (w : SnapshotModel) → IsOneWorker more w → Contains names m ↔ ((u : FileUse) × IsAnswerAt more w.parts path name n u × (is_declared u.outcome ≡ true)) =
    λ w other.
    exact respelled fit one_part stay ps s.parts as_read (whole ps s is).made path name n o m more h c.0.of_part c.0.number c.0.source c.0.tree c.2.0 names there c.1.in_package c.1.named c.1.tree c.2.2 begins w.parts (whole more w other).made in (
      (λ among. (let w = given have more (well respelled ps as_read path name n o m more h) in
          let d = (both w.0 w.1).0 among in
          (w.0, w.1, (d.0, subst (λ (qs : List PackageModel). IsAnswerAt qs w.0.parts path name n d.0) (sym w.1.sources) d.1, d.2)))),
      (λ has. (let d = has.2 in (both has.0 has.1).1 (d.0, subst (λ (qs : List PackageModel). IsAnswerAt qs has.0.parts path name n d.0) has.1.sources d.1, d.2))),
    )

pub blanks : BlankNeverFits → BlanksNeverComplete
blanks never s path name offset names m c blank among = never c.0.of_part c.0.number c.0.tree c.2.0 names m blank c.2.2 among
