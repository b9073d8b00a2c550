-- What documentation tells of a type of another package is what the file has that imports that package.
use Rattle.std.proofs.Common.{◌≡◌, ◌≢◌, ℕ, ◌++◌, List, [], ◌∷◌, length, Option, Some, None, refl, sym, ap, subst, ◌∙◌}
use Rattle.std.specs.Prelude.{◌↔◌, Contains, slice_get}
use Rattle.go_path_core.specs.text_core.declared.rule.Rule.{Rule}
use Rattle.go_tree_nodes.specs.Trees.{FileTree}
use Rattle.go_graph_core.specs.declared.imports.ImportOutcome.{ImportOutcome}
use Rattle.go_graph_core.specs.declared.imports.ImportOutcome.TheVariants.{Package, Refused}
use Rattle.go_graph_core.specs.Imports.{IsNumbered, IsOutcome}
use Rattle.go_graph_core.specs.Sources.{SourceModel}
use Rattle.go_graph_core.specs.Workspaces.{IsWorkspace, PackageModel}
use Rattle.go_graph_core.proofs.Numbers.{has_one_number, has_one_package}
use Rattle.go_graph_core.proofs.OutcomeLaws.{has_one_outcome}
use Rattle.go_import_core.specs.list.Added.{AddedImportsAreJudged, added_at}
use Rattle.go_import_core.specs.list.Importing.{IsJudgedAt}
use Rattle.go_term_core.specs.Terms.{Term}
use Rattle.go_typexpr_core.proofs.EntryAmong.{Among, among_from, among_to}
use Rattle.go_expr_core.specs.denote_core.declared.things.Outcome.TheVariants as outcomes
use Rattle.go_summary_core.specs.Summaries.{path_of}
use Rattle.go_summary_core.specs.handle_core.Declarations.{Declaration, declaration_found}
use Rattle.go_package_core.specs.package_part.Inputs.{path_in}
use Rattle.go_package_core.specs.package_part.Laws.{OnePart}
use Rattle.go_package_core.specs.package_part.Parts.{PartModel}
use Rattle.go_snap_core.specs.Snapshots.{IsSnapshot, SnapshotModel, snapshot_with}
use Rattle.go_snap_core.specs.whole_workspace.Inputs.{AreParts}
use Rattle.go_snap_core.specs.whole_workspace.LocalLaws.{CheckIsLocal, ImportsBindTheirs}
use Rattle.go_snap_core.specs.whole_workspace.mirrors.Steps.{AreRight}
use Rattle.go_snap_core.proofs.WholeWorkspaceLists.{one_at, zip_of, zip_to}
use Rattle.go_snap_core.proofs.WholeWorkspaceParts.{of_one, path_told, well_reached}
use Rattle.go_snap_core.proofs.WholeWorkspacePartsWhole.{all_right}
use Rattle.go_query_core.specs.Documenting.{IsImportedPart}
use Rattle.go_query_core.specs.Parts.{IsPartOf}
use Rattle.go_submit_core.specs.Published.{IsOneWorker}
use Rattle.go_type_doc_core.specs.declared.members.listing.MemberKind.{MemberKind}
use Rattle.go_type_doc_core.specs.members.Members.{AreLooks, AreMembers, MemberOf, behind_variable}
use Rattle.go_type_doc_core.specs.Laws.{AreMembersOver, MembersAreLocal}
use Rattle.go_type_doc_core.specs.Names.{BreaksRule, NamesType, TheAnswer}
use Rattle.go_type_doc_core.specs.Naming.{other_answer, types_seen}
use Rattle.go_type_doc_core.specs.TypeDocs.{AreTold, IsOtherTypeRefused, IsOwnTypeDoc, IsTold, MemberShown, TypeDocOf}
use Rattle.go_workspace_laws.specs.existence.Laws.{WorkspacesHaveSnapshots}
use Rattle.go_documentation_laws.specs.Types.{AddsFile, OwnTypesExactly, RefusesBehind, SelectsBehind, SelectsOn, TellsMember, TypeRefusalsExactly, TypesAreExact, TypesExactly, look_in_file, type_behind}
use Rattle.go_documentation_laws.proofs.Lower.{has_part}
use Rattle.go_documentation_laws.proofs.Named.{behind_is, has_face, one_type, other_is}
use Rattle.go_documentation_laws.proofs.Standing.{agree, right, right_more, told_own}

-- of snapshots

pub whole : (ps : List PackageModel) (s : SnapshotModel) → IsOneWorker ps s → IsSnapshot ps s.parts s.faults
whole ps s is = subst (λ (qs : List PackageModel). IsSnapshot qs s.parts s.faults) is.sources is.whole

given : WorkspacesHaveSnapshots → (ps : List PackageModel) → IsWorkspace ps → (s : SnapshotModel) × IsOneWorker ps s
given have ps is = (let s = have ps is in (snapshot_with ps s.0 s.1, record { sources = refl; whole = s.2 }))

abbrev number_in : ImportOutcome → ℕ
number_in (Package n) = n
number_in (Refused rule) = 0

one_package : (a b : ℕ) → ◌≡◌ {A = ImportOutcome} (Package a) (Package b) → a ≡ b
one_package a b e = ap number_in e

-- of a member and what is told of it

module _ (s : SnapshotModel) (kind : MemberKind) (name : List ℕ) (m : MemberOf) (y : MemberShown) (told : IsTold s m y) where
  told_kind : m.kind ≡ kind → y.kind ≡ kind
  told_kind is = told.kind_is ∙ is

  told_name : m.name ≡ name → y.name ≡ name
  told_name is = told.name_is ∙ is

  kind_told : y.kind ≡ kind → m.kind ≡ kind
  kind_told is = sym told.kind_is ∙ is

  name_told : y.name ≡ name → m.name ≡ name
  name_told is = sym told.name_is ∙ is

-- a file that imports a package in the package that asks, and what a snapshot has there

module _ (one_part : OnePart) (local : CheckIsLocal) (bind : ImportsBindTheirs) (added : AddedImportsAreJudged) (local_members : MembersAreLocal) (have : WorkspacesHaveSnapshots) (ps : List PackageModel) (s : SnapshotModel)
    (well : IsWorkspace ps) (is : IsOneWorker ps s) where
  module _ (from path : List ℕ) (number : ℕ) (importer p : PartModel) (own : IsPartOf s from number importer) (imported : IsImportedPart s number path p) (more : List PackageModel) (h : AddsFile ps number path more) where
    abbrev file : ℕ
    file = length h.adds.files

    pub judged : IsJudgedAt ps number path (Package imported.to)
    judged = subst (λ (qs : List PackageModel). IsJudgedAt qs number path (Package imported.to)) is.sources imported.judged

    numbered : IsNumbered ps from number own.files
    numbered = subst (λ (qs : List PackageModel). IsNumbered qs from number own.files) is.sources own.numbered

    from_is : h.adds.path ≡ from
    from_is = (has_one_package ps h.adds.path from number h.adds.files own.files h.adds.importer numbered).0

    module _ (w : SnapshotModel) (other : IsOneWorker more w) (q : PartModel) (here : slice_get w.parts number ≡ Some (Some q)) where
      made : AreParts ps s.parts
      made = (whole ps s is).made

      again : AreParts more w.parts
      again = (whole more w other).made

      the_right : AreRight ps s.parts
      the_right = right one_part local bind added ps more s.parts w.parts number imported.to path well h.well h.adds judged made again p q imported.there here

      the_right_more : AreRight more w.parts
      the_right_more = right_more one_part local bind added ps more s.parts w.parts number imported.to path well h.well h.adds judged made again p q imported.there here

      among : Among q.input.reached p.content.summary
      among = told_own one_part local bind added ps more s.parts w.parts number imported.to path well h.well h.adds judged made again p q imported.there here

      -- the name of the type has what it has where documentation asks
      own_path : path_of p.content.summary ≡ path_in p.input
      own_path = path_told ps s.parts well the_right imported.to p.content.summary (record { of_part = p; there = imported.there; is = refl })

      path_is : path_of p.content.summary ≡ path
      path_is =
          let target = judged.judged.0 in
          let both : ◌≡◌ {A = PackageModel} p.input.source (path, target.files) = one_at ps imported.to p.input.source (path, target.files) (the_right imported.to p imported.there).numbered target.numbered in
          own_path ∙ ap (λ (x : PackageModel). x.0) both

      pub same : (type_name : List ℕ) → type_behind q file h.tree path type_name ≡ other_answer importer p type_name
      same type_name =
          let reached = well_reached more w.parts h.well the_right_more number q.input (the_right_more number q here).input in
          behind_is q file h.tree path type_name p.content.summary reached among path_is ∙ sym (other_is importer p type_name (of_one ps s.parts well the_right imported.to p imported.there) own_path)

      -- the look-ups of the file are those of the package over the types that it sees
      looks : AreLooks (types_seen q) from (look_in_file q file h.tree)
      looks =
          let all : List SourceModel = h.adds.files ++ h.adds.file ∷ [] in
          let both : ◌≡◌ {A = PackageModel} q.input.source (h.adds.path, all) = one_at more number q.input.source (h.adds.path, all) (the_right_more number q here).numbered h.adds.here in
          let path_is : path_in q.input ≡ from = ap (λ (x : PackageModel). x.0) both ∙ from_is in
          let mine : AreLooks (types_seen q) (path_in q.input) (look_in_file q file h.tree) = record { types = refl; select = refl } in
          subst (λ (x : List ℕ). AreLooks (types_seen q) x (look_in_file q file h.tree)) path_is mine

      over : (type_name : List ℕ) (t : Term) (ms : List MemberOf) → NamesType (other_answer importer p type_name) (Some t) → AreMembers (types_seen p) t from ms → AreMembersOver (types_seen q) t from ms
      over type_name t ms named are =
          let face = has_face p.content.summary.faces (path_of p.content.summary) type_name t
          (subst (λ (a : TheAnswer). NamesType a (Some t)) (other_is importer p type_name (of_one ps s.parts well the_right imported.to p imported.there) own_path) named) in
          local_members (types_seen p) (types_seen q) t from ms
          (agree one_part local bind added ps more s.parts w.parts number imported.to path well h.well h.adds judged made again p q imported.there here face.0 t face.1) are

      module _ (type_name : List ℕ) (kind : MemberKind) (name : List ℕ) (ts : List MemberShown) where
        abbrev Has : Type 0
        Has = (m : MemberShown) × Contains ts m × (m.kind ≡ kind) × (m.name ≡ name)

        -- what is told is selected
        selects : (o : Option Term) → NamesType (other_answer importer p type_name) o → AreTold s (types_seen p) o from ts → Has → SelectsBehind w number file h.tree path type_name kind name
        selects None named none has = absurd (among_from [] has.0 (subst (λ (xs : List MemberShown). Contains xs has.0) none has.1))
        selects (Some t) named told has =
            let x = zip_of (IsTold s) told.0 ts has.0 told.2 (among_from ts has.0 has.1) in
            let found = (over type_name t told.0 named told.1).each (look_in_file q file h.tree) looks x.0 (among_to told.0 x.0 x.1) in
            let kind_is : x.0.kind ≡ kind = kind_told s kind name x.0 has.0 x.2 has.2 in
            let name_is : x.0.name ≡ name = name_told s kind name x.0 has.0 x.2 has.3 in
            record {
              of_part = q;
              there = here;
              term = t;
              named = subst (λ (a : TheAnswer). NamesType a (Some t)) (sym (same type_name)) named;
              declaration = found.0;
              through = found.1;
              selected = subst (λ (k : MemberKind). behind_variable (look_in_file q file h.tree) t k name ≡ outcomes.Selected found.0 found.1) kind_is
                  (subst (λ (n : List ℕ). behind_variable (look_in_file q file h.tree) t x.0.kind n ≡ outcomes.Selected found.0 found.1) name_is found.2);
            }

        -- what is selected is told
        tells : (o : Option Term) → NamesType (other_answer importer p type_name) o → AreTold s (types_seen p) o from ts → (t : Term) → NamesType (type_behind q file h.tree path type_name) (Some t)
            → (d : Declaration) (through : List ℕ) → behind_variable (look_in_file q file h.tree) t kind name ≡ outcomes.Selected d through → Has
        tells o named told t named_there d through selected =
            let here_named : NamesType (other_answer importer p type_name) (Some t) = subst (λ (a : TheAnswer). NamesType a (Some t)) (same type_name) named_there in
            let is_term : o ≡ Some t = one_type (other_answer importer p type_name) o (Some t) named here_named in
            let told_t : AreTold s (types_seen p) (Some t) from ts = subst (λ (x : Option Term). AreTold s (types_seen p) x from ts) is_term told in
            let m = (over type_name t told_t.0 here_named told_t.1).whole (look_in_file q file h.tree) looks kind name d through selected in
            let y = zip_to (IsTold s) told_t.0 ts m.0 told_t.2 (among_from told_t.0 m.0 m.1) in
            (y.0, among_to ts y.0 y.1, told_kind s kind name m.0 y.0 y.2 m.3, told_name s kind name m.0 y.0 y.2 m.2)

    -- there is such a snapshot
    record HasSnapshot : Type 0 where
      w : SnapshotModel
      other : IsOneWorker more w
      q : PartModel
      here : slice_get w.parts number ≡ Some (Some q)

    snapshot : HasSnapshot
    snapshot =
        let w = given have more h.well in
        let has = has_part ps more number path h.adds w.0.parts (whole more w.0 w.1).made in
        record { w = w.0; other = w.1; q = has.part; here = has.there }

    -- a package to which the import comes is this one
    one_imported : (r : PartModel) → IsImportedPart s number path r → r ≡ p
    one_imported r to =
        let mine : IsJudgedAt ps number path (Package to.to) = subst (λ (qs : List PackageModel). IsJudgedAt qs number path (Package to.to)) is.sources to.judged in
        let one : IsOutcome more (added_at number h.adds.files) (Package to.to) = (added ps more number path h.adds (Package to.to)).1 mine in
        let two : IsOutcome more (added_at number h.adds.files) (Package imported.to) = (added ps more number path h.adds (Package imported.to)).1 judged in
        let same : to.to ≡ imported.to = one_package to.to imported.to (has_one_outcome more (added_at number h.adds.files) (Package to.to) (Package imported.to) h.well one two) in
        let both : Some r ≡ Some p = one_at s.parts imported.to (Some r) (Some p) (subst (λ (k : ℕ). slice_get s.parts k ≡ Some (Some r)) same to.there) imported.there in
        cc

    refuses : (type_name : List ℕ) (rule : Rule) → path ≢ from → IsOtherTypeRefused s from path type_name rule ↔ ((w : SnapshotModel) × IsOneWorker more w × RefusesBehind w number file h.tree path type_name rule)
    refuses type_name rule apart = (
      (λ r. (let x = snapshot in
          let old : IsNumbered ps from r.number r.own.files = subst (λ (qs : List PackageModel). IsNumbered qs from r.number r.own.files) is.sources r.own.numbered in
          let number_is : r.number ≡ number = has_one_number ps from r.number number r.own.files own.files well old numbered in
          let part_is : r.of_part ≡ p = one_imported r.of_part (subst (λ (k : ℕ). IsImportedPart s k path r.of_part) number_is r.imported) in
          let broken : BreaksRule (other_answer r.importer p type_name) rule = subst (λ (b : PartModel). BreaksRule (other_answer r.importer b type_name) rule) part_is r.refused in
          (x.w, x.other, record { of_part = x.q; there = x.here; refused = subst (λ (a : TheAnswer). BreaksRule a rule) (sym (same x.w x.other x.q x.here type_name)) broken }))),
      (λ r. record {
        other = apart;
        number = number;
        importer = importer;
        own = own;
        of_part = p;
        imported = imported;
        refused = subst (λ (a : TheAnswer). BreaksRule a rule) (same r.0 r.1 r.2.of_part r.2.there type_name) r.2.refused;
      }),
    )

  -- of a type of its own: in each file

  module _ (from path type_name : List ℕ) (d : TypeDocOf) (own : IsOwnTypeDoc s from path type_name d) (file : ℕ) (tree : FileTree) (kind : MemberKind) (name : List ℕ) where
    abbrev p : PartModel
    p = own.of_part

    from_own : path_in p.input ≡ from
    from_own =
        let numbered : IsNumbered ps from own.number own.own.files = subst (λ (qs : List PackageModel). IsNumbered qs from own.number own.own.files) is.sources own.own.numbered in
        let both : ◌≡◌ {A = PackageModel} p.input.source (from, own.own.files) = one_at ps own.number p.input.source (from, own.own.files) (all_right ps s.parts (whole ps s is).made own.number p own.own.there).numbered numbered in
        ap (λ (x : PackageModel). x.0) both

    own_looks : AreLooks (types_seen p) from (look_in_file p file tree)
    own_looks = (let mine : AreLooks (types_seen p) (path_in p.input) (look_in_file p file tree) = record { types = refl; select = refl } in subst (λ (x : List ℕ). AreLooks (types_seen p) x (look_in_file p file tree)) from_own mine)

    abbrev Told : Option Term → Type 0
    Told o = AreTold s (types_seen p) o from d.members

    own_selects : (o : Option Term) → Told o → TellsMember d kind name → SelectsOn s own.number file tree o kind name
    own_selects None none has = absurd (among_from [] has.0 (subst (λ (xs : List MemberShown). Contains xs has.0) none has.1))
    own_selects (Some t) told has =
        let x = zip_of (IsTold s) told.0 d.members has.0 told.2 (among_from d.members has.0 has.1) in
        let m = told.1.each x.0 (among_to told.0 x.0 x.1) in
        let kind_is : x.0.kind ≡ kind = kind_told s kind name x.0 has.0 x.2 has.2 in
        let name_is : x.0.name ≡ name = name_told s kind name x.0 has.0 x.2 has.3 in
        let found : Declaration = declaration_found m.f in
        record {
          of_part = p;
          there = own.own.there;
          term = t;
          is = refl;
          declaration = found;
          through = m.path;
          selected = subst (λ (k : MemberKind). behind_variable (look_in_file p file tree) t k name ≡ outcomes.Selected found m.path) kind_is
              (subst (λ (n : List ℕ). behind_variable (look_in_file p file tree) t x.0.kind n ≡ outcomes.Selected found m.path) name_is (m.selected (look_in_file p file tree) own_looks));
        }

    own_tells : Told own.term → SelectsOn s own.number file tree own.term kind name → TellsMember d kind name
    own_tells told x =
        let part_is : x.of_part ≡ p = (let both : Some x.of_part ≡ Some p = one_at s.parts own.number (Some x.of_part) (Some p) x.there own.own.there in cc) in
        let told_t : Told (Some x.term) = subst Told x.is told in
        let here : behind_variable (look_in_file p file tree) x.term kind name ≡ outcomes.Selected x.declaration x.through
        = subst (λ (q : PartModel). behind_variable (look_in_file q file tree) x.term kind name ≡ outcomes.Selected x.declaration x.through) part_is x.selected in
        let m = told_t.1.whole (look_in_file p file tree) own_looks kind name x.declaration x.through here in
        let y = zip_to (IsTold s) told_t.0 d.members m.0 told_t.2 (among_from told_t.0 m.0 m.1) in
        (y.0, among_to d.members y.0 y.1, told_kind s kind name m.0 y.0 y.2 m.3, told_name s kind name m.0 y.0 y.2 m.2)

  own_types : OwnTypesExactly s
  own_types from path type_name d own file tree there kind name = (
    (λ m. own_selects from path type_name d own file tree kind name own.term own.doc.members_are m),
    (λ x. own_tells from path type_name d own file tree kind name own.doc.members_are x),
  )

  pub types : TypesExactly ps s
  types from path type_name d told more h kind name = (
    (λ m. (let x = snapshot from path told.number told.importer told.of_part told.own told.imported more h in
        (x.w, x.other, selects from path told.number told.importer told.of_part told.own told.imported more h x.w x.other x.q x.here type_name kind name d.members told.term told.named told.doc.members_are m))),
    (λ r. tells from path told.number told.importer told.of_part told.own told.imported more h r.0 r.1 r.2.of_part r.2.there type_name kind name d.members told.term told.named told.doc.members_are r.2.term r.2.named r.2.declaration r.2.through r.2.selected),
  )

  refusals : TypeRefusalsExactly ps s
  refusals from path type_name rule number importer p apart own imported more h = refuses from path number importer p own imported more h type_name rule apart

pub types_exact : OnePart → CheckIsLocal → ImportsBindTheirs → AddedImportsAreJudged → MembersAreLocal → WorkspacesHaveSnapshots → TypesAreExact
types_exact one_part local bind added local_members have = record {
  told = types one_part local bind added local_members have;
  own = own_types one_part local bind added local_members have;
  refused = refusals one_part local bind added local_members have;
}
