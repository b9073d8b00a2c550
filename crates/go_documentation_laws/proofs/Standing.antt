-- A package with an added file sees the types of the package that the file imports as that one sees them.
use Rattle.std.proofs.Common.{◌≡◌, ◌⊎◌, ℕ, inl, inr, List, [], ◌∷◌, Option, Some, refl, sym, ap, subst, ◌∙◌}
use Rattle.std.specs.Prelude.{slice_get}
use Rattle.go_graph_core.specs.declared.imports.ImportAt.{ImportAt}
use Rattle.go_graph_core.specs.declared.imports.ImportOutcome.{ImportOutcome}
use Rattle.go_graph_core.specs.declared.imports.ImportOutcome.TheVariants.{Package}
use Rattle.go_graph_core.specs.Imports.{IsOutcome}
use Rattle.go_graph_core.specs.Plans.{IsPlan, PlanModel}
use Rattle.go_graph_core.specs.Workspaces.{IsWorkspace, PackageModel}
use Rattle.go_graph_core.proofs.PlanLaws.{has_plan}
use Rattle.go_import_core.specs.list.Added.{AddedImportsAreJudged, AddsImport, added_at}
use Rattle.go_import_core.specs.list.Importing.{IsJudgedAt}
use Rattle.go_term_core.specs.decl_core.declared.keys.DeclKey.{DeclKey}
use Rattle.go_term_core.specs.decl_core.declared.keys.DeclRef.{DeclRef}
use Rattle.go_term_core.specs.Terms.{Term}
use Rattle.go_typexpr_core.proofs.EntryAmong.{Among, among_cases, among_left, among_to}
use Rattle.go_summary_core.specs.declared_core.declared.face.Face.TheVariants as faces
use Rattle.go_summary_core.specs.declared_core.Packages.{face_by}
use Rattle.go_summary_core.specs.Summaries.{SummaryModel}
use Rattle.go_summary_core.specs.table_core.Entries.{Entry, find_entry}
use Rattle.go_summary_core.specs.table_core.Laws.{AgreeFrom}
use Rattle.go_package_core.specs.package_part.Laws.{OnePart}
use Rattle.go_package_core.specs.package_part.Parts.{PartModel}
use Rattle.go_snap_core.specs.whole_workspace.Inputs.{AreParts, IsInputOf, ReachesPackage}
use Rattle.go_snap_core.specs.whole_workspace.Known.{KnownAlike}
use Rattle.go_snap_core.specs.whole_workspace.LocalLaws.{CheckIsLocal, ImportsBindTheirs}
use Rattle.go_snap_core.specs.whole_workspace.mirrors.Steps.{AreRight}
use Rattle.go_snap_core.proofs.WholeWorkspaceOrder.{reaches_next, reaches_on}
use Rattle.go_snap_core.proofs.WholeWorkspaceParts.{told_by, told_to}
use Rattle.go_snap_core.proofs.WholeWorkspacePartsWhole.{all_right}
use Rattle.go_snap_core.proofs.WholeWorkspaceTold.{known_alike, known_by}
use Rattle.go_completion_laws.proofs.Agreed.{reaches_inside}
use Rattle.go_type_doc_core.specs.Naming.{types_seen}
use Rattle.go_documentation_laws.specs.Below.{IsBelow, TypesBelowAgree}
use Rattle.go_documentation_laws.proofs.Outcomes.{outcome_more}
use Rattle.go_documentation_laws.proofs.Lower.{closed, stays_below}
use Rattle.go_documentation_laws.proofs.Tables.{Inside, agree_from, mention, named, own_inside, seen, types_are, well_seen}

module _ (one_part : OnePart) (local : CheckIsLocal) (bind : ImportsBindTheirs) (added : AddedImportsAreJudged) (ps more : List PackageModel) (parts others : List (Option PartModel)) (own to : ℕ) (text : List ℕ)
    (well : IsWorkspace ps) (also : IsWorkspace more) (h : AddsImport ps own text more) (judged : IsJudgedAt ps own text (Package to)) (made : AreParts ps parts) (again : AreParts more others) (p q : PartModel)
    (there : slice_get parts to ≡ Some (Some p)) (here : slice_get others own ≡ Some (Some q)) where
  pub right : AreRight ps parts
  right = all_right ps parts made

  pub right_more : AreRight more others
  right_more = all_right more others again

  stay : (m : ℕ) → IsBelow ps to m → slice_get parts m ≡ slice_get others m
  stay m below = stays_below ps more own to text h judged one_part parts others well also made again m below

  -- the package with the file reaches the imported one, and all that this reaches
  leads : ReachesPackage more own to
  leads = reaches_next more (added_at own h.files) to ((added ps more own text h (Package to)).1 judged)

  more_outcome : (at : ImportAt) (o : ImportOutcome) → IsBelow ps to at.«package» → IsOutcome ps at o → IsOutcome more at o
  more_outcome at o below k = outcome_more ps more own text h to judged at o below k

  leads_on : (m : ℕ) → ReachesPackage ps to m → ReachesPackage more own m
  leads_on m r = reaches_on more own to m leads (reaches_inside ps more (IsBelow ps to) (closed ps to) more_outcome to m (inl refl) r).1

  -- so these tell it what they told
  own_input : IsInputOf more others own q.input.source q.input
  own_input = (right_more own q here).input

  pub told_own : Among q.input.reached p.content.summary
  told_own = told_to more others also right_more own q.input own_input to p.content.summary leads (record { of_part = p; there = sym (stay to (inl refl)) ∙ there; is = refl })

  told_below : (s : SummaryModel) → Among p.input.reached s → Among q.input.reached s
  told_below s a =
      let by = told_by ps parts well right to p.input (right to p there).input s a in
      told_to more others also right_more own q.input own_input by.number s (leads_on by.number by.reached)
      (record { of_part = by.tells.of_part; there = sym (stay by.number (inr by.reached)) ∙ by.tells.there; is = by.tells.is })

  holds : (s : SummaryModel) → Among (seen p) s → Among (seen q) s
  holds s a = among_left q.input.reached (q.content.summary ∷ []) s (by (among_cases p.input.reached (p.content.summary ∷ []) s a))
    where
      by : Among p.input.reached s ⊎ Among (p.content.summary ∷ []) s → Among q.input.reached s
      by (inl x) = told_below s x
      by (inr (inl e)) = subst (Among q.input.reached) e told_own
      by (inr (inr never)) = absurd never

  abbrev plan : (x : PlanModel) × IsPlan ps x
  plan = has_plan ps well

  abbrev plan_more : (x : PlanModel) × IsPlan more x
  plan_more = has_plan more also

  abbrev Near : List ℕ → Type 0
  Near = Inside local bind ps parts well right plan.0 plan.1 to p there

  alike : KnownAlike Near (known_by (seen p)) (known_by (seen q))
  alike =
      known_alike (seen p) (seen q) (well_seen local bind ps parts well right plan.0 plan.1 to p there) (well_seen local bind more others also right_more plan_more.0 plan_more.1 own q here) Near
      (λ path c. (let m = named local bind ps parts well right plan.0 plan.1 to p there path c in
      inl (record { summary = m.summary; one = among_to (seen p) m.summary m.among; other = among_to (seen q) m.summary (holds m.summary m.among); is = m.is })))

  same_types : (k : DeclKey) → Near k.path → find_entry (types_seen p) k ≡ find_entry (types_seen q) k
  same_types k near = ap (λ (es : List Entry). find_entry es k) (sym (types_are p)) ∙ (alike.types k near ∙ ap (λ (es : List Entry). find_entry es k) (types_are q))

  pub agree : (d : DeclRef) (t : Term) → face_by p.content.summary.faces d ≡ Some (faces.«Type» (Some t)) → AgreeFrom (find_entry (types_seen p)) (find_entry (types_seen q)) t
  agree d t is =
      agree_from (types_seen p) Near (mention local bind ps parts well right plan.0 plan.1 to p there) (types_seen q) same_types t
      (λ j at. (own_inside local bind ps parts well right plan.0 plan.1 to p there).faces d (faces.«Type» (Some t)) j is at)

pub types_below : OnePart → CheckIsLocal → ImportsBindTheirs → AddedImportsAreJudged → TypesBelowAgree
types_below one_part local bind added ps more parts others own to text well also h judged made again p q there here d t is =
    agree one_part local bind added ps more parts others own to text well also h judged made again p q there here d t is
