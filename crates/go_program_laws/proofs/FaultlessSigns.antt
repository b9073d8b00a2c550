-- The methods of the types that a package of a workspace knows come in code to what their signatures give.
use Rattle.std.proofs.Common.{◌≡◌, inl, inr, ℕ, ◌&&◌, Bool, true, false, List, [], ◌∷◌, map, Option, Some, None, Ok, Err, Result, refl, sym, ap, ◌∙◌, subst, nat_eq, if◌then◌else◌}
use Rattle.std.specs.Str.{bytes_eq}
use Rattle.std.proofs.lemmas.Bool.{and_parts, eqb-true}
use Rattle.go_constant_core.specs.text_core.declared.rule.Rule.{Rule}
use Rattle.go_term_core.specs.decl_core.declared.keys.DeclKey.{DeclKey}
use Rattle.go_term_core.specs.decl_core.declared.keys.DeclRef.{DeclRef}
use Rattle.go_tree_nodes.specs.Trees.{FileTree}
use Rattle.go_names_core.specs.local_core.Binding.{Local}
use Rattle.go_term_core.specs.declared.term.Basic.{Basic}
use Rattle.go_term_core.specs.declared.term.Basic.TheVariants as basics
use Rattle.go_term_core.specs.declared.term.MemberPlace.{MemberPlace}
use Rattle.go_term_core.specs.declared.term.MemberPlace.TheVariants as places
use Rattle.go_term_core.specs.Terms.{Defined, ErrorType, InterfaceOf, NoType, PointerTo, Predeclared, Sign, StructOf, Term}
use Rattle.go_body_core.specs.table_core.Entries.{Entry, Member, declared_methods, find_entry, methods_in, same_key, underlying_in}
use Rattle.go_report_core.specs.operand_core.declared.types.ValueType.{ValueType}
use Rattle.go_report_core.specs.operand_core.declared.types.ValueType.TheVariants as value_types
use Rattle.go_report_core.specs.operand_core.Values.{basic_under, default_type, form_basic}
use Rattle.go_report_core.specs.denote_core.declared.things.Outcome.{Outcome}
use Rattle.go_report_core.specs.denote_core.declared.things.Outcome.TheVariants as outcomes
use Rattle.go_report_core.specs.denote_core.declared.things.Selection.TheVariants as selections
use Rattle.go_body_core.specs.table_core.Keys.{same_key_true}
use Rattle.go_select_core.specs.embed_core.Owners.{AMethodOf, Found, path_of_term}
use Rattle.go_meaning_laws.specs.handle_core.DecidingSelecting.{Choice, selected_of}
use Rattle.go_meaning_laws.specs.handle_core.DecidingRules.{form_under, member_selection, selection_of, term_rules}
use Rattle.go_meaning_laws.specs.handle_core.Declarations.{Declaration, InFile, declaration_found}
use Rattle.go_body_core.specs.env_core.declared.meaning.Meaning.{Meaning as NameMeaning}
use Rattle.go_body_core.specs.env_core.Looks.{TheLooks}
use Rattle.go_graph_core.proofs.PlanLaws.{has_plan}
use Rattle.go_graph_core.specs.Workspaces.{IsWorkspace, PackageModel}
use Rattle.go_body_core.specs.typexpr_core.EntryAmong.{Among, among_flat, among_from, among_map, among_to}
use Rattle.go_body_core.specs.typexpr_core.EntryEntries.{package_meanings}
use Rattle.go_body_core.specs.typexpr_core.EntryOutlines.{FileOutline, IsOutline, outline_of}
use Rattle.go_emit_core.specs.package_core.PreparePackages.{PackageIn, outlines_in, shows_in}
use Rattle.go_report_core.specs.summary_core.Summaries.{IsOfOne, SummaryModel, path_of}
use Rattle.go_report_core.specs.summary_core.Views.{types_told}
use Rattle.go_body_core.specs.table_core.Tables.{AreOf}
use Rattle.go_emit_core.specs.package_core.PackagePartInputs.{InputModel, path_in}
use Rattle.go_emit_core.specs.package_core.PackagePartParts.{ContentOf, FileOf, PartModel, package_seen, seen_by}
use Rattle.go_emit_core.specs.package_core.PackagePartSlots.{somes}
use Rattle.go_snap_core.specs.whole_workspace.Inputs.{AreParts}
use Rattle.go_snap_core.proofs.WholeWorkspaceLists.{among_all}
use Rattle.go_snap_core.specs.whole_workspace.LocalLaws.{CheckIsLocal, ImportsBindTheirs}
use Rattle.go_snap_core.proofs.WholeWorkspacePartsWhole.{all_right}
use Rattle.go_object_core.specs.declared.instructions.letters.Word.{Word}
use Rattle.go_code_core.specs.declared.fragments.names.Gives.{Gives}
use Rattle.go_code_core.specs.declared.fragments.names.Meaning.{Meaning}
use Rattle.go_code_core.specs.declared.fragments.names.Meaning.TheVariants as meanings
use Rattle.go_emit_core.specs.lookup.Looking.{meaning_or_other}
use Rattle.go_emit_core.specs.lookup.Places.{decl_spot, spotted_meaning}
use Rattle.go_emit_core.specs.meaning.Scenes.{method_meaning, methods_spotted}
use Rattle.go_emit_core.specs.meaning.Words.{sign_gives}
use Rattle.go_emit_core.specs.Emitted.{code_scene_over, told_to}
use Rattle.go_workspace_laws.specs.folding.Reading.{IsMethodMeant, IsOver, IsSelectionMeant, basic_of}
use Rattle.go_workspace_laws.specs.ConstantLaws.{PartsAreFit}
use Rattle.go_workspace_laws.proofs.ConstantLists.{contained}
use Rattle.go_workspace_laws.proofs.Methods.{told_methods}
use Rattle.go_workspace_laws.proofs.ConstantMethods.{method_found}
use Rattle.go_workspace_laws.proofs.Reading.{sign_read}
use Rattle.go_program_laws.specs.types.Functions.{function_looks, known_types, meaning_there}
use Rattle.go_program_laws.proofs.TypesReady.{AreGiven, read}
use Rattle.go_program_laws.specs.faultless.Called.{IsMethodDeclared, MethodsAreDeclared, MethodsGiveTheirs}
use Rattle.go_program_laws.specs.faultless.Served.{NamesAreRead}
use Rattle.go_program_laws.proofs.FaultlessAlike.{numbered_in, told_part, well_one}
use Rattle.go_program_laws.proofs.FaultlessMethods.{signs_same}
use Rattle.go_program_laws.proofs.FaultlessSelected.{own_method}

-- the types of a table

pub of_path : (path : List ℕ) (es : List Entry) → AreOf path es → (e : Entry) → Among es e → e.key.path ≡ path
of_path path [] h e a = absurd a
of_path path (x ∷ es) h e (inl same) = ap (λ (y : Entry). y.key.path) (sym same) ∙ h.0
of_path path (x ∷ es) h e (inr a) = of_path path es h.1 e a

-- the entry of a key has this key
pub record IsEntryOf (es : List Entry) (k : DeclKey) (e : Entry) : Type 0 where
  pub there : Among es e
  pub key : e.key ≡ k

pub entry_of : (es : List Entry) (k : DeclKey) (e : Entry) → find_entry es k ≡ Some e → IsEntryOf es k e
entry_of [] k e h = absurd (let no : None ≡ Some e = h in cc)
entry_of (x ∷ es) k e h = by (same_key x.key k) refl h (λ rest. entry_of es k e rest)
  where
    by : (b : Bool) → same_key x.key k ≡ b → (if b then Some x else find_entry es k) ≡ Some e → (find_entry es k ≡ Some e → IsEntryOf es k e) → IsEntryOf (x ∷ es) k e
    by true at is rest =
        let same : x ≡ e = cc is in
        record { there = inl same; key = ap (λ (y : Entry). y.key) (sym same) ∙ same_key_true x.key k at }
    by false at is rest = (let r = rest is in record { there = inr r.there; key = r.key })

-- a method that is declared of a type is one of an entry
record IsDeclaredOf (es : List Entry) (t : Term) (m : Member) : Type 0 where
  entry : Entry
  known : find_entry es entry.key ≡ Some entry
  there : Among es entry
  here : Among entry.methods m
  is : t ≡ Defined entry.key
  home : entry.key.path ≡ path_of_term t

key_methods : (es : List Entry) (k : DeclKey) (m : Member) → Among (declared_methods (find_entry es) (Defined k)) m → IsDeclaredOf es (Defined k) m
key_methods es k m a = by (find_entry es k) refl
  where
    by : (o : Option Entry) → find_entry es k ≡ o → IsDeclaredOf es (Defined k) m
    by None e = absurd (subst (λ (o : Option Entry). Among (methods_in o) m) e a)
    by (Some x) e =
        let r = entry_of es k x e in
        record {
          entry = x;
          known = ap (find_entry es) r.key ∙ e;
          there = r.there;
          here = subst (λ (o : Option Entry). Among (methods_in o) m) e a;
          is = ap Defined (sym r.key);
          home = ap (λ (j : DeclKey). j.path) r.key;
        }

type_methods : (es : List Entry) (t : Term) (m : Member) → Among (declared_methods (find_entry es) t) m → IsDeclaredOf es t m
type_methods es NoType m a = absurd a
type_methods es (Predeclared b) m a = absurd a
type_methods es ErrorType m a = absurd a
type_methods es (Defined k) m a = key_methods es k m a
type_methods es (PointerTo t) m a = absurd a
type_methods es (StructOf path fs) m a = absurd a
type_methods es (InterfaceOf path ms) m a = absurd a

-- an operand over a word is of a type over a predeclared type

basic_is : (u : Term) (b : Basic) → form_basic (form_under u) ≡ Some b → u ≡ Predeclared b
basic_is (Predeclared c) b h = (let same : c ≡ b = cc h in ap Predeclared same)
basic_is NoType b h = absurd (cc h)
basic_is ErrorType b h = absurd (cc h)
basic_is (Defined k) b h = absurd (cc h)
basic_is (PointerTo t) b h = absurd (cc h)
basic_is (StructOf path fs) b h = absurd (cc h)
basic_is (InterfaceOf path ms) b h = absurd (cc h)

under_as : (es : List Entry) (u t : Term) (b : Basic) → Some u ≡ Some t → underlying_in (find_entry es) u ≡ Predeclared b → underlying_in (find_entry es) t ≡ Predeclared b
under_as es u t b e h = (let same : u ≡ t = cc e in subst (λ (v : Term). underlying_in (find_entry es) v ≡ Predeclared b) same h)

operand_under : (es : List Entry) (path : List ℕ) (v : ValueType Term) (w : Word) → basic_under (term_rules es path) v ≡ Some (basic_of w) → (t : Term) → default_type (term_rules es path) v ≡ Some t
    → (b : Basic) × (underlying_in (find_entry es) t ≡ Predeclared b)
operand_under es path (value_types.Typed u) w over t e = (basic_of w, under_as es u t (basic_of w) e (basic_is (underlying_in (find_entry es) u) (basic_of w) over))
operand_under es path value_types.UntypedInt w over t e = (basics.Int, under_as es (Predeclared basics.Int) t basics.Int e refl)
operand_under es path value_types.UntypedText w over t e = (basics.Text, under_as es (Predeclared basics.Text) t basics.Text e refl)
operand_under es path value_types.UntypedBool w over t e = (basics.Bool, under_as es (Predeclared basics.Bool) t basics.Bool e refl)
operand_under es path value_types.Nil w over t e = absurd (let no : None ≡ Some t = e in cc no)

-- the methods of the types that a part knows

outlines_all : (fs : List FileTree) (o : FileOutline) → Among (map outline_of fs) o → IsOutline o
outlines_all fs o a = (let f = among_map outline_of fs o a in (f.0, sym f.2))

module _ (fit : PartsAreFit) (ws : List PackageModel) (parts : List (Option PartModel)) (well : IsWorkspace ws) (made : AreParts ws parts) where
  -- those of one package that are declared at one place have one signature
  part_signs : (q : PartModel) → Among (somes parts) q → (e f : Entry) → Among q.content.summary.types.entries e → Among q.content.summary.types.entries f → (m n : Member) → Among e.methods m → Among f.methods n
      → (a b : DeclRef) → m.place ≡ places.Declared a → n.place ≡ places.Declared b → a.file ≡ b.file → a.number ≡ b.number → m.sign ≡ n.sign
  part_signs q h e f in_e in_f m n of_e of_f a b at_m at_n files numbers =
      let r = numbered_in parts q h in
      let part = (fit ws parts well made r.number q r.there).part in
      let types : q.content.summary.types.entries ≡ part.checked.types = ap (λ (s : SummaryModel). s.types.entries) part.summary in
      let seen : PackageIn = package_seen q.input q.content.blocks (seen_by q.input) in
      signs_same (package_meanings (shows_in seen) seen.path seen.blocks) seen.path (outlines_in seen) (outlines_all seen.trees) (find_entry (types_told q.input.reached)) part.checked.types part.is_checked.types.loops part.is_checked.types.built
      e f (subst (λ es. Among es e) types in_e) (subst (λ es. Among es f) types in_f) m n of_e of_f a b at_m at_n files numbers

  module _ (local : CheckIsLocal) (bind : ImportsBindTheirs) (p : PartModel) (h : Among (somes parts) p) where
    abbrev es : List Entry
    es = known_types p.input p.content

    -- what is found at the place of a method is what its signature gives
    method_gives : (e : Entry) → Among es e → (m : Member) → Among e.methods m → (d : DeclRef) → m.place ≡ places.Declared d → (k : Meaning) → spotted_meaning (methods_spotted es es) (decl_spot e.key.path d) ≡ Some k
        → k ≡ meanings.Method (sign_gives es m.sign)
    method_gives e in_e m of_e d at k found =
        let r = numbered_in parts p h in
        let right = all_right ws parts made in
        let plan = has_plan ws well in
        let told = told_to p.input p.content in
        let s = among_flat (λ (s : SummaryModel). s.types.entries) told e in_e in
        let apart = well_one local bind ws parts well right plan.0 plan.1 r.number p r.there in
        let path : path_of s.0 ≡ e.key.path = sym (of_path (path_of s.0) s.0.types.entries (among_all IsOfOne told s.0 apart.own s.1).own e s.2) in
        let there : spotted_meaning (methods_spotted es s.0.types.entries) (decl_spot e.key.path d) ≡ Some k = sym (told_methods es e.key.path d told s.0 apart.apart apart.own path s.1) ∙ found in
        let other = method_found es s.0.types.entries (decl_spot e.key.path d) k there in
        let t = told_part ws parts well made r.number p r.there s.0 s.1 in
        let in_part : (x : Entry) → Among s.0.types.entries x → Among t.part.content.summary.types.entries x = λ x a. subst (λ (y : SummaryModel). Among y.types.entries x) (sym t.is) a in
        let in_summary = among_from s.0.types.entries other.entry (contained s.0.types.entries other.entry other.there) in
        let in_entry = among_from other.entry.methods other.member (contained other.entry.methods other.member other.here) in
        let spot = and_parts (bytes_eq e.key.path other.entry.key.path) (nat_eq d.file other.decl.file && nat_eq d.number other.decl.number) other.at in
        let place = and_parts (nat_eq d.file other.decl.file) (nat_eq d.number other.decl.number) spot.1 in
        let same : m.sign ≡ other.member.sign =
        part_signs t.part t.there e other.entry (in_part e s.2) (in_part other.entry in_summary) m other.member of_e in_entry d other.decl at other.place (eqb-true d.file other.decl.file place.0) (eqb-true d.number other.decl.number place.1) in
        other.is ∙ ap (λ g. meanings.Method (sign_gives es g)) (sym same)

    -- what a declared method comes to in code gives what its signature gives
    spot_gives : (g : Sign) (given : Gives) (o : Option Meaning) → ((k : Meaning) → o ≡ Some k → k ≡ meanings.Method (sign_gives es g)) → meaning_or_other o ≡ meanings.Method given → sign_gives es g ≡ given
    spot_gives g given None h is = absurd (let no : meanings.Other ≡ meanings.Method given = is in cc no)
    spot_gives g given (Some k) h is = (let same : meanings.Method (sign_gives es g) ≡ meanings.Method given = sym (h k refl) ∙ is in cc same)

    place_gives : (e : Entry) → Among es e → (m : Member) → Among e.methods m → (place : MemberPlace) → m.place ≡ place → (given : Gives)
        → method_meaning (code_scene_over (told_to p.input p.content) p.input p.content) (InFile e.key.path place) ≡ meanings.Method given → sign_gives es m.sign ≡ given
    place_gives e in_e m of_e (places.Declared d) at given is = spot_gives m.sign given (spotted_meaning (methods_spotted es es) (decl_spot e.key.path d)) (λ k found. method_gives e in_e m of_e d at k found) is
    place_gives e in_e m of_e (places.Local l) at given is = absurd (let no : meanings.Other ≡ meanings.Method given = is in cc no)

    pub declared_gives : (n : ℕ) (f : FileOf) (d : Declaration) (path : List ℕ) (s : Sign) (receiver : Word) → IsMethodDeclared p.input p.content d path s receiver
        → (given : Gives) → meaning_there p.input p.content n f (outcomes.Selected d path) ≡ meanings.Method given → sign_gives es s ≡ given
    declared_gives n f d path s receiver x given is =
        let direct = subst (λ (q : List ℕ). meaning_there p.input p.content n f (outcomes.Selected d q) ≡ meanings.Method given) x.alone is in
        let own = subst (λ (e : Declaration). meaning_there p.input p.content n f (outcomes.Selected e []) ≡ meanings.Method given) x.declared direct in
        ap (sign_gives es) x.sign
        ∙ place_gives x.entry (entry_of es x.entry.key x.entry x.known).there x.member (among_from x.entry.methods x.member x.there) x.member.place refl given own

    module _ (n : ℕ) (t : FileTree) (f : FileOf) (all : List (Local NameMeaning)) where
      abbrev looks : TheLooks
      looks = function_looks p.input p.content n t all

      abbrev mean : Outcome Declaration (List ℕ) → Meaning
      mean = meaning_there p.input p.content n f

      gives_sign : (g : Sign) (o : Option Meaning) → ((k : Meaning) → o ≡ Some k → k ≡ meanings.Method (sign_gives es g)) → IsMethodMeant looks.types (looks.results g) (meaning_or_other o)
      gives_sign g None h = tt
      gives_sign g (Some k) h = subst (λ m. IsMethodMeant looks.types (looks.results g) m) (sym (h k refl)) (sign_read es (path_in p.input) g)

      -- a method of an entry
      entry_meant : (e : Entry) → Among es e → (m : Member) → Among e.methods m → (place : MemberPlace) → m.place ≡ place → IsMethodMeant looks.types (looks.results m.sign) (method_meaning (code_scene_over (told_to p.input p.content) p.input p.content) (InFile e.key.path place))
      entry_meant e in_e m of_e (places.Declared d) at = gives_sign m.sign (spotted_meaning (methods_spotted es es) (decl_spot e.key.path d)) (λ k found. method_gives e in_e m of_e d at k found)
      entry_meant e in_e m of_e (places.Local l) at = tt

      own_meant : (u : Term) (m : Member) → Among (declared_methods (find_entry es) u) m → IsMethodMeant looks.types (looks.results m.sign) (mean (outcomes.Selected (InFile (path_of_term u) m.place) []))
      own_meant u m a =
          let d = type_methods es u m a in
          subst (λ home. IsMethodMeant looks.types (looks.results m.sign) (method_meaning (code_scene_over (told_to p.input p.content) p.input p.content) (InFile home m.place))) d.home (entry_meant d.entry d.there m d.here m.place refl)

      abbrev Selects : Result Choice Rule → Type 0
      Selects r = IsSelectionMeant looks mean (selection_of declaration_found (λ (path : List ℕ). path) (find_entry es) r)

      abbrev Chooses : List ℕ → Bool → Found → Type 0
      Chooses path passes member = IsSelectionMeant looks mean (member_selection declaration_found (λ (q : List ℕ). q) (find_entry es) path passes member)

      selects : (u : Term) (b : Basic) → underlying_in (find_entry es) u ≡ Predeclared b → (name : List ℕ) (r : Result Choice Rule) → selected_of es u name (path_in p.input) ≡ r → Selects r
      selects u b under name (Err rule) e = tt
      selects u b under name (Ok c) e =
          let o = own_method es u b under name (path_in p.input) c e in
          let direct : Chooses [] c.passes (AMethodOf (path_of_term u) o.member.place o.member.pointer o.member.sign) = own_meant u o.member o.there in
          subst (λ (k : Found). Chooses c.path c.passes k) (sym o.is) (subst (λ (q : List ℕ). Chooses q c.passes (AMethodOf (path_of_term u) o.member.place o.member.pointer o.member.sign)) (sym o.own) direct)

      pub selected : (v : ValueType Term) (w : Word) → basic_under looks.types v ≡ Some (basic_of w) → (u : Term) → default_type looks.types v ≡ Some u → (name : List ℕ) → IsSelectionMeant looks mean (looks.select u name)
      selected v w over u of name = (let b = operand_under es (path_in p.input) v w over u of in selects u b.0 b.1 name (selected_of es u name (path_in p.input)) refl)

-- a method of a type over a word is declared

module _ (i : InputModel) (c : ContentOf) where
  abbrev types : List Entry
  types = known_types i c

  chosen : (u : Term) (b : Basic) → underlying_in (find_entry types) u ≡ Predeclared b → (receiver : Word) → IsOver (term_rules types (path_in i)) receiver (Some u) → (name : List ℕ) (r : Result Choice Rule) → selected_of types u name (path_in i) ≡ r → (d : Declaration) (path : List ℕ) (s : Sign) (needs_pointer by_pointer : Bool)
      → selection_of declaration_found (λ (q : List ℕ). q) (find_entry types) r ≡ selections.Method d path s needs_pointer by_pointer → IsMethodDeclared i c d path s receiver
  chosen u b under receiver over name (Err rule) e d path s needs_pointer by_pointer is = absurd (cc is)
  chosen u b under receiver over name (Ok k) e d path s needs_pointer by_pointer is =
      let o = own_method types u b under name (path_in i) k e in
      let m = type_methods types u o.member o.there in
      let own = subst (λ (f : Found). member_selection declaration_found (λ (q : List ℕ). q) (find_entry types) k.path k.passes f ≡ selections.Method d path s needs_pointer by_pointer) o.is is in
      let decl : InFile (path_of_term u) o.member.place ≡ d = cc own in
      let through : k.path ≡ path = cc own in
      let sign : o.member.sign ≡ s = cc own in
      record {
        entry = m.entry;
        known = m.known;
        over = subst (λ (v : Term). IsOver (term_rules types (path_in i)) receiver (Some v)) m.is over;
        member = o.member;
        there = among_to m.entry.methods o.member m.here;
        alone = sym through ∙ o.own;
        declared = sym decl ∙ ap (λ home. InFile home o.member.place) (sym m.home);
        sign = sym sign;
      }

pub methods_declared : MethodsAreDeclared
methods_declared i c n t all d path s receiver h =
    let under = operand_under (known_types i c) (path_in i) (value_types.Typed h.0) receiver h.2 h.0 refl in
    chosen i c h.0 under.0 under.1 receiver h.2 h.1 (selected_of (known_types i c) h.0 h.1 (path_in i)) refl d path s h.3 h.4 h.5

-- the laws

pub methods_give : PartsAreFit → CheckIsLocal → ImportsBindTheirs → MethodsGiveTheirs
methods_give fit local bind ws parts well made p h n f d path s receiver x given is = declared_gives fit ws parts well made local bind p (among_from (somes parts) p h) n f d path s receiver x given is

pub names_read : AreGiven → PartsAreFit → CheckIsLocal → NamesAreRead
names_read laws fit local ws parts well made p h n t f g all func = record {
  all = read laws p.input p.content n t f g all func;
  selected = selected fit ws parts well made local laws.binds p (among_from (somes parts) p h) n t f all;
}
