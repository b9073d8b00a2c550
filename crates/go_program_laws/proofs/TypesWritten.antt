-- A name of a type that denotes a declaration denotes the type that it is where it is written.
use Rattle.std.proofs.Common.{◌≡◌, ℕ, Bool, true, false, List, [], Option, Some, None, is_some, refl, sym, ap, ◌∙◌, subst, if◌then◌else◌}
use Rattle.go_constant_core.specs.text_core.Text.{is_blank}
use Rattle.go_constant_core.specs.text_core.declared.rule.Rule.TheVariants.{N8, S8}
use Rattle.go_constant_core.specs.text_core.declared.span.Span.{Span}
use Rattle.go_constant_core.specs.text_core.Each.{Each}
use Rattle.go_universe_core.specs.declared.Predeclared.{Predeclared}
use Rattle.go_universe_core.specs.declared.Predeclared.TheVariants as universe
use Rattle.go_universe_core.specs.Universe.{found}
use Rattle.go_term_core.specs.decl_core.declared.keys.DeclKey.{DeclKey}
use Rattle.go_term_core.specs.decl_core.declared.keys.DeclRef.{DeclRef}
use Rattle.go_tree_nodes.specs.declared.names.Ident.{Ident}
use Rattle.go_tree_nodes.specs.declared.types.TypeName.{TypeName}
use Rattle.go_tree_nodes.specs.declared.types.TypeName.TheVariants as type_names
use Rattle.go_tree_nodes.specs.declared.usage.Usage.TheVariants as usages
use Rattle.go_tree_nodes.specs.Trees.{FileTree}
use Rattle.go_names_core.specs.block_core.Blocks.{file_binding, file_has}
use Rattle.go_names_core.specs.block_core.Tables.{in_block}
use Rattle.go_names_core.specs.block_core.declared.binding.Binding.{Binding}
use Rattle.go_names_core.specs.block_core.declared.binding.Target.{Target}
use Rattle.go_names_core.specs.block_core.declared.binding.Target.TheVariants as targets
use Rattle.go_names_core.specs.scope_core.Models.{scopes_model}
use Rattle.go_names_core.specs.scope_core.Lookups.{by_parts, in_scope}
use Rattle.go_names_core.specs.Scope.{some_meaning}
use Rattle.go_names_core.specs.declared.meaning.Outside.{Outside}
use Rattle.go_names_core.specs.declared.meaning.Outside.TheVariants as outsides
use Rattle.go_names_core.specs.local_core.Binding.{Local, NameLook, bound}
use Rattle.go_term_core.specs.declared.term.MemberPlace.TheVariants as places
use Rattle.go_term_core.specs.Terms.{Term, NoType, ErrorType, InterfaceOf, NoMethod, Sign}
use Rattle.go_body_core.specs.table_core.Entries.{Entry}
use Rattle.go_body_core.specs.typexpr_core.EntryMeanings.{outside_meaning, plain_meaning, qualified_meaning, shown_type, through, type_in_binding, type_in_target, type_of_predeclared, type_of_target, type_of_universe}
use Rattle.go_body_core.specs.typexpr_core.EntryShowing.{shown_in}
use Rattle.go_report_core.specs.denote_core.declared.things.Answer.{Answer}
use Rattle.go_report_core.specs.denote_core.declared.things.Denoted.{Denoted}
use Rattle.go_report_core.specs.denote_core.declared.things.Denoted.TheVariants as denotes
use Rattle.go_report_core.specs.denote_core.declared.things.Exported.TheVariants as exporteds
use Rattle.go_report_core.specs.denote_core.declared.things.Found.TheVariants as founds
use Rattle.go_report_core.specs.denote_core.declared.things.Outcome.{Outcome}
use Rattle.go_report_core.specs.denote_core.declared.things.Outcome.TheVariants as outcomes
use Rattle.go_report_core.specs.denote_core.declared.things.Stand.TheVariants as stands
use Rattle.go_report_core.specs.denote_core.Answers.{found_answer, refused}
use Rattle.go_report_core.specs.denote_core.Selectors.{dot_of, exported_answer, selector_answer}
use Rattle.go_report_core.specs.expr_core.Denoting.{ident_answer, type_name_answer}
use Rattle.go_report_core.specs.expr_core.Looks.{look_of_place}
use Rattle.go_meaning_laws.specs.handle_core.Declarations.{Declaration, Package, InFile}
use Rattle.go_emit_core.specs.declared_core.declared.face.Face.TheVariants as faces
use Rattle.go_emit_core.specs.declared_core.declared.shown.ShownFace.{ShownFace}
use Rattle.go_emit_core.specs.declared_core.declared.shown.ShownFace.TheVariants as shown_faces
use Rattle.go_emit_core.specs.declared_core.Faces.{TheFace}
use Rattle.go_emit_core.specs.declared_core.Packages.{exported_in, face_in}
use Rattle.go_body_core.specs.env_core.declared.meaning.Meaning.{Meaning as NameMeaning}
use Rattle.go_body_core.specs.env_core.declared.meaning.Meaning.TheVariants as means
use Rattle.go_body_core.specs.env_core.Found.{TheExported, TheFound, exported_shown, found_binding, found_face, found_of, found_outside, found_target, found_universe, own_face}
use Rattle.go_body_core.specs.env_core.Looks.{TheLooks}
use Rattle.go_body_core.specs.function.Stands.{FileStand, outer_meanings}
use Rattle.go_body_core.specs.function.Types.{is_local_meaning, named_where}
use Rattle.go_emit_core.specs.package_core.PreparePackages.{shows_in}
use Rattle.go_report_core.specs.summary_core.Views.{exports_told, faces_told}
use Rattle.go_emit_core.specs.package_core.PackagePartInputs.{InputModel, path_in}
use Rattle.go_emit_core.specs.package_core.PackagePartParts.{ContentOf}
use Rattle.go_code_core.specs.declared.fragments.names.Meaning.{Meaning}
use Rattle.go_workspace_laws.specs.folding.Laws.{HasDeclaration}
use Rattle.go_workspace_laws.specs.folding.Reading.{AreNamesRead, IsExportedMeant, IsFoundMeant, IsTypeMeant}
use Rattle.go_workspace_laws.specs.Standing.{looks_among, stand_in_part}
use Rattle.go_program_laws.specs.types.Functions.{known_types}
use Rattle.go_program_laws.specs.types.Written.{ShowTheirTypes, meant_in, seen_in, typed_in}
use Rattle.go_program_laws.proofs.TypesOuter.{MeansLocal, outside_of}

-- what is found to be a type

found_type : (d e : Declaration) (o : Option TheFace) (t : Option Term) → found_face d o ≡ founds.«Type» e t → o ≡ Some (faces.«Type» t)
found_type d e None t is = absurd (cc is)
found_type d e (Some (faces.«Type» u)) t is = (let same : u ≡ t = cc is in ap (λ v. Some (faces.«Type» v)) same)
found_type d e (Some (faces.Func s)) t is = absurd (cc is)
found_type d e (Some (faces.«Value» o)) t is = absurd (cc is)

found_no_package : (d e : Declaration) (o : Option TheFace) → found_face d o ≡ founds.«Package» e → ⊥
found_no_package d e None is = cc is
found_no_package d e (Some (faces.«Type» u)) is = cc is
found_no_package d e (Some (faces.Func s)) is = cc is
found_no_package d e (Some (faces.«Value» o)) is = cc is

shown_face : (path : List ℕ) (s : ShownFace) (e : Declaration) (t : Option Term) → exported_shown path s ≡ exporteds.«Type» e t → (d : DeclRef) × (s ≡ shown_faces.Shown d (Some (faces.«Type» t)))
shown_face path shown_faces.Absent e t is = absurd (cc is)
shown_face path shown_faces.Hidden e t is = absurd (cc is)
shown_face path (shown_faces.Shown d None) e t is = absurd (cc is)
shown_face path (shown_faces.Shown d (Some (faces.«Type» u))) e t is = (let same : u ≡ t = cc is in (d, ap (λ v. shown_faces.Shown d (Some (faces.«Type» v))) same))
shown_face path (shown_faces.Shown d (Some (faces.Func s))) e t is = absurd (cc is)
shown_face path (shown_faces.Shown d (Some (faces.«Value» o))) e t is = absurd (cc is)

universe_type : (es : List Entry) (mean : DeclKey → Term) (path : List ℕ) (p : Predeclared) (e : Declaration) (t : Option Term) → found_universe path p ≡ founds.«Type» e t → typed_in es (through mean (type_of_predeclared path p)) ≡ t
universe_type es mean path universe.Any e t is = (let same : Some (InterfaceOf path NoMethod) ≡ t = cc is in same)
universe_type es mean path universe.Bool e t is = (let same : Some (type_of_predeclared path universe.Bool) ≡ t = cc is in same)
universe_type es mean path universe.Error e t is = (let same : Some ErrorType ≡ t = cc is in same)
universe_type es mean path universe.Int e t is = (let same : Some (type_of_predeclared path universe.Int) ≡ t = cc is in same)
universe_type es mean path universe.String e t is = (let same : Some (type_of_predeclared path universe.String) ≡ t = cc is in same)
universe_type es mean path universe.True e t is = absurd (cc is)
universe_type es mean path universe.False e t is = absurd (cc is)
universe_type es mean path universe.Nil e t is = absurd (cc is)
universe_type es mean path _ e t is = absurd (cc is)

universe_no_package : (path : List ℕ) (p : Predeclared) (e : Declaration) → found_universe path p ≡ founds.«Package» e → ⊥
universe_no_package path universe.Any e is = cc is
universe_no_package path universe.Bool e is = cc is
universe_no_package path universe.Error e is = cc is
universe_no_package path universe.Int e is = cc is
universe_no_package path universe.String e is = cc is
universe_no_package path universe.True e is = cc is
universe_no_package path universe.False e is = cc is
universe_no_package path _ e is = cc is

-- a package

module _ (i : InputModel) (c : ContentOf) (shows : ShowTheirTypes i c) (n : ℕ) (t : FileTree) where
  abbrev es : List Entry
  es = known_types i c

  abbrev own : List ℕ
  own = path_in i

  abbrev st : FileStand
  st = stand_in_part i c n t

  -- what declarations of types mean
  abbrev target : DeclKey → Term
  target = (shows_in (seen_in i c)).target

  target_type : (name : List ℕ) (b : Binding) → file_binding c.blocks n name ≡ Some b → (x : Target) → b.target ≡ x → (e : Declaration) (u : Option Term) → found_target st.scene x ≡ founds.«Type» e u → meant_in i c (type_of_target x) ≡ u
  target_type name b here (targets.«Package» path) there e u is = absurd (cc is)
  target_type name b here (targets.Refused rule) there e u is = absurd (cc is)
  target_type name b here (targets.Exported k) there e u is = shows.named n name b k u here there (found_type (InFile k.path (places.Declared k.decl)) e (face_in (faces_told i.reached) k.path k.decl) u is)

  no_binding : (name : List ℕ) (d : DeclRef) → in_block c.blocks.names name ≡ Some d → file_binding c.blocks n name ≡ None
  no_binding name d h = ap (λ o. if is_some o then None else file_has c.blocks n name) h

  abbrev At : Option DeclRef → Option Binding → Option Predeclared → Option NameMeaning
  At p b u = some_meaning means.Outside [] (by_parts None b p u)

  outside_same : (x o : Outside) → Some (means.Outside x) ≡ Some (means.Outside o) → x ≡ o
  outside_same x o e = cc e

  none_outside : {A : Type 0} (o : Outside) → None ≡ Some (means.Outside o) → A
  none_outside o e = absurd (cc e)

  by_universe : (name : List ℕ) (u : Option Predeclared) (o : Outside) → At None None u ≡ Some (means.Outside o) → (e : Declaration) (v : Option Term) → found_outside st.scene n c.declared name o ≡ founds.«Type» e v → meant_in i c (type_of_universe own u) ≡ v
  by_universe name None o is e v found = none_outside o is
  by_universe name (Some p) o is e v found =
      let same = outside_same (outsides.Universe p) o is in
      universe_type es target own p e v (subst (λ x. found_outside st.scene n c.declared name x ≡ founds.«Type» e v) (sym same) found)

  -- a name alone
  plain_at : (name : List ℕ) (p : Option DeclRef) (b : Option Binding) → in_block c.blocks.names name ≡ p → file_binding c.blocks n name ≡ b → (o : Outside) → At p b (found name) ≡ Some (means.Outside o)
      → (e : Declaration) (v : Option Term) → found_outside st.scene n c.declared name o ≡ founds.«Type» e v → meant_in i c (plain_meaning own c.blocks n name p) ≡ v
  plain_at name (Some d) None h k o is e v found =
      let same = outside_same (outsides.«Package» d) o is in
      shows.own name d v h (found_type (InFile own (places.Declared d)) e (own_face st.scene c.declared d) v (subst (λ x. found_outside st.scene n c.declared name x ≡ founds.«Type» e v) (sym same) found))
  plain_at name (Some d) (Some x) h k o is e v found = (let no : None ≡ Some x = sym (no_binding name d h) ∙ k in absurd (cc no))
  plain_at name None (Some x) h k o is e v found =
      let same = outside_same (outsides.File x.at) o is in
      let here : found_binding st.scene (file_binding c.blocks n name) ≡ founds.«Type» e v = subst (λ y. found_outside st.scene n c.declared name y ≡ founds.«Type» e v) (sym same) found in
      ap (λ y. meant_in i c (outside_meaning own name y)) k ∙ target_type name x k x.target refl e v (subst (λ y. found_binding st.scene y ≡ founds.«Type» e v) k here)
  plain_at name None None h k o is e v found_is = ap (λ y. meant_in i c (outside_meaning own name y)) k ∙ by_universe name (found name) o is e v found_is

  -- what stands before a dot is a package that an import binds
  target_package : (x : Target) (e : Declaration) → found_target st.scene x ≡ founds.«Package» e → (path : List ℕ) × (x ≡ targets.«Package» path) × (e ≡ Package path)
  target_package (targets.«Package» path) e is = (let same : Package path ≡ e = cc is in (path, refl, sym same))
  target_package (targets.Refused rule) e is = absurd (cc is)
  target_package (targets.Exported k) e is = absurd (found_no_package (InFile k.path (places.Declared k.decl)) e (face_in (faces_told i.reached) k.path k.decl) is)

  universe_none : (name : List ℕ) (u : Option Predeclared) (o : Outside) → At None None u ≡ Some (means.Outside o) → (e : Declaration) → found_outside st.scene n c.declared name o ≡ founds.«Package» e → ⊥
  universe_none name None o is e found = none_outside o is
  universe_none name (Some p) o is e found = universe_no_package own p e (subst (λ x. found_outside st.scene n c.declared name x ≡ founds.«Package» e) (sym (outside_same (outsides.Universe p) o is)) found)

  -- the type of a name behind it
  behind_at : (qualifier name : List ℕ) (p : Option DeclRef) (b : Option Binding) → in_block c.blocks.names qualifier ≡ p → file_binding c.blocks n qualifier ≡ b → (o : Outside) → At p b (found qualifier) ≡ Some (means.Outside o)
      → (e : Declaration) → found_outside st.scene n c.declared qualifier o ≡ founds.«Package» e
      → (path : List ℕ) × (e ≡ Package path) × (qualified_meaning (shown_in (exports_told i.reached)) c.blocks n qualifier name p ≡ shown_type path (shown_in (exports_told i.reached) path name))
  behind_at qualifier name (Some d) None h k o is e found =
      absurd (found_no_package (InFile own (places.Declared d)) e (own_face st.scene c.declared d) (subst (λ x. found_outside st.scene n c.declared qualifier x ≡ founds.«Package» e) (sym (outside_same (outsides.«Package» d) o is)) found))
  behind_at qualifier name (Some d) (Some x) h k o is e found = (let no : None ≡ Some x = sym (no_binding qualifier d h) ∙ k in absurd (cc no))
  behind_at qualifier name None (Some x) h k o is e found =
      let here : found_binding st.scene (file_binding c.blocks n qualifier) ≡ founds.«Package» e = subst (λ y. found_outside st.scene n c.declared qualifier y ≡ founds.«Package» e) (sym (outside_same (outsides.File x.at) o is)) found in
      let r = target_package x.target e (subst (λ y. found_binding st.scene y ≡ founds.«Package» e) k here) in
      (r.0, r.2, ap (type_in_binding (shown_in (exports_told i.reached)) name) k ∙ ap (type_in_target (shown_in (exports_told i.reached)) name) r.1)
  behind_at qualifier name None None h k o is e found_is = absurd (universe_none qualifier (found qualifier) o is e found_is)

  module _ (all : List (Local NameMeaning)) (locals : Each MeansLocal all) (mean : Outcome Declaration (List ℕ) → Meaning) (read : AreNamesRead Term Sign Declaration (List ℕ) (looks_among st all) mean) where
    abbrev look : NameLook NameMeaning
    look = bound (outer_meanings st) all

    abbrev looks : TheLooks
    looks = looks_among st all

    at_top : (name : List ℕ) (place : ℕ) (o : Outside) → look name place ≡ Some (means.Outside o) → At (in_block c.blocks.names name) (file_binding c.blocks n name) (found name) ≡ Some (means.Outside o)
    at_top name place o e = sym (ap (some_meaning means.Outside []) (in_scope (scopes_model c.blocks n []) name)) ∙ outside_of (outer_meanings st) all locals name place o e

    found_plain : (x : Ident) (m : Option NameMeaning) → look x.name x.span.start ≡ m → (e : Declaration) (v : Option Term) → found_of st.scene n c.declared x.name m ≡ founds.«Type» e v
        → typed_in es (if is_local_meaning m then NoType else st.top (type_names.Plain x)) ≡ v
    found_plain x None is e v found_is = absurd (cc found_is)
    found_plain x (Some (means.Local at value)) is e v found_is = absurd (cc found_is)
    found_plain x (Some (means.Outside o)) is e v found_is =
        plain_at x.name (in_block c.blocks.names x.name) (file_binding c.blocks n x.name) refl refl o (at_top x.name x.span.start o is) e v found_is

    found_behind : (q : Ident) (dot : Span) (x : Ident) (m : Option NameMeaning) → look q.name q.span.start ≡ m → (e : Declaration) → found_of st.scene n c.declared q.name m ≡ founds.«Package» e
        → (path : List ℕ) × (e ≡ Package path) × ((if is_local_meaning m then NoType else st.top (type_names.Qualified q dot x)) ≡ through target (shown_type path (shown_in (exports_told i.reached) path x.name)))
    found_behind q dot x None is e found_is = absurd (cc found_is)
    found_behind q dot x (Some (means.Local at value)) is e found_is = absurd (cc found_is)
    found_behind q dot x (Some (means.Outside o)) is e found_is =
        let r = behind_at q.name x.name (in_block c.blocks.names q.name) (file_binding c.blocks n q.name) refl refl o (at_top q.name q.span.start o is) e found_is in
        (r.0, r.1, ap (through target) r.2)

    -- the answer is a type, the one that the name is where it is written, and over what code takes it for
    pub record IsTypeAnswer (a : Answer Term Sign Declaration (List ℕ)) (u : Term) : Type 0 where
      pub decl : Declaration
      pub type_of : Option Term
      pub outcome_is : a.outcome ≡ outcomes.Declared decl
      pub denotes_is : a.denoted ≡ denotes.«Type» decl type_of
      pub same : typed_in es u ≡ type_of
      pub meant : IsTypeMeant looks.types type_of (mean (outcomes.Declared decl))

    plain_answer : (x : Ident) (b : Bool) (f : TheFound) → looks.find x.name x.span.start ≡ f → HasDeclaration (if b then refused {T = Term} {S = Sign} {D = Declaration} {P = List ℕ} N8 else found_answer {P = List ℕ} stands.«Type» f).outcome
        → IsTypeAnswer (if b then refused {T = Term} {S = Sign} {D = Declaration} {P = List ℕ} N8 else found_answer {P = List ℕ} stands.«Type» f) (named_where look st.top (type_names.Plain x))
    plain_answer x true f is there = absurd there
    plain_answer x false (founds.«Type» d v) is there = record {
      decl = d;
      type_of = v;
      outcome_is = refl;
      denotes_is = refl;
      same = found_plain x (look x.name x.span.start) refl d v is;
      meant = subst (λ f. IsFoundMeant looks mean f) is (read.names x.name x.span.start);
    }
    plain_answer x false founds.Missing is there = absurd there
    plain_answer x false founds.BadImport is there = absurd there
    plain_answer x false founds.Outside is there = absurd there
    plain_answer x false (founds.«Package» d) is there = absurd there
    plain_answer x false (founds.Func d s) is there = absurd there
    plain_answer x false (founds.Builtin d b) is there = absurd there
    plain_answer x false (founds.«Value» d o) is there = absurd there

    -- before a dot
    package_answer : (b : Bool) (f : TheFound) → HasDeclaration (if b then refused {T = Term} {S = Sign} {D = Declaration} {P = List ℕ} N8 else found_answer {P = List ℕ} stands.TypeDot f).outcome
        → (d : Declaration) × (f ≡ founds.«Package» d) × ((if b then refused {T = Term} {S = Sign} {D = Declaration} {P = List ℕ} N8 else found_answer {P = List ℕ} stands.TypeDot f).denoted ≡ denotes.«Package» d)
    package_answer true f there = absurd there
    package_answer false (founds.«Package» d) there = (d, refl, refl)
    package_answer false (founds.«Type» d v) there = absurd there
    package_answer false founds.Missing there = absurd there
    package_answer false founds.BadImport there = absurd there
    package_answer false founds.Outside there = absurd there
    package_answer false (founds.Func d s) there = absurd there
    package_answer false (founds.Builtin d b) there = absurd there
    package_answer false (founds.«Value» d o) there = absurd there

    shown_answer : (path : List ℕ) (q : Ident) (dot : Span) (x : Ident) → named_where look st.top (type_names.Qualified q dot x) ≡ through target (shown_type path (shown_in (exports_told i.reached) path x.name))
        → (b : Bool) (f : TheExported) → looks.exported (Package path) x.name ≡ f
        → HasDeclaration (if b then refused {T = Term} {S = Sign} {D = Declaration} {P = List ℕ} S8 else exported_answer {P = List ℕ} usages.«Type» f).outcome
        → IsTypeAnswer (if b then refused {T = Term} {S = Sign} {D = Declaration} {P = List ℕ} S8 else exported_answer {P = List ℕ} usages.«Type» f) (named_where look st.top (type_names.Qualified q dot x))
    shown_answer path q dot x here true f is there = absurd there
    shown_answer path q dot x here false (exporteds.«Type» d v) is there = record {
      decl = d;
      type_of = v;
      outcome_is = refl;
      denotes_is = refl;
      same = (let r = shown_face path (exported_in (faces_told i.reached) path x.name) d v is in ap (typed_in es) here ∙ shows.shown path x.name r.0 v r.1);
      meant = subst (λ f. IsExportedMeant looks mean f) is (read.exported (Package path) x.name);
    }
    shown_answer path q dot x here false exporteds.Absent is there = absurd there
    shown_answer path q dot x here false exporteds.Hidden is there = absurd there
    shown_answer path q dot x here false (exporteds.Func d s) is there = absurd there
    shown_answer path q dot x here false (exporteds.«Value» d o) is there = absurd there

    behind_answer : (q : Ident) (dot : Span) (x : Ident) (d : Declaration) (a : Denoted Term Sign Declaration) → a ≡ denotes.«Package» d → looks.find q.name q.span.start ≡ founds.«Package» d
        → HasDeclaration (selector_answer (look_of_place looks x.span.start) usages.«Type» (dot_of true a) x.name).outcome
        → IsTypeAnswer (selector_answer (look_of_place looks x.span.start) usages.«Type» (dot_of true a) x.name) (named_where look st.top (type_names.Qualified q dot x))
    behind_answer q dot x d a is found_is there =
        let r = found_behind q dot x (look q.name q.span.start) refl d found_is in
        let packaged : a ≡ denotes.«Package» (Package r.0) = is ∙ ap (λ e. denotes.«Package» e) r.1 in
        subst (λ v. IsTypeAnswer (selector_answer (look_of_place looks x.span.start) usages.«Type» (dot_of true v) x.name) (named_where look st.top (type_names.Qualified q dot x))) (sym packaged)
        (shown_answer r.0 q dot x r.2 (is_blank x.name) (looks.exported (Package r.0) x.name) refl
        (subst (λ v. HasDeclaration (selector_answer (look_of_place looks x.span.start) usages.«Type» (dot_of true v) x.name).outcome) packaged there))

    -- the name of a type, each of whose identifiers has a declaration
    abbrev pub AreNamed : TypeName → Type 0
    AreNamed (type_names.Plain x) = HasDeclaration (ident_answer looks stands.«Type» x).outcome
    AreNamed (type_names.Qualified q dot x) = HasDeclaration (ident_answer looks stands.TypeDot q).outcome × HasDeclaration (type_name_answer looks (type_names.Qualified q dot x)).outcome

    pub named_answer : (m : TypeName) → AreNamed m → IsTypeAnswer (type_name_answer looks m) (named_where look st.top m)
    named_answer (type_names.Plain x) there = plain_answer x (is_blank x.name) (looks.find x.name x.span.start) refl there
    named_answer (type_names.Qualified q dot x) there =
        let p = package_answer (is_blank q.name) (looks.find q.name q.span.start) there.0 in
        behind_answer q dot x p.0 (ident_answer looks stands.TypeDot q).denoted p.2 p.1 there.1
