-- Which names have a declaration in a context does not depend on how an identifier is spelled elsewhere.
use Rattle.std.proofs.Common.{◌≡◌, ℕ, Bool, true, false, not, ◌&&◌, List, [], ◌∷◌, Option, Some, None, refl, sym, ap, ◌∙◌, if◌then◌else◌}
use Rattle.std.proofs.lemmas.List.Elements.{All-nil}
use Rattle.go_site_core.specs.text_core.Text.{is_blank}
use Rattle.go_site_core.specs.text_core.declared.rule.Rule.TheVariants.{F1, F5, F8, N8, S8}
use Rattle.go_tree_nodes.specs.declared.names.Ident.{Ident}
use Rattle.go_tree_nodes.specs.declared.usage.Usage.{Usage}
use Rattle.go_tree_nodes.specs.Trees.{FileTree}
use Rattle.go_term_core.specs.decl_core.declared.keys.DeclRef.{DeclRef}
use Rattle.go_names_core.specs.block_core.Tables.{in_block}
use Rattle.go_cursor_core.specs.scope_stack.Blocks.{found_in}
use Rattle.go_typexpr_core.specs.entry.Outlines.{FileOutline}
use Rattle.go_names_core.specs.scope_core.Models.{scopes_model}
use Rattle.go_names_core.specs.scope_core.Scopes.{scope_blocks}
use Rattle.go_value_core.specs.table_core.Entries.{Entry, find_entry, has_method}
use Rattle.go_term_core.specs.Terms.{Term, NoType, Predeclared, ErrorType, Defined, PointerTo, StructOf, InterfaceOf, Fields, NoField, AField, Sign}
use Rattle.go_names_core.specs.local_core.Binding.{NameLook}
use Rattle.go_cursor_core.specs.operand_core.Values.{default_type}
use Rattle.go_cursor_core.specs.denote_core.declared.things.Stand.{Stand}
use Rattle.go_cursor_core.specs.denote_core.declared.things.Stand.TheVariants as stands
use Rattle.go_cursor_core.specs.denote_core.declared.things.Found.{Found}
use Rattle.go_cursor_core.specs.denote_core.declared.things.Found.TheVariants as founds
use Rattle.go_cursor_core.specs.denote_core.declared.things.Dot.{Dot}
use Rattle.go_cursor_core.specs.denote_core.declared.things.Dot.TheVariants as dots
use Rattle.go_cursor_core.specs.denote_core.Answers.{refused, found_answer}
use Rattle.go_cursor_core.specs.denote_core.Selectors.{dot_of, value_selector}
use Rattle.go_stmt_core.specs.expr_core.Looks.{look_of_place, literals_at}
use Rattle.go_stmt_core.specs.expr_core.Denoting.{ident_answer}
use Rattle.go_stmt_core.specs.expr_core.Uses.{Context, NameAt, SelectorBehind, KeyAmong, rule}
use Rattle.go_cursor_core.specs.denote_core.CompositeFields.{named_field}
use Rattle.go_cursor_core.specs.denote_core.CompositeKeys.{KeyContext, refused_key, found_key, named_key, key_answer}
use Rattle.go_cursor_core.specs.denote_core.CompositeLiterals.{is_struct}
use Rattle.go_cursor_core.specs.denote_core.CompositeRepeats.{has_name}
use Rattle.go_cursor_core.specs.denote_core.declared.composite.things.NamedField.{NamedField}
use Rattle.go_cursor_core.specs.denote_core.declared.composite.things.NamedField.TheVariants as nameds
use Rattle.go_query_core.specs.candidate_core.ContextAlone.{thing_of_decl, fits_some}
use Rattle.go_query_core.specs.candidate_core.ContextDeciding.{things_decide}
use Rattle.go_query_core.specs.candidate_core.ContextLaws.{is_declared}
use Rattle.go_query_core.specs.candidate_core.FittingFitting.{thing_of_face}
use Rattle.go_site_core.specs.handle_core.Declarations.{Declaration, Universe, OfError, Package, InFile}
use Rattle.go_query_core.specs.declared_core.Faces.{TheFace}
use Rattle.go_value_core.specs.env_core.Fields.{field_seen, fields_seen, term_seen}
use Rattle.go_select_core.specs.embed_core.Owners.{OwnerModel, owner_in}
use Rattle.go_value_core.specs.env_core.Found.{own_face}
use Rattle.go_value_core.specs.env_core.declared.meaning.Meaning.{Meaning}
use Rattle.go_query_core.specs.body_core.FunctionStands.{FileStand, looks_where, outer_look}
use Rattle.go_query_core.specs.package_core.PreparePackages.{PackageIn, scene_in, stand_in}
use Rattle.go_query_core.specs.complete_core.SpellingFiles.{with_trees}
use Rattle.go_query_core.specs.complete_core.Standing.{Sight, sight_found, sight_at, name_sight}

-- each declaration of the package block is of its kind, where this is known of the package
abbrev pub AreOfTheirKinds : PackageIn → List Entry → List (Option TheFace) → Type 0
AreOfTheirKinds p types known = (name : List ℕ) (d : DeclRef) → in_block p.blocks.names name ≡ Some d → Some (thing_of_face (own_face (scene_in p types) known d)) ≡ thing_of_decl d.kind

-- what a name stands for at the top of a file
top_sight : (p : PackageIn) (types : List Entry) (known : List (Option TheFace)) (n : ℕ) (o : FileOutline) → AreOfTheirKinds p types known → (m : List ℕ) → is_blank m ≡ false → (place : ℕ)
    → sight_found ((looks_where (stand_in p types known n o) (outer_look (stand_in p types known n o))).find m place) ≡ sight_at (scene_in p types) (found_in (scope_blocks (scopes_model p.blocks n ([] ∷ []))) m)
top_sight p types known n o own m plain place = name_sight (scene_in p types) n known own [] [] [] refl refl (All-nil _) m plain place

module _ (p : PackageIn) (ts : List FileTree) (n : ℕ) (o o' : FileOutline) where
  -- names alone, at the top of a file

  module _ (types types' : List Entry) (known known' : List (Option TheFace)) (own : AreOfTheirKinds p types known) (own' : AreOfTheirKinds (with_trees p ts) types' known') where
    abbrev st : FileStand
    st = stand_in p types known n o

    abbrev other : FileStand
    other = stand_in (with_trees p ts) types' known' n o'

    abbrev found_fits : FileStand → Stand → ℕ → List ℕ → Bool
    found_fits w s k m = fits_some s (sight_found ((looks_where w (outer_look w)).find m k)).0

    pub alone_stays : (s : Stand) (k : ℕ) (m : List ℕ) → is_declared (rule (looks_where other (outer_look other)) (NameAt s) k m) ≡ is_declared (rule (looks_where st (outer_look st)) (NameAt s) k m)
    alone_stays s k m =
        things_decide Term Sign Declaration (List ℕ) (look_of_place (looks_where other (outer_look other)) k) s m
        ∙ (by (is_blank m) refl ∙ sym (things_decide Term Sign Declaration (List ℕ) (look_of_place (looks_where st (outer_look st)) k) s m))
      where
        by : (b : Bool) → is_blank m ≡ b → (not (is_blank m) && found_fits other s k m) ≡ (not (is_blank m) && found_fits st s k m)
        by true e = ap (λ b. not b && found_fits other s k m) e ∙ sym (ap (λ b. not b && found_fits st s k m) e)
        by false e =
            ap (λ (t : Sight). not (is_blank m) && fits_some s t.0) (top_sight (with_trees p ts) types' known' n o' own' m e k)
            ∙ sym (ap (λ (t : Sight). not (is_blank m) && fits_some s t.0) (top_sight p types known n o own m e k))

  -- behind a package and behind what is refused, whatever the types are

  module _ (types types' : List Entry) (known known' : List (Option TheFace)) (l l' : NameLook Meaning) where
    abbrev was : FileStand
    was = stand_in p types known n o

    abbrev is : FileStand
    is = stand_in (with_trees p ts) types' known' n o'

    abbrev Stays : Context Term Declaration → ℕ → List ℕ → Type 0
    Stays c k m = rule (looks_where is l') c k m ≡ rule (looks_where was l) c k m

    pub package_stays : (u : Usage) (d : Declaration) (k : ℕ) (m : List ℕ) → Stays (SelectorBehind u (dots.«Package» d)) k m
    package_stays u (Universe q) k m = refl
    package_stays u OfError k m = refl
    package_stays u (Package path) k m = refl
    package_stays u (InFile path place) k m = refl

    pub refused_stays : (u : Usage) (k : ℕ) (m : List ℕ) → Stays (SelectorBehind u dots.Refused) k m
    refused_stays u k m = refl

    -- so behind the name left of the dot of a type
    type_dot_stays : (f : Found Term Sign Declaration) (u : Usage) (k : ℕ) (m : List ℕ) → Stays (SelectorBehind u (dot_of true (found_answer {P = List ℕ} stands.TypeDot f).denoted)) k m
    type_dot_stays founds.Missing u k m = refl
    type_dot_stays founds.BadImport u k m = refl
    type_dot_stays founds.Outside u k m = refl
    type_dot_stays (founds.«Package» d) u k m = package_stays u d k m
    type_dot_stays (founds.«Type» d t) u k m = refl
    type_dot_stays (founds.Func d s) u k m = refl
    type_dot_stays (founds.Builtin d b) u k m = refl
    type_dot_stays (founds.«Value» d value) u k m = refl

    pub type_name_stays : (st : FileStand) (names : NameLook Meaning) (q : Ident) (u : Usage) (k : ℕ) (m : List ℕ) → Stays (SelectorBehind u (dot_of true (ident_answer (looks_where st names) stands.TypeDot q).denoted)) k m
    type_name_stays st names q u k m = by (is_blank q.name)
      where
        by : (b : Bool)
            → Stays (SelectorBehind u (dot_of true (if b then refused {T = Term} {S = Sign} {D = Declaration} {P = List ℕ} N8 else found_answer stands.TypeDot ((look_of_place (looks_where st names) q.span.start).names.find q.name)).denoted)) k m
        by true = refl
        by false = type_dot_stays ((look_of_place (looks_where st names) q.span.start).names.find q.name) u k m

  -- behind values and for keys, where the types stay

  module _ (types : List Entry) (known known' : List (Option TheFace)) (l l' : NameLook Meaning) where
    abbrev before : FileStand
    before = stand_in p types known n o

    abbrev after : FileStand
    after = stand_in (with_trees p ts) types known' n o'

    value_stays : (u : Usage) (b : Bool) (t : Option Term) (k : ℕ) (m : List ℕ) → value_selector (look_of_place (looks_where after l') k) u b t m ≡ value_selector (look_of_place (looks_where before l) k) u b t m
    value_stays u b None k m = refl
    value_stays u b (Some t) k m = refl

    dot_stays : (u : Usage) (dot : Dot Term Declaration) (k : ℕ) (m : List ℕ) → rule (looks_where after l') (SelectorBehind u dot) k m ≡ rule (looks_where before l) (SelectorBehind u dot) k m
    dot_stays u (dots.«Package» d) k m = package_stays types types known known' l l' u d k m
    dot_stays u dots.Refused k m = refl
    dot_stays u dots.Untyped k m = refl
    dot_stays u (dots.«Value» v) k m = ap (λ a. (if is_blank m then refused S8 else a).outcome) (value_stays u v.addressable (default_type (looks_where before l).types v.value_type) k m)

    key_found : (t : Term) (r : Bool) (m : List ℕ) (k : ℕ) (f : NamedField Term Declaration) → found_key (literals_at (looks_where after l') k) t r m f ≡ found_key (literals_at (looks_where before l) k) t r m f
    key_found t r m k nameds.Hidden = refl
    key_found t r m k nameds.Missing = refl
    key_found t r m k (nameds.Visible f) = refl

    fields_stay : (w : OwnerModel) (home : List ℕ) (fs : Fields) → fields_seen after.scene w home fs ≡ fields_seen before.scene w home fs
    fields_stay w home NoField = refl
    fields_stay w home (AField name place embedded t tag fs) =
        ap (λ rest. if has_method w.path w.methods name home then rest else field_seen before.scene home name place t ∷ rest) (fields_stay w home fs)

    term_stays : (w : OwnerModel) (t : Term) → term_seen after.scene w t ≡ term_seen before.scene w t
    term_stays w NoType = refl
    term_stays w (Predeclared b) = refl
    term_stays w ErrorType = refl
    term_stays w (Defined d) = refl
    term_stays w (PointerTo t) = refl
    term_stays w (StructOf home fs) = fields_stay w home fs
    term_stays w (InterfaceOf path ms) = refl

    key_named : (t : Term) (r : Bool) (m : List ℕ) (k : ℕ) → named_key (literals_at (looks_where after l') k) t r m ≡ named_key (literals_at (looks_where before l) k) t r m
    key_named t r m k =
        let w : OwnerModel = owner_in (find_entry types) t in
        ap (λ fs. found_key (literals_at (looks_where after l') k) t r m (named_field fs m)) (term_stays w w.underlying)
        ∙ key_found t r m k (named_field (term_seen before.scene w w.underlying) m)

    key_stays : (c : KeyContext Term) (k : ℕ) (m : List ℕ) → rule (looks_where after l') (KeyAmong c) k m ≡ rule (looks_where before l) (KeyAmong c) k m
    key_stays c k m = by c.literal_type
      where
        by : (t : Option Term)
            → (key_answer (literals_at (looks_where after l') k) t c.is_mixed (has_name m c.others) m).outcome ≡ (key_answer (literals_at (looks_where before l) k) t c.is_mixed (has_name m c.others) m).outcome
        by None = refl
        by (Some t) =
            ap (λ a. (if is_struct ((looks_where before l).types.form t) then (if c.is_mixed then refused_key F5 else (if is_blank m then refused_key F1 else a)) else refused_key F8).outcome) (key_named t (has_name m c.others) m k)

    -- in any context but that of a name alone
    pub typed_stays : (c : Context Term Declaration) (k : ℕ) (m : List ℕ) → ((s : Stand) → c ≡ NameAt s → ⊥) → rule (looks_where after l') c k m ≡ rule (looks_where before l) c k m
    typed_stays (NameAt s) k m other_than = absurd (other_than s refl)
    typed_stays (SelectorBehind u dot) k m other_than = dot_stays u dot k m
    typed_stays (KeyAmong c) k m other_than = key_stays c k m
