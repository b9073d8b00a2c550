-- Two scenes of one package: what literals see of near types, and all look-ups together.
use Rattle.std.proofs.Common.{◌≡◌, ℕ, Bool, List, ◌∷◌, refl, ap, ◌∙◌, subst, Contains, ◌||◌}
use Rattle.std.specs.Prelude.{Option, if◌then◌else◌, bytes_eq}
use Rattle.std.specs.Str.{chars}
use Rattle.std.proofs.lemmas.List.Elements.{Contains-append_left, Contains-append_right}
use Rattle.go_path_core.specs.text_core.Text.{exported}
use Rattle.go_term_core.specs.decl_core.declared.keys.DeclKey.{DeclKey}
use Rattle.go_term_core.specs.declared.term.MemberPlace.{MemberPlace}
use Rattle.go_term_core.specs.Terms.{Term, NoType, Predeclared, ErrorType, Defined, PointerTo, StructOf, InterfaceOf, Fields, NoField, AField, term_keys, fields_keys}
use Rattle.go_body_core.specs.table_core.Entries.{find_entry, has_method}
use Rattle.go_body_core.specs.table_core.Meanings.{underlying_local}
use Rattle.go_select_core.specs.embed_core.Owners.{OwnerModel, path_of_term, owner_in}
use Rattle.go_report_core.specs.handle_core.DecidingRules.{term_rules}
use Rattle.go_report_core.specs.handle_core.Declarations.{InFile}
use Rattle.go_report_core.specs.handle_core.Names.{selection_in}
use Rattle.go_report_core.specs.expr_core.Looks.{WrittenRules}
use Rattle.go_emit_core.specs.declared_core.Faces.{TheFace}
use Rattle.go_names_core.specs.local_core.Binding as binding
use Rattle.go_body_core.specs.env_core.declared.meaning.Meaning.{Meaning}
use Rattle.go_body_core.specs.env_core.Scenes.{SceneModel}
use Rattle.go_body_core.specs.env_core.Fields.{field_known, fields_seen, term_seen, owner_seen}
use Rattle.go_body_core.specs.env_core.Looks.{looks_in}
use Rattle.go_snap_core.specs.near.Near.{NearField}
use Rattle.go_snap_core.specs.near.Looks.{AreClosed, RulesAgree, LooksAgree}
use Rattle.go_snap_core.specs.near.Tables.{near_by, Nearby, IsNear, near_rest}
use Rattle.go_snap_core.specs.near.Scenes.{ScenesAgree, WrittenAgree, NamesAgree}
use Rattle.go_snap_core.specs.near.Laws.{TablesLookNearby, ScenesLookNearby}
use Rattle.go_snap_core.proofs.NearClosing.{either}
use Rattle.go_snap_core.proofs.NearReaching.{agree_from, turned, under_near, under_same, rules_closed, rules_agree, typed_near, typed_same, params_near, results_near, params_same, results_same, select_near, select_same}
use Rattle.go_snap_core.proofs.NearExpressions.{nearby}
use Rattle.go_body_core.specs.stmt_core.StatementLocality.{Each}

module _ (near : Nearby) (s t : SceneModel) (law : ScenesAgree near s t) where
  abbrev NearFields : Fields → Type 0
  NearFields fs = (k : DeclKey) → Contains (fields_keys fs) k → near.types k

  first_near : (name : List ℕ) (place : MemberPlace) (embedded : Bool) (u : Term) (tag : List ℕ) (fs : Fields) → NearFields (AField name place embedded u tag fs) → IsNear near u
  first_near name place embedded u tag fs h k m = h k (Contains-append_left (term_keys u) (fields_keys fs) k m)

  more_near : (name : List ℕ) (place : MemberPlace) (embedded : Bool) (u : Term) (tag : List ℕ) (fs : Fields) → NearFields (AField name place embedded u tag fs) → NearFields fs
  more_near name place embedded u tag fs h k m = h k (Contains-append_right (term_keys u) (fields_keys fs) k m)

  fields_near : (o : OwnerModel) (home : List ℕ) (fs : Fields) → NearFields fs → Each (NearField (IsNear near)) (fields_seen s o home fs)
  fields_near o home NoField h = tt
  fields_near o home (AField name place embedded u tag fs) h =
      either (Each (NearField (IsNear near))) (has_method o.path o.methods name home) _ _ (fields_near o home fs (more_near name place embedded u tag fs h))
      (typed_near near s.types t.types law.types u (first_near name place embedded u tag fs h), fields_near o home fs (more_near name place embedded u tag fs h))

  known_same : (home name : List ℕ) (place : MemberPlace) (u : Term) → IsNear near u → field_known s home name place u ≡ field_known t home name place u
  known_same home name place u h =
      λ j. record { decl = InFile home place; field_type = typed_same near s.types t.types law.types u h j; is_visible = exported (chars name) || bytes_eq home (law.path j) }

  fields_same : (o : OwnerModel) (home : List ℕ) (fs : Fields) → NearFields fs → fields_seen s o home fs ≡ fields_seen t o home fs
  fields_same o home NoField h = refl
  fields_same o home (AField name place embedded u tag fs) h =
      λ j. if has_method o.path o.methods name home then fields_same o home fs (more_near name place embedded u tag fs h) j
      else record { name = name; known = known_same home name place u (first_near name place embedded u tag fs h) j } ∷ fields_same o home fs (more_near name place embedded u tag fs h) j

  term_near : (o : OwnerModel) (u : Term) → IsNear near u → Each (NearField (IsNear near)) (term_seen s o u)
  term_near o NoType h = tt
  term_near o (Predeclared b) h = tt
  term_near o ErrorType h = tt
  term_near o (Defined k) h = tt
  term_near o (PointerTo u) h = tt
  term_near o (StructOf home fs) h = fields_near o home fs h
  term_near o (InterfaceOf path ms) h = tt

  term_same : (o : OwnerModel) (u : Term) → IsNear near u → term_seen s o u ≡ term_seen t o u
  term_same o NoType h = refl
  term_same o (Predeclared b) h = refl
  term_same o ErrorType h = refl
  term_same o (Defined k) h = refl
  term_same o (PointerTo u) h = refl
  term_same o (StructOf home fs) h = fields_same o home fs h
  term_same o (InterfaceOf path ms) h = refl

  owner_same : (u : Term) → IsNear near u → owner_in (find_entry s.types) u ≡ owner_in (find_entry t.types) u
  owner_same u h =
      λ j. record {
        path = path_of_term u;
        methods = underlying_local.methods (find_entry s.types) (find_entry t.types) u (agree_from near s.types t.types law.types u h) j;
        underlying = under_same near s.types t.types law.types u h j;
      }

  seen_near : (u : Term) → IsNear near u → Each (NearField (IsNear near)) (owner_seen s (owner_in (find_entry s.types) u))
  seen_near u h = term_near (owner_in (find_entry s.types) u) (owner_in (find_entry s.types) u).underlying (under_near near s.types t.types law.types u h)

  seen_same : (u : Term) → IsNear near u → owner_seen s (owner_in (find_entry s.types) u) ≡ owner_seen t (owner_in (find_entry t.types) u)
  seen_same u h =
      term_same (owner_in (find_entry s.types) u) (owner_in (find_entry s.types) u).underlying (under_near near s.types t.types law.types u h) ∙ ap (owner_seen t) (owner_same u h)

  module _ (file : ℕ) (known others : List (Option TheFace)) (look other : binding.NameLook Meaning) (written made : WrittenRules Term) (names : NamesAgree near s t file known others look other) (types : WrittenAgree near written made) where
    pub scene_closed : AreClosed (IsNear near) (near_rest near) (looks_in s file known written look)
    scene_closed = record {
      find = names.are_near;
      exported = law.exported_near;
      select = λ u name h. select_near near s.types t.types law.types s.path u name h;
      params = params_near near s.types t.types law.types;
      results = results_near near s.types t.types law.types;
      types = rules_closed near s.types t.types law.types s.path;
      fields = seen_near;
      type_of = types.are_near;
    }

    pub scenes_agree : LooksAgree (IsNear near) (near_rest near) (looks_in s file known written look) (looks_in t file others made other)
    scenes_agree = record {
      find = names.same;
      exported = law.exported;
      select = λ u name h. select_same near s.types t.types law.types s.path u name h ∙ ap (λ p. selection_in t.types p u name) law.path;
      params = params_same near s.types t.types law.types;
      results = results_same near s.types t.types law.types;
      types = subst (λ p. RulesAgree (IsNear near) (term_rules s.types s.path) (term_rules t.types p)) law.path (rules_agree near s.types t.types law.types s.path);
      fields = seen_same;
      type_of = types.type_of;
      faults_of = types.faults_of;
    }

-- the laws

pub tables_nearby : TablesLookNearby
tables_nearby = record {
  reached = λ near es others t law h. agree_from (near_by near) es others law t h;
  turned = λ near es others law. turned (near_by near) es others law;
  closed = λ near es others path law. rules_closed (near_by near) es others law path;
  same = λ near es others path law. rules_agree (near_by near) es others law path;
  selected = λ near es others from t name law h. (select_near (near_by near) es others law from t name h, select_same (near_by near) es others law from t name h);
  params = λ near es others g law h. (params_near (near_by near) es others law g h, params_same (near_by near) es others law g h);
  results = λ near es others g law h. (results_near (near_by near) es others law g h, results_same (near_by near) es others law g h);
  fields = λ near s t u law h. (seen_near (near_by near) s t law u h, seen_same (near_by near) s t law u h);
}

pub scenes_nearby : ScenesLookNearby
scenes_nearby near s t file known others look other written made p e law names types =
    nearby (IsNear (near_by near)) (near_rest (near_by near)) (looks_in s file known written look) (looks_in t file others made other) (scene_closed (near_by near) s t law file known others look other written made names types)
    (scenes_agree (near_by near) s t law file known others look other written made names types) p e
