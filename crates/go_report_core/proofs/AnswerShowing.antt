-- What a package shows of its declarations.
use Rattle.std.proofs.Common.{◌≡◌, inl, inr, ℕ, zero, suc, Bool, true, false, List, [], ◌∷◌, map, Option, Some, None, refl, sym, ap, ◌∙◌, cond, subst}
use Rattle.std.specs.Prelude.{Contains, slice_get}
use Rattle.std.specs.Str.{bytes_eq, chars}
use Rattle.std.proofs.lemmas.Slice.Eq.{bytes_eq-Decides}
use Rattle.go_path_core.specs.text_core.Text.{exported}
use Rattle.go_term_core.specs.decl_core.declared.keys.DeclRef.{DeclRef}
use Rattle.go_term_core.proofs.Members.{In, contained_in, filter_in, in_back, in_contained, in_either, in_filter, in_front, in_map, map_in, ordered_same}
use Rattle.go_block_core.specs.Exports.{exported_names}
use Rattle.go_block_core.specs.Tables.{in_block, with_first}
use Rattle.go_expr_core.proofs.Independence.{either}
use Rattle.go_summary_core.specs.declared_core.Faces.{TheFace}
use Rattle.go_summary_core.specs.declared_core.Packages.{DeclaredOf, as_seen, names_seen, package_faces, seen_after}
use Rattle.go_summary_core.specs.declared_core.Written.{same_decl_place}
use Rattle.go_summary_core.specs.declared_core.declared.shown.ShownFace.TheVariants as shows
use Rattle.go_summary_core.specs.declared_core.Displaying.{faces_are_found, shows_its_block}
use Rattle.go_summary_core.specs.declared_core.Placed.{same_itself}
use Rattle.go_report_core.specs.answer.Laws.{HiddenDoNotCount, IsExported, IsKnown, NamesShowTheirFaces, ShownAlike, ShownAreExported, name_seen}
use Rattle.go_report_core.specs.answer.Shown.{exported_decls, is_decl_listed, shown_among, shown_if, shown_of}
use Rattle.go_report_core.proofs.AnswerListed.{among_listed, listed_among}
use Rattle.go_report_core.proofs.AnswerRising.{IsEarlier, earlier_onward, never_earlier, rise_pairs, shown_rise}

abbrev Named : Type 0
Named = List ℕ × DeclRef

-- one face

shown_one : (b : Bool) (d : DeclRef) (o : Option TheFace) (e : DeclaredOf) → In (shown_if b d o) e → (b ≡ true) × (d ≡ e.decl) × (o ≡ Some e.face)
shown_one b d None e h = absurd h
shown_one true d (Some face) e (inl is) = (refl, ap (λ (x : DeclaredOf). x.decl) is, ap (λ (x : DeclaredOf). Some x.face) is)
shown_one true d (Some face) e (inr h) = absurd h
shown_one false d (Some face) e h = absurd h

one_shown : (e : DeclaredOf) → In (shown_if true e.decl (Some e.face)) e
one_shown e = inl refl

-- all

shown_in : (these ds : List DeclRef) (known : List (Option TheFace)) (e : DeclaredOf) → In (shown_among these ds known) e → IsKnown ds known e × (is_decl_listed these e.decl ≡ true)
shown_in these [] known e h = absurd h
shown_in these (d ∷ ds) [] e h = absurd h
shown_in these (d ∷ ds) (face ∷ known) e h =
    either (in_either (shown_if (is_decl_listed these d) d face) (shown_among these ds known) e h)
    (λ k. let p = shown_one (is_decl_listed these d) d face e k in (record { place = 0; decl = ap Some p.1; face = ap Some p.2 }, ap (is_decl_listed these) (sym p.1) ∙ p.0))
    (λ k. let r = shown_in these ds known e k in (record { place = suc r.0.place; decl = r.0.decl; face = r.0.face }, r.1))

in_shown : (these ds : List DeclRef) (known : List (Option TheFace)) (e : DeclaredOf) (n : ℕ) → slice_get ds n ≡ Some e.decl → slice_get known n ≡ Some (Some e.face) → is_decl_listed these e.decl ≡ true → In (shown_among these ds known) e
in_shown these [] known e n at is listed = absurd (let no : None ≡ Some e.decl = at in cc)
in_shown these (d ∷ ds) [] e n at is listed = absurd (let no : None ≡ Some (Some e.face) = is in cc)
in_shown these (d ∷ ds) (face ∷ known) e zero at is listed =
    let same : e.decl ≡ d = (let s : Some d ≡ Some e.decl = at in cc) in
    let held : Some e.face ≡ face = (let s : Some face ≡ Some (Some e.face) = is in cc) in
    in_front (shown_if (is_decl_listed these d) d face) (shown_among these ds known) e
    (subst (λ o. In (shown_if (is_decl_listed these d) d o) e) held (subst (λ x. In (shown_if (is_decl_listed these x) x (Some e.face)) e) same (subst (λ b. In (shown_if b e.decl (Some e.face)) e) (sym listed) (one_shown e))))
in_shown these (d ∷ ds) (face ∷ known) e (suc n) at is listed =
    in_back (shown_if (is_decl_listed these d) d face) (shown_among these ds known) e (in_shown these ds known e n at is listed)

-- exported names

listed_exported : (block : List Named) (d : DeclRef) → is_decl_listed (exported_decls block) d ≡ true → IsExported block d
listed_exported block d h =
    let found = listed_among (exported_decls block) d h in
    let entry = map_in (λ (e : Named). e.1) (exported_names block) found.0 found.1 in
    let kept = filter_in (λ (e : Named). exported (chars e.0)) block entry.0 entry.1 in
    record { name = entry.0.0; decl = entry.0.1; bound = contained_in block entry.0 kept.0; is_exported = kept.1; same = ap (λ (x : DeclRef). same_decl_place x d) entry.2 ∙ found.2 }

exported_listed : (block : List Named) (d : DeclRef) → IsExported block d → is_decl_listed (exported_decls block) d ≡ true
exported_listed block d x =
    let entry : Named = (x.name, x.decl) in
    among_listed (exported_decls block) x.decl d
    (in_map (λ (e : Named). e.1) (exported_names block) entry (in_filter (λ (e : Named). exported (chars e.0)) block entry (in_contained block entry x.bound) x.is_exported)) x.same

-- the laws

shown_there : (block : List Named) (ds : List DeclRef) (known : List (Option TheFace)) (e : DeclaredOf) → Contains (shown_of block ds known) e → IsKnown ds known e × IsExported block e.decl
shown_there block ds known e h =
    let r = shown_in (exported_decls block) ds known e (in_contained (shown_of block ds known) e h) in
    (r.0, listed_exported block e.decl r.1)

there_shown : (block : List Named) (ds : List DeclRef) (known : List (Option TheFace)) (e : DeclaredOf) → IsKnown ds known e × IsExported block e.decl → Contains (shown_of block ds known) e
there_shown block ds known e h =
    contained_in (shown_of block ds known) e (in_shown (exported_decls block) ds known e h.0.place h.0.decl h.0.face (exported_listed block e.decl h.1))

pub shown_are_exported : ShownAreExported
shown_are_exported = record {
  shown = λ block ds known e. (shown_there block ds known e, there_shown block ds known e);
  rising = λ block ds known rise. shown_rise (exported_decls block) ds known rise;
}

pub hidden_do_not_count : HiddenDoNotCount
hidden_do_not_count block other ds es known more rise rising alike =
    ordered_same IsEarlier never_earlier earlier_onward (shown_of block ds known) (shown_of other es more)
    (rise_pairs (shown_of block ds known) (shown_rise (exported_decls block) ds known rise))
    (rise_pairs (shown_of other es more) (shown_rise (exported_decls other) es more rising))
    (λ e h. there_shown other es more e ((alike e).0 (shown_there block ds known e h)))
    (λ e h. there_shown block ds known e ((alike e).1 (shown_there other es more e h)))

-- the names of a block as others see them, one behind another
abbrev all_seen : List (List ℕ × Option DeclRef) → List (List ℕ × Option DeclRef) → List (List ℕ × Option DeclRef)
all_seen seen [] = seen
all_seen seen (n ∷ ns) = all_seen (with_first seen n.0 n.1) ns

seen_as : (seen : List (List ℕ × Option DeclRef)) (block : List Named) → seen_after seen block ≡ all_seen seen (map name_seen block)
seen_as seen [] = refl
seen_as seen (e ∷ es) = seen_as (with_first seen e.0 (as_seen e.0 e.1)) es

pub shown_alike : ShownAlike
shown_alike path b c ds es known more rise rising names alike =
    let seen : names_seen b.names ≡ names_seen c.names = seen_as [] b.names ∙ (ap (all_seen []) names ∙ sym (seen_as [] c.names)) in
    ap (λ (ns : List (List ℕ × Option DeclRef)). package_faces path ns (shown_of b.names ds known)) seen
    ∙ ap (λ (fs : List DeclaredOf). package_faces path (names_seen c.names) fs) (hidden_do_not_count b.names c.names ds es known more rise rising alike)

-- behind a dot

bound_in : (block : List Named) (name : List ℕ) (d : DeclRef) → in_block block name ≡ Some d → In block (name, d)
bound_in [] name d h = absurd (let no : None ≡ Some d = h in cc)
bound_in (e ∷ es) name d h = by (bytes_eq name e.0) refl h (bound_in es name d)
  where
    by : (b : Bool) → bytes_eq name e.0 ≡ b → cond b (Some e.1) (in_block es name) ≡ Some d → (in_block es name ≡ Some d → In es (name, d)) → In (e ∷ es) (name, d)
    by true t k rest =
        let same : e.0 ≡ name = sym ((bytes_eq-Decides name e.0).0 t) in
        let is : e.1 ≡ d = (let s : Some e.1 ≡ Some d = k in cc) in
        inl (ap (λ (n : List ℕ). (n, e.1)) same ∙ ap (λ (x : DeclRef). (name, x)) is)
    by false t k rest = inr (rest k)

pub names_show_their_faces : NamesShowTheirFaces
names_show_their_faces path b ds known name e rise bound is_exported known_so =
    let shown = shown_of b.names ds known in
    let there = there_shown b.names ds known e (known_so, record { name = name; decl = e.decl; bound = contained_in b.names (name, e.decl) (bound_in b.names name e.decl bound); is_exported = is_exported; same = same_itself e.decl }) in
    shows_its_block.shown path b.names shown name e.decl bound is_exported
    ∙ ap (λ f. shows.Shown e.decl f) (faces_are_found shown e (shown_rise (exported_decls b.names) ds known rise) there)
