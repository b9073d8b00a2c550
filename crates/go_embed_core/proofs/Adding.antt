-- The members of a type, listed one after another.
use Rattle.std.proofs.Common.{◌≡◌, ℕ, ◌+◌, ◌<◌, ◌≤◌, Bool, true, false, List, [], ◌∷◌, ◌++◌, map, length, drop, get_or, if◌then◌else◌, inl, inr, sym, ap, ◌∙◌}
use Rattle.std.proofs.lemmas.List.{drop_more, drop_all, append_assoc, append-nil, map-append}
use Rattle.go_term_core.specs.declared.term.Field.{Field}
use Rattle.go_term_core.specs.Terms.{StructOf}
use Rattle.go_term_core.specs.Shapes.{Line, line_at, fields_in}
use Rattle.go_type_core.specs.table_core.Entries.{has_method}
use Rattle.go_type_core.specs.table_core.Shown.{hides_some}
use Rattle.std.specs.Borrow.{Bor}
use Rattle.go_type_core.specs.table_core.declared.fields.StructField.{StructField}
use Rattle.go_type_core.specs.table_core.Shown.{line_shown}
use Rattle.go_embed_core.specs.declared.member.Member as declared_member
use Rattle.go_embed_core.specs.declared.member.Member.TheVariants as members
use Rattle.go_embed_core.specs.Owners.{OwnerModel, AFieldOf, Named, fields_found, declared_found, term_found, members_of}
use Rattle.go_embed_core.specs.OwnersShown.{named_shown}
use Rattle.go_embed_core.specs.mirrors.Edges.{hidden_by, IsHiding}
use Rattle.go_embed_core.proofs.Edging.{hides_here}

pub pushed : (ms next : List declared_member.Member) (m : declared_member.Member) → next ≡ ms ++ m ∷ [] → map named_shown next ≡ map named_shown ms ++ named_shown m ∷ []
pushed ms next m e = ap (map named_shown) e ∙ map-append named_shown ms (m ∷ [])

pub member_pushed : (ms next : List declared_member.Member) (path : Bor (List ℕ)) (r : StructField) (f : Field) (ls : List Line) → next ≡ ms ++ members.Field path r ∷ [] → r.field.now ≡ f → line_shown r.line ≡ line_at ls f.line
    → map named_shown next ≡ map named_shown ms ++ (f.name, (path.now, AFieldOf path.now f.place (line_at ls f.line).term)) ∷ []
member_pushed ms next path r f ls e same lined = pushed ms next (members.Field path r) e ∙ (λ i. map named_shown ms ++ ((same i).name, (path.now, AFieldOf path.now (same i).place (lined i).term)) ∷ [])

-- one item more, with what it adds
pub added_step : {X : Type 0} (F : List X → List Named) (own : List Named) (xs : List X) (i : ℕ) (x : X) (now next all : List Named) → i < length xs → x ≡ get_or xs i x
    → F (x ∷ drop (i + 1) xs) ≡ own ++ F (drop (i + 1) xs) → next ≡ now ++ own → now ++ F (drop i xs) ≡ all → next ++ F (drop (i + 1) xs) ≡ all
added_step F own xs i x now next all lt is split more before =
    let rest = drop (i + 1) xs in
    ap (λ l. l ++ F rest) more
    ∙ (append_assoc now own (F rest)
    ∙ (ap (λ l. now ++ l) (sym split)
    ∙ (ap (λ l. now ++ F l) (ap (λ y. y ∷ rest) is ∙ sym (drop_more xs i x lt)) ∙ before)))

pub added_end : {X : Type 0} (F : List X → List Named) (xs : List X) (i : ℕ) (now all : List Named) → F [] ≡ [] → length xs ≤ i → now ++ F (drop i xs) ≡ all → now ≡ all
added_end F xs i now all none le before =
    sym (append-nil now) ∙ (ap (λ l. now ++ l) (sym none) ∙ (ap (λ l. now ++ F l) (sym (drop_all i xs le)) ∙ before))

-- a field that no method keeps from its owner is listed, and another is not

shown_now : (ls : List Line) (o : OwnerModel) (path : List ℕ) (f : Field) (fs : List Field) → has_method o.path o.methods f.name path ≡ false
    → fields_found o path (fields_in ls (f ∷ fs)) ≡ (f.name, (path, AFieldOf path f.place (line_at ls f.line).term)) ∷ fields_found o path (fields_in ls fs)
shown_now ls o path f fs off = ap (λ b. if b then fields_found o path (fields_in ls fs) else (f.name, (path, AFieldOf path f.place (line_at ls f.line).term)) ∷ fields_found o path (fields_in ls fs)) off

hidden_now : (ls : List Line) (o : OwnerModel) (path : List ℕ) (f : Field) (fs : List Field) → has_method o.path o.methods f.name path ≡ true → fields_found o path (fields_in ls (f ∷ fs)) ≡ fields_found o path (fields_in ls fs)
hidden_now ls o path f fs on = ap (λ b. if b then fields_found o path (fields_in ls fs) else (f.name, (path, AFieldOf path f.place (line_at ls f.line).term)) ∷ fields_found o path (fields_in ls fs)) on

module _ (ls : List Line) (o : OwnerModel) (path : List ℕ) (fs : List Field) (i : ℕ) (f : Field) (b : Bool) (lt : i < length fs) (is : f ≡ get_or fs i f) (under : o.underlying ≡ StructOf path (fields_in ls fs)) (hiding : IsHiding b o f.name) where
  off : b ≡ false → has_method o.path o.methods f.name path ≡ false
  off e =
      elim (hiding.left e) [
        | inl q ↦ sym (ap (hidden_by o f.name) under) ∙ q
        | inr q ↦ hides_here ls o path fs i f lt is (sym (ap (hides_some o.path o.methods) under) ∙ q)
      ]

  pub field_shown : (now next all : List Named) → b ≡ false → next ≡ now ++ (f.name, (path, AFieldOf path f.place (line_at ls f.line).term)) ∷ [] → now ++ fields_found o path (fields_in ls (drop i fs)) ≡ all
      → next ++ fields_found o path (fields_in ls (drop (i + 1) fs)) ≡ all
  field_shown now next all e more before =
      added_step (λ l. fields_found o path (fields_in ls l)) ((f.name, (path, AFieldOf path f.place (line_at ls f.line).term)) ∷ []) fs i f now next all lt is (shown_now ls o path f (drop (i + 1) fs) (off e)) more before

  pub field_hidden : (now all : List Named) → b ≡ true → now ++ fields_found o path (fields_in ls (drop i fs)) ≡ all → now ++ fields_found o path (fields_in ls (drop (i + 1) fs)) ≡ all
  field_hidden now all e before =
      let on : has_method o.path o.methods f.name path ≡ true = sym (ap (hidden_by o f.name) under) ∙ hiding.kept e in
      added_step (λ l. fields_found o path (fields_in ls l)) [] fs i f now now all lt is (hidden_now ls o path f (drop (i + 1) fs) on) (sym (append-nil now)) before

-- all members of an owner
pub members_all : (o : OwnerModel) (none own all : List Named) → none ≡ [] → own ≡ none ++ declared_found o.path o.methods → all ≡ own ++ term_found o o.underlying → all ≡ members_of o
members_all o none own all empty first second = second ∙ ap (λ l. l ++ term_found o o.underlying) (first ∙ ap (λ l. l ++ declared_found o.path o.methods) empty)
