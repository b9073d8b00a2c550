-- What a selector denotes is one.
use Rattle.std.proofs.Common.{◌≡◌, ℕ, ◌<◌, Bool, ◌||◌, List, length, Ok, refl, sym, ap, ◌∙◌, subst, arith, ◌⊎◌, inl, inr}
use Rattle.go_path_core.specs.text_core.declared.rule.Rule.{Rule}
use Rattle.go_path_core.specs.text_core.declared.rule.Rule.TheVariants as rules
use Rattle.go_path_core.specs.text_core.Text.{is_blank}
use Rattle.go_term_core.specs.Terms.{Term}
use Rattle.go_embed_core.specs.table_core.Entries.{EntryLook}
use Rattle.go_embed_core.specs.Owners.{OwnerModel, Found, Named, owner_in}
use Rattle.go_embed_core.specs.OwnersShown.{IsNamedAt, found_shown}
use Rattle.go_select_core.specs.declared.levels.search.Selected.{Selected}
use Rattle.go_select_core.specs.levels.Paths.{FieldsLead, Hit, HasHit, IsSelected, IsAmbiguous, IsMemberSpelled}
use Rattle.go_select_core.specs.levels.Selectors.{Searched, Refused, In, FieldsIn, searched, IsFieldFound, IsMissing, ambiguous, hidden, absent, IsFoundSelected, IsRefused, IsRule, IsSelectorAnswer}
use Rattle.go_select_core.specs.Laws.{OnlyOneAnswer}
use Rattle.go_select_core.proofs.LevelsListLemmas.{true_false}
use Rattle.go_select_core.proofs.LevelsWalks.{leads_same}

named_same : (o : OwnerModel) (name from : List ℕ) (i : ℕ) (f g : Found) → IsNamedAt o name from i f → IsNamedAt o name from i g → f ≡ g
named_same o name from i f g a b =
    let s : a.0 ≡ b.0 = (let x = a.1 in let y = b.1 in (cc)) in
    sym a.3 ∙ ap (λ (n : Named). n.1.1) s ∙ b.3

hit_same : (look : EntryLook) (t : Term) (name from : List ℕ) (p q : List ℕ) (a b : Bool) (m n : ℕ) (f g : Found) → Hit look t name from p a m f → Hit look t name from q b n g → p ≡ q → m ≡ n → (a ≡ b) × (f ≡ g)
hit_same look t name from p q a b m n f g h k same number =
    let l = leads_same look t q a b h.at k.at (subst (λ r. FieldsLead look t r a h.at) same h.leads) k.leads in
    (l.0, named_same (owner_in look k.at) name from n f g (subst (λ i. IsNamedAt (owner_in look k.at) name from i f) number (subst (λ u. IsNamedAt (owner_in look u) name from m f) l.1 h.has)) k.has)

pub selected_same : (look : EntryLook) (t : Term) (name from : List ℕ) (p q : List ℕ) (a b : Bool) (f g : Found) → IsSelected look t name from p a f → IsSelected look t name from q b g → (p ≡ q) × (a ≡ b) × (f ≡ g)
selected_same look t name from p q a b f g r s = by (s.shortest p a r.number f r.hit) (r.shortest q b s.number g s.hit)
  where
    by : ((p ≡ q) × (r.number ≡ s.number)) ⊎ (length q < length p) → ((q ≡ p) × (s.number ≡ r.number)) ⊎ (length p < length q) → (p ≡ q) × (a ≡ b) × (f ≡ g)
    by (inl x) y = let h = hit_same look t name from p q a b r.number s.number f g r.hit s.hit x.0 x.1 in (x.0, h.0, h.1)
    by (inr l) (inl y) = let e = ap length y.0 in absurd (omega (arith, l, e))
    by (inr l) (inr k) = absurd (omega (arith, l, k))

selected_hit : (look : EntryLook) (t : Term) (name from : List ℕ) (p : List ℕ) (a : Bool) (f : Found) → IsSelected look t name from p a f → HasHit look t name from
selected_hit look t name from p a f s = (p, a, s.number, f, s.hit)

pub missing_or_selected : (look : EntryLook) (t : Term) (name from : List ℕ) (p : List ℕ) (a : Bool) (f : Found) (r : Rule) → IsSelected look t name from p a f → IsMissing look t name from r → ⊥
missing_or_selected look t name from p a f r s (ambiguous x) = x.none p a f s
missing_or_selected look t name from p a f r s (hidden none x) = none (selected_hit look t name from p a f s)
missing_or_selected look t name from p a f r s (absent none x) = none (selected_hit look t name from p a f s)

-- which rule it is, as an equation
missing_rule : (look : EntryLook) (t : Term) (name from : List ℕ) (r : Rule) → IsMissing look t name from r
    → (IsAmbiguous look t name from × (r ≡ rules.S2)) ⊎ ((HasHit look t name from → ⊥) × ((IsMemberSpelled look t name × (r ≡ rules.S3)) ⊎ ((IsMemberSpelled look t name → ⊥) × (r ≡ rules.S1))))
missing_rule look t name from r (ambiguous x) = inl (x, refl)
missing_rule look t name from r (hidden none x) = inr (none, inl (x, refl))
missing_rule look t name from r (absent none x) = inr (none, inr (x, refl))

missing_same : (look : EntryLook) (t : Term) (name from : List ℕ) (r s : Rule) → IsMissing look t name from r → IsMissing look t name from s → r ≡ s
missing_same look t name from r s a b = by (missing_rule look t name from r a) (missing_rule look t name from s b)
  where
    one : (IsMemberSpelled look t name × (r ≡ rules.S3)) ⊎ ((IsMemberSpelled look t name → ⊥) × (r ≡ rules.S1)) → (IsMemberSpelled look t name × (s ≡ rules.S3)) ⊎ ((IsMemberSpelled look t name → ⊥) × (s ≡ rules.S1)) → r ≡ s
    one (inl x) (inl y) = x.1 ∙ sym y.1
    one (inl x) (inr y) = absurd (y.0 x.0)
    one (inr x) (inl y) = absurd (x.0 y.0)
    one (inr x) (inr y) = x.1 ∙ sym y.1

    by : (IsAmbiguous look t name from × (r ≡ rules.S2)) ⊎ ((HasHit look t name from → ⊥) × ((IsMemberSpelled look t name × (r ≡ rules.S3)) ⊎ ((IsMemberSpelled look t name → ⊥) × (r ≡ rules.S1))))
        → (IsAmbiguous look t name from × (s ≡ rules.S2)) ⊎ ((HasHit look t name from → ⊥) × ((IsMemberSpelled look t name × (s ≡ rules.S3)) ⊎ ((IsMemberSpelled look t name → ⊥) × (s ≡ rules.S1)))) → r ≡ s
    by (inl x) (inl y) = x.1 ∙ sym y.1
    by (inl x) (inr y) = absurd (y.0 x.0.some)
    by (inr x) (inl y) = absurd (x.0 y.0.some)
    by (inr x) (inr y) = one x.1 y.1

-- what is selected, whatever is searched
found_in : (look : EntryLook) (w : Searched) (name from : List ℕ) (r s : Selected) → IsFoundSelected look w name from r → IsFoundSelected look w name from s
    → (r.path ≡ s.path) × (found_shown r.member ≡ found_shown s.member) × (r.through_pointer ≡ s.through_pointer)
found_in look (Refused why) name from r s a b = absurd a
found_in look (In t by_pointer) name from r s a b =
    let x = selected_same look t name from r.path s.path a.0 b.0 (found_shown r.member) (found_shown s.member) a.1 b.1 in
    (x.0, x.2, a.2 ∙ ap (λ c. by_pointer || c) x.1 ∙ sym b.2)
found_in look (FieldsIn t) name from r s a b =
    let x = selected_same look t name from r.path s.path a.0.0 b.0.0 (found_shown r.member) (found_shown s.member) a.0.1 b.0.1 in
    (x.0, x.2, a.0.2 ∙ sym b.0.2)

refused_in : (look : EntryLook) (w : Searched) (name from : List ℕ) (r s : Rule) → IsRefused look w name from r → IsRefused look w name from s → r ≡ s
refused_in look (Refused why) name from r s a b = a ∙ sym b
refused_in look (In t by_pointer) name from r s a b = missing_same look t name from r s a b
refused_in look (FieldsIn t) name from r s (inl a) (inl b) = missing_same look t name from r s a b
refused_in look (FieldsIn t) name from r s (inl a) (inr b) = absurd (missing_or_selected look t name from b.0.0 b.0.1 b.0.2 r b.0.3 a)
refused_in look (FieldsIn t) name from r s (inr a) (inl b) = absurd (missing_or_selected look t name from a.0.0 a.0.1 a.0.2 s a.0.3 b)
refused_in look (FieldsIn t) name from r s (inr a) (inr b) = a.1 ∙ sym b.1

never_both : (look : EntryLook) (w : Searched) (name from : List ℕ) (s : Selected) (r : Rule) → IsFoundSelected look w name from s → IsRefused look w name from r → ⊥
never_both look (Refused why) name from s r a b = a
never_both look (In t by_pointer) name from s r a b = missing_or_selected look t name from s.path a.0 (found_shown s.member) r a.1 b
never_both look (FieldsIn t) name from s r a (inl b) = missing_or_selected look t name from s.path a.0.0 (found_shown s.member) r a.0.1 b
never_both look (FieldsIn t) name from s r a (inr b) =
    let x = selected_same look t name from s.path b.0.0 a.0.0 b.0.1 (found_shown s.member) b.0.2 a.0.1 b.0.3 in
    b.0.4 (subst (λ f. IsFieldFound f) x.2 a.1)

rule_same : (look : EntryLook) (t : Term) (name from : List ℕ) (r s : Rule) → IsRule look t name from r → IsRule look t name from s → r ≡ s
rule_same look t name from r s (inl a) (inl b) = a.1 ∙ sym b.1
rule_same look t name from r s (inl a) (inr b) = true_false (is_blank name) a.0 b.0
rule_same look t name from r s (inr a) (inl b) = true_false (is_blank name) b.0 a.0
rule_same look t name from r s (inr a) (inr b) = refused_in look (searched look t) name from r s a.1 b.1

answer_or_rule : (look : EntryLook) (t : Term) (name from : List ℕ) (s : Selected) (r : Rule) → IsSelectorAnswer look t name from (Ok s) → IsRule look t name from r → ⊥
answer_or_rule look t name from s r a (inl b) = true_false (is_blank name) b.0 a.0
answer_or_rule look t name from s r a (inr b) = never_both look (searched look t) name from s r a.1 b.1

pub one_answer : OnlyOneAnswer
one_answer =
    record {
      selected = λ look t name from r s a b. found_in look (searched look t) name from r s a.1 b.1;
      refused = λ look t name from r s a b. rule_same look t name from r s a b;
      not_both = λ look t name from s r a b. answer_or_rule look t name from s r a b;
    }
