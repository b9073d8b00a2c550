-- Selectors behind types that each embed one type.
use Rattle.std.proofs.Common.{◌≡◌, ℕ, Bool, true, false, not, ◌||◌, List, [], ◌∷◌, Result, Ok, Err, refl, sym, ◌∙◌, subst, inl, inr}
use mathlib.Core.Bool.{beq}
use Rattle.go_path_core.specs.text_core.declared.rule.Rule.{Rule}
use Rattle.go_term_core.specs.Terms.{Term}
use Rattle.go_embed_core.specs.table_core.Entries.{EntryLook}
use Rattle.go_term_core.specs.declared.settling.kind.Kind.TheVariants as kinds
use Rattle.go_embed_core.specs.Owners.{EmbeddedEdge, Found, owner_in, has_spelled}
use Rattle.go_embed_core.specs.OwnersShown.{IsNamedAt, found_shown}
use Rattle.go_select_core.specs.declared.levels.search.Selected.{Selected}
use Rattle.go_select_core.specs.levels.Paths.{FieldsLead, Step, Hit, HasHit, IsSelected, IsMemberSpelled}
use Rattle.go_select_core.specs.levels.Selectors.{IsFoundAs, IsRefused, IsMissing, ambiguous, hidden, absent, term_kind_in, IsSelectorAnswer}
use Rattle.go_select_core.specs.surveys.Sole.{IsSoleBehind, HasSameAnswers}
use Rattle.go_select_core.specs.surveys.mirrors.Alike.{Mirrors, AreAlike}
use Rattle.go_select_core.specs.surveys.mirrors.Told.{operand_type}
use Rattle.go_select_core.proofs.SurveysSoles.{sole_kind}
use Rattle.go_select_core.proofs.SurveysTelling.{operand_searched}

-- 1. Hits behind the only embedded field.

module _ (look : EntryLook) (name from : List ℕ) where
  pub alike_same : (t u : Term) → t ≡ u → AreAlike look name from t u
  alike_same t u e = subst (λ v. AreAlike look name from t v) e (record { there = record { hits = λ q p m f h. h; spelled = λ h. h }; back = record { hits = λ q p m f h. h; spelled = λ h. h }; plain = λ h. h })

  module _ (t u : Term) (a b : EmbeddedEdge) (at : IsSoleBehind look t name from a) (bt : IsSoleBehind look u name from b) (place : a.position ≡ b.position) (star : a.pointer ≡ b.pointer) (inner : Mirrors look name from a.target b.target) where
    step_over : (i : ℕ) (p : Bool) (v : Term) → Step look t i p v → (v ≡ a.target) × Step look u i p b.target
    step_over i p v s =
        let o = at.sole.only i p v s in
        (o.2, subst (λ j. Step look u j p b.target) (sym (o.0 ∙ place)) (subst (λ q. Step look u b.position q b.target) (sym (o.1 ∙ star)) bt.sole.step))

    hit_over : (q : List ℕ) (p : Bool) (m : ℕ) (f : Found) (v : Term) → FieldsLead look t q p v → IsNamedAt (owner_in look v) name from m f → Hit look u name from q p m f
    hit_over [] p m f v leads has = absurd (at.unnamed m f (subst (λ w. IsNamedAt (owner_in look w) name from m f) (sym leads.0) has))
    hit_over (i ∷ q) p m f v leads has =
        let s = step_over i leads.1 leads.0 leads.3 in
        let h : Hit look b.target name from q leads.2 m f = inner.hits q leads.2 m f (record { at = v; leads = subst (λ w. FieldsLead look w q leads.2 v) s.0 leads.4; has = has }) in
        record { at = h.at; leads = (b.target, leads.1, leads.2, s.1, h.leads, leads.5); has = h.has }

    spelled_over : (q : List ℕ) (p : Bool) (v : Term) → FieldsLead look t q p v → has_spelled (owner_in look v) name ≡ true → IsMemberSpelled look u name
    spelled_over [] p v leads on = absurd (let z : true ≡ false = sym on ∙ subst (λ w. has_spelled (owner_in look w) name ≡ false) leads.0 at.unspelled in (cc))
    spelled_over (i ∷ q) p v leads on =
        let s = step_over i leads.1 leads.0 leads.3 in
        let h : IsMemberSpelled look b.target name = inner.spelled (q, leads.2, v, subst (λ w. FieldsLead look w q leads.2 v) s.0 leads.4, on) in
        (i ∷ h.0, leads.1 || h.1, h.2, (b.target, leads.1, h.1, s.1, h.3, refl), h.4)

    mirrors_over : Mirrors look name from t u
    mirrors_over = record { hits = λ q p m f h. hit_over q p m f h.at h.leads h.has; spelled = λ h. spelled_over h.0 h.1 h.2 h.3 h.4 }

  pub alike_over : (t u : Term) (a b : EmbeddedEdge) → IsSoleBehind look t name from a → IsSoleBehind look u name from b → a.position ≡ b.position → a.pointer ≡ b.pointer → AreAlike look name from a.target b.target → AreAlike look name from t u
  alike_over t u a b at bt place star h =
      record {
        there = mirrors_over t u a b at bt place star h.there;
        back = mirrors_over u t b a bt at (sym place) (sym star) h.back;
        plain = λ _. sole_kind look u b bt.sole;
      }

pub stars_same : (a b : Bool) → not (beq a b) ≡ false → a ≡ b
stars_same true true h = refl
stars_same true false h = absurd (let z : true ≡ false = h in (cc))
stars_same false true h = absurd (let z : true ≡ false = h in (cc))
stars_same false false h = refl

-- 2. What is selected.

module _ (look : EntryLook) (name from : List ℕ) where
  selected_as : (t u : Term) → Mirrors look name from t u → Mirrors look name from u t → (path : List ℕ) (p : Bool) (f : Found) → IsSelected look t name from path p f → IsSelected look u name from path p f
  selected_as t u there back path p f s =
      record { number = s.number; hit = there.hits path p s.number f s.hit; shortest = λ q r m g h. s.shortest q r m g (back.hits q r m g h) }

  has_hit_as : (t u : Term) → Mirrors look name from t u → HasHit look t name from → HasHit look u name from
  has_hit_as t u there h = (h.0, h.1, h.2, h.3, there.hits h.0 h.1 h.2 h.3 h.4)

  missing_as : (t u : Term) → Mirrors look name from t u → Mirrors look name from u t → (rule : Rule) → IsMissing look t name from rule → IsMissing look u name from rule
  missing_as t u there back rule (ambiguous h) =
      ambiguous (record { some = has_hit_as t u there h.some; none = λ path p f s. h.none path p f (selected_as u t back there path p f s) })
  missing_as t u there back rule (hidden none h) = hidden (λ k. none (has_hit_as u t back k)) (there.spelled h)
  missing_as t u there back rule (absent none h) = absent (λ k. none (has_hit_as u t back k)) (λ k. h (back.spelled k))

module _ (look : EntryLook) (name from : List ℕ) (t u : Term) (plain : term_kind_in look t ≡ kinds.Other) (alike : AreAlike look name from t u) where
  answer_as : (star : Bool) (r : Result Selected Rule) → IsSelectorAnswer look (operand_type star t) name from r → IsSelectorAnswer look (operand_type star u) name from r
  answer_as star (Ok s) h =
      let w = subst (λ q. IsFoundAs look q name from s.path s.through_pointer (found_shown s.member)) (sym (operand_searched look t star plain)) h.1 in (
        h.0,
        subst (λ q. IsFoundAs look q name from s.path s.through_pointer (found_shown s.member)) (operand_searched look u star (alike.plain plain))
            (w.0, selected_as look name from t u alike.there alike.back s.path w.0 (found_shown s.member) w.1, w.2),
      )
  answer_as star (Err rule) (inl h) = inl h
  answer_as star (Err rule) (inr (inl h)) = inr (inl h)
  answer_as star (Err rule) (inr (inr h)) =
      let w = subst (λ q. IsRefused look q name from rule) (sym (operand_searched look t star plain)) h.1 in
      inr (inr (h.0, subst (λ q. IsRefused look q name from rule) (operand_searched look u star (alike.plain plain)) (missing_as look name from t u alike.there alike.back rule w)))

  pub same_answers : HasSameAnswers look t u name from
  same_answers = record { plain = answer_as false; starred = answer_as true }
