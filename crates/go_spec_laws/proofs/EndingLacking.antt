-- Functions that lack a terminating statement, and their fault.
use Rattle.std.proofs.Common.{◌≡◌, ℕ, zero, suc, Bool, true, false, not, ◌&&◌, inl, inr, List, [], ◌∷◌, refl, sym, ap, ◌∙◌, eq-eqb, arith}
use Rattle.std.specs.Prelude.{Contains, nat_eq, if◌then◌else◌}
use borrow.Author.Tests.{eqb-true}
use Rattle.std.proofs.lemmas.Bool.{and_parts, and_from, or_cases, or_left, or_right}
use Rattle.go_universe_core.specs.declared.Predeclared.{Predeclared}
use Rattle.go_universe_core.specs.declared.Predeclared.TheVariants as predeclared
use Rattle.go_tree_nodes.specs.Trees as tree
use Rattle.go_tree_nodes.specs.Trees.{SignatureTree, ResultTree, Signed, NoResult, OneResult, Results, ParamTrees, NoParams, Param, ExprTree, Integer, Named, Paren, Unary, Binary, Select, Call, Literal, StructLiteral, StmtTree, Lines, FuncTree}
use Rattle.go_handle_core.specs.Declarations.{Declaration, Universe, OfError, Package, InFile}
use Rattle.go_denote_core.specs.declared.things.Outcome.{Outcome}
use Rattle.go_denote_core.specs.declared.things.Outcome.TheVariants as outcomes
use Rattle.go_local_core.specs.walks.Ends.{are_terminating}
use Rattle.go_local_core.specs.declared.Fault.{Fault}
use Rattle.go_body_core.specs.Ends.{returns_some, is_panic_name, is_panic_declaration, has_panic, panics_at, names_one, calls_one}
use Rattle.go_body_core.specs.Notes.{TheUse}
use Rattle.go_spec_laws.specs.ending.Ending.{IsTerminating, AReturn, APanic, ABlock, AnIf, AFor, EndTerminating}
use Rattle.go_spec_laws.specs.ending.Functions.{DeclaresResults, ASingleResult, ListedResults, IsNameAt, TheName, NameInParens, IsCallAt, TheCall, CallInParens, DenotesPanic, IsPanicCall, lack_at}
use Rattle.go_spec_laws.specs.ending.FunctionLaws.{LackedReturnsAreFaults}
use Rattle.go_spec_laws.proofs.EndingTerminating.{lists_end}

-- terminating by other calls of `panic` too

terminating_too : {P Q : ExprTree → Type 0} → ((t : ExprTree) → P t → Q t) → {s : StmtTree} → IsTerminating P s → IsTerminating Q s
terminating_too more AReturn = AReturn
terminating_too more (APanic {t = t} p) = APanic (more t p)
terminating_too more (ABlock f t) = ABlock f (terminating_too more t)
terminating_too more (AnIf t e u) = AnIf (terminating_too more t) e (terminating_too more u)
terminating_too more (AFor n c) = AFor n c

end_too : {P Q : ExprTree → Type 0} → ((t : ExprTree) → P t → Q t) → (ls : Lines) → EndTerminating P ls → EndTerminating Q ls
end_too more ls e = record { statement = e.statement; final = e.final; terminating = terminating_too more e.terminating }

-- the predeclared `panic`

name_is : (p : Predeclared) → is_panic_name p ≡ true → p ≡ predeclared.Panic
name_is predeclared.Panic h = refl
name_is _ h = absurd (cc)

declared_is : (d : Declaration) → is_panic_declaration d ≡ true → d ≡ Universe predeclared.Panic
declared_is (Universe p) h = ap Universe (name_is p h)
declared_is OfError h = absurd (cc)
declared_is (Package path) h = absurd (cc)
declared_is (InFile path place) h = absurd (cc)

outcome_is : (o : Outcome Declaration (List ℕ)) → has_panic o ≡ true → o ≡ outcomes.Declared (Universe predeclared.Panic)
outcome_is (outcomes.Declared d) h = ap outcomes.Declared (declared_is d h)
outcome_is (outcomes.Selected d path) h = absurd (cc)
outcome_is (outcomes.Refused rule) h = absurd (cc)

-- occurrences that denote it

denotes : (us : List TheUse) (offset : ℕ) → panics_at us offset ≡ true → DenotesPanic us offset
denotes [] offset h = absurd (cc)
denotes (u ∷ us) offset h =
    elim (or_cases (nat_eq offset u.offset && has_panic u.outcome) (panics_at us offset) h) [
      | inl x ↦ (let both = and_parts (nat_eq offset u.offset) (has_panic u.outcome) x in record { occurrence = u; there = (0, omega arith, refl); here = sym (eqb-true offset u.offset both.0); denotes = outcome_is u.outcome both.1 })
      | inr y ↦ (let d = denotes us offset y in record { occurrence = d.occurrence; there = (suc d.there.0, omega (arith, d.there.1), d.there.2); here = d.here; denotes = d.denotes })
    ]

found_at : (us : List TheUse) (offset k : ℕ) (u : TheUse) → u.offset ≡ offset → u.outcome ≡ outcomes.Declared (Universe predeclared.Panic) → (place : Contains us u) → place.0 ≡ k → panics_at us offset ≡ true
found_at [] offset k u at has place is = absurd (omega (arith, place.1))
found_at (v ∷ us) offset zero u at has (zero, lt, here) is =
    or_left (nat_eq offset v.offset && has_panic v.outcome) (panics_at us offset)
    (and_from (nat_eq offset v.offset) (has_panic v.outcome) (eq-eqb offset v.offset (sym at ∙ sym (ap (λ w. w.offset) here))) (ap (λ w. has_panic w.outcome) here ∙ ap has_panic has))
found_at (v ∷ us) offset (suc k) u at has (zero, lt, here) is = absurd (omega (arith, is))
found_at (v ∷ us) offset zero u at has (suc j, lt, here) is = absurd (omega (arith, is))
found_at (v ∷ us) offset (suc k) u at has (suc j, lt, here) is =
    or_right (nat_eq offset v.offset && has_panic v.outcome) (panics_at us offset) (found_at us offset k u at has (j, omega (arith, lt), here) (omega (arith, is)))

found : (us : List TheUse) (offset : ℕ) → DenotesPanic us offset → panics_at us offset ≡ true
found us offset d = found_at us offset d.there.0 d.occurrence d.here d.denotes d.there refl

-- calls

module _ (at : ℕ → Bool) where
  name_at : (t : ExprTree) → names_one at t ≡ true → (offset : ℕ) × IsNameAt offset t × (at offset ≡ true)
  name_at (Integer n span) h = absurd (cc)
  name_at (tree.Text t) h = absurd (cc)
  name_at (Named x) h = (x.span.start, TheName refl, h)
  name_at (Paren first e last) h = let r = name_at e h in (r.0, NameInParens r.1, r.2)
  name_at (Unary op span e) h = absurd (cc)
  name_at (Binary a op span b) h = absurd (cc)
  name_at (Select e dot x) h = absurd (cc)
  name_at (Call e first items last) h = absurd (cc)
  name_at (Literal n first items last) h = absurd (cc)
  name_at (StructLiteral t first items last) h = absurd (cc)

  call_at : (t : ExprTree) → calls_one at t ≡ true → (offset : ℕ) × IsCallAt offset t × (at offset ≡ true)
  call_at (Integer n span) h = absurd (cc)
  call_at (tree.Text t) h = absurd (cc)
  call_at (Named x) h = absurd (cc)
  call_at (Paren first e last) h = let r = call_at e h in (r.0, CallInParens r.1, r.2)
  call_at (Unary op span e) h = absurd (cc)
  call_at (Binary a op span b) h = absurd (cc)
  call_at (Select e dot x) h = absurd (cc)
  call_at (Call e first items last) h = let r = name_at e h in (r.0, TheCall r.1, r.2)
  call_at (Literal n first items last) h = absurd (cc)
  call_at (StructLiteral t first items last) h = absurd (cc)

  named : {offset : ℕ} {t : ExprTree} → IsNameAt offset t → at offset ≡ true → names_one at t ≡ true
  named (TheName is) h = ap at is ∙ h
  named (NameInParens n) h = named n h

  called : {offset : ℕ} {t : ExprTree} → IsCallAt offset t → at offset ≡ true → calls_one at t ≡ true
  called (TheCall n) h = named n h
  called (CallInParens c) h = called c h

panic_call : (us : List TheUse) (t : ExprTree) → calls_one (panics_at us) t ≡ true → IsPanicCall us t
panic_call us t h = let r = call_at (panics_at us) t h in record { callee = r.0; calls = r.1; panics = denotes us r.0 r.2 }

panic_found : (us : List TheUse) (t : ExprTree) → IsPanicCall us t → calls_one (panics_at us) t ≡ true
panic_found us t p = called (panics_at us) p.calls (found us p.callee p.panics)

-- results

pub declares : (g : SignatureTree) → returns_some g ≡ true → DeclaresResults g
declares (Signed first ps last NoResult) h = absurd (cc)
declares (Signed first ps last (OneResult t)) h = ASingleResult
declares (Signed first ps last (Results before NoParams behind)) h = absurd (cc)
declares (Signed first ps last (Results before (Param xs t comma more) behind)) h = ListedResults

declared : {g : SignatureTree} → DeclaresResults g → returns_some g ≡ true
declared ASingleResult = refl
declared ListedResults = refl

-- faults

with_fault : (r e : Bool) (f : Fault) → r ≡ true → ¬ (e ≡ true) → (if r && not e then f ∷ [] else []) ≡ f ∷ []
with_fault true true f h n = absurd (n refl)
with_fault true false f h n = refl
with_fault false e f h n = absurd (cc)

without_fault : (r e : Bool) (f : Fault) → (r ≡ true → ¬ (e ≡ true) → ⊥) → (if r && not e then f ∷ [] else []) ≡ []
without_fault true true f n = refl
without_fault true false f n = absurd (n refl (λ h. cc))
without_fault false e f n = refl

ended : (us : List TheUse) (f : FuncTree) → are_terminating (calls_one (panics_at us)) f.body ≡ true → EndTerminating (IsPanicCall us) f.body
ended us f h = end_too (λ t p. panic_call us t p) f.body ((lists_end (calls_one (panics_at us)) f.body).0 h)

pub end_found : (us : List TheUse) (f : FuncTree) → EndTerminating (IsPanicCall us) f.body → are_terminating (calls_one (panics_at us)) f.body ≡ true
end_found us f e = (lists_end (calls_one (panics_at us)) f.body).1 (end_too (λ t p. panic_found us t p) f.body e)

pub are_lacked : LackedReturnsAreFaults
are_lacked = record {
  calls = λ us t. (λ h. panic_call us t h, λ p. panic_found us t p);
  fault = λ us f l. with_fault (returns_some f.signature) (are_terminating (calls_one (panics_at us)) f.body) (lack_at f.close_brace) (declared l.results) (λ h. l.unended (ended us f h));
  none = λ us f n. without_fault (returns_some f.signature) (are_terminating (calls_one (panics_at us)) f.body) (lack_at f.close_brace) (λ h k. n (record { results = declares f.signature h; unended = λ e. k (end_found us f e) }));
}
