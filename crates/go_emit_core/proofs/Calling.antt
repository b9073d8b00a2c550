-- In an object the references of a function are those of its own body's occurrences.
use Rattle.std.proofs.Common.{◌≡◌, ℕ, ◌+◌, ◌-◌, true, List, drop, All, Option, Some, slice_get, nat_lt, refl, ap, subst, ◌∙◌, arith}
use Rattle.std.specs.List.{prefix_len}
use Rattle.std.proofs.lemmas.List.Elements.{All-drop, All-take, All-weaker}
use Rattle.std.proofs.lemmas.Option.{get_or_from_slice_get, slice_get_within}
use Rattle.go_expr_core.specs.denote_core.declared.things.Outcome.{Outcome}
use Rattle.go_expr_core.specs.denote_core.declared.things.Outcome.TheVariants as outcomes
use Rattle.go_declared_core.specs.handle_core.Declarations.{Declaration}
use Rattle.go_package_core.specs.body_core.Notes.{TheUse}
use Rattle.go_package_core.specs.report_core.UsageUsed.{is_declared}
use Rattle.go_package_core.specs.package_part.Parts.{FileOf}
use Rattle.go_emit_core.specs.Emitted.{body_first, body_uses, outcome_declarations, code_scene_over}
use Rattle.go_emit_core.specs.Laws.{CallsNameTheirOwn, HasNoFault, declaration_of}
use Rattle.go_emit_core.specs.meaning.Looking.{locals_meant}
use Rattle.go_emit_core.specs.lookup.Looking.{place_or_zero}
use Rattle.go_emit_core.specs.meaning.Scenes.{outcome_meaning}
use Rattle.go_emit_core.proofs.Between.{placed}
use Rattle.go_emit_core.proofs.Faultless.{objects_faultless}
use Rattle.go_emit_core.proofs.Referring.{GivesOne, given_at, in_drop, in_take}

abbrev gives : TheUse → List Declaration
gives u = outcome_declarations u.outcome

abbrev one_of : TheUse → Option Declaration
one_of u = declaration_of u.outcome

gives_one : (u : TheUse) → is_declared u.outcome ≡ true → GivesOne gives one_of u
gives_one u h = by u.outcome refl h
  where
    by : (o : Outcome Declaration (List ℕ)) → u.outcome ≡ o → is_declared o ≡ true → GivesOne gives one_of u
    by (outcomes.Declared d) e h = record { given = d; is = ap outcome_declarations e; one_of = ap declaration_of e }
    by (outcomes.Selected d path) e h = record { given = d; is = ap outcome_declarations e; one_of = ap declaration_of e }
    by (outcomes.Refused rule) e h = cc

file_at : (fs : List FileOf) (n : ℕ) (f : FileOf) → All HasNoFault fs → slice_get fs n ≡ Some f → HasNoFault f
file_at fs n f h e = subst HasNoFault (get_or_from_slice_get fs n f f e) (h n f (slice_get_within fs n f e))

pub calls_name_their_own : CallsNameTheirOwn
calls_name_their_own all i c part has n f there rise g number u at =
    let uses = f.answers.uses in
    let fine = file_at c.files n f (objects_faultless all i c part has) there in
    let each : All (GivesOne gives one_of) uses = All-weaker (λ (v : TheUse). is_declared v.outcome ≡ true) (GivesOne gives one_of) gives_one uses fine.declared in
    let first = body_first uses g in
    let inside = drop first uses in
    let count = prefix_len (λ (v : TheUse). nat_lt v.offset g.close_brace.start) inside in
    let body : All (GivesOne gives one_of) (body_uses uses g) = All-take (GivesOne gives one_of) count inside (All-drop (GivesOne gives one_of) first uses each) in
    let whole : slice_get uses (first + number) ≡ Some u = in_drop first uses number u (in_take count inside number u at) in
    let locals = locals_meant (code_scene_over all i c).types f.answers.locals in
    let place = placed (λ (v : TheUse). v.offset) (λ (v : TheUse). outcome_meaning (code_scene_over all i c) n locals v.outcome) uses rise (first + number) 0 u whole in
    let counted : 0 + (first + number) - first ≡ number = omega arith in
    record {
      declared = given_at gives one_of (body_uses uses g) body number u at;
      called = ap (λ (p : Option ℕ). place_or_zero p - first) place ∙ counted;
    }
