use Rattle.std.proofs.Common.{◌≡◌, ◌∙◌, get_or, Some, sym, ap, arith}
use Rattle.std.specs.Prelude.{ℕ, []}
use Rattle.go_term_core.specs.Terms.{NoType}
use Rattle.go_inline_core.specs.Types.{InlineOf, inline_at}
use Rattle.go_inline_core.specs.mirrors.Places.{place_at}
use Rattle.go_inline_core.proofs.Lookups.{found, missing}
use Rattle.go_inline_core.proofs.types.InlineTypes.at.Goals as goal

pub index-requires : goal.index-requires
index-requires c =
    let notes = c.self.inside.notes in
    let none : ℕ × InlineOf = (0, record { term = NoType; faults = [] }) in
    let f = found notes.items c.args.offset 0 c.in-Some.place none (ap (λ l. place_at l c.args.offset) c.self.view_is ∙ (sym c.place.ensures ∙ c.in-Some.is)) in
    omega (arith, f.is, f.within, notes.ok.0)

pub returns-in-Some : goal.returns-in-Some
returns-in-Some c =
    let notes = c.self.inside.notes in
    let read = c.index.result.now in
    let f = found notes.items c.args.offset 0 c.in-Some.place read (ap (λ l. place_at l c.args.offset) c.self.view_is ∙ (sym c.place.ensures ∙ c.in-Some.is)) in
    let same : c.in-Some.place ≡ f.place = omega (arith, f.is) in
    ap Some c.inline.ensures
    ∙ (ap (λ (t : ℕ × InlineOf). Some t.1) c.index.ensures
    ∙ (ap (λ (n : ℕ). Some (get_or notes.items n read).1) same ∙ (sym f.has ∙ ap (λ l. inline_at l c.args.offset) c.self.view_is)))

pub returns-in-None : goal.returns-in-None
returns-in-None c =
    sym (missing c.self.inside.notes.items c.args.offset 0 (ap (λ l. place_at l c.args.offset) c.self.view_is ∙ (sym c.place.ensures ∙ c.in-None.is))) ∙ ap (λ l. inline_at l c.args.offset) c.self.view_is
