use Rattle.std.proofs.Common.{◌≡◌, ◌∙◌, nat_eq, get_or, Some, sym, ap, refl, arith}
use Rattle.std.specs.Map.{lookup}
use Rattle.go_code_core.specs.declared.fragments.names.Meaning.TheVariants as meanings
use Rattle.go_emit_core.specs.lookup.Looking.{place_at}
use Rattle.go_emit_core.proofs.LookupFilling.{found, missing}
use Rattle.go_emit_core.proofs.lookup.offset_table.OffsetTable.meaning.Goals as goal

pub index-requires : goal.index-requires
index-requires c =
    let at = c.args.offset in
    let items = c.self.inside.items in
    let f = found (λ e. nat_eq at e.0) (λ e. e.1) (lookup (nat_eq at)) refl (λ a rest. refl) items.items 0 c.in-Some.place (0, meanings.Other) (ap (λ l. place_at l at) c.self.view_is ∙ (sym c.place.ensures ∙ c.in-Some.is)) in
    omega (arith, f.is, f.within, items.ok.0)

pub returns-in-Some : goal.returns-in-Some
returns-in-Some c =
    let at = c.args.offset in
    let items = c.self.inside.items in
    let read = c.index.result.now in
    let f = found (λ e. nat_eq at e.0) (λ e. e.1) (lookup (nat_eq at)) refl (λ a rest. refl) items.items 0 c.in-Some.place read (ap (λ l. place_at l at) c.self.view_is ∙ (sym c.place.ensures ∙ c.in-Some.is)) in
    let same : c.in-Some.place ≡ f.place = omega (arith, f.is) in
    ap (λ e. Some e.1) c.index.ensures ∙ (ap (λ n. Some (get_or items.items n read).1) same ∙ (sym f.has ∙ ap (lookup (nat_eq at)) c.self.view_is))

pub returns-in-None : goal.returns-in-None
returns-in-None c =
    let at = c.args.offset in
    sym (missing (λ e. nat_eq at e.0) (λ e. e.1) (lookup (nat_eq at)) refl (λ a rest. refl) c.self.inside.items.items 0 (ap (λ l. place_at l at) c.self.view_is ∙ (sym c.place.ensures ∙ c.in-None.is))) ∙ ap (lookup (nat_eq at)) c.self.view_is
