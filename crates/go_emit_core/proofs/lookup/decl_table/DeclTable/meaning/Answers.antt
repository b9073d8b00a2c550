use Rattle.std.proofs.Common.{◌≡◌, ◌∙◌, get_or, map, Some, sym, ap, refl, arith}
use Rattle.std.specs.Map.{lookup}
use Rattle.go_code_core.specs.declared.fragments.names.Meaning.TheVariants as meanings
use Rattle.go_emit_core.specs.lookup.Places.{spotted_meaning, same_spot, decl_spot}
use Rattle.go_emit_core.specs.lookup.mirrors.Spotting.{item_shown, same_key, spot_shown}
use Rattle.go_emit_core.proofs.LookupFilling.{found, missing}
use Rattle.go_emit_core.proofs.lookup.decl_table.DeclTable.meaning.Goals as goal

pub index-requires : goal.index-requires
index-requires c =
    let key = c.new-key.result in
    let items = c.self.inside.items in
    let f = found (λ i. same_key key i.spot) (λ i. i.meaning) (λ l. lookup (same_spot (spot_shown key)) (map item_shown l)) refl (λ a rest. refl) items.items 0 c.in-Some.number (record { spot = key; meaning = meanings.Other })
    (sym (c.self.invariant key) ∙ (sym c.number_in.ensures ∙ c.in-Some.is)) in
    omega (arith, f.is, f.within, items.ok.0)

pub returns-in-Some : goal.returns-in-Some
returns-in-Some c =
    let key = c.new-key.result in
    let items = c.self.inside.items in
    let read = c.index.result.now in
    let f = found (λ i. same_key key i.spot) (λ i. i.meaning) (λ l. lookup (same_spot (spot_shown key)) (map item_shown l)) refl (λ a rest. refl) items.items 0 c.in-Some.number read
    (sym (c.self.invariant key) ∙ (sym c.number_in.ensures ∙ c.in-Some.is)) in
    let same : c.in-Some.number ≡ f.place = omega (arith, f.is) in
    ap (λ i. Some i.meaning) c.index.ensures ∙ (ap (λ n. Some (get_or items.items n read).meaning) same ∙ (sym f.has
    ∙ (ap (λ s. lookup (same_spot s) (map item_shown items.items)) c.new-key.ensures ∙ ap (λ m. spotted_meaning m (decl_spot c.args.path.now c.args.decl)) c.self.view_is)))

pub returns-in-None : goal.returns-in-None
returns-in-None c =
    let key = c.new-key.result in
    let items = c.self.inside.items in
    sym (missing (λ i. same_key key i.spot) (λ i. i.meaning) (λ l. lookup (same_spot (spot_shown key)) (map item_shown l)) refl (λ a rest. refl) items.items 0 (sym (c.self.invariant key) ∙ (sym c.number_in.ensures ∙ c.in-None.is)))
    ∙ (ap (λ s. lookup (same_spot s) (map item_shown items.items)) c.new-key.ensures ∙ ap (λ m. spotted_meaning m (decl_spot c.args.path.now c.args.decl)) c.self.view_is)
