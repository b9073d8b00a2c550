use Rattle.std.proofs.Common.{◌≡◌, get_or, sym, ap, ◌∙◌, subst}
use Rattle.std.specs.Prelude.{string_bytes}
use Rattle.go_collections_core.specs.name_table.Named.{entries_named, value_at, AreOnce}
use Rattle.go_collections_core.proofs.NameTableOnce.{copied_absent}
use Rattle.go_collections_core.proofs.name_table.named.NameTable.copy.Goals as goal

pub add-requires : goal.add-requires
add-requires g c =
    let at = c.loop-name in
    let es = c.deref-name-items.result.now in
    let d = c.loop-name-item.result in
    let once : AreOnce (entries_named es) = subst (λ l. AreOnce (entries_named l)) (sym c.deref-name-items.ensures.value) c.self.invariant.1 in
    let name : c.as_str.result.now ≡ string_bytes (get_or es at.name-index d).0 = c.as_str.ensures.value ∙ ap (λ e. string_bytes e.0) c.loop-name-item.is in
    ap (value_at at.copied.names) name ∙ copied_absent es at.name-index d c.loop-name-test.true at.copied.names at.invariant once
