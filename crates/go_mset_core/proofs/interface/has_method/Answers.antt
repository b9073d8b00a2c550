use Rattle.std.proofs.Common.{◌≡◌, true, false, inl, inr}
use Rattle.go_term_core.proofs.SameLists.{fails}
use Rattle.go_select_core.specs.table_core.Entries.{find_entry}
use Rattle.go_mset_core.specs.mirrors.Asking.{holder_shown, sign_wanted}
use Rattle.go_mset_core.proofs.Answering.{answer_has, rule_lacks}
use Rattle.go_mset_core.proofs.interface.has_method.Goals as goal

pub returns-in-Ok : goal.returns-in-Ok
returns-in-Ok c =
    let h = answer_has (find_entry c.args.table.now) (holder_shown c.args.holder) c.args.name.now c.args.from.now (sign_wanted c.args.wanted) c.in-Ok.found c.in-Ok.ensures in
    let w = c.is_wanted.ensures in
    (λ r. h.0 (w.0 r), λ m. w.1 (h.1 m))

pub returns-else-is_memory : goal.returns-else-is_memory
returns-else-is_memory c =
    fails (λ h.
    elim c.in-Err.ensures [
      | inl memory ↦ let z : false ≡ true = c.if-is_memory.ensures.1 memory in (cc)
      | inr rule ↦ rule_lacks (find_entry c.args.table.now) (holder_shown c.args.holder) c.args.name.now c.args.from.now (sign_wanted c.args.wanted) c.in-Err.rule rule h
    ])
