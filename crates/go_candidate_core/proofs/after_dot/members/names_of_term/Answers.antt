use Rattle.std.proofs.Common.{List, ℕ, sym, subst}
use Rattle.go_table_core.specs.Entries.{find_entry}
use Rattle.go_term_core.specs.Shapes.{shape}
use Rattle.go_select_core.specs.Selections.{IsListing}
use Rattle.go_candidate_core.specs.after_dot.mirrors.Usable.{AreBehind}
use Rattle.go_candidate_core.proofs.AfterDotChosen.{listed_behind}
use Rattle.go_candidate_core.proofs.after_dot.members.names_of_term.Goals as goal

pub returns : goal.returns
returns c =
    let es = c.args.table.now in
    let t = shape c.args.term.now in
    subst (λ (l : List (List ℕ)). AreBehind es c.args.home.now c.args.usage c.args.is_addressable t l) (sym c.in_ok-names.ensures)
    (listed_behind es c.args.home.now c.args.usage c.args.is_addressable t c.in_ok-listed.listed.items (subst (λ (p : List ℕ). IsListing (find_entry es) t p c.in_ok-listed.listed.items) c.path.ensures c.in_ok-listed.ensures))
