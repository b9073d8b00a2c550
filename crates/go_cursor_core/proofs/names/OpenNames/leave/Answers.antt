use Rattle.std.proofs.Common.{◌≡◌, ℕ, length, take, drop, Vec, ap, ◌∙◌, arith}
use Rattle.std.specs.Prelude.{vec_len}
use Rattle.go_cursor_core.specs.Blocks.{OpenBlock, opened}
use Rattle.go_cursor_core.specs.Shown.{idents_shown}
use Rattle.go_cursor_core.proofs.NameLists.{left}
use Rattle.go_cursor_core.proofs.names.OpenNames.leave.Goals as goal

len_as_list : {T A : Type 0} (v : Vec T A) (n : ℕ) → n ≡ vec_len v → n ≡ length v.items
len_as_list v n is = omega (arith, v.ok.0)

pub returns : goal.returns
returns c =
    let ys = c.truncate.new.self.items in
    let o = c.args.outer in
    ap (λ k. opened (take k (idents_shown ys)) (drop k (idents_shown ys))) c.min-self-inside.ensures
    ∙ (left o c.self.inside.outer c.len.result ys c.self.inside.names.items c.truncate.ensures.items (len_as_list c.truncate.new.self c.len.result c.len.ensures)
    ∙ ap (λ (s : OpenBlock). opened (take o s.outer) (drop o s.outer)) c.self.view_is)
