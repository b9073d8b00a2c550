-- The fields of struct types, counted.
use Rattle.std.proofs.Common.{◌≡◌, suc, List, [], ◌∷◌, length, refl, ap}
use Rattle.go_term_core.specs.declared.term.Field.{Field}
use Rattle.go_term_core.specs.Shapes.{Line, fields_in}
use Rattle.go_term_core.specs.Forms.{field_count}

pub count_list : (ls : List Line) (fs : List Field) → field_count (fields_in ls fs) ≡ length fs
count_list ls [] = refl
count_list ls (f ∷ fs) = ap suc (count_list ls fs)
