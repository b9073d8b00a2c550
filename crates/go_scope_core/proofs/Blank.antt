-- The blank identifier is in no open block of a function.
use Rattle.std.proofs.Common.{◌≡◌, ℕ, Bool, true, false, not, ◌&&◌, cond, List, [], ◌∷◌, ◌++◌, Some, None, is_some, refl, ap, ◌∙◌, if◌then◌else◌}
use Rattle.std.specs.Str.{bytes_eq}
use Rattle.std.proofs.lemmas.Bool.{true≢false}
use Rattle.std.proofs.lemmas.List.Elements.{All-nil, All-cons, All-head, All-tail, All-push, All-pop}
use Rattle.std.proofs.lemmas.Slice.Eq.{bytes_eq-Decides}
use Rattle.go_text_core.specs.Text.{is_blank}
use Rattle.go_block_core.specs.scope_stack.declared.DeclId.{DeclId}
use Rattle.go_block_core.specs.scope_stack.Blocks.{in_block, innermost, with_innermost, block_with, block_after, is_new, NoneHas}
use Rattle.go_block_core.specs.graph_core.Packages.{blank}
use Rattle.go_scope_core.specs.Laws.{BlankStaysOut}

abbrev Lacks : List (List ℕ × DeclId) → Type 0
Lacks block = in_block block blank ≡ None

-- the innermost block, and one in its place
innermost_lacks : (blocks : List (List (List ℕ × DeclId))) → NoneHas blocks blank → Lacks (innermost blocks)
innermost_lacks [] h = refl
innermost_lacks (b ∷ []) h = All-head Lacks b [] h
innermost_lacks (b ∷ c ∷ bs) h = innermost_lacks (c ∷ bs) (All-tail Lacks b (c ∷ bs) h)

none_with_innermost : (blocks : List (List (List ℕ × DeclId))) (new : List (List ℕ × DeclId)) → NoneHas blocks blank → Lacks new → NoneHas (with_innermost blocks new) blank
none_with_innermost [] new h lacks = All-nil _
none_with_innermost (b ∷ []) new h lacks = All-cons Lacks new [] lacks (All-nil _)
none_with_innermost (b ∷ c ∷ bs) new h lacks = All-cons Lacks b (with_innermost (c ∷ bs) new) (All-head Lacks b (c ∷ bs) h) (none_with_innermost (c ∷ bs) new (All-tail Lacks b (c ∷ bs) h) lacks)

-- one more name that is not blank
other_name : (name : List ℕ) → is_blank name ≡ false → bytes_eq blank name ≡ false
other_name name plain = by (bytes_eq blank name) refl
  where
    by : (b : Bool) → bytes_eq blank name ≡ b → b ≡ false
    by true same = absurd (true≢false (ap is_blank ((bytes_eq-Decides blank name).0 same) ∙ plain))
    by false same = refl

lacks_more : (block : List (List ℕ × DeclId)) (n : List ℕ × DeclId) → Lacks block → is_blank n.0 ≡ false → Lacks (block ++ n ∷ [])
lacks_more [] n h plain = ap (λ b. cond b (Some n.1) None) (other_name n.0 plain)
lacks_more (e ∷ es) n h plain = by (bytes_eq blank e.0) h (lacks_more es n)
  where
    by : (b : Bool) → cond b (Some e.1) (in_block es blank) ≡ None → (Lacks es → is_blank n.0 ≡ false → Lacks (es ++ n ∷ [])) → cond b (Some e.1) (in_block (es ++ n ∷ []) blank) ≡ None
    by true h rest = cc
    by false h rest = rest h plain

-- a declaration
with_lacks : (block : List (List ℕ × DeclId)) (name : List ℕ) (id : DeclId) → Lacks block → Lacks (block_with block name id)
with_lacks block name id h = by (is_blank name) refl
  where
    by : (b : Bool) → is_blank name ≡ b → Lacks (if b then block else block ++ (name, id) ∷ [])
    by true is = h
    by false is = lacks_more block (name, id) h is

-- a short declaration
after_lacks : (names block : List (List ℕ × DeclId)) → Lacks block → Lacks (block_after block names)
after_lacks [] block h = h
after_lacks (n ∷ names) block h = after_lacks names (if is_new block n.0 then block ++ n ∷ [] else block) (by (is_blank n.0) refl (is_some (in_block block n.0)))
  where
    by : (b : Bool) → is_blank n.0 ≡ b → (had : Bool) → Lacks (if not b && not had then block ++ n ∷ [] else block)
    by true is had = h
    by false is true = h
    by false is false = lacks_more block n h is

pub blank_stays_out : BlankStaysOut
blank_stays_out blocks h = record {
  enter = All-push Lacks blocks [] h refl;
  leave = λ outer top is. (All-pop Lacks blocks outer (Some top) is h).0;
  declare = λ name id. none_with_innermost blocks (block_with (innermost blocks) name id) h (with_lacks (innermost blocks) name id (innermost_lacks blocks h));
  declare_short = λ names. none_with_innermost blocks (block_after (innermost blocks) names) h (after_lacks names (innermost blocks) (innermost_lacks blocks h));
}
