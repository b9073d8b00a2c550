-- What the answers of the parser mean.
use Rattle.std.proofs.Common.{◌≡◌, ℕ, ◌<◌, ◌≤◌, ◌^◌, List, length, Ok, Err, sym, ap, subst, arith, inl, inr}
use Rattle.std.specs.List.{All}
use Rattle.go_tree_nodes.specs.token_core.declared.token.Token.{Token}
use Rattle.go_scan_core.specs.Texts.{IsFilled}
use Rattle.go_scan_core.proofs.Answered.{one_list}
use Rattle.go_scan_core.specs.Tokens as scanned
use Rattle.go_tree_core.proofs.Order.{few_occs}
use Rattle.go_tree_nodes.specs.Heights.{file_height}
use Rattle.go_tree_nodes.specs.Spelling.{spell_file}
use Rattle.go_tree_nodes.specs.Terminals.{Terminal, terminals, InOrder}
use Rattle.go_tree_nodes.specs.Trees.{FileTree}
use Rattle.go_parse_reader.specs.declared.types.stop.Stop.{Stop}
use Rattle.go_parse_reader.specs.declared.types.stop.Stop.TheVariants as stop
use Rattle.go_parse_reader.specs.types.mirrors.Giving.{Fails}
use Rattle.go_parse_core.specs.declared.error.ParseError.{ParseError}
use Rattle.go_parse_core.specs.declared.error.ParseError.TheVariants as errors
use Rattle.go_parse_core.specs.Correct.{HasTree, max_height}
use Rattle.go_parse_core.specs.Parsing.{IsParse, IsTreeAnswer, IsTreeUnlessMemory}
use Rattle.go_parse_core.specs.mirrors.FileReading.{file_at}
use Rattle.go_parse_core.specs.mirrors.Stopping.{IsErrorOf}
use Rattle.go_parse_core.specs.Refusing.{IsTreeRefused, IsTreeTooHigh, IsRuleOf}
use Rattle.go_parse_core.proofs.CodePlaces.{terminals_in_order}
use Rattle.go_parse_core.proofs.Meanings.{found, has_one_tree, no_tree, no_low_tree, tree_of_tokens}

-- a file that is read
pub parsed : (text : List ℕ) (tokens : List Token) (f : FileTree) → scanned.IsAnswer text (Ok tokens) → scanned.TokensInOrder 0 tokens (length text) → All IsFilled tokens → length text < 2 ^ 64 → file_at 199 (terminals text tokens) ≡ Ok f → IsParse text f
parsed text tokens f is order filled short read =
    let w = found text tokens f is read in
    let spelled = (tree_of_tokens text tokens f is w.0).spelled in
    let P : List Terminal → Type 0 = λ ts. InOrder 0 ts (length text) in
    let placed : InOrder 0 (spell_file f) (length text) = subst P (sym spelled) (terminals_in_order text tokens 0 (length text) order filled) in
    record { found = w.0; low = w.1; placed = placed; few = omega (arith, few_occs f (length text) placed) }

-- a text that is not read
pub refused : (text : List ℕ) (tokens : List Token) (s : Stop) (e : ParseError) → scanned.IsAnswer text (Ok tokens) → Fails s (file_at 199 (terminals text tokens)) → IsErrorOf e s (length text) → IsTreeAnswer text (Err e)
refused text tokens stop.Memory errors.Memory is read h = tt
refused text tokens (stop.Grammar at) errors.Memory is read h = tt
refused text tokens (stop.TooHigh at) errors.Memory is read h = tt
refused text tokens stop.Memory (errors.Fault fault) is read h = absurd h
refused text tokens (stop.Grammar at) (errors.Fault fault) is read h =
    inr (record { tokens = tokens; scanned = is; within = h.1; why = inl (h.0, no_tree text tokens is read) })
refused text tokens (stop.TooHigh at) (errors.Fault fault) is read h =
    inr (record { tokens = tokens; scanned = is; within = h.1; why = inr (h.0, no_low_tree text tokens is read) })

-- and has no tree that is low enough
pub refused_only : (text : List ℕ) (tokens : List Token) (s : Stop) (e : ParseError) → scanned.IsAnswer text (Ok tokens) → Fails s (file_at 199 (terminals text tokens)) → IsErrorOf e s (length text) → (f : FileTree) → HasTree text f → file_height f ≤ max_height → IsTreeUnlessMemory (Err e)
refused_only text tokens stop.Memory errors.Memory is read h f has low = tt
refused_only text tokens (stop.Grammar at) errors.Memory is read h f has low = tt
refused_only text tokens (stop.TooHigh at) errors.Memory is read h f has low = tt
refused_only text tokens stop.Memory (errors.Fault fault) is read h f has low = h
refused_only text tokens (stop.Grammar at) (errors.Fault fault) is read h f has low = no_tree text tokens is read f has
refused_only text tokens (stop.TooHigh at) (errors.Fault fault) is read h f has low = no_low_tree text tokens is read f has low

-- a file that is read is the one tree, and low enough
pub parsed_high : (text : List ℕ) (tokens : List Token) (read : FileTree) → scanned.IsAnswer text (Ok tokens) → file_at 199 (terminals text tokens) ≡ Ok read → (f : FileTree) → HasTree text f → max_height < file_height f → ⊥
parsed_high text tokens read is e f has high =
    let w = found text tokens read is e in
    let same : file_height read ≡ file_height f = ap file_height (has_one_tree text read f w.0 has) in
    omega (arith, w.1, same, high)

-- a text with a tree that is too high has P2
pub refused_high : (text : List ℕ) (tokens : List Token) (s : Stop) (e : ParseError) → scanned.IsAnswer text (Ok tokens) → Fails s (file_at 199 (terminals text tokens)) → IsErrorOf e s (length text) → (f : FileTree) → HasTree text f → max_height < file_height f → IsTreeTooHigh (Err e)
refused_high text tokens stop.Memory errors.Memory is read h f has high = tt
refused_high text tokens (stop.Grammar at) errors.Memory is read h f has high = tt
refused_high text tokens (stop.TooHigh at) errors.Memory is read h f has high = tt
refused_high text tokens stop.Memory (errors.Fault fault) is read h f has high = absurd h
refused_high text tokens (stop.Grammar at) (errors.Fault fault) is read h f has high = absurd (no_tree text tokens is read f has)
refused_high text tokens (stop.TooHigh at) (errors.Fault fault) is read h f has high = h.0

-- the rule is that by which reading stops
pub refused_read : (text : List ℕ) (tokens : List Token) (s : Stop) (e : ParseError) → scanned.IsAnswer text (Ok tokens) → Fails s (file_at 199 (terminals text tokens)) → IsErrorOf e s (length text) → IsTreeRefused text (Err e)
refused_read text tokens stop.Memory errors.Memory is read h = tt
refused_read text tokens (stop.Grammar at) errors.Memory is read h = tt
refused_read text tokens (stop.TooHigh at) errors.Memory is read h = tt
refused_read text tokens stop.Memory (errors.Fault fault) is read h = absurd h
refused_read text tokens (stop.Grammar at) (errors.Fault fault) is read h = λ others so.
    subst (λ ts. IsRuleOf (file_at 199 (terminals text ts)) fault.rule) (one_list text tokens others is so) (subst (λ r. IsRuleOf r fault.rule) (sym read) h.0)
refused_read text tokens (stop.TooHigh at) (errors.Fault fault) is read h = λ others so.
    subst (λ ts. IsRuleOf (file_at 199 (terminals text ts)) fault.rule) (one_list text tokens others is so) (subst (λ r. IsRuleOf r fault.rule) (sym read) h.0)

pub fails_at : (ts us : List Terminal) (s : Stop) → ts ≡ us → Fails s (file_at 199 ts) → Fails s (file_at 199 us)
fails_at ts us s same failed = let P : List Terminal → Type 0 = λ ts. Fails s (file_at 199 ts) in subst P same failed
