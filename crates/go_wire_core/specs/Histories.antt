-- What a desk is told that keeps a list of what it was asked and what it replied.
use Rattle.std.specs.Prelude.{◌≡◌, ℕ, List, [], ◌∷◌, ◌++◌, map}
use Rattle.go_wire_core.specs.declared.request.Request.{Request}
use Rattle.go_wire_core.specs.declared.reply.WireReply.{WireReply}
use Rattle.go_wire_core.specs.declared.reply.WireReply.TheVariants.{Refused}
use Rattle.go_wire_core.specs.declared.step.Step.{Step}
use Rattle.go_wire_core.specs.declared.step.Step.TheVariants.{Ask, Refuse}
use Rattle.go_wire_core.specs.Replies.{line_of}
use Rattle.go_wire_core.specs.Steps.{AreDone}

-- the requests of steps, in order
abbrev pub requests_of : List Step → List Request
requests_of [] = []
requests_of (Ask request ∷ steps) = request ∷ requests_of steps
requests_of (Refuse session rule ∷ steps) = requests_of steps

-- the lines of these replies to them, and of the refusals between, in order
abbrev pub lines_for : List Step → List WireReply → List ℕ
lines_for [] replies = []
lines_for (Ask request ∷ steps) [] = []
lines_for (Ask request ∷ steps) (reply ∷ replies) = line_of request.session reply ++ lines_for steps replies
lines_for (Refuse session rule ∷ steps) replies = line_of session (Refused rule) ++ lines_for steps replies

-- such a desk notes each request and its reply at the end of its list
abbrev pub Notes : {D : Type 0} → (D → Request → WireReply → D → Type 0) → (D → List (Request × WireReply)) → Type 0
Notes {D} answers history = (d : D) (request : Request) (reply : WireReply) (e : D) → answers d request reply e → history e ≡ history d ++ (request, reply) ∷ []

-- it was asked the requests of the steps, and no others, and what went out are the lines of its replies and of the refusals
pub record IsNoted {D : Type 0} (history : D → List (Request × WireReply)) (steps : List Step) (d e : D) (out : List ℕ) : Type 0 where
  pub noted : List (Request × WireReply)
  pub grows : history e ≡ history d ++ noted
  pub asked : map (λ (p : Request × WireReply). p.0) noted ≡ requests_of steps
  pub written : out ≡ lines_for steps (map (λ (p : Request × WireReply). p.1) noted)

abbrev pub AsksInOrder : {D : Type 0} → (D → Request → WireReply → D → Type 0) → Type 0
AsksInOrder {D} answers = (history : D → List (Request × WireReply)) → Notes answers history
    → (steps : List Step) (d e : D) (out : List ℕ) → AreDone answers d steps e out → IsNoted history steps d e out
